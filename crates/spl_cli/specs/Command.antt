-- What the words of a command line ask for, and what a command reads and uses (docs/RULES.md, Generated schedules, Paxos Commit, Statuses).
use Rattle.std.specs.Prelude.{◌≡◌, ◌≤◌, ◌<◌, ◌^◌, ℕ, List, [], ◌∷◌, codes, decimal, Bool, true, false}
use Rattle.spl_acceptor.specs.declared.group.Group.{Group}
use Rattle.spl_gen.specs.declared.generate.TheConstants.{MOST_BATCHES}
use Rattle.spl_cli.specs.declared.command.Command.{Command}
use Rattle.spl_cli.specs.declared.command.Command.TheVariants as command

-- a name and two words: replay REGISTRY SCHEDULE, trace REGISTRY SCHEDULE, audit REGISTRY DIR
abbrev pub HasTwo : List ℕ → List (List ℕ) → Type 0
HasTwo name words = (a : List ℕ) × (b : List ℕ) × (words ≡ name ∷ a ∷ b ∷ [])

-- a name and three: links REGISTRY SCHEDULE DIR, resume REGISTRY SCHEDULE DIR
abbrev pub HasThree : List ℕ → List (List ℕ) → Type 0
HasThree name words = (a : List ℕ) × (b : List ℕ) × (c : List ℕ) × (words ≡ name ∷ a ∷ b ∷ c ∷ [])

-- gen N SEED, both in decimal digits: a schedule of n batches that is made from the seed
pub record IsGen (words : List (List ℕ)) (n seed : ℕ) : Type 0 where
  pub spelled : words ≡ codes "gen" ∷ decimal n ∷ decimal seed ∷ []
  pub some : 1 ≤ n
  pub few : n ≤ MOST_BATCHES
  pub fits : seed < 2 ^ 64

-- paxos MEMBERS F SCHEDULE, the first two in decimal digits: a run of so many members, of which F acceptors may fail
pub record IsPaxos (words : List (List ℕ)) (g : Group) : Type 0 where
  pub schedule : List ℕ
  pub spelled : words ≡ codes "paxos" ∷ decimal g.members ∷ decimal g.faults ∷ schedule ∷ []
  pub some : 2 ≤ g.members
  pub few : g.members ≤ 8
  pub faulty : g.faults ≤ 2

-- the words of a command line ask for this
abbrev pub Asks : List (List ℕ) → Command → Type 0
Asks words command.Replay = HasTwo (codes "replay") words
Asks words command.Trace = HasTwo (codes "trace") words
Asks words command.Links = HasThree (codes "links") words
Asks words command.Resume = HasThree (codes "resume") words
Asks words command.Audit = HasTwo (codes "audit") words
Asks words (command.Gen n seed) = IsGen words n seed
Asks words (command.Paxos g) = IsPaxos words g

-- those of a name alone
abbrev pub IsNameAlone : Command → Type 0
IsNameAlone (command.Gen n seed) = ⊥
IsNameAlone (command.Paxos g) = ⊥
IsNameAlone m = Unit {0}

abbrev pub IsCommand : List (List ℕ) → Type 0
IsCommand words = (m : Command) × Asks words m

-- the bytes of a registry are read
abbrev pub reads : Command → Bool
reads (command.Gen n seed) = false
reads (command.Paxos g) = false
reads m = true

-- those of a schedule are
abbrev pub reads_schedule : Command → Bool
reads_schedule (command.Gen n seed) = false
reads_schedule command.Audit = false
reads_schedule m = true

-- its nodes are over files and links
abbrev pub is_linked : Command → Bool
is_linked command.Links = true
is_linked command.Resume = true
is_linked m = false

-- it uses the files of nodes, and no disks in memory
abbrev pub uses_files : Command → Bool
uses_files command.Audit = true
uses_files m = is_linked m

-- the run in memory that writes answers or traces, and the run over links that begins with nothing or goes on
abbrev pub in_memory : Bool → Command
in_memory false = command.Replay
in_memory true = command.Trace

abbrev pub over_links : Bool → Command
over_links false = command.Links
over_links true = command.Resume
