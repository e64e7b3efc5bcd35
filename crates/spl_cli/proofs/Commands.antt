-- The words of a command line, and commands of which a registry is read.
use Rattle.std.{specs.Str.bytes_eq, proofs.Common.{◌≡◌, ℕ, true, refl, List, [], ◌∷◌, Option, Some, None, if◌then◌else◌, length, get_or, map, ap, sym, ◌∙◌}}
use Rattle.std.proofs.Common.{arith, Global, String, string_bytes, codes}
use Rattle.spl_acceptor.specs.declared.group.Group.{Group}
use Rattle.spl_cli.specs.{Command.{reads, Asks, HasThree, HasTwo, IsNameAlone}, declared.command.Command.Command}
use Rattle.spl_cli.specs.declared.command.Command.TheVariants as command

pub two : (name : List ℕ) (words : List (String Global)) (first : String Global) → length words ≡ 3 → first ≡ get_or words 0 first
    → ((string_bytes first ≡ name) → HasTwo name (map string_bytes words)) × (HasTwo name (map string_bytes words) → string_bytes first ≡ name)
two name [] first long is = absurd (omega arith)
two name (a ∷ []) first long is = absurd (omega arith)
two name (a ∷ b ∷ []) first long is = absurd (omega arith)
two name (a ∷ b ∷ c ∷ []) first long is = (λ same. (string_bytes b, string_bytes c, cc), λ (x, y, same). cc)
two name (a ∷ b ∷ c ∷ d ∷ words) first long is = absurd (omega arith)

pub three : (name : List ℕ) (words : List (String Global)) (first : String Global) → length words ≡ 4 → first ≡ get_or words 0 first
    → ((string_bytes first ≡ name) → HasThree name (map string_bytes words)) × (HasThree name (map string_bytes words) → string_bytes first ≡ name)
three name [] first long is = absurd (omega arith)
three name (a ∷ []) first long is = absurd (omega arith)
three name (a ∷ b ∷ []) first long is = absurd (omega arith)
three name (a ∷ b ∷ c ∷ []) first long is = absurd (omega arith)
three name (a ∷ b ∷ c ∷ d ∷ []) first long is = (λ same. (string_bytes b, string_bytes c, string_bytes d, cc), λ (x, y, z, same). cc)
three name (a ∷ b ∷ c ∷ d ∷ e ∷ words) first long is = absurd (omega arith)

pub gens : (words : List (String Global)) (first batches seed : String Global) (n k : List ℕ) → length words ≡ 3 → first ≡ get_or words 0 first
    → batches ≡ get_or words 1 batches → seed ≡ get_or words 2 seed
    → string_bytes first ≡ codes "gen" → string_bytes batches ≡ n → string_bytes seed ≡ k → map string_bytes words ≡ codes "gen" ∷ n ∷ k ∷ []
gens [] first batches seed n k long f b s named is same = absurd (omega arith)
gens (x ∷ []) first batches seed n k long f b s named is same = absurd (omega arith)
gens (x ∷ y ∷ []) first batches seed n k long f b s named is same = absurd (omega arith)
gens (x ∷ y ∷ z ∷ []) first batches seed n k long f b s named is same = cc
gens (x ∷ y ∷ z ∷ w ∷ words) first batches seed n k long f b s named is same = absurd (omega arith)

pub named_schedule : (words : List (String Global)) (first members faults : String Global) (n k : List ℕ) → length words ≡ 4 → first ≡ get_or words 0 first
    → members ≡ get_or words 1 members → faults ≡ get_or words 2 faults
    → string_bytes first ≡ codes "paxos" → string_bytes members ≡ n → string_bytes faults ≡ k
    → (schedule : List ℕ) × (map string_bytes words ≡ codes "paxos" ∷ n ∷ k ∷ schedule ∷ [])
named_schedule [] first members faults n k long f m b named is same = absurd (omega arith)
named_schedule (x ∷ []) first members faults n k long f m b named is same = absurd (omega arith)
named_schedule (x ∷ y ∷ []) first members faults n k long f m b named is same = absurd (omega arith)
named_schedule (x ∷ y ∷ z ∷ []) first members faults n k long f m b named is same = absurd (omega arith)
named_schedule (x ∷ y ∷ z ∷ w ∷ []) first members faults n k long f m b named is same = (string_bytes w, cc)
named_schedule (x ∷ y ∷ z ∷ w ∷ v ∷ words) first members faults n k long f m b named is same = absurd (omega arith)

-- ---- the command of a name

abbrev first_word : List (List ℕ) → List ℕ
first_word [] = []
first_word (w ∷ ws) = w

abbrev name_of : Command → List ℕ
name_of command.Replay = codes "replay"
name_of command.Trace = codes "trace"
name_of command.Links = codes "links"
name_of command.Resume = codes "resume"
name_of command.Audit = codes "audit"
name_of (command.Gen n seed) = codes "gen"
name_of (command.Paxos g) = codes "paxos"

name_asked : (words : List (List ℕ)) (m : Command) → Asks words m → first_word words ≡ name_of m
name_asked words command.Replay (a, b, is) = ap first_word is
name_asked words command.Trace (a, b, is) = ap first_word is
name_asked words command.Links (a, b, c, is) = ap first_word is
name_asked words command.Resume (a, b, c, is) = ap first_word is
name_asked words command.Audit (a, b, is) = ap first_word is
name_asked words (command.Gen n seed) is = ap first_word is.spelled
name_asked words (command.Paxos g) is = ap first_word is.spelled

-- which of them a name is
abbrev kind_at : List ℕ → Option Command
kind_at name =
    if bytes_eq name (codes "replay") then Some command.Replay
    else if bytes_eq name (codes "trace") then Some command.Trace
    else if bytes_eq name (codes "links") then Some command.Links
    else if bytes_eq name (codes "resume") then Some command.Resume
    else if bytes_eq name (codes "audit") then Some command.Audit
    else None

kind_named : (m : Command) → IsNameAlone m → kind_at (name_of m) ≡ Some m
kind_named command.Replay h = refl
kind_named command.Trace h = refl
kind_named command.Links h = refl
kind_named command.Resume h = refl
kind_named command.Audit h = refl
kind_named (command.Gen n seed) h = absurd h
kind_named (command.Paxos g) h = absurd h

kind_some : (m n : Command) → kind_at (name_of m) ≡ Some n → IsNameAlone m
kind_some command.Replay n h = tt
kind_some command.Trace n h = tt
kind_some command.Links n h = tt
kind_some command.Resume n h = tt
kind_some command.Audit n h = tt
kind_some (command.Gen k seed) n h = let none : kind_at (codes "gen") ≡ None = refl in absurd cc
kind_some (command.Paxos g) n h = let none : kind_at (codes "paxos") ≡ None = refl in absurd cc

-- words ask for one command of a name, and then for no other
pub one_command : (words : List (List ℕ)) (m n : Command) → Asks words m → Asks words n → IsNameAlone n → m ≡ n
one_command words m n one other named =
    let names : name_of m ≡ name_of n = sym (name_asked words m one) ∙ name_asked words n other in
    let kind : kind_at (name_of m) ≡ Some n = ap kind_at names ∙ kind_named n named in
    let same : Some m ≡ Some n = sym (kind_named m (kind_some m n kind)) ∙ kind in
    cc

pub none_named : (words : List (List ℕ)) (m : Command) → (HasTwo (codes "replay") words → ⊥) → (HasTwo (codes "trace") words → ⊥)
    → (HasTwo (codes "audit") words → ⊥) → (HasThree (codes "links") words → ⊥) → (HasThree (codes "resume") words → ⊥)
    → Asks words m → IsNameAlone m → ⊥
none_named words command.Replay replay trace audit links resume asks named = replay asks
none_named words command.Trace replay trace audit links resume asks named = trace asks
none_named words command.Links replay trace audit links resume asks named = links asks
none_named words command.Resume replay trace audit links resume asks named = resume asks
none_named words command.Audit replay trace audit links resume asks named = audit asks
none_named words (command.Gen n seed) replay trace audit links resume asks named = named
none_named words (command.Paxos g) replay trace audit links resume asks named = named

pub is_replay : (m : Command) → (m ≡ command.Links → ⊥) → (m ≡ command.Resume → ⊥) → (m ≡ command.Audit → ⊥) → (m ≡ command.Trace → ⊥)
    → ((n seed : ℕ) → m ≡ command.Gen n seed → ⊥) → ((g : Group) → m ≡ command.Paxos g → ⊥) → m ≡ command.Replay
is_replay command.Replay linked resumed audited traced made decided = refl
is_replay command.Trace linked resumed audited traced made decided = absurd (traced refl)
is_replay command.Links linked resumed audited traced made decided = absurd (linked refl)
is_replay command.Resume linked resumed audited traced made decided = absurd (resumed refl)
is_replay command.Audit linked resumed audited traced made decided = absurd (audited refl)
is_replay (command.Gen n seed) linked resumed audited traced made decided = absurd (made n seed refl)
is_replay (command.Paxos g) linked resumed audited traced made decided = absurd (decided g refl)

pub does_read : (m : Command) → ((n seed : ℕ) → m ≡ command.Gen n seed → ⊥) → ((g : Group) → m ≡ command.Paxos g → ⊥) → reads m ≡ true
does_read (command.Gen n seed) made decided = absurd (made n seed refl)
does_read (command.Paxos g) made decided = absurd (decided g refl)
does_read command.Replay made decided = refl
does_read command.Trace made decided = refl
does_read command.Links made decided = refl
does_read command.Resume made decided = refl
does_read command.Audit made decided = refl
