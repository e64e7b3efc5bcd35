-- The lines of a schedule of Paxos Commit (docs/RULES.md, Paxos Commit).
use Rattle.std.specs.Prelude.{ℕ, ◌^◌, Bool, ◌&&◌, ◌==◌, nat_le, nat_lt, List, [], ◌∷◌, ◌++◌, Option, None, if◌then◌else◌, codes, decimal}
use Rattle.std.specs.List.{join_with_byte}
use Rattle.spl_words.specs.Words.{Word, Words, Kind, Keyword, number, flag, end, ◌&◌, joined, that, keyword, read_keyword, kind, read_kind}
use Rattle.spl_acceptor.specs.{Rows.{member, acceptor, leader}, Worlds.{Happening, Votes, Leads, Delivers, Shows, Stops, Starts, is_in_range, has_name}}
use Rattle.spl_acceptor.specs.declared.{group.Group.Group, kind.TheConstants.{MEMBER, ACCEPTOR}, message.Name.Name}
use Rattle.spl_paxos.specs.declared.line.PaxosLine.{PaxosLine}
use Rattle.spl_paxos.specs.declared.line.PaxosLine.TheVariants as line

-- the run with the most processes
abbrev pub greatest_run : Group
greatest_run = record { members = 8; faults = 2 }

-- ---- how a line is spelled

abbrev pub letter_of : ℕ → List ℕ
letter_of kind = if kind == MEMBER then codes "m" else (if kind == ACCEPTOR then codes "c" else codes "l")

-- m1 to m8, c1 to c5 and l1 to l3
abbrev pub name_text : Name → List ℕ
name_text n = letter_of n.kind ++ decimal n.number

abbrev pub yes_text : Bool → List ℕ
yes_text aye = if aye then codes "yes" else codes "no"

abbrev pub paxos_words : PaxosLine → List (List ℕ)
paxos_words (line.Vote i r aye) = codes "vote" ∷ name_text (member i) ∷ decimal r ∷ yes_text aye ∷ []
paxos_words (line.Lead l r) = codes "lead" ∷ name_text (leader l) ∷ decimal r ∷ []
paxos_words (line.Deliver from to k) = codes "deliver" ∷ name_text from ∷ name_text to ∷ decimal k ∷ []
paxos_words (line.Show i r) = codes "show" ∷ name_text (member i) ∷ decimal r ∷ []
paxos_words (line.Stop n) = codes "stop" ∷ name_text n ∷ []
paxos_words (line.Start n) = codes "start" ∷ name_text n ∷ []

-- words with one space between each two
abbrev pub paxos_spelling : PaxosLine → List ℕ
paxos_spelling l = join_with_byte 32 (paxos_words l)

-- ---- which lines are within their bounds

-- from 1 on
abbrev pub is_round : ℕ → Bool
is_round r = nat_le 1 r && nat_lt r (2 ^ 64)

abbrev pub is_paxos_line : PaxosLine → Bool
is_paxos_line (line.Vote i r aye) = is_in_range 8 i && is_round r
is_paxos_line (line.Lead l r) = is_in_range 3 l && is_round r
is_paxos_line (line.Deliver from to k) = has_name greatest_run from && (has_name greatest_run to && (nat_le 1 k && nat_lt k (2 ^ 32)))
is_paxos_line (line.Show i r) = is_in_range 8 i && is_round r
is_paxos_line (line.Stop n) = has_name greatest_run n
is_paxos_line (line.Start n) = has_name greatest_run n

-- ---- what a line says

abbrev pub happening_of : PaxosLine → Happening
happening_of (line.Vote i r aye) = Votes i r aye
happening_of (line.Lead l r) = Leads l r
happening_of (line.Deliver from to k) = Delivers from to k
happening_of (line.Show i r) = Shows i r
happening_of (line.Stop n) = Stops n
happening_of (line.Start n) = Starts n

-- ---- reading

-- a number from 1 to n
abbrev pub number_to : ℕ → Word ℕ
number_to n = that (is_in_range n) (number (2 ^ 8))

abbrev pub round : Word ℕ
round = that (nat_le 1) (number (2 ^ 64))

abbrev pub name_keywords : List (Keyword Name)
name_keywords = keyword (codes "m") (number_to 8) member ∷ keyword (codes "c") (number_to 5) acceptor ∷ keyword (codes "l") (number_to 3) leader ∷ []

abbrev pub name : Word Name
name = record { spell = name_text; read = read_keyword name_keywords None; fits = has_name greatest_run }

abbrev pub member_keywords : List (Keyword ℕ)
member_keywords = keyword (codes "m") (number_to 8) (λ i. i) ∷ []

-- the number of a member, or of a leader
abbrev pub member_name : Word ℕ
member_name = record { spell = λ i. name_text (member i); read = read_keyword member_keywords None; fits = is_in_range 8 }

abbrev pub leader_keywords : List (Keyword ℕ)
leader_keywords = keyword (codes "l") (number_to 3) (λ l. l) ∷ []

abbrev pub leader_name : Word ℕ
leader_name = record { spell = λ l. name_text (leader l); read = read_keyword leader_keywords None; fits = is_in_range 3 }

abbrev pub yes_or_no : Word Bool
yes_or_no = flag (codes "yes") (codes "no")

abbrev pub vote : Words (ℕ × (ℕ × (Bool × Unit {0})))
vote = member_name & round & yes_or_no & end

abbrev pub lead_words : Words (ℕ × (ℕ × Unit {0}))
lead_words = leader_name & round & end

abbrev pub deliver : Words (Name × (Name × (ℕ × Unit {0})))
deliver = name & name & that (nat_le 1) (number (2 ^ 32)) & end

abbrev pub show : Words (ℕ × (ℕ × Unit {0}))
show = member_name & round & end

abbrev pub one_name : Words (Name × Unit {0})
one_name = name & end

abbrev pub paxos_line_kinds : List (Kind PaxosLine)
paxos_line_kinds =
    kind (codes "vote") vote (λ x. line.Vote x.0 x.1.0 x.1.1.0)
    ∷ kind (codes "lead") lead_words (λ x. line.Lead x.0 x.1.0)
    ∷ kind (codes "deliver") deliver (λ x. line.Deliver x.0 x.1.0 x.1.1.0)
    ∷ kind (codes "show") show (λ x. line.Show x.0 x.1.0)
    ∷ kind (codes "stop") one_name (λ x. line.Stop x.0)
    ∷ kind (codes "start") one_name (λ x. line.Start x.0)
    ∷ []

abbrev pub read_paxos_words : List (List ℕ) → Option PaxosLine
read_paxos_words [] = None
read_paxos_words (first ∷ xs) = read_kind paxos_line_kinds None first xs

abbrev pub paxos_line_words : Words PaxosLine
paxos_line_words = record { spell = paxos_words; read = read_paxos_words; fits = is_paxos_line }

-- the line that the bytes spell
abbrev pub paxos_line_of : List ℕ → Option PaxosLine
paxos_line_of bytes = (joined 32 paxos_line_words).read bytes
