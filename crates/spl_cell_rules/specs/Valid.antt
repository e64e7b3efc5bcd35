-- What a cell keeps whatever happens there (docs/RULES.md, Cells).
use Rattle.std.specs.{Prelude.{◌≡◌, ℕ, Bool, true, false, ◌&&◌, nat_le, IsTrue, List, [], length, Some, None}, List.list_all, Str.bytes_eq}
use Rattle.spl_agree.specs.{Member.{Rules, Member, values}, Fits.{AllGood, IsRoomy, IsSettled, FitsMove}, declared.event.OpenMove.OpenMove}
use Rattle.spl_agree.specs.declared.message.CommitMsg.{CommitMsg}
use Rattle.spl_agree.specs.declared.event.OpenMove.TheVariants as move
use Rattle.spl_agree.specs.declared.message.CommitMsg.TheVariants as msg
use Rattle.spl_circuit.specs.{Forms.{node_id, circuit_id, definition}, Nodes.{NodeId, position}, Rules.{broken, is_member}, Acts.act_rules}
use Rattle.spl_scabbard.specs.Checks.{batch_rules}
use Rattle.spl_wire.specs.{Messages.circuit_of, Bounds.{has_form, is_formed}, declared.{change.Change.Change, event.Event.Event, message.Message.Message}}
use Rattle.spl_wire.specs.declared.plan.Outgoing.{Outgoing}
use Rattle.spl_wire.specs.declared.message.Message.TheVariants as message
use Rattle.spl_wire.specs.declared.event.Event.TheVariants as event
use Rattle.spl_cell_rules.specs.{Cells.{Bound, Cell, Held, Site, admin_group, service_group, is_open_mark, runs}, Changes.may_serve}

-- what a cell keeps of a group: each committed and promised value had a good check, and the numbers are in their bounds
pub record IsKeptMember {V : Type 0} (rules : Rules V) (a : Member V) : Type 0 where
  pub good : AllGood rules [] (values a.history)
  pub promised : (e : ℕ × V) → a.promise ≡ Some e → rules.check (values a.history) e.1 ≡ None
  pub roomy : IsRoomy a

-- each value that a member keeps meets a test
pub record AllMeet {V : Type 0} (may : V → Bool) (a : Member V) : Type 0 where
  pub history : list_all may (values a.history) ≡ true
  pub pending : list_all may a.pending ≡ true
  pub refused : list_all (λ u. may u.0) a.refused ≡ true
  pub promise : (e : ℕ × V) → a.promise ≡ Some e → may e.1 ≡ true

-- a bound cell: its definition is valid, has a byte form and is the circuit's own, and the node is a member; what it keeps
-- of each group; its acts have byte forms, and its batches break no rule; what was abandoned runs
pub record IsBoundHeld (site : Site) (h : Bound) : Type 0 where
  pub ruled : broken h.definition ≡ None
  pub defined : IsTrue (definition.fits h.definition)
  pub own : bytes_eq h.definition.id site.circuit ≡ true
  pub member : is_member h.definition site.here ≡ true
  pub acts : IsKeptMember (act_rules h.definition) h.acts
  pub batches : IsKeptMember batch_rules h.batches
  pub formed : AllMeet has_form h.acts
  pub lawful : AllMeet may_serve h.batches
  pub closed : is_open_mark h.mark ≡ false → runs h ≡ true

abbrev pub IsKept : Site → Cell → Type 0
IsKept site (Held h) = IsBoundHeld site h
IsKept site _ = Unit {0}

-- in each group no round is open, or one is as it has to be
abbrev pub IsSettledCell : NodeId → Cell → Type 0
IsSettledCell here (Held h) =
    IsSettled (admin_group h.definition) (position h.definition.members here) h.acts
    × IsSettled (service_group h.definition) (position h.definition.members here) h.batches
IsSettledCell here _ = Unit {0}

pub record IsValid (site : Site) (k : Cell) : Type 0 where
  pub kept : IsKept site k
  pub settled : IsSettledCell site.here k

-- a move where there is no group
abbrev pub is_no_move : OpenMove → Bool
is_no_move move.Keep = true
is_no_move move.Close = true
is_no_move _ = false

-- the moves of the two groups fit where they can be made and leave the cell settled
abbrev pub FitsMoveAt : NodeId → Cell → OpenMove → OpenMove → Type 0
FitsMoveAt here (Held h) x y =
    FitsMove (admin_group h.definition) (position h.definition.members here) h.acts x
    × FitsMove (service_group h.definition) (position h.definition.members here) h.batches y
FitsMoveAt here _ x y = (is_no_move x ≡ true) × (is_no_move y ≡ true)

-- ---- what comes and goes

-- the value in the body, if there is one, meets a test
abbrev pub carries : {V : Type 0} → (V → Bool) → CommitMsg V → Bool
carries may (msg.VoteRequest gen r place v) = may v
carries may (msg.Forward gen v) = may v
carries may (msg.Refused gen v why) = may v
carries may _ = true

-- a message that a cell may hear: its ids aren't longer than a byte form has them, and the act in it has a byte form, or
-- the batch in it breaks no rule
abbrev pub is_legal : Message → Bool
is_legal (message.Admin c x) = nat_le (length c) 11 && carries has_form x
is_legal (message.Scabbard c s t x) = nat_le (length c) 11 && (nat_le (length s) 4 && (nat_le (length t) 4 && carries may_serve x))

-- each message of a plan
abbrev pub are_legal : List Outgoing → Bool
are_legal os = list_all (λ o. is_legal o.message) os

-- the definitions and the acts in changes have byte forms
abbrev pub are_formed : List Change → Bool
are_formed xs = list_all is_formed xs

-- the ids of the node and of the circuit have byte forms
pub record IsNamed (site : Site) : Type 0 where
  pub node : IsTrue (node_id.fits site.here)
  pub circuit : IsTrue (circuit_id.fits site.circuit)

-- an event at the circuit's cell: what is proposed has its id, and a byte form; a message is about it, comes from another
-- node, and is one that a cell may hear
abbrev pub IsFor : Site → Event → Type 0
IsFor site (event.Propose d) = (bytes_eq d.id site.circuit ≡ true) × IsTrue (definition.fits d)
IsFor site (event.Deliver from x) = (bytes_eq (circuit_of x) site.circuit ≡ true) × (bytes_eq from site.here ≡ false) × (is_legal x ≡ true)
IsFor site _ = Unit {0}
