-- A turn: several events at a node, whose records are kept together (docs/RULES.md, Journals).
use Rattle.std.specs.{Prelude.{◌≡◌, ◌⊎◌, ℕ, false, List, [], ◌∷◌, ◌++◌, map, OnOk, Result}, List.AllByRecursion}
use Rattle.spl_circuit.specs.Nodes.{NodeId, CircuitId}
use Rattle.spl_edge.specs.Devices.{PairView}
use Rattle.spl_journal.specs.{Records.AreGood, declared.form.JournalFault.JournalFault}
use Rattle.spl_snapshot.specs.{Counting.{PairLeaves, PairLeavesInTurn, PairTellsAs}, Pairs.{PairStandsOn, is_second}}
use Rattle.spl_wire.specs.{Bounds.AllSendable, declared.{answer.Answer.Answer, event.Event.Event, plan.Outgoing.Outgoing}}
use Rattle.spl_cell_rules.specs.{Cells.{Cell, site_at}, Plans.plan_of}
use Rattle.spl_node.specs.{Kept.cells_after, Records.is_record, Stands.{IfStand, Make, NodeStandsOn, StandFor, circuit_cell, here_of, is_node_halted}}
use Rattle.spl_node.specs.declared.{node.{Node.Node, Outcome.Outcome}, turn.Turn.Turn}

-- records that lead from these cells to those: after records that make the first, they make the second
abbrev pub RecordsLead : NodeId → (CircuitId → Cell) → (CircuitId → Cell) → List (List ℕ) → Type 0
RecordsLead here before after rs = (kept : List (List ℕ)) → Make here before kept → Make here after (kept ++ rs)

-- what a stop leaves of the records of a turn, wherever they began, and what the disks hold after Ok
pub record LeavesTurn {A : Type 0} (rs : List (List ℕ)) (q : Result A JournalFault) (n m : Node) (x y : PairView) : Type 0 where
  -- at any moment what stands for the cells where they began, or for those of now
  pub any_moment : (before : CircuitId → Cell) → RecordsLead (here_of n) before (circuit_cell n) rs → IfStand (here_of n) before x
      (PairLeavesInTurn (is_second n.pairing) x y (λ a b. StandFor (here_of n) before a b ⊎ StandFor (here_of n) (circuit_cell n) a b))
  pub after : OnOk q ((before : CircuitId → Cell) → RecordsLead (here_of n) before (circuit_cell n) rs → IfStand (here_of n) before x
      (PairLeaves y y (StandFor (here_of n) (circuit_cell n))))
  pub told : OnOk q (PairTellsAs x y)
  pub pair : OnOk q (PairStandsOn is_record m.pairing y)
  pub stands : OnOk q ((before : CircuitId → Cell) → RecordsLead (here_of n) before (circuit_cell n) rs → IfStand (here_of n) before x (NodeStandsOn m y))

-- an event at the cell of a circuit
abbrev pub At : Type 0
At = CircuitId × Event

-- the cells after events, one after the other
abbrev pub cells_through : NodeId → (CircuitId → Cell) → List At → CircuitId → Cell
cells_through here cells [] = cells
cells_through here cells (e ∷ es) = cells_through here (cells_after here cells e.0 e.1) es

-- what an event gives: its answer, and its messages
pub record Given : Type 0 where
  pub answer : Answer
  pub sends : List Outgoing

abbrev pub given_at : NodeId → (CircuitId → Cell) → At → Given
given_at here cells e = record {
  answer = (plan_of (site_at here e.0) (cells e.0) e.1).answer;
  sends = (plan_of (site_at here e.0) (cells e.0) e.1).sends;
}

-- what events give, each at the cells that the earlier ones led to
abbrev pub given_by_events : NodeId → (CircuitId → Cell) → List At → List Given
given_by_events here cells [] = []
given_by_events here cells (e ∷ es) = given_at here cells e ∷ given_by_events here (cells_after here cells e.0 e.1) es

abbrev pub given_in : Outcome → Given
given_in o = record { answer = o.answer; sends = o.sends }

-- messages that can be written
abbrev pub MayBeSent : Outcome → Type 0
MayBeSent o = AllSendable o.sends

-- a turn in which these events were handled at these cells: the node has the cells after them, its records lead there, and it holds back
-- what they gave
pub record Handled (here : NodeId) (before : CircuitId → Cell) (es : List At) (t : Turn) : Type 0 where
  pub here_is : here_of t.node ≡ here
  pub running : is_node_halted t.node ≡ false
  pub cells : (c : CircuitId) → circuit_cell t.node c ≡ cells_through here before es c
  pub records : RecordsLead here before (circuit_cell t.node) t.records
  pub good : AreGood is_record t.records
  pub given : map given_in t.given.items ≡ given_by_events here before es
  pub sendable : AllByRecursion MayBeSent t.given.items
