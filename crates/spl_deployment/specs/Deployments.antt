-- Node processes beside each other, and the world of each circuit that they make (docs/RULES.md, Node processes).
use Rattle.std.specs.{Prelude.{◌≡◌, ◌⊎◌, ℕ, suc, true, false, List, [], ◌∷◌, ◌++◌, if◌then◌else◌, slice_get, Some}, Str.bytes_eq}
use Rattle.spl_agree.specs.{Member.values, World.IsPrefixOf}
use Rattle.spl_circuit.specs.{Nodes.{NodeId, CircuitId}, declared.definition.Definition.Definition}
use Rattle.spl_wire.specs.declared.event.Event.{Event}
use Rattle.spl_sched.specs.declared.line.Step.TheVariants as step
use Rattle.spl_cell_rules.specs.{Cells.{Bound, Cell, Empty, Held, site_at}, Plans.plan_of}
use Rattle.spl_circuit_world.specs.Worlds.{Occurrence, Steps, Stops, Starts, SentMessage, on_pair, posted_outgoing, put_at, step_plan, world_after}
use Rattle.spl_circuit_world.specs.Projection.{AllPlain, IsPlainEvent}
use Rattle.spl_circuit_safety.specs.Agreement.{IsAgreed}
use Rattle.spl_deployment.specs.Doings.{Doing, Runs, Hears, Begins, about, cells_done, cells_from, cells_of, sends_done}

-- what one of the processes did. Of a message that it hears the number says which it is, from 0, of those that its sender sent
-- it about the circuit; of anything else it says nothing
pub record HistoryEntry : Type 0 where
  pub by : NodeId
  pub doing : Doing
  pub number : ℕ

-- all that the processes did, in one order: that of time
abbrev pub History : Type 0
History = List HistoryEntry

-- what one process did, in its own order
abbrev pub own_doings : NodeId → History → List Doing
own_doings n [] = []
own_doings n (e ∷ h) = if bytes_eq e.by n then e.doing ∷ own_doings n h else own_doings n h

-- ---- what all of them keep, and what they ever sent

pub record Net : Type 0 where
  pub cells : NodeId → CircuitId → Cell
  pub sent : CircuitId → List SentMessage

-- nothing at first
abbrev pub empty_net : Net
empty_net = record { cells = λ n c. Empty; sent = λ c. [] }

abbrev pub net_by : List NodeId → Net → NodeId → Doing → Net
net_by ns z n x = record {
  cells = put_at z.cells n (cells_done n (z.cells n) x);
  sent = λ c. z.sent c ++ posted_outgoing ns n (sends_done n (z.cells n) x c);
}

abbrev pub net_after : List NodeId → Net → History → Net
net_after ns z [] = z
net_after ns z (e ∷ h) = net_after ns (net_by ns z e.by e.doing) h

-- ---- what links do

-- an operator and a clock make up no message, and a message that is heard was sent by the peer that it comes from: it may be
-- lost, come again, and come after later ones
abbrev pub MayBe : Net → NodeId → Doing → ℕ → Type 0
MayBe z n (Runs c e) k = IsPlainEvent e
MayBe z n (Hears from c m) k = (bytes_eq from n ≡ false) × (slice_get (on_pair from n (z.sent c)) k ≡ Some m)
MayBe z n Begins k = Unit {0}

abbrev pub AllMayBe : List NodeId → Net → History → Type 0
AllMayBe ns z [] = Unit {0}
AllMayBe ns z (e ∷ h) = MayBe z e.by e.doing e.number × AllMayBe ns (net_by ns z e.by e.doing) h

-- what processes over links that carry only what was sent may do
abbrev pub IsPossible : List NodeId → History → Type 0
IsPossible ns h = AllMayBe ns empty_net h

-- ---- the world of a circuit

-- what happens in it by what a process did
abbrev pub occurred : CircuitId → NodeId → Doing → ℕ → List Occurrence
occurred c n (Runs d e) k = if bytes_eq d c then Steps (step.At n c e) ∷ [] else []
occurred c n (Hears from d m) k = if bytes_eq d c then Steps (step.Deliver from n c (suc k)) ∷ [] else []
occurred c n Begins k = Stops n ∷ Starts n ∷ []

abbrev pub happened : CircuitId → History → List Occurrence
happened c [] = []
happened c (e ∷ h) = occurred c e.by e.doing e.number ++ happened c h

-- the cells of a circuit that the processes keep, each by what it did itself, are those of one world of the circuit, in which
-- its members agree
pub record IsOneWorld (ns : List NodeId) (h : History) (c : CircuitId) : Type 0 where
  pub plain : AllPlain (happened c h)
  pub up : (n : NodeId) → (world_after ns (happened c h)).up n ≡ true
  pub cells : (n : NodeId) → (world_after ns (happened c h)).at n ≡ cells_of n (own_doings n h) c
  pub sent : (world_after ns (happened c h)).sent ≡ (net_after ns empty_net h).sent c
  -- what a process answers to an event is what is answered in that world
  pub answers :
      (n : NodeId) (e : Event) →
      (plan_of (site_at n c) (cells_of n (own_doings n h) c) e).answer ≡ (step_plan (world_after ns (happened c h)) (step.At n c e)).answer
  pub agreed : (d : Definition) → IsAgreed ns (happened c h) d

-- a cell of a process after what all did is bound to a definition
pub record IsBoundTo (n : NodeId) (h : History) (c : CircuitId) (d : Definition) (b : Bound) : Type 0 where
  pub held : cells_of n (own_doings n h) c ≡ Held b
  pub definition : b.definition ≡ d

-- of two lists one begins the other
abbrev pub OneBeginsOther : {A : Type 0} → List A → List A → Type 0
OneBeginsOther xs ys = IsPrefixOf xs ys ⊎ IsPrefixOf ys xs

-- whatever two processes committed of a circuit, at whatever two moments, is of one list of acts and one of batches
abbrev pub KeepOneList : History → History → Type 0
KeepOneList h later =
    (a b : NodeId) (c : CircuitId) (d : Definition) (x y : Bound) → IsBoundTo a h c d x → IsBoundTo b (h ++ later) c d y →
    OneBeginsOther (values x.acts.history) (values y.acts.history) × OneBeginsOther (values x.batches.history) (values y.batches.history)

-- what a process keeps of a circuit hangs on what it did about that circuit, and on when it began, alone
abbrev pub AreCircuitsApart : NodeId → List Doing → Type 0
AreCircuitsApart n xs = (c : CircuitId) → cells_of n xs c ≡ cells_of n (about c xs) c

-- ---- processes that go on from what happened before, as after a run over links

-- what all nodes keep and have sent after what happened in the world of each circuit
abbrev pub left_by : List NodeId → (CircuitId → List Occurrence) → Net
left_by ns before = record { cells = λ n c. (world_after ns (before c)).at n; sent = λ c. (world_after ns (before c)).sent }

-- all nodes are up then, and no delivery was made up
pub record IsLeftRunning (ns : List NodeId) (before : CircuitId → List Occurrence) : Type 0 where
  pub plain : (c : CircuitId) → AllPlain (before c)
  pub up : (c : CircuitId) (n : NodeId) → (world_after ns (before c)).up n ≡ true

-- what happened before and what the processes did are one world of each circuit
pub record WorldGoesOn (ns : List NodeId) (before : CircuitId → List Occurrence) (h : History) (c : CircuitId) : Type 0 where
  pub plain : AllPlain (before c ++ happened c h)
  pub cells : (n : NodeId) → (world_after ns (before c ++ happened c h)).at n ≡ cells_from n ((left_by ns before).cells n) (own_doings n h) c
  pub agreed : (d : Definition) → IsAgreed ns (before c ++ happened c h) d
