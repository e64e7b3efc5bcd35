-- What the watchers of a circuit are told, whichever processes they ask (docs/RULES.md, Node processes).
use Rattle.std.specs.Prelude.{◌≡◌, ℕ, ◌≤◌, ◌-◌, List, [], ◌++◌, length, take, Option, Some, None}
use Rattle.spl_circuit.specs.{Nodes.{NodeId, CircuitId}, declared.definition.Definition.Definition}
use Rattle.spl_command.specs.{Lists.state_of, declared.batch.Batch.Batch}
use Rattle.spl_delta.specs.Watches.{deltas, with_deltas, Watcher, watcher_named}
use Rattle.spl_deployment.specs.{Deployments.{History, Net, own_doings}, Doings.cells_from}
use Rattle.spl_serve.specs.{Processes.doings_of, Served.Served, Taken.all_deed_deltas, Turns.{Deed, events_in, served_past}}

-- one of the processes: it began after a part of what all of them did, at the cells that its node had then and without watchers;
-- and what its node did in the part after that is what it did in its turns
pub record IsProcess (first : Net) (h : History) (here : NodeId) (z : Served) (ds : List Deed) : Type 0 where
  pub before : History
  pub since : History
  pub later : History
  pub parts : h ≡ before ++ (since ++ later)
  pub cells : z.cells ≡ cells_from here (first.cells here) (own_doings here before)
  pub unwatched : (c : CircuitId) → z.watchers c ≡ []
  pub does : own_doings here since ≡ doings_of (events_in ds)

-- a watcher has been told what the list has from its first place on below its next, each delta once and in order; folded over
-- the state of the batches before they give the state of all that it has taken
pub record TakesOf (here : NodeId) (z : Served) (ds : List Deed) (c : CircuitId) (name : List ℕ) (list : List Batch) (t : Watcher) : Type 0 where
  pub below : t.start ≤ t.next
  pub there : t.next ≤ length list
  pub taken : all_deed_deltas here c name z ds ≡ deltas list t.start (t.next - t.start)
  pub state : with_deltas (state_of (take t.start list)) (all_deed_deltas here c name z ds) ≡ state_of (take t.next list)

-- of the list of its definition; under a name that no watcher has, nothing was told
abbrev pub IsToldOf : NodeId → Served → List Deed → CircuitId → List ℕ → (Definition → List Batch) → Option Watcher → Type 0
IsToldOf here z ds c name lists None = all_deed_deltas here c name z ds ≡ []
IsToldOf here z ds c name lists (Some t) = TakesOf here z ds c name (lists t.definition) t

-- all that any of the processes told the watchers of a circuit is of these lists
abbrev pub TellLists : Net → History → CircuitId → (Definition → List Batch) → Type 0
TellLists first h c lists =
    (here : NodeId) (z : Served) (ds : List Deed) → IsProcess first h here z ds → (name : List ℕ) →
    IsToldOf here z ds c name lists (watcher_named name ((served_past here z ds).watchers c))
