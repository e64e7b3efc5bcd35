-- The nodes of a registry over disks that a former run left (docs/RULES.md, Journals).
use Rattle.std.specs.{Prelude.{◌≡◌, ◌≢◌, ◌⊎◌, ◌<◌, ◌≤◌, ℕ, true, false, List, [], length, slice_get, Some, Result, IfErr, IfOk, IsErrOf, OnOk}, Global.Vec}
use Rattle.std.specs.List.{AllPairs}
use Rattle.spl_circuit.specs.Nodes.{NodeId, CircuitId, sorted}
use Rattle.spl_circuit_world.specs.Worlds.{IsOrigin, Origin}
use Rattle.spl_node.specs.{Stands.{HostStands, made_cell, StandFor}, Benches.{AreBlank, Images, Tell, images_at, TellAs, AreReadable, IsUnread}}
use Rattle.spl_registry.specs.Nodes.{Entry, entry_ids as nodes_of, node_at}
use Rattle.spl_snapshot.specs.Counting.{IfBoth}
use Rattle.spl_world.specs.{Calls.DisksView, Disks.LeavesDisks, Links.is_of_links, Views.{node_view, slot_id, slot_up}, Held.{AreKept, AreDisksLeft}}
use Rattle.spl_world.specs.{Held.{AreOpenedBut, IsFirstUnread, kept_at, origin_on}, declared.fault.WorldFault.{WorldFault, TheVariants.{Disk, NotAJournal}}}
use Rattle.spl_world.specs.declared.{fault.WorldFault.TheVariants.TooMany, slot.Slot.Slot}

-- ---- what the nodes keep where a run begins

-- a run may begin with this, where each node keeps what the disks at its position make
pub record IsOriginOf (es : List Entry) (is : List Images) (o : Origin) : Type 0 where
  pub begins : IsOrigin o
  pub nodes : o.nodes ≡ sorted (nodes_of es)
  pub kept : AllPairs (λ a b. a ≢ b) (nodes_of es) → (k : ℕ) (n : NodeId) (c : CircuitId) → node_at es k ≡ Some n → o.kept c n ≡ kept_at is c n (Some k)

-- the disks of each node stand for what it keeps where the run begins
abbrev pub HoldAll : Origin → List Entry → List Images → Type 0
HoldAll o es now = (k : ℕ) (n : NodeId) → node_at es k ≡ Some n
    → IfBoth (images_at now k).0 (images_at now k).1 (λ i j. StandFor n (λ c. o.kept c n) i.bytes j.bytes)

-- so where that is what these disks make
abbrev pub HoldOrigin : List Entry → List Images → List Images → Type 0
HoldOrigin es start now = HoldAll (origin_on es start) es now

-- ---- how the opening leaves the disks

-- a node that is up over its disks, keeps what they made, and sent nothing
pub record IsOpened (s : Slot) (start now : Images) : Type 0 where
  pub up : slot_up s ≡ true
  pub silent : s.posts ≡ []
  pub stands : HostStands s.host now.0 now.1
  pub tells : TellAs start now
  pub journal : AreReadable start
  pub cells : Tell start → (is : Images) (c : CircuitId) → (node_view s is).cells c ≡ made_cell (slot_id s) c start.0 start.1
  pub disks : AreDisksLeft (slot_id s) start now

-- the nodes at the first n positions were opened, each over the pair there, and no other pair was changed
pub record AreOpened (es : List Entry) (n : ℕ) (ss : List Slot) (start now : List Images) : Type 0 where
  pub as_many : length ss ≡ n
  pub nodes : (i : ℕ) (s : Slot) → slice_get ss i ≡ Some s → node_at es i ≡ Some (slot_id s)
  pub places : (i : ℕ) (s : Slot) → slice_get ss i ≡ Some s → s.position ≡ i
  pub each : (i : ℕ) (s : Slot) → slice_get ss i ≡ Some s → IsOpened s (images_at start i) (images_at now i)
  pub rest : (k : ℕ) → n ≤ k → images_at now k ≡ images_at start k

-- ---- the calls

-- the node at this position of a registry was opened over the pair there, or wasn't, and no other pair was changed: its disks were
-- blank, or stand for what they stood for, and where they are no journal they hold what they held
pub record OpensAt (es : List Entry) (k : ℕ) (r : Result Slot WorldFault) (start now : DisksView) : Type 0 where
  pub node : IfOk r (λ s. node_at es k ≡ Some (slot_id s))
  pub position : IfOk r (λ s. s.position ≡ k)
  pub opened : IfOk r (λ s. IsOpened s (images_at start.held k) (images_at now.held k))
  pub unread : (slot at : ℕ) → IsErrOf r (NotAJournal slot at)
      → (slot ≡ k) × (images_at now.held k ≡ images_at start.held k) × IsUnread at (images_at start.held k)
  pub left : (n : NodeId) → node_at es k ≡ Some n → AreKept n (images_at start.held k) (images_at now.held k) ⊎ AreBlank (images_at start.held k)
  pub place : (slot : ℕ) → IsErrOf r (Disk slot) → slot ≡ k
  pub disks : LeavesDisks r start.pairs now.pairs
  pub others : (i : ℕ) → (i ≡ k → ⊥) → slice_get now.pairs i ≡ slice_get start.pairs i
  pub few : (which : ℕ) → IsErrOf r (TooMany which) → ⊥
  pub unlinked : IfErr r (λ e. is_of_links e ≡ false)

-- so were all of them, or those before one
pub record OpensEach (es : List Entry) (r : Result (Vec Slot) WorldFault) (start now : DisksView) : Type 0 where
  pub opened : IfOk r (λ v. AreOpened es (length es) v.items start.held now.held)
  pub apart : OnOk r (AllPairs (λ a b. a ≢ b) (nodes_of es))
  pub unread : (slot at : ℕ) → IsErrOf r (NotAJournal slot at) → IsFirstUnread slot at es start.held
  pub place : (slot : ℕ) → IsErrOf r (Disk slot) → slot < length es
  pub unopened : IfErr r (λ e. AreOpenedBut es e start.held now.held)
  pub disks : LeavesDisks r start.pairs now.pairs
  pub spare : (k : ℕ) → length es ≤ k → slice_get now.pairs k ≡ slice_get start.pairs k
  pub few : (which : ℕ) → IsErrOf r (TooMany which) → ⊥
  pub unlinked : IfErr r (λ e. is_of_links e ≡ false)
