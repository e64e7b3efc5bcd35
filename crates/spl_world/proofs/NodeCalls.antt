-- How calls of one node end, and what they leave.
use Rattle.std.specs.Prelude.{is_some}
use Rattle.spl_journal.specs.declared.form.JournalFault.{JournalFault}
use Rattle.spl_journal.specs.declared.form.JournalFault.TheVariants as fault
use Rattle.spl_cell_rules.specs.Cells.{site_at}
use Rattle.spl_node.{specs.{Handled.LeavesHandled, Stands.{HostStandsOn, host_cell}, Benches.{TellAs, images_now}}, proofs.Benches.on_itself}
use Rattle.spl_snapshot.specs.Counting.{TellsAs}
use Rattle.spl_world.specs.{Disks.is_of_journal, Kept.{SentLists, PlaceView}, Links.is_of_links, Slots.{EndsAtSlot, EndsSound, LeavesEvent}}
use Rattle.spl_world.{specs.declared.{fault.WorldFault.{WorldFault, TheVariants.{Disk, NoMemory, NotAJournal, TooMany}}, slot.Slot.Slot}, proofs.Calls.done}
use Rattle.spl_world.proofs.{Calls.fails_is, Common.{◌≡◌, ℕ, Bool, false, Result, Err, OnOk, refl, ap, sym, subst, ◌∙◌, IsErr, IsErrOf, if◌then◌else◌}}
use Rattle.spl_world.proofs.Common.{IsErrAnd, bytes_eq, bytes_same, CircuitId, NodeId, Onward, DiskView, PairView, image_now, pair_view, Pair, Host, Cell}
use Rattle.spl_world.proofs.{Common.{HasRisen, PairOnward, Event}, Ending.{MayStay, host_left}, Results.failed}

abbrev pub broken : (A : Type 0) → JournalFault → Result A JournalFault
broken A e = Err e

-- ---- how it ends

-- it succeeds
pub ends_done : {A : Type 0} {a : A} (k : ℕ) (x y : PairView) → PairOnward x y → EndsAtSlot (done A a) k x y
ends_done k x y on = record { onward = on; failed = λ slot q. absurd cc; few = λ which q. cc; unlinked = tt }

pub sound_done : {A : Type 0} {a : A} (k : ℕ) (x y : PairView) → PairOnward x y → EndsSound (done A a) k x y
sound_done k x y on = record { at = ends_done k x y on; sound = tt }

-- memory ran out
pub sound_short : {A : Type 0} (r : Result A WorldFault) (k : ℕ) (x y : PairView) → IsErr r × IsErrAnd r (λ e. e ≡ NoMemory) → PairOnward x y → EndsSound r k x y
sound_short {A} r k x y is on = subst (λ (z : Result A WorldFault). EndsSound z k x y) (sym (fails_is r NoMemory is)) (record {
  at = record { onward = on; failed = λ slot q. absurd cc; few = λ which q. cc; unlinked = refl };
  sound = refl;
})

-- its journal failed so, and that is this fault of the world
pub ends_broken : {A B : Type 0} (f : WorldFault) (e : JournalFault) (k : ℕ) (x y : PairView) → ((i : ℕ) → f ≡ Disk i → (i ≡ k) × (e ≡ fault.Disk))
    → ((which : ℕ) → f ≡ TooMany which → ⊥) → is_of_links f ≡ false
    → (IsErrOf (broken A e) fault.Disk → HasRisen x y) → PairOnward x y → EndsAtSlot (failed B f) k x y
ends_broken {A} f e k x y disk few unlinked rose on = record {
  onward = on;
  failed = λ slot q. (let is : f ≡ Disk slot = cc in let d = disk slot is in (d.0, rose (ap (broken A) d.1)));
  few = λ which q. (let is : f ≡ TooMany which = cc in few which is);
  unlinked = unlinked;
}

pub sound_broken : {A : Type 0} (f : WorldFault) (e : JournalFault) → (((at : ℕ) → e ≡ fault.NotAJournal at → ⊥) → is_of_journal f ≡ false)
    → ((at : ℕ) → IsErrOf (broken A e) (fault.NotAJournal at) → ⊥) → is_of_journal f ≡ false
sound_broken {A} f e sound not = sound (λ at same. not at (ap (broken A) same))

-- which is that of these disks, at this place
pub unread_broken : {B : Type 0} (f : WorldFault) (e : JournalFault) (k slot at : ℕ) → ((i j : ℕ) → f ≡ NotAJournal i j → (i ≡ k) × (e ≡ fault.NotAJournal j)) → IsErrOf (failed B f) (NotAJournal slot at) → (slot ≡ k) × (e ≡ fault.NotAJournal at)
unread_broken f e k slot at journal q = (let is : f ≡ NotAJournal slot at = cc in journal slot at is)

-- ---- disks of which only the first was called

module _ {D : Type 0} (view : D → DiskView) (p q : Pair D) (same : q.second ≡ p.second) where
  pub first_onward : Onward (view p.first) (view q.first) → PairOnward (pair_view view p) (pair_view view q)
  first_onward on = record { first = on; second = subst (λ (d : D). Onward (view p.second) (view d)) (sym same) (on_itself (view p.second)) }

  pub second_told : TellsAs (image_now (view p.second)) (image_now (view q.second))
  second_told = ap (λ (d : D). is_some (image_now (view d))) same

-- ---- a node that stays as it is

pub still_cell : {D : Type 0} (view : D → DiskView) (h k : Host) (p q : Pair D) → (k ≡ h) × (q ≡ p) → (c : CircuitId)
    → host_cell k (image_now (view q.first)) (image_now (view q.second)) c ≡ host_cell h (image_now (view p.first)) (image_now (view p.second)) c
still_cell {D} view h k p q e c =
    ap (λ (x : Host). host_cell x (image_now (view q.first)) (image_now (view q.second)) c) e.0
    ∙ ap (λ (x : Pair D). host_cell h (image_now (view x.first)) (image_now (view x.second)) c) e.1

-- ---- an event

abbrev placed : NodeId → CircuitId → Cell → SentLists → PlaceView
placed n c cell sent = record { site = site_at n c; state = cell; sent = sent }

pub place_same : (n m : NodeId) (c : CircuitId) (cell other : Cell) (sent posted : SentLists) → m ≡ n → other ≡ cell → posted ≡ sent → placed m c other posted ≡ placed n c cell sent
place_same n m c cell other sent posted id state same = ap (λ (i : NodeId). placed i c other posted) id ∙ ap (λ (x : Cell). placed n c x posted) state ∙ ap (placed n c cell) same

-- the cell of the circuit, and of any other
pub own_after : (c : CircuitId) (after cell : Cell) → (if bytes_eq c c then after else cell) ≡ after
own_after c after cell = ap (λ (b : Bool). if b then after else cell) (bytes_same c)

pub other_after : (c d : CircuitId) (after cell : Cell) → bytes_eq c d ≡ false → (if bytes_eq c d then after else cell) ≡ cell
other_after c d after cell off = ap (λ (b : Bool). if b then after else cell) off

-- whatever the result, what its disks hold
pub event_leaves : {D A B : Type 0} (view : D → DiskView) (old new : Pair D) {c : CircuitId} {e : Event} {q : Result B JournalFault} {k : Host} {r : Result A WorldFault} {s t : Slot}
    → PairOnward (pair_view view old) (pair_view view new) → LeavesHandled c e q s.host k (pair_view view old) (pair_view view new)
    → MayStay (image_now (view new.first)) → MayStay (image_now (view new.second))
    → OnOk r (HostStandsOn t.host (pair_view view new)) → OnOk r (TellAs (images_now (pair_view view old)) (images_now (pair_view view new)))
    → LeavesEvent c e r s t (pair_view view old) (pair_view view new)
event_leaves view old new {c} {e} {s = s} on left stay other_stay stands tells = record {
  stands = stands;
  tells = tells;
  leaves = λ tell. host_left view s.host old new c e tell.0 tell.1 on.first.later on.second.later left.any_moment stay other_stay;
}
