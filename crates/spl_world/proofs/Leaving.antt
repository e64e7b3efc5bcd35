-- How calls leave the disks, one after the other.
use Rattle.spl_node.{specs.Benches.{AllGoOn, RoseAt}, proofs.Benches.{all_then, rose_after, all_one, rose_at}}
use Rattle.spl_world.specs.{Disks.{LeavesDisks, is_of_journal}, declared.fault.WorldFault.{WorldFault, TheVariants.{Disk, NotAJournal, TooMany}}}
use Rattle.spl_world.proofs.Common.{◌≡◌, ℕ, false, true≢false, List, slice_get, slice_set, Some, Result, Ok, Err, OnErr, ap, sym, subst, ◌∙◌, IfErr, IsErr}
use Rattle.spl_world.proofs.{Common.{IsErrOf, IsErrAnd, PairView, PairOnward, HasRisen}, Results.failed}
use Rattle.spl_edge.proofs.Results.{err_same}

-- ---- disks that go on

-- ---- calls

pub leaves_ok : {A : Type 0} (a : A) (xs ys : List PairView) → AllGoOn xs ys → LeavesDisks (Ok a) xs ys
leaves_ok a xs ys on = record { onward = on; failed = λ slot q. absurd cc }

-- a call after another
pub leaves_then : {A : Type 0} (r : Result A WorldFault) (xs ys zs : List PairView) → AllGoOn xs ys → LeavesDisks r ys zs → LeavesDisks r xs zs
leaves_then r xs ys zs on k = record {
  onward = all_then xs ys zs on k.onward;
  failed = λ slot q. rose_after slot xs ys zs on (k.failed slot q);
}

-- one that fails as the call in it does
pub leaves_failed : {A B : Type 0} (r : Result B WorldFault) (f : WorldFault) → IsErr r × IsErrAnd r (λ y. y ≡ f) → (xs ys : List PairView)
    → LeavesDisks (failed A f) xs ys → LeavesDisks r xs ys
leaves_failed {A} r f e xs ys k = record { onward = k.onward; failed = λ slot q. k.failed slot (ap (failed A) (err_same r f (Disk slot) e q)) }

pub counted_no_disk : {A : Type 0} (r : Result A WorldFault) (n : ℕ) → OnErr r (IsErrOf r (TooMany n)) → (slot : ℕ) → IsErrOf r (Disk slot) → ⊥
counted_no_disk (Ok a) n e slot q = cc
counted_no_disk (Err f) n e slot q = cc

-- ---- no journal

pub no_journal : {A : Type 0} (r : Result A WorldFault) → IfErr r (λ e. is_of_journal e ≡ false) → (slot at : ℕ) → IsErrOf r (NotAJournal slot at) → ⊥
no_journal (Ok a) off slot at q = cc
no_journal (Err f) off slot at q = let same : f ≡ NotAJournal slot at = cc in true≢false (sym (ap is_of_journal same) ∙ off)

-- ---- one pair

-- a call of one pair
pub leaves_one : {A : Type 0} (r : Result A WorldFault) (xs : List PairView) (k : ℕ) (x y : PairView) → slice_get xs k ≡ Some x → PairOnward x y
    → ((slot : ℕ) → IsErrOf r (Disk slot) → (slot ≡ k) × HasRisen x y) → LeavesDisks r xs (slice_set xs k y)
leaves_one r xs k x y there on f = record {
  onward = all_one xs k x y there on;
  failed = λ slot q. let g = f slot q in subst (λ (i : ℕ). RoseAt i xs (slice_set xs k y)) (sym g.0) (rose_at xs k x y there g.1);
}
