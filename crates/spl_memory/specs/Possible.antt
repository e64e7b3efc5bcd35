-- What a disk in memory holds is one of the contents that a stop may leave.
use Rattle.std.{specs.Prelude.{◌≡◌, ℕ, Bool, true, false, ◌&&◌, nat_le, if◌then◌else◌, List, [], ◌∷◌}, proofs.Common.{refl, sym, ap, subst, ◌∙◌}}
use Rattle.std.proofs.lemmas.Bool.{false≢true}
use Rattle.spl_edge.specs.Devices.{Image, MayLeave}
use Rattle.spl_memory.specs.{Changes.Call, Replay.{replayed, until, all_until}}

both_sides_true : (a b : Bool) → (a && b) ≡ true → (a ≡ true) × (b ≡ true)
both_sides_true true b h = (refl, h)
both_sides_true false b h = absurd (false≢true h)

-- all changes so far are those up to now
all_now : (k : ℕ) (calls : List Call) → all_until k calls ≡ true → until k calls ≡ calls
all_now k [] all = refl
all_now k (c ∷ calls) all =
    let parts = both_sides_true (nat_le c.moment k) (all_until k calls) all in
    ap (λ (early : Bool). if early then c ∷ until k calls else until k calls) parts.0 ∙ ap (λ (l : List Call). c ∷ l) (all_now k calls parts.1)

pub possible_now : (first : Image) (k : ℕ) (calls : List Call) → all_until k calls ≡ true → MayLeave (replayed first calls) (replayed first calls).bytes
    → MayLeave (replayed first (until k calls)) (replayed first (until k calls)).bytes
possible_now first k calls all left = subst (λ (l : List Call). MayLeave (replayed first l) (replayed first l).bytes) (sym (all_now k calls all)) left
