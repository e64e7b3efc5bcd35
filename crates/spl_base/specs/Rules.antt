-- Rules that are tested in their order.
use Rattle.std.{specs.Prelude.{if◌then◌else◌, Option, Some, None}, proofs.Common.{◌≡◌, ℕ, zero, suc, ◌+◌, Bool, true, false, IsTrue, List, [], ◌∷◌, get_or}}
use Rattle.std.proofs.Common.{refl}

-- the number of the first test that fails, where the first of them has the number n
abbrev pub first_false : ℕ → List Bool → Option ℕ
first_false n [] = None
first_false n (b ∷ bs) = if b then first_false (n + 1) bs else Some n

-- each test is passed where none is the first that fails
pub test_at : (k n : ℕ) (bs : List Bool) → first_false n bs ≡ None → IsTrue (get_or bs k true)
test_at k n [] e = refl
test_at zero n (true ∷ bs) e = refl
test_at (suc k) n (true ∷ bs) e = test_at k (n + 1) bs e
test_at k n (false ∷ bs) e = absurd cc
