-- Tests of what is the same.
use Rattle.std.{specs.Prelude.◌↔◌, proofs.Common.{◌≡◌, Bool, true, false, refl, sym}}

-- two tests of one fact
pub same_test : {P : Type 0} (b c : Bool) → (b ≡ true) ↔ P → (c ≡ true) ↔ P → b ≡ c
same_test true c h k = sym (k.1 (h.0 refl))
same_test false true h k = h.1 (k.0 refl)
same_test false false h k = refl
