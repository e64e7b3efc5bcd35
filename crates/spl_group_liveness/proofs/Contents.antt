-- The rules of a content have keys as a calm needs them.
use Rattle.std.{specs.{Prelude.◌↔◌, Cmp.IsEquivalence}, proofs.Common.{◌≡◌, Bool, true, refl, sym, ◌∙◌}}
use Rattle.spl_agree.specs.Member.{Rules}
use Rattle.spl_group_liveness.specs.Bound.{IsKeyed}

pub keyed-by : {K V : Type 0} (rules : Rules V) (eq : K → K → Bool) (key : V → K) (same : V → V → Bool)
    → ((u v : V) → rules.same_key u v ≡ eq (key u) (key v)) → ((u v : V) → rules.same u v ≡ same u v) → IsEquivalence eq
    → ((a b : V) → (same a b ≡ true) ↔ (a ≡ b)) → IsKeyed rules
keyed-by rules eq key same keyed samed laws is = record {
  self = λ v. keyed v v ∙ laws.refl (key v);
  turned = λ u v h. keyed v u ∙ (laws.symm (key v) (key u) ∙ (sym (keyed u v) ∙ h));
  through = λ u v w h k. keyed u w ∙ (laws.congr (key u) (key v) (key w) (sym (keyed u v) ∙ h) ∙ (sym (keyed v w) ∙ k));
  same = λ v. samed v v ∙ (is v v).1 refl;
}
