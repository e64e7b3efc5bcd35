-- Two definitions are one or not.
use Rattle.std.proofs.Common.{◌≡◌, ◌≢◌, ◌⊎◌, true, false, sym, ap, ◌∙◌, inl, inr}
use Rattle.spl_agree.proofs.Booleans.{bool_cases}
use Rattle.spl_circuit.specs.{Equality.same_definition, Same.{definition_is, definition_same}, declared.definition.Definition.Definition}

pub definition_cases : (d e : Definition) → (d ≡ e) ⊎ (d ≢ e)
definition_cases d e = go (bool_cases (same_definition d e))
  where
    go : (same_definition d e ≡ true) ⊎ (same_definition d e ≡ false) → (d ≡ e) ⊎ (d ≢ e)
    go (inl q) = inl (definition_is d e q)
    go (inr q) = inr (λ x. let p : same_definition d e ≡ true = ap (same_definition d) (sym x) ∙ definition_same d in cc)
