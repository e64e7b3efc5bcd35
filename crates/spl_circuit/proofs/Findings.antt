-- Definitions with the same byte form are the same.
use Rattle.std.{specs.Prelude.◌↔◌, proofs.Common.{◌≡◌, ℕ, ◌++◌, Bool, IsTrue, List, [], sym, ap, subst, ◌∙◌}}
use Rattle.spl_base.specs.FormLaws.{prefix_free}
use Rattle.spl_circuit.specs.{Checked.{AreFindings, IsSound}, DefinitionForms.{definition, exact_definition}, declared.checked.Findings.Findings}
use Rattle.spl_circuit.specs.declared.{checked.Findings.TheVariants.Sound, definition.Definition.Definition}

same_forms : (d e : Definition) (a b : List ℕ) → IsSound d a → IsSound e b → (a ≡ b) ↔ (d ≡ e)
same_forms d e a b p q =
    let spelled : a ≡ b → definition.spell d ≡ definition.spell e = λ h. sym p.form ∙ h ∙ q.form in (
      λ h. (prefix_free definition exact_definition d e [] [] p.fits q.fits (ap (λ xs. xs ++ []) (spelled h))).0,
      λ h. p.form ∙ ap definition.spell h ∙ sym q.form,
    )

-- d and e are what two values show, p and q what they hold
pub same_found : {p q d e : Definition} {f g : Findings} {a b : List ℕ} {same : Bool} → p ≡ d → q ≡ e → AreFindings p f → AreFindings q g
    → f ≡ Sound a → g ≡ Sound b → IsTrue same ↔ (a ≡ b) → IsTrue same ↔ (d ≡ e)
same_found {p} {q} {d} {e} {f} {g} {a} {b} {same} x y i j h k equal =
    let held : (a ≡ b) ↔ (p ≡ q) = same_forms p q a b (subst (λ v. AreFindings p v) h i) (subst (λ v. AreFindings q v) k j) in
    (λ z. sym x ∙ held.0 (equal.0 z) ∙ y, λ z. equal.1 (held.1 (x ∙ z ∙ sym y)))
