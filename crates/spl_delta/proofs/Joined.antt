-- Changes with a comma between each two.
use Rattle.std.{specs.{Prelude.{Result, Ok, Err, OnOk}, List.{flat_map, join_with_byte}}, proofs.Common.{◌≡◌, ℕ, List, [], ◌∷◌, ◌++◌, append-nil}}
use Rattle.std.proofs.Common.{append_assoc, map, sym, ap, ◌∙◌}
use Rattle.spl_command.specs.declared.receipt.StateChange.{StateChange}
use Rattle.spl_delta.specs.Watches.{change_text, changes_text}

-- each of the others after a comma
abbrev others-text : List StateChange → List ℕ
others-text xs = flat_map (λ x. 44 ∷ change_text x) xs

joined : (x : StateChange) (xs : List StateChange) → join_with_byte 44 (map change_text (x ∷ xs)) ≡ change_text x ++ others-text xs
joined x [] = sym (append-nil (change_text x))
joined x (y ∷ ys) = ap (λ (zs : List ℕ). change_text x ++ (44 ∷ zs)) (joined y ys)

pub appended : {A E : Type 0} (r : Result A E) (old mid new : List ℕ) (changes others : List StateChange) (first : StateChange) → changes ≡ first ∷ others
    → mid ≡ old ++ change_text first
    → OnOk r (new ≡ mid ++ flat_map (λ x. 44 ∷ change_text x) others) → OnOk r (new ≡ old ++ changes_text changes)
appended (Ok x) old mid new changes others first parts begun h =
    h ∙ (ap (λ (xs : List ℕ). xs ++ others-text others) begun
    ∙ (append_assoc old (change_text first) (others-text others)
    ∙ (ap (λ (xs : List ℕ). old ++ xs) (sym (joined first others))
    ∙ ap (λ (cs : List StateChange). old ++ changes_text cs) (sym parts))))
appended (Err e) old mid new changes others first parts begun h = tt
