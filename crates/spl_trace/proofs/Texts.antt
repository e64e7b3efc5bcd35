-- Lines, one after the other, as text.
use Rattle.std.proofs.Common.{◌≡◌, ℕ, List, [], ◌∷◌, ◌++◌, append_assoc, refl, ap, ◌∙◌}
use Rattle.spl_sched.specs.{Grammar.spelling, declared.line.Line.Line}
use Rattle.spl_trace.specs.Traced.{lines_text}

pub text_more : (es : List Line) (e : Line) → lines_text es ++ (spelling e ++ 10 ∷ []) ≡ lines_text (es ++ e ∷ [])
text_more [] e = refl
text_more (x ∷ xs) e =
    append_assoc (spelling x) (10 ∷ lines_text xs) (spelling e ++ 10 ∷ [])
    ∙ ap (λ (text : List ℕ). spelling x ++ (10 ∷ text)) (text_more xs e)
