use Rattle.std.{specs.Result.is_ok, proofs.Common.{◌≡◌, ◌++◌, ◌∷◌, [], ◌∙◌, ap, if◌then◌else◌, ℕ, List, OnOk, Result, Err, Ok}}
use Rattle.spl_lines.proofs.{Sayings.line_read, Traced.{trace_calm, trace_other}}
use Rattle.spl_trace.specs.Traced.{flat_line, written_lines}
use Rattle.spl_runs.proofs.told.tell_line.Goals as goal

-- what holds a value where the call succeeded
ok_value : {A E B : Type 0} (r : Result A E) (b x y : B) → b ≡ (if is_ok r then x else y) → OnOk r (b ≡ x)
ok_value (Ok a) b x y is = is
ok_value (Err e) b x y is = tt

-- a text that was emptied has what was added to it
after_none : {A E : Type 0} (r : Result A E) (was all added wanted : List ℕ) → was ≡ [] → added ≡ wanted → OnOk r (all ≡ was ++ added) → OnOk r (all ≡ wanted)
after_none (Ok a) was all added wanted none same h = h ∙ ap (λ (xs : List ℕ). xs ++ added) none ∙ same
after_none (Err e) was all added wanted none same h = h

pub returns-in-Calm-clause-trace : goal.returns-in-Calm-clause-trace
returns-in-Calm-clause-trace c = λ worlds kept on heard.
    let was = c.clear.new.self.items in
    let text = c.text.result.now in
    after_none c.extend_from_slice.result was c.extend_from_slice.new.self.items text
    (written_lines (flat_line worlds c.args.line.now kept)) c.clear.ensures.items
    (c.text.ensures ∙ heard on ∙ trace_calm worlds c.args.line.now c.in-Calm.circuit c.in-Calm.passes kept c.in-Calm.is)
    (ok_value c.extend_from_slice.result c.extend_from_slice.new.self.items (was ++ text) was c.extend_from_slice.ensures.items)

pub returns-in_default-clause-trace : goal.returns-in_default-clause-trace
returns-in_default-clause-trace c = λ worlds kept on heard.
    let bytes = c.args.bytes.now in
    let spelled = c.lines_have_one_spelling.ensures bytes c.args.line.now (line_read bytes c.args.line.now c.requires.spelled) in
    after_none c.echo.result c.clear.new.self.items c.echo.new.out.items (bytes ++ 10 ∷ [])
    (written_lines (flat_line worlds c.args.line.now kept)) c.clear.ensures.items
    (ap (λ (b : List ℕ). b ++ 10 ∷ []) spelled.0 ∙ trace_other worlds c.args.line.now kept c.in_default.not-Calm) c.echo.ensures
