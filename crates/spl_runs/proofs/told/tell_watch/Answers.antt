use Rattle.std.proofs.Common.{◌++◌, ◌∷◌, [], ◌∙◌, ℕ, List, ap}
use Rattle.spl_lines.proofs.Sayings.{watch_read}
use Rattle.spl_runs.proofs.told.tell_watch.Goals as goal
use Rattle.spl_edge.proofs.Results.{at_ok}

pub returns-then-traced-clause-trace : goal.returns-then-traced-clause-trace
returns-then-traced-clause-trace c = λ on.
    let bytes = c.args.bytes.now in
    let spelled = c.watch_lines_are_read_back.ensures.only bytes c.args.line.now (watch_read bytes c.args.line.now c.requires.spelled) in
    at_ok c.echo.result (λ is. is ∙ ap (λ (xs : List ℕ). xs ++ (bytes ++ 10 ∷ [])) c.clear.ensures.items
    ∙ ap (λ (b : List ℕ). b ++ 10 ∷ []) spelled.0) c.echo.ensures
