use Rattle.std.{specs.List.AllByRecursion, proofs.{Common.{length, ◌∙◌, ap, sym, subst, arith}, lemmas.List.length-map}}
use Rattle.spl_sched.specs.Grammar.{spelling}
use Rattle.spl_gen.specs.{Circuits.nodes, Generated.{generated, text_of}}
use Rattle.spl_lines.{specs.Tasks.IsLine, proofs.{Texts.{lines_text, rest_text, short_text}, Takes.all_taken}}
use Rattle.spl_edge.proofs.Sources.{limit_is}
use Rattle.spl_app.proofs.generated.generated_texts_are_lines.Goals as goal

pub returns-clause-lines : goal.returns-clause-lines
unfolding text_of
returns-clause-lines c = λ n seed lt. lines_text spelling (generated n seed) (c.generated_lines_are_spelled.ensures.lacking n seed lt)

pub returns-clause-good : goal.returns-clause-good
unfolding text_of
returns-clause-good c = λ n seed lt.
    subst (AllByRecursion (IsLine nodes)) (sym (lines_text spelling (generated n seed) (c.generated_lines_are_spelled.ensures.lacking n seed lt)))
    (all_taken nodes (generated n seed) (c.generated_lines_are_spelled.ensures.short n seed lt) (c.generated_lines_are_lines.ensures.read_back n seed lt)
    (c.generated_lines_are_lines.ensures.nodes n seed))

pub returns-clause-count : goal.returns-clause-count
unfolding text_of
returns-clause-count c = λ n seed lt.
    ap length (lines_text spelling (generated n seed) (c.generated_lines_are_spelled.ensures.lacking n seed lt)) ∙ length-map (generated n seed) spelling
    ∙ c.generated_lines_are_counted.ensures n seed

pub returns-clause-short : goal.returns-clause-short
unfolding text_of
returns-clause-short c = λ n seed few.
    let size = short_text spelling (generated n seed) (c.generated_lines_are_spelled.ensures.short n seed (omega arith)) in
    omega (arith, limit_is, size, c.generated_lines_are_counted.ensures n seed)

pub returns-clause-rest : goal.returns-clause-rest
unfolding text_of
returns-clause-rest c = λ n seed. rest_text spelling (generated n seed)
