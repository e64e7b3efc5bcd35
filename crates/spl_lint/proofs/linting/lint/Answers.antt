use Rattle.std.proofs.Common.{◌≡◌, ℕ, List, [], ◌∷◌, ◌++◌, Option, refl, sym, subst, arith, length-append}
use Rattle.spl_lines.{specs.{Feed.{Feeds, waiting}, Lines.lines_of, Tasks.IsLine, declared.feed.Feed.Feed}, proofs.{Fed.few_lines, Schedules.all-push}}
use Rattle.spl_edge.proofs.Sources.{limit_is}
use Rattle.spl_lint.proofs.Lines.{line_fails, lines_end, lines_whole}
use Rattle.spl_lint.proofs.linting.lint.Goals as goal

-- a line more came, which is this one
fed_line : {before taken line came : List ℕ} {had left : Option (List ℕ)} {feed : Feed} (lines : List (List ℕ)) → line ≡ came
    → Feeds before had (lines ++ came ∷ []) taken left feed → Feeds before had (lines ++ line ∷ []) taken left feed
fed_line {before} {taken} {had = had} {left = left} {feed = feed} lines same h =
    subst (λ (l : List ℕ). Feeds before had (lines ++ l ∷ []) taken left feed) (sym same) h

pub lines-init : goal.lines-init
lines-init g c = record {
  lines = [];
  counted = refl;
  feeds = c.in-Ok.ensures (g.S.Source.view c.args.source.now).gave (g.S.Source.view c.args.source.now).left;
  good = tt;
  later = omega arith;
}

pub overflow_add-number : goal.overflow_add-number
overflow_add-number g c =
    omega (
      arith,
      limit_is,
      c.lines.invariant.counted,
      few_lines (g.S.Source.view c.args.source.now).gave (g.S.Source.view c.args.source.now).left c.lines.invariant.lines
          (g.S.Source.view c.lines.source).gave (g.S.Source.view c.lines.source).left c.lines.feed c.lines.invariant.feeds,
    )

pub lines-smaller : goal.lines-smaller
lines-smaller g c =
    omega (
      arith,
      limit_is,
      c.lines.invariant.counted,
      few_lines (g.S.Source.view c.args.source.now).gave (g.S.Source.view c.args.source.now).left c.lines.invariant.lines
          (g.S.Source.view c.lines.source).gave (g.S.Source.view c.lines.source).left c.lines.feed c.lines.invariant.feeds,
    )

pub lines-preserved : goal.lines-preserved
lines-preserved g c =
    let lines = c.lines.invariant.lines in
    let line = c.line-line.result.now in
    record {
      lines = lines ++ line ∷ [];
      counted = omega (arith, c.lines.invariant.counted, length-append lines (line ∷ []));
      feeds = fed_line lines c.line-line.ensures
          (c.in-Ok-true.ensures.line c.in-Ok-true.field-0-test (g.S.Source.view c.args.source.now).gave
          (g.S.Source.view c.args.source.now).left lines c.lines.invariant.feeds);
      good = all-push (IsLine c.args.nodes.now) lines line c.lines.invariant.good c.in-Ok-lint_line.ensures;
      later = omega (arith, c.lines.invariant.later, c.advance.ensures.later);
    }

pub returns-in-Err-lint_line : goal.returns-in-Err-lint_line
returns-in-Err-lint_line g c =
    let lines = c.lines.invariant.lines in
    let line = c.line-line.result.now in
    let next =
    fed_line lines c.line-line.ensures
    (c.in-Ok-true.ensures.line c.in-Ok-true.field-0-test (g.S.Source.view c.args.source.now).gave
    (g.S.Source.view c.args.source.now).left lines c.lines.invariant.feeds) in
    line_fails c.args.nodes.now lines c.lines.invariant.good (g.S.Source.view c.args.source.now) (g.S.Source.view c.advance.new.source)
    (lines_of (waiting c.advance.new.self)) line c.lines.number c.lines.invariant.counted next.fed.run c.in-Err-lint_line.fault c.in-Err-lint_line.ensures

pub returns-in-Ok-false : goal.returns-in-Ok-false
returns-in-Ok-false g c =
    lines_whole c.args.nodes.now c.lines.invariant.lines c.lines.invariant.good (g.S.Source.view c.args.source.now)
    (g.S.Source.view c.advance.new.source) c.advance.new.self
    (c.in-Ok-false.ensures.still c.in-Ok-false.field-0-test (g.S.Source.view c.args.source.now).gave
    (g.S.Source.view c.args.source.now).left c.lines.invariant.lines c.lines.invariant.feeds)
    (c.in-Ok-false.ensures.none c.in-Ok-false.field-0-test) (c.in-Ok-false.ensures.end c.in-Ok-false.field-0-test)

pub returns-in-Err : goal.returns-in-Err
returns-in-Err g c =
    rw c.fault_of.ensures (lines_end c.args.nodes.now c.lines.invariant.lines c.lines.invariant.good (g.S.Source.view c.args.source.now)
    (g.S.Source.view c.advance.new.source) c.advance.new.self
    (c.in-Err.ensures.still refl (g.S.Source.view c.args.source.now).gave
    (g.S.Source.view c.args.source.now).left c.lines.invariant.lines c.lines.invariant.feeds) (c.in-Err.ensures.none refl)
    c.lines.number c.lines.invariant.counted
    (g.S.Source.view c.lines.source).faults c.lines.invariant.later c.in-Err.fault c.in-Err.ensures.unfinished c.in-Err.ensures.over
    c.in-Err.ensures.long c.in-Err.ensures.read)
