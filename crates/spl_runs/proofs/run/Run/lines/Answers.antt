use Rattle.std.proofs.Common.{◌≡◌, ℕ, List, [], ◌∷◌, ◌++◌, Option, refl, sym, subst, arith, length-append}
use Rattle.spl_lines.{specs.{Feed.{Feeds, waiting}, Lines.{run_of, lines_of}, declared.feed.Feed.Feed}, proofs.Fed.few_lines}
use Rattle.spl_edge.{specs.Sources.given, proofs.Sources.limit_is}
use Rattle.spl_runs.proofs.{Sources.{line_ran, lines_end, lines_fail, lines_none, lines_whole, next_good, next_step}, Steps.{step_ok, step_still}}
use Rattle.spl_runs.proofs.run.Run.lines.Goals as goal

-- a line more came, which is this one
fed_line : {before taken line came : List ℕ} {had left : Option (List ℕ)} {feed : Feed} (lines : List (List ℕ)) → line ≡ came
    → Feeds before had (lines ++ came ∷ []) taken left feed → Feeds before had (lines ++ line ∷ []) taken left feed
fed_line {before} {taken} {had = had} {left = left} {feed = feed} lines same h =
    subst (λ (l : List ℕ). Feeds before had (lines ++ l ∷ []) taken left feed) (sym same) h

pub lines-init : goal.lines-init
lines-init g c = record {
  lines = [];
  counted = refl;
  feeds = c.in-Ok.ensures (g.S.Source.view c.args.source.now).gave (g.S.Source.view c.args.source.now).left;
  good = tt;
  step = step_still c.requires.go;
  source_later = omega arith;
}

pub line-requires : goal.line-requires
line-requires g c = record { go = c.lines.invariant.step.on.go }

pub overflow_add-number : goal.overflow_add-number
overflow_add-number g c =
    omega (
      arith,
      limit_is,
      c.lines.invariant.counted,
      few_lines (g.S.Source.view c.args.source.now).gave (g.S.Source.view c.args.source.now).left c.lines.invariant.lines
          (g.S.Source.view c.lines.source).gave (g.S.Source.view c.lines.source).left c.lines.feed c.lines.invariant.feeds,
    )

pub lines-smaller : goal.lines-smaller
lines-smaller g c =
    omega (
      arith,
      limit_is,
      c.lines.invariant.counted,
      few_lines (g.S.Source.view c.args.source.now).gave (g.S.Source.view c.args.source.now).left c.lines.invariant.lines
          (g.S.Source.view c.lines.source).gave (g.S.Source.view c.lines.source).left c.lines.feed c.lines.invariant.feeds,
    )

pub lines-preserved : goal.lines-preserved
lines-preserved g c =
    let lines = c.lines.invariant.lines in
    let line = c.line-bytes.result.now in
    let ran = line_ran c.in-Ok-line.ensures in
    record {
      lines = lines ++ line ∷ [];
      counted = omega (arith, c.lines.invariant.counted, length-append lines (line ∷ []));
      feeds = fed_line lines c.line-bytes.ensures
          (c.in-Ok-true.ensures.line c.in-Ok-true.field-0-test (g.S.Source.view c.args.source.now).gave
          (g.S.Source.view c.args.source.now).left lines c.lines.invariant.feeds);
      good = next_good lines c.lines.invariant.good c.lines.invariant.step c.lines.invariant.counted ran;
      step = step_ok 0 (next_step lines c.lines.invariant.good c.lines.invariant.step c.lines.invariant.counted ran);
      source_later = omega (arith, c.lines.invariant.source_later, c.advance.ensures.later);
    }

pub returns-in-Err-line : goal.returns-in-Err-line
returns-in-Err-line g c =
    let lines = c.lines.invariant.lines in
    let next =
    fed_line lines c.line-bytes.ensures
    (c.in-Ok-true.ensures.line c.in-Ok-true.field-0-test (g.S.Source.view c.args.source.now).gave
    (g.S.Source.view c.args.source.now).left lines c.lines.invariant.feeds) in
    lines_fail lines c.lines.invariant.good c.lines.invariant.step c.lines.invariant.counted next.consumed
    (run_of (given (g.S.Source.view c.args.source.now) (g.S.Source.view c.advance.new.source)))
    (lines_of (waiting c.advance.new.self)) next.fed.run c.in-Err-line.ensures

pub returns-in-Ok-false : goal.returns-in-Ok-false
returns-in-Ok-false g c =
    lines_whole c.lines.invariant.lines c.lines.invariant.good c.lines.invariant.step c.advance.new.self
    (c.in-Ok-false.ensures.still c.in-Ok-false.field-0-test (g.S.Source.view c.args.source.now).gave
    (g.S.Source.view c.args.source.now).left c.lines.invariant.lines c.lines.invariant.feeds)
    (c.in-Ok-false.ensures.none c.in-Ok-false.field-0-test) (c.in-Ok-false.ensures.end c.in-Ok-false.field-0-test)

pub returns-in-Err : goal.returns-in-Err
returns-in-Err g c =
    rw c.end_of.ensures (lines_end c.lines.invariant.lines c.lines.invariant.good c.lines.invariant.step c.advance.new.self
    (c.in-Err.ensures.still refl (g.S.Source.view c.args.source.now).gave
    (g.S.Source.view c.args.source.now).left c.lines.invariant.lines c.lines.invariant.feeds) (c.in-Err.ensures.none refl)
    c.lines.number c.lines.invariant.counted
    (g.S.Source.view c.lines.source).faults c.lines.invariant.source_later c.in-Err.fault c.in-Err.ensures.unfinished c.in-Err.ensures.over
    c.in-Err.ensures.long c.in-Err.ensures.read)

pub returns-in_default : goal.returns-in_default
returns-in_default g c = lines_none c.requires.go
