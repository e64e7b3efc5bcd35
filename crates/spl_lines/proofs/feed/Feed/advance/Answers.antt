use Rattle.std.{specs.Io.appended_bytes, proofs.Common.{◌≡◌, ◌-◌, length, take, sym, ◌∙◌, ap, subst, arith, length-append, length-take, rules}}
use Rattle.spl_lines.{specs.{Lines.{IsShort, has_feed}, Feed.{waiting, count_of, last_line}}, proofs.Fed.{feeds_line, feeds_same, feeds_more, free_prefix}}
use Rattle.spl_lines.proofs.Fed.{no_bytes, waits_still}
use Rattle.spl_lines.proofs.feed.Feed.advance.Goals as goal
use Rattle.spl_edge.{specs.Sources.limit, proofs.Sources.limit_is}

pub returns-then-cut-clause-line : goal.returns-then-cut-clause-line
returns-then-cut-clause-line g c = λ is before had lines feeds.
    let found = c.cut.ensures.line c.if-cut.true in
    feeds_line before had lines (g.S.Source.view c.pieces.source).gave (g.S.Source.view c.pieces.source).left c.pieces.self c.cut.new.self
    (last_line c.cut.new.self) (c.pieces.invariant.feeds before had lines feeds) found.0 found.1 c.cut.ensures.same

pub returns-then-is_overlong-clause-still : goal.returns-then-is_overlong-clause-still
returns-then-is_overlong-clause-still g c = λ not before had lines feeds.
    feeds_same before had lines (g.S.Source.view c.pieces.source).gave (g.S.Source.view c.pieces.source).left c.pieces.self c.cut.new.self
    (c.pieces.invariant.feeds before had lines feeds) (c.cut.ensures.none c.if-cut.false).1 c.cut.ensures.same

pub returns-then-self-gt-MOST_BYTES-clause-still : goal.returns-then-self-gt-MOST_BYTES-clause-still
returns-then-self-gt-MOST_BYTES-clause-still g c = λ not before had lines feeds.
    feeds_same before had lines (g.S.Source.view c.pieces.source).gave (g.S.Source.view c.pieces.source).left c.pieces.self c.cut.new.self
    (c.pieces.invariant.feeds before had lines feeds) (c.cut.ensures.none c.if-cut.false).1 c.cut.ensures.same

pub returns-then-self-gt-MOST_BYTES-clause-long : goal.returns-then-self-gt-MOST_BYTES-clause-long
returns-then-self-gt-MOST_BYTES-clause-long g c = λ is. (omega (arith, limit_is), c.is_overlong.ensures.short c.if-is_overlong.false)

pub fill-requires-clause-within : goal.fill-requires-clause-within
fill-requires-clause-within g c = omega (arith, limit_is)

pub returns-in-Ok-eq0-clause-still : goal.returns-in-Ok-eq0-clause-still
returns-in-Ok-eq0-clause-still g c = λ not before had lines feeds.
    feeds_more before had lines (g.S.Source.view c.pieces.source).gave (g.S.Source.view c.pieces.source).left c.cut.new.self
    (g.S.Source.view c.fill.new.source).gave (g.S.Source.view c.fill.new.source).left c.fill.new.self
    (appended_bytes (g.S.Source.view c.pieces.source).gave (g.S.Source.view c.fill.new.source).gave)
    (feeds_same before had lines (g.S.Source.view c.pieces.source).gave (g.S.Source.view c.pieces.source).left c.pieces.self c.cut.new.self
    (c.pieces.invariant.feeds before had lines feeds) (c.cut.ensures.none c.if-cut.false).1 c.cut.ensures.same)
    c.fill.ensures.taken c.fill.ensures.left c.fill.ensures.waits c.fill.ensures.count

pub returns-in-Ok-eq0-2-clause-still : goal.returns-in-Ok-eq0-2-clause-still
returns-in-Ok-eq0-2-clause-still g c = λ not before had lines feeds.
    feeds_more before had lines (g.S.Source.view c.pieces.source).gave (g.S.Source.view c.pieces.source).left c.cut.new.self
    (g.S.Source.view c.fill.new.source).gave (g.S.Source.view c.fill.new.source).left c.fill.new.self
    (appended_bytes (g.S.Source.view c.pieces.source).gave (g.S.Source.view c.fill.new.source).gave)
    (feeds_same before had lines (g.S.Source.view c.pieces.source).gave (g.S.Source.view c.pieces.source).left c.pieces.self c.cut.new.self
    (c.pieces.invariant.feeds before had lines feeds) (c.cut.ensures.none c.if-cut.false).1 c.cut.ensures.same)
    c.fill.ensures.taken c.fill.ensures.left c.fill.ensures.waits c.fill.ensures.count

pub returns-in-Err-Failed-clause-still : goal.returns-in-Err-Failed-clause-still
returns-in-Err-Failed-clause-still g c = λ not before had lines feeds.
    feeds_more before had lines (g.S.Source.view c.pieces.source).gave (g.S.Source.view c.pieces.source).left c.cut.new.self
    (g.S.Source.view c.fill.new.source).gave (g.S.Source.view c.fill.new.source).left c.fill.new.self
    (appended_bytes (g.S.Source.view c.pieces.source).gave (g.S.Source.view c.fill.new.source).gave)
    (feeds_same before had lines (g.S.Source.view c.pieces.source).gave (g.S.Source.view c.pieces.source).left c.pieces.self c.cut.new.self
    (c.pieces.invariant.feeds before had lines feeds) (c.cut.ensures.none c.if-cut.false).1 c.cut.ensures.same)
    c.fill.ensures.taken c.fill.ensures.left c.fill.ensures.waits c.fill.ensures.count

pub returns-in-Err-NoMemory-clause-still : goal.returns-in-Err-NoMemory-clause-still
returns-in-Err-NoMemory-clause-still g c = λ not before had lines feeds.
    feeds_more before had lines (g.S.Source.view c.pieces.source).gave (g.S.Source.view c.pieces.source).left c.cut.new.self
    (g.S.Source.view c.fill.new.source).gave (g.S.Source.view c.fill.new.source).left c.fill.new.self
    (appended_bytes (g.S.Source.view c.pieces.source).gave (g.S.Source.view c.fill.new.source).gave)
    (feeds_same before had lines (g.S.Source.view c.pieces.source).gave (g.S.Source.view c.pieces.source).left c.pieces.self c.cut.new.self
    (c.pieces.invariant.feeds before had lines feeds) (c.cut.ensures.none c.if-cut.false).1 c.cut.ensures.same)
    c.fill.ensures.taken c.fill.ensures.left c.fill.ensures.waits c.fill.ensures.count

pub returns-in-Ok-eq0-clause-end : goal.returns-in-Ok-eq0-clause-end
returns-in-Ok-eq0-clause-end g c = λ is.
    let more = appended_bytes (g.S.Source.view c.pieces.source).gave (g.S.Source.view c.fill.new.source).gave in
    let none : length more ≡ 0 = omega (arith, c.in-Ok-eq0.ensures.told) in (
      c.in-Ok-eq0.ensures.end c.in-Ok-eq0.field-0-test,
      omega (arith, limit_is, c.fill.ensures.count, none),
      no_bytes (waiting c.fill.new.self)
          (omega (
            arith,
            none,
            ap length c.fill.ensures.waits,
            length-append (waiting c.cut.new.self) (take (limit - count_of c.cut.new.self) more),
            length-take (limit - count_of c.cut.new.self) more,
          )),
    )

pub returns-in-Ok-eq0-2-clause-unfinished : goal.returns-in-Ok-eq0-2-clause-unfinished
returns-in-Ok-eq0-2-clause-unfinished g c = λ is.
    let more = appended_bytes (g.S.Source.view c.pieces.source).gave (g.S.Source.view c.fill.new.source).gave in
    let none : length more ≡ 0 = omega (arith, c.in-Ok-eq0.ensures.told) in (
      c.in-Ok-eq0.ensures.end c.in-Ok-eq0.field-0-test,
      omega (arith, limit_is, c.fill.ensures.count, none),
      λ empty. omega (
        arith,
        ap length empty,
        ap length c.fill.ensures.waits,
        length-append (waiting c.cut.new.self) (take (limit - count_of c.cut.new.self) more),
      ),
    )

pub pieces-preserved : goal.pieces-preserved
pieces-preserved g c =
    let more = appended_bytes (g.S.Source.view c.pieces.source).gave (g.S.Source.view c.fill.new.source).gave in
    record {
      within = omega (arith, ap length c.fill.ensures.waits, length-append (waiting c.cut.new.self) (take (limit - count_of c.cut.new.self) more));
      none = free_prefix (waiting c.cut.new.self) (take (limit - count_of c.cut.new.self) more) (waiting c.fill.new.self) c.wait-seen.result c.wait-seen.ensures
          (ap has_feed (c.cut.ensures.none c.if-cut.false).1 ∙ (c.cut.ensures.none c.if-cut.false).0) c.fill.ensures.waits;
      feeds = λ before had lines feeds. feeds_more before had lines (g.S.Source.view c.pieces.source).gave
          (g.S.Source.view c.pieces.source).left c.cut.new.self (g.S.Source.view c.fill.new.source).gave
          (g.S.Source.view c.fill.new.source).left c.fill.new.self
          (appended_bytes (g.S.Source.view c.pieces.source).gave (g.S.Source.view c.fill.new.source).gave)
          (feeds_same before had lines (g.S.Source.view c.pieces.source).gave (g.S.Source.view c.pieces.source).left c.pieces.self c.cut.new.self
          (c.pieces.invariant.feeds before had lines feeds) (c.cut.ensures.none c.if-cut.false).1 c.cut.ensures.same)
          c.fill.ensures.taken c.fill.ensures.left c.fill.ensures.waits c.fill.ensures.count;
      later = search rules;
    }

pub returns-in-Err-Failed-clause-read : goal.returns-in-Err-Failed-clause-read
returns-in-Err-Failed-clause-read g c = λ is.
    let more = appended_bytes (g.S.Source.view c.pieces.source).gave (g.S.Source.view c.fill.new.source).gave in (
      search rules,
      omega (arith, limit_is, c.fill.ensures.count, ap length c.in-Err-Failed.ensures.none),
      subst IsShort (sym (waits_still (waiting c.cut.new.self) (waiting c.fill.new.self) more
          (limit - count_of c.cut.new.self) c.fill.ensures.waits c.in-Err-Failed.ensures.none)) (c.is_overlong.ensures.short c.if-is_overlong.false),
    )
