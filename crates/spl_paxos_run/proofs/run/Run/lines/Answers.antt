use Rattle.std.proofs.Common.{◌≡◌, ◌+◌, ℕ, List, [], ◌∷◌, ◌++◌, length, Ok, refl, sym, subst, arith, length-append}
use Rattle.spl_edge.{specs.{Devices.bench, Sources.given}, proofs.Sources.limit_is}
use Rattle.spl_lines.{proofs.{Fed.few_lines, Schedules.all-push}, specs.{Feed.{Feeds, waiting}, Lines.{run_of, lines_of}}}
use Rattle.spl_paxos.specs.declared.line.PaxosLine.{PaxosLine}
use Rattle.spl_paxos_run.specs.{Run.{PaxosEnded, PaxosEndsText, paxos_devices}, Schedule.{IsPaxosLine, numbered_lines}, Stages.AreLinesDone}
use Rattle.spl_paxos_run.{specs.{Stages.{ReachesPaxosEnd, paxos_feed_end}, declared.run.PaxosEnd.TheVariants.Whole}, proofs.Endings.{all_given, comes_by}}
use Rattle.spl_paxos_run.proofs.{Endings.{comes_end, comes_none, comes_ok, text_by, text_end, text_whole}, Halting.stops_done, Lines.numbered_more}
use Rattle.spl_paxos_run.proofs.run.Run.lines.Goals as goal

pub lines-init : goal.lines-init
lines-init g c = record {
  lines = [];
  counted = refl;
  feeds = c.in-Ok.ensures (g.S.Source.view c.args.source.now).gave (g.S.Source.view c.args.source.now).left;
  done = c.requires.done;
  each = λ run x h. (tt, h);
  later = omega arith;
  source_later = omega arith;
}

pub overflow_add-count : goal.overflow_add-count
overflow_add-count g c =
    omega (
      arith,
      limit_is,
      c.lines.invariant.counted,
      few_lines (g.S.Source.view c.args.source.now).gave (g.S.Source.view c.args.source.now).left c.lines.invariant.lines
          (g.S.Source.view c.lines.source).gave (g.S.Source.view c.lines.source).left c.lines.feed c.lines.invariant.feeds,
    )

pub overflow_add-count-in-Ok-line : goal.overflow_add-count-in-Ok-line
overflow_add-count-in-Ok-line g c =
    omega (
      arith,
      limit_is,
      c.lines.invariant.counted,
      few_lines (g.S.Source.view c.args.source.now).gave (g.S.Source.view c.args.source.now).left c.lines.invariant.lines
          (g.S.Source.view c.lines.source).gave (g.S.Source.view c.lines.source).left c.lines.feed c.lines.invariant.feeds,
    )

pub overflow_add-count-in-Err : goal.overflow_add-count-in-Err
overflow_add-count-in-Err g c =
    omega (
      arith,
      limit_is,
      c.lines.invariant.counted,
      few_lines (g.S.Source.view c.args.source.now).gave (g.S.Source.view c.args.source.now).left c.lines.invariant.lines
          (g.S.Source.view c.lines.source).gave (g.S.Source.view c.lines.source).left c.lines.feed c.lines.invariant.feeds,
    )

pub lines-smaller : goal.lines-smaller
lines-smaller g c =
    omega (
      arith,
      limit_is,
      c.lines.invariant.counted,
      few_lines (g.S.Source.view c.args.source.now).gave (g.S.Source.view c.args.source.now).left c.lines.invariant.lines
          (g.S.Source.view c.lines.source).gave (g.S.Source.view c.lines.source).left c.lines.feed c.lines.invariant.feeds,
    )

pub lines-preserved : goal.lines-preserved
lines-preserved g c =
    let lines = c.lines.invariant.lines in
    let line = c.line-line.result.now in
    let y = paxos_devices (g.W.Sink.view c.line.new.out) (bench g.D.Disk.view c.line.new.pairs.items) in
    let counted : c.lines.count + 1 ≡ length lines + 1 = omega (arith, c.lines.invariant.counted) in
    let one = c.lines.invariant.done in
    let next = c.in-Ok-line.ensures.done one.0 (numbered_lines 1 lines) one.1 one.2 in
    record {
      lines = lines ++ line ∷ [];
      counted = omega (arith, c.lines.invariant.counted, length-append lines (line ∷ []));
      feeds = (subst (λ (l : List ℕ). Feeds (g.S.Source.view c.args.source.now).gave (g.S.Source.view c.args.source.now).left (lines ++ l ∷ [])
          (g.S.Source.view c.advance.new.source).gave (g.S.Source.view c.advance.new.source).left c.advance.new.self) (sym c.line-line.ensures)
          (c.in-Ok-true.ensures.line c.in-Ok-true.field-0-test (g.S.Source.view c.args.source.now).gave
          (g.S.Source.view c.args.source.now).left lines c.lines.invariant.feeds));
      done = (
        one.0,
        one.1,
        subst (λ (ls : List (ℕ × PaxosLine)). AreLinesDone one.0 ls c.line.new.self one.1 y)
            (sym (numbered_more lines line (c.lines.count + 1) counted)) next.1,
      );
      each = λ run x h.
          let had = c.lines.invariant.each run x h in
          let more = c.in-Ok-line.ensures.done run (numbered_lines 1 lines) x had.1 in (
            all-push (IsPaxosLine run) lines line had.0 more.0,
            subst (λ (ls : List (ℕ × PaxosLine)). AreLinesDone run ls c.line.new.self x y) (sym (numbered_more lines line (c.lines.count + 1) counted)) more.1,
          );
      later = omega (arith, c.lines.invariant.later, c.line.ensures.later);
      source_later = omega (arith, c.lines.invariant.source_later, c.advance.ensures.later);
    }

-- ---- a line ended the run

pub returns-in-Err-line-clause-text : goal.returns-in-Err-line-clause-text
returns-in-Err-line-clause-text g c = λ run x h.
    let lines = c.lines.invariant.lines in
    let line = c.line-line.result.now in
    let y = paxos_devices (g.W.Sink.view c.line.new.out) (bench g.D.Disk.view c.line.new.pairs.items) in
    let counted : c.lines.count + 1 ≡ length lines + 1 = omega (arith, c.lines.invariant.counted) in
    let next =
    (subst (λ (l : List ℕ). Feeds (g.S.Source.view c.args.source.now).gave (g.S.Source.view c.args.source.now).left (lines ++ l ∷ [])
    (g.S.Source.view c.advance.new.source).gave (g.S.Source.view c.advance.new.source).left c.advance.new.self) (sym c.line-line.ensures)
    (c.in-Ok-true.ensures.line c.in-Ok-true.field-0-test (g.S.Source.view c.args.source.now).gave
    (g.S.Source.view c.args.source.now).left lines c.lines.invariant.feeds)) in
    let had = c.lines.invariant.each run x h in
    text_by run (run_of (given (g.S.Source.view c.args.source.now) (g.S.Source.view c.advance.new.source))) c.line.new.self.output x y lines line
    (lines_of (waiting c.advance.new.self)) next.fed.run had.0 (c.lines.count + 1) counted c.in-Err-line.fault
    (c.in-Err-line.ensures.stopped run (numbered_lines 1 lines) x had.1) (g.S.Source.view c.args.source.now) (g.S.Source.view c.advance.new.source)

pub returns-in-Err-line-clause-taken : goal.returns-in-Err-line-clause-taken
returns-in-Err-line-clause-taken g c =
    (let next = (subst (λ (l : List ℕ). Feeds (g.S.Source.view c.args.source.now).gave (g.S.Source.view c.args.source.now).left
    (c.lines.invariant.lines ++ l ∷ []) (g.S.Source.view c.advance.new.source).gave (g.S.Source.view c.advance.new.source).left c.advance.new.self)
    (sym c.line-line.ensures)
    (c.in-Ok-true.ensures.line c.in-Ok-true.field-0-test (g.S.Source.view c.args.source.now).gave
    (g.S.Source.view c.args.source.now).left c.lines.invariant.lines c.lines.invariant.feeds)) in next.consumed)

pub returns-in-Err-line-clause-comes : goal.returns-in-Err-line-clause-comes
returns-in-Err-line-clause-comes g c = λ run x h.
    let lines = c.lines.invariant.lines in
    let line = c.line-line.result.now in
    let y = paxos_devices (g.W.Sink.view c.line.new.out) (bench g.D.Disk.view c.line.new.pairs.items) in
    let counted : c.lines.count + 1 ≡ length lines + 1 = omega (arith, c.lines.invariant.counted) in
    let next =
    (subst (λ (l : List ℕ). Feeds (g.S.Source.view c.args.source.now).gave (g.S.Source.view c.args.source.now).left (lines ++ l ∷ [])
    (g.S.Source.view c.advance.new.source).gave (g.S.Source.view c.advance.new.source).left c.advance.new.self) (sym c.line-line.ensures)
    (c.in-Ok-true.ensures.line c.in-Ok-true.field-0-test (g.S.Source.view c.args.source.now).gave
    (g.S.Source.view c.args.source.now).left lines c.lines.invariant.feeds)) in
    let had = c.lines.invariant.each run x h in
    comes_by run (run_of (given (g.S.Source.view c.args.source.now) (g.S.Source.view c.advance.new.source))) c.line.new.self.output x y lines line
    (lines_of (waiting c.advance.new.self)) next.fed.run had.0 (c.lines.count + 1) counted c.in-Err-line.fault
    (c.in-Err-line.ensures.stopped run (numbered_lines 1 lines) x had.1)

-- ---- there is no line more

pub returns-in-Ok-false-clause-text : goal.returns-in-Ok-false-clause-text
returns-in-Ok-false-clause-text g c = λ run x h.
    text_whole (g.S.Source.view c.args.source.now) (g.S.Source.view c.advance.new.source) c.lines.invariant.lines c.advance.new.self
    (c.in-Ok-false.ensures.still c.in-Ok-false.field-0-test (g.S.Source.view c.args.source.now).gave
    (g.S.Source.view c.args.source.now).left c.lines.invariant.lines c.lines.invariant.feeds)
    (c.in-Ok-false.ensures.none c.in-Ok-false.field-0-test) run (c.in-Ok-false.ensures.end c.in-Ok-false.field-0-test)

pub returns-in-Ok-false-clause-taken : goal.returns-in-Ok-false-clause-taken
returns-in-Ok-false-clause-taken g c =
    (let last = c.in-Ok-false.ensures.still c.in-Ok-false.field-0-test (g.S.Source.view c.args.source.now).gave
    (g.S.Source.view c.args.source.now).left c.lines.invariant.lines c.lines.invariant.feeds in last.consumed)

pub returns-in-Ok-false-clause-comes : goal.returns-in-Ok-false-clause-comes
returns-in-Ok-false-clause-comes g c = λ run x h.
    let all = all_given (g.S.Source.view c.args.source.now) (g.S.Source.view c.advance.new.source) c.lines.invariant.lines c.advance.new.self
    (c.in-Ok-false.ensures.still c.in-Ok-false.field-0-test (g.S.Source.view c.args.source.now).gave
    (g.S.Source.view c.args.source.now).left c.lines.invariant.lines c.lines.invariant.feeds)
    (c.in-Ok-false.ensures.none c.in-Ok-false.field-0-test) run in
    let y = paxos_devices (g.W.Sink.view c.lines.out) (bench g.D.Disk.view c.lines.pairs.items) in
    let had = c.lines.invariant.each run x h in
    subst (λ (ls : List (List ℕ)). ReachesPaxosEnd (Ok Whole) run ls c.lines.self.output x y) (sym all)
    (comes_ok run c.lines.invariant.lines c.lines.self x y had.0 had.1 Whole)

-- ---- no line came

pub returns-in-Err-clause-text : goal.returns-in-Err-clause-text
returns-in-Err-clause-text g c = λ run x h.
    let counted : c.lines.count + 1 ≡ length c.lines.invariant.lines + 1 = omega (arith, c.lines.invariant.counted) in
    subst (λ (e : PaxosEnded). PaxosEndsText e run (run_of (given (g.S.Source.view c.args.source.now) (g.S.Source.view c.advance.new.source)))
    (g.S.Source.view c.args.source.now) (g.S.Source.view c.advance.new.source)) (sym c.end_of.ensures)
    (text_end (g.S.Source.view c.args.source.now) (g.S.Source.view c.advance.new.source) c.lines.invariant.lines c.advance.new.self
    (c.in-Err.ensures.still refl (g.S.Source.view c.args.source.now).gave
    (g.S.Source.view c.args.source.now).left c.lines.invariant.lines c.lines.invariant.feeds) (c.in-Err.ensures.none refl) run
    (c.lines.count + 1) counted (g.S.Source.view c.lines.source).faults c.lines.invariant.source_later
    c.in-Err.fault c.in-Err.ensures.unfinished c.in-Err.ensures.over c.in-Err.ensures.long c.in-Err.ensures.read)

pub returns-in-Err-clause-taken : goal.returns-in-Err-clause-taken
returns-in-Err-clause-taken g c =
    (let last = c.in-Err.ensures.still refl (g.S.Source.view c.args.source.now).gave
    (g.S.Source.view c.args.source.now).left c.lines.invariant.lines c.lines.invariant.feeds in last.consumed)

pub returns-in-Err-clause-comes : goal.returns-in-Err-clause-comes
returns-in-Err-clause-comes g c = λ run x h.
    let all = all_given (g.S.Source.view c.args.source.now) (g.S.Source.view c.advance.new.source) c.lines.invariant.lines c.advance.new.self
    (c.in-Err.ensures.still refl (g.S.Source.view c.args.source.now).gave
    (g.S.Source.view c.args.source.now).left c.lines.invariant.lines c.lines.invariant.feeds) (c.in-Err.ensures.none refl) run in
    let y = paxos_devices (g.W.Sink.view c.lines.out) (bench g.D.Disk.view c.lines.pairs.items) in
    let counted : c.lines.count + 1 ≡ length c.lines.invariant.lines + 1 = omega (arith, c.lines.invariant.counted) in
    let had = c.lines.invariant.each run x h in
    subst (λ (e : PaxosEnded). ReachesPaxosEnd e run
    (run_of (given (g.S.Source.view c.args.source.now) (g.S.Source.view c.advance.new.source))) c.lines.self.output x y) (sym c.end_of.ensures)
    (subst (λ (ls : List (List ℕ)). ReachesPaxosEnd (paxos_feed_end c.in-Err.fault (c.lines.count + 1)) run ls c.lines.self.output x y) (sym all)
    (comes_end run c.lines.invariant.lines c.lines.self x y had.0 had.1 c.in-Err.fault (c.lines.count + 1) counted))

-- ---- there was no memory for a feed

pub returns-in_default-clause-text : goal.returns-in_default-clause-text
returns-in_default-clause-text g c = λ run x h. tt

pub returns-in_default-clause-comes : goal.returns-in_default-clause-comes
returns-in_default-clause-comes g c = λ run x h.
    let y = paxos_devices (g.W.Sink.view c.args.out.now) (bench g.D.Disk.view c.args.pairs.now.items) in
    comes_none run (run_of (given (g.S.Source.view c.args.source.now) (g.S.Source.view c.args.source.now))) c.args.self.now.output x y
    (stops_done run [] c.args.self.now x y h)
