use Rattle.std.proofs.Common.{Err, sym, ap, subst}
use Rattle.spl_edge.specs.{Devices.bench, Sources.given}
use Rattle.spl_lines.specs.Lines.{run_of}
use Rattle.spl_paxos_run.{specs.{Run.{PaxosOutcome, paxos_devices}, declared.fault.PaxosFault.PaxosFault}, proofs.Flushing.{ran_short, ran_unwritten}}
use Rattle.spl_paxos_run.proofs.Flushing.{ran_whole, sink_failed}
use Rattle.spl_paxos_run.proofs.whole.run_paxos.Goals as goal

pub lines-ended-requires : goal.lines-ended-requires
lines-ended-requires g c =
    let x = paxos_devices (g.W.Sink.view c.args.out.now) (bench g.D.Disk.view c.args.pairs.now.items) in
    record { done = (c.args.group, x, c.in_ok-run.ensures.done (g.W.Sink.view c.args.out.now)) }

pub returns-then-lacks_memory-clause-ran : goal.returns-then-lacks_memory-clause-ran
returns-then-lacks_memory-clause-ran g c =
    let x = paxos_devices (g.W.Sink.view c.args.out.now) (bench g.D.Disk.view c.args.pairs.now.items) in
    let lines = run_of (given (g.S.Source.view c.args.source.now) (g.S.Source.view c.lines-ended.new.source)) in
    ran_short c.args.group lines c.lines-ended.new.self.output x (g.W.Sink.view c.lines-ended.new.out) (g.W.Sink.view c.flush-flushed.new.out)
    (bench g.D.Disk.view c.lines-ended.new.pairs.items) c.flush-flushed.ensures.cause.later c.lines-ended.result
    (c.lines-ended.ensures.comes c.args.group x (c.in_ok-run.ensures.done (g.W.Sink.view c.args.out.now))) c.flush-flushed.ensures.part

pub returns-in-Ok-clause-text : goal.returns-in-Ok-clause-text
returns-in-Ok-clause-text g c =
    let x = paxos_devices (g.W.Sink.view c.args.out.now) (bench g.D.Disk.view c.args.pairs.now.items) in
    c.lines-ended.ensures.text c.args.group x (c.in_ok-run.ensures.done (g.W.Sink.view c.args.out.now))

pub returns-in-Ok-clause-ran : goal.returns-in-Ok-clause-ran
returns-in-Ok-clause-ran g c =
    let x = paxos_devices (g.W.Sink.view c.args.out.now) (bench g.D.Disk.view c.args.pairs.now.items) in
    let lines = run_of (given (g.S.Source.view c.args.source.now) (g.S.Source.view c.lines-ended.new.source)) in
    ran_whole c.args.group lines c.lines-ended.new.self.output x (g.W.Sink.view c.lines-ended.new.out) (g.W.Sink.view c.flush-flushed.new.out)
    (bench g.D.Disk.view c.lines-ended.new.pairs.items) c.flush-flushed.ensures.cause.later c.lines-ended.result
    (c.lines-ended.ensures.comes c.args.group x (c.in_ok-run.ensures.done (g.W.Sink.view c.args.out.now))) c.in-Ok.ensures.ok

pub returns-in-Err-clause-ran : goal.returns-in-Err-clause-ran
returns-in-Err-clause-ran g c =
    let old = g.W.Sink.view c.lines-ended.new.out in
    let new = g.W.Sink.view c.flush-flushed.new.out in
    let x = paxos_devices (g.W.Sink.view c.args.out.now) (bench g.D.Disk.view c.args.pairs.now.items) in
    let disks = bench g.D.Disk.view c.lines-ended.new.pairs.items in
    let lines = run_of (given (g.S.Source.view c.args.source.now) (g.S.Source.view c.lines-ended.new.source)) in
    subst (λ (f : PaxosFault). PaxosOutcome (Err f) c.args.group lines x (paxos_devices new disks)) (sym c.fault_of.ensures)
    (ran_unwritten c.args.group lines c.lines-ended.new.self.output x old new disks c.flush-flushed.ensures.cause.later c.lines-ended.result
    (c.lines-ended.ensures.comes c.args.group x (c.in_ok-run.ensures.done (g.W.Sink.view c.args.out.now))) c.in-Err.ensures.part c.in-Err.fault
    (c.lacks_memory.ensures c.if-lacks_memory.false) (λ is. c.in-Err.ensures.cause.failed (ap sink_failed is)) c.lines-ended.ensures.later)
