use Rattle.std.proofs.Common.{List, length, sym, subst}
use Rattle.spl_edge.specs.{Sources.given, declared.fault.DeviceError.TheVariants.Failed}
use Rattle.spl_lines.specs.Lines.{run_of}
use Rattle.spl_node.specs.Benches.{AllTell, Images, images}
use Rattle.spl_world.{specs.Links.link_view, proofs.{Onward.images_told, Telling.all_tell}}
use Rattle.spl_runs.{specs.Run.run_plan, proofs.{Causes.err_as, Ends.{short_onward, short_ran, unmade_onward, unmade_ran, unmade_text, unpicked}}}
use Rattle.spl_runs.proofs.Ends.{unwritten_onward, unwritten_ran, unwritten_text, whole_onward, whole_ran, whole_text}
use Rattle.spl_runs.proofs.whole.run_lines.Goals as goal

-- ---- not all nodes were made

pub returns-in_err-run-clause-text : goal.returns-in_err-run-clause-text
returns-in_err-run-clause-text g c = unmade_text c.in_err-run.field-0.0 _ c.from_residual.ensures _ _ _ _

pub returns-in_err-run-clause-ran : goal.returns-in_err-run-clause-ran
returns-in_err-run-clause-ran g c =
    let p = run_plan c.args.setup.now.mode c.args.setup.now.registry.now (images g.D.Disk.view c.args.pairs.now.items)
    (run_of (given (g.S.Source.view c.args.source.now) (g.S.Source.view c.args.source.now))) in
    unmade_ran c.in_err-run.field-0.0 _ c.from_residual.ensures c.args.setup.now.mode.unanswered p (g.S.Source.view c.args.source.now)
    (g.W.Sink.view c.args.out.now)
    (c.in_err-run.ensures.causes (link_view (g.C.Carry.view c.args.carrier.now) (g.F.Fabric.view c.args.fabric.now))) c.in_err-run.ensures.failed
    (c.in_err-run.ensures.unmade p.lines)
    (unpicked g.H.Halt.linked p _ _ c.requires.unpicked c.in_err-run.ensures.onward)

pub returns-in_err-run-clause-onward : goal.returns-in_err-run-clause-onward
returns-in_err-run-clause-onward g c =
    unmade_onward c.in_err-run.field-0.0 _ c.from_residual.ensures
    (c.in_err-run.ensures.causes (link_view (g.C.Carry.view c.args.carrier.now) (g.F.Fabric.view c.args.fabric.now))) c.requires.unpicked

pub lines-ended-requires : goal.lines-ended-requires
lines-ended-requires g c =
    record { go = c.in_ok-run.ensures.begins.go (link_view (g.C.Carry.view c.args.carrier.now) (g.F.Fabric.view c.args.fabric.now)) c.requires.carries }

-- ---- memory ran out

pub returns-then-lacks_memory-clause-ran : goal.returns-then-lacks_memory-clause-ran
returns-then-lacks_memory-clause-ran g c =
    short_ran c.in_ok-run.ensures.begins (c.in_ok-run.ensures.causes (link_view (g.C.Carry.view c.args.carrier.now) (g.F.Fabric.view c.args.fabric.now)))
    (g.met.C.Carry.idle c.args.carrier.now) c.lines-ended.ensures (g.W.Sink.view c.flush-flushed.new.out) c.flush-flushed.ensures.part

pub returns-then-lacks_memory-clause-onward : goal.returns-then-lacks_memory-clause-onward
returns-then-lacks_memory-clause-onward g c =
    short_onward c.in_ok-run.ensures.begins
    (c.in_ok-run.ensures.causes (link_view (g.C.Carry.view c.args.carrier.now) (g.F.Fabric.view c.args.fabric.now)))
    (g.met.C.Carry.idle c.args.carrier.now) c.lines-ended.ensures c.requires.unpicked

-- ---- the sink failed at the end

pub returns-in_err-flushed-clause-text : goal.returns-in_err-flushed-clause-text
returns-in_err-flushed-clause-text g c =
    unwritten_text c.in_ok-run.ensures.begins
    (c.in_ok-run.ensures.causes (link_view (g.C.Carry.view c.args.carrier.now) (g.F.Fabric.view c.args.fabric.now)))
    (g.met.C.Carry.idle c.args.carrier.now) c.lines-ended.ensures c.in_err-flushed.field-0.0 _ c.from_residual-in_err-flushed.ensures

pub returns-in_err-flushed-clause-ran : goal.returns-in_err-flushed-clause-ran
returns-in_err-flushed-clause-ran g c =
    unwritten_ran c.in_ok-run.ensures.begins
    (c.in_ok-run.ensures.causes (link_view (g.C.Carry.view c.args.carrier.now) (g.F.Fabric.view c.args.fabric.now)))
    (g.met.C.Carry.idle c.args.carrier.now) c.lines-ended.ensures c.in_err-flushed.field-0.0 _ c.from_residual-in_err-flushed.ensures
    (c.lacks_memory.ensures c.if-lacks_memory.false)
    (g.W.Sink.view c.flush-flushed.new.out) (λ q. c.in_err-flushed.ensures.cause.failed (err_as _ Failed q)) c.flush-flushed.ensures.part

pub returns-in_err-flushed-clause-onward : goal.returns-in_err-flushed-clause-onward
returns-in_err-flushed-clause-onward g c =
    unwritten_onward c.in_ok-run.ensures.begins
    (c.in_ok-run.ensures.causes (link_view (g.C.Carry.view c.args.carrier.now) (g.F.Fabric.view c.args.fabric.now)))
    (g.met.C.Carry.idle c.args.carrier.now) c.lines-ended.ensures c.in_err-flushed.field-0.0 _ c.from_residual-in_err-flushed.ensures
    (c.lacks_memory.ensures c.if-lacks_memory.false) c.requires.unpicked

-- ---- all that waited was written

pub returns-clause-text : goal.returns-clause-text
returns-clause-text g c =
    whole_text c.in_ok-run.ensures.begins (c.in_ok-run.ensures.causes (link_view (g.C.Carry.view c.args.carrier.now) (g.F.Fabric.view c.args.fabric.now)))
    (g.met.C.Carry.idle c.args.carrier.now) c.lines-ended.ensures

pub returns-clause-ran : goal.returns-clause-ran
returns-clause-ran g c =
    whole_ran c.in_ok-run.ensures.begins (c.in_ok-run.ensures.causes (link_view (g.C.Carry.view c.args.carrier.now) (g.F.Fabric.view c.args.fabric.now)))
    (g.met.C.Carry.idle c.args.carrier.now) c.lines-ended.ensures (g.W.Sink.view c.flush-flushed.new.out)
    (λ off. subst (λ (is : List Images). AllTell (length c.args.setup.now.registry.now) is) (sym (images_told g.D.Disk.view c.args.pairs.now.items))
    (all_tell g.D.Disk.view (g.met.H.Halt.tells off) c.args.pairs.now.items (length c.args.setup.now.registry.now) c.requires.pairs))
    c.in_ok-flushed.ensures.cause.later c.in_ok-flushed.ensures.ok

pub returns-clause-onward : goal.returns-clause-onward
returns-clause-onward g c =
    whole_onward c.in_ok-run.ensures.begins
    (c.in_ok-run.ensures.causes (link_view (g.C.Carry.view c.args.carrier.now) (g.F.Fabric.view c.args.fabric.now)))
    (g.met.C.Carry.idle c.args.carrier.now) c.lines-ended.ensures c.requires.unpicked
