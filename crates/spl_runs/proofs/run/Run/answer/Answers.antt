use Rattle.std.proofs.Common.{sym}
use Rattle.spl_edge.specs.Devices.{bench}
use Rattle.spl_world.specs.Links.{link_view}
use Rattle.spl_runs.proofs.run.Run.answer.Goals as goal

pub answer_line-requires-clause-may : goal.answer_line-requires-clause-may
answer_line-requires-clause-may g c = rw (c.in-Line.is) at c.requires.may

pub returns-in-Line-clause-step : goal.returns-in-Line-clause-step
returns-in-Line-clause-step g c = rw (c.in-Line.is) c.answer_line.ensures.step

pub returns-in-Watch-clause-step : goal.returns-in-Watch-clause-step
returns-in-Watch-clause-step g c =
    rw (c.in-Watch.is) (rw (sym c.get-says.ensures)
    (c.answer_watch.ensures.step g.H.Halt.linked (bench g.D.Disk.view c.args.pairs.now.items)
    (link_view (g.C.Carry.view c.args.carrier.now) (g.F.Fabric.view c.args.fabric.now)) c.requires.go))
