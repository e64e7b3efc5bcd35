use Rattle.std.proofs.Common.{refl, rules}
use Rattle.spl_edge.specs.Devices.{image_now}
use Rattle.spl_acceptor.specs.Worlds.{Stops}
use Rattle.spl_paxos_run.proofs.{Answering.{is_up, none_down, settles}, Stopping.{past_now, stops_none, stops_silent, stop_falls}, SeatUp.is_there}
use Rattle.spl_paxos_run.proofs.seat.Seat.stop.Goals as goal

pub returns-then-is_none-clause-done : goal.returns-then-is_none-clause-done
returns-then-is_none-clause-done g c = λ run w named stands.
    let s = c.args.self.now in
    let x = g.D.Disk.view c.args.disk.now in
    let down = none_down run w s.name s.process (image_now x) (search rules) stands in
    settles run w w (Stops s.name) s.name s x x c.silent.result
    (stops_none run w s.name down.down) down.down refl stands refl c.silent.ensures.answer c.silent.ensures.sends

pub returns-in-Ok-clause-done : goal.returns-in-Ok-clause-done
returns-in-Ok-clause-done g c = λ run w named stands.
    let s = c.args.self.now in
    let x = g.D.Disk.view c.args.disk.now in
    let y = g.D.Disk.view c.pick.new.self in
    let there = is_there s.process (search rules) in
    let up = is_up run w s.name s.process there.0 (image_now x) there.1 stands in
    stops_silent run w s.name there.0 x y up named c.in-Ok.ensures.ok c.pick.ensures.faults c.silent-in-Ok.result c.silent-in-Ok.ensures.answer
    c.silent-in-Ok.ensures.sends

pub returns-in-Err-clause-done : goal.returns-in-Err-clause-done
returns-in-Err-clause-done g c = λ run w named stands.
    let s = c.args.self.now in
    let x = g.D.Disk.view c.args.disk.now in
    let y = g.D.Disk.view c.pick.new.self in
    let there = is_there s.process (search rules) in
    let up = is_up run w s.name s.process there.0 (image_now x) there.1 stands in
    stop_falls run w s.name there.0 x y up s (past_now x y c.pick.ensures.past c.in-Err.ensures.err.0) c.in-Err.ensures.err.2
