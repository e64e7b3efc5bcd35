use Rattle.std.{specs.Prelude.{ℕ, IsTrue}, proofs.Common.{refl, sym, ◌∙◌, rules, subst}}
use Rattle.spl_edge.specs.Devices.{image_now}
use Rattle.spl_acceptor.specs.{Acceptors.orders_own, Worlds.{Delivers, message_heard, heard_plan}}
use Rattle.spl_paxos_run.proofs.{Answering.{is_up, none_down, settles, steps, falls, comes_next, comes_told, comes_down}, Stopping.heard_sends}
use Rattle.spl_paxos_run.proofs.SeatUp.{up_stands, same_run}
use Rattle.spl_paxos_run.proofs.seat.Seat.deliver.Goals as goal

pub returns-in_default-clause-done : goal.returns-in_default-clause-done
returns-in_default-clause-done g c = λ run w k named stands message.
    let s = c.args.self.now in
    let x = g.D.Disk.view c.args.disk.now in
    let down = none_down run w s.name s.process (image_now x) (search rules) stands in
    let is = comes_down run w c.args.from s.name k down.down in
    settles run w w (Delivers c.args.from s.name k) s.name s x x c.silent.result is.0 refl refl stands refl
    (c.silent.ensures.answer ∙ sym is.1) c.silent.ensures.sends

pub hear-requires : goal.hear-requires
hear-requires g c =
    let s = c.args.self.now in
    let x = g.D.Disk.view c.args.disk.now in
    let p = c.in-Some.process in
    let run = c.requires.own.0 in
    let w = c.requires.own.1 in
    let up = is_up run w s.name s.process p (image_now x) c.in-Some.is c.requires.own.2 in
    record {
      running = up.going;
      stands = up_stands run w s.name p (image_now x) up;
      own = λ h i of. subst (λ (n : ℕ). IsTrue (orders_own n c.in-Some-message.message.now)) (same_run run h s.name.number i p up.run of) (search rules);
    }

pub returns-in-Ok-clause-done : goal.returns-in-Ok-clause-done
returns-in-Ok-clause-done g c = λ run w k named stands message.
    let s = c.args.self.now in
    let n = s.name in
    let x = g.D.Disk.view c.args.disk.now in
    let y = g.D.Disk.view c.hear.new.disk in
    let p = c.in-Some.process in
    let m = c.in-Some-message.message.now in
    let plan = heard_plan run w c.args.from n m in
    let v = message_heard run w c.args.from n m in
    let up = is_up run w n s.process p (image_now x) c.in-Some.is stands in
    steps run w v (Delivers c.args.from n k) n plan c.hear.new.self x y
    (comes_next run w c.args.from n k m up.up (search rules)) refl c.hear.ensures.onward.picks c.in-Ok.stepped c.of.result
    (c.in-Ok.ensures.moves run w n named up) (comes_told run w c.args.from n k m up.up (search rules))
    (heard_sends run w c.args.from n m named) c.of.ensures.answer c.of.ensures.sends

pub returns-in-Err-clause-done : goal.returns-in-Err-clause-done
returns-in-Err-clause-done g c = λ run w k named stands message.
    let s = c.args.self.now in
    let n = s.name in
    let x = g.D.Disk.view c.args.disk.now in
    let y = g.D.Disk.view c.hear.new.disk in
    let p = c.in-Some.process in
    let m = c.in-Some-message.message.now in
    let plan = heard_plan run w c.args.from n m in
    let v = message_heard run w c.args.from n m in
    let up = is_up run w n s.process p (image_now x) c.in-Some.is stands in
    falls run w v (Delivers c.args.from n k) n plan c.hear.new.self x y
    (comes_next run w c.args.from n k m up.up (search rules)) refl c.hear.ensures.onward.picks c.in-Err.fault p
    (c.in-Err.ensures.moves run w n named up) up.disk c.hear.ensures.onward.later (g.met.D.StopDisk.tells c.hear.new.disk)
    (g.met.D.Disk.possible c.hear.new.disk)
