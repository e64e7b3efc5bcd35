use Rattle.std.proofs.Common.{true, ◌++◌, Ok, Err, refl, ap, sym, ◌∙◌, rules, subst}
use Rattle.spl_edge.specs.Devices.{image_now}
use Rattle.spl_acceptor.specs.{Rows.{leader, on_lead}, Worlds.{Leads, paxos_posted, at_leader}, declared.{kind.TheConstants.LEADER, message.Name.Name}}
use Rattle.spl_paxos_run.{specs.Seats.{IsProcessUp, ProcessMoves}, proofs.Answering.{is_up, none_down, name_kind, settles, steps, falls, leads_next}}
use Rattle.spl_paxos_run.proofs.{Answering.{leads_told, leads_down}, SeatUp.{up_stands, leader_kind, seated_up}}
use Rattle.spl_paxos_run.proofs.seat.Seat.lead.Goals as goal

pub returns-in_default-clause-done : goal.returns-in_default-clause-done
returns-in_default-clause-done g c = λ run w stands.
    let s = c.args.self.now in
    let x = g.D.Disk.view c.args.disk.now in
    let name = name_kind s.name LEADER c.requires.kind in
    let down = none_down run w s.name s.process (image_now x) (search rules) stands in
    let is = leads_down run w s.name.number c.args.round true (ap w.up name ∙ down.down) in
    settles run w w (Leads s.name.number c.args.round) s.name s x x c.silent.result is.0 refl refl stands refl
    (c.silent.ensures.answer ∙ sym is.1) c.silent.ensures.sends

pub lead-requires : goal.lead-requires
lead-requires g c =
    let s = c.args.self.now in
    let x = g.D.Disk.view c.args.disk.now in
    let p = c.in-Some.process in
    let up = seated_up s p (image_now x) c.requires.seated c.in-Some.is in
    record {
      running = up.2.going;
      stands = up_stands up.0 up.1 s.name p (image_now x) up.2;
      kind = leader_kind up.0 up.1 s.name p (image_now x) up.2 c.requires.kind;
    }

pub returns-in-Ok-clause-done : goal.returns-in-Ok-clause-done
returns-in-Ok-clause-done g c = λ run w stands.
    let s = c.args.self.now in
    let n = s.name in
    let x = g.D.Disk.view c.args.disk.now in
    let y = g.D.Disk.view c.lead.new.disk in
    let r = c.args.round in
    let p = c.in-Some.process in
    let name = name_kind n LEADER c.requires.kind in
    let plan = on_lead run n.number (w.leader n.number r) r in
    let v = at_leader w n.number r plan in
    let up = is_up run w n s.process p (image_now x) c.in-Some.is stands in
    let here : IsProcessUp run w (leader n.number) p (image_now x) = subst (λ (z : Name). IsProcessUp run w z p (image_now x)) (sym name) up in
    steps run w v (Leads n.number r) n plan c.lead.new.self x y
    (leads_next run w n.number r true here.up) refl c.lead.ensures.onward.picks c.in-Ok.stepped c.of.result
    (subst (λ (z : Name). ProcessMoves run z plan w v c.lead.new.self x y (Ok c.in-Ok.stepped)) name (c.in-Ok.ensures.moves run w n.number here))
    (leads_told run w n.number r true here.up) (ap (λ (z : Name). w.sent ++ paxos_posted z plan.sends) name) c.of.ensures.answer c.of.ensures.sends

pub returns-in-Err-clause-done : goal.returns-in-Err-clause-done
returns-in-Err-clause-done g c = λ run w stands.
    let s = c.args.self.now in
    let n = s.name in
    let x = g.D.Disk.view c.args.disk.now in
    let y = g.D.Disk.view c.lead.new.disk in
    let r = c.args.round in
    let p = c.in-Some.process in
    let name = name_kind n LEADER c.requires.kind in
    let plan = on_lead run n.number (w.leader n.number r) r in
    let v = at_leader w n.number r plan in
    let up = is_up run w n s.process p (image_now x) c.in-Some.is stands in
    let here : IsProcessUp run w (leader n.number) p (image_now x) = subst (λ (z : Name). IsProcessUp run w z p (image_now x)) (sym name) up in
    falls run w v (Leads n.number r) n plan c.lead.new.self x y (leads_next run w n.number r true here.up) refl c.lead.ensures.onward.picks c.in-Err.fault p
    (subst (λ (z : Name). ProcessMoves run z plan w v c.lead.new.self x y (Err c.in-Err.fault)) name (c.in-Err.ensures.moves run w n.number here))
    up.disk c.lead.ensures.onward.later (g.met.D.StopDisk.tells c.lead.new.disk) (g.met.D.Disk.possible c.lead.new.disk)
