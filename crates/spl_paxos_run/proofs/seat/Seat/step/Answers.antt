use Rattle.std.{specs.Prelude.{IsTrue, ⊤}, proofs.Common.{◌≡◌, None, Some, refl, subst}}
use Rattle.spl_acceptor.specs.{Acceptors.orders_own, Worlds.{Happening, message_at, paxos_world_after}}
use Rattle.spl_paxos_safety.proofs.Owned.{sent-own}
use Rattle.spl_paxos_run.{specs.Steps.SeatDoes, proofs.Leading.{lead_is, to_is, deliver_is, stop_is, start_is, match_map, found_at}}
use Rattle.spl_paxos_run.proofs.seat.Seat.step.Goals as goal

pub deliver-requires : goal.deliver-requires
deliver-requires g c =
    let run = c.args.group in
    let es = c.requires.stands.0 in
    let w = paxos_world_after run es in
    let d = c.in-Deliver in
    record {
      own = (
        run,
        w,
        c.requires.stands.1,
        match_map c.message.result _ ⊤ _ (λ m. IsTrue (orders_own run.members m.now)) (λ none. tt)
            (λ m is. sent-own run es d.from d.to d.number m.now
            (found_at w c.args.posts.now d.from d.to d.to d.number
            (Some m.now) c.requires.stands.2 c.message.ensures.names.0 c.message.ensures.names.1 refl is)) c.message.ensures.message,
      );
    }

pub returns-in-Lead-clause-done : goal.returns-in-Lead-clause-done
returns-in-Lead-clause-done g c = λ es stands posts.
    let run = c.args.group in
    let w = paxos_world_after run es in
    let n = c.args.self.now.name in
    subst (λ (e : Happening). SeatDoes run w e n c.lead.new.self (g.D.Disk.view c.args.disk.now) (g.D.Disk.view c.lead.new.disk) c.lead.result)
    (lead_is c.args.line.now n c.requires.own c.in-Lead.leader c.in-Lead.round c.in-Lead.is) (c.lead.ensures.done run w stands)

pub returns-in-Deliver-clause-done : goal.returns-in-Deliver-clause-done
returns-in-Deliver-clause-done g c = λ es stands posts.
    let run = c.args.group in
    let w = paxos_world_after run es in
    let n = c.args.self.now.name in
    let d = c.in-Deliver in
    let same = to_is c.args.line.now n c.requires.own d.from d.to d.number d.is in
    let names = c.message.ensures.names in
    subst (λ (e : Happening). SeatDoes run w e n c.deliver.new.self (g.D.Disk.view c.args.disk.now) (g.D.Disk.view c.deliver.new.disk) c.deliver.result)
    (deliver_is c.args.line.now n c.requires.own d.from d.to d.number d.is)
    (c.deliver.ensures.done run w d.number c.requires.named stands
    (match_map c.message.result _ (message_at w d.from n d.number ≡ None) _ (λ m. message_at w d.from n d.number ≡ Some m.now)
    (λ none. found_at w c.args.posts.now d.from d.to n d.number None posts names.0 names.1 same none)
    (λ m is. found_at w c.args.posts.now d.from d.to n d.number (Some m.now) posts names.0 names.1 same is) c.message.ensures.message))

pub returns-in-Stop-clause-done : goal.returns-in-Stop-clause-done
returns-in-Stop-clause-done g c = λ es stands posts.
    let run = c.args.group in
    let w = paxos_world_after run es in
    let n = c.args.self.now.name in
    subst (λ (e : Happening). SeatDoes run w e n c.stop.new.self (g.D.Disk.view c.args.disk.now) (g.D.Disk.view c.stop.new.disk) c.stop.result)
    (stop_is c.args.line.now n c.requires.own c.in-Stop.field-0 c.in-Stop.is) (c.stop.ensures.done run w c.requires.named stands)

pub returns-in-Start-clause-done : goal.returns-in-Start-clause-done
returns-in-Start-clause-done g c = λ es stands posts.
    let run = c.args.group in
    let w = paxos_world_after run es in
    let n = c.args.self.now.name in
    subst (λ (e : Happening). SeatDoes run w e n c.start.new.self (g.D.Disk.view c.args.disk.now) (g.D.Disk.view c.start.new.disk) c.start.result)
    (start_is c.args.line.now n c.requires.own c.in-Start.field-0 c.in-Start.is) (c.start.ensures.done w stands)
