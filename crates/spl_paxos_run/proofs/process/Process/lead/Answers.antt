use Rattle.std.proofs.Common.{◌≡◌, rules, subst}
use Rattle.spl_edge.specs.Devices.{image_now}
use Rattle.spl_acceptor.specs.Rows.{leader}
use Rattle.spl_paxos_run.{specs.{Seats.IsProcessUp, declared.process.Process.Process}, proofs.Hearings.leads_on}
use Rattle.spl_paxos_run.specs.declared.process.Process.TheVariants as process
use Rattle.spl_paxos_run.proofs.process.Process.lead.Goals as goal

pub returns-clause-moves : goal.returns-clause-moves
returns-clause-moves g c = λ run w l up.
    let x = g.D.Disk.view c.args.disk.now in
    let m = c.in-Leader.leader in
    let is : c.args.self.now ≡ process.Leader m = search rules in
    leads_on run w l c.args.round m c.lead.new.leader x (g.D.Disk.view c.lead.new.disk) c.lead.result
    (subst (λ (q : Process). IsProcessUp run w (leader l) q (image_now x)) is up)
    c.lead.ensures.same c.lead.ensures.running c.lead.ensures.stands c.lead.ensures.told c.lead.ensures.done
