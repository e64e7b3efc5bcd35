use Rattle.std.proofs.Common.{◌∙◌}
use Rattle.spl_node.proofs.Hosting.{due_up, up_runs}
use Rattle.spl_node.proofs.host.Host.due.Goals as goal

pub returns-in-Some-clause-due : goal.returns-in-Some-clause-due
returns-in-Some-clause-due c = λ first second stands.
    let h = c.args.self.now in
    let runs = up_runs h.id h.node c.in-Some.node first second c.in-Some.is stands.up in
    c.due.ensures ∙ due_up h.id h.node c.in-Some.node first second c.args.circuit.now c.in-Some.is runs.here_is
