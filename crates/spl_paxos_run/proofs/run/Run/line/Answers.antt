use Rattle.std.proofs.Common.{◌≡◌, ◌∙◌, ◌⊎◌, [], ◌∷◌, ◌++◌, Option, Some, OnOk, sym, ap, subst}
use Rattle.spl_edge.{proofs.Results.{err_from, err_so, ok_and, failed}, specs.Devices.bench}
use Rattle.spl_paxos.specs.declared.line.PaxosLine.{PaxosLine}
use Rattle.spl_acceptor.specs.declared.group.Group.{Group}
use Rattle.spl_paxos_run.specs.{Run.paxos_devices, Schedule.{IsPaxosLine, paxos_line_said, with_number}, Stages.{AreLinesDone, RunFailsAt, RunFailsBy}}
use Rattle.spl_paxos_run.{specs.declared.fault.PaxosFault.{PaxosFault, TheVariants.{BadLine, NoMemory}}, proofs.Halting.{stops_ran, stops_unread_by}}
use Rattle.spl_paxos_run.proofs.run.Run.line.Goals as goal

pub returns-in_err-said-clause-stopped : goal.returns-in_err-said-clause-stopped
returns-in_err-said-clause-stopped g c = λ run ls x h.
    let y = paxos_devices (g.W.Sink.view c.args.out.now) (bench g.D.Disk.view c.args.pairs.now.items) in
    let f = c.in_err-said.field-0.0 in
    let bad = subst (λ (k : Group). (f ≡ NoMemory) ⊎ ((f ≡ BadLine c.args.number) × (IsPaxosLine k c.args.line.now → ⊥))) h.group c.in_err-said.ensures.bad in
    err_from c.from_residual.result f (λ e. RunFailsBy e run ls c.args.number c.args.line.now c.args.self.now.output x y) c.from_residual.ensures
    (stops_unread_by run ls c.args.self.now x y h c.args.number c.args.line.now f bad)

pub returns-clause-done : goal.returns-clause-done
returns-clause-done g c = λ run ls x h.
    let l : PaxosLine = c.in-Some.said in
    let y = paxos_devices (g.W.Sink.view c.answer.new.out) (bench g.D.Disk.view c.answer.new.pairs.items) in
    let said_is : paxos_line_said c.args.line.now ≡ Some l = sym c.in_ok-said.ensures.said ∙ c.in-Some.is in
    let good = subst (λ (k : Group). IsPaxosLine k c.args.line.now) h.group c.in_ok-said.ensures.good in
    ok_and c.answer.result (IsPaxosLine run c.args.line.now)
    (AreLinesDone run (ls ++ with_number c.args.number (paxos_line_said c.args.line.now) []) c.answer.new.self x y) good
    (subst (λ (found : Option PaxosLine). OnOk c.answer.result (AreLinesDone run (ls ++ with_number c.args.number found []) c.answer.new.self x y))
    (sym said_is) (c.answer.ensures.done run ls x h))

pub returns-clause-stopped : goal.returns-clause-stopped
returns-clause-stopped g c = λ run ls x h.
    let l : PaxosLine = c.in-Some.said in
    let y = paxos_devices (g.W.Sink.view c.answer.new.out) (bench g.D.Disk.view c.answer.new.pairs.items) in
    let said_is : paxos_line_said c.args.line.now ≡ Some l = sym c.in_ok-said.ensures.said ∙ c.in-Some.is in
    let good = subst (λ (k : Group). IsPaxosLine k c.args.line.now) h.group c.in_ok-said.ensures.good in
    err_so c.answer.result (λ f. RunFailsAt f run (ls ++ (c.args.number, l) ∷ []) c.answer.new.self.output x y)
    (λ f. RunFailsBy f run ls c.args.number c.args.line.now c.answer.new.self.output x y)
    (λ f is stops. stops_ran run ls c.args.number c.args.line.now c.answer.new.self.output x y good f
    (λ n q. c.answer.ensures.good n (is ∙ ap (failed _ PaxosFault) q))
    (subst (λ (found : Option PaxosLine). RunFailsAt f run (ls ++ with_number c.args.number found []) c.answer.new.self.output x y) (sym said_is) stops))
    (c.answer.ensures.stopped run ls x h)
