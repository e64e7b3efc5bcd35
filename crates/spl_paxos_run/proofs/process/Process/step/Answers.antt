use Rattle.std.proofs.Common.{◌≡◌, refl, sym, subst, rules}
use Rattle.spl_acceptor.specs.{Held.acceptor_in, Rows.{member_row, acceptor_row, leader_row}, Worlds.round_of, declared.group.Group.Group}
use Rattle.spl_paxos.specs.{Leaders.leader_in, Members.member_in}
use Rattle.spl_paxos_run.specs.{States.{OfMember, OfAcceptor, OfLeader, heard_by, states_of, IsOfRun, ProcessDoes}, declared.process.Process.Process}
use Rattle.spl_paxos_run.proofs.Processes.{member_does, acceptor_does, leader_does}
use Rattle.spl_paxos_run.specs.declared.process.Process.TheVariants as process
use Rattle.spl_paxos_run.proofs.process.Process.step.Goals as goal

pub step-requires-in-Acceptor-clause-own : goal.step-requires-in-Acceptor-clause-own
step-requires-in-Acceptor-clause-own g c =
    let a = c.in-Acceptor.acceptor in
    let is : c.args.self.now ≡ process.Acceptor a = search rules in
    c.requires.own a.group a.here (subst (λ (q : Process). IsOfRun a.group a.here q) (sym is) (refl, refl))

pub returns-in-Member-clause-done : goal.returns-in-Member-clause-done
returns-in-Member-clause-done g c = λ run here.
    let x = g.D.Disk.view c.args.disk.now in
    let y = g.D.Disk.view c.step.new.disk in
    let m = c.in-Member.member in
    let z = c.args.message.now in
    let k = round_of z in
    let told = c.step.result in
    let old = member_in m.rounds in
    let now = member_in c.step.new.self.rounds in
    let is : c.args.self.now ≡ process.Member m = search rules in
    subst (λ (q : Process). IsOfRun run here q
    → ProcessDoes run.members (states_of q) (OfMember now) k (heard_by run (states_of q) c.args.from z) x y told) (sym is)
    (λ of. subst (λ (h : Group). ProcessDoes h.members (OfMember old) (OfMember now) k (heard_by h (OfMember old) c.args.from z) x y told) of.0
    (member_does m.group.members k (member_row m.group (old k) c.args.from z) x y told old now c.step.ensures.done))

pub returns-in-Acceptor-clause-done : goal.returns-in-Acceptor-clause-done
returns-in-Acceptor-clause-done g c = λ run here.
    let x = g.D.Disk.view c.args.disk.now in
    let y = g.D.Disk.view c.step-in-Acceptor.new.disk in
    let a = c.in-Acceptor.acceptor in
    let z = c.args.message.now in
    let k = round_of z in
    let told = c.step-in-Acceptor.result in
    let old = acceptor_in a.rounds in
    let now = acceptor_in c.step-in-Acceptor.new.self.rounds in
    let is : c.args.self.now ≡ process.Acceptor a = search rules in
    subst (λ (q : Process). IsOfRun run here q
    → ProcessDoes run.members (states_of q) (OfAcceptor now) k (heard_by run (states_of q) c.args.from z) x y told) (sym is)
    (λ of. subst (λ (h : Group). ProcessDoes h.members (OfAcceptor old) (OfAcceptor now) k (heard_by h (OfAcceptor old) c.args.from z) x y told) of.0
    (acceptor_does a.group.members k (acceptor_row a.group (old k) c.args.from z) x y told old now c.step-in-Acceptor.ensures.done))

pub returns-in-Leader-clause-done : goal.returns-in-Leader-clause-done
returns-in-Leader-clause-done g c = λ run here.
    let x = g.D.Disk.view c.args.disk.now in
    let y = g.D.Disk.view c.step-in-Leader.new.disk in
    let l = c.in-Leader.leader in
    let z = c.args.message.now in
    let k = round_of z in
    let told = c.step-in-Leader.result in
    let old = leader_in l.rounds in
    let now = leader_in c.step-in-Leader.new.self.rounds in
    let is : c.args.self.now ≡ process.Leader l = search rules in
    subst (λ (q : Process). IsOfRun run here q
    → ProcessDoes run.members (states_of q) (OfLeader now) k (heard_by run (states_of q) c.args.from z) x y told) (sym is)
    (λ of. subst (λ (h : Group). ProcessDoes h.members (OfLeader old) (OfLeader now) k (heard_by h (OfLeader old) c.args.from z) x y told) of.0
    (leader_does l.group.members k (leader_row l.group (old k) c.args.from z) x y told old now c.step-in-Leader.ensures.done))
