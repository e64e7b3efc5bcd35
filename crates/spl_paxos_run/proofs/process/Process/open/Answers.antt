use Rattle.std.{specs.Prelude.◌==◌, proofs.Common.{◌≡◌, false, IfSome, sym, subst, rules}}
use Rattle.spl_edge.specs.Devices.{image_now}
use Rattle.spl_acceptor.specs.{Held.acceptor_in, Logs.JournalMakes, Processes.{new_acceptor, new_paxos_member, new_leader, stopped_member, stopped_leader}}
use Rattle.spl_acceptor.specs.{Records.{acceptor_with, member_with, leader_with, MakeRounds, MakeAcceptor, MakeMember, MakeLeader}}
use Rattle.spl_acceptor.specs.declared.kind.TheConstants.{MEMBER, ACCEPTOR}
use Rattle.spl_paxos.specs.{Leaders.leader_in, Members.member_in}
use Rattle.spl_paxos_run.specs.States.{States, OfMember, OfAcceptor, OfLeader, MakeStates, states_stopped}
use Rattle.spl_paxos_run.proofs.Processes.{reopened, member_states, acceptor_states, leader_states}
use Rattle.spl_paxos_run.proofs.process.Process.open.Goals as goal
use Rattle.spl_journal.proofs.Pieces.{lift1}

pub returns-in-Ok-clause-states : goal.returns-in-Ok-clause-states
returns-in-Ok-clause-states g c = λ w.
    let n = c.args.group.members in
    let new = image_now (g.D.Disk.view c.open.new.disk) in
    let states = member_in c.in-Ok.member.rounds in
    let f = w.member c.args.name.number in
    subst (λ (s : States). IfSome new (λ i. JournalMakes (MakeStates n s) i.bytes → OfMember states ≡ states_stopped s))
    (sym (member_states w c.args.name c.in-1.is))
    (lift1 new (λ i. JournalMakes (MakeRounds member_with new_paxos_member n states) i.bytes)
    (λ i. JournalMakes (MakeMember n f) i.bytes → OfMember states ≡ states_stopped (OfMember f)) c.in-Ok.ensures.read
    (λ i read made. reopened member_with stopped_member new_paxos_member OfMember n states f i.bytes read made))

pub returns-in-Ok-open-clause-states : goal.returns-in-Ok-open-clause-states
returns-in-Ok-open-clause-states g c = λ w.
    let n = c.args.group.members in
    let new = image_now (g.D.Disk.view c.open-in-2.new.disk) in
    let states = acceptor_in c.in-Ok-open.acceptor.rounds in
    let f = w.acceptor c.args.name.number in
    subst (λ (s : States). IfSome new (λ i. JournalMakes (MakeStates n s) i.bytes → OfAcceptor states ≡ states_stopped s))
    (sym (acceptor_states w c.args.name c.in-2.is))
    (lift1 new (λ i. JournalMakes (MakeRounds acceptor_with new_acceptor n states) i.bytes)
    (λ i. JournalMakes (MakeAcceptor n f) i.bytes → OfAcceptor states ≡ states_stopped (OfAcceptor f)) c.in-Ok-open.ensures.read
    (λ i read made. reopened acceptor_with (λ a. a) new_acceptor OfAcceptor n states f i.bytes read made))

pub returns-in-Ok-open-2-clause-states : goal.returns-in-Ok-open-2-clause-states
returns-in-Ok-open-2-clause-states g c = λ w.
    let n = c.args.group.members in
    let new = image_now (g.D.Disk.view c.open-in_default.new.disk) in
    let states = leader_in c.in-Ok-open-2.leader.rounds in
    let f = w.leader c.args.name.number in
    let first : (c.args.name.kind == MEMBER) ≡ false = search rules in
    let second : (c.args.name.kind == ACCEPTOR) ≡ false = search rules in
    subst (λ (s : States). IfSome new (λ i. JournalMakes (MakeStates n s) i.bytes → OfLeader states ≡ states_stopped s))
    (sym (leader_states w c.args.name first second))
    (lift1 new (λ i. JournalMakes (MakeRounds leader_with new_leader n states) i.bytes)
    (λ i. JournalMakes (MakeLeader n f) i.bytes → OfLeader states ≡ states_stopped (OfLeader f)) c.in-Ok-open-2.ensures.read
    (λ i read made. reopened leader_with stopped_leader new_leader OfLeader n states f i.bytes read made))
