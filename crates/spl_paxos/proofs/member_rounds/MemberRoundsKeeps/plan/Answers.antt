use Rattle.std.proofs.Common.{◌≡◌, [], rules}
use Rattle.spl_acceptor.specs.{Processes.VotingMember, Worlds.round_of}
use Rattle.spl_paxos.specs.Members.{member_in}
use Rattle.spl_paxos.proofs.member_rounds.MemberRoundsKeeps.plan.Goals as goal

pub returns-in-None : goal.returns-in-None
returns-in-None c =
    let m : VotingMember = member_in c.args.self.now (round_of c.args.message.now) in
    let decided : m.decision ≡ c.decision-decision.result = search rules in
    let counted : m.counted ≡ [] = search rules in
    c.member_row.ensures m decided counted

pub returns-in-Some : goal.returns-in-Some
returns-in-Some c =
    let m : VotingMember = member_in c.args.self.now (round_of c.args.message.now) in
    let decided : m.decision ≡ c.decision-decision.result = search rules in
    let counted : m.counted ≡ c.deref.result.now = search rules in
    c.member_row-in-Some.ensures m decided counted
