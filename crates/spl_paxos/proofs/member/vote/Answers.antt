use Rattle.std.proofs.Common.{rules}
use Rattle.spl_acceptor.specs.Rows.{on_paxos_vote}
use Rattle.spl_paxos.proofs.member.vote.Goals as goal

pub returns-clause-done : goal.returns-clause-done
returns-clause-done g c =
    c.carry_out.ensures.done (on_paxos_vote c.args.member.now.group c.args.member.now.here c.args.round c.args.yes) (search rules)
