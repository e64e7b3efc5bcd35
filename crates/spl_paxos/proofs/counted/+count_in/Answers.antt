use Rattle.std.proofs.Common.{arith, sym}
use Rattle.spl_paxos.proofs.Counting.{few_accepted, none_accepted}
use Rattle.spl_paxos.proofs.counted.+count_in.Goals as goal

pub overflow_add-result : goal.overflow_add-result
overflow_add-result t c =
    let few = few_accepted c.args.most c.args.member c.args.ballot c.args.prepared c.in-Some.x.now c.in-Some.others.now c.added_by-added.result
    c.added_by-added.ensures in
    omega (arith, few, c.count_in.ensures, c.ranges.most.fits)

pub returns-in-None : goal.returns-in-None
returns-in-None t c = sym (none_accepted c.args.most c.args.member c.args.ballot c.args.prepared c.args.counted.now c.in-None.ensures.cases)
