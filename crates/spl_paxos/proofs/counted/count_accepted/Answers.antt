use Rattle.std.proofs.Common.{arith}
use Rattle.spl_paxos.proofs.Counting.{few_accepted}
use Rattle.spl_paxos.proofs.counted.count_accepted.Goals as goal

pub overflow_add-result : goal.overflow_add-result
overflow_add-result c =
    let few = few_accepted c.args.most c.args.member c.args.ballot c.args.prepared c.args.heard.now c.args.counted.now c.added_by-added.result
    c.added_by-added.ensures in
    omega (arith, few, c.count_in.ensures, c.ranges.most.fits)
