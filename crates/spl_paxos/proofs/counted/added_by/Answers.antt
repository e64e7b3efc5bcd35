use Rattle.std.proofs.Common.{◌≡◌, ◌<◌, false, true, arith, rules}
use Rattle.spl_acceptor.specs.Rows.{has_accepted}
use Rattle.spl_paxos.{specs.Members.is_acceptance_of, proofs.Counting.{of_another, of_known, of_new, of_none}}
use Rattle.spl_paxos.proofs.counted.added_by.Goals as goal

pub returns-then-not-is_about : goal.returns-then-not-is_about
returns-then-not-is_about c =
    let off : is_acceptance_of c.args.member c.args.ballot c.args.prepared c.args.x.now ≡ false = search rules in
    let same = of_another c.args.most c.args.member c.args.ballot c.args.prepared c.args.x.now c.args.others.now off in
    omega (arith, same)

pub returns-then-x-eq0 : goal.returns-then-x-eq0
returns-then-x-eq0 c =
    let zero_is : c.args.x.now.acceptor ≡ 0 = search rules in
    let same =
    of_none c.args.most c.args.member c.args.ballot c.args.prepared c.args.x.now c.args.others.now
    (λ a above low is. absurd (omega (arith, zero_is, above, is))) in
    omega (arith, same)

pub returns-then-most-x : goal.returns-then-most-x
returns-then-most-x c =
    let over : c.args.most < c.args.x.now.acceptor = search rules in
    let same =
    of_none c.args.most c.args.member c.args.ballot c.args.prepared c.args.x.now c.args.others.now
    (λ a above low is. absurd (omega (arith, over, low, is))) in
    omega (arith, same)

pub returns-then-is_counted : goal.returns-then-is_counted
returns-then-is_counted c =
    let known : has_accepted c.args.others.now c.args.member c.args.ballot c.args.prepared c.args.x.now.acceptor ≡ true = search rules in
    let same = of_known c.args.most c.args.member c.args.ballot c.args.prepared c.args.x.now c.args.others.now known in
    omega (arith, same)

pub returns : goal.returns
returns c =
    let on : is_acceptance_of c.args.member c.args.ballot c.args.prepared c.args.x.now ≡ true = search rules in
    let new : has_accepted c.args.others.now c.args.member c.args.ballot c.args.prepared c.args.x.now.acceptor ≡ false = search rules in
    let more = of_new c.args.most c.args.member c.args.ballot c.args.prepared c.args.x.now c.args.others.now on (search rules) (search rules) new in
    omega (arith, more)
