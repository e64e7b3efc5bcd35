use Rattle.spl_world.proofs.{Common.arith, Results.only_limit}
use Rattle.spl_world.proofs.world.World.count_event.Goals as goal
use Rattle.spl_edge.proofs.Results.{at_ok, ok_both, ok_is, err_is}

pub returns-clause-stands : goal.returns-clause-stands
returns-clause-stands c = λ is o others before stands.
    at_ok c.add-counted.result (λ more. record {
      begins = stands.begins;
      nodes = stands.nodes;
      fit = stands.fit;
      counted = (let so_far = stands.counted in omega (arith, more, so_far));
      stopped = stands.stopped;
      each = stands.each;
      sits = stands.sits;
    }) c.add-counted.ensures.counts.ok

pub returns-clause-few : goal.returns-clause-few
returns-clause-few c = λ is o others before stands.
    ok_both c.add-counted.result (λ more within. omega (arith, more, within, stands.counted)) c.add-counted.ensures.counts.ok c.add-counted.ensures.within

pub returns-clause-many : goal.returns-clause-many
returns-clause-many c = λ is o others which before stands q.
    let over = c.add-counted.ensures.counts.many which q in
    (over.0, omega (arith, over.1, stands.counted))

pub returns-clause-only : goal.returns-clause-only
returns-clause-only c = only_limit c.add-counted.result c.add-counted.ensures.fault

pub returns-clause-running : goal.returns-clause-running
returns-clause-running c = ok_is c.add-counted.result c.is_err-self.result c.is_err-self.ensures.value

pub returns-clause-halted : goal.returns-clause-halted
returns-clause-halted c = err_is c.add-counted.result c.is_err-self.result c.is_err-self.ensures.value
