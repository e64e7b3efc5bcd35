use Rattle.spl_circuit_world.proofs.Owns.{cut-fits}
use Rattle.spl_world.proofs.Calls.{cut_is, fail_is, step_halts, step_short, stop_halts, stop_short}
use Rattle.spl_world.proofs.world.World.halt_node.Goals as goal

-- ---- a stop

pub returns-in_ok-stop_at-in-Stop-clause-halts : goal.returns-in_ok-stop_at-in-Stop-clause-halts
returns-in_ok-stop_at-in-Stop-clause-halts g c =
    let n = c.in-Stop.node in
    rw (c.in-Stop.is) (stop_halts c.args.self.now _ _ _ c.index_of-slot.result n c.index_of-slot.ensures.at c.in_ok-stop_at-in-Stop.ensures.alone
    (λ k m h. c.in_ok-stop_at-in-Stop.ensures.holds k n m c.index_of-slot.ensures.at h))

pub returns-in_err-stop_at-in-Stop-clause-halts : goal.returns-in_err-stop_at-in-Stop-clause-halts
returns-in_err-stop_at-in-Stop-clause-halts g c =
    let stop = c.in_err-stop_at-in-Stop.ensures in
    rw (c.in-Stop.is) (stop_short c.args.self.now _ _ _ c.index_of-slot.result c.in-Stop.node c.index_of-slot.ensures.at c.from_residual.result
    c.from_residual.ensures.0 c.requires.sits stop.alone stop.ended)

-- ---- a cut

pub halt_step-requires-clause-fits : goal.halt_step-requires-clause-fits
halt_step-requires-clause-fits g c = cut-fits c.in-Cut.calls c.in-Cut.fill c.in-Cut.step (rw (c.in-Cut.is) at c.requires.line.fits)

pub returns-in_ok-bit-in-Cut-clause-halts : goal.returns-in_ok-bit-in-Cut-clause-halts
returns-in_ok-bit-in-Cut-clause-halts g c =
    rw (c.in-Cut.is) (step_halts c.args.self.now _ _ _ (cut_is c.in-Cut.calls c.in-Cut.fill c.in-Cut.step) c.cut_answer.result c.cut_answer.ensures c.in_ok-bit-in-Cut.ensures.halts)

pub returns-in_err-bit-in-Cut-clause-halts : goal.returns-in_err-bit-in-Cut-clause-halts
returns-in_err-bit-in-Cut-clause-halts g c =
    let r = c.from_residual-in_err-bit-in-Cut in
    rw (c.in-Cut.is) (step_short c.args.self.now _ _ _ (cut_is c.in-Cut.calls c.in-Cut.fill c.in-Cut.step) r.result r.ensures.0 c.requires.sits c.in_err-bit-in-Cut.ensures.halts)

-- ---- a fail

pub returns-in_ok-bit-in-Fail-clause-halts : goal.returns-in_ok-bit-in-Fail-clause-halts
returns-in_ok-bit-in-Fail-clause-halts g c =
    let one = fail_is c.in-Fail.call c.in-Fail.step (rw (c.in-Fail.is) at c.requires.line.fits) in
    rw (c.in-Fail.is) (step_halts c.args.self.now _ _ _ one c.fail_answer.result c.fail_answer.ensures c.in_ok-bit-in-Fail.ensures.halts)

pub returns-in_err-bit-in-Fail-clause-halts : goal.returns-in_err-bit-in-Fail-clause-halts
returns-in_err-bit-in-Fail-clause-halts g c =
    let one = fail_is c.in-Fail.call c.in-Fail.step (rw (c.in-Fail.is) at c.requires.line.fits) in
    let r = c.from_residual-in_err-bit-in-Fail in
    rw (c.in-Fail.is) (step_short c.args.self.now _ _ _ one r.result r.ensures.0 c.requires.sits c.in_err-bit-in-Fail.ensures.halts)
