use Rattle.spl_pump.proofs.pump.PumpCarry.carry.Goals as goal

pub returns-in-Ok-clause-put : goal.returns-in-Ok-clause-put
returns-in-Ok-clause-put g c = rw c.get.ensures at c.in-Ok.ensures.put

pub returns-in-Ok-clause-heard : goal.returns-in-Ok-clause-heard
returns-in-Ok-clause-heard g c = rw c.get.ensures at c.in-Ok.ensures.heard

pub returns-in-Ok-clause-part : goal.returns-in-Ok-clause-part
returns-in-Ok-clause-part g c = rw c.get.ensures at c.in-Ok.ensures.part

pub returns-in-Err-clause-part : goal.returns-in-Err-clause-part
returns-in-Err-clause-part g c = rw c.get.ensures at c.in-Err.ensures.part

pub returns-in-Err-clause-lied : goal.returns-in-Err-clause-lied
returns-in-Err-clause-lied g c = rw c.get.ensures at c.in-Err.ensures.lied

pub returns-in-Err-clause-came : goal.returns-in-Err-clause-came
returns-in-Err-clause-came g c = rw c.get.ensures at c.in-Err.ensures.came
