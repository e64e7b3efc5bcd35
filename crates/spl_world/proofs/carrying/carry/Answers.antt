use Rattle.spl_world.{specs.Links.link_view, proofs.{Common.{ap, Err}, Linking.{faults_carry, faults_ok, fault_part}}}
use Rattle.spl_world.proofs.carrying.carry.Goals as goal

pub returns-in-Err-clause-links : goal.returns-in-Err-clause-links
returns-in-Err-clause-links g c =
    let x = link_view (g.C.Carry.view c.args.carrier.now) (g.F.Fabric.view c.args.fabric.now) in
    let y = link_view (g.C.Carry.view c.carry.new.self) (g.F.Fabric.view c.carry.new.fabric) in
    fault_part c.carry_fault.result c.in-Err.fault c.args.from c.args.to c.args.message.now x y c.carry_fault.ensures.fault c.in-Err.ensures.part
    c.in-Err.ensures.came c.in-Err.ensures.cause.later (λ q. c.in-Err.ensures.cause.failed (ap Err q)) c.in-Err.ensures.lied

-- ---- the faults of the links

pub returns-in-Err-clause-faults : goal.returns-in-Err-clause-faults
returns-in-Err-clause-faults g c = faults_carry _ c.in-Err.fault c.args.from c.args.to c.args.message.now _ _ c.carry_fault.ensures.fault c.requires.from c.requires.to (record { no_less = c.in-Err.ensures.cause.later; slots = c.in-Err.ensures.slots; hello = c.in-Err.ensures.hello }) (λ q. c.in-Err.ensures.cause.failed (ap Err q)) c.in-Err.ensures.lied

pub returns-in-Ok-clause-faults : goal.returns-in-Ok-clause-faults
returns-in-Ok-clause-faults g c = faults_ok _ _ _ (record { no_less = c.in-Ok.ensures.cause.later; slots = c.in-Ok.ensures.slots; hello = c.in-Ok.ensures.hello })
