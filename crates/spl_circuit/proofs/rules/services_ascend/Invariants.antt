use Rattle.std.proofs.Common.{◌≡◌, drop}
use Rattle.spl_circuit.specs.Rules.{ascends, ascends_after, ids_of}
use Rattle.spl_circuit.proofs.rules.services_ascend.Given as goal

-- the answer for what is left is the answer for all
abbrev pub invariant-loop-service : goal.invariant-loop-service
invariant-loop-service l = ascends_after l.last (ids_of (drop l.service-index l.others)) ≡ ascends (ids_of l.fn.services)
