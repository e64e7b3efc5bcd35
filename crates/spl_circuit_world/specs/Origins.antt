-- Where nothing is kept, a run may begin.
use Rattle.std.proofs.Common.{refl, List}
use Rattle.spl_circuit.specs.Nodes.{NodeId}
use Rattle.spl_circuit_world.specs.Worlds.{IsOrigin, blank}

pub is-blank : (ns : List NodeId) → IsOrigin (blank ns)
is-blank ns = record { only = λ c n h. refl; listed = λ c n h. refl }
