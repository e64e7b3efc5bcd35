-- A node's histories begin the circuit's lists.
use Rattle.spl_circuit_safety.proofs.Shown.{shows-prefixes}
use Rattle.spl_circuit_safety.proofs.answers_show_prefixes.Goals as goal

pub returns : goal.returns
returns c = shows-prefixes
