-- What is written beside a line that a trace doesn't take as it stands (docs/RULES.md, Traces).
use Rattle.std.specs.Prelude.{List, []}
use Rattle.spl_circuit.specs.Nodes.{CircuitId}
use Rattle.spl_sched.specs.declared.line.Line.{Line}
use Rattle.spl_sched.specs.declared.line.Line.TheVariants as line
use Rattle.spl_circuit_world.specs.Worlds.{World}
use Rattle.spl_trace.specs.Traced.{calm_lines}

-- of a calm its ticks and deliveries, and nothing of any other line
abbrev pub heard_of : (CircuitId → World) → Line → List Line
heard_of worlds (line.Calm c k) = calm_lines c (worlds c) k
heard_of worlds _ = []
