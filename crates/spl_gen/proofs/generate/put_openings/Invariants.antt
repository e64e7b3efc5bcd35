use Rattle.std.{specs.List.flat_map, proofs.Common.{◌≡◌, ◌++◌, take}}
use Rattle.spl_gen.specs.{Circuits.circuits, Generated.{opening_lines, text_of}}
use Rattle.spl_gen.proofs.generate.put_openings.Given as goal

abbrev pub invariant-loop-circuit : goal.invariant-loop-circuit
invariant-loop-circuit l = l.w ≡ l.fn.w ++ text_of (flat_map opening_lines (take l.circuit-index circuits))
