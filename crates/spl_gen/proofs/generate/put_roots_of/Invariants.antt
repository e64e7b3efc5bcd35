use Rattle.std.{specs.List.flat_map, proofs.Common.{◌≡◌, ◌++◌, take}}
use Rattle.spl_gen.specs.Generated.{root_lines, text_of}
use Rattle.spl_gen.proofs.generate.put_roots_of.Given as goal

abbrev pub invariant-loop-number : goal.invariant-loop-number
invariant-loop-number l = l.w ≡ l.fn.w ++ text_of (flat_map (root_lines l.circuit) (take l.number-index l.number-items))
