use Rattle.std.{specs.List.flat_map, proofs.Common.{◌≡◌, ◌++◌, take}}
use Rattle.spl_gen.specs.Generated.{accepted, text_of}
use Rattle.spl_gen.proofs.generate.put_acceptances.Given as goal

abbrev pub invariant-loop-number : goal.invariant-loop-number
invariant-loop-number l = l.w ≡ l.fn.w ++ text_of (flat_map (accepted l.circuit) (take l.number-index l.members))
