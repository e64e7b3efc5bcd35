use Rattle.std.proofs.Common.{arith}
use Rattle.spl_gen.{specs.{Circuits.circuits, Generated.opening_lines, declared.circuit.Circuit.TheVariants.First}, proofs.Texts.text_more}
use Rattle.spl_gen.proofs.generate.put_openings.Goals as goal

pub loop-circuit-preserved : goal.loop-circuit-preserved
loop-circuit-preserved c =
    text_more opening_lines c.args.w.now c.loop-circuit.w c.put_opening.new.w circuits c.loop-circuit.circuit-index First
    (omega arith) c.loop-circuit.invariant (cc c.in_ok-put_opening.ensures)
