use Rattle.std.{specs.List.flat_map, proofs.Common.{[], ◌++◌}}
use Rattle.spl_gen.{specs.{Circuits.circuits, Generated.{opening_lines, batches, roots}}, proofs.Texts.text_then}
use Rattle.spl_gen.proofs.generate.schedule.Goals as goal

pub returns : goal.returns
returns c =
    let prefix =
    text_then (flat_map opening_lines circuits) (batches c.args.n c.args.seed) [] c.put_openings.new.w c.put_batches.new.w
    (cc c.in_ok-put_openings.ensures) c.in_ok-put_batches.ensures in
    let all = text_then (flat_map opening_lines circuits ++ batches c.args.n c.args.seed)
    (flat_map roots circuits) [] c.put_batches.new.w c.put_roots.new.w prefix c.in_ok-put_roots.ensures in
    cc
