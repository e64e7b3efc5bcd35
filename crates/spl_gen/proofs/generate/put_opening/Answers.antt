use Rattle.std.{specs.{Prelude.slice_index, List.flat_map}, proofs.Common.{List, ◌++◌, drop, ap, ◌∙◌}}
use Rattle.spl_wire.specs.declared.event.Event.TheVariants.{Propose}
use Rattle.spl_sched.specs.declared.line.Line.{Line}
use Rattle.spl_gen.{specs.{Circuits.{circuit_members, generated_definition}, Generated.{line_at, settled, accepted, text_of}}, proofs.Parts.proposed_is}
use Rattle.spl_gen.proofs.Texts.{put_then, further}
use Rattle.spl_gen.proofs.generate.put_opening.Goals as goal

pub returns : goal.returns
returns c =
    let circuit = c.args.circuit in
    put_then c.put_acceptances.result
    (settled circuit (line_at circuit (Propose (generated_definition circuit)) (slice_index (circuit_members circuit) 0)))
    (flat_map (accepted circuit) (drop 1 (circuit_members circuit))) c.args.w.now c.put_settled.new.w c.put_acceptances.new.w
    (c.in_ok-put_settled.ensures
    ∙ ap (λ (ls : List Line). c.args.w.now ++ text_of ls)
    (proposed_is circuit _ _ _ c.members-members.ensures.value c.in_ok-proposal.ensures c.at-proposed.ensures))
    (rw (c.members-members.ensures.value, further circuit) at c.put_acceptances.ensures)
