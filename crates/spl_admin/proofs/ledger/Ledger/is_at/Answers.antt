use Rattle.std.{specs.{Option.option_copied, Str.bytes_eq}, proofs.Common.{[], length, Some, None, ◌==◌, ap, sym, ◌∙◌}}
use Rattle.spl_circuit.specs.{Nodes.node_or, declared.definition.Definition.Definition}
use Rattle.spl_admin.proofs.Positions.{node_at, is_no_node}
use Rattle.spl_admin.proofs.ledger.Ledger.is_at.Goals as goal

pub returns-in-Some : goal.returns-in-Some
returns-in-Some c =
    let members = c.definition.result.now.members in
    let place = c.args.position in
    let at = node_at members [] place (Some c.in-Some.member.now) (sym c.get.ensures ∙ ap option_copied c.in-Some.is) in
    c.eq.ensures ∙ ap (λ n. bytes_eq n c.args.node.now) (at ∙ ap (λ (d : Definition). node_or d.members [] place) c.definition.ensures.value)

pub returns-in-None : goal.returns-in-None
returns-in-None c =
    let members = c.definition.result.now.members in
    let place = c.args.position in
    let at = node_at members [] place None (sym c.get.ensures ∙ ap option_copied c.in-None.is) in
    c.is_empty.ensures ∙ ap (λ n. length n == 0) c.bytes.ensures.value ∙ is_no_node c.args.node.now
    ∙ ap (λ n. bytes_eq n c.args.node.now) (at ∙ ap (λ (d : Definition). node_or d.members [] place) c.definition.ensures.value)
