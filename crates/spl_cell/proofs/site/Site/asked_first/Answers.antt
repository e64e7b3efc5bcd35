use Rattle.std.proofs.Common.{◌≡◌, true, None, sym, ap, subst, ◌∙◌}
use Rattle.spl_circuit.specs.{Nodes.{NodeId, position}, Rules.{broken, is_member}, declared.definition.Definition.Definition}
use Rattle.spl_cell.proofs.Positions.{sender_other}
use Rattle.spl_cell.proofs.site.Site.asked_first.Goals as goal

pub binds-requires-clause-due : goal.binds-requires-clause-due
binds-requires-clause-due c =
    let yes = c.if-not-can_bind_asked.false in
    let can = c.can_bind_asked.ensures in
    let from : NodeId = c.args.from.now in
    let here : NodeId = c.args.self.now.here in
    let valid = subst (λ (d : Definition). broken d ≡ None) (sym c.get-terms.ensures) (can.valid yes) in
    let member = subst (λ (d : Definition). is_member d here ≡ true) (sym c.get-terms.ensures) (can.member yes) in
    let apart = sender_other c.get-terms.result.now from here valid member c.requires.other in (
      sym (can.generation yes),
      λ q. apart (sym c.position-sender.ensures ∙ q ∙ ap (λ (d : Definition). position d.members here) (sym c.get-terms.ensures)),
    )
