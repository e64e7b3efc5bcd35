use Rattle.spl_cell.proofs.Rosters.{reaches_at}
use Rattle.spl_cell.proofs.site.Site.outgoing.Goals as goal

pub message-message-requires-clause-reached : goal.message-message-requires-clause-reached
message-message-requires-clause-reached g c =
    reaches_at g.L.Lane.kind c.args.definition.now c.args.back.now c.args.position c.member_or-to.result c.member_or-to.ensures c.requires.answered
