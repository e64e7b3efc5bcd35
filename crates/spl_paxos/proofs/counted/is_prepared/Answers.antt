use Rattle.std.proofs.Common.{◌∷◌, ◌∙◌}
use Rattle.spl_paxos.proofs.Preparing.{own_suffice}
use Rattle.spl_paxos.proofs.counted.is_prepared.Goals as goal

pub returns : goal.returns
returns c = c.any_has_ballot.ensures ∙ own_suffice c.args.group (c.args.heard.now ∷ c.args.counted.now) c.args.member
