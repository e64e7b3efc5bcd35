use Rattle.std.{specs.Prelude.is_some, proofs.Common.{◌≡◌, ap, ◌∙◌}}
use Rattle.spl_agree.specs.Member.{has_round}
use Rattle.spl_commit.proofs.Index.{has_round-place}
use Rattle.spl_commit.proofs.history.History.has_round.Goals as goal

pub returns : goal.returns
returns g c =
    let same : has_round c.round.inside.0 c.self.inside.entries.items ≡ has_round c.args.round c.args.self.now = rw (c.round.view_is, c.self.view_is) in
    c.contains_key.ensures ∙ ap is_some (c.self.invariant.rounds_noted c.round.inside.0) ∙ has_round-place c.round.inside.0 c.self.inside.entries.items ∙ same
