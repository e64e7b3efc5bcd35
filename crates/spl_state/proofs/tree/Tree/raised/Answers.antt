-- A lone entry has one digest, and more have those of lone parts.
use Rattle.std.proofs.Common.{◌-◌, length, min, ap, ◌∙◌}
use Rattle.spl_state.{specs.Runs.raised, proofs.Thin.{few_raised, raised_part}}
use Rattle.spl_state.proofs.tree.Tree.raised.Goals as goal

pub returns-then-self-lt2 : goal.returns-then-self-lt2
returns-then-self-lt2 c =
    let sized = c.self.invariant.sized ∙ ap (λ s. min (length s.entries) 2) c.self.view_is in
    few_raised c.args.from c.self.inside.size c.args.self.now c.args.digest c.requires.digest sized c.if-self-lt2.true

pub returns-else-self-lt2 : goal.returns-else-self-lt2
returns-else-self-lt2 c =
    let sized = c.self.invariant.sized ∙ ap (λ s. min (length s.entries) 2) c.self.view_is in
    c.lone_parts.ensures ∙ ap (λ s. raised (s.depth - c.args.from) c.args.from c.args.path.now c.args.digest) c.self.view_is
    ∙ raised_part c.args.from c.self.inside.size c.args.path.now c.args.self.now c.args.digest c.requires.low c.requires.high c.requires.along
    c.requires.digest sized c.if-self-lt2.false
