-- A lone entry has one digest, and more have those of lone parts.
use Rattle.std.proofs.Common.{◌≡◌, ◌-◌, length, min, ap, ◌∙◌, arith}
use Rattle.spl_state.{specs.Runs.raised, proofs.Thin.{few_raised, raised_part}}
use Rattle.spl_state.proofs.tree.Tree.raised_from_first.Goals as goal

pub returns-then-self-lt2 : goal.returns-then-self-lt2
returns-then-self-lt2 c =
    let sized = c.self.invariant.sized ∙ ap (λ s. min (length s.entries) 2) c.self.view_is in
    few_raised 0 c.self.inside.size c.args.self.now c.kept_or_made-digest.result c.kept_or_made-digest.ensures sized c.if-self-lt2.true

pub returns-else-self-lt2 : goal.returns-else-self-lt2
returns-else-self-lt2 c =
    let sized = c.self.invariant.sized ∙ ap (λ s. min (length s.entries) 2) c.self.view_is in
    let all : c.args.self.now.depth ≡ c.args.self.now.depth - 0 = omega arith in
    c.raise.ensures ∙ ap (λ s. raised s.depth 0 c.args.path.now c.kept_or_made-digest.result) c.self.view_is
    ∙ ap (λ n. raised n 0 c.args.path.now c.kept_or_made-digest.result) all
    ∙ raised_part 0 c.self.inside.size c.args.path.now c.args.self.now c.kept_or_made-digest.result
    (omega arith) c.requires.high c.requires.along c.kept_or_made-digest.ensures sized c.if-self-lt2.false
