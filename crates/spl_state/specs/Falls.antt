-- Each part is nearer the last digit than the one that holds it.
use Rattle.std.{specs.Prelude.{ℕ, max, ◌≤◌, ◌<◌, ◌-◌, ◌+◌, List, [], ◌∷◌}, proofs.Common.arith}
use denote.Param.Weighed.{most}
use Rattle.spl_state.specs.{Part.{Part, AllAt, digits_left}, Kept.{entries_of, is_inner, thin_run, IsKept, IsShaped}, declared.tree.Body.Body}
use Rattle.spl_state.specs.declared.tree.{Body.TheVariants.{Empty, Leaf, Thin, Inner}, Tree.{TheDeep.deep-Body, TheInside.Inside}}

most_left : (d : ℕ) (ss : List Part) → d < 70 → AllAt (d + 1) ss → most (λ s. digits_left s + 1) ss ≤ 71 - d
most_left d [] low h = omega arith
most_left d (s ∷ ss) low h = omega (arith, h.0, most_left d ss low h.1)

by_body : (d : ℕ) (b : Body) → IsShaped d b → deep-Body b ≤ 71 - d
by_body d Empty h = omega arith
by_body d (Leaf a v) h = omega arith
by_body d (Thin path part) h = omega (arith, h.low, h.high)
by_body d (Inner kids) h = omega (arith, most_left d kids.items h.low h.below)

pub falls : (a : Inside) → IsKept a.depth a.size a.fresh a.digest a.body
    → max (deep-Body a.body) 0 ≤ digits_left (record { depth = a.depth; entries = entries_of a.body; inner = is_inner a.body; thin = thin_run a.body })
falls a h = omega (arith, by_body a.depth a.body h.shaped)
