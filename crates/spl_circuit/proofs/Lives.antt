-- One act more, and the place of the disband.
use Rattle.std.proofs.Common.{◌≡◌, ◌≤◌, ℕ, suc, ◌+◌, List, [], ◌∷◌, ◌++◌, length, ap, ◌∙◌, arith}
use Rattle.spl_circuit.specs.{Nodes.Node, Lifecycle.{Life, life, life_from, life_after, no_life}, declared.act.{Act.Act, ActKind.ActKind}}
use Rattle.spl_circuit.specs.declared.definition.Definition.{Definition}
use Rattle.spl_circuit.specs.declared.act.ActKind.TheVariants as kind

life_from_more : (d : Definition) (place : ℕ) (l : Life) (acts : List Act) (a : Act)
    → life_from d place l (acts ++ a ∷ []) ≡ life_after d (place + length acts) (life_from d place l acts) a.node a.kind
life_from_more d place l [] a = ap (λ (p : ℕ). life_after d p l a.node a.kind) (omega arith)
life_from_more d place l (b ∷ acts) a =
    life_from_more d (suc place) (life_after d place l b.node b.kind) acts a
    ∙ ap (λ (p : ℕ). life_after d p (life_from d (suc place) (life_after d place l b.node b.kind) acts) a.node a.kind) (omega arith)

pub life_more : (d : Definition) (acts : List Act) (a : Act) → life d (acts ++ a ∷ []) ≡ life_after d (length acts) (life d acts) a.node a.kind
life_more d acts a = life_from_more d 0 no_life acts a ∙ ap (λ (p : ℕ). life_after d p (life d acts) a.node a.kind) (omega arith)

place_after : (d : Definition) (place : ℕ) (l : Life) (n : Node) (k : ActKind) → l.disband.place ≤ place → (life_after d place l n k).disband.place ≤ place
place_after d place l n kind.Disband h = omega arith
place_after d place l n _ h = h

places_below : (d : Definition) (place : ℕ) (l : Life) (acts : List Act) → l.disband.place ≤ place
    → (life_from d place l acts).disband.place ≤ place + length acts
places_below d place l [] h = omega (arith, h)
places_below d place l (a ∷ rest) h =
    let first = place_after d place l a.node a.kind h in
    let after = places_below d (suc place) (life_after d place l a.node a.kind) rest (omega (arith, first)) in
    omega (arith, after)

-- a disband stands at no place after the acts
pub place_below : (d : Definition) (acts : List Act) → (life d acts).disband.place ≤ length acts
place_below d acts = let below = places_below d 0 no_life acts (omega arith) in omega (arith, below)
