use Rattle.spl_world.{specs.Cursor.turns_from, proofs.Common.{◌≡◌, ◌+◌, ◌-◌, ◌≤◌, ◌∙◌, ℕ, [], length, drop, refl, ap, arith, open_nodes, passes, ticks}}
use Rattle.spl_world.proofs.Cursor.{begins_pass}
use Rattle.spl_world.proofs.calm.Calm.goes_on.Goals as goal

pub returns-clause-first : goal.returns-clause-first
returns-clause-first c = λ n ids z yes e o.
    let k = c.args.self.now in
    let slot : length ids ≤ k.slot = omega (arith, e, o.slot) in
    let from : length ids ≤ k.from = omega (arith, e, o.from) in
    let later : (k.later - 1) + 1 ≡ k.later = omega (arith, c.if-self-eq0.false) in
    begins_pass k.circuit ids z (k.later - 1) k.slot k.from (drop k.to ids) slot from
    ∙ ap (λ (l : ℕ). passes k.circuit ids l (turns_from k.circuit (ticks k.circuit z (open_nodes z.world (drop k.slot ids))) ids (drop k.from ids) (drop k.to ids))) later

pub returns-clause-idle : goal.returns-clause-idle
returns-clause-idle c = λ ids z yes. record { start = z; ticked = []; opened = refl; idle = tt; now = refl; count = refl; from = refl; to = refl }
