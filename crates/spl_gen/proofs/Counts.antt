-- How many lines there are.
use Rattle.std.{specs.{Prelude.{◌==◌, if◌then◌else◌}, List.flat_map}, proofs.Common.{◌≡◌, ℕ, zero, suc, ◌+◌, ◌*◌, ◌/◌, ◌%◌, Bool, true, false, List, []}}
use Rattle.std.proofs.{Common.{◌++◌, length, refl, arith, length-append}, lemmas.Bool.{eqb-true, eqb-false}}
use Rattle.spl_sched.specs.declared.line.Line.{Line}
use Rattle.spl_gen.specs.{Draws.{next_state, draw}, Circuits.circuits, Generated.{opening_lines, restart, restart_lines, batch_lines, state, batches, roots}}
use Rattle.spl_gen.specs.Generated.{generated}

-- the lines of stops and starts at batch k
pauses : ℕ → ℕ
pauses k = if k % 50 == 0 then 2 else 0

restarted_many : (k x : ℕ) → length (restart_lines k x) ≡ pauses k
unfolding pauses
restarted_many k x = elim (k % 50 == 0) as (λ b. length (if b then restart (1 + draw x % 4) else []) ≡ (if b then 2 else 0)) [ true ↦ refl | false ↦ refl ]

pauses_at : (b : Bool) (n : ℕ) → (suc n % 50 == 0) ≡ b → 2 * (n / 50) + (if b then 2 else 0) ≡ 2 * (suc n / 50)
pauses_at true n e = let h : suc n % 50 ≡ 0 = eqb-true (suc n % 50) 0 e in omega arith
pauses_at false n e = let h : suc n % 50 ≡ 0 → ⊥ = eqb-false (suc n % 50) 0 e in omega arith

pauses_more : (n : ℕ) → 2 * (n / 50) + pauses (suc n) ≡ 2 * (suc n / 50)
unfolding pauses
pauses_more n = pauses_at (suc n % 50 == 0) n refl

batches_many : (n seed : ℕ) → length (batches n seed) ≡ 2 * n + 2 * (n / 50)
batches_many zero seed = refl
batches_many (suc n) seed =
    let x : ℕ = state n seed in
    let y : ℕ = next_state (next_state (next_state x)) in
    let here : length (batches n seed ++ batch_lines (suc n) x) ≡ length (batches n seed) + length (batch_lines (suc n) x) =
    length-append (batches n seed) (batch_lines (suc n) x) in
    let parts : length (batch_lines (suc n) x) ≡ suc (suc (length (restart_lines (suc n) y))) = refl in
    omega (arith, here, parts, restarted_many (suc n) y, pauses_more n, batches_many n seed)

pub generated_many : (n seed : ℕ) → length (generated n seed) ≡ 27 + 2 * n + 2 * (n / 50)
generated_many n seed =
    let openings : List Line = flat_map opening_lines circuits in
    let all : length (openings ++ batches n seed ++ flat_map roots circuits) ≡ length (openings ++ batches n seed) + length (flat_map roots circuits) =
    length-append (openings ++ batches n seed) (flat_map roots circuits) in
    let prefix : length (openings ++ batches n seed) ≡ length openings + length (batches n seed) = length-append openings (batches n seed) in
    let first : length openings ≡ 18 = refl in
    let last : length (flat_map roots circuits) ≡ 9 = refl in
    omega (arith, all, prefix, first, last, batches_many n seed)
