-- The first of some tasks are within the limits of all.
use Rattle.std.proofs.Common.{◌≡◌, ◌≤◌, ◌+◌, inl, inr, ℕ, List, [], ◌∷◌, ◌++◌, sym, ◌∙◌, ap, subst, arith}
use Rattle.spl_lines.specs.Tasks.{AreTasksWithin, Task, ran_by, watches_in}
use Rattle.spl_circuit_world.specs.{Worlds.Origin, Answers.{events_after, events_of, stops_of}, Projection.Ran}
use Rattle.spl_runs.proofs.Tasks.{ran-append, watches-append}
use Rattle.spl_world.specs.Held.{IsOverLimit}

events_grow : (o : Origin) (before xs ys : List Ran) → events_after o before xs ≤ events_after o before (xs ++ ys)
events_grow o before [] ys = omega arith
events_grow o before (r ∷ xs) ys = let rest = events_grow o (before ++ r ∷ []) xs ys in omega (arith, rest)

stops-append : (xs ys : List Ran) → stops_of (xs ++ ys) ≡ stops_of xs + stops_of ys
stops-append [] ys = omega arith
stops-append (x ∷ xs) ys = let rest = stops-append xs ys in omega (arith, rest)

events_first : (o : Origin) (xs ys : List Ran) → events_of o xs ≤ events_of o (xs ++ ys)
unfolding events_of
events_first o xs ys = events_grow o [] xs ys

pub within_first : (o : Origin) (xs ys all : List Task) → all ≡ xs ++ ys → AreTasksWithin o all → AreTasksWithin o xs
within_first o xs ys all same few =
    let ran : ran_by all ≡ ran_by xs ++ ran_by ys = ap ran_by same ∙ ran-append xs ys in
    let watches : watches_in all ≡ watches_in xs + watches_in ys = ap watches_in same ∙ watches-append xs ys in
    let events = subst (λ (rs : List Ran). events_of o (ran_by xs) ≤ events_of o rs) (sym ran) (events_first o (ran_by xs) (ran_by ys)) in
    let stops = subst (λ (rs : List Ran). stops_of (ran_by xs) ≤ stops_of rs) (sym ran) (omega (arith, stops-append (ran_by xs) (ran_by ys))) in
    (omega (arith, events, watches, few.0), omega (arith, stops, few.1))

-- tasks within their limits pass none
pub not_over : (o : Origin) (ts : List Task) (which : ℕ) → AreTasksWithin o ts → IsOverLimit o (watches_in ts) (ran_by ts) which → ⊥
not_over o ts which few (inl over) = omega (arith, few.0, over.1)
not_over o ts which few (inr over) = omega (arith, few.1, over.2)
