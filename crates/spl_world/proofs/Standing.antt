-- What stands after a line more.
use Rattle.spl_circuit_world.specs.{Answers.{line_world, answer_to, line_answer, roll_answer, line_stops}, Projection.{names_circuit, names}, Apart.moves-own}
use Rattle.spl_circuit_world.{specs.{Whole.world_beside, declared.TheConstants.MOST_STOPS}, proofs.{LinesAsOccurrences.fit-append, Owns.answer-whole}}
use Rattle.spl_sched.specs.Grammar.{line_circuit}
use Rattle.spl_sched.specs.declared.line.Line.TheVariants as line
use Rattle.spl_world.specs.{Counts.Counts, Held.stops, Views.{HoldsWorld, Moves, Sits, StandsAfterLines, world_node_ids, nodes_over}}
use Rattle.spl_world.{specs.declared.{fault.WorldFault.{WorldFault, TheVariants.TooMany}, world.World.World}, proofs.Common.{◌≡◌, ◌⊎◌, inl, inr, ℕ, ◌+◌, ◌<◌}}
use Rattle.spl_world.proofs.Common.{◌≤◌, Bool, true, false, true≢false, List, [], ◌∷◌, ◌++◌, Some, Result, IfOk, refl, ap, sym, ◌∙◌, subst, arith, IsErrOf}
use Rattle.spl_world.proofs.Common.{bytes_eq, bool_cases, bytes_are, NodeId, CircuitId, line_events, events_of, stops_of, by_rule, keeps_record, Ran}
use Rattle.spl_world.proofs.Common.{lines_fit, IsOrigin, Origin, CircuitWorld, step_plan, MOST_EVENTS, moves-beside, whole_world, events-more, step_circuit}
use Rattle.spl_world.proofs.Common.{is_line, Line, Step, Answer}
use Rattle.spl_node.specs.Benches.{Images}
use Rattle.spl_wire.specs.declared.answer.Answer.TheVariants as answer
use Rattle.spl_edge.proofs.Results.{when_ok}

-- lines within their bounds, and one more
pub fits_after : (before : List Ran) (l : Line) → lines_fit before ≡ true → is_line l ≡ true → lines_fit (before ++ by_rule l ∷ []) ≡ true
fits_after before l h k = fit-append before (by_rule l ∷ []) h (rw k)

-- the events of lines, and of one more, which are so many in the world after all lines
pub events_after : {o : Origin} {others : ℕ} (old : World) (was : List Images) (before : List Ran) (l : Line) (n : ℕ) → StandsAfterLines o others before old was → is_line l ≡ true → line_events (λ c. whole_world o c before) l ≡ n → events_of o (before ++ by_rule l ∷ []) + others ≡ old.events + n
events_after {o} old was before l n stands fits e =
    omega (arith, events-more o before (by_rule l) stands.begins (fits_after before l stands.fit fits), stands.counted, e)

-- they are counted
pub counted_line : {o : Origin} {others : ℕ} (new : ℕ) (old : World) (was : List Images) (before : List Ran) (l : Line) (n : ℕ) → StandsAfterLines o others before old was → is_line l ≡ true → line_events (λ c. whole_world o c before) l ≡ n → new + 0 ≡ old.events + n → new ≡ events_of o (before ++ by_rule l ∷ []) + others
counted_line new old was before l n stands fits e k = let sum : new ≡ old.events + n = omega (arith, k) in sum ∙ sym (events_after old was before l n stands fits e)

-- or they are too many
pub over_line : {o : Origin} {others : ℕ} {A : Type 0} (r : Result A WorldFault) (new which : ℕ) (old : World) (was : List Images) (before : List Ran) (l : Line) (n : ℕ) → StandsAfterLines o others before old was → is_line l ≡ true → line_events (λ c. whole_world o c before) l ≡ n → Counts r old.events new 0 n → IsErrOf r (TooMany which) → (which ≡ 1) × (MOST_EVENTS < events_of o (before ++ by_rule l ∷ []) + others)
over_line r new which old was before l n stands fits e k q =
    let p = k.many which q in
    let nodes_over : MOST_EVENTS < old.events + n = omega (arith, p.1) in
    (p.0, subst (λ (t : ℕ). MOST_EVENTS < t) (sym (events_after old was before l n stands fits e)) nodes_over)

-- the stops of lines, and of one more
pub stops_after : (before : List Ran) (r : Ran) → stops_of (before ++ r ∷ []) ≡ stops_of before + line_stops r.line
stops_after [] r = omega arith
stops_after (b ∷ bs) r = let rest = stops_after bs r in omega (arith, rest)

pub no_stop : (before : List Ran) (r : Ran) (old new : ℕ) → line_stops r.line ≡ 0 → new ≡ old → old ≡ stops_of before → new ≡ stops_of (before ++ r ∷ [])
no_stop before r old new none same e = let more = stops_after before r in omega (arith, more, none, same, e)

-- a line of a circuit moved its world, and no other, and was counted
pub stands_after : {o : Origin} {others : ℕ} (before : List Ran) (l : Line) (c : CircuitId) (old new : World) (was is : List Images) → line_circuit l ≡ Some c → is_line l ≡ true → ((w : CircuitWorld) → world_beside w l ≡ w) → line_stops l ≡ 0 → new.stops ≡ old.stops → world_node_ids new ≡ world_node_ids old → StandsAfterLines o others before old was → new.events ≡ events_of o (before ++ by_rule l ∷ []) + others → Moves c (λ m. line_world m l (keeps_record l)) (nodes_over old was) (nodes_over new is) → Sits (nodes_over new is) → StandsAfterLines o others (before ++ by_rule l ∷ []) new is
stands_after {o} {others} before l c old new was is about fits still none stops ids stands counted moves sits = record {
  begins = stands.begins;
  nodes = ids ∙ stands.nodes;
  fit = fits_after before l stands.fit fits;
  counted = counted;
  stopped = no_stop before (by_rule l) old.stops new.stops none stops stands.stopped;
  each = λ d. go d (bool_cases (bytes_eq c d));
  sits = sits;
}
  where
    go : (d : CircuitId) → (bytes_eq c d ≡ true) ⊎ (bytes_eq c d ≡ false) → HoldsWorld d (whole_world o d (before ++ by_rule l ∷ [])) (nodes_over new is)
    go d (inl q) =
        let hit : names d l ≡ true = ap (names_circuit d) about ∙ q in
        subst (λ (m : CircuitWorld). HoldsWorld d m (nodes_over new is)) (sym (moves-own o before (by_rule l) d hit))
        (subst (λ (e : NodeId). HoldsWorld e (line_world (whole_world o e before) l (keeps_record l)) (nodes_over new is)) (bytes_are c d q)
        (moves.own (whole_world o c before) (stands.each c)))
    go d (inr q) =
        let miss : names d l ≡ false = ap (names_circuit d) about ∙ q in
        subst (λ (m : CircuitWorld). HoldsWorld d m (nodes_over new is)) (sym (moves-beside o before (by_rule l) d miss ∙ still (whole_world o d before)))
        (moves.others d (whole_world o d before) q (stands.each d))

-- whether the world is halted says nothing of what stands
pub stands_still : {o : Origin} {others : ℕ} (before : List Ran) (w : World) (is : List Images) (b : Bool) → StandsAfterLines o others before w is
    → StandsAfterLines o others before (record w { halted = b }) is
stands_still before w is b stands = record { begins = stands.begins; nodes = stands.nodes; fit = stands.fit; counted = stands.counted; stopped = stands.stopped; each = stands.each; sits = stands.sits }

-- lines that stand are within the limit
pub within_line : {o : Origin} {others : ℕ} (before : List Ran) (w : World) (is : List Images) → StandsAfterLines o others before w is
    → w.events ≤ MOST_EVENTS → events_of o before + others ≤ MOST_EVENTS
within_line before w is stands within = subst (λ (k : ℕ). k ≤ MOST_EVENTS) stands.counted within

pub within_stops : {o : Origin} {others : ℕ} (before : List Ran) (w : World) (is : List Images) → StandsAfterLines o others before w is → w.stops ≤ MOST_STOPS → stops_of before ≤ MOST_STOPS
within_stops before w is stands within = subst (λ (k : ℕ). k ≤ MOST_STOPS) stands.stopped within

-- one stop more than there is room for
pub over_stops : {o : Origin} {others : ℕ} (before : List Ran) (r : Ran) (old : World) (was : List Images) → StandsAfterLines o others before old was
    → old.stops ≡ MOST_STOPS → line_stops r.line ≡ 1 → MOST_STOPS < stops_of (before ++ r ∷ [])
over_stops before r old was stands full one = let more = stops_after before r in let were = stands.stopped in omega (arith, more, were, full, one)

-- a line that stops a node is one event and one stop
pub one_event : (worlds : CircuitId → CircuitWorld) (l : Line) → stops l ≡ true → line_events worlds l ≡ 1
one_event worlds (line.Calm c k) h = absurd (true≢false (sym h))
one_event worlds _ h = refl

pub one_stop : (l : Line) → stops l ≡ true → line_stops l ≡ 1
one_stop (line.Stop n) h = refl
one_stop (line.Cut calls f s) h = refl
one_stop (line.Fail call s) h = refl
one_stop _ h = absurd (true≢false (sym h))

pub none_counted : (l : Line) → stops l ≡ false → line_stops l ≡ 0
none_counted (line.Stop n) h = absurd cc
none_counted (line.Cut calls fill s) h = absurd cc
none_counted (line.Fail call s) h = absurd cc
none_counted _ h = refl

-- a line that starts or stops a node is answered so
pub power_answered : (o : Origin) → IsOrigin o → (before : List Ran) (l : Line) → lines_fit before ≡ true → is_line l ≡ true
    → answer_to o before (by_rule l) ≡ line_answer (λ c. whole_world o c before) (λ n. roll_answer o (before ++ by_rule l ∷ []) n) l (keeps_record l)
power_answered o begins before l fit fits = answer-whole o before (by_rule l) begins (fits_after before l fit fits)

-- a step is answered in the world of its circuit
pub step_answered : (o : Origin) → IsOrigin o → (before : List Ran) (s : Step) → lines_fit (before ++ by_rule (line.Step s) ∷ []) ≡ true
    → answer_to o before (by_rule (line.Step s)) ≡ (step_plan (whole_world o (step_circuit s) before) s).answer
step_answered o begins before s fits = answer-whole o before (by_rule (line.Step s)) begins fits

-- so is the result of one
pub step_result : {E : Type 0} (r : Result Answer E) (o : Origin) → IsOrigin o → (before : List Ran) (l : Line) (s : Step) → l ≡ line.Step s → lines_fit before ≡ true → is_line l ≡ true → IfOk r (λ a. a ≡ (step_plan (whole_world o (step_circuit s) before) s).answer) → IfOk r (λ a. a ≡ answer_to o before (by_rule l))
step_result r o begins before l s is fit fits told =
    subst (λ (x : Line). IfOk r (λ a. a ≡ answer_to o before (by_rule x))) (sym is)
    (when_ok r (λ a e. e ∙ sym (step_answered o begins before s (fits_after before (line.Step s) fit (subst (λ (x : Line). is_line x ≡ true) is fits)))) told)

-- a calm is answered with its passes
pub calm_answered : (o : Origin) → IsOrigin o → (before : List Ran) (l : Line) (c : CircuitId) (k : ℕ) → l ≡ line.Calm c k → lines_fit before ≡ true
    → is_line l ≡ true → answer.Calm k ≡ answer_to o before (by_rule l)
calm_answered o begins before l c k is fit fits =
    subst (λ (x : Line). answer.Calm k ≡ answer_to o before (by_rule x)) (sym is)
    (sym (answer-whole o before (by_rule (line.Calm c k)) begins (fits_after before (line.Calm c k) fit (subst (λ (x : Line). is_line x ≡ true) is fits))))
