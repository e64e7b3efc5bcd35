-- A line more has the events that it has in the worlds after all lines.
use Rattle.std.proofs.Common.{◌≡◌, ℕ, ◌+◌, ◌≤◌, Bool, true, List, [], ◌∷◌, ◌++◌, append-nil, append_assoc, length, length-append, refl, sym, ap, subst, ◌∙◌}
use Rattle.std.proofs.Common.{arith}
use Rattle.spl_agree.proofs.Tests.{if_holds}
use Rattle.spl_circuit.specs.{Nodes.{NodeId, CircuitId}, Same.{node_same, node_is}}
use Rattle.spl_sched.specs.declared.line.Line.{Line}
use Rattle.spl_sched.specs.declared.line.Line.TheVariants as line
use Rattle.spl_circuit_world.specs.{Worlds.{Origin, IsOrigin, World, Occurrence, first_world}, Projection.{Ran, lines_fit, names, concerned}, Calm.calm}
use Rattle.spl_circuit_world.specs.{Answers.{occurrences_in, world_before, line_events, events_after, events_of}, Whole.{world_after_line, whole_world}}
use Rattle.spl_circuit_world.{specs.{Whole.{happened_beside, happened_in, happened_from, whole_happened}, Apart.whole_from-append}, proofs.Calms.calm-alike}
use Rattle.spl_circuit_world.proofs.Owns.{IsPair, fits-left, pair-before}

-- the events of a line, in the worlds of the circuit after the own lines and after all
events-same : (ns : CircuitId → List NodeId) (ws vs : CircuitId → World) (l : Line) → ((c : CircuitId) → names c l ≡ true → IsPair (ns c) (ws c) (vs c))
    → line_events ws l ≡ line_events vs l
events-same ns ws vs (line.Calm c k) h =
    let p : IsPair (ns c) (ws c) (vs c) = h c (node_same c) in
    ap (λ (es : List Occurrence). length es) (calm-alike (ns c) c (ws c) (vs c) k p.alike p.confined).happened
events-same ns ws vs _ h = refl

events-append : (o : Origin) (before xs : List Ran) (r : Ran)
    → events_after o before (xs ++ r ∷ []) ≡ events_after o before xs + line_events (λ c. world_before o c (before ++ xs) r) r.line
events-append o before [] r =
    let same : line_events (λ c. world_before o c before r) r.line ≡ line_events (λ c. world_before o c (before ++ []) r) r.line =
    ap (λ (bs : List Ran). line_events (λ c. world_before o c bs r) r.line) (sym (append-nil before)) in
    omega (arith, same)
events-append o before (x ∷ xs) r =
    let rest = events-append o (before ++ x ∷ []) xs r in
    let same : line_events (λ c. world_before o c ((before ++ x ∷ []) ++ xs) r) r.line ≡ line_events (λ c. world_before o c (before ++ x ∷ xs) r) r.line =
    ap (λ (bs : List Ran). line_events (λ c. world_before o c bs r) r.line) (append_assoc before (x ∷ []) xs) in
    omega (arith, rest, same)

line-whole : (o : Origin) (before : List Ran) (r : Ran) → IsOrigin o → lines_fit (before ++ r ∷ []) ≡ true
    → line_events (λ c. world_before o c before r) r.line ≡ line_events (λ c. whole_world o c before) r.line
line-whole o before r i f =
    events-same (λ c. concerned o c (before ++ r ∷ [])) (λ c. world_before o c before r) (λ c. whole_world o c before) r.line
    (λ c q. pair-before o c before r i f)

pub events-none : (o : Origin) → events_of o [] ≡ 0
unfolding events_of
events-none o = refl

pub events-more : (o : Origin) (before : List Ran) (r : Ran) → IsOrigin o → lines_fit (before ++ r ∷ []) ≡ true
    → events_of o (before ++ r ∷ []) ≡ events_of o before + line_events (λ c. whole_world o c before) r.line
unfolding events_of
events-more o before r i f = events-append o [] before r ∙ ap (λ (n : ℕ). events_after o [] before + n) (line-whole o before r i f)

-- ---- what happens in the world of a circuit

few-beside : (worlds : CircuitId → World) (l : Line) → length (happened_beside l) ≤ line_events worlds l
few-beside worlds (line.Calm d k) = omega arith
few-beside worlds (line.Step s) = omega arith
few-beside worlds (line.Stop n) = omega arith
few-beside worlds (line.Start n) = omega arith
few-beside worlds (line.Roll n) = omega arith
few-beside worlds (line.Check k) = omega arith
few-beside worlds (line.Cut calls f s) = omega arith
few-beside worlds (line.Fail call s) = omega arith

few-named : (worlds : CircuitId → World) (c : CircuitId) (l : Line) (kept : Bool) → names c l ≡ true
    → length (occurrences_in (worlds c) l kept) ≤ line_events worlds l
few-named worlds c (line.Calm d k) kept q =
    subst (λ (e : CircuitId). length (calm d (worlds e) k).happened ≤ length (calm d (worlds d) k).happened) (node_is d c q) (omega arith)
few-named worlds c (line.Step s) kept q = omega arith
few-named worlds c (line.Stop n) kept q = omega arith
few-named worlds c (line.Start n) kept q = omega arith
few-named worlds c (line.Roll n) kept q = omega arith
few-named worlds c (line.Check k) kept q = omega arith
few-named worlds c (line.Cut calls f s) kept q = omega arith
few-named worlds c (line.Fail call s) kept q = omega arith

few-in : (worlds : CircuitId → World) (c : CircuitId) (r : Ran) → length (happened_in c (worlds c) r) ≤ line_events worlds r.line
few-in worlds c r =
    if_holds (λ (es : List Occurrence). length es ≤ line_events worlds r.line) (names c r.line) _ _ (λ q. few-named worlds c r.line r.kept q)
    (λ q. few-beside worlds r.line)

few-after : (o : Origin) (c : CircuitId) (before rs : List Ran) → IsOrigin o → lines_fit (before ++ rs) ≡ true
    → length (happened_from c (whole_world o c before) rs) ≤ events_after o before rs
few-after o c before [] i f = omega arith
few-after o c before (r ∷ rs) i f =
    let all : lines_fit ((before ++ r ∷ []) ++ rs) ≡ true = subst (λ (xs : List Ran). lines_fit xs ≡ true) (sym (append_assoc before (r ∷ []) rs)) f in
    let same : line_events (λ d. world_before o d before r) r.line ≡ line_events (λ d. whole_world o d before) r.line =
    line-whole o before r i (fits-left (before ++ r ∷ []) rs all) in
    let next : whole_world o c (before ++ r ∷ []) ≡ world_after_line c (whole_world o c before) r = whole_from-append c (first_world o c) before (r ∷ []) in
    let rest : length (happened_from c (world_after_line c (whole_world o c before) r) rs) ≤ events_after o (before ++ r ∷ []) rs =
    subst (λ (w : World). length (happened_from c w rs) ≤ events_after o (before ++ r ∷ []) rs) next (few-after o c (before ++ r ∷ []) rs i all) in
    omega (
      arith,
      same,
      rest,
      few-in (λ d. whole_world o d before) c r,
      length-append (happened_in c (whole_world o c before) r) (happened_from c (world_after_line c (whole_world o c before) r) rs),
    )

pub happened-few : (o : Origin) (c : CircuitId) (rs : List Ran) → IsOrigin o → lines_fit rs ≡ true → length (whole_happened o c rs) ≤ events_of o rs
unfolding events_of
happened-few o c rs i f = few-after o c [] rs i f
