-- A schedule and its trace are one run: line by line, in the worlds after all lines.
use Rattle.std.{specs.{Prelude.if◌then◌else◌, Str.bytes_eq}, proofs.Common.{◌≡◌, ◌⊎◌, ℕ, Bool, true, false, List, [], ◌∷◌, ◌++◌, append-nil, append_assoc}}
use Rattle.std.proofs.{Common.{map, refl, sym, ap, subst, ◌∙◌, inl, inr}, Math.Path.fun_ext}
use Rattle.spl_agree.proofs.Tests.{bool_cases}
use Rattle.spl_circuit.specs.{Nodes.{NodeId, CircuitId}, Same.node_is}
use Rattle.spl_wire.specs.declared.answer.Answer.{Answer}
use Rattle.spl_wire.specs.declared.answer.Answer.TheVariants as answer
use Rattle.spl_wire.specs.declared.answer.Refusal.TheVariants as refusal
use Rattle.spl_sched.specs.{Grammar.is_calm, declared.line.Line.Line}
use Rattle.spl_sched.specs.declared.line.Line.TheVariants as line
use Rattle.spl_cell_rules.specs.Cells.{Cell, is_bound}
use Rattle.spl_circuit_world.specs.{Worlds.{Origin, IsOrigin, World, Occurrence, occur, first_world}, Calm.calm, Projection.{Ran, plainly, lines_fit}}
use Rattle.spl_circuit_world.specs.{Projection.concerned, Answers.{line_answer, world_before, is_up, bound_at, roll_answer, answer_to}}
use Rattle.spl_circuit_world.{specs.{Whole.{world_after_line, whole_from, whole_world}, Apart.whole_from-append}, proofs.LinesAsOccurrences.run-calm}
use Rattle.spl_circuit_world.proofs.{Calms.calm-alike, Owns.{IsPair, fits-left, pair-before, answer-whole, own-same}, Ups.whole-up, Rolls.bound-ascends}
use Rattle.spl_circuit_world.proofs.Rolls.{bound-has, bound-is}
use Rattle.spl_trace.{specs.Traced.{calm_lines, steps_in, flat_line, flat_ran, flat_after, flat, IsOneRun}, proofs.CalmLines.{calm-of, lines-own}}
use Rattle.spl_trace.proofs.CalmLines.{lines-other}

-- ---- lists of lines

-- the trace of lines, one list after the other
pub flat-append : (o : Origin) (before xs ys : List Ran) → flat_after o before (xs ++ ys) ≡ flat_after o before xs ++ flat_after o (before ++ xs) ys
flat-append o before [] ys = ap (λ (bs : List Ran). flat_after o bs ys) (sym (append-nil before))
flat-append o before (x ∷ xs) ys =
    ap (λ (zs : List Ran). flat_ran o before x ++ zs)
    (flat-append o (before ++ x ∷ []) xs ys
    ∙ ap (λ (bs : List Ran). flat_after o (before ++ x ∷ []) xs ++ flat_after o bs ys) (append_assoc before (x ∷ []) xs))
    ∙ sym (append_assoc (flat_ran o before x) (flat_after o (before ++ x ∷ []) xs) (flat_after o (before ++ x ∷ xs) ys))

-- any line but a calm is itself
flat-same : (worlds : CircuitId → World) (l : Line) (kept : Bool) → is_calm l ≡ false → flat_line worlds l kept ≡ record { line = l; kept = kept } ∷ []
flat-same worlds (line.Calm c k) kept h = cc
flat-same worlds (line.Step s) kept h = refl
flat-same worlds (line.Stop n) kept h = refl
flat-same worlds (line.Start n) kept h = refl
flat-same worlds (line.Roll n) kept h = refl
flat-same worlds (line.Check k) kept h = refl
flat-same worlds (line.Cut calls f s) kept h = refl
flat-same worlds (line.Fail call s) kept h = refl

-- ---- a line

-- a calm and its lines, which are those of the world after its circuit's own lines
calm-step : (c i : CircuitId) (w v own : World) (k : ℕ) (kept : Bool) → (calm i own k).happened ≡ (calm i v k).happened → (bytes_eq i c ≡ true → v ≡ w)
    → whole_from c w (map plainly (calm_lines i own k)) ≡ world_after_line c w (record { line = line.Calm i k; kept = kept })
calm-step c i w v own k kept same is = ap (λ (es : List Occurrence). whole_from c w (map plainly (steps_in es))) same ∙ go (bool_cases (bytes_eq i c))
  where
    mine : bytes_eq i c ≡ true → whole_from c w (map plainly (steps_in (calm i v k).happened)) ≡ (calm i w k).world
    mine q =
        ap (λ (x : World). whole_from c w (map plainly (steps_in (calm i x k).happened))) (is q)
        ∙ (subst (λ (j : CircuitId). whole_from j w (map plainly (steps_in (calm i w k).happened)) ≡ occur w (calm i w k).happened) (node_is i c q)
        (lines-own i w (calm i w k).happened (calm-of i w k))
        ∙ sym ((run-calm i w k).same))

    go : (bytes_eq i c ≡ true) ⊎ (bytes_eq i c ≡ false)
        → whole_from c w (map plainly (steps_in (calm i v k).happened)) ≡ world_after_line c w (record { line = line.Calm i k; kept = kept })
    go (inl q) = mine q ∙ sym (after q)
      where
        after : bytes_eq i c ≡ true → world_after_line c w (record { line = line.Calm i k; kept = kept }) ≡ (calm i w k).world
        after z = rw z refl
    go (inr q) = lines-other i c w (calm i v k).happened q (calm-of i v k) ∙ sym (after q)
      where
        after : bytes_eq i c ≡ false → world_after_line c w (record { line = line.Calm i k; kept = kept }) ≡ w
        after z = rw z refl

-- any line
line-step : (o : Origin) (c : CircuitId) (before : List Ran) (l : Line) (kept : Bool) → IsOrigin o
    → lines_fit (before ++ record { line = l; kept = kept } ∷ []) ≡ true
    → whole_from c (whole_world o c before) (flat_ran o before (record { line = l; kept = kept }))
    ≡ world_after_line c (whole_world o c before) (record { line = l; kept = kept })
line-step o c before (line.Calm i k) kept g f = calm-step c i (whole_world o c before) (whole_world o i before) (world_before o i before r) k kept same is
  where
    r : Ran
    r = record { line = line.Calm i k; kept = kept }

    p : IsPair (concerned o i (before ++ r ∷ [])) (world_before o i before r) (whole_world o i before)
    p = pair-before o i before r g f

    same : (calm i (world_before o i before r) k).happened ≡ (calm i (whole_world o i before) k).happened
    same = (calm-alike (concerned o i (before ++ r ∷ [])) i (world_before o i before r) (whole_world o i before) k p.alike p.confined).happened

    is : bytes_eq i c ≡ true → whole_world o i before ≡ whole_world o c before
    is q = ap (λ (j : CircuitId). whole_world o j before) (node_is i c q)
line-step o c before (line.Step s) kept g f = refl
line-step o c before (line.Stop n) kept g f = refl
line-step o c before (line.Start n) kept g f = refl
line-step o c before (line.Roll n) kept g f = refl
line-step o c before (line.Check k) kept g f = refl
line-step o c before (line.Cut calls x s) kept g f = refl
line-step o c before (line.Fail call s) kept g f = refl

-- ---- lines

whole-after : (o : Origin) (c : CircuitId) (before rs : List Ran) → IsOrigin o → lines_fit (before ++ rs) ≡ true
    → whole_from c (whole_world o c before) (flat_after o before rs) ≡ whole_from c (whole_world o c before) rs
whole-after o c before [] g f = refl
whole-after o c before (r ∷ rs) g f =
    whole_from-append c (whole_world o c before) (flat_ran o before r) (flat_after o (before ++ r ∷ []) rs)
    ∙ (ap (λ (w : World). whole_from c w (flat_after o (before ++ r ∷ []) rs)) (line-step o c before r.line r.kept g here ∙ sym next)
    ∙ (whole-after o c (before ++ r ∷ []) rs g all
    ∙ ap (λ (w : World). whole_from c w rs) next))
  where
    all : lines_fit ((before ++ r ∷ []) ++ rs) ≡ true
    all = subst (λ (xs : List Ran). lines_fit xs ≡ true) (sym (append_assoc before (r ∷ []) rs)) f

    here : lines_fit (before ++ r ∷ []) ≡ true
    here = fits-left (before ++ r ∷ []) rs all

    next : whole_world o c (before ++ r ∷ []) ≡ world_after_line c (whole_world o c before) r
    next = whole_from-append c (first_world o c) before (r ∷ [])

pub whole-flat : (o : Origin) (c : CircuitId) (rs : List Ran) → IsOrigin o → lines_fit rs ≡ true → whole_world o c (flat o rs) ≡ whole_world o c rs
whole-flat o c rs g f = whole-after o c [] rs g f

-- ---- answers

-- where all worlds are the same, so is a node's roll
roll-same : (o : Origin) (xs ys : List Ran) (n : NodeId) → IsOrigin o → lines_fit xs ≡ true → lines_fit ys ≡ true
    → ((c : CircuitId) → whole_world o c xs ≡ whole_world o c ys) → roll_answer o xs n ≡ roll_answer o ys n
roll-same o xs ys n g f h same =
    ap (λ (b : Bool). if b then answer.Roll (bound_at o xs n) else answer.Refused refusal.Down) up
    ∙ ap (λ (cs : List CircuitId). if is_up n ys then answer.Roll cs else answer.Refused refusal.Down) bound
  where
    up : is_up n xs ≡ is_up n ys
    up = sym (whole-up o n xs n) ∙ (ap (λ (w : World). w.up n) (same n) ∙ whole-up o n ys n)

    bound : bound_at o xs n ≡ bound_at o ys n
    bound = bound-is o ys n (bound_at o xs n) g h (bound-ascends o xs n) (λ c. bound-has o xs n c g f ∙ ap (λ (w : World). is_bound (w.at n)) (same c))

answer-same : (o : Origin) (xs ys : List Ran) (r : Ran) → IsOrigin o → lines_fit (xs ++ r ∷ []) ≡ true → lines_fit (ys ++ r ∷ []) ≡ true
    → ((c : CircuitId) → whole_world o c xs ≡ whole_world o c ys) → answer_to o xs r ≡ answer_to o ys r
answer-same o xs ys r g f h same =
    answer-whole o xs r g f
    ∙ (ap (λ (ws : CircuitId → World). line_answer ws (λ n. roll_answer o (xs ++ r ∷ []) n) r.line r.kept) (fun_ext same)
    ∙ (ap (λ (roll : NodeId → Answer). line_answer (λ c. whole_world o c ys) roll r.line r.kept)
    (fun_ext (λ n. roll-same o (xs ++ r ∷ []) (ys ++ r ∷ []) n g f h later))
    ∙ sym (answer-whole o ys r g h)))
  where
    later : (c : CircuitId) → whole_world o c (xs ++ r ∷ []) ≡ whole_world o c (ys ++ r ∷ [])
    later c = whole_from-append c (first_world o c) xs (r ∷ [])
        ∙ (ap (λ (w : World). whole_from c w (r ∷ [])) (same c) ∙ sym (whole_from-append c (first_world o c) ys (r ∷ [])))

pub one-run : (o : Origin) (rs : List Ran) → IsOrigin o → lines_fit rs ≡ true → lines_fit (flat o rs) ≡ true → IsOneRun o rs
one-run o rs g f h = record {
  answers = answered;
  worlds = λ c. whole-flat o c rs g f;
  cells = λ c n. ap (λ (at : NodeId → Cell). at n)
      ((own-same o c (flat o rs) g h).at ∙ (ap (λ (w : World). w.at) (whole-flat o c rs g f) ∙ sym (own-same o c rs g f).at));
  sent = λ c. (own-same o c (flat o rs) g h).sent ∙ (ap (λ (w : World). w.sent) (whole-flat o c rs g f) ∙ sym (own-same o c rs g f).sent);
  up = λ n. sym (whole-up o n (flat o rs) n) ∙ (ap (λ (w : World). w.up n) (whole-flat o n rs g f) ∙ whole-up o n rs n);
}
  where
    answered : (before after : List Ran) (r : Ran) → before ++ r ∷ after ≡ rs → is_calm r.line ≡ false → answer_to o (flat o before) r ≡ answer_to o before r
    answered before after r e n = answer-same o (flat o before) before r g trace lines (λ c. whole-flat o c before g (fits-left before (r ∷ []) lines))
      where
        split : (before ++ r ∷ []) ++ after ≡ rs
        split = append_assoc before (r ∷ []) after ∙ e

        lines : lines_fit (before ++ r ∷ []) ≡ true
        lines = fits-left (before ++ r ∷ []) after (subst (λ (xs : List Ran). lines_fit xs ≡ true) (sym split) f)

        prefix : flat o (before ++ r ∷ []) ≡ flat o before ++ r ∷ []
        prefix = flat-append o [] before (r ∷ [])
            ∙ ap (λ (xs : List Ran). flat o before ++ xs) (append-nil (flat_ran o before r) ∙ flat-same (λ c. world_before o c before r) r.line r.kept n)

        trace : lines_fit (flat o before ++ r ∷ []) ≡ true
        trace = subst (λ (xs : List Ran). lines_fit xs ≡ true) prefix (fits-left (flat o (before ++ r ∷ [])) (flat_after o (before ++ r ∷ []) after)
            (subst (λ (xs : List Ran). lines_fit xs ≡ true) (flat-append o [] (before ++ r ∷ []) after)
            (subst (λ (xs : List Ran). lines_fit (flat o xs) ≡ true) (sym split) h)))
