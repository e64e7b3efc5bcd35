-- The trace of lines within their bounds is within them too.
use Rattle.std.proofs.Common.{◌≡◌, ℕ, ◌+◌, ◌*◌, ◌^◌, ◌≤◌, ◌<◌, Bool, true, List, [], ◌∷◌, ◌++◌, append-nil, append_assoc, length, map, refl, sym, ap, subst}
use Rattle.std.proofs.Common.{◌∙◌, arith}
use Rattle.spl_base.specs.Ids.{is_circuit_id}
use Rattle.spl_agree.proofs.Tests.{and_left, and_right}
use Rattle.spl_circuit.specs.Nodes.{NodeId, CircuitId}
use Rattle.spl_sched.specs.{Grammar.{is_line, is_passes}, declared.line.Line.Line}
use Rattle.spl_sched.specs.declared.line.Line.TheVariants as line
use Rattle.spl_circuit_world.specs.{Worlds.{World, Occurrence, blank, first_world, occur}, Calm.calm, Answers.{events_of, world_before}, Projection.Ran}
use Rattle.spl_circuit_world.specs.{Projection.{plainly, line_fits, lines_fit, concerned}, Origins.is-blank, Whole.{whole_world, whole_happened}}
use Rattle.spl_circuit_world.{specs.declared.TheConstants.MOST_EVENTS, proofs.{LinesAsOccurrences.fit-append, Calms.calm-alike, Counts.events-more}}
use Rattle.spl_circuit_world.proofs.{Counts.happened-few, Happens.whole-run, Owns.{IsPair, fits-left, pair-before}}
use Rattle.spl_trace.{specs.Traced.{calm_lines, flat_ran, flat_after, flat}, proofs.FewMessages.{IsSmallWorld, occur-small, occur-sent, occur-nodes}}
use Rattle.spl_trace.proofs.TameCalms.{AreIds, AreLines, tame-calm}

-- more lines have no fewer events
events-grow : (ns : List NodeId) (xs ys : List Ran) → lines_fit (xs ++ ys) ≡ true → events_of (blank ns) xs ≤ events_of (blank ns) (xs ++ ys)
events-grow ns xs [] f = subst (λ (zs : List Ran). events_of (blank ns) xs ≤ events_of (blank ns) zs) (sym (append-nil xs)) (omega arith)
events-grow ns xs (y ∷ ys) f =
    let all : lines_fit ((xs ++ y ∷ []) ++ ys) ≡ true = subst (λ (zs : List Ran). lines_fit zs ≡ true) (sym (append_assoc xs (y ∷ []) ys)) f in
    let more = events-more (blank ns) xs y (is-blank ns) (fits-left (xs ++ y ∷ []) ys all) in
    let later = events-grow ns (xs ++ y ∷ []) ys all in
    let whole : events_of (blank ns) xs ≤ events_of (blank ns) ((xs ++ y ∷ []) ++ ys) = omega (arith, more, later) in
    subst (λ (zs : List Ran). events_of (blank ns) xs ≤ events_of (blank ns) zs) (append_assoc xs (y ∷ []) ys) whole

-- so many events send far fewer messages than numbers reach
room : (n : ℕ) → n ≤ MOST_EVENTS → 32 * n < 2 ^ 32
room n h = omega (arith, h)

module _ (ns : List NodeId) (ids : AreIds ns) where
  calm-fits : (before : List Ran) (c : CircuitId) (k : ℕ) (kept : Bool) → lines_fit (before ++ record { line = line.Calm c k; kept = kept } ∷ []) ≡ true
      → is_line (line.Calm c k) ≡ true → events_of (blank ns) (before ++ record { line = line.Calm c k; kept = kept } ∷ []) ≤ MOST_EVENTS
      → lines_fit (map plainly (calm_lines c (world_before (blank ns) c before (record { line = line.Calm c k; kept = kept })) k)) ≡ true
  calm-fits before c k kept f own most =
      subst AreLines (sym same) (tame-calm c w k (and_left (is_circuit_id c) (is_passes k) own) (subst AreIds (sym nodes) ids) small limit)
    where
      r : Ran
      r = record { line = line.Calm c k; kept = kept }

      w : World
      w = whole_world (blank ns) c before

      p : IsPair (concerned (blank ns) c (before ++ r ∷ [])) (world_before (blank ns) c before r) w
      p = pair-before (blank ns) c before r (is-blank ns) f

      same : (calm c (world_before (blank ns) c before r) k).happened ≡ (calm c w k).happened
      same = (calm-alike (concerned (blank ns) c (before ++ r ∷ [])) c (world_before (blank ns) c before r) w k p.alike p.confined).happened

      es : List Occurrence
      es = whole_happened (blank ns) c before

      run : w ≡ occur (first_world (blank ns) c) es
      run = whole-run c (first_world (blank ns) c) before

      nodes : w.nodes ≡ ns
      nodes = ap (λ (v : World). v.nodes) run ∙ occur-nodes (first_world (blank ns) c) es

      nothing : IsSmallWorld (first_world (blank ns) c)
      nothing n = tt

      small : IsSmallWorld w
      small = subst IsSmallWorld (sym run) (occur-small (first_world (blank ns) c) es nothing)

      sent : length w.sent ≤ 0 + 32 * length es
      sent = subst (λ (v : World). length v.sent ≤ 0 + 32 * length es) (sym run) (occur-sent (first_world (blank ns) c) es nothing)

      limit : length w.sent + 32 * length (calm c w k).happened < 2 ^ 32
      limit =
          let more : events_of (blank ns) (before ++ r ∷ []) ≡ events_of (blank ns) before + length (calm c w k).happened =
          events-more (blank ns) before r (is-blank ns) f in
          let so_far = happened-few (blank ns) c before (is-blank ns) (fits-left before (r ∷ []) f) in
          let enough = room (events_of (blank ns) (before ++ r ∷ [])) most in
          omega (arith, sent, more, so_far, enough)

  line-fits : (before : List Ran) (l : Line) (kept : Bool) → lines_fit (before ++ record { line = l; kept = kept } ∷ []) ≡ true → is_line l ≡ true
      → events_of (blank ns) (before ++ record { line = l; kept = kept } ∷ []) ≤ MOST_EVENTS
      → lines_fit (flat_ran (blank ns) before (record { line = l; kept = kept })) ≡ true
  line-fits before (line.Calm c k) kept f own most = calm-fits before c k kept f own most
  line-fits before (line.Step s) kept f own most = rw own refl
  line-fits before (line.Stop n) kept f own most = rw own refl
  line-fits before (line.Start n) kept f own most = rw own refl
  line-fits before (line.Roll n) kept f own most = rw own refl
  line-fits before (line.Check k) kept f own most = rw own refl
  line-fits before (line.Cut calls x s) kept f own most = rw own refl
  line-fits before (line.Fail call s) kept f own most = rw own refl

  after-fits : (before rs : List Ran) → lines_fit (before ++ rs) ≡ true → lines_fit rs ≡ true → events_of (blank ns) (before ++ rs) ≤ MOST_EVENTS
      → lines_fit (flat_after (blank ns) before rs) ≡ true
  after-fits before [] f own most = refl
  after-fits before (r ∷ rs) f own most =
      let all : lines_fit ((before ++ r ∷ []) ++ rs) ≡ true = subst (λ (xs : List Ran). lines_fit xs ≡ true) (sym (append_assoc before (r ∷ []) rs)) f in
      let whole : events_of (blank ns) ((before ++ r ∷ []) ++ rs) ≤ MOST_EVENTS =
      subst (λ (xs : List Ran). events_of (blank ns) xs ≤ MOST_EVENTS) (sym (append_assoc before (r ∷ []) rs)) most in
      let grows = events-grow ns (before ++ r ∷ []) rs all in
      let here : events_of (blank ns) (before ++ r ∷ []) ≤ MOST_EVENTS = omega (arith, grows, whole) in
      fit-append (flat_ran (blank ns) before r) (flat_after (blank ns) (before ++ r ∷ []) rs)
      (line-fits before r.line r.kept (fits-left (before ++ r ∷ []) rs all) (and_left (line_fits r) (lines_fit rs) own) here)
      (after-fits (before ++ r ∷ []) rs all (and_right (line_fits r) (lines_fit rs) own) whole)

pub flat-fits : (ns : List NodeId) (rs : List Ran) → AreIds ns → lines_fit rs ≡ true → events_of (blank ns) rs ≤ MOST_EVENTS
    → lines_fit (flat (blank ns) rs) ≡ true
flat-fits ns rs ids f most = after-fits ns ids [] rs f f most
