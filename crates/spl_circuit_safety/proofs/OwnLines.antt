-- A circuit's own lines are within their bounds, and what happens in them is plain.
use Rattle.std.{specs.{Prelude.{nat_le, nat_lt}, Str.bytes_eq}, proofs.Common.{◌≡◌, ◌^◌, true, not, ◌&&◌, List, [], ◌∷◌, ◌++◌, refl, sym, ap, subst, ◌∙◌}}
use Rattle.spl_agree.proofs.Tests.{if_holds, and_left, and_right}
use Rattle.spl_circuit.specs.Nodes.{NodeId, CircuitId, has_node}
use Rattle.spl_sched.specs.{Grammar.{is_event, is_inner_step, is_step, is_line, is_fill, step_node}, declared.line.{Line.Line, Step.Step}}
use Rattle.spl_sched.specs.declared.line.Step.TheVariants as step
use Rattle.spl_sched.specs.declared.line.Line.TheVariants as line
use Rattle.spl_base.specs.Ids.{is_node_id, is_circuit_id}
use Rattle.spl_circuit_world.specs.{Worlds.{blank, World, empty_world, Occurrence, occur}, Projection.{AllPlain, Ran, names, line_fits, lines_fit, concerned}}
use Rattle.spl_circuit_world.specs.{Projection.{at_one_of, beside, own_line, own_among, own}, Answers.{line_world, lines_world, occurrences_in}}
use Rattle.spl_circuit_world.{specs.Answers.{occurrences_from, occurrences}, proofs.LinesAsOccurrences.{run-append, plain-append, line-run, plain-line}}
use Rattle.spl_circuit_world.proofs.LinesAsOccurrences.{fit-append}

-- the world after lines is the one after what happens in them
pub lines-run : (w : World) (rs : List Ran) → lines_world w rs ≡ occur w (occurrences_from w rs)
lines-run w [] = refl
lines-run w (r ∷ rs) =
    lines-run (line_world w r.line r.kept) rs
    ∙ (ap (λ (x : World). occur x (occurrences_from (line_world w r.line r.kept) rs)) (line-run w r.line r.kept)
    ∙ sym (run-append w (occurrences_in w r.line r.kept) (occurrences_from (line_world w r.line r.kept) rs)))

-- lines
pub plain-lines : (w : World) (rs : List Ran) → lines_fit rs ≡ true → AllPlain (occurrences_from w rs)
plain-lines w [] h = tt
plain-lines w (r ∷ rs) h =
    plain-append (occurrences_in w r.line r.kept) (occurrences_from (line_world w r.line r.kept) rs)
    (plain-line w r.line r.kept (and_left (line_fits r) (lines_fit rs) h))
    (plain-lines (line_world w r.line r.kept) rs (and_right (line_fits r) (lines_fit rs) h))

-- a stop or a start of one of these nodes
pub fit-one : (ns : List NodeId) (n : NodeId) (l : Line) → is_line l ≡ true → lines_fit (at_one_of ns n l) ≡ true
fit-one ns n l h = if_holds (λ rs. lines_fit rs ≡ true) (has_node ns n) _ _ (λ q. rw h) (λ q. refl)

-- the node of a step has an id
pub node-fits : (s : Step) → is_step s ≡ true → is_node_id (step_node s) ≡ true
node-fits (step.At n c e) h = and_left (is_node_id n) (is_circuit_id c) (and_left (is_node_id n && is_circuit_id c) (is_event c e) h)
node-fits (step.Deliver from to c k) h =
    and_right (is_node_id from) (is_node_id to)
    (and_left (is_node_id from && is_node_id to) (is_circuit_id c) (and_left _ (nat_le 1 k && nat_lt k (2 ^ 32)) (and_left _ (not (bytes_eq from to)) h)))

-- what is left of a line
pub fit-beside : (ns : List NodeId) (l : Line) → is_line l ≡ true → lines_fit (beside ns l) ≡ true
fit-beside ns (line.Stop n) h = fit-one ns n (line.Stop n) h
fit-beside ns (line.Start n) h = fit-one ns n (line.Start n) h
fit-beside ns (line.Cut calls f s) h =
    fit-one ns (step_node s) (line.Stop (step_node s)) (node-fits s (and_right (nat_lt calls (2 ^ 8) && is_fill f && is_inner_step s) (is_step s) h))
fit-beside ns (line.Fail call s) h =
    fit-one ns (step_node s) (line.Stop (step_node s)) (node-fits s (and_right ((nat_le 1 call && nat_lt call (2 ^ 8)) && is_inner_step s) (is_step s) h))
fit-beside ns _ h = refl

-- a circuit's own lines are within their bounds
pub fit-own : (c : CircuitId) (ns : List NodeId) (rs : List Ran) → lines_fit rs ≡ true → lines_fit (own_among c ns rs) ≡ true
fit-own c ns [] h = refl
fit-own c ns (r ∷ rs) h = fit-append (own_line c ns r) (own_among c ns rs) here (fit-own c ns rs (and_right (line_fits r) (lines_fit rs) h))
  where
    first : is_line r.line ≡ true
    first = and_left (line_fits r) (lines_fit rs) h

    here : lines_fit (own_line c ns r) ≡ true
    here = if_holds (λ xs. lines_fit xs ≡ true) (names c r.line) _ _ (λ q. rw first) (λ q. fit-beside ns r.line first)

-- what is plain begins plainly
pub plain-prefix : (xs ys : List Occurrence) → AllPlain (xs ++ ys) → AllPlain xs
plain-prefix [] ys h = tt
plain-prefix (x ∷ xs) ys h = (h.0, plain-prefix xs ys h.1)

-- at each moment of a circuit's world
pub plain-moment : (ns : List NodeId) (c : CircuitId) (rs : List Ran) (es fs : List Occurrence) → lines_fit rs ≡ true
    → es ++ fs ≡ occurrences (blank ns) c rs → AllPlain es
plain-moment ns c rs es fs h e =
    plain-prefix es fs (subst AllPlain (sym e) (plain-lines (empty_world ns) (own (blank ns) c rs) (fit-own c (concerned (blank ns) c rs) rs h)))
