-- A circuit has the same lists after its own lines and after all lines.
use Rattle.std.{specs.{Prelude.if◌then◌else◌, Str.bytes_eq}, proofs.Common.{◌≡◌, ◌⊎◌, Bool, true, false, List, [], ◌∷◌, ◌++◌, append-nil, append_assoc, refl}}
use Rattle.std.proofs.Common.{sym, ap, ◌∙◌, inl, inr}
use Rattle.spl_agree.proofs.Tests.{if_holds, bool_cases, and_left, and_right}
use Rattle.spl_circuit.specs.{Nodes.{NodeId, CircuitId, has_node}, Rules.{admin, service}, declared.definition.Definition.Definition}
use Rattle.spl_wire.specs.declared.{change.Change.Change, plan.Plan.Plan}
use Rattle.spl_sched.specs.{Grammar.step_node, declared.line.Line.Line}
use Rattle.spl_sched.specs.declared.line.Line.TheVariants as line
use Rattle.spl_cell_rules.specs.Cells.{Cell}
use Rattle.spl_circuit_world.specs.{Origins.is-blank, Worlds.{blank, World, Occurrence, Steps, Stops, Starts, Halts, first_world, step_plan, circuit_happens}}
use Rattle.spl_circuit_world.specs.{Worlds.{occur, node_of}, Projection.{Ran, line_fits, lines_fit, names, concerned, at_one_of, beside, own_line, own_among}}
use Rattle.spl_circuit_world.specs.{Answers.{line_world, lines_world, occurrences_in, occurrences_from, occurrences}, Whole.world_after_line}
use Rattle.spl_circuit_world.{specs.Whole.{happened_beside, happened_in, happened_from, whole_happened}, proofs.{Happens.after-run, Alike.IsAlike}}
use Rattle.spl_circuit_world.proofs.{Alike.{up-alike, same-alike, plan-alike, IsHere, happens-alike, AllHere}, Owns.{IsPair, pair-first, named-within}}
use Rattle.spl_circuit_world.proofs.{Owns.{Concerns, AllConcern, ran-pair, concerned-keep, concerned-all}, Moments.{occurrences-same, occurrences-here}}
use Rattle.spl_circuit_safety.specs.Agreement.{changes_of, is_bound_to, acts_in, batches_in, adds, list_from, act_list, batch_list}
use Rattle.spl_circuit_safety.proofs.OwnLines.{lines-run}

-- what happens in lines, one list after the other
occurrences-append : (w : World) (xs ys : List Ran) → occurrences_from w (xs ++ ys) ≡ occurrences_from w xs ++ occurrences_from (lines_world w xs) ys
occurrences-append w [] ys = refl
occurrences-append w (x ∷ xs) ys =
    ap (λ (es : List Occurrence). occurrences_in w x.line x.kept ++ es) (occurrences-append (line_world w x.line x.kept) xs ys)
    ∙ sym (append_assoc (occurrences_in w x.line x.kept) (occurrences_from (line_world w x.line x.kept) xs)
    (occurrences_from (lines_world (line_world w x.line x.kept) xs) ys))

-- alike worlds change alike
changes-alike : (ns : List NodeId) (w v : World) (e : Occurrence) → IsAlike ns w v → IsHere ns e → changes_of w e ≡ changes_of v e
changes-alike ns w v (Steps s) a h = ap (λ (p : Plan). p.changes) (plan-alike ns w v s a h)
changes-alike ns w v (Stops n) a h = refl
changes-alike ns w v (Starts n) a h = refl
changes-alike ns w v (Halts kept s) a h =
    ap (λ (b : Bool). if b then (if kept then (step_plan w s).changes else []) else []) (up-alike ns w v (step_node s) a h)
    ∙ ap (λ (p : Plan). if v.up (step_node s) then (if kept then p.changes else []) else []) (plan-alike ns w v s a h)

module _ {V : Type 0} (values : List Change → List V) (none : values [] ≡ []) (leader : NodeId) (d : Definition) where
  -- what is committed in one list of occurrences after the other
  pub list-append : (w : World) (es fs : List Occurrence)
      → list_from values leader d w (es ++ fs) ≡ list_from values leader d w es ++ list_from values leader d (occur w es) fs
  list-append w [] fs = refl
  list-append w (e ∷ es) fs =
      ap (λ (xs : List V). adds values leader d w e ++ xs) (list-append (circuit_happens w e) es fs)
      ∙ sym (append_assoc (adds values leader d w e) (list_from values leader d (circuit_happens w e) es)
      (list_from values leader d (occur (circuit_happens w e) es) fs))

  -- in alike worlds
  adds-alike : (ns : List NodeId) (w v : World) (e : Occurrence) → IsAlike ns w v → IsHere ns e → adds values leader d w e ≡ adds values leader d v e
  adds-alike ns w v e a h =
      ap (λ (at : NodeId → Cell). if bytes_eq (node_of e) leader then (if is_bound_to d (at leader) then values (changes_of w e) else []) else [])
      (same-alike ns w v a).at
      ∙ ap (λ (xs : List Change). if bytes_eq (node_of e) leader then (if is_bound_to d (v.at leader) then values xs else []) else [])
      (changes-alike ns w v e a h)

  list-alike : (ns : List NodeId) (w v : World) (es : List Occurrence) → IsAlike ns w v → AllHere ns es
      → list_from values leader d w es ≡ list_from values leader d v es
  list-alike ns w v [] a h = refl
  list-alike ns w v (e ∷ es) a h =
      ap (λ (xs : List V). xs ++ list_from values leader d (circuit_happens w e) es) (adds-alike ns w v e a h.0)
      ∙ ap (λ (xs : List V). adds values leader d v e ++ xs) (list-alike ns (circuit_happens w e) (circuit_happens v e) es (happens-alike ns w v e a h.0) h.1)

  -- ---- stops and starts

  adds-none : (w : World) (e : Occurrence) → changes_of w e ≡ [] → list_from values leader d w (e ∷ []) ≡ []
  adds-none w e h =
      append-nil _ ∙ if_holds (λ (xs : List V). xs ≡ []) (bytes_eq (node_of e) leader) _ _
      (λ q. if_holds (λ (xs : List V). xs ≡ []) (is_bound_to d (w.at leader)) _ _ (λ b. ap values h ∙ none) (λ b. refl)) (λ q. refl)

  none-stop : (ns : List NodeId) (w : World) (n : NodeId) → list_from values leader d w (occurrences_from w (at_one_of ns n (line.Stop n))) ≡ []
  none-stop ns w n =
      if_holds (λ (rs : List Ran). list_from values leader d w (occurrences_from w rs) ≡ []) (has_node ns n) _ _ (λ q. adds-none w (Stops n) refl) (λ q. refl)

  none-start : (ns : List NodeId) (w : World) (n : NodeId) → list_from values leader d w (occurrences_from w (at_one_of ns n (line.Start n))) ≡ []
  none-start ns w n =
      if_holds (λ (rs : List Ran). list_from values leader d w (occurrences_from w rs) ≡ []) (has_node ns n) _ _ (λ q. adds-none w (Starts n) refl)
      (λ q. refl)

  none-beside : (ns : List NodeId) (w : World) (l : Line) → list_from values leader d w (occurrences_from w (beside ns l)) ≡ []
  none-beside ns w (line.Stop n) = none-stop ns w n
  none-beside ns w (line.Start n) = none-start ns w n
  none-beside ns w (line.Cut calls fill s) = none-stop ns w (step_node s)
  none-beside ns w (line.Fail call s) = none-stop ns w (step_node s)
  none-beside ns w _ = refl

  none-happened : (v : World) (l : Line) → list_from values leader d v (happened_beside l) ≡ []
  none-happened v (line.Stop n) = adds-none v (Stops n) refl
  none-happened v (line.Start n) = adds-none v (Starts n) refl
  none-happened v (line.Cut calls fill s) = adds-none v (Stops (step_node s)) refl
  none-happened v (line.Fail call s) = adds-none v (Stops (step_node s)) refl
  none-happened v _ = refl

  -- ---- lines

  list-ran : (ns : List NodeId) (c : CircuitId) (w v : World) (r : Ran) → Concerns ns c r → IsPair ns w v
      → list_from values leader d w (occurrences_from w (own_line c ns r)) ≡ list_from values leader d v (happened_in c v r)
  list-ran ns c w v r h p = go (bool_cases (names c r.line))
    where
      named : names c r.line ≡ true
          → list_from values leader d w (occurrences_in w r.line r.kept ++ []) ≡ list_from values leader d v (occurrences_in v r.line r.kept)
      named q =
          ap (λ (es : List Occurrence). list_from values leader d w es) (append-nil _ ∙ occurrences-same ns w v r.line r.kept p)
          ∙ list-alike ns w v (occurrences_in v r.line r.kept) p.alike (occurrences-here ns w v r.line r.kept (named-within ns c r.line q (h q)) p)

      go : (names c r.line ≡ true) ⊎ (names c r.line ≡ false)
          → list_from values leader d w (occurrences_from w (own_line c ns r)) ≡ list_from values leader d v (happened_in c v r)
      go (inl q) = rw q (named q)
      go (inr q) = rw q (none-beside ns w r.line ∙ sym (none-happened v r.line))

  list-lines : (ns : List NodeId) (c : CircuitId) (w v : World) (rs : List Ran) → lines_fit rs ≡ true → AllConcern ns c rs → IsPair ns w v
      → list_from values leader d w (occurrences_from w (own_among c ns rs)) ≡ list_from values leader d v (happened_from c v rs)
  list-lines ns c w v [] f h p = refl
  list-lines ns c w v (r ∷ rs) f h p =
      let rest : list_from values leader d next (occurrences_from next (own_among c ns rs)) ≡ list_from values leader d later (happened_from c later rs) =
      list-lines ns c next later rs (and_right (line_fits r) (lines_fit rs) f) h.1
      (ran-pair ns c w v r (and_left (line_fits r) (lines_fit rs) f) h.0 p) in
      own_lines ∙ (first ∙ (ap (λ (xs : List V). list_from values leader d v (happened_in c v r) ++ xs) rest ∙ sym all_lines))
    where
      next : World
      next = lines_world w (own_line c ns r)

      later : World
      later = world_after_line c v r

      own_lines : list_from values leader d w (occurrences_from w (own_line c ns r ++ own_among c ns rs))
          ≡ list_from values leader d w (occurrences_from w (own_line c ns r)) ++ list_from values leader d next (occurrences_from next (own_among c ns rs))
      own_lines =
          ap (λ (es : List Occurrence). list_from values leader d w es) (occurrences-append w (own_line c ns r) (own_among c ns rs))
          ∙ (list-append w (occurrences_from w (own_line c ns r)) (occurrences_from next (own_among c ns rs))
          ∙ ap (λ (x : World). list_from values leader d w (occurrences_from w (own_line c ns r))
          ++ list_from values leader d x (occurrences_from next (own_among c ns rs))) (sym (lines-run w (own_line c ns r))))

      all_lines : list_from values leader d v (happened_in c v r ++ happened_from c later rs)
          ≡ list_from values leader d v (happened_in c v r) ++ list_from values leader d later (happened_from c later rs)
      all_lines =
          list-append v (happened_in c v r) (happened_from c later rs)
          ∙ ap (λ (x : World). list_from values leader d v (happened_in c v r) ++ list_from values leader d x (happened_from c later rs))
          (sym (after-run c v r))

      first : list_from values leader d w (occurrences_from w (own_line c ns r))
          ++ list_from values leader d next (occurrences_from next (own_among c ns rs))
          ≡ list_from values leader d v (happened_in c v r) ++ list_from values leader d next (occurrences_from next (own_among c ns rs))
      first = ap (λ (xs : List V). xs ++ list_from values leader d next (occurrences_from next (own_among c ns rs))) (list-ran ns c w v r h.0 p)

  list-own : (ns : List NodeId) (c : CircuitId) (rs : List Ran) → lines_fit rs ≡ true
      → list_from values leader d (first_world (blank ns) c) (occurrences (blank ns) c rs)
      ≡ list_from values leader d (first_world (blank ns) c) (whole_happened (blank ns) c rs)
  list-own ns c rs f =
      list-lines all c (first_world (blank ns) c) (first_world (blank ns) c) rs f (concerned-all (blank ns) c rs)
      (pair-first all (blank ns) c (concerned-keep (blank ns) c rs (is-blank ns)))
    where
      all : List NodeId
      all = concerned (blank ns) c rs

pub same-acts : (ns : List NodeId) (c : CircuitId) (d : Definition) (rs : List Ran) → lines_fit rs ≡ true
    → act_list ns d (occurrences (blank ns) c rs) ≡ act_list ns d (whole_happened (blank ns) c rs)
same-acts ns c d rs f = list-own acts_in refl (admin d) d ns c rs f

pub same-batches : (ns : List NodeId) (c : CircuitId) (d : Definition) (rs : List Ran) → lines_fit rs ≡ true
    → batch_list ns d (occurrences (blank ns) c rs) ≡ batch_list ns d (whole_happened (blank ns) c rs)
same-batches ns c d rs f = list-own batches_in refl (service d) d ns c rs f
