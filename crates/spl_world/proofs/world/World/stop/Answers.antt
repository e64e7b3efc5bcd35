use Rattle.spl_world.specs.{Counts.is_of_limit, Held.LineEnds, Views.{IsPlace, StandsAfterLines, world_node_ids, places_of}}
use Rattle.spl_world.{specs.declared.{fault.WorldFault.{WorldFault, TheVariants.Disk}, world.World.World}, proofs.Common.{◌++◌, ◌∷◌, [], ◌≡◌, ℕ, true}}
use Rattle.spl_world.proofs.Common.{true≢false, List, Result, Ok, Err, IfErr, refl, ap, sym, ◌∙◌, by_rule, Ran, Origin, whole_world, Line}
use Rattle.spl_world.proofs.{EndingLines.ended_still, Results.halted_by, Standing.{stands_still, within_line, within_stops}}
use Rattle.spl_world.proofs.world.World.stop.Goals as goal
use Rattle.spl_node.specs.Benches.{Images}
use Rattle.spl_sched.specs.declared.line.Line.TheVariants as line
use Rattle.spl_edge.proofs.Results.{at_ok}

-- a limit names no disk
no_place : (ks : List ℕ) (e : WorldFault) → is_of_limit e ≡ true → (k : ℕ) → e ≡ Disk k → IsPlace ks k
no_place ks e h k q = absurd (true≢false (sym h ∙ ap is_of_limit q))

limit_ends : {o : Origin} {others : ℕ} {A : Type 0} (r : Result A WorldFault) (before : List Ran) (w : World) (is : List Images) (l : Line) → StandsAfterLines o others before w is → IfErr r (λ e. is_of_limit e ≡ true) → IfErr r (λ e. LineEnds (λ c. whole_world o c before) l e (world_node_ids w) (places_of w) is)
limit_ends (Ok a) before w is l stands only = tt
limit_ends (Err e) before w is l stands only = ended_still before w is stands e (no_place (places_of w) e only) l is refl

pub returns-clause-halts : goal.returns-clause-halts
returns-clause-halts c = halted_by c.stop_node-answered.result _ c.is_err-failed.ensures.value

pub returns-clause-runs : goal.returns-clause-runs
returns-clause-runs c = λ is o others before stands. record {
  ran = record {
    answer = c.stop_node-answered.ensures.answer is o others before stands;
    stands = at_ok c.stop_node-answered.result (stands_still (before ++ by_rule (line.Stop c.args.node.now) ∷ []) c.stop_node-answered.new.self is c.is_err-failed.result) (c.stop_node-answered.ensures.stands is o others before stands);
    ended = limit_ends c.stop_node-answered.result before c.args.self.now is (line.Stop c.args.node.now) stands c.stop_node-answered.ensures.only;
  };
  many = λ which q. c.stop_node-answered.ensures.many is o others before which stands q;
}

pub returns-clause-within : goal.returns-clause-within
returns-clause-within c = λ is o others before stands.
    let after = c.stop_node-answered.ensures.stands is o others before stands in
    record {
      few = at_ok c.stop_node-answered.result
          (λ standing. within_line (before ++ by_rule (line.Stop c.args.node.now) ∷ []) c.stop_node-answered.new.self is standing c.are_within.ensures) after;
      fewer = at_ok c.stop_node-answered.result (λ standing. within_stops (before ++ by_rule (line.Stop c.args.node.now) ∷ []) c.stop_node-answered.new.self is standing c.are_within-2.ensures) after;
    }
