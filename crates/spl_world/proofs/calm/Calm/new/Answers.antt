use Rattle.spl_world.{specs.{Cursor.turns_from, Views.{world_node_ids, nodes_over}}, proofs.{Calms.calm_is, Common.{◌≡◌, ◌∙◌, ℕ, eqb, true, true≢false, []}}}
use Rattle.spl_world.proofs.{Common.{drop, refl, sym, ap, subst, arith, calming, open_nodes, passes, ticks}, Cursor.{begins_all, begins_none}}
use Rattle.spl_world.proofs.{Slots.length_ids, Turns.tracks_first, calm.Calm.new.Goals.{then-passes-eq0, else-passes-eq0}}
use Rattle.spl_world.proofs.calm.Calm.new.Goals as goal

pub returns-clause-begins : goal.returns-clause-begins
returns-clause-begins c = λ is m h.
    let ids = world_node_ids c.args.world.now in
    let same = length_ids c.args.world.now.slots.items in
    let i = c.if-passes-eq0.begin in
    let begins : passes c.args.circuit ids c.saturating_sub.result (turns_from c.args.circuit (ticks c.args.circuit (calming m) (open_nodes m (drop i ids))) ids (drop i ids) (drop 0 ids)) ≡ passes c.args.circuit ids c.args.passes (calming m) =
    elim c.if-passes-eq0.branch [
      | then-passes-eq0 w ↦ begins_none c.args.circuit ids (calming m) c.args.passes c.saturating_sub.result i (omega (arith, same, w.len-begin.ensures, w.begin-is)) w.if-passes-eq0.true c.saturating_sub.ensures
      | else-passes-eq0 w ↦ begins_all c.args.circuit ids (calming m) c.args.passes c.saturating_sub.result i w.begin-is w.if-passes-eq0.false c.saturating_sub.ensures
    ] in (
      record {
        tracks = tracks_first m ids c.in_ok-rows.rows.items (c.in_ok-rows.ensures.counts is m h);
        idle = λ off. (
            let first : i ≡ 0 = elim c.if-passes-eq0.branch [
              | then-passes-eq0 w ↦ absurd (true≢false (sym (subst (λ (n : ℕ). eqb n 0 ≡ true) (sym w.if-passes-eq0.true) refl) ∙ off))
              | else-passes-eq0 w ↦ w.begin-is
            ] in
            record { start = calming m; ticked = []; opened = ap (λ (n : ℕ). open_nodes m (drop n ids)) (sym first); idle = tt; now = refl; count = refl; from = first; to = refl });
        left = λ a left at asked. absurd cc;
      },
      begins ∙ calm_is c.args.circuit m (nodes_over c.args.world.now is) c.args.passes h,
    )
