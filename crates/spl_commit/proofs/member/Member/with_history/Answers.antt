use Rattle.std.{specs.Prelude.slice_get, proofs.Common.{ℕ, ◌<◌, length, sym, ap, ◌∙◌, arith}}
use Rattle.spl_agree.specs.Pack.{committed_each}
use Rattle.spl_agree.specs.declared.event.GroupChange.TheVariants as change
use Rattle.spl_commit.proofs.{Packs.{committed_next, step_one, some-below}, member.Member.with_history.Goals.{in-Some+in_ok-copy+in_ok-push, in_default}}
use Rattle.spl_commit.proofs.member.Member.with_history.Goals as goal

pub loop-i-preserved : goal.loop-i-preserved
loop-i-preserved g c =
    elim c.match-get.branch [
      | in-Some+in_ok-copy+in_ok-push w ↦
          let e : ℕ × g.row.M-Value.Denot = (w.in-Some.entry.0, w.in-Some.entry.1.now) in
          let at = ap (λ m. slice_get m.state.history c.loop-i.i) (sym c.self.view_is) ∙ sym (rw w.in-Some.is at c.get.ensures) in
          step_one committed_each (λ e. change.Commit e.0 e.1) committed_next c.args.first c.loop-i.all c.match-get.all c.args.self.now.state.history
          c.loop-i.i e (change.Commit w.in-Some.entry.0 w.in_ok-copy.field-0) at
          (ap (λ v. change.Commit w.in-Some.entry.0 v) w.in_ok-copy.ensures) c.loop-i.invariant (w.all-is ∙ w.in_ok-push.ensures.ok)
      | in_default w ↦
          let l : c.loop-i.i < length c.self.inside.history = omega (arith, c.loop-i-test.true, c.len-i-end.ensures) in
          absurd (some-below c.self.inside.history c.loop-i.i l (sym (rw w.in_default.is at c.get.ensures)))
    ]
