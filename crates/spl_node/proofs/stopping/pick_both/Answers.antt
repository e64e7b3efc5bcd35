use Rattle.std.proofs.Common.{inl, refl, ap, ◌∙◌, arith}
use Rattle.spl_node.proofs.Leaving.{no_more_asked, no_more_picked, no_more_still, picks_asked}
use Rattle.spl_node.proofs.stopping.pick_both.Goals as goal
use Rattle.spl_edge.proofs.Results.{at_err}

pub returns-in_err-pick-clause-first_left : goal.returns-in_err-pick-clause-first_left
returns-in_err-pick-clause-first_left g c =
    no_more_still _ _ (ap (g.D.Disk.view c.pick.new.self).image_at c.in_err-pick.ensures.err.0
    ∙ c.pick.ensures.past (g.D.Disk.view c.args.disks.now.first).moment (omega arith))

pub returns-in_err-pick-clause-second_left : goal.returns-in_err-pick-clause-second_left
returns-in_err-pick-clause-second_left g c = no_more_still _ _ refl

pub returns-clause-first_left : goal.returns-clause-first_left
returns-clause-first_left g c = no_more_picked _ _ _ _ _ _ _ c.in_ok-pick.ensures.ok

pub returns-clause-second_left : goal.returns-clause-second_left
returns-clause-second_left g c =
    no_more_asked c.pick-2.result _ _ _ _ _ _ _ _ _ c.pick-2.ensures.ok c.pick-2.ensures.past (at_err c.pick-2.result (λ same. same.0) c.pick-2.ensures.err)

pub returns-in_err-pick-clause-once : goal.returns-in_err-pick-clause-once
returns-in_err-pick-clause-once g c = record { first = inl c.in_err-pick.ensures.err.2; second = inl refl }

pub returns-clause-once : goal.returns-clause-once
returns-clause-once g c = record {
  first = picks_asked c.pick.result c.args.fill (g.D.Disk.view c.args.disks.now.first) (g.D.Disk.view c.pick.new.self) c.pick.ensures.ok
      (at_err c.pick.result (λ same. same.2) c.pick.ensures.err);
  second = picks_asked c.pick-2.result c.args.fill (g.D.Disk.view c.args.disks.now.second) (g.D.Disk.view c.pick-2.new.self) c.pick-2.ensures.ok
      (at_err c.pick-2.result (λ same. same.2) c.pick-2.ensures.err);
}
