use Rattle.spl_world.{specs.declared.fault.WorldFault.TheVariants.TooMany, proofs.Common.{◌≡◌, ◌+◌, ◌∙◌, ◌≤◌, ℕ, inl, inr, refl, sym, subst, arith, by_rule}}
use Rattle.spl_world.proofs.{Common.{MOST_EVENTS, ap}, Moving.stands_line, Results.failed, Standing.{events_after, over_line, over_stops}}
use Rattle.spl_world.proofs.Standing.{power_answered}
use Rattle.spl_world.proofs.world.World.stop_node.Goals as goal
use Rattle.spl_sched.specs.declared.line.Line.TheVariants as line
use Rattle.spl_edge.proofs.Results.{err_same}

pub returns-clause-answer : goal.returns-clause-answer
returns-clause-answer c = λ is o others before stands. sym (power_answered o stands.begins before (line.Stop c.args.node.now) stands.fit c.bytes.ensures.spelled)

pub returns-clause-stands : goal.returns-clause-stands
returns-clause-stands c = λ is o others before stands.
    let l = line.Stop c.args.node.now in
    let one : c.go_down_at.new.self.events ≡ c.args.self.now.events + 1 = omega (arith, c.go_down_at.ensures.counts.events, c.in_ok-add.ensures.counts.ok) in
    let more : c.go_down_at.new.self.stops ≡ c.args.self.now.stops + 1 = c.go_down_at.ensures.counts.stops ∙ c.in_ok-add-2.ensures.ok in
    stands_line before c.args.self.now c.go_down_at.new.self is is c.go_down_at.ensures.ids one 1 more stands (c.go_down_at.ensures.sits is stands.sits)
    (by_rule l) c.bytes.ensures.spelled refl refl
    (λ k m h. c.go_down_at.ensures.holds is k c.args.node.now m c.index_of-slot.ensures.at stands.sits h)

pub returns-in_err-add-clause-many : goal.returns-in_err-add-clause-many
returns-in_err-add-clause-many c = λ is o others before which stands q.
    inl (over_line (failed (Unit {0}) c.in_err-add.field-0.0) _ which c.args.self.now is before (line.Stop c.args.node.now) 1 stands c.bytes.ensures.spelled refl c.in_err-add.ensures.counts
    (ap (failed (Unit {0})) (err_same c.from_residual.result _ (TooMany which) c.from_residual.ensures q)))

pub returns-in_err-add-2-clause-many : goal.returns-in_err-add-2-clause-many
returns-in_err-add-2-clause-many c = λ is o others before which stands q.
    let l = line.Stop c.args.node.now in
    let sum = events_after c.args.self.now is before l 1 stands c.bytes.ensures.spelled refl in
    let within : c.args.self.now.events + 1 ≤ MOST_EVENTS = omega (arith, c.in_ok-add.ensures.counts.ok, c.in_ok-add.ensures.within) in
    let f = c.in_err-add-2.field-0.0 in
    let is_two : f ≡ TooMany 2 = (let only = c.in_err-add-2.ensures.fault in cc) in
    let named : f ≡ TooMany which = err_same c.from_residual-in_err-add-2.result f (TooMany which) c.from_residual-in_err-add-2.ensures q in
    inr (let same : which ≡ 2 = cc in same, subst (λ (k : ℕ). k ≤ MOST_EVENTS) (sym sum) within, over_stops before (by_rule l) c.args.self.now is stands c.in_err-add-2.ensures.full refl)
