use Rattle.spl_cell.{specs.Sites.site_of, proofs.Changes.{acts_placed, held_changed, definition_stays}}
use Rattle.spl_cell.proofs.held.Held.makes_admin.Goals as goal

pub returns-clause-ok : goal.returns-clause-ok
returns-clause-ok c =
    let old = c.self.inside in
    let new = c.apply.new.self in
    held_changed (site_of old.site)
    (record { definition = old.acts.content.definition; mark = old.mark; turn = old.turn; acts = old.acts.state; batches = old.batches.state })
    new.content.definition c.turn_after-turn.result new.state c.args.change.now c.in_ok-change.change c.args.self.now
    c.self.view_is (definition_stays old.acts new c.in_ok-apply.ensures.ruled) c.turn_after-turn.ensures c.in_ok-apply.ensures.ok c.in_ok-change.ensures

pub invariant_of-self : goal.invariant_of-self
invariant_of-self c =
    let old = c.self.inside in
    acts_placed old.site.here old.acts c.apply.new.self old.batches c.self.invariant c.apply.ensures.ruled c.apply.ensures.fixed

pub invariant_of-self-2 : goal.invariant_of-self-2
invariant_of-self-2 c =
    let old = c.self.inside in
    acts_placed old.site.here old.acts c.apply.new.self old.batches c.self.invariant c.apply.ensures.ruled c.apply.ensures.fixed
