use Rattle.std.proofs.lemmas.Fn.{always_returns_same}
use Rattle.spl_world.{specs.Views.slot_id, proofs.{Common.{rules, ◌≡◌}, Opened.sorted_slots}}
use Rattle.spl_world.proofs.opening.sort_by_id.Goals as goal

pub returns-clause-ids : goal.returns-clause-ids
returns-clause-ids c = (sorted_slots c.args.slots.now.items c.sort_unstable_by_key.new.self.items c.requires.apart c.sort_unstable_by_key.ensures.permutation
    (c.sort_unstable_by_key.ensures.sorted slot_id (always_returns_same _ (λ a r. r ≡ slot_id a.0.now) _ (λ a r f k. search rules)))).0

pub returns-clause-ordered : goal.returns-clause-ordered
returns-clause-ordered c = (sorted_slots c.args.slots.now.items c.sort_unstable_by_key.new.self.items c.requires.apart c.sort_unstable_by_key.ensures.permutation
    (c.sort_unstable_by_key.ensures.sorted slot_id (always_returns_same _ (λ a r. r ≡ slot_id a.0.now) _ (λ a r f k. search rules)))).1
