use Rattle.spl_world.proofs.{Common.{◌≡◌, ◌≤◌, ◌*◌, ℕ, sym, subst, MOST_EVENTS}, Idling.{left_exact, left_most}}
use Rattle.spl_world.proofs.calm.Calm.ticks_left.Goals as goal

pub returns-clause-exact : goal.returns-clause-exact
returns-clause-exact c = subst (λ (n : ℕ). n * c.args.self.now.later ≤ MOST_EVENTS → n * c.args.self.now.later ≡ c.args.self.now.ticks * c.args.self.now.later) (sym c.min-ticks.ensures) (left_exact c.args.self.now.ticks c.args.self.now.later)

pub returns-clause-most : goal.returns-clause-most
returns-clause-most c = subst (λ (n : ℕ). n * c.args.self.now.later ≤ c.args.self.now.ticks * c.args.self.now.later) (sym c.min-ticks.ensures) (left_most c.args.self.now.ticks c.args.self.now.later)
