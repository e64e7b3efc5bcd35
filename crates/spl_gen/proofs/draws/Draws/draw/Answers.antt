use Rattle.std.proofs.{Common.{◌*◌, ◌/◌, ◌^◌, ap}, Math.Nat.mod-add-mod}
use Rattle.spl_gen.specs.Draws.{next_state, draw}
use Rattle.spl_gen.proofs.draws.Draws.draw.Goals as goal

pub returns-clause-value : goal.returns-clause-value
unfolding next_state draw
returns-clause-value c = rw c.self.view_is (ap (λ x. x / 2 ^ 33) (mod-add-mod (c.args.self.now * 6364136223846793005) (2 ^ 64) 1442695040888963407))

pub returns-clause-state : goal.returns-clause-state
unfolding next_state
returns-clause-state c = rw c.self.view_is (mod-add-mod (c.args.self.now * 6364136223846793005) (2 ^ 64) 1442695040888963407)
