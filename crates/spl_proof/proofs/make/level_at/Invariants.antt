use Rattle.std.proofs.Common.{◌≡◌, ◌-◌, ◌++◌, ◌∷◌, [], length, take}
use Rattle.spl_state.specs.Root.{digits_of, node_at}
use Rattle.spl_proof.specs.Made.{listed}
use Rattle.spl_proof.proofs.make.level_at.Given as goal

abbrev pub invariant-loop-d : goal.invariant-loop-d
invariant-loop-d l = (take l.d l.level ≡ listed (λ d. node_at (69 - l.i) (digits_of l.i 0 l.a.0 ++ d ∷ []) l.state) l.d) × (length l.level ≡ 16)
