-- Another thing at one node: there, and elsewhere.
use Rattle.std.{specs.Str.bytes_eq, proofs.Common.{◌≡◌, true, false, refl}}
use Rattle.spl_circuit.specs.Nodes.{NodeId}
use Rattle.spl_circuit_world.specs.Worlds.{put_at}

pub put_at-here : {A : Type 0} (f : NodeId → A) (here n : NodeId) (k : A) → bytes_eq n here ≡ true → put_at f here k n ≡ k
unfolding put_at
put_at-here f here n k h = rw h refl

pub put_at-other : {A : Type 0} (f : NodeId → A) (here n : NodeId) (k : A) → bytes_eq n here ≡ false → put_at f here k n ≡ f n
unfolding put_at
put_at-other f here n k h = rw h refl
