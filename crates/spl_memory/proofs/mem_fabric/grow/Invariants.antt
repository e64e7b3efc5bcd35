use Rattle.std.proofs.Common.{◌≡◌, ℕ, ◌+◌, ◌-◌, vec_len}
use Rattle.spl_memory.specs.Lanes.{put_in, taken_in}
use Rattle.spl_memory.proofs.mem_fabric.grow.Given as goal

abbrev pub invariant-grow : goal.invariant-grow
invariant-grow l = record {
  put : (k : ℕ) → put_in l.lanes.items k ≡ put_in l.initial.lanes.items k;
  taken : (k : ℕ) → taken_in l.lanes.items k ≡ taken_in l.initial.lanes.items k;
}

abbrev pub decreases-grow : goal.decreases-grow
decreases-grow l = l.position + 1 - vec_len l.lanes
