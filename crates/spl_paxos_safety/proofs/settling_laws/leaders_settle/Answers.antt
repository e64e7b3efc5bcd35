use Rattle.std.{specs.Prelude.Some, proofs.Common.{◌≡◌, ◌≤◌, ◌<◌, ◌+◌, ◌*◌, ◌^◌, ℕ, suc, List, length, Bool, true, arith}}
use Rattle.spl_acceptor.specs.{Rows.{member, acceptor, leader}, Worlds.{Happening, paxos_run, paxos_world_after}, declared.group.Group.Group}
use Rattle.spl_paxos_safety.{specs.Settling.{IsAmong, Distinct, settling}, proofs.{Low.after-low, Settled.settles}}
use Rattle.spl_paxos_safety.proofs.settling_laws.leaders_settle.Goals as goal

-- after a schedule that isn't too long there is room
short-settles : (g : Group) (es : List Happening) (l r : ℕ) (those ms : List ℕ) → 1 ≤ g.members → (paxos_world_after g es).up (leader l) ≡ true
    → ((a : ℕ) → IsAmong a those → (paxos_world_after g es).up (acceptor a) ≡ true)
    → Distinct those → suc g.faults ≤ length those → 3 * length es + 6 < 2 ^ 64 → (m : ℕ) → IsAmong m ms → (paxos_world_after g es).up (member m) ≡ true
    → (d : Bool) × (((paxos_run g (paxos_world_after g es) (settling g (paxos_world_after g es) l r those ms)).member m r).decision ≡ Some d)
short-settles g es l r those ms some led up distinct enough few = settles g es l r those ms (record {
  members = some;
  led = led;
  up = up;
  distinct = distinct;
  enough = enough;
  used = let k : ((paxos_world_after g es).leader l r).used ≤ 3 * length es = (after-low g es).used l r in omega arith;
  promised = λ a u. let k : ((paxos_world_after g es).acceptor a r).promised ≤ 3 * length es = (after-low g es).promised a r in omega arith;
})

pub returns : goal.returns
returns c = record { room = settles; short = short-settles }
