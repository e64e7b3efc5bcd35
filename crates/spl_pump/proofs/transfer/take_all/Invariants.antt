use Rattle.std.proofs.Common.{◌≡◌, ◌≤◌, ◌-◌, ℕ, length, take}
use Rattle.spl_pump.specs.Moves.{Grows, AreDue}
use Rattle.spl_pump.proofs.transfer.take_all.Given as goal

abbrev pub invariant-takes : goal.invariant-takes
invariant-takes g l = record {
  within : l.at ≤ length l.buf;
  size : length l.buf ≡ length l.initial.buf;
  due : AreDue (length l.buf - l.at) ((g.F.Fabric.view l.fabric).put l.from l.to) ((g.F.Fabric.view l.fabric).taken l.from l.to);
  taken : Grows l.from l.to (take l.at l.buf) (g.F.Fabric.view l.initial.fabric).taken (g.F.Fabric.view l.fabric).taken;
  put : (a b : ℕ) → (g.F.Fabric.view l.fabric).put a b ≡ (g.F.Fabric.view l.initial.fabric).put a b;
  later : (g.F.Fabric.view l.initial.fabric).faults ≤ (g.F.Fabric.view l.fabric).faults;
}

abbrev pub decreases-takes : goal.decreases-takes
decreases-takes g l = length l.buf - l.at
