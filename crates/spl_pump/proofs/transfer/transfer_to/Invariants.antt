use Rattle.std.proofs.Common.{◌≡◌, ◌≤◌, ◌-◌, length, take}
use Rattle.spl_edge.specs.Devices.{AreTaken}
use Rattle.spl_pump.specs.Moves.{Grows}
use Rattle.spl_pump.proofs.transfer.transfer_to.Given as goal

abbrev pub invariant-pieces : goal.invariant-pieces
invariant-pieces g l = record {
  within : l.done ≤ length l.bytes;
  size : length l.buf ≡ length l.bytes;
  put : Grows l.from l.to (take l.done l.bytes) (g.F.Fabric.view l.initial.fabric).put (g.F.Fabric.view l.fabric).put;
  taken : Grows l.from l.to (take l.done l.buf) (g.F.Fabric.view l.initial.fabric).taken (g.F.Fabric.view l.fabric).taken;
  all : AreTaken ((g.F.Fabric.view l.fabric).put l.from l.to) ((g.F.Fabric.view l.fabric).taken l.from l.to);
  later : (g.F.Fabric.view l.initial.fabric).faults ≤ (g.F.Fabric.view l.fabric).faults;
}

abbrev pub decreases-pieces : goal.decreases-pieces
decreases-pieces g l = length l.bytes - l.done
