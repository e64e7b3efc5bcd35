use Rattle.std.proofs.Common.{◌≤◌, length}
use Rattle.spl_device.proofs.file_disk.read_from.Given as goal

abbrev pub invariant-loop : goal.invariant-loop
invariant-loop g l = l.filled ≤ length l.buf
