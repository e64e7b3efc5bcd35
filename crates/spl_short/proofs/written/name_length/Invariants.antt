use Rattle.std.proofs.Common.{◌≡◌, ◌+◌, drop}
use Rattle.spl_short.specs.Written.{name_length}
use Rattle.spl_short.proofs.written.name_length.Given as goal

abbrev pub invariant-loop-place : goal.invariant-loop-place
invariant-loop-place l = l.place + name_length (drop l.place l.bytes) ≡ name_length l.bytes
