use Rattle.std.proofs.Common.{◌≡◌, ◌++◌, map, take}
use Rattle.spl_serve.specs.Turns.{sends_in}
use Rattle.spl_serve.proofs.turn.leave_sends.Given as goal

abbrev pub invariant-loop-send : goal.invariant-loop-send
invariant-loop-send l = l.out.items ≡ l.fn.out.items ++ map sends_in (take l.send-index l.sends)
