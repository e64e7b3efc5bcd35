use Rattle.std.{specs.List.flat_map, proofs.Common.{◌≡◌, ◌++◌, take}}
use Rattle.spl_serve.specs.Waits.{send_waits}
use Rattle.spl_serve.proofs.waits.append_sends.Given as goal

abbrev pub invariant-loop-send : goal.invariant-loop-send
invariant-loop-send l = l.out.items ≡ l.fn.out.items ++ flat_map send_waits (take l.send-index l.sends)
