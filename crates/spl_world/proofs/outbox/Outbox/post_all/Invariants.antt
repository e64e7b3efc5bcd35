use Rattle.spl_world.{specs.Kept.{sent_to, sends_to}, proofs.Common.{◌≡◌, ◌++◌, take, NodeId}}
use Rattle.spl_world.proofs.outbox.Outbox.post_all.Given as goal

-- the messages so far are sent
abbrev pub invariant-loop-send : goal.invariant-loop-send
invariant-loop-send l = (b : NodeId) → sent_to l.self b ≡ sent_to l.fn.self b ++ sends_to b (take l.send-index l.sends)
