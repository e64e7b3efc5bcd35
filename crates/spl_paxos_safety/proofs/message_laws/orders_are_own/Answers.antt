use Rattle.spl_paxos_safety.proofs.Owned.{sent-own}
use Rattle.spl_paxos_safety.proofs.message_laws.orders_are_own.Goals as goal

pub returns : goal.returns
returns c = sent-own
