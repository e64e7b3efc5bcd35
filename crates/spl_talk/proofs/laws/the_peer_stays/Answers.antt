use Rattle.std.proofs.lemmas.List.Elements.{All-from_recursion}
use Rattle.spl_talk.{specs.Connections.IsOf, proofs.Hearing.peer_stays}
use Rattle.spl_talk.proofs.laws.the_peer_stays.Goals as goal

pub returns : goal.returns
returns c = λ es t peer bodies said side is. All-from_recursion (IsOf peer) said (peer_stays es t peer bodies said side is)
