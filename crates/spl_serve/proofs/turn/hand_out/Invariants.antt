use Rattle.std.{specs.{List.AllByRecursion, Vec.Iter.into_iter_items}, proofs.Common.{◌≡◌, ◌++◌, map}}
use Rattle.spl_node.specs.Turns.{MayBeSent, given_in}
use Rattle.spl_serve.specs.Servers.{handed}
use Rattle.spl_serve.proofs.turn.hand_out.Given as goal

abbrev pub invariant-loop-slot : goal.invariant-loop-slot
invariant-loop-slot l = record {
  rest : l.out.items ++ handed (into_iter_items l.slot-iterator) (map given_in (into_iter_items l.given))
      ≡ handed l.fn.slots.items (map given_in l.fn.given.items);
  sendable : AllByRecursion MayBeSent (into_iter_items l.given);
}
