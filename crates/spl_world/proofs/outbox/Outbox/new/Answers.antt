use Rattle.spl_world.{specs.Kept.{IsTotal, SentLists}, proofs.{Common.{subst, sym}, Posting.total_none}}
use Rattle.spl_world.proofs.outbox.Outbox.new.Goals as goal

pub invariant_of-result : goal.invariant_of-result
invariant_of-result c = subst (λ (ls : SentLists). IsTotal 0 ls) (sym c.new.ensures.empty) total_none
