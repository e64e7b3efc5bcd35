use Rattle.spl_answer.proofs.Chains.{six}
use Rattle.spl_answer.proofs.answer.append_standing.Goals as goal

pub returns : goal.returns
returns c =
    six _ _ _ _ _ _ _ _ _ _ _ _ _ c.in_ok-append.ensures c.in_ok-append_generation.ensures c.in_ok-append-2.ensures c.in_ok-append_lifecycle.ensures
    c.in_ok-append-3.ensures c.in_ok-append_mark.ensures
