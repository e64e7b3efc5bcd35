use Rattle.spl_answer.proofs.Chains.{six}
use Rattle.spl_answer.proofs.answer.append_text.Goals as goal

pub returns-in_ok-append_counts-in-Show-2 : goal.returns-in_ok-append_counts-in-Show-2
returns-in_ok-append_counts-in-Show-2 c =
    rw c.in-Show.is (six _ _ _ _ _ _ _ _ _ _ _ _ _ c.in_ok-append-in-Show.ensures c.in_ok-append_standing-in-Show.ensures c.in_ok-append-in-Show-2.ensures
    c.in_ok-append_nodes-in-Show.ensures c.in_ok-append_counts-in-Show.ensures c.in_ok-append_counts-in-Show-2.ensures)
