use Rattle.spl_state.proofs.beginnings.Beginnings.+after.Given as goal

abbrev pub decreases-after : goal.decreases-after
decreases-after l = l.pairs
