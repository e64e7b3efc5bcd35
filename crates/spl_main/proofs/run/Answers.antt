use Rattle.spl_main.proofs.Untold.{settled_untold}
use Rattle.spl_main.proofs.run.Goals as goal

pub splinter-requires-clause-settled : goal.splinter-requires-clause-settled
splinter-requires-clause-settled c = λ i below. settled_untold (λ d. d.moment) (λ d. d.faults) _ i

pub splinter-requires-clause-links : goal.splinter-requires-clause-links
splinter-requires-clause-links c = λ a b x y. tt
