-- By the one history of all runs.
use Rattle.std.proofs.Common.{[], append-nil}
use Rattle.spl_registry.proofs.Registries.{ids_apart}
use Rattle.spl_runs.specs.Run.{held_on}
use Rattle.spl_app.proofs.Audits.{audited-registry, disagreed-by, none-clash}
use Rattle.spl_app.proofs.history.audits_find_no_clash.Goals as goal

pub returns-clause-said : goal.returns-clause-said
returns-clause-said c = λ es ps text registry told folder.
    let h = c.folders_have_one_history.ensures es (held_on ps) folder in
    none-clash es ps (ids_apart es registry.apart) told h.happened h.cells (λ d e. h.agreed d e (h.happened d) [] (append-nil (h.happened d))) text

pub returns-clause-ended : goal.returns-clause-ended
returns-clause-ended c = λ s r q ps qs w x came told folder same.
    let h = c.folders_have_one_history.ensures came.nodes (held_on ps) folder in
    let found = disagreed-by came.nodes s came.audited.ended ps qs w x came.audited.status came.audited.came same in
    none-clash came.nodes ps (ids_apart came.nodes (audited-registry came).apart) told h.happened h.cells
    (λ d e. h.agreed d e (h.happened d) [] (append-nil (h.happened d))) found.0 found.1
