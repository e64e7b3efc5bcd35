-- Both are accepted under the state's root.
use Rattle.std.proofs.Common.{sym, subst}
use Rattle.spl_proof.{specs.Accepted.Leads, proofs.Leading.accepted_leads}
use Rattle.spl_proof.proofs.clash.extract.Goals as goal

pub clash_of_proofs-requires-clause-first : goal.clash_of_proofs-requires-clause-first
clash_of_proofs-requires-clause-first c =
    subst (λ r. Leads r 0 c.args.a.now c.in_ok-honest.honest.levels c.in_ok-honest.honest.end) (sym c.root.ensures)
    (accepted_leads _ c.args.a.now _ c.in_ok-honest.honest c.in_ok-honest.ensures.accepted)

pub clash_of_proofs-requires-clause-second : goal.clash_of_proofs-requires-clause-second
clash_of_proofs-requires-clause-second c =
    subst (λ r. Leads r 0 c.args.a.now c.args.proof.now.levels c.args.proof.now.end) (sym c.root.ensures)
    (accepted_leads _ c.args.a.now _ c.args.proof.now c.requires.accepted)
