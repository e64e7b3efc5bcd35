-- A proof is accepted where its levels lead to an end that says what is claimed.
use Rattle.std.proofs.Common.{length, option_copied, sym, subst}
use Rattle.spl_proof.{specs.Accepted.{Leads, Says}, proofs.Leading.{accepted_from, accepted_leads}}
use Rattle.spl_proof.proofs.accept.is_accepted.Goals as goal

pub returns-then-says : goal.returns-then-says
returns-then-says c =
    let root = c.args.root.now in
    let a = c.args.a.now in
    let claim = option_copied c.args.claim in
    let p = c.args.proof.now in
    let value = c.as_slice-levels.ensures.value in
    let says = c.says.ensures.0 c.if-says.true in (
      λ h. accepted_from root a claim p (subst (λ ls. Leads root 0 a ls p.end) value (c.leads.ensures.0 h))
          (subst (λ ls. Says claim (length ls) a p.end) value says),
      λ h. c.leads.ensures.1 (subst (λ ls. Leads root 0 a ls p.end) (sym value) (accepted_leads root a claim p h)),
    )
