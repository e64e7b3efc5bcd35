use Rattle.std.{specs.Prelude.IfOk, proofs.{Common.{◌≡◌, ◌++◌, ℕ, List, codes, decimal, sym, subst, rules}, lemmas.List.append_assoc}}
use Rattle.spl_cli.proofs.status.journal_text.Goals as goal

pub returns : goal.returns
returns c =
    let place : c.as_bytes.result.now ≡ codes " is not a journal at " ++ decimal c.args.at = search rules in
    subst (λ (said : List ℕ). IfOk c.disk_text.result (λ p. p ≡ said))
    (sym (append_assoc (codes "disk of " ++ c.args.node.now) (codes " is not a journal at ") (decimal c.args.at)))
    (subst (λ (said : List ℕ). IfOk c.disk_text.result (λ p. p ≡ codes "disk of " ++ c.args.node.now ++ said)) place c.disk_text.ensures)
