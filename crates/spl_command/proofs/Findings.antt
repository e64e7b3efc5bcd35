-- What is found of the transactions of a batch.
use Rattle.std.{specs.{Prelude.◌↔◌, List.list_all, Int.w64}, proofs.Common.{◌≡◌, ℕ, ◌+◌, leb, Bool, IsTrue, List, [], ◌∷◌, ◌++◌, length, Option, None, sym}}
use Rattle.std.proofs.Common.{ap, subst, ◌∙◌, length-append}
use Rattle.spl_base.specs.{Form.number_bytes, FormLaws.{wide64, prefix_free}, Rules.{first_false, test_at}}
use Rattle.spl_command.specs.{Forms.{transaction, transactions, exact_transactions}, Rules.{rules_but_length, size_of, broken_batch}, Checked.broken_among}
use Rattle.spl_command.specs.{Checked.{IsSound, AreFindings}, declared.{batch.{Batch.Batch, Transaction.Transaction}, checked.Findings.Findings}}
use Rattle.spl_command.{specs.declared.{checked.Findings.TheVariants.Sound, rules.TheConstants.LONGEST_BATCH}, proofs.Valid.transactions_bounded}

-- what keeps the rules 1 to 5 can be spelled
pub can_be_spelled : (ts : List Transaction) → first_false 1 (rules_but_length ts) ≡ None → IsTrue (list_all transaction.bounded ts)
can_be_spelled ts e = transactions_bounded ts (test_at 2 1 (rules_but_length ts) e) (test_at 3 1 (rules_but_length ts) e) (test_at 4 1 (rules_but_length ts) e)

-- ---- the rules of a batch

size_is : (b : Batch) → size_of b ≡ 8 + length (transactions.spell b.transactions)
size_is b =
    length-append (number_bytes w64 b.id) (transactions.spell b.transactions) ∙ ap (λ n. n + length (transactions.spell b.transactions)) (wide64.len b.id)

pub same_rules : (b : Batch) → broken_among b.transactions ≡ broken_batch b
same_rules b = ap (λ n. first_false 1 (rules_but_length b.transactions ++ leb n LONGEST_BATCH ∷ [])) (sym (size_is b))

-- ---- transactions with the same form are the same

same_forms : (ts us : List Transaction) (a b : List ℕ) (c d : Option (ℕ × ℕ)) → IsSound ts a c → IsSound us b d → (a ≡ b) ↔ (ts ≡ us)
same_forms ts us a b c d p q =
    let spelled : a ≡ b → transactions.spell ts ≡ transactions.spell us = λ e. sym p.form ∙ e ∙ q.form in (
      λ e. (prefix_free transactions exact_transactions ts us [] [] p.fits q.fits (ap (λ xs. xs ++ []) (spelled e))).0,
      λ e. p.form ∙ ap transactions.spell e ∙ sym q.form,
    )

-- ts and us are the lists that two values show, ps and qs those that they hold
pub same_found : {ps qs ts us : List Transaction} {f g : Findings} {a b : List ℕ} {c d : Option (ℕ × ℕ)} {same : Bool} → ps ≡ ts → qs ≡ us
    → AreFindings ps f → AreFindings qs g
    → f ≡ Sound a c → g ≡ Sound b d → IsTrue same ↔ (a ≡ b) → IsTrue same ↔ (ts ≡ us)
same_found {ps} {qs} {ts} {us} {f} {g} {a} {b} {c} {d} {same} x y p q e h equal =
    let held : (a ≡ b) ↔ (ps ≡ qs) = same_forms ps qs a b c d (subst (λ v. AreFindings ps v) e p) (subst (λ v. AreFindings qs v) h q) in
    (λ k. sym x ∙ held.0 (equal.0 k) ∙ y, λ k. equal.1 (held.1 (x ∙ k ∙ sym y)))
