use Rattle.std.{specs.{Prelude.{nat_le, if◌then◌else◌}, List.flat_map}, proofs.Common.{◌≡◌, ℕ, ◌+◌, ◌<◌, ◌≤◌, true, false, Bool, List, [], ◌∷◌, ◌++◌, length}}
use Rattle.std.proofs.{Common.{Some, None, refl, sym, ap, ◌∙◌, arith}, lemmas.Bool.Decides.nat_tests}
use Rattle.spl_base.specs.Rules.{first_false}
use Rattle.spl_command.specs.{TransactionForms.{transaction, transactions}, TransactionRules.rules_but_length, Sizes.capped}
use Rattle.spl_command.{specs.declared.batch.Transaction.Transaction, proofs.Sizes.list_size}
use Rattle.spl_command.proofs.checked.first_broken.Goals as goal

-- one test more, where those before it are passed
last : (bs : List Bool) (n m : ℕ) (b : Bool) → n + length bs ≡ m → first_false n bs ≡ None → first_false n (bs ++ b ∷ []) ≡ (if b then None else Some m)
last [] n m true k e = refl
last [] n m false k e = ap (λ (x : ℕ). Some x) (omega (arith, k))
last (true ∷ bs) n m b k e = last bs (n + 1) m b (omega (arith, k)) e
last (false ∷ bs) n m b k e = absurd cc

-- the sum of lengths is that of the byte form, or above all limits
long : (ts : List Transaction) (n : ℕ) → n ≡ capped (2 + length (flat_map transaction.spell ts)) → 32760 < n
    → nat_le (8 + length (transactions.spell ts)) 32768 ≡ false
long ts n e l =
    let size : length (transactions.spell ts) ≡ 2 + length (flat_map transaction.spell ts) = list_size transaction.spell ts in
    grind (arith, nat_tests, size, e, l)

short : (ts : List Transaction) (n : ℕ) → n ≡ capped (2 + length (flat_map transaction.spell ts)) → n ≤ 32760
    → nat_le (8 + length (transactions.spell ts)) 32768 ≡ true
short ts n e l =
    let size : length (transactions.spell ts) ≡ 2 + length (flat_map transaction.spell ts) = list_size transaction.spell ts in
    grind (arith, nat_tests, size, e, l)

pub returns-then-list_size : goal.returns-then-list_size
returns-then-list_size c =
    let ts = c.args.transactions.now in
    sym (last (rules_but_length ts) 1 6 _ refl (sym c.first_fault.ensures ∙ c.in_default.is)
    ∙ ap (λ (b : Bool). if b then None else Some 6) (long ts c.list_size.result c.list_size.ensures c.if-list_size.true))

pub returns-else-list_size : goal.returns-else-list_size
returns-else-list_size c =
    let ts = c.args.transactions.now in
    sym (last (rules_but_length ts) 1 6 _ refl (sym c.first_fault.ensures ∙ c.in_default.is)
    ∙ ap (λ (b : Bool). if b then None else Some 6) (short ts c.list_size.result c.list_size.ensures c.if-list_size.false))
