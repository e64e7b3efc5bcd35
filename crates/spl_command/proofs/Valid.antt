-- What a batch that breaks no rule has.
use Rattle.std.{specs.List.list_all, proofs.{Common.{◌≡◌, ◌≤◌, ℕ, leb, ◌&&◌, IsTrue, List, [], ◌∷◌, length, None, refl, arith}, lemmas.Bool.leb-true}}
use Rattle.std.proofs.lemmas.Bool.{le-leb, and_parts, and_from}
use Rattle.spl_base.specs.{Booleans.all_pass, Rules.test_at, declared.piece.TheConstants.LONGEST_PIECE}
use Rattle.spl_command.specs.{Forms.{prefix, prefixes, command, transaction, batch}, Rules.{has_short_data, has_few_prefixes, has_few_commands, all_short}}
use Rattle.spl_command.specs.{Rules.{rules_of, broken_batch}, declared.batch.{Batch.Batch, Command.{Command, TheVariants.{Set, Event, Data}}}}
use Rattle.spl_command.specs.declared.{batch.{TheConstants.MOST_ITEMS, Transaction.Transaction}, rules.TheConstants.{MOST_TRANSACTIONS, MOST_COMMANDS}}
use Rattle.spl_command.specs.declared.rules.TheConstants.{MOST_PREFIXES, LONGEST_DATA}

weakened : (n m k : ℕ) → m ≤ k → IsTrue (leb n m) → IsTrue (leb n k)
weakened n m k le h = let short : n ≤ m = leb-true n m h in le-leb n k (omega arith)

short_bounded : (c : Command) → IsTrue (has_short_data c) → IsTrue (command.bounded c)
short_bounded (Set a v) h = weakened (length v) LONGEST_DATA LONGEST_PIECE (omega arith) h
short_bounded (Event k v) h = weakened (length v) LONGEST_DATA LONGEST_PIECE (omega arith) h
short_bounded (Data v) h = weakened (length v) LONGEST_DATA LONGEST_PIECE (omega arith) h
short_bounded c h = refl

commands_bounded : (cs : List Command) → IsTrue (list_all has_short_data cs) → IsTrue (list_all command.bounded cs)
commands_bounded [] h = refl
commands_bounded (c ∷ cs) h =
    let b = and_parts (has_short_data c) (list_all has_short_data cs) h in
    and_from (command.bounded c) (list_all command.bounded cs) (short_bounded c b.0) (commands_bounded cs b.1)

prefixes_bounded : (ps : List (List ℕ)) → IsTrue (leb (length ps) MOST_PREFIXES) → IsTrue (prefixes.bounded ps)
prefixes_bounded ps h =
    and_from (leb (length ps) MOST_ITEMS) (list_all prefix.bounded ps) (weakened (length ps) MOST_PREFIXES MOST_ITEMS (omega arith) h)
    (all_pass prefix.bounded (λ p. refl) ps)

transaction_bounded : (t : Transaction) → IsTrue (has_few_prefixes t) → IsTrue (has_few_commands t) → IsTrue (all_short t) → IsTrue (transaction.bounded t)
transaction_bounded t p q r =
    let few = and_parts (leb (length t.inputs) MOST_PREFIXES) (leb (length t.outputs) MOST_PREFIXES) p in
    let count = and_parts (leb 1 (length t.commands)) (leb (length t.commands) MOST_COMMANDS) q in
    let commands : IsTrue (leb (length t.commands) MOST_ITEMS && list_all command.bounded t.commands) =
    and_from (leb (length t.commands) MOST_ITEMS) (list_all command.bounded t.commands)
    (weakened (length t.commands) MOST_COMMANDS MOST_ITEMS (omega arith) count.1) (commands_bounded t.commands r) in
    and_from (prefixes.bounded t.inputs) (prefixes.bounded t.outputs && (leb (length t.commands) MOST_ITEMS && list_all command.bounded t.commands))
    (prefixes_bounded t.inputs few.0)
    (and_from (prefixes.bounded t.outputs) (leb (length t.commands) MOST_ITEMS && list_all command.bounded t.commands)
    (prefixes_bounded t.outputs few.1) commands)

pub transactions_bounded : (ts : List Transaction) → IsTrue (list_all has_few_prefixes ts) → IsTrue (list_all has_few_commands ts)
    → IsTrue (list_all all_short ts) → IsTrue (list_all transaction.bounded ts)
transactions_bounded [] p q r = refl
transactions_bounded (t ∷ ts) p q r =
    let a = and_parts (has_few_prefixes t) (list_all has_few_prefixes ts) p in
    let b = and_parts (has_few_commands t) (list_all has_few_commands ts) q in
    let c = and_parts (all_short t) (list_all all_short ts) r in
    and_from (transaction.bounded t) (list_all transaction.bounded ts) (transaction_bounded t a.0 b.0 c.0) (transactions_bounded ts a.1 b.1 c.1)

-- it has a byte form
pub bounded_from_valid : (b : Batch) → broken_batch b ≡ None → IsTrue (batch.bounded b)
bounded_from_valid b e =
    and_from (leb (length b.transactions) MOST_ITEMS) (list_all transaction.bounded b.transactions)
    (weakened (length b.transactions) MOST_TRANSACTIONS MOST_ITEMS (omega arith) (test_at 1 1 (rules_of b) e))
    (transactions_bounded b.transactions (test_at 2 1 (rules_of b) e) (test_at 3 1 (rules_of b) e) (test_at 4 1 (rules_of b) e))
