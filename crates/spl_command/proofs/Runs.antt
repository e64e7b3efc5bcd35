-- Runs up to a cause, and runs without one.
use Rattle.std.{specs.Prelude.{fold, is_some}, proofs.Common.{◌≡◌, ℕ, ◌+◌, ◌<◌, ◌≤◌, length, take, get_or, List, [], ◌∷◌, ◌++◌, Option, Some, None, Result}}
use Rattle.std.proofs.{Common.{Ok, refl, sym, ap, ◌∙◌, append_assoc, if◌then◌else◌}, lemmas.List.{append-nil, take_all, take_more, Sums.fold_more}}
use Rattle.spl_state.specs.{Entries.Entry, declared.address.Address.Address}
use Rattle.spl_command.specs.Execution.{Values, values_of, values_after, receipt_after, Ran, begun, ran, unless, run, after_run, verdict_from, cause_in}
use Rattle.spl_command.specs.{Execution.{cause_among, numbered, cause_from, cause_of, verdict_on, told_cause}, Runs.{value_after, values_after_all}}
use Rattle.spl_command.specs.{Runs.{receipt_of, receipts_of}, declared.batch.{Batch.Batch, Command.{Command, TheVariants.Set}, Transaction.Transaction}}
use Rattle.spl_command.specs.declared.receipt.{Receipt.Receipt, Verdict.Verdict}
use Rattle.spl_command.specs.declared.receipt.Verdict.TheVariants as verdict

-- one address of the state after a command, and after commands
pub after_at : (m : Values) (c : Command) (a : Address) → values_after m c a ≡ value_after a (m a) c
after_at m (Set b w) a = refl
after_at m c a = refl

pub all_at : (cs : List Command) (m : Values) (a : Address) → fold values_after m cs a ≡ fold (value_after a) (m a) cs
all_at [] m a = refl
all_at (c ∷ cs) m a = all_at cs (values_after m c) a ∙ ap (λ v. fold (value_after a) v cs) (after_at m c a)

pub ran_values : (cs : List Command) (r : Ran) → (fold ran r cs).values ≡ fold values_after r.values cs
ran_values [] r = refl
ran_values (c ∷ cs) r = ran_values cs (ran r c)

fails_first : (o later : Option ℕ) (next done : Result Ran ℕ) → next ≡ unless later done → unless o next ≡ unless (if is_some o then o else later) done
fails_first None later next done e = e
fails_first (Some cause) later next done e = refl

-- a run is stopped by the first cause alone
pub run_is : (t : Transaction) (cs : List Command) (r : Ran) → run t cs r ≡ unless (cause_among t cs) (Ok (fold ran r cs))
run_is t [] r = refl
run_is t (c ∷ cs) r = fails_first (cause_in t c) (cause_among t cs) (run t cs (ran r c)) (Ok (fold ran r (c ∷ cs))) (run_is t cs (ran r c))

abbrev pub verdict_or : Option (ℕ × ℕ) → List Receipt → Verdict
verdict_or None rs = verdict.Valid rs
verdict_or (Some x) rs = verdict.Invalid x.0 x.1

went_on : (n : ℕ) (o : Option ℕ) (r : Ran) (next : Ran → Verdict) (later : Option (ℕ × ℕ)) (rs : List Receipt) → next r ≡ verdict_or later rs
    → after_run n next (unless o (Ok r)) ≡ verdict_or (numbered n later o) rs
went_on n None r next later rs e = e
went_on n (Some cause) r next later rs e = refl

pub verdict_from_is : (ts : List Transaction) (n : ℕ) (m : Values) (rs : List Receipt)
    → verdict_from n ts m rs ≡ verdict_or (cause_from n ts) (rs ++ receipts_of m ts)
verdict_from_is [] n m rs = ap (λ xs. verdict.Valid xs) (sym (append-nil rs))
verdict_from_is (t ∷ ts) n m rs =
    let next : Ran → Verdict = λ r. verdict_from (n + 1) ts r.values (rs ++ r.receipt ∷ []) in
    let r : Ran = fold ran (begun m) t.commands in
    let values : r.values ≡ fold values_after m t.commands = ran_values t.commands (begun m) in
    let later : next r ≡ verdict_or (cause_from (n + 1) ts) (rs ++ receipts_of m (t ∷ ts)) =
    verdict_from_is ts (n + 1) r.values (rs ++ r.receipt ∷ [])
    ∙ ap (λ xs. verdict_or (cause_from (n + 1) ts) xs)
    (append_assoc rs (r.receipt ∷ []) (receipts_of r.values ts) ∙ ap (λ v. rs ++ (r.receipt ∷ receipts_of v ts)) values) in
    ap (after_run n next) (run_is t t.commands (begun m))
    ∙ went_on n (cause_among t t.commands) r next (cause_from (n + 1) ts) (rs ++ receipts_of m (t ∷ ts)) later

-- the value at an address, one transaction further, and after all and some commands
pub value_further : (m : Values) (ts : List Transaction) (i : ℕ) (a : Address) (t : Transaction) (cs : List Command) (v w : Option (List ℕ))
    → i < length ts → t ≡ get_or ts i t → cs ≡ t.commands
    → v ≡ values_after_all m (take i ts) a → w ≡ fold (value_after a) v cs → w ≡ values_after_all m (take (i + 1) ts) a
value_further m ts i a t cs v w lt is own so_far e =
    let more : values_after_all m (take (i + 1) ts) ≡ fold values_after (values_after_all m (take i ts)) t.commands =
    fold_more (λ v u. fold values_after v u.commands) m ts i t lt ∙ ap (λ u. fold values_after (values_after_all m (take i ts)) u.commands) (sym is) in
    e ∙ ap (λ x. fold (value_after a) x cs) so_far ∙ ap (λ x. fold (value_after a) (values_after_all m (take i ts) a) x) own
    ∙ sym (all_at t.commands (values_after_all m (take i ts)) a) ∙ ap (λ x. x a) (sym more)

pub value_after_all_is : (m : Values) (ts : List Transaction) (i : ℕ) (a : Address) (cs : List Command) (v w : Option (List ℕ)) → length ts ≤ i
    → v ≡ values_after_all m (take i ts) a → w ≡ fold (value_after a) v cs → w ≡ fold values_after (values_after_all m ts) cs a
value_after_all_is m ts i a cs v w all so_far e =
    e ∙ ap (λ x. fold (value_after a) x cs) (so_far ∙ ap (λ x. values_after_all m x a) (take_all i ts all)) ∙ sym (all_at cs (values_after_all m ts) a)

-- one command more
pub receipt_more : (m : Values) (cs : List Command) (i : ℕ) (d : Command) → i < length cs
    → receipt_of m (take (i + 1) cs) ≡ receipt_after (fold values_after m (take i cs)) (receipt_of m (take i cs)) (get_or cs i d)
receipt_more m cs i d lt =
    ap (λ r. r.receipt) (fold_more ran (begun m) cs i d lt)
    ∙ ap (λ v. receipt_after v (receipt_of m (take i cs)) (get_or cs i d)) (ran_values (take i cs) (begun m))

receipts_more : (ts : List Transaction) (m : Values) (t : Transaction)
    → receipts_of m (ts ++ t ∷ []) ≡ receipts_of m ts ++ receipt_of (values_after_all m ts) t.commands ∷ []
receipts_more [] m t = refl
receipts_more (u ∷ ts) m t = ap (λ rs. receipt_of m u.commands ∷ rs) (receipts_more ts (fold values_after m u.commands) t)

-- one transaction more
pub receipts_further : (m : Values) (ts : List Transaction) (i : ℕ) (t : Transaction) (cs : List Command) (r : Receipt) (old new : List Receipt)
    → i < length ts → t ≡ get_or ts i t → cs ≡ t.commands
    → r ≡ receipt_of (values_after_all m (take i ts)) cs → old ≡ receipts_of m (take i ts) → new ≡ old ++ r ∷ [] → new ≡ receipts_of m (take (i + 1) ts)
receipts_further m ts i t cs r old new lt is own made so_far e =
    let prefix : List Transaction = take i ts in
    let whole : take (i + 1) ts ≡ prefix ++ t ∷ [] = take_more ts i t lt ∙ ap (λ u. prefix ++ u ∷ []) (sym is) in
    e ∙ ap (λ xs. xs ++ r ∷ []) so_far ∙ ap (λ x. receipts_of m prefix ++ x ∷ []) (made ∙ ap (receipt_of (values_after_all m prefix)) own)
    ∙ sym (receipts_more prefix m t) ∙ ap (receipts_of m) (sym whole)

-- the receipts that a batch leaves where it has no cause
abbrev pub receipts_after : List Entry → Batch → List Receipt
receipts_after m b = [] ++ receipts_of (values_of m) b.transactions

pub is_invalid : (o : Option (ℕ × ℕ)) (rs : List Receipt) (t c : ℕ) → verdict_or o rs ≡ verdict.Invalid t c → o ≡ Some (t, c)
is_invalid None rs t c e = absurd cc
is_invalid (Some x) rs t c e =
    let first : x.0 ≡ t = cc in
    let second : x.1 ≡ c = cc in
    ap (λ n. Some (n, x.1)) first ∙ ap (λ n. Some (t, n)) second

pub invalid_on : (m : List Entry) (b : Batch) (t c : ℕ) → cause_of b ≡ Some (t, c) → verdict.Invalid t c ≡ verdict_on m b
invalid_on m b t c e = sym (verdict_from_is b.transactions 1 (values_of m) [] ∙ ap (λ o. verdict_or o (receipts_after m b)) e)

pub valid_on : (m : List Entry) (b : Batch) (ts : List Transaction) (rs : List Receipt) → cause_of b ≡ None → ts ≡ b.transactions
    → rs ≡ receipts_of (values_of m) ts → verdict.Valid rs ≡ verdict_on m b
valid_on m b ts rs e own made =
    ap (λ xs. verdict.Valid xs) (made ∙ ap (receipts_of (values_of m)) own)
    ∙ sym (verdict_from_is b.transactions 1 (values_of m) [] ∙ ap (λ o. verdict_or o (receipts_after m b)) e)

told_by : (o : Option (ℕ × ℕ)) (rs : List Receipt) → told_cause (verdict_or o rs) ≡ o
told_by None rs = refl
told_by (Some x) rs = refl

pub told_on : (m : List Entry) (b : Batch) → told_cause (verdict_on m b) ≡ cause_of b
told_on m b = ap told_cause (verdict_from_is b.transactions 1 (values_of m) []) ∙ told_by (cause_of b) (receipts_after m b)
