-- The values of a state are as short as those that its batches may set.
use Rattle.std.specs.{Prelude.{fold, is_none, is_some, if◌then◌else◌, Result}, List.list_all, Ordering.match_ordering, Map.remove_entry}
use Rattle.std.{specs.BTreeMap.{insert_entry, is_at}, proofs.Common.{◌≡◌, ℕ, ◌+◌, Bool, true, false, IsTrue, List, [], ◌∷◌, ◌++◌, Option, Some, None, Ok}}
use Rattle.std.proofs.{Common.{Err, Ordering, Less, Equal, Greater, refl, subst}, lemmas.Bool.{and_parts, and_from}}
use Rattle.spl_base.specs.{Booleans.{all_more, none_is}, Rules.test_at}
use Rattle.spl_state.specs.{Entries.{Entry, address_cmp}, declared.address.Address.Address}
use Rattle.spl_command.specs.{Execution.{Values, values_of, cause_in, Ran, begun, ran, unless, run, after_run, verdict_from, verdict_on}, Lists.with_change}
use Rattle.spl_command.specs.{Lists.{with_receipt, with_receipts, receipts_in, after_batch, state_of}, Rules.{is_short, has_short_data, all_short, rules_of}}
use Rattle.spl_command.specs.{Rules.broken_batch, declared.batch.{Batch.Batch, Command.{Command, TheVariants.{Set, Get, Delete, Event, Data, Invalid}}}}
use Rattle.spl_command.specs.declared.{batch.{Command.TheVariants.Error, Transaction.Transaction}, receipt.{Receipt.Receipt, StateChange.StateChange}}
use Rattle.spl_command.specs.declared.receipt.StateChange.TheVariants as change

-- the value of an entry, and of a change
abbrev pub short_entry : Entry → Bool
short_entry e = is_short e.1

abbrev pub short_change : StateChange → Bool
short_change (change.Set a v) = is_short v
short_change (change.Delete a) = true

abbrev pub short_receipt : Receipt → Bool
short_receipt r = list_all short_change r.changes

-- ---- what a run reports

changed : (r : Receipt) (c : StateChange) → IsTrue (short_receipt r) → IsTrue (short_change c) → IsTrue (list_all short_change (r.changes ++ c ∷ []))
changed r c h k = all_more short_change r.changes c h k

deleted : (r : Receipt) (a : Address) (b : Bool) → IsTrue (short_receipt r)
    → IsTrue (short_receipt (if b then record r { changes = r.changes ++ change.Delete a ∷ [] } else r))
deleted r a true h = changed r (change.Delete a) h refl
deleted r a false h = h

command_short : (r : Ran) (c : Command) → IsTrue (has_short_data c) → IsTrue (short_receipt r.receipt) → IsTrue (short_receipt (ran r c).receipt)
command_short r (Set a v) k h = changed r.receipt (change.Set a v) h k
command_short r (Delete a) k h = deleted r.receipt a (is_some (r.values a)) h
command_short r (Get a) k h = h
command_short r (Event t v) k h = h
command_short r (Data v) k h = h
command_short r (Invalid t) k h = h
command_short r (Error t) k h = h

run_short : (t : Transaction) (cs : List Command) (r q : Ran) → IsTrue (list_all has_short_data cs) → IsTrue (short_receipt r.receipt) → run t cs r ≡ Ok q
    → IsTrue (short_receipt q.receipt)
run_short t [] r q k h e = let same : r ≡ q = cc in subst (λ (x : Ran). IsTrue (short_receipt x.receipt)) same h
run_short t (c ∷ cs) r q k h e =
    let b = and_parts (has_short_data c) (list_all has_short_data cs) k in go (cause_in t c) (run_short t cs (ran r c) q b.1 (command_short r c b.0 h)) e
  where
    go : (o : Option ℕ) → (run t cs (ran r c) ≡ Ok q → IsTrue (short_receipt q.receipt)) → unless o (run t cs (ran r c)) ≡ Ok q
        → IsTrue (short_receipt q.receipt)
    go None rest e = rest e
    go (Some cause) rest e = absurd cc

verdict_short : (n : ℕ) (ts : List Transaction) (m : Values) (rs : List Receipt) → IsTrue (list_all all_short ts) → IsTrue (list_all short_receipt rs)
    → IsTrue (list_all short_receipt (receipts_in (verdict_from n ts m rs)))
verdict_short n [] m rs k h = h
verdict_short n (t ∷ ts) m rs k h = go (run t t.commands (begun m)) (λ r more. verdict_short (n + 1) ts r.values (rs ++ r.receipt ∷ []) b.1 more) refl
  where
    b : IsTrue (all_short t) × IsTrue (list_all all_short ts)
    b = and_parts (all_short t) (list_all all_short ts) k

    go : (o : Result Ran ℕ) →
        ((r : Ran) → IsTrue (list_all short_receipt (rs ++ r.receipt ∷ []))
        → IsTrue (list_all short_receipt (receipts_in (verdict_from (n + 1) ts r.values (rs ++ r.receipt ∷ [])))))
        → run t t.commands (begun m) ≡ o
        → IsTrue (list_all short_receipt (receipts_in (after_run n (λ r. verdict_from (n + 1) ts r.values (rs ++ r.receipt ∷ [])) o)))
    go (Ok r) rest e = rest r (all_more short_receipt rs r.receipt h (run_short t t.commands (begun m) r b.0 refl e))
    go (Err cause) rest e = refl

-- ---- what changes leave

module _ (a : Address) where
  inserted : (es : List Entry) (v : List ℕ) → IsTrue (list_all short_entry es) → IsTrue (is_short v)
      → IsTrue (list_all short_entry (insert_entry address_cmp es a v))
  inserted [] v h k = and_from (is_short v) true k refl
  inserted (e ∷ es) v h k = by_order (address_cmp a e.0) (inserted es v b.1 k)
    where
      b : IsTrue (short_entry e) × IsTrue (list_all short_entry es)
      b = and_parts (short_entry e) (list_all short_entry es) h

      by_order : (o : Ordering) → IsTrue (list_all short_entry (insert_entry address_cmp es a v))
          → IsTrue (list_all short_entry (match_ordering o ((a, v) ∷ e ∷ es) ((e.0, v) ∷ es) (e ∷ insert_entry address_cmp es a v)))
      by_order Less rest = and_from (is_short v) (list_all short_entry (e ∷ es)) k h
      by_order Equal rest = and_from (is_short v) (list_all short_entry es) k b.1
      by_order Greater rest = and_from (short_entry e) (list_all short_entry (insert_entry address_cmp es a v)) b.0 rest

  removed : (es : List Entry) → IsTrue (list_all short_entry es) → IsTrue (list_all short_entry (remove_entry (is_at (address_cmp a)) es))
  removed [] h = refl
  removed (e ∷ es) h = by_test (is_at (address_cmp a) e.0) (removed es b.1)
    where
      b : IsTrue (short_entry e) × IsTrue (list_all short_entry es)
      b = and_parts (short_entry e) (list_all short_entry es) h

      by_test : (t : Bool) → IsTrue (list_all short_entry (remove_entry (is_at (address_cmp a)) es))
          → IsTrue (list_all short_entry (if t then es else (e ∷ remove_entry (is_at (address_cmp a)) es)))
      by_test true rest = b.1
      by_test false rest = and_from (short_entry e) (list_all short_entry (remove_entry (is_at (address_cmp a)) es)) b.0 rest

change_short : (m : List Entry) (c : StateChange) → IsTrue (list_all short_entry m) → IsTrue (short_change c) → IsTrue (list_all short_entry (with_change m c))
change_short m (change.Set a v) h k = inserted a m v h k
change_short m (change.Delete a) h k = removed a m h

changes_short : (cs : List StateChange) (m : List Entry) → IsTrue (list_all short_entry m) → IsTrue (list_all short_change cs)
    → IsTrue (list_all short_entry (fold with_change m cs))
changes_short [] m h k = h
changes_short (c ∷ cs) m h k =
    let b = and_parts (short_change c) (list_all short_change cs) k in changes_short cs (with_change m c) (change_short m c h b.0) b.1

receipts_short : (rs : List Receipt) (m : List Entry) → IsTrue (list_all short_entry m) → IsTrue (list_all short_receipt rs)
    → IsTrue (list_all short_entry (with_receipts m rs))
receipts_short [] m h k = h
receipts_short (r ∷ rs) m h k =
    let b = and_parts (short_receipt r) (list_all short_receipt rs) k in receipts_short rs (with_receipt m r) (changes_short r.changes m h b.0) b.1

-- ---- batches that break no rule

abbrev pub breaks_none : Batch → Bool
breaks_none b = is_none (broken_batch b)

batches_short : (bs : List Batch) (m : List Entry) → IsTrue (list_all short_entry m) → IsTrue (list_all breaks_none bs)
    → IsTrue (list_all short_entry (fold after_batch m bs))
batches_short [] m h k = h
batches_short (b ∷ bs) m h k =
    let p = and_parts (breaks_none b) (list_all breaks_none bs) k in
    let all : IsTrue (list_all all_short b.transactions) = test_at 4 1 (rules_of b) (none_is (broken_batch b) p.0) in
    batches_short bs (after_batch m b) (receipts_short (receipts_in (verdict_on m b)) m h (verdict_short 1 b.transactions (values_of m) [] all refl)) p.1

pub state_short : (bs : List Batch) → IsTrue (list_all breaks_none bs) → IsTrue (list_all short_entry (state_of bs))
state_short bs k = batches_short bs [] refl k
