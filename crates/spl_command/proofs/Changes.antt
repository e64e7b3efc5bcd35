-- The changes that receipts report make the state that the commands left.
use Rattle.std.{specs.{Prelude.{fold, is_some, if◌then◌else◌}, Map.remove_entry, BTreeMap.{insert_entry, is_at}}, proofs.Common.{◌≡◌, ℕ, Bool, true, false}}
use Rattle.std.proofs.Common.{cond, List, [], ◌∷◌, ◌++◌, Option, Some, None, refl, sym, ap, subst, ◌∙◌}
use Rattle.spl_base.specs.Booleans.{none_of}
use Rattle.spl_state.specs.{Entries.{Entry, address_cmp}, Order.{Rises, same, insert_rises, remove_rises, value_inserted, value_removed, by_same}}
use Rattle.spl_state.specs.declared.address.Address.{Address}
use Rattle.spl_command.specs.{Execution.{Values, values_of, with_value, values_after, Ran, begun, ran, cause_of}, Lists.{with_change, with_receipts}}
use Rattle.spl_command.specs.{Lists.{receipts_in, after_batch, state_of}, Runs.{values_after_all, receipts_of}, declared.batch.{Batch.Batch, Command.Command}}
use Rattle.spl_command.specs.declared.{batch.{Command.TheVariants.{Set, Delete}, Transaction.Transaction}, receipt.StateChange.StateChange}
use Rattle.spl_command.proofs.Runs.{ran_values, valid_on, invalid_on}
use Rattle.spl_command.specs.declared.receipt.StateChange.TheVariants as change

-- ---- entries that are in address order and have these values

pub record Agrees (es : List Entry) (m : Values) : Type 0 where
  pub sorted : Rises es
  pub same : (a : Address) → values_of es a ≡ m a

set_agrees : (es : List Entry) (m : Values) (a : Address) (v : List ℕ) → Agrees es m → Agrees (insert_entry address_cmp es a v) (with_value m a (Some v))
set_agrees es m a v h = record { sorted = insert_rises a v es h.sorted; same = λ q. value_inserted q a v es ∙ ap (cond (same q a) (Some v)) (h.same q) }

delete_agrees : (es : List Entry) (m : Values) (a : Address) → Agrees es m → Agrees (remove_entry (is_at (address_cmp a)) es) (with_value m a None)
delete_agrees es m a h = record { sorted = remove_rises a es h.sorted; same = λ q. value_removed q a es h.sorted ∙ ap (cond (same q a) None) (h.same q) }

-- a deletion where nothing stood
stays : (es : List Entry) (m : Values) (a : Address) → is_some (m a) ≡ false → Agrees es m → Agrees es (with_value m a None)
stays es m a e h = record {
  sorted = h.sorted;
  same = λ q. by_same (λ b. values_of es q ≡ cond b None (m q)) q a (λ p. ap (values_of es) p ∙ h.same a ∙ none_of (m a) e) (h.same q);
}

-- ---- commands, and transactions

last : (m : List Entry) (cs : List StateChange) (c : StateChange) → fold with_change m (cs ++ c ∷ []) ≡ with_change (fold with_change m cs) c
last m [] c = refl
last m (d ∷ cs) c = last (with_change m d) cs c

abbrev told : List Entry → Ran → List Entry
told m r = fold with_change m r.receipt.changes

deleted : (m : List Entry) (r : Ran) (a : Address) (b : Bool) → is_some (r.values a) ≡ b → Agrees (told m r) r.values
    → Agrees (fold with_change m (if b then record r.receipt { changes = r.receipt.changes ++ change.Delete a ∷ [] } else r.receipt).changes)
    (with_value r.values a None)
deleted m r a true e h =
    subst (λ x. Agrees x (with_value r.values a None)) (sym (last m r.receipt.changes (change.Delete a))) (delete_agrees (told m r) r.values a h)
deleted m r a false e h = stays (told m r) r.values a e h

command_agrees : (m : List Entry) (r : Ran) (c : Command) → Agrees (told m r) r.values → Agrees (told m (ran r c)) (ran r c).values
command_agrees m r (Set a v) h =
    subst (λ x. Agrees x (with_value r.values a (Some v))) (sym (last m r.receipt.changes (change.Set a v))) (set_agrees (told m r) r.values a v h)
command_agrees m r (Delete a) h = deleted m r a (is_some (r.values a)) refl h
command_agrees m r c h = h

commands_agree : (m : List Entry) (cs : List Command) (r : Ran) → Agrees (told m r) r.values → Agrees (told m (fold ran r cs)) (fold ran r cs).values
commands_agree m [] r h = h
commands_agree m (c ∷ cs) r h = commands_agree m cs (ran r c) (command_agrees m r c h)

transactions_agree : (ts : List Transaction) (es : List Entry) (m : Values) → Agrees es m → Agrees (with_receipts es (receipts_of m ts)) (values_after_all m ts)
transactions_agree [] es m h = h
transactions_agree (t ∷ ts) es m h =
    let r : Ran = fold ran (begun m) t.commands in
    transactions_agree ts (told es r) (fold values_after m t.commands)
    (subst (Agrees (told es r)) (ran_values t.commands (begun m)) (commands_agree es t.commands (begun m) h))

pub batch_agrees : (m : List Entry) (b : Batch) → Rises m → cause_of b ≡ None
    → Rises (after_batch m b) × ((a : Address) → values_of (after_batch m b) a ≡ values_after_all (values_of m) b.transactions a)
batch_agrees m b s e =
    let h = transactions_agree b.transactions m (values_of m) (record { sorted = s; same = λ a. refl }) in
    let same : with_receipts m (receipts_of (values_of m) b.transactions) ≡ after_batch m b =
    ap (λ v. with_receipts m (receipts_in v)) (valid_on m b b.transactions (receipts_of (values_of m) b.transactions) e refl refl) in
    let g : Agrees (after_batch m b) (values_after_all (values_of m) b.transactions) =
    subst (λ x. Agrees x (values_after_all (values_of m) b.transactions)) same h in
    (g.sorted, g.same)

after_by : (m : List Entry) (b : Batch) (o : Option (ℕ × ℕ)) → cause_of b ≡ o → Rises m → Rises (after_batch m b)
after_by m b None e s = (batch_agrees m b s e).0
after_by m b (Some x) e s = subst (λ v. Rises (with_receipts m (receipts_in v))) (invalid_on m b x.0 x.1 e) s

stays_sorted : (bs : List Batch) (m : List Entry) → Rises m → Rises (fold after_batch m bs)
stays_sorted [] m s = s
stays_sorted (b ∷ bs) m s = stays_sorted bs (after_batch m b) (after_by m b (cause_of b) refl s)

pub state_sorted : (bs : List Batch) → Rises (state_of bs)
state_sorted bs = stays_sorted bs [] refl
