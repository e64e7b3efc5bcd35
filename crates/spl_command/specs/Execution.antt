-- What executing a batch on a state gives (docs/RULES.md, Batches).
use Rattle.std.specs.{Prelude.{ℕ, ◌+◌, List, [], ◌∷◌, ◌++◌, if◌then◌else◌, Option, Some, None, is_some, option_to_list, Result, Ok, Err}, Map.lookup}
use Rattle.std.specs.BTreeMap.{is_at}
use Rattle.spl_state.specs.{Entries.{Entry, address_cmp}, declared.address.Address.Address}
use Rattle.spl_command.specs.declared.batch.{Batch.Batch, Command.{Command, TheVariants.{Set, Get, Delete, Event, Data}}, Transaction.Transaction}
use Rattle.spl_command.specs.declared.receipt.{Receipt.Receipt, Verdict.Verdict}
use Rattle.spl_command.specs.declared.receipt.StateChange.TheVariants as change
use Rattle.spl_command.specs.declared.receipt.Verdict.TheVariants as verdict
pub use Rattle.spl_command.specs.Causes.{covered, cause_in, cause_among, numbered, cause_from}

-- a state, as the value at each address
abbrev pub Values : Type 0
Values = Address → Option (List ℕ)

abbrev pub values_of : List Entry → Values
values_of m a = lookup (is_at (address_cmp a)) m

abbrev pub with_value : Values → Address → Option (List ℕ) → Values
with_value m a v = λ b. if is_at (address_cmp b) a then v else m b

-- the state that a command leaves
abbrev pub values_after : Values → Command → Values
values_after m (Set a v) = with_value m a (Some v)
values_after m (Delete a) = with_value m a None
values_after m _ = m

-- the receipt of a transaction, with what a command adds to it
abbrev pub receipt_after : Values → Receipt → Command → Receipt
receipt_after m r (Set a v) = record r { changes = r.changes ++ change.Set a v ∷ [] }
receipt_after m r (Get a) = record r { returned = r.returned ++ option_to_list (m a) }
receipt_after m r (Delete a) = if is_some (m a) then record r { changes = r.changes ++ change.Delete a ∷ [] } else r
receipt_after m r (Event k v) = record r { events = r.events ++ record { kind = k; «data» = v } ∷ [] }
receipt_after m r (Data v) = record r { returned = r.returned ++ v ∷ [] }
receipt_after m r _ = r

-- a transaction that has run so far: the state, and its receipt
pub record Ran : Type 0 where
  pub values : Values
  pub receipt : Receipt

abbrev pub begun : Values → Ran
begun m = record { values = m; receipt = record { changes = []; events = []; returned = [] } }

abbrev pub ran : Ran → Command → Ran
ran r c = record { values = values_after r.values c; receipt = receipt_after r.values r.receipt c }

abbrev pub unless : {A : Type 0} → Option ℕ → Result A ℕ → Result A ℕ
unless None next = next
unless (Some cause) next = Err cause

-- commands in order, up to the first cause
abbrev pub run : Transaction → List Command → Ran → Result Ran ℕ
run t [] r = Ok r
run t (c ∷ cs) r = unless (cause_in t c) (run t cs (ran r c))

abbrev pub after_run : ℕ → (Ran → Verdict) → Result Ran ℕ → Verdict
after_run n next (Ok r) = next r
after_run n next (Err cause) = verdict.Invalid n cause

-- transactions in order, the first of them the n-th, after others with these receipts
abbrev pub verdict_from : ℕ → List Transaction → Values → List Receipt → Verdict
verdict_from n [] m rs = verdict.Valid rs
verdict_from n (t ∷ ts) m rs = after_run n (λ r. verdict_from (n + 1) ts r.values (rs ++ r.receipt ∷ [])) (run t t.commands (begun m))

-- what a batch is on a state
abbrev pub verdict_on : List Entry → Batch → Verdict
verdict_on m b = verdict_from 1 b.transactions (values_of m) []

-- the first cause of a batch, with the number of its transaction: it hangs on no state
abbrev pub cause_of : Batch → Option (ℕ × ℕ)
cause_of b = cause_from 1 b.transactions

-- the cause that a verdict reports, with the number of its transaction
abbrev pub told_cause : Verdict → Option (ℕ × ℕ)
told_cause (verdict.Valid rs) = None
told_cause (verdict.Invalid t cause) = Some (t, cause)
