-- Batches that are equal are identical.
use Rattle.std.{specs.{Prelude.◌↔◌, Str.bytes_eq}, proofs.{Common.{◌≡◌, ℕ, Bool, true, ◌==◌, List, [], ◌∷◌, refl, sym, ap, ◌∙◌}, lemmas.Bool.and_parts}}
use Rattle.std.proofs.lemmas.Bool.{and_from, eqb-true, eq-eqb}
use Rattle.spl_base.specs.Booleans.{bytes_are, bytes_same}
use Rattle.spl_state.specs.declared.address.Address.{Address}
use Rattle.spl_command.specs.{Equality.{same_address, same_command, same_list, same_transaction, same_batch}, declared.batch.{Batch.Batch, Command.Command}}
use Rattle.spl_command.specs.declared.batch.{Command.TheVariants.{Set, Get, Delete, Event, Data, Invalid, Error}, Transaction.Transaction}

abbrev address_by : List ℕ → Address
address_by xs = record { 0 = xs }

address_is : (a b : Address) → same_address a b ≡ true → a ≡ b
address_is a b h = ap address_by (bytes_are a.0 b.0 h)

address_same : (a : Address) → same_address a a ≡ true
address_same a = bytes_same a.0

module _ {A : Type 0} (same : A → A → Bool) where
  list_is : ((x y : A) → same x y ≡ true → x ≡ y) → (xs ys : List A) → same_list same xs ys ≡ true → xs ≡ ys
  list_is one [] [] h = refl
  list_is one (x ∷ xs) (y ∷ ys) h =
      let b = and_parts (same x y) (same_list same xs ys) h in
      ap (λ v. v ∷ xs) (one x y b.0) ∙ ap (λ v. y ∷ v) (list_is one xs ys b.1)
  list_is one xs ys h = absurd cc

  list_same : ((x : A) → same x x ≡ true) → (xs : List A) → same_list same xs xs ≡ true
  list_same one [] = refl
  list_same one (x ∷ xs) = and_from (same x x) (same_list same xs xs) (one x) (list_same one xs)

command_is : (c d : Command) → same_command c d ≡ true → c ≡ d
command_is (Set a v) (Set b w) h =
    let p = and_parts (same_address a b) (bytes_eq v w) h in
    ap (λ x. Set x v) (address_is a b p.0) ∙ ap (λ x. Set b x) (bytes_are v w p.1)
command_is (Get a) (Get b) h = ap (λ x. Get x) (address_is a b h)
command_is (Delete a) (Delete b) h = ap (λ x. Delete x) (address_is a b h)
command_is (Event k v) (Event l w) h =
    let p = and_parts (bytes_eq k l) (bytes_eq v w) h in
    ap (λ x. Event x v) (bytes_are k l p.0) ∙ ap (λ x. Event l x) (bytes_are v w p.1)
command_is (Data v) (Data w) h = ap (λ x. Data x) (bytes_are v w h)
command_is (Invalid k) (Invalid l) h = ap (λ x. Invalid x) (bytes_are k l h)
command_is (Error k) (Error l) h = ap (λ x. Error x) (bytes_are k l h)
command_is c d h = absurd cc

command_same : (c : Command) → same_command c c ≡ true
command_same (Set a v) = and_from (same_address a a) (bytes_eq v v) (address_same a) (bytes_same v)
command_same (Get a) = address_same a
command_same (Delete a) = address_same a
command_same (Event k v) = and_from (bytes_eq k k) (bytes_eq v v) (bytes_same k) (bytes_same v)
command_same (Data v) = bytes_same v
command_same (Invalid k) = bytes_same k
command_same (Error k) = bytes_same k

abbrev transaction_by : List (List ℕ) → List (List ℕ) → List Command → Transaction
transaction_by inputs outputs commands = record { inputs = inputs; outputs = outputs; commands = commands }

transaction_is : (t u : Transaction) → same_transaction t u ≡ true → t ≡ u
transaction_is t u h =
    let p = and_parts (same_list bytes_eq t.inputs u.inputs) _ h in
    let q = and_parts (same_list bytes_eq t.outputs u.outputs) (same_list same_command t.commands u.commands) p.1 in
    ap (λ x. transaction_by x t.outputs t.commands) (list_is bytes_eq bytes_are t.inputs u.inputs p.0)
    ∙ ap (λ x. transaction_by u.inputs x t.commands) (list_is bytes_eq bytes_are t.outputs u.outputs q.0)
    ∙ ap (transaction_by u.inputs u.outputs) (list_is same_command command_is t.commands u.commands q.1)

transaction_same : (t : Transaction) → same_transaction t t ≡ true
transaction_same t =
    and_from (same_list bytes_eq t.inputs t.inputs) _ (list_same bytes_eq bytes_same t.inputs)
    (and_from (same_list bytes_eq t.outputs t.outputs) _ (list_same bytes_eq bytes_same t.outputs) (list_same same_command command_same t.commands))

abbrev batch_by : ℕ → List Transaction → Batch
batch_by id transactions = record { id = id; transactions = transactions }

batch_is : (b c : Batch) → same_batch b c ≡ true → b ≡ c
batch_is b c h =
    let p = and_parts (b.id == c.id) (same_list same_transaction b.transactions c.transactions) h in
    ap (λ x. batch_by x b.transactions) (eqb-true b.id c.id p.0) ∙ ap (batch_by c.id)
    (list_is same_transaction transaction_is b.transactions c.transactions p.1)

batch_same : (b : Batch) → same_batch b b ≡ true
batch_same b = and_from (b.id == b.id) (same_list same_transaction b.transactions b.transactions)
    (eq-eqb b.id b.id refl) (list_same same_transaction transaction_same b.transactions)

pub same_batches : (b c : Batch) → (same_batch b c ≡ true) ↔ (b ≡ c)
same_batches b c = (batch_is b c, λ e. ap (same_batch b) (sym e) ∙ batch_same b)
