-- How long byte forms are.
use Rattle.std.{specs.{List.flat_map, Int.w16}, proofs.Common.{◌≡◌, ℕ, ◌+◌, ◌<◌, List, [], ◌∷◌, ◌++◌, length, get_or, take, arith, length-append, sym, ap}}
use Rattle.std.proofs.{Common.◌∙◌, lemmas.List.{take_more, append-nil, Concat.flat_map-append}}
use Rattle.spl_base.specs.{Form.number_bytes, FormLaws.{wide8, wide16}}
use Rattle.spl_state.specs.declared.address.Address.{Address}
use Rattle.spl_command.specs.{Forms.{prefix, command, transaction}, Sizes.capped, declared.batch.Command.{Command, TheVariants.{Set, Get, Delete, Event}}}
use Rattle.spl_command.specs.declared.batch.{Command.TheVariants.{Data, Invalid, Error}, Transaction.Transaction}

pub set_size : (a : Address) (v : List ℕ) → length (command.spell (Set a v)) ≡ 3 + length a.0 + length v
set_size a v = simp (length-append, wide8.len, wide16.len) (omega arith)

pub get_size : (a : Address) → length (command.spell (Get a)) ≡ 1 + length a.0
get_size a = simp (length-append, wide8.len) (omega arith)

pub delete_size : (a : Address) → length (command.spell (Delete a)) ≡ 1 + length a.0
delete_size a = simp (length-append, wide8.len) (omega arith)

pub event_size : (k v : List ℕ) → length (command.spell (Event k v)) ≡ 5 + length k + length v
event_size k v = simp (length-append, wide8.len, wide16.len) (omega arith)

pub data_size : (v : List ℕ) → length (command.spell (Data v)) ≡ 3 + length v
data_size v = simp (length-append, wide8.len, wide16.len) (omega arith)

pub invalid_size : (k : List ℕ) → length (command.spell (Invalid k)) ≡ 3 + length k
invalid_size k = simp (length-append, wide8.len, wide16.len) (omega arith)

pub error_size : (k : List ℕ) → length (command.spell (Error k)) ≡ 3 + length k
error_size k = simp (length-append, wide8.len, wide16.len) (omega arith)

pub same_capped : (n k m : ℕ) → n ≡ k → m ≡ capped k → m ≡ capped n
same_capped n k m e h = h ∙ ap capped (sym e)

-- the number that was counted for a command
pub counted : (k l : Command) (n m : ℕ) → k ≡ l → length (command.spell l) ≡ n → m ≡ capped n → m ≡ capped (length (command.spell k))
counted k l n m e f h = h ∙ ap capped (sym (ap (λ x. length (command.spell x)) e ∙ f))

pub prefix_size : (p : List ℕ) → length (prefix.spell p) ≡ 1 + length p
prefix_size p = simp (length-append, wide8.len) (omega arith)

pub list_size : {A : Type 0} (f : A → List ℕ) (xs : List A) → length (number_bytes w16 (length xs) ++ flat_map f xs) ≡ 2 + length (flat_map f xs)
list_size f xs = simp (length-append, wide16.len) (omega arith)

pub transaction_size : (t : Transaction)
    → length (transaction.spell t)
    ≡ (2 + length (flat_map prefix.spell t.inputs)) + (2 + length (flat_map prefix.spell t.outputs)) + (2 + length (flat_map command.spell t.commands))
transaction_size t = simp (length-append, wide16.len) (omega arith)

-- one item more
pub longer : {A : Type 0} (f : A → List ℕ) (xs : List A) (i : ℕ) (d : A) → i < length xs
    → length (flat_map f (take (i + 1) xs)) ≡ length (flat_map f (take i xs)) + length (f (get_or xs i d))
longer f xs i d lt =
    ap (λ ys. length (flat_map f ys)) (take_more xs i d lt)
    ∙ ap length (flat_map-append f (take i xs) (get_or xs i d ∷ []) ∙ ap (λ z. flat_map f (take i xs) ++ z) (append-nil (f (get_or xs i d))))
    ∙ length-append (flat_map f (take i xs)) (f (get_or xs i d))
