-- Addresses, prefixes and commands are read back, and which bytes their words lack.
use Rattle.std.{specs.{Prelude.codes, List.{list_all, flat_map}, Str.bytes_eq}, proofs.Common.{◌≡◌, ℕ, ◌/◌, ◌%◌, ◌≤◌, Bool, true, false, not, cond, ◌&&◌}}
use Rattle.std.proofs.{Common.{eqb, leb, IsTrue, List, [], ◌∷◌, length, Some, None, refl, subst, arith}, lemmas.Bool.{leb-true, le-leb, and_parts, and_from}}
use Rattle.std.proofs.Math.Bool.{and-false}
use Rattle.spl_base.specs.Ids.{is_node_byte, is_graphic, is_label}
use Rattle.spl_command.specs.declared.batch.Command.{Command}
use Rattle.spl_command.specs.declared.batch.Command.TheVariants as command
use Rattle.spl_words.{specs.Words.{hex_digit, hex_byte, hex_string, end, ◌&◌, that}, proofs.{Splits.{lacks, lacks_from, lacks_append}, WordLaws.IsExact}}
use Rattle.spl_words.proofs.WordLaws.{Lacks, EachLacks, some_is, same_bytes, read_as, exact_text, exact_that, exact_meaning, exact_and, exact_end}
use Rattle.spl_words.proofs.{WordLaws.{exact_joined, end_lacks, and_lacks, joined_lacks, that_lacks, meaning_lacks, split_and}, HexLaws.exact_hex_string}
use Rattle.spl_words.proofs.{HexLaws.hex_string_lacks, KeywordLaws.{AllKeywords, is_keyword, keywords_only}}
use Rattle.spl_sched.specs.Transactions.{is_bytes, is_address, is_prefix, is_tag_byte, is_tag, is_command, address_word, prefix_word, dashed_text}
use Rattle.spl_sched.specs.Transactions.{read_dashed, dashed, tag, entry, told_word, command_text, command_keywords, command_word}

infixr 10 ◌▹◌
abbrev ◌▹◌ : {A B : Type 0} → A → B → A × B
a ▹ b = (a, b)

-- ---- addresses and prefixes

pub exact_address : IsExact address_word
exact_address =
    exact_meaning (λ _. true) (λ bs. record { 0 = bs }) (λ a. a.0) (that (λ bs. eqb (length bs) 35) hex_string) (λ y h. refl) (λ x h. (refl, refl))
    (exact_that (λ bs. eqb (length bs) 35) hex_string exact_hex_string)

pub address_lacks : (c : ℕ) → is_node_byte c ≡ false → Lacks c address_word
address_lacks c other =
    meaning_lacks c (λ _. true) (λ bs. record { 0 = bs }) (λ a. a.0) (that (λ bs. eqb (length bs) 35) hex_string)
    (that_lacks c (λ bs. eqb (length bs) 35) hex_string (hex_string_lacks c other))

pub exact_prefix : IsExact prefix_word
exact_prefix = exact_that (λ bs. leb (length bs) 35) hex_string exact_hex_string

pub prefix_lacks : (c : ℕ) → is_node_byte c ≡ false → Lacks c prefix_word
prefix_lacks c other = that_lacks c (λ bs. leb (length bs) 35) hex_string (hex_string_lacks c other)

-- two digits are no dash
no_dash : (x y : ℕ) (xs : List ℕ) → bytes_eq (x ∷ y ∷ xs) (codes "-") ≡ false
no_dash x y xs = and-false (eqb x 45)

exact_some : IsExact (that (λ bs. leb 1 (length bs)) prefix_word)
exact_some = exact_that (λ bs. leb 1 (length bs)) prefix_word exact_prefix

dashed_again : (p : List ℕ) → IsTrue (is_prefix p) → read_dashed (dashed_text p) ≡ Some p
dashed_again [] h = refl
dashed_again (b ∷ bs) h =
    let other : bytes_eq (prefix_word.spell (b ∷ bs)) (codes "-") ≡ false = no_dash (hex_digit (b / 16)) (hex_digit (b % 16)) (flat_map hex_byte bs) in
    let some : IsTrue (leb 1 (length (b ∷ bs))) = le-leb 1 (length (b ∷ bs)) (omega arith) in
    rw other (exact_some.again (b ∷ bs) (and_from (leb 1 (length (b ∷ bs))) (is_prefix (b ∷ bs)) some h))

after_dash : (xs p : List ℕ) → (xs ≡ prefix_word.spell p) × IsTrue ((that (λ bs. leb 1 (length bs)) prefix_word).fits p)
    → (xs ≡ dashed_text p) × IsTrue (is_prefix p)
after_dash xs [] e = absurd (let no : false ≡ true = e.1 in cc)
after_dash xs (b ∷ bs) e = (e.0, (and_parts (leb 1 (length (b ∷ bs))) (is_prefix (b ∷ bs)) e.1).1)

dashed_by : (xs p : List ℕ) (b : Bool) → bytes_eq xs (codes "-") ≡ b → cond b (Some []) ((that (λ bs. leb 1 (length bs)) prefix_word).read xs) ≡ Some p
    → (xs ≡ dashed_text p) × IsTrue (is_prefix p)
dashed_by xs p true same e =
    let none : [] ≡ p = some_is [] p e in subst (λ (q : List ℕ). (xs ≡ dashed_text q) × IsTrue (is_prefix q)) none (same_bytes xs (codes "-") same, refl)
dashed_by xs p false same e = after_dash xs p (exact_some.only xs p e)

pub exact_dashed : IsExact dashed
exact_dashed = record { again = dashed_again; only = λ xs p e. dashed_by xs p (bytes_eq xs (codes "-")) refl e }

dashed_free : (p : List ℕ) → IsTrue (is_prefix p) → IsTrue (lacks 32 (dashed_text p))
dashed_free [] h = refl
dashed_free (b ∷ bs) h = (prefix_lacks 32 refl).free (b ∷ bs) h

pub dashed_lacks : Lacks 32 dashed
dashed_lacks = record { free = dashed_free }

-- ---- texts

tag_lacks : (c : ℕ) → is_tag_byte c ≡ false → Lacks c tag
tag_lacks c other = record { free = λ x h. lacks_from is_tag_byte c other x (and_parts (leb 1 (length x) && leb (length x) 64) (list_all is_tag_byte x) h).1 }

tags_are_graphic : (xs : List ℕ) → IsTrue (list_all is_tag_byte xs) → IsTrue (list_all is_graphic xs)
tags_are_graphic [] h = refl
tags_are_graphic (x ∷ xs) h =
    let b = and_parts (is_tag_byte x) (list_all is_tag_byte xs) h in
    and_from (is_graphic x) (list_all is_graphic xs) (and_parts (is_graphic x) (not (eqb x 61)) b.0).0 (tags_are_graphic xs b.1)

pub tag_is_label : (xs : List ℕ) → IsTrue (is_tag xs) → IsTrue (is_label xs)
tag_is_label xs h =
    let b = and_parts (leb 1 (length xs) && leb (length xs) 64) (list_all is_tag_byte xs) h in
    let few : length xs ≤ 64 = leb-true _ _ (and_parts (leb 1 (length xs)) (leb (length xs) 64) b.0).1 in
    and_from (leb (length xs) 128) (list_all is_graphic xs) (le-leb (length xs) 128 (omega arith)) (tags_are_graphic xs b.1)

-- ---- two words with = between them

entry_lacks : (c : ℕ) → is_node_byte c ≡ false → EachLacks c (address_word & hex_string & end)
entry_lacks c other = and_lacks c _ _ (address_lacks c other) (and_lacks c _ _ (hex_string_lacks c other) (end_lacks c))

exact_entry : IsExact entry
exact_entry =
    exact_joined 61 (address_word & hex_string & end) (split_and 61 address_word (hex_string & end) (entry_lacks 61 refl))
    (exact_and _ _ exact_address (exact_and _ _ exact_hex_string exact_end))

told_lacks : (c : ℕ) → is_tag_byte c ≡ false → is_node_byte c ≡ false → EachLacks c (tag & hex_string & end)
told_lacks c free other = and_lacks c _ _ (tag_lacks c free) (and_lacks c _ _ (hex_string_lacks c other) (end_lacks c))

exact_told : IsExact told_word
exact_told =
    exact_joined 61 (tag & hex_string & end) (split_and 61 tag (hex_string & end) (told_lacks 61 refl refl))
    (exact_and _ _ (exact_text is_tag) (exact_and _ _ exact_hex_string exact_end))

-- ---- commands

pair : (a b : Bool) → IsTrue (a && b) → IsTrue (a && (b && true))
pair true true h = refl
pair true false h = h
pair false b h = h

unpair : (a b : Bool) → IsTrue (a && (b && true)) → IsTrue (a && b)
unpair true true h = refl
unpair true false h = h
unpair false b h = h

command_again : (c : Command) → IsTrue (is_command c) → command_word.read (command_text c) ≡ Some c
command_again (command.Set a v) h =
    read_as entry (λ x. command.Set x.0 x.1.0) (a, (v, tt)) (command.Set a v) exact_entry (pair (is_address a) (is_bytes v) h) refl
command_again (command.Get a) h = read_as address_word command.Get a (command.Get a) exact_address h refl
command_again (command.Delete a) h = read_as address_word command.Delete a (command.Delete a) exact_address h refl
command_again (command.Event k v) h =
    read_as told_word (λ x. command.Event x.0 x.1.0) (k, (v, tt)) (command.Event k v) exact_told (pair (is_tag k) (is_bytes v) h) refl
command_again (command.Data v) h = read_as hex_string command.Data v (command.Data v) exact_hex_string h refl
command_again (command.Invalid why) h = read_as tag command.Invalid why (command.Invalid why) (exact_text is_tag) h refl
command_again (command.Error why) h = read_as tag command.Error why (command.Error why) (exact_text is_tag) h refl

all_commands : AllKeywords command_text is_command command_keywords
all_commands =
    is_keyword command_text is_command (codes "set:") entry (λ x. command.Set x.0 x.1.0) exact_entry (λ x h. (refl, unpair (is_address x.0) (is_bytes x.1.0) h))
    ▹ is_keyword command_text is_command (codes "get:") address_word command.Get exact_address (λ x h. (refl, h))
    ▹ is_keyword command_text is_command (codes "del:") address_word command.Delete exact_address (λ x h. (refl, h))
    ▹ is_keyword command_text is_command (codes "event:") told_word (λ x. command.Event x.0 x.1.0) exact_told
    (λ x h. (refl, unpair (is_tag x.0) (is_bytes x.1.0) h))
    ▹ is_keyword command_text is_command (codes "data:") hex_string command.Data exact_hex_string (λ x h. (refl, h))
    ▹ is_keyword command_text is_command (codes "invalid:") tag command.Invalid (exact_text is_tag) (λ x h. (refl, h))
    ▹ is_keyword command_text is_command (codes "error:") tag command.Error (exact_text is_tag) (λ x h. (refl, h))
    ▹ tt

command_only : (xs : List ℕ) (c : Command) → command_word.read xs ≡ Some c → (xs ≡ command_text c) × IsTrue (is_command c)
command_only xs c e = keywords_only command_text is_command command_keywords None xs c all_commands (λ no. absurd cc) e

pub exact_command : IsExact command_word
exact_command = record { again = command_again; only = command_only }

command_free : (c : Command) → IsTrue (is_command c) → IsTrue (lacks 32 (command_text c))
command_free (command.Set a v) h =
    lacks_append 32 (codes "set:") (entry.spell (a, (v, tt))) refl
    ((joined_lacks 32 61 (address_word & hex_string & end) refl (entry_lacks 32 refl)).free (a, (v, tt)) (pair (is_address a) (is_bytes v) h))
command_free (command.Get a) h = lacks_append 32 (codes "get:") (address_word.spell a) refl ((address_lacks 32 refl).free a h)
command_free (command.Delete a) h = lacks_append 32 (codes "del:") (address_word.spell a) refl ((address_lacks 32 refl).free a h)
command_free (command.Event k v) h =
    lacks_append 32 (codes "event:") (told_word.spell (k, (v, tt))) refl
    ((joined_lacks 32 61 (tag & hex_string & end) refl (told_lacks 32 refl refl)).free (k, (v, tt)) (pair (is_tag k) (is_bytes v) h))
command_free (command.Data v) h = lacks_append 32 (codes "data:") (hex_string.spell v) refl ((hex_string_lacks 32 refl).free v h)
command_free (command.Invalid why) h = lacks_append 32 (codes "invalid:") why refl ((tag_lacks 32 refl).free why h)
command_free (command.Error why) h = lacks_append 32 (codes "error:") why refl ((tag_lacks 32 refl).free why h)

pub command_lacks : Lacks 32 command_word
command_lacks = record { free = command_free }
