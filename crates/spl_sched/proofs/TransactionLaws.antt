-- Transactions are read back from their words, which have no space.
use Rattle.std.{specs.{Prelude.codes, List.list_all, Str.bytes_eq}, proofs.Common.{◌≡◌, ℕ, Bool, true, false, cond, ◌&&◌, eqb, IsTrue, List, [], ◌∷◌, ◌++◌}}
use Rattle.std.proofs.{Common.{length, map, Option, Some, None, refl, sym, ap, ◌∙◌, subst, append_assoc, arith}, lemmas.Bool.{eqb-true, and_parts, and_from}}
use Rattle.std.proofs.lemmas.List.{append-nil, map-append, Folds.list_all-append}
use Rattle.spl_command.specs.declared.batch.{Command.Command, Transaction.Transaction}
use Rattle.spl_command.specs.declared.batch.Command.TheVariants as command
use Rattle.spl_sched.specs.Transactions.{is_prefix, is_command, is_transaction, prefix_word, input_text, output_text, command_text, command_word}
use Rattle.spl_sched.specs.Transactions.{part_keywords, read_part, words_of_transaction, words_of_transactions, no_parts, with_part, with_word, read_open}
use Rattle.spl_sched.{specs.{Transactions.{read_transactions, transactions_words}, declared.transaction.Part.Part}, proofs.CommandLaws.exact_prefix}
use Rattle.spl_sched.proofs.CommandLaws.{prefix_lacks, exact_command, command_lacks}
use Rattle.spl_sched.specs.declared.transaction.Part.TheVariants as part
use Rattle.spl_words.{specs.Words.{◌>>=◌, read_keyword}, proofs.{Splits.{lacks, lacks_append}, WordLaws.{IsExact, EachLacks, some_is, bind_some, guard_some}}}
use Rattle.spl_words.proofs.{WordLaws.{same_bytes, read_as}, KeywordLaws.{AllKeywords, is_keyword, keywords_only}}
use Rattle.spl_base.specs.Booleans.{all_more}

-- ---- parts

abbrev part_text : Part → List ℕ
part_text (part.Input p) = input_text p
part_text (part.Output p) = output_text p
part_text (part.Command c) = command_text c

abbrev is_part : Part → Bool
is_part (part.Input p) = is_prefix p
is_part (part.Output p) = is_prefix p
is_part (part.Command c) = is_command c

-- a command begins as no other part does
command_alone : (other : Option Part) (c : Command) → read_keyword part_keywords other (command_text c) ≡ other
command_alone other (command.Set a v) = refl
command_alone other c = refl

no_start : (c : Command) → bytes_eq (command_text c) (codes "tx") ≡ false
no_start (command.Set a v) = refl
no_start c = refl

input_again : (p : List ℕ) → IsTrue (is_prefix p) → read_part (input_text p) ≡ Some (part.Input p)
input_again p h = read_as prefix_word part.Input p (part.Input p) exact_prefix h refl

output_again : (p : List ℕ) → IsTrue (is_prefix p) → read_part (output_text p) ≡ Some (part.Output p)
output_again p h = read_as prefix_word part.Output p (part.Output p) exact_prefix h refl

do_again : (c : Command) → IsTrue (is_command c) → read_part (command_text c) ≡ Some (part.Command c)
do_again c h = command_alone (command_word.read (command_text c) >>= λ d. Some (part.Command d)) c ∙ rw (exact_command.again c h) refl

all_parts : AllKeywords part_text is_part part_keywords
all_parts = (
  is_keyword part_text is_part (codes "in:") prefix_word part.Input exact_prefix (λ x h. (refl, h)),
  (is_keyword part_text is_part (codes "out:") prefix_word part.Output exact_prefix (λ x h. (refl, h)), tt),
)

do_only : (xs : List ℕ) (p : Part) → (command_word.read xs >>= λ c. Some (part.Command c)) ≡ Some p → (xs ≡ part_text p) × IsTrue (is_part p)
do_only xs p e =
    let m = bind_some (command_word.read xs) (λ c. Some (part.Command c)) p e in
    let made : Part = part.Command m.0 in
    let same : made ≡ p = some_is made p m.2 in
    subst (λ (q : Part). (xs ≡ part_text q) × IsTrue (is_part q)) same (exact_command.only xs m.0 m.1)

part_only : (xs : List ℕ) (p : Part) → read_part xs ≡ Some p → (xs ≡ part_text p) × IsTrue (is_part p)
part_only xs p e = keywords_only part_text is_part part_keywords (command_word.read xs >>= λ c. Some (part.Command c)) xs p all_parts (do_only xs p) e

-- ---- what is read is spelled so

-- the words after tx
abbrev inner : Transaction → List (List ℕ)
inner t = map input_text t.inputs ++ (map output_text t.outputs ++ map command_text t.commands)

both : (a b c : Bool) → IsTrue a → IsTrue b → IsTrue c → IsTrue (a && b && c)
both a b c ha hb hc = and_from (a && b) c (and_from a b ha hb) hc

-- a transaction whose words are those of the first and one more
abbrev Grown : Transaction → Part → Transaction → Type 0
Grown t p u = (inner u ≡ inner t ++ part_text p ∷ []) × IsTrue (is_transaction u)

some_left : {A : Type 0} (x : A) (xs : List A) → IsTrue (eqb (length (x ∷ xs)) 0) → ⊥
some_left x xs h = let none : length (x ∷ xs) ≡ 0 = eqb-true (length (x ∷ xs)) 0 h in omega (arith, none)

input_grown : (ins outs : List (List ℕ)) (cs : List Command) (p : List ℕ) → IsTrue (eqb (length outs) 0 && eqb (length cs) 0)
    → IsTrue (is_transaction (record { inputs = ins; outputs = outs; commands = cs })) → IsTrue (is_prefix p)
    → Grown (record { inputs = ins; outputs = outs; commands = cs }) (part.Input p) (record { inputs = ins ++ p ∷ []; outputs = outs; commands = cs })
input_grown ins [] [] p none h k =
    let b = and_parts (list_all is_prefix ins) true (and_parts (list_all is_prefix ins && true) true h).0 in
    let more : IsTrue (list_all is_prefix (ins ++ p ∷ [])) = all_more is_prefix ins p b.0 k in (
      append-nil (map input_text (ins ++ p ∷ [])) ∙ map-append input_text ins (p ∷ [])
          ∙ ap (λ (ws : List (List ℕ)). ws ++ input_text p ∷ []) (sym (append-nil (map input_text ins))),
      both (list_all is_prefix (ins ++ p ∷ [])) true true more refl refl,
    )
input_grown ins (o ∷ outs) cs p none h k = absurd (some_left o outs (and_parts (eqb (length (o ∷ outs)) 0) (eqb (length cs) 0) none).0)
input_grown ins [] (c ∷ cs) p none h k = absurd (some_left c cs none)

output_grown : (ins outs : List (List ℕ)) (cs : List Command) (p : List ℕ) → IsTrue (eqb (length cs) 0)
    → IsTrue (is_transaction (record { inputs = ins; outputs = outs; commands = cs })) → IsTrue (is_prefix p)
    → Grown (record { inputs = ins; outputs = outs; commands = cs }) (part.Output p) (record { inputs = ins; outputs = outs ++ p ∷ []; commands = cs })
output_grown ins outs [] p none h k =
    let b = and_parts (list_all is_prefix ins) (list_all is_prefix outs) (and_parts (list_all is_prefix ins && list_all is_prefix outs) true h).0 in
    let more : IsTrue (list_all is_prefix (outs ++ p ∷ [])) = all_more is_prefix outs p b.1 k in
    let end : List (List ℕ) = output_text p ∷ [] in (
      ap (λ (ws : List (List ℕ)). map input_text ins ++ ws) (append-nil (map output_text (outs ++ p ∷ [])) ∙ map-append output_text outs (p ∷ []))
          ∙ sym (append_assoc (map input_text ins) (map output_text outs) end)
          ∙ ap (λ (ws : List (List ℕ)). (map input_text ins ++ ws) ++ end) (sym (append-nil (map output_text outs))),
      both (list_all is_prefix ins) (list_all is_prefix (outs ++ p ∷ [])) true b.0 more refl,
    )
output_grown ins outs (c ∷ cs) p none h k = absurd (some_left c cs none)

command_grown : (ins outs : List (List ℕ)) (cs : List Command) (c : Command)
    → IsTrue (is_transaction (record { inputs = ins; outputs = outs; commands = cs })) → IsTrue (is_command c)
    → Grown (record { inputs = ins; outputs = outs; commands = cs }) (part.Command c) (record { inputs = ins; outputs = outs; commands = cs ++ c ∷ [] })
command_grown ins outs cs c h k =
    let a = and_parts (list_all is_prefix ins && list_all is_prefix outs) (list_all is_command cs) h in
    let b = and_parts (list_all is_prefix ins) (list_all is_prefix outs) a.0 in
    let end : List (List ℕ) = command_text c ∷ [] in (
      ap (λ (ws : List (List ℕ)). map input_text ins ++ (map output_text outs ++ ws)) (map-append command_text cs (c ∷ []))
          ∙ ap (λ (ws : List (List ℕ)). map input_text ins ++ ws) (sym (append_assoc (map output_text outs) (map command_text cs) end))
          ∙ sym (append_assoc (map input_text ins) (map output_text outs ++ map command_text cs) end),
      both (list_all is_prefix ins) (list_all is_prefix outs) (list_all is_command (cs ++ c ∷ [])) b.0 b.1 (all_more is_command cs c a.1 k),
    )

grown : (t : Transaction) (p : Part) (u : Transaction) → with_part t p ≡ Some u → IsTrue (is_transaction t) → IsTrue (is_part p) → Grown t p u
grown t (part.Input p) u e h k =
    let g = guard_some (eqb (length t.outputs) 0 && eqb (length t.commands) 0) (Some (record t { inputs = t.inputs ++ p ∷ [] })) u e in
    let made : Transaction = record t { inputs = t.inputs ++ p ∷ [] } in
    let same : made ≡ u = some_is made u g.1 in
    subst (λ (v : Transaction). Grown t (part.Input p) v) same (input_grown t.inputs t.outputs t.commands p g.0 h k)
grown t (part.Output p) u e h k =
    let g = guard_some (eqb (length t.commands) 0) (Some (record t { outputs = t.outputs ++ p ∷ [] })) u e in
    let made : Transaction = record t { outputs = t.outputs ++ p ∷ [] } in
    let same : made ≡ u = some_is made u g.1 in
    subst (λ (v : Transaction). Grown t (part.Output p) v) same (output_grown t.inputs t.outputs t.commands p g.0 h k)
grown t (part.Command c) u e h k =
    let made : Transaction = record t { commands = t.commands ++ c ∷ [] } in
    let same : made ≡ u = some_is made u e in
    subst (λ (v : Transaction). Grown t (part.Command c) v) same (command_grown t.inputs t.outputs t.commands c h k)

word_grown : (t : Transaction) (word : List ℕ) (u : Transaction) → with_word t word ≡ Some u → IsTrue (is_transaction t)
    → (inner u ≡ inner t ++ word ∷ []) × IsTrue (is_transaction u)
word_grown t word u e h =
    let m = bind_some (read_part word) (λ p. with_part t p) u e in
    let o = part_only word m.0 m.1 in
    let g = grown t m.0 u m.2 h o.1 in
    (g.0 ∙ ap (λ (w : List ℕ). inner t ++ w ∷ []) (sym o.0), g.1)

-- these words, after those of an open transaction, spell transactions
abbrev SpelledAfter : Transaction → List (List ℕ) → List Transaction → Type 0
SpelledAfter t words ts = (codes "tx" ∷ (inner t ++ words) ≡ words_of_transactions ts) × IsTrue (list_all is_transaction ts)

module _ (t : Transaction) (word : List ℕ) (words : List (List ℕ)) (ts : List Transaction) (h : IsTrue (is_transaction t))
    (more : (u : Transaction) (us : List Transaction) → IsTrue (is_transaction u) → read_open u words ≡ Some us → SpelledAfter u words us) where
  started : word ≡ codes "tx" → (read_open no_parts words >>= λ us. Some (t ∷ us)) ≡ Some ts → SpelledAfter t (word ∷ words) ts
  started start e =
      let m = bind_some (read_open no_parts words) (λ us. Some (t ∷ us)) ts e in
      let made : List Transaction = t ∷ m.0 in
      let same : made ≡ ts = some_is made ts m.2 in
      let o = more no_parts m.0 refl m.1 in
      subst (λ (us : List Transaction). SpelledAfter t (word ∷ words) us) same (
        ap (λ (w : List ℕ). codes "tx" ∷ (inner t ++ w ∷ words)) start ∙ ap (λ (ws : List (List ℕ)). codes "tx" ∷ (inner t ++ ws)) o.0,
        and_from (is_transaction t) (list_all is_transaction m.0) h o.1,
      )

  went_on : (with_word t word >>= λ u. read_open u words) ≡ Some ts → SpelledAfter t (word ∷ words) ts
  went_on e =
      let m = bind_some (with_word t word) (λ u. read_open u words) ts e in
      let g = word_grown t word m.0 m.1 h in
      let o = more m.0 ts g.1 m.2 in (
        ap (λ (ws : List (List ℕ)). codes "tx" ∷ ws) (sym (append_assoc (inner t) (word ∷ []) words) ∙ ap (λ (ws : List (List ℕ)). ws ++ words) (sym g.0))
            ∙ o.0,
        o.1,
      )

  by_start : (b : Bool) → bytes_eq word (codes "tx") ≡ b
      → cond b (read_open no_parts words >>= λ us. Some (t ∷ us)) (with_word t word >>= λ u. read_open u words) ≡ Some ts → SpelledAfter t (word ∷ words) ts
  by_start true same e = started (same_bytes word (codes "tx") same) e
  by_start false same e = went_on e

open_only : (words : List (List ℕ)) (t : Transaction) (ts : List Transaction) → IsTrue (is_transaction t) → read_open t words ≡ Some ts
    → SpelledAfter t words ts
open_only [] t ts h e =
    let made : List Transaction = t ∷ [] in
    let same : made ≡ ts = some_is made ts e in
    subst (λ (us : List Transaction). SpelledAfter t [] us) same (refl, and_from (is_transaction t) true h refl)
open_only (word ∷ words) t ts h e = by_start t word words ts h (open_only words) (bytes_eq word (codes "tx")) refl e

first_by : (word : List ℕ) (words : List (List ℕ)) (ts : List Transaction) (b : Bool) → bytes_eq word (codes "tx") ≡ b
    → cond b (read_open no_parts words) None ≡ Some ts → (word ∷ words ≡ words_of_transactions ts) × IsTrue (list_all is_transaction ts)
first_by word words ts true same e =
    let o = open_only words no_parts ts refl e in
    (ap (λ (w : List ℕ). w ∷ words) (same_bytes word (codes "tx") same) ∙ o.0, o.1)
first_by word words ts false same e = absurd cc

only : (words : List (List ℕ)) (ts : List Transaction) → read_transactions words ≡ Some ts
    → (words ≡ words_of_transactions ts) × IsTrue (list_all is_transaction ts)
only [] ts e =
    let none : [] ≡ ts = some_is [] ts e in
    subst (λ (us : List Transaction). ([] ≡ words_of_transactions us) × IsTrue (list_all is_transaction us)) none (refl, refl)
only (word ∷ words) ts e = first_by word words ts (bytes_eq word (codes "tx")) refl e

-- ---- what is spelled is read

inputs_again : (ins ps : List (List ℕ)) (rest : List (List ℕ)) → IsTrue (list_all is_prefix ps)
    → read_open (record { inputs = ins; outputs = []; commands = [] }) (map input_text ps ++ rest)
    ≡ read_open (record { inputs = ins ++ ps; outputs = []; commands = [] }) rest
inputs_again ins [] rest h = ap (λ (xs : List (List ℕ)). read_open (record { inputs = xs; outputs = []; commands = [] }) rest) (sym (append-nil ins))
inputs_again ins (p ∷ ps) rest h =
    let b = and_parts (is_prefix p) (list_all is_prefix ps) h in
    rw (input_again p b.0) (inputs_again (ins ++ p ∷ []) ps rest b.1)
    ∙ ap (λ (xs : List (List ℕ)). read_open (record { inputs = xs; outputs = []; commands = [] }) rest) (append_assoc ins (p ∷ []) ps)

outputs_again : (ins outs ps : List (List ℕ)) (rest : List (List ℕ)) → IsTrue (list_all is_prefix ps)
    → read_open (record { inputs = ins; outputs = outs; commands = [] }) (map output_text ps ++ rest)
    ≡ read_open (record { inputs = ins; outputs = outs ++ ps; commands = [] }) rest
outputs_again ins outs [] rest h = ap (λ (xs : List (List ℕ)). read_open (record { inputs = ins; outputs = xs; commands = [] }) rest) (sym (append-nil outs))
outputs_again ins outs (p ∷ ps) rest h =
    let b = and_parts (is_prefix p) (list_all is_prefix ps) h in
    rw (output_again p b.0) (outputs_again ins (outs ++ p ∷ []) ps rest b.1)
    ∙ ap (λ (xs : List (List ℕ)). read_open (record { inputs = ins; outputs = xs; commands = [] }) rest) (append_assoc outs (p ∷ []) ps)

commands_again : (ins outs : List (List ℕ)) (cs ds : List Command) (rest : List (List ℕ)) → IsTrue (list_all is_command ds)
    → read_open (record { inputs = ins; outputs = outs; commands = cs }) (map command_text ds ++ rest)
    ≡ read_open (record { inputs = ins; outputs = outs; commands = cs ++ ds }) rest
commands_again ins outs cs [] rest h = ap (λ (xs : List Command). read_open (record { inputs = ins; outputs = outs; commands = xs }) rest) (sym (append-nil cs))
commands_again ins outs cs (d ∷ ds) rest h =
    let b = and_parts (is_command d) (list_all is_command ds) h in
    rw (no_start d, do_again d b.0) (commands_again ins outs (cs ++ d ∷ []) ds rest b.1)
    ∙ ap (λ (xs : List Command). read_open (record { inputs = ins; outputs = outs; commands = xs }) rest) (append_assoc cs (d ∷ []) ds)

open_again : (t : Transaction) (rest : List (List ℕ)) → IsTrue (is_transaction t) → read_open no_parts (inner t ++ rest) ≡ read_open t rest
open_again t rest h =
    let a = and_parts (list_all is_prefix t.inputs && list_all is_prefix t.outputs) (list_all is_command t.commands) h in
    let b = and_parts (list_all is_prefix t.inputs) (list_all is_prefix t.outputs) a.0 in
    let others : List (List ℕ) = map output_text t.outputs ++ map command_text t.commands in
    ap (read_open no_parts) (append_assoc (map input_text t.inputs) others rest)
    ∙ inputs_again [] t.inputs (others ++ rest) b.0
    ∙ ap (read_open (record { inputs = t.inputs; outputs = []; commands = [] })) (append_assoc (map output_text t.outputs) (map command_text t.commands) rest)
    ∙ outputs_again t.inputs [] t.outputs (map command_text t.commands ++ rest) b.1
    ∙ commands_again t.inputs t.outputs [] t.commands rest a.1

all_again : (t : Transaction) (ts : List Transaction) → IsTrue (list_all is_transaction ts) → read_open t (words_of_transactions ts) ≡ Some (t ∷ ts)
all_again t [] h = refl
all_again t (u ∷ us) h =
    let b = and_parts (is_transaction u) (list_all is_transaction us) h in
    let found : read_open no_parts (inner u ++ words_of_transactions us) ≡ Some (u ∷ us) = open_again u (words_of_transactions us) b.0 ∙ all_again u us b.1 in
    ap (λ (o : Option (List Transaction)). o >>= λ ts. Some (t ∷ ts)) found

again : (ts : List Transaction) → IsTrue (list_all is_transaction ts) → read_transactions (words_of_transactions ts) ≡ Some ts
again [] h = refl
again (t ∷ ts) h =
    let b = and_parts (is_transaction t) (list_all is_transaction ts) h in
    open_again t (words_of_transactions ts) b.0 ∙ all_again t ts b.1

pub exact_transactions : IsExact transactions_words
exact_transactions = record { again = again; only = only }

-- ---- no word has a space

each_text : {A : Type 0} (spell : A → List ℕ) (fits : A → Bool) → ((x : A) → IsTrue (fits x) → IsTrue (lacks 32 (spell x))) → (xs : List A)
    → IsTrue (list_all fits xs) → IsTrue (list_all (lacks 32) (map spell xs))
each_text spell fits p [] h = refl
each_text spell fits p (x ∷ xs) h =
    let b = and_parts (fits x) (list_all fits xs) h in
    and_from (lacks 32 (spell x)) (list_all (lacks 32) (map spell xs)) (p x b.0) (each_text spell fits p xs b.1)

all_append : (xs ys : List (List ℕ)) → IsTrue (list_all (lacks 32) xs) → IsTrue (list_all (lacks 32) ys) → IsTrue (list_all (lacks 32) (xs ++ ys))
all_append xs ys h k = list_all-append (lacks 32) xs ys ∙ and_from (list_all (lacks 32) xs) (list_all (lacks 32) ys) h k

prefix_free : (p : List ℕ) → IsTrue (is_prefix p) → IsTrue (lacks 32 (prefix_word.spell p))
prefix_free p h = (prefix_lacks 32 refl).free p h

inner_lacks : (t : Transaction) → IsTrue (is_transaction t) → IsTrue (list_all (lacks 32) (inner t))
inner_lacks t h =
    let a = and_parts (list_all is_prefix t.inputs && list_all is_prefix t.outputs) (list_all is_command t.commands) h in
    let b = and_parts (list_all is_prefix t.inputs) (list_all is_prefix t.outputs) a.0 in
    all_append (map input_text t.inputs) (map output_text t.outputs ++ map command_text t.commands)
    (each_text input_text is_prefix (λ p k. lacks_append 32 (codes "in:") (prefix_word.spell p) refl (prefix_free p k)) t.inputs b.0)
    (all_append (map output_text t.outputs) (map command_text t.commands)
    (each_text output_text is_prefix (λ p k. lacks_append 32 (codes "out:") (prefix_word.spell p) refl (prefix_free p k)) t.outputs b.1)
    (each_text command_text is_command command_lacks.free t.commands a.1))

free : (ts : List Transaction) → IsTrue (list_all is_transaction ts) → IsTrue (list_all (lacks 32) (words_of_transactions ts))
free [] h = refl
free (t ∷ ts) h =
    let b = and_parts (is_transaction t) (list_all is_transaction ts) h in
    all_append (words_of_transaction t) (words_of_transactions ts) (inner_lacks t b.0) (free ts b.1)

pub transactions_lack : EachLacks 32 transactions_words
transactions_lack = record { free = free }
