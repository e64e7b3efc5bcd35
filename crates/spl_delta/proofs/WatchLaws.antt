-- Each line of a watcher has one spelling, and what is read is the line of that spelling.
use Rattle.std.{specs.{Prelude.{codes, Result, Ok, Err, IfOk}, List.list_all, Option.option_map}, proofs.Common.{◌≡◌, ◌⊎◌, inl, inr, ℕ, ◌^◌, ◌≤◌, ◌<◌, Bool}}
use Rattle.std.proofs.Common.{true, false, ◌&&◌, leb, ltb, cond, IsTrue, List, [], ◌∷◌, length, Some, None, refl, sym, ap, ◌∙◌, subst, arith, lit≤}
use Rattle.std.proofs.lemmas.Bool.{lt-ltb, le-leb, leb-true, and_parts, and_from}
use Rattle.spl_agree.proofs.Tests.{or_cases}
use Rattle.spl_base.specs.Ids.{is_node_id, is_circuit_id, is_lower, is_digit, is_graphic, is_label, within}
use Rattle.spl_words.{specs.{Words.{Words, text, number, end, ◌&◌, joined, Reads, split}, declared.fault.LineFault.LineFault}, proofs.Splits.lacks}
use Rattle.spl_words.proofs.{Splits.lacks_from, WordLaws.{IsExact, Lacks, AllKinds, is_kind, kinds_only, read_as, exact_text, exact_number, exact_joined}}
use Rattle.spl_words.proofs.RowLaws.{IsSound, number_lacks, sound_and, sound_end, sound_node, sound_circuit, sound_number}
use Rattle.spl_delta.specs.Watches.{is_watcher_byte, is_watcher_name, is_count, is_watch_line, pull, read_watch_words, watch, watch_kinds, watch_line_of}
use Rattle.spl_delta.specs.{Watches.{watch_lines, watch_spelling, watch_words}, declared.line.WatchLine.{WatchLine, TheVariants.{Watch, Pull}}}

infixr 10 ◌▹◌
abbrev ◌▹◌ : {A B : Type 0} → A → B → A × B
a ▹ b = (a, b)

none : {A : Type 0} {P : Type 0} (x : A) → None ≡ Some x → P
none x e = absurd cc

-- ---- names

graphic : (b : ℕ) → IsTrue (is_watcher_byte b) → IsTrue (is_graphic b)
graphic b h = go (or_cases (is_lower b) (is_digit b) h)
  where
    between : (low high : ℕ) → 33 ≤ low → high ≤ 126 → IsTrue (leb low b && leb b high) → IsTrue (is_graphic b)
    between low high p q k =
        let r = and_parts (leb low b) (leb b high) k in
        let s : low ≤ b = leb-true low b r.0 in
        let t : b ≤ high = leb-true b high r.1 in
        and_from (leb 33 b) (leb b 126) (le-leb 33 b (omega arith)) (le-leb b 126 (omega arith))

    go : (is_lower b ≡ true) ⊎ (is_digit b ≡ true) → IsTrue (is_graphic b)
    go (inl k) = between 97 122 (lit≤ tt) (lit≤ tt) k
    go (inr k) = between 48 57 (lit≤ tt) (lit≤ tt) k

all-graphic : (xs : List ℕ) → IsTrue (list_all is_watcher_byte xs) → IsTrue (list_all is_graphic xs)
all-graphic [] h = refl
all-graphic (x ∷ xs) h =
    let b = and_parts (is_watcher_byte x) (list_all is_watcher_byte xs) h in
    and_from (is_graphic x) (list_all is_graphic xs) (graphic x b.0) (all-graphic xs b.1)

-- the name of a watcher is a label
pub name-label : (xs : List ℕ) → IsTrue (is_watcher_name xs) → IsTrue (is_label xs)
name-label xs h =
    let b = and_parts (leb 1 (length xs)) (leb (length xs) 8 && list_all is_watcher_byte xs) h in
    let d = and_parts (leb (length xs) 8) (list_all is_watcher_byte xs) b.1 in
    let few : length xs ≤ 8 = leb-true (length xs) 8 d.0 in
    and_from (leb (length xs) 128) (list_all is_graphic xs) (le-leb (length xs) 128 (omega arith)) (all-graphic xs d.1)

pub unlabelled : (xs : List ℕ) → within is_label xs ≡ None → within is_watcher_name xs ≡ None
unlabelled xs none = go (is_watcher_name xs) refl
  where
    go : (b : Bool) → is_watcher_name xs ≡ b → within is_watcher_name xs ≡ None
    go false e = ap (λ (b : Bool). cond b (Some xs) None) e
    go true e = absurd (no (sym (ap (λ (b : Bool). cond b (Some xs) None) (name-label xs e)) ∙ none))
      where
        no : Some xs ≡ None → ⊥
        no q = cc

name-lacks : Lacks 32 (text is_watcher_name)
name-lacks =
    record {
      free = λ x h. lacks_from is_watcher_byte 32 refl x
          (and_parts (leb (length x) 8) (list_all is_watcher_byte x) (and_parts (leb 1 (length x)) (leb (length x) 8 && list_all is_watcher_byte x) h).1).1;
    }

sound-name : {A : Type 0} (ws : Words A) → IsSound ws → IsSound (text is_watcher_name & ws)
sound-name ws r = sound_and (text is_watcher_name) ws (exact_text is_watcher_name) name-lacks r

-- ---- words in a row

sound-watch : IsSound watch
sound-watch =
    sound_node _ (sound_circuit _
    (sound-name _ (sound_and (number (2 ^ 32)) end (exact_number (2 ^ 32) (lit≤ tt)) (number_lacks 32 (2 ^ 32) refl (lit≤ tt)) sound_end)))

sound-pull : IsSound pull
sound-pull = sound_node _ (sound_circuit _ (sound-name _ (sound_number is_count (2 ^ 8) end (lit≤ tt) sound_end)))

-- ---- which lines are within their bounds

alone : (d : Bool) → (d && true) ≡ d
alone true = refl
alone false = refl

counted : (n : ℕ) → (is_count n && ltb n (2 ^ 8)) ≡ is_count n
counted n = go (is_count n) refl
  where
    go : (b : Bool) → is_count n ≡ b → (b && ltb n (2 ^ 8)) ≡ b
    go false e = refl
    go true e =
        let few : n ≤ 64 = leb-true n 64 (and_parts (leb 1 n) (leb n 64) e).1 in
        lt-ltb n (2 ^ 8) (omega arith)

last-is : (a b c d e : Bool) → d ≡ e → IsTrue (a && (b && (c && d))) → IsTrue (a && (b && (c && e)))
last-is a b c d e same h = subst (λ (x : Bool). IsTrue (a && (b && (c && x)))) same h

-- ---- lines

-- a line is read back from its words, and they have no space
record IsRead (l : WatchLine) : Type 0 where
  again : read_watch_words (watch_words l) ≡ Some l
  lack : IsTrue (list_all (lacks 32) (watch_words l))

read-so : {A : Type 0} (word : List ℕ) (ws : Words A) (to : A → WatchLine) → IsSound ws → IsTrue (lacks 32 word)
    → ((xs : List (List ℕ)) → read_watch_words (word ∷ xs) ≡ option_map to (ws.read xs)) → (x : A) (l : WatchLine) → IsTrue (ws.fits x) → to x ≡ l
    → watch_words l ≡ word ∷ ws.spell x → IsRead l
read-so word ws to p free first x l h e words = record {
  again = ap read_watch_words words ∙ first (ws.spell x) ∙ read_as ws to x l p.exact h e;
  lack = subst (λ (zs : List (List ℕ)). IsTrue (list_all (lacks 32) zs)) (sym words)
      (and_from (lacks 32 word) (list_all (lacks 32) (ws.spell x)) free (p.lack.free x h));
}

line-read : (l : WatchLine) → IsTrue (is_watch_line l) → IsRead l
line-read (Watch n c name place) h =
    read-so (codes "watch") watch (λ x. Watch x.0 x.1.0 x.1.1.0 x.1.1.1.0) sound-watch refl (λ xs. refl) (n, (c, (name, (place, tt)))) _
    (last-is (is_node_id n) (is_circuit_id c) (is_watcher_name name) (ltb place (2 ^ 32)) (ltb place (2 ^ 32) && true)
    (sym (alone (ltb place (2 ^ 32)))) h) refl refl
line-read (Pull n c name count) h =
    read-so (codes "pull") pull (λ x. Pull x.0 x.1.0 x.1.1.0 x.1.1.1.0) sound-pull refl (λ xs. refl) (n, (c, (name, (count, tt)))) _
    (last-is (is_node_id n) (is_circuit_id c) (is_watcher_name name) (is_count count) ((is_count count && ltb count (2 ^ 8)) && true)
    (sym (alone (is_count count && ltb count (2 ^ 8)) ∙ counted count)) h) refl refl

all-lines : AllKinds watch_words is_watch_line watch_kinds
all-lines =
    is_kind watch_words is_watch_line (codes "watch") watch (λ x. Watch x.0 x.1.0 x.1.1.0 x.1.1.1.0) sound-watch.exact
    (λ x h. (
      refl,
      last-is (is_node_id x.0) (is_circuit_id x.1.0) (is_watcher_name x.1.1.0) (ltb x.1.1.1.0 (2 ^ 32) && true) (ltb x.1.1.1.0 (2 ^ 32))
          (alone (ltb x.1.1.1.0 (2 ^ 32))) h,
    ))
    ▹ is_kind watch_words is_watch_line (codes "pull") pull (λ x. Pull x.0 x.1.0 x.1.1.0 x.1.1.1.0) sound-pull.exact
    (λ x h. (
      refl,
      last-is (is_node_id x.0) (is_circuit_id x.1.0) (is_watcher_name x.1.1.0) ((is_count x.1.1.1.0 && ltb x.1.1.1.0 (2 ^ 8)) && true)
          (is_count x.1.1.1.0) (alone (is_count x.1.1.1.0 && ltb x.1.1.1.0 (2 ^ 8)) ∙ counted x.1.1.1.0) h,
    ))
    ▹ tt

line-only : (ws : List (List ℕ)) (l : WatchLine) → read_watch_words ws ≡ Some l → (ws ≡ watch_words l) × IsTrue (is_watch_line l)
line-only [] l e = absurd cc
line-only (w ∷ xs) l e = kinds_only watch_words is_watch_line watch_kinds None w xs l all-lines (none l) e

some-word : (l : WatchLine) → 0 < length (watch_words l)
some-word (Watch n c name place) = omega arith
some-word (Pull n c name count) = omega arith

exact-line : IsExact (joined 32 watch_lines)
exact-line =
    exact_joined 32 watch_lines (record { some = λ l h. some-word l; each = λ l h. (line-read l h).lack })
    (record { again = λ l h. (line-read l h).again; only = line-only })

-- ---- the laws

pub read-back : (l : WatchLine) → IsTrue (is_watch_line l) → watch_line_of (watch_spelling l) ≡ Some l
read-back = exact-line.again

pub spelled-so : (bytes : List ℕ) (l : WatchLine) → watch_line_of bytes ≡ Some l → (bytes ≡ watch_spelling l) × IsTrue (is_watch_line l)
spelled-so = exact-line.only

-- a line by its words
pub by-words : (bytes : List ℕ) (words : List (List ℕ)) (r : Result WatchLine LineFault) → words ≡ split 32 bytes → Reads r (read_watch_words words)
    → IfOk r (λ l. (bytes ≡ watch_spelling l) × IsTrue (is_watch_line l))
by-words bytes words (Ok l) parts e = spelled-so bytes l (ap read_watch_words (sym parts) ∙ e)
by-words bytes words (Err f) parts e = tt
