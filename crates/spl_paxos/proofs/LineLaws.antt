-- Each line has one spelling, and what is read is the line of that spelling.
use Rattle.std.{specs.{Prelude.{codes, decimal, Result, Ok, Err, IfOk, ◌==◌}, List.{list_all, onto_first}, Option.option_map}, proofs.Common.{◌≡◌, ◌⊎◌, inl}}
use Rattle.std.proofs.Common.{inr, ℕ, ◌^◌, ◌≤◌, ◌<◌, Bool, true, false, ◌&&◌, ◌||◌, leb, ltb, IsTrue, List, [], ◌∷◌, length, Some, None, refl, sym, ap, ◌∙◌}
use Rattle.std.proofs.{Common.{subst, arith, lit≤}, lemmas.Bool.{lt-ltb, leb-true, and_parts, and_from}}
use Rattle.spl_agree.proofs.Tests.{or_cases, eqb_is}
use Rattle.spl_words.{specs.{Words.{Words, number, joined, end, Reads, kind, split}, declared.fault.LineFault.LineFault}, proofs.Splits.{lacks, lacks_append}}
use Rattle.spl_words.proofs.WordLaws.{IsExact, Lacks, AllKinds, is_kind, kinds_only, read_as, exact_number, exact_that, exact_flag, exact_joined, flag_lacks}
use Rattle.spl_words.proofs.{KeywordLaws.{is_keyword, keywords_only}, RowLaws.{IsSound, number_lacks, sound_and, sound_end, sound_number}}
use Rattle.spl_acceptor.specs.{Rows.{named, member, acceptor, leader}, Worlds.{is_in_range, has_name}, declared.kind.TheConstants.{MEMBER, ACCEPTOR, LEADER}}
use Rattle.spl_acceptor.specs.declared.message.Name.{Name}
use Rattle.spl_paxos.specs.Lines.{greatest_run, name_text, paxos_words, paxos_spelling, is_round, is_paxos_line, number_to, name_keywords, name}
use Rattle.spl_paxos.specs.Lines.{member_keywords, member_name, leader_keywords, leader_name, yes_or_no, vote, lead_words, deliver, show, one_name}
use Rattle.spl_paxos.specs.{Lines.{paxos_line_kinds, read_paxos_words, paxos_line_words, paxos_line_of}, declared.line.PaxosLine.PaxosLine}
use Rattle.spl_paxos.specs.declared.line.PaxosLine.TheVariants as line

infixr 10 ◌▹◌
abbrev ◌▹◌ : {A B : Type 0} → A → B → A × B
a ▹ b = (a, b)

none : {A : Type 0} {P : Type 0} (x : A) → None ≡ Some x → P
none x e = absurd cc

-- ---- numbers of processes

exact_number_to : (n : ℕ) → IsExact (number_to n)
exact_number_to n = exact_that (is_in_range n) (number (2 ^ 8)) (exact_number (2 ^ 8) (lit≤ tt))

number_fits : (n i : ℕ) → n ≤ 8 → IsTrue (is_in_range n i) → IsTrue ((number_to n).fits i)
number_fits n i few h =
    let most : i ≤ n = leb-true i n (and_parts (ltb 0 i) (leb i n) h).1 in
    and_from (is_in_range n i) (ltb i (2 ^ 8)) h (lt-ltb i (2 ^ 8) (omega arith))

within : (n i : ℕ) → IsTrue ((number_to n).fits i) → IsTrue (is_in_range n i)
within n i h = (and_parts (is_in_range n i) (ltb i (2 ^ 8)) h).0

number_free : (n i : ℕ) → n ≤ 8 → IsTrue (is_in_range n i) → IsTrue (lacks 32 (decimal i))
number_free n i few h = (number_lacks 32 (2 ^ 8) refl (lit≤ tt)).free i (and_parts (is_in_range n i) (ltb i (2 ^ 8)) (number_fits n i few h)).1

-- ---- names

left_or : (a b : Bool) → IsTrue a → IsTrue (a || b)
left_or true b h = refl
left_or false b h = absurd cc

name_ends : (xs : List ℕ) (n : Name) → name.read xs ≡ Some n → (xs ≡ name_text n) × IsTrue (has_name greatest_run n)
name_ends xs n e = keywords_only name_text (has_name greatest_run) name_keywords None xs n (
    is_keyword name_text (has_name greatest_run) (codes "m") (number_to 8) member (exact_number_to 8)
    (λ i h. (refl, left_or (is_in_range 8 i) false (within 8 i h)))
    ▹ is_keyword name_text (has_name greatest_run) (codes "c") (number_to 5) acceptor (exact_number_to 5)
    (λ i h. (refl, left_or (is_in_range 5 i) false (within 5 i h)))
    ▹ is_keyword name_text (has_name greatest_run) (codes "l") (number_to 3) leader (exact_number_to 3) (λ i h. (refl, within 3 i h))
    ▹ tt) (none n) e

-- a name is one of the three kinds
record IsOneOf (k i : ℕ) : Type 0 where
  again : name.read (name_text (named k i)) ≡ Some (named k i)
  free : IsTrue (lacks 32 (name_text (named k i)))

member_one : (i : ℕ) → IsTrue (is_in_range 8 i) → IsOneOf MEMBER i
member_one i h = record {
  again = read_as (number_to 8) member i (member i) (exact_number_to 8) (number_fits 8 i (omega arith) h) refl;
  free = lacks_append 32 (codes "m") (decimal i) refl (number_free 8 i (omega arith) h);
}

acceptor_one : (i : ℕ) → IsTrue (is_in_range 5 i) → IsOneOf ACCEPTOR i
acceptor_one i h = record {
  again = read_as (number_to 5) acceptor i (acceptor i) (exact_number_to 5) (number_fits 5 i (omega arith) h) refl;
  free = lacks_append 32 (codes "c") (decimal i) refl (number_free 5 i (omega arith) h);
}

leader_one : (i : ℕ) → IsTrue (is_in_range 3 i) → IsOneOf LEADER i
leader_one i h = record {
  again = read_as (number_to 3) leader i (leader i) (exact_number_to 3) (number_fits 3 i (omega arith) h) refl;
  free = lacks_append 32 (codes "l") (decimal i) refl (number_free 3 i (omega arith) h);
}

one_of_kind : (k i kind most : ℕ) → (IsTrue (is_in_range most i) → IsOneOf kind i) → IsTrue (k == kind && is_in_range most i) → IsOneOf k i
one_of_kind k i kind most one h =
    let b = and_parts (k == kind) (is_in_range most i) h in
    subst (λ (j : ℕ). IsOneOf j i) (sym (eqb_is k kind b.0)) (one b.1)

one_of : (n : Name) → IsTrue (has_name greatest_run n) → IsOneOf n.kind n.number
one_of n h =
    by (or_cases (n.kind == MEMBER && is_in_range 8 n.number)
    ((n.kind == ACCEPTOR && is_in_range 5 n.number) || (n.kind == LEADER && is_in_range 3 n.number)) h)
  where
    by_two : ((n.kind == ACCEPTOR && is_in_range 5 n.number) ≡ true) ⊎ ((n.kind == LEADER && is_in_range 3 n.number) ≡ true) → IsOneOf n.kind n.number
    by_two (inl e) = one_of_kind n.kind n.number ACCEPTOR 5 (acceptor_one n.number) e
    by_two (inr e) = one_of_kind n.kind n.number LEADER 3 (leader_one n.number) e

    by : ((n.kind == MEMBER && is_in_range 8 n.number) ≡ true)
        ⊎ (((n.kind == ACCEPTOR && is_in_range 5 n.number) || (n.kind == LEADER && is_in_range 3 n.number)) ≡ true) → IsOneOf n.kind n.number
    by (inl e) = one_of_kind n.kind n.number MEMBER 8 (member_one n.number) e
    by (inr e) = by_two (or_cases (n.kind == ACCEPTOR && is_in_range 5 n.number) (n.kind == LEADER && is_in_range 3 n.number) e)

exact_name : IsExact name
exact_name = record { again = λ n h. (one_of n h).again; only = name_ends }

name_lacks : Lacks 32 name
name_lacks = record { free = λ n h. (one_of n h).free }

exact_member : IsExact member_name
exact_member = record {
  again = λ i h. read_as (number_to 8) (λ (j : ℕ). j) i i (exact_number_to 8) (number_fits 8 i (omega arith) h) refl;
  only = λ xs i e. keywords_only (λ j. name_text (member j)) (is_in_range 8) member_keywords None xs i
      (is_keyword (λ j. name_text (member j)) (is_in_range 8) (codes "m") (number_to 8) (λ j. j) (exact_number_to 8) (λ j h. (refl, within 8 j h)) ▹ tt)
      (none i) e;
}

member_lacks : Lacks 32 member_name
member_lacks = record { free = λ i h. (member_one i h).free }

exact_leader : IsExact leader_name
exact_leader = record {
  again = λ i h. read_as (number_to 3) (λ (j : ℕ). j) i i (exact_number_to 3) (number_fits 3 i (omega arith) h) refl;
  only = λ xs i e. keywords_only (λ j. name_text (leader j)) (is_in_range 3) leader_keywords None xs i
      (is_keyword (λ j. name_text (leader j)) (is_in_range 3) (codes "l") (number_to 3) (λ j. j) (exact_number_to 3) (λ j h. (refl, within 3 j h)) ▹ tt)
      (none i) e;
}

leader_lacks : Lacks 32 leader_name
leader_lacks = record { free = λ i h. (leader_one i h).free }

-- ---- words in a row

sound_vote : IsSound vote
sound_vote = sound_and member_name _ exact_member member_lacks
    (sound_number (leb 1) (2 ^ 64) _ (lit≤ tt)
    (sound_and yes_or_no end (exact_flag (codes "yes") (codes "no") refl) (flag_lacks 32 (codes "yes") (codes "no") refl refl) sound_end))

sound_lead : IsSound lead_words
sound_lead = sound_and leader_name _ exact_leader leader_lacks (sound_number (leb 1) (2 ^ 64) end (lit≤ tt) sound_end)

sound_show : IsSound show
sound_show = sound_and member_name _ exact_member member_lacks (sound_number (leb 1) (2 ^ 64) end (lit≤ tt) sound_end)

sound_deliver : IsSound deliver
sound_deliver = sound_and name _ exact_name name_lacks (sound_and name _ exact_name name_lacks (sound_number (leb 1) (2 ^ 32) end (lit≤ tt) sound_end))

sound_one : IsSound one_name
sound_one = sound_and name end exact_name name_lacks sound_end

-- ---- lines

two_fits : (a b : Bool) → IsTrue (a && b) → IsTrue (a && (b && true))
two_fits true true h = refl
two_fits true false h = h
two_fits false b h = h

fits_two : (a b : Bool) → IsTrue (a && (b && true)) → IsTrue (a && b)
fits_two true true h = refl
fits_two true false h = h
fits_two false b h = h

three_fits : (a b c : Bool) → IsTrue (a && (b && c)) → IsTrue (a && (b && (c && true)))
three_fits true b c h = two_fits b c h
three_fits false b c h = h

fits_three : (a b c : Bool) → IsTrue (a && (b && (c && true))) → IsTrue (a && (b && c))
fits_three true b c h = fits_two b c h
fits_three false b c h = h

one_fits : (a : Bool) → IsTrue a → IsTrue (a && true)
one_fits true h = refl
one_fits false h = h

fits_one : (a : Bool) → IsTrue (a && true) → IsTrue a
fits_one true h = refl
fits_one false h = h

-- a line is read back from its words, and they have no space
record IsRead (l : PaxosLine) : Type 0 where
  again : read_paxos_words (paxos_words l) ≡ Some l
  lack : IsTrue (list_all (lacks 32) (paxos_words l))

read_so : {A : Type 0} (word : List ℕ) (ws : Words A) (to : A → PaxosLine) → IsSound ws → IsTrue (lacks 32 word)
    → ((xs : List (List ℕ)) → read_paxos_words (word ∷ xs) ≡ option_map to (ws.read xs)) → (x : A) (l : PaxosLine) → IsTrue (ws.fits x) → to x ≡ l
    → paxos_words l ≡ word ∷ ws.spell x → IsRead l
read_so word ws to p free first x l h e words = record {
  again = ap read_paxos_words words ∙ first (ws.spell x) ∙ read_as ws to x l p.exact h e;
  lack = subst (λ (zs : List (List ℕ)). IsTrue (list_all (lacks 32) zs)) (sym words)
      (and_from (lacks 32 word) (list_all (lacks 32) (ws.spell x)) free (p.lack.free x h));
}

line_read : (l : PaxosLine) → IsTrue (is_paxos_line l) → IsRead l
line_read (line.Vote i r aye) h =
    read_so (codes "vote") vote (λ x. line.Vote x.0 x.1.0 x.1.1.0) sound_vote refl (λ xs. refl) (i, (r, (aye, tt))) _
    (two_fits (is_in_range 8 i) (is_round r) h) refl refl
line_read (line.Lead l r) h =
    read_so (codes "lead") lead_words (λ x. line.Lead x.0 x.1.0) sound_lead refl (λ xs. refl) (l, (r, tt)) _
    (two_fits (is_in_range 3 l) (is_round r) h) refl refl
line_read (line.Deliver from to k) h =
    read_so (codes "deliver") deliver (λ x. line.Deliver x.0 x.1.0 x.1.1.0) sound_deliver refl (λ xs. refl) (from, (to, (k, tt))) _
    (three_fits (has_name greatest_run from) (has_name greatest_run to) (leb 1 k && ltb k (2 ^ 32)) h) refl refl
line_read (line.Show i r) h =
    read_so (codes "show") show (λ x. line.Show x.0 x.1.0) sound_show refl (λ xs. refl) (i, (r, tt)) _ (two_fits (is_in_range 8 i) (is_round r) h) refl refl
line_read (line.Stop n) h =
    read_so (codes "stop") one_name (λ x. line.Stop x.0) sound_one refl (λ xs. refl) (n, tt) _ (one_fits (has_name greatest_run n) h) refl refl
line_read (line.Start n) h =
    read_so (codes "start") one_name (λ x. line.Start x.0) sound_one refl (λ xs. refl) (n, tt) _ (one_fits (has_name greatest_run n) h) refl refl

all_lines : AllKinds paxos_words is_paxos_line paxos_line_kinds
all_lines =
    is_kind paxos_words is_paxos_line (codes "vote") vote (λ x. line.Vote x.0 x.1.0 x.1.1.0) sound_vote.exact
    (λ x h. (refl, fits_two (is_in_range 8 x.0) (is_round x.1.0) h))
    ▹ is_kind paxos_words is_paxos_line (codes "lead") lead_words (λ x. line.Lead x.0 x.1.0) sound_lead.exact
    (λ x h. (refl, fits_two (is_in_range 3 x.0) (is_round x.1.0) h))
    ▹ is_kind paxos_words is_paxos_line (codes "deliver") deliver (λ x. line.Deliver x.0 x.1.0 x.1.1.0) sound_deliver.exact
    (λ x h. (refl, fits_three (has_name greatest_run x.0) (has_name greatest_run x.1.0) (leb 1 x.1.1.0 && ltb x.1.1.0 (2 ^ 32)) h))
    ▹ is_kind paxos_words is_paxos_line (codes "show") show (λ x. line.Show x.0 x.1.0) sound_show.exact
    (λ x h. (refl, fits_two (is_in_range 8 x.0) (is_round x.1.0) h))
    ▹ is_kind paxos_words is_paxos_line (codes "stop") one_name (λ x. line.Stop x.0) sound_one.exact (λ x h. (refl, fits_one (has_name greatest_run x.0) h))
    ▹ is_kind paxos_words is_paxos_line (codes "start") one_name (λ x. line.Start x.0) sound_one.exact (λ x h. (refl, fits_one (has_name greatest_run x.0) h))
    ▹ tt

line_only : (ws : List (List ℕ)) (l : PaxosLine) → read_paxos_words ws ≡ Some l → (ws ≡ paxos_words l) × IsTrue (is_paxos_line l)
line_only [] l e = absurd cc
line_only (w ∷ xs) l e = kinds_only paxos_words is_paxos_line paxos_line_kinds None w xs l all_lines (none l) e

some_word : (l : PaxosLine) → 0 < length (paxos_words l)
some_word (line.Vote i r aye) = omega arith
some_word l = omega arith

exact_line : IsExact (joined 32 paxos_line_words)
exact_line =
    exact_joined 32 paxos_line_words (record { some = λ l h. some_word l; each = λ l h. (line_read l h).lack })
    (record { again = λ l h. (line_read l h).again; only = line_only })

-- ---- the laws

pub read_back : (l : PaxosLine) → IsTrue (is_paxos_line l) → paxos_line_of (paxos_spelling l) ≡ Some l
read_back = exact_line.again

pub spelled_so : (bytes : List ℕ) (l : PaxosLine) → paxos_line_of bytes ≡ Some l → (bytes ≡ paxos_spelling l) × IsTrue (is_paxos_line l)
spelled_so = exact_line.only

-- a line by its words
pub by_words : (bytes : List ℕ) (words : List (List ℕ)) (r : Result PaxosLine LineFault) → words ≡ split 32 bytes → Reads r (read_paxos_words words)
    → IfOk r (λ l. (bytes ≡ paxos_spelling l) × IsTrue (is_paxos_line l))
by_words bytes words (Ok l) parts e = spelled_so bytes l (ap read_paxos_words (sym parts) ∙ e)
by_words bytes words (Err f) parts e = tt

first_of : (ws : List (List ℕ)) → read_paxos_words (onto_first 35 ws) ≡ None
first_of [] = refl
first_of (w ∷ ws) = refl

pub comment : (bytes : List ℕ) → paxos_line_of (35 ∷ bytes) ≡ None
comment bytes = first_of (split 32 bytes)
