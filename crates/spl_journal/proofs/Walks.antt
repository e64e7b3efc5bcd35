-- What a journal's bytes say, from a prefix of whole records on.
use Rattle.std.proofs.Common.{◌≡◌, ◌≢◌, ℕ, suc, ◌+◌, ◌-◌, ◌<◌, ◌≤◌, ◌^◌, List, [], ◌∷◌, ◌++◌, length, get_or, take, drop, Bool, true, false, nat_le, ◌&&◌}
use Rattle.std.proofs.Common.{◌==◌, if◌then◌else◌, Option, None, Result, Ok, Err, refl, sym, ◌∙◌, ap, subst, arith, append_assoc, length-append, length-drop}
use Rattle.std.proofs.{Common.take-append-drop, lemmas.List.{take_at, drop_at, take-take, drop-take, get_or-drop, append-nil, append_cancel_left}}
use Rattle.std.proofs.lemmas.Bool.Decides.{nat_tests}
use Rattle.spl_journal.specs.Records.{size_bytes, size_from, longest_in, block, blocks, size_at, record_at, is_block, onto, walk, head_fault, epoch_fault}
use Rattle.spl_journal.{specs.Records.{walk_after, records, IsRecord, AreRecords, IsPrefix}, proofs.Forms.{same_fault, same_epoch_fault, same_longest}}
use Rattle.spl_journal.proofs.{Forms.longest_small, Sizes.{length-size_bytes, size_back}}

pub onto_all : List (List ℕ) → Result (List (List ℕ)) ℕ → Result (List (List ℕ)) ℕ
onto_all [] found = found
onto_all (r ∷ rs) found = onto r (onto_all rs found)

onto_all-ok : (rs : List (List ℕ)) → onto_all rs (Ok []) ≡ Ok rs
unfolding onto_all
onto_all-ok [] = refl
onto_all-ok (r ∷ rs) = ap (onto r) (onto_all-ok rs)

onto_all-err : (rs : List (List ℕ)) (at : ℕ) → onto_all rs (Err at) ≡ Err at
unfolding onto_all
onto_all-err [] at = refl
onto_all-err (r ∷ rs) at = ap (onto r) (onto_all-err rs at)

pub length-block : (r : List ℕ) → length (block r) ≡ 5 + length r
length-block r = omega (arith, length-append (size_bytes (length r)) r, length-size_bytes (length r))

pub blocks-push : (rs : List (List ℕ)) (r : List ℕ) → blocks (rs ++ r ∷ []) ≡ blocks rs ++ block r
blocks-push [] r = append-nil (block r)
blocks-push (x ∷ rs) r = ap (λ (l : List ℕ). block x ++ l) (blocks-push rs r) ∙ sym (append_assoc (block x) (blocks rs) (block r))

pub good-push : (longest : ℕ) (fits : List ℕ → Bool) (rs : List (List ℕ)) (r : List ℕ) → AreRecords longest fits rs → IsRecord longest fits r
    → AreRecords longest fits (rs ++ r ∷ [])
good-push longest fits [] r good one = (one, tt)
good-push longest fits (x ∷ rs) r good one = (good.0, good-push longest fits rs r good.1 one)

pub blocks-append : (rs more : List (List ℕ)) → blocks (rs ++ more) ≡ blocks rs ++ blocks more
blocks-append [] more = refl
blocks-append (x ∷ rs) more = ap (λ (l : List ℕ). block x ++ l) (blocks-append rs more) ∙ sym (append_assoc (block x) (blocks rs) (blocks more))

pub good-append : (longest : ℕ) (fits : List ℕ → Bool) (rs more : List (List ℕ)) → AreRecords longest fits rs → AreRecords longest fits more
    → AreRecords longest fits (rs ++ more)
good-append longest fits [] more good all = all
good-append longest fits (x ∷ rs) more good all = (good.0, good-append longest fits rs more good.1 all)

fewer : (rs : List (List ℕ)) → length rs ≤ length (blocks rs)
fewer [] = omega arith
fewer (r ∷ rs) = omega (arith, fewer rs, length-append (block r) (blocks rs), length-block r)

-- a block and more
size_is : (r more : List ℕ) → length r < 2 ^ 32 → size_at (block r ++ more) ≡ length r
size_is r more small =
    ap size_from (ap (take 4) (append_assoc (size_bytes (length r)) r more) ∙ take_at (size_bytes (length r)) (r ++ more) 4 (length-size_bytes (length r)))
    ∙ size_back (length r) small

record_is : (r more : List ℕ) → length r < 2 ^ 32 → record_at (block r ++ more) ≡ r
record_is r more small =
    ap (λ (n : ℕ). take n (drop 5 (block r ++ more))) (size_is r more small)
    ∙ ap (take (length r)) (ap (drop 4) (append_assoc (size_bytes (length r)) r more)
    ∙ drop_at (size_bytes (length r)) (r ++ more) 4 (length-size_bytes (length r)))
    ∙ take_at r more (length r) refl

and4 : (a b c d : Bool) → a ≡ true → b ≡ true → c ≡ true → d ≡ true → (a && (b && (c && d))) ≡ true
and4 a b c d ha hb hc hd = cc

le_true : (a b : ℕ) → a ≤ b → nat_le a b ≡ true
le_true a b le = grind (arith, nat_tests)

pub block_is : (longest : ℕ) (fits : List ℕ → Bool) (r more : List ℕ) → longest < 2 ^ 32 → IsRecord longest fits r → 0 < length more
    → is_block longest fits (block r ++ more) ≡ true
block_is longest fits r more few good some =
    let small : length r < 2 ^ 32 = omega (arith, good.most, few) in
    let size = size_is r more small in
    and4 _ _ _ _
    (le_true 1 (size_at (block r ++ more)) (omega (arith, size, good.some)))
    (le_true (size_at (block r ++ more)) longest (omega (arith, size, good.most)))
    (le_true (size_at (block r ++ more) + 6) (length (block r ++ more)) (omega (arith, size, some, length-append (block r) more, length-block r)))
    (ap fits (record_is r more small) ∙ good.fits_form)

if_true : {A : Type 0} (b : Bool) (x y : A) → b ≡ true → (if b then x else y) ≡ x
if_true true x y is = refl
if_true false x y is = cc

if_false : {A : Type 0} (b : Bool) (x y : A) → b ≡ false → (if b then x else y) ≡ y
if_false true x y is = cc
if_false false x y is = refl

no_test : (n : ℕ) → n ≢ 1 → (n == 1) ≡ false
no_test n other = grind (arith, nat_tests)

yes_test : (n : ℕ) → n ≡ 1 → (n == 1) ≡ true
yes_test n same = grind (arith, nat_tests)

pub take_add : (m n : ℕ) (l : List ℕ) → take (m + n) l ≡ take m l ++ take n (drop m l)
take_add m n l =
    sym (take-append-drop m (take (m + n) l)) ∙ ap (λ (x : List ℕ). x ++ drop m (take (m + n) l)) (take-take m (m + n) l (omega arith))
    ∙ ap (λ (x : List ℕ). take m l ++ x) (drop-take m n l)

module _ (longest : ℕ) (few : longest < 2 ^ 32) (fits : List ℕ → Bool) where
  walk_one : (r more : List ℕ) (n at : ℕ) → IsRecord longest fits r → 0 < length more
      → walk longest fits (suc n) at (block r ++ more) ≡ onto r (walk longest fits n (at + 5 + length r) more)
  walk_one r more n at good some =
      let small : length r < 2 ^ 32 = omega (arith, good.most, few) in
      let size = size_is r more small in
      if_true (is_block longest fits (block r ++ more)) _ _ (block_is longest fits r more few good some)
      ∙ ap (λ (x : List ℕ). onto x (walk longest fits n (at + 5 + size_at (block r ++ more)) (drop (5 + size_at (block r ++ more)) (block r ++ more))))
      (record_is r more small)
      ∙ ap (λ (m : ℕ). onto r (walk longest fits n (at + 5 + m) (drop (5 + m) (block r ++ more)))) size
      ∙ ap (λ (l : List ℕ). onto r (walk longest fits n (at + 5 + length r) l)) (drop_at (block r) more (5 + length r) (length-block r))

  walk_all : (rs : List (List ℕ)) (more : List ℕ) (n at : ℕ) → AreRecords longest fits rs → 0 < length more
      → walk longest fits (length rs + n) at (blocks rs ++ more) ≡ onto_all rs (walk longest fits n (at + length (blocks rs)) more)
  unfolding onto_all
  walk_all [] more n at good some =
      let fuel : 0 + n ≡ n = omega arith in
      let place : at ≡ at + 0 = omega arith in
      ap (λ (m : ℕ). walk longest fits m at more) fuel ∙ ap (λ (m : ℕ). walk longest fits n m more) place
  walk_all (r ∷ rs) more n at good some =
      let fuel : suc (length rs) + n ≡ suc (length rs + n) = omega arith in
      let place : at + 5 + length r + length (blocks rs) ≡ at + length (block r ++ blocks rs) =
      omega (arith, length-append (block r) (blocks rs), length-block r) in
      ap (λ (m : ℕ). walk longest fits m at ((block r ++ blocks rs) ++ more)) fuel
      ∙ ap (walk longest fits (suc (length rs + n)) at) (append_assoc (block r) (blocks rs) more)
      ∙ walk_one r (blocks rs ++ more) (length rs + n) at good.0 (omega (arith, some, length-append (blocks rs) more))
      ∙ ap (onto r) (walk_all rs more n (at + 5 + length r) good.1 some)
      ∙ ap (λ (m : ℕ). onto r (onto_all rs (walk longest fits n m more))) place

module _ (fits : List ℕ → Bool) (at : ℕ) (rs : List (List ℕ)) (bytes : List ℕ) (prefix : IsPrefix fits at rs bytes) where
  pub steps : ℕ
  steps = length bytes - length rs - 1

  split : drop 17 bytes ≡ blocks rs ++ drop at bytes
  split =
      let place = prefix.place in
      let whole : take 17 bytes ++ drop 17 bytes ≡ take 17 bytes ++ (blocks rs ++ drop at bytes) =
      take-append-drop 17 bytes ∙ sym (take-append-drop at bytes) ∙ ap (λ (l : List ℕ). l ++ drop at bytes) prefix.prefix
      ∙ append_assoc (take 17 bytes) (blocks rs) (drop at bytes) in
      append_cancel_left (take 17 bytes) (drop 17 bytes) (blocks rs ++ drop at bytes) whole

  pub records_are : records fits bytes ≡ onto_all rs (walk (longest_in bytes) fits (suc steps) at (drop at bytes))
  unfolding steps
  records_are =
      let fuel : length bytes ≡ length rs + suc (length bytes - length rs - 1) = omega (arith, prefix.room, prefix.place, fewer rs) in
      ap (λ (h : Option ℕ). walk_after h (walk_after (epoch_fault bytes) (walk (longest_in bytes) fits (length bytes) 17 (drop 17 bytes)))) prefix.head
      ∙ ap (λ (h : Option ℕ). walk_after h (walk (longest_in bytes) fits (length bytes) 17 (drop 17 bytes))) prefix.epoch
      ∙ ap (walk (longest_in bytes) fits (length bytes) 17) split
      ∙ ap (λ (n : ℕ). walk (longest_in bytes) fits n 17 (blocks rs ++ drop at bytes)) fuel
      ∙ walk_all (longest_in bytes) (longest_small bytes) fits rs (drop at bytes) (suc (length bytes - length rs - 1)) 17 prefix.good
      (omega (arith, prefix.room, length-drop at bytes))
      ∙ ap (λ (m : ℕ). onto_all rs (walk (longest_in bytes) fits (suc (length bytes - length rs - 1)) m (drop at bytes))) (sym prefix.place)

  first : get_or (drop at bytes) 0 0 ≡ get_or bytes at 0
  first = let place : at + 0 ≡ at = omega arith in get_or-drop at bytes 0 0 ∙ ap (λ (n : ℕ). get_or bytes n 0) place

  -- a closed gate ends the records, whatever stands after it
  pub closed : get_or bytes at 0 ≢ 1 → records fits bytes ≡ Ok rs
  closed shut =
      records_are ∙ ap (onto_all rs) (if_false (get_or (drop at bytes) 0 0 == 1) _ _ (no_test (get_or (drop at bytes) 0 0) (λ is. shut (sym first ∙ is))))
      ∙ onto_all-ok rs

  pub broken : get_or bytes at 0 ≡ 1 → is_block (longest_in bytes) fits (drop at bytes) ≡ false → records fits bytes ≡ Err at
  broken one whole =
      records_are ∙ ap (onto_all rs)
      (if_true (get_or (drop at bytes) 0 0 == 1) _ _ (yes_test (get_or (drop at bytes) 0 0) (first ∙ one))
      ∙ if_false (is_block (longest_in bytes) fits (drop at bytes)) _ _ whole) ∙ onto_all-err rs at

-- a prefix and one record more
pub prefix_more : (fits : List ℕ → Bool) (at : ℕ) (rs : List (List ℕ)) (bytes r : List ℕ) → IsPrefix fits at rs bytes → IsRecord (longest_in bytes) fits r
    → take (5 + length r) (drop at bytes) ≡ block r → at + 5 + length r < length bytes → IsPrefix fits (at + 5 + length r) (rs ++ r ∷ []) bytes
prefix_more fits at rs bytes r prefix good is room = record {
  head = prefix.head;
  epoch = prefix.epoch;
  good = good-push (longest_in bytes) fits rs r prefix.good good;
  prefix = let place : at + 5 + length r ≡ at + (5 + length r) = omega arith in
      ap (λ (n : ℕ). take n bytes) place ∙ take_add at (5 + length r) bytes ∙ ap (λ (l : List ℕ). l ++ take (5 + length r) (drop at bytes)) prefix.prefix
      ∙ ap (λ (l : List ℕ). take 17 bytes ++ blocks rs ++ l) is ∙ append_assoc (take 17 bytes) (blocks rs) (block r)
      ∙ ap (λ (l : List ℕ). take 17 bytes ++ l) (sym (blocks-push rs r));
  place = omega (arith, prefix.place, ap length (blocks-push rs r), length-append (blocks rs) (block r), length-block r);
  room = room;
}

-- a prefix and some records more
pub prefix_all : (fits : List ℕ → Bool) (at : ℕ) (rs : List (List ℕ)) (bytes : List ℕ) (more : List (List ℕ)) → IsPrefix fits at rs bytes
    → AreRecords (longest_in bytes) fits more → take (length (blocks more)) (drop at bytes) ≡ blocks more → at + length (blocks more) < length bytes
    → IsPrefix fits (at + length (blocks more)) (rs ++ more) bytes
prefix_all fits at rs bytes more prefix good is room = record {
  head = prefix.head;
  epoch = prefix.epoch;
  good = good-append (longest_in bytes) fits rs more prefix.good good;
  prefix = take_add at (length (blocks more)) bytes ∙ ap (λ (l : List ℕ). l ++ take (length (blocks more)) (drop at bytes)) prefix.prefix
      ∙ ap (λ (l : List ℕ). take 17 bytes ++ blocks rs ++ l) is ∙ append_assoc (take 17 bytes) (blocks rs) (blocks more)
      ∙ ap (λ (l : List ℕ). take 17 bytes ++ l) (sym (blocks-append rs more));
  place = omega (arith, prefix.place, ap length (blocks-append rs more), length-append (blocks rs) (blocks more));
  room = room;
}

-- the same prefix in other bytes
pub prefix_same : (fits : List ℕ → Bool) (at : ℕ) (rs : List (List ℕ)) (bytes c : List ℕ) → IsPrefix fits at rs bytes → take at c ≡ take at bytes
    → at < length c → IsPrefix fits at rs c
prefix_same fits at rs bytes c prefix same room = record {
  head = head_same;
  epoch = same_epoch_fault bytes c start ∙ prefix.epoch;
  good = subst (λ (n : ℕ). AreRecords n fits rs) (sym (same_longest bytes c start)) prefix.good;
  prefix = same ∙ prefix.prefix ∙ ap (λ (l : List ℕ). l ++ blocks rs) (sym (take_less 17 (omega (arith, prefix.place))));
  place = prefix.place;
  room = room;
}
  where
    take_less : (n : ℕ) → n ≤ at → take n c ≡ take n bytes
    take_less n le = sym (take-take n at c le) ∙ ap (take n) same ∙ take-take n at bytes le

    long : nat_le 18 (length c) ≡ nat_le 18 (length bytes)
    long = le_true 18 (length c) (omega (arith, prefix.place, room)) ∙ sym (le_true 18 (length bytes) (omega (arith, prefix.place, prefix.room)))

    start : take 17 c ≡ take 17 bytes
    start = take_less 17 (omega (arith, prefix.place))

    head_same : head_fault c ≡ None
    head_same = same_fault bytes c start long ∙ prefix.head
