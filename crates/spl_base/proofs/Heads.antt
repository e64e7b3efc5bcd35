-- The first bytes of short lists as numbers, which lie as the lists do.
use Rattle.std.{specs.{Prelude.{slice_index, nat_eq}, Ordering.ordering_then, Cmp.Lexicographic.{slice_cmp, pointwise, same_text}}, proofs.Common.{◌≡◌, ◌≢◌}}
use Rattle.std.proofs.Common.{ℕ, zero, suc, ◌+◌, ◌-◌, ◌*◌, ◌<◌, ◌≤◌, min, ◌&&◌, Bool, true, false, List, [], ◌∷◌, ◌++◌, length, drop, replicate, eq-eqb, refl}
use Rattle.std.proofs.{Common.{sym, ap, ◌∙◌, subst, arith, nat_cmp, Ordering, Fits, w8, Less, Equal, Greater}, lemmas.Bool.{eqb-true, eqb-false}}
use Rattle.std.proofs.lemmas.{List.drop_all, Grind.common_steps}
use Rattle.spl_base.specs.Cells.{padded, spelled_from}

-- ---- cells after the end are 0
zeros : (n k : ℕ) → slice_index (replicate n 0) k ≡ 0
zeros zero k = refl
zeros (suc n) zero = refl
zeros (suc n) (suc k) = zeros n k

after : (n k : ℕ) (xs : List ℕ) → slice_index (xs ++ replicate n 0) k ≡ slice_index xs k
after n k [] = zeros n k
after n zero (x ∷ xs) = refl
after n (suc k) (x ∷ xs) = after n k xs

pub padded_at : (cap : ℕ) (cells xs : List ℕ) → cells ≡ padded cap xs → (k : ℕ) → slice_index cells k ≡ slice_index xs k
padded_at cap cells xs e k = ap (λ l. slice_index l k) e ∙ after (cap - length xs) k xs

-- ---- the order of the numbers
below : (x y : ℕ) → x < y → nat_cmp x y ≡ Less
below x y h = grind (arith, common_steps)

level : (x y : ℕ) → x ≡ y → nat_cmp x y ≡ Equal
level x y h = grind (arith, common_steps)

above : (x y : ℕ) → y < x → nat_cmp x y ≡ Greater
above x y h = grind (arith, common_steps)

grown : (x y : ℕ) → nat_cmp (suc x) (suc y) ≡ nat_cmp x y
grown x y = grind (arith, common_steps)

abbrev Bytes : List ℕ → Type 0
Bytes xs = (k : ℕ) → slice_index xs k < 256

-- the number of the bytes after the k-th one
abbrev spelled : List ℕ → ℕ → ℕ → ℕ
spelled xs n a = spelled_from xs 0 n a

shifted : (x : ℕ) (xs : List ℕ) (k n a : ℕ) → spelled_from (x ∷ xs) (suc k) n a ≡ spelled_from xs k n a
shifted x xs k zero a = refl
shifted x xs k (suc n) a = shifted x xs (suc k) n (a * 256 + slice_index xs k)

-- a number that is less stays so
rises : (n a b : ℕ) (xs ys : List ℕ) (k : ℕ) → Bytes xs → a < b → spelled_from xs k n a < spelled_from ys k n b
rises zero a b xs ys k h l = l
rises (suc n) a b xs ys k h l =
    let small : slice_index xs k < 256 = h k in
    rises n (a * 256 + slice_index xs k) (b * 256 + slice_index ys k) xs ys (suc k) h (omega arith)

least : (n a b : ℕ) (ys : List ℕ) (k : ℕ) → a ≤ b → spelled_from [] k n a ≤ spelled_from ys k n b
least zero a b ys k l = l
least (suc n) a b ys k l = least n (a * 256 + 0) (b * 256 + slice_index ys k) ys (suc k) (omega arith)

by_rank : (x y : ℕ) (P : Type 0) → (x < y → P) → (x ≡ y → P) → (y < x → P) → P
by_rank x y P less equal greater = by (nat_cmp x y) refl
  where
    by : (r : Ordering) → nat_cmp x y ≡ r → P
    by Less e = less (grind (arith, common_steps))
    by Equal e = equal (grind (arith, common_steps))
    by Greater e = greater (grind (arith, common_steps))

pub less_by_heads : (n a : ℕ) (xs ys : List ℕ) → Bytes xs → Bytes ys → spelled xs n a < spelled ys n a → slice_cmp nat_cmp xs ys ≡ Less
less_by_heads zero a xs ys g h l = absurd (omega arith)
less_by_heads (suc n) a [] [] g h l = absurd (omega arith)
less_by_heads (suc n) a [] (y ∷ ys) g h l = refl
less_by_heads (suc n) a (x ∷ xs) [] g h l =
    let low = least n (a * 256 + 0) (a * 256 + x) (x ∷ xs) 1 (omega arith) in
    absurd (omega arith)
less_by_heads (suc n) a (x ∷ xs) (y ∷ ys) g h l =
    by_rank x y (slice_cmp nat_cmp (x ∷ xs) (y ∷ ys) ≡ Less)
    (λ under. ap (λ r. ordering_then r (slice_cmp nat_cmp xs ys)) (below x y under))
    (λ same.
    let first : spelled xs n (a * 256 + x) ≡ spelled_from (x ∷ xs) 1 n (a * 256 + x) = sym (shifted x xs 0 n (a * 256 + x)) in
    let second : spelled ys n (a * 256 + x) ≡ spelled_from (y ∷ ys) 1 n (a * 256 + y) =
    sym (shifted y ys 0 n (a * 256 + x)) ∙ ap (λ z. spelled_from (y ∷ ys) 1 n (a * 256 + z)) same in
    ap (λ r. ordering_then r (slice_cmp nat_cmp xs ys)) (level x y same)
    ∙ less_by_heads n (a * 256 + x) xs ys (λ k. g (suc k)) (λ k. h (suc k)) (omega (arith, first, second, l)))
    (λ over.
    let high = rises n (a * 256 + y) (a * 256 + x) (y ∷ ys) (x ∷ xs) 1 h (omega arith) in
    absurd (omega arith))

pub greater_by_heads : (n a : ℕ) (xs ys : List ℕ) → Bytes xs → Bytes ys → spelled ys n a < spelled xs n a → slice_cmp nat_cmp xs ys ≡ Greater
greater_by_heads zero a xs ys g h l = absurd (omega arith)
greater_by_heads (suc n) a [] [] g h l = absurd (omega arith)
greater_by_heads (suc n) a (x ∷ xs) [] g h l = refl
greater_by_heads (suc n) a [] (y ∷ ys) g h l =
    let low = least n (a * 256 + 0) (a * 256 + y) (y ∷ ys) 1 (omega arith) in
    absurd (omega arith)
greater_by_heads (suc n) a (x ∷ xs) (y ∷ ys) g h l =
    by_rank x y (slice_cmp nat_cmp (x ∷ xs) (y ∷ ys) ≡ Greater)
    (λ under.
    let high = rises n (a * 256 + x) (a * 256 + y) (x ∷ xs) (y ∷ ys) 1 g (omega arith) in
    absurd (omega arith))
    (λ same.
    let first : spelled xs n (a * 256 + x) ≡ spelled_from (x ∷ xs) 1 n (a * 256 + x) = sym (shifted x xs 0 n (a * 256 + x)) in
    let second : spelled ys n (a * 256 + x) ≡ spelled_from (y ∷ ys) 1 n (a * 256 + y) =
    sym (shifted y ys 0 n (a * 256 + x)) ∙ ap (λ z. spelled_from (y ∷ ys) 1 n (a * 256 + z)) same in
    ap (λ r. ordering_then r (slice_cmp nat_cmp xs ys)) (level x y same)
    ∙ greater_by_heads n (a * 256 + x) xs ys (λ k. g (suc k)) (λ k. h (suc k)) (omega (arith, first, second, l)))
    (λ over. ap (λ r. ordering_then r (slice_cmp nat_cmp xs ys)) (above x y over))

-- bytes whose heads differ lie as these do
pub by_heads : (x y : ℕ) (xs ys : List ℕ) → ((k : ℕ) → Fits w8 (slice_index xs k)) → ((k : ℕ) → Fits w8 (slice_index ys k))
    → x ≡ spelled_from xs 0 8 0 → y ≡ spelled_from ys 0 8 0 → x ≢ y → nat_cmp x y ≡ slice_cmp nat_cmp xs ys
by_heads x y xs ys g h first second apart =
    by_rank x y _
    (λ under. below _ _ under ∙ sym (less_by_heads 8 0 xs ys (λ k. (g k).fits) (λ k. (h k).fits) (omega (arith, first, second))))
    (λ same. absurd (apart same))
    (λ over. above _ _ over ∙ sym (greater_by_heads 8 0 xs ys (λ k. (g k).fits) (λ k. (h k).fits) (omega (arith, first, second))))

-- ---- texts with the same head
-- lists that agree up to n, where cells after the end are 0
abbrev pub SamePrefix : ℕ → List ℕ → List ℕ → Type 0
SamePrefix n xs ys = (i : ℕ) → i < n → slice_index xs i ≡ slice_index ys i

-- the same number spells the same bytes
read_back : (n a b : ℕ) (xs ys : List ℕ) (k : ℕ) → Bytes xs → Bytes ys → spelled_from xs k n a ≡ spelled_from ys k n b
    → (a ≡ b) × ((i : ℕ) → k ≤ i → i < k + n → slice_index xs i ≡ slice_index ys i)
read_back zero a b xs ys k g h e = (e, λ i low high. absurd (omega arith))
read_back (suc n) a b xs ys k g h e =
    let rest = read_back n (a * 256 + slice_index xs k) (b * 256 + slice_index ys k) xs ys (suc k) g h e in
    let lead : a * 256 + slice_index xs k ≡ b * 256 + slice_index ys k = rest.0 in
    let small : slice_index xs k < 256 = g k in
    let little : slice_index ys k < 256 = h k in
    let here : slice_index xs k ≡ slice_index ys k = omega arith in (
      omega arith,
      λ i low high.
          by_rank k i _
          (λ after. rest.1 i (omega arith) (omega arith))
          (λ at. subst (λ j. slice_index xs j ≡ slice_index ys j) at here)
          (λ before. absurd (omega arith)),
    )

pub same_prefix : (xs ys : List ℕ) → ((k : ℕ) → Fits w8 (slice_index xs k)) → ((k : ℕ) → Fits w8 (slice_index ys k))
    → spelled_from xs 0 8 0 ≡ spelled_from ys 0 8 0 → SamePrefix 8 xs ys
same_prefix xs ys g h e = λ i l. (read_back 8 0 0 xs ys 0 (λ k. (g k).fits) (λ k. (h k).fits) e).1 i (omega arith) (omega arith)

rest_prefix : (n x y : ℕ) (xs ys : List ℕ) → SamePrefix (suc n) (x ∷ xs) (y ∷ ys) → SamePrefix n xs ys
rest_prefix n x y xs ys s = λ i l. s (suc i) (omega arith)

-- one that ends within the beginning lies before a longer one
pub order_within : (n : ℕ) (xs ys : List ℕ) → SamePrefix n xs ys → min (length xs) (length ys) ≤ n
    → nat_cmp (length xs) (length ys) ≡ slice_cmp nat_cmp xs ys
order_within n [] [] s short = level 0 0 refl
order_within n [] (y ∷ ys) s short = below 0 (suc (length ys)) (omega arith)
order_within n (x ∷ xs) [] s short = above (suc (length xs)) 0 (omega arith)
order_within zero (x ∷ xs) (y ∷ ys) s short = absurd (omega arith)
order_within (suc n) (x ∷ xs) (y ∷ ys) s short =
    grown (length xs) (length ys) ∙ order_within n xs ys (rest_prefix n x y xs ys s) (omega arith)
    ∙ sym (ap (λ r. ordering_then r (slice_cmp nat_cmp xs ys)) (level x y (s 0 (omega arith))))

-- what stands after the beginning orders longer ones
pub order_after : (n : ℕ) (xs ys : List ℕ) → SamePrefix n xs ys → n ≤ length xs → n ≤ length ys
    → slice_cmp nat_cmp (drop n xs) (drop n ys) ≡ slice_cmp nat_cmp xs ys
order_after zero xs ys s l m = refl
order_after (suc n) [] ys s l m = absurd (omega arith)
order_after (suc n) (x ∷ xs) [] s l m = absurd (omega arith)
order_after (suc n) (x ∷ xs) (y ∷ ys) s l m =
    order_after n xs ys (rest_prefix n x y xs ys s) (omega arith) (omega arith)
    ∙ sym (ap (λ r. ordering_then r (slice_cmp nat_cmp xs ys)) (level x y (s 0 (omega arith))))

-- what stands after the beginning says whether lists of one length are the same
pub same_after : (n : ℕ) (xs ys : List ℕ) → SamePrefix n xs ys → length xs ≡ length ys
    → pointwise nat_eq (drop n xs) (drop n ys) ≡ pointwise nat_eq xs ys
same_after zero xs ys s e = refl
same_after (suc n) [] [] s e = refl
same_after (suc n) [] (y ∷ ys) s e = absurd (omega arith)
same_after (suc n) (x ∷ xs) [] s e = absurd (omega arith)
same_after (suc n) (x ∷ xs) (y ∷ ys) s e =
    same_after n xs ys (rest_prefix n x y xs ys s) (omega arith)
    ∙ sym (ap (λ b. b && pointwise nat_eq xs ys) (eq-eqb x y (s 0 (omega arith))))

-- ---- texts of at most sixteen cells
-- the first eight and the last eight of up to sixteen cells are all of them
pub same_cells : (n : ℕ) (xs ys : List ℕ) → ((k : ℕ) → Fits w8 (slice_index xs k)) → ((k : ℕ) → Fits w8 (slice_index ys k)) → 8 ≤ n → n ≤ 16
    → SamePrefix 8 xs ys → spelled_from xs (n - 8) 8 0 ≡ spelled_from ys (n - 8) 8 0 → SamePrefix n xs ys
same_cells n xs ys g h low high heads lasts i l =
    let after = (read_back 8 0 0 xs ys (n - 8) (λ k. (g k).fits) (λ k. (h k).fits) lasts).1 in
    by_rank i 8 _
    (λ under. heads i under)
    (λ at. after i (omega arith) (omega arith))
    (λ over. after i (omega arith) (omega arith))

-- where texts with the same prefix differ in the number of the next eight cells, they lie as these numbers do
pub by_cells : (k x y : ℕ) (xs ys : List ℕ) → ((i : ℕ) → Fits w8 (slice_index xs i)) → ((i : ℕ) → Fits w8 (slice_index ys i)) → SamePrefix k xs ys
    → x ≡ spelled_from xs k 8 0 → y ≡ spelled_from ys k 8 0 → x ≢ y → nat_cmp x y ≡ slice_cmp nat_cmp xs ys
by_cells zero x y xs ys g h s first second apart = by_heads x y xs ys g h first second apart
by_cells (suc k) x y [] [] g h s first second apart = absurd (apart (first ∙ sym second))
by_cells (suc k) x y [] (d ∷ ys) g h s first second apart =
    let more = least 8 0 0 (d ∷ ys) (suc k) (omega arith) in
    by_rank x y _
    (λ under. below x y under)
    (λ same. absurd (apart same))
    (λ over. absurd (omega (arith, first, second, more)))
by_cells (suc k) x y (c ∷ xs) [] g h s first second apart =
    let more = least 8 0 0 (c ∷ xs) (suc k) (omega arith) in
    by_rank x y _
    (λ under. absurd (omega (arith, first, second, more)))
    (λ same. absurd (apart same))
    (λ over. above x y over)
by_cells (suc k) x y (c ∷ xs) (d ∷ ys) g h s first second apart =
    by_cells k x y xs ys (λ i. g (suc i)) (λ i. h (suc i)) (rest_prefix k c d xs ys s) (first ∙ shifted c xs k 8 0) (second ∙ shifted d ys k 8 0) apart
    ∙ sym (ap (λ r. ordering_then r (slice_cmp nat_cmp xs ys)) (level c d (s 0 (omega arith))))

-- the number of the last eight cells says whether texts of one length and one head are the same
pub same_by_lasts : (n : ℕ) (xs ys : List ℕ) → ((k : ℕ) → Fits w8 (slice_index xs k)) → ((k : ℕ) → Fits w8 (slice_index ys k)) → 8 ≤ n → n ≤ 16
    → SamePrefix 8 xs ys → length xs ≡ length ys → length xs ≤ n
    → nat_eq (spelled_from xs (n - 8) 8 0) (spelled_from ys (n - 8) 8 0) ≡ pointwise nat_eq xs ys
same_by_lasts n xs ys g h low high heads lengths short = by (nat_eq (last xs) (last ys)) refl
  where
    last : List ℕ → ℕ
    last l = spelled_from l (n - 8) 8 0

    by : (b : Bool) → nat_eq (last xs) (last ys) ≡ b → b ≡ pointwise nat_eq xs ys
    by true e =
        let all = same_cells n xs ys g h low high heads (eqb-true _ _ e) in
        (λ i. pointwise nat_eq (sym (drop_all n xs short) i) (sym (drop_all n ys (omega arith)) i)) ∙ same_after n xs ys all lengths
    by false e = differ (pointwise nat_eq xs ys) refl
      where
        differ : (b : Bool) → pointwise nat_eq xs ys ≡ b → false ≡ b
        differ false w = refl
        differ true w = absurd (eqb-false _ _ e (ap last (same_text xs ys (sym w))))
