-- Indexes by key and by round.
use Rattle.std.{specs.{Prelude.{Option, Some, None, ◌==◌, slice_get, is_some}, Option.option_map, Map.lookup, Cmp.IsEquivalence}, proofs.Common.{◌≡◌, ◌⊎◌, ℕ}}
use Rattle.std.proofs.Common.{suc, Bool, true, false, cond, eqb, List, [], ◌∷◌, ◌++◌, length, refl, sym, ap, ◌∙◌, inl, inr, arith}
use Rattle.std.proofs.lemmas.Bool.Decides.{nat_tests}
use Rattle.spl_agree.{specs.Member.{values, has_round, found, or_else}, proofs.Tests.bool_cases}
use Rattle.spl_commit.specs.Places.{place_of, IsIndex, IsNoted, keys_by, rounds_of}

abbrev pub place_with : Bool → ℕ → Option ℕ
place_with true n = Some n
place_with false n = None

-- a key after the others
pub place_of-more : {K : Type 0} (p : K → Bool) (ks : List K) (k : K) → place_of p (ks ++ k ∷ []) ≡ or_else (place_of p ks) (place_with (p k) (length ks))
place_of-more p [] k = last (p k)
  where
    last : (b : Bool) → cond b (Some 0) (option_map suc None) ≡ place_with b 0
    last true = refl
    last false = refl
place_of-more {K} p (x ∷ xs) k = go (bool_cases (p x)) (place_of-more p xs k)
  where
    next : (o : Option ℕ) (b : Bool) (n : ℕ) → option_map suc (or_else o (place_with b n)) ≡ or_else (option_map suc o) (place_with b (suc n))
    next None true n = refl
    next None false n = refl
    next (Some i) b n = refl

    go : (p x ≡ true) ⊎ (p x ≡ false) → place_of p (xs ++ k ∷ []) ≡ or_else (place_of p xs) (place_with (p k) (length xs))
        → cond (p x) (Some 0) (option_map suc (place_of p (xs ++ k ∷ [])))
        ≡ or_else (cond (p x) (Some 0) (option_map suc (place_of p xs))) (place_with (p k) (suc (length xs)))
    go (inl q) h = rw q
    go (inr q) h = rw (q, h) (next (place_of p xs) (p k) (length xs))

pub lookup-more : {K : Type 0} (p : K → Bool) (es : List (K × ℕ)) (k : K) (n : ℕ) → lookup p (es ++ (k, n) ∷ []) ≡ or_else (lookup p es) (place_with (p k) n)
lookup-more p [] k n = last (p k)
  where
    last : (b : Bool) → cond b (Some n) None ≡ place_with b n
    last true = refl
    last false = refl
lookup-more {K} p (x ∷ xs) k n = go (bool_cases (p x.0)) (lookup-more p xs k n)
  where
    go : (p x.0 ≡ true) ⊎ (p x.0 ≡ false) → lookup p (xs ++ (k, n) ∷ []) ≡ or_else (lookup p xs) (place_with (p k) n)
        → cond (p x.0) (Some x.1) (lookup p (xs ++ (k, n) ∷ [])) ≡ or_else (cond (p x.0) (Some x.1) (lookup p xs)) (place_with (p k) n)
    go (inl q) h = rw q
    go (inr q) h = rw (q, h)

-- an index with the place of a new key
pub index-new : {K : Type 0} (eq : K → K → Bool) (es : List (K × ℕ)) (ks : List K) (k : K) (n : ℕ) → length ks ≡ n → IsIndex eq es ks
    → IsIndex eq (es ++ (k, n) ∷ []) (ks ++ k ∷ [])
index-new eq es ks k n l i q = lookup-more (eq q) es k n ∙ rw (i q, ← l) (sym (place_of-more (eq q) ks k))

pub lookup-same : {K : Type 0} (p q : K → Bool) (es : List (K × ℕ)) → ((k : K) → p k ≡ q k) → lookup p es ≡ lookup q es
lookup-same p q [] h = refl
lookup-same p q (x ∷ xs) h = rw (h x.0, lookup-same p q xs h)

-- an index serves a key again that it has
pub index-known : {K : Type 0} (eq : K → K → Bool) (es : List (K × ℕ)) (ks : List K) (k : K) → IsEquivalence eq → is_some (lookup (eq k) es) ≡ true
    → IsIndex eq es ks → IsIndex eq es (ks ++ k ∷ [])
index-known {K} eq es ks k laws there i q = i q ∙ sym (place_of-more (eq q) ks k ∙ stays (bool_cases (eq q k)) (place_of (eq q) ks) (sym (i q)))
  where
    none : (o : Option ℕ) → o ≡ None → is_some o ≡ true → ⊥
    none None e h = cc
    none (Some x) e h = cc

    stays : (eq q k ≡ true) ⊎ (eq q k ≡ false) → (o : Option ℕ) → o ≡ lookup (eq q) es → or_else o (place_with (eq q k) (length ks)) ≡ o
    stays (inl e) None h = absurd (none (lookup (eq k) es) (sym (lookup-same (eq q) (eq k) es (λ z. laws.congr q k z e)) ∙ sym h) there)
    stays (inr e) None h = rw e
    stays e (Some x) h = refl

pub keys_by-more : {K V : Type 0} (key : V → K) (h : List (ℕ × V)) (e : ℕ × V) → keys_by key (values (h ++ e ∷ [])) ≡ keys_by key (values h) ++ key e.1 ∷ []
keys_by-more key [] e = refl
keys_by-more key (x ∷ xs) e = ap (λ ks. key x.1 ∷ ks) (keys_by-more key xs e)

pub rounds_of-more : {V : Type 0} (h : List (ℕ × V)) (e : ℕ × V) → rounds_of (h ++ e ∷ []) ≡ rounds_of h ++ e.0 ∷ []
rounds_of-more [] e = refl
rounds_of-more (x ∷ xs) e = ap (λ rs. x.0 ∷ rs) (rounds_of-more xs e)

pub length-keys_by : {K V : Type 0} (key : V → K) (h : List (ℕ × V)) → length (keys_by key (values h)) ≡ length h
length-keys_by key [] = refl
length-keys_by key (x ∷ xs) = ap suc (length-keys_by key xs)

pub length-rounds_of : {V : Type 0} (h : List (ℕ × V)) → length (rounds_of h) ≡ length h
length-rounds_of [] = refl
length-rounds_of (x ∷ xs) = ap suc (length-rounds_of xs)

-- a round is there where its place is
pub has_round-place : {V : Type 0} (r : ℕ) (h : List (ℕ × V)) → is_some (place_of (λ k. r == k) (rounds_of h)) ≡ has_round r h
has_round-place r [] = refl
has_round-place {V} r (x ∷ xs) = go (bool_cases (eqb r x.0)) (place_of (λ k. r == k) (rounds_of xs)) (has_round-place r xs)
  where
    turned : (b : Bool) → eqb r x.0 ≡ b → eqb x.0 r ≡ b
    turned true q = grind (arith, nat_tests)
    turned false q = grind (arith, nat_tests)

    some : (o : Option ℕ) → is_some (option_map suc o) ≡ is_some o
    some None = refl
    some (Some i) = refl

    go : (eqb r x.0 ≡ true) ⊎ (eqb r x.0 ≡ false) → (o : Option ℕ) → is_some o ≡ has_round r xs
        → is_some (cond (eqb r x.0) (Some 0) (option_map suc o)) ≡ has_round r (x ∷ xs)
    go (inl q) o h = rw (q, turned true q)
    go (inr q) o h = rw (q, turned false q) (some o ∙ h)

abbrev pub value_at : {V : Type 0} → List (ℕ × V) → Option ℕ → Option V
value_at h None = None
value_at h (Some i) = option_map (λ e. e.1) (slice_get h i)

-- the first value of a key stands at the place of the key
pub found-place : {K V : Type 0} (p : K → Bool) (key : V → K) (h : List (ℕ × V))
    → found (λ v. p (key v)) (values h) ≡ value_at h (place_of p (keys_by key (values h)))
found-place p key [] = refl
found-place {K} {V} p key (x ∷ xs) = go (bool_cases (p (key x.1))) (place_of p (keys_by key (values xs))) (found-place p key xs)
  where
    after : (o : Option ℕ) → value_at xs o ≡ value_at (x ∷ xs) (option_map suc o)
    after None = refl
    after (Some i) = refl

    go : (p (key x.1) ≡ true) ⊎ (p (key x.1) ≡ false) → (o : Option ℕ) → found (λ v. p (key v)) (values xs) ≡ value_at xs o
        → cond (p (key x.1)) (Some x.1) (found (λ v. p (key v)) (values xs)) ≡ value_at (x ∷ xs) (cond (p (key x.1)) (Some 0) (option_map suc o))
    go (inl q) o h = rw q
    go (inr q) o h = rw q (h ∙ after o)

pub found-by_place : {K V : Type 0} (p : K → Bool) (key : V → K) (all h : List (ℕ × V)) (es : List (K × ℕ)) (o : Option ℕ) → all ≡ h
    → lookup p es ≡ place_of p (keys_by key (values h)) → o ≡ lookup p es → found (λ v. p (key v)) (values all) ≡ value_at h o
found-by_place p key all h es o a i l = rw a (found-place p key h ∙ ap (value_at h) (sym i ∙ sym l))

-- both indexes with one entry more
pub noted-more : {K V : Type 0} (eq : K → K → Bool) (key : V → K) (h all : List (ℕ × V)) (round : ℕ) (value : V) (k : K) (places : List (K × ℕ))
    (rounds : List (ℕ × ℕ)) → all ≡ h ++ (round, value) ∷ [] → k ≡ key value → IsIndex eq places (keys_by key (values h) ++ k ∷ [])
    → IsIndex (λ a b. a == b) rounds (rounds_of h ++ round ∷ []) → IsNoted eq key all places rounds
noted-more eq key h all round value k places rounds a e i j = record {
  keys = λ q. i q ∙ rw (a, keys_by-more key h (round, value), e);
  rounds_noted = λ q. j q ∙ rw (a, rounds_of-more h (round, value));
}
