-- Lists that grow, in the words of loops.
use Rattle.std.{specs.List.flat_map, proofs.Common.{◌≡◌, ℕ, zero, suc, ◌+◌, ◌<◌, ◌≤◌, List, [], ◌∷◌, ◌++◌, length, get_or, take, refl, sym, ap, ◌∙◌, arith}}
use Rattle.std.proofs.{Common.{add-one, append_assoc, zero-add, length-append, inl, inr}, lemmas.{Bool.cases_lt, List.{append-nil, take_more, take_all}}}
use Rattle.std.proofs.lemmas.List.{flat_map_more}
use Rattle.spl_state.specs.Root.{joined}
use Rattle.spl_proof.specs.Made.{listed}

-- one string more
pub joined_more : (xs : List (List ℕ)) (i : ℕ) (x : List ℕ) → x ≡ get_or xs i x → i < length xs
    → flat_map (λ d. d) (take i xs) ++ x ≡ flat_map (λ d. d) (take (i + 1) xs)
joined_more xs i x is low =
    flat_map_more (λ d. d) [] (take i xs) x ∙ ap (flat_map (λ d. d)) (sym (take_more xs i x low ∙ ap (λ y. take i xs ++ y ∷ []) (sym is)))

pub joined_at : (xs : List (List ℕ)) (i : ℕ) (d : List ℕ) → i < length xs → flat_map (λ d. d) (take i xs) ++ get_or xs i d ≡ flat_map (λ d. d) (take (i + 1) xs)
joined_at xs i d low = flat_map_more (λ d. d) [] (take i xs) (get_or xs i d) ∙ ap (flat_map (λ d. d)) (sym (take_more xs i d low))

pub joined_all : (xs : List (List ℕ)) (i : ℕ) → length xs ≤ i → flat_map (λ d. d) (take i xs) ≡ flat_map (λ d. d) xs
joined_all xs i h = ap (flat_map (λ d. d)) (take_all i xs h)

module _ {A : Type 0} where
  pub listed_none : (f : ℕ → A) → listed f 0 ≡ []
  unfolding listed
  listed_none f = refl

  pub listed_suc : (f : ℕ → A) (n : ℕ) → listed f (suc n) ≡ listed f n ++ f n ∷ []
  unfolding listed
  listed_suc f n = refl

  pub listed_more : (f : ℕ → A) (n : ℕ) → listed f (n + 1) ≡ listed f n ++ f n ∷ []
  listed_more f n = ap (λ k. listed f k) (add-one n) ∙ listed_suc f n

  pub listed_long : (f : ℕ → A) (n : ℕ) → length (listed f n) ≡ n
  listed_long f zero = ap length (listed_none f)
  listed_long f (suc n) = ap length (listed_suc f n) ∙ length-append (listed f n) (f n ∷ []) ∙ ap (λ k. k + 1) (listed_long f n) ∙ add-one n

  pub listed_same : (f g : ℕ → A) (n : ℕ) → ((i : ℕ) → f i ≡ g i) → listed f n ≡ listed g n
  listed_same f g zero h = listed_none f ∙ sym (listed_none g)
  listed_same f g (suc n) h = listed_suc f n ∙ ap (λ xs. xs ++ f n ∷ []) (listed_same f g n h) ∙ ap (λ x. listed g n ++ x ∷ []) (h n) ∙ sym (listed_suc g n)

  at_end : (xs : List A) (x d : A) (j : ℕ) → j ≡ length xs → get_or (xs ++ x ∷ []) j d ≡ x
  at_end [] x d zero e = refl
  at_end [] x d (suc j) e = absurd (omega arith)
  at_end (y ∷ xs) x d zero e = absurd (omega arith)
  at_end (y ∷ xs) x d (suc j) e = at_end xs x d j (omega arith)

  at_prefix : (xs : List A) (x d : A) (j : ℕ) → j < length xs → get_or (xs ++ x ∷ []) j d ≡ get_or xs j d
  at_prefix [] x d j e = absurd (omega arith)
  at_prefix (y ∷ xs) x d zero e = refl
  at_prefix (y ∷ xs) x d (suc j) e = at_prefix xs x d j (omega arith)

  pub listed_at : (f : ℕ → A) (n j : ℕ) (d : A) → j < n → get_or (listed f n) j d ≡ f j
  listed_at f zero j d low = absurd (omega arith)
  listed_at f (suc n) j d low =
      ap (λ xs. get_or xs j d) (listed_suc f n)
      ∙ elim (cases_lt j n) as (λ _. get_or (listed f n ++ f n ∷ []) j d ≡ f j) [
        | inl lt ↦ at_prefix (listed f n) (f n) d j (omega (arith, listed_long f n)) ∙ listed_at f n j d lt
        | inr le ↦
            let at : j ≡ n = omega arith in
            at_end (listed f n) (f n) d j (at ∙ sym (listed_long f n)) ∙ ap f (sym at)
      ]

  -- the values from the i-th on, k of them
  abbrev pub after : (ℕ → A) → ℕ → ℕ → List A
  after f zero i = []
  after f (suc k) i = f i ∷ after f k (i + 1)

  listed_after : (f : ℕ → A) (k i n : ℕ) → i + k ≡ n → listed f i ++ after f k i ≡ listed f n
  listed_after f zero i n e =
      let same : i ≡ n = omega arith in
      append-nil (listed f i) ∙ ap (listed f) same
  listed_after f (suc k) i n e =
      sym (append_assoc (listed f i) (f i ∷ []) (after f k (i + 1))) ∙ ap (λ xs. xs ++ after f k (i + 1)) (sym (listed_more f i))
      ∙ listed_after f k (i + 1) n (omega arith)

  pub listed_is : (f : ℕ → A) (n : ℕ) → after f n 0 ≡ listed f n
  listed_is f n = ap (λ xs. xs ++ after f n 0) (sym (listed_none f)) ∙ listed_after f n 0 n (zero-add n)

-- the digests of a level, one after the other
pub joined_listed : (g : ℕ → List ℕ) (n : ℕ) → joined g n ≡ flat_map (λ d. d) (listed g n)
unfolding joined
joined_listed g zero = ap (flat_map (λ d. d)) (sym (listed_none g))
joined_listed g (suc n) =
    ap (λ r. r ++ g n) (joined_listed g n) ∙ flat_map_more (λ d. d) [] (listed g n) (g n) ∙ ap (flat_map (λ d. d)) (sym (listed_suc g n))
