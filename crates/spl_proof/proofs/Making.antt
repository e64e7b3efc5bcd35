-- The levels of a state's proof lead from its root down to the end.
use Rattle.std.{specs.{Prelude.slice_index_or, Map.lookup, BTreeMap.is_at}, proofs.Common.{◌≡◌, ℕ, zero, suc, ◌+◌, ◌-◌, ◌<◌, ◌≤◌, Bool, true, false, cond}}
use Rattle.std.proofs.Common.{List, [], ◌∷◌, ◌++◌, length, replicate, MatchOption, Option, Some, None, inl, inr, refl, sym, ap, subst, ◌∙◌, arith, zero-add}
use Rattle.std.proofs.lemmas.Bool.{cases_lt}
use Rattle.sha2.specs.Sha256.{sha256}
use Rattle.spl_state.specs.{Entries.{Entry, address_cmp}, Root.{digit_of, digits_of, under, by_count, joined, node_at}, declared.address.Address.Address}
use Rattle.spl_proof.specs.{Accepted.{Level, level_digest, end_digest, Leads, Says, IsAccepted}, Made.{listed, first_from, at_most_one, under_first, depth}}
use Rattle.spl_proof.{specs.{Made.{level_at, end_of, proof}, declared.proof.{End.End, Proof.Proof}}, proofs.{Digits.digits_more, Listing.{after, listed_at}}}
use Rattle.spl_proof.proofs.{Listing.{listed_is, listed_long, joined_listed}, Leading.accepted_from, Saying.state_says}

-- ---- how many levels there are

many_not : (es : List Entry) → 2 ≤ length es → at_most_one es ≡ false
many_not [] h = absurd (omega arith)
many_not (e ∷ []) h = absurd (omega arith)
many_not (e ∷ f ∷ es) h = refl

first_is : (test : ℕ → Bool) (k i n : ℕ) → i ≤ n → n ≤ i + k → test n ≡ true → ((j : ℕ) → j < n → test j ≡ false) → first_from test k i ≡ n
first_is test zero i n low high here before = omega arith
first_is test (suc k) i n low high here before =
    elim (cases_lt i n) as (λ _. cond (test i) i (first_from test k (i + 1)) ≡ n) [
      | inl lt ↦ ap (λ b. cond b i (first_from test k (i + 1))) (before i lt) ∙ first_is test k (i + 1) n (omega arith) (omega arith) here before
      | inr le ↦
          let at : i ≡ n = omega arith in
          ap (λ b. cond b i (first_from test k (i + 1))) (ap test at ∙ here) ∙ at
    ]

-- what is known of the least number of digits under which at most one entry lies
pub record IsFoot (a : Address) (m : List Entry) (n : ℕ) : Type 0 where
  pub high : n ≤ 70
  pub few : at_most_one (under_first n a m) ≡ true
  pub many : (i : ℕ) → i < n → 2 ≤ length (under_first i a m)

pub depth_is : (a : Address) (m : List Entry) (n : ℕ) → IsFoot a m n → depth a m ≡ n
unfolding depth
depth_is a m n h =
    first_is (λ i. at_most_one (under_first i a m)) 70 0 n (omega arith) (omega (arith, h.high)) h.few (λ j low. many_not (under_first j a m) (h.many j low))

pub end_left : {R : Type 0} (o : Option R) (f : R → Entry) (left : List Entry) (end : End) → MatchOption o (left ≡ []) (λ e. left ≡ f e ∷ [])
    → MatchOption o (end ≡ end_of []) (λ e. end ≡ end_of (f e ∷ [])) → (at_most_one left ≡ true) × (end ≡ end_of left)
end_left None f left end h g = (ap at_most_one h, g ∙ ap end_of (sym h))
end_left (Some e) f left end h g = (ap at_most_one h, g ∙ ap end_of (sym h))

-- ---- the node above the end, and those above levels

by_few : (es : List Entry) (inner : List ℕ) → at_most_one es ≡ true → by_count es inner ≡ end_digest (end_of es)
by_few [] inner h = refl
by_few (e ∷ []) inner h = refl
by_few (e ∷ f ∷ es) inner h = absurd cc

node_few : (q : ℕ) (p : List ℕ) (m : List Entry) → at_most_one (under p m) ≡ true → node_at q p m ≡ end_digest (end_of (under p m))
unfolding node_at
node_few zero p m h = by_few (under p m) (replicate 32 0) h
node_few (suc q) p m h = by_few (under p m) _ h

by_many : (es : List Entry) (inner : List ℕ) → 2 ≤ length es → by_count es inner ≡ inner
by_many [] inner h = absurd (omega arith)
by_many (e ∷ []) inner h = absurd (omega arith)
by_many (e ∷ f ∷ es) inner h = refl

node_many : (q : ℕ) (p : List ℕ) (m : List Entry) → 2 ≤ length (under p m) → node_at (suc q) p m ≡ sha256 (1 ∷ joined (λ d. node_at q (p ++ d ∷ []) m) 16)
unfolding node_at
node_many q p m h = by_many (under p m) _ h

level_node : (i : ℕ) (a : Address) (m : List Entry) → i < 70 → 2 ≤ length (under_first i a m)
    → level_digest (level_at i a m) ≡ node_at (70 - i) (digits_of i 0 a.0) m
level_node i a m low many =
    let left : suc (69 - i) ≡ 70 - i = omega arith in
    ap (λ r. sha256 (1 ∷ r)) (sym (joined_listed (λ d. node_at (69 - i) (digits_of i 0 a.0 ++ d ∷ []) m) 16))
    ∙ sym (node_many (69 - i) (digits_of i 0 a.0) m many) ∙ ap (λ q. node_at q (digits_of i 0 a.0) m) left

digit_node : (i : ℕ) (a : Address) (m : List Entry) → i < 70 → digit_of a.0 i < 16
    → slice_index_or (level_at i a m) (digit_of a.0 i) [] ≡ node_at (70 - (i + 1)) (digits_of (i + 1) 0 a.0) m
digit_node i a m low small =
    let left : 69 - i ≡ 70 - (i + 1) = omega arith in
    listed_at (λ d. node_at (69 - i) (digits_of i 0 a.0 ++ d ∷ []) m) 16 (digit_of a.0 i) [] small
    ∙ ap (λ q. node_at q (digits_of i 0 a.0 ++ digit_of a.0 i ∷ []) m) left
    ∙ ap (λ p. node_at (70 - (i + 1)) p m) (ap (λ k. digits_of i 0 a.0 ++ digit_of a.0 k ∷ []) (sym (zero-add i)) ∙ sym (digits_more i 0 a.0))

leads_by : (k i n : ℕ) (a : Address) (m : List Entry) → ((j : ℕ) → digit_of a.0 j < 16) → i + k ≡ n → IsFoot a m n
    → Leads (node_at (70 - i) (digits_of i 0 a.0) m) i a (after (λ j. level_at j a m) k i) (end_of (under_first n a m))
leads_by zero i n a m small e h =
    let same : n ≡ i = omega arith in
    sym (ap (λ j. node_at (70 - j) (digits_of j 0 a.0) m) (sym same) ∙ node_few (70 - n) (digits_of n 0 a.0) m h.few)
leads_by (suc k) i n a m small e h =
    let low : i < n = omega arith in
    let within : i < 70 = omega (arith, h.high) in (
      level_node i a m within (h.many i low),
      subst (λ d. Leads d (i + 1) a (after (λ j. level_at j a m) k (i + 1)) (end_of (under_first n a m))) (sym (digit_node i a m within (small i)))
          (leads_by k (i + 1) n a m small (omega arith) h),
    )

pub made_leads : (n : ℕ) (a : Address) (m : List Entry) → ((j : ℕ) → digit_of a.0 j < 16) → IsFoot a m n
    → Leads (node_at 70 [] m) 0 a (listed (λ j. level_at j a m) n) (end_of (under_first n a m))
made_leads n a m small h =
    subst (λ ls. Leads (node_at 70 [] m) 0 a ls (end_of (under_first n a m))) (listed_is (λ j. level_at j a m) n) (leads_by n 0 n a m small (zero-add n) h)

-- ---- a proof of such parts

abbrev pub made : List Level → End → Proof
made ls e = record { levels = ls; end = e }

pub made_is : (n : ℕ) (a : Address) (m : List Entry) (ls : List Level) (e : End) → IsFoot a m n → ls ≡ listed (λ j. level_at j a m) n
    → e ≡ end_of (under_first n a m) → made ls e ≡ proof m a
made_is n a m ls e h levels end =
    ap (λ l. made l e) levels ∙ ap (λ f. made (listed (λ j. level_at j a m) n) f) end
    ∙ ap (λ k. made (listed (λ j. level_at j a m) k) (end_of (under_first k a m))) (sym (depth_is a m n h))

pub made_accepted : (n : ℕ) (a : Address) (m : List Entry) (ls : List Level) (e : End) → ((j : ℕ) → digit_of a.0 j < 16) → IsFoot a m n
    → ls ≡ listed (λ j. level_at j a m) n → e ≡ end_of (under_first n a m)
    → IsAccepted (node_at 70 [] m) a (lookup (is_at (address_cmp a)) m) (made ls e)
made_accepted n a m ls e small h levels end =
    let long : n ≡ length ls = sym (ap length levels ∙ listed_long (λ j. level_at j a m) n) in
    accepted_from (node_at 70 [] m) a (lookup (is_at (address_cmp a)) m) (made ls e)
    (subst (λ l. Leads (node_at 70 [] m) 0 a l e) (sym levels)
    (subst (λ f. Leads (node_at 70 [] m) 0 a (listed (λ j. level_at j a m) n) f) (sym end) (made_leads n a m small h)))
    (subst (λ k. Says (lookup (is_at (address_cmp a)) m) k a e) long
    (subst (λ f. Says (lookup (is_at (address_cmp a)) m) n a f) (sym end) (state_says n a m h.few)))
