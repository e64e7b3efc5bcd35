-- What a node posted, by circuit and recipient.
use Rattle.std.specs.{BTreeMap.{BTreeMap, UpdatesBy, is_at, get}, Cmp.Lexicographic.slice_cmp, List.sum_by, Map.set_value, Ordering.nat_cmp}
use Rattle.std.proofs.lemmas.{List.Sums.sum_by-cons, Map.{Steps.set_value_same, Text.is_eq-slice_cmp}}
use Rattle.spl_world.{specs.Kept.{SentLists, sent_to, sends_to, Posted, AllBelong, BelongEach, lists_about, IsTotal}, proofs.Common.{◌≡◌, ℕ, false, List}}
use Rattle.spl_world.proofs.Common.{Option, Some, sym, ◌∙◌, inl, inr, true, [], ◌∷◌, ◌++◌, refl, ap, subst, append_assoc, suc, ◌+◌, ◌≤◌, length}
use Rattle.spl_world.proofs.Common.{length-append, slice_get, arith, bytes_eq, bool_cases, bytes_are, NodeId, CircuitId, ascends, Message, Outgoing}
use Rattle.spl_world.proofs.Slots.{below_after, differ, tail_ascends}

-- ---- what a map by ids has, after something was written to it

-- another key has what it had
pub others_stay : {X : Type 0} (m n : BTreeMap (List ℕ) X) (k : List ℕ) (w : Option X) → UpdatesBy (slice_cmp nat_cmp) (slice_cmp nat_cmp k) m n w
    → (c : List ℕ) → bytes_eq k c ≡ false → get (slice_cmp nat_cmp) n c ≡ get (slice_cmp nat_cmp) m c
others_stay m n k w u c h = u.2 c (is_eq-slice_cmp k c ∙ h)

-- what was there is written back
pub written_back : {X : Type 0} (m n : BTreeMap (List ℕ) X) (k : List ℕ) (w : X) → Some w ≡ get (slice_cmp nat_cmp) m k
    → n.entries ≡ set_value (is_at (slice_cmp nat_cmp k)) m.entries w → n.entries ≡ m.entries
written_back m n k w found e = e ∙ set_value_same (is_at (slice_cmp nat_cmp k)) m.entries w (sym found)

-- ---- what a plan sends to one node

sends_one : (b : NodeId) (os : List Outgoing) (o : Outgoing) → bytes_eq o.to b ≡ true → sends_to b (os ++ o ∷ []) ≡ sends_to b os ++ o.message ∷ []
sends_one b [] o h = rw h refl
sends_one b (x ∷ os) o h = elim (bool_cases (bytes_eq x.to b)) [
  | inl q ↦ rw q (ap (λ ms. x.message ∷ ms) (sends_one b os o h))
  | inr q ↦ rw q (sends_one b os o h)
]

sends_none : (b : NodeId) (os : List Outgoing) (o : Outgoing) → bytes_eq o.to b ≡ false → sends_to b (os ++ o ∷ []) ≡ sends_to b os
sends_none b [] o h = rw h refl
sends_none b (x ∷ os) o h = elim (bool_cases (bytes_eq x.to b)) [
  | inl q ↦ rw q (ap (λ ms. x.message ∷ ms) (sends_none b os o h))
  | inr q ↦ rw q (sends_none b os o h)
]

-- one message more is posted
pub post_step : (start old new : SentLists) (os : List Outgoing) (o : Outgoing) → sent_to new o.to ≡ sent_to old o.to ++ o.message ∷ []
    → ((b : NodeId) → bytes_eq o.to b ≡ false → sent_to new b ≡ sent_to old b) → ((b : NodeId) → sent_to old b ≡ sent_to start b ++ sends_to b os)
    → (b : NodeId) → sent_to new b ≡ sent_to start b ++ sends_to b (os ++ o ∷ [])
post_step start old new os o here others so_far b = elim (bool_cases (bytes_eq o.to b)) [
  | inl q ↦
      subst (λ (a : NodeId). sent_to new a ≡ sent_to old a ++ o.message ∷ []) (bytes_are o.to b q) here
      ∙ ap (λ ms. ms ++ o.message ∷ []) (so_far b) ∙ append_assoc (sent_to start b) (sends_to b os) (o.message ∷ []) ∙ ap (λ ms. sent_to start b ++ ms) (sym (sends_one b os o q))
  | inr q ↦ others b q ∙ so_far b ∙ ap (λ ms. sent_to start b ++ ms) (sym (sends_none b os o q))
]

-- ---- what was ever sent, after more about one circuit

pub belong_step : (c : CircuitId) (ls : SentLists) (old new : Posted) → BelongEach old → lists_about new c ≡ ls
    → ((d : CircuitId) → bytes_eq c d ≡ false → lists_about new d ≡ lists_about old d) → ((b : NodeId) → AllBelong c (sent_to ls b)) → BelongEach new
belong_step c ls old new own here others about d b = elim (bool_cases (bytes_eq c d)) [
  | inl q ↦ subst (λ (e : CircuitId). AllBelong e (sent_to (lists_about new e) b)) (bytes_are c d q) (subst (λ (l : SentLists). AllBelong c (sent_to l b)) (sym here) (about b))
  | inr q ↦ subst (λ (l : SentLists). AllBelong d (sent_to l b)) (sym (others d q)) (own d b)
]

-- ---- how many messages an outbox has, as one more is posted

-- how many a node was sent
abbrev number_to : SentLists → NodeId → ℕ
number_to ls b = length (sent_to ls b)

abbrev number_of : SentLists → List NodeId → ℕ
number_of ls bs = sum_by (number_to ls) bs

no_more : (p r : ℕ) → p ≡ 0 + r → r ≤ 0 → p ≤ 0
no_more p r e h = omega (arith, e, h)

-- nothing was sent
pub total_none : IsTotal 0 []
total_none bs up = none bs
  where
    none : (bs : List NodeId) → number_of [] bs ≤ 0
    none [] = omega arith
    none (b ∷ bs) = no_more _ (number_of [] bs) (sum_by-cons (number_to []) b bs) (none bs)

same_numbers : (old new : SentLists) (bs : List NodeId) → ((j : ℕ) (b : NodeId) → slice_get bs j ≡ Some b → sent_to new b ≡ sent_to old b) → number_of new bs ≡ number_of old bs
same_numbers old new [] h = refl
same_numbers old new (b ∷ bs) h =
    sum_by-cons (number_to new) b bs
    ∙ ap (λ (n : ℕ). n + number_of new bs) (ap length (h 0 b refl))
    ∙ ap (λ (n : ℕ). number_to old b + n) (same_numbers old new bs (λ j c at. h (suc j) c at))
    ∙ sym (sum_by-cons (number_to old) b bs)

later : (m n : ℕ) → m ≤ n → m ≤ n + 1
later m n h = omega (arith, h)

-- as many as before are no more than one more
pub total_same : (n : ℕ) (old new : SentLists) → ((b : NodeId) → sent_to new b ≡ sent_to old b) → IsTotal n old → IsTotal (n + 1) new
total_same n old new h k bs up = subst (λ (m : ℕ). m ≤ n + 1) (sym (same_numbers old new bs (λ j b at. h b))) (later (number_of old bs) n (k bs up))

both_more : (p q a b r s : ℕ) → p ≡ a + r → q ≡ b + s → a ≤ b → r ≤ s + 1 → p ≤ q + 1
both_more p q a b r s e f g h = omega (arith, e, f, g, h)

one_more : (p q a b r s : ℕ) → p ≡ a + r → q ≡ b + s → a ≡ b + 1 → r ≡ s → p ≤ q + 1
one_more p q a b r s e f g h = omega (arith, e, f, g, h)

through : (m k n : ℕ) → m ≤ k + 1 → k ≤ n → m ≤ n + 1
through m k n h e = omega (arith, h, e)

-- one message more
module _ (to : NodeId) (x : Message) (old new : SentLists) (own : sent_to new to ≡ sent_to old to ++ x ∷ [])
    (others : (b : NodeId) → bytes_eq to b ≡ false → sent_to new b ≡ sent_to old b) where
  own_number : number_to new to ≡ number_to old to + 1
  own_number = ap length own ∙ length-append (sent_to old to) (x ∷ [])

  least : (n : ℕ) → n ≤ n
  least n = omega arith

  more : (bs : List NodeId) → ascends bs ≡ true → number_of new bs ≤ number_of old bs + 1
  more [] up = omega arith
  more (b ∷ bs) up = elim (bool_cases (bytes_eq to b)) [
    | inl q ↦
        let same : to ≡ b = bytes_are to b q in
        one_more _ _ (number_to new b) (number_to old b) (number_of new bs) (number_of old bs) (sum_by-cons (number_to new) b bs) (sum_by-cons (number_to old) b bs)
        (subst (λ (c : NodeId). number_to new c ≡ number_to old c + 1) same own_number)
        (same_numbers old new bs (λ j c at. others c (subst (λ (n : NodeId). bytes_eq n c ≡ false) (sym same) (differ b c (below_after b bs j c up at)))))
    | inr q ↦
        both_more _ _ (number_to new b) (number_to old b) (number_of new bs) (number_of old bs) (sum_by-cons (number_to new) b bs) (sum_by-cons (number_to old) b bs)
        (subst (λ (n : ℕ). n ≤ number_to old b) (sym (ap length (others b q))) (least (number_to old b)))
        (more bs (tail_ascends b bs up))
  ]

  pub total_more : (n : ℕ) → IsTotal n old → IsTotal (n + 1) new
  total_more n k bs up = through (number_of new bs) (number_of old bs) n (more bs up) (k bs up)
