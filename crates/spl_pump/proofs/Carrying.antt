-- What messages put on each pair of nodes, one after another.
use Rattle.std.{specs.{List.{list_any, filter, flat_map}, Io.KnownBytes.append_known}, proofs.Common.{◌≡◌, ◌≢◌, ◌⊎◌, inl, inr, ℕ, Bool, true, false, ◌&&◌}}
use Rattle.std.proofs.Common.{◌||◌, eqb, cond, List, [], ◌∷◌, ◌++◌, min, max, append_assoc, append-nil, refl, sym, ap, subst, ◌∙◌, arith}
use Rattle.std.proofs.lemmas.{Bool.{eqb-true, eqb-false, eq-eqb}, List.Folds.list_any-append}
use Rattle.spl_edge.specs.Devices.{Streams}
use Rattle.spl_base.specs.FormLaws.{both_true}
use Rattle.spl_registry.specs.Nodes.{Entry}
use Rattle.spl_pump.specs.Wires.{Carried, WireGoesOn, Puts, PutsPart, TakesPart, Wire, pair_frames, hand, hands, hands_if, have_met, is_between, is_on}
use Rattle.spl_pump.{specs.Wires.{carried_frames, met_after, bytes_on_pair, wire_from, wire_of}, proofs.Taking.{takes_no_more, takes_same, takes_then}}
use Rattle.spl_pump.proofs.Wires.{tells, never, on_this, on_other, puts_more, puts_then_part, part_no_more}

pub same_puts : (f h : ℕ → ℕ → List ℕ) (a b : Streams) → ((x y : ℕ) → f x y ≡ h x y) → Puts f a b → Puts h a b
same_puts f h a b same puts = λ x y p q. puts x y p q ∙ ap (λ (l : List ℕ). append_known (a x y) l) (same x y)

pub same_part : (f h : ℕ → ℕ → List ℕ) (a b : Streams) → ((x y : ℕ) → f x y ≡ h x y) → PutsPart f a b → PutsPart h a b
same_part f h a b same part = λ x y p q. let (done, more, is, grows) = part x y p q in (done, more, sym (same x y) ∙ is, grows)

pub goes_on_silent : (sent : List Carried) → WireGoesOn sent (λ _ _ _. []) (λ _ _ _. [])
goes_on_silent sent = record { after = λ later a b. refl }

and_comm : (s t : Bool) → (s && t) ≡ (t && s)
and_comm true true = refl
and_comm true false = refl
and_comm false true = refl
and_comm false false = refl

or_false : (s : Bool) → (s || false) ≡ s
or_false true = refl
or_false false = refl

-- the lower of two is the one or the other
sides : (x y : ℕ) → x ≢ y → ((min x y ≡ x) × (max x y ≡ y)) ⊎ ((min x y ≡ y) × (max x y ≡ x))
sides x y apart = go (tells (eqb (min x y) x))
  where
    go : (eqb (min x y) x ≡ true) ⊎ (eqb (min x y) x ≡ false) → ((min x y ≡ x) × (max x y ≡ y)) ⊎ ((min x y ≡ y) × (max x y ≡ x))
    go (inl h) = let e = eqb-true (min x y) x h in inl (e, omega arith)
    go (inr h) = let e = eqb-false (min x y) x h in inr (omega (arith, e), omega (arith, e))

-- a pair of nodes, as a message sees it: its own, the way back, or another
abbrev Way : ℕ → ℕ → Carried → Type 0
Way a b c = ((a ≡ c.from) × (b ≡ c.to)) ⊎ (((a ≡ c.to) × (b ≡ c.from)) ⊎ ((is_on a b c ≡ false) × (is_on b a c ≡ false)))

on_is : (a b : ℕ) (c : Carried) → is_on a b c ≡ true → (a ≡ c.from) × (b ≡ c.to)
on_is a b c h = let both = both_true (eqb a c.from) (eqb b c.to) h in (eqb-true a c.from both.0, eqb-true b c.to both.1)

way_of : (a b : ℕ) (c : Carried) → Way a b c
way_of a b c = go (tells (is_on a b c)) (tells (is_on b a c))
  where
    go : (is_on a b c ≡ true) ⊎ (is_on a b c ≡ false) → (is_on b a c ≡ true) ⊎ (is_on b a c ≡ false) → Way a b c
    go (inl h) k = inl (on_is a b c h)
    go (inr h) (inl k) = let e = on_is b a c k in inr (inl (e.1, e.0))
    go (inr h) (inr k) = inr (inr (h, k))

on_own : (c : Carried) → is_on c.from c.to c ≡ true
on_own c = rw (eq-eqb c.from c.from refl, eq-eqb c.to c.to refl) refl

on_back : (c : Carried) → c.from ≢ c.to → is_on c.to c.from c ≡ false
on_back c apart = go (tells (is_on c.to c.from c))
  where
    go : (is_on c.to c.from c ≡ true) ⊎ (is_on c.to c.from c ≡ false) → is_on c.to c.from c ≡ false
    go (inl h) = absurd (apart (sym (on_is c.to c.from c h).0))
    go (inr h) = h

-- the frames by which two nodes name themselves, on the pair from the one to the other
hands_own : (es : List Entry) (x y : ℕ) → x ≢ y → hands es (min x y) (max x y) x y ≡ hand es x y
hands_own es x y apart = go (sides x y apart)
  where
    swapped : cond (eqb x y && eqb y x) true false ≡ false
    swapped = elim (tells (eqb x y)) as (λ _. cond (eqb x y && eqb y x) true false ≡ false) [ inl h ↦ absurd (apart (eqb-true x y h)) | inr h ↦ rw h refl ]

    go : ((min x y ≡ x) × (max x y ≡ y)) ⊎ ((min x y ≡ y) × (max x y ≡ x)) → hands es (min x y) (max x y) x y ≡ hand es x y
    go (inl e) = rw (e.0, e.1) (rw (on_this x y (hand es x y), on_other y x x y (hand es y x) swapped) (append-nil (hand es x y)))
    go (inr e) = rw (e.0, e.1) (rw (on_other y x x y (hand es y x) swapped, on_this x y (hand es x y)) refl)

-- and none on other pairs
hands_away : (es : List Entry) (x y a b : ℕ) → x ≢ y → (eqb a x && eqb b y) ≡ false → (eqb a y && eqb b x) ≡ false → hands es (min x y) (max x y) a b ≡ []
hands_away es x y a b apart h k = go (sides x y apart)
  where
    go : ((min x y ≡ x) × (max x y ≡ y)) ⊎ ((min x y ≡ y) × (max x y ≡ x)) → hands es (min x y) (max x y) a b ≡ []
    go (inl e) = rw (e.0, e.1) (rw (h, k) refl)
    go (inr e) = rw (e.0, e.1) (rw (h, k) refl)

-- two nodes are those between which a message went where the lower and the higher are
same_pair : (c : Carried) (a b : ℕ) → c.from ≢ c.to → (eqb (min c.from c.to) (min a b) && eqb (max c.from c.to) (max a b)) ≡ is_between a b c
same_pair c a b apart = go (way_of a b c)
  where
    Is : Type 0
    Is = (eqb (min c.from c.to) (min a b) && eqb (max c.from c.to) (max a b)) ≡ is_between a b c

    other : (is_on a b c ≡ false) → (is_on b a c ≡ false) → (eqb (min c.from c.to) (min a b) && eqb (max c.from c.to) (max a b)) ≡ true → ⊥
    other h k e =
        let both = both_true (eqb (min c.from c.to) (min a b)) (eqb (max c.from c.to) (max a b)) e in
        let low : min c.from c.to ≡ min a b = eqb-true (min c.from c.to) (min a b) both.0 in
        let high : max c.from c.to ≡ max a b = eqb-true (max c.from c.to) (max a b) both.1 in
        elim (tells (eqb a c.from)) as (λ _. ⊥) [
          | inl p ↦
              let x : a ≡ c.from = eqb-true a c.from p in
              let y : b ≡ c.to = omega arith in
              never (sym (rw (eq-eqb a c.from x, eq-eqb b c.to y) refl) ∙ h)
          | inr p ↦
              let n = eqb-false a c.from p in
              let x : a ≡ c.to = omega (arith, n) in
              let y : b ≡ c.from = omega (arith, n) in
              never (sym (rw (eq-eqb b c.from y, eq-eqb a c.to x) refl) ∙ k)
        ]

    go : Way a b c → (eqb (min c.from c.to) (min a b) && eqb (max c.from c.to) (max a b)) ≡ is_between a b c
    go (inl e) = rw (e.0, e.1) (rw (eq-eqb (min c.from c.to) (min c.from c.to) refl, eq-eqb (max c.from c.to) (max c.from c.to) refl, on_own c) refl)
    go (inr (inl e)) =
        let low : min c.from c.to ≡ min c.to c.from = omega arith in
        let high : max c.from c.to ≡ max c.to c.from = omega arith in
        rw (e.0, e.1) (rw (eq-eqb (min c.from c.to) (min c.to c.from) low, eq-eqb (max c.from c.to) (max c.to c.from) high, on_own c, on_back c apart) refl)
    go (inr (inr e)) =
        elim (tells (eqb (min c.from c.to) (min a b) && eqb (max c.from c.to) (max a b))) as
        (λ _. (eqb (min c.from c.to) (min a b) && eqb (max c.from c.to) (max a b)) ≡ is_between a b c) [
          | inl h ↦ absurd (other e.0 e.1 h)
          | inr h ↦ h ∙ sym (rw (e.0, e.1) refl)
        ]

met_has : (met : List (ℕ × ℕ)) (low high : ℕ) → have_met met low high ≡ true → met_after met low high ≡ met
met_has met low high h = rw h refl

met_new : (met : List (ℕ × ℕ)) (low high : ℕ) → have_met met low high ≡ false → met_after met low high ≡ met ++ (low, high) ∷ []
met_new met low high h = rw h refl

-- after a message two nodes have met where they had, or where it went between them
met_more : (met : List (ℕ × ℕ)) (c : Carried) (a b : ℕ) → c.from ≢ c.to
    → have_met (met_after met (min c.from c.to) (max c.from c.to)) (min a b) (max a b) ≡ (have_met met (min a b) (max a b) || is_between a b c)
met_more met c a b apart = go (tells (have_met met low high)) (tells (is_between a b c))
  where
    low : ℕ
    low = min c.from c.to

    high : ℕ
    high = max c.from c.to

    met' : List (ℕ × ℕ)
    met' = met_after met low high

    go : (have_met met low high ≡ true) ⊎ (have_met met low high ≡ false) → (is_between a b c ≡ true) ⊎ (is_between a b c ≡ false)
        → have_met met' (min a b) (max a b) ≡ (have_met met (min a b) (max a b) || is_between a b c)
    go (inl h) (inl k) =
        let both = both_true (eqb low (min a b)) (eqb high (max a b)) (same_pair c a b apart ∙ k) in
        let before : have_met met (min a b) (max a b) ≡ true =
        subst (λ (x : ℕ). have_met met x (max a b) ≡ true) (eqb-true low (min a b) both.0)
        (subst (λ (y : ℕ). have_met met low y ≡ true) (eqb-true high (max a b) both.1) h) in
        ap (λ (m : List (ℕ × ℕ)). have_met m (min a b) (max a b)) (met_has met low high h) ∙ before ∙ sym (ap (λ (s : Bool). s || is_between a b c) before)
    go (inl h) (inr k) =
        ap (λ (m : List (ℕ × ℕ)). have_met m (min a b) (max a b)) (met_has met low high h)
        ∙ sym (ap (λ (s : Bool). have_met met (min a b) (max a b) || s) k ∙ or_false (have_met met (min a b) (max a b)))
    go (inr h) k =
        ap (λ (m : List (ℕ × ℕ)). have_met m (min a b) (max a b)) (met_new met low high h)
        ∙ list_any-append (λ (p : ℕ × ℕ). eqb p.0 (min a b) && eqb p.1 (max a b)) met ((low, high) ∷ [])
        ∙ ap (λ (s : Bool). have_met met (min a b) (max a b) || s) (or_false (eqb low (min a b) && eqb high (max a b)) ∙ same_pair c a b apart)

frame_if : (on : Bool) (c : Carried) (rest : List Carried)
    → flat_map carried_frames (cond on (c ∷ rest) rest) ≡ cond on (carried_frames c) [] ++ flat_map carried_frames rest
frame_if true c rest = refl
frame_if false c rest = refl

-- of what one message and others put, by whether two nodes have met, whether it goes on the pair or back, and whether another goes between them
parts : (met on back any : Bool) (hand own rest : List ℕ)
    → cond met (cond on own [] ++ rest) (cond ((on || back) || any) hand [] ++ (cond on own [] ++ rest))
    ≡ cond met (cond on own [] ++ []) (cond ((on || back) || false) hand [] ++ (cond on own [] ++ []))
    ++ cond (met || (on || back)) rest (cond any hand [] ++ rest)
parts true true back any hand own rest = rw (append-nil own) refl
parts true false back any hand own rest = refl
parts false true back any hand own rest = rw (append-nil own) (sym (append_assoc hand own rest))
parts false false true any hand own rest = rw (append-nil hand) refl
parts false false false any hand own rest = refl

-- what a message and others put
wire_cons : (es : List Entry) (met : List (ℕ × ℕ)) (c : Carried) (later : List Carried) (a b : ℕ)
    → wire_from es met (c ∷ later) a b
    ≡ cond (have_met met (min a b) (max a b)) (cond (is_on a b c) (carried_frames c) [] ++ pair_frames later a b)
    (cond (is_between a b c || list_any (is_between a b) later) (hand es a b) [] ++ (cond (is_on a b c) (carried_frames c) [] ++ pair_frames later a b))
wire_cons es met c later a b =
    ap (λ (l : List ℕ). cond (have_met met (min a b) (max a b)) l (cond (is_between a b c || list_any (is_between a b) later) (hand es a b) [] ++ l))
    (frame_if (is_on a b c) c (filter (is_on a b) later))

pub goes_on_met : (es : List Entry) (met : List (ℕ × ℕ)) (c : Carried) → c.from ≢ c.to
    → WireGoesOn (c ∷ []) (wire_from es met) (wire_from es (met_after met (min c.from c.to) (max c.from c.to)))
goes_on_met es met c apart = record {
  after = λ later a b.
      wire_cons es met c later a b
      ∙ parts (have_met met (min a b) (max a b)) (is_on a b c) (is_on b a c) (list_any (is_between a b) later) (hand es a b) (carried_frames c)
      (pair_frames later a b)
      ∙ ap (λ (l : List ℕ). l ++ cond (have_met met (min a b) (max a b) || is_between a b c) (pair_frames later a b) (wire_of es later a b))
      (sym (wire_cons es met c [] a b))
      ∙ ap (λ (m : Bool). wire_from es met (c ∷ []) a b ++ cond m (pair_frames later a b) (wire_of es later a b)) (sym (met_more met c a b apart));
}

-- what one message puts: the frames by which two nodes name themselves, unless they have met, and its own
pub one_puts : (es : List Entry) (met : List (ℕ × ℕ)) (c : Carried) (a b : ℕ) → c.from ≢ c.to
    → hands_if es (have_met met (min c.from c.to) (max c.from c.to)) (min c.from c.to) (max c.from c.to) a b
    ++ bytes_on_pair c.from c.to (carried_frames c) a b ≡ wire_from es met (c ∷ []) a b
one_puts es met c a b apart = go (way_of a b c) ∙ sym (wire_cons es met c [] a b)
  where
    low : ℕ
    low = min c.from c.to

    high : ℕ
    high = max c.from c.to

    by : (m : Bool) (put hand own : List ℕ) → put ≡ hand → cond m [] put ++ own ≡ cond m (own ++ []) (hand ++ (own ++ []))
    by true put hand own e = sym (append-nil own)
    by false put hand own e = rw (e, append-nil own) refl

    none : (m m' : Bool) (put : List ℕ) → put ≡ [] → cond m [] put ++ [] ≡ cond m' [] []
    none true true put e = refl
    none true false put e = refl
    none false true put e = rw e refl
    none false false put e = rw e refl

    go : Way a b c → hands_if es (have_met met low high) low high a b ++ bytes_on_pair c.from c.to (carried_frames c) a b
        ≡ cond (have_met met (min a b) (max a b)) (cond (is_on a b c) (carried_frames c) [] ++ [])
        (cond (is_between a b c || false) (hand es a b) [] ++ (cond (is_on a b c) (carried_frames c) [] ++ []))
    go (inl e) =
        rw (e.0, e.1) (rw (on_own c)
        (by (have_met met low high) (hands es low high c.from c.to) (hand es c.from c.to) (carried_frames c) (hands_own es c.from c.to apart)))
    go (inr (inl e)) =
        let lower : min c.from c.to ≡ min c.to c.from = omega arith in
        let higher : max c.from c.to ≡ max c.to c.from = omega arith in
        rw (e.0, e.1) (rw (lower, higher)
        (rw (on_back c apart, on_own c)
        (by (have_met met (min c.to c.from) (max c.to c.from)) (hands es (min c.to c.from) (max c.to c.from) c.to c.from) (hand es c.to c.from) []
        (hands_own es c.to c.from (λ h. apart (sym h))))))
    go (inr (inr e)) =
        rw (e.0, e.1) (none (have_met met low high) (have_met met (min a b) (max a b)) (hands es low high a b)
        (hands_away es c.from c.to a b apart e.0 (and_comm (eqb a c.to) (eqb b c.from) ∙ e.1)))

-- what a message puts, by the frames of the two nodes and its own
module _ (es : List Entry) (met : List (ℕ × ℕ)) (c : Carried) (low high : ℕ) (old mid new : Streams) (apart : c.from ≢ c.to) (l : low ≡ min c.from c.to)
    (h : high ≡ max c.from c.to) where
  abbrev first : ℕ → ℕ → List ℕ
  first = hands_if es (have_met met (min c.from c.to) (max c.from c.to)) (min c.from c.to) (max c.from c.to)

  abbrev own : ℕ → ℕ → List ℕ
  own = bytes_on_pair c.from c.to (carried_frames c)

  one : (a b : ℕ) → first a b ++ own a b ≡ wire_from es met (c ∷ []) a b
  one a b = one_puts es met c a b apart

  -- what holds of the frames of the two nodes, whichever is called the lower
  first_as : (P : (ℕ → ℕ → List ℕ) → Type 0) → P (hands_if es (have_met met low high) low high) → P first
  first_as P hands =
      subst (λ (x : ℕ). P (hands_if es (have_met met x (max c.from c.to)) x (max c.from c.to))) l
      (subst (λ (y : ℕ). P (hands_if es (have_met met low y) low y)) h hands)

  pub carried_puts : Puts (hands_if es (have_met met low high) low high) old mid → Puts own mid new → Puts (wire_from es met (c ∷ [])) old new
  carried_puts hands sent =
      same_puts (λ a b. first a b ++ own a b) (wire_from es met (c ∷ [])) old new one
      (puts_more first own old mid new (first_as (λ f. Puts f old mid) hands) sent)

  pub carried_met : PutsPart (hands_if es (have_met met low high) low high) old mid → PutsPart (wire_from es met (c ∷ [])) old mid
  carried_met hands =
      same_part (λ a b. first a b ++ own a b) (wire_from es met (c ∷ [])) old mid one
      (part_no_more first own old mid (first_as (λ f. PutsPart f old mid) hands))

  pub carried_part : Puts (hands_if es (have_met met low high) low high) old mid → PutsPart own mid new → PutsPart (wire_from es met (c ∷ [])) old new
  carried_part hands sent =
      same_part (λ a b. first a b ++ own a b) (wire_from es met (c ∷ [])) old new one
      (puts_then_part first own old mid new (first_as (λ f. Puts f old mid) hands) sent)

  pub met_taken : (Due : ℕ → ℕ → List ℕ → Type 0) → TakesPart Due (hands_if es (have_met met low high) low high) old mid
      → TakesPart Due (wire_from es met (c ∷ [])) old mid
  met_taken Due hands =
      takes_same (λ a b. []) (λ a b. first a b ++ own a b) (wire_from es met (c ∷ [])) old mid one
      (takes_no_more first own old mid (first_as (λ f. TakesPart Due f old mid) hands))

  pub part_taken : (Due : ℕ → ℕ → List ℕ → Type 0) → Puts (hands_if es (have_met met low high) low high) old mid → TakesPart Due own mid new
      → TakesPart Due (wire_from es met (c ∷ [])) old new
  part_taken Due hands sent =
      takes_same (λ a b. []) (λ a b. first a b ++ own a b) (wire_from es met (c ∷ [])) old new one
      (takes_then first own old mid new (first_as (λ f. Puts f old mid) hands) sent)

  pub carried_on : (es' : List Entry) (met' : List (ℕ × ℕ)) → es' ≡ es → met' ≡ met_after met low high
      → WireGoesOn (c ∷ []) (wire_from es met) (wire_from es' met')
  carried_on es' met' e m =
      let after : met_after met (min c.from c.to) (max c.from c.to) ≡ met' =
      sym (subst (λ (x : ℕ). met' ≡ met_after met x (max c.from c.to)) l (subst (λ (y : ℕ). met' ≡ met_after met low y) h m)) in
      subst (λ (xs : List Entry). WireGoesOn (c ∷ []) (wire_from es met) (wire_from xs met')) (sym e)
      (subst (λ (ms : List (ℕ × ℕ)). WireGoesOn (c ∷ []) (wire_from es met) (wire_from es ms)) after (goes_on_met es met c apart))

-- Messages that are carried one after another.
pub goes_on_none : (f : Wire) → ((a b : ℕ) → f [] a b ≡ []) → WireGoesOn [] f f
goes_on_none f none = record { after = λ later a b. ap (λ (l : List ℕ). l ++ f later a b) (sym (none a b)) }

pub goes_on_more : (xs ys : List Carried) (f g h : Wire) → WireGoesOn xs f g → WireGoesOn ys g h → WireGoesOn (xs ++ ys) f h
goes_on_more xs ys f g h first second = record {
  after = λ later a b.
      ap (λ (l : List Carried). f l a b) (append_assoc xs ys later)
      ∙ first.after (ys ++ later) a b
      ∙ ap (λ (l : List ℕ). f xs a b ++ l) (second.after later a b)
      ∙ sym (append_assoc (f xs a b) (g ys a b) (h later a b))
      ∙ ap (λ (l : List ℕ). l ++ h later a b) (sym (first.after ys a b));
}

pub puts_on : (xs ys : List Carried) (f g : Wire) (a b c : Streams) → WireGoesOn xs f g → Puts (f xs) a b → Puts (g ys) b c → Puts (f (xs ++ ys)) a c
puts_on xs ys f g a b c on first second =
    same_puts (λ x y. f xs x y ++ g ys x y) (f (xs ++ ys)) a c (λ x y. sym (on.after ys x y)) (puts_more (f xs) (g ys) a b c first second)

pub puts_on_part : (xs ys : List Carried) (f g : Wire) (a b c : Streams) → WireGoesOn xs f g → Puts (f xs) a b → PutsPart (g ys) b c
    → PutsPart (f (xs ++ ys)) a c
puts_on_part xs ys f g a b c on first second =
    same_part (λ x y. f xs x y ++ g ys x y) (f (xs ++ ys)) a c (λ x y. sym (on.after ys x y)) (puts_then_part (f xs) (g ys) a b c first second)
