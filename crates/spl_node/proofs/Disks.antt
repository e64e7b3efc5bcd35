-- Two disks whose calls leave what has a property.
use Rattle.std.{proofs.Common.{◌≡◌, ◌⊎◌, inl, inr, ℕ, ◌≤◌, ◌<◌, Bool, List, length, get_or, Option, Some, None, IfSome}, specs.Option.option_map}
use Rattle.std.proofs.{Common.{refl, sym, ◌∙◌, ap, subst, arith, add-zero}, lemmas.Bool.cases_lt}
use Rattle.spl_edge.specs.Devices.{Image, MayLeave, IsSettled, Onward, DiskView, image_now}
use Rattle.spl_journal.{specs.{Clear.IsAtRest, Gate.ByCalls, Journals.Stands, Reads.Stays}, proofs.Images.only_settled}
use Rattle.spl_snapshot.specs.{Counting.{chosen, IfBoth, PairLeavesBetween, PairLeavesBetweenInTurn}, Pairs.PairStands, declared.pairing.Pairing.Pairing}
use Rattle.spl_snapshot.proofs.Keeps.{both_if, settled_both}

pub safe_map : (P Q : List ℕ → List ℕ → Type 0) → ((c d : List ℕ) → P c d → Q c d) → (o p : Option Image)
    → IfBoth o p (λ i j. (c d : List ℕ) → MayLeave i c → MayLeave j d → P c d) → IfBoth o p (λ i j. (c d : List ℕ) → MayLeave i c → MayLeave j d → Q c d)
safe_map P Q f o p h =
    both_if o p (λ i j. (c d : List ℕ) → MayLeave i c → MayLeave j d → P c d) (λ i j. (c d : List ℕ) → MayLeave i c → MayLeave j d → Q c d) h
    (λ i j safe c d x y. f c d (safe c d x y))

pub leaves_map : (at other : ℕ → Option Image) (from to start end : ℕ) (P Q : List ℕ → List ℕ → Type 0) → ((c d : List ℕ) → P c d → Q c d)
    → PairLeavesBetween at from to other start end P → PairLeavesBetween at from to other start end Q
leaves_map at other from to start end P Q f h k l a b c d = safe_map P Q f (at k) (other l) (h k l a b c d)

pub turn_map : (second : Bool) (at other : ℕ → Option Image) (from to start end : ℕ) (P Q : List ℕ → List ℕ → Type 0) → ((c d : List ℕ) → P c d → Q c d)
    → PairLeavesBetweenInTurn second at from to other start end P → PairLeavesBetweenInTurn second at from to other start end Q
turn_map second at other from to start end P Q f h k l a b c d turn = safe_map P Q f (at k) (other l) (h k l a b c d turn)

some_map : (o : Option Image) (P Q : Image → Type 0) → IfSome o P → ((i : Image) → P i → Q i) → IfSome o Q
some_map None P Q h f = tt
some_map (Some i) P Q h f = f i h

-- nothing is pending on the disks of a pairing
pub settled_pair : {R : Type 0} (fits : List ℕ → Bool) (q : Pairing R) (o p : Option Image) → PairStands fits q o p → IfSome o IsSettled × IfSome p IsSettled
settled_pair fits q o p stands = settled_both q.second o p
    (some_map (chosen q.second o p) (Stands fits q.journal) IsSettled stands.counting (λ i s. s.holds.settled))
    (some_map (chosen q.second p o) (IsAtRest q.other) IsSettled stands.other (λ i s. s.settled))

pub own_bytes : (i : Image) → IsSettled i → MayLeave i i.bytes
own_bytes i settled = record {
  no_shorter = subst (λ (n : ℕ). n ≤ length i.bytes) (sym settled.least) (omega arith);
  no_longer = subst (λ (n : ℕ). length i.bytes ≤ n) (sym settled.greatest) (omega arith);
  same = λ k a b outside. ap (λ (bs : List ℕ). get_or bs k 0) (sym settled.same);
}

-- ---- disks of which no call was made

pub still : (P : List ℕ → List ℕ → Type 0) (i j : Image) → IsSettled i → IsSettled j → P i.bytes j.bytes → (c d : List ℕ) → MayLeave i c → MayLeave j d → P c d
still P i j a b h c d x y = subst (λ (e : List ℕ). P e d) (sym (only_settled i c a x)) (subst (λ (e : List ℕ). P i.bytes e) (sym (only_settled j d b y)) h)

module _ (at other : ℕ → Option Image) (m n : ℕ) where
  pub rest_leaves : IfSome (at m) IsSettled → IfSome (other n) IsSettled → (P : Image → Image → Type 0) (Q : List ℕ → List ℕ → Type 0)
      → ((i j : Image) → P i j → Q i.bytes j.bytes)
      → IfBoth (at m) (other n) (λ i j. P i j → PairLeavesBetween at m m other n n Q)
  rest_leaves a b P Q f = by (at m) (other n) a b refl refl
    where
      by : (o p : Option Image) → IfSome o IsSettled → IfSome p IsSettled → at m ≡ o → other n ≡ p
          → IfBoth o p (λ i j. P i j → PairLeavesBetween at m m other n n Q)
      by None p a b x y = tt
      by (Some i) None a b x y = tt
      by (Some i) (Some j) a b x y = λ h k l low high low2 high2.
          let here : at k ≡ Some i = subst (λ (t : ℕ). at t ≡ Some i) (let e : m ≡ k = omega arith in e) x in
          let there : other l ≡ Some j = subst (λ (t : ℕ). other t ≡ Some j) (let e : n ≡ l = omega arith in e) y in
          subst (λ (o : Option Image). IfBoth o (other l) (λ i j. (c d : List ℕ) → MayLeave i c → MayLeave j d → Q c d)) (sym here)
          (subst (λ (p : Option Image). IfBoth (Some i) p (λ i j. (c d : List ℕ) → MayLeave i c → MayLeave j d → Q c d)) (sym there)
          (still Q i j a b (f i j h)))

-- what is left at the last moments is what a read gives
pub left_now : (at other : ℕ → Option Image) (m n : ℕ) (Q : List ℕ → List ℕ → Type 0) → IfSome (at m) IsSettled → IfSome (other n) IsSettled
    → PairLeavesBetween at m m other n n Q → IfBoth (at m) (other n) (λ i j. Q i.bytes j.bytes)
left_now at other m n Q a b left = by (at m) (other n) a b (left m n (omega arith) (omega arith) (omega arith) (omega arith))
  where
    by : (o p : Option Image) → IfSome o IsSettled → IfSome p IsSettled → IfBoth o p (λ i j. (c d : List ℕ) → MayLeave i c → MayLeave j d → Q c d)
        → IfBoth o p (λ i j. Q i.bytes j.bytes)
    by None p a b h = tt
    by (Some i) None a b h = tt
    by (Some i) (Some j) a b h = h i.bytes j.bytes (own_bytes i a) (own_bytes j b)

pub onward_same : (x : DiskView) → Onward x x
onward_same x = record { past = λ t h. refl; later = omega arith; no_less = omega arith; armed = refl; picks = refl }

pub onward_join : (x y z : DiskView) → Onward x y → Onward y z → Onward x z
onward_join x y z f g = record {
  past = λ k h. g.past k (let le : x.moment ≤ y.moment = f.later in omega arith) ∙ f.past k h;
  later = let one : x.moment ≤ y.moment = f.later in let two : y.moment ≤ z.moment = g.later in omega arith;
  no_less = let one : x.faults ≤ y.faults = f.no_less in let two : y.faults ≤ z.faults = g.no_less in omega arith;
  armed = g.armed ∙ f.armed;
  picks = g.picks ∙ f.picks;
}

pub stays_same : (x : DiskView) → Stays x x
stays_same x = record { past = λ t h. refl; still = λ k low high. ap x.image_at (let e : k ≡ x.moment = omega arith in e); later = omega arith }

pub stays_join : (x y z : DiskView) → Stays x y → Stays y z → Stays x z
stays_join x y z f g = record {
  past = λ k h. g.past k (let le : x.moment ≤ y.moment = f.later in omega arith) ∙ f.past k h;
  still = λ k low high. by k low high (cases_lt k y.moment);
  later = let one : x.moment ≤ y.moment = f.later in let two : y.moment ≤ z.moment = g.later in omega arith;
}
  where
    by : (k : ℕ) → x.moment ≤ k → k ≤ z.moment → (k < y.moment) ⊎ (y.moment ≤ k) → z.image_at k ≡ image_now x
    by k low high (inl h) = g.past k (omega arith) ∙ f.still k low (omega arith)
    by k low high (inr h) = g.still k h high ∙ f.still y.moment f.later (omega arith)

-- a fault that came before the first call
pub no_calls : (x : DiskView) (f : ℕ → Image → Image) (ok failed : Type 0) → ((i : Image) → f 0 i ≡ i) → (ok → ⊥) → (failed → ⊥) → ByCalls 4 x x f ok failed
no_calls x f ok failed none no_ok no_failed = record {
  calls = 0;
  at_most = omega arith;
  stands = ap x.image_at (add-zero x.moment) ∙ by (image_now x);
  last = omega arith;
  passed = λ j h. absurd (omega arith);
  still = λ h. ap x.image_at (sym (add-zero x.moment));
  named = λ h. absurd (no_failed h);
  whole = λ h. absurd (no_ok h);
  fewer = λ h. absurd (no_failed h);
}
  where
    by : (o : Option Image) → o ≡ option_map (f 0) o
    by None = refl
    by (Some i) = ap (λ (k : Image). Some k) (sym (none i))

-- the same calls, reported of by another answer
pub calls_as : (most : ℕ) (x y : DiskView) (f : ℕ → Image → Image) (ok failed other_ok other_failed : Type 0) → (other_ok → ok) → (other_failed → failed)
    → ByCalls most x y f ok failed → ByCalls most x y f other_ok other_failed
calls_as most x y f ok failed other_ok other_failed oks fails c = record {
  calls = c.calls;
  at_most = c.at_most;
  stands = c.stands;
  last = c.last;
  passed = c.passed;
  still = c.still;
  named = λ h. c.named (fails h);
  whole = λ h. c.whole (oks h);
  fewer = λ h. c.fewer (fails h);
}

pub either_calls : {S T U : Type 0} (most : ℕ) (x y : DiskView) (f : ℕ → Image → Image) (ok failed other_ok other_failed rest_ok rest_failed : Type 0)
    → (other_ok → ok) → (other_failed → failed) → (T → U)
    → (ByCalls most x y f ok failed × S) ⊎ (ByCalls most x y f rest_ok rest_failed × T)
    → (ByCalls most x y f other_ok other_failed × S) ⊎ (ByCalls most x y f rest_ok rest_failed × U)
either_calls most x y f ok failed other_ok other_failed rest_ok rest_failed oks fails left (inl c) =
    inl (calls_as most x y f ok failed other_ok other_failed oks fails c.0, c.1)
either_calls most x y f ok failed other_ok other_failed rest_ok rest_failed oks fails left (inr c) = inr (c.0, left c.1)
