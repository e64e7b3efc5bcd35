-- An append, and then a checkpoint where there is no room.
use Rattle.std.{specs.{Result.result_unwrap_or, Prelude.⊤}, proofs.Common.{◌≡◌, inl, inr, ⊎_elim, ℕ, ◌≤◌, List, [], ◌++◌, get_or, Bool, true, false, Option}}
use Rattle.std.proofs.Common.{None, Some, IfSome, IsSome, Result, refl, sym, ap, subst, arith}
use Rattle.spl_edge.specs.Devices.{Image, MayLeave, IsSettled, image_now, DiskView}
use Rattle.spl_journal.specs.{Clear.IsAtRest, Gate.ByCalls, Journals.Stands}
use Rattle.spl_snapshot.specs.{Pairs.PairStands, Counting.{chosen, pair_records_of, HaveRecords, HaveEither, HaveOneOf, IfBoth, TellsAs, PairLeavesBetween}}
use Rattle.spl_snapshot.{specs.{Counting.PairLeavesBetweenInTurn, declared.pairing.Pairing.Pairing}, proofs.{Findings.if_map, Turns.first_then}}
use Rattle.spl_snapshot.proofs.Turns.{second_then}

-- what has P has Q
both_map : (P Q : List ℕ → List ℕ → Type 0) → ((c d : List ℕ) → P c d → Q c d) → (o p : Option Image)
    → IfBoth o p (λ i j. (c d : List ℕ) → MayLeave i c → MayLeave j d → P c d) → IfBoth o p (λ i j. (c d : List ℕ) → MayLeave i c → MayLeave j d → Q c d)
both_map P Q f None p h = tt
both_map P Q f (Some i) None h = tt
both_map P Q f (Some i) (Some j) h = λ c d x y. f c d (h c d x y)

pub pair_map : (at other : ℕ → Option Image) (from to start end : ℕ) (P Q : List ℕ → List ℕ → Type 0) → ((c d : List ℕ) → P c d → Q c d)
    → PairLeavesBetween at from to other start end P → PairLeavesBetween at from to other start end Q
pair_map at other from to start end P Q f h k l a b c d = both_map P Q f (at k) (other l) (h k l a b c d)

-- in any turn
pub in_any_turn : (second : Bool) (at other : ℕ → Option Image) (from to start end : ℕ) (P : List ℕ → List ℕ → Type 0)
    → PairLeavesBetween at from to other start end P → PairLeavesBetweenInTurn second at from to other start end P
in_any_turn second at other from to start end P h k l a b c d turn = h k l a b c d

-- two disks, before, between and after two calls of them
module _ {D : Type 0} (view : D → DiskView) (a b a1 b1 a2 b2 : D) (P : List ℕ → List ℕ → Type 0)
    (first_past : ((t : ℕ) → t ≤ (view a1).moment → (view a2).image_at t ≡ (view a1).image_at t)) (first_later : (view a1).moment ≤ (view a2).moment)
    (second_past : ((t : ℕ) → t ≤ (view b1).moment → (view b2).image_at t ≡ (view b1).image_at t))
    (second_later : (view b1).moment ≤ (view b2).moment) where
  pub joined : (second : Bool) → chosen second b1 a1 ≡ chosen second b a → chosen second a2 b2 ≡ chosen second a1 b1
      → PairLeavesBetween (view a1).image_at (view a).moment (view a1).moment (view b1).image_at (view b).moment (view b1).moment P
      → PairLeavesBetween (view a2).image_at (view a1).moment (view a2).moment (view b2).image_at (view b1).moment (view b2).moment P
      → PairLeavesBetweenInTurn second (view a2).image_at (view a).moment (view a2).moment (view b2).image_at (view b).moment (view b2).moment P
  joined false other counting before past =
      subst (λ (x : D). PairLeavesBetweenInTurn false (view x).image_at (view a).moment (view x).moment (view b2).image_at (view b).moment
      (view b2).moment P) (sym counting)
      (first_then (view a1).image_at (view b).image_at (view b2).image_at (view a).moment (view a1).moment (view b).moment (view b2).moment P
      (subst (λ (y : D). (view y).moment ≤ (view b2).moment) other second_later)
      (subst (λ (y : D). ((t : ℕ) → t ≤ (view y).moment → (view b2).image_at t ≡ (view y).image_at t)) other second_past)
      (subst (λ (y : D). PairLeavesBetween (view a1).image_at (view a).moment (view a1).moment (view y).image_at (view b).moment
      (view y).moment P) other before)
      (subst (λ (y : D). PairLeavesBetween (view a1).image_at (view a1).moment (view a1).moment (view b2).image_at (view y).moment
      (view b2).moment P) other
      (subst (λ (x : D). PairLeavesBetween (view x).image_at (view a1).moment (view x).moment (view b2).image_at (view b1).moment
      (view b2).moment P) counting past)))
  joined true other counting before past =
      subst (λ (y : D). PairLeavesBetweenInTurn true (view a2).image_at (view a).moment (view a2).moment (view y).image_at (view b).moment
      (view y).moment P) (sym counting)
      (second_then (view b1).image_at (view a).image_at (view a2).image_at (view b).moment (view b1).moment (view a).moment (view a2).moment P
      (subst (λ (x : D). (view x).moment ≤ (view a2).moment) other first_later)
      (subst (λ (x : D). ((t : ℕ) → t ≤ (view x).moment → (view a2).image_at t ≡ (view x).image_at t)) other first_past)
      (subst (λ (x : D). PairLeavesBetween (view x).image_at (view a).moment (view x).moment (view b1).image_at (view b).moment
      (view b1).moment P) other before)
      (subst (λ (x : D). PairLeavesBetween (view a2).image_at (view x).moment (view a2).moment (view b1).image_at (view b1).moment
      (view b1).moment P) other
      (subst (λ (y : D). PairLeavesBetween (view a2).image_at (view a1).moment (view a2).moment (view y).image_at (view b1).moment
      (view y).moment P) counting past)))

-- one of two is one of three
pub either_one : (fits : List ℕ → Bool) (before after packed : List (List ℕ)) (c d : List ℕ) → HaveEither fits before after c d
    → HaveOneOf fits before after packed c d
either_one fits before after packed c d = ⊎_elim (λ x. inl x) (λ y. inr (inl y))

later_one : (fits : List ℕ → Bool) (before after packed : List (List ℕ)) (c d : List ℕ) → HaveEither fits after packed c d
    → HaveOneOf fits before after packed c d
later_one fits before after packed c d = ⊎_elim (λ x. inr (inl x)) (λ y. inr (inr y))

leaves_itself : (i : Image) → IsSettled i → MayLeave i i.bytes
leaves_itself i s =
    record { no_shorter = omega (arith, s.least); no_longer = omega (arith, s.greatest); same = λ k a b out. ap (λ (l : List ℕ). get_or l k 0) (sym s.same) }

-- the records between an append and a checkpoint
module _ (fits : List ℕ → Bool) (rs : List (List ℕ)) (at other : ℕ → Option Image) (m n : ℕ) (i j : Image) (here : at m ≡ Some i)
    (there : other n ≡ Some j) (rest : IsSettled i) (other_rest : IsSettled j) where
  pub between : PairLeavesBetween at m m other n n (HaveRecords fits rs) → pair_records_of fits i.bytes j.bytes ≡ rs
  between left = ap (λ (r : Result (List (List ℕ)) ℕ). result_unwrap_or r []) now
    where
      now : HaveRecords fits rs i.bytes j.bytes
      now = subst (λ (y : Option Image). IfSome y (λ v. (c d : List ℕ) → MayLeave i c → MayLeave v d → HaveRecords fits rs c d)) there
          (subst (λ (x : Option Image). IfBoth x (other n) (λ u v. (c d : List ℕ) → MayLeave u c → MayLeave v d → HaveRecords fits rs c d)) here
          (left m n (omega arith) (omega arith) (omega arith) (omega arith)))
          i.bytes j.bytes (leaves_itself i rest) (leaves_itself j other_rest)

both_told : (o p : Option Image) (C : Type 0) → IsSome o → IsSome p → ((i j : Image) → o ≡ Some i → p ≡ Some j → C) → C
both_told None p C a b f = cc
both_told (Some i) None C a b f = cc
both_told (Some i) (Some j) C a b f = f i j refl refl

-- the checkpoint as it is seen from before the append
module _ (fits : List ℕ → Bool) (rs packed : List (List ℕ)) (r : List (List ℕ)) (at1 at2 other1 other2 : ℕ → Option Image) (m m1 n n1 : ℕ)
    (rest : IfSome (at1 m) IsSettled) (other_rest : IfSome (other1 n) IsSettled) (told : IsSome (at1 m)) (other_told : IsSome (other1 n))
    (mid : PairLeavesBetween at1 m m other1 n n (HaveRecords fits (rs ++ r))) where
  settled_of : (o : Option Image) (i : Image) → o ≡ Some i → IfSome o IsSettled → IsSettled i
  settled_of o i is s = subst (λ (x : Option Image). IfSome x IsSettled) is s

  pub checkpoint_any : IfBoth (at1 m) (other1 n)
      (λ i j. PairLeavesBetween at2 m m1 other2 n n1 (HaveEither fits (pair_records_of fits i.bytes j.bytes) packed))
      → PairLeavesBetween at2 m m1 other2 n n1 (HaveOneOf fits rs (rs ++ r) packed)
  checkpoint_any left = both_told (at1 m) (other1 n) (PairLeavesBetween at2 m m1 other2 n n1 (HaveOneOf fits rs (rs ++ r) packed)) told other_told
      (λ i j here there.
      let all = between fits (rs ++ r) at1 other1 m n i j here there (settled_of (at1 m) i here rest) (settled_of (other1 n) j there other_rest) mid in
      let now = subst (λ (y : Option Image). IfSome y
      (λ v. PairLeavesBetween at2 m m1 other2 n n1 (HaveEither fits (pair_records_of fits i.bytes v.bytes) packed))) there
      (subst (λ (x : Option Image). IfBoth x (other1 n)
      (λ u v. PairLeavesBetween at2 m m1 other2 n n1 (HaveEither fits (pair_records_of fits u.bytes v.bytes) packed))) here left) in
      pair_map at2 other2 m m1 n n1 (HaveEither fits (pair_records_of fits i.bytes j.bytes) packed) (HaveOneOf fits rs (rs ++ r) packed)
      (λ c d h. later_one fits rs (rs ++ r) packed c d (subst (λ (l : List (List ℕ)). HaveEither fits l packed c d) all h)) now)

  pub checkpoint_last : m ≤ m1 → n ≤ n1
      → IfBoth (at1 m) (other1 n) (λ i j. PairLeavesBetween at2 m m1 other2 n n1 (HaveEither fits (pair_records_of fits i.bytes j.bytes) packed))
      → PairLeavesBetween at2 m1 m1 other2 n1 n1 (HaveEither fits (rs ++ r) packed)
  checkpoint_last later other_later left =
      both_told (at1 m) (other1 n) (PairLeavesBetween at2 m1 m1 other2 n1 n1 (HaveEither fits (rs ++ r) packed)) told other_told
      (λ i j here there.
      let all = between fits (rs ++ r) at1 other1 m n i j here there (settled_of (at1 m) i here rest) (settled_of (other1 n) j there other_rest) mid in
      let now = subst (λ (y : Option Image). IfSome y
      (λ v. PairLeavesBetween at2 m m1 other2 n n1 (HaveEither fits (pair_records_of fits i.bytes v.bytes) packed))) there
      (subst (λ (x : Option Image). IfBoth x (other1 n)
      (λ u v. PairLeavesBetween at2 m m1 other2 n n1 (HaveEither fits (pair_records_of fits u.bytes v.bytes) packed))) here left) in
      let past : PairLeavesBetween at2 m m1 other2 n n1 (HaveEither fits (rs ++ r) packed) =
      subst (λ (l : List (List ℕ)). PairLeavesBetween at2 m m1 other2 n n1 (HaveEither fits l packed)) all now in
      λ k l low high low2 high2. past k l (omega (arith, later, low)) high (omega (arith, other_later, low2)) high2)

  pub checkpoint_after : IfBoth (at1 m) (other1 n) (λ i j. PairLeavesBetween at2 m1 m1 other2 n1 n1 (HaveRecords fits packed))
      → PairLeavesBetween at2 m1 m1 other2 n1 n1 (HaveEither fits (rs ++ r) packed)
  checkpoint_after left = both_told (at1 m) (other1 n) (PairLeavesBetween at2 m1 m1 other2 n1 n1 (HaveEither fits (rs ++ r) packed)) told other_told
      (λ i j here there.
      let now = subst (λ (y : Option Image). IfSome y (λ v. PairLeavesBetween at2 m1 m1 other2 n1 n1 (HaveRecords fits packed))) there
      (subst (λ (x : Option Image). IfBoth x (other1 n) (λ u v. PairLeavesBetween at2 m1 m1 other2 n1 n1 (HaveRecords fits packed))) here left) in
      pair_map at2 other2 m1 m1 n1 n1 (HaveRecords fits packed) (HaveEither fits (rs ++ r) packed) (λ c d h. inr h) now)

pub both_if : (o p : Option Image) (P Q : Image → Image → Type 0) → IfBoth o p P → ((i j : Image) → P i j → Q i j) → IfBoth o p Q
both_if None p P Q h f = tt
both_if (Some i) None P Q h f = tt
both_if (Some i) (Some j) P Q h f = f i j h

-- an append alone
module _ (fits : List ℕ → Bool) (packed : List (List ℕ)) (r : List (List ℕ)) (o p : Option Image) (at other : ℕ → Option Image) (from to start end : ℕ) where
  pub kept_any : (second : Bool)
      → IfBoth o p (λ i j. PairLeavesBetween at from to other start end
      (HaveEither fits (pair_records_of fits i.bytes j.bytes) (pair_records_of fits i.bytes j.bytes ++ r)))
      → IfBoth o p (λ i j. PairLeavesBetweenInTurn second at from to other start end
      (HaveOneOf fits (pair_records_of fits i.bytes j.bytes) (pair_records_of fits i.bytes j.bytes ++ r) packed))
  kept_any second left =
      both_if o p (λ i j. PairLeavesBetween at from to other start end
      (HaveEither fits (pair_records_of fits i.bytes j.bytes) (pair_records_of fits i.bytes j.bytes ++ r)))
      (λ i j. PairLeavesBetweenInTurn second at from to other start end
      (HaveOneOf fits (pair_records_of fits i.bytes j.bytes) (pair_records_of fits i.bytes j.bytes ++ r) packed)) left
      (λ i j h. in_any_turn second at other from to start end
      (HaveOneOf fits (pair_records_of fits i.bytes j.bytes) (pair_records_of fits i.bytes j.bytes ++ r) packed)
      (pair_map at other from to start end (HaveEither fits (pair_records_of fits i.bytes j.bytes) (pair_records_of fits i.bytes j.bytes ++ r))
      (HaveOneOf fits (pair_records_of fits i.bytes j.bytes) (pair_records_of fits i.bytes j.bytes ++ r) packed)
      (either_one fits (pair_records_of fits i.bytes j.bytes) (pair_records_of fits i.bytes j.bytes ++ r) packed) h))

  pub kept_after : IfBoth o p (λ i j. PairLeavesBetween at from to other start end (HaveRecords fits (pair_records_of fits i.bytes j.bytes ++ r)))
      → IfBoth o p (λ i j. PairLeavesBetween at from to other start end (HaveEither fits (pair_records_of fits i.bytes j.bytes ++ r) packed))
  kept_after left = both_if o p (λ i j. PairLeavesBetween at from to other start end (HaveRecords fits (pair_records_of fits i.bytes j.bytes ++ r)))
      (λ i j. PairLeavesBetween at from to other start end (HaveEither fits (pair_records_of fits i.bytes j.bytes ++ r) packed)) left
      (λ i j h. pair_map at other from to start end (HaveRecords fits (pair_records_of fits i.bytes j.bytes ++ r))
      (HaveEither fits (pair_records_of fits i.bytes j.bytes ++ r) packed) (λ c d x. inl x) h)

-- the two disks of a pairing are at rest
pub settled_both : (second : Bool) (o p : Option Image) → IfSome (chosen second o p) IsSettled → IfSome (chosen second p o) IsSettled
    → IfSome o IsSettled × IfSome p IsSettled
settled_both false o p a b = (a, b)
settled_both true o p a b = (b, a)

pub stands_settled : {R : Type 0} (fits : List ℕ → Bool) (q : Pairing R) (o p : Option Image) → PairStands fits q o p → IfSome o IsSettled × IfSome p IsSettled
stands_settled fits q o p stands = settled_both q.second o p
    (if_map (chosen q.second o p) (Stands fits q.journal) IsSettled stands.counting (λ i s. s.holds.settled))
    (if_map (chosen q.second p o) (IsAtRest q.other) IsSettled stands.other (λ i s. s.settled))

-- two disks that report where they did
both_tell : (o p x y : Option Image) → TellsAs o x → TellsAs p y → IfBoth o p (λ i j. IsSome x × IsSome y)
both_tell None p x y told other_told = tt
both_tell (Some i) None x y told other_told = tt
both_tell (Some i) (Some j) x y told other_told = (told, other_told)

-- an append and a checkpoint
module _ {D : Type 0} (view : D → DiskView) (a b a1 b1 a2 b2 : D) (fits : List ℕ → Bool) (packed : List (List ℕ)) (r : List (List ℕ)) (o p : Option Image)
    (first_past : ((t : ℕ) → t ≤ (view a1).moment → (view a2).image_at t ≡ (view a1).image_at t)) (first_later : (view a1).moment ≤ (view a2).moment)
    (second_past : ((t : ℕ) → t ≤ (view b1).moment → (view b2).image_at t ≡ (view b1).image_at t)) (second_later : (view b1).moment ≤ (view b2).moment)
    (rest : IfSome (image_now (view a1)) IsSettled × IfSome (image_now (view b1)) IsSettled)
    (told : TellsAs o (image_now (view a1))) (other_told : TellsAs p (image_now (view b1)))
    (after : IfBoth o p (λ i j. PairLeavesBetween (view a1).image_at (view a1).moment (view a1).moment (view b1).image_at (view b1).moment (view b1).moment
    (HaveRecords fits (pair_records_of fits i.bytes j.bytes ++ r)))) where
  pub both_any : (second : Bool) → chosen second b1 a1 ≡ chosen second b a → chosen second a2 b2 ≡ chosen second a1 b1
      → IfBoth o p (λ i j. PairLeavesBetween (view a1).image_at (view a).moment (view a1).moment (view b1).image_at (view b).moment (view b1).moment
      (HaveEither fits (pair_records_of fits i.bytes j.bytes) (pair_records_of fits i.bytes j.bytes ++ r)))
      → IfBoth (image_now (view a1)) (image_now (view b1))
      (λ i j. PairLeavesBetween (view a2).image_at (view a1).moment (view a2).moment (view b2).image_at (view b1).moment (view b2).moment
      (HaveEither fits (pair_records_of fits i.bytes j.bytes) packed))
      → IfBoth o p (λ i j. PairLeavesBetweenInTurn second (view a2).image_at (view a).moment (view a2).moment (view b2).image_at (view b).moment
      (view b2).moment (HaveOneOf fits (pair_records_of fits i.bytes j.bytes) (pair_records_of fits i.bytes j.bytes ++ r) packed))
  both_any second other counting before past = both_two o p before (both_tell o p (image_now (view a1)) (image_now (view b1)) told other_told) after
    where
      both_two : (x y : Option Image)
          → IfBoth x y (λ i j. PairLeavesBetween (view a1).image_at (view a).moment (view a1).moment (view b1).image_at (view b).moment (view b1).moment
          (HaveEither fits (pair_records_of fits i.bytes j.bytes) (pair_records_of fits i.bytes j.bytes ++ r)))
          → IfBoth x y (λ i j. IsSome (image_now (view a1)) × IsSome (image_now (view b1)))
          → IfBoth x y (λ i j. PairLeavesBetween (view a1).image_at (view a1).moment (view a1).moment (view b1).image_at (view b1).moment (view b1).moment
          (HaveRecords fits (pair_records_of fits i.bytes j.bytes ++ r)))
          → IfBoth x y (λ i j. PairLeavesBetweenInTurn second (view a2).image_at (view a).moment (view a2).moment (view b2).image_at (view b).moment
          (view b2).moment (HaveOneOf fits (pair_records_of fits i.bytes j.bytes) (pair_records_of fits i.bytes j.bytes ++ r) packed))
      both_two None y h t l = tt
      both_two (Some i) None h t l = tt
      both_two (Some i) (Some j) h t l =
          joined view a b a1 b1 a2 b2
          (HaveOneOf fits (pair_records_of fits i.bytes j.bytes)
          (pair_records_of fits i.bytes j.bytes ++ r) packed) first_past first_later second_past second_later second other counting
          (pair_map (view a1).image_at (view b1).image_at (view a).moment (view a1).moment (view b).moment (view b1).moment
          (HaveEither fits (pair_records_of fits i.bytes j.bytes) (pair_records_of fits i.bytes j.bytes ++ r))
          (HaveOneOf fits (pair_records_of fits i.bytes j.bytes) (pair_records_of fits i.bytes j.bytes ++ r) packed)
          (either_one fits (pair_records_of fits i.bytes j.bytes) (pair_records_of fits i.bytes j.bytes ++ r) packed) h)
          (checkpoint_any fits (pair_records_of fits i.bytes j.bytes) packed r (view a1).image_at (view a2).image_at (view b1).image_at (view b2).image_at
          (view a1).moment (view a2).moment (view b1).moment (view b2).moment rest.0 rest.1 t.0 t.1 l past)

  pub both_after : IfBoth (image_now (view a1)) (image_now (view b1))
      (λ i j. PairLeavesBetween (view a2).image_at (view a2).moment (view a2).moment (view b2).image_at (view b2).moment (view b2).moment
      (HaveRecords fits packed))
      → IfBoth o p (λ i j. PairLeavesBetween (view a2).image_at (view a2).moment (view a2).moment (view b2).image_at (view b2).moment (view b2).moment
      (HaveEither fits (pair_records_of fits i.bytes j.bytes ++ r) packed))
  both_after past = both_two o p (both_tell o p (image_now (view a1)) (image_now (view b1)) told other_told) after
    where
      both_two : (x y : Option Image) → IfBoth x y (λ i j. IsSome (image_now (view a1)) × IsSome (image_now (view b1)))
          → IfBoth x y (λ i j. PairLeavesBetween (view a1).image_at (view a1).moment (view a1).moment (view b1).image_at (view b1).moment (view b1).moment
          (HaveRecords fits (pair_records_of fits i.bytes j.bytes ++ r)))
          → IfBoth x y (λ i j. PairLeavesBetween (view a2).image_at (view a2).moment (view a2).moment (view b2).image_at (view b2).moment (view b2).moment
          (HaveEither fits (pair_records_of fits i.bytes j.bytes ++ r) packed))
      both_two None y t l = tt
      both_two (Some i) None t l = tt
      both_two (Some i) (Some j) t l =
          checkpoint_after fits (pair_records_of fits i.bytes j.bytes) packed r (view a1).image_at (view a2).image_at (view b1).image_at (view b2).image_at
          (view a1).moment (view a2).moment (view b1).moment (view b2).moment rest.0 rest.1 t.0 t.1 l past

  -- and where the checkpoint failed
  pub both_last : IfBoth (image_now (view a1)) (image_now (view b1))
      (λ i j. PairLeavesBetween (view a2).image_at (view a1).moment (view a2).moment (view b2).image_at (view b1).moment (view b2).moment
      (HaveEither fits (pair_records_of fits i.bytes j.bytes) packed))
      → IfBoth o p (λ i j. PairLeavesBetween (view a2).image_at (view a2).moment (view a2).moment (view b2).image_at (view b2).moment (view b2).moment
      (HaveEither fits (pair_records_of fits i.bytes j.bytes ++ r) packed))
  both_last past = both_two o p (both_tell o p (image_now (view a1)) (image_now (view b1)) told other_told) after
    where
      both_two : (x y : Option Image) → IfBoth x y (λ i j. IsSome (image_now (view a1)) × IsSome (image_now (view b1)))
          → IfBoth x y (λ i j. PairLeavesBetween (view a1).image_at (view a1).moment (view a1).moment (view b1).image_at (view b1).moment (view b1).moment
          (HaveRecords fits (pair_records_of fits i.bytes j.bytes ++ r)))
          → IfBoth x y (λ i j. PairLeavesBetween (view a2).image_at (view a2).moment (view a2).moment (view b2).image_at (view b2).moment (view b2).moment
          (HaveEither fits (pair_records_of fits i.bytes j.bytes ++ r) packed))
      both_two None y t l = tt
      both_two (Some i) None t l = tt
      both_two (Some i) (Some j) t l =
          checkpoint_last fits (pair_records_of fits i.bytes j.bytes) packed r (view a1).image_at (view a2).image_at (view b1).image_at (view b2).image_at
          (view a1).moment (view a2).moment (view b1).moment (view b2).moment rest.0 rest.1 t.0 t.1 l first_later second_later past

-- calls that all succeeded, on a disk that stays
pub all_calls : {D : Type 0} (view : D → DiskView) (x y : D) (most : ℕ) (start : DiskView) (f : ℕ → Image → Image) (ok failed : Type 0) → y ≡ x → ok
    → ByCalls most start (view x) f ok failed → ByCalls most start (view y) f ⊤ ⊥
all_calls view x y most start f ok failed same is_ok h = subst (λ (d : _). ByCalls most start (view d) f ⊤ ⊥) (sym same) (record {
  calls = h.calls;
  at_most = h.at_most;
  stands = h.stands;
  last = h.last;
  passed = h.passed;
  still = h.still;
  named = λ none. absurd none;
  whole = λ all. h.whole is_ok;
  fewer = λ none. absurd none;
})
