-- The processes of a run are made one after another.
use Rattle.std.{specs.Prelude.{IsTrue, slice_get}, proofs.Common.{◌≡◌, ◌≢◌, ◌⊎◌, inl, inr, ℕ, zero, suc, ◌+◌, ◌<◌, ◌≤◌, List, [], ◌∷◌, ◌++◌, length}}
use Rattle.std.proofs.{Common.{length-append, Some, refl, sym, ◌∙◌, ap, subst, arith}, lemmas.Bool.cases_lt}
use Rattle.spl_edge.specs.{Devices.{Onward, Rose, Picked, DiskView, PairView, image_now}, declared.disk.Armed.Armed}
use Rattle.spl_acceptor.{specs.{Worlds.{first_paxos_world, has_name}, declared.{group.Group.Group, message.Name.Name}}, proofs.Logs.onward_join}
use Rattle.spl_paxos_safety.proofs.AcceptorRows.{same_number}
use Rattle.spl_paxos_run.specs.{Places.{process_count, process_place, name_at, EachDisk}, Seats.SeatStands, Wholes.{AreSeated, ArePicks, ProcessHasPicked}}
use Rattle.spl_paxos_run.specs.{Wholes.{HasFailedAt, HoldsAfter, ChangesFirst, AreSpared, AreFresh, AreProcessesUnmade}, declared.fault.PaxosFault.PaxosFault}
use Rattle.spl_paxos_run.{specs.declared.{fault.PaxosFault.TheVariants.Disk, seat.Seat.Seat}, proofs.{Lifting.{same_item, get_below}, Placing.place_name}}
use Rattle.spl_paxos_run.proofs.{Placing.named_at, Seated.{get_at, seat_holds}}
use Rattle.spl_node.specs.Benches.{last_count}

-- the processes of the first so many places are made
pub record AreBegun (g : Group) (place : ℕ) (seats : List Seat) (old now : List PairView) : Type 0 where
  pub as_many : length seats ≡ place
  pub room : length now ≡ length old
  pub names : (k : ℕ) (s : Seat) → slice_get seats k ≡ Some s → s.name ≡ name_at g k
  pub each : (k : ℕ) (s : Seat) (p : PairView) → slice_get seats k ≡ Some s → slice_get now k ≡ Some p
      → SeatStands g (first_paxos_world g) s (image_now p.first)
  pub past : (k : ℕ) → place ≤ k → slice_get now k ≡ slice_get old k
  pub second : (k : ℕ) (p q : PairView) → slice_get old k ≡ Some p → slice_get now k ≡ Some q → q.second ≡ p.second
  pub onward : (k : ℕ) (p q : PairView) → slice_get old k ≡ Some p → slice_get now k ≡ Some q → Onward p.first q.first

onward_still : (x : DiskView) → Onward x x
onward_still x = record { past = λ t h. refl; later = omega arith; no_less = omega arith; armed = refl; picks = refl }

pub begun_none : (g : Group) (seats : List Seat) (old : List PairView) → seats ≡ [] → AreBegun g 0 seats old old
begun_none g seats old none = record {
  as_many = ap length none;
  room = refl;
  names = λ k s at. (let e : slice_get [] k ≡ Some s = subst (λ (l : List Seat). slice_get l k ≡ Some s) none at in empty k s e);
  each = λ k s p at there. (let e : slice_get [] k ≡ Some s = subst (λ (l : List Seat). slice_get l k ≡ Some s) none at in empty_each k s p e);
  past = λ k h. refl;
  second = λ k p q at there. ap (λ (z : PairView). z.second) (sym (same_item old k p q at there));
  onward = λ k p q at there. subst (λ (z : PairView). Onward p.first z.first) (same_item old k p q at there) (onward_still p.first);
}
  where
    empty : (k : ℕ) (s : Seat) → slice_get [] k ≡ Some s → s.name ≡ name_at g k
    empty k s e = cc

    empty_each : (k : ℕ) (s : Seat) (p : PairView) → slice_get [] k ≡ Some s → SeatStands g (first_paxos_world g) s (image_now p.first)
    empty_each k s p e = absurd cc

-- nothing was picked of disks that went on
pub picked_since : (g : Group) (old now : List PairView) → AreFresh g old
    → ((i : ℕ) (a b : PairView) → slice_get old i ≡ Some a → slice_get now i ≡ Some b → Onward a.first b.first) → EachDisk (ProcessHasPicked g []) g old now
picked_since g old now fresh on k a b low at there =
    let gone = on k a b at there in
    let start = fresh k a low at in
    let none : b.first.picks ≡ [] = gone.picks ∙ start.unpicked in
    let less : a.first.faults ≤ b.first.faults = gone.no_less in
    let count : last_count a.first.faults b.first.picks ≡ a.first.faults = ap (last_count a.first.faults) none in
    record {
      picks = subst (λ (l : List Picked). ArePicks g (name_at g k) [] l) (sym none) tt;
      unarmed = ap (λ (z : Armed). z.arming) gone.armed ∙ start.unarmed;
      later = omega (arith, count, less);
      no_less = less;
    }

push_cases : {A : Type 0} (xs : List A) (x y : A) (i : ℕ) → slice_get (xs ++ x ∷ []) i ≡ Some y → (slice_get xs i ≡ Some y) ⊎ ((i ≡ length xs) × (x ≡ y))
push_cases [] x y zero e = inr (refl, (let same : x ≡ y = cc in same))
push_cases [] x y (suc i) e = cc
push_cases (z ∷ zs) x y zero e = inl e
push_cases (z ∷ zs) x y (suc i) e = by (push_cases zs x y i e)
  where
    by : (slice_get zs i ≡ Some y) ⊎ ((i ≡ length zs) × (x ≡ y)) → (slice_get (z ∷ zs) (suc i) ≡ Some y) ⊎ ((suc i ≡ length (z ∷ zs)) × (x ≡ y))
    by (inl h) = inl h
    by (inr h) = inr (ap suc h.0, h.1)

module _ (g : Group) (k : ℕ) (seats : List Seat) (old mid now : List PairView) (begun : AreBegun g k seats old mid) (p q : PairView)
    (before : slice_get mid k ≡ Some p) (after : slice_get now k ≡ Some q)
    (changes : ChangesFirst k mid now) (on : Onward p.first q.first) where
  later : (i : ℕ) (a b : PairView) → slice_get old i ≡ Some a → slice_get now i ≡ Some b → Onward a.first b.first × (b.second ≡ a.second)
  later i a b at there = by (same_number i k)
    where
      by : (i ≡ k) ⊎ (i ≢ k) → Onward a.first b.first × (b.second ≡ a.second)
      by (inl is) =
          let mids : slice_get mid i ≡ Some p = ap (slice_get mid) is ∙ before in
          let last : b ≡ q = same_item now i b q there (ap (slice_get now) is ∙ after) in (
            subst (λ (z : PairView). Onward a.first z.first) (sym last) (onward_join a.first p.first q.first (begun.onward i a p at mids) on),
            ap (λ (z : PairView). z.second) last ∙ changes.second p q before after ∙ begun.second i a p at mids,
          )
      by (inr off) =
          let mids : slice_get mid i ≡ Some b = sym (changes.others i off) ∙ there in
          (begun.onward i a b at mids, begun.second i a b at mids)

  -- one process more
  pub begun_more : (s : Seat) → k < process_count g → s.name ≡ name_at g k → SeatStands g (first_paxos_world g) s (image_now q.first)
      → AreBegun g (k + 1) (seats ++ s ∷ []) old now
  begun_more s below name stands = record {
    as_many = omega (arith, begun.as_many, length-append seats (s ∷ []));
    room = changes.as_many ∙ begun.room;
    names = names;
    each = each;
    past = λ i h. changes.others i (λ is. (let none : ⊥ = omega (arith, is, h) in none)) ∙ begun.past i (omega (arith, h));
    second = λ i a b at there. (later i a b at there).1;
    onward = λ i a b at there. (later i a b at there).0;
  }
    where
      names : (i : ℕ) (z : Seat) → slice_get (seats ++ s ∷ []) i ≡ Some z → z.name ≡ name_at g i
      names i z at = by (push_cases seats s z i at)
        where
          by : (slice_get seats i ≡ Some z) ⊎ ((i ≡ length seats) × (s ≡ z)) → z.name ≡ name_at g i
          by (inl h) = begun.names i z h
          by (inr h) = ap (λ (t : Seat). t.name) (sym h.1) ∙ name ∙ ap (name_at g) (sym (h.0 ∙ begun.as_many))

      each : (i : ℕ) (z : Seat) (b : PairView) → slice_get (seats ++ s ∷ []) i ≡ Some z → slice_get now i ≡ Some b
          → SeatStands g (first_paxos_world g) z (image_now b.first)
      each i z b at there = by (push_cases seats s z i at)
        where
          by : (slice_get seats i ≡ Some z) ⊎ ((i ≡ length seats) × (s ≡ z)) → SeatStands g (first_paxos_world g) z (image_now b.first)
          by (inl h) =
              let low : i < length seats = get_below seats i z h in
              let off : i ≢ k = λ is. (let none : ⊥ = omega (arith, low, is, begun.as_many) in none) in
              begun.each i z b h (sym (changes.others i off) ∙ there)
          by (inr h) =
              let is : i ≡ k = h.0 ∙ begun.as_many in
              let last : q ≡ b = same_item now k q b after (ap (slice_get now) (sym is) ∙ there) in
              subst (λ (t : Seat). SeatStands g (first_paxos_world g) t (image_now b.first)) h.1
              (subst (λ (t : PairView). SeatStands g (first_paxos_world g) s (image_now t.first)) last stands)

  -- or an error there
  module _ (fresh : AreFresh g old) (below : k < process_count g) where
    pub unmade_at : (f : PaxosFault) → ((n : Name) → f ≡ Disk n → (n ≡ name_at g k) × Rose p.first.faults q.first.faults) → AreProcessesUnmade g f old now
    unmade_at f failed = record {
      one = name_at g k;
      failed = λ n is. ((failed n is).0, fails n is);
      others = others;
      picked = picked_since g old now fresh (λ i a b at there. (later i a b at there).0);
    }
      where
        fails : (n : Name) → f ≡ Disk n → HasFailedAt g n old now
        fails n is =
            let same : n ≡ name_at g k = (failed n is).0 in
            record {
              named = subst (λ (m : Name). IsTrue (has_name g m)) (sym same) (named_at g k below);
              failed = λ a b at there. rises a b (subst (λ (i : ℕ). slice_get old i ≡ Some a) (ap (process_place g) same ∙ place_name g k below) at)
                  (subst (λ (i : ℕ). slice_get now i ≡ Some b) (ap (process_place g) same ∙ place_name g k below) there) (failed n is).1;
            }
          where
            rises : (a b : PairView) → slice_get old k ≡ Some a → slice_get now k ≡ Some b → Rose p.first.faults q.first.faults
                → last_count a.first.faults b.first.picks < b.first.faults
            rises a b at there rose =
                let last : b ≡ q = same_item now k b q there after in
                let none : b.first.picks ≡ [] = (later k a b at there).0.picks ∙ (fresh k a below at).unpicked in
                let low : a.first.faults ≤ p.first.faults = (begun.onward k a p at before).no_less in
                let count : last_count a.first.faults b.first.picks ≡ a.first.faults = ap (last_count a.first.faults) none in
                let high : q.first.faults ≡ b.first.faults = ap (λ (z : PairView). z.first.faults) (sym last) in
                omega (arith, rose, low, count, high)

        others : EachDisk (λ n s d. (n ≡ name_at g k → ⊥) → (image_now d ≡ image_now s) ⊎ HoldsAfter g [] n d) g old now
        others i a b low at there other = by (same_number i k)
          where
            mids : i ≢ k → slice_get mid i ≡ Some b
            mids off = sym (changes.others i off) ∙ there

            made : i ≢ k → (i < k) ⊎ (k ≤ i) → (image_now b.first ≡ image_now a.first) ⊎ HoldsAfter g [] (name_at g i) b.first
            made off (inl less) =
                let seat = get_at seats i (omega (arith, less, begun.as_many)) in
                inr (subst (λ (n : Name). HoldsAfter g [] n b.first) (begun.names i seat.0 seat.1)
                (seat_holds g (first_paxos_world g) seat.0.name seat.0.process (image_now b.first) (begun.each i seat.0 b seat.1 (mids off))))
            made off (inr more) = inl (ap (λ (z : PairView). image_now z.first) (same_item old i b a (sym (begun.past i more) ∙ mids off) at))

            by : (i ≡ k) ⊎ (i ≢ k) → (image_now b.first ≡ image_now a.first) ⊎ HoldsAfter g [] (name_at g i) b.first
            by (inl is) = absurd (other (ap (name_at g) is))
            by (inr off) = made off (cases_lt i k)

-- all are made
pub begun_all : (g : Group) (place : ℕ) (seats : List Seat) (old now : List PairView) → AreBegun g place seats old now → place ≡ process_count g
    → process_count g ≤ length old → AreSeated g (first_paxos_world g) seats now
begun_all g place seats old now begun whole room = record {
  as_many = begun.as_many ∙ whole;
  room = omega (arith, room, begun.room);
  names = begun.names;
  each = begun.each;
}

pub begun_spared : (g : Group) (place : ℕ) (seats : List Seat) (old now : List PairView) → AreBegun g place seats old now → place ≤ process_count g
    → AreSpared g old now
begun_spared g place seats old now begun few = record {
  as_many = begun.room;
  others = λ i h. begun.past i (omega (arith, few, h));
  second = begun.second;
}

-- second disks, and pairs that no process has, stay where an error came
pub spared_at : (g : Group) (k : ℕ) (seats : List Seat) (old mid now : List PairView) (begun : AreBegun g k seats old mid) (p q : PairView)
    → slice_get mid k ≡ Some p → slice_get now k ≡ Some q → ChangesFirst k mid now → Onward p.first q.first → k < process_count g → AreSpared g old now
spared_at g k seats old mid now begun p q before after changes on below = record {
  as_many = changes.as_many ∙ begun.room;
  others = λ i h. changes.others i (λ is. (let none : ⊥ = omega (arith, is, h, below) in none)) ∙ begun.past i (omega (arith, h, below));
  second = λ i a b at there. (later g k seats old mid now begun p q before after changes on i a b at there).1;
}
