-- What a calm has left, one turn less.
use Rattle.std.{specs.Vec.vec_len, proofs.{Math.Path.fun_ext, lemmas.List.drop_more}}
use Rattle.spl_agree.proofs.Tests.{and_right}
use Rattle.spl_circuit.specs.Same.{node_is}
use Rattle.spl_circuit_world.specs.Calm.{takes}
use Rattle.spl_world.specs.{Calms.{AreRows, IsSquare, IsTakenWithin, Tracks, sender_counts, sent_count}, Cursor.{CalmFollows, CalmGoesOn, HasMessagesLeft}}
use Rattle.spl_world.specs.Cursor.{IsStep, IsCalmStill, IsMessageWaiting, LeadsOn, CalmRests, SkipsPairs, SkipsTo, cursor_of, calm_ended, turns_from}
use Rattle.spl_world.{specs.declared.calm.{Calm.Calm, Turn.Turn}, proofs.{Calms.{ticks_at, step_keeps}, Common.{◌≡◌, ◌⊎◌, inl, inr, ℕ, zero, suc, ◌+◌, ◌-◌}}}
use Rattle.spl_world.proofs.Common.{◌<◌, ◌≤◌, Bool, true, false, ◌&&◌, ◌||◌, List, [], ◌∷◌, ◌++◌, length, drop, Option, Some, None, slice_get, slice_set}
use Rattle.spl_world.proofs.Common.{get_or, refl, sym, ap, subst, ◌∙◌, arith, drop_all, Vec, sum, if◌then◌else◌, bytes_eq, and_left, bool_cases, if_holds}
use Rattle.spl_world.proofs.Common.{bytes_same, NodeId, CircuitId, has_node, ascends, Calming, calming_step, open_nodes, ticks, delivers, pair_turn, to_all}
use Rattle.spl_world.proofs.Common.{from_all, passes, Occurrence, CircuitWorld, Steps, step_world, Cell, is_open_cell, Message, get_or_from_slice_get}
use Rattle.spl_world.proofs.{Common.{slice_get_within, slice_get_read}, Reading.no_messages, Slots.{apart, below_after, differ_back, plus_one, tail_ascends}}
use Rattle.spl_world.proofs.{Slots.{turned, both_off}, Turns.{all_still, grows, one_more, rows_meet, still_same, still_then, turn_still, within_step, row_at}}
use Rattle.spl_world.proofs.Turns.{row_same, row_set, rows_same, turn_none}
use Rattle.spl_node.proofs.Positions.{each_set}
use Rattle.spl_sched.specs.declared.line.Step.TheVariants as step
use Rattle.spl_wire.specs.declared.event.Event.TheVariants as event

-- ---- lists from an index on

pub drop_one : {X : Type 0} (xs : List X) (i : ℕ) (x : X) → slice_get xs i ≡ Some x → drop i xs ≡ x ∷ drop (i + 1) xs
drop_one xs i x e = drop_more xs i x (slice_get_within xs i x e) ∙ ap (λ y. y ∷ drop (i + 1) xs) (get_or_from_slice_get xs i x x e)

none_off : (p : NodeId) (ns : List NodeId) → ((j : ℕ) (b : NodeId) → slice_get ns j ≡ Some b → bytes_eq b p ≡ false) → has_node ns p ≡ false
none_off p [] h = refl
none_off p (n ∷ ns) h = rw (h 0 n refl) (none_off p ns (λ j b e. h (suc j) b e))

-- a node isn't among those after it
pub not_after : (ns : List NodeId) (i : ℕ) (n : NodeId) → ascends ns ≡ true → slice_get ns i ≡ Some n → has_node (drop (i + 1) ns) n ≡ false
not_after [] i n up e = absurd cc
not_after (m ∷ ms) zero n up e = let same : m ≡ n = cc in subst (λ (k : NodeId). has_node ms k ≡ false) same (none_off m ms (λ j b at. differ_back m b (below_after m ms j b up at)))
not_after (m ∷ ms) (suc i) n up e = ap (λ (k : ℕ). has_node (drop k (m ∷ ms)) n) (next i) ∙ not_after ms i n (tail_ascends m ms up) e
  where
    next : (j : ℕ) → suc j + 1 ≡ suc (j + 1)
    next j = omega arith

-- ---- from pair to pair

-- all of a sender's turns, and then those of the others
pub all_turns : (c : CircuitId) (z : Calming) (all ns : List NodeId) → turns_from c z all ns all ≡ from_all c z all ns
all_turns c z all [] = refl
all_turns c z all (a ∷ ns) = refl

-- after all ticks and turns the next pass begins
pub begins_pass : (c : CircuitId) (ids : List NodeId) (z : Calming) (k slot from : ℕ) (bs : List NodeId) → length ids ≤ slot → length ids ≤ from
    → passes c ids k (turns_from c (ticks c z (open_nodes z.world (drop 0 ids))) ids (drop 0 ids) (drop 0 ids))
    ≡ passes c ids (k + 1) (turns_from c (ticks c z (open_nodes z.world (drop slot ids))) ids (drop from ids) bs)
begins_pass c ids z k slot from bs f g =
    ap (λ (y : Calming). passes c ids k y) (all_turns c (ticks c z (open_nodes z.world ids)) ids ids)
    ∙ ap (λ (n : ℕ). passes c ids n z) (sym (plus_one k))
    ∙ ap (λ (y : Calming). passes c ids (k + 1) y) (sym (ap (λ (ns : List NodeId). turns_from c (ticks c z (open_nodes z.world ns)) ids (drop from ids) bs) (drop_all slot ids f) ∙ ap (λ (ns : List NodeId). turns_from c z ids ns bs) (drop_all from ids g)))

-- ---- a tick

open_off : (c : CircuitId) (z : Calming) (n : NodeId) (ns : List NodeId) → has_node ns n ≡ false → open_nodes (step_world z.world (step.At n c event.Tick)) ns ≡ open_nodes z.world ns
open_off c z n [] h = refl
open_off c z n (m ∷ ms) h =
    let off = both_off (bytes_eq m n) (has_node ms n) h in
    let same : (step_world z.world (step.At n c event.Tick)).at m ≡ z.world.at m = ticks_at c z (n ∷ []) m (ap (λ (t : Bool). t || false) (turned n m ∙ off.0)) in
    ap (λ (k : Cell). if z.world.up m && is_open_cell k then m ∷ open_nodes (step_world z.world (step.At n c event.Tick)) ms
    else open_nodes (step_world z.world (step.At n c event.Tick)) ms) same
    ∙ ap (λ (ks : List NodeId). if z.world.up m && is_open_cell (z.world.at m) then m ∷ ks else ks) (open_off c z n ms off.1)

-- what is left of the ticks after one of them
pub tick_on : (c : CircuitId) (z : Calming) (ids : List NodeId) (first i : ℕ) (n : NodeId) → ascends ids ≡ true → slice_get ids i ≡ Some n
    → open_nodes z.world (drop first ids) ≡ n ∷ open_nodes z.world (drop (i + 1) ids)
    → ticks c (calming_step z (step.At n c event.Tick)) (open_nodes (step_world z.world (step.At n c event.Tick)) (drop (i + 1) ids)) ≡ ticks c z (open_nodes z.world (drop first ids))
tick_on c z ids first i n up at e =
    ap (ticks c (calming_step z (step.At n c event.Tick))) (open_off c z n (drop (i + 1) ids) (not_after ids i n up at))
    ∙ sym (ap (ticks c z) e)

-- a node with no tick, and one with a tick
pub closed_on : (w : CircuitWorld) (ids : List NodeId) (i : ℕ) (n : NodeId) → slice_get ids i ≡ Some n → (w.up n && is_open_cell (w.at n)) ≡ false
    → open_nodes w (drop i ids) ≡ open_nodes w (drop (i + 1) ids)
closed_on w ids i n at h = ap (open_nodes w) (drop_one ids i n at) ∙ rw h refl

pub opened_on : (w : CircuitWorld) (ids : List NodeId) (i : ℕ) (n : NodeId) → slice_get ids i ≡ Some n → (w.up n && is_open_cell (w.at n)) ≡ true
    → open_nodes w (drop i ids) ≡ n ∷ open_nodes w (drop (i + 1) ids)
opened_on w ids i n at h = ap (open_nodes w) (drop_one ids i n at) ∙ rw h refl

-- ---- a delivery

-- what needs no delivery any more doesn't change deliveries
delivers_takes : (c : CircuitId) (z : Calming) (a b x y : NodeId) (n first k : ℕ) → delivers c (takes z x y n) a b first k ≡ takes (delivers c z a b first k) x y n
delivers_takes c z a b x y n first zero = refl
delivers_takes c z a b x y n first (suc k) = delivers_takes c (calming_step z (step.Deliver a b c first)) a b x y n (first + 1) k

twice : (t : Bool) (i j k : ℕ) → (if t then j else (if t then i else k)) ≡ (if t then j else k)
twice true i j k = refl
twice false i j k = refl

takes_twice : (z : Calming) (a b : NodeId) (i j : ℕ) → takes (takes z a b i) a b j ≡ takes z a b j
takes_twice z a b i j = ap (λ (t : NodeId → NodeId → ℕ). record { world = z.world; taken = t; happened = z.happened }) (fun_ext (λ x. fun_ext (λ y. twice (bytes_eq x a && bytes_eq y b) i j (z.taken x y))))

at_least_itself : (n : ℕ) → n ≤ n
at_least_itself n = omega arith

below_next : (n : ℕ) → n ≤ n + 1
below_next n = omega arith

less_left : (sent before left taken now : ℕ) → sent ≡ before → before ≤ left + taken → taken + 1 ≤ now → sent ≤ (left - 1) + now
less_left sent before left taken now e h more = omega (arith, e, h, more)

-- a calm after one delivery more on a pair
abbrev pub given : CircuitId → Calming → NodeId → NodeId → ℕ → Calming
given c z a b k = takes (calming_step z (step.Deliver a b c (k + 1))) a b (k + 1)

none_less : (k : ℕ) → k < 0 → ⊥
none_less k h = omega (arith, h)

one_less : (all k : ℕ) → k < all → all - k ≡ suc (all - (k + 1))
one_less all k h = omega (arith, h)

-- a pair on which a message waits has two nodes
pub waiting_apart : (z : Calming) (a b : NodeId) → z.taken a b < sent_count z.world a b → bytes_eq a b ≡ false
waiting_apart z a b waits = elim (bool_cases (bytes_eq a b)) [
  | inl q ↦ absurd (none_less (z.taken a b) (subst (λ (ms : List Message). z.taken a b < length ms) (no_messages z.world a b q) waits))
  | inr q ↦ q
]

module _ (c : CircuitId) (z : Calming) (a b : NodeId) (k : ℕ) (up : z.world.up b ≡ true) (taken : z.taken a b ≡ k) (waits : k < sent_count z.world a b) where
  not_same : bytes_eq b a ≡ false
  not_same = turned b a ∙ waiting_apart z a b (subst (λ (t : ℕ). t < sent_count z.world a b) (sym taken) waits)

  own_taken : (given c z a b k).taken a b ≡ k + 1
  own_taken = rw (bytes_same a, bytes_same b) refl

  abbrev one : Calming
  one = calming_step z (step.Deliver a b c (k + 1))

  abbrev all : ℕ
  all = sent_count z.world a b

  abbrev turn_of : Calming → ℕ → ℕ → Calming
  turn_of y t n = takes (delivers c y a b (t + 1) (n - t)) a b n

  before : pair_turn c z a b ≡ turn_of z k all
  before = ap (λ (u : Bool). if u then turn_of z (z.taken a b) all else z) up ∙ ap (λ (t : ℕ). turn_of z t all) taken

  after : pair_turn c (given c z a b k) a b ≡ turn_of (given c z a b k) (k + 1) all
  after =
      ap (λ (u : Bool). if u then turn_of (given c z a b k) ((given c z a b k).taken a b) (sent_count one.world a b) else given c z a b k) up
      ∙ ap (λ (t : ℕ). turn_of (given c z a b k) t (sent_count one.world a b)) own_taken
      ∙ ap (λ (ms : List Message). turn_of (given c z a b k) (k + 1) (length ms)) (step_keeps c a z.world b b (k + 1) not_same)

  -- the rest of the pair's turn is what was left of it but this delivery
  pub turn_on : pair_turn c (given c z a b k) a b ≡ pair_turn c z a b
  turn_on =
      after
      ∙ ap (λ (y : Calming). takes y a b all) (delivers_takes c one a b a b (k + 1) ((k + 1) + 1) (all - (k + 1)))
      ∙ takes_twice (delivers c one a b ((k + 1) + 1) (all - (k + 1))) a b (k + 1) all
      ∙ sym (before ∙ ap (λ (n : ℕ). takes (delivers c z a b (k + 1) n) a b all) (one_less all k waits))

  pub given_within : IsTakenWithin z → IsTakenWithin (given c z a b k)
  given_within h x y = if_holds (λ (n : ℕ). n ≤ sent_count one.world x y) (bytes_eq x a && bytes_eq y b) _ _
      (λ q. let e : x ≡ a = node_is x a (and_left (bytes_eq x a) (bytes_eq y b) q) in let f : y ≡ b = node_is y b (and_right (bytes_eq x a) (bytes_eq y b) q) in
      subst (λ (n : NodeId). k + 1 ≤ sent_count one.world n y) (sym e) (subst (λ (n : NodeId). k + 1 ≤ sent_count one.world a n) (sym f) below))
      (λ q. within_step z (step.Deliver a b c (k + 1)) h x y)
    where
      below : k + 1 ≤ sent_count one.world a b
      below = let more : sent_count z.world a b ≤ sent_count one.world a b = grows z.world (step.Deliver a b c (k + 1)) a b in omega (arith, more, waits)

  given_keeps : (y : NodeId) → bytes_eq y b ≡ false → (given c z a b k).taken a y ≡ z.taken a y
  given_keeps y off = let none : (bytes_eq a a && bytes_eq y b) ≡ false = rw (bytes_same a) off in ap (λ (t : Bool). if t then k + 1 else z.taken a y) none

  given_spares : (x y : NodeId) → bytes_eq x a ≡ false → (given c z a b k).taken x y ≡ z.taken x y
  given_spares x y off = ap (λ (t : Bool). if t && bytes_eq y b then k + 1 else z.taken x y) off

  -- the sender has one less left
  pub given_left : (ids : List NodeId) (j left : ℕ) → slice_get ids j ≡ Some b → HasMessagesLeft left ids z a → HasMessagesLeft (left - 1) ids (given c z a b k) a
  given_left ids j left to h =
      let sent : sender_counts (sent_count one.world) a ids ≡ sender_counts (sent_count z.world) a ids =
      row_same (sent_count one.world) (sent_count z.world) a ids (λ y. ap length (step_keeps c a z.world b y (k + 1) not_same)) in
      let more : sum (sender_counts z.taken a ids) + 1 ≤ sum (sender_counts (given c z a b k).taken a ids) = one_more z.taken (given c z a b k).taken a ids j b to (subst (λ (n : ℕ). n + 1 ≤ (given c z a b k).taken a b) (sym taken) (subst (λ (n : ℕ). k + 1 ≤ n) (sym own_taken) (at_least_itself (k + 1)))) grown in
      less_left (sum (sender_counts (sent_count one.world) a ids)) (sum (sender_counts (sent_count z.world) a ids)) left
      (sum (sender_counts z.taken a ids)) (sum (sender_counts (given c z a b k).taken a ids)) (ap (λ (ns : List ℕ). sum ns) sent) h more
    where
      grown : (y : NodeId) → z.taken a y ≤ (given c z a b k).taken a y
      grown y = elim (bool_cases (bytes_eq y b)) [
        | inl q ↦ subst (λ (n : NodeId). z.taken a n ≤ (given c z a b k).taken a n) (sym (node_is y b q))
            (subst (λ (n : ℕ). n ≤ (given c z a b k).taken a b) (sym taken) (subst (λ (n : ℕ). k ≤ n) (sym own_taken) (below_next k)))
        | inr q ↦ subst (λ (n : ℕ). z.taken a y ≤ n) (sym (given_keeps y q)) (at_least_itself (z.taken a y))
      ]

  -- the rows with one more
  pub given_rows : (ids : List NodeId) (rows : List (Vec ℕ)) (i j : ℕ) (r s : Vec ℕ) → ascends ids ≡ true → slice_get ids i ≡ Some a
      → slice_get ids j ≡ Some b → slice_get rows i ≡ Some r → s.items ≡ slice_set r.items j (k + 1)
      → AreRows z.taken ids rows → AreRows (given c z a b k).taken ids (slice_set rows i s)
  given_rows ids rows i j r s ordered at to there set h l x q xs e =
      each_set (λ (m : ℕ) (v : Vec ℕ). (y : NodeId) → slice_get ids m ≡ Some y → v.items ≡ sender_counts (given c z a b k).taken y ids) rows i s
      (λ y ys.
      let same : Some a ≡ Some y = sym at ∙ ys in
      let here : a ≡ y = cc in
      set ∙ ap (λ (ns : List ℕ). slice_set ns j (k + 1)) (h i a r at there)
      ∙ row_set z.taken (given c z a b k).taken a ids j b (k + 1) ordered to (sym own_taken) given_keeps
      ∙ ap (λ (m : NodeId). sender_counts (given c z a b k).taken m ids) here)
      (λ m v off f y ys. h m y v ys f ∙ row_same z.taken (given c z a b k).taken y ids (λ b. sym (given_spares y b (apart ids i m a y ordered at ys off)))) l q e x xs

-- ---- the search

-- a recipient to whom nothing goes now
pub skip_one : (c : CircuitId) (z : Calming) (a b : NodeId) (ids : List NodeId) (i first : ℕ) → slice_get ids i ≡ Some b → (z.world.up b ≡ true → sent_count z.world a b ≡ z.taken a b)
    → SkipsTo (Some i) c ids z a first → SkipsTo (Some (i + 1)) c ids z a first
skip_one c z a b ids i first at none s = record {
  there = pair_turn c s.there a b;
  still = still_then z s.there (pair_turn c s.there a b) s.still (go (bool_cases (s.there.world.up b)));
  same = sym (ap (to_all c s.there a) (drop_one ids i b at)) ∙ s.same;
}
  where
    go : (s.there.world.up b ≡ true) ⊎ (s.there.world.up b ≡ false) → IsCalmStill s.there (pair_turn c s.there a b)
    go (inl q) = turn_still c s.there a b
        (ap (λ (w : CircuitWorld). sent_count w a b) s.still.world ∙ none (sym (ap (λ (w : CircuitWorld). w.up b) s.still.world) ∙ q) ∙ sym (s.still.taken a b))
    go (inr q) = subst (λ (y : Calming). IsCalmStill s.there y) (sym (turn_none c s.there a b q)) (still_same s.there)

pub skip_none : (c : CircuitId) (z : Calming) (a : NodeId) (ids : List NodeId) (i first : ℕ) → length ids ≤ i → SkipsTo (Some i) c ids z a first → SkipsTo None c ids z a first
skip_none c z a ids i first h s = record { there = s.there; still = s.still; same = sym (ap (to_all c s.there a) (drop_all i ids h)) ∙ s.same }

row_drop : (f : NodeId → NodeId → ℕ) (a : NodeId) (bs : List NodeId) (i : ℕ) → sender_counts f a (drop i bs) ≡ drop i (sender_counts f a bs)
row_drop f a bs zero = refl
row_drop f a [] (suc i) = refl
row_drop f a (b ∷ bs) (suc i) = row_drop f a bs i

none_left : (sent left taken : ℕ) → sent ≤ left + taken → left ≡ 0 → sent ≤ taken
none_left sent left taken h e = omega (arith, h, e)

-- what a sender has left, of what it sent and of the row of what is taken
pub left_by : (z : Calming) (a : NodeId) (ids : List NodeId) (total left : ℕ) (row : List ℕ) → row ≡ sender_counts z.taken a ids
    → sum (sender_counts (sent_count z.world) a ids) ≤ total → total ≤ left + sum row → HasMessagesLeft left ids z a
left_by z a ids total left row e most enough = subst (λ (ns : List ℕ). sum (sender_counts (sent_count z.world) a ids) ≤ left + sum ns) e (omega (arith, most, enough))

-- a sender of whom all is taken
pub skip_all : (c : CircuitId) (z : Calming) (a : NodeId) (ids : List NodeId) (first left : ℕ) → IsTakenWithin z → HasMessagesLeft left ids z a → left ≡ 0 → SkipsTo None c ids z a first
skip_all c z a ids first left within h nothing = record {
  there = to_all c z a (drop first ids);
  still = all_still c z a (drop first ids) (row_drop (sent_count z.world) a ids first ∙ ap (drop first) same ∙ sym (row_drop z.taken a ids first));
  same = refl;
}
  where
    same : sender_counts (sent_count z.world) a ids ≡ sender_counts z.taken a ids
    same = rows_meet z.taken (sent_count z.world) a ids (λ b. within a b) (none_left (sum (sender_counts (sent_count z.world) a ids)) left (sum (sender_counts z.taken a ids)) h nothing)

pub equal_taken : (taken sent : ℕ) → taken ≤ sent → sent ≤ taken → sent ≡ taken
equal_taken taken sent h k = omega (arith, h, k)

pub row_reads : (z : Calming) (ids : List NodeId) (rows : List (Vec ℕ)) (i j : ℕ) (a b : NodeId) (r : Vec ℕ) (x : ℕ) → Tracks z ids rows
    → slice_get ids i ≡ Some a → slice_get ids j ≡ Some b → slice_get rows i ≡ Some r → x ≡ get_or r.items j x → x ≡ z.taken a b
row_reads z ids rows i j a b r x h at to there e = e ∙ ap (λ (ns : List ℕ). get_or ns j x) (h.taken i a r at there) ∙ row_at z.taken a ids j b x to

pub skip_first : (c : CircuitId) (z : Calming) (a : NodeId) (ids : List NodeId) (first : ℕ) → SkipsTo (Some first) c ids z a first
skip_first c z a ids first = record { there = z; still = still_same z; same = refl }

-- ---- what stays where nothing happens

pub still_tracks : (z y : Calming) (ids : List NodeId) (rows : List (Vec ℕ)) → IsCalmStill z y → Tracks z ids rows → Tracks y ids rows
still_tracks z y ids rows s h = record {
  taken = rows_same z.taken y.taken ids rows (λ a b. sym (s.taken a b)) h.taken;
  within = λ a b. subst (λ (n : ℕ). n ≤ sent_count y.world a b) (sym (s.taken a b)) (subst (λ (w : CircuitWorld). z.taken a b ≤ sent_count w a b) (sym s.world) (h.within a b));
}

pub still_left : (z y : Calming) (ids : List NodeId) (a : NodeId) (left : ℕ) → IsCalmStill z y → HasMessagesLeft left ids z a → HasMessagesLeft left ids y a
still_left z y ids a left s h =
    subst (λ (ns : List ℕ). sum (sender_counts (sent_count y.world) a ids) ≤ left + sum ns) (row_same z.taken y.taken a ids (λ b. sym (s.taken a b)))
    (subst (λ (w : CircuitWorld). sum (sender_counts (sent_count w) a ids) ≤ left + sum (sender_counts z.taken a ids)) (sym s.world) h)

pub still_waits : (z y : Calming) (a b : NodeId) → IsCalmStill z y → IsMessageWaiting y a b → IsMessageWaiting z a b
still_waits z y a b s w = record {
  up = subst (λ (v : CircuitWorld). v.up b ≡ true) s.world w.up;
  less = subst (λ (n : ℕ). n < sent_count z.world a b) (s.taken a b) (subst (λ (v : CircuitWorld). y.taken a b < sent_count v a b) s.world w.less);
  room = subst (λ (n : ℕ). n + 1 < 18446744073709551616) (s.taken a b) w.room;
}

pub waits_still : (z y : Calming) (a b : NodeId) → IsCalmStill z y → IsMessageWaiting z a b → IsMessageWaiting y a b
waits_still z y a b s w = still_waits y z a b (record { world = sym s.world; happened = sym s.happened; taken = λ i j. sym (s.taken i j) }) w

-- ---- the search for a pair

turns_head : (c : CircuitId) (y : Calming) (ids bs : List NodeId) (i : ℕ) (a : NodeId) → slice_get ids i ≡ Some a
    → turns_from c y ids (drop i ids) bs ≡ from_all c (to_all c y a bs) ids (drop (i + 1) ids)
turns_head c y ids bs i a at = ap (λ (ns : List NodeId). turns_from c y ids ns bs) (drop_one ids i a at)

pub pairs_first : (c : CircuitId) (ids : List NodeId) (z : Calming) (from first : ℕ) → SkipsPairs (Some (from, first, 0)) c ids z from first
pairs_first c ids z from first = record { there = z; still = still_same z; same = refl }

pub pairs_some : (c : CircuitId) (ids : List NodeId) (z : Calming) (from first i j k left : ℕ) (a : NodeId) → slice_get ids i ≡ Some a
    → (s : SkipsPairs (Some (i, j, 0)) c ids z from first) → SkipsTo (Some k) c ids s.there a j → SkipsPairs (Some (i, k, left)) c ids z from first
pairs_some c ids z from first i j k left a at s t = record {
  there = t.there;
  still = still_then z s.there t.there s.still t.still;
  same =
      turns_head c t.there ids (drop k ids) i a at
      ∙ ap (λ (y : Calming). from_all c y ids (drop (i + 1) ids)) t.same
      ∙ sym (turns_head c s.there ids (drop j ids) i a at)
      ∙ s.same;
}

pub pairs_none : (c : CircuitId) (ids : List NodeId) (z : Calming) (from first i j : ℕ) (a : NodeId) → slice_get ids i ≡ Some a
    → (s : SkipsPairs (Some (i, j, 0)) c ids z from first) → SkipsTo None c ids s.there a j → SkipsPairs (Some (i + 1, 0, 0)) c ids z from first
pairs_none c ids z from first i j a at s t = record {
  there = t.there;
  still = still_then z s.there t.there s.still t.still;
  same =
      all_turns c t.there ids (drop (i + 1) ids)
      ∙ ap (λ (y : Calming). from_all c y ids (drop (i + 1) ids)) t.same
      ∙ sym (turns_head c s.there ids (drop j ids) i a at)
      ∙ s.same;
}

pub pairs_over : (c : CircuitId) (ids : List NodeId) (z : Calming) (from first i j : ℕ) → length ids ≤ i → SkipsPairs (Some (i, j, 0)) c ids z from first
    → SkipsPairs None c ids z from first
pairs_over c ids z from first i j h s = record {
  there = s.there;
  still = s.still;
  same = sym (ap (λ (ns : List NodeId). turns_from c s.there ids ns (drop j ids)) (drop_all i ids h)) ∙ s.same;
}

-- ---- the next turn

-- a delivery on the pair whose turn it is
pub turns_on : (c : CircuitId) (z : Calming) (ids : List NodeId) (i j : ℕ) (a b : NodeId) (k : ℕ) → z.world.up b ≡ true → z.taken a b ≡ k
    → k < sent_count z.world a b → slice_get ids i ≡ Some a → slice_get ids j ≡ Some b
    → turns_from c (given c z a b k) ids (drop i ids) (drop j ids) ≡ turns_from c z ids (drop i ids) (drop j ids)
turns_on c z ids i j a b k up taken waits at to =
    turns_head c (given c z a b k) ids (drop j ids) i a at
    ∙ ap (λ (bs : List NodeId). from_all c (to_all c (given c z a b k) a bs) ids (drop (i + 1) ids)) (drop_one ids j b to)
    ∙ ap (λ (y : Calming). from_all c (to_all c y a (drop (j + 1) ids)) ids (drop (i + 1) ids)) (turn_on c z a b k up taken waits)
    ∙ sym (ap (λ (bs : List NodeId). from_all c (to_all c z a bs) ids (drop (i + 1) ids)) (drop_one ids j b to))
    ∙ sym (turns_head c z ids (drop j ids) i a at)

-- where no ticks are left
pub no_ticks : (c : CircuitId) (z : Calming) (ids : List NodeId) (slot : ℕ) → length ids ≤ slot → ticks c z (open_nodes z.world (drop slot ids)) ≡ z
no_ticks c z ids slot h = ap (λ (ns : List NodeId). ticks c z (open_nodes z.world ns)) (drop_all slot ids h)

-- a row as it is read
pub row_there : (n : ℕ) (rows : List (Vec ℕ)) (i : ℕ) (r : Vec ℕ) → IsSquare n rows → i < n → r ≡ get_or rows i r → slice_get rows i ≡ Some r
row_there n rows i r h below read = slice_get_read rows (length rows) i r refl (subst (λ (m : ℕ). i < m) (sym h.tall) below) read

pub wide_row : (n : ℕ) (rows : List (Vec ℕ)) (i j : ℕ) (r : Vec ℕ) → IsSquare n rows → i < n → r ≡ get_or rows i r → j < n → j < vec_len r
wide_row n rows i j r h low read below = let wide = h.wide i r (row_there n rows i r h low read) in omega (arith, below, wide, r.ok)

-- ---- one after the other

-- nothing happened before it stands so, and more may come
pub record Passed (ids : List NodeId) (old new : Calm) (z : Calming) : Type 0 where
  pub last : Calming
  pub still : IsCalmStill z last
  pub same : calm_ended (cursor_of ids new) last ≡ calm_ended (cursor_of ids old) z
  pub follows : CalmFollows ids new last

abbrev pub passed_same : (ids : List NodeId) (j k : Calm) (z : Calming) → calm_ended (cursor_of ids k) z ≡ calm_ended (cursor_of ids j) z → CalmFollows ids k z → Passed ids j k z
passed_same ids j k z same h = record { last = z; still = still_same z; same = same; follows = h }

pub passed_none : (ids : List NodeId) (j k l : Calm) (z : Calming) (r : Passed ids j k z) → CalmRests ids k l r.last → CalmRests ids j l z
passed_none ids j k l z r s = record { last = s.last; still = still_then z r.last s.last r.still s.still; same = s.same ∙ r.same; tracks = s.tracks; done = s.done }

pub passed_some : (ids : List NodeId) (j k l : Calm) (z : Calming) (t : Turn) → k.circuit ≡ j.circuit → (r : Passed ids j k z) → LeadsOn ids k l r.last t → LeadsOn ids j l z t
passed_some ids j k l z t e r s = record {
  step = s.step;
  is_step = subst (λ (c : CircuitId). IsStep ids c t s.step) e s.is_step;
  next = s.next;
  world = s.world ∙ ap (λ (w : CircuitWorld). step_world w s.step) r.still.world;
  happened = s.happened ∙ ap (λ (es : List Occurrence). es ++ Steps s.step ∷ []) r.still.happened;
  same = s.same ∙ r.same;
  follows = s.follows;
}

pub passed_on : (ids : List NodeId) (j k l : Calm) (z : Calming) (t : Option Turn) → k.circuit ≡ j.circuit → (r : Passed ids j k z) → CalmGoesOn t ids k l r.last → CalmGoesOn t ids j l z
passed_on ids j k l z (Some t) e r s = passed_some ids j k l z t e r s
passed_on ids j k l z None e r s = passed_none ids j k l z r s

-- ---- at the beginning

pub begins_none : (c : CircuitId) (ids : List NodeId) (z : Calming) (k later i : ℕ) → length ids ≤ i → k ≡ 0 → later ≡ k - 1
    → passes c ids later (turns_from c (ticks c z (open_nodes z.world (drop i ids))) ids (drop i ids) (drop 0 ids)) ≡ passes c ids k z
begins_none c ids z k later i h none e =
    let same : later ≡ k = omega (arith, none, e) in
    ap (λ (ns : List NodeId). passes c ids later (turns_from c (ticks c z (open_nodes z.world ns)) ids ns ids)) (drop_all i ids h) ∙ ap (λ (n : ℕ). passes c ids n z) same

pub begins_all : (c : CircuitId) (ids : List NodeId) (z : Calming) (k later i : ℕ) → i ≡ 0 → (k ≡ 0 → ⊥) → later ≡ k - 1
    → passes c ids later (turns_from c (ticks c z (open_nodes z.world (drop i ids))) ids (drop i ids) (drop 0 ids)) ≡ passes c ids k z
begins_all c ids z k later i first some e =
    let next : later + 1 ≡ k = omega (arith, some, e) in
    let self : length ids ≤ length ids = omega arith in
    ap (λ (n : ℕ). passes c ids later (turns_from c (ticks c z (open_nodes z.world (drop n ids))) ids (drop n ids) (drop 0 ids))) first
    ∙ begins_pass c ids z later (length ids) (length ids) ids self self
    ∙ ap (λ (y : Calming). passes c ids (later + 1) y) (ap (λ (ns : List NodeId). turns_from c (ticks c z (open_nodes z.world ns)) ids ns ids) (drop_all (length ids) ids self))
    ∙ ap (λ (n : ℕ). passes c ids n z) next
