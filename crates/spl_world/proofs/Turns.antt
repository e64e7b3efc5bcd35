-- The rows of what is taken, and the pairs that a calm passes over.
use Rattle.std.{specs.List.sum_by, proofs.lemmas.List.{length_push, Sums.sum_by-cons}}
use Rattle.spl_agree.proofs.Tests.{and_right}
use Rattle.spl_circuit.specs.Same.{node_is}
use Rattle.spl_circuit_world.specs.{Calm.takes, Worlds.on_pair}
use Rattle.spl_world.specs.{Calms.{AreRows, IsSquare, sender_counts, IsTakenWithin, Tracks, sent_count}, Cursor.IsCalmStill, Kept.{IsTotal, SentLists}}
use Rattle.spl_world.{specs.{Kept.{lists_about, sent_to}, Views.{Nodes, HoldsWorld, slot_ids}, declared.slot.Slot.Slot}, proofs.Common.{◌≡◌, ℕ, zero, suc}}
use Rattle.spl_world.proofs.Common.{◌+◌, ◌⊎◌, inl, inr, true, false, List, [], ◌∷◌, ◌++◌, length, Some, slice_get, slice_set, get_or, refl, ap, sym, ◌∙◌}
use Rattle.spl_world.proofs.Common.{subst, arith, ◌-◌, ◌≤◌, ◌&&◌, length-append, Vec, sum, bytes_eq, and_left, bool_cases, if_holds, NodeId, CircuitId}
use Rattle.spl_world.proofs.Common.{has_node, ascends, Calming, pair_turn, calming, calming_step, delivers, to_all, CircuitWorld, messages, posted_outgoing}
use Rattle.spl_world.proofs.{Common.{step_plan, step_world, on_pair-append, step_node, Step, Message}, Reading.{has_at, no_messages}, Slots.differ}
use Rattle.spl_world.proofs.Slots.{differ_back, below_after, tail_ascends, same_at}
use Rattle.spl_node.proofs.Positions.{each_set}

pub turn_none : (c : CircuitId) (z : Calming) (a b : NodeId) → z.world.up b ≡ false → pair_turn c z a b ≡ z
turn_none c z a b up = rw up

-- ---- rows

pub row_same : (f g : NodeId → NodeId → ℕ) (a : NodeId) (ns : List NodeId) → ((b : NodeId) → f a b ≡ g a b) → sender_counts f a ns ≡ sender_counts g a ns
row_same f g a [] h = refl
row_same f g a (n ∷ ns) h = ap (λ k. k ∷ sender_counts f a ns) (h n) ∙ ap (λ ks. g a n ∷ ks) (row_same f g a ns h)

pub row_at : (f : NodeId → NodeId → ℕ) (a : NodeId) (ns : List NodeId) (i : ℕ) (n : NodeId) (d : ℕ) → slice_get ns i ≡ Some n → get_or (sender_counts f a ns) i d ≡ f a n
row_at f a [] i n d e = absurd cc
row_at f a (m ∷ ms) zero n d e = let same : m ≡ n = cc in ap (f a) same
row_at f a (m ∷ ms) (suc i) n d e = row_at f a ms i n d e

pub row_more : (f : NodeId → NodeId → ℕ) (a : NodeId) (xs : List NodeId) (n : NodeId) → sender_counts f a (xs ++ n ∷ []) ≡ sender_counts f a xs ++ f a n ∷ []
row_more f a [] n = refl
row_more f a (x ∷ xs) n = ap (λ ks. f a x ∷ ks) (row_more f a xs n)

row_off : (f g : NodeId → NodeId → ℕ) (a n : NodeId) (ns : List NodeId) → ((b : NodeId) → bytes_eq b n ≡ false → g a b ≡ f a b)
    → ((j : ℕ) (b : NodeId) → slice_get ns j ≡ Some b → bytes_eq b n ≡ false) → sender_counts f a ns ≡ sender_counts g a ns
row_off f g a n [] k off = refl
row_off f g a n (m ∷ ms) k off = ap (λ t. t ∷ sender_counts f a ms) (sym (k m (off 0 m refl))) ∙ ap (λ ts. g a m ∷ ts) (row_off f g a n ms k (λ j b e. off (suc j) b e))

-- one number is written
pub row_set : (f g : NodeId → NodeId → ℕ) (a : NodeId) (ns : List NodeId) (i : ℕ) (n : NodeId) (t : ℕ) → ascends ns ≡ true → slice_get ns i ≡ Some n
    → t ≡ g a n → ((b : NodeId) → bytes_eq b n ≡ false → g a b ≡ f a b) → slice_set (sender_counts f a ns) i t ≡ sender_counts g a ns
row_set f g a [] i n t h e k others = refl
row_set f g a (m ∷ ms) zero n t h e k others =
    let same : m ≡ n = cc in
    let head : t ≡ g a m = k ∙ ap (g a) (sym same) in
    ap (λ u. u ∷ sender_counts f a ms) head ∙ ap (λ ts. g a m ∷ ts) (row_off f g a n ms others (λ j b at. subst (λ (p : NodeId). bytes_eq b p ≡ false) same (differ_back m b (below_after m ms j b h at))))
row_set f g a (m ∷ ms) (suc i) n t h e k others =
    ap (λ u. u ∷ slice_set (sender_counts f a ms) i t) (sym (others m (differ m n (below_after m ms i n h e))))
    ∙ ap (λ ts. g a m ∷ ts) (row_set f g a ms i n t (tail_ascends m ms h) e k others)

-- ---- one row more

pub length_more : {X : Type 0} (xs : List X) (y : X) (n : ℕ) → length xs ≡ n → length (xs ++ y ∷ []) ≡ n + 1
length_more xs y n h = length_push xs y ∙ ap (λ (k : ℕ). k + 1) h

-- what holds of each and of one more
pub each_more : {X : Type 0} (P : ℕ → X → Type 0) (xs : List X) (y : X) → ((i : ℕ) (x : X) → slice_get xs i ≡ Some x → P i x) → P (length xs) y
    → (i : ℕ) (z : X) → slice_get (xs ++ y ∷ []) i ≡ Some z → P i z
each_more P [] y each last zero z e = let same : y ≡ z = cc in subst (P 0) same last
each_more P [] y each last (suc i) z e = absurd cc
each_more P (x ∷ xs) y each last zero z e = each 0 z e
each_more P (x ∷ xs) y each last (suc i) z e = each_more (λ j. P (suc j)) xs y (λ j w f. each (suc j) w f) last i z e

pub wide_more : (n : ℕ) (rows : List (Vec ℕ)) (r : Vec ℕ) → ((i : ℕ) (q : Vec ℕ) → slice_get rows i ≡ Some q → length q.items ≡ n) → length r.items ≡ n
    → (i : ℕ) (q : Vec ℕ) → slice_get (rows ++ r ∷ []) i ≡ Some q → length q.items ≡ n
wide_more n rows r h k = each_more (λ (i : ℕ) (q : Vec ℕ). length q.items ≡ n) rows r h k

pub rows_more : (f : NodeId → NodeId → ℕ) (ids : List NodeId) (rows : List (Vec ℕ)) (r : Vec ℕ) → AreRows f ids rows
    → ((a : NodeId) → slice_get ids (length rows) ≡ Some a → r.items ≡ sender_counts f a ids) → AreRows f ids (rows ++ r ∷ [])
rows_more f ids rows r h k i a q at e = each_more (λ (j : ℕ) (v : Vec ℕ). (b : NodeId) → slice_get ids j ≡ Some b → v.items ≡ sender_counts f b ids) rows r (λ j v f b to. h j b v to f) k i q e a at

-- ---- one row written

pub square_set : (n : ℕ) (rows : List (Vec ℕ)) (i : ℕ) (r : Vec ℕ) → IsSquare n rows → length (slice_set rows i r) ≡ length rows → length r.items ≡ n → IsSquare n (slice_set rows i r)
square_set n rows i r h same k = record {
  tall = same ∙ h.tall;
  wide = each_set (λ (j : ℕ) (q : Vec ℕ). length q.items ≡ n) rows i r k (λ j q off e. h.wide j q e);
}

-- ---- a turn more, a sender more

pub rows_same : (f g : NodeId → NodeId → ℕ) (ids : List NodeId) (rows : List (Vec ℕ)) → ((x y : NodeId) → f x y ≡ g x y) → AreRows f ids rows → AreRows g ids rows
rows_same f g ids rows h k i a r at e = k i a r at e ∙ row_same f g a ids (h a)

-- ---- rows that are as many together

head_meets : (p q x y r s : ℕ) → p ≡ x + r → q ≡ y + s → x ≤ y → r ≤ s → q ≤ p → y ≡ x
head_meets p q x y r s e f g h k = omega (arith, e, f, g, h, k)

rest_meets : (p q x y r s : ℕ) → p ≡ x + r → q ≡ y + s → x ≤ y → q ≤ p → s ≤ r
rest_meets p q x y r s e f g k = omega (arith, e, f, g, k)

both_below : (p q x y r s : ℕ) → p ≡ x + r → q ≡ y + s → x ≤ y → r ≤ s → p ≤ q
both_below p q x y r s e f g h = omega (arith, e, f, g, h)

through : (a b c : ℕ) → a ≤ b → b ≤ c → a ≤ c
through a b c h k = omega (arith, h, k)

least : (n : ℕ) → n ≤ n
least n = omega arith

abbrev own : ℕ → ℕ
own n = n

row_below : (f g : NodeId → NodeId → ℕ) (a : NodeId) (bs : List NodeId) → ((b : NodeId) → f a b ≤ g a b) → sum (sender_counts f a bs) ≤ sum (sender_counts g a bs)
row_below f g a [] h = omega arith
row_below f g a (b ∷ bs) h =
    both_below _ _ (f a b) (g a b) (sum (sender_counts f a bs)) (sum (sender_counts g a bs)) (sum_by-cons own (f a b) (sender_counts f a bs))
    (sum_by-cons own (g a b) (sender_counts g a bs)) (h b) (row_below f g a bs h)

pub rows_meet : (f g : NodeId → NodeId → ℕ) (a : NodeId) (bs : List NodeId) → ((b : NodeId) → f a b ≤ g a b)
    → sum (sender_counts g a bs) ≤ sum (sender_counts f a bs) → sender_counts g a bs ≡ sender_counts f a bs
rows_meet f g a [] h k = refl
rows_meet f g a (b ∷ bs) h k =
    let p = sum_by-cons own (f a b) (sender_counts f a bs) in
    let q = sum_by-cons own (g a b) (sender_counts g a bs) in
    ap (λ (n : ℕ). n ∷ sender_counts g a bs) (head_meets _ _ (f a b) (g a b) (sum (sender_counts f a bs)) (sum (sender_counts g a bs)) p q (h b) (row_below f g a bs h) k)
    ∙ ap (λ (ns : List ℕ). f a b ∷ ns) (rows_meet f g a bs h (rest_meets _ _ (f a b) (g a b) (sum (sender_counts f a bs)) (sum (sender_counts g a bs)) p q (h b) k))

-- one number is greater
pub one_more : (f g : NodeId → NodeId → ℕ) (a : NodeId) (ids : List NodeId) (j : ℕ) (b : NodeId) → slice_get ids j ≡ Some b → f a b + 1 ≤ g a b
    → ((y : NodeId) → f a y ≤ g a y) → sum (sender_counts f a ids) + 1 ≤ sum (sender_counts g a ids)
one_more f g a [] j b at more grown = absurd cc
one_more f g a (x ∷ xs) zero b at more grown =
    let same : x ≡ b = cc in
    head_more (sum (sender_counts f a (x ∷ xs))) (sum (sender_counts g a (x ∷ xs))) (f a x) (g a x) (sum (sender_counts f a xs))
    (sum (sender_counts g a xs)) (sum_by-cons own (f a x) (sender_counts f a xs)) (sum_by-cons own (g a x) (sender_counts g a xs))
    (subst (λ (n : NodeId). f a n + 1 ≤ g a n) (sym same) more) (row_below f g a xs grown)
  where
    head_more : (s t m n p q : ℕ) → s ≡ m + p → t ≡ n + q → m + 1 ≤ n → p ≤ q → s + 1 ≤ t
    head_more s t m n p q e h k l = omega (arith, e, h, k, l)
one_more f g a (x ∷ xs) (suc j) b at more grown =
    rest_more (sum (sender_counts f a (x ∷ xs))) (sum (sender_counts g a (x ∷ xs))) (f a x) (g a x) (sum (sender_counts f a xs))
    (sum (sender_counts g a xs)) (sum_by-cons own (f a x) (sender_counts f a xs)) (sum_by-cons own (g a x) (sender_counts g a xs))
    (grown x) (one_more f g a xs j b at more grown)
  where
    rest_more : (s t m n p q : ℕ) → s ≡ m + p → t ≡ n + q → m ≤ n → p + 1 ≤ q → s + 1 ≤ t
    rest_more s t m n p q e h k l = omega (arith, e, h, k, l)

-- ---- what was sent

row_sent : (f : NodeId → NodeId → ℕ) (a : NodeId) (ls : SentLists) (bs : List NodeId)
    → ((j : ℕ) (b : NodeId) → slice_get bs j ≡ Some b → f a b ≤ length (sent_to ls b)) → sum (sender_counts f a bs) ≤ sum_by (λ b. length (sent_to ls b)) bs
row_sent f a ls [] h = omega arith
row_sent f a ls (b ∷ bs) h =
    both_below _ _ (f a b) (length (sent_to ls b)) (sum (sender_counts f a bs)) (sum_by (λ (c : NodeId). length (sent_to ls c)) bs)
    (sum_by-cons own (f a b) (sender_counts f a bs)) (sum_by-cons (λ (c : NodeId). length (sent_to ls c)) b bs)
    (h 0 b refl) (row_sent f a ls bs (λ j c at. h (suc j) c at))

sent_below : (xs : Nodes) (i j : ℕ) (x : Slot) (c : CircuitId) (a b : NodeId) (m : CircuitWorld) → slice_get xs.slots i ≡ Some x
    → slice_get (slot_ids xs.slots) i ≡ Some a → slice_get (slot_ids xs.slots) j ≡ Some b → HoldsWorld c m xs
    → sent_count m a b ≤ length (sent_to (lists_about x.posts c) b)
sent_below xs i j x c a b m there at to h = subst (λ (ms : List Message). sent_count m a b ≤ length ms) (sym sent) (go (bool_cases (bytes_eq a b)))
  where
    sent : sent_to (lists_about x.posts c) b ≡ on_pair a b m.sent
    sent = (h.each i x there).sent b (ap (λ ns. has_node ns b) h.nodes ∙ has_at (slot_ids xs.slots) j b to) ∙ ap (λ (k : NodeId). on_pair k b m.sent) (same_at xs.slots i x a there at)

    go : (bytes_eq a b ≡ true) ⊎ (bytes_eq a b ≡ false) → sent_count m a b ≤ length (on_pair a b m.sent)
    go (inl q) = subst (λ (ms : List Message). length ms ≤ length (on_pair a b m.sent)) (sym (no_messages m a b q)) (omega arith)
    go (inr q) = rw q (least (length (on_pair a b m.sent)))

-- its total is no less than all that it sent
pub all_sent : (xs : Nodes) (i : ℕ) (x : Slot) (c : CircuitId) (a : NodeId) (m : CircuitWorld) (total : ℕ) → slice_get xs.slots i ≡ Some x
    → slice_get (slot_ids xs.slots) i ≡ Some a → HoldsWorld c m xs → IsTotal total (lists_about x.posts c)
    → sum (sender_counts (sent_count m) a (slot_ids xs.slots)) ≤ total
all_sent xs i x c a m total there at h most =
    through _ _ _ (row_sent (sent_count m) a (lists_about x.posts c) (slot_ids xs.slots) (λ j b to. sent_below xs i j x c a b m there at to h)) (most (slot_ids xs.slots) h.ordered)

-- ---- a sender of whom all is taken

pub still_same : (z : Calming) → IsCalmStill z z
still_same z = record { world = refl; happened = refl; taken = λ a b. refl }

pub still_then : (x y z : Calming) → IsCalmStill x y → IsCalmStill y z → IsCalmStill x z
still_then x y z s t = record { world = t.world ∙ s.world; happened = t.happened ∙ s.happened; taken = λ a b. t.taken a b ∙ s.taken a b }

none_left : (m n : ℕ) → m ≡ n → m - n ≡ 0
none_left m n e = omega (arith, e)

counted : (z : Calming) (a b : NodeId) → sent_count z.world a b ≡ z.taken a b → IsCalmStill z (takes z a b (length (messages z.world a b)))
counted z a b e = record { world = refl; happened = refl; taken = same }
  where
    same : (x y : NodeId) → (takes z a b (length (messages z.world a b))).taken x y ≡ z.taken x y
    same x y = if_holds (λ (n : ℕ). n ≡ z.taken x y) (bytes_eq x a && bytes_eq y b) _ _
        (λ q. e ∙ ap (λ (n : NodeId). z.taken n b) (sym (node_is x a (and_left (bytes_eq x a) (bytes_eq y b) q)))
        ∙ ap (λ (n : NodeId). z.taken x n) (sym (node_is y b (and_right (bytes_eq x a) (bytes_eq y b) q))))
        (λ q. refl)

pub turn_still : (c : CircuitId) (z : Calming) (a b : NodeId) → sent_count z.world a b ≡ z.taken a b → IsCalmStill z (pair_turn c z a b)
turn_still c z a b e = if_holds (IsCalmStill z) (z.world.up b) _ _
    (λ q. subst (λ (k : ℕ). IsCalmStill z (takes (delivers c z a b (z.taken a b + 1) k) a b (length (messages z.world a b))))
    (sym (none_left (length (messages z.world a b)) (z.taken a b) e)) (counted z a b e))
    (λ q. still_same z)

pub all_still : (c : CircuitId) (z : Calming) (a : NodeId) (bs : List NodeId) → sender_counts (sent_count z.world) a bs ≡ sender_counts z.taken a bs → IsCalmStill z (to_all c z a bs)
all_still c z a [] e = still_same z
all_still c z a (b ∷ bs) e =
    let head : sent_count z.world a b ≡ z.taken a b = cc in
    let tail : sender_counts (sent_count z.world) a bs ≡ sender_counts z.taken a bs = cc in
    let y : Calming = pair_turn c z a b in
    let s : IsCalmStill z y = turn_still c z a b head in
    still_then z y (to_all c y a bs) s
    (all_still c y a bs (ap (λ (w : CircuitWorld). sender_counts (sent_count w) a bs) s.world ∙ tail ∙ sym (row_same y.taken z.taken a bs (s.taken a))))

-- ---- no more is taken than was sent

pub grows : (w : CircuitWorld) (s : Step) (a b : NodeId) → sent_count w a b ≤ sent_count (step_world w s) a b
grows w s a b = go (bool_cases (bytes_eq a b))
  where
    more : length (on_pair a b w.sent) ≤ length (on_pair a b (step_world w s).sent)
    more =
        let new : List Message = on_pair a b (posted_outgoing w.nodes (step_node s) (step_plan w s).sends) in
        subst (λ (ms : List Message). length (on_pair a b w.sent) ≤ length ms)
        (sym (on_pair-append a b w.sent (posted_outgoing w.nodes (step_node s) (step_plan w s).sends))) (longer (on_pair a b w.sent) new)
      where
        longer : (xs ys : List Message) → length xs ≤ length (xs ++ ys)
        longer xs ys = omega (arith, length-append xs ys)

    go : (bytes_eq a b ≡ true) ⊎ (bytes_eq a b ≡ false) → sent_count w a b ≤ sent_count (step_world w s) a b
    go (inl q) = subst (λ (ms : List Message). length ms ≤ sent_count (step_world w s) a b) (sym (no_messages w a b q)) (omega arith)
    go (inr q) = rw q more

pub within_step : (z : Calming) (s : Step) → IsTakenWithin z → IsTakenWithin (calming_step z s)
within_step z s h a b = through (z.taken a b) (sent_count z.world a b) _ (h a b) (grows z.world s a b)

pub tracks_first : (m : CircuitWorld) (ids : List NodeId) (rows : List (Vec ℕ)) → AreRows (sent_count m) ids rows → Tracks (calming m) ids rows
tracks_first m ids rows h = record { taken = h; within = λ a b. least _ }
