-- What two disks stand for while a journal on them is read, and written again where its form is an older one.
use Rattle.std.{specs.{Prelude.{is_some, if◌then◌else◌, IsOk, IfNone}, List.Sorted.IsStrictlySortedBy, Map.keys_of}, proofs.Common.{◌≡◌, ◌⊎◌, inl, inr, ℕ}}
use Rattle.std.proofs.{Common.{◌+◌, ◌<◌, ◌≤◌, Bool, true, false, List, Option, Some, None, IfSome, refl, sym, ◌∙◌, ap, subst, arith}, lemmas.Bool.cases_lt}
use Rattle.spl_circuit.specs.Nodes.{NodeId}
use Rattle.spl_edge.specs.{Devices.{Onward, Image, IsSettled, MayLeave, DiskView, PairView, image_now, pair_view}, declared.bench.Pair.Pair}
use Rattle.spl_journal.specs.{Journals.{form_walked, Stands, Walks}, Reads.Stays, Records.{form_in, is_older}, declared.journal_form.JournalForm.JournalForm}
use Rattle.spl_journal.specs.declared.journal_form.TheConstants.{WRITTEN}
use Rattle.spl_snapshot.specs.Counting.{chosen, counting_bytes, second_counts, pair_records, pair_records_of, HaveEither, IfBoth, PairLeaves}
use Rattle.spl_snapshot.specs.{Counting.{PairLeavesBetween, PairOnward, PairStays, PairTellsAs, TellsAs}, Pairs.{PairStands, PairWalks, walk_in}}
use Rattle.spl_snapshot.{proofs.Keeps.both_if, specs.{Pairs.walks_second, declared.{pairing.Pairing.Pairing, walking.PairWalk.PairWalk}}}
use Rattle.spl_node.specs.Stands.{Rests, Runs, kept_cell, HoldAs, IsRead, IsWritten, WereBlank, StandAs, StandOn, StandOnIfRead, NodeStands, StandFor}
use Rattle.spl_node.specs.{Stands.{circuit_cell, here_of}, Kept.{CellsView, AreOwn, packed_node}, Records.{changes_in, is_record, recorded_cell}}
use Rattle.spl_node.{proofs.Disks.{leaves_map, left_now, rest_leaves, settled_pair, stays_join, stays_same, still}, specs.declared.node.Node.Node}
use Rattle.spl_node.proofs.{Events.{again_made, stand_like}, Hosting.{both_apply, kept_settled, kept_stand, read_made, recorded_make}, Maps.order}
use Rattle.spl_node.proofs.{Standing.{chosen_some, stand_for}, Stops.applied-still, Walking.{both_still, still_holds, walks_still}}
use Rattle.spl_cell_rules.specs.Cells.{site_at}

-- ---- moments

-- each image since one moment is an image since a later one, where the disk held the same meanwhile
since : (x y z : DiskView) (Q : Option Image → Type 0) → Stays x y → Onward y z → ((k : ℕ) → y.moment ≤ k → k ≤ z.moment → Q (z.image_at k)) → (k : ℕ)
    → x.moment ≤ k → k ≤ z.moment → Q (z.image_at k)
since x y z Q stays on left k low high = by (cases_lt k y.moment)
  where
    now : z.image_at y.moment ≡ image_now x
    now = on.past y.moment (omega arith) ∙ stays.still y.moment stays.later (omega arith)

    by : (k < y.moment) ⊎ (y.moment ≤ k) → Q (z.image_at k)
    by (inl lt) = subst Q (now ∙ sym (on.past k (omega arith) ∙ stays.still k low (omega arith))) (left y.moment (omega arith) on.later)
    by (inr le) = left k le high

-- two disks that are called after they held what they held
pub leaves_since : (x u z y v w : DiskView) (P : List ℕ → List ℕ → Type 0) → Stays x u → Onward u z → Stays y v → Onward v w
    → PairLeavesBetween z.image_at u.moment z.moment w.image_at v.moment w.moment P
    → PairLeavesBetween z.image_at x.moment z.moment w.image_at y.moment w.moment P
leaves_since x u z y v w P stays on other_stays other_on left k l low high low2 high2 =
    since x u z (λ o. IfBoth o (w.image_at l) (λ i j. (c d : List ℕ) → MayLeave i c → MayLeave j d → P c d)) stays on
    (λ m from to. since y v w (λ p. IfBoth (z.image_at m) p (λ i j. (c d : List ℕ) → MayLeave i c → MayLeave j d → P c d)) other_stays other_on
    (λ n start end. left m n from to start end) l low2 high2)
    k low high

-- what a stop at any moment leaves it leaves at the last
pub leaves_end : (at other : ℕ → Option Image) (from to start end : ℕ) (P : List ℕ → List ℕ → Type 0) → from ≤ to → start ≤ end
    → PairLeavesBetween at from to other start end P → PairLeavesBetween at to to other end end P
leaves_end at other from to start end P low other_low left k l a b c d = left k l (omega (arith, low, a)) b (omega (arith, other_low, c)) d

settled_both : (P : List ℕ → List ℕ → Type 0) (o p : Option Image) → IfSome o IsSettled → IfSome p IsSettled → IfBoth o p (λ i j. P i.bytes j.bytes)
    → IfBoth o p (λ i j. (c d : List ℕ) → MayLeave i c → MayLeave j d → P c d)
settled_both P None p a b h = tt
settled_both P (Some i) None a b h = tt
settled_both P (Some i) (Some j) a b h = still P i j a b h

-- two disks that held the same all the while, with nothing pending
pub leaves_same : (x y u v : DiskView) (P : List ℕ → List ℕ → Type 0) → IfSome (image_now x) IsSettled → IfSome (image_now y) IsSettled → Stays x u
    → Stays y v → IfBoth (image_now x) (image_now y) (λ i j. P i.bytes j.bytes)
    → PairLeavesBetween u.image_at x.moment u.moment v.image_at y.moment v.moment P
leaves_same x y u v P a b stays other_stays h k l low high low2 high2 =
    subst (λ (o : Option Image). IfBoth o (v.image_at l) (λ i j. (c d : List ℕ) → MayLeave i c → MayLeave j d → P c d)) (sym (stays.still k low high))
    (subst (λ (p : Option Image). IfBoth (image_now x) p (λ i j. (c d : List ℕ) → MayLeave i c → MayLeave j d → P c d))
    (sym (other_stays.still l low2 high2)) (settled_both P (image_now x) (image_now y) a b h))

-- ---- a journal that is read

-- disks that are a journal stand for the cells that they make
pub stand_own : (here : NodeId) (a b : List ℕ) → IsOk (pair_records is_record a b) → StandAs here a b a b
stand_own here a b ok = recorded_make here (pair_records is_record a b) ok

both_each : (o p : Option Image) (P : Image → Image → Type 0) → ((i j : Image) → o ≡ Some i → p ≡ Some j → P i j) → IfBoth o p P
both_each None p P h = tt
both_each (Some i) None P h = tt
both_each (Some i) (Some j) P h = h i j refl refl

both_at : (o p : Option Image) (i j : Image) (P : Image → Image → Type 0) → o ≡ Some i → p ≡ Some j → P i j → IfBoth o p P
both_at o p i j P is other_is h = subst (λ (x : Option Image). IfBoth x p P) (sym is) (subst (λ (y : Option Image). IfBoth (Some i) y P) (sym other_is) h)

-- disks that were only read stand for the cells that they made
pub stays_stand : (here : NodeId) (p q : PairView) → IfSome (image_now p.first) IsSettled → IfSome (image_now p.second) IsSettled → PairStays p q
    → StandOnIfRead here p q
stays_stand here p q a b stays =
    both_each (image_now p.first) (image_now p.second) (λ i j. IsOk (pair_records is_record i.bytes j.bytes) → PairLeaves p q (StandAs here i.bytes j.bytes))
    (λ i j is other_is ok. leaves_same p.first p.second q.first q.second (StandAs here i.bytes j.bytes) a b stays.first stays.second
    (both_at (image_now p.first) (image_now p.second) i j (λ k l. StandAs here i.bytes j.bytes k.bytes l.bytes) is other_is
    (stand_own here i.bytes j.bytes ok)))

pub stand_if : (here : NodeId) (p q : PairView) → StandOn here p q → StandOnIfRead here p q
stand_if here p q stands =
    both_if (image_now p.first) (image_now p.second) (λ i j. PairLeaves p q (StandAs here i.bytes j.bytes))
    (λ i j. IsOk (pair_records is_record i.bytes j.bytes) → PairLeaves p q (StandAs here i.bytes j.bytes)) stands (λ i j h ok. h)

pub pair_stays_join : (p q r : PairView) → PairStays p q → PairStays q r → PairStays p r
pair_stays_join p q r f g = record {
  first = stays_join p.first q.first r.first f.first g.first;
  second = stays_join p.second q.second r.second f.second g.second;
}

-- disks that are called after they were only read
pub stand_since : (here : NodeId) (p q r : PairView) → PairStays p q → PairOnward q r → StandOn here q r → StandOn here p r
stand_since here p q r stays on stands =
    both_if (image_now p.first) (image_now p.second) (λ i j. PairLeaves q r (StandAs here i.bytes j.bytes))
    (λ i j. PairLeaves p r (StandAs here i.bytes j.bytes))
    (both_still (λ i j. PairLeaves q r (StandAs here i.bytes j.bytes)) (image_now p.first) (image_now p.second) (image_now q.first) (image_now q.second)
    (still_holds p.first q.first stays.first) (still_holds p.second q.second stays.second) stands)
    (λ i j. leaves_since p.first q.first r.first p.second q.second r.second (StandAs here i.bytes j.bytes) stays.first on.first stays.second on.second)

-- ---- a journal that is written again

-- the records that were read and those that the cells pack into make the same cells
module _ (here : NodeId) (v : CellsView) (same : v.here ≡ here) (ordered : IsStrictlySortedBy order (keys_of v.entries)) (own : AreOwn v.here v.entries) where
  either_stand : (i j : Image) → IsRead v i.bytes j.bytes → (c d : List ℕ)
      → HaveEither is_record (pair_records_of is_record i.bytes j.bytes) (packed_node v.entries) c d → StandAs here i.bytes j.bytes c d
  either_stand i j read c d (inl h) =
      stand_for here (λ k. recorded_cell here k (pair_records_of is_record i.bytes j.bytes)) (pair_records_of is_record i.bytes j.bytes) c d
      (λ k. sym (applied-still (site_at here k) (changes_in k (pair_records_of is_record i.bytes j.bytes)))) h
  either_stand i j read c d (inr h) = stand_for here (λ k. recorded_cell here k (pair_records_of is_record i.bytes j.bytes)) (packed_node v.entries) c d
      (again_made here (λ k. recorded_cell here k (pair_records_of is_record i.bytes j.bytes)) v same
      (read_made here v (Some i) (Some j) same refl refl read) ordered own) h

  pub carried_stand : (p q : PairView) → IfBoth (image_now p.first) (image_now p.second) (λ i j. IsRead v i.bytes j.bytes)
      → IfBoth (image_now p.first) (image_now p.second)
      (λ i j. PairLeaves p q (HaveEither is_record (pair_records_of is_record i.bytes j.bytes) (packed_node v.entries))) → StandOn here p q
  carried_stand p q read left =
      both_apply (image_now p.first) (image_now p.second) (λ i j. IsRead v i.bytes j.bytes) (λ i j. PairLeaves p q (StandAs here i.bytes j.bytes)) read
      (both_if (image_now p.first) (image_now p.second)
      (λ i j. PairLeaves p q (HaveEither is_record (pair_records_of is_record i.bytes j.bytes) (packed_node v.entries)))
      (λ i j. IsRead v i.bytes j.bytes → PairLeaves p q (StandAs here i.bytes j.bytes)) left
      (λ i j h is_read. leaves_map q.first.image_at q.second.image_at p.first.moment q.first.moment p.second.moment q.second.moment
      (HaveEither is_record (pair_records_of is_record i.bytes j.bytes) (packed_node v.entries)) (StandAs here i.bytes j.bytes)
      (either_stand i j is_read) h))

-- disks that held what they held while they were read
pub read_then : (v : CellsView) (p q : PairView) → PairStays p q → IfBoth (image_now p.first) (image_now p.second) (λ i j. IsRead v i.bytes j.bytes)
    → IfBoth (image_now q.first) (image_now q.second) (λ i j. IsRead v i.bytes j.bytes)
read_then v p q stays read =
    both_still (λ i j. IsRead v i.bytes j.bytes) (image_now q.first) (image_now q.second) (image_now p.first) (image_now p.second)
    (sym (still_holds p.first q.first stays.first)) (sym (still_holds p.second q.second stays.second)) read

pub read_before : (v : CellsView) (p q : PairView) → PairStays p q → IfBoth (image_now q.first) (image_now q.second) (λ i j. IsRead v i.bytes j.bytes)
    → IfBoth (image_now p.first) (image_now p.second) (λ i j. IsRead v i.bytes j.bytes)
read_before v p q stays read =
    both_still (λ i j. IsRead v i.bytes j.bytes) (image_now p.first) (image_now p.second) (image_now q.first) (image_now q.second)
    (still_holds p.first q.first stays.first) (still_holds p.second q.second stays.second) read

pub walks_then : {R : Type 0} (w : PairWalk R) (p q : PairView) → PairStays p q → PairWalks is_record w (image_now p.first) (image_now p.second)
    → PairWalks is_record w (image_now q.first) (image_now q.second)
walks_then w p q stays walks =
    walks_still w (image_now p.first) (image_now p.second) (image_now q.first) (image_now q.second) (still_holds p.first q.first stays.first)
    (still_holds p.second q.second stays.second) walks

pub walks_before : {R : Type 0} (w : PairWalk R) (p q : PairView) → PairStays p q → PairWalks is_record w (image_now q.first) (image_now q.second)
    → PairWalks is_record w (image_now p.first) (image_now p.second)
walks_before w p q stays walks =
    walks_still w (image_now q.first) (image_now q.second) (image_now p.first) (image_now p.second) (sym (still_holds p.first q.first stays.first))
    (sym (still_holds p.second q.second stays.second)) walks

-- ---- the node that was read

stand_after : (n : Node) (here : NodeId) (o p x y : Option Image) → here_of n ≡ here → IfBoth o p (λ i j. IsRead n.cells i.bytes j.bytes)
    → IfBoth o p (λ i j. IfBoth x y (λ k l. StandAs here i.bytes j.bytes k.bytes l.bytes))
    → TellsAs o x → TellsAs p y → IfBoth x y (λ k l. StandFor (here_of n) (circuit_cell n) k.bytes l.bytes)
stand_after n here (Some i) (Some j) x y same read stands told other_told =
    both_if x y (λ k l. StandAs here i.bytes j.bytes k.bytes l.bytes) (λ k l. StandFor (here_of n) (circuit_cell n) k.bytes l.bytes) stands
    (λ k l. stand_like here (here_of n) (λ c. recorded_cell here c (pair_records_of is_record i.bytes j.bytes)) (circuit_cell n) k.bytes l.bytes same
    (read_made here n.cells (Some i) (Some j) same refl refl read))
stand_after n here None p None y same read stands told other_told = tt
stand_after n here None p (Some k) y same read stands told other_told = cc
stand_after n here (Some i) None None y same read stands told other_told = tt
stand_after n here (Some i) None (Some k) None same read stands told other_told = tt
stand_after n here (Some i) None (Some k) (Some l) same read stands told other_told = cc

-- the disks stand for its cells after they were called
pub opened_stands : (n : Node) (here : NodeId) (p q : PairView) → here_of n ≡ here
    → PairStands is_record n.pairing (image_now q.first) (image_now q.second) → PairOnward p q → PairTellsAs p q
    → IfBoth (image_now p.first) (image_now p.second) (λ i j. IsRead n.cells i.bytes j.bytes) → StandOn here p q
    → NodeStands n (image_now q.first) (image_now q.second)
opened_stands n here p q same pair on told read stands = record {
  pair = pair;
  cells = stand_after n here (image_now p.first) (image_now p.second) (image_now q.first) (image_now q.second) same read
      (both_if (image_now p.first) (image_now p.second) (λ i j. PairLeaves p q (StandAs here i.bytes j.bytes))
      (λ i j. IfBoth (image_now q.first) (image_now q.second) (λ k l. StandAs here i.bytes j.bytes k.bytes l.bytes)) stands
      (λ i j left. left_now q.first.image_at q.second.image_at q.first.moment q.second.moment (StandAs here i.bytes j.bytes)
      (settled_pair is_record n.pairing (image_now q.first) (image_now q.second) pair).0
      (settled_pair is_record n.pairing (image_now q.first) (image_now q.second) pair).1
      (leaves_end q.first.image_at q.second.image_at p.first.moment q.first.moment p.second.moment q.second.moment
      (StandAs here i.bytes j.bytes) on.first.later on.second.later left)))
      told.0 told.1;
}

-- ---- the form

chosen_bytes : (second : Bool) (i j : Image) → (chosen second i j).bytes ≡ chosen second i.bytes j.bytes
chosen_bytes false i j = refl
chosen_bytes true i j = refl

form_chosen : (f : Option JournalForm) (second : Bool) (i j : Image) → second_counts i.bytes j.bytes ≡ second → form_in (chosen second i j).bytes ≡ f
    → form_in (counting_bytes i.bytes j.bytes) ≡ f
form_chosen f second i j counts is = ap (λ (b : Bool). form_in (chosen b i.bytes j.bytes)) counts ∙ (ap form_in (sym (chosen_bytes second i j)) ∙ is)

-- the journal that counts is of the form in which journals are made
pub pair_written : {R : Type 0} (q : Pairing R) (o p : Option Image) → PairStands is_record q o p → IfBoth o p (λ i j. IsWritten i.bytes j.bytes)
pair_written q None p stands = tt
pair_written q (Some i) None stands = tt
pair_written q (Some i) (Some j) stands =
    form_chosen (Some WRITTEN) q.second i j stands.counts (chosen_some q.second i j (Stands is_record q.journal) stands.counting).form_is

same_some : (f g : JournalForm) → Some f ≡ Some g → f ≡ g
same_some f g is = cc

-- a walk over one that is
pub walk_written : {R : Type 0} (w : PairWalk R) (o p : Option Image) → PairWalks is_record w o p
    → IfBoth o p (λ i j. IsWritten i.bytes j.bytes → is_older (form_walked (walk_in w)) ≡ false)
walk_written w None p walks = tt
walk_written w (Some i) None walks = tt
walk_written w (Some i) (Some j) walks = λ written.
    let is : w.walk.form ≡ WRITTEN =
    same_some w.walk.form WRITTEN
    (sym (form_chosen (Some w.walk.form) w.second i j walks.counts (chosen_some w.second i j (Walks is_record w.walk) walks.counting).form_is)
    ∙ written) in
    ap is_older is

-- what follows of the form of the walk follows of the bytes
pub written_stays : (o p : Option Image) (P S : Type 0) → IfBoth o p (λ i j. IsWritten i.bytes j.bytes → P) → (P → S)
    → IfBoth o p (λ i j. IsWritten i.bytes j.bytes → S)
written_stays o p P S is h =
    both_if o p (λ i j. IsWritten i.bytes j.bytes → P) (λ i j. IsWritten i.bytes j.bytes → S) is (λ i j walked written. h (walked written))

pub base_either : (older : Bool) (base packed : ℕ) → base ≡ (if older then 18 + packed else 18) → (base ≡ 18) ⊎ (base ≡ 18 + packed)
base_either false base packed is = inl is
base_either true base packed is = inr is

pub always : (o p : Option Image) (S : Type 0) → S → IfBoth o p (λ i j. IsWritten i.bytes j.bytes → S)
always None p S h = tt
always (Some i) None S h = tt
always (Some i) (Some j) S h = λ written. h

-- disks that weren't called
pub same_stay : {D : Type 0} (view : D → DiskView) (p q r : Pair D) → PairStays (pair_view view p) (pair_view view q) → r ≡ q
    → PairStays (pair_view view p) (pair_view view r)
same_stay {D = D} view p q r stays same = subst (λ (d : Pair D). PairStays (pair_view view p) (pair_view view d)) (sym same) stays

-- ---- the disk that counts

pub chosen_stays : {D : Type 0} (view : D → DiskView) (p q : Pair D) → PairStays (pair_view view p) (pair_view view q) → (second : Bool)
    → Stays (view (chosen second p.first p.second)) (view (chosen second q.first q.second))
chosen_stays view p q stays false = stays.first
chosen_stays view p q stays true = stays.second

pub all_stay : {D : Type 0} (view : D → DiskView) (p q : Pair D) (o s : Option Image) → PairStays (pair_view view p) (pair_view view q)
    → IfBoth o s (λ i j. Stays (view (chosen (second_counts i.bytes j.bytes) p.first p.second))
    (view (chosen (second_counts i.bytes j.bytes) q.first q.second)))
all_stay view p q o s stays =
    both_each o s (λ i j. Stays (view (chosen (second_counts i.bytes j.bytes) p.first p.second))
    (view (chosen (second_counts i.bytes j.bytes) q.first q.second))) (λ i j is other_is. chosen_stays view p q stays (second_counts i.bytes j.bytes))

-- that which is walked over
pub counting_stays : {R D : Type 0} (view : D → DiskView) (p q r : Pair D) (w : PairWalk R) (o s : Option Image) → PairWalks is_record w o s
    → PairStays (pair_view view p) (pair_view view q) → chosen (walks_second w) r.first r.second ≡ chosen (walks_second w) q.first q.second
    → IfBoth o s (λ i j. Stays (view (chosen (second_counts i.bytes j.bytes) p.first p.second))
    (view (chosen (second_counts i.bytes j.bytes) r.first r.second)))
counting_stays {D = D} view p q r w o s walks stays same =
    both_if o s (λ i j. second_counts i.bytes j.bytes ≡ w.second)
    (λ i j. Stays (view (chosen (second_counts i.bytes j.bytes) p.first p.second))
    (view (chosen (second_counts i.bytes j.bytes) r.first r.second))) walks.counts
    (λ i j counts. subst (λ (b : Bool). Stays (view (chosen b p.first p.second)) (view (chosen b r.first r.second))) (sym counts)
    (subst (λ (d : D). Stays (view (chosen w.second p.first p.second)) (view d)) (sym same) (chosen_stays view p q stays w.second)))

-- ---- a host that starts

-- one that is up makes no call
pub up_leaves : (here : NodeId) (o : Option Node) (at other : ℕ → Option Image) (m n : ℕ) → IfSome o (Runs here (at m) (other n))
    → IfNone o (Rests (at m) (other n))
    → IfBoth (at m) (other n) (λ i j. PairLeavesBetween at m m other n n (StandFor here (kept_cell here o (at m) (other n))))
up_leaves here o at other m n up down =
    let rest = kept_settled here o (at m) (other n) up down in
    both_apply (at m) (other n) (λ i j. StandFor here (kept_cell here o (at m) (other n)) i.bytes j.bytes)
    (λ i j. PairLeavesBetween at m m other n n (StandFor here (kept_cell here o (at m) (other n)))) (kept_stand here o (at m) (other n) up down)
    (rest_leaves at other m n rest.0 rest.1 (λ i j. StandFor here (kept_cell here o (at m) (other n)) i.bytes j.bytes)
    (StandFor here (kept_cell here o (at m) (other n))) (λ i j h. h))

-- one that is down opens its disks
pub start_leaves : (here : NodeId) (o : Option Node) (x y : Option Image) (at other : ℕ → Option Image) (from to start end : ℕ) → is_some o ≡ false
    → IfNone o (Rests x y)
    → IfBoth x y (λ i j. IsOk (pair_records is_record i.bytes j.bytes) → PairLeavesBetween at from to other start end (StandAs here i.bytes j.bytes))
    → IfBoth x y (λ i j. PairLeavesBetween at from to other start end (StandFor here (kept_cell here o x y)))
start_leaves here (Some n) x y at other from to start end down rests left = cc
start_leaves here None None y at other from to start end down rests left = tt
start_leaves here None (Some i) None at other from to start end down rests left = tt
start_leaves here None (Some i) (Some j) at other from to start end down rests left = left rests.journal

pub pair_stays_same : (p : PairView) → PairStays p p
pair_stays_same p = record { first = stays_same p.first; second = stays_same p.second }

-- ---- a host over disks that a former run left

pub hold_still : (p q : PairView) → PairStays p q → HoldAs p q
hold_still p q stays = record { first = still_holds p.first q.first stays.first; second = still_holds p.second q.second stays.second }

pub opened_still : (here : NodeId) (p q r : PairView) → PairStays p q → PairOnward q r → PairStays q r ⊎ StandOn here q r
    → HoldAs p r ⊎ (WereBlank p ⊎ StandOn here p r)
opened_still here p q r stays on (inl h) = inl (hold_still p r (pair_stays_join p q r stays h))
opened_still here p q r stays on (inr h) = inr (inr (stand_since here p q r stays on h))
