-- What a stop in an event leaves of a node.
use Rattle.std.specs.{Prelude.{⊤, nat_le, IsTrue, IsSome, if◌then◌else◌}, Option.option_map, Result.{IsOkAnd, result_unwrap_or}, Str.bytes_eq}
use Rattle.std.proofs.Common.{◌≡◌, ◌≢◌, ◌⊎◌, inl, inr, ⊎_elim, ℕ, zero, suc, ◌+◌, ◌-◌, ◌<◌, ◌≤◌, ◌==◌, Bool, true, false, not, List, [], ◌∷◌, ◌++◌, Option}
use Rattle.std.proofs.{Common.{Some, None, IfSome, Result, Ok, Err, refl, sym, ◌∙◌, ap, subst, arith}, lemmas.Bool.{cases_lt, Decides.nat_tests}}
use Rattle.spl_agree.proofs.Tests.{bool_cases}
use Rattle.spl_circuit.specs.Nodes.{NodeId, CircuitId}
use Rattle.spl_edge.specs.Devices.{armed_with, fails_at, Onward, Rose, Image, MayLeave, IsSettled, settled_at, Picked, picked_bytes, picked_of, DiskView}
use Rattle.spl_edge.specs.{Devices.image_now, declared.{disk.{Armed.Armed, Arming.{Arming, TheVariants.{Off, After, At}}}, fill.Fill.{Fill, TheVariants.Old}}}
use Rattle.spl_journal.{specs.{Gate.{ByCalls, NamesOne, opened}, Records.is_kept}, proofs.Images.only_settled}
use Rattle.spl_snapshot.{proofs.Keeps.both_if, specs.{Counting.{chosen, pair_records, IfBoth, PairLeavesBetween}, Stopped.kept_on}}
use Rattle.spl_wire.specs.declared.{change.Change.Change, event.Event.Event}
use Rattle.spl_cell_rules.specs.{Cells.{Cell, site_at}, Changes.{changes_made, stopped_cell}, Plans.plan_of}
use Rattle.spl_node.specs.{Stands.{PicksWith, Rests, made_cell, Make, StandFor}, Records.{is_record, recorded_cell}, Kept.cells_after, Stopping.Arms}
use Rattle.spl_node.specs.Stopping.{HaveCells, IsInCheckpoint, IsStopping, PicksArmed, PicksMake, cells_stopped, counting_arming, fill_of, has_changes, keeps}
use Rattle.spl_node.{specs.{Stopping.{other_arming, passing}, declared.stopping.Stopping.{Stopping, TheVariants.{Cut, Fail}}}, proofs.Booleans.bytes_are}
use Rattle.spl_node.proofs.{Booleans.{le_is, is_le}, Hosting.{both_apply, both_told, ok_of, settled_now}, Stops.stopped-moved}

-- ---- which calls pass

pub eq_is : (a b : ℕ) → a ≡ b → (a == b) ≡ true
eq_is a b h = grind (arith, nat_tests)

is_eq : (a b : ℕ) → (a == b) ≡ true → a ≡ b
is_eq a b h = grind (arith, nat_tests)

pub not_le : (a b : ℕ) → nat_le a b ≡ false → b < a
not_le a b h = grind (arith, nat_tests)

-- the calls from this moment on that pass
abbrev pub Pass : Armed → ℕ → ℕ → Type 0
Pass armed m n = (j : ℕ) → j < n → IsTrue (fails_at armed (m + j)) → ⊥

after_most : (k m n : ℕ) → Pass (armed_with (After k) m) m n → n ≤ k
after_most k m n h = ⊎_elim (λ (lt : k < n). absurd (h k lt (le_is k (m + k - m) (omega arith)))) (λ (le : n ≤ k). le) (cases_lt k n)

at_most : (k m n : ℕ) → 1 ≤ k → Pass (armed_with (At k) m) m n → n < k
at_most k m n pos h =
    ⊎_elim (λ (lt : n < k). lt) (λ (le : k ≤ n). absurd (h (k - 1) (omega (arith, pos, le)) (eq_is (m + (k - 1) - m + 1) k (omega (arith, pos)))))
    (cases_lt n k)

is_after : (k m n : ℕ) → IsTrue (fails_at (armed_with (After k) m) (m + n)) → k ≤ n
is_after k m n due = let le : k ≤ m + n - m = is_le k (m + n - m) due in omega (arith, le)

is_at : (k m n : ℕ) → IsTrue (fails_at (armed_with (At k) m) (m + n)) → n ≡ k - 1
is_at k m n due = let same : m + n - m + 1 ≡ k = is_eq (m + n - m + 1) k due in omega (arith, same)

pub kept_four : (n : ℕ) (fill : Fill) → 4 ≤ n → is_kept n fill ≡ true
kept_four zero fill le = absurd (omega (arith, le))
kept_four (suc zero) fill le = absurd (omega (arith, le))
kept_four (suc (suc zero)) fill le = absurd (omega (arith, le))
kept_four (suc (suc (suc zero))) fill le = absurd (omega (arith, le))
kept_four (suc (suc (suc (suc n)))) fill le = refl

four_fail : (call m : ℕ) (low : Bool) → nat_le call 4 ≡ low → 1 ≤ call → Pass (armed_with (if low then At call else After 4) m) m 4 → 4 ≤ call - 1
four_fail call m true is pos h = let lt : 4 < call = at_most call m 4 pos h in omega (arith, lt)
four_fail call m false is pos h = let lt : 4 < call = not_le call 4 is in omega (arith, lt)

-- where the four calls of a record pass the arming lets them pass
pub four_pass : (h : Stopping) (armed : Armed) (m : ℕ) → armed ≡ armed_with (counting_arming h) m → IsStopping h → Pass armed m 4 → 4 ≤ passing h
four_pass (Cut calls fill) armed m is stopping pass = after_most calls m 4 (subst (λ (a : Armed). Pass a m 4) is pass)
four_pass (Fail call) armed m is stopping pass = four_fail call m (nat_le call 4) refl stopping (subst (λ (a : Armed). Pass a m 4) is pass)

pub four_kept : (h : Stopping) (armed : Armed) (m : ℕ) → armed ≡ armed_with (counting_arming h) m → IsStopping h → Pass armed m 4 → keeps h ≡ true
four_kept h armed m is stopping pass = kept_four (passing h) (fill_of h) (four_pass h armed m is stopping pass)

kept_fail : (call m n : ℕ) (low : Bool) → nat_le call 4 ≡ low → 1 ≤ call → IsTrue (fails_at (armed_with (if low then At call else After 4) m) (m + n))
    → is_kept n Old ≡ is_kept (call - 1) Old
kept_fail call m n true is pos due = ap (λ (k : ℕ). is_kept k Old) (is_at call m n due)
kept_fail call m n false is pos due =
    let lt : 4 < call = not_le call 4 is in kept_four n Old (is_after 4 m n due) ∙ sym (kept_four (call - 1) Old (omega (arith, lt)))

-- the calls before the one that the arming names are those that pass
pub named_kept : (h : Stopping) (armed : Armed) (m n : ℕ) → armed ≡ armed_with (counting_arming h) m → IsStopping h → Pass armed m n
    → IsTrue (fails_at armed (m + n)) → is_kept n (fill_of h) ≡ keeps h
named_kept (Cut calls fill) armed m n is stopping pass due =
    let most : n ≤ calls = after_most calls m n (subst (λ (a : Armed). Pass a m n) is pass) in
    let least : calls ≤ n = is_after calls m n (subst (λ (a : Armed). IsTrue (fails_at a (m + n))) is due) in
    let same : n ≡ calls = omega (arith, most, least) in
    ap (λ (k : ℕ). is_kept k fill) same
named_kept (Fail call) armed m n is stopping pass due =
    kept_fail call m n (nat_le call 4) refl stopping (subst (λ (a : Armed). IsTrue (fails_at a (m + n))) is due)

off_fail : (call : ℕ) (low : Bool) → (if low then At call else After 4) ≡ Off → ⊥
off_fail call true off = cc
off_fail call false off = cc

never_off : (h : Stopping) → counting_arming h ≡ Off → ⊥
never_off (Cut calls fill) off = cc
never_off (Fail call) off = off_fail call (nat_le call 4) off

pub is_armed : (h : Stopping) (armed : Armed) (m : ℕ) → armed ≡ armed_with (counting_arming h) m → armed.arming ≡ Off → ⊥
is_armed h armed m is off = never_off h (sym (ap (λ (a : Armed). a.arming) is) ∙ off)

-- ---- the calls of a checkpoint

four_more : (call m : ℕ) (low : Bool) → nat_le call 4 ≡ low → 4 ≤ call - 1 → NamesOne (armed_with (if low then At call else After 4) m) m 4 → ⊥
four_more call m true is more one = let le : call ≤ 4 = is_le call 4 is in absurd (omega (arith, le, more))
four_more call m false is more one = let le : 4 ≤ one.0 = is_after 4 m one.0 one.2 in let less : one.0 < 4 = one.1 in absurd (omega (arith, le, less))

-- the disk that counts isn't stopped at a record
pub none_of_four : (h : Stopping) (armed : Armed) (m : ℕ) → armed ≡ armed_with (counting_arming h) m → IsInCheckpoint h → NamesOne armed m 4 → ⊥
none_of_four (Cut calls fill) armed m is within one =
    let le : calls ≤ one.0 = is_after calls m one.0 (subst (λ (a : Armed). IsTrue (fails_at a (m + one.0))) is one.2) in
    let less : one.0 < 4 = one.1 in
    absurd (omega (arith, le, less, within.after))
none_of_four (Fail call) armed m is within one = four_more call m (nat_le call 4) refl within.after (subst (λ (a : Armed). NamesOne a m 4) is one)

eight_at : (call m : ℕ) (low : Bool) → nat_le call 4 ≡ low → 4 ≤ call - 1 → call - 1 < 12 → NamesOne (armed_with (if low then After 4 else At (call - 4)) m) m 8
eight_at call m true is more few = let le : call ≤ 4 = is_le call 4 is in absurd (omega (arith, le, more))
eight_at call m false is more few = (call - 5, omega (arith, more, few), eq_is (m + (call - 5) - m + 1) (call - 4) (omega (arith, more)))

-- the other disk is stopped at a checkpoint
pub one_of_eight : (h : Stopping) (armed : Armed) (m : ℕ) → armed ≡ armed_with (other_arming h) m → IsInCheckpoint h → NamesOne armed m 8
one_of_eight (Cut calls fill) armed m is within =
    subst (λ (a : Armed). NamesOne a m 8) (sym is)
    (calls - 4, omega (arith, within.after, within.before), le_is (calls - 4) (m + (calls - 4) - m) (omega arith))
one_of_eight (Fail call) armed m is within = subst (λ (a : Armed). NamesOne a m 8) (sym is) (eight_at call m (nat_le call 4) refl within.after within.before)

-- ---- whether there are changes

pub none_or_some : (xs : List Change) → (xs ≡ []) ⊎ (xs ≢ [])
none_or_some [] = inl refl
none_or_some (x ∷ xs) = inr (λ h. cc)

pub has_some : (xs : List Change) → xs ≢ [] → true ≡ has_changes xs
has_some [] some = absurd (some refl)
has_some (x ∷ xs) some = refl

-- a disk failed, so there are
pub some_rose : {T : Type 0} (f g : T → ℕ) (old new : T) (xs : List Change) → (xs ≡ [] → new ≡ old) → Rose (f old) (f new) ⊎ Rose (g old) (g new) → xs ≢ []
some_rose f g old new xs still rose none =
    ⊎_elim (λ (r : f old < f new). let same : f new ≡ f old = ap f (still none) in absurd (omega (arith, r, same)))
    (λ (r : g old < g new). let same : g new ≡ g old = ap g (still none) in absurd (omega (arith, r, same))) rose

-- ---- the cells

pub have_cells : (here : NodeId) (cells target : CircuitId → Cell) (x y : List ℕ) → ((i : CircuitId) → stopped_cell (cells i) ≡ target i)
    → StandFor here cells x y → HaveCells here target x y
have_cells here cells target x y same stands = by (pair_records is_record x y) stands
  where
    by : (r : Result (List (List ℕ)) ℕ) → IsOkAnd r (Make here cells) → IsOkAnd r (λ rs. (c : CircuitId) → recorded_cell here c rs ≡ target c)
    by (Ok rs) h = λ i. h i ∙ same i
    by (Err at) h = h

module _ (here : NodeId) (c : CircuitId) (before : CircuitId → Cell) where
  -- nothing was kept, or there was nothing
  pub before_cells : (xs : List Change) (kept : Bool) → (kept ≡ false) ⊎ (xs ≡ []) → (i : CircuitId)
      → stopped_cell (before i) ≡ cells_stopped here before c xs kept i
  before_cells xs kept lost i = by (bool_cases (bytes_eq c i))
    where
      lost_is : (k : Bool) → (k ≡ false) ⊎ (xs ≡ []) → stopped_cell (before c) ≡ stopped_cell (if k then changes_made here (before c) xs else before c)
      lost_is false l = refl
      lost_is true (inl wrong) = cc
      lost_is true (inr none) = ap (λ (ys : List Change). stopped_cell (changes_made here (before c) ys)) (sym none)

      by : (bytes_eq c i ≡ true) ⊎ (bytes_eq c i ≡ false) → stopped_cell (before i) ≡ cells_stopped here before c xs kept i
      by (inl h) = rw h (ap (λ (k : CircuitId). stopped_cell (before k)) (sym (bytes_are c i h)) ∙ lost_is kept lost)
      by (inr h) = rw h refl

  module _ (e : Event) where
    pub after_cells : (kept : Bool) → (kept ≡ true) ⊎ ((plan_of (site_at here c) (before c) e).changes ≡ []) → (i : CircuitId)
        → stopped_cell (cells_after here before c e i) ≡ cells_stopped here before c (plan_of (site_at here c) (before c) e).changes kept i
    after_cells kept all i = by (bool_cases (bytes_eq c i))
      where
        kept_is : (k : Bool) → (k ≡ true) ⊎ ((plan_of (site_at here c) (before c) e).changes ≡ [])
            → stopped_cell (changes_made here (before c) (plan_of (site_at here c) (before c) e).changes)
            ≡ stopped_cell (if k then changes_made here (before c) (plan_of (site_at here c) (before c) e).changes else before c)
        kept_is true l = refl
        kept_is false (inl wrong) = cc
        kept_is false (inr none) = ap (λ (ys : List Change). stopped_cell (changes_made here (before c) ys)) none

        by : (bytes_eq c i ≡ true) ⊎ (bytes_eq c i ≡ false)
            → stopped_cell (cells_after here before c e i) ≡ cells_stopped here before c (plan_of (site_at here c) (before c) e).changes kept i
        by (inl h) =
            rw h (stopped-moved here (changes_made here (before c) (plan_of (site_at here c) (before c) e).changes)
            (plan_of (site_at here c) (before c) e).admin (plan_of (site_at here c) (before c) e).service ∙ kept_is kept all)
        by (inr h) = rw h refl

    pub have_kept : (kept : Bool) (x y : List ℕ) → StandFor here (chosen kept before (cells_after here before c e)) x y
        → HaveCells here (cells_stopped here before c (plan_of (site_at here c) (before c) e).changes kept) x y
    have_kept false x y stands =
        have_cells here before (cells_stopped here before c (plan_of (site_at here c) (before c) e).changes false) x y
        (before_cells (plan_of (site_at here c) (before c) e).changes false (inl refl)) stands
    have_kept true x y stands =
        have_cells here (cells_after here before c e) (cells_stopped here before c (plan_of (site_at here c) (before c) e).changes true) x y
        (after_cells true (inl refl)) stands

-- ---- what is picked

-- two disks that report stand for the cells, and something follows from that
pub stand_then : (here : NodeId) (before : CircuitId → Cell) (o p : Option Image) (Q : Type 0) → IsSome o → IsSome p
    → IfBoth o p (λ i j. StandFor here before i.bytes j.bytes) → IfBoth o p (λ i j. StandFor here before i.bytes j.bytes → Q) → Q
stand_then here before o p Q told other_told stands h =
    both_told o p (λ i j. Q) Q told other_told (both_apply o p (λ i j. StandFor here before i.bytes j.bytes) (λ i j. Q) stands h) (λ i j is other_is q. q)

-- each image at the last moments stands for these cells
pub picks_left : (fill : Fill) (here : NodeId) (cells target : CircuitId → Cell) (at other : ℕ → Option Image) (m n : ℕ)
    → ((i : CircuitId) → stopped_cell (cells i) ≡ target i) → PairLeavesBetween at m m other n n (StandFor here cells)
    → IfBoth (at m) (other n) (PicksMake fill here target)
picks_left fill here cells target at other m n same left =
    both_if (at m) (other n) (λ i j. (c d : List ℕ) → MayLeave i c → MayLeave j d → StandFor here cells c d) (PicksMake fill here target)
    (left m n (omega arith) (omega arith) (omega arith) (omega arith))
    (λ i j all a b. have_cells here cells target (picked_bytes fill i) (picked_bytes fill j) same (all (picked_bytes fill i) (picked_bytes fill j) a b))

-- nothing is pending on either
pub picks_rest : (fill : Fill) (here : NodeId) (cells target : CircuitId → Cell) (o p : Option Image)
    → ((i : CircuitId) → stopped_cell (cells i) ≡ target i) → IfSome o IsSettled → IfSome p IsSettled
    → IfBoth o p (λ i j. StandFor here cells i.bytes j.bytes) → IfBoth o p (PicksMake fill here target)
picks_rest fill here cells target None p same a b stands = tt
picks_rest fill here cells target (Some i) None same a b stands = tt
picks_rest fill here cells target (Some i) (Some j) same a b stands = λ c_left d_left.
    have_cells here cells target (picked_bytes fill i) (picked_bytes fill j) same
    (subst (λ (c : List ℕ). StandFor here cells c (picked_bytes fill j)) (sym (only_settled i (picked_bytes fill i) a c_left))
    (subst (λ (d : List ℕ). StandFor here cells i.bytes d) (sym (only_settled j (picked_bytes fill j) b d_left)) stands))

-- so many calls of an append succeeded on the disk that counts, and the other is as it was
pub picks_stopped : (second : Bool) (fill : Fill) (S : List ℕ → List ℕ → Type 0) (end : ℕ) (piece : List ℕ) (n : ℕ) (o p x y : Option Image)
    → IfSome o IsSettled → IfSome p IsSettled → IsSome o → IsSome p
    → chosen second x y ≡ option_map (opened end piece n) (chosen second o p) → chosen second y x ≡ chosen second p o
    → IfBoth o p (λ i j. S (kept_on (not second) fill end piece n i) (kept_on second fill end piece n j))
    → IfBoth x y (λ i j. MayLeave i (picked_bytes fill i) → MayLeave j (picked_bytes fill j) → S (picked_bytes fill i) (picked_bytes fill j))
picks_stopped second fill S end piece n None p x y a b told other_told is other_is h = cc
picks_stopped second fill S end piece n (Some i) None x y a b told other_told is other_is h = cc
picks_stopped false fill S end piece n (Some i) (Some j) x y a b told other_told is other_is h =
    subst (λ (u : Option Image). IfBoth u y
    (λ i j. MayLeave i (picked_bytes fill i) → MayLeave j (picked_bytes fill j) → S (picked_bytes fill i) (picked_bytes fill j))) (sym is)
    (subst (λ (v : Option Image). IfBoth (Some (opened end piece n i)) v
    (λ i j. MayLeave i (picked_bytes fill i) → MayLeave j (picked_bytes fill j) → S (picked_bytes fill i) (picked_bytes fill j))) (sym other_is)
    (λ c_left d_left. subst (λ (d : List ℕ). S (picked_bytes fill (opened end piece n i)) d) (sym (only_settled j (picked_bytes fill j) b d_left)) h))
picks_stopped true fill S end piece n (Some i) (Some j) x y a b told other_told is other_is h =
    subst (λ (v : Option Image). IfBoth x v
    (λ i j. MayLeave i (picked_bytes fill i) → MayLeave j (picked_bytes fill j) → S (picked_bytes fill i) (picked_bytes fill j))) (sym is)
    (subst (λ (u : Option Image). IfBoth u (Some (opened end piece n j))
    (λ i j. MayLeave i (picked_bytes fill i) → MayLeave j (picked_bytes fill j) → S (picked_bytes fill i) (picked_bytes fill j))) (sym other_is)
    (λ c_left d_left. subst (λ (c : List ℕ). S c (picked_bytes fill (opened end piece n j))) (sym (only_settled i (picked_bytes fill i) a c_left)) h))

-- what holds of each of two disks, of the chosen one
pub chosen_ap : {T U : Type 0} (f : T → U) (second : Bool) (a b : T) → f (chosen second a b) ≡ chosen second (f a) (f b)
chosen_ap f false a b = refl
chosen_ap f true a b = refl

-- ---- the calls of a record

pub four_passed : {S T : Type 0} (x y : DiskView) (f : ℕ → Image → Image) (ok failed : Type 0) → ok
    → (ByCalls 4 x y f ok failed × S) ⊎ (ByCalls 4 x y f ⊤ ⊥ × T) → Pass x.armed x.moment 4
four_passed x y f ok failed is_ok (inl h) = λ j low due. let all : h.0.calls ≡ 4 = h.0.whole is_ok in h.0.passed j (omega (arith, all, low)) due
four_passed x y f ok failed is_ok (inr h) = λ j low due. let all : h.0.calls ≡ 4 = h.0.whole tt in h.0.passed j (omega (arith, all, low)) due

-- where a disk has failed: a call of the record was named, or all four of them passed
module _ {D : Type 0} (h : Stopping) (here : NodeId) (c : CircuitId) (before : CircuitId → Cell) (e : Event) (view : D → DiskView) (second : Bool)
    (a b x y : D) (end : ℕ) (piece : List ℕ)
    (is : (view (chosen second a b)).armed ≡ armed_with (counting_arming h) (view (chosen second a b)).moment) (stopping : IsStopping h)
    (rest : IfSome (image_now (view a)) IsSettled) (other_rest : IfSome (image_now (view b)) IsSettled) (told : IsSome (image_now (view a)))
    (other_told : IsSome (image_now (view b)))
    (stands : IfBoth (image_now (view a)) (image_now (view b)) (λ i j. StandFor here before i.bytes j.bytes))
    (stopped : (n : ℕ) (fill : Fill)
    → IfBoth (image_now (view a)) (image_now (view b))
    (λ i j. StandFor here before i.bytes j.bytes
    → StandFor here (chosen (is_kept n fill) before (cells_after here before c e)) (kept_on (not second) fill end piece n i)
    (kept_on second fill end piece n j))) where
  abbrev Afterwards : Type 0
  Afterwards =
      PairLeavesBetween (view x).image_at (view x).moment (view x).moment (view y).image_at (view y).moment (view y).moment
      (StandFor here (cells_after here before c e))

  abbrev Left : Type 0
  Left = IfBoth (image_now (view x)) (image_now (view y))
      (PicksMake (fill_of h) here (cells_stopped here before c (plan_of (site_at here c) (before c) e).changes (keeps h)))

  lost_at : (n : ℕ) → is_kept n (fill_of h) ≡ keeps h
      → image_now (view (chosen second x y)) ≡ option_map (opened end piece n) (image_now (view (chosen second a b)))
      → chosen second y x ≡ chosen second b a → Left
  lost_at n same now other =
      picks_stopped second (fill_of h) (HaveCells here (cells_stopped here before c (plan_of (site_at here c) (before c) e).changes (keeps h))) end piece n
      (image_now (view a)) (image_now (view b)) (image_now (view x)) (image_now (view y)) rest other_rest told other_told
      (sym (chosen_ap (λ (d : D). image_now (view d)) second x y)
      ∙ (now ∙ ap (option_map (opened end piece n)) (chosen_ap (λ (d : D). image_now (view d)) second a b)))
      (sym (chosen_ap (λ (d : D). image_now (view d)) second y x)
      ∙ (ap (λ (d : D). image_now (view d)) other ∙ chosen_ap (λ (d : D). image_now (view d)) second b a))
      (both_if (image_now (view a)) (image_now (view b))
      (λ i j. StandFor here (chosen (is_kept n (fill_of h)) before (cells_after here before c e)) (kept_on (not second) (fill_of h) end piece n i)
      (kept_on second (fill_of h) end piece n j))
      (λ i j. HaveCells here (cells_stopped here before c (plan_of (site_at here c) (before c) e).changes (keeps h))
      (kept_on (not second) (fill_of h) end piece n i) (kept_on second (fill_of h) end piece n j))
      (both_apply (image_now (view a)) (image_now (view b)) (λ i j. StandFor here before i.bytes j.bytes)
      (λ i j. StandFor here (chosen (is_kept n (fill_of h)) before (cells_after here before c e)) (kept_on (not second) (fill_of h) end piece n i)
      (kept_on second (fill_of h) end piece n j)) stands (stopped n (fill_of h)))
      (λ i j s. have_kept here c before e (keeps h) (kept_on (not second) (fill_of h) end piece n i) (kept_on second (fill_of h) end piece n j)
      (subst (λ (k : Bool). StandFor here (chosen k before (cells_after here before c e)) (kept_on (not second) (fill_of h) end piece n i)
      (kept_on second (fill_of h) end piece n j)) same s)))

  pub append_stopped : {ok failed : Type 0} → failed
      → (ByCalls 4 (view (chosen second a b)) (view (chosen second x y)) (opened end piece) ok failed × (chosen second y x ≡ chosen second b a))
      ⊎ (ByCalls 4 (view (chosen second a b)) (view (chosen second x y)) (opened end piece) ⊤ ⊥
      × IfBoth (image_now (view a)) (image_now (view b)) (λ i j. StandFor here before i.bytes j.bytes → Afterwards)) → Left
  append_stopped fault (inl k) =
      let due : IsTrue (fails_at (view (chosen second a b)).armed ((view (chosen second a b)).moment + k.0.calls)) =
      k.0.named fault (is_armed h (view (chosen second a b)).armed (view (chosen second a b)).moment is) in
      lost_at k.0.calls (named_kept h (view (chosen second a b)).armed (view (chosen second a b)).moment k.0.calls is stopping k.0.passed due)
      (k.0.still due ∙ k.0.stands) k.1
  append_stopped fault (inr k) =
      picks_left (fill_of h) here (cells_after here before c e) (cells_stopped here before c (plan_of (site_at here c) (before c) e).changes (keeps h))
      (view x).image_at (view y).image_at (view x).moment (view y).moment
      (after_cells here c before e (keeps h)
      (inl (four_kept h (view (chosen second a b)).armed (view (chosen second a b)).moment is stopping
      (λ j low due. let all : k.0.calls ≡ 4 = k.0.whole tt in k.0.passed j (omega (arith, all, low)) due))))
      (stand_then here before (image_now (view a)) (image_now (view b)) Afterwards told other_told stands k.1)

-- ---- armed, handled, picked

-- the disk that doesn't count failed in between
pub rose_within : {D : Type 0} (view : D → DiskView) (second : Bool) (a b a1 b1 a2 b2 a3 b3 : D) → (view a1).faults ≡ (view a).faults
    → (view b1).faults ≡ (view b).faults → (view a3).faults ≡ (view a2).faults → (view b3).faults ≡ (view b2).faults
    → Rose (view (chosen second b1 a1)).faults (view (chosen second b2 a2)).faults → Rose (view (chosen second b a)).faults (view (chosen second b3 a3)).faults
rose_within view false a b a1 b1 a2 b2 a3 b3 same other_same last other_last rose = omega (arith, other_same, other_last, rose)
rose_within view true a b a1 b1 a2 b2 a3 b3 same other_same last other_last rose = omega (arith, same, last, rose)

-- a disk that was armed says what it reported
pub arms_told : (arming : Arming) (x y : DiskView) → Arms arming x y → image_now y ≡ image_now x
arms_told arming x y arms = ap y.image_at arms.moment ∙ arms.same x.moment

pub is_one : (second : Bool) → (chosen second 0 1 == 1) ≡ second
is_one false = refl
is_one true = refl

-- the disk that counts is armed for the calls of the record
pub armed_counting : {D : Type 0} (view : D → DiskView) (second : Bool) (a b x y : D) (k l : Arming)
    → (view x).armed ≡ armed_with (chosen second k l) (view a).moment → (view x).moment ≡ (view a).moment
    → (view y).armed ≡ armed_with (chosen second l k) (view b).moment → (view y).moment ≡ (view b).moment
    → (view (chosen second x y)).armed ≡ armed_with k (view (chosen second x y)).moment
armed_counting view false a b x y k l first first_now other other_now = first ∙ ap (armed_with k) (sym first_now)
armed_counting view true a b x y k l first first_now other other_now = other ∙ ap (armed_with k) (sym other_now)

pub picks_armed : (fill : Fill) (arming : Arming) (x x1 x2 x3 : DiskView) → Arms arming x x1 → Onward x1 x2 → PicksWith fill x2 x3 → PicksArmed fill arming x x3
picks_armed fill arming x x1 x2 x3 arms on picks =
    let one : x1.moment ≡ x.moment = arms.moment in
    let two : x1.moment ≤ x2.moment = on.later in
    let three : x3.moment ≡ x2.moment + 1 = picks.tick in
    let none : x1.faults ≡ x.faults = arms.faults_stay in
    let more : x1.faults ≤ x2.faults = on.no_less in
    let stay : x3.faults ≡ x2.faults = picks.faults_stay in
    record {
      image = picked_bytes fill picks.picks.image;
      kept = picks.picks.kept
          ∙ (ap (λ (l : List Picked). l ++ picked_of fill x2.armed.arming x2.faults picks.picks.image ∷ []) (on.picks ∙ arms.picks_stay)
          ∙ (ap (λ (a : Armed). x.picks ++ picked_of fill a.arming x2.faults picks.picks.image ∷ []) (on.armed ∙ arms.armed)
          ∙ ap (λ (n : ℕ). x.picks ++ picked_of fill arming n picks.picks.image ∷ []) (sym stay)));
      holds = picks.picks.holds;
      disarmed = picks.disarmed;
      past = λ t low. picks.past t (omega (arith, one, two, low)) ∙ (on.past t (omega (arith, one, low)) ∙ arms.same t);
      later = omega (arith, one, two, three);
      no_less = omega (arith, none, more, stay);
    }

-- ---- the host after it

module _ (fill : Fill) (here : NodeId) (target : CircuitId → Cell) (o p x y : Option Image) (i j : Image) (is : o ≡ Some i) (other_is : p ≡ Some j)
    (left : MayLeave i (picked_bytes fill i)) (other_left : MayLeave j (picked_bytes fill j))
    (holds : x ≡ Some (settled_at (picked_bytes fill i))) (other_holds : y ≡ Some (settled_at (picked_bytes fill j)))
    (make : IfBoth o p (PicksMake fill here target)) where
  have : HaveCells here target (picked_bytes fill i) (picked_bytes fill j)
  have = subst (λ (u : Option Image). IfSome u (λ k. PicksMake fill here target i k)) other_is
      (subst (λ (u : Option Image). IfBoth u p (PicksMake fill here target)) is make) left other_left

  at_picked : (P : Option Image → Option Image → Type 0) → P (Some (settled_at (picked_bytes fill i))) (Some (settled_at (picked_bytes fill j))) → P x y
  at_picked P h =
      subst (λ (u : Option Image). P u y) (sym holds) (subst (λ (v : Option Image). P (Some (settled_at (picked_bytes fill i))) v) (sym other_holds) h)

  pub picked_rests : Rests x y
  picked_rests = at_picked Rests (record {
    first_is = settled_now (picked_bytes fill i);
    second_is = settled_now (picked_bytes fill j);
    journal = ok_of (pair_records is_record (picked_bytes fill i) (picked_bytes fill j)) (λ rs. (c : CircuitId) → recorded_cell here c rs ≡ target c) have;
  })

  pub picked_cells : (c : CircuitId) → made_cell here c x y ≡ target c
  picked_cells c = at_picked (λ u v. made_cell here c u v ≡ target c) (made_is (pair_records is_record (picked_bytes fill i) (picked_bytes fill j)) have)
    where
      made_is : (r : Result (List (List ℕ)) ℕ) → IsOkAnd r (λ rs. (c : CircuitId) → recorded_cell here c rs ≡ target c)
          → recorded_cell here c (result_unwrap_or r []) ≡ target c
      made_is (Ok rs) h = h c
      made_is (Err at) h = absurd h
