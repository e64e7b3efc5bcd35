-- The records of a turn.
use Rattle.std.specs.{Prelude.{◌==◌, length, map, true, false, Option, IfSome, if◌then◌else◌}, List.AllByRecursion, Str.bytes_eq, Result.IsOkAnd}
use Rattle.std.proofs.Common.{◌≡◌, ◌⊎◌, inl, inr, ⊎_elim, ℕ, Bool, List, [], ◌∷◌, ◌++◌, Result, Ok, Err, refl, sym, ◌∙◌, ap, subst, append_assoc}
use Rattle.std.proofs.lemmas.List.{append-nil, map-append, nil_from_length}
use Rattle.spl_agree.proofs.Tests.{eqb_is}
use Rattle.spl_circuit.specs.Nodes.{NodeId, CircuitId}
use Rattle.spl_edge.specs.Devices.{Image, IsSettled}
use Rattle.spl_snapshot.{proofs.Keeps.both_if, specs.Counting.{IfBoth, PairLeavesBetween, PairLeavesBetweenInTurn, pair_records}}
use Rattle.spl_wire.specs.declared.{answer.Answer.Answer, plan.Outgoing.Outgoing}
use Rattle.spl_cell_rules.specs.{Cells.{Cell, site_at}, Changes.{after_plan, stopped_cell}, Plans.plan_of}
use Rattle.spl_journal.specs.Records.{AreGood, IsGood}
use Rattle.spl_node.specs.{Stands.{Make, NodeStands, StandFor, circuit_cell, here_of, is_node_halted}, Records.is_record, Kept.cells_after, Turns.{At, Given}}
use Rattle.spl_node.specs.{Turns.{Handled, RecordsLead, MayBeSent, cells_through, given_at, given_by_events, given_in}, declared.node.Node.Node}
use Rattle.spl_node.{proofs.{Disks.{rest_leaves, turn_map}, Standing.stand_same}, specs.declared.{node.Outcome.Outcome, turn.Turn.Turn}}

-- no record leads to the same cells
pub leads_none : (here : NodeId) (cells : CircuitId → Cell) → RecordsLead here cells cells []
leads_none here cells kept make = subst (Make here cells) (sym (append-nil kept)) make

-- disks that stand for cells from which no record leads on
pub stand_led : (here : NodeId) (before after : CircuitId → Cell) (c d : List ℕ) → RecordsLead here before after [] → StandFor here before c d
    → StandFor here after c d
stand_led here before after c d leads stands = by (pair_records is_record c d) stands
  where
    by : (r : Result (List (List ℕ)) ℕ) → IsOkAnd r (Make here before) → IsOkAnd r (Make here after)
    by (Ok rs) make = subst (Make here after) (append-nil rs) (leads rs make)
    by (Err at) h = h

-- no record is one of an empty list
pub none_of : (rs : List (List ℕ)) → (length rs == 0) ≡ true → rs ≡ []
none_of rs h = nil_from_length rs (eqb_is (length rs) 0 h)

-- no call was made where no record was to be kept: what a stop leaves stands for the cells of now
module _ (here : NodeId) (before now : CircuitId → Cell) (rs : List (List ℕ)) (none : rs ≡ []) (leads : RecordsLead here before now rs)
    (at other : ℕ → Option Image) (m n : ℕ) (a : IfSome (at m) IsSettled) (b : IfSome (other n) IsSettled) where
  pub after_none : IfBoth (at m) (other n) (λ i j. StandFor here before i.bytes j.bytes → PairLeavesBetween at m m other n n (StandFor here now))
  after_none = rest_leaves at other m n a b (λ i j. StandFor here before i.bytes j.bytes) (StandFor here now)
      (λ i j h. stand_led here before now i.bytes j.bytes (subst (RecordsLead here before now) none leads) h)

module _ (here : NodeId) (before mid : CircuitId → Cell) (rs : List (List ℕ)) (leads : RecordsLead here before mid rs) where
  -- an event without changes
  pub leads_still : (after now : CircuitId → Cell) → ((i : CircuitId) → stopped_cell (after i) ≡ stopped_cell (mid i))
      → ((i : CircuitId) → now i ≡ after i) → RecordsLead here before now rs
  leads_still after now same is kept make i = leads kept make i ∙ sym (same i) ∙ sym (ap stopped_cell (is i))

  -- an event with changes, whose record joins
  pub leads_more : (after now : CircuitId → Cell) (bytes : List ℕ) → ((kept : List (List ℕ)) → Make here mid kept → Make here after (kept ++ bytes ∷ []))
      → ((i : CircuitId) → now i ≡ after i) → RecordsLead here before now (rs ++ bytes ∷ [])
  leads_more after now bytes more is kept make i =
      subst (Make here after) (append_assoc kept rs (bytes ∷ [])) (more (kept ++ rs) (leads kept make)) i ∙ sym (ap stopped_cell (is i))

-- one good record more
pub good_more : (fits : List ℕ → Bool) (rs : List (List ℕ)) (r : List ℕ) → AreGood fits rs → IsGood fits r → AreGood fits (rs ++ r ∷ [])
good_more fits [] r good one = (one, tt)
good_more fits (x ∷ rs) r good one = (good.0, good_more fits rs r good.1 one)

-- one outcome more whose messages can be written
pub sendable_more : (os : List Outcome) (o : Outcome) → AllByRecursion MayBeSent os → MayBeSent o → AllByRecursion MayBeSent (os ++ o ∷ [])
sendable_more [] o all one = (one, tt)
sendable_more (x ∷ os) o all one = (all.0, sendable_more os o all.1 one)

-- ---- what a turn has handled

-- the cells after one event more
pub through_more : (here : NodeId) (before : CircuitId → Cell) (es : List At) (x : At) (i : CircuitId)
    → cells_through here before (es ++ x ∷ []) i ≡ cells_after here (cells_through here before es) x.0 x.1 i
through_more here before [] x i = refl
through_more here before (e ∷ es) x i = through_more here (cells_after here before e.0 e.1) es x i

-- and what it gives
pub given_more : (here : NodeId) (before : CircuitId → Cell) (es : List At) (x : At)
    → given_by_events here before (es ++ x ∷ []) ≡ given_by_events here before es ++ given_at here (cells_through here before es) x ∷ []
given_more here before [] x = refl
given_more here before (e ∷ es) x = ap (λ (gs : List Given). given_at here before e ∷ gs) (given_more here (cells_after here before e.0 e.1) es x)

-- an event at cells that are the same
pub after_same : (here : NodeId) (f g : CircuitId → Cell) (x : At) → ((i : CircuitId) → f i ≡ g i) → (i : CircuitId)
    → cells_after here f x.0 x.1 i ≡ cells_after here g x.0 x.1 i
after_same here f g x same i =
    ap (λ (z : Cell). if bytes_eq x.0 i then after_plan here z (plan_of (site_at here x.0) z x.1) else f i) (same x.0)
    ∙ ap (λ (z : Cell). if bytes_eq x.0 i then after_plan here (g x.0) (plan_of (site_at here x.0) (g x.0) x.1) else z) (same i)

pub given_same : (here : NodeId) (f g : CircuitId → Cell) (x : At) → f x.0 ≡ g x.0 → given_at here f x ≡ given_at here g x
given_same here f g x same = ap (given_by_cell here x) same
  where
    given_by_cell : NodeId → At → Cell → Given
    given_by_cell here x z = record { answer = (plan_of (site_at here x.0) z x.1).answer; sends = (plan_of (site_at here x.0) z x.1).sends }

given_is : (o : Outcome) (g : Given) → o.answer ≡ g.answer → o.sends ≡ g.sends → given_in o ≡ g
given_is o g answer sends =
    ap (λ (a : Answer). record { answer = a; sends = o.sends }) answer ∙ ap (λ (xs : List Outgoing). record { answer = g.answer; sends = xs }) sends

-- a turn that handled one event more
pub handled_more : (here : NodeId) (before : CircuitId → Cell) (es : List At) (x : At) (old : Turn) (o : Outcome) (new : Turn) → Handled here before es old
    → here_of new.node ≡ here_of old.node → is_node_halted new.node ≡ false
    → ((c : CircuitId) → circuit_cell new.node c ≡ cells_after (here_of old.node) (circuit_cell old.node) x.0 x.1 c)
    → ((from : CircuitId → Cell) → RecordsLead (here_of old.node) from (circuit_cell old.node) old.records
    → RecordsLead (here_of old.node) from (circuit_cell new.node) new.records)
    → (AreGood is_record old.records → AreGood is_record new.records)
    → o.answer ≡ (plan_of (site_at (here_of old.node) x.0) (circuit_cell old.node x.0) x.1).answer
    → o.sends ≡ (plan_of (site_at (here_of old.node) x.0) (circuit_cell old.node x.0) x.1).sends
    → MayBeSent o
    → new.given.items ≡ old.given.items ++ o ∷ []
    → Handled here before (es ++ x ∷ []) new
handled_more here before es x old o new was same running cells leads good answer sends sendable given = record {
  here_is = same ∙ was.here_is;
  running = running;
  cells = λ c. cells c ∙ ap (λ (n : NodeId). cells_after n (circuit_cell old.node) x.0 x.1 c) was.here_is
      ∙ after_same here (circuit_cell old.node) (cells_through here before es) x was.cells c ∙ sym (through_more here before es x c);
  records = subst (λ (n : NodeId). RecordsLead n before (circuit_cell new.node) new.records) was.here_is
      (leads before (subst (λ (n : NodeId). RecordsLead n before (circuit_cell old.node) old.records) (sym was.here_is) was.records));
  good = good was.good;
  given = ap (map given_in) given ∙ map-append given_in old.given.items (o ∷ [])
      ∙ ap (λ (gs : List Given). gs ++ given_in o ∷ []) was.given
      ∙ ap (λ (g : Given). given_by_events here before es ++ g ∷ [])
      (given_is o (given_at (here_of old.node) (circuit_cell old.node) x) answer sends
      ∙ ap (λ (n : NodeId). given_at n (circuit_cell old.node) x) was.here_is
      ∙ given_same here (circuit_cell old.node) (cells_through here before es) x (was.cells x.0))
      ∙ sym (given_more here before es x);
  sendable = subst (AllByRecursion MayBeSent) (sym given) (sendable_more old.given.items o was.sendable sendable);
}

-- ---- what the disks stand for where a turn is kept

module _ (here : NodeId) (before : CircuitId → Cell) (es : List At) (t : Turn) (was : Handled here before es t) where
  here_leads : RecordsLead (here_of t.node) before (circuit_cell t.node) t.records
  here_leads = subst (λ (n : NodeId). RecordsLead n before (circuit_cell t.node) t.records) (sym was.here_is) was.records

  -- at any moment for the cells before the turn or for those after it
  pub turn_moments : (o p : Option Image) (second : Bool) (at other : ℕ → Option Image) (from to start end : ℕ)
      → ((cells : CircuitId → Cell) → RecordsLead (here_of t.node) cells (circuit_cell t.node) t.records
      → IfBoth o p (λ i j. StandFor (here_of t.node) cells i.bytes j.bytes
      → PairLeavesBetweenInTurn second at from to other start end
      (λ c d. StandFor (here_of t.node) cells c d ⊎ StandFor (here_of t.node) (circuit_cell t.node) c d)))
      → IfBoth o p (λ i j. StandFor here before i.bytes j.bytes
      → PairLeavesBetweenInTurn second at from to other start end (λ c d. StandFor here before c d ⊎ StandFor here (cells_through here before es) c d))
  turn_moments o p second at other from to start end moments = both_if o p
      (λ i j. StandFor here before i.bytes j.bytes
      → PairLeavesBetweenInTurn second at from to other start end (λ c d. StandFor here before c d ⊎ StandFor here (circuit_cell t.node) c d))
      (λ i j. StandFor here before i.bytes j.bytes
      → PairLeavesBetweenInTurn second at from to other start end (λ c d. StandFor here before c d ⊎ StandFor here (cells_through here before es) c d))
      (subst (λ (n : NodeId). IfBoth o p (λ i j. StandFor n before i.bytes j.bytes
      → PairLeavesBetweenInTurn second at from to other start end (λ c d. StandFor n before c d ⊎ StandFor n (circuit_cell t.node) c d))) was.here_is
      (moments before here_leads))
      (λ i j h stands. turn_map second at other from to start end (λ c d. StandFor here before c d ⊎ StandFor here (circuit_cell t.node) c d)
      (λ c d. StandFor here before c d ⊎ StandFor here (cells_through here before es) c d)
      (λ c d. ⊎_elim inl (λ now. inr (stand_same here (circuit_cell t.node) (cells_through here before es) c d (λ k. ap stopped_cell (was.cells k)) now)))
      (h stands))

  -- and once it is kept for those that the node has
  pub turn_stands : (m : Node) (o p x y : Option Image)
      → ((cells : CircuitId → Cell) → RecordsLead (here_of t.node) cells (circuit_cell t.node) t.records
      → IfBoth o p (λ i j. StandFor (here_of t.node) cells i.bytes j.bytes → NodeStands m x y))
      → IfBoth o p (λ i j. StandFor here before i.bytes j.bytes → NodeStands m x y)
  turn_stands m o p x y stands =
      subst (λ (n : NodeId). IfBoth o p (λ i j. StandFor n before i.bytes j.bytes → NodeStands m x y)) was.here_is (stands before here_leads)
