-- A node that stops in an event.
use Rattle.std.specs.Prelude.{◌==◌, is_some}
use Rattle.spl_agree.proofs.Tests.{if_true, if_false}
use Rattle.spl_journal.specs.Records.{is_kept, opens as leaves_open}
use Rattle.spl_circuit_world.specs.{Answers.{bit_of, halt_answer}, Projection.opens}
use Rattle.spl_cell_rules.specs.Cells.{site_at}
use Rattle.spl_node.{specs.{Stands.is_host_up as host_up, Stopping.{FillsHost, FillsJournal}, declared.node.Node.Node}, proofs.Booleans.le_is}
use Rattle.spl_node.proofs.{Leaving.still_stopped, Positions.mapped_there}
use Rattle.spl_node.specs.declared.stopping.Stopping.TheVariants as stopping
use Rattle.spl_wire.specs.declared.answer.Bit.{Bit}
use Rattle.spl_world.specs.{Ended.cells_in, Halts.{IsEventOf, bit_in, bit_answer}, Picks.OnlyOf, Views.{HoldsWorld, Nodes, OnlyAt, slot_id, slot_ids}}
use Rattle.spl_world.{specs.{Views.{slot_up, slot_ups, view_in}, declared.slot.Slot.Slot}, proofs.Common.{◌≡◌, ℕ, zero, suc, ◌-◌, ◌≤◌, inl, inr, Bool, true}}
use Rattle.spl_world.proofs.Common.{false, ◌&&◌, ◌||◌, nat_le, List, slice_get, Option, Some, None, if◌then◌else◌, refl, ap, sym, subst, ◌∙◌, arith, bytes_eq}
use Rattle.spl_world.proofs.Common.{bool_cases, bytes_are, bytes_same, NodeId, CircuitId, PairView, Fill, keeps_record, put_at-here, CircuitWorld, Halts}
use Rattle.spl_world.proofs.Common.{Stops, halted, circuit_happens, step_plan, cells_stopped, event_changes, keeps, Host, Cell, changes_made, stopped_cell}
use Rattle.spl_world.proofs.{Common.{plan_of, is_line, step_circuit, step_node, Step, Answer, Change, Event}, Reading.up_at}
use Rattle.spl_edge.specs.declared.fill.Fill.TheVariants as fill
use Rattle.spl_sched.specs.declared.line.Line.TheVariants as line

-- ---- which record is kept

pub opens_same : (f : Fill) → leaves_open f ≡ opens f
opens_same fill.Old = refl
opens_same fill.New = refl
opens_same (fill.Byte b) = refl

-- by four calls, or by three that leave the gate open
pub kept_by : (n : ℕ) (f : Fill) → is_kept n f ≡ (nat_le 4 n || (n == 3 && opens f))
kept_by zero f = refl
kept_by (suc zero) f = refl
kept_by (suc (suc zero)) f = refl
kept_by (suc (suc (suc zero))) f = opens_same f
kept_by (suc (suc (suc (suc n)))) f = sym (ap (λ (b : Bool). b || (suc (suc (suc (suc n))) == 3 && opens f)) (le_is 4 (suc (suc (suc (suc n)))) (omega arith)))

-- by a call that fails, where it isn't one of the first four
kept_but : (n : ℕ) → is_kept n fill.Old ≡ nat_le 5 (suc n)
kept_but zero = refl
kept_but (suc zero) = refl
kept_but (suc (suc zero)) = refl
kept_but (suc (suc (suc zero))) = refl
kept_but (suc (suc (suc (suc n)))) = sym (le_is 5 (suc (suc (suc (suc (suc n))))) (omega arith))

kept_before : (call : ℕ) → 1 ≤ call → is_kept (call - 1) fill.Old ≡ nat_le 5 call
kept_before zero h = absurd (omega (arith, h))
kept_before (suc n) h = let less : suc n - 1 ≡ n = omega arith in ap (λ (k : ℕ). is_kept k fill.Old) less ∙ kept_but n

-- the rule of lines
pub keeps_cut : (calls : ℕ) (f : Fill) (s : Step) → keeps (stopping.Cut calls f) ≡ keeps_record (line.Cut calls f s)
keeps_cut calls f s = kept_by calls f

pub keeps_fail : (call : ℕ) (s : Step) → 1 ≤ call → keeps (stopping.Fail call) ≡ keeps_record (line.Fail call s)
keeps_fail call s h = kept_before call h

-- calls of a line are numbered from 1
pub fail_from_one : (call : ℕ) (s : Step) → is_line (line.Fail call s) ≡ true → 1 ≤ call
fail_from_one zero s h = absurd cc
fail_from_one (suc n) s h = omega arith

-- ---- the node

-- an event changes what it does by the cell where it comes
changes_same : (here : NodeId) (f g : CircuitId → Cell) (c : CircuitId) (e : Option Event) → f c ≡ g c → event_changes here f c e ≡ event_changes here g c e
changes_same here f g c None same = refl
changes_same here f g c (Some e) same = ap (λ (k : Cell). (plan_of (site_at here c) k e).changes) same

module _ (xs : Nodes) (i : ℕ) (x : Slot) (m : CircuitWorld) (s : Step) (c : CircuitId) (e : Option Event) (h : HoldsWorld c m xs)
    (there : slice_get xs.slots i ≡ Some x) (id : slot_id x ≡ step_node s) (about : step_circuit s ≡ c) (is : IsEventOf e m s) where
  cell_is : (view_in xs x).cells c ≡ m.at (slot_id x)
  cell_is = (h.each i x there).state

  -- it changes at the node what the step does in the world
  pub changes_here : event_changes (slot_id x) (view_in xs x).cells c e ≡ (step_plan m s).changes
  changes_here =
      changes_same (slot_id x) (view_in xs x).cells (λ d. m.at (slot_id x)) c e cell_is
      ∙ ap (λ (n : NodeId). event_changes n (λ d. m.at n) c e) id
      ∙ ap (λ (d : CircuitId). event_changes (step_node s) (λ b. m.at (step_node s)) d e) (sym about) ∙ is

  pub halted_here : (kept : Bool) → cells_stopped (slot_id x) (view_in xs x).cells c (event_changes (slot_id x) (view_in xs x).cells c e) kept c ≡ stopped_cell (if kept then changes_made (slot_id x) (m.at (slot_id x)) (step_plan m s).changes else m.at (slot_id x))
  halted_here kept =
      let cells = (view_in xs x).cells in
      let ys = event_changes (slot_id x) cells c e in
      ap (λ (b : Bool). if b then stopped_cell (if kept then changes_made (slot_id x) (cells c) ys else cells c) else stopped_cell (cells c)) (bytes_same c)
      ∙ ap (λ (k : Cell). stopped_cell (if kept then changes_made (slot_id x) k ys else k)) cell_is
      ∙ ap (λ (zs : List Change). stopped_cell (if kept then changes_made (slot_id x) (m.at (slot_id x)) zs else m.at (slot_id x))) changes_here

-- the cells of other circuits are those of a node that stops
pub stopped_else : (here : NodeId) (cells : CircuitId → Cell) (c : CircuitId) (ys : List Change) (kept : Bool) (d : CircuitId) → bytes_eq c d ≡ false
    → cells_stopped here cells c ys kept d ≡ stopped_cell (cells d)
stopped_else here cells c ys kept d off = ap (λ (b : Bool). if b then stopped_cell (if kept then changes_made here (cells c) ys else cells c) else stopped_cell (cells d)) off

-- the cells after a stop in a step are, except open rounds, those of the world after it
module _ (xs : Nodes) (i : ℕ) (x : Slot) (m : CircuitWorld) (s : Step) (c : CircuitId) (e : Option Event) (h : HoldsWorld c m xs)
    (there : slice_get xs.slots i ≡ Some x) (id : slot_id x ≡ step_node s) (about : step_circuit s ≡ c) (is : IsEventOf e m s) (up : slot_up x ≡ true) where
  abbrev cells : CircuitId → Cell
  cells = (view_in xs x).cells

  abbrev after : CircuitWorld
  after = circuit_happens m (Halts true s)

  halted_cell : after.at (slot_id x) ≡ stopped_cell (changes_made (slot_id x) (m.at (slot_id x)) (step_plan m s).changes)
  halted_cell = subst (λ (n : NodeId). (if m.up n then halted m n true (step_plan m s) else m).at (slot_id x) ≡ stopped_cell (changes_made (slot_id x) (m.at (slot_id x)) (step_plan m s).changes)) id
      (ap (λ (b : Bool). (if b then halted m (slot_id x) true (step_plan m s) else m).at (slot_id x)) (sym (h.each i x there).up ∙ up)
      ∙ put_at-here m.at (slot_id x) (slot_id x) (stopped_cell (changes_made (slot_id x) (m.at (slot_id x)) (step_plan m s).changes)) (bytes_same (slot_id x)))

  pub after_halt : (d : CircuitId) → stopped_cell (cells_stopped (slot_id x) cells c (event_changes (slot_id x) cells c e) true d) ≡ stopped_cell (cells_in c after (slot_id x) cells d)
  after_halt d = elim (bool_cases (bytes_eq c d)) [
    | inl q ↦ subst (λ (k : CircuitId). stopped_cell (cells_stopped (slot_id x) cells c (event_changes (slot_id x) cells c e) true k)
        ≡ stopped_cell (cells_in c after (slot_id x) cells k)) (bytes_are c d q)
        (ap stopped_cell (halted_here xs i x m s c e h there id about is true ∙ sym halted_cell ∙ ap (λ (b : Bool). if b then after.at (slot_id x) else cells c) (sym (bytes_same c))))
    | inr q ↦ ap stopped_cell (stopped_else (slot_id x) cells c (event_changes (slot_id x) cells c e) true d q) ∙ sym (still_stopped (cells d))
        ∙ ap (λ (b : Bool). stopped_cell (if b then after.at (slot_id x) else cells d)) (sym q)
  ]

-- ---- slots

-- no disks changed but those of the node of this index
pub only_of : (xs : Nodes) (i : ℕ) (n : NodeId) (old new : List PairView) → slice_get (slot_ids xs.slots) i ≡ Some n
    → ((z : Slot) → slice_get xs.slots i ≡ Some z → OnlyAt z.position old new) → OnlyOf n xs old new
only_of xs i n old new at only = let z = mapped_there slot_id xs.slots i n at in record { index = i; slot = z.0; there = z.1; id_is = z.2; only = only z.0 z.1 }

pub slot_down : (ss : List Slot) (i : ℕ) (z : Slot) → slice_get ss i ≡ Some z → slice_get (slot_ups ss) i ≡ Some false → slot_up z ≡ false
slot_down ss i z there down = let is : Some (slot_up z) ≡ Some false = sym (up_at ss i z there) ∙ down in cc

-- a node that is down makes no checkpoint
pub down_not_filled : (h : Host) (c : CircuitId) (xs : List Change) → host_up h ≡ false → FillsHost h c xs → ⊥
down_not_filled h c xs down full = by h.node down full
  where
    by : (o : Option Node) → is_some o ≡ false → FillsJournal o c xs → ⊥
    by (Some n) off f = cc
    by None off f = f

-- ---- what is reported

pub bit_up : (m : CircuitWorld) (s : Step) (kept : Bool) → m.up (step_node s) ≡ true → bit_in m s kept ≡ Some (bit_of kept (step_plan m s).changes)
bit_up m s kept up = ap (λ (b : Bool). if b then Some (bit_of kept (step_plan m s).changes) else None) up

pub bit_down : (m : CircuitWorld) (s : Step) (kept : Bool) → m.up (step_node s) ≡ false → bit_in m s kept ≡ None
bit_down m s kept down = ap (λ (b : Bool). if b then Some (bit_of kept (step_plan m s).changes) else None) down

-- so a line is answered
pub said_so : (say : Bit → Answer) (m : CircuitWorld) (s : Step) (kept : Bool) → bit_answer say (bit_in m s kept) ≡ halt_answer say m s kept
said_so say m s kept = go (m.up (step_node s))
  where
    go : (b : Bool) → bit_answer say (if b then Some (bit_of kept (step_plan m s).changes) else None) ≡ (if b then say (bit_of kept (step_plan m s).changes) else bit_answer say None)
    go true = refl
    go false = refl

-- ---- the worlds

-- in the world of the step's circuit its node stops in it, and in each other it stops
pub halted_each : (c : CircuitId) (m : CircuitWorld) (s : Step) (kept : Bool) (old new : Nodes) → HoldsWorld c m old
    → ((w : CircuitWorld) → HoldsWorld (step_circuit s) w old → HoldsWorld (step_circuit s) (circuit_happens w (Halts kept s)) new)
    → ((d : CircuitId) (w : CircuitWorld) → bytes_eq (step_circuit s) d ≡ false → HoldsWorld d w old → HoldsWorld d (circuit_happens w (Stops (step_node s))) new)
    → HoldsWorld c (if bytes_eq (step_circuit s) c then circuit_happens m (Halts kept s) else circuit_happens m (Stops (step_node s))) new
halted_each c m s kept old new h own others = elim (bool_cases (bytes_eq (step_circuit s) c)) [
  | inl q ↦
      let same : step_circuit s ≡ c = bytes_are (step_circuit s) c q in
      if_true (λ (w : CircuitWorld). HoldsWorld c w new) (bytes_eq (step_circuit s) c) (circuit_happens m (Halts kept s)) (circuit_happens m (Stops (step_node s))) q
      (subst (λ (d : CircuitId). HoldsWorld d (circuit_happens m (Halts kept s)) new) same (own m (subst (λ (d : CircuitId). HoldsWorld d m old) (sym same) h)))
  | inr q ↦ if_false (λ (w : CircuitWorld). HoldsWorld c w new) (bytes_eq (step_circuit s) c) (circuit_happens m (Halts kept s)) (circuit_happens m (Stops (step_node s))) q (others c m q h)
]
