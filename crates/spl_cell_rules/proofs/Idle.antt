-- A tick that is reported as idle is nothing but its answer.
use Rattle.std.{specs.Prelude.{Option, Some, None, ◌==◌}, proofs.Common.{◌≡◌, ℕ, true, List, [], ◌∷◌, refl, ap, ◌∙◌}}
use Rattle.spl_agree.specs.{Member.{Group, Member, values, is_spent}, Rows.{row, nothing, coordinator_tick, ask_again, try_first, judge_first, member_tick}}
use Rattle.spl_agree.{specs.{Rows.forward_first, declared.{plan.GroupPlan.GroupPlan, reason.Reason.Reason}}, proofs.Tests.{if_holds, and_left, and_right}}
use Rattle.spl_agree.specs.declared.event.GroupEvent.TheVariants as group
use Rattle.spl_circuit.specs.declared.act.Act.{Act}
use Rattle.spl_command.specs.declared.batch.Batch.{Batch}
use Rattle.spl_wire.specs.declared.plan.Plan.{Plan}
use Rattle.spl_wire.specs.declared.event.Event.TheVariants as event
use Rattle.spl_cell_rules.specs.{Cells.{Bound, Cell, Held, Empty, Purged, Site, Deed, Turns, Acts, Alone, is_open_mark, runs}, Idle.{is_idle_note, is_idle}}
use Rattle.spl_cell_rules.specs.Plans.{tells_only, plan_of, planned, both_plans, group_plan, group_row, admin_lane, service_lane}

-- ---- in a group

module _ {V : Type 0} (g : Group V) (here : ℕ) (m : Member V) where
  abbrev NothingIfIdle : GroupPlan V → Type 0
  NothingIfIdle p = is_idle_note p.note ≡ true → p ≡ nothing p.note

  judges : (v : V) (o : Option Reason) → NothingIfIdle (judge_first g here m v o)
  judges v (Some why) h = cc
  judges v None h = cc

  tries : (us : List V) → NothingIfIdle (try_first g here m us)
  tries [] h = refl
  tries (v ∷ vs) h = judges v (g.rules.check (values m.history) v) h

  asks : (o : ℕ × List ℕ) (us : List V) → NothingIfIdle (ask_again g here m o us)
  asks o [] h = refl
  asks o (v ∷ vs) h = cc

  leads : (o : Option (ℕ × List ℕ)) → NothingIfIdle (coordinator_tick g here m o)
  leads (Some o) h = asks o m.pending h
  leads None h = if_holds NothingIfIdle (is_spent m) _ _ (λ q i. refl) (λ q i. tries m.pending i) h

  forwards : (us : List V) → NothingIfIdle (forward_first g us)
  forwards [] h = refl
  forwards (v ∷ vs) h = cc

  follows : (p : Option (ℕ × V)) → NothingIfIdle (member_tick g m p)
  follows (Some p) h = cc
  follows None h = forwards m.pending h

  pub idle-row : is_idle_note (row g here m group.Tick).note ≡ true → row g here m group.Tick ≡ nothing (row g here m group.Tick).note
  idle-row h = if_holds NothingIfIdle (here == g.coordinator) _ _ (λ q i. leads m.opened i) (λ q i. follows m.promise i) h

-- ---- at a cell

abbrev AloneIfIdle : Plan → Type 0
AloneIfIdle p = is_idle p.answer ≡ true → p ≡ tells_only p.answer

idle-turns : (site : Site) (h : Bound) → AloneIfIdle (planned site (Turns h group.Tick group.Tick))
idle-turns site h i =
    let p : GroupPlan Act = group_row (admin_lane site h.definition) h.acts group.Tick in
    let q : GroupPlan Batch = group_row (service_lane site h.definition) h.batches group.Tick in
    let a : p ≡ nothing p.note =
    idle-row (admin_lane site h.definition).group (admin_lane site h.definition).here h.acts (and_left (is_idle_note p.note) (is_idle_note q.note) i) in
    let b : q ≡ nothing q.note =
    idle-row (service_lane site h.definition).group (service_lane site h.definition).here h.batches
    (and_right (is_idle_note p.note) (is_idle_note q.note) i) in
    ap (λ (x : GroupPlan Act). both_plans site h.definition x q) a ∙ ap (λ (y : GroupPlan Batch). both_plans site h.definition (nothing p.note) y) b

idle-alone : (site : Site) (h : Bound) → AloneIfIdle (planned site (Acts Alone h site.here group.Tick))
idle-alone site h i =
    let p : GroupPlan Act = group_row (admin_lane site h.definition) h.acts group.Tick in
    let a : p ≡ nothing p.note =
    idle-row (admin_lane site h.definition).group (admin_lane site h.definition).here h.acts (and_left (is_idle_note p.note) true i) in
    ap (λ (x : GroupPlan Act). group_plan (admin_lane site h.definition) Alone [] site.here x) a

pub idle-tick : (site : Site) (k : Cell) → is_idle (plan_of site k event.Tick).answer ≡ true
    → plan_of site k event.Tick ≡ tells_only (plan_of site k event.Tick).answer
idle-tick site (Held h) i = if_holds (λ (d : Deed). AloneIfIdle (planned site d)) (is_open_mark h.mark) _ _
    (λ q. if_holds (λ (d : Deed). AloneIfIdle (planned site d)) (runs h) _ _ (λ r. idle-turns site h) (λ r. idle-alone site h)) (λ q j. refl) i
idle-tick site Empty i = refl
idle-tick site (Purged g) i = refl
