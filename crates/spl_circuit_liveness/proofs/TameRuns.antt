-- Each cell is tame after anything that happened.
use Rattle.std.{specs.Prelude.{if◌then◌else◌, map}, proofs.Common.{◌≡◌, ◌≢◌, ℕ, suc, ◌+◌, ◌⊎◌, Bool, true, false, List, [], ◌∷◌, ◌++◌, length, sym, ap}}
use Rattle.std.proofs.Common.{subst, ◌∙◌, inl, inr, arith}
use Rattle.spl_agree.specs.Member.{Member, new_member, restarted}
use Rattle.spl_agree.specs.declared.event.OpenMove.TheVariants as move
use Rattle.spl_command.specs.declared.batch.Batch.{Batch}
use Rattle.spl_circuit.specs.{Nodes.{NodeId, CircuitId}, declared.{act.Act.Act, definition.Definition.Definition}}
use Rattle.spl_wire.specs.declared.plan.Plan.{Plan}
use Rattle.spl_wire.specs.declared.change.Change.TheVariants as durable
use Rattle.spl_sched.specs.Grammar.{step_node}
use Rattle.spl_cell_rules.specs.{Cells.{Cell, Held, Deed, Binds, Acts, Serves, Turns, Abandons, Purges, fresh, site_at}, Changes.{changes_made, moved_cell}}
use Rattle.spl_cell_rules.specs.{Changes.{stopped_cell, after_plan}, Plans.planned}
use Rattle.spl_circuit_world.specs.Worlds.{SentMessage, World, put_at, posted_outgoing, step_plan, node_stopped, started, halted, Occurrence, Steps, Stops}
use Rattle.spl_circuit_world.{specs.{Worlds.{Starts, Halts, circuit_happens, occur}, Projection.{IsPlain, AllPlain}}, proofs.Nodes.node_cases}
use Rattle.spl_circuit_world.proofs.{Puts.{put_at-same, put_at-other}, Unmoved.moved-keep}
use Rattle.spl_circuit_safety.proofs.{GroupOfDefinition.{after_row, plan_row}, GroupWorlds.{admin_groups, service_groups, admin_said, service_said, WasSent}}
use Rattle.spl_circuit_safety.proofs.{GroupWorlds.{IsValid, IsValidCell, placed-admin, placed-service, was-left}, DeedsAreSteps.IsStepOf}
use Rattle.spl_circuit_safety.proofs.{CoupledDeeds.{made-bind, stopped-moved}, Occurrences.{IsDeed, step-deed}}
use Rattle.spl_circuit_liveness.proofs.{Landing.{after-acts, after-serves, after-both}, Coupled.{IsCoupled, coupled-happens}, Tame.{IsTame, tame-new}}
use Rattle.spl_circuit_liveness.proofs.Tame.{tame-said, tame-more, tame-restarted, tame-row, keyed-acts, keyed-batches}

-- what a cell keeps of both groups
abbrev pub IsTameCell : NodeId → List SentMessage → ℕ → Cell → Type 0
IsTameCell n sent count (Held h) =
    IsTame admin_groups h.definition n (admin_said sent) count h.acts × IsTame service_groups h.definition n (service_said sent) count h.batches
IsTameCell n sent count _ = Unit {0}

pub tame-cell-more : (n : NodeId) (sent : List SentMessage) (count : ℕ) (k : Cell) → IsTameCell n sent count k → IsTameCell n sent (count + 1) k
tame-cell-more n sent count (Held h) t = (
  tame-more admin_groups h.definition n (admin_said sent) count h.acts t.0,
  tame-more service_groups h.definition n (service_said sent) count h.batches t.1,
)
tame-cell-more n sent count _ t = tt

pub tame-cell-sent : (n : NodeId) (sent sent2 : List SentMessage) (count : ℕ) (k : Cell) → ((x : SentMessage) → WasSent x sent → WasSent x sent2)
    → IsTameCell n sent count k → IsTameCell n sent2 count k
tame-cell-sent n sent sent2 count (Held h) more t = (
  tame-said admin_groups h.definition n (admin_said sent) (admin_said sent2) count h.acts (λ l s. (s.0, more _ s.1)) t.0,
  tame-said service_groups h.definition n (service_said sent) (service_said sent2) count h.batches (λ l s. (s.0, s.1, s.2, more _ s.3)) t.1,
)
tame-cell-sent n sent sent2 count _ more t = tt

pub tame-cell-stopped : (n : NodeId) (sent : List SentMessage) (count : ℕ) (k : Cell) → IsTameCell n sent count k → IsTameCell n sent count (stopped_cell k)
tame-cell-stopped n sent count (Held h) t = (
  tame-restarted admin_groups h.definition n (admin_said sent) count h.acts t.0,
  tame-restarted service_groups h.definition n (service_said sent) count h.batches t.1,
)
tame-cell-stopped n sent count _ t = tt

-- a deed that is a step keeps a valid cell tame
pub tame-deed : (c : CircuitId) (n : NodeId) (sent : List SentMessage) (count : ℕ) (k : Cell) (deed : Deed) → IsStepOf n sent k deed → IsValidCell n k
    → IsTameCell n sent count k → IsTameCell n sent (count + 1) (after_plan n k (planned (site_at n c) deed))
tame-deed c n sent count k (Binds say d back e) fair v t =
    let x : (u : ℕ) × (_ ≡ Held (record (fresh d) { turn = u; acts = after_row admin_groups d n new_member e })) =
    after-acts n (fresh d) (plan_row admin_groups d n new_member e) in
    subst (IsTameCell n sent (count + 1))
    (sym (ap (λ (z : Cell). moved_cell n (changes_made n z (map durable.Admin (plan_row admin_groups d n new_member e).changes))
    (plan_row admin_groups d n new_member e).opening move.Keep) (made-bind n k d) ∙ x.1)) (
      tame-row admin_groups d n back (admin_said sent) count new_member e (keyed-acts d) fair.0 (placed-admin d n fair.0 fair.1) fair.3 fair.4
          (tame-new admin_groups d n (admin_said sent) count),
      tame-new service_groups d n (service_said sent) (count + 1),
    )
tame-deed c n sent count k (Acts say b back e) fair v t =
    let d : Definition = b.definition in
    let here : IsValid d n b.acts b.batches = subst (λ (z : Cell). IsValidCell n z) fair.0 v in
    let both : IsTame admin_groups d n (admin_said sent) count b.acts × IsTame service_groups d n (service_said sent) count b.batches =
    subst (IsTameCell n sent count) fair.0 t in
    let x : (u : ℕ) × (_ ≡ Held (record b { turn = u; acts = after_row admin_groups d n b.acts e })) = after-acts n b (plan_row admin_groups d n b.acts e) in
    subst (IsTameCell n sent (count + 1)) (sym (ap (λ (z : Cell). after_plan n z (planned (site_at n c) (Acts say b back e))) fair.0 ∙ x.1)) (
      tame-row admin_groups d n back (admin_said sent) count b.acts e (keyed-acts d) here.whole
          (placed-admin d n here.whole here.member) fair.1 fair.2 both.0,
      tame-more service_groups d n (service_said sent) count b.batches both.1,
    )
tame-deed c n sent count k (Serves say b back e) fair v t =
    let d : Definition = b.definition in
    let here : IsValid d n b.acts b.batches = subst (λ (z : Cell). IsValidCell n z) fair.0 v in
    let both : IsTame admin_groups d n (admin_said sent) count b.acts × IsTame service_groups d n (service_said sent) count b.batches =
    subst (IsTameCell n sent count) fair.0 t in
    subst (IsTameCell n sent (count + 1))
    (sym (ap (λ (z : Cell). after_plan n z (planned (site_at n c) (Serves say b back e))) fair.0
    ∙ after-serves n b (plan_row service_groups d n b.batches e))) (
      tame-more admin_groups d n (admin_said sent) count b.acts both.0,
      tame-row service_groups d n back (service_said sent) count b.batches e keyed-batches here.whole
          (placed-service d n here.whole here.member) fair.2 fair.3 both.1,
    )
tame-deed c n sent count k (Turns b x y) fair v t =
    let d : Definition = b.definition in
    let here : IsValid d n b.acts b.batches = subst (λ (z : Cell). IsValidCell n z) fair.0 v in
    let both : IsTame admin_groups d n (admin_said sent) count b.acts × IsTame service_groups d n (service_said sent) count b.batches =
    subst (IsTameCell n sent count) fair.0 t in
    let z : (u : ℕ) × (_ ≡ Held (record b { turn = u; acts = after_row admin_groups d n b.acts x; batches = after_row service_groups d n b.batches y })) =
    after-both n b (plan_row admin_groups d n b.acts x) (plan_row service_groups d n b.batches y) in
    subst (IsTameCell n sent (count + 1)) (sym (ap (λ (z : Cell). after_plan n z (planned (site_at n c) (Turns b x y))) fair.0 ∙ z.1)) (
      tame-row admin_groups d n n (admin_said sent) count b.acts x (keyed-acts d) here.whole (placed-admin d n here.whole here.member) fair.2 fair.4 both.0,
      tame-row service_groups d n n (service_said sent) count b.batches y keyed-batches here.whole
          (placed-service d n here.whole here.member) fair.3 fair.5 both.1,
    )
tame-deed c n sent count k Abandons fair v t =
    let d : Definition = fair.0.definition in
    let a : Member Act = fair.0.acts in
    let b : Member Batch = fair.0.batches in
    let both : IsTame admin_groups d n (admin_said sent) count a × IsTame service_groups d n (service_said sent) count b =
    subst (IsTameCell n sent count) fair.1 t in
    subst (IsTameCell n sent (count + 1)) (sym (ap (λ (z : Cell). after_plan n z (planned (site_at n c) Abandons)) fair.1)) (
      tame-more admin_groups d n (admin_said sent) count (restarted a) (tame-restarted admin_groups d n (admin_said sent) count a both.0),
      tame-more service_groups d n (service_said sent) count (restarted b) (tame-restarted service_groups d n (service_said sent) count b both.1),
    )
tame-deed c n sent count k Purges fair v t =
    subst (IsTameCell n sent (count + 1)) (sym (ap (λ (z : Cell). after_plan n z (planned (site_at n c) Purges)) fair.1)) tt
tame-deed c n sent count k _ fair v t = subst (IsTameCell n sent (count + 1)) (sym (moved-keep n k)) (tame-cell-more n sent count k t)

-- ---- worlds

-- after so many events
abbrev pub AllTame : ℕ → World → Type 0
AllTame count w = (n : NodeId) → IsTameCell n w.sent count (w.at n)

-- one cell becomes another
pub tame-put : (count : ℕ) (w : World) (n : NodeId) (k : Cell) (sent2 : List SentMessage) (up : NodeId → Bool)
    → ((x : SentMessage) → WasSent x w.sent → WasSent x sent2) → IsTameCell n w.sent (count + 1) k → AllTame count w
    → AllTame (count + 1) (record { nodes = w.nodes; up = up; at = put_at w.at n k; sent = sent2 })
tame-put count w n k sent2 up more new old j = go (node_cases j n)
  where
    go : (j ≡ n) ⊎ (j ≢ n) → IsTameCell j sent2 (count + 1) (put_at w.at n k j)
    go (inl q) =
        subst (λ (z : NodeId). IsTameCell z sent2 (count + 1) (put_at w.at n k z)) (sym q)
        (subst (IsTameCell n sent2 (count + 1)) (sym (put_at-same w.at n k)) (tame-cell-sent n w.sent sent2 (count + 1) k more new))
    go (inr q) =
        subst (IsTameCell j sent2 (count + 1)) (sym (put_at-other w.at n k j q))
        (tame-cell-sent j w.sent sent2 (count + 1) (w.at j) more (tame-cell-more j w.sent count (w.at j) (old j)))

pub tame-later : (count : ℕ) (w : World) → AllTame count w → AllTame (count + 1) w
tame-later count w t n = tame-cell-more n w.sent count (w.at n) (t n)

-- the cell after a step
pub tame-step : (count : ℕ) (w : World) (n : NodeId) (p : Plan) → IsDeed w n p → IsCoupled w → AllTame count w
    → IsTameCell n w.sent (count + 1) (after_plan n (w.at n) p)
tame-step count w n p i v t =
    subst (λ (z : Plan). IsTameCell n w.sent (count + 1) (after_plan n (w.at n) z)) (sym i.3)
    (tame-deed i.2 n w.sent count (w.at n) i.0 i.1 (v.3.valid n) (t n))

pub tame-stops : (count : ℕ) (w : World) (n : NodeId) (u : Bool) → AllTame count w → AllTame (count + 1) (if u then node_stopped w n else w)
tame-stops count w n false t = tame-later count w t
tame-stops count w n true t =
    tame-put count w n (stopped_cell (w.at n)) w.sent (put_at w.up n false) (λ x h. h)
    (tame-cell-more n w.sent count (stopped_cell (w.at n)) (tame-cell-stopped n w.sent count (w.at n) (t n))) t

pub tame-starts : (count : ℕ) (w : World) (n : NodeId) (u : Bool) → AllTame count w → AllTame (count + 1) (if u then w else started w n)
tame-starts count w n true t = tame-later count w t
tame-starts count w n false t = tame-later count w t

pub tame-halts : (count : ℕ) (w : World) (n : NodeId) (p : Plan) (kept u : Bool) → IsTameCell n w.sent (count + 1) (after_plan n (w.at n) p)
    → AllTame count w → AllTame (count + 1) (if u then halted w n kept p else w)
tame-halts count w n p kept false new t = tame-later count w t
tame-halts count w n p false true new t =
    tame-put count w n (stopped_cell (w.at n)) w.sent (put_at w.up n false) (λ x h. h)
    (tame-cell-more n w.sent count (stopped_cell (w.at n)) (tame-cell-stopped n w.sent count (w.at n) (t n))) t
tame-halts count w n p true true new t = tame-put count w n (stopped_cell (changes_made n (w.at n) p.changes)) w.sent (put_at w.up n false) (λ x h. h)
    (subst (IsTameCell n w.sent (count + 1)) (stopped-moved n (changes_made n (w.at n) p.changes) p.admin p.service)
    (tame-cell-stopped n w.sent (count + 1) (after_plan n (w.at n) p) new)) t

-- any occurrence
pub tame-happens : (count : ℕ) (w : World) (e : Occurrence) → IsPlain e → IsCoupled w → AllTame count w → AllTame (count + 1) (circuit_happens w e)
tame-happens count w (Steps s) h v t =
    tame-put count w (step_node s) (after_plan (step_node s) (w.at (step_node s)) (step_plan w s))
    (w.sent ++ posted_outgoing w.nodes (step_node s) (step_plan w s).sends) w.up
    (λ x k. was-left x w.sent (posted_outgoing w.nodes (step_node s) (step_plan w s).sends) k)
    (tame-step count w (step_node s) (step_plan w s) (step-deed w s h) v t) t
tame-happens count w (Stops n) h v t = tame-stops count w n (w.up n) t
tame-happens count w (Starts n) h v t = tame-starts count w n (w.up n) t
tame-happens count w (Halts kept s) h v t =
    tame-halts count w (step_node s) (step_plan w s) kept (w.up (step_node s)) (tame-step count w (step_node s) (step_plan w s) (step-deed w s h) v t) t

-- any run
pub tame-run : (count : ℕ) (w : World) (es : List Occurrence) → AllPlain es → IsCoupled w → AllTame count w
    → IsCoupled (occur w es) × AllTame (count + length es) (occur w es)
tame-run count w [] h v t = (v, subst (λ (i : ℕ). AllTame i w) (let y : count ≡ count + 0 = omega arith in y) t)
tame-run count w (e ∷ es) h v t =
    let r : IsCoupled (occur (circuit_happens w e) es) × AllTame (count + 1 + length es) (occur (circuit_happens w e) es) =
    tame-run (count + 1) (circuit_happens w e) es h.1 (coupled-happens w e h.0 v) (tame-happens count w e h.0 v t) in
    (r.0, subst (λ (i : ℕ). AllTame i (occur (circuit_happens w e) es)) (let y : count + 1 + length es ≡ count + suc (length es) = omega arith in y) r.1)
