-- The calm bound of a circuit, for its acts and for its batches.
use Rattle.std.{specs.Prelude.None, proofs.Common.{◌≡◌, ℕ, ◌+◌, ◌≤◌, ◌⊎◌, true, List, [], ◌∷◌, length, refl, sym, ap, subst, ◌∙◌, inl, inr}}
use Rattle.spl_agree.specs.{Member.Member, World.World as GroupWorld}
use Rattle.spl_circuit.specs.{Nodes.{NodeId, CircuitId, has_node, position}, Rules.{broken, admin, service, is_member}, Positions.position_below}
use Rattle.spl_circuit.specs.{Same.node_same, declared.{act.Act.Act, definition.Definition.Definition, lifecycle.Mark.Mark}}
use Rattle.spl_command.specs.declared.batch.Batch.{Batch}
use Rattle.spl_cell_rules.specs.Cells.{Cell, Held}
use Rattle.spl_group_liveness.specs.Bound.{InHistory, IsPending, IsRefused, Settles}
use Rattle.spl_circuit_world.specs.{Worlds.{SentMessage, World, empty_world, Occurrence, world_after}, Calm.calm, Projection.AllPlain}
use Rattle.spl_circuit_safety.proofs.{Rosters.roster, GroupOfDefinition.{Groups, There, there_is, group_of}, GroupBindings.away_not, GroupWorlds.admin_groups}
use Rattle.spl_circuit_safety.proofs.GroupWorlds.{service_groups, admin_presence, service_presence, admin_said, service_said, IsValid, IsValidCell}
use Rattle.spl_circuit_safety.proofs.Occurrences.{world-start}
use Rattle.spl_circuit_liveness.specs.Settled.{is_running_by, cell_acts, cell_batches, acts_kept, batches_kept, IsOpenIn, AtMembers, IsWhole, RunsAtAll}
use Rattle.spl_circuit_liveness.{specs.Settled.IsValueSettled, proofs.{Coupled.IsCoupled, Lasting.IsCarried, Members.{CellsAre, cells-last, open-keeps}}}
use Rattle.spl_circuit_liveness.proofs.{ActShape.{act_shape, act-shaped, IsOpenTo}, BatchShape.{batch_shape, IsRunningIn}, Tame.{IsTame, keyed-acts}}
use Rattle.spl_circuit_liveness.proofs.{Tame.keyed-batches, TameRuns.{IsTameCell, AllTame, tame-run}, Settles.{IsReached, reached-groups, fit-groups, IsCalm}}
use Rattle.spl_circuit_liveness.proofs.Settles.{all_taken, calm-group}

-- ---- cells

pub open-to : (d : Definition) (k : Cell) → IsOpenIn d k → IsOpenTo d k
open-to d (Held h) o = (
  h.turn,
  h.acts,
  h.batches,
  ap (λ (z : Definition). Held (record h { definition = z })) o.0
      ∙ ap (λ (z : Mark). Held (record h { definition = d; mark = z })) o.1,
)
open-to d _ o = absurd o

pub open-in : (d : Definition) (k : Cell) → IsOpenTo d k → IsOpenIn d k
open-in d k o = subst (IsOpenIn d) (sym o.3) (refl, refl)

pub running-by : (d : Definition) (k : Cell) → IsRunningIn d k → is_running_by d (cell_acts k) ≡ true
running-by d k o = subst (λ (z : Cell). is_running_by d (cell_acts z) ≡ true) (sym o.3) o.4

-- what the groups see of a cell is what it keeps
pub acts-there : (d : Definition) (k : Cell) (m : Member Act) → admin_presence k ≡ There d m → cell_acts k ≡ m
acts-there d (Held k) m h = (there_is k.definition d k.acts m h).1
acts-there d _ m h = absurd (away_not d m h)

pub batches-there : (d : Definition) (k : Cell) (m : Member Batch) → service_presence k ≡ There d m → cell_batches k ≡ m
batches-there d (Held k) m h = (there_is k.definition d k.batches m h).1
batches-there d _ m h = absurd (away_not d m h)

pub tame-acts : (n : NodeId) (sent : List SentMessage) (count : ℕ) (k : Cell) (d : Definition) (m : Member Act) → IsTameCell n sent count k
    → admin_presence k ≡ There d m → IsTame admin_groups d n (admin_said sent) count m
tame-acts n sent count (Held k) d m t h =
    let p : (k.definition ≡ d) × (k.acts ≡ m) = there_is k.definition d k.acts m h in
    subst (λ (z : Definition). IsTame admin_groups z n (admin_said sent) count m) p.0
    (subst (λ (z : Member Act). IsTame admin_groups k.definition n (admin_said sent) count z) p.1 t.0)
tame-acts n sent count _ d m t h = absurd (away_not d m h)

pub tame-batches : (n : NodeId) (sent : List SentMessage) (count : ℕ) (k : Cell) (d : Definition) (m : Member Batch) → IsTameCell n sent count k
    → service_presence k ≡ There d m → IsTame service_groups d n (service_said sent) count m
tame-batches n sent count (Held k) d m t h =
    let p : (k.definition ≡ d) × (k.batches ≡ m) = there_is k.definition d k.batches m h in
    subst (λ (z : Definition). IsTame service_groups z n (service_said sent) count m) p.0
    (subst (λ (z : Member Batch). IsTame service_groups k.definition n (service_said sent) count z) p.1 t.1)
tame-batches n sent count _ d m t h = absurd (away_not d m h)

-- ---- worlds

-- after anything that happened
pub after : (ns : List NodeId) (es : List Occurrence) → AllPlain es → IsCoupled (world_after ns es) × AllTame (0 + length es) (world_after ns es)
after ns es h = tame-run 0 (empty_world ns) es h ([], (λ f. []), (λ f. []), world-start) (λ n. tt)

-- the definition of a bound member breaks no rule
pub ruled-whole : (w : World) (d : Definition) (n : NodeId) → IsCoupled w → IsWhole w d → is_member d n ≡ true → broken d ≡ None
ruled-whole w d n v whole h =
    let o : IsOpenTo d (w.at n) = open-to d (w.at n) (whole.open_cells n h) in
    let x : IsValid d n o.1 o.2 = subst (λ (z : Cell). IsValidCell n z) o.3 (v.3.valid n) in x.whole

-- a definition has a member, or none
pub some-member : (d : Definition) → ((n : NodeId) × (is_member d n ≡ true)) ⊎ ((n : NodeId) → is_member d n ≡ true → ⊥)
some-member d = go d.members refl
  where
    go : (ms : List NodeId) → d.members ≡ ms → ((n : NodeId) × (is_member d n ≡ true)) ⊎ ((n : NodeId) → is_member d n ≡ true → ⊥)
    go [] e = inr (λ n h. let z : has_node [] n ≡ true = subst (λ (ms : List NodeId). has_node ms n ≡ true) e h in cc)
    go (m ∷ ms) e = inl (m, subst (λ (xs : List NodeId). has_node xs m ≡ true) (sym e) (rw (node_same m)))

-- a settled group shows in what the members keep
pub settled-from : {V : Type 0} (groups : Groups V) (d : Definition) (v : V) (w : GroupWorld V) (kept : NodeId → Member V) → broken d ≡ None
    → has_node d.members (groups.leader d) ≡ true → ((n : NodeId) → has_node d.members n ≡ true → kept n ≡ w.at (position d.members n))
    → Settles (group_of groups d) v w → IsValueSettled d (groups.leader d) v kept
settled-from {V} groups d v w kept ruled leads same (inl h) =
    inl (λ n m. subst (λ (z : Member V). InHistory v z) (sym (same n m)) (h (position d.members n) (position_below d.members n m)))
settled-from {V} groups d v w kept ruled leads same (inr h) = inr (
  subst (λ (z : Member V). IsRefused v z) (sym (same (groups.leader d) leads)) h.0,
  λ n m p. h.1 (position d.members n) (position_below d.members n m) (subst (λ (z : Member V). IsPending v z) (same n m) p),
)

-- ---- acts

-- the admin group is carried by open cells
pub acts-carried : (d : Definition) → broken d ≡ None → IsCarried act_shape IsOpenTo d (CellsAre d (IsOpenTo d))
acts-carried d ruled = record { ruled = ruled; shaped = act-shaped d ruled; lasts = cells-last d (IsOpenTo d) (open-keeps d); on = λ w taken q n h. q.1 n h }

-- after a calm the members are whole, and a first pending act is settled; where no act was pending and no round was open,
-- the coordinator has committed none
pub record ActsCalm (c : CircuitId) (k count : ℕ) (w : World) (d : Definition) : Type 0 where
  pub whole : IsWhole (calm c w k).world d
  pub settles : (v : Act) (rest : List Act) → count ≤ 32768 → 6 ≤ k → (acts_kept w (admin d)).pending ≡ v ∷ rest
      → IsValueSettled d (admin d) v (acts_kept (calm c w k).world)
  pub idles : AtMembers d (λ j. (acts_kept w j).pending ≡ []) → (acts_kept w (admin d)).opened ≡ None
      → (acts_kept (calm c w k).world (admin d)).history ≡ (acts_kept w (admin d)).history

pub calm-acts : (c : CircuitId) (k count : ℕ) (w : World) (d : Definition) (n : NodeId) → IsCoupled w → AllTame count w → IsWhole w d
    → is_member d n ≡ true → ActsCalm c k count w d
calm-acts c k count w d n coupled tame whole member =
    go (reached-groups admin_groups d count coupled.0 (λ j. admin_presence (w.at j)) (admin_said w.sent) (coupled.1 d) leads there
    (λ j m h. tame-acts j w.sent count (w.at j) d m (tame j) h) (coupled.3.admins d))
  where
    ruled : broken d ≡ None
    ruled = ruled-whole w d n coupled whole member

    leads : has_node d.members (admin d) ≡ true
    leads = (roster d ruled).admin_in

    there : (j : NodeId) → has_node d.members j ≡ true → (m : Member Act) × (admin_presence (w.at j) ≡ There d m)
    there j h = let o : IsOpenTo d (w.at j) = open-to d (w.at j) (whole.open_cells j h) in (o.1, ap admin_presence o.3)

    go : (g : GroupWorld Act) × IsReached admin_groups d count (λ j. admin_presence (w.at j)) g → ActsCalm c k count w d
    go r = calmed (calm-group act_shape IsOpenTo d (CellsAre d (IsOpenTo d)) (acts-carried d ruled) c k w r.0
        (coupled, λ j h. open-to d (w.at j) (whole.open_cells j h)) (record { registered = whole.registered; up = whole.up; same = r.1.same }))
      where
        mine : (j : NodeId) → has_node d.members j ≡ true → acts_kept w j ≡ r.0.at (position d.members j)
        mine j h = acts-there d (w.at j) (r.0.at (position d.members j)) (r.1.same j h)

        calmed : IsCalm act_shape d (CellsAre d (IsOpenTo d)) k (calm c w k) r.0 → ActsCalm c k count w d
        calmed x = record {
          whole = record { registered = x.calmed.registered; up = x.calmed.up; open_cells = λ j h. open-in d ((calm c w k).world.at j) (x.inv.1 j h) };
          settles = λ v rest few six first. settled-from admin_groups d v x.group (acts_kept (calm c w k).world) ruled leads theirs
              (x.settles v rest six (fit-groups admin_groups d count (λ j. admin_presence (w.at j)) r.0 (keyed-acts d) ruled leads few r.1)
              (subst (λ (z : Member Act). z.pending ≡ v ∷ rest) (mine (admin d) leads) first));
          idles = λ empty shut.
              ap (λ (z : Member Act). z.history) (theirs (admin d) leads)
              ∙ (x.idles (λ j h. subst (λ (z : Member Act). z.pending ≡ []) (mine j h) (empty j h))
              (subst (λ (z : Member Act). z.opened ≡ None) (mine (admin d) leads) shut)
              ∙ ap (λ (z : Member Act). z.history) (sym (mine (admin d) leads)));
        }
          where
            theirs : (j : NodeId) → has_node d.members j ≡ true → acts_kept (calm c w k).world j ≡ x.group.at (position d.members j)
            theirs j h = acts-there d ((calm c w k).world.at j) (x.group.at (position d.members j)) (x.calmed.same j h)

-- ---- batches

-- after a calm the circuit runs still, and a first pending batch is settled
pub record BatchesCalm (c : CircuitId) (k count : ℕ) (w : World) (d : Definition) : Type 0 where
  pub runs : RunsAtAll (calm c w k).world d
  pub settles : (v : Batch) (rest : List Batch) → count ≤ 32768 → 6 ≤ k → (batches_kept w (service d)).pending ≡ v ∷ rest
      → IsValueSettled d (service d) v (batches_kept (calm c w k).world)

-- by any fact that carries the group
pub calm-batches-by : (c : CircuitId) (k count : ℕ) (w : World) (d : Definition) (Inv : World → (NodeId → NodeId → ℕ) → Type 0)
    → IsCarried batch_shape IsRunningIn d Inv → Inv w (all_taken w) → IsCoupled w → AllTame count w → IsWhole w d → BatchesCalm c k count w d
calm-batches-by c k count w d Inv run inv coupled tame whole =
    go (reached-groups service_groups d count coupled.0 (λ j. service_presence (w.at j)) (service_said w.sent) (coupled.2 d) leads there
    (λ j m h. tame-batches j w.sent count (w.at j) d m (tame j) h) (coupled.3.services d))
  where
    leads : has_node d.members (service d) ≡ true
    leads = (roster d run.ruled).service_in

    there : (j : NodeId) → has_node d.members j ≡ true → (m : Member Batch) × (service_presence (w.at j) ≡ There d m)
    there j h = let o : IsOpenTo d (w.at j) = open-to d (w.at j) (whole.open_cells j h) in (o.2, ap service_presence o.3)

    go : (g : GroupWorld Batch) × IsReached service_groups d count (λ j. service_presence (w.at j)) g → BatchesCalm c k count w d
    go r = calmed (calm-group batch_shape IsRunningIn d Inv run c k w r.0 inv (record { registered = whole.registered; up = whole.up; same = r.1.same }))
      where
        calmed : IsCalm batch_shape d Inv k (calm c w k) r.0 → BatchesCalm c k count w d
        calmed x = record {
          runs = λ j h. running-by d ((calm c w k).world.at j) (run.on (calm c w k).world (calm c w k).taken x.inv j h);
          settles = λ v rest few six first. settled-from service_groups d v x.group (batches_kept (calm c w k).world) run.ruled leads
              (λ j h. batches-there d ((calm c w k).world.at j) (x.group.at (position d.members j)) (x.calmed.same j h))
              (x.settles v rest six (fit-groups service_groups d count (λ j. service_presence (w.at j)) r.0 keyed-batches run.ruled leads few r.1)
              (subst (λ (z : Member Batch). z.pending ≡ v ∷ rest)
              (batches-there d (w.at (service d)) (r.0.at (position d.members (service d))) (r.1.same (service d) leads)) first));
        }
