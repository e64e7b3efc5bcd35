use Rattle.spl_world.{specs.{Calls.disks_view, Halts.IsEventOf, Views.seen}, proofs.{Calls.{alone_early, not_stopped}, Common.{◌≡◌, ◌∙◌, ◌-◌, ℕ, Some, None}}}
use Rattle.spl_world.proofs.{Common.{false, refl, sym, subst, bytes_eq, NodeId, bench, step_circuit}, Reading.node_up, Seating.{event_at, event_delivered}}
use Rattle.spl_world.proofs.world.World.stop_in_step.Goals as goal
use Rattle.spl_node.specs.Benches.{images}
use Rattle.spl_sched.specs.declared.line.Step.TheVariants as step
use Rattle.spl_circuit_world.proofs.Defined.{step_for, pair_apart, number_back}

-- ---- an event at a node

pub stop_in_at-requires-clause-own : goal.stop_in_at-requires-clause-own
stop_in_at-requires-clause-own g c = λ n at. step_for n c.in-At.node c.in-At.circuit c.in-At.event (rw (c.in-At.is) at c.requires.fits)

-- ---- a delivery

pub delivery-requires-clause-apart : goal.delivery-requires-clause-apart
delivery-requires-clause-apart g c = λ a b at to.
    let sender : Some c.in-Deliver.from ≡ Some a = sym c.index_of-sender.ensures.at ∙ at in
    let recipient : Some c.in-Deliver.to ≡ Some b = sym (rw (c.in-Deliver.is) at c.requires.at) ∙ to in
    let from_is : c.in-Deliver.from ≡ a = cc in
    let to_is : c.in-Deliver.to ≡ b = cc in
    subst (λ (y : NodeId). bytes_eq a y ≡ false) to_is (subst (λ (x : NodeId). bytes_eq x c.in-Deliver.to ≡ false) from_is (pair_apart c.in-Deliver.from c.in-Deliver.to c.in-Deliver.circuit c.in-Deliver.number (rw (c.in-Deliver.is) at c.requires.fits)))

-- ---- in its event

pub returns-in-At-clause-stopped : goal.returns-in-At-clause-stopped
returns-in-At-clause-stopped g c = λ m h.
    let n = c.in-At.node in
    let circuit = c.in-At.circuit in
    let k = rw (c.in-At.is) at h in
    let here = rw (c.in-At.is) at c.requires.at in
    let is = event_at m n circuit c.in-At.event (node_up circuit m (seen g.D.Disk.view c.args.self.now c.args.pairs.now.items) c.args.slot n k here c.requires.up) in
    rw (c.in-At.is) (c.stop_in_at.ensures.stopped m (step.At n circuit c.in-At.event) here refl is k)

pub returns-in-Some-clause-stopped : goal.returns-in-Some-clause-stopped
returns-in-Some-clause-stopped g c = λ m h.
    let from = c.in-Deliver.from in
    let to = c.in-Deliver.to in
    let circuit = c.in-Deliver.circuit in
    let k = rw (c.in-Deliver.is) at h in
    let here = rw (c.in-Deliver.is) at c.requires.at in
    let back = number_back from to circuit c.in-Deliver.number (rw (c.in-Deliver.is) at c.requires.fits) in
    let found = sym c.in-Some.is ∙ c.in_ok-delivery-in-Deliver.ensures.event (images g.D.Disk.view c.args.pairs.now.items) m from to k c.index_of-sender.ensures.at here in
    let is = subst (λ (j : ℕ). IsEventOf (Some c.in-Some.event) m (step.Deliver from to circuit j)) back (event_delivered m from to circuit (c.in-Deliver.number - 1) (Some c.in-Some.event) found (node_up circuit m (seen g.D.Disk.view c.args.self.now c.args.pairs.now.items) c.args.slot to k here c.requires.up)) in
    rw (c.in-Deliver.is) (c.stop_in_at-in-Some.ensures.stopped m (step.Deliver from to circuit c.in-Deliver.number) here refl is k)

pub returns-in-None-clause-stopped : goal.returns-in-None-clause-stopped
returns-in-None-clause-stopped g c = λ m h.
    let from = c.in-Deliver.from in
    let to = c.in-Deliver.to in
    let circuit = c.in-Deliver.circuit in
    let k = rw (c.in-Deliver.is) at h in
    let here = rw (c.in-Deliver.is) at c.requires.at in
    let back = number_back from to circuit c.in-Deliver.number (rw (c.in-Deliver.is) at c.requires.fits) in
    let found = sym c.in-None.is ∙ c.in_ok-delivery-in-Deliver.ensures.event (images g.D.Disk.view c.args.pairs.now.items) m from to k c.index_of-sender.ensures.at here in
    let is = subst (λ (j : ℕ). IsEventOf None m (step.Deliver from to circuit j)) back (event_delivered m from to circuit (c.in-Deliver.number - 1) None found (node_up circuit m (seen g.D.Disk.view c.args.self.now c.args.pairs.now.items) c.args.slot to k here c.requires.up)) in
    rw (c.in-Deliver.is) (c.stop_in_at-in-None.ensures.stopped m (step.Deliver from to circuit c.in-Deliver.number) here refl is k)

-- ---- there is no memory for its message

pub returns-in_err-delivery-in-Deliver-clause-alone : goal.returns-in_err-delivery-in-Deliver-clause-alone
returns-in_err-delivery-in-Deliver-clause-alone g c =
    alone_early c.args.slot (Some c.args.stopping) c.from_residual.result c.from_residual.ensures.0 c.args.self.now (disks_view g.D.Disk.view c.args.pairs.now.items) c.requires.sits

pub returns-in_err-delivery-in-Deliver-clause-stopped : goal.returns-in_err-delivery-in-Deliver-clause-stopped
returns-in_err-delivery-in-Deliver-clause-stopped g c = λ m h. not_stopped c.args.slot (step_circuit c.args.step.now) m c.args.stopping c.args.step.now c.from_residual.result c.from_residual.ensures.0 (seen g.D.Disk.view c.args.self.now c.args.pairs.now.items) (bench g.D.Disk.view c.args.pairs.now.items)
