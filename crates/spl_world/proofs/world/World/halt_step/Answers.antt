use Rattle.spl_circuit_world.{proofs.Defined.node_known, specs.Answers.bit_of}
use Rattle.spl_world.{specs.{Calls.disks_view, Views.world_node_ids}, proofs.{Calls.{halts_down, halts_short, halts_up}, Common.{◌≡◌, ◌∙◌, Some, true, ap}}}
use Rattle.spl_world.proofs.{Common.{sym, subst, NodeId, has_node, step_plan, keeps, step_circuit, step_node}, Cutting.bit_up}
use Rattle.spl_world.proofs.world.World.halt_step.Goals as goal
use Rattle.spl_node.specs.Benches.{images}

pub index_of-slot-requires : goal.index_of-slot-requires
index_of-slot-requires g c = record { known = subst (λ (n : NodeId). has_node (world_node_ids c.args.self.now) n ≡ true) (sym c.node.ensures) (node_known (world_node_ids c.args.self.now) c.args.step.now c.requires.known) }

-- a node that is down
pub returns-then-not-is_up-clause-halts : goal.returns-then-not-is_up-clause-halts
returns-then-not-is_up-clause-halts g c =
    let at = c.index_of-slot.ensures.at ∙ ap Some c.node.ensures in
    halts_down c.args.step.now c.args.stopping c.args.self.now (disks_view g.D.Disk.view c.args.pairs.now.items) c.index_of-slot.result at c.requires.sits
    (λ d m h. sym (c.is_up.ensures.world (images g.D.Disk.view c.args.pairs.now.items) d m (step_node c.args.step.now) h at) ∙ c.if-not-is_up.true) (c.is_up.ensures.down c.if-not-is_up.true)

-- one that is up
pub returns-clause-halts : goal.returns-clause-halts
returns-clause-halts g c =
    let s = c.args.step.now in
    let kept = keeps c.args.stopping in
    let at = c.index_of-slot.ensures.at ∙ ap Some c.node.ensures in
    halts_up s c.args.stopping c.args.self.now (disks_view g.D.Disk.view c.args.pairs.now.items) c.index_of-slot.result at c.stop_in_step.new.self
    (disks_view g.D.Disk.view c.stop_in_step.new.pairs.items) c.bit.result c.in_ok-changes.ensures.alone c.in_ok-changes.ensures.stopped c.in_ok-changes.ensures.others
    (λ m h.
    let xs = (step_plan m s).changes in
    let up = sym (c.is_up.ensures.world (images g.D.Disk.view c.args.pairs.now.items) (step_circuit s) m (step_node s) h at) ∙ c.if-not-is_up.false in
    ap Some (c.bit.ensures xs ((c.in_ok-changes.ensures.stopped m h).tells) ∙ ap (λ b. bit_of b xs) c.keeps.ensures) ∙ sym (bit_up m s kept up))

pub returns-in_err-changes-clause-halts : goal.returns-in_err-changes-clause-halts
returns-in_err-changes-clause-halts g c =
    halts_short c.args.step.now c.args.stopping c.args.self.now (disks_view g.D.Disk.view c.args.pairs.now.items) c.index_of-slot.result (c.index_of-slot.ensures.at ∙ ap Some c.node.ensures)
    c.stop_in_step.new.self (disks_view g.D.Disk.view c.stop_in_step.new.pairs.items) c.from_residual.result c.from_residual.ensures.0
    c.in_err-changes.ensures.alone c.in_err-changes.ensures.stopped
