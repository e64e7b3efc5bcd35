use Rattle.spl_node.specs.{Stands.{made_cell, HoldAs, StandOn, WereBlank}, Benches.{images_of, Images, Tell}}
use Rattle.spl_world.{specs.{Views.{node_view, slot_id}, declared.slot.Slot.Slot}, proofs.Common.{◌≡◌, ◌⊎◌, ◌∙◌, ap, sym, subst, NodeId, CircuitId}}
use Rattle.spl_world.proofs.{Common.pair_view, NodeCalls.{ends_broken, ends_done}, Opened.{kept_images, left_images}}
use Rattle.spl_world.proofs.slot.Slot.open.Goals as goal

pub returns-in-Ok-clause-opened : goal.returns-in-Ok-clause-opened
returns-in-Ok-clause-opened g c =
    let old = images_of g.D.Disk.view c.args.disks.now in
    let p = pair_view g.D.Disk.view c.args.disks.now in
    let q = pair_view g.D.Disk.view c.open.new.disks in
    let h = c.open.ensures in
    let s : Slot = record { host = c.in-Ok.host; position = c.args.position; posts = c.new.result } in
    let cells : Tell old → (is : Images) (k : CircuitId) → (node_view s is).cells k ≡ made_cell (slot_id s) k old.0 old.1 =
    λ tell is k. c.in-Ok.ensures.cells tell is.0 is.1 k ∙ ap (λ (n : NodeId). made_cell n k old.0 old.1) (sym c.in-Ok.ensures.id) in
    record {
      up = c.in-Ok.ensures.up;
      silent = c.new.ensures;
      stands = c.in-Ok.ensures.stands;
      tells = c.in-Ok.ensures.told;
      journal = c.in-Ok.ensures.journal;
      cells = cells;
      disks = left_images g.D.Disk.view c.args.disks.now c.open.new.disks s c.in-Ok.ensures.stands c.in-Ok.ensures.told cells
          (kept_images g.D.Disk.view c.args.disks.now c.open.new.disks (slot_id s) h.onward.first.later h.onward.second.later
          (g.met.D.Disk.possible c.open.new.disks.first) (g.met.D.Disk.possible c.open.new.disks.second)
          (subst (λ (n : NodeId). HoldAs p q ⊎ (WereBlank p ⊎ StandOn n p q)) (sym c.in-Ok.ensures.id) h.still));
    }

pub returns-in-Ok-clause-left : goal.returns-in-Ok-clause-left
returns-in-Ok-clause-left g c = kept_images g.D.Disk.view c.args.disks.now c.open.new.disks c.args.id c.open.ensures.onward.first.later c.open.ensures.onward.second.later (g.met.D.Disk.possible c.open.new.disks.first) (g.met.D.Disk.possible c.open.new.disks.second) c.open.ensures.still

pub returns-in-Ok-clause-ends : goal.returns-in-Ok-clause-ends
returns-in-Ok-clause-ends g c = ends_done _ _ _ c.open.ensures.onward

pub returns-in-Err-clause-left : goal.returns-in-Err-clause-left
returns-in-Err-clause-left g c = kept_images g.D.Disk.view c.args.disks.now c.open.new.disks c.args.id c.open.ensures.onward.first.later c.open.ensures.onward.second.later (g.met.D.Disk.possible c.open.new.disks.first) (g.met.D.Disk.possible c.open.new.disks.second) c.open.ensures.still

pub returns-in-Err-clause-ends : goal.returns-in-Err-clause-ends
returns-in-Err-clause-ends g c =
    let fault = c.journal_fault.ensures in
    ends_broken c.journal_fault.result c.in-Err.fault _ _ _ fault.disk fault.few fault.unlinked c.in-Err.ensures.failed c.in-Err.ensures.onward
