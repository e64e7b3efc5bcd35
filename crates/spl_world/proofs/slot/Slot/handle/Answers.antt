use Rattle.spl_cell_rules.specs.{Cells.site_at, Valid.are_legal}
use Rattle.spl_world.{specs.{Kept.{SendsBelong, lists_about, sends_to, sent_to}, Slots.view_on, Views.slot_id}, proofs.{About.plan_about, Common.{List, ap}}}
use Rattle.spl_world.proofs.{Common.{refl, sym, subst, ◌∙◌, ◌++◌, pair_view, Outgoing}, NodeCalls.{ends_broken, event_leaves, other_after, own_after}}
use Rattle.spl_world.proofs.NodeCalls.{place_same, sound_broken, sound_done, sound_short}
use Rattle.spl_world.proofs.slot.Slot.handle.Goals as goal
use Rattle.spl_edge.proofs.Results.{off_ok, off_if}

pub post-requires : goal.post-requires
post-requires g c =
    let here = c.args.self.now in
    let site = site_at (slot_id here) c.args.circuit.now in
    let cell = (view_on here (pair_view g.D.Disk.view c.args.disks.now)).cells c.args.circuit.now in
    subst (λ (os : List Outgoing). SendsBelong c.args.circuit.now os) (sym (c.as_slice.ensures ∙ c.in-Ok.ensures.gives.sends))
    (plan_about site cell c.args.event.now (ap (λ (os : List Outgoing). are_legal os) (sym c.in-Ok.ensures.gives.sends) ∙ c.in-Ok.ensures.gives.legal))

-- ---- it is answered

pub returns-in_ok-post-in-Ok-clause-does : goal.returns-in_ok-post-in-Ok-clause-does
returns-in_ok-post-in-Ok-clause-does g c =
    let here = c.args.self.now in
    let circuit = c.args.circuit.now in
    let cells = (view_on here (pair_view g.D.Disk.view c.args.disks.now)).cells in
    let first = (pair_view g.D.Disk.view c.handle.new.disks).first in
    let second = (pair_view g.D.Disk.view c.handle.new.disks).second in
    record {
      id = c.handle.ensures.id;
      up = c.handle.ensures.up ∙ sym c.requires.up;
      position = refl;
      answer = c.in-Ok.ensures.gives.answer;
      done = record {
        state = c.in-Ok.ensures.cells (first.image_at first.moment) (second.image_at second.moment) circuit ∙ own_after circuit _ _;
        sent = λ b. c.in_ok-post-in-Ok.ensures.sent b
            ∙ ap (λ (os : List Outgoing). sent_to (lists_about here.posts circuit) b ++ sends_to b os) (c.as_slice.ensures ∙ c.in-Ok.ensures.gives.sends);
      };
      others = λ d off. place_same (slot_id here) _ d (cells d) _ (lists_about here.posts d) _ c.handle.ensures.id
          (c.in-Ok.ensures.cells (first.image_at first.moment) (second.image_at second.moment) d ∙ other_after circuit d _ (cells d) off) (c.in_ok-post-in-Ok.ensures.others d off);
    }

pub returns-in_ok-post-in-Ok-clause-leaves : goal.returns-in_ok-post-in-Ok-clause-leaves
returns-in_ok-post-in-Ok-clause-leaves g c =
    event_leaves g.D.Disk.view c.args.disks.now c.handle.new.disks c.handle.ensures.ends.onward c.handle.ensures.leaves
    (g.met.D.Disk.possible c.handle.new.disks.first) (g.met.D.Disk.possible c.handle.new.disks.second)
    c.in-Ok.ensures.leaves.stands c.in-Ok.ensures.leaves.told

pub returns-in_ok-post-in-Ok-clause-ends : goal.returns-in_ok-post-in-Ok-clause-ends
returns-in_ok-post-in-Ok-clause-ends g c = sound_done _ _ _ c.handle.ensures.ends.onward

-- ---- memory ran out

pub returns-in_err-post-in-Ok-clause-does : goal.returns-in_err-post-in-Ok-clause-does
returns-in_err-post-in-Ok-clause-does g c =
    let r = c.from_residual.result in
    let is = c.from_residual.ensures.0 in
    record { id = c.handle.ensures.id; up = c.handle.ensures.up ∙ sym c.requires.up; position = refl; answer = off_if _ r is; done = off_ok _ r is; others = off_ok _ r is }

pub returns-in_err-post-in-Ok-clause-leaves : goal.returns-in_err-post-in-Ok-clause-leaves
returns-in_err-post-in-Ok-clause-leaves g c =
    event_leaves g.D.Disk.view c.args.disks.now c.handle.new.disks c.handle.ensures.ends.onward c.handle.ensures.leaves
    (g.met.D.Disk.possible c.handle.new.disks.first) (g.met.D.Disk.possible c.handle.new.disks.second)
    (off_ok _ c.from_residual.result c.from_residual.ensures.0) (off_ok _ c.from_residual.result c.from_residual.ensures.0)

pub returns-in_err-post-in-Ok-clause-ends : goal.returns-in_err-post-in-Ok-clause-ends
returns-in_err-post-in-Ok-clause-ends g c = sound_short c.from_residual.result _ _ _ c.from_residual.ensures c.handle.ensures.ends.onward

-- ---- its journal failed

pub returns-in-Err-clause-does : goal.returns-in-Err-clause-does
returns-in-Err-clause-does g c = record { id = c.handle.ensures.id; up = c.handle.ensures.up ∙ sym c.requires.up; position = refl; answer = tt; done = tt; others = tt }

pub returns-in-Err-clause-leaves : goal.returns-in-Err-clause-leaves
returns-in-Err-clause-leaves g c =
    event_leaves g.D.Disk.view c.args.disks.now c.handle.new.disks c.handle.ensures.ends.onward c.handle.ensures.leaves
    (g.met.D.Disk.possible c.handle.new.disks.first) (g.met.D.Disk.possible c.handle.new.disks.second) tt tt

pub returns-in-Err-clause-ends : goal.returns-in-Err-clause-ends
returns-in-Err-clause-ends g c =
    let ends = c.in-Err.ensures.ends in
    let fault = c.journal_fault.ensures in
    record {
      at = ends_broken c.journal_fault.result c.in-Err.fault _ _ _ fault.disk fault.few fault.unlinked ends.failed ends.onward;
      sound = sound_broken c.journal_fault.result c.in-Err.fault fault.sound ends.not;
    }
