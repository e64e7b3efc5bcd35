use Rattle.std.proofs.Common.{◌==◌, ℕ, List, length, refl, sym, ◌∙◌, ap, rules}
use Rattle.spl_edge.specs.Devices.{image_now}
use Rattle.spl_node.{specs.{Kept.packed_node, Records.is_record, Stands.{here_of, circuit_cell}}, proofs.{Disks.settled_pair, Packs.good_node}}
use Rattle.spl_node.proofs.{Events.{or_neither, again_made, node_stands}, Standing.{any_kept, after_kept, any_still, stands_now}, Turns.after_none}
use Rattle.spl_node.proofs.Turns.{none_of}
use Rattle.spl_node.proofs.node.Node.keep_turn.Goals as goal
use Rattle.spl_agree.proofs.Booleans.{or_right}

pub keep_all-requires-clause-running : goal.keep_all-requires-clause-running
keep_all-requires-clause-running g c = or_right c.args.self.now.halted c.args.self.now.pairing.halted c.requires.running

pub keep_all-requires-clause-packed : goal.keep_all-requires-clause-packed
keep_all-requires-clause-packed g c = good_node c.args.self.now.cells.here c.args.self.now.cells.entries c.is_ordered.ensures.own

pub returns-in-Err-clause-leaves : goal.returns-in-Err-clause-leaves
returns-in-Err-clause-leaves g c = record {
  any_moment =
      λ before leads. any_kept (here_of c.args.self.now) before (circuit_cell c.args.self.now) c.args.turn.now
      (packed_node c.args.self.now.cells.entries) leads
      (again_made (here_of c.args.self.now) (circuit_cell c.args.self.now) c.args.self.now.cells refl
      (λ i. refl) c.is_ordered.ensures.ordered c.is_ordered.ensures.own) (image_now (g.D.Disk.view c.args.disks.now.first))
      (image_now (g.D.Disk.view c.args.disks.now.second)) (g.D.Disk.view c.keep_all.new.disks.first).image_at
      (g.D.Disk.view c.keep_all.new.disks.second).image_at (g.D.Disk.view c.args.disks.now.first).moment (g.D.Disk.view c.keep_all.new.disks.first).moment
      (g.D.Disk.view c.args.disks.now.second).moment
      (g.D.Disk.view c.keep_all.new.disks.second).moment c.args.self.now.pairing.second c.in-Err.ensures.leaves.any_moment;
  after = search rules;
  told = search rules;
  pair = search rules;
  stands = search rules;
}

pub returns-clause-leaves : goal.returns-clause-leaves
returns-clause-leaves g c = record {
  any_moment =
      λ before leads. any_kept (here_of c.args.self.now) before (circuit_cell c.args.self.now) c.args.turn.now
      (packed_node c.args.self.now.cells.entries) leads
      (again_made (here_of c.args.self.now) (circuit_cell c.args.self.now) c.args.self.now.cells refl
      (λ i. refl) c.is_ordered.ensures.ordered c.is_ordered.ensures.own) (image_now (g.D.Disk.view c.args.disks.now.first))
      (image_now (g.D.Disk.view c.args.disks.now.second)) (g.D.Disk.view c.keep_all.new.disks.first).image_at
      (g.D.Disk.view c.keep_all.new.disks.second).image_at (g.D.Disk.view c.args.disks.now.first).moment (g.D.Disk.view c.keep_all.new.disks.first).moment
      (g.D.Disk.view c.args.disks.now.second).moment
      (g.D.Disk.view c.keep_all.new.disks.second).moment c.args.self.now.pairing.second c.in_default.ensures.leaves.any_moment;
  after = λ before leads. after_kept (here_of c.args.self.now) before (circuit_cell c.args.self.now) c.args.turn.now
      (packed_node c.args.self.now.cells.entries) leads
      (again_made (here_of c.args.self.now) (circuit_cell c.args.self.now) c.args.self.now.cells refl
      (λ i. refl) c.is_ordered.ensures.ordered c.is_ordered.ensures.own) (image_now (g.D.Disk.view c.args.disks.now.first))
      (image_now (g.D.Disk.view c.args.disks.now.second)) (g.D.Disk.view c.keep_all.new.disks.first).image_at
      (g.D.Disk.view c.keep_all.new.disks.second).image_at (g.D.Disk.view c.keep_all.new.disks.first).moment
      (g.D.Disk.view c.keep_all.new.disks.first).moment (g.D.Disk.view c.keep_all.new.disks.second).moment
      (g.D.Disk.view c.keep_all.new.disks.second).moment c.in_default.ensures.leaves.after;
  told = search rules;
  pair = search rules;
  stands =
      λ before leads. node_stands (record { cells = c.args.self.now.cells; pairing = c.keep_all.new.self; halted = c.args.self.now.halted })
      (here_of c.args.self.now) before (circuit_cell c.args.self.now) (image_now (g.D.Disk.view c.args.disks.now.first))
      (image_now (g.D.Disk.view c.args.disks.now.second)) (image_now (g.D.Disk.view c.keep_all.new.disks.first))
      (image_now (g.D.Disk.view c.keep_all.new.disks.second)) refl (λ i. refl) c.in_default.ensures.leaves.stands
      (stands_now (here_of c.args.self.now) before (circuit_cell c.args.self.now) (image_now (g.D.Disk.view c.args.disks.now.first))
      (image_now (g.D.Disk.view c.args.disks.now.second)) (g.D.Disk.view c.keep_all.new.disks.first).image_at
      (g.D.Disk.view c.keep_all.new.disks.second).image_at (g.D.Disk.view c.keep_all.new.disks.first).moment
      (g.D.Disk.view c.keep_all.new.disks.second).moment
      (settled_pair is_record c.keep_all.new.self (image_now (g.D.Disk.view c.keep_all.new.disks.first))
      (image_now (g.D.Disk.view c.keep_all.new.disks.second)) c.in_default.ensures.leaves.stands).0
      (settled_pair is_record c.keep_all.new.self (image_now (g.D.Disk.view c.keep_all.new.disks.first))
      (image_now (g.D.Disk.view c.keep_all.new.disks.second)) c.in_default.ensures.leaves.stands).1
      (after_kept (here_of c.args.self.now) before (circuit_cell c.args.self.now) c.args.turn.now (packed_node c.args.self.now.cells.entries) leads
      (again_made (here_of c.args.self.now) (circuit_cell c.args.self.now) c.args.self.now.cells refl
      (λ i. refl) c.is_ordered.ensures.ordered c.is_ordered.ensures.own) (image_now (g.D.Disk.view c.args.disks.now.first))
      (image_now (g.D.Disk.view c.args.disks.now.second)) (g.D.Disk.view c.keep_all.new.disks.first).image_at
      (g.D.Disk.view c.keep_all.new.disks.second).image_at (g.D.Disk.view c.keep_all.new.disks.first).moment
      (g.D.Disk.view c.keep_all.new.disks.first).moment (g.D.Disk.view c.keep_all.new.disks.second).moment
      (g.D.Disk.view c.keep_all.new.disks.second).moment c.in_default.ensures.leaves.after));
}

pub returns-clause-ends : goal.returns-clause-ends
returns-clause-ends g c = record {
  halted = search rules;
  running = or_neither c.args.self.now.halted c.args.self.now.pairing.halted c.keep_all.new.self.halted c.requires.running c.in_default.ensures.ends.running;
  not = search rules;
  failed = search rules;
  onward = search rules;
}

-- ---- no records

pub returns-then-is_empty-clause-leaves : goal.returns-then-is_empty-clause-leaves
returns-then-is_empty-clause-leaves g c = record {
  any_moment =
      λ before leads. any_still (here_of c.args.self.now) before (circuit_cell c.args.self.now) (g.D.Disk.view c.args.disks.now.first).image_at
      (g.D.Disk.view c.args.disks.now.second).image_at (g.D.Disk.view c.args.disks.now.first).moment (g.D.Disk.view c.args.disks.now.second).moment
      (settled_pair is_record c.args.self.now.pairing (image_now (g.D.Disk.view c.args.disks.now.first))
      (image_now (g.D.Disk.view c.args.disks.now.second)) c.requires.pair).0
      (settled_pair is_record c.args.self.now.pairing (image_now (g.D.Disk.view c.args.disks.now.first))
      (image_now (g.D.Disk.view c.args.disks.now.second)) c.requires.pair).1 c.args.self.now.pairing.second;
  after = λ before leads. after_none (here_of c.args.self.now) before (circuit_cell c.args.self.now) c.args.turn.now
      (none_of c.args.turn.now (ap (λ (rs : List (List ℕ)). length rs == 0) (sym c.as_slice.ensures) ∙ sym c.if-is_empty.ensures)) leads
      (g.D.Disk.view c.args.disks.now.first).image_at (g.D.Disk.view c.args.disks.now.second).image_at (g.D.Disk.view c.args.disks.now.first).moment
      (g.D.Disk.view c.args.disks.now.second).moment
      (settled_pair is_record c.args.self.now.pairing (image_now (g.D.Disk.view c.args.disks.now.first))
      (image_now (g.D.Disk.view c.args.disks.now.second)) c.requires.pair).0
      (settled_pair is_record c.args.self.now.pairing (image_now (g.D.Disk.view c.args.disks.now.first))
      (image_now (g.D.Disk.view c.args.disks.now.second)) c.requires.pair).1;
  told = search rules;
  pair = search rules;
  stands =
      λ before leads. node_stands c.args.self.now (here_of c.args.self.now) before (circuit_cell c.args.self.now)
      (image_now (g.D.Disk.view c.args.disks.now.first)) (image_now (g.D.Disk.view c.args.disks.now.second))
      (image_now (g.D.Disk.view c.args.disks.now.first)) (image_now (g.D.Disk.view c.args.disks.now.second)) refl (λ i. refl) c.requires.pair
      (stands_now (here_of c.args.self.now) before (circuit_cell c.args.self.now) (image_now (g.D.Disk.view c.args.disks.now.first))
      (image_now (g.D.Disk.view c.args.disks.now.second)) (g.D.Disk.view c.args.disks.now.first).image_at
      (g.D.Disk.view c.args.disks.now.second).image_at (g.D.Disk.view c.args.disks.now.first).moment (g.D.Disk.view c.args.disks.now.second).moment
      (settled_pair is_record c.args.self.now.pairing (image_now (g.D.Disk.view c.args.disks.now.first))
      (image_now (g.D.Disk.view c.args.disks.now.second)) c.requires.pair).0
      (settled_pair is_record c.args.self.now.pairing (image_now (g.D.Disk.view c.args.disks.now.first))
      (image_now (g.D.Disk.view c.args.disks.now.second)) c.requires.pair).1
      (after_none (here_of c.args.self.now) before (circuit_cell c.args.self.now) c.args.turn.now
      (none_of c.args.turn.now (ap (λ (rs : List (List ℕ)). length rs == 0) (sym c.as_slice.ensures) ∙ sym c.if-is_empty.ensures)) leads
      (g.D.Disk.view c.args.disks.now.first).image_at (g.D.Disk.view c.args.disks.now.second).image_at (g.D.Disk.view c.args.disks.now.first).moment
      (g.D.Disk.view c.args.disks.now.second).moment
      (settled_pair is_record c.args.self.now.pairing (image_now (g.D.Disk.view c.args.disks.now.first))
      (image_now (g.D.Disk.view c.args.disks.now.second)) c.requires.pair).0
      (settled_pair is_record c.args.self.now.pairing (image_now (g.D.Disk.view c.args.disks.now.first))
      (image_now (g.D.Disk.view c.args.disks.now.second)) c.requires.pair).1));
}
