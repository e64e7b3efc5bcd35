use Rattle.std.proofs.Common.{ℕ, List, [], ◌∷◌, Option, Some, IfSome, not, inl, refl, sym, ◌∙◌, ap, subst, rules, inr, ⊎_elim}
use Rattle.spl_edge.specs.Devices.{image_now}
use Rattle.spl_journal.specs.{Gate.opened, Journals.end_of, Records.{sized, IsGood, is_kept}}
use Rattle.spl_snapshot.specs.{Counting.chosen, Pairs.journal_in, Stopped.kept_on}
use Rattle.spl_wire.specs.Grouping.{record_of}
use Rattle.spl_cell_rules.specs.{Plans.plan_of, Cells.site_at}
use Rattle.spl_node.{specs.{Kept.{cells_after, packed_node}, Records.{is_record, record_bytes}, Stands.{here_of, circuit_cell}}, proofs.Disks.settled_pair}
use Rattle.spl_node.proofs.{Disks.{no_calls, either_calls}, Packs.good_node, Standing.{any_kept, after_kept, stopped_kept, stands_now, any_still}}
use Rattle.spl_node.proofs.{Events.{or_neither, same_error, no_error, more_kept, again_made, bytes_are_of}, Standing.{after_still, quiet}}
use Rattle.spl_node.proofs.Events.{none_changed, has_none, has_some, node_stands}
use Rattle.spl_node.proofs.node.Node.step.Goals as goal
use Rattle.spl_agree.proofs.Booleans.{or_right}

-- ---- no memory for the plan

pub returns-in-Err-clause-leaves : goal.returns-in-Err-clause-leaves
returns-in-Err-clause-leaves g c = record {
  any_moment =
      any_still (here_of c.args.self.now) (circuit_cell c.args.self.now)
      (cells_after (here_of c.args.self.now) (circuit_cell c.args.self.now) c.args.circuit.now c.args.event.now)
      (g.D.Disk.view c.args.disks.now.first).image_at (g.D.Disk.view c.args.disks.now.second).image_at (g.D.Disk.view c.args.disks.now.first).moment
      (g.D.Disk.view c.args.disks.now.second).moment
      (settled_pair is_record c.args.self.now.pairing (image_now (g.D.Disk.view c.args.disks.now.first))
      (image_now (g.D.Disk.view c.args.disks.now.second)) c.requires.pair).0
      (settled_pair is_record c.args.self.now.pairing (image_now (g.D.Disk.view c.args.disks.now.first))
      (image_now (g.D.Disk.view c.args.disks.now.second)) c.requires.pair).1 c.args.self.now.pairing.second;
  after = search rules;
  told = search rules;
  pair = search rules;
  stands = search rules;
}

pub returns-in-Err-clause-calls : goal.returns-in-Err-clause-calls
returns-in-Err-clause-calls g c = record {
  no_calls = search rules;
  by_calls =
      λ some. inl (
        (no_calls (g.D.Disk.view (chosen c.args.self.now.pairing.second c.args.disks.now.first c.args.disks.now.second))
            (opened (end_of (journal_in c.args.self.now.pairing))
            (sized (record_bytes (record_of c.args.circuit.now
            (plan_of (site_at (here_of c.args.self.now) c.args.circuit.now) (circuit_cell c.args.self.now c.args.circuit.now) c.args.event.now).changes)))) _ _
            (λ i. refl) (search rules) (search rules)),
        refl,
      );
  stopped = search rules;
  turned = search rules;
  passed = search rules;
  counts = search rules;
  no_checkpoint = search rules;
  risen = search rules;
}

-- ---- no changes

pub returns-in_default-clause-leaves : goal.returns-in_default-clause-leaves
returns-in_default-clause-leaves g c = record {
  any_moment =
      any_still (here_of c.args.self.now) (circuit_cell c.args.self.now)
      (cells_after (here_of c.args.self.now) (circuit_cell c.args.self.now) c.args.circuit.now c.args.event.now)
      (g.D.Disk.view c.args.disks.now.first).image_at (g.D.Disk.view c.args.disks.now.second).image_at (g.D.Disk.view c.args.disks.now.first).moment
      (g.D.Disk.view c.args.disks.now.second).moment
      (settled_pair is_record c.args.self.now.pairing (image_now (g.D.Disk.view c.args.disks.now.first))
      (image_now (g.D.Disk.view c.args.disks.now.second)) c.requires.pair).0
      (settled_pair is_record c.args.self.now.pairing (image_now (g.D.Disk.view c.args.disks.now.first))
      (image_now (g.D.Disk.view c.args.disks.now.second)) c.requires.pair).1 c.args.self.now.pairing.second;
  after = after_still (here_of c.args.self.now) (circuit_cell c.args.self.now)
      (cells_after (here_of c.args.self.now) (circuit_cell c.args.self.now) c.args.circuit.now c.args.event.now)
      (g.D.Disk.view c.args.disks.now.first).image_at (g.D.Disk.view c.args.disks.now.second).image_at (g.D.Disk.view c.args.disks.now.first).moment
      (g.D.Disk.view c.args.disks.now.second).moment
      (settled_pair is_record c.args.self.now.pairing (image_now (g.D.Disk.view c.args.disks.now.first))
      (image_now (g.D.Disk.view c.args.disks.now.second)) c.requires.pair).0
      (settled_pair is_record c.args.self.now.pairing (image_now (g.D.Disk.view c.args.disks.now.first))
      (image_now (g.D.Disk.view c.args.disks.now.second)) c.requires.pair).1
      (quiet (here_of c.args.self.now) c.args.circuit.now (circuit_cell c.args.self.now) c.args.event.now
      (none_changed (here_of c.args.self.now) c.args.circuit.now
      (circuit_cell c.args.self.now) c.args.event.now c.in-Ok.done c.in-Ok.ensures.given c.in_default.is));
  told = search rules;
  pair = search rules;
  stands =
      node_stands (record { cells = c.handle.new.self; pairing = c.args.self.now.pairing; halted = c.args.self.now.halted }) (here_of c.args.self.now)
      (circuit_cell c.args.self.now) (cells_after (here_of c.args.self.now) (circuit_cell c.args.self.now) c.args.circuit.now c.args.event.now)
      (image_now (g.D.Disk.view c.args.disks.now.first)) (image_now (g.D.Disk.view c.args.disks.now.second))
      (image_now (g.D.Disk.view c.args.disks.now.first))
      (image_now (g.D.Disk.view c.args.disks.now.second)) c.handle.ensures.here c.in-Ok.ensures.cells c.requires.pair
      (stands_now (here_of c.args.self.now) (circuit_cell c.args.self.now)
      (cells_after (here_of c.args.self.now) (circuit_cell c.args.self.now) c.args.circuit.now c.args.event.now)
      (image_now (g.D.Disk.view c.args.disks.now.first)) (image_now (g.D.Disk.view c.args.disks.now.second))
      (g.D.Disk.view c.args.disks.now.first).image_at (g.D.Disk.view c.args.disks.now.second).image_at (g.D.Disk.view c.args.disks.now.first).moment
      (g.D.Disk.view c.args.disks.now.second).moment
      (settled_pair is_record c.args.self.now.pairing (image_now (g.D.Disk.view c.args.disks.now.first))
      (image_now (g.D.Disk.view c.args.disks.now.second)) c.requires.pair).0
      (settled_pair is_record c.args.self.now.pairing (image_now (g.D.Disk.view c.args.disks.now.first))
      (image_now (g.D.Disk.view c.args.disks.now.second)) c.requires.pair).1
      (after_still (here_of c.args.self.now) (circuit_cell c.args.self.now)
      (cells_after (here_of c.args.self.now) (circuit_cell c.args.self.now) c.args.circuit.now c.args.event.now)
      (g.D.Disk.view c.args.disks.now.first).image_at (g.D.Disk.view c.args.disks.now.second).image_at (g.D.Disk.view c.args.disks.now.first).moment
      (g.D.Disk.view c.args.disks.now.second).moment
      (settled_pair is_record c.args.self.now.pairing (image_now (g.D.Disk.view c.args.disks.now.first))
      (image_now (g.D.Disk.view c.args.disks.now.second)) c.requires.pair).0
      (settled_pair is_record c.args.self.now.pairing (image_now (g.D.Disk.view c.args.disks.now.first))
      (image_now (g.D.Disk.view c.args.disks.now.second)) c.requires.pair).1
      (quiet (here_of c.args.self.now) c.args.circuit.now (circuit_cell c.args.self.now) c.args.event.now
      (none_changed (here_of c.args.self.now) c.args.circuit.now
      (circuit_cell c.args.self.now) c.args.event.now c.in-Ok.done c.in-Ok.ensures.given c.in_default.is))));
}

pub returns-in_default-clause-calls : goal.returns-in_default-clause-calls
returns-in_default-clause-calls g c = record {
  no_calls = search rules;
  by_calls =
      λ some. absurd (some (none_changed (here_of c.args.self.now) c.args.circuit.now
      (circuit_cell c.args.self.now) c.args.event.now c.in-Ok.done c.in-Ok.ensures.given c.in_default.is));
  stopped = search rules;
  turned = λ some. absurd (some
      (none_changed (here_of c.args.self.now) c.args.circuit.now
      (circuit_cell c.args.self.now) c.args.event.now c.in-Ok.done c.in-Ok.ensures.given c.in_default.is));
  passed = search rules;
  counts = search rules;
  no_checkpoint =
      λ some. absurd (some (none_changed (here_of c.args.self.now) c.args.circuit.now
      (circuit_cell c.args.self.now) c.args.event.now c.in-Ok.done c.in-Ok.ensures.given c.in_default.is));
  risen = λ some. absurd (some
      (none_changed (here_of c.args.self.now) c.args.circuit.now
      (circuit_cell c.args.self.now) c.args.event.now c.in-Ok.done c.in-Ok.ensures.given c.in_default.is));
}

pub returns-in_default-clause-bound : goal.returns-in_default-clause-bound
returns-in_default-clause-bound g c = record {
  room = λ some. absurd (some
      (none_changed (here_of c.args.self.now) c.args.circuit.now
      (circuit_cell c.args.self.now) c.args.event.now c.in-Ok.done c.in-Ok.ensures.given c.in_default.is));
  base = search rules;
}

-- ---- a record

pub keep-requires-clause-running : goal.keep-requires-clause-running
keep-requires-clause-running g c = or_right c.args.self.now.halted c.args.self.now.pairing.halted c.requires.running

pub keep-requires-clause-packed : goal.keep-requires-clause-packed
keep-requires-clause-packed g c = good_node c.handle.new.self.here c.handle.new.self.entries c.is_ordered.ensures.own

pub returns-in-Err-keep-clause-leaves : goal.returns-in-Err-keep-clause-leaves
returns-in-Err-keep-clause-leaves g c = record {
  any_moment =
      any_kept (here_of c.args.self.now) (circuit_cell c.args.self.now)
      (cells_after (here_of c.args.self.now) (circuit_cell c.args.self.now) c.args.circuit.now c.args.event.now) (c.bytes-2.result.now ∷ [])
      (packed_node c.handle.new.self.entries)
      (more_kept (here_of c.args.self.now) c.args.circuit.now
      (circuit_cell c.args.self.now) c.args.event.now c.in-Ok.done c.in-Ok.ensures.given c.bytes-2.result.now
      (c.in-Some.is ∙ ap (λ (x : List ℕ). Some x) (sym c.bytes-2.ensures)))
      (again_made (here_of c.args.self.now)
      (cells_after (here_of c.args.self.now) (circuit_cell c.args.self.now) c.args.circuit.now c.args.event.now) c.handle.new.self c.handle.ensures.here
      c.in-Ok.ensures.cells c.is_ordered.ensures.ordered c.is_ordered.ensures.own) (image_now (g.D.Disk.view c.args.disks.now.first))
      (image_now (g.D.Disk.view c.args.disks.now.second)) (g.D.Disk.view c.keep.new.disks.first).image_at (g.D.Disk.view c.keep.new.disks.second).image_at
      (g.D.Disk.view c.args.disks.now.first).moment (g.D.Disk.view c.keep.new.disks.first).moment (g.D.Disk.view c.args.disks.now.second).moment
      (g.D.Disk.view c.keep.new.disks.second).moment c.args.self.now.pairing.second c.in-Err-keep.ensures.leaves.any_moment;
  after = search rules;
  told = search rules;
  pair = search rules;
  stands = search rules;
}

pub returns-in-Err-keep-clause-calls : goal.returns-in-Err-keep-clause-calls
returns-in-Err-keep-clause-calls g c = record {
  no_calls = search rules;
  by_calls =
      λ some. rw (← (bytes_are_of (here_of c.args.self.now) c.args.circuit.now
      (circuit_cell c.args.self.now) c.args.event.now c.in-Ok.done c.in-Ok.ensures.given c.bytes-2.result.now
      (c.in-Some.is ∙ ap (λ (x : List ℕ). Some x) (sym c.bytes-2.ensures))))
      (either_calls 4 (g.D.Disk.view (chosen c.args.self.now.pairing.second c.args.disks.now.first c.args.disks.now.second))
      (g.D.Disk.view (chosen c.args.self.now.pairing.second c.keep.new.disks.first c.keep.new.disks.second))
      (opened (end_of (journal_in c.args.self.now.pairing)) (sized c.bytes-2.result.now)) _ _ _ _ _ _ (λ h. h) (λ h. same_error h)
      (after_kept (here_of c.args.self.now) (circuit_cell c.args.self.now)
      (cells_after (here_of c.args.self.now) (circuit_cell c.args.self.now) c.args.circuit.now c.args.event.now) (c.bytes-2.result.now ∷ [])
      (packed_node c.handle.new.self.entries)
      (more_kept (here_of c.args.self.now) c.args.circuit.now
      (circuit_cell c.args.self.now) c.args.event.now c.in-Ok.done c.in-Ok.ensures.given c.bytes-2.result.now
      (c.in-Some.is ∙ ap (λ (x : List ℕ). Some x) (sym c.bytes-2.ensures)))
      (again_made (here_of c.args.self.now)
      (cells_after (here_of c.args.self.now) (circuit_cell c.args.self.now) c.args.circuit.now c.args.event.now) c.handle.new.self c.handle.ensures.here
      c.in-Ok.ensures.cells c.is_ordered.ensures.ordered c.is_ordered.ensures.own) (image_now (g.D.Disk.view c.args.disks.now.first))
      (image_now (g.D.Disk.view c.args.disks.now.second)) (g.D.Disk.view c.keep.new.disks.first).image_at (g.D.Disk.view c.keep.new.disks.second).image_at
      (g.D.Disk.view c.keep.new.disks.first).moment (g.D.Disk.view c.keep.new.disks.first).moment (g.D.Disk.view c.keep.new.disks.second).moment
      (g.D.Disk.view c.keep.new.disks.second).moment) c.in-Err-keep.ensures.calls.by_calls);
  stopped =
      λ is calls fill. rw (← (bytes_are_of (here_of c.args.self.now) c.args.circuit.now
      (circuit_cell c.args.self.now) c.args.event.now c.in-Ok.done c.in-Ok.ensures.given c.bytes-2.result.now
      (c.in-Some.is ∙ ap (λ (x : List ℕ). Some x) (sym c.bytes-2.ensures))))
      (stopped_kept (here_of c.args.self.now) (circuit_cell c.args.self.now)
      (cells_after (here_of c.args.self.now) (circuit_cell c.args.self.now) c.args.circuit.now c.args.event.now) (c.bytes-2.result.now ∷ [])
      (packed_node c.handle.new.self.entries)
      (more_kept (here_of c.args.self.now) c.args.circuit.now
      (circuit_cell c.args.self.now) c.args.event.now c.in-Ok.done c.in-Ok.ensures.given c.bytes-2.result.now
      (c.in-Some.is ∙ ap (λ (x : List ℕ). Some x) (sym c.bytes-2.ensures)))
      (again_made (here_of c.args.self.now)
      (cells_after (here_of c.args.self.now) (circuit_cell c.args.self.now) c.args.circuit.now c.args.event.now) c.handle.new.self
      c.handle.ensures.here c.in-Ok.ensures.cells c.is_ordered.ensures.ordered c.is_ordered.ensures.own)
      c.args.self.now.pairing (is_kept calls fill)
      (λ i. kept_on (not c.args.self.now.pairing.second) fill (end_of (journal_in c.args.self.now.pairing)) (sized c.bytes-2.result.now) calls i)
      (λ j. kept_on c.args.self.now.pairing.second fill (end_of (journal_in c.args.self.now.pairing)) (sized c.bytes-2.result.now) calls j)
      (λ i j standing counts. c.appends_to_pairs_are_kept_or_lost.ensures is_record c.args.self.now.pairing.second c.args.self.now.pairing.journal.end
      c.args.self.now.pairing.journal.extent c.args.self.now.pairing.journal.epoch i j c.bytes-2.result.now calls fill standing counts
      (subst (λ (o : Option (List ℕ)). IfSome o (IsGood is_record))
      (c.in-Some.is ∙ ap (λ (x : List ℕ). Some x) (sym c.bytes-2.ensures)) c.in-Ok.ensures.given.good))
      (image_now (g.D.Disk.view c.args.disks.now.first)) (image_now (g.D.Disk.view c.args.disks.now.second)) c.requires.pair);
  turned = search rules;
  passed = search rules;
  counts = λ is fill stops. c.in-Err-keep.ensures.calls.counts (same_error is) fill stops;
  no_checkpoint =
      λ some. rw (← (bytes_are_of (here_of c.args.self.now) c.args.circuit.now
      (circuit_cell c.args.self.now) c.args.event.now c.in-Ok.done c.in-Ok.ensures.given c.bytes-2.result.now
      (c.in-Some.is ∙ ap (λ (x : List ℕ). Some x) (sym c.bytes-2.ensures)))) c.in-Err-keep.ensures.calls.no_checkpoint;
  risen = λ some. rw (← (bytes_are_of (here_of c.args.self.now) c.args.circuit.now
      (circuit_cell c.args.self.now) c.args.event.now c.in-Ok.done c.in-Ok.ensures.given c.bytes-2.result.now
      (c.in-Some.is ∙ ap (λ (x : List ℕ). Some x) (sym c.bytes-2.ensures))))
      (λ full epoch arms. ⊎_elim (λ memory. inl (same_error memory)) (λ rose. inr rose) (c.in-Err-keep.ensures.calls.risen full epoch arms));
}

pub returns-clause-leaves : goal.returns-clause-leaves
returns-clause-leaves g c = record {
  any_moment =
      any_kept (here_of c.args.self.now) (circuit_cell c.args.self.now)
      (cells_after (here_of c.args.self.now) (circuit_cell c.args.self.now) c.args.circuit.now c.args.event.now) (c.bytes-2.result.now ∷ [])
      (packed_node c.handle.new.self.entries)
      (more_kept (here_of c.args.self.now) c.args.circuit.now
      (circuit_cell c.args.self.now) c.args.event.now c.in-Ok.done c.in-Ok.ensures.given c.bytes-2.result.now
      (c.in-Some.is ∙ ap (λ (x : List ℕ). Some x) (sym c.bytes-2.ensures)))
      (again_made (here_of c.args.self.now)
      (cells_after (here_of c.args.self.now) (circuit_cell c.args.self.now) c.args.circuit.now c.args.event.now) c.handle.new.self c.handle.ensures.here
      c.in-Ok.ensures.cells c.is_ordered.ensures.ordered c.is_ordered.ensures.own) (image_now (g.D.Disk.view c.args.disks.now.first))
      (image_now (g.D.Disk.view c.args.disks.now.second)) (g.D.Disk.view c.keep.new.disks.first).image_at (g.D.Disk.view c.keep.new.disks.second).image_at
      (g.D.Disk.view c.args.disks.now.first).moment (g.D.Disk.view c.keep.new.disks.first).moment (g.D.Disk.view c.args.disks.now.second).moment
      (g.D.Disk.view c.keep.new.disks.second).moment c.args.self.now.pairing.second c.in_default-keep.ensures.leaves.any_moment;
  after = after_kept (here_of c.args.self.now) (circuit_cell c.args.self.now)
      (cells_after (here_of c.args.self.now) (circuit_cell c.args.self.now) c.args.circuit.now c.args.event.now) (c.bytes-2.result.now ∷ [])
      (packed_node c.handle.new.self.entries)
      (more_kept (here_of c.args.self.now) c.args.circuit.now
      (circuit_cell c.args.self.now) c.args.event.now c.in-Ok.done c.in-Ok.ensures.given c.bytes-2.result.now
      (c.in-Some.is ∙ ap (λ (x : List ℕ). Some x) (sym c.bytes-2.ensures)))
      (again_made (here_of c.args.self.now)
      (cells_after (here_of c.args.self.now) (circuit_cell c.args.self.now) c.args.circuit.now c.args.event.now) c.handle.new.self c.handle.ensures.here
      c.in-Ok.ensures.cells c.is_ordered.ensures.ordered c.is_ordered.ensures.own) (image_now (g.D.Disk.view c.args.disks.now.first))
      (image_now (g.D.Disk.view c.args.disks.now.second)) (g.D.Disk.view c.keep.new.disks.first).image_at (g.D.Disk.view c.keep.new.disks.second).image_at
      (g.D.Disk.view c.keep.new.disks.first).moment (g.D.Disk.view c.keep.new.disks.first).moment (g.D.Disk.view c.keep.new.disks.second).moment
      (g.D.Disk.view c.keep.new.disks.second).moment c.in_default-keep.ensures.leaves.after;
  told = search rules;
  pair = search rules;
  stands =
      node_stands (record { cells = c.handle.new.self; pairing = c.keep.new.self; halted = c.args.self.now.halted }) (here_of c.args.self.now)
      (circuit_cell c.args.self.now) (cells_after (here_of c.args.self.now) (circuit_cell c.args.self.now) c.args.circuit.now c.args.event.now)
      (image_now (g.D.Disk.view c.args.disks.now.first)) (image_now (g.D.Disk.view c.args.disks.now.second))
      (image_now (g.D.Disk.view c.keep.new.disks.first))
      (image_now (g.D.Disk.view c.keep.new.disks.second)) c.handle.ensures.here c.in-Ok.ensures.cells c.in_default-keep.ensures.leaves.stands
      (stands_now (here_of c.args.self.now) (circuit_cell c.args.self.now)
      (cells_after (here_of c.args.self.now) (circuit_cell c.args.self.now) c.args.circuit.now c.args.event.now)
      (image_now (g.D.Disk.view c.args.disks.now.first)) (image_now (g.D.Disk.view c.args.disks.now.second))
      (g.D.Disk.view c.keep.new.disks.first).image_at (g.D.Disk.view c.keep.new.disks.second).image_at (g.D.Disk.view c.keep.new.disks.first).moment
      (g.D.Disk.view c.keep.new.disks.second).moment
      (settled_pair is_record c.keep.new.self (image_now (g.D.Disk.view c.keep.new.disks.first))
      (image_now (g.D.Disk.view c.keep.new.disks.second)) c.in_default-keep.ensures.leaves.stands).0
      (settled_pair is_record c.keep.new.self (image_now (g.D.Disk.view c.keep.new.disks.first))
      (image_now (g.D.Disk.view c.keep.new.disks.second)) c.in_default-keep.ensures.leaves.stands).1
      (after_kept (here_of c.args.self.now) (circuit_cell c.args.self.now)
      (cells_after (here_of c.args.self.now) (circuit_cell c.args.self.now) c.args.circuit.now c.args.event.now) (c.bytes-2.result.now ∷ [])
      (packed_node c.handle.new.self.entries)
      (more_kept (here_of c.args.self.now) c.args.circuit.now
      (circuit_cell c.args.self.now) c.args.event.now c.in-Ok.done c.in-Ok.ensures.given c.bytes-2.result.now
      (c.in-Some.is ∙ ap (λ (x : List ℕ). Some x) (sym c.bytes-2.ensures)))
      (again_made (here_of c.args.self.now)
      (cells_after (here_of c.args.self.now) (circuit_cell c.args.self.now) c.args.circuit.now c.args.event.now) c.handle.new.self
      c.handle.ensures.here c.in-Ok.ensures.cells c.is_ordered.ensures.ordered c.is_ordered.ensures.own)
      (image_now (g.D.Disk.view c.args.disks.now.first)) (image_now (g.D.Disk.view c.args.disks.now.second))
      (g.D.Disk.view c.keep.new.disks.first).image_at (g.D.Disk.view c.keep.new.disks.second).image_at (g.D.Disk.view c.keep.new.disks.first).moment
      (g.D.Disk.view c.keep.new.disks.first).moment (g.D.Disk.view c.keep.new.disks.second).moment
      (g.D.Disk.view c.keep.new.disks.second).moment c.in_default-keep.ensures.leaves.after));
}

pub returns-clause-calls : goal.returns-clause-calls
returns-clause-calls g c = record {
  no_calls = search rules;
  by_calls =
      λ some. rw (← (bytes_are_of (here_of c.args.self.now) c.args.circuit.now
      (circuit_cell c.args.self.now) c.args.event.now c.in-Ok.done c.in-Ok.ensures.given c.bytes-2.result.now
      (c.in-Some.is ∙ ap (λ (x : List ℕ). Some x) (sym c.bytes-2.ensures))))
      (either_calls 4 (g.D.Disk.view (chosen c.args.self.now.pairing.second c.args.disks.now.first c.args.disks.now.second))
      (g.D.Disk.view (chosen c.args.self.now.pairing.second c.keep.new.disks.first c.keep.new.disks.second))
      (opened (end_of (journal_in c.args.self.now.pairing)) (sized c.bytes-2.result.now)) _ _ _ _ _ _ (λ h. h) (λ h. absurd (no_error h))
      (after_kept (here_of c.args.self.now) (circuit_cell c.args.self.now)
      (cells_after (here_of c.args.self.now) (circuit_cell c.args.self.now) c.args.circuit.now c.args.event.now) (c.bytes-2.result.now ∷ [])
      (packed_node c.handle.new.self.entries)
      (more_kept (here_of c.args.self.now) c.args.circuit.now
      (circuit_cell c.args.self.now) c.args.event.now c.in-Ok.done c.in-Ok.ensures.given c.bytes-2.result.now
      (c.in-Some.is ∙ ap (λ (x : List ℕ). Some x) (sym c.bytes-2.ensures)))
      (again_made (here_of c.args.self.now)
      (cells_after (here_of c.args.self.now) (circuit_cell c.args.self.now) c.args.circuit.now c.args.event.now) c.handle.new.self c.handle.ensures.here
      c.in-Ok.ensures.cells c.is_ordered.ensures.ordered c.is_ordered.ensures.own) (image_now (g.D.Disk.view c.args.disks.now.first))
      (image_now (g.D.Disk.view c.args.disks.now.second)) (g.D.Disk.view c.keep.new.disks.first).image_at (g.D.Disk.view c.keep.new.disks.second).image_at
      (g.D.Disk.view c.keep.new.disks.first).moment (g.D.Disk.view c.keep.new.disks.first).moment (g.D.Disk.view c.keep.new.disks.second).moment
      (g.D.Disk.view c.keep.new.disks.second).moment) c.in_default-keep.ensures.calls.by_calls);
  stopped = search rules;
  turned = λ some. rw (← (bytes_are_of (here_of c.args.self.now) c.args.circuit.now
      (circuit_cell c.args.self.now) c.args.event.now c.in-Ok.done c.in-Ok.ensures.given c.bytes-2.result.now
      (c.in-Some.is ∙ ap (λ (x : List ℕ). Some x) (sym c.bytes-2.ensures)))) c.in_default-keep.ensures.calls.turned;
  passed = search rules;
  counts = search rules;
  no_checkpoint =
      λ some. rw (← (bytes_are_of (here_of c.args.self.now) c.args.circuit.now
      (circuit_cell c.args.self.now) c.args.event.now c.in-Ok.done c.in-Ok.ensures.given c.bytes-2.result.now
      (c.in-Some.is ∙ ap (λ (x : List ℕ). Some x) (sym c.bytes-2.ensures)))) c.in_default-keep.ensures.calls.no_checkpoint;
  risen = λ some. rw (← (bytes_are_of (here_of c.args.self.now) c.args.circuit.now
      (circuit_cell c.args.self.now) c.args.event.now c.in-Ok.done c.in-Ok.ensures.given c.bytes-2.result.now
      (c.in-Some.is ∙ ap (λ (x : List ℕ). Some x) (sym c.bytes-2.ensures))))
      (λ full epoch arms. ⊎_elim (λ none. absurd (no_error none)) (λ rose. inr rose) (c.in_default-keep.ensures.calls.risen full epoch arms));
}

-- ---- whether there were changes

pub returns-in_default-clause-gives : goal.returns-in_default-clause-gives
returns-in_default-clause-gives g c = record {
  answer = search rules;
  sends = search rules;
  changed = has_none (here_of c.args.self.now) c.args.circuit.now
      (circuit_cell c.args.self.now) c.args.event.now c.in-Ok.done c.in-Ok.ensures.given c.in_default.is;
  legal = search rules;
  sendable = search rules;
}

pub returns-clause-gives : goal.returns-clause-gives
returns-clause-gives g c = record {
  answer = search rules;
  sends = search rules;
  changed = has_some (here_of c.args.self.now) c.args.circuit.now
      (circuit_cell c.args.self.now) c.args.event.now c.in-Ok.done c.in-Ok.ensures.given c.bytes-2.result.now
      (c.in-Some.is ∙ ap (λ (x : List ℕ). Some x) (sym c.bytes-2.ensures));
  legal = search rules;
  sendable = search rules;
}

-- ---- it goes on

pub returns-clause-ends : goal.returns-clause-ends
returns-clause-ends g c = record {
  halted = search rules;
  running = or_neither c.args.self.now.halted c.args.self.now.pairing.halted c.keep.new.self.halted c.requires.running c.in_default-keep.ensures.ends.running;
  not = search rules;
  failed = search rules;
  onward = search rules;
}
