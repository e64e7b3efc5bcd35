use Rattle.std.{specs.Option.option_copied, proofs.Common.{◌≡◌, ◌∙◌, ◌==◌, ℕ, Bool, Option, Some, None, inl, ap, sym, subst, rules}}
use Rattle.spl_edge.specs.{Devices.{Rose, image_now, pair_view}, declared.fill.Fill.Fill}
use Rattle.spl_snapshot.specs.{Counting.{IfBoth, PairLeaves, chosen, second_counts}, Pairs.is_second, Stopped.PicksCount}
use Rattle.spl_node.specs.{Stands.{HostStands, counts_second, kept_cell, made_cell, here_of, circuit_cell}, Stopping.{FillsJournal, IsInCheckpoint}}
use Rattle.spl_node.specs.Stopping.{PicksArmed, PicksMake, StandForEither, cells_stopped, counting_arming, event_changes, fill_of, keeps, other_arming}
use Rattle.spl_node.{specs.declared.node.Node.Node, proofs.{Counting.picked_counts, Halting.{is_one, picked_cells, picked_rests, picks_armed, rose_within}}}
use Rattle.spl_node.proofs.{Hosting.{as_host, up_runs}, Leaving.{leaves_picked, picks_then}}
use Rattle.spl_node.proofs.host.Host.stop_in.Goals as goal

pub returns-clause-stops : goal.returns-clause-stops
returns-clause-stops g c = record {
  down = search rules;
  stands =
      let none : c.take.new.self ≡ None = search rules in
      let first = c.in_ok-pick_both.ensures.first.picks in
      let second = c.in_ok-pick_both.ensures.second.picks in
      subst (λ (o : Option Node). HostStands (record { id = c.args.self.now.id; node = o }) (image_now (g.D.Disk.view c.pick_both.new.disks.first))
      (image_now (g.D.Disk.view c.pick_both.new.disks.second))) (sym none) (record {
        up = tt;
        down = picked_rests c.fill.result (here_of c.in-Some.node)
            (cells_stopped (here_of c.in-Some.node) (circuit_cell c.in-Some.node) c.args.circuit.now
            (event_changes (here_of c.in-Some.node) (circuit_cell c.in-Some.node) c.args.circuit.now (option_copied c.args.event)) (keeps c.args.stopping))
            (image_now (g.D.Disk.view c.handle_armed.new.disks.first)) (image_now (g.D.Disk.view c.handle_armed.new.disks.second))
            (image_now (g.D.Disk.view c.pick_both.new.disks.first))
            (image_now (g.D.Disk.view c.pick_both.new.disks.second)) first.image second.image first.told second.told first.allowed second.allowed
            first.holds second.holds
            (subst (λ (f : Fill). IfBoth (image_now (g.D.Disk.view c.handle_armed.new.disks.first))
            (image_now (g.D.Disk.view c.handle_armed.new.disks.second))
            (PicksMake f (here_of c.in-Some.node)
            (cells_stopped (here_of c.in-Some.node) (circuit_cell c.in-Some.node) c.args.circuit.now
            (event_changes (here_of c.in-Some.node) (circuit_cell c.in-Some.node) c.args.circuit.now (option_copied c.args.event))
            (keeps c.args.stopping)))) (sym c.fill.ensures) c.in_ok-changed.ensures.left);
      });
  tells = search rules;
  cells =
      λ i.
      let is : c.args.self.now.node ≡ Some c.in-Some.node = search rules in
      let none : c.take.new.self ≡ None = search rules in
      let first = c.in_ok-pick_both.ensures.first.picks in
      let second = c.in_ok-pick_both.ensures.second.picks in
      subst (λ (o : Option Node). kept_cell c.args.self.now.id o (image_now (g.D.Disk.view c.pick_both.new.disks.first))
      (image_now (g.D.Disk.view c.pick_both.new.disks.second)) i
      ≡ cells_stopped c.args.self.now.id
      (kept_cell c.args.self.now.id c.args.self.now.node (image_now (g.D.Disk.view c.args.disks.now.first))
      (image_now (g.D.Disk.view c.args.disks.now.second))) c.args.circuit.now
      (event_changes c.args.self.now.id
      (kept_cell c.args.self.now.id c.args.self.now.node (image_now (g.D.Disk.view c.args.disks.now.first))
      (image_now (g.D.Disk.view c.args.disks.now.second))) c.args.circuit.now (option_copied c.args.event)) (keeps c.args.stopping) i) (sym none)
      (as_host (λ here cells. made_cell here i (image_now (g.D.Disk.view c.pick_both.new.disks.first))
      (image_now (g.D.Disk.view c.pick_both.new.disks.second))
      ≡ cells_stopped here cells c.args.circuit.now (event_changes here cells c.args.circuit.now (option_copied c.args.event)) (keeps c.args.stopping) i)
      c.args.self.now.id c.args.self.now.node c.in-Some.node (image_now (g.D.Disk.view c.args.disks.now.first))
      (image_now (g.D.Disk.view c.args.disks.now.second)) is
      (up_runs c.args.self.now.id c.args.self.now.node c.in-Some.node (image_now (g.D.Disk.view c.args.disks.now.first))
      (image_now (g.D.Disk.view c.args.disks.now.second)) is c.requires.stands.up).here_is
      (picked_cells c.fill.result (here_of c.in-Some.node)
      (cells_stopped (here_of c.in-Some.node) (circuit_cell c.in-Some.node) c.args.circuit.now
      (event_changes (here_of c.in-Some.node) (circuit_cell c.in-Some.node) c.args.circuit.now (option_copied c.args.event)) (keeps c.args.stopping))
      (image_now (g.D.Disk.view c.handle_armed.new.disks.first)) (image_now (g.D.Disk.view c.handle_armed.new.disks.second))
      (image_now (g.D.Disk.view c.pick_both.new.disks.first))
      (image_now (g.D.Disk.view c.pick_both.new.disks.second)) first.image second.image first.told second.told first.allowed second.allowed first.holds
      second.holds
      (subst (λ (f : Fill). IfBoth (image_now (g.D.Disk.view c.handle_armed.new.disks.first)) (image_now (g.D.Disk.view c.handle_armed.new.disks.second))
      (PicksMake f (here_of c.in-Some.node)
      (cells_stopped (here_of c.in-Some.node) (circuit_cell c.in-Some.node) c.args.circuit.now
      (event_changes (here_of c.in-Some.node) (circuit_cell c.in-Some.node) c.args.circuit.now (option_copied c.args.event)) (keeps c.args.stopping))))
      (sym c.fill.ensures) c.in_ok-changed.ensures.left) i));
}

-- ---- whatever the result

pub returns-in_err-changed-clause-leaves : goal.returns-in_err-changed-clause-leaves
returns-in_err-changed-clause-leaves g c =
    let is : c.args.self.now.node ≡ Some c.in-Some.node = search rules in
    as_host (λ here cells. PairLeaves (pair_view g.D.Disk.view c.handle_armed.new.disks) (pair_view g.D.Disk.view c.handle_armed.new.disks)
    (StandForEither here cells c.args.circuit.now
    (event_changes here cells c.args.circuit.now (option_copied c.args.event)))) c.args.self.now.id c.args.self.now.node c.in-Some.node
    (image_now (g.D.Disk.view c.args.disks.now.first)) (image_now (g.D.Disk.view c.args.disks.now.second)) is
    (up_runs c.args.self.now.id c.args.self.now.node c.in-Some.node (image_now (g.D.Disk.view c.args.disks.now.first))
    (image_now (g.D.Disk.view c.args.disks.now.second)) is c.requires.stands.up).here_is c.handle_armed.ensures.leaves

pub returns-in_err-pick_both-clause-leaves : goal.returns-in_err-pick_both-clause-leaves
returns-in_err-pick_both-clause-leaves g c =
    let is : c.args.self.now.node ≡ Some c.in-Some.node = search rules in
    leaves_picked (g.D.Disk.view c.handle_armed.new.disks.first).image_at (g.D.Disk.view c.handle_armed.new.disks.second).image_at
    (g.D.Disk.view c.pick_both.new.disks.first).image_at (g.D.Disk.view c.pick_both.new.disks.second).image_at
    (g.D.Disk.view c.handle_armed.new.disks.first).moment (g.D.Disk.view c.handle_armed.new.disks.second).moment
    (g.D.Disk.view c.pick_both.new.disks.first).moment (g.D.Disk.view c.pick_both.new.disks.second).moment
    (StandForEither c.args.self.now.id
    (kept_cell c.args.self.now.id c.args.self.now.node (image_now (g.D.Disk.view c.args.disks.now.first))
    (image_now (g.D.Disk.view c.args.disks.now.second))) c.args.circuit.now
    (event_changes c.args.self.now.id
    (kept_cell c.args.self.now.id c.args.self.now.node (image_now (g.D.Disk.view c.args.disks.now.first))
    (image_now (g.D.Disk.view c.args.disks.now.second))) c.args.circuit.now (option_copied c.args.event)))
    (g.met.D.StopDisk.tells c.handle_armed.new.disks.first)
    (g.met.D.StopDisk.tells c.handle_armed.new.disks.second) c.pick_both.ensures.first_left c.pick_both.ensures.second_left
    (as_host (λ here cells. PairLeaves (pair_view g.D.Disk.view c.handle_armed.new.disks) (pair_view g.D.Disk.view c.handle_armed.new.disks)
    (StandForEither here cells c.args.circuit.now
    (event_changes here cells c.args.circuit.now (option_copied c.args.event)))) c.args.self.now.id c.args.self.now.node c.in-Some.node
    (image_now (g.D.Disk.view c.args.disks.now.first)) (image_now (g.D.Disk.view c.args.disks.now.second)) is
    (up_runs c.args.self.now.id c.args.self.now.node c.in-Some.node (image_now (g.D.Disk.view c.args.disks.now.first))
    (image_now (g.D.Disk.view c.args.disks.now.second)) is c.requires.stands.up).here_is c.handle_armed.ensures.leaves)

pub returns-clause-leaves : goal.returns-clause-leaves
returns-clause-leaves g c =
    let is : c.args.self.now.node ≡ Some c.in-Some.node = search rules in
    leaves_picked (g.D.Disk.view c.handle_armed.new.disks.first).image_at (g.D.Disk.view c.handle_armed.new.disks.second).image_at
    (g.D.Disk.view c.pick_both.new.disks.first).image_at (g.D.Disk.view c.pick_both.new.disks.second).image_at
    (g.D.Disk.view c.handle_armed.new.disks.first).moment (g.D.Disk.view c.handle_armed.new.disks.second).moment
    (g.D.Disk.view c.pick_both.new.disks.first).moment (g.D.Disk.view c.pick_both.new.disks.second).moment
    (StandForEither c.args.self.now.id
    (kept_cell c.args.self.now.id c.args.self.now.node (image_now (g.D.Disk.view c.args.disks.now.first))
    (image_now (g.D.Disk.view c.args.disks.now.second))) c.args.circuit.now
    (event_changes c.args.self.now.id
    (kept_cell c.args.self.now.id c.args.self.now.node (image_now (g.D.Disk.view c.args.disks.now.first))
    (image_now (g.D.Disk.view c.args.disks.now.second))) c.args.circuit.now (option_copied c.args.event)))
    (g.met.D.StopDisk.tells c.handle_armed.new.disks.first)
    (g.met.D.StopDisk.tells c.handle_armed.new.disks.second) c.pick_both.ensures.first_left c.pick_both.ensures.second_left
    (as_host (λ here cells. PairLeaves (pair_view g.D.Disk.view c.handle_armed.new.disks) (pair_view g.D.Disk.view c.handle_armed.new.disks)
    (StandForEither here cells c.args.circuit.now
    (event_changes here cells c.args.circuit.now (option_copied c.args.event)))) c.args.self.now.id c.args.self.now.node c.in-Some.node
    (image_now (g.D.Disk.view c.args.disks.now.first)) (image_now (g.D.Disk.view c.args.disks.now.second)) is
    (up_runs c.args.self.now.id c.args.self.now.node c.in-Some.node (image_now (g.D.Disk.view c.args.disks.now.first))
    (image_now (g.D.Disk.view c.args.disks.now.second)) is c.requires.stands.up).here_is c.handle_armed.ensures.leaves)

pub returns-clause-picks : goal.returns-clause-picks
returns-clause-picks g c = record {
  picks_first =
      let is : c.args.self.now.node ≡ Some c.in-Some.node = search rules in
      let second : (c.counting.result == 1) ≡ counts_second c.args.self.now.node =
      ap (λ (k : ℕ). k == 1) c.counting.ensures ∙ is_one (is_second c.in-Some.node.pairing) ∙ sym (ap counts_second is) in
      subst (λ (b : Bool). PicksArmed (fill_of c.args.stopping) (chosen b (counting_arming c.args.stopping) (other_arming c.args.stopping))
      (g.D.Disk.view c.args.disks.now.first) (g.D.Disk.view c.pick_both.new.disks.first)) second
      (subst (λ (f : Fill). PicksArmed f (chosen (c.counting.result == 1) (counting_arming c.args.stopping) (other_arming c.args.stopping))
      (g.D.Disk.view c.args.disks.now.first) (g.D.Disk.view c.pick_both.new.disks.first)) c.fill.ensures
      (picks_armed _ _ _ _ _ _ c.arm.ensures.first c.handle_armed.ensures.onward.first c.in_ok-pick_both.ensures.first));
  picks_second =
      let is : c.args.self.now.node ≡ Some c.in-Some.node = search rules in
      let second : (c.counting.result == 1) ≡ counts_second c.args.self.now.node =
      ap (λ (k : ℕ). k == 1) c.counting.ensures ∙ is_one (is_second c.in-Some.node.pairing) ∙ sym (ap counts_second is) in
      subst (λ (b : Bool). PicksArmed (fill_of c.args.stopping) (chosen b (other_arming c.args.stopping) (counting_arming c.args.stopping))
      (g.D.Disk.view c.args.disks.now.second) (g.D.Disk.view c.pick_both.new.disks.second)) second
      (subst (λ (f : Fill). PicksArmed f (chosen (c.counting.result == 1) (other_arming c.args.stopping) (counting_arming c.args.stopping))
      (g.D.Disk.view c.args.disks.now.second) (g.D.Disk.view c.pick_both.new.disks.second)) c.fill.ensures
      (picks_armed _ _ _ _ _ _ c.arm.ensures.second c.handle_armed.ensures.onward.second c.in_ok-pick_both.ensures.second));
  counts = search rules;
  still =
      λ shut.
      let is : c.args.self.now.node ≡ Some c.in-Some.node = search rules in
      let first = c.in_ok-pick_both.ensures.first.picks in
      let second = c.in_ok-pick_both.ensures.second.picks in
      subst (λ (b : Bool). IfBoth (image_now (g.D.Disk.view c.pick_both.new.disks.first)) (image_now (g.D.Disk.view c.pick_both.new.disks.second))
      (λ i j. second_counts i.bytes j.bytes ≡ b)) (sym (ap counts_second is))
      (picked_counts c.fill.result (is_second c.in-Some.node.pairing) (image_now (g.D.Disk.view c.handle_armed.new.disks.first))
      (image_now (g.D.Disk.view c.handle_armed.new.disks.second)) (image_now (g.D.Disk.view c.pick_both.new.disks.first))
      (image_now (g.D.Disk.view c.pick_both.new.disks.second)) first.image second.image first.told second.told first.allowed second.allowed first.holds
      second.holds
      (subst (λ (f : Fill). IfBoth (image_now (g.D.Disk.view c.handle_armed.new.disks.first)) (image_now (g.D.Disk.view c.handle_armed.new.disks.second))
      (PicksCount f (is_second c.in-Some.node.pairing))) (sym c.fill.ensures) (c.in_ok-changed.ensures.counts shut)));
}

-- ---- in a checkpoint

pub returns-clause-fails : goal.returns-clause-fails
returns-clause-fails g c = record {
  risen = search rules;
  risen_other =
      λ full within.
      let is : c.args.self.now.node ≡ Some c.in-Some.node = search rules in
      let rose =
      as_host (λ here cells. FillsJournal (Some c.in-Some.node) c.args.circuit.now
      (event_changes here cells c.args.circuit.now (option_copied c.args.event)) → IsInCheckpoint c.args.stopping
      → Rose (g.D.Disk.view (chosen (is_second c.in-Some.node.pairing) c.arm.new.disks.second c.arm.new.disks.first)).faults
      (g.D.Disk.view (chosen (is_second c.in-Some.node.pairing) c.handle_armed.new.disks.second c.handle_armed.new.disks.first)).faults)
      c.args.self.now.id c.args.self.now.node c.in-Some.node (image_now (g.D.Disk.view c.args.disks.now.first))
      (image_now (g.D.Disk.view c.args.disks.now.second)) is
      (up_runs c.args.self.now.id c.args.self.now.node c.in-Some.node (image_now (g.D.Disk.view c.args.disks.now.first))
      (image_now (g.D.Disk.view c.args.disks.now.second)) is c.requires.stands.up).here_is c.in_ok-changed.ensures.risen_other
      (subst (λ (o : Option Node). FillsJournal o c.args.circuit.now
      (event_changes c.args.self.now.id
      (kept_cell c.args.self.now.id c.args.self.now.node (image_now (g.D.Disk.view c.args.disks.now.first))
      (image_now (g.D.Disk.view c.args.disks.now.second))) c.args.circuit.now (option_copied c.args.event))) is full) within in
      subst (λ (second : Bool). Rose (g.D.Disk.view (chosen second c.args.disks.now.second c.args.disks.now.first)).faults
      (g.D.Disk.view (chosen second c.pick_both.new.disks.second c.pick_both.new.disks.first)).faults) (sym (ap counts_second is))
      (rose_within g.D.Disk.view
      (is_second c.in-Some.node.pairing) c.args.disks.now.first c.args.disks.now.second c.arm.new.disks.first c.arm.new.disks.second
      c.handle_armed.new.disks.first c.handle_armed.new.disks.second c.pick_both.new.disks.first c.pick_both.new.disks.second
      c.arm.ensures.first.faults_stay c.arm.ensures.second.faults_stay c.pick_both.ensures.first_faults c.pick_both.ensures.second_faults rose);
}

-- ---- how often they pick

pub returns-in_err-changed-clause-forgets : goal.returns-in_err-changed-clause-forgets
returns-in_err-changed-clause-forgets g c = record {
  once =
      record {
        first = inl (c.handle_armed.ensures.onward.first.picks ∙ c.arm.ensures.first.picks_stay);
        second = inl (c.handle_armed.ensures.onward.second.picks ∙ c.arm.ensures.second.picks_stay);
      };
  first_stays = search rules;
  second_stays = search rules;
}

pub returns-in_err-pick_both-clause-forgets : goal.returns-in_err-pick_both-clause-forgets
returns-in_err-pick_both-clause-forgets g c = record {
  once =
      record {
        first = picks_then (g.D.Disk.view c.args.disks.now.first) (g.D.Disk.view c.handle_armed.new.disks.first)
            (g.D.Disk.view c.pick_both.new.disks.first)
            (c.handle_armed.ensures.onward.first.picks ∙ c.arm.ensures.first.picks_stay) c.pick_both.ensures.once.first;
        second = picks_then (g.D.Disk.view c.args.disks.now.second) (g.D.Disk.view c.handle_armed.new.disks.second)
            (g.D.Disk.view c.pick_both.new.disks.second)
            (c.handle_armed.ensures.onward.second.picks ∙ c.arm.ensures.second.picks_stay) c.pick_both.ensures.once.second;
      };
  first_stays = search rules;
  second_stays = search rules;
}

pub returns-clause-forgets : goal.returns-clause-forgets
returns-clause-forgets g c = record {
  once =
      record {
        first = picks_then (g.D.Disk.view c.args.disks.now.first) (g.D.Disk.view c.handle_armed.new.disks.first)
            (g.D.Disk.view c.pick_both.new.disks.first)
            (c.handle_armed.ensures.onward.first.picks ∙ c.arm.ensures.first.picks_stay) c.pick_both.ensures.once.first;
        second = picks_then (g.D.Disk.view c.args.disks.now.second) (g.D.Disk.view c.handle_armed.new.disks.second)
            (g.D.Disk.view c.pick_both.new.disks.second)
            (c.handle_armed.ensures.onward.second.picks ∙ c.arm.ensures.second.picks_stay) c.pick_both.ensures.once.second;
      };
  first_stays = search rules;
  second_stays = search rules;
}
