use Rattle.spl_circuit_world.specs.Answers.{check_answer}
use Rattle.spl_world.specs.{Calls.{StepsLine, around}, Held.starts, Links.line_carried, Views.{IsNodeAt, nodes_over}, declared.fault.WorldFault.WorldFault}
use Rattle.spl_world.{specs.declared.fault.WorldFault.TheVariants.NotAJournal, proofs.Calls.{fails_is, fails_too, nodes_same, still_linked, unlinked}}
use Rattle.spl_world.proofs.Calls.{nodes_counted, call_counted, nodes_done, call_failed, starts_off, steps_done, step_ran, runs_over, runs_short}
use Rattle.spl_world.proofs.Common.{◌≡◌, ℕ, ◌+◌, ◌∙◌, sym, refl, arith, ap, subst, Result, IsErrOf, CircuitId, whole_world, step_circuit, Answer, by_rule}
use Rattle.spl_world.proofs.{EndingLines.ended_start, Linking.{carries_nothing, fails_early}, Moving.stands_line, Reading.stays_refused, Results.failed}
use Rattle.spl_world.proofs.Standing.{power_answered}
use Rattle.spl_world.proofs.world.World.run_line.Goals as goal
use Rattle.spl_sched.specs.declared.line.Line.TheVariants as line
use Rattle.spl_edge.proofs.Results.{off_if, err_same}

pub run-requires-clause-ready : goal.run-requires-clause-ready
run-requires-clause-ready g c = record { sits = c.requires.ready.sits; ready = c.requires.ready.ready }

pub run-requires-clause-step : goal.run-requires-clause-step
run-requires-clause-step g c = record { known = rw (c.in-Step.is) at c.requires.line.known; fits = rw (c.in-Step.is) at c.requires.line.fits }

-- ---- there are too many events

pub returns-in_err-add-clause-runs : goal.returns-in_err-add-clause-runs
returns-in_err-add-clause-runs g c =
    runs_over c.from_residual.result refl c.from_residual.ensures c.requires.line.fits c.requires.line.single c.in_err-add.ensures.counts c.in_err-add.ensures.fault

-- ---- no memory is left

pub returns-in_err-roll_at-in-Roll-clause-runs : goal.returns-in_err-roll_at-in-Roll-clause-runs
returns-in_err-roll_at-in-Roll-clause-runs g c = runs_short c.from_residual-in_err-roll_at-in-Roll.result refl c.from_residual-in_err-roll_at-in-Roll.ensures

pub returns-in_err-checked-in-Check-clause-runs : goal.returns-in_err-checked-in-Check-clause-runs
returns-in_err-checked-in-Check-clause-runs g c = runs_short c.from_residual-in_err-checked-in-Check.result refl c.from_residual-in_err-checked-in-Check.ensures

-- ---- a step

pub returns-in-Step-clause-runs : goal.returns-in-Step-clause-runs
returns-in-Step-clause-runs g c =
    let w = c.args.self.now in
    let v = c.run.new.self in
    let s = c.in-Step.step in
    let h = c.run.ensures in
    let x = around g.D.Disk.view g.C.Carry.view g.F.Fabric.view c.args.pairs.now.items c.args.carrier.now c.args.fabric.now in
    let y = around g.D.Disk.view g.C.Carry.view g.F.Fabric.view c.run.new.pairs.items c.run.new.carrier c.run.new.fabric in
    let one : v.events ≡ w.events + 1 = omega (arith, h.counts.events, c.in_ok-add.ensures.counts.ok) in
    record {
      leaves = call_counted w _ h.leaves;
      steps = λ o others before stands. step_ran o others before c.args.line.now w x stands v y s c.run.result c.in-Step.is c.requires.line.fits
          one h.counts.stops h.leaves.nodes.ids h.leaves.nodes.sits h.leaves.nodes.place h.faults h.runs.event h.runs.links;
      refused = λ why. stays_refused c.run.result (step_circuit s) s (nodes_over w x.disks.held) (nodes_over v y.disks.held) why h.runs.event.answer h.runs.event.moves;
      journal = starts_off c.args.line.now c.run.result w h.faults.sound;
    }

-- ---- a start

pub returns-in_ok-start_at-in-Start-clause-runs : goal.returns-in_ok-start_at-in-Start-clause-runs
returns-in_ok-start_at-in-Start-clause-runs g c =
    let w = c.args.self.now in
    let v = c.start_at.new.self in
    let n = c.in-Start.node in
    let h = c.in_ok-start_at-in-Start.ensures.starts in
    let fits = rw (c.in-Start.is) at c.requires.line.fits in
    let one : v.events ≡ w.events + 1 = omega (arith, c.start_at.ensures.counts.events, c.in_ok-add.ensures.counts.ok) in
    let same : v.stops ≡ w.stops + 0 = omega (arith, c.start_at.ensures.counts.stops) in
    let x = around g.D.Disk.view g.C.Carry.view g.F.Fabric.view c.args.pairs.now.items c.args.carrier.now c.args.fabric.now in
    let y = around g.D.Disk.view g.C.Carry.view g.F.Fabric.view c.start_at.new.pairs.items c.args.carrier.now c.args.fabric.now in
    record {
      leaves = still_linked _ c.requires.ready.ready (nodes_done _ (nodes_counted w _ h.leaves));
      steps = λ o others before stands. steps_done o others before c.args.line.now w x stands v y _
          (rw (c.in-Start.is) (sym (power_answered o stands.begins before (line.Start n) stands.fit fits)))
          (rw (c.in-Start.is) (stands_line before w v x.disks.held y.disks.held h.leaves.ids one 0 same stands h.leaves.sits (by_rule (line.Start n)) fits refl refl
          (λ k m held. h.holds k n m c.index_of-slot.ensures.at held)))
          (λ place. ap (line_carried place (λ (k : CircuitId). whole_world o k before)) c.in-Start.is) (carries_nothing x.links (g.met.C.Carry.idle c.args.carrier.now));
      refused = λ why is. absurd cc;
      journal = starts_off c.args.line.now _ w tt;
    }

pub returns-in_err-start_at-in-Start-clause-runs : goal.returns-in_err-start_at-in-Start-clause-runs
returns-in_err-start_at-in-Start-clause-runs g c =
    let w = c.args.self.now in
    let v = c.start_at.new.self in
    let l = c.args.line.now in
    let n = c.in-Start.node in
    let h = c.in_err-start_at-in-Start.ensures.starts in
    let f = c.in_err-start_at-in-Start.field-0.0 in
    let r = c.from_residual-in_err-start_at-in-Start.result in
    let failing = c.from_residual-in_err-start_at-in-Start.ensures in
    let x = around g.D.Disk.view g.C.Carry.view g.F.Fabric.view c.args.pairs.now.items c.args.carrier.now c.args.fabric.now in
    let y = around g.D.Disk.view g.C.Carry.view g.F.Fabric.view c.start_at.new.pairs.items c.args.carrier.now c.args.fabric.now in
    let at_place = λ (k : ℕ) (at : ℕ) (q : IsErrOf r (NotAJournal k at)). h.journal k at (ap (failed (Unit {0})) (err_same r f (NotAJournal k at) failing q)) in
    record {
      leaves = call_failed r failing (unlinked _ c.requires.ready.ready h.unlinked (nodes_counted w _ h.leaves));
      steps = λ o others before stands. subst (λ (z : Result Answer WorldFault). StepsLine o others before l z w v x y) (sym (fails_is r f failing)) (record {
        ran = record {
          answer = tt;
          stands = tt;
          ended = ended_start before w x.disks.held stands f (λ k q. h.leaves.place k (ap (failed (Unit {0})) q)) l n y.disks.held
              (h.ended n (whole_world o n before) (stands.each n));
        };
        many = λ which q. absurd (h.few which (fails_too q));
        sound = λ k at q. h.sound n (whole_world o n before) k at (stands.each n) (fails_too q);
        links = λ place placed. fails_early (failed Answer f) f (refl, refl) h.unlinked (line_carried place (λ (k : CircuitId). whole_world o k before) l) x.links;
      });
      refused = λ why. off_if _ r failing.0;
      journal = record {
        place = λ k at q. ((c.index_of-slot.result, at_place k at q), ap starts c.in-Start.is);
        own = λ m k at is q.
            let both : line.Start n ≡ line.Start m = sym c.in-Start.is ∙ is in
            let same : n ≡ m = cc in
            (c.index_of-slot.result, subst (λ (i : CircuitId). IsNodeAt w c.index_of-slot.result i) same c.index_of-slot.ensures.at, at_place k at q);
      };
    }

-- ---- a roll

pub returns-in_ok-roll_at-in-Roll-clause-runs : goal.returns-in_ok-roll_at-in-Roll-clause-runs
returns-in_ok-roll_at-in-Roll-clause-runs g c =
    let w = c.args.self.now in
    let v = record w { events = c.add.new.self } in
    let n = c.in-Roll.node in
    let fits = rw (c.in-Roll.is) at c.requires.line.fits in
    let one : c.add.new.self ≡ w.events + 1 = omega (arith, c.in_ok-add.ensures.counts.ok) in
    let same : w.stops ≡ w.stops + 0 = omega arith in
    let x = around g.D.Disk.view g.C.Carry.view g.F.Fabric.view c.args.pairs.now.items c.args.carrier.now c.args.fabric.now in
    let is = x.disks.held in
    record {
      leaves = still_linked _ c.requires.ready.ready (nodes_same _ w v refl x.disks c.requires.ready.sits);
      steps = λ o others before stands. steps_done o others before c.args.line.now w x stands v x _
          (rw (c.in-Roll.is) (c.in_ok-roll_at-in-Roll.ensures is o before n stands.begins fits stands.fit stands.each c.index_of-slot-in-Roll.ensures.at
          ∙ sym (power_answered o stands.begins before (line.Roll n) stands.fit fits)))
          (rw (c.in-Roll.is) (stands_line before w v is is refl one 0 same stands stands.sits (by_rule (line.Roll n)) fits refl refl (λ k m h. h)))
          (λ place. ap (line_carried place (λ (k : CircuitId). whole_world o k before)) c.in-Roll.is) (carries_nothing x.links (g.met.C.Carry.idle c.args.carrier.now));
      refused = λ why told k m h. h;
      journal = starts_off c.args.line.now _ w tt;
    }

-- ---- a check

pub returns-in_ok-checked-in-Check-clause-runs : goal.returns-in_ok-checked-in-Check-clause-runs
returns-in_ok-checked-in-Check-clause-runs g c =
    let w = c.args.self.now in
    let v = record w { events = c.add.new.self } in
    let p = c.in-Check.check in
    let fits = rw (c.in-Check.is) at c.requires.line.fits in
    let one : c.add.new.self ≡ w.events + 1 = omega (arith, c.in_ok-add.ensures.counts.ok) in
    let same : w.stops ≡ w.stops + 0 = omega arith in
    let x = around g.D.Disk.view g.C.Carry.view g.F.Fabric.view c.args.pairs.now.items c.args.carrier.now c.args.fabric.now in
    let is = x.disks.held in
    record {
      leaves = still_linked _ c.requires.ready.ready (nodes_same _ w v refl x.disks c.requires.ready.sits);
      steps = λ o others before stands. steps_done o others before c.args.line.now w x stands v x _
          (rw (c.in-Check.is) (c.in_ok-checked-in-Check.ensures ∙ ap check_answer c.get.ensures ∙ sym (power_answered o stands.begins before (line.Check p) stands.fit fits)))
          (rw (c.in-Check.is) (stands_line before w v is is refl one 0 same stands stands.sits (by_rule (line.Check p)) fits refl refl (λ i m h. h)))
          (λ place. ap (line_carried place (λ (i : CircuitId). whole_world o i before)) c.in-Check.is) (carries_nothing x.links (g.met.C.Carry.idle c.args.carrier.now));
      refused = λ why told k m h. h;
      journal = starts_off c.args.line.now _ w tt;
    }
