use Rattle.spl_circuit_world.specs.Answers.{roll_answer}
use Rattle.spl_world.specs.{Calls.{HaltsLine, disks_view}, declared.fault.WorldFault.{WorldFault, TheVariants.{NoMemory, TooMany}}}
use Rattle.spl_world.proofs.{Calls.{changes_one, fails_is, halt_faults, halted_counted, halted_ok, halted_so, halts_before, is_limit, is_memory}, Common.◌≡◌}
use Rattle.spl_world.proofs.Common.{◌+◌, ◌∙◌, ◌≤◌, [], ℕ, inl, inr, refl, sym, subst, arith, Result, ap, ◌++◌, ◌∷◌, CircuitId, by_rule, MOST_EVENTS}
use Rattle.spl_world.proofs.{Common.{whole_world, Answer}, Moving.stands_line, Results.failed, Standing.{events_after, one_event}}
use Rattle.spl_world.proofs.Standing.{one_stop, over_line, over_stops, power_answered}
use Rattle.spl_world.proofs.world.World.halt_line.Goals as goal
use Rattle.spl_node.specs.Benches.{images}
use Rattle.spl_edge.proofs.Results.{off_ok, err_same}

-- ---- its node stopped

pub returns-clause-halts : goal.returns-clause-halts
returns-clause-halts g c =
    let l = c.args.line.now in
    let w = c.args.self.now in
    let v = c.halt_node.new.self in
    let h = c.in_ok-halt_node.ensures.halts in
    let x = disks_view g.D.Disk.view c.args.pairs.now.items in
    let y = disks_view g.D.Disk.view c.halt_node.new.pairs.items in
    let one : v.events ≡ w.events + 1 = omega (arith, c.halt_node.ensures.counts.events, c.in_ok-add.ensures.counts.ok) in
    let more : v.stops ≡ w.stops + 1 = c.halt_node.ensures.counts.stops ∙ c.in_ok-add-2.ensures.ok in
    record {
      leaves = halted_counted w _ _ (halted_ok _ h.leaves.sits h.leaves);
      runs = λ o others before stands.
          let worlds = λ (k : CircuitId). whole_world o k before in
          record {
            ran = record {
              answer = h.answer worlds (λ n. roll_answer o (before ++ by_rule l ∷ []) n) stands.each
                  ∙ sym (power_answered o stands.begins before l stands.fit c.requires.line.fits);
              stands = stands_line before w v x.held y.held h.leaves.ids one 1 more stands h.leaves.sits (by_rule l) c.requires.line.fits
                  (one_event worlds l c.requires.line.stops) (one_stop l c.requires.line.stops) h.holds;
              ended = tt;
            };
            many = λ which q. absurd cc;
          };
      one = changes_one g.D.Disk.view l w c.args.pairs.now.items y.pairs c.requires.sits h.only;
      slot = h.slot;
      faults = record { disk = λ k q. cc; sound = tt; unlinked = tt };
    }

-- ---- memory ran out in it

pub returns-in_err-halt_node-clause-halts : goal.returns-in_err-halt_node-clause-halts
returns-in_err-halt_node-clause-halts g c =
    let l = c.args.line.now in
    let w = c.args.self.now in
    let r = c.from_residual-in_err-halt_node.result in
    let short = c.from_residual-in_err-halt_node.ensures in
    let h = c.in_err-halt_node.ensures.halts in
    let y = disks_view g.D.Disk.view c.halt_node.new.pairs.items in
    record {
      leaves = halted_counted w _ _ (halted_so r (off_ok _ r short.0) h.leaves);
      runs = λ o others before stands.
          subst (λ (z : Result Answer WorldFault). HaltsLine o others before l z w c.halt_node.new.self y.held) (sym (fails_is r NoMemory short)) (record {
            ran = record { answer = tt; stands = tt; ended = h.ended (λ k. whole_world o k before) stands.each };
            many = λ which q. absurd cc;
          });
      one = changes_one g.D.Disk.view l w c.args.pairs.now.items y.pairs c.requires.sits h.only;
      slot = off_ok _ r short.0;
      faults = halt_faults r short is_memory;
    }

pub returns-in_err-halt_node-clause-kept : goal.returns-in_err-halt_node-clause-kept
returns-in_err-halt_node-clause-kept g c = λ which q. let few : NoMemory ≡ TooMany which = err_same c.from_residual-in_err-halt_node.result NoMemory (TooMany which) c.from_residual-in_err-halt_node.ensures q in cc

-- ---- there are too many events

pub returns-in_err-add-clause-halts : goal.returns-in_err-add-clause-halts
returns-in_err-add-clause-halts g c =
    let l = c.args.line.now in
    let f = c.in_err-add.field-0.0 in
    let is = images g.D.Disk.view c.args.pairs.now.items in
    halts_before c.from_residual.result c.from_residual.ensures (is_limit f 1 (let only = c.in_err-add.ensures.fault in cc)) refl c.requires.sits
    (λ o others before stands which q. inl (over_line (failed (Unit {0}) f) _ which c.args.self.now is before l 1 stands c.requires.line.fits
    (one_event (λ k. whole_world o k before) l c.requires.line.stops) c.in_err-add.ensures.counts (ap (failed (Unit {0})) q)))

-- ---- there are too many stops

pub returns-in_err-add-2-clause-halts : goal.returns-in_err-add-2-clause-halts
returns-in_err-add-2-clause-halts g c =
    let l = c.args.line.now in
    let f = c.in_err-add-2.field-0.0 in
    let is = images g.D.Disk.view c.args.pairs.now.items in
    let is_two : f ≡ TooMany 2 = (let only = c.in_err-add-2.ensures.fault in cc) in
    let within : c.args.self.now.events + 1 ≤ MOST_EVENTS = omega (arith, c.in_ok-add.ensures.counts.ok, c.in_ok-add.ensures.within) in
    halts_before c.from_residual-in_err-add-2.result c.from_residual-in_err-add-2.ensures (is_limit f 2 is_two) refl c.requires.sits
    (λ o others before stands which q.
    let sum = events_after c.args.self.now is before l 1 stands c.requires.line.fits (one_event (λ k. whole_world o k before) l c.requires.line.stops) in
    inr (
      let same : which ≡ 2 = cc in
          same,
      subst (λ (k : ℕ). k ≤ MOST_EVENTS) (sym sum) within,
      over_stops before (by_rule l) c.args.self.now is stands c.in_err-add-2.ensures.full (one_stop l c.requires.line.stops),
    ))
