use Rattle.std.proofs.Common.{◌≡◌, ◌∙◌, refl, false, List, [], length, sym, subst, arith}
use Rattle.spl_edge.{proofs.Results.{err_from, err_same}, specs.Devices.bench}
use Rattle.spl_lines.{specs.Due.IsOutputDue, proofs.Dues.due_waits}
use Rattle.spl_node.{specs.Benches.{AllTell, Images, images}, proofs.Benches.all_itself}
use Rattle.spl_world.specs.{Held.{AllReadable, IsFirstUnread}, Links.is_of_links, Views.{Sits, StandsAfterLines, nodes_over, places_of}}
use Rattle.spl_world.{specs.declared.fault.WorldFault.TheVariants.{Disk, NoMemory, NotAJournal, TooMany}, proofs.{Carried.ready_for, Linking.carries_nothing}}
use Rattle.spl_world.proofs.{Onward.images_told, Opened.made_none}
use Rattle.spl_circuit_world.specs.Worlds.{Origin}
use Rattle.spl_runs.{specs.Run.{origin_in, run_plan, held_on}, proofs.{Plans.origin_planned, Causes.{quiet_causes, unlinked_causes, first_failed, on_any}}}
use Rattle.spl_runs.proofs.{Causes.{picked_blank, err_as}, Ends.{opened_told, unmade}, Running.none_within}
use Rattle.spl_runs.proofs.run.Run.new.Goals as goal

pub returns-clause-begins : goal.returns-clause-begins
returns-clause-begins g c =
    let w = c.in_ok-begin.field-0 in
    let is = images g.D.Disk.view c.args.pairs.now.items in
    let was = images_told g.D.Disk.view c.args.pairs.now.items in
    let now = images_told g.D.Disk.view c.begin.new.pairs.items in
    record {
      nodes = c.in_ok-sorted_ids.ensures.ids;
      unanswered = refl;
      places = c.in_ok-begin.ensures.below;
      readable =
          λ told. subst (AllReadable c.args.registry.now) (sym was)
          (c.in_ok-begin.ensures.readable (subst (λ (is : List Images). AllTell (length c.args.registry.now) is) was told));
      go = λ y can. record {
        nodes = c.in_ok-begin.ensures.ids ∙ sym c.in_ok-sorted_ids.ensures.ids;
        running = c.in_ok-begin.ensures.running;
        sits = subst (λ (is : List Images). Sits (nodes_over w is)) (sym now) c.in_ok-begin.ensures.sits;
        ready = ready_for c.args.registry.now (places_of w) y can.slots can.going can.taken c.in_ok-begin.ensures.below;
      };
      done = λ lines sink links idle told.
          let tell = subst (λ (is : List Images). AllTell (length c.args.registry.now) is) was told in
          record {
            ran = record {
              nodes = c.in_ok-begin.ensures.ids;
              apart = c.in_ok-sorted_ids.ensures.apart;
              placed = c.in_ok-begin.ensures.placed;
              stands = subst (λ (o : Origin). StandsAfterLines o 0 [] w (held_on (bench g.D.Disk.view c.begin.new.pairs.items)))
                  (origin_planned c.args.mode c.args.registry.now is lines)
                  (subst (λ (js : List Images). StandsAfterLines (origin_in c.args.mode.beginning c.args.registry.now is) 0 [] w js) (sym now)
                  (c.in_ok-begin.ensures.stands tell));
              within = none_within _;
              picked = picked_blank g.H.Halt.linked c.args.mode c.args.registry.now is lines w (bench g.D.Disk.view c.args.pairs.now.items)
                  (bench g.D.Disk.view c.begin.new.pairs.items) c.begin.ensures.onward c.requires.linked
                  (λ unlinked off. c.in_ok-begin.ensures.held off (c.requires.unpicked unlinked) tell);
              sent = carries_nothing links idle;
            };
            kept = c.new.ensures;
            traced = sym c.is_trace.ensures ∙ sym c.new-3.ensures.on;
            due = subst (λ (l : List _). IsOutputDue sink.written sink.written l []) (sym c.in_ok-new.ensures) (due_waits sink.written []);
          };
    }

pub returns-clause-causes : goal.returns-clause-causes
returns-clause-causes g c = λ y.
    quiet_causes _ (on_any g.H.Halt.linked _ (bench g.D.Disk.view c.args.pairs.now.items)
    (bench g.D.Disk.view c.begin.new.pairs.items) c.begin.ensures.onward) (λ k off. c.begin.ensures.spare k (omega arith)) tt tt (λ k is. absurd cc)

pub returns-in_err-begin-clause-causes : goal.returns-in_err-begin-clause-causes
returns-in_err-begin-clause-causes g c = λ y.
    let f = c.in_err-begin.field-0.0 in
    let r = c.from_residual-in_err-begin.result in
    let h = c.from_residual-in_err-begin.ensures in
    unlinked_causes r (on_any g.H.Halt.linked _ (bench g.D.Disk.view c.args.pairs.now.items)
    (bench g.D.Disk.view c.begin.new.pairs.items) c.begin.ensures.onward) (λ k off. c.begin.ensures.spare k (omega arith))
    (err_from r f (λ e. is_of_links e ≡ false) h c.in_err-begin.ensures.unlinked)
    (λ k is. (let same = err_as f (Disk k) (err_same r f (Disk k) h is) in (c.in_err-begin.ensures.place k same, c.in_err-begin.ensures.disk k same)))
    (λ k at is. (let same = err_as f (NotAJournal k at) (err_same r f (NotAJournal k at) h is) in (c.in_err-begin.ensures.journal k at same).1))

pub returns-in_err-begin-clause-failed : goal.returns-in_err-begin-clause-failed
returns-in_err-begin-clause-failed g c = λ k is.
    let f = c.in_err-begin.field-0.0 in
    let same = err_as f (Disk k) (err_same c.from_residual-in_err-begin.result f (Disk k) c.from_residual-in_err-begin.ensures is) in
    first_failed g.H.Halt.linked k (bench g.D.Disk.view c.args.pairs.now.items)
    (bench g.D.Disk.view c.begin.new.pairs.items) c.requires.unpicked c.in_err-begin.ensures.onward (c.in_err-begin.ensures.disk k same)

pub returns-in_err-sorted_ids-clause-onward : goal.returns-in_err-sorted_ids-clause-onward
returns-in_err-sorted_ids-clause-onward g c = all_itself _

pub returns-in_err-new-clause-onward : goal.returns-in_err-new-clause-onward
returns-in_err-new-clause-onward g c = all_itself _

pub returns-in_err-sorted_ids-clause-unmade : goal.returns-in_err-sorted_ids-clause-unmade
returns-in_err-sorted_ids-clause-unmade g c =
    λ lines tell. err_from c.from_residual.result NoMemory _ c.from_residual.ensures (made_none _ NoMemory _ (λ k q. cc) (λ k at q. cc))

pub returns-in_err-new-clause-unmade : goal.returns-in_err-new-clause-unmade
returns-in_err-new-clause-unmade g c =
    λ lines tell. err_from c.from_residual-in_err-new.result NoMemory _ c.from_residual-in_err-new.ensures (made_none _ NoMemory _ (λ k q. cc) (λ k at q. cc))

pub returns-in_err-begin-clause-unmade : goal.returns-in_err-begin-clause-unmade
returns-in_err-begin-clause-unmade g c = λ lines told.
    let tell = subst (λ (is : List Images). AllTell (length c.args.registry.now) is) (images_told g.D.Disk.view c.args.pairs.now.items) told in
    let f = c.in_err-begin.field-0.0 in
    let ps = c.args.pairs.now.items in
    let qs = c.begin.new.pairs.items in
    let p = run_plan c.args.mode c.args.registry.now (images g.D.Disk.view ps) lines in
    err_from c.from_residual-in_err-begin.result f _ c.from_residual-in_err-begin.ensures
    (unmade f p (held_on (bench g.D.Disk.view ps)) (held_on (bench g.D.Disk.view qs)) (λ which q. c.in_err-begin.ensures.few which (err_as f (TooMany which) q))
    (λ k at q. subst (λ (is : List Images). IsFirstUnread k at c.args.registry.now is) (sym (images_told g.D.Disk.view ps))
    (c.in_err-begin.ensures.unread tell k at (err_as f (NotAJournal k at) q)))
    c.in_err-begin.ensures.unlinked (opened_told g.D.Disk.view c.args.registry.now f ps qs c.in_err-begin.ensures.unmade))
