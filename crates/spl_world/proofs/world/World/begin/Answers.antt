use Rattle.spl_circuit_world.proofs.Counts.{events-none}
use Rattle.spl_node.{specs.Benches.images, proofs.Benches.images_length}
use Rattle.spl_world.specs.{Disks.is_of_journal, Held.AreOpenedBut, Links.is_of_links, declared.fault.WorldFault.{WorldFault, TheVariants.{Disk, TooMany}}}
use Rattle.spl_world.{specs.declared.{fault.WorldFault.TheVariants.NotAJournal, slot.Slot.Slot}, proofs.Common.{◌≡◌, ◌≢◌, ◌≤◌, ◌∙◌, false, length, arith, ap}}
use Rattle.spl_world.proofs.{Common.{refl, sym, subst, Vec, AllPairs, sorted}, Leaving.{leaves_failed, leaves_ok}, Opened.{as_many_pairs, ids_are}}
use Rattle.spl_world.proofs.{Opened.{opened_below, opened_held, opened_holds, opened_placed, opened_sits, so_far_read}, Results.failed}
use Rattle.spl_world.proofs.world.World.begin.Goals as goal
use Rattle.spl_edge.proofs.Results.{err_from, err_same}

pub sort_by_id-requires : goal.sort_by_id-requires
sort_by_id-requires g c =
    let all = c.in_ok-slots.ensures.opens in
    record { apart = subst (AllPairs (λ a b. a ≢ b)) (sym (ids_are c.args.registry.now c.in_ok-slots.slots.items all.opened.as_many all.opened.nodes)) all.apart }

pub returns : goal.returns
returns g c =
    let es = c.args.registry.now in
    let ss = c.in_ok-slots.slots.items in
    let ts = c.sort_by_id.new.slots.items in
    let now = c.open_each.new.pairs.items in
    let all = c.in_ok-slots.ensures.opens in
    let moved = c.sort_by_id.ensures.moved in
    let ids = c.sort_by_id.ensures.ids ∙ ap sorted (ids_are es ss all.opened.as_many all.opened.nodes) in
    let many = as_many_pairs g.D.Disk.view c.args.pairs.now.items now all.disks.onward in
    let room : length es ≤ length (images g.D.Disk.view now) = omega (arith, many, images_length g.D.Disk.view now, c.requires.room) in
    let sits = opened_sits es ss ts _ _ all.opened moved c.sort_by_id.ensures.ordered room in
    record {
      ids = ids;
      few = λ which q. cc;
      sound = λ q. tt;
      unlinked = tt;
      place = λ slot q. absurd cc;
      placed = opened_placed es ss ts _ _ all.opened moved;
      below = opened_below es ss ts _ _ all.opened moved;
      running = refl;
      sits = sits;
      stands = λ o of tell. record {
        begins = of.begins;
        nodes = ids ∙ sym of.nodes;
        fit = refl;
        counted = let none = events-none o in omega (arith, c.new.ensures, none);
        stopped = c.new-2.ensures;
        each = opened_holds es ss ts _ _ all.opened moved c.sort_by_id.ensures.ordered o of all.apart ids tell;
        sits = sits;
      };
      held = λ o of tell. opened_held es ss _ _ all.opened o of all.apart tell;
      kept = so_far_read es _ ss _ _ all.opened;
      journal = λ slot at q. absurd cc;
      disks = leaves_ok _ _ _ all.disks.onward;
      spare = all.spare;
      unopened = tt;
    }

-- ---- where it ends with an error

pub returns-in_err-slots-clause-few : goal.returns-in_err-slots-clause-few
returns-in_err-slots-clause-few g c = λ which q. c.in_err-slots.ensures.opens.few which (ap (failed (Vec Slot)) (err_same c.from_residual.result _ (TooMany which) c.from_residual.ensures q))

pub returns-in_err-slots-clause-sound : goal.returns-in_err-slots-clause-sound
returns-in_err-slots-clause-sound g c = λ q. err_from c.from_residual.result _ (λ (e : WorldFault). is_of_journal e ≡ false) c.from_residual.ensures (c.in_err-slots.ensures.sound q)

pub returns-in_err-slots-clause-unlinked : goal.returns-in_err-slots-clause-unlinked
returns-in_err-slots-clause-unlinked g c = err_from c.from_residual.result _ (λ (e : WorldFault). is_of_links e ≡ false) c.from_residual.ensures c.in_err-slots.ensures.opens.unlinked

pub returns-in_err-slots-clause-place : goal.returns-in_err-slots-clause-place
returns-in_err-slots-clause-place g c = λ slot q. c.in_err-slots.ensures.opens.place slot (ap (failed (Vec Slot)) (err_same c.from_residual.result _ (Disk slot) c.from_residual.ensures q))

pub returns-in_err-slots-clause-journal : goal.returns-in_err-slots-clause-journal
returns-in_err-slots-clause-journal g c = λ slot at q. c.in_err-slots.ensures.opens.unread slot at (ap (failed (Vec Slot)) (err_same c.from_residual.result _ (NotAJournal slot at) c.from_residual.ensures q))

pub returns-in_err-slots-clause-disks : goal.returns-in_err-slots-clause-disks
returns-in_err-slots-clause-disks g c = leaves_failed c.from_residual.result _ c.from_residual.ensures _ _ c.in_err-slots.ensures.opens.disks

pub returns-in_err-slots-clause-spare : goal.returns-in_err-slots-clause-spare
returns-in_err-slots-clause-spare g c = c.in_err-slots.ensures.opens.spare

pub returns-in_err-slots-clause-unopened : goal.returns-in_err-slots-clause-unopened
returns-in_err-slots-clause-unopened g c =
    err_from c.from_residual.result _ (λ (e : WorldFault). AreOpenedBut c.args.registry.now e (images g.D.Disk.view c.args.pairs.now.items) (images g.D.Disk.view c.open_each.new.pairs.items)) c.from_residual.ensures
    c.in_err-slots.ensures.opens.unopened
