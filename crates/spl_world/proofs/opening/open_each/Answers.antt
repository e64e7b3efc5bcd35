use Rattle.spl_registry.proofs.Registries.{ids_apart}
use Rattle.spl_world.specs.{Calls.disks_view, Disks.is_of_journal, Opening.AreOpened, declared.fault.WorldFault.{WorldFault, TheVariants.NoMemory}}
use Rattle.spl_world.{specs.declared.slot.Slot.Slot, proofs.{Common.{◌≡◌, ◌<◌, ◌+◌, List, ℕ, false, length, arith, refl, sym, subst}, Leaving.leaves_ok}}
use Rattle.spl_world.proofs.Opened.{as_many_pairs, each_failed, each_short, images_still, next_still, none_opened, opened_more, spare_on}
use Rattle.spl_world.proofs.opening.open_each.Goals as goal
use Rattle.spl_node.{specs.Benches.{AreSettled, images, AreBlank}, proofs.Benches.{all_itself, all_then}}
use Rattle.spl_edge.proofs.Results.{err_from}

pub positions-init : goal.positions-init
positions-init g c = record {
  opened = subst (λ (ss : List Slot). AreOpened c.args.registry.now 0 ss (images g.D.Disk.view c.args.pairs.now.items)
      (images g.D.Disk.view c.args.pairs.now.items)) (sym c.new-slots.ensures.items)
      (none_opened c.args.registry.now (images g.D.Disk.view c.args.pairs.now.items));
  onward = all_itself _;
  spare = λ k far. refl;
}

pub open_at-requires : goal.open_at-requires
open_at-requires g c =
    let n = c.positions.position in
    let below : n < length c.args.registry.now = omega (arith, c.positions-test.true, c.len-position-end.ensures.value) in
    let still = next_still c.args.registry.now n c.positions.slots.items _ _ c.positions.invariant.opened in
    record {
      node = below;
      room = omega (arith, below, as_many_pairs g.D.Disk.view c.args.pairs.now.items c.positions.pairs.items c.positions.invariant.onward, c.requires.room);
      blank = λ q. subst AreBlank (sym still) (c.requires.blank q n below);
      settled = λ q. subst AreSettled (sym still) (c.requires.settled q n below);
    }

pub positions-preserved : goal.positions-preserved
positions-preserved g c =
    let es = c.args.registry.now in
    let n = c.positions.position in
    let ss = c.positions.slots.items in
    let x = disks_view g.D.Disk.view c.args.pairs.now.items in
    let y = disks_view g.D.Disk.view c.positions.pairs.items in
    let z = disks_view g.D.Disk.view c.open_at.new.pairs.items in
    let below : n < length es = omega (arith, c.positions-test.true, c.len-position-end.ensures.value) in
    let one = c.in_ok-slot.ensures.opens in
    let held = λ (k : ℕ) (off : k ≡ n → ⊥). images_still g.D.Disk.view c.positions.pairs.items c.open_at.new.pairs.items k (one.others k off) in
    record {
      opened = subst (λ (xs : List Slot). AreOpened es (n + 1) xs x.held z.held) (sym {A = List Slot} c.in_ok-join.ensures)
          (opened_more es n ss x.held y.held c.positions.invariant.opened z.held held c.in_ok-slot.slot one.node one.position one.opened);
      onward = all_then _ _ _ c.positions.invariant.onward one.disks.onward;
      spare = spare_on es n ss x y z c.positions.invariant.opened c.positions.invariant.onward c.positions.invariant.spare below held one.others;
    }

-- ---- where one isn't opened

pub returns-in_err-slot-clause-opens : goal.returns-in_err-slot-clause-opens
returns-in_err-slot-clause-opens g c =
    let one = c.in_err-slot.ensures.opens in
    each_failed c.args.registry.now c.positions.position c.positions.slots.items _ _ _ c.positions.invariant.opened c.positions.invariant.onward c.positions.invariant.spare
    (omega (arith, c.positions-test.true, c.len-position-end.ensures.value))
    (λ k off. images_still g.D.Disk.view c.positions.pairs.items c.open_at.new.pairs.items k (one.others k off)) c.from_residual.result c.from_residual.ensures one

pub returns-in_err-slot-clause-sound : goal.returns-in_err-slot-clause-sound
returns-in_err-slot-clause-sound g c = λ q. err_from c.from_residual.result _ (λ (e : WorldFault). is_of_journal e ≡ false) c.from_residual.ensures (c.in_err-slot.ensures.sound q)

-- ---- or memory runs out

pub returns-in_err-join-clause-opens : goal.returns-in_err-join-clause-opens
returns-in_err-join-clause-opens g c =
    let one = c.in_ok-slot.ensures.opens in
    each_short c.args.registry.now c.positions.position c.positions.slots.items _ _ _ c.positions.invariant.opened c.positions.invariant.onward c.positions.invariant.spare
    (omega (arith, c.positions-test.true, c.len-position-end.ensures.value))
    (λ k off. images_still g.D.Disk.view c.positions.pairs.items c.open_at.new.pairs.items k (one.others k off)) c.from_residual-in_err-join.result c.from_residual-in_err-join.ensures one

pub returns-in_err-join-clause-sound : goal.returns-in_err-join-clause-sound
returns-in_err-join-clause-sound g c = λ q. err_from c.from_residual-in_err-join.result NoMemory (λ (e : WorldFault). is_of_journal e ≡ false) c.from_residual-in_err-join.ensures refl

-- ---- all of them

pub returns-clause-opens : goal.returns-clause-opens
returns-clause-opens g c =
    let es = c.args.registry.now in
    let all : c.positions.position ≡ length es = omega (arith, c.positions-test.false, c.len-position-end.ensures.value) in
    record {
      opened = subst (λ (k : ℕ). AreOpened es k c.positions.slots.items (images g.D.Disk.view c.args.pairs.now.items)
          (images g.D.Disk.view c.positions.pairs.items)) all c.positions.invariant.opened;
      apart = ids_apart es c.len-position-end.ensures.registry.apart;
      unread = λ slot at q. absurd cc;
      place = λ slot q. absurd cc;
      unopened = tt;
      disks = leaves_ok _ _ _ c.positions.invariant.onward;
      spare = c.positions.invariant.spare;
      few = λ which q. cc;
      unlinked = tt;
    }
