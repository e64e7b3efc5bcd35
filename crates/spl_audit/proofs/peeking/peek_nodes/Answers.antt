use Rattle.std.proofs.Common.{◌≡◌, ◌<◌, ◌+◌, ◌++◌, ◌∷◌, [], length, arith, rules, ap, sym, subst, ◌∙◌}
use Rattle.spl_edge.specs.Devices.{bench}
use Rattle.spl_audit.{specs.Runs.{HaveNone, IsFirstUnreadable}, proofs.{Benches.{all_then, spared_then, told_length}, Peeks.{Each, first_without}}}
use Rattle.spl_audit.proofs.Peeks.{hold_there, more_length, one_more, rose_there, stands_there}
use Rattle.spl_audit.proofs.peeking.peek_nodes.Goals as goal

pub peek_at-requires-clause-room : goal.peek_at-requires-clause-room
peek_at-requires-clause-room g c = omega (
  arith,
  sym (told_length g.D.Disk.view c.slots.pairs.items) ∙ c.slots.invariant.stays.as_many ∙ told_length g.D.Disk.view c.args.pairs.now.items,
  c.slots-test.true,
  c.len-slot-end.ensures.value,
  c.requires.room,
)

pub peek_at-requires-clause-settled : goal.peek_at-requires-clause-settled
peek_at-requires-clause-settled g c = λ p at.
    let known : c.slots.slot < length c.args.registry.now = omega (arith, c.slots-test.true, c.len-slot-end.ensures.value) in
    c.requires.settled c.slots.slot p known (sym (c.slots.invariant.rest c.slots.slot (omega arith)) ∙ at)

pub returns-then-is_err-clause-stays : goal.returns-then-is_err-clause-stays
returns-then-is_err-clause-stays g c = all_then _ _ _ c.slots.invariant.stays c.peek_at.ensures.stays

pub returns-then-is_err-clause-spared : goal.returns-then-is_err-clause-spared
returns-then-is_err-clause-spared g c =
    λ k past. spared_then _ _ _ c.slots.slot (length c.args.registry.now)
    (omega (arith, c.slots-test.true, c.len-slot-end.ensures.value)) c.peek_at.ensures.others c.slots.invariant.rest k past

pub returns-in-Err-Disk-clause-fault : goal.returns-in-Err-Disk-clause-fault
returns-in-Err-Disk-clause-fault g c =
    rose_there _ _ c.slots.slot (c.slots.invariant.rest c.slots.slot (omega arith)) c.args.registry.now _ (c.in-Err-Disk.ensures.failed (search rules))

pub returns-in-Err-Disk-clause-stays : goal.returns-in-Err-Disk-clause-stays
returns-in-Err-Disk-clause-stays g c = all_then _ _ _ c.slots.invariant.stays c.peek_at.ensures.stays

pub returns-in-Err-Disk-clause-spared : goal.returns-in-Err-Disk-clause-spared
returns-in-Err-Disk-clause-spared g c =
    λ k past. spared_then _ _ _ c.slots.slot (length c.args.registry.now)
    (omega (arith, c.slots-test.true, c.len-slot-end.ensures.value)) c.peek_at.ensures.others c.slots.invariant.rest k past

pub returns-in-Err-NotAJournal-clause-fault : goal.returns-in-Err-NotAJournal-clause-fault
returns-in-Err-NotAJournal-clause-fault g c =
    let at = c.in-Err-NotAJournal.at in
    subst (IsFirstUnreadable c.args.registry.now _ c.slots.slot) (sym c.in-Err-NotAJournal.at-is)
    (first_without c.args.registry.now _ c.slots.nodes.items c.slots.slot at
    (omega (arith, c.slots-test.true, c.len-slot-end.ensures.value)) c.slots.invariant.many c.slots.invariant.each
    (hold_there _ _ c.slots.slot (c.slots.invariant.rest c.slots.slot (omega arith)) (HaveNone at) (c.in-Err-NotAJournal.ensures.not at (search rules))))

pub returns-in-Err-NotAJournal-clause-stays : goal.returns-in-Err-NotAJournal-clause-stays
returns-in-Err-NotAJournal-clause-stays g c = all_then _ _ _ c.slots.invariant.stays c.peek_at.ensures.stays

pub returns-in-Err-NotAJournal-clause-spared : goal.returns-in-Err-NotAJournal-clause-spared
returns-in-Err-NotAJournal-clause-spared g c =
    λ k past. spared_then _ _ _ c.slots.slot (length c.args.registry.now)
    (omega (arith, c.slots-test.true, c.len-slot-end.ensures.value)) c.peek_at.ensures.others c.slots.invariant.rest k past

pub returns-in-Err-NoMemory-clause-stays : goal.returns-in-Err-NoMemory-clause-stays
returns-in-Err-NoMemory-clause-stays g c = all_then _ _ _ c.slots.invariant.stays c.peek_at.ensures.stays

pub returns-in-Err-NoMemory-clause-spared : goal.returns-in-Err-NoMemory-clause-spared
returns-in-Err-NoMemory-clause-spared g c =
    λ k past. spared_then _ _ _ c.slots.slot (length c.args.registry.now)
    (omega (arith, c.slots-test.true, c.len-slot-end.ensures.value)) c.peek_at.ensures.others c.slots.invariant.rest k past

pub slots-preserved : goal.slots-preserved
slots-preserved g c =
    let start = c.args.pairs.now.items in
    let joined : c.join.new.nodes.items ≡ c.slots.nodes.items ++ c.in-Ok.node ∷ [] = search rules in
    record {
      within = omega (arith, c.slots-test.true, c.len-slot-end.ensures.value);
      many = ap length joined ∙ more_length c.slots.nodes.items c.in-Ok.node c.slots.slot c.slots.invariant.many;
      each = subst (Each c.args.registry.now (bench g.D.Disk.view start)) (sym joined)
          (one_more c.args.registry.now _ c.slots.nodes.items c.in-Ok.node c.slots.slot c.slots.invariant.many c.slots.invariant.each
          (stands_there _ _ c.slots.slot (c.slots.invariant.rest c.slots.slot (omega arith)) c.args.registry.now c.in-Ok.node c.in-Ok.ensures.stands));
      stays = all_then _ _ _ c.slots.invariant.stays c.peek_at.ensures.stays;
      rest = λ k past. spared_then _ _ _ c.slots.slot (c.slots.slot + 1) (omega arith) c.peek_at.ensures.others c.slots.invariant.rest k past;
    }
