use Rattle.std.proofs.{Common.{◌≡◌, ◌≤◌, [], List, true, length, Some, ◌∙◌, ap, arith}, lemmas.List.append-nil}
use Rattle.spl_edge.specs.{Devices.{settled_at, after_write, PartOfWrite, fails_at}, declared.fault.DeviceError.TheVariants.NoMemory}
use Rattle.spl_memory.{specs.{Replay.{replayed, until, all_until, picks_of}, Changes.Call, Histories.{calls_in, IsHeldBy}}, proofs.Kept.told_same}
use Rattle.spl_memory.proofs.{Kept.{told_done, told_past, later_all}, Told.{unchanged, made, either, either2, told_err, known_told}, Histories.write_push}
use Rattle.spl_memory.proofs.Histories.{write_held, same_calls, same_held}
use Rattle.spl_memory.proofs.mem_disk.MemDiskDisk.write_at.Goals as goal

pub invariant_of-self : goal.invariant_of-self
invariant_of-self c =
    record {
      held = c.args.self.now.held;
      timely = later_all c.args.self.now.calls.moment c.begin.new.self.moment
          (calls_in c.args.self.now.history) c.args.self.now.timely c.begin.ensures.passes.later;
    }

pub returns-in-Err-clause-change : goal.returns-in-Err-clause-change
returns-in-Err-clause-change c =
    unchanged (fails_at c.args.self.now.calls.armed c.args.self.now.calls.moment) c.in-Err.fault (after_write c.args.at c.args.bytes.now)
    (PartOfWrite c.args.at (length c.args.bytes.now))
    (Some (replayed (settled_at c.args.self.now.first.items) (until c.args.self.now.calls.moment (calls_in c.args.self.now.history))))
    (Some (replayed (settled_at c.args.self.now.first.items) (until c.begin.new.self.moment (calls_in c.args.self.now.history))))
    (told_same (settled_at c.args.self.now.first.items)
    (calls_in c.args.self.now.history) c.args.self.now.calls.moment c.begin.new.self.moment c.args.self.now.timely c.begin.ensures.passes.later)

pub write-requires : goal.write-requires
write-requires c =
    let known = known_told (settled_at c.args.self.now.first.items)
    (calls_in c.args.self.now.history) c.args.self.now.calls.moment c.args.self.now.history.bytes.items c.args.self.now.timely c.args.self.now.held.bytes_are
    in omega (arith, ap length known, c.requires)

pub invariant_of-self-2 : goal.invariant_of-self-2
invariant_of-self-2 c =
    let known =
    known_told (settled_at c.args.self.now.first.items)
    (calls_in c.args.self.now.history) c.args.self.now.calls.moment c.args.self.now.history.bytes.items c.args.self.now.timely c.args.self.now.held.bytes_are in
    let within : c.args.at ≤ length c.args.self.now.history.bytes.items = omega (arith, ap length known, c.requires) in
    record {
      held = either c.write.result _ _ (IsHeldBy (settled_at c.args.self.now.first.items) c.write.new.self)
          (either2 c.write.result _ _ c.write.ensures.ok c.write.ensures.bytes) c.write.ensures.err
          (λ both. write_held (settled_at c.args.self.now.first.items) c.begin.new.self.moment c.args.at c.args.bytes.now c.args.self.now.history
          c.write.new.self within both.0 both.1 c.args.self.now.held)
          (λ same. same_held (settled_at c.args.self.now.first.items) c.args.self.now.history c.write.new.self same c.args.self.now.held);
      timely = either c.write.result _ _ (all_until c.begin.new.self.moment (calls_in c.write.new.self) ≡ true) c.write.ensures.ok c.write.ensures.err
          (λ gained. (write_push c.begin.new.self.moment c.args.at c.args.bytes.now c.args.self.now.history c.write.new.self gained).all
          c.args.self.now.calls.moment
          (omega (arith, c.in_default.ensures.passes.tick)) c.args.self.now.timely)
          (λ same. ap (λ (l : List Call). all_until c.begin.new.self.moment l) (same_calls c.args.self.now.history c.write.new.self same)
          ∙ later_all c.args.self.now.calls.moment c.begin.new.self.moment
          (calls_in c.args.self.now.history) c.args.self.now.timely c.begin.ensures.passes.later);
    }

pub returns-in-Ok-clause-change : goal.returns-in-Ok-clause-change
returns-in-Ok-clause-change c =
    made (fails_at c.args.self.now.calls.armed c.args.self.now.calls.moment) tt (after_write c.args.at c.args.bytes.now)
    (PartOfWrite c.args.at (length c.args.bytes.now))
    (Some (replayed (settled_at c.args.self.now.first.items) (until c.args.self.now.calls.moment (calls_in c.args.self.now.history))))
    (Some (replayed (settled_at c.args.self.now.first.items) (until c.begin.new.self.moment (calls_in c.write.new.self))))
    (told_done (settled_at c.args.self.now.first.items) (after_write c.args.at c.args.bytes.now) (λ i. []) (calls_in c.args.self.now.history)
    (calls_in c.write.new.self) c.args.self.now.calls.moment c.begin.new.self.moment
    (write_push c.begin.new.self.moment c.args.at c.args.bytes.now c.args.self.now.history c.write.new.self c.in-Ok.ensures.ok) c.args.self.now.timely
    (omega (arith, c.in_default.ensures.passes.tick))) c.in_default.ensures.passes.stopped

pub returns-in-Ok-clause-past : goal.returns-in-Ok-clause-past
returns-in-Ok-clause-past c =
    told_past (settled_at c.args.self.now.first.items) (after_write c.args.at c.args.bytes.now) (λ i. []) (calls_in c.args.self.now.history)
    (calls_in c.write.new.self) c.args.self.now.calls.moment c.begin.new.self.moment
    (write_push c.begin.new.self.moment c.args.at c.args.bytes.now c.args.self.now.history c.write.new.self c.in-Ok.ensures.ok)
    (omega (arith, c.in_default.ensures.passes.tick))

pub returns-in-Ok-clause-picks : goal.returns-in-Ok-clause-picks
returns-in-Ok-clause-picks c =
    (write_push c.begin.new.self.moment c.args.at c.args.bytes.now c.args.self.now.history c.write.new.self c.in-Ok.ensures.ok).picks
    (settled_at c.args.self.now.first.items) ∙ append-nil (picks_of (settled_at c.args.self.now.first.items) (calls_in c.args.self.now.history))

pub returns-in-Err-write-clause-change : goal.returns-in-Err-write-clause-change
returns-in-Err-write-clause-change c =
    unchanged (fails_at c.args.self.now.calls.armed c.args.self.now.calls.moment) NoMemory (after_write c.args.at c.args.bytes.now)
    (PartOfWrite c.args.at (length c.args.bytes.now))
    (Some (replayed (settled_at c.args.self.now.first.items) (until c.args.self.now.calls.moment (calls_in c.args.self.now.history))))
    (Some (replayed (settled_at c.args.self.now.first.items) (until c.begin.new.self.moment (calls_in c.write.new.self))))
    (told_err (settled_at c.args.self.now.first.items) (calls_in c.args.self.now.history)
    (calls_in c.write.new.self) c.args.self.now.calls.moment c.begin.new.self.moment
    (same_calls c.args.self.now.history c.write.new.self c.in-Err-write.ensures.err) c.args.self.now.timely c.begin.ensures.passes.later)

pub invariant_of-self-then-bytes-at : goal.invariant_of-self-then-bytes-at
invariant_of-self-then-bytes-at c =
    record {
      held = c.args.self.now.held;
      timely = later_all c.args.self.now.calls.moment c.begin.new.self.moment
          (calls_in c.args.self.now.history) c.args.self.now.timely c.begin.ensures.passes.later;
    }

pub returns-then-bytes-at-clause-change : goal.returns-then-bytes-at-clause-change
returns-then-bytes-at-clause-change c =
    unchanged (fails_at c.args.self.now.calls.armed c.args.self.now.calls.moment) NoMemory (after_write c.args.at c.args.bytes.now)
    (PartOfWrite c.args.at (length c.args.bytes.now))
    (Some (replayed (settled_at c.args.self.now.first.items) (until c.args.self.now.calls.moment (calls_in c.args.self.now.history))))
    (Some (replayed (settled_at c.args.self.now.first.items) (until c.begin.new.self.moment (calls_in c.args.self.now.history))))
    (told_same (settled_at c.args.self.now.first.items)
    (calls_in c.args.self.now.history) c.args.self.now.calls.moment c.begin.new.self.moment c.args.self.now.timely c.begin.ensures.passes.later)

pub overflow_sub-at : goal.overflow_sub-at
overflow_sub-at c =
    let known = known_told (settled_at c.args.self.now.first.items)
    (calls_in c.args.self.now.history) c.args.self.now.calls.moment c.args.self.now.history.bytes.items c.args.self.now.timely c.args.self.now.held.bytes_are
    in omega (arith, ap length known, c.requires, c.args.self.now.history.bytes.small)

pub returns-in-Ok-clause-bound : goal.returns-in-Ok-clause-bound
returns-in-Ok-clause-bound c =
    let known = known_told (settled_at c.args.self.now.first.items)
    (calls_in c.args.self.now.history) c.args.self.now.calls.moment c.args.self.now.history.bytes.items c.args.self.now.timely c.args.self.now.held.bytes_are
    in omega (arith, ap length known, c.requires, c.args.self.now.history.bytes.small, c.if-bytes-at.false)
