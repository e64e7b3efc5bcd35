use Rattle.std.proofs.Common.{◌≡◌, [], List, true, Some, ◌∙◌, ap, arith}
use Rattle.spl_edge.specs.{Devices.{settled_at, after_sync, fails_at}, declared.fault.DeviceError.TheVariants.NoMemory}
use Rattle.spl_memory.{specs.{Replay.{replayed, until, all_until}, Changes.Call, Histories.{calls_in, IsHeldBy}}, proofs.Kept.{told_same, told_done}}
use Rattle.spl_memory.proofs.{Kept.later_all, Told.{unchanged, made, either, told_err}, Histories.{same_calls, same_held}}
use Rattle.spl_memory.proofs.mem_disk.MemDiskDisk.sync.Goals as goal

pub invariant_of-self : goal.invariant_of-self
invariant_of-self c =
    record {
      held = c.args.self.now.held;
      timely = later_all c.args.self.now.calls.moment c.begin.new.self.moment
          (calls_in c.args.self.now.history) c.args.self.now.timely c.begin.ensures.passes.later;
    }

pub returns-in-Err-clause-change : goal.returns-in-Err-clause-change
returns-in-Err-clause-change c =
    unchanged (fails_at c.args.self.now.calls.armed c.args.self.now.calls.moment) c.in-Err.fault after_sync (λ i j. ⊥)
    (Some (replayed (settled_at c.args.self.now.first.items) (until c.args.self.now.calls.moment (calls_in c.args.self.now.history))))
    (Some (replayed (settled_at c.args.self.now.first.items) (until c.begin.new.self.moment (calls_in c.args.self.now.history))))
    (told_same (settled_at c.args.self.now.first.items)
    (calls_in c.args.self.now.history) c.args.self.now.calls.moment c.begin.new.self.moment c.args.self.now.timely c.begin.ensures.passes.later)

pub invariant_of-self-2 : goal.invariant_of-self-2
invariant_of-self-2 c = record {
  held = either c.sync.result _ _ (IsHeldBy (settled_at c.args.self.now.first.items) c.sync.new.self) c.sync.ensures.held c.sync.ensures.err
      (λ held. held (settled_at c.args.self.now.first.items) c.args.self.now.held)
      (λ same. same_held (settled_at c.args.self.now.first.items) c.args.self.now.history c.sync.new.self same c.args.self.now.held);
  timely = either c.sync.result _ _ (all_until c.begin.new.self.moment (calls_in c.sync.new.self) ≡ true) c.sync.ensures.calls c.sync.ensures.err
      (λ push. push.all c.args.self.now.calls.moment (omega (arith, c.in_default.ensures.passes.tick)) c.args.self.now.timely)
      (λ same. ap (λ (l : List Call). all_until c.begin.new.self.moment l) (same_calls c.args.self.now.history c.sync.new.self same)
      ∙ later_all c.args.self.now.calls.moment c.begin.new.self.moment (calls_in c.args.self.now.history) c.args.self.now.timely c.begin.ensures.passes.later);
}

pub returns-in-Ok-clause-change : goal.returns-in-Ok-clause-change
returns-in-Ok-clause-change c =
    made (fails_at c.args.self.now.calls.armed c.args.self.now.calls.moment) tt after_sync (λ i j. ⊥)
    (Some (replayed (settled_at c.args.self.now.first.items) (until c.args.self.now.calls.moment (calls_in c.args.self.now.history))))
    (Some (replayed (settled_at c.args.self.now.first.items) (until c.begin.new.self.moment (calls_in c.sync.new.self))))
    (told_done (settled_at c.args.self.now.first.items) after_sync (λ i. []) (calls_in c.args.self.now.history)
    (calls_in c.sync.new.self) c.args.self.now.calls.moment c.begin.new.self.moment c.in-Ok.ensures.calls c.args.self.now.timely
    (omega (arith, c.in_default.ensures.passes.tick))) c.in_default.ensures.passes.stopped

pub returns-in-Err-sync-clause-change : goal.returns-in-Err-sync-clause-change
returns-in-Err-sync-clause-change c =
    unchanged (fails_at c.args.self.now.calls.armed c.args.self.now.calls.moment) NoMemory after_sync (λ i j. ⊥)
    (Some (replayed (settled_at c.args.self.now.first.items) (until c.args.self.now.calls.moment (calls_in c.args.self.now.history))))
    (Some (replayed (settled_at c.args.self.now.first.items) (until c.begin.new.self.moment (calls_in c.sync.new.self))))
    (told_err (settled_at c.args.self.now.first.items) (calls_in c.args.self.now.history)
    (calls_in c.sync.new.self) c.args.self.now.calls.moment c.begin.new.self.moment
    (same_calls c.args.self.now.history c.sync.new.self c.in-Err-sync.ensures.err) c.args.self.now.timely c.begin.ensures.passes.later)
