use Rattle.std.proofs.{Common.{◌≡◌, ◌≤◌, length, [], List, true, Some, ◌∙◌, ap, arith}, lemmas.List.append-nil}
use Rattle.spl_edge.specs.{Devices.{settled_at, after_cut, PartOfCut, fails_at}, declared.fault.DeviceError.TheVariants.NoMemory}
use Rattle.spl_memory.{specs.{Replay.{replayed, until, all_until, picks_of}, Changes.Call, Histories.{calls_in, IsHeldBy}}, proofs.Kept.told_same}
use Rattle.spl_memory.proofs.{Kept.{told_done, told_past, later_all}, Told.{known_told, unchanged, made, either, either2, told_err}, Histories.cut_push}
use Rattle.spl_memory.proofs.Histories.{cut_held, same_calls, same_held}
use Rattle.spl_memory.proofs.mem_disk.MemDiskDisk.cut.Goals as goal

pub invariant_of-self : goal.invariant_of-self
invariant_of-self c =
    record {
      held = c.args.self.now.held;
      timely = later_all c.args.self.now.calls.moment c.begin.new.self.moment
          (calls_in c.args.self.now.history) c.args.self.now.timely c.begin.ensures.passes.later;
    }

pub returns-in-Err-clause-change : goal.returns-in-Err-clause-change
returns-in-Err-clause-change c =
    unchanged (fails_at c.args.self.now.calls.armed c.args.self.now.calls.moment) c.in-Err.fault (after_cut c.args.len) (PartOfCut c.args.len)
    (Some (replayed (settled_at c.args.self.now.first.items) (until c.args.self.now.calls.moment (calls_in c.args.self.now.history))))
    (Some (replayed (settled_at c.args.self.now.first.items) (until c.begin.new.self.moment (calls_in c.args.self.now.history))))
    (told_same (settled_at c.args.self.now.first.items)
    (calls_in c.args.self.now.history) c.args.self.now.calls.moment c.begin.new.self.moment c.args.self.now.timely c.begin.ensures.passes.later)

pub cut-requires : goal.cut-requires
cut-requires c =
    let known = known_told (settled_at c.args.self.now.first.items)
    (calls_in c.args.self.now.history) c.args.self.now.calls.moment c.args.self.now.history.bytes.items c.args.self.now.timely c.args.self.now.held.bytes_are
    in record { within = omega (arith, ap length known, c.requires) }

pub invariant_of-self-2 : goal.invariant_of-self-2
invariant_of-self-2 c =
    let known =
    known_told (settled_at c.args.self.now.first.items)
    (calls_in c.args.self.now.history) c.args.self.now.calls.moment c.args.self.now.history.bytes.items c.args.self.now.timely c.args.self.now.held.bytes_are in
    let within : c.args.len ≤ length c.args.self.now.history.bytes.items = omega (arith, ap length known, c.requires) in
    record {
      held = either c.cut.result _ _ (IsHeldBy (settled_at c.args.self.now.first.items) c.cut.new.self)
          (either2 c.cut.result _ _ c.cut.ensures.ok c.cut.ensures.bytes) c.cut.ensures.err
          (λ both. cut_held (settled_at c.args.self.now.first.items) c.begin.new.self.moment c.args.len c.args.self.now.history c.cut.new.self within both.0
          both.1 c.args.self.now.held)
          (λ same. same_held (settled_at c.args.self.now.first.items) c.args.self.now.history c.cut.new.self same c.args.self.now.held);
      timely = either c.cut.result _ _ (all_until c.begin.new.self.moment (calls_in c.cut.new.self) ≡ true) c.cut.ensures.ok c.cut.ensures.err
          (λ gained. (cut_push c.begin.new.self.moment c.args.len c.args.self.now.history c.cut.new.self gained).all c.args.self.now.calls.moment
          (omega (arith, c.in_default.ensures.passes.tick)) c.args.self.now.timely)
          (λ same. ap (λ (l : List Call). all_until c.begin.new.self.moment l) (same_calls c.args.self.now.history c.cut.new.self same)
          ∙ later_all c.args.self.now.calls.moment c.begin.new.self.moment
          (calls_in c.args.self.now.history) c.args.self.now.timely c.begin.ensures.passes.later);
    }

pub returns-in-Ok-clause-change : goal.returns-in-Ok-clause-change
returns-in-Ok-clause-change c =
    made (fails_at c.args.self.now.calls.armed c.args.self.now.calls.moment) tt (after_cut c.args.len) (PartOfCut c.args.len)
    (Some (replayed (settled_at c.args.self.now.first.items) (until c.args.self.now.calls.moment (calls_in c.args.self.now.history))))
    (Some (replayed (settled_at c.args.self.now.first.items) (until c.begin.new.self.moment (calls_in c.cut.new.self))))
    (told_done (settled_at c.args.self.now.first.items) (after_cut c.args.len) (λ i. []) (calls_in c.args.self.now.history)
    (calls_in c.cut.new.self) c.args.self.now.calls.moment c.begin.new.self.moment
    (cut_push c.begin.new.self.moment c.args.len c.args.self.now.history c.cut.new.self c.in-Ok.ensures.ok) c.args.self.now.timely
    (omega (arith, c.in_default.ensures.passes.tick))) c.in_default.ensures.passes.stopped

pub returns-in-Ok-clause-past : goal.returns-in-Ok-clause-past
returns-in-Ok-clause-past c =
    told_past (settled_at c.args.self.now.first.items) (after_cut c.args.len) (λ i. []) (calls_in c.args.self.now.history)
    (calls_in c.cut.new.self) c.args.self.now.calls.moment c.begin.new.self.moment
    (cut_push c.begin.new.self.moment c.args.len c.args.self.now.history c.cut.new.self c.in-Ok.ensures.ok) (omega (arith, c.in_default.ensures.passes.tick))

pub returns-in-Ok-clause-picks : goal.returns-in-Ok-clause-picks
returns-in-Ok-clause-picks c =
    (cut_push c.begin.new.self.moment c.args.len c.args.self.now.history c.cut.new.self c.in-Ok.ensures.ok).picks (settled_at c.args.self.now.first.items)
    ∙ append-nil (picks_of (settled_at c.args.self.now.first.items) (calls_in c.args.self.now.history))

pub returns-in-Err-cut-clause-change : goal.returns-in-Err-cut-clause-change
returns-in-Err-cut-clause-change c =
    unchanged (fails_at c.args.self.now.calls.armed c.args.self.now.calls.moment) NoMemory (after_cut c.args.len) (PartOfCut c.args.len)
    (Some (replayed (settled_at c.args.self.now.first.items) (until c.args.self.now.calls.moment (calls_in c.args.self.now.history))))
    (Some (replayed (settled_at c.args.self.now.first.items) (until c.begin.new.self.moment (calls_in c.cut.new.self))))
    (told_err (settled_at c.args.self.now.first.items) (calls_in c.args.self.now.history)
    (calls_in c.cut.new.self) c.args.self.now.calls.moment c.begin.new.self.moment
    (same_calls c.args.self.now.history c.cut.new.self c.in-Err-cut.ensures.err) c.args.self.now.timely c.begin.ensures.passes.later)
