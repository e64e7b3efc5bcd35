use Rattle.std.proofs.Common.{◌≡◌, ◌∙◌, ◌+◌, List, [], ◌∷◌, ◌++◌, sym, ap, subst, refl, arith}
use Rattle.spl_edge.specs.Devices.{Image, settled_at, picked_bytes, picked_of}
use Rattle.spl_memory.{specs.{Replay.{replayed, until, picks_of, IsImageSound}, Changes.Call, Histories.calls_in}, proofs.Kept.{told_done, until_all}}
use Rattle.spl_memory.proofs.Held.{allowed}
use Rattle.spl_memory.proofs.mem_disk.MemDiskStopDisk.pick.Goals as goal

pub returns-clause-ok : goal.returns-clause-ok
returns-clause-ok c =
    let s = settled_at c.args.self.now.first.items in
    let calls = calls_in c.args.self.now.history in
    let all : until c.args.self.now.calls.moment calls ≡ calls =
    until_all c.args.self.now.calls.moment c.args.self.now.calls.moment calls c.args.self.now.timely (omega arith) in
    let push = c.in_ok-pick.ensures.calls in
    let f = λ (i : Image). settled_at (picked_bytes c.args.fill i) in
    let kept = λ (i : Image). picked_of c.args.fill c.args.self.now.calls.armed.arming c.args.self.now.calls.faults i ∷ [] in
    record {
      image = replayed s (until c.args.self.now.calls.moment calls);
      told = refl;
      allowed = allowed (replayed s (until c.args.self.now.calls.moment calls)) c.args.fill
          (subst (λ (l : List Call). IsImageSound (replayed s l)) (sym all) c.args.self.now.held.sound);
      holds = told_done s f kept calls (calls_in c.pick.new.self) c.args.self.now.calls.moment
          (c.args.self.now.calls.moment + 1) push c.args.self.now.timely (omega arith);
      kept = push.picks s ∙ ap
          (λ (l : List Call). picks_of s calls
          ++ picked_of c.args.fill c.args.self.now.calls.armed.arming c.args.self.now.calls.faults (replayed s l) ∷ []) (sym all);
    }
