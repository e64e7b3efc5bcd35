use Rattle.std.proofs.Common.{◌≡◌, ◌∙◌, ℕ, List, [], Some, refl, sym, ap}
use Rattle.spl_edge.specs.Devices.{Image, settled_at}
use Rattle.spl_memory.{specs.{Histories.{calls_in, pending}, Replay.{replayed, until, all_until, picks_of}, Changes.Call}, proofs.Histories.blank_calls}
use Rattle.spl_memory.proofs.{Histories.blank_pending, Held.held_settled}
use Rattle.spl_memory.proofs.mem_disk.MemDisk.new.Goals as goal

pub invariant_of-result : goal.invariant_of-result
invariant_of-result c =
    let made = c.new-2.ensures in
    let calls = blank_calls c.new-2.result made.1 in
    record {
      held = held_settled (settled_at c.new.result.items) (calls_in c.new-2.result) c.new-2.result.bytes.items (pending c.new-2.result)
          (ap (λ (l : List Call). replayed (settled_at c.new.result.items) l) calls ∙ ap (λ (l : List ℕ). settled_at l) (c.new.ensures.items ∙ sym made.0))
          (blank_pending c.new-2.result made.1);
      timely = ap (λ (l : List Call). all_until c.new-3.result.moment l) calls;
    }

pub returns-clause-fresh : goal.returns-clause-fresh
returns-clause-fresh c =
    let calls = blank_calls c.new-2.result c.new-2.ensures.1 in
    let first : settled_at c.new.result.items ≡ settled_at [] = ap (λ (l : List ℕ). settled_at l) c.new.ensures.items in
    record {
      blank = ap (λ (l : List Call). Some (replayed (settled_at c.new.result.items) (until c.new-3.result.moment l))) calls ∙ ap (λ (i : Image). Some i) first;
      moment = c.new-3.ensures.none.moment;
      faults = c.new-3.ensures.none.faults;
      armed = c.new-3.ensures.none.armed;
      picks = ap (λ (l : List Call). picks_of (settled_at c.new.result.items) l) calls;
    }
