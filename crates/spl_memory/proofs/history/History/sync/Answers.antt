use Rattle.std.proofs.Common.{◌≡◌, ◌∙◌, ℕ, List, [], sym, ap, refl, rules, length}
use Rattle.spl_edge.specs.Devices.{after_sync, settled_at}
use Rattle.spl_memory.{specs.{Changes.Synced, Histories.calls_in, Marks.calls_of, declared.marks.Kind.TheVariants.Synced as WasSynced}, proofs.Marked.marked}
use Rattle.spl_memory.proofs.{Marked.pending-none, Kept.pushed_to, Held.held_settled}
use Rattle.spl_memory.proofs.history.History.sync.Goals as goal

pub returns-clause-calls : goal.returns-clause-calls
returns-clause-calls c =
    let bytes = c.args.self.now.bytes.items in
    pushed_to c.args.moment after_sync (λ i. []) (calls_in c.args.self.now) (calls_of c.push.new.self.items bytes)
    (record { moment = c.args.moment; change = Synced })
    (marked c.args.self.now.marks.items c.push.new.self.items (record { moment = c.args.moment; kind = WasSynced }) bytes bytes Synced (search rules) refl refl)
    refl (λ i. refl) (λ i. refl)

pub returns-clause-held : goal.returns-clause-held
returns-clause-held c =
    let push = returns-clause-calls c in
    let bytes = c.args.self.now.bytes.items in
    let all : c.len-self.result ≡ length c.push.new.self.items = search rules in
    λ i held. held_settled i (calls_of c.push.new.self.items bytes) bytes _ (push.step i ∙ ap (λ (l : List ℕ). settled_at l) (sym held.bytes_are))
    (pending-none c.push.new.self.items c.len-self.result all)
