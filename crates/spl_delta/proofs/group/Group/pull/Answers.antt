use Rattle.std.{specs.{Prelude.IfOk, List.position_from}, proofs.Common.{rules, ◌≡◌, ◌+◌, ◌∙◌, List, None, Option, Some, length, slice_get, slice_set, refl}}
use Rattle.std.proofs.{Common.{ap, sym, subst, arith}, lemmas.Option.{slice_get_read, slice_get_within}}
use Rattle.spl_delta.{specs.Watches.{Watcher, is_named, pulled_by, taken_count, watcher_named}, proofs.Groups.{found, moved_after, unnamed}}
use Rattle.spl_delta.proofs.Entries.{when_ok}
use Rattle.spl_delta.proofs.group.Group.pull.Goals as goal

pub returns-in_default-clause-answer : goal.returns-in_default-clause-answer
returns-in_default-clause-answer c = λ h here.
    let none : position_from (is_named c.args.name.now) 0 c.args.self.now ≡ None = search rules in
    sym (ap (pulled_by h c.args.count) (unnamed c.args.name.now c.args.self.now 0 none).0)

pub index_mut-watcher-requires : goal.index_mut-watcher-requires
index_mut-watcher-requires c =
    let some : position_from (is_named c.args.name.now) 0 c.args.self.now ≡ Some c.in-Some.index = search rules in
    let f = found c.args.name.now c.args.self.now c.in-Some.index some in
    let below = slice_get_within c.args.self.now c.in-Some.index f.0 f.1.there in
    omega (arith, below, ap length c.self.view_is)

pub returns-clause-answer : goal.returns-clause-answer
returns-clause-answer c = λ h here.
    let xs = c.self.inside.watchers.items in
    let w = c.index_mut-watcher.result.now in
    let some : position_from (is_named c.args.name.now) 0 c.args.self.now ≡ Some c.in-Some.index = search rules in
    let f = found c.args.name.now c.args.self.now c.in-Some.index some in
    let below = slice_get_within c.args.self.now c.in-Some.index f.0 f.1.there in
    let there : slice_get xs c.in-Some.index ≡ Some w =
    slice_get_read xs (length xs) c.in-Some.index w refl (omega (arith, below, ap length c.self.view_is)) c.index_mut-watcher.ensures.value in
    let e : Some w ≡ watcher_named c.args.name.now c.args.self.now =
    sym there ∙ ap (λ (ts : List Watcher). slice_get ts c.in-Some.index) c.self.view_is ∙ f.1.there ∙ sym f.1.named in
    subst (λ (o : Option Watcher). IfOk c.pull.result (λ a. a ≡ pulled_by h c.args.count o)) e (c.pull.ensures.answer h here)

pub returns-clause-after : goal.returns-clause-after
returns-clause-after c = λ h n id.
    let xs = c.self.inside.watchers.items in
    let w = c.index_mut-watcher.result.now in
    let i = c.in-Some.index in
    let some : position_from (is_named c.args.name.now) 0 c.args.self.now ≡ Some i = search rules in
    let f = found c.args.name.now c.args.self.now i some in
    let below = slice_get_within c.args.self.now i f.0 f.1.there in
    let there : slice_get xs i ≡ Some w =
    slice_get_read xs (length xs) i w refl (omega (arith, below, ap length c.self.view_is)) c.index_mut-watcher.ensures.value in
    let both : Some w ≡ Some f.0 = sym there ∙ ap (λ (ts : List Watcher). slice_get ts i) c.self.view_is ∙ f.1.there in
    let same : w ≡ f.0 = cc in
    when_ok c.pull.result (λ a moved.
    ap (λ (t : Watcher). slice_set xs i t) (moved ∙ ap (λ (t : Watcher). record t { next = t.next + taken_count a }) same)
    ∙ (ap (λ (ts : List Watcher). slice_set ts i (record f.0 { next = f.0.next + taken_count a })) c.self.view_is
    ∙ moved_after h c.args.name.now n id c.args.count c.args.self.now i f.0 f.1 a)) c.pull.ensures.moved
