use Rattle.std.proofs.Common.{◌≡◌, ◌∷◌, ◌++◌, rules}
use Rattle.spl_delta.{specs.Watches.change_text, proofs.Joined.appended}
use Rattle.spl_delta.proofs.text.append_changes.Goals as goal

pub returns : goal.returns
returns c =
    let parts : c.args.changes.now ≡ c.in-Some.first.now ∷ c.in-Some.others.now = search rules in
    let begun : c.append_change.new.out.items ≡ c.args.out.now.items ++ change_text c.in-Some.first.now = search rules in
    appended c.append_others.result c.args.out.now.items c.append_change.new.out.items c.append_others.new.out.items c.args.changes.now
    c.in-Some.others.now c.in-Some.first.now parts begun c.append_others.ensures
