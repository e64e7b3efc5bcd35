-- The write is undone first, and stands after the removals except that at its own address.
use Rattle.std.{specs.BTreeMap.insert_entry, proofs.{Common.{◌≡◌, [], ◌∷◌, ◌++◌, ap, ◌∙◌, arith}, lemmas.Grind.common_steps}}
use Rattle.spl_state.{specs.{Entries.address_cmp, Drafts.without}, proofs.Drafts.{before_write, write_after}}
use Rattle.spl_state.proofs.draft.Draft.set.Goals as goal

pub returns-clause-before : goal.returns-clause-before
returns-clause-before c =
    let all : c.push.new.self.items ≡ c.self.inside.replaced.items ++ c.in_ok-replaced.replaced ∷ [] = grind (arith, common_steps) in
    before_write c.self.inside.state c.swap.new.self c.self.inside.replaced.items c.push.new.self.items c.in_ok-replaced.replaced all
    c.in_ok-replaced.ensures.undone
    ∙ ap (λ d. d.before) c.self.view_is

pub returns-clause-ok : goal.returns-clause-ok
returns-clause-ok c =
    ap (λ es. without es c.leave_out.new.addresses.items) c.in_ok-replaced.ensures.ok
    ∙ ap (without (insert_entry address_cmp c.self.inside.state c.args.address c.args.value.now)) c.leave_out.ensures
    ∙ write_after c.args.address c.args.value.now c.self.inside.removed.items c.self.inside.state c.in_ok-replaced.ensures.rising
    ∙ ap (λ d. insert_entry address_cmp d.entries c.args.address c.args.value.now) c.self.view_is
