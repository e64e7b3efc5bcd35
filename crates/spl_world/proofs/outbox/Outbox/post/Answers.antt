use Rattle.spl_world.{specs.Kept.{list_or_none, sent_to}, proofs.{Common.{rules, ◌≡◌, ◌++◌, ◌∷◌, [], Some, ap, sym, ◌∙◌}, Posting.others_stay}}
use Rattle.spl_world.proofs.Posting.{written_back, total_more, total_same}
use Rattle.spl_world.proofs.outbox.Outbox.post.Goals as goal
use Rattle.spl_edge.proofs.Results.{at_ok, at_err, either_way}

pub returns-in-Some-clause-recipient : goal.returns-in-Some-clause-recipient
returns-in-Some-clause-recipient c = at_ok c.push.result (λ more.
    let kept = (c.get_mut.follows.holds c.push.new.self).3 (search rules) in
    ap list_or_none kept.1 ∙ more ∙ ap (λ ms. ms ++ c.args.message ∷ []) (ap list_or_none c.in-Some.ensures.value ∙ ap (λ es. sent_to es c.args.to) c.self.view_is)) c.push.ensures.ok

pub returns-in-Some-clause-others : goal.returns-in-Some-clause-others
returns-in-Some-clause-others c = at_ok c.push.result (λ _ b h.
    let w = c.push.new.self in
    ap list_or_none (others_stay c.self.inside.lists (c.get_mut.follows.lender w) c.args.to (Some w) ((c.get_mut.follows.holds w).3 (search rules)) b h)
    ∙ ap (λ es. sent_to es b) c.self.view_is) c.push.ensures.ok

pub returns-in-Ok-clause-recipient : goal.returns-in-Ok-clause-recipient
returns-in-Ok-clause-recipient c =
    let u = rw c.get_mut.follows.holds-at-none at c.in-Ok.ensures.updates in
    let none : sent_to c.args.self.now c.args.to ≡ [] = ap (λ es. sent_to es c.args.to) (sym c.self.view_is) ∙ ap list_or_none (sym c.in_default.ensures.value) in
    ap list_or_none u.1 ∙ c.in_ok-push.ensures.ok ∙ ap (λ ms. ms ++ c.args.message ∷ []) (c.new-list.ensures ∙ sym none)

pub returns-in-Ok-clause-others : goal.returns-in-Ok-clause-others
returns-in-Ok-clause-others c = λ b h.
    ap list_or_none (others_stay c.self.inside.lists c.insert.new.self c.args.to _ (rw c.get_mut.follows.holds-at-none at c.in-Ok.ensures.updates) b h)
    ∙ ap (λ es. sent_to es b) c.self.view_is

pub returns-in-Some-clause-err : goal.returns-in-Some-clause-err
returns-in-Some-clause-err c = at_err c.push.result (λ same b.
    let w = c.push.new.self in
    ap (λ es. sent_to es b) (written_back c.self.inside.lists (c.get_mut.follows.lender w) c.args.to w (ap Some same ∙ c.in-Some.ensures.value)
    ((c.get_mut.follows.holds w).0)) ∙ ap (λ es. sent_to es b) c.self.view_is) c.push.ensures.err

-- ---- the total

pub invariant_of-self : goal.invariant_of-self
invariant_of-self c =
    let w = c.push.new.self in
    let old = c.self.inside.lists in
    let new = c.get_mut.follows.lender w in
    let u = (c.get_mut.follows.holds w).3 (search rules) in
    either_way c.push.result
    (λ more. total_more c.args.to c.args.message old.entries new.entries (ap list_or_none u.1 ∙ more ∙ ap (λ ms. ms ++ c.args.message ∷ []) (ap list_or_none c.in-Some.ensures.value)) (λ b h. ap list_or_none (others_stay old new c.args.to (Some w) u b h)) c.self.inside.total c.self.invariant)
    (λ same. total_same c.self.inside.total old.entries new.entries (λ b. ap (λ es. sent_to es b) (written_back old new c.args.to w (ap Some same ∙ c.in-Some.ensures.value) ((c.get_mut.follows.holds w).0))) c.self.invariant)
    c.push.ensures.ok c.push.ensures.err

pub invariant_of-self-in-Ok : goal.invariant_of-self-in-Ok
invariant_of-self-in-Ok c =
    let u = rw c.get_mut.follows.holds-at-none at c.in-Ok.ensures.updates in
    let none : sent_to c.self.inside.lists.entries c.args.to ≡ [] = ap list_or_none (sym c.in_default.ensures.value) in
    total_more c.args.to c.args.message c.self.inside.lists.entries c.insert.new.self.entries
    (ap list_or_none u.1 ∙ c.in_ok-push.ensures.ok ∙ ap (λ ms. ms ++ c.args.message ∷ []) (c.new-list.ensures ∙ sym none))
    (λ b h. ap list_or_none (others_stay c.self.inside.lists c.insert.new.self c.args.to _ u b h)) c.self.inside.total c.self.invariant
