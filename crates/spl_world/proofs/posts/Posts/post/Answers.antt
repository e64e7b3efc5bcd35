use Rattle.spl_world.{specs.Kept.{SentLists, AllBelong, lists_about, lists_or_none, sent_to, sends_to}, proofs.Common.{rules, ◌≡◌, ◌++◌, ◌∙◌, Some, ap, sym}}
use Rattle.spl_world.proofs.{Common.{subst, refl, NodeId}, Posting.{others_stay, belong_step}}
use Rattle.spl_world.proofs.posts.Posts.post.Goals as goal
use Rattle.spl_edge.proofs.Results.{at_ok}

-- ---- in an outbox that is there

pub invariant_of-self : goal.invariant_of-self
invariant_of-self c =
    let w = c.post_all.new.self in
    let u = (c.get_mut.follows.holds w).3 (search rules) in
    let found : lists_about c.self.inside.outboxes.entries c.args.circuit ≡ c.in-Some.outbox.now = ap lists_or_none (sym c.in-Some.ensures.value) in
    belong_step c.args.circuit w c.self.inside.outboxes.entries (c.get_mut.follows.lender w).entries c.self.invariant (ap lists_or_none u.1)
    (λ d off. ap lists_or_none (others_stay c.self.inside.outboxes (c.get_mut.follows.lender w) c.args.circuit (Some w) u d off))
    (c.post_all.ensures.about c.args.circuit (subst (λ (ls : SentLists). (b : NodeId) → AllBelong c.args.circuit (sent_to ls b)) found (c.self.invariant c.args.circuit)) c.requires)

pub returns-in-Some-clause-sent : goal.returns-in-Some-clause-sent
returns-in-Some-clause-sent c = at_ok c.post_all.result (λ more b.
    let u = (c.get_mut.follows.holds c.post_all.new.self).3 (search rules) in
    ap (λ (ls : SentLists). sent_to ls b) (ap lists_or_none u.1) ∙ more b
    ∙ ap (λ (ls : SentLists). sent_to ls b ++ sends_to b c.args.sends.now)
    (ap lists_or_none c.in-Some.ensures.value ∙ ap (λ ps. lists_about ps c.args.circuit) c.self.view_is)) c.post_all.ensures.sent

pub returns-in-Some-clause-others : goal.returns-in-Some-clause-others
returns-in-Some-clause-others c = at_ok c.post_all.result (λ _ d off.
    let w = c.post_all.new.self in
    ap lists_or_none (others_stay c.self.inside.outboxes (c.get_mut.follows.lender w) c.args.circuit (Some w) ((c.get_mut.follows.holds w).3 (search rules)) d off)
    ∙ ap (λ ps. lists_about ps d) c.self.view_is) c.post_all.ensures.sent

-- ---- in one more

pub invariant_of-self-in-Ok : goal.invariant_of-self-in-Ok
invariant_of-self-in-Ok c =
    let u = rw c.get_mut.follows.holds-at-none at c.in-Ok.ensures.updates in
    belong_step c.args.circuit c.post_all-2.new.self c.self.inside.outboxes.entries c.insert.new.self.entries c.self.invariant (ap lists_or_none u.1)
    (λ d off. ap lists_or_none (others_stay c.self.inside.outboxes c.insert.new.self c.args.circuit _ u d off))
    (c.post_all-2.ensures.about c.args.circuit (subst (λ (ls : SentLists). (b : NodeId) → AllBelong c.args.circuit (sent_to ls b)) (sym c.new-outbox.ensures) (λ b. refl)) c.requires)

pub returns-in-Ok-clause-others : goal.returns-in-Ok-clause-others
returns-in-Ok-clause-others c = λ d off.
    ap lists_or_none (others_stay c.self.inside.outboxes c.insert.new.self c.args.circuit _ (rw c.get_mut.follows.holds-at-none at c.in-Ok.ensures.updates) d off)
    ∙ ap (λ ps. lists_about ps d) c.self.view_is
