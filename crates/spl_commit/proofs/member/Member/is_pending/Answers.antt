use Rattle.std.proofs.Common.{sym, ap, ◌∙◌}
use Rattle.spl_agree.specs.{Member.found, Fits.is_pending}
use Rattle.spl_commit.proofs.ChangeSteps.{same-pending, none-pending, identity_by}
use Rattle.spl_commit.proofs.member.Member.is_pending.Goals as goal

pub returns-in-Pending : goal.returns-in-Pending
returns-in-Pending g c =
    c.is_same.ensures ∙ same-pending g.M.Key.PartialEq.eq g.M.Agreed.key_of (g.M.Agreed.rules c.args.self.now.content).same
    ((g.M.Agreed.rules c.args.self.now.content).same_key c.args.value.now) c.args.value.now c.in-Pending.there.now c.self.inside.queue.pending
    g.met.M.Key.Eq.laws
    (identity_by (g.M.Agreed.rules c.args.self.now.content).same g.M.Agreed.same_of (g.met.M.Agreed.samed c.args.self.now.content) g.met.M.Agreed.same_is)
    (λ a. sym (g.met.M.Agreed.keyed c.args.self.now.content c.args.value.now a)) c.self.invariant.pending_keys c.keys_differ.ensures.pending
    (ap (λ m. found ((g.M.Agreed.rules c.args.self.now.content).same_key c.args.value.now) m.state.pending) c.self.view_is ∙ c.in-Pending.ensures)
    ∙ ap (λ m. is_pending (g.M.Agreed.rules c.args.self.now.content) c.args.value.now m.state.pending) c.self.view_is

pub returns-in-Refused : goal.returns-in-Refused
returns-in-Refused g c =
    none-pending g.M.Key.PartialEq.eq g.M.Agreed.key_of (g.M.Agreed.rules c.args.self.now.content).same
    ((g.M.Agreed.rules c.args.self.now.content).same_key c.args.value.now) c.args.value.now c.self.inside.queue.pending g.met.M.Key.Eq.laws
    (identity_by (g.M.Agreed.rules c.args.self.now.content).same g.M.Agreed.same_of (g.met.M.Agreed.samed c.args.self.now.content) g.met.M.Agreed.same_is)
    (λ a. sym (g.met.M.Agreed.keyed c.args.self.now.content c.args.value.now a)) c.self.invariant.pending_keys c.keys_differ.ensures.pending
    (ap (λ m. found ((g.M.Agreed.rules c.args.self.now.content).same_key c.args.value.now) m.state.pending) c.self.view_is ∙ c.in-Refused.ensures.0)
    ∙ ap (λ m. is_pending (g.M.Agreed.rules c.args.self.now.content) c.args.value.now m.state.pending) c.self.view_is

pub returns-in-No : goal.returns-in-No
returns-in-No g c =
    none-pending g.M.Key.PartialEq.eq g.M.Agreed.key_of (g.M.Agreed.rules c.args.self.now.content).same
    ((g.M.Agreed.rules c.args.self.now.content).same_key c.args.value.now) c.args.value.now c.self.inside.queue.pending g.met.M.Key.Eq.laws
    (identity_by (g.M.Agreed.rules c.args.self.now.content).same g.M.Agreed.same_of (g.met.M.Agreed.samed c.args.self.now.content) g.met.M.Agreed.same_is)
    (λ a. sym (g.met.M.Agreed.keyed c.args.self.now.content c.args.value.now a)) c.self.invariant.pending_keys c.keys_differ.ensures.pending
    (ap (λ m. found ((g.M.Agreed.rules c.args.self.now.content).same_key c.args.value.now) m.state.pending) c.self.view_is ∙ c.in-No.ensures.0)
    ∙ ap (λ m. is_pending (g.M.Agreed.rules c.args.self.now.content) c.args.value.now m.state.pending) c.self.view_is
