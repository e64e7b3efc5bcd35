use Rattle.std.{specs.Prelude.is_none, proofs.Common.{sym, ap, ◌∙◌, subst}}
use Rattle.spl_agree.{specs.{Fits.has_nothing, Member.found_refused}, proofs.Tests.{and_left, and_right}}
use Rattle.spl_group_safety.proofs.Sound.{is_none_is}
use Rattle.spl_commit.{specs.Views.AreKeyed, proofs.{Keyed.{lookup-refused, keyed-more, seconds-more}, ChangeSteps.{nothing_pending, no_entries}}}
use Rattle.spl_commit.proofs.member.Member.keep.Goals as goal

pub keep-requires-clause-nothing_pending : goal.keep-requires-clause-nothing_pending
keep-requires-clause-nothing_pending g c =
    no_entries c.self.inside.queue.pending
    (ap (λ m. m.state.pending) c.self.view_is ∙ nothing_pending c.args.self.now.state (and_left (has_nothing c.args.self.now.state) _ c.requires))

pub keep-requires-clause-not_refused : goal.keep-requires-clause-not_refused
keep-requires-clause-not_refused g c =
    let none =
    and_right (has_nothing c.args.self.now.state)
    (is_none (found_refused ((g.M.Agreed.rules c.args.self.now.content).same_key c.args.value) c.args.self.now.state.refused)) c.requires in
    lookup-refused (g.M.Key.PartialEq.eq c.key-key.result) g.M.Agreed.key_of
    ((g.M.Agreed.rules c.args.self.now.content).same_key c.args.value) c.self.inside.queue.refused
    (λ v. ap (λ k. g.M.Key.PartialEq.eq k (g.M.Agreed.key_of v)) c.key-key.ensures
    ∙ sym (g.met.M.Agreed.keyed c.args.self.now.content c.args.value v)) c.self.invariant.refused_keys
    ∙ ap (λ m. found_refused ((g.M.Agreed.rules c.args.self.now.content).same_key c.args.value) m.state.refused) c.self.view_is
    ∙ is_none_is (found_refused ((g.M.Agreed.rules c.args.self.now.content).same_key c.args.value) c.args.self.now.state.refused) none

pub invariant_of-self-2 : goal.invariant_of-self-2
invariant_of-self-2 g c = record {
  applied = c.self.invariant.applied;
  pending_keys = subst (AreKeyed g.M.Agreed.key_of) (sym c.in_ok-keep.ensures.pending) c.self.invariant.pending_keys;
  refused_keys =
      subst (AreKeyed _) (sym c.in_ok-keep.ensures.kept)
      (keyed-more _ c.self.inside.queue.refused (c.key-key.result, (c.args.value, c.args.reason)) c.self.invariant.refused_keys c.key-key.ensures);
  room = c.self.invariant.room;
  missing = c.self.invariant.missing;
  two = c.self.invariant.two;
  eight = c.self.invariant.eight;
  led = c.self.invariant.led;
  placed = c.self.invariant.placed;
}

pub returns-clause-ok : goal.returns-clause-ok
returns-clause-ok g c =
    rw (
      ← c.self.view_is,
      c.in_ok-keep.ensures.pending,
      c.in_ok-keep.ensures.kept,
      seconds-more c.self.inside.queue.refused (c.key-key.result, (c.args.value, c.args.reason)),
    )
