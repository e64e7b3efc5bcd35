use Rattle.std.proofs.Common.{◌≡◌, ◌<◌, ◌-◌, ◌^◌, [], ◌∷◌, ◌++◌, ◌+◌, length, append-nil, sym, ap, ◌∙◌, subst, arith}
use Rattle.spl_agree.{specs.Member.values, proofs.Tests.{length-values, values-more}}
use Rattle.spl_commit.{specs.Views.AreKeyed, proofs.{Keyed.{remove-without, keyed-remove}, ChangeSteps.commit-room}}
use Rattle.spl_commit.proofs.member.Member.commit.Goals as goal
use Rattle.spl_group_safety.proofs.Fits.{length-one}

pub commit-requires-clause-room : goal.commit-requires-clause-room
commit-requires-clause-room g c =
    let r : length c.args.self.now.state.history < 2 ^ 32 - 1 = commit-room (length c.args.self.now.state.history) _ c.requires in
    let l : length c.self.inside.history ≡ length c.args.self.now.state.history = ap (λ m. length m.state.history) c.self.view_is in
    let a : length (g.M.Agreed.items c.self.inside.content) ≡ length c.self.inside.history =
    ap (λ vs. length vs) c.self.invariant.applied ∙ length-values c.self.inside.history in
    omega arith

pub invariant_of-self-2 : goal.invariant_of-self-2
invariant_of-self-2 g c =
    let r : length c.args.self.now.state.history < 2 ^ 32 - 1 = commit-room (length c.args.self.now.state.history) _ c.requires in
    let l : length c.self.inside.history ≡ length c.args.self.now.state.history = ap (λ m. length m.state.history) c.self.view_is in
    let h : length c.commit.new.self ≡ length c.self.inside.history + 1 =
    ap (λ es. length es) c.in_ok-commit.ensures.ok ∙ length-one c.self.inside.history (c.args.round, c.args.value) in
    record {
      applied = c.in_ok-commit.ensures.applied ∙ ap (λ vs. vs ++ c.args.value ∷ []) c.self.invariant.applied
          ∙ sym (ap values c.in_ok-commit.ensures.ok ∙ values-more c.self.inside.history (c.args.round, c.args.value));
      pending_keys =
          subst (AreKeyed g.M.Agreed.key_of) (sym c.in_ok-settle.ensures.pending)
          (keyed-remove (g.M.Key.PartialEq.eq c.key-key.result) g.M.Agreed.key_of c.self.inside.queue.pending c.self.invariant.pending_keys);
      refused_keys = subst (AreKeyed _) (sym (c.in_ok-settle.ensures.refused ∙ append-nil c.self.inside.queue.refused)) c.self.invariant.refused_keys;
      room = omega arith;
      missing = c.self.invariant.missing;
      two = c.self.invariant.two;
      eight = c.self.invariant.eight;
      led = c.self.invariant.led;
      placed = c.self.invariant.placed;
    }

pub returns-clause-ok : goal.returns-clause-ok
returns-clause-ok g c = rw (
  ← c.self.view_is,
  c.in_ok-commit.ensures.ok,
  c.in_ok-settle.ensures.pending,
  c.in_ok-settle.ensures.refused,
  append-nil c.self.inside.queue.refused,
  remove-without (g.M.Key.PartialEq.eq c.key-key.result) g.M.Agreed.key_of
      ((g.M.Agreed.rules c.self.inside.content).same_key c.args.value) c.self.inside.queue.pending
      (λ v. ap (λ k. g.M.Key.PartialEq.eq k (g.M.Agreed.key_of v)) c.key-key.ensures
      ∙ sym (g.met.M.Agreed.keyed c.self.inside.content c.args.value v)) c.self.invariant.pending_keys,
)
