use Rattle.std.{specs.List.list_any, proofs.Common.{◌≡◌, true, ◌++◌, sym, ap, ◌∙◌, subst}}
use Rattle.spl_commit.{specs.Views.AreKeyed, proofs.{Keyed.{remove-without, keyed-remove, keyed-more, seconds-more}, ChangeSteps.lookup-pending}}
use Rattle.spl_commit.proofs.ChangeSteps.{refusal-one}
use Rattle.spl_commit.proofs.member.Member.refuse.Goals as goal

pub invariant_of-self-2 : goal.invariant_of-self-2
invariant_of-self-2 g c =
    let fits = subst (λ m. list_any (λ u. (g.M.Agreed.rules m.content).same u c.args.value) m.state.pending ≡ true) (sym c.self.view_is) c.requires in
    let same =
    λ (u : _) (h : (g.M.Agreed.rules c.self.inside.content).same u c.args.value ≡ true). (g.met.M.Agreed.same_is u c.args.value).0
    (sym (g.met.M.Agreed.samed c.self.inside.content u c.args.value) ∙ h) in
    let there =
    lookup-pending g.M.Key.PartialEq.eq g.M.Agreed.key_of
    (λ u. (g.M.Agreed.rules c.self.inside.content).same u c.args.value) c.args.value c.key-key.result c.self.inside.queue.pending g.met.M.Key.Eq.laws
    c.key-key.ensures same c.self.invariant.pending_keys c.keys_differ.ensures.pending fits in
    record {
      applied = c.self.invariant.applied;
      pending_keys =
          subst (AreKeyed g.M.Agreed.key_of) (sym c.in_ok-settle.ensures.pending)
          (keyed-remove (g.M.Key.PartialEq.eq c.key-key.result) g.M.Agreed.key_of c.self.inside.queue.pending c.self.invariant.pending_keys);
      refused_keys =
          subst (AreKeyed _) (sym (c.in_ok-settle.ensures.refused
          ∙ ap (λ es. c.self.inside.queue.refused ++ es)
          (refusal-one g.M.Key.PartialEq.eq c.self.inside.queue c.key-key.result c.args.value c.args.reason there)))
          (keyed-more _ c.self.inside.queue.refused (c.key-key.result, (c.args.value, c.args.reason)) c.self.invariant.refused_keys c.key-key.ensures);
      room = c.self.invariant.room;
      missing = c.self.invariant.missing;
      two = c.self.invariant.two;
      eight = c.self.invariant.eight;
      led = c.self.invariant.led;
      placed = c.self.invariant.placed;
    }

pub returns-clause-ok : goal.returns-clause-ok
returns-clause-ok g c =
    let fits = subst (λ m. list_any (λ u. (g.M.Agreed.rules m.content).same u c.args.value) m.state.pending ≡ true) (sym c.self.view_is) c.requires in
    let same =
    λ (u : _) (h : (g.M.Agreed.rules c.self.inside.content).same u c.args.value ≡ true). (g.met.M.Agreed.same_is u c.args.value).0
    (sym (g.met.M.Agreed.samed c.self.inside.content u c.args.value) ∙ h) in
    let there =
    lookup-pending g.M.Key.PartialEq.eq g.M.Agreed.key_of
    (λ u. (g.M.Agreed.rules c.self.inside.content).same u c.args.value) c.args.value c.key-key.result c.self.inside.queue.pending g.met.M.Key.Eq.laws
    c.key-key.ensures same c.self.invariant.pending_keys c.keys_differ.ensures.pending fits in
    rw (
      ← c.self.view_is,
      c.in_ok-settle.ensures.pending,
      c.in_ok-settle.ensures.refused,
      refusal-one g.M.Key.PartialEq.eq c.self.inside.queue c.key-key.result c.args.value c.args.reason there,
      seconds-more c.self.inside.queue.refused (c.key-key.result, (c.args.value, c.args.reason)),
      remove-without (g.M.Key.PartialEq.eq c.key-key.result) g.M.Agreed.key_of
          ((g.M.Agreed.rules c.self.inside.content).same_key c.args.value) c.self.inside.queue.pending
          (λ v. ap (λ k. g.M.Key.PartialEq.eq k (g.M.Agreed.key_of v)) c.key-key.ensures
          ∙ sym (g.met.M.Agreed.keyed c.self.inside.content c.args.value v)) c.self.invariant.pending_keys,
    )
