use Rattle.std.{specs.Prelude.{Err, is_none, nat_lt}, proofs.Common.{◌≡◌, ◌<◌, length, sym, ap, ◌∙◌, subst, arith}}
use Rattle.spl_agree.{specs.{Member.{found, found_refused, known_by}, declared.limit.TheConstants.MOST_PENDING}, proofs.Tests.{and_left, and_right, ltb_is}}
use Rattle.spl_commit.{specs.Views.AreKeyed, proofs.{Keyed.{length-seconds, lookup-found, lookup-refused, keyed-more, seconds-more}, ChangeSteps.unknown}}
use Rattle.spl_commit.proofs.member.Member.queue_value.Goals as goal

pub offer-requires-clause-not_pending : goal.offer-requires-clause-not_pending
offer-requires-clause-not_pending g c =
    let free = and_left (is_none (known_by ((g.M.Agreed.rules c.args.self.now.content).same_key c.args.value) c.args.self.now.state)) _ c.requires in
    lookup-found (g.M.Key.PartialEq.eq c.key-key.result) g.M.Agreed.key_of
    ((g.M.Agreed.rules c.args.self.now.content).same_key c.args.value) c.self.inside.queue.pending
    (λ v. ap (λ k. g.M.Key.PartialEq.eq k (g.M.Agreed.key_of v)) c.key-key.ensures
    ∙ sym (g.met.M.Agreed.keyed c.args.self.now.content c.args.value v)) c.self.invariant.pending_keys
    ∙ ap (λ m. found ((g.M.Agreed.rules c.args.self.now.content).same_key c.args.value) m.state.pending) c.self.view_is
    ∙ (unknown ((g.M.Agreed.rules c.args.self.now.content).same_key c.args.value) c.args.self.now.state free).0

pub offer-requires-clause-not_refused : goal.offer-requires-clause-not_refused
offer-requires-clause-not_refused g c =
    let free = and_left (is_none (known_by ((g.M.Agreed.rules c.args.self.now.content).same_key c.args.value) c.args.self.now.state)) _ c.requires in
    lookup-refused (g.M.Key.PartialEq.eq c.key-key.result) g.M.Agreed.key_of
    ((g.M.Agreed.rules c.args.self.now.content).same_key c.args.value) c.self.inside.queue.refused
    (λ v. ap (λ k. g.M.Key.PartialEq.eq k (g.M.Agreed.key_of v)) c.key-key.ensures
    ∙ sym (g.met.M.Agreed.keyed c.args.self.now.content c.args.value v)) c.self.invariant.refused_keys
    ∙ ap (λ m. found_refused ((g.M.Agreed.rules c.args.self.now.content).same_key c.args.value) m.state.refused) c.self.view_is
    ∙ (unknown ((g.M.Agreed.rules c.args.self.now.content).same_key c.args.value) c.args.self.now.state free).1

pub invariant_of-self-2 : goal.invariant_of-self-2
invariant_of-self-2 g c = record {
  applied = c.self.invariant.applied;
  pending_keys =
      subst (AreKeyed g.M.Agreed.key_of) (sym c.in-Ok.ensures.queued)
      (keyed-more g.M.Agreed.key_of c.self.inside.queue.pending (c.key-key.result, c.args.value) c.self.invariant.pending_keys c.key-key.ensures);
  refused_keys = subst (AreKeyed _) (sym c.in-Ok.ensures.others) c.self.invariant.refused_keys;
  room = c.self.invariant.room;
  missing = c.self.invariant.missing;
  two = c.self.invariant.two;
  eight = c.self.invariant.eight;
  led = c.self.invariant.led;
  placed = c.self.invariant.placed;
}

pub returns-clause-ok : goal.returns-clause-ok
returns-clause-ok g c =
    rw (← c.self.view_is, c.in-Ok.ensures.queued, c.in-Ok.ensures.others, seconds-more c.self.inside.queue.pending (c.key-key.result, c.args.value))

-- a change that fits finds room
pub no_memory-requires : goal.no_memory-requires
no_memory-requires g c = record {
  room = λ v e.
      let room : length c.args.self.now.state.pending < MOST_PENDING =
      ltb_is (length c.args.self.now.state.pending) MOST_PENDING
      (and_left (nat_lt (length c.args.self.now.state.pending) MOST_PENDING) _
      (and_right (is_none (known_by ((g.M.Agreed.rules c.args.self.now.content).same_key c.args.value) c.args.self.now.state)) _ c.requires)) in
      let same : length c.self.inside.queue.pending ≡ length c.args.self.now.state.pending =
      sym (length-seconds c.self.inside.queue.pending) ∙ ap (λ m. length m.state.pending) c.self.view_is in
      let full : length c.self.inside.queue.pending ≡ MOST_PENDING = ((c.in-Err.ensures.full v).0 (ap Err e)).0 in
      absurd (omega arith);
}
