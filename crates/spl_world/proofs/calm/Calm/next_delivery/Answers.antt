use Rattle.std.proofs.Common.{append-nil}
use Rattle.spl_world.specs.{Calms.{Tracks, sent_count}, Cursor.{HasMessagesLeft, IsMessageWaiting, FoundPairLeaves, PairWaits, SkipsPairs, turns_from}}
use Rattle.spl_world.{specs.Views.world_node_ids, proofs.Common.{◌≡◌, ◌+◌, ◌-◌, Some, ◌<◌, ◌≤◌, ◌∙◌, ◌∷◌, ◌++◌, [], true≢false, ℕ, List, drop, length}}
use Rattle.spl_world.proofs.Common.{slice_set, refl, sym, ap, subst, arith, drop_all, NodeId, Calming, from_all, open_nodes, passes, Occurrence, Steps}
use Rattle.spl_world.proofs.{Common.{CircuitWorld, step_world, length-set}, Cursor.{all_turns, given, given_left, given_rows, given_within, no_ticks}}
use Rattle.spl_world.proofs.{Cursor.{row_reads, still_left, still_tracks, turns_on, waits_still, wide_row, row_there}, Idling.{count_then, quiet_then}}
use Rattle.spl_world.proofs.{Slots.{length_ids, some_at}, Turns.square_set}
use Rattle.spl_world.proofs.calm.Calm.next_delivery.Goals as goal
use Rattle.spl_sched.specs.declared.line.Step.TheVariants as step

pub returns-in_default-clause-on : goal.returns-in_default-clause-on
returns-in_default-clause-on c = λ is z h f.
    let k = c.args.self.now in
    let ids = world_node_ids c.args.world.now in
    let same = length_ids c.args.world.now.slots.items in
    let s = subst (λ r. SkipsPairs r k.circuit ids z k.from k.to) c.in_default.is (c.next_pair.ensures.skips is z h f) in
    let begun : length ids ≤ k.slot = omega (arith, same, c.requires.ticked) in
    let all : length ids ≤ c.len-self.result = omega (arith, same, c.len-self.ensures) in
    record {
      last = s.there;
      still = s.still;
      same = ap (λ (y : Calming). passes k.circuit ids k.later y)
          (ap (λ (y : Calming). turns_from k.circuit y ids (drop c.len-self.result ids) ids) (no_ticks k.circuit s.there ids k.slot begun)
          ∙ ap (λ (ns : List NodeId). turns_from k.circuit s.there ids ns ids) (drop_all c.len-self.result ids all)
          ∙ s.same
          ∙ sym (ap (λ (y : Calming). turns_from k.circuit y ids (drop k.from ids) (drop k.to ids)) (no_ticks k.circuit z ids k.slot begun)));
      tracks = still_tracks z s.there ids k.rows.items s.still f.tracks;
      done = λ off.
          let g = f.idle off in
          let opened : open_nodes g.start.world ids ≡ g.ticked =
          g.opened ∙ ap (λ (ns : List NodeId). g.ticked ++ ns) (ap (open_nodes g.start.world) (drop_all k.slot ids begun)) ∙ append-nil g.ticked in
          let turns : s.there ≡ from_all k.circuit z ids ids = s.same ∙ ap (λ (n : ℕ). turns_from k.circuit z ids (drop n ids) (drop k.to ids)) g.from ∙ ap (λ (n : ℕ). turns_from k.circuit z ids ids (drop n ids)) g.to ∙ all_turns k.circuit z ids ids in
          record {
            quiet = quiet_then k.circuit ids g.start z s.there g.ticked opened g.idle g.now turns s.still.happened;
            count = g.count ∙ count_then k.circuit ids g.start z s.there g.ticked opened g.idle g.now turns s.still.happened;
          };
    }

pub index-index-requires : goal.index-index-requires
index-index-requires c =
    let below = c.in-Some.ensures.below in
    wide_row _ c.args.self.now.rows.items c.in-Some.from c.in-Some.to c.index.result.now c.requires.square below.0 c.index.ensures below.1

pub index_mut-requires-2 : goal.index_mut-requires-2
index_mut-requires-2 c =
    let below = c.in-Some.ensures.below in
    wide_row _ c.args.self.now.rows.items c.in-Some.from c.in-Some.to c.index_mut.result.now c.requires.square below.0 c.index_mut.ensures.value below.1

pub returns-clause-square : goal.returns-clause-square
returns-clause-square c =
    let rows = c.args.self.now.rows.items in
    let row = c.index_mut.result.now in
    let there = row_there _ rows c.in-Some.from row c.requires.square c.in-Some.ensures.below.0 c.index_mut.ensures.value in
    square_set (length c.args.world.now.slots.items) rows c.in-Some.from _ c.requires.square (length-set rows c.in-Some.from _)
    (length-set row.items c.in-Some.to c.saturating_add.result ∙ c.requires.square.wide c.in-Some.from row there)

pub returns-clause-on : goal.returns-clause-on
returns-clause-on c = λ is z h f.
    let tracks = f.tracks in
    let k = c.args.self.now in
    let rows = k.rows.items in
    let i = c.in-Some.from in
    let j = c.in-Some.to in
    let ids = world_node_ids c.args.world.now in
    let same = length_ids c.args.world.now.slots.items in
    let below = c.in-Some.ensures.below in
    let sender = some_at c.args.world.now.slots.items i below.0 in
    let recipient = some_at c.args.world.now.slots.items j below.1 in
    let a : NodeId = sender.0 in
    let b : NodeId = recipient.0 in
    let row = row_there _ rows i c.index.result.now c.requires.square below.0 c.index.ensures in
    let set = row_there _ rows i c.index_mut.result.now c.requires.square below.0 c.index_mut.ensures.value in
    let s = subst (λ r. SkipsPairs r k.circuit ids z k.from k.to) c.in-Some.is (c.next_pair.ensures.skips is z h f) in
    let y : Calming = s.there in
    let w : IsMessageWaiting z a b = subst (λ r. PairWaits r ids z) c.in-Some.is (c.next_pair.ensures.waits is z h f) a b sender.1 recipient.1 in
    let v : IsMessageWaiting y a b = waits_still z y a b s.still w in
    let t : Tracks y ids rows = still_tracks z y ids rows s.still tracks in
    let n : ℕ = c.index-index.result.now in
    let taken : y.taken a b ≡ n = sym (row_reads y ids rows i j a b c.index.result.now n t sender.1 recipient.1 row c.index-index.ensures) in
    let less_n : n < sent_count y.world a b = subst (λ (m : ℕ). m < sent_count y.world a b) taken v.less in
    let room : n + 1 < 18446744073709551616 = subst (λ (m : ℕ). m + 1 < 18446744073709551616) taken v.room in
    let next : c.saturating_add.result ≡ n + 1 = omega (arith, c.saturating_add.ensures, room) in
    let begun : length ids ≤ k.slot = omega (arith, same, c.requires.ticked) in
    let x : Calming = given k.circuit y a b n in
    record {
      step = step.Deliver a b k.circuit (n + 1);
      is_step = (a, b, sender.1, recipient.1, refl);
      next = x;
      world = ap (λ (m : CircuitWorld). step_world m (step.Deliver a b k.circuit (n + 1))) s.still.world;
      happened = ap (λ (es : List Occurrence). es ++ Steps (step.Deliver a b k.circuit (n + 1)) ∷ []) s.still.happened;
      same = ap (λ (y : Calming). passes k.circuit ids k.later y)
          (ap (λ (y : Calming). turns_from k.circuit y ids (drop i ids) (drop j ids)) (no_ticks k.circuit x ids k.slot begun)
          ∙ turns_on k.circuit y ids i j a b n v.up taken less_n sender.1 recipient.1
          ∙ s.same
          ∙ sym (ap (λ (y : Calming). turns_from k.circuit y ids (drop k.from ids) (drop k.to ids)) (no_ticks k.circuit z ids k.slot begun)));
      follows = record {
        tracks = record {
          taken = given_rows k.circuit y a b n v.up taken less_n ids rows i j c.index_mut.result.now _ h.ordered sender.1 recipient.1 set
              (ap (λ (m : ℕ). slice_set c.index_mut.result.now.items j m) next) t.taken;
          within = given_within k.circuit y a b n v.up taken less_n t.within;
        };
        idle = λ off. absurd (true≢false off);
        left = λ d left at is_left.
            let here : a ≡ d = (let same : Some a ≡ Some d = sym sender.1 ∙ at in cc) in
            let less : c.in-Some.left - 1 ≡ left = (let same : Some c.saturating_sub.result ≡ Some left = is_left in let e : c.saturating_sub.result ≡ left = cc in sym c.saturating_sub.ensures ∙ e) in
            let has : HasMessagesLeft c.in-Some.left ids z a = subst (λ r. FoundPairLeaves r ids z) c.in-Some.is (c.next_pair.ensures.leaves is z h f) a sender.1 in
            let now : HasMessagesLeft (c.in-Some.left - 1) ids x a =
            given_left k.circuit y a b n v.up taken less_n ids j c.in-Some.left recipient.1 (still_left z y ids a c.in-Some.left s.still has) in
            subst (λ (m : NodeId). HasMessagesLeft left ids x m) here (subst (λ (m : ℕ). HasMessagesLeft m ids x a) less now);
      };
    }
