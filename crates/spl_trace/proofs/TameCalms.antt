-- The lines of a calm are within their bounds, where not too many messages were sent.
use Rattle.std.{specs.{List.{list_all, filter}, Str.bytes_eq}, proofs.Common.{◌≡◌, ℕ, zero, suc, ◌+◌, ◌-◌, ◌*◌, ◌^◌, ◌≤◌, ◌<◌, ◌⊎◌, inl, inr, Bool, true}}
use Rattle.std.proofs.{Common.{false, List, [], ◌∷◌, ◌++◌, length, length-append, map, refl, subst, arith}, lemmas.Bool.{le-leb, lt-ltb}}
use Rattle.spl_base.specs.Ids.{is_node_id, is_circuit_id}
use Rattle.spl_agree.proofs.Tests.{if_holds, bool_cases, and_left, and_right}
use Rattle.spl_circuit.specs.Nodes.{NodeId, CircuitId, is_below, inserted, sorted}
use Rattle.spl_wire.specs.declared.event.Event.TheVariants as event
use Rattle.spl_sched.specs.{Grammar.is_step, declared.line.Step.Step}
use Rattle.spl_sched.specs.declared.line.Step.TheVariants as step
use Rattle.spl_circuit_world.specs.{Worlds.{World, Occurrence, Steps, Stops, Starts, Halts, messages}, Calm.{Calming, calming_step, calming, open_nodes}}
use Rattle.spl_circuit_world.specs.{Calm.{ticks, delivers, takes, pair_turn, to_all, from_all, pass, passes, calm}, Projection.{plainly, lines_fit}}
use Rattle.spl_circuit_world.proofs.Quiet.{to_all-grows, from_all-grows, passes-grow}
use Rattle.spl_trace.{specs.Traced.steps_in, proofs.FewMessages.{IsSmallWorld, step-small, step-sent, messages-few}}

-- ---- ids

abbrev pub AreIds : List NodeId → Type 0
AreIds ns = list_all is_node_id ns ≡ true

first : (n : NodeId) (ns : List NodeId) → AreIds (n ∷ ns) → is_node_id n ≡ true
first n ns h = and_left (is_node_id n) (list_all is_node_id ns) h

rest : (n : NodeId) (ns : List NodeId) → AreIds (n ∷ ns) → AreIds ns
rest n ns h = and_right (is_node_id n) (list_all is_node_id ns) h

ids-filter : (p : NodeId → Bool) (ns : List NodeId) → AreIds ns → AreIds (filter p ns)
ids-filter p [] h = refl
ids-filter p (n ∷ ns) h = if_holds AreIds (p n) _ _ (λ q. rw (first n ns h) (ids-filter p ns (rest n ns h))) (λ q. ids-filter p ns (rest n ns h))

ids-inserted : (n : NodeId) (ns : List NodeId) → is_node_id n ≡ true → AreIds ns → AreIds (inserted n ns)
ids-inserted n [] h k = rw h refl
ids-inserted n (m ∷ ms) h k = if_holds AreIds (is_below m n) _ _ (λ q. rw (first m ms k) (ids-inserted n ms h (rest m ms k))) (λ q. rw h k)

pub ids-sorted : (ns : List NodeId) → AreIds ns → AreIds (sorted ns)
ids-sorted [] h = refl
ids-sorted (n ∷ ns) h = ids-inserted n (sorted ns) (first n ns h) (ids-sorted ns (rest n ns h))

-- ---- lines

-- the steps among what happened are lines within their bounds
abbrev pub AreLines : List Occurrence → Type 0
AreLines es = lines_fit (map plainly (steps_in es)) ≡ true

lines-more : (es : List Occurrence) (s : Step) → AreLines es → is_step s ≡ true → AreLines (es ++ Steps s ∷ [])
lines-more [] s h k = rw k refl
lines-more (Steps t ∷ es) s h k =
    let own : is_step t ≡ true = and_left (is_step t) (lines_fit (map plainly (steps_in es))) h in
    let others : AreLines es = and_right (is_step t) (lines_fit (map plainly (steps_in es))) h in
    rw own (lines-more es s others k)
lines-more (Stops n ∷ es) s h k = lines-more es s h k
lines-more (Starts n ∷ es) s h k = lines-more es s h k
lines-more (Halts kept t ∷ es) s h k = lines-more es s h k

tick-fits : (n : NodeId) (c : CircuitId) → is_node_id n ≡ true → is_circuit_id c ≡ true → is_step (step.At n c event.Tick) ≡ true
tick-fits n c h k = rw (h, k) refl

deliver-fits : (a b : NodeId) (c : CircuitId) (number : ℕ) → is_node_id a ≡ true → is_node_id b ≡ true → is_circuit_id c ≡ true → bytes_eq a b ≡ false
    → 1 ≤ number → number < 2 ^ 32 → is_step (step.Deliver a b c number) ≡ true
deliver-fits a b c number h k i apart low high = rw (h, k, i, le-leb 1 number low, lt-ltb number (2 ^ 32) high, apart) refl

-- ---- calms

-- so far in a calm, where so many messages were sent before it
pub record IsTame (sent : ℕ) (z : Calming) : Type 0 where
  pub small : IsSmallWorld z.world
  pub few : length z.world.sent ≤ sent + 32 * length z.happened
  pub lines : AreLines z.happened

tame-step : (sent : ℕ) (z : Calming) (s : Step) → is_step s ≡ true → IsTame sent z → IsTame sent (calming_step z s)
tame-step sent z s fits h = record {
  small = step-small z.world s h.small;
  few = few;
  lines = lines-more z.happened s h.lines fits;
}
  where
    few : length (calming_step z s).world.sent ≤ sent + 32 * length (calming_step z s).happened
    few =
        let before = h.few in
        let one = step-sent z.world s h.small in
        let longer = length-append z.happened (Steps s ∷ []) in
        omega (arith, before, one, longer)

tame-takes : (sent : ℕ) (z : Calming) (a b : NodeId) (n : ℕ) → IsTame sent z → IsTame sent (takes z a b n)
tame-takes sent z a b n h = record { small = h.small; few = h.few; lines = h.lines }

module _ (c : CircuitId) (named : is_circuit_id c ≡ true) (sent : ℕ) where
  tame-ticks : (z : Calming) (ns : List NodeId) → AreIds ns → IsTame sent z → IsTame sent (ticks c z ns)
  tame-ticks z [] ids h = h
  tame-ticks z (n ∷ ns) ids h =
      tame-ticks (calming_step z (step.At n c event.Tick)) ns (rest n ns ids)
      (tame-step sent z (step.At n c event.Tick) (tick-fits n c (first n ns ids) named) h)

  module _ (a b : NodeId) (own : is_node_id a ≡ true) (other : is_node_id b ≡ true) where
    tame-delivers : (z : Calming) (number k : ℕ) → bytes_eq a b ≡ false → 1 ≤ number → number + k ≤ 2 ^ 32 → IsTame sent z
        → IsTame sent (delivers c z a b number k)
    tame-delivers z number zero apart low high h = h
    tame-delivers z number (suc k) apart low high h =
        let below : number < 2 ^ 32 = omega (arith, high) in
        let next : (number + 1) + k ≤ 2 ^ 32 = omega (arith, high) in
        let later : 1 ≤ number + 1 = omega arith in
        tame-delivers (calming_step z (step.Deliver a b c number)) (number + 1) k apart later next
        (tame-step sent z (step.Deliver a b c number) (deliver-fits a b c number own other named apart low below) h)

    tame-pair : (z : Calming) → sent + 32 * length z.happened < 2 ^ 32 → IsTame sent z → IsTame sent (pair_turn c z a b)
    tame-pair z room h =
        if_holds (IsTame sent) (z.world.up b) _ _ (λ q. tame-takes sent (delivers c z a b (t + 1) (all - t)) a b all (turned (bool_cases (bytes_eq a b))))
        (λ q. h)
      where
        all : ℕ
        all = length (messages z.world a b)

        t : ℕ
        t = z.taken a b

        by_count : (k : ℕ) → all - t ≡ k → bytes_eq a b ≡ false → IsTame sent (delivers c z a b (t + 1) k)
        by_count zero e apart = h
        by_count (suc k) e apart =
            let few = h.few in
            let these = messages-few z.world a b in
            let last : (t + 1) + suc k ≤ 2 ^ 32 = omega (arith, e, these, few, room) in
            let low : 1 ≤ t + 1 = omega arith in
            tame-delivers z (t + 1) (suc k) apart low last h

        turned : (bytes_eq a b ≡ true) ⊎ (bytes_eq a b ≡ false) → IsTame sent (delivers c z a b (t + 1) (all - t))
        turned (inl same) =
            let nothing : all ≡ 0 = rw same refl in
            let none : 0 ≡ all - t = omega (arith, nothing) in
            subst (λ (k : ℕ). IsTame sent (delivers c z a b (t + 1) k)) none h
        turned (inr apart) = by_count (all - t) refl apart

  tame-to_all : (a : NodeId) (z : Calming) (ns : List NodeId) → is_node_id a ≡ true → AreIds ns → sent + 32 * length (to_all c z a ns).happened < 2 ^ 32
      → IsTame sent z → IsTame sent (to_all c z a ns)
  tame-to_all a z [] own ids room h = h
  tame-to_all a z (n ∷ ns) own ids room h =
      let grows = to_all-grows c z a (n ∷ ns) in
      let here : sent + 32 * length z.happened < 2 ^ 32 = omega (arith, grows, room) in
      tame-to_all a (pair_turn c z a n) ns own (rest n ns ids) room (tame-pair a n own (first n ns ids) z here h)

  tame-from_all : (z : Calming) (all ns : List NodeId) → AreIds all → AreIds ns → sent + 32 * length (from_all c z all ns).happened < 2 ^ 32
      → IsTame sent z → IsTame sent (from_all c z all ns)
  tame-from_all z all [] every ids room h = h
  tame-from_all z all (n ∷ ns) every ids room h =
      let y : Calming = to_all c z n all in
      let grows = from_all-grows c y all ns in
      let here : sent + 32 * length y.happened < 2 ^ 32 = omega (arith, grows, room) in
      tame-from_all y all ns every (rest n ns ids) room (tame-to_all n z all (first n ns ids) every here h)

  tame-pass : (ns : List NodeId) (z : Calming) → AreIds ns → sent + 32 * length (pass c ns z).happened < 2 ^ 32 → IsTame sent z → IsTame sent (pass c ns z)
  tame-pass ns z ids room h =
      tame-from_all (ticks c z (open_nodes z.world ns)) ns ns ids ids room (tame-ticks z (open_nodes z.world ns) (ids-filter _ ns ids) h)

  tame-passes : (ns : List NodeId) (k : ℕ) (z : Calming) → AreIds ns → sent + 32 * length (passes c ns k z).happened < 2 ^ 32 → IsTame sent z
      → IsTame sent (passes c ns k z)
  tame-passes ns zero z ids room h = h
  tame-passes ns (suc k) z ids room h =
      let y : Calming = pass c ns z in
      let grows = passes-grow c ns k y in
      let here : sent + 32 * length y.happened < 2 ^ 32 = omega (arith, grows, room) in
      tame-passes ns k y ids room (tame-pass ns z ids here h)

-- the lines of a whole calm
pub tame-calm : (c : CircuitId) (w : World) (k : ℕ) → is_circuit_id c ≡ true → AreIds w.nodes → IsSmallWorld w
    → length w.sent + 32 * length (calm c w k).happened < 2 ^ 32 → AreLines (calm c w k).happened
tame-calm c w k named ids small room =
    let begins : IsTame (length w.sent) (calming w) = record { small = small; few = omega arith; lines = refl } in
    (tame-passes c named (length w.sent) (sorted w.nodes) k (calming w) (ids-sorted w.nodes ids) room begins).lines
