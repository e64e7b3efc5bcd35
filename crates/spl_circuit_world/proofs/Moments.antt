-- The moments of a line are the same in both worlds.
use Rattle.std.proofs.Common.{◌≡◌, ℕ, zero, suc, ◌+◌, ◌-◌, Bool, true, List, [], ◌∷◌, ◌++◌, append-nil, append_assoc, length, refl, sym, ap, subst, ◌∙◌}
use Rattle.spl_agree.proofs.Tests.{if_holds}
use Rattle.spl_circuit.specs.Nodes.{NodeId, CircuitId}
use Rattle.spl_wire.specs.declared.event.Event.TheVariants as event
use Rattle.spl_sched.specs.declared.line.{Line.Line, Step.Step}
use Rattle.spl_sched.specs.declared.line.Step.TheVariants as step
use Rattle.spl_sched.specs.declared.line.Line.TheVariants as line
use Rattle.spl_cell_rules.specs.Cells.{Cell}
use Rattle.spl_circuit_world.specs.{Worlds.{Origin, IsOrigin, World, messages, Occurrence, Steps, occur}, Calm.{Calming, calming_step, open_nodes, ticks}}
use Rattle.spl_circuit_world.specs.{Calm.{delivers, takes, pair_turn, to_all, from_all, pass, passes, calm}, Projection.{Ran, plainly, lines_fit, names}}
use Rattle.spl_circuit_world.specs.{Projection.concerned, Answers.{occurrences_in, circuit_world, world_before}, Whole.whole_world, Same.IsSameFor}
use Rattle.spl_circuit_world.{specs.Moments.{IsMoment, AreAtMoment}, proofs.{LinesAsOccurrences.IsRun, Confined.step-here, Alike.{IsAlike, AllHere}}}
use Rattle.spl_circuit_world.proofs.{Alike.{run-alike, same-alike}, Calms.calm-alike, Owns.{IsPair, IsLineWithin, named-within, AllConcern, concerned-all}}
use Rattle.spl_circuit_world.proofs.Owns.{fits-left, concern-left, pair-before, own-same}

module _ (ns : List NodeId) where
  -- the same happens in a line
  pub occurrences-same : (w v : World) (l : Line) (kept : Bool) → IsPair ns w v → occurrences_in w l kept ≡ occurrences_in v l kept
  occurrences-same w v (line.Calm c k) kept p = (calm-alike ns c w v k p.alike p.confined).happened
  occurrences-same w v _ kept p = refl

  -- at these nodes
  pub occurrences-here : (w v : World) (l : Line) (kept : Bool) → IsLineWithin ns l → IsPair ns w v → AllHere ns (occurrences_in v l kept)
  occurrences-here w v (line.Step s) kept h p = (step-here ns s h, tt)
  occurrences-here w v (line.Calm c k) kept h p = (calm-alike ns c w v k p.alike p.confined).here
  occurrences-here w v (line.Stop n) kept h p = (h, tt)
  occurrences-here w v (line.Start n) kept h p = (h, tt)
  occurrences-here w v (line.Roll n) kept h p = tt
  occurrences-here w v (line.Check k) kept h p = tt
  occurrences-here w v (line.Cut calls f s) kept h p = (step-here ns s h, tt)
  occurrences-here w v (line.Fail call s) kept h p = (step-here ns s h, tt)

  here-prefix : (xs ys : List Occurrence) → AllHere ns (xs ++ ys) → AllHere ns xs
  here-prefix [] ys h = tt
  here-prefix (x ∷ xs) ys h = (h.0, here-prefix xs ys h.1)

  moment-alike : (w v m : World) (r : Ran) → IsLineWithin ns r.line → IsPair ns w v → IsMoment v r m → (n : World) × IsMoment w r n × IsSameFor ns n m
  moment-alike w v m r h p i = (
    occur w i.happened,
    record { happened = i.happened; later = i.later; all = i.all ∙ sym (occurrences-same w v r.line r.kept p); is = refl },
    same-alike ns (occur w i.happened) m (subst (λ (x : World). IsAlike ns (occur w i.happened) x) (sym i.is)
        (run-alike ns w v i.happened p.alike
        (here-prefix i.happened i.later (subst (λ (es : List Occurrence). AllHere ns es) (sym i.all) (occurrences-here w v r.line r.kept h p))))),
  )

-- a moment of a line in the world after all lines is one in the world of the circuit
pub moment-whole : (o : Origin) (c : CircuitId) (before : List Ran) (r : Ran) (m : World) → IsOrigin o → lines_fit (before ++ r ∷ []) ≡ true
    → names c r.line ≡ true → IsMoment (whole_world o c before) r m
    → (n : World) × IsMoment (world_before o c before r) r n × IsSameFor (concerned o c (before ++ r ∷ [])) n m
moment-whole o c before r m i f q w =
    moment-alike all (world_before o c before r) (whole_world o c before) m r (named-within all c r.line q (k.1.0 q)) (pair-before o c before r i f) w
  where
    all : List NodeId
    all = concerned o c (before ++ r ∷ [])

    k : AllConcern all c before × AllConcern all c (r ∷ [])
    k = concern-left all c before (r ∷ []) (concerned-all o c (before ++ r ∷ []))

-- so what nodes keep at a moment
pub cells-whole : (o : Origin) (before : List Ran) (r : Ran) (cells : CircuitId → NodeId → Cell) → IsOrigin o → lines_fit (before ++ r ∷ []) ≡ true
    → AreAtMoment (λ c. whole_world o c before) (λ c. whole_world o c before) r cells
    → AreAtMoment (λ c. world_before o c before r) (λ c. circuit_world o c before) r cells
cells-whole o before r cells i f k = record {
  named = λ c q. named c q (k.named c q);
  others = λ c q n. k.others c q n ∙ ap (λ (at : NodeId → Cell). at n) (sym ((own-same o c before i (fits-left before (r ∷ []) f)).at));
}
  where
    named : (c : CircuitId) → names c r.line ≡ true → (m : World) × IsMoment (whole_world o c before) r m × ((n : NodeId) → cells c n ≡ m.at n)
        → (m : World) × IsMoment (world_before o c before r) r m × ((n : NodeId) → cells c n ≡ m.at n)
    named c q x = let y = moment-whole o c before r x.0 i f q x.1 in (y.0, y.1, λ n. x.2 n ∙ ap (λ (at : NodeId → Cell). at n) (sym y.2.at))

-- ---- the moments of a calm

-- what has happened in the one is a prefix of what has happened in the other
pub record IsPrefix (z z2 : Calming) : Type 0 where
  pub later : List Occurrence
  pub is : z2.happened ≡ z.happened ++ later

pub prefix-same : (z : Calming) → IsPrefix z z
prefix-same z = record { later = []; is = sym (append-nil z.happened) }

pub prefix-on : (x y z : Calming) → IsPrefix x y → IsPrefix y z → IsPrefix x z
prefix-on x y z f g =
    record { later = f.later ++ g.later; is = g.is ∙ (ap (λ (es : List Occurrence). es ++ g.later) f.is ∙ append_assoc x.happened f.later g.later) }

pub prefix-step : (z : Calming) (s : Step) → IsPrefix z (calming_step z s)
prefix-step z s = record { later = Steps s ∷ []; is = refl }

pub prefix-ticks : (c : CircuitId) (z : Calming) (xs : List NodeId) → IsPrefix z (ticks c z xs)
prefix-ticks c z [] = prefix-same z
prefix-ticks c z (x ∷ xs) =
    prefix-on z (calming_step z (step.At x c event.Tick)) (ticks c (calming_step z (step.At x c event.Tick)) xs) (prefix-step z (step.At x c event.Tick))
    (prefix-ticks c (calming_step z (step.At x c event.Tick)) xs)

pub prefix-delivers : (c : CircuitId) (z : Calming) (from to : NodeId) (number k : ℕ) → IsPrefix z (delivers c z from to number k)
prefix-delivers c z from to number zero = prefix-same z
prefix-delivers c z from to number (suc k) =
    prefix-on z (calming_step z (step.Deliver from to c number)) (delivers c (calming_step z (step.Deliver from to c number)) from to (number + 1) k)
    (prefix-step z (step.Deliver from to c number)) (prefix-delivers c (calming_step z (step.Deliver from to c number)) from to (number + 1) k)

pub prefix-takes : (z : Calming) (from to : NodeId) (n : ℕ) → IsPrefix z (takes z from to n)
prefix-takes z from to n = record { later = []; is = sym (append-nil z.happened) }

pub prefix-pair : (c : CircuitId) (z : Calming) (from to : NodeId) → IsPrefix z (pair_turn c z from to)
prefix-pair c z from to = if_holds (IsPrefix z) (z.world.up to) _ _ (λ q. turned) (λ q. prefix-same z)
  where
    all : ℕ
    all = length (messages z.world from to)

    there : Calming
    there = delivers c z from to (z.taken from to + 1) (all - z.taken from to)

    turned : IsPrefix z (takes there from to all)
    turned = prefix-on z there (takes there from to all) (prefix-delivers c z from to (z.taken from to + 1) (all - z.taken from to))
        (prefix-takes there from to all)

pub prefix-to_all : (c : CircuitId) (z : Calming) (from : NodeId) (xs : List NodeId) → IsPrefix z (to_all c z from xs)
prefix-to_all c z from [] = prefix-same z
prefix-to_all c z from (x ∷ xs) =
    prefix-on z (pair_turn c z from x) (to_all c (pair_turn c z from x) from xs) (prefix-pair c z from x) (prefix-to_all c (pair_turn c z from x) from xs)

pub prefix-from_all : (c : CircuitId) (z : Calming) (all xs : List NodeId) → IsPrefix z (from_all c z all xs)
prefix-from_all c z all [] = prefix-same z
prefix-from_all c z all (x ∷ xs) =
    prefix-on z (to_all c z x all) (from_all c (to_all c z x all) all xs) (prefix-to_all c z x all) (prefix-from_all c (to_all c z x all) all xs)

pub prefix-pass : (c : CircuitId) (xs : List NodeId) (z : Calming) → IsPrefix z (pass c xs z)
prefix-pass c xs z =
    prefix-on z (ticks c z (open_nodes z.world xs)) (pass c xs z) (prefix-ticks c z (open_nodes z.world xs))
    (prefix-from_all c (ticks c z (open_nodes z.world xs)) xs xs)

pub prefix-passes : (c : CircuitId) (xs : List NodeId) (k : ℕ) (z : Calming) → IsPrefix z (passes c xs k z)
prefix-passes c xs zero z = prefix-same z
prefix-passes c xs (suc k) z = prefix-on z (pass c xs z) (passes c xs k (pass c xs z)) (prefix-pass c xs z) (prefix-passes c xs k (pass c xs z))

-- a calm so far is at a moment of the whole
pub moment-calm : (c : CircuitId) (w : World) (k : ℕ) (z : Calming) → IsRun w z → IsPrefix z (calm c w k) → IsMoment w (plainly (line.Calm c k)) z.world
moment-calm c w k z r f = record { happened = z.happened; later = f.later; all = sym f.is; is = r.same }
