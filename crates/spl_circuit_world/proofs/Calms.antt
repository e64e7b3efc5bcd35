-- A calm in two worlds that are alike at the nodes that the circuit touches: the same happens in both.
use Rattle.std.{specs.{Prelude.if◌then◌else◌, Str.bytes_eq}, proofs.Common.{◌≡◌, ◌≢◌, ℕ, zero, suc, ◌+◌, ◌-◌, ◌⊎◌, Bool, true, false, ◌&&◌, List, [], ◌∷◌}}
use Rattle.std.proofs.Common.{◌++◌, length, refl, sym, ap, subst, ◌∙◌, inl, inr, arith}
use Rattle.spl_agree.proofs.Tests.{if_holds, bool_cases, and_left, and_right}
use Rattle.spl_circuit.specs.{Nodes.{NodeId, CircuitId, has_node, sorted}, Same.node_is}
use Rattle.spl_wire.specs.declared.message.Message.{Message}
use Rattle.spl_wire.specs.declared.event.Event.TheVariants as event
use Rattle.spl_sched.specs.declared.line.Step.{Step}
use Rattle.spl_sched.specs.declared.line.Step.TheVariants as step
use Rattle.spl_cell_rules.specs.Cells.{Cell, is_open_cell}
use Rattle.spl_circuit_world.specs.{Worlds.{World, messages, Occurrence, Steps}, Calm.{Calming, calming_step, calming, open_nodes, ticks, delivers, takes}}
use Rattle.spl_circuit_world.{specs.{Calm.{pair_turn, to_all, from_all, pass, passes, calm}, Projection.IsPlainStep}, proofs.Within.are_within}
use Rattle.spl_circuit_world.proofs.{Within.{within-empty, open-within}, Confined.{IsConfined, messages-none, IsStepWithin, step-here, confined-step}}
use Rattle.spl_circuit_world.proofs.{Confined.{AllWithin, within-append}, Alike.{IsAlike, up-alike, step-alike, AllHere}}

module _ (ns : List NodeId) where
  -- two calms so far in which the same happened, all of it at these nodes
  pub record IsCalmAlike (y z : Calming) : Type 0 where
    pub world : IsAlike ns y.world z.world
    pub taken : (a b : NodeId) → has_node ns b ≡ true → y.taken a b ≡ z.taken a b
    pub happened : y.happened ≡ z.happened
    pub confined : IsConfined ns z.world
    pub within : AllWithin ns z.happened
    pub here : AllHere ns z.happened

  here-append : (xs ys : List Occurrence) → AllHere ns xs → AllHere ns ys → AllHere ns (xs ++ ys)
  here-append [] ys h k = k
  here-append (x ∷ xs) ys h k = (h.0, here-append xs ys h.1 k)

  -- a step
  calm-step : (y z : Calming) (s : Step) → IsPlainStep s → IsStepWithin ns s → IsCalmAlike y z → IsCalmAlike (calming_step y s) (calming_step z s)
  calm-step y z s p h a = record {
    world = step-alike ns y.world z.world s a.world (step-here ns s h);
    taken = a.taken;
    happened = ap (λ (es : List Occurrence). es ++ Steps s ∷ []) a.happened;
    confined = confined-step ns z.world s p h a.confined;
    within = within-append ns z.happened (Steps s ∷ []) a.within ((p, h), tt);
    here = here-append z.happened (Steps s ∷ []) a.here (step-here ns s h, tt);
  }

  -- ---- ticks

  calm-ticks : (c : CircuitId) (xs : List NodeId) (y z : Calming) → are_within ns xs ≡ true → IsCalmAlike y z → IsCalmAlike (ticks c y xs) (ticks c z xs)
  calm-ticks c [] y z h a = a
  calm-ticks c (x ∷ xs) y z h a =
      calm-ticks c xs (calming_step y (step.At x c event.Tick)) (calming_step z (step.At x c event.Tick)) (and_right (has_node ns x) (are_within ns xs) h)
      (calm-step y z (step.At x c event.Tick) tt (rw (and_left (has_node ns x) (are_within ns xs) h)) a)

  -- the same nodes are up and open
  open-same : (w v : World) (xs : List NodeId) → IsAlike ns w v → IsConfined ns v → open_nodes w xs ≡ open_nodes v xs
  open-same w v [] a c = refl
  open-same w v (x ∷ xs) a c =
      ap (λ (b : Bool). if b then x ∷ open_nodes w xs else open_nodes w xs) test
      ∙ ap (λ (ys : List NodeId). if v.up x && is_open_cell (v.at x) then x ∷ ys else ys) (open-same w v xs a c)
    where
      cells : w.at x ≡ v.at x
      cells = ap (λ (u : World). u.at x) a.is

      shut : has_node ns x ≡ false → is_open_cell (v.at x) ≡ false
      shut q = ap is_open_cell (within-empty ns x (v.at x) q (c.cells x))

      and_false : (b : Bool) → (b && false) ≡ false
      and_false true = refl
      and_false false = refl

      go : (has_node ns x ≡ true) ⊎ (has_node ns x ≡ false) → (w.up x && is_open_cell (w.at x)) ≡ (v.up x && is_open_cell (v.at x))
      go (inl q) = ap (λ (b : Bool). b && is_open_cell (w.at x)) (up-alike ns w v x a q) ∙ ap (λ (k : Cell). v.up x && is_open_cell k) cells
      go (inr q) =
          ap (λ (k : Cell). w.up x && is_open_cell k) cells
          ∙ (ap (λ (b : Bool). w.up x && b) (shut q) ∙ (and_false (w.up x) ∙ sym (ap (λ (b : Bool). v.up x && b) (shut q) ∙ and_false (v.up x))))

      test : (w.up x && is_open_cell (w.at x)) ≡ (v.up x && is_open_cell (v.at x))
      test = go (bool_cases (has_node ns x))

  -- and are among these nodes
  open-here : (v : World) (xs : List NodeId) → IsConfined ns v → are_within ns (open_nodes v xs) ≡ true
  open-here v [] c = refl
  open-here v (x ∷ xs) c = go (bool_cases (v.up x && is_open_cell (v.at x))) (open-here v xs c)
    where
      go : ((v.up x && is_open_cell (v.at x)) ≡ true) ⊎ ((v.up x && is_open_cell (v.at x)) ≡ false) → are_within ns (open_nodes v xs) ≡ true
          → are_within ns (open_nodes v (x ∷ xs)) ≡ true
      go (inl q) hyp = rw (q, open-within ns x (v.at x) (and_right (v.up x) (is_open_cell (v.at x)) q) (c.cells x)) hyp
      go (inr q) hyp = rw q hyp

  -- ---- deliveries

  calm-delivers : (c : CircuitId) (from to : NodeId) (k number : ℕ) (y z : Calming) → has_node ns to ≡ true → IsCalmAlike y z
      → IsCalmAlike (delivers c y from to number k) (delivers c z from to number k)
  calm-delivers c from to zero number y z h a = a
  calm-delivers c from to (suc k) number y z h a =
      calm-delivers c from to k (number + 1) (calming_step y (step.Deliver from to c number)) (calming_step z (step.Deliver from to c number)) h
      (calm-step y z (step.Deliver from to c number) tt (rw h) a)

  calm-takes : (from to : NodeId) (n : ℕ) (y z : Calming) → IsCalmAlike y z → IsCalmAlike (takes y from to n) (takes z from to n)
  calm-takes from to n y z a = record {
    world = a.world;
    taken = λ i j h. ap (λ (m : ℕ). if bytes_eq i from && bytes_eq j to then n else m) (a.taken i j h);
    happened = a.happened;
    confined = a.confined;
    within = a.within;
    here = a.here;
  }

  -- the turn of a pair, by how many messages there are, how many are taken, and whether the recipient is up
  abbrev pub turned : NodeId → Calming → NodeId → NodeId → ℕ → ℕ → Bool → Calming
  turned c z from to all taken up = if up then takes (delivers c z from to (taken + 1) (all - taken)) from to all else z

  messages-same : (w v : World) (from to : NodeId) → IsAlike ns w v → messages w from to ≡ messages v from to
  messages-same w v from to a = ap (λ (u : World). messages u from to) a.is

  calm-turned : (c : CircuitId) (from to : NodeId) (all taken : ℕ) (up : Bool) (y z : Calming) → has_node ns to ≡ true → IsCalmAlike y z
      → IsCalmAlike (turned c y from to all taken up) (turned c z from to all taken up)
  calm-turned c from to all taken true y z h a =
      calm-takes from to all (delivers c y from to (taken + 1) (all - taken)) (delivers c z from to (taken + 1) (all - taken))
      (calm-delivers c from to (all - taken) (taken + 1) y z h a)
  calm-turned c from to all taken false y z h a = a

  -- where no message was sent nothing is delivered
  record IsStill (to : NodeId) (z z2 : Calming) : Type 0 where
    pub world : z2.world ≡ z.world
    pub happened : z2.happened ≡ z.happened
    pub taken : (a b : NodeId) → b ≢ to → z2.taken a b ≡ z.taken a b

  still-turned : (c : CircuitId) (from to : NodeId) (taken : ℕ) (up : Bool) (z : Calming) → IsStill to z (turned c z from to 0 taken up)
  still-turned c from to taken false z = record { world = refl; happened = refl; taken = λ a b q. refl }
  still-turned c from to taken true z =
      subst (λ (k : ℕ). IsStill to z (takes (delivers c z from to (taken + 1) k) from to 0)) (sym none)
      (record {
        world = refl;
        happened = refl;
        taken = λ a b q. if_holds (λ (m : ℕ). m ≡ z.taken a b) (bytes_eq a from && bytes_eq b to) 0 (z.taken a b)
            (λ x. absurd (q (node_is b to (and_right (bytes_eq a from) (bytes_eq b to) x)))) (λ x. refl);
      })
    where
      none : (0 - taken) ≡ zero
      none = omega arith

  still-turn : (c : CircuitId) (from to : NodeId) (z : Calming) → messages z.world from to ≡ [] → IsStill to z (pair_turn c z from to)
  still-turn c from to z e =
      subst (λ (ms : List Message). IsStill to z (turned c z from to (length ms) (z.taken from to) (z.world.up to))) (sym e)
      (still-turned c from to (z.taken from to) (z.world.up to) z)

  calm-pair : (c : CircuitId) (from to : NodeId) (y z : Calming) → IsCalmAlike y z → IsCalmAlike (pair_turn c y from to) (pair_turn c z from to)
  calm-pair c from to y z a = go (bool_cases (has_node ns to))
    where
      same : messages y.world from to ≡ messages z.world from to
      same = messages-same y.world z.world from to a.world

      aside : has_node ns to ≡ false → IsStill to y (pair_turn c y from to) → IsStill to z (pair_turn c z from to)
          → IsCalmAlike (pair_turn c y from to) (pair_turn c z from to)
      aside q u v = record {
        world = subst (λ (x : World). IsAlike ns x (pair_turn c z from to).world) (sym u.world)
            (subst (λ (x : World). IsAlike ns y.world x) (sym v.world) a.world);
        taken = λ i j h. let d : j ≢ to = (λ e. let x : has_node ns to ≡ true = subst (λ (w : NodeId). has_node ns w ≡ true) e h in cc) in
            u.taken i j d ∙ (a.taken i j h ∙ sym (v.taken i j d));
        happened = u.happened ∙ (a.happened ∙ sym v.happened);
        confined = subst (λ (x : World). IsConfined ns x) (sym v.world) a.confined;
        within = subst (λ (es : List Occurrence). AllWithin ns es) (sym v.happened) a.within;
        here = subst (λ (es : List Occurrence). AllHere ns es) (sym v.happened) a.here;
      }

      go : (has_node ns to ≡ true) ⊎ (has_node ns to ≡ false) → IsCalmAlike (pair_turn c y from to) (pair_turn c z from to)
      go (inl q) =
          subst (λ (ms : List Message). IsCalmAlike (turned c y from to (length ms) (y.taken from to) (y.world.up to)) (pair_turn c z from to)) (sym same)
          (subst (λ (n : ℕ). IsCalmAlike (turned c y from to (length (messages z.world from to)) n (y.world.up to)) (pair_turn c z from to))
          (sym (a.taken from to q))
          (subst (λ (b : Bool). IsCalmAlike (turned c y from to (length (messages z.world from to)) (z.taken from to) b) (pair_turn c z from to))
          (sym (up-alike ns y.world z.world to a.world q))
          (calm-turned c from to (length (messages z.world from to)) (z.taken from to) (z.world.up to) y z q a)))
      go (inr q) =
          let none : messages z.world from to ≡ [] = messages-none ns z.world from to a.confined q in
          aside q (still-turn c from to y (same ∙ none)) (still-turn c from to z none)

  -- ---- passes

  calm-to_all : (c : CircuitId) (from : NodeId) (xs : List NodeId) (y z : Calming) → IsCalmAlike y z → IsCalmAlike (to_all c y from xs) (to_all c z from xs)
  calm-to_all c from [] y z a = a
  calm-to_all c from (x ∷ xs) y z a = calm-to_all c from xs (pair_turn c y from x) (pair_turn c z from x) (calm-pair c from x y z a)

  calm-from_all : (c : CircuitId) (all xs : List NodeId) (y z : Calming) → IsCalmAlike y z → IsCalmAlike (from_all c y all xs) (from_all c z all xs)
  calm-from_all c all [] y z a = a
  calm-from_all c all (x ∷ xs) y z a = calm-from_all c all xs (to_all c y x all) (to_all c z x all) (calm-to_all c x all y z a)

  calm-pass : (c : CircuitId) (xs : List NodeId) (y z : Calming) → IsCalmAlike y z → IsCalmAlike (pass c xs y) (pass c xs z)
  calm-pass c xs y z a = calm-from_all c xs xs (ticks c y (open_nodes y.world xs)) (ticks c z (open_nodes z.world xs))
      (subst (λ (os : List NodeId). IsCalmAlike (ticks c y os) (ticks c z (open_nodes z.world xs))) (sym (open-same y.world z.world xs a.world a.confined))
      (calm-ticks c (open_nodes z.world xs) y z (open-here z.world xs a.confined) a))

  calm-passes : (c : CircuitId) (xs : List NodeId) (k : ℕ) (y z : Calming) → IsCalmAlike y z → IsCalmAlike (passes c xs k y) (passes c xs k z)
  calm-passes c xs zero y z a = a
  calm-passes c xs (suc k) y z a = calm-passes c xs k (pass c xs y) (pass c xs z) (calm-pass c xs y z a)

  pub calm-alike : (c : CircuitId) (w v : World) (k : ℕ) → IsAlike ns w v → IsConfined ns v → IsCalmAlike (calm c w k) (calm c v k)
  calm-alike c w v k a i =
      subst (λ (xs : List NodeId). IsCalmAlike (passes c (sorted xs) k (calming w)) (calm c v k)) (sym (ap (λ (u : World). u.nodes) a.is))
      (calm-passes c (sorted v.nodes) k (calming w) (calming v) (record {
        world = a;
        taken = λ x y h. ap (λ (ms : List Message). length ms) (messages-same w v x y a);
        happened = refl;
        confined = i;
        within = tt;
        here = tt;
      }))
