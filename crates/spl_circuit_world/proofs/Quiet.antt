-- A calm in which nothing is left to do stays so, and a pass without deliveries finds it so.
use Rattle.std.{specs.{Prelude.if◌then◌else◌, List.AllByRecursion, Str.bytes_eq}, proofs.Common.{◌≡◌, ℕ, zero, suc, ◌+◌, ◌-◌, ◌*◌, ◌≤◌, ◌⊎◌, inl, inr, Bool}}
use Rattle.std.proofs.Common.{true, false, ◌&&◌, List, [], ◌∷◌, ◌++◌, append-nil, append_assoc, length, length-append, refl, sym, ap, subst, ◌∙◌, arith}
use Rattle.spl_agree.proofs.Tests.{if_holds, bool_cases, and_left, and_right}
use Rattle.spl_circuit.specs.{Nodes.{NodeId, CircuitId}, Same.node_is}
use Rattle.spl_wire.specs.declared.plan.Plan.{Plan}
use Rattle.spl_wire.specs.declared.event.Event.TheVariants as event
use Rattle.spl_sched.specs.declared.line.Step.TheVariants as step
use Rattle.spl_cell_rules.{specs.{Idle.is_idle, Plans.tells_only, Cells.site_at}, proofs.Idle.idle-tick}
use Rattle.spl_circuit_world.specs.{Worlds.{World, Occurrence, Steps, messages, step_plan, step_world, circuit_carried_out}, Calm.{Calming, calming_step}}
use Rattle.spl_circuit_world.specs.{Calm.{open_nodes, ticks, delivers, takes, pair_turn, to_all, from_all, pass, passes}, Quiet.{IsIdleAt, IsTaken, AllTaken}}
use Rattle.spl_circuit_world.{specs.Quiet.{IsQuiet, ticks_at}, proofs.Unmoved.{unmoved-tells, unmoved-is}}

-- ---- an idle tick leaves the world as it is

idle-step : (c : CircuitId) (w : World) (n : NodeId) → IsIdleAt c w n → step_world w (step.At n c event.Tick) ≡ w
idle-step c w n i = ap (circuit_carried_out w n) (alone i) ∙ unmoved-is w _ (unmoved-tells w n (step_plan w (step.At n c event.Tick)).answer)
  where
    AloneIfIdle : Plan → Type 0
    AloneIfIdle p = is_idle p.answer ≡ true → p ≡ tells_only p.answer

    alone : AloneIfIdle (step_plan w (step.At n c event.Tick))
    alone = if_holds AloneIfIdle (w.up n) _ _ (λ q. idle-tick (site_at n c) (w.at n)) (λ q j. refl)

-- ---- nothing happened between two states of a calm, and what waits is the same
pub record IsStill (z y : Calming) : Type 0 where
  pub world : y.world ≡ z.world
  pub happened : y.happened ≡ z.happened
  pub on : (a b : NodeId) → IsTaken z a b → IsTaken y a b
  pub back : (a b : NodeId) → IsTaken y a b → IsTaken z a b

still-same : (z : Calming) → IsStill z z
still-same z = record { world = refl; happened = refl; on = λ a b h. h; back = λ a b h. h }

still-then : (x y z : Calming) → IsStill x y → IsStill y z → IsStill x z
still-then x y z s t = record {
  world = t.world ∙ s.world;
  happened = t.happened ∙ s.happened;
  on = λ a b h. t.on a b (s.on a b h);
  back = λ a b h. s.back a b (t.back a b h);
}

all-on : {A : Type 0} (P Q : A → Type 0) (xs : List A) → ((x : A) → P x → Q x) → AllByRecursion P xs → AllByRecursion Q xs
all-on P Q [] f h = tt
all-on P Q (x ∷ xs) f h = (f x h.0, all-on P Q xs f h.1)

module _ (c : CircuitId) where
  -- ---- how many events there were

  delivers-length : (z : Calming) (a b : NodeId) (first k : ℕ) → length (delivers c z a b first k).happened ≡ length z.happened + k
  delivers-length z a b first zero = omega arith
  delivers-length z a b first (suc k) =
      let rest : length (delivers c z a b first (suc k)).happened ≡ length (z.happened ++ Steps (step.Deliver a b c first) ∷ []) + k =
      delivers-length (calming_step z (step.Deliver a b c first)) a b (first + 1) k in
      omega (arith, rest, length-append z.happened (Steps (step.Deliver a b c first) ∷ []))

  pub turn-length : (z : Calming) (a b : NodeId)
      → length (pair_turn c z a b).happened ≡ length z.happened + (if z.world.up b then length (messages z.world a b) - z.taken a b else 0)
  turn-length z a b = go (bool_cases (z.world.up b))
    where
      go : (z.world.up b ≡ true) ⊎ (z.world.up b ≡ false)
          → length (pair_turn c z a b).happened ≡ length z.happened + (if z.world.up b then length (messages z.world a b) - z.taken a b else 0)
      go (inl q) = rw q (delivers-length z a b (z.taken a b + 1) (length (messages z.world a b) - z.taken a b))
      go (inr q) = rw q (omega arith)

  turn-grows : (z : Calming) (a b : NodeId) → length z.happened ≤ length (pair_turn c z a b).happened
  turn-grows z a b = omega (arith, turn-length z a b)

  pub to_all-grows : (z : Calming) (a : NodeId) (ns : List NodeId) → length z.happened ≤ length (to_all c z a ns).happened
  to_all-grows z a [] = omega arith
  to_all-grows z a (n ∷ ns) = omega (arith, turn-grows z a n, to_all-grows (pair_turn c z a n) a ns)

  pub from_all-grows : (z : Calming) (all ns : List NodeId) → length z.happened ≤ length (from_all c z all ns).happened
  from_all-grows z all [] = omega arith
  from_all-grows z all (n ∷ ns) = omega (arith, to_all-grows z n all, from_all-grows (to_all c z n all) all ns)

  -- ---- a pair on which nothing waits

  nothing : (m n : ℕ) → m ≤ n → m - n ≡ 0
  nothing m n h = omega (arith, h)

  -- its turn takes nothing: it only counts again
  counted : (z : Calming) (a b : NodeId) → length (messages z.world a b) ≤ z.taken a b → IsStill z (takes z a b (length (messages z.world a b)))
  counted z a b h = record { world = refl; happened = refl; on = on; back = back }
    where
      on : (x y : NodeId) → IsTaken z x y → IsTaken (takes z a b (length (messages z.world a b))) x y
      on x y k up = if_holds (λ (n : ℕ). length (messages z.world x y) ≤ n) (bytes_eq x a && bytes_eq y b) _ _
          (λ q. same (node_is x a (and_left (bytes_eq x a) (bytes_eq y b) q)) (node_is y b (and_right (bytes_eq x a) (bytes_eq y b) q))) (λ q. k up)
        where
          same : x ≡ a → y ≡ b → length (messages z.world x y) ≤ length (messages z.world a b)
          same p r = subst (λ (m : NodeId). length (messages z.world m y) ≤ length (messages z.world a b)) (sym p)
              (subst (λ (m : NodeId). length (messages z.world a m) ≤ length (messages z.world a b)) (sym r) (omega arith))

      back : (x y : NodeId) → IsTaken (takes z a b (length (messages z.world a b))) x y → IsTaken z x y
      back x y k up = go (bool_cases (bytes_eq x a && bytes_eq y b))
        where
          other : (bytes_eq x a && bytes_eq y b) ≡ false
              → length (messages z.world x y) ≤ (if bytes_eq x a && bytes_eq y b then length (messages z.world a b) else z.taken x y)
              → length (messages z.world x y) ≤ z.taken x y
          other q m = rw q at m

          go : ((bytes_eq x a && bytes_eq y b) ≡ true) ⊎ ((bytes_eq x a && bytes_eq y b) ≡ false) → length (messages z.world x y) ≤ z.taken x y
          go (inl q) =
              subst (λ (m : NodeId). length (messages z.world m y) ≤ z.taken m y) (sym (node_is x a (and_left (bytes_eq x a) (bytes_eq y b) q)))
              (subst (λ (m : NodeId). length (messages z.world a m) ≤ z.taken a m) (sym (node_is y b (and_right (bytes_eq x a) (bytes_eq y b) q))) h)
          go (inr q) = other q (k up)

  turn-still : (z : Calming) (a b : NodeId) → IsTaken z a b → IsStill z (pair_turn c z a b)
  turn-still z a b h = if_holds (IsStill z) (z.world.up b) _ _
      (λ q. subst (λ (k : ℕ). IsStill z (takes (delivers c z a b (z.taken a b + 1) k) a b (length (messages z.world a b))))
      (sym (nothing (length (messages z.world a b)) (z.taken a b) (h q))) (counted z a b (h q)))
      (λ q. still-same z)

  to_all-still : (z : Calming) (a : NodeId) (ns : List NodeId) → AllByRecursion (IsTaken z a) ns → IsStill z (to_all c z a ns)
  to_all-still z a [] h = still-same z
  to_all-still z a (n ∷ ns) h =
      let s : IsStill z (pair_turn c z a n) = turn-still z a n h.0 in
      still-then z (pair_turn c z a n) (to_all c z a (n ∷ ns)) s
      (to_all-still (pair_turn c z a n) a ns (all-on (IsTaken z a) (IsTaken (pair_turn c z a n) a) ns (s.on a) h.1))

  from_all-still : (z : Calming) (all ns : List NodeId) → AllByRecursion (λ a. AllByRecursion (IsTaken z a) all) ns → IsStill z (from_all c z all ns)
  from_all-still z all [] h = still-same z
  from_all-still z all (n ∷ ns) h =
      let y : Calming = to_all c z n all in
      let s : IsStill z y = to_all-still z n all h.0 in
      still-then z y (from_all c z all (n ∷ ns)) s
      (from_all-still y all ns
      (all-on (λ a. AllByRecursion (IsTaken z a) all) (λ a. AllByRecursion (IsTaken y a) all) ns
      (λ a k. all-on (IsTaken z a) (IsTaken y a) all (s.on a) k) h.1))

  -- ---- where nothing was delivered, nothing waited

  turn-taken : (z : Calming) (a b : NodeId) → length (pair_turn c z a b).happened ≡ length z.happened → IsTaken z a b
  turn-taken z a b h up =
      let count : length (pair_turn c z a b).happened ≡ length z.happened + (length (messages z.world a b) - z.taken a b) =
      turn-length z a b ∙ ap (λ (u : Bool). length z.happened + (if u then length (messages z.world a b) - z.taken a b else 0)) up in
      omega (arith, h, count)

  to_all-taken : (z : Calming) (a : NodeId) (ns : List NodeId) → length (to_all c z a ns).happened ≡ length z.happened → AllByRecursion (IsTaken z a) ns
  to_all-taken z a [] h = tt
  to_all-taken z a (n ∷ ns) h =
      let y : Calming = pair_turn c z a n in
      let first : length y.happened ≡ length z.happened = omega (arith, h, turn-grows z a n, to_all-grows y a ns) in
      let rest : length (to_all c y a ns).happened ≡ length y.happened = omega (arith, h, first) in
      let taken : IsTaken z a n = turn-taken z a n first in
      (taken, all-on (IsTaken y a) (IsTaken z a) ns ((turn-still z a n taken).back a) (to_all-taken y a ns rest))

  from_all-taken : (z : Calming) (all ns : List NodeId) → length (from_all c z all ns).happened ≡ length z.happened
      → AllByRecursion (λ a. AllByRecursion (IsTaken z a) all) ns
  from_all-taken z all [] h = tt
  from_all-taken z all (n ∷ ns) h =
      let y : Calming = to_all c z n all in
      let first : length y.happened ≡ length z.happened = omega (arith, h, to_all-grows z n all, from_all-grows y all ns) in
      let rest : length (from_all c y all ns).happened ≡ length y.happened = omega (arith, h, first) in
      let taken : AllByRecursion (IsTaken z n) all = to_all-taken z n all first in (
        taken,
        all-on (λ a. AllByRecursion (IsTaken y a) all) (λ a. AllByRecursion (IsTaken z a) all) ns
            (λ a k. all-on (IsTaken y a) (IsTaken z a) all ((to_all-still z n all taken).back a) k) (from_all-taken y all ns rest),
      )

  -- ---- ticks

  -- idle ones leave all but what happened
  pub ticks-idle : (z : Calming) (ns : List NodeId) → AllByRecursion (IsIdleAt c z.world) ns
      → ticks c z ns ≡ record { world = z.world; taken = z.taken; happened = z.happened ++ ticks_at c ns }
  ticks-idle z [] h = ap (λ (es : List Occurrence). record { world = z.world; taken = z.taken; happened = es }) (sym (append-nil z.happened))
  ticks-idle z (n ∷ ns) h =
      let w : World = step_world z.world (step.At n c event.Tick) in
      let stays : w ≡ z.world = idle-step c z.world n h.0 in
      let so_far : List Occurrence = z.happened ++ Steps (step.At n c event.Tick) ∷ [] in
      ticks-idle (calming_step z (step.At n c event.Tick)) ns (subst (λ (v : World). AllByRecursion (IsIdleAt c v) ns) (sym stays) h.1)
      ∙ ap (λ (v : World). record { world = v; taken = z.taken; happened = so_far ++ ticks_at c ns }) stays
      ∙ ap (λ (es : List Occurrence). record { world = z.world; taken = z.taken; happened = es })
      (append_assoc z.happened (Steps (step.At n c event.Tick) ∷ []) (ticks_at c ns))

  pub ticks-length : (z : Calming) (ns : List NodeId) → length (ticks c z ns).happened ≡ length z.happened + length ns
  ticks-length z [] = omega arith
  ticks-length z (n ∷ ns) =
      omega (arith, ticks-length (calming_step z (step.At n c event.Tick)) ns, length-append z.happened (Steps (step.At n c event.Tick) ∷ []))

  -- ---- passes

  pub pass-grows : (ns : List NodeId) (z : Calming) → length z.happened ≤ length (pass c ns z).happened
  pass-grows ns z = omega (arith, ticks-length z (open_nodes z.world ns), from_all-grows (ticks c z (open_nodes z.world ns)) ns ns)

  pub passes-grow : (ns : List NodeId) (k : ℕ) (z : Calming) → length z.happened ≤ length (passes c ns k z).happened
  passes-grow ns zero z = omega arith
  passes-grow ns (suc k) z = omega (arith, pass-grows ns z, passes-grow ns k (pass c ns z))

  -- a pass with idle ticks and no delivery was quiet
  pub quiet-found : (ns : List NodeId) (z : Calming) → AllByRecursion (IsIdleAt c z.world) (open_nodes z.world ns)
      → length (pass c ns z).happened ≡ length (ticks c z (open_nodes z.world ns)).happened → IsQuiet c ns z
  quiet-found ns z idle same =
      record {
        idle = idle;
        taken = subst (λ (y : Calming). AllTaken ns y) (ticks-idle z (open_nodes z.world ns) idle)
            (from_all-taken (ticks c z (open_nodes z.world ns)) ns ns same);
      }

  record IsPassed (ns : List NodeId) (z y : Calming) : Type 0 where
    world : y.world ≡ z.world
    happened : y.happened ≡ z.happened ++ ticks_at c (open_nodes z.world ns)
    quiet : IsQuiet c ns y

  quiet-passed : (ns : List NodeId) (z : Calming) → IsQuiet c ns z → IsPassed ns z (pass c ns z)
  quiet-passed ns z q = subst (λ (x : Calming). IsPassed ns z (from_all c x ns ns)) (sym (ticks-idle z (open_nodes z.world ns) q.idle)) (record {
    world = s.world;
    happened = s.happened;
    quiet = record {
      idle = subst (λ (w : World). AllByRecursion (IsIdleAt c w) (open_nodes w ns)) (sym s.world) q.idle;
      taken = all-on (λ a. AllByRecursion (IsTaken ticked a) ns) (λ a. AllByRecursion (IsTaken (from_all c ticked ns ns) a) ns) ns
          (λ a k. all-on (IsTaken ticked a) (IsTaken (from_all c ticked ns ns) a) ns (s.on a) k) q.taken;
    };
  })
    where
      ticked : Calming
      ticked = record { world = z.world; taken = z.taken; happened = z.happened ++ ticks_at c (open_nodes z.world ns) }

      s : IsStill ticked (from_all c ticked ns ns)
      s = from_all-still ticked ns ns q.taken

  pub quiet-world : (ns : List NodeId) (z : Calming) → IsQuiet c ns z → (pass c ns z).world ≡ z.world
  quiet-world ns z q = (quiet-passed ns z q).world

  pub quiet-happened : (ns : List NodeId) (z : Calming) → IsQuiet c ns z → (pass c ns z).happened ≡ z.happened ++ ticks_at c (open_nodes z.world ns)
  quiet-happened ns z q = (quiet-passed ns z q).happened

  pub quiet-stays : (ns : List NodeId) (z : Calming) → IsQuiet c ns z → IsQuiet c ns (pass c ns z)
  quiet-stays ns z q = (quiet-passed ns z q).quiet

  -- any passes
  pub quiet-worlds : (ns : List NodeId) (k : ℕ) (z : Calming) → IsQuiet c ns z → (passes c ns k z).world ≡ z.world
  quiet-worlds ns zero z q = refl
  quiet-worlds ns (suc k) z q = quiet-worlds ns k (pass c ns z) (quiet-stays ns z q) ∙ quiet-world ns z q

  pub quiet-count : (ns : List NodeId) (k : ℕ) (z : Calming) → IsQuiet c ns z
      → length (passes c ns k z).happened ≡ length z.happened + k * length (open_nodes z.world ns)
  quiet-count ns zero z q = omega arith
  quiet-count ns (suc k) z q =
      let ready : List NodeId = open_nodes z.world ns in
      let rest : length (passes c ns k (pass c ns z)).happened ≡ length (pass c ns z).happened + k * length ready =
      subst (λ (w : World). length (passes c ns k (pass c ns z)).happened ≡ length (pass c ns z).happened + k * length (open_nodes w ns))
      (quiet-world ns z q) (quiet-count ns k (pass c ns z) (quiet-stays ns z q)) in
      let one : length (pass c ns z).happened ≡ length z.happened + length (ticks_at c ready) =
      ap length (quiet-happened ns z q) ∙ length-append z.happened (ticks_at c ready) in
      omega (arith, rest, one, ticks-count ready)
    where
      ticks-count : (ns : List NodeId) → length (ticks_at c ns) ≡ length ns
      ticks-count [] = refl
      ticks-count (n ∷ ns) = ap suc (ticks-count ns)
