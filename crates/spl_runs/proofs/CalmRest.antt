-- What happens in a calm after what happened so far, and what that carries.
use Rattle.std.proofs.{Common.append-nil, Math.Nat.mul_comm}
use Rattle.spl_circuit_world.{specs.{Calm.pass, Quiet.{IsQuiet, ticks_at}}, proofs.Quiet.{quiet-count, quiet-happened, quiet-stays, quiet-worlds}}
use Rattle.spl_world.specs.{Cursor.{Cursor, IsDone, IsLast, IsOver, cursor_of, calm_ended, turns_from}, Links.{carried_at, carried_in}}
use Rattle.spl_world.{specs.declared.calm.Calm.Calm, proofs.Common.{◌≡◌, inl, inr, ℕ, zero, suc, ◌+◌, ◌-◌, ◌*◌, false, List, [], ◌∷◌, ◌++◌, append_assoc}}
use Rattle.spl_world.proofs.Common.{length, length-append, drop, refl, sym, ap, subst, ◌∙◌, arith, drop_all, if_holds, NodeId, CircuitId, Calming}
use Rattle.spl_world.proofs.Common.{calming_step, open_nodes, ticks, delivers, pair_turn, to_all, from_all, passes, Occurrence, Steps, CircuitWorld}
use Rattle.spl_world.proofs.{Common.{circuit_happens, messages, occur, Carried, Step}, Cursor.no_ticks}
use Rattle.spl_sched.specs.declared.line.Step.TheVariants as step
use Rattle.spl_wire.specs.declared.event.Event.TheVariants as event

-- ---- more happened

pub record Adds (z y : Calming) : Type 0 where
  pub rest : List Occurrence
  pub happened : y.happened ≡ z.happened ++ rest

adds_none : (z : Calming) → Adds z z
adds_none z = record { rest = []; happened = sym (append-nil z.happened) }

adds_then : (x y z : Calming) → Adds x y → Adds y z → Adds x z
adds_then x y z f g =
    record { rest = f.rest ++ g.rest; happened = g.happened ∙ ap (λ (es : List Occurrence). es ++ g.rest) f.happened ∙ append_assoc x.happened f.rest g.rest }

adds_step : (z : Calming) (s : Step) → Adds z (calming_step z s)
adds_step z s = record { rest = Steps s ∷ []; happened = refl }

module _ (c : CircuitId) where
  adds_ticks : (z : Calming) (ns : List NodeId) → Adds z (ticks c z ns)
  adds_ticks z [] = adds_none z
  adds_ticks z (n ∷ ns) =
      let y : Calming = calming_step z (step.At n c event.Tick) in adds_then z y (ticks c y ns) (adds_step z (step.At n c event.Tick)) (adds_ticks y ns)

  adds_delivers : (z : Calming) (a b : NodeId) (number k : ℕ) → Adds z (delivers c z a b number k)
  adds_delivers z a b number zero = adds_none z
  adds_delivers z a b number (suc k) =
      let y : Calming = calming_step z (step.Deliver a b c number) in
      adds_then z y (delivers c y a b (number + 1) k) (adds_step z (step.Deliver a b c number)) (adds_delivers y a b (number + 1) k)

  adds_turn : (z : Calming) (a b : NodeId) → Adds z (pair_turn c z a b)
  adds_turn z a b = if_holds (Adds z) (z.world.up b) _ _
      (λ q. let all = adds_delivers z a b (z.taken a b + 1) (length (messages z.world a b) - z.taken a b) in
      record { rest = all.rest; happened = all.happened })
      (λ q. adds_none z)

  adds_to_all : (z : Calming) (a : NodeId) (ns : List NodeId) → Adds z (to_all c z a ns)
  adds_to_all z a [] = adds_none z
  adds_to_all z a (n ∷ ns) = adds_then z (pair_turn c z a n) (to_all c z a (n ∷ ns)) (adds_turn z a n) (adds_to_all (pair_turn c z a n) a ns)

  adds_from_all : (z : Calming) (all ns : List NodeId) → Adds z (from_all c z all ns)
  adds_from_all z all [] = adds_none z
  adds_from_all z all (n ∷ ns) = adds_then z (to_all c z n all) (from_all c z all (n ∷ ns)) (adds_to_all z n all) (adds_from_all (to_all c z n all) all ns)

  adds_turns : (z : Calming) (all ns bs : List NodeId) → Adds z (turns_from c z all ns bs)
  adds_turns z all [] bs = adds_none z
  adds_turns z all (n ∷ ns) bs = adds_then z (to_all c z n bs) (turns_from c z all (n ∷ ns) bs) (adds_to_all z n bs) (adds_from_all (to_all c z n bs) all ns)

  adds_passes : (ns : List NodeId) (k : ℕ) (z : Calming) → Adds z (passes c ns k z)
  adds_passes ns zero z = adds_none z
  adds_passes ns (suc k) z =
      let ticked : Calming = ticks c z (open_nodes z.world ns) in
      let one : Adds z (pass c ns z) = adds_then z ticked (pass c ns z) (adds_ticks z (open_nodes z.world ns)) (adds_from_all ticked ns ns) in
      adds_then z (pass c ns z) (passes c ns (suc k) z) one (adds_passes ns k (pass c ns z))

-- what is left of a calm happens after what happened so far
pub adds_ended : (k : Cursor) (z : Calming) → Adds z (calm_ended k z)
adds_ended k z =
    let ticked : Calming = ticks k.circuit z (open_nodes z.world k.ticking) in
    let turned : Calming = turns_from k.circuit ticked k.nodes k.senders k.recipients in
    adds_then z ticked (calm_ended k z) (adds_ticks k.circuit z (open_nodes z.world k.ticking))
    (adds_then ticked turned (calm_ended k z) (adds_turns k.circuit ticked k.nodes k.senders k.recipients) (adds_passes k.circuit k.nodes k.later turned))

-- ---- what is carried

pub carried_append : (place : NodeId → ℕ) (w : CircuitWorld) (xs ys : List Occurrence)
    → carried_in place w (xs ++ ys) ≡ carried_in place w xs ++ carried_in place (occur w xs) ys
carried_append place w [] ys = refl
carried_append place w (e ∷ es) ys =
    ap (λ (l : List Carried). carried_at place w e ++ l) (carried_append place (circuit_happens w e) es ys)
    ∙ sym (append_assoc (carried_at place w e) (carried_in place (circuit_happens w e) es) (carried_in place (occur (circuit_happens w e) es) ys))

-- these carry nothing in any world
abbrev pub CarryNone : List Occurrence → Type 0
CarryNone es = (place : NodeId → ℕ) (w : CircuitWorld) → carried_in place w es ≡ []

none_append : (xs ys : List Occurrence) → CarryNone xs → CarryNone ys → CarryNone (xs ++ ys)
none_append xs ys h k =
    λ place w. carried_append place w xs ys ∙ ap (λ (l : List Carried). l ++ carried_in place (occur w xs) ys) (h place w) ∙ k place (occur w xs)

none_ticks : (c : CircuitId) (ns : List NodeId) → CarryNone (ticks_at c ns)
none_ticks c [] = λ place w. refl
none_ticks c (n ∷ ns) = λ place w. none_ticks c ns place (circuit_happens w (Steps (step.At n c event.Tick)))

-- ---- where nothing is left to do

-- what happens then moves no world and carries nothing
pub record IsLeft (z y : Calming) (count : ℕ) : Type 0 where
  pub rest : List Occurrence
  pub happened : y.happened ≡ z.happened ++ rest
  pub counted : length rest ≡ count
  pub world : y.world ≡ z.world
  pub none : CarryNone rest

quiet_carries : (c : CircuitId) (ids : List NodeId) (k : ℕ) (z : Calming) → IsQuiet c ids z
    → (rest : List Occurrence) × ((passes c ids k z).happened ≡ z.happened ++ rest) × CarryNone rest
quiet_carries c ids zero z q = ([], sym (append-nil z.happened), λ place w. refl)
quiet_carries c ids (suc k) z q =
    let one : List Occurrence = ticks_at c (open_nodes z.world ids) in
    let more = quiet_carries c ids k (pass c ids z) (quiet-stays c ids z q) in (
      one ++ more.0,
      more.1 ∙ ap (λ (es : List Occurrence). es ++ more.0) (quiet-happened c ids z q) ∙ append_assoc z.happened one more.0,
      none_append one more.0 (none_ticks c (open_nodes z.world ids)) more.2,
    )

quiet_left : (c : CircuitId) (ids : List NodeId) (k : ℕ) (z : Calming) → IsQuiet c ids z → IsLeft z (passes c ids k z) (k * length (open_nodes z.world ids))
quiet_left c ids k z q =
    let r = quiet_carries c ids k z q in
    let all : length (passes c ids k z).happened ≡ length z.happened + length r.0 = ap length r.1 ∙ length-append z.happened r.0 in
    record { rest = r.0; happened = r.1; counted = omega (arith, all, quiet-count c ids k z q); world = quiet-worlds c ids k z q; none = r.2 }

-- a calm of which all turns are over has the passes that come later left
over_is : (ids : List NodeId) (k : Calm) (z : Calming) → IsOver (length ids) k → calm_ended (cursor_of ids k) z ≡ passes k.circuit ids k.later z
over_is ids k z o = ap (λ (y : Calming). passes k.circuit ids k.later y)
    (ap (λ (y : Calming). turns_from k.circuit y ids (drop k.from ids) (drop k.to ids)) (no_ticks k.circuit z ids k.slot o.slot)
    ∙ ap (λ (ns : List NodeId). turns_from k.circuit z ids ns (drop k.to ids)) (drop_all k.from ids o.from))

-- so many ticks as it counted in each, and these are all that is left
pub ends_with : (ids : List NodeId) (k : Calm) (z : Calming) → IsOver (length ids) k → IsLast k → (k.moved ≡ false → IsDone ids k z)
    → IsLeft z (calm_ended (cursor_of ids k) z) (k.ticks * k.later)
ends_with ids k z o last done = subst (λ (y : Calming). IsLeft z y (k.ticks * k.later)) (sym (over_is ids k z o)) (go last)
  where
    go : IsLast k → IsLeft z (passes k.circuit ids k.later z) (k.ticks * k.later)
    go (inl none) = subst (λ (n : ℕ). IsLeft z (passes k.circuit ids n z) (k.ticks * n)) (sym none)
        (record { rest = []; happened = sym (append-nil z.happened); counted = omega arith; world = refl; none = λ place w. refl })
    go (inr quiet) =
        let d = done quiet.0 in
        let each : k.later * length (open_nodes z.world ids) ≡ k.ticks * k.later = ap (λ (n : ℕ). k.later * n) (sym d.count) ∙ mul_comm k.later k.ticks in
        subst (λ (n : ℕ). IsLeft z (passes k.circuit ids k.later z) n) each (quiet_left k.circuit ids k.later z d.quiet)
