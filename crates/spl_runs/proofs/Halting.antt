-- Lines that stop a node, and errors of a limit.
use Rattle.spl_circuit_world.specs.{Worlds.World, declared.TheConstants.MOST_STOPS}
use Rattle.spl_trace.specs.Heard.{heard_of}
use Rattle.spl_world.specs.{Counts.is_of_limit, Disks.is_of_journal, Held.stops, Links.{DeliversMessages, LinkView, is_of_links, line_carried}}
use Rattle.spl_world.{specs.declared.fault.WorldFault.WorldFault, proofs.Common.{◌≡◌, ◌≤◌, ℕ, true, false, List, [], ◌∷◌, ◌++◌, Result, Ok, Err, OnOk, refl}}
use Rattle.spl_world.proofs.Common.{sym, subst, arith, IfErr, IsErrOf, CircuitId, NodeId, PairView, Fill, stops_of, by_rule, Ran, Line, Step}
use Rattle.spl_world.proofs.{Linking.{IsIdle, IsOff, delivers_as, delivers_nothing}, Standing.{none_counted, stops_after}}
use Rattle.spl_world.specs.declared.fault.WorldFault.TheVariants as error
use Rattle.spl_node.specs.Benches.{AllUnarmed}
use Rattle.spl_sched.specs.declared.line.Line.TheVariants as line

-- a line that stops no node leaves the stops within their limit
pub stays_within : (before : List Ran) (l : Line) → stops l ≡ false → stops_of before ≤ MOST_STOPS → stops_of (before ++ by_rule l ∷ []) ≤ MOST_STOPS
stays_within before l other few =
    omega (arith, none_counted l other, stops_after before (by_rule l), few)

stops_each : (P : Line → Type 0) → ((n : NodeId) → P (line.Stop n)) → ((calls : ℕ) (fill : Fill) (s : Step) → P (line.Cut calls fill s))
    → ((call : ℕ) (s : Step) → P (line.Fail call s)) → (l : Line) → stops l ≡ true → P l
stops_each P stop cut fail (line.Stop n) h = stop n
stops_each P stop cut fail (line.Cut calls fill s) h = cut calls fill s
stops_each P stop cut fail (line.Fail call s) h = fail call s
stops_each P stop cut fail _ h = absurd cc

carries_none : (place : NodeId → ℕ) (worlds : CircuitId → World) (l : Line) → stops l ≡ true → line_carried place worlds l ≡ []
carries_none place worlds = stops_each (λ l. line_carried place worlds l ≡ []) (λ n. refl) (λ calls fill s. refl) (λ call s. refl)

-- nothing is heard of a line that stops a node
pub heard_none : (worlds : CircuitId → World) (l : Line) → stops l ≡ true → heard_of worlds l ≡ []
heard_none worlds = stops_each (λ l. heard_of worlds l ≡ []) (λ n. refl) (λ calls fill s. refl) (λ call s. refl)

-- and nothing is delivered
pub delivers_stop : {A : Type 0} (q : Result A WorldFault) (place : NodeId → ℕ) (worlds : CircuitId → World) (l : Line) (x : LinkView) → stops l ≡ true
    → IsIdle x → IsOff q → DeliversMessages q (line_carried place worlds l) x x
delivers_stop q place worlds l x stop idle off =
    delivers_as q [] (line_carried place worlds l) x x (sym (carries_none place worlds l stop)) (delivers_nothing q x idle off)

-- an error of a limit
pub of_limit : (e : WorldFault) → is_of_limit e ≡ true → (which : ℕ) × (e ≡ error.TooMany which)
of_limit (error.TooMany which) h = (which, refl)
of_limit _ h = absurd cc

module _ {A : Type 0} where
  -- none is armed but where memory ran out
  pub halt_unarmed : (old new : List PairView) (f : Result A WorldFault) → IsOff f → IfErr f (λ e. is_of_journal e ≡ false)
      → ((k : ℕ) → IsErrOf f (error.Disk k) → ⊥) → ((which : ℕ) → IsErrOf f (error.TooMany which) → new ≡ old)
      → (AllUnarmed old → OnOk f (AllUnarmed new)) → AllUnarmed old → (IsErrOf f error.NoMemory → ⊥) → AllUnarmed new
  halt_unarmed old new (Ok a) off sound disk kept unarmed was room = unarmed was
  halt_unarmed old new (Err (error.TooMany which)) off sound disk kept unarmed was room = subst AllUnarmed (sym (kept which refl)) was
  halt_unarmed old new (Err error.NoMemory) off sound disk kept unarmed was room = absurd (room refl)
  halt_unarmed old new (Err (error.Disk k)) off sound disk kept unarmed was room = absurd (disk k refl)
  halt_unarmed old new (Err _) off sound disk kept unarmed was room = absurd cc

  pub limit_off : (q : Result A WorldFault) → IfErr q (λ e. is_of_limit e ≡ true) → IsOff q
  limit_off (Ok a) only = tt
  limit_off (Err e) only = (let f = of_limit e only in subst (λ (d : WorldFault). is_of_links d ≡ false) (sym f.1) refl)

  pub limit_only : (q : Result A WorldFault) → IfErr q (λ e. is_of_limit e ≡ true) → (e : WorldFault) → is_of_limit e ≡ false → IsErrOf q e → ⊥
  limit_only (Ok a) only e other is = cc
  limit_only (Err f) only e other is =
      (let same : f ≡ e = cc in let h : is_of_limit e ≡ true = subst (λ (d : WorldFault). is_of_limit d ≡ true) same only in cc)
