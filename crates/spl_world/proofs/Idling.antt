-- A pass of a calm in which nothing is left to do.
use Rattle.std.specs.{List.AllByRecursion, Prelude.min}
use Rattle.spl_circuit_world.{specs.{Calm.pass, Quiet.{IsIdleAt, IsQuiet}}, proofs.Quiet.{quiet-found, quiet-stays, quiet-world, ticks-idle}}
use Rattle.spl_world.proofs.Common.{◌≡◌, ℕ, ◌+◌, ◌*◌, ◌≤◌, zero, suc, true, false, ◌&&◌, List, [], ◌∷◌, ◌++◌, append_assoc, length, length-append, drop, sym}
use Rattle.spl_world.proofs.Common.{ap, subst, ◌∙◌, arith, Bool, if◌then◌else◌, NodeId, CircuitId, Calming, from_all, open_nodes, ticks, CircuitWorld}
use Rattle.spl_world.proofs.Common.{is_open_cell}

-- ---- idle ticks so far

all_more : {A : Type 0} (P : A → Type 0) (xs : List A) (x : A) → AllByRecursion P xs → P x → AllByRecursion P (xs ++ x ∷ [])
all_more P [] x h p = (p, tt)
all_more P (y ∷ ys) x h p = (h.0, all_more P ys x h.1 p)

-- no tick so far moved the world
pub idle_world : (c : CircuitId) (start z : Calming) (ticked : List NodeId) → AllByRecursion (IsIdleAt c start.world) ticked → z ≡ ticks c start ticked → z.world ≡ start.world
idle_world c start z ticked idle now = ap (λ (y : Calming). y.world) (now ∙ ticks-idle c start ticked idle)

-- one more
pub open_more : (w v : CircuitWorld) (ids ticked : List NodeId) (slot i : ℕ) (n : NodeId) → v ≡ w
    → open_nodes w ids ≡ ticked ++ open_nodes w (drop slot ids) → open_nodes v (drop slot ids) ≡ n ∷ open_nodes v (drop (i + 1) ids)
    → open_nodes w ids ≡ (ticked ++ n ∷ []) ++ open_nodes w (drop (i + 1) ids)
open_more w v ids ticked slot i n same opened next =
    let one : open_nodes w (drop slot ids) ≡ n ∷ open_nodes w (drop (i + 1) ids) =
    subst (λ (u : CircuitWorld). open_nodes u (drop slot ids) ≡ n ∷ open_nodes u (drop (i + 1) ids)) same next in
    opened ∙ ap (λ (ns : List NodeId). ticked ++ ns) one ∙ sym (append_assoc ticked (n ∷ []) (open_nodes w (drop (i + 1) ids)))

pub idle_more : (c : CircuitId) (w v : CircuitWorld) (ticked : List NodeId) (n : NodeId) → v ≡ w → AllByRecursion (IsIdleAt c w) ticked → IsIdleAt c v n
    → AllByRecursion (IsIdleAt c w) (ticked ++ n ∷ [])
idle_more c w v ticked n same all one = all_more (IsIdleAt c w) ticked n all (subst (λ (u : CircuitWorld). IsIdleAt c u n) same one)

open_length : (w : CircuitWorld) (ns : List NodeId) → length (open_nodes w ns) ≤ length ns
open_length w [] = omega arith
open_length w (n ∷ ns) = go (w.up n && is_open_cell (w.at n)) (open_length w ns)
  where
    go : (b : Bool) → length (open_nodes w ns) ≤ length ns → length (if b then n ∷ open_nodes w ns else open_nodes w ns) ≤ suc (length ns)
    go true h = omega (arith, h)
    go false h = omega (arith, h)

-- they are no more than the nodes
pub few_ticked : (w : CircuitWorld) (ids ticked rest : List NodeId) → open_nodes w ids ≡ ticked ++ rest → length ticked ≤ length ids
few_ticked w ids ticked rest opened =
    let all : length (open_nodes w ids) ≡ length ticked + length rest = ap length opened ∙ length-append ticked rest in omega (arith, all, open_length w ids)

-- ---- after all turns

-- each node that has a tick had an idle one, and then no pair had anything
module _ (c : CircuitId) (ids : List NodeId) (start z there : Calming) (ticked : List NodeId) (opened : open_nodes start.world ids ≡ ticked)
    (idle : AllByRecursion (IsIdleAt c start.world) ticked) (now : z ≡ ticks c start ticked)
    (turns : there ≡ from_all c z ids ids) (still : there.happened ≡ z.happened) where
  passed : there ≡ pass c ids start
  passed = turns ∙ ap (λ (y : Calming). from_all c y ids ids) (now ∙ ap (λ (ns : List NodeId). ticks c start ns) (sym opened))

  same : length (pass c ids start).happened ≡ length (ticks c start (open_nodes start.world ids)).happened
  same =
      ap (λ (y : Calming). length y.happened) (sym passed)
      ∙ ap length still
      ∙ ap (λ (y : Calming). length y.happened) (now ∙ ap (λ (ns : List NodeId). ticks c start ns) (sym opened))

  began : IsQuiet c ids start
  began = quiet-found c ids start (subst (AllByRecursion (IsIdleAt c start.world)) (sym opened) idle) same

  pub quiet_then : IsQuiet c ids there
  quiet_then = subst (IsQuiet c ids) (sym passed) (quiet-stays c ids start began)

  pub count_then : length ticked ≡ length (open_nodes there.world ids)
  count_then = ap length (sym opened) ∙ ap (λ (w : CircuitWorld). length (open_nodes w ids)) (sym (ap (λ (y : Calming). y.world) passed ∙ quiet-world c ids start began))

-- ---- the ticks of the passes that come later

pub left_exact : (t l : ℕ) → min t 32769 * l ≤ 32768 → min t 32769 * l ≡ t * l
left_exact t zero h = omega arith
left_exact t (suc l) h = let more : min t 32769 ≤ min t 32769 * suc l = grows (min t 32769) l in let same : min t 32769 ≡ t = omega (arith, more, h) in ap (λ (n : ℕ). n * suc l) same
  where
    grows : (m l : ℕ) → m ≤ m * suc l
    grows m l = omega arith

pub left_most : (t l : ℕ) → min t 32769 * l ≤ t * l
left_most t zero = omega arith
left_most t (suc l) = omega (arith, left_most t l)
