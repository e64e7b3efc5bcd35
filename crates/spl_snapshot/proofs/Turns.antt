-- Calls of one disk, and then of the other.
use Rattle.std.proofs.Common.{◌≡◌, ⊎_elim, ℕ, ◌≤◌, List, true, false, Option, sym, subst, arith}
use Rattle.spl_edge.specs.Devices.{Image, MayLeave}
use Rattle.spl_snapshot.specs.Counting.{IfBoth, PairLeavesBetween, PairLeavesBetweenInTurn}

module _ (at other next : ℕ → Option Image) (from to start end : ℕ) (P : List ℕ → List ℕ → Type 0) (later : start ≤ end)
    (past : ((t : ℕ) → t ≤ start → next t ≡ other t)) where
  abbrev Safe : Option Image → Option Image → Type 0
  Safe x y = IfBoth x y (λ i j. (c d : List ℕ) → MayLeave i c → MayLeave j d → P c d)

  pub first_then : PairLeavesBetween at from to other start start P → PairLeavesBetween at to to next start end P
      → PairLeavesBetweenInTurn false at from to next start end P
  first_then before after k l low high low2 high2 = ⊎_elim
      (λ (is : l ≡ start). subst (λ (n : ℕ). Safe (at k) (next n)) (sym is)
      (subst (λ (y : Option Image). Safe (at k) y) (sym (past start (omega arith))) (before k start low high (omega arith) (omega arith))))
      (λ (is : k ≡ to). subst (λ (n : ℕ). Safe (at n) (next l)) (sym is) (after to l (omega arith) (omega arith) low2 high2))

  pub second_then : PairLeavesBetween other start start at from to P → PairLeavesBetween next start end at to to P
      → PairLeavesBetweenInTurn true next start end at from to P
  second_then before after k l low high low2 high2 = ⊎_elim
      (λ (is : k ≡ start). subst (λ (n : ℕ). Safe (next n) (at l)) (sym is)
      (subst (λ (x : Option Image). Safe x (at l)) (sym (past start (omega arith))) (before start l (omega arith) (omega arith) low2 high2)))
      (λ (is : l ≡ to). subst (λ (n : ℕ). Safe (next k) (at n)) (sym is) (after k to low high (omega arith) (omega arith)))
