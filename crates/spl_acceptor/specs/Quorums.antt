-- Numbers from 1 on, and majorities of the acceptors (docs/RULES.md, Paxos Commit).
use Rattle.std.specs.Prelude.{ℕ, zero, suc, ◌+◌, ◌≤◌, Bool, true, ◌&&◌, nat_lt, List, [], ◌∷◌, ◌++◌, if◌then◌else◌}

-- one of the numbers from 1 to n
pub record IsWithin (n i : ℕ) : Type 0 where
  pub above : 1 ≤ i
  pub most : i ≤ n

-- the numbers from 1 to n, in order
abbrev pub numbers : ℕ → List ℕ
numbers zero = []
numbers (suc n) = numbers n ++ suc n ∷ []

-- how many of them pass a test
abbrev pub count : ℕ → (ℕ → Bool) → ℕ
count zero test = zero
count (suc n) test = if test (suc n) then suc (count n test) else count n test

-- each of them passes a test
abbrev pub all_within : ℕ → (ℕ → Bool) → Bool
all_within zero test = true
all_within (suc n) test = all_within n test && test (suc n)

-- with F faults there are 2F + 1 acceptors
abbrev pub acceptors : ℕ → ℕ
acceptors faults = suc (faults + faults)

-- F + 1 of them pass a test
abbrev pub has_quorum : ℕ → (ℕ → Bool) → Bool
has_quorum faults test = nat_lt faults (count (acceptors faults) test)
