-- The limits of a run of Paxos Commit: each line is one event, and each line `stop` is one stop (docs/RULES.md, Limits).
use Rattle.std.specs.Prelude.{◌≡◌, ◌⊎◌, ◌<◌, ◌≤◌, ◌+◌, ℕ, Bool, true, false, List, [], ◌∷◌, length, if◌then◌else◌}
use Rattle.spl_circuit_world.specs.declared.TheConstants.{MOST_EVENTS, MOST_STOPS}
use Rattle.spl_paxos.specs.declared.line.PaxosLine.{PaxosLine}
use Rattle.spl_paxos.specs.declared.line.PaxosLine.TheVariants as line

abbrev pub is_stop : PaxosLine → Bool
is_stop (line.Stop n) = true
is_stop (line.Vote i r aye) = false
is_stop (line.Lead l r) = false
is_stop (line.Deliver from to k) = false
is_stop (line.Show i r) = false
is_stop (line.Start n) = false

-- how many of these lines stop a process, whether it is up or not
abbrev pub paxos_stops : List (ℕ × PaxosLine) → ℕ
paxos_stops [] = 0
paxos_stops (x ∷ xs) = (if is_stop x.1 then 1 else 0) + paxos_stops xs

-- they are within the limits
pub record AreLinesWithin (ls : List (ℕ × PaxosLine)) : Type 0 where
  pub events : length ls ≤ MOST_EVENTS
  pub stops : paxos_stops ls ≤ MOST_STOPS

-- they have more events than a run may, which is limit 1; or no more, and more stops than it may, which is limit 2
abbrev pub IsOverPaxosLimit : List (ℕ × PaxosLine) → ℕ → Type 0
IsOverPaxosLimit ls which = ((which ≡ 1) × (MOST_EVENTS < length ls)) ⊎ ((which ≡ 2) × (length ls ≤ MOST_EVENTS) × (MOST_STOPS < paxos_stops ls))
