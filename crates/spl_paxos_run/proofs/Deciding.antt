-- A schedule of Paxos Commit that is within the limits has few lines.
use Rattle.std.proofs.Common.{◌≡◌, ◌+◌, ◌*◌, ◌<◌, ◌^◌, ℕ, List, [], ◌∷◌, length, refl, ap, suc, arith}
use Rattle.spl_paxos.specs.declared.line.PaxosLine.{PaxosLine}
use Rattle.spl_paxos_run.specs.{Limits.AreLinesWithin, Schedule.happenings}

happening_count : (ls : List (ℕ × PaxosLine)) → length (happenings ls) ≡ length ls
happening_count [] = refl
happening_count (l ∷ ls) = ap suc (happening_count ls)

-- so that there is room for two ballots more
pub few_lines : (ls : List (ℕ × PaxosLine)) → AreLinesWithin ls → 3 * length (happenings ls) + 6 < 2 ^ 64
few_lines ls within = omega (arith, happening_count ls, within.events)
