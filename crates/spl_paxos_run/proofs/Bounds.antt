-- The limits, one line more.
use Rattle.std.{specs.Prelude.if◌then◌else◌, proofs.Common.{◌≡◌, ◌∙◌, ◌<◌, ◌≤◌, ◌+◌, ℕ, Bool, true, false, List, [], ◌∷◌, ◌++◌, inr, ap, refl, length}}
use Rattle.std.proofs.Common.{length-append, arith}
use Rattle.spl_circuit_world.specs.declared.TheConstants.{MOST_EVENTS, MOST_STOPS}
use Rattle.spl_paxos.specs.declared.line.PaxosLine.{PaxosLine}
use Rattle.spl_paxos_run.{specs.Limits.{IsOverPaxosLimit, AreLinesWithin, is_stop, paxos_stops}, proofs.Lines.stops_more}

module _ (ls : List (ℕ × PaxosLine)) (t : ℕ × PaxosLine) where
  pub lines_more : length (ls ++ t ∷ []) ≡ length ls + 1
  lines_more = length-append ls (t ∷ [])

  pub stop_more : is_stop t.1 ≡ true → paxos_stops (ls ++ t ∷ []) ≡ paxos_stops ls + 1
  stop_more is = stops_more ls t ∙ ap (λ (b : Bool). paxos_stops ls + (if b then 1 else 0)) is

  pub stop_still : is_stop t.1 ≡ false → paxos_stops (ls ++ t ∷ []) ≡ paxos_stops ls
  stop_still is =
      (let same : paxos_stops (ls ++ t ∷ [])
      ≡ paxos_stops ls + 0 = stops_more ls t ∙ ap (λ (b : Bool). paxos_stops ls + (if b then 1 else 0)) is in omega (arith, same))

  pub over_stops : length ls < MOST_EVENTS → is_stop t.1 ≡ true → MOST_STOPS ≤ paxos_stops ls → IsOverPaxosLimit (ls ++ t ∷ []) 2
  over_stops few is most = inr (refl, omega (arith, lines_more, few), omega (arith, stop_more is, most))

  pub within_more : length ls < MOST_EVENTS → paxos_stops (ls ++ t ∷ []) ≤ MOST_STOPS → AreLinesWithin (ls ++ t ∷ [])
  within_more few stops = record { events = omega (arith, lines_more, few); stops = stops }
