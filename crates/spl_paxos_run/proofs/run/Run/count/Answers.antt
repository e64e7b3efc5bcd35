use Rattle.std.proofs.Common.{◌≡◌, ℕ, [], ◌∷◌, ◌++◌, refl, sym, ◌∙◌, ap, arith}
use Rattle.spl_paxos.specs.declared.line.PaxosLine.{PaxosLine}
use Rattle.spl_paxos_run.{specs.Limits.{AreLinesWithin, paxos_stops}, proofs.Bounds.{lines_more, over_stops, stop_more, stop_still, within_more}}
use Rattle.spl_paxos_run.proofs.run.Run.count.Goals.{then-is_stop+else-self-ge-MOST_STOPS, else-is_stop}
use Rattle.spl_paxos_run.proofs.run.Run.count.Goals as goal

pub returns-then-self-ge-MOST_STOPS-clause-over : goal.returns-then-self-ge-MOST_STOPS-clause-over
returns-then-self-ge-MOST_STOPS-clause-over c = λ ls n events stops. (
  2,
  refl,
  over_stops ls (n, c.args.line.now) (omega (arith, events, c.if-self-ge-MOST_EVENTS.false)) (sym c.is_stop.ensures ∙ c.if-is_stop.true)
      (omega (arith, stops, c.if-self-ge-MOST_STOPS.true)),
)

pub returns-clause-counted : goal.returns-clause-counted
returns-clause-counted c = λ ls n within events stops.
    let t : ℕ × PaxosLine = (n, c.args.line.now) in
    let more = lines_more ls t in
    let counted : (paxos_stops (ls ++ t ∷ []) ≡ c.if-is_stop.self.stops) × (c.if-is_stop.self.events ≡ c.args.self.now.events)
    × AreLinesWithin (ls ++ t ∷ []) = elim c.if-is_stop.branch [
      | then-is_stop+else-self-ge-MOST_STOPS w ↦
          let one = stop_more ls t (sym c.is_stop.ensures ∙ w.if-is_stop.true) in (
            omega (arith, one, stops, ap (λ r. r.stops) w.self-is),
            ap (λ r. r.events) w.self-is,
            within_more ls t (omega (arith, events, c.if-self-ge-MOST_EVENTS.false)) (omega (arith, one, stops, w.if-self-ge-MOST_STOPS.false)),
          )
      | else-is_stop w ↦
          let still = stop_still ls t (sym c.is_stop.ensures ∙ w.if-is_stop.false) in (
            omega (arith, still, stops, ap (λ r. r.stops) w.self-is),
            ap (λ r. r.events) w.self-is,
            within_more ls t (omega (arith, events, c.if-self-ge-MOST_EVENTS.false)) (omega (arith, still, within.stops)),
          )
    ] in
    (counted.2, omega (arith, more, events, counted.1), sym counted.0)
