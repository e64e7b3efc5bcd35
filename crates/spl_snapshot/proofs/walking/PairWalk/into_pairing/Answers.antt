use Rattle.spl_journal.specs.Journals.{Stands, Walks}
use Rattle.spl_snapshot.{specs.Counting.chosen, proofs.Findings.if_map}
use Rattle.spl_snapshot.proofs.walking.PairWalk.into_pairing.Goals as goal

pub returns-clause-stands : goal.returns-clause-stands
returns-clause-stands g c = λ first second w. record {
  running = c.finish.ensures.running;
  counting =
      if_map (chosen c.args.self.second first second) (Walks g.R.Form.is_record c.args.self.walk)
      (Stands g.R.Form.is_record c.finish.result) w.counting c.finish.ensures.stands;
  other = w.other;
  counts = w.counts;
}
