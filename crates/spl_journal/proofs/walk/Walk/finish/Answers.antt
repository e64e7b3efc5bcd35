use Rattle.spl_journal.proofs.Readings.{walk_stands}
use Rattle.spl_journal.proofs.walk.Walk.finish.Goals as goal

pub returns-clause-stands : goal.returns-clause-stands
returns-clause-stands g c =
    λ i walks. walk_stands g.R.Form.is_record c.args.self.at c.args.self.extent c.args.self.epoch c.args.self.form c.args.self.ended c.requires.ended
    c.requires.form i walks
