-- What is heard is of another node, and legal.
use Rattle.std.{specs.Str.bytes_eq, proofs.Common.{sym, ◌∙◌}}
use Rattle.spl_serve.proofs.Legal.{legal, unless}
use Rattle.spl_serve.proofs.hearing.is_heard.Goals as goal

pub returns-then-ne-clause-apart : goal.returns-then-ne-clause-apart
returns-then-ne-clause-apart c = λ h. unless c.ne.result (bytes_eq c.args.from.now c.args.here.now) c.if-ne.true c.ne.ensures

pub returns-then-ne-clause-legal : goal.returns-then-ne-clause-legal
returns-then-ne-clause-legal c = λ h. legal c.args.message.now c.requires (sym c.may_hear.ensures ∙ h)
