use Rattle.std.proofs.Common.{◌∙◌, ap, rules}
use Rattle.spl_journal.{specs.Records.size_bytes, proofs.Sizes.{size_from_is, size_of}}
use Rattle.spl_journal.proofs.bytes.size_from.Goals as goal

pub returns-clause-value : goal.returns-clause-value
returns-clause-value c = size_from_is c.args.bytes c.from_be_bytes.result (search rules)

pub returns-clause-back : goal.returns-clause-back
returns-clause-back c = ap size_bytes (returns-clause-value c) ∙ size_of c.args.bytes (search rules) (λ i. search rules)
