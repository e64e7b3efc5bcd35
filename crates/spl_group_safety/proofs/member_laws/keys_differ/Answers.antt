use Rattle.std.proofs.Common.{[]}
use Rattle.spl_group_safety.proofs.Fits.{keys-differ}
use Rattle.spl_group_safety.proofs.member_laws.keys_differ.Goals as goal

pub returns : goal.returns
returns g c = λ rules vs r a. keys-differ rules [] vs r a
