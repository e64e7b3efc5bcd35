use Rattle.std.proofs.Common.{rules}
use Rattle.spl_audit.proofs.saying.say.Goals as goal

pub clash_text-requires : goal.clash_text-requires
clash_text-requires c = c.in-Err-Clash.ensures.clash c.in-Err-Clash.clash (search rules)
