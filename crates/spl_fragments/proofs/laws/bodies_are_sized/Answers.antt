use Rattle.spl_wire.specs.Forms.{message_form}
use Rattle.spl_fragments.proofs.Cuts.{bodies_sized, some_bytes}
use Rattle.spl_fragments.proofs.laws.bodies_are_sized.Goals as goal

pub returns : goal.returns
returns c = λ m. bodies_sized (message_form.spell m) (some_bytes m)
