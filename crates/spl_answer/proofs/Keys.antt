-- The keys of a detail are in byte order.
use Rattle.std.proofs.Common.{◌≡◌, ℕ, List, ◌++◌, Option, refl}
use Rattle.serde_json.specs.Data.{no_members}
use Rattle.spl_circuit.specs.declared.{definition.Definition.Definition, lifecycle.{Lifecycle.Lifecycle, Mark.Mark}}
use Rattle.spl_answer.specs.Json.{members, put_all, fields_to_management, fields_from_mark}

pub detail_in_order : (d : Definition) (hash : List ℕ) (lifecycle : Lifecycle) (mark : Mark) (accepted : List (List ℕ)) (requester : Option (List ℕ))
    → put_all (fields_from_mark d mark requester) (put_all (fields_to_management d hash lifecycle accepted) no_members)
    ≡ members (fields_to_management d hash lifecycle accepted ++ fields_from_mark d mark requester)
unfolding fields_to_management fields_from_mark
detail_in_order d hash lifecycle mark accepted requester = refl
