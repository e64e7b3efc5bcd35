-- Where no message is carried, nothing is put.
use Rattle.std.specs.Prelude.{◌≡◌, ℕ, Bool, true, false, min, max, List, [], if◌then◌else◌, refl}
use Rattle.spl_registry.specs.Nodes.{Entry}
use Rattle.spl_pump.specs.Wires.{wire_from, have_met}

none_either : (none : List ℕ) (met : Bool) → (if met then none else none) ≡ none
none_either none true = refl
none_either none false = refl

pub idle_wire : (es : List Entry) (met : List (ℕ × ℕ)) (a b : ℕ) → wire_from es met [] a b ≡ []
idle_wire es met a b = none_either [] (have_met met (min a b) (max a b))
