-- Tests of what may be there.
use Rattle.std.specs.Prelude.{Bool, true, false, Option, Some, None}

-- it is there and meets a test
abbrev pub some_is : {X : Type 0} → (X → Bool) → Option X → Bool
some_is p None = false
some_is p (Some x) = p x

-- it is not there, or meets a test
abbrev pub may_be : {X : Type 0} → (X → Bool) → Option X → Bool
may_be p None = true
may_be p (Some x) = p x
