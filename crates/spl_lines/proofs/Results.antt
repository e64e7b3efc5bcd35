-- Facts of what succeeded.
use Rattle.std.proofs.Common.{Result, Ok, Err, OnOk}

-- four facts of what succeeded give a fifth
pub on_ok : {T E : Type 0} (r : Result T E) {O P Q R S : Type 0} → OnOk r O → OnOk r P → OnOk r Q → OnOk r R → (O → P → Q → R → S) → OnOk r S
on_ok (Ok x) o p q r f = f o p q r
on_ok (Err e) o p q r f = tt

-- and one a second
pub ok_then : {T E : Type 0} (r : Result T E) {P Q : Type 0} → OnOk r P → (P → Q) → OnOk r Q
ok_then (Ok x) p f = f p
ok_then (Err e) p f = tt
