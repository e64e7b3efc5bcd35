-- Digits that aren't those of an address have no name.
use Rattle.std.proofs.Common.{◌≡◌, ◌≢◌, ℕ, List, Option, Some, None, length, refl, arith}
use Rattle.spl_short.specs.Written.{name_read}

pub unread_is_none : (r : Option (List ℕ)) → ((bytes : List ℕ) → r ≡ Some bytes → length bytes ≢ 35) → name_read r ≡ None
unread_is_none None h = refl
unread_is_none (Some bytes) h = grind (arith, h bytes refl)
