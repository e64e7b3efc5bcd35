-- What a source gave of what it had.
use Rattle.std.proofs.Common.{◌≡◌, ℕ, ◌≤◌, List, ◌++◌, Option, None, Some, length, length-append, append-nil, drop, refl, ◌∙◌, ap, arith}
use Rattle.std.proofs.lemmas.List.{drop_at}
use Rattle.std.specs.Io.{appended_bytes, KnownBytes.{Consumes, IsAtEnd}}
use Rattle.spl_edge.specs.Sources.{had, limit}

pub limit_is : limit ≡ 67108864
unfolding limit
limit_is = refl

-- the bytes that a source gave are those after the ones that it had given before
pub gives : (before after bytes : List ℕ) → after ≡ before ++ bytes → appended_bytes before after ≡ bytes
gives before after bytes taken = ap (λ (l : List ℕ). drop (length before) l) taken ∙ drop_at before bytes (length before) refl

-- what a source had that is at its end is what it gave
pub all_had : (old new : Option (List ℕ)) (given : List ℕ) → Consumes old new given → IsAtEnd new → had old given ≡ given
all_had None new given consumed ended = refl
all_had (Some all) None given consumed ended = absurd consumed
all_had (Some all) (Some rest) given consumed ended = consumed ∙ ap (λ (l : List ℕ). given ++ l) ended ∙ append-nil given

-- it gave no more than it had
pub had_more : (old new : Option (List ℕ)) (given : List ℕ) → Consumes old new given → length given ≤ length (had old given)
had_more None new given consumed = omega arith
had_more (Some all) None given consumed = absurd consumed
had_more (Some all) (Some rest) given consumed = omega (arith, ap length consumed, length-append given rest)
