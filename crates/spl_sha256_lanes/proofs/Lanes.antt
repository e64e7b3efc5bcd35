-- What is done to vectors is done in each lane.
use Rattle.std.proofs.Common.{◌≡◌, ℕ, zero, suc, ◌<◌, List, [], ◌∷◌, length, slice_index, slice_index_or, slice_set, refl, ap, ◌∙◌, arith}
use Rattle.std.proofs.{Math.ListN.get_or-map, lemmas.{List.{map-set, length-map}, Simd.{get_or-zip2, length-zip2, get_or-replicate}}}
use lib.Lanes.{zip2}
use Rattle.spl_sha256_lanes.specs.Lanes.{lane}

-- what holds of each of the four lanes
pub below_four : (P : ℕ → Type 0) → P 0 → P 1 → P 2 → P 3 → (j : ℕ) → j < 4 → P j
below_four P first second third fourth zero low = first
below_four P first second third fourth (suc zero) low = second
below_four P first second third fourth (suc (suc zero)) low = third
below_four P first second third fourth (suc (suc (suc zero))) low = fourth
below_four P first second third fourth (suc (suc (suc (suc j)))) low = absurd (omega arith)

pub four_of : (xss : List (List ℕ)) → length xss ≡ 4
    → xss ≡ slice_index_or xss 0 [] ∷ slice_index_or xss 1 [] ∷ slice_index_or xss 2 [] ∷ slice_index_or xss 3 [] ∷ []
four_of [] sized = absurd (omega (arith, sized))
four_of (a ∷ []) sized = absurd (omega (arith, sized))
four_of (a ∷ b ∷ []) sized = absurd (omega (arith, sized))
four_of (a ∷ b ∷ c ∷ []) sized = absurd (omega (arith, sized))
four_of (a ∷ b ∷ c ∷ d ∷ []) sized = refl
four_of (a ∷ b ∷ c ∷ d ∷ e ∷ xss) sized = absurd (omega (arith, sized))

-- word k of a lane
pub lane_at : (j : ℕ) (x : List (List ℕ)) (k : ℕ) → slice_index (lane j x) k ≡ slice_index (slice_index_or x k []) j
lane_at j x k = get_or-map (λ v. slice_index v j) x k []

pub lane_set : (j : ℕ) (x : List (List ℕ)) (k : ℕ) (v : List ℕ) → lane j (slice_set x k v) ≡ slice_set (lane j x) k (slice_index v j)
lane_set j x k v = map-set (λ v. slice_index v j) x k v

pub length-lane : (j : ℕ) (x : List (List ℕ)) → length (lane j x) ≡ length x
length-lane j x = length-map x (λ v. slice_index v j)

-- an operation on two vectors
pub pairwise : (f : ℕ → ℕ → ℕ) (xs ys : List ℕ) (j : ℕ) → length xs ≡ 4 → length ys ≡ 4 → j < 4
    → slice_index (zip2 f xs ys) j ≡ f (slice_index xs j) (slice_index ys j)
pairwise f xs ys j long wide low = get_or-zip2 f xs ys j 0 0 0 (omega (arith, long, low)) (omega (arith, wide, low))

-- an operation on a vector, with the same word in each lane
pub with_each : (f : ℕ → ℕ → ℕ) (xs : List ℕ) (y j : ℕ) → length xs ≡ 4 → j < 4
    → slice_index (zip2 f xs (y ∷ y ∷ y ∷ y ∷ [])) j ≡ f (slice_index xs j) y
with_each f xs y j long low = pairwise f xs (y ∷ y ∷ y ∷ y ∷ []) j long refl low ∙ ap (f (slice_index xs j)) (get_or-replicate 4 j y 0 low)

-- two shifts, of which each lane has one result
pub joined_lanes : (h f g : ℕ → ℕ → ℕ) (xs : List ℕ) (a b j : ℕ) → length xs ≡ 4 → j < 4
    → slice_index (zip2 h (zip2 f xs (a ∷ a ∷ a ∷ a ∷ [])) (zip2 g xs (b ∷ b ∷ b ∷ b ∷ []))) j ≡ h (f (slice_index xs j) a) (g (slice_index xs j) b)
joined_lanes h f g xs a b j long low =
    let left = zip2 f xs (a ∷ a ∷ a ∷ a ∷ []) in
    let right = zip2 g xs (b ∷ b ∷ b ∷ b ∷ []) in
    pairwise h left right j (length-zip2 f xs (a ∷ a ∷ a ∷ a ∷ []) long ∙ long) (length-zip2 g xs (b ∷ b ∷ b ∷ b ∷ []) long ∙ long) low
    ∙ ap (λ r. h r (slice_index right j)) (with_each f xs a j long low)
    ∙ ap (h (f (slice_index xs j) a)) (with_each g xs b j long low)
