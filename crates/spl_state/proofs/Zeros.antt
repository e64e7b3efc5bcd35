-- Zeros where parts are empty.
use Rattle.std.proofs.Common.{◌≡◌, ◌≢◌, ℕ, zero, suc, ◌+◌, ◌*◌, ◌-◌, ◌<◌, ◌≤◌, ◌==◌, Bool, true, false, cond, List, ◌++◌, length, take, drop, replicate, refl}
use Rattle.std.proofs.{Common.{sym, ap, ◌∙◌, arith}, Math.Seq.{take-add, take-append-add, take-append_seam}, lemmas.List.replicate-append-replicate}
use Rattle.std.proofs.lemmas.List.{append_assoc, append-nil, take-replicate, drop-replicate, length-take-le}
use Rattle.spl_state.{specs.{Root.joined, Levels.lone}, proofs.Thin.joined_more}

abbrev pub zeros : ℕ → List ℕ
zeros n = replicate n 0

pub zeros_more : (k : ℕ) → zeros (64 * k) ++ zeros 64 ≡ zeros (64 * (k + 1))
zeros_more k =
    let more : 64 * k + 64 ≡ 64 * (k + 1) = omega arith in
    replicate-append-replicate (64 * k) 64 0 ∙ ap zeros more

-- one more pair is empty
pub empty_more : (k : ℕ) (xs : List ℕ) → take (64 * k) xs ≡ zeros (64 * k) → take 64 (drop (64 * k) xs) ≡ zeros 64
    → take (64 * (k + 1)) xs ≡ zeros (64 * (k + 1))
empty_more k xs before here =
    let more : 64 * (k + 1) ≡ 64 * k + 64 = omega arith in
    ap (λ n. take n xs) more ∙ take-add (64 * k) 64 xs ∙ ap (λ r. r ++ take 64 (drop (64 * k) xs)) before
    ∙ ap (λ r. zeros (64 * k) ++ r) here ∙ zeros_more k

-- One more part's digest is written.

pub part_set : (i : ℕ) (xs below : List ℕ) → 32 * i + 32 ≤ length xs → length below ≡ 32
    → take (32 * i + 32) (take (32 * i) xs ++ (below ++ drop (32 * i + 32) xs)) ≡ take (32 * i) xs ++ below
part_set i xs below room sized =
    let before = take (32 * i) xs in
    let rest = drop (32 * i + 32) xs in
    let at : 32 * i + 32 ≡ length before + length below = omega (arith, length-take-le (32 * i) xs (omega (arith, room)), sized) in
    ap (λ n. take n (before ++ (below ++ rest))) at
    ∙ take-append-add before (below ++ rest) (length below)
    ∙ ap (λ r. before ++ r) (take-append_seam below rest)

-- The nodes of sixteen parts of which one alone has entries.

at_it : (j : ℕ) (below : List ℕ) → lone j below j ≡ below
at_it j below = by (j == j) refl
  where
    by : (b : Bool) → (j == j) ≡ b → cond b below (zeros 32) ≡ below
    by true is = refl
    by false is = absurd (grind arith)

at_other : (i j : ℕ) (below : List ℕ) → i ≢ j → lone j below i ≡ zeros 32
at_other i j below not = by (i == j) refl
  where
    by : (b : Bool) → (i == j) ≡ b → cond b below (zeros 32) ≡ zeros 32
    by true is =
        let same : i ≡ j = grind arith in
        absurd (not same)
    by false is = refl

before_it : (j : ℕ) (below : List ℕ) (m : ℕ) → m ≤ j → joined (lone j below) m ≡ zeros (32 * m)
unfolding joined
before_it j below zero low = refl
before_it j below (suc m) low =
    let more : 32 * m + 32 ≡ 32 * suc m = omega arith in
    ap (λ r. r ++ lone j below m) (before_it j below m (omega arith))
    ∙ ap (λ r. zeros (32 * m) ++ r) (at_other m j below (omega arith))
    ∙ replicate-append-replicate (32 * m) 32 0 ∙ ap zeros more

after_it : (j : ℕ) (below : List ℕ) (m : ℕ) → joined (lone j below) (j + 1 + m) ≡ zeros (32 * j) ++ (below ++ zeros (32 * m))
after_it j below zero =
    let next : j + 1 + zero ≡ j + 1 = omega arith in
    ap (joined (lone j below)) next ∙ joined_more (lone j below) j
    ∙ ap (λ r. r ++ lone j below j) (before_it j below j (omega arith))
    ∙ ap (λ r. zeros (32 * j) ++ r) (at_it j below ∙ sym (append-nil below))
after_it j below (suc m) =
    let next : j + 1 + suc m ≡ j + 1 + m + 1 = omega arith in
    let more : 32 * m + 32 ≡ 32 * suc m = omega arith in
    ap (joined (lone j below)) next ∙ joined_more (lone j below) (j + 1 + m)
    ∙ ap (λ r. r ++ lone j below (j + 1 + m)) (after_it j below m)
    ∙ ap (λ r. zeros (32 * j) ++ (below ++ zeros (32 * m)) ++ r) (at_other (j + 1 + m) j below (omega arith))
    ∙ append_assoc (zeros (32 * j)) (below ++ zeros (32 * m)) (zeros 32)
    ∙ ap (λ r. zeros (32 * j) ++ r) (append_assoc below (zeros (32 * m)) (zeros 32)
    ∙ ap (λ r. below ++ r) (replicate-append-replicate (32 * m) 32 0 ∙ ap zeros more))

pub lone_set : (j : ℕ) (below : List ℕ) → j < 16 → take (32 * j) (zeros 512) ++ (below ++ drop (32 * j + 32) (zeros 512)) ≡ joined (lone j below) 16
lone_set j below low =
    let left : 512 - (32 * j + 32) ≡ 32 * (15 - j) = omega arith in
    let all : j + 1 + (15 - j) ≡ 16 = omega arith in
    ap (λ r. r ++ (below ++ drop (32 * j + 32) (zeros 512))) (take-replicate (32 * j) 512 0 (omega arith))
    ∙ ap (λ r. zeros (32 * j) ++ (below ++ r)) (drop-replicate (32 * j + 32) 512 0 ∙ ap zeros left)
    ∙ sym (after_it j below (15 - j)) ∙ ap (joined (lone j below)) all
