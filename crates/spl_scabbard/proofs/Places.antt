-- The receipts of an id are those at its place.
use Rattle.std.{specs.{Prelude.{fold, position, slice_get}, List.prefix_len, Option.{option_map, option_and_then}}, proofs.Common.{◌≡◌, ℕ, suc, ◌+◌, ◌==◌}}
use Rattle.std.proofs.Common.{nat_lt, not, length, arith, Bool, true, false, cond, List, [], ◌∷◌, take, Option, Some, None, refl, sym, ap, ◌∙◌}
use Rattle.std.proofs.lemmas.Grind.{common_steps}
use Rattle.spl_state.specs.Entries.{Entry}
use Rattle.spl_command.specs.{Execution.verdict_on, Lists.{receipts_in, after_batch, receipts_at}, declared.{batch.Batch.Batch, receipt.Receipt.Receipt}}
use Rattle.spl_scabbard.specs.Readers.{ids_of, place_of, receipts_from, receipts_of}

later : (n k : ℕ) (b : Bool) → k ≡ suc n → cond b (Some k) None ≡ option_map suc (cond b (Some n) None)
later n k true e = ap Some e
later n k false e = refl

-- by whether the first item passes; n items do not pass of the l others
first_or_later : (n l : ℕ) (t : Bool)
    → cond (nat_lt (cond (not t) (1 + n) 0) (suc l)) (Some (cond (not t) (1 + n) 0)) None ≡ cond t (Some 0) (option_map suc (cond (nat_lt n l) (Some n) None))
first_or_later n l true =
    let low : nat_lt 0 (suc l) ≡ true = grind (arith, common_steps) in
    ap (λ b. cond b (Some 0) None) low
first_or_later n l false =
    let same : nat_lt (1 + n) (suc l) ≡ nat_lt n l = grind (arith, common_steps) in
    ap (λ b. cond b (Some (1 + n)) None) same ∙ later n (1 + n) (nat_lt n l) (omega arith)

place_cons : {X : Type 0} (p : X → Bool) (x : X) (xs : List X) → position p (x ∷ xs) ≡ cond (p x) (Some 0) (option_map suc (position p xs))
place_cons p x xs = first_or_later (prefix_len (λ y. not (p y)) xs) (length xs) (p x)

-- the receipts of the batch at a place, where the first batch runs on this state
abbrev at_from : List Entry → List Batch → ℕ → Option (List Receipt)
at_from m bs place = option_map (λ b. receipts_in (verdict_on (fold after_batch m (take place bs)) b)) (slice_get bs place)

one_later : (m : List Entry) (b : Batch) (bs : List Batch) (o : Option ℕ)
    → option_and_then (at_from (after_batch m b) bs) o ≡ option_and_then (at_from m (b ∷ bs)) (option_map suc o)
one_later m b bs None = refl
one_later m b bs (Some k) = refl

told_from : (i : ℕ) (bs : List Batch) (m : List Entry) → receipts_from m bs i ≡ option_and_then (at_from m bs) (place_of bs i)
told_from i [] m = refl
told_from i (b ∷ bs) m =
    by (i == b.id) (told_from i bs (after_batch m b)) ∙ ap (option_and_then (at_from m (b ∷ bs))) (sym (place_cons (λ k. i == k) b.id (ids_of bs)))
  where
    by : (t : Bool) → receipts_from (after_batch m b) bs i ≡ option_and_then (at_from (after_batch m b) bs) (place_of bs i)
        → cond t (Some (receipts_in (verdict_on m b))) (receipts_from (after_batch m b) bs i)
        ≡ option_and_then (at_from m (b ∷ bs)) (cond t (Some 0) (option_map suc (place_of bs i)))
    by true next = refl
    by false next = next ∙ one_later m b bs (place_of bs i)

pub told_at_place : (bs : List Batch) (i : ℕ) → receipts_of bs i ≡ option_and_then (receipts_at bs) (place_of bs i)
told_at_place bs i = told_from i bs []
