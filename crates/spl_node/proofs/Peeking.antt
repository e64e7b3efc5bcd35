-- The cells for which disks stand that may be blank.
use Rattle.std.{specs.Result.IsOkAnd, proofs.Common.{◌≡◌, inl, inr, ℕ, List, [], ◌∷◌, Option, Some, None, Result, Err, refl, sym, ap, subst, ◌∙◌}}
use Rattle.spl_edge.specs.Devices.{Image}
use Rattle.spl_snapshot.specs.Counting.{IfBoth, pair_records}
use Rattle.spl_node.specs.{Kept.{CellsView, Entries, cell_at}, Stands.{AreBlank, HasBytes, IsMade, IsPeeked, IsRead, disk_records}, Records.is_record}

-- disks with bytes have the records of a journal
pub kept_has : (a b : List ℕ) → HasBytes a b → disk_records a b ≡ pair_records is_record a b
kept_has [] [] (inl h) = absurd (h refl)
kept_has [] [] (inr h) = absurd (h refl)
kept_has [] (b ∷ bs) h = refl
kept_has (a ∷ as1) b h = refl

pub peeked_read : (v : CellsView) (a b : List ℕ) → HasBytes a b → IsRead v a b → IsPeeked v a b
peeked_read v a b h read = subst (λ (r : Result (List (List ℕ)) ℕ). IsOkAnd r (IsMade v)) (sym (kept_has a b h)) read

-- a node without cells is that of blank disks
pub peeked_blank : (v : CellsView) (a b : List ℕ) → v.entries ≡ [] → AreBlank a b → IsPeeked v a b
peeked_blank v a b none blank =
    subst (λ (x : List ℕ). IsPeeked v x b) (sym blank.0)
    (subst (λ (y : List ℕ). IsPeeked v [] y) (sym blank.1) (λ c. ap (λ (es : Entries). cell_at es c) none))

pub both_read : (v : CellsView) (o p : Option Image) → IfBoth o p (λ i j. HasBytes i.bytes j.bytes) → IfBoth o p (λ i j. IsRead v i.bytes j.bytes)
    → IfBoth o p (λ i j. IsPeeked v i.bytes j.bytes)
both_read v None p h read = tt
both_read v (Some i) None h read = tt
both_read v (Some i) (Some j) h read = peeked_read v i.bytes j.bytes h read

pub both_blank : (v : CellsView) (o p : Option Image) → v.entries ≡ [] → IfBoth o p (λ i j. AreBlank i.bytes j.bytes)
    → IfBoth o p (λ i j. IsPeeked v i.bytes j.bytes)
both_blank v None p none h = tt
both_blank v (Some i) None none h = tt
both_blank v (Some i) (Some j) none h = peeked_blank v i.bytes j.bytes none h

pub both_none : (at : ℕ) (o p : Option Image) → IfBoth o p (λ i j. HasBytes i.bytes j.bytes)
    → IfBoth o p (λ i j. pair_records is_record i.bytes j.bytes ≡ Err at) → IfBoth o p (λ i j. disk_records i.bytes j.bytes ≡ Err at)
both_none at None p h e = tt
both_none at (Some i) None h e = tt
both_none at (Some i) (Some j) h e = kept_has i.bytes j.bytes h ∙ e
