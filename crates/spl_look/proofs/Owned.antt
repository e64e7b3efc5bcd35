-- The circuits that are bound without a node, of records that are read one after the other.
use Rattle.std.{specs.{Option.option_or, Result.IsOkAnd}, proofs.Common.{◌≡◌, ℕ, List, [], ◌∷◌, ◌++◌, Option, None, Some, Result, refl, sym, ◌∙◌, ap, subst}}
use Rattle.spl_edge.specs.Devices.{Image, PairView, image_now}
use Rattle.spl_circuit.specs.Nodes.{NodeId, CircuitId}
use Rattle.spl_snapshot.specs.Counting.{IfBoth, HaveRecords, PairStays, pair_records}
use Rattle.spl_wire.specs.declared.record.Record.{Record}
use Rattle.spl_node.{specs.{Stands.{AreBlank, HasBytes}, Records.{is_record, record_in}}, proofs.{Peeking.kept_has, Walking.{both_still, still_holds}}}
use Rattle.spl_look.specs.Owners.{IsFirstWithout, first_without, without_at, without_in}

or_none : (o : Option CircuitId) → option_or o None ≡ o
or_none None = refl
or_none (Some c) = refl

or_more : (o p q : Option CircuitId) → option_or o (option_or p q) ≡ option_or (option_or o p) q
or_more None p q = refl
or_more (Some c) p q = refl

-- one record more
first_more : (here : NodeId) (rs : List (List ℕ)) (bytes : List ℕ)
    → first_without here (rs ++ bytes ∷ []) ≡ option_or (first_without here rs) (without_at here (record_in bytes))
first_more here [] bytes = or_none (without_at here (record_in bytes))
first_more here (b ∷ rs) bytes =
    ap (λ (o : Option CircuitId). option_or (without_at here (record_in b)) o) (first_more here rs bytes)
    ∙ or_more (without_at here (record_in b)) (first_without here rs) (without_at here (record_in bytes))

found_more : (here : NodeId) (rs : List (List ℕ)) (bytes : List ℕ) (r : Record) (before now : Option CircuitId) → record_in bytes ≡ Some r
    → now ≡ option_or before (without_in here r) → before ≡ first_without here rs → now ≡ first_without here (rs ++ bytes ∷ [])
found_more here rs bytes r before now is next found =
    next ∙ (ap (λ (o : Option CircuitId). option_or o (without_in here r)) found
    ∙ (ap (λ (o : Option Record). option_or (first_without here rs) (without_at here o)) (sym is) ∙ sym (first_more here rs bytes)))

pub both_found_more : (o p : Option Image) (here : NodeId) (before after : Option CircuitId) (given now : Image → Image → List (List ℕ)) (bytes : List ℕ)
    (r : Record) → record_in bytes ≡ Some r → after ≡ option_or before (without_in here r)
    → IfBoth o p (λ i j. before ≡ first_without here (given i j)) → IfBoth o p (λ i j. now i j ≡ given i j ++ bytes ∷ [])
    → IfBoth o p (λ i j. after ≡ first_without here (now i j))
both_found_more None p here before after given now bytes r is next found more = tt
both_found_more (Some i) None here before after given now bytes r is next found more = tt
both_found_more (Some i) (Some j) here before after given now bytes r is next found more =
    subst (λ (rs : List (List ℕ)). after ≡ first_without here rs) (sym more) (found_more here (given i j) bytes r before after is next found)

-- nothing was read yet
pub both_found_none : (o p : Option Image) (here : NodeId) (given : Image → Image → List (List ℕ)) → IfBoth o p (λ i j. given i j ≡ [])
    → IfBoth o p (λ i j. None ≡ first_without here (given i j))
both_found_none None p here given start = tt
both_found_none (Some i) None here given start = tt
both_found_none (Some i) (Some j) here given start = subst (λ (rs : List (List ℕ)). None ≡ first_without here rs) (sym start) refl

-- all was read
pub both_found_all : (o p : Option Image) (here : NodeId) (found : Option CircuitId) (given : Image → Image → List (List ℕ))
    → IfBoth o p (λ i j. found ≡ first_without here (given i j)) → IfBoth o p (λ i j. HaveRecords is_record (given i j) i.bytes j.bytes)
    → IfBoth o p (λ i j. IsOkAnd (pair_records is_record i.bytes j.bytes) (λ rs. found ≡ first_without here rs))
both_found_all None p here found given first have = tt
both_found_all (Some i) None here found given first have = tt
both_found_all (Some i) (Some j) here found given first have =
    subst (λ (r : Result (List (List ℕ)) ℕ). IsOkAnd r (λ rs. found ≡ first_without here rs)) (sym have) first

-- ---- disks that may be blank

pub both_first_has : (here : NodeId) (found : Option CircuitId) (o p : Option Image) → IfBoth o p (λ i j. HasBytes i.bytes j.bytes)
    → IfBoth o p (λ i j. IsOkAnd (pair_records is_record i.bytes j.bytes) (λ rs. found ≡ first_without here rs))
    → IfBoth o p (λ i j. IsFirstWithout here i.bytes j.bytes found)
both_first_has here found None p h first = tt
both_first_has here found (Some i) None h first = tt
both_first_has here found (Some i) (Some j) h first =
    subst (λ (r : Result (List (List ℕ)) ℕ). IsOkAnd r (λ rs. found ≡ first_without here rs)) (sym (kept_has i.bytes j.bytes h)) first

pub both_first_blank : (here : NodeId) (o p : Option Image) → IfBoth o p (λ i j. AreBlank i.bytes j.bytes)
    → IfBoth o p (λ i j. IsFirstWithout here i.bytes j.bytes None)
both_first_blank here None p h = tt
both_first_blank here (Some i) None h = tt
both_first_blank here (Some i) (Some j) h =
    subst (λ (a : List ℕ). IsFirstWithout here a j.bytes None) (sym h.0) (subst (λ (b : List ℕ). IsFirstWithout here [] b None) (sym h.1) refl)

-- ---- disks that stay

-- what was read of disks that stayed was on them before
pub stays_first : (here : NodeId) (found : Option CircuitId) (p q : PairView) → PairStays p q
    → IfBoth (image_now q.first) (image_now q.second) (λ i j. IsOkAnd (pair_records is_record i.bytes j.bytes) (λ rs. found ≡ first_without here rs))
    → IfBoth (image_now p.first) (image_now p.second) (λ i j. IsOkAnd (pair_records is_record i.bytes j.bytes) (λ rs. found ≡ first_without here rs))
stays_first here found p q stays first =
    both_still (λ i j. IsOkAnd (pair_records is_record i.bytes j.bytes) (λ rs. found ≡ first_without here rs)) (image_now p.first) (image_now p.second)
    (image_now q.first) (image_now q.second) (still_holds p.first q.first stays.first) (still_holds p.second q.second stays.second) first
