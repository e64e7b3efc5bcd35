-- What is read of two disks.
use Rattle.std.proofs.Common.{◌≡◌, ℕ, List, [], ◌∷◌, ◌++◌, Bool, true, false, not, length, Option, None, Some, IfSome, IfNone, IfOk, Result, Ok, Err, sym}
use Rattle.std.proofs.Common.{◌∙◌, ap, subst}
use Rattle.spl_edge.specs.Devices.{Image, IsSettled, DiskView, image_now}
use Rattle.spl_journal.specs.{Clear.IsAtRest, Journals.{is_halted, Stands}, Records.{head_fault, records, Standing, Walking}}
use Rattle.spl_journal.specs.declared.{journal.Journal.Journal, journal_form.JournalForm.JournalForm}
use Rattle.spl_snapshot.specs.{Counting.{second_counts, chosen, pair_records, IfBoth}, Pairs.PairStands, declared.pairing.Pairing.Pairing}
use Rattle.spl_snapshot.proofs.Counts.{of_first, of_second}

pub if_map : (o : Option Image) (P Q : Image → Type 0) → IfSome o P → ((i : Image) → P i → Q i) → IfSome o Q
if_map None P Q p f = tt
if_map (Some i) P Q p f = f i p

pub both_found : (o p : Option Image) (P Q : Image → Type 0) (R : Image → Image → Type 0) → IfSome o P → IfSome p Q → ((i j : Image) → P i → Q j → R i j)
    → IfBoth o p R
both_found None p P Q R a b f = tt
both_found (Some i) None P Q R a b f = tt
both_found (Some i) (Some j) P Q R a b f = f i j a b

pub if_both : (o p : Option Image) (P : Type 0) → P → IfBoth o p (λ i j. P)
if_both None p P x = tt
if_both (Some i) None P x = tt
if_both (Some i) (Some j) P x = x

-- a fault of the disk that counts
pub fault_first : (fits : List ℕ → Bool) (at : ℕ) (o p : Option Image) → IfSome o (λ i. records fits i.bytes ≡ Err at)
    → IfBoth o p (λ i j. second_counts i.bytes j.bytes ≡ false) → IfBoth o p (λ i j. pair_records fits i.bytes j.bytes ≡ Err at)
fault_first fits at None p fault counts = tt
fault_first fits at (Some i) None fault counts = tt
fault_first fits at (Some i) (Some j) fault counts = of_first fits i.bytes j.bytes counts ∙ fault

pub fault_second : (fits : List ℕ → Bool) (at : ℕ) (o p : Option Image) → IfSome p (λ j. records fits j.bytes ≡ Err at)
    → IfBoth o p (λ i j. second_counts i.bytes j.bytes ≡ true) → IfBoth o p (λ i j. pair_records fits i.bytes j.bytes ≡ Err at)
fault_second fits at None p fault counts = tt
fault_second fits at (Some i) None fault counts = tt
fault_second fits at (Some i) (Some j) fault counts = of_second fits i.bytes j.bytes counts ∙ fault

pub closed_found : (o : Option Image) (at len : ℕ) → IfSome o (λ i. head_fault i.bytes ≡ Some at) → IfSome o (λ i. len ≡ length i.bytes)
    → IfSome o IsSettled → IfSome o (λ i. (head_fault i.bytes ≡ Some at) × (len ≡ length i.bytes) × IsSettled i)
closed_found None at len head long settled = tt
closed_found (Some i) at len head long settled = (head, long, settled)

-- a disk that stands is at rest
pub rest_of : (fits : List ℕ → Bool) (end extent epoch : ℕ) (o : Option Image) → IfSome o (Standing fits end extent epoch) → IfSome o (IsAtRest extent)
rest_of fits end extent epoch o stands =
    if_map o (Standing fits end extent epoch) (IsAtRest extent) stands (λ i s. record { long = sym s.extent_is; settled = s.holds.settled })

pub rest_walked : (fits : List ℕ → Bool) (at extent epoch : ℕ) (form : JournalForm) (ended : Bool) (o : Option Image)
    → IfSome o (Walking fits at extent epoch form ended) → IfSome o (IsAtRest extent)
rest_walked fits at extent epoch form ended o walks =
    if_map o (Walking fits at extent epoch form ended) (IsAtRest extent) walks (λ i w. record { long = sym w.extent_is; settled = w.settled })

-- the one that counted, which is as it was, is the other where the other counts
pub other_now : {D : Type 0} (view : D → DiskView) (second : Bool) (a b x y : D) (P : Image → Type 0) → chosen second x y ≡ chosen second a b
    → IfSome (chosen second (image_now (view a)) (image_now (view b))) P
    → IfSome (chosen (not second) (image_now (view y)) (image_now (view x))) P
other_now view true a b x y P same was = subst (λ d. IfSome (image_now (view d)) P) (sym same) was
other_now view false a b x y P same was = subst (λ d. IfSome (image_now (view d)) P) (sym same) was

-- a pairing of these parts
pub stands_with : {R : Type 0} (fits : List ℕ → Bool) (q : Pairing R) (j : Journal R) (second : Bool) (other : ℕ) (o p : Option Image) → q.journal ≡ j
    → q.second ≡ second → q.other ≡ other → is_halted j ≡ false
    → IfSome (chosen second o p) (Stands fits j) → IfSome (chosen second p o) (IsAtRest other) → IfBoth o p (λ i k. second_counts i.bytes k.bytes ≡ second)
    → PairStands fits q o p
stands_with {R = R} fits q j second other o p is_journal is_second is_other running stands rest counts = record {
  running = subst (λ (x : Journal R). is_halted x ≡ false) (sym is_journal) running;
  counting =
      subst (λ (s : Bool). IfSome (chosen s o p) (Stands fits q.journal)) (sym is_second)
      (subst (λ (x : Journal R). IfSome (chosen second o p) (Stands fits x)) (sym is_journal) stands);
  other = subst (λ (s : Bool). IfSome (chosen s p o) (IsAtRest q.other)) (sym is_second)
      (subst (λ (n : ℕ). IfSome (chosen second p o) (IsAtRest n)) (sym is_other) rest);
  counts = subst (λ (s : Bool). IfBoth o p (λ i k. second_counts i.bytes k.bytes ≡ s)) (sym is_second) counts;
}

-- ---- what a step over the first disk gives

pub ok_some : {T E : Type 0} (r : Result (Option T) E) (P Q : T → Type 0) → IfOk r (λ found. IfSome found P) → ((x : T) → P x → Q x)
    → IfOk r (λ found. IfSome found Q)
ok_some (Ok None) P Q p f = tt
ok_some (Ok (Some x)) P Q p f = f x p
ok_some (Err e) P Q p f = tt

pub ok_none : {T E : Type 0} (r : Result (Option T) E) (P Q : Type 0) → IfOk r (λ found. IfNone found P) → (P → Q) → IfOk r (λ found. IfNone found Q)
ok_none (Ok None) P Q p f = f p
ok_none (Ok (Some x)) P Q p f = tt
ok_none (Err e) P Q p f = tt

pub first_next : (second : Bool) (o p : Option Image) (new old : List ℕ → List (List ℕ)) (r : List ℕ) → second ≡ false
    → IfSome o (λ i. new i.bytes ≡ old i.bytes ++ r ∷ [])
    → IfBoth o p (λ i j. new (chosen second i.bytes j.bytes) ≡ old (chosen second i.bytes j.bytes) ++ r ∷ [])
first_next second None p new old r is more = tt
first_next second (Some i) None new old r is more = tt
first_next second (Some i) (Some j) new old r is more =
    let same : chosen second i.bytes j.bytes ≡ i.bytes = ap (λ (s : Bool). chosen s i.bytes j.bytes) is in
    ap new same ∙ more ∙ ap (λ (l : List ℕ). old l ++ r ∷ []) (sym same)

pub first_none : (fits : List ℕ → Bool) (second : Bool) (o p : Option Image) (given : List ℕ → List (List ℕ)) → second ≡ false
    → IfBoth o p (λ i j. second_counts i.bytes j.bytes ≡ second) → IfSome o (λ i. records fits i.bytes ≡ Ok (given i.bytes))
    → IfBoth o p (λ i j. pair_records fits i.bytes j.bytes ≡ Ok (given (chosen second i.bytes j.bytes)))
first_none fits second None p given is counts all = tt
first_none fits second (Some i) None given is counts all = tt
first_none fits second (Some i) (Some j) given is counts all =
    of_first fits i.bytes j.bytes (counts ∙ is) ∙ all ∙ ap (λ (s : Bool). Ok (given (chosen s i.bytes j.bytes))) (sym is)
