-- What is read of a journal.
use Rattle.std.proofs.Common.{◌≡◌, ⊎_elim, ℕ, ◌+◌, ◌-◌, ◌<◌, ◌≤◌, ◌^◌, min, List, [], ◌∷◌, ◌++◌, length, get_or, take, drop, Bool, true, false, nat_le}
use Rattle.std.proofs.Common.{is_some, ◌&&◌, ◌==◌, if◌then◌else◌, Option, None, Some, IfSome, Err, refl, sym, ◌∙◌, ap, subst, arith, length-take}
use Rattle.std.proofs.lemmas.{List.{append-nil, take_all, take_min, take-take, drop-take, drop-drop, get_or-take, get_or-drop, drop_more}, Bool.cases_lt}
use Rattle.std.proofs.lemmas.Bool.Decides.{nat_tests}
use Rattle.spl_edge.specs.Devices.{Image, SamePast, DiskView, image_now}
use Rattle.spl_journal.specs.Records.{form_in, longest_in, size_bytes, size_from, size_at, record_at, is_block, head_fault, epoch_fault, walk, walk_after}
use Rattle.spl_journal.specs.{Records.{records, epoch_from, epoch_in, IsPrefix}, Reads.{Stays, IsNext}, declared.journal_form.JournalForm.JournalForm}
use Rattle.spl_journal.proofs.{Forms.{same_fault, same_form}, Walks.take_add}

-- what is so of an item is so of the one that is there
pub given_of : {A : Type 0} (P : A → Type 0) (o : Option A) (x : A) → o ≡ Some x → IfSome o P → P x
given_of P None x is h = cc
given_of P (Some y) x is h = let same : y ≡ x = cc in subst P same h

le_same : (a b c : ℕ) → (a ≤ b → a ≤ c) → (a ≤ c → a ≤ b) → nat_le a b ≡ nat_le a c
le_same a b c to from = ⊎_elim
    (λ (lt : b < a). no_le a b lt ∙ sym (no_le a c (⊎_elim (λ (l : c < a). l) (λ (le : a ≤ c). absurd (omega (arith, from le, lt))) (cases_lt c a))))
    (λ (le : a ≤ b). yes_le a b le ∙ sym (yes_le a c (to le)))
    (cases_lt b a)
  where
    no_le : (x y : ℕ) → y < x → nat_le x y ≡ false
    no_le x y lt = grind (arith, nat_tests)

    yes_le : (x y : ℕ) → x ≤ y → nat_le x y ≡ true
    yes_le x y le = grind (arith, nat_tests)

head_fault_prefix : (image : List ℕ) → head_fault (take 18 image) ≡ head_fault image
head_fault_prefix image =
    let size : length (take 18 image) ≡ min 18 (length image) = length-take 18 image in
    let long : nat_le 18 (length (take 18 image)) ≡ nat_le 18 (length image) =
    le_same 18 (length (take 18 image)) (length image) (λ l. omega (arith, size, l)) (λ l. omega (arith, size, l)) in
    same_fault image (take 18 image) (take-take 17 18 image (omega arith)) long

-- what is read of a head
read_whole : (i : Image) (got : ℕ) (buf : List ℕ) → (got ≡ min (length buf) (length i.bytes - 0)) × (take got buf ≡ take got (drop 0 i.bytes))
    → length buf ≡ 18 → take got buf ≡ take 18 i.bytes
read_whole i got buf read long =
    let size : got ≡ min 18 (length i.bytes) = omega (arith, read.0, long) in
    read.1 ∙ ap (λ (n : ℕ). take n i.bytes) size ∙ take_min 18 i.bytes

pub head_read : (told : Option Image) (got : ℕ) (buf : List ℕ) (x : Option ℕ)
    → IfSome told (λ i. (got ≡ min (length buf) (length i.bytes - 0)) × (take got buf ≡ take got (drop 0 i.bytes))) → length buf ≡ 18
    → head_fault (take got buf) ≡ x
    → IfSome told (λ i. head_fault i.bytes ≡ x)
head_read None got buf x read long is = tt
head_read (Some i) got buf x read long is = sym (head_fault_prefix i.bytes) ∙ ap head_fault (sym (read_whole i got buf read long)) ∙ is

pub form_read : (told : Option Image) (got : ℕ) (buf : List ℕ) (form : JournalForm)
    → IfSome told (λ i. (got ≡ min (length buf) (length i.bytes - 0)) × (take got buf ≡ take got (drop 0 i.bytes))) → length buf ≡ 18
    → form_in (take got buf) ≡ Some form
    → IfSome told (λ i. form_in i.bytes ≡ Some form)
form_read None got buf form read long is = tt
form_read (Some i) got buf form read long is =
    sym (same_form i.bytes (take 18 i.bytes) (take-take 17 18 i.bytes (omega arith))) ∙ ap form_in (sym (read_whole i got buf read long)) ∙ is

pub lift2 : (o : Option Image) (P Q R : Image → Type 0) → IfSome o P → IfSome o Q → ((i : Image) → P i → Q i → R i) → IfSome o R
lift2 None P Q R p q f = tt
lift2 (Some i) P Q R p q f = f i p q

and_last : (a b c d : Bool) → d ≡ false → (a && (b && (c && d))) ≡ false
and_last true true true d is = is
and_last true true false d is = refl
and_last true false c d is = refl
and_last false b c d is = refl

module _ (longest : ℕ) (fits : List ℕ → Bool) (at : ℕ) (bytes start rec r : List ℕ) (got more size : ℕ)
    (read : (got ≡ min (length start) (length bytes - at)) × (take got start ≡ take got (drop at bytes))) (five : length start ≡ 5) (whole : 5 ≤ got)
    (open_gate : get_or start 0 0 ≡ 1) (is_size : size ≡ size_from (drop 1 start))
    (reads : (more ≡ min (length rec) (length bytes - (at + 5))) × (take more rec ≡ take more (drop (at + 5) bytes))) (long : length rec ≡ size + 1)
    (full : size + 1 ≤ more)
    (is : r ≡ take size rec) where
  start_is : start ≡ take 5 (drop at bytes)
  start_is =
      let n : got ≡ 5 = omega (arith, read.0, five, whole) in
      sym (take_all 5 start (omega (arith, five))) ∙ ap (λ (m : ℕ). take m start) (sym n) ∙ read.1 ∙ ap (λ (m : ℕ). take m (drop at bytes)) n

  size_is : size_at (drop at bytes) ≡ size
  size_is = sym (is_size ∙ ap size_from (ap (drop 1) start_is ∙ drop-take 1 4 (drop at bytes)))

  rec_is : r ≡ take size (drop 5 (drop at bytes))
  rec_is =
      let n : more ≡ size + 1 = omega (arith, reads.0, long, full) in
      is ∙ sym (take-take size (size + 1) rec (omega arith))
      ∙ ap (take size) (ap (λ (m : ℕ). take m rec) (sym n) ∙ reads.1 ∙ ap (λ (m : ℕ). take m (drop (at + 5) bytes)) n)
      ∙ take-take size (size + 1) (drop (at + 5) bytes) (omega arith)
      ∙ ap (take size) (sym (drop-drop 5 at bytes))

  pub gate_read : get_or bytes at 0 ≡ 1
  gate_read =
      let place : at + 0 ≡ at = omega arith in
      sym (ap (λ (n : ℕ). get_or bytes n 0) place) ∙ sym (get_or-drop at bytes 0 0) ∙ sym (get_or-take 5 (drop at bytes) 0 0 (omega arith))
      ∙ ap (λ (l : List ℕ). get_or l 0 0) (sym start_is) ∙ open_gate

  pub not_fit : fits r ≡ false → is_block longest fits (drop at bytes) ≡ false
  not_fit out =
      and_last (nat_le 1 (size_at (drop at bytes))) (nat_le (size_at (drop at bytes)) longest)
      (nat_le (size_at (drop at bytes) + 6) (length (drop at bytes))) (fits (record_at (drop at bytes)))
      (ap fits (ap (λ (m : ℕ). take m (drop 5 (drop at bytes))) size_is ∙ sym rec_is) ∙ out)

  pub next_is : 1 ≤ size → size ≤ longest → size_bytes size ≡ drop 1 start → fits r ≡ true → IsNext longest fits at r bytes
  next_is some most tail_is fit =
      let n : more ≡ size + 1 = omega (arith, reads.0, long, full) in
      let size_r : length r ≡ size = omega (arith, ap length is, length-take size rec, long) in
      let tail : size_bytes (length r) ≡ drop 1 start = ap size_bytes size_r ∙ tail_is in
      let head : start ≡ 1 ∷ drop 1 start = drop_more start 0 0 (omega (arith, five)) ∙ ap (λ (m : ℕ). m ∷ drop 1 start) open_gate in
      record {
        good = record { some = omega (arith, size_r, some); most = omega (arith, size_r, most); fits_form = fit };
        block_is =
            take_add 5 (length r) (drop at bytes)
            ∙ ap (λ (l : List ℕ). l ++ take (length r) (drop 5 (drop at bytes))) (sym start_is ∙ head ∙ ap (λ (l : List ℕ). 1 ∷ l) (sym tail))
            ∙ ap (λ (l : List ℕ). (1 ∷ size_bytes (length r)) ++ l) (ap (λ (m : ℕ). take m (drop 5 (drop at bytes))) size_r ∙ sym rec_is);
        room = omega (arith, reads.0, n, size_r, long);
      }

pub head_room : (bytes : List ℕ) → head_fault bytes ≡ None → 17 < length bytes
head_room bytes head = ⊎_elim
    (λ (lt : 17 < length bytes). lt)
    (λ (le : length bytes ≤ 17). absurd
    (none_some (sym head ∙ ap (λ (b : Bool). if (b && is_some (form_in bytes)) then (if get_or bytes 16 0 == 1 then None else Some 16) else Some 0)
    (short (length bytes) le))))
    (cases_lt 17 (length bytes))
  where
    short : (n : ℕ) → n ≤ 17 → nat_le 18 n ≡ false
    short n le = grind (arith, nat_tests)

    none_some : ◌≡◌ {A = Option ℕ} None (Some 0) → ⊥
    none_some e = cc

pub prefix_first : (fits : List ℕ → Bool) (bytes : List ℕ) → head_fault bytes ≡ None → epoch_fault bytes ≡ None → IsPrefix fits 17 [] bytes
prefix_first fits bytes head epoch =
    record { head = head; epoch = epoch; good = tt; prefix = sym (append-nil (take 17 bytes)); place = omega arith; room = head_room bytes head }

pub lift1 : (o : Option Image) (P R : Image → Type 0) → IfSome o P → ((i : Image) → P i → R i) → IfSome o R
lift1 None P R p f = tt
lift1 (Some i) P R p f = f i p

-- reads go on
pub stays_more : (x y z : DiskView) → Stays x y → Stays y z → Stays x z
stays_more x y z a b = record {
  past = λ t le. b.past t (omega (arith, le, a.later)) ∙ a.past t le;
  still = λ k low high. ⊎_elim
      (λ (lt : k < y.moment). b.past k (omega (arith, lt)) ∙ a.still k low (omega (arith, lt)))
      (λ (le : y.moment ≤ k). b.still k le high ∙ a.still y.moment a.later (omega arith))
      (cases_lt k y.moment);
  later = omega (arith, a.later, b.later);
}

pub stays_none : (x : DiskView) → Stays x x
stays_none x =
    record { past = λ t le. refl; still = λ k low high. let same : k ≡ x.moment = omega (arith, low, high) in ap x.image_at same; later = omega arith }

pub stays_call : (x y : DiskView) → SamePast x y → y.moment ≡ min (x.moment + 1) (2 ^ 64 - 1) → x.moment ≤ y.moment → image_now y ≡ image_now x → Stays x y
stays_call x y past tick later same = record {
  past = past;
  still = λ k low high. ⊎_elim
      (λ (lt : x.moment < k). let here : k ≡ y.moment = omega arith in ap y.image_at here ∙ same)
      (λ (le : k ≤ x.moment). let here : k ≡ x.moment = omega arith in past k le ∙ ap x.image_at here)
      (cases_lt x.moment k);
  later = later;
}

pub epoch_read : (told : Option Image) (got : ℕ) (buf : List ℕ)
    → IfSome told (λ i. (got ≡ min (length buf) (length i.bytes - 0)) × (take got buf ≡ take got (drop 0 i.bytes))) → length buf ≡ 18
    → IfSome told (λ i. head_fault i.bytes ≡ None)
    → (n : ℕ) → n ≡ epoch_from (take 8 (drop 8 buf)) → IfSome told (λ i. n ≡ epoch_in i.bytes)
epoch_read told got buf read long head n is =
    lift2 told (λ i. (got ≡ min (length buf) (length i.bytes - 0)) × (take got buf ≡ take got (drop 0 i.bytes))) (λ i. head_fault i.bytes ≡ None)
    (λ i. n ≡ epoch_in i.bytes) read head
    (λ i r h.
    let room = head_room i.bytes h in
    let size : got ≡ 18 = omega (arith, r.0, long, room) in
    let same : buf ≡ take 18 i.bytes =
    sym (take_all 18 buf (omega (arith, long))) ∙ ap (λ (m : ℕ). take m buf) (sym size) ∙ r.1 ∙ ap (λ (m : ℕ). take m i.bytes) size in
    is ∙ ap (λ (l : List ℕ). epoch_from (take 8 l)) (ap (drop 8) same ∙ drop-take 8 10 i.bytes) ∙ ap epoch_from (take-take 8 10 (drop 8 i.bytes) (omega arith)))

pub head_records : (fits : List ℕ → Bool) (told : Option Image) (at : ℕ) → IfSome told (λ i. head_fault i.bytes ≡ Some at)
    → IfSome told (λ i. records fits i.bytes ≡ Err at)
head_records fits told at fault =
    lift1 told (λ i. head_fault i.bytes ≡ Some at) (λ i. records fits i.bytes ≡ Err at) fault
    (λ i f. ap (λ (h : Option ℕ). walk_after h (walk_after (epoch_fault i.bytes) (walk (longest_in i.bytes) fits (length i.bytes) 17 (drop 17 i.bytes)))) f)
