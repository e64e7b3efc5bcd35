-- How a walk over a journal goes on.
use Rattle.std.{specs.Result.result_unwrap_or, proofs.Common.{◌≡◌, ◌≢◌, ℕ, ◌+◌, ◌<◌, ◌≤◌, List, [], ◌∷◌, ◌++◌, length, get_or, take, drop, Bool, true, false}}
use Rattle.std.proofs.Common.{Option, None, Some, IfSome, Result, Ok, Err, refl, sym, ◌∙◌, ap, subst, arith, length-take, length-append}
use Rattle.std.proofs.lemmas.List.{take_at, get_or_at}
use Rattle.spl_edge.specs.Devices.{Image, IsSettled}
use Rattle.spl_journal.specs.Records.{form_in, is_last, is_older, longest_in, walk, walk_after, records, records_of, records_before, head_fault, epoch_fault}
use Rattle.spl_journal.specs.{Records.{is_block, epoch_in, IsRecord, IsPrefix, Holds, Standing, Walking}, Reads.{IsNext, EndsAt}}
use Rattle.spl_journal.{specs.declared.journal_form.JournalForm.JournalForm, proofs.Forms.{longest_of, written_form, not_last, goes_on, ends_here}}
use Rattle.spl_journal.proofs.{Forms.same_epoch_fault, Walks.{closed, broken, prefix_more, prefix_same}, Pieces.{lift1, lift2, head_room, prefix_first}}

-- the records before a gate
pub before_is : (fits : List ℕ → Bool) (at : ℕ) (rs : List (List ℕ)) (bytes : List ℕ) → IsPrefix fits at rs bytes → records_before fits at bytes ≡ rs
before_is fits at rs bytes prefix =
    ap (λ (r : Result (List (List ℕ)) ℕ). result_unwrap_or r [])
    (closed fits at rs c (prefix_same fits at rs bytes c prefix (take_at (take at bytes) (0 ∷ []) at long) room) shut)
  where
    c : List ℕ
    c = take at bytes ++ 0 ∷ []

    long : length (take at bytes) ≡ at
    long = omega (arith, length-take at bytes, prefix.room)

    room : at < length c
    room = omega (arith, long, length-append (take at bytes) (0 ∷ []))

    shut : get_or c at 0 ≢ 1
    shut one = let nought : get_or c at 0 ≡ 0 = get_or_at (take at bytes) 0 [] 0 at long in omega (arith, nought, one)

pub before_first : (fits : List ℕ → Bool) (bytes : List ℕ) → head_fault bytes ≡ None → records_before fits 17 bytes ≡ []
before_first fits bytes head = by (epoch_fault bytes) refl
  where
    c : List ℕ
    c = take 17 bytes ++ 0 ∷ []

    size : length (take 17 bytes) ≡ 17
    size = omega (arith, length-take 17 bytes, head_room bytes head)

    none : (h : Option ℕ) (n : ℕ) (found : Result (List (List ℕ)) ℕ) → result_unwrap_or (walk_after h (walk_after (Some n) found)) [] ≡ []
    none None n found = refl
    none (Some at) n found = refl

    by : (o : Option ℕ) → epoch_fault bytes ≡ o → records_before fits 17 bytes ≡ []
    by None is = before_is fits 17 [] bytes (prefix_first fits bytes head is)
    by (Some n) is =
        let found = walk (longest_in c) fits (length c) 17 (drop 17 c) in
        ap (λ (o : Option ℕ). result_unwrap_or (walk_after (head_fault c) (walk_after o found)) [])
        (same_epoch_fault bytes c (take_at (take 17 bytes) (0 ∷ []) 17 size) ∙ is)
        ∙ none (head_fault c) n found

pub walk_given : (fits : List ℕ → Bool) (told : Option Image) → IfSome told (λ i. head_fault i.bytes ≡ None)
    → IfSome told (λ i. records_before fits 17 i.bytes ≡ [])
walk_given fits told head = lift1 told (λ i. head_fault i.bytes ≡ None) (λ i. records_before fits 17 i.bytes ≡ []) head (λ i h. before_first fits i.bytes h)

pub walk_start : (fits : List ℕ → Bool) (told : Option Image) (extent epoch : ℕ) (form : JournalForm) → IfSome told IsSettled
    → IfSome told (λ i. head_fault i.bytes ≡ None)
    → IfSome told (λ i. epoch ≡ epoch_in i.bytes) → IfSome told (λ i. form_in i.bytes ≡ Some form) → IfSome told (λ i. extent ≡ length i.bytes)
    → IfSome told (Walking fits 17 extent epoch form false)
walk_start fits None extent epoch form settled head is_epoch is_form is_extent = tt
walk_start fits (Some i) extent epoch form settled head is_epoch is_form is_extent = record {
  form_is = is_form;
  head = head;
  prefix = λ more. subst (λ (rs : List (List ℕ)). IsPrefix fits 17 rs i.bytes) (sym (before_first fits i.bytes head))
      (prefix_first fits i.bytes head (goes_on i.bytes form epoch is_form (sym is_epoch) more));
  shut = λ ended. cc;
  extent_is = sym is_extent;
  epoch_is = sym is_epoch;
  settled = settled;
}

module _ (fits : List ℕ → Bool) (at extent epoch : ℕ) (form : JournalForm) (ended : Bool) (r : List ℕ) (after : ℕ) (place : after ≡ at + 5 + length r)
    (told : Option Image) (more : is_last form epoch ≡ false) (walking : IfSome told (Walking fits at extent epoch form ended))
    (next : IfSome told (λ i. at < length i.bytes → IsNext form.longest fits at r i.bytes)) where
  further : (i : Image) → Walking fits at extent epoch form ended i → (at < length i.bytes → IsNext form.longest fits at r i.bytes)
      → IsPrefix fits after (records_before fits at i.bytes ++ r ∷ []) i.bytes
  further i w n =
      let prefix = w.prefix more in let here = n prefix.room in
      subst (λ (m : ℕ). IsPrefix fits m (records_before fits at i.bytes ++ r ∷ []) i.bytes) (sym place)
      (prefix_more fits at (records_before fits at i.bytes) i.bytes r prefix
      (subst (λ (m : ℕ). IsRecord m fits r) (sym (longest_of i.bytes form w.form_is)) here.good) here.block_is here.room)

  pub walk_gave : IfSome told (λ i. records_before fits after i.bytes ≡ records_before fits at i.bytes ++ r ∷ [])
  walk_gave =
      lift2 told (Walking fits at extent epoch form ended) (λ i. at < length i.bytes → IsNext form.longest fits at r i.bytes)
      (λ i. records_before fits after i.bytes ≡ records_before fits at i.bytes ++ r ∷ []) walking next
      (λ i w n. before_is fits after (records_before fits at i.bytes ++ r ∷ []) i.bytes (further i w n))

  pub walk_more : IfSome told (Walking fits after extent epoch form false)
  walk_more =
      lift2 told (Walking fits at extent epoch form ended) (λ i. at < length i.bytes → IsNext form.longest fits at r i.bytes)
      (Walking fits after extent epoch form false) walking next
      (λ i w n. record {
        form_is = w.form_is;
        head = w.head;
        prefix = λ goes. subst (λ (rs : List (List ℕ)). IsPrefix fits after rs i.bytes)
            (sym (before_is fits after (records_before fits at i.bytes ++ r ∷ []) i.bytes (further i w n))) (further i w n);
        shut = λ ended. cc;
        extent_is = w.extent_is;
        epoch_is = w.epoch_is;
        settled = w.settled;
      })

  -- a record that ends past the disk is none
  pub walk_out : (k : ℕ) → extent ≤ after → IfSome told (λ i. records fits i.bytes ≡ Err k)
  walk_out k past =
      lift2 told (Walking fits at extent epoch form ended) (λ i. at < length i.bytes → IsNext form.longest fits at r i.bytes)
      (λ i. records fits i.bytes ≡ Err k) walking next
      (λ i w n. let prefix = w.prefix more in let here = n prefix.room in absurd (omega (arith, here.room, w.extent_is, place, past)))

module _ (fits : List ℕ → Bool) (at extent epoch : ℕ) (form : JournalForm) (ended : Bool) (told : Option Image) (more : is_last form epoch ≡ false)
    (walking : IfSome told (Walking fits at extent epoch form ended)) where
  pub walk_end : IfSome told (EndsAt at) → IfSome told (Walking fits at extent epoch form true)
  walk_end ends = lift2 told (Walking fits at extent epoch form ended) (EndsAt at) (Walking fits at extent epoch form true) walking ends
      (λ i w e. let prefix = w.prefix more in
      record {
        form_is = w.form_is;
        head = w.head;
        prefix = w.prefix;
        shut = λ yes. e prefix.room;
        extent_is = w.extent_is;
        epoch_is = w.epoch_is;
        settled = w.settled;
      })

  pub walk_all : IfSome told (EndsAt at) → IfSome told (λ i. records fits i.bytes ≡ Ok (records_before fits at i.bytes))
  walk_all ends =
      lift2 told (Walking fits at extent epoch form ended) (EndsAt at) (λ i. records fits i.bytes ≡ Ok (records_before fits at i.bytes)) walking ends
      (λ i w e. let prefix = w.prefix more in closed fits at (records_before fits at i.bytes) i.bytes prefix (e prefix.room))

  pub walk_broken : IfSome told (λ i. at < length i.bytes → (get_or i.bytes at 0 ≡ 1) × (is_block form.longest fits (drop at i.bytes) ≡ false))
      → IfSome told (λ i. records fits i.bytes ≡ Err at)
  walk_broken breaks =
      lift2 told (Walking fits at extent epoch form ended)
      (λ i. at < length i.bytes → (get_or i.bytes at 0 ≡ 1) × (is_block form.longest fits (drop at i.bytes) ≡ false))
      (λ i. records fits i.bytes ≡ Err at) walking breaks
      (λ i w b. let prefix = w.prefix more in let here = b prefix.room in
      broken fits at (records_before fits at i.bytes) i.bytes prefix here.0
      (ap (λ (m : ℕ). is_block m fits (drop at i.bytes)) (longest_of i.bytes form w.form_is) ∙ here.1))

-- the last epoch of an older form
pub walk_last : (fits : List ℕ → Bool) (at extent epoch : ℕ) (form : JournalForm) (ended : Bool) (told : Option Image) → is_last form epoch ≡ true
    → IfSome told (Walking fits at extent epoch form ended) → IfSome told (λ i. records fits i.bytes ≡ Err 8)
walk_last fits at extent epoch form ended told last walking = lift1 told (Walking fits at extent epoch form ended) (λ i. records fits i.bytes ≡ Err 8) walking
    (λ i w.
    let found = walk (longest_in i.bytes) fits (length i.bytes) 17 (drop 17 i.bytes) in
    ap (λ (h : Option ℕ). walk_after h (walk_after (epoch_fault i.bytes) found)) w.head
    ∙ ap (λ (h : Option ℕ). walk_after h found) (ends_here i.bytes form epoch w.form_is w.epoch_is last))

-- a journal with records of its own bytes
pub holds_own : (fits : List ℕ → Bool) (at : ℕ) (rs : List (List ℕ)) (i : Image) → Holds fits at rs i → Holds fits at (records_of fits i.bytes) i
holds_own fits at rs i holds =
    subst (λ (l : List (List ℕ)). Holds fits at l i)
    (sym (ap (λ (r : Result (List (List ℕ)) ℕ). result_unwrap_or r []) (closed fits at rs i.bytes holds.prefix holds.shut))) holds

pub walk_holds : (fits : List ℕ → Bool) (at extent epoch : ℕ) (form : JournalForm) (ended : Bool) → ended ≡ true → (i : Image)
    → Walking fits at extent epoch form ended i → is_last form epoch ≡ false → Holds fits at (records_of fits i.bytes) i
walk_holds fits at extent epoch form ended is i w more =
    holds_own fits at (records_before fits at i.bytes) i (record { prefix = w.prefix more; shut = w.shut is; settled = w.settled })

pub walk_stands : (fits : List ℕ → Bool) (at extent epoch : ℕ) (form : JournalForm) (ended : Bool) → ended ≡ true → is_older form ≡ false → (i : Image)
    → Walking fits at extent epoch form ended i → Standing fits at extent epoch i
walk_stands fits at extent epoch form ended is new i w = record {
  holds = walk_holds fits at extent epoch form ended is i w (not_last form epoch new);
  extent_is = w.extent_is;
  epoch_is = w.epoch_is;
  form_is = w.form_is ∙ ap (λ (f : JournalForm). Some f) (written_form i.bytes form w.form_is new);
}
