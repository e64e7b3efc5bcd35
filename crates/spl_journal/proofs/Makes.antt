-- What a journal just made holds.
use Rattle.std.{specs.Option.option_map, proofs.Common.{◌≡◌, ℕ, ◌+◌, ◌<◌, ◌^◌, List, [], ◌∷◌, ◌++◌, length, get_or, drop, Bool, Option, None, Some, IfSome}}
use Rattle.std.proofs.{Common.{Ok, refl, sym, ◌∙◌, ap, subst, arith, length-append, append_assoc}, lemmas.List.{append-nil, take_at, drop_at, drop_all}}
use Rattle.std.proofs.lemmas.List.{get_or_at}
use Rattle.spl_edge.specs.Devices.{Image, patched}
use Rattle.spl_journal.specs.Records.{IsBlank, made, magic, form_in, epoch_bytes, epoch_in, closed_head, head_fault, records, Holds, Standing}
use Rattle.spl_journal.{specs.declared.journal_form.TheConstants.WRITTEN, proofs.{Forms.{made_form, written_goes_on}, Sizes.{length-epoch_bytes, epoch_is}}}
use Rattle.spl_journal.proofs.{Pieces.prefix_first, Walks.closed, Readings.holds_own}

pub length-closed_head : (epoch : ℕ) → length (closed_head epoch) ≡ 18
length-closed_head epoch =
    omega (arith, length-append (magic ++ epoch_bytes epoch) (0 ∷ 0 ∷ []), length-append magic (epoch_bytes epoch), length-epoch_bytes epoch)

written : (head bytes : List ℕ) → bytes ≡ [] → patched bytes 0 head ≡ head
written head bytes none =
    ap (λ (l : List ℕ). patched l 0 head) none ∙ ap (λ (l : List ℕ). head ++ l) (drop_all (0 + length head) [] (omega arith)) ∙ append-nil head

size : (epoch : ℕ) → length (magic ++ epoch_bytes epoch) ≡ 16
size epoch = omega (arith, length-append magic (epoch_bytes epoch), length-epoch_bytes epoch)

opened_head : (epoch : ℕ) → patched (closed_head epoch) 16 (1 ∷ []) ≡ (magic ++ epoch_bytes epoch) ++ 1 ∷ 0 ∷ []
opened_head epoch =
    let f = magic ++ epoch_bytes epoch in
    let back : drop 17 (closed_head epoch) ≡ 0 ∷ [] =
    ap (drop 17) (sym (append_assoc f (0 ∷ []) (0 ∷ []))) ∙ drop_at (f ++ 0 ∷ []) (0 ∷ []) 17 (omega (arith, length-append f (0 ∷ []), size epoch)) in
    ap (λ (l : List ℕ). l ++ (1 ∷ []) ++ drop 17 (closed_head epoch)) (take_at f (0 ∷ 0 ∷ []) 16 (size epoch))
    ∙ ap (λ (l : List ℕ). f ++ (1 ∷ []) ++ l) back ∙ append_assoc f (1 ∷ []) (0 ∷ [])

is_made : (epoch : ℕ) (i : Image) → IsBlank i → (made (closed_head epoch) i).bytes ≡ (magic ++ epoch_bytes epoch) ++ 1 ∷ 0 ∷ []
is_made epoch i blank = ap (λ (l : List ℕ). patched l 16 (1 ∷ [])) (written (closed_head epoch) i.bytes blank.bytes) ∙ opened_head epoch

headed : (e : ℕ) → head_fault ((magic ++ epoch_bytes e) ++ 1 ∷ 0 ∷ []) ≡ None
unfolding epoch_bytes
headed e = refl

form_made : (epoch : ℕ) → form_in ((magic ++ epoch_bytes epoch) ++ 1 ∷ 0 ∷ []) ≡ Some WRITTEN
form_made epoch = ap form_in (append_assoc magic (epoch_bytes epoch) (1 ∷ 0 ∷ [])) ∙ made_form (epoch_bytes epoch ++ 1 ∷ 0 ∷ [])

stands_made : (fits : List ℕ → Bool) (epoch : ℕ) (i : Image) → IsBlank i → Holds fits 17 [] (made (closed_head epoch) i)
stands_made fits epoch i blank =
    let bytes = is_made epoch i blank in
    let f = magic ++ epoch_bytes epoch in
    let gate : get_or (made (closed_head epoch) i).bytes 17 0 ≡ 0 =
    ap (λ (l : List ℕ). get_or l 17 0) (bytes ∙ sym (append_assoc f (1 ∷ []) (0 ∷ [])))
    ∙ get_or_at (f ++ 1 ∷ []) 0 [] 0 17 (omega (arith, length-append f (1 ∷ []), size epoch)) in
    record {
      prefix = prefix_first fits (made (closed_head epoch) i).bytes (ap head_fault bytes ∙ headed epoch)
          (written_goes_on (made (closed_head epoch) i).bytes (ap form_in bytes ∙ form_made epoch));
      shut = λ one. omega (arith, gate, one);
      settled = record { same = refl; none = refl; least = refl; greatest = refl };
    }

module _ (fits : List ℕ → Bool) (epoch : ℕ) (i : Image) (blank : IsBlank i) where
  pub records_made : records fits (made (closed_head epoch) i).bytes ≡ Ok []
  records_made = let holds = stands_made fits epoch i blank in closed fits 17 [] (made (closed_head epoch) i).bytes holds.prefix holds.shut

  pub standing_made : epoch < 2 ^ 64 → Standing fits 17 18 epoch (made (closed_head epoch) i)
  standing_made small = record {
    holds = holds_own fits 17 [] (made (closed_head epoch) i) (stands_made fits epoch i blank);
    extent_is = omega (arith, ap length (is_made epoch i blank), length-append (magic ++ epoch_bytes epoch) (1 ∷ 0 ∷ []), size epoch);
    epoch_is = ap epoch_in (is_made epoch i blank) ∙ epoch_is epoch (1 ∷ 0 ∷ []) small;
    form_is = ap form_in (is_made epoch i blank) ∙ form_made epoch;
  }

pub format_stands : (fits : List ℕ → Bool) (epoch : ℕ) (told new : Option Image) (head : List ℕ) → epoch < 2 ^ 64 → head ≡ closed_head epoch
    → IfSome told IsBlank → new ≡ option_map (made head) told → IfSome new (Standing fits 17 18 epoch)
format_stands fits epoch None new head small same blank is = subst (λ (o : Option Image). IfSome o (Standing fits 17 18 epoch)) (sym is) tt
format_stands fits epoch (Some i) new head small same blank is =
    subst (λ (o : Option Image). IfSome o (Standing fits 17 18 epoch)) (sym (is ∙ ap (λ (h : List ℕ). Some (made h i)) same))
    (standing_made fits epoch i blank small)

pub format_records : (fits : List ℕ → Bool) (epoch : ℕ) (told new : Option Image) (head : List ℕ) → head ≡ closed_head epoch → IfSome told IsBlank
    → new ≡ option_map (made head) told → IfSome new (λ i. records fits i.bytes ≡ Ok [])
format_records fits epoch None new head same blank is = subst (λ (o : Option Image). IfSome o (λ i. records fits i.bytes ≡ Ok [])) (sym is) tt
format_records fits epoch (Some i) new head same blank is =
    subst (λ (o : Option Image). IfSome o (λ i. records fits i.bytes ≡ Ok [])) (sym (is ∙ ap (λ (h : List ℕ). Some (made h i)) same))
    (records_made fits epoch i blank)
