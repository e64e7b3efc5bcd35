-- Changes that come one by one become the byte forms of the records of their groups.
use Rattle.std.{specs.{Prelude.{nat_lt, nat_le, not, take, get_or}, List.flat_map}, proofs.Common.{◌≡◌, ◌⊎◌, ◌<◌, ◌≤◌, ℕ, ◌+◌, true, false, ◌&&◌, List, []}}
use Rattle.std.proofs.Common.{◌∷◌, ◌++◌, append_assoc, append-nil, length, length-append, refl, sym, ap, subst, ◌∙◌, inl, inr, arith}
use Rattle.std.proofs.{Math.Seq.{take-append_seam, drop-append_seam}, lemmas.{List.{take_all, take_more}, Grind.flat_map-append}}
use Rattle.spl_agree.proofs.Tests.{bool_cases, lt_is}
use Rattle.spl_wire.specs.{Changes.change_form, Forms.record_form, Grouping.{most_bytes, record_of, record_size, has_place, grouped_after, grouped}}
use Rattle.spl_wire.specs.{Grouping.{grouped_records, spelled}, Packing.{PackingView, sealed_size, is_full, taken, finished}, declared.change.Change.Change}
use Rattle.spl_wire.proofs.Sizes.{size-of}
use Rattle.spl_wire.specs.declared.record.TheConstants.{MOST_CHANGES}

-- the bytes of changes, one after the other
abbrev bytes_of : List Change → List ℕ
bytes_of xs = flat_map change_form.spell xs

-- the groups of what follows, where one is begun
abbrev pub goes_on : List ℕ → List Change → List Change → List (List Change)
goes_on c [] rest = grouped c rest
goes_on c (y ∷ ys) rest = grouped_after c (y ∷ ys) rest

-- the byte forms of the records of changes
abbrev forms : List ℕ → List (List Change) → List (List ℕ)
forms c xss = spelled (grouped_records c xss)

-- the changes that came are packed, whatever follows
pub record IsPacked (c : List ℕ) (came : List Change) (p : PackingView) : Type 0 where
  pub circuit : p.circuit ≡ c
  pub group : List Change
  pub count : p.count ≡ length group
  pub written : p.written ≡ flat_map change_form.spell group
  pub records : (rest : List Change) → spelled (grouped_records c (grouped c (came ++ rest))) ≡ p.records ++ spelled (grouped_records c (goes_on c group rest))

pub packed_none : (c : List ℕ) → IsPacked c [] (record { circuit = c; records = []; count = 0; written = [] })
packed_none c = record { circuit = refl; group = []; count = refl; written = refl; records = λ rest. refl }

-- the bytes of one change more
bytes_more : (xs : List Change) (x : Change) → bytes_of (xs ++ x ∷ []) ≡ bytes_of xs ++ change_form.spell x
bytes_more xs x = flat_map-append change_form.spell xs (x ∷ []) ∙ ap (λ (b : List ℕ). bytes_of xs ++ b) (append-nil (change_form.spell x))

-- a record that is begun is full where the change has no place in it
full_is : (c : List ℕ) (group : List Change) (x : Change) → nat_lt 0 (length group) ≡ true
    → is_full c (length group) (bytes_of group ++ change_form.spell x) ≡ not (has_place c group x)
full_is c group x some =
    let size : sealed_size c (bytes_of group ++ change_form.spell x) ≡ record_size c (group ++ x ∷ []) =
    ap (λ (b : List ℕ). sealed_size c b) (sym (bytes_more group x)) ∙ sym (size-of c (group ++ x ∷ [])) in
    rw some (ap (λ (n : ℕ). not (nat_lt (length group) MOST_CHANGES && nat_le n most_bytes)) size)

module _ (c : List ℕ) (came : List Change) (rs : List (List ℕ)) where
  abbrev Packs : List Change → Type 0
  Packs group = (rest : List Change) → forms c (grouped c (came ++ rest)) ≡ rs ++ forms c (goes_on c group rest)

  abbrev at : List Change → PackingView
  at group = record { circuit = c; records = rs; count = length group; written = bytes_of group }

  later : (x : Change) (group rest : List Change) → Packs group → forms c (grouped c ((came ++ x ∷ []) ++ rest)) ≡ rs ++ forms c (goes_on c group (x ∷ rest))
  later x group rest h = ap (λ (zs : List Change). forms c (grouped c zs)) (append_assoc came (x ∷ []) rest) ∙ h (x ∷ rest)

  -- the record that is begun, and one that the change begins
  abbrev joined : List Change → Change → PackingView
  joined group x = record { circuit = c; records = rs; count = length group + 1; written = bytes_of group ++ change_form.spell x }

  abbrev begun : List Change → Change → PackingView
  begun group x = record { circuit = c; records = rs ++ record_form.spell (record_of c group) ∷ []; count = 1; written = change_form.spell x }

  begun_is : (group : List Change) (x : Change) → is_full c (length group) (bytes_of group ++ change_form.spell x) ≡ true
      → taken (at group) (change_form.spell x) ≡ begun group x
  begun_is group x full = rw (full, take-append_seam (bytes_of group) (change_form.spell x), drop-append_seam (bytes_of group) (change_form.spell x)) refl

  joined_is : (group : List Change) (x : Change) → is_full c (length group) (bytes_of group ++ change_form.spell x) ≡ false
      → taken (at group) (change_form.spell x) ≡ joined group x
  joined_is group x full = rw full refl

  packed_one : (x : Change) (group : List Change) → Packs group → IsPacked c (came ++ x ∷ []) (taken (at group) (change_form.spell x))
  packed_one x [] h =
      record { circuit = refl; group = x ∷ []; count = refl; written = sym (append-nil (change_form.spell x)); records = λ rest. later x [] rest h }
  packed_one x (y ∷ ys) h = go (bool_cases (has_place c (y ∷ ys) x))
    where
      full : is_full c (length (y ∷ ys)) (bytes_of (y ∷ ys) ++ change_form.spell x) ≡ not (has_place c (y ∷ ys) x)
      full = full_is c (y ∷ ys) x (lt_is 0 (length (y ∷ ys)) (omega arith))

      go : (has_place c (y ∷ ys) x ≡ true) ⊎ (has_place c (y ∷ ys) x ≡ false) → IsPacked c (came ++ x ∷ []) (taken (at (y ∷ ys)) (change_form.spell x))
      go (inl q) =
          subst (λ (p : PackingView). IsPacked c (came ++ x ∷ []) p) (sym (joined_is (y ∷ ys) x (full ∙ ap not q)))
          (record {
            circuit = refl;
            group = (y ∷ ys) ++ x ∷ [];
            count = sym (length-append (y ∷ ys) (x ∷ []));
            written = sym (bytes_more (y ∷ ys) x);
            records = λ rest. later x (y ∷ ys) rest h ∙ ap (λ (zs : List (List Change)). rs ++ forms c zs) (placed rest);
          })
        where
          placed : (rest : List Change) → grouped_after c (y ∷ ys) (x ∷ rest) ≡ grouped_after c ((y ∷ ys) ++ x ∷ []) rest
          placed rest = rw q
      go (inr q) =
          subst (λ (p : PackingView). IsPacked c (came ++ x ∷ []) p) (sym (begun_is (y ∷ ys) x (full ∙ ap not q)))
          (record {
            circuit = refl;
            group = x ∷ [];
            count = refl;
            written = sym (append-nil (change_form.spell x));
            records = λ rest. later x (y ∷ ys) rest h
                ∙ (ap (λ (zs : List (List Change)). rs ++ forms c zs) (new rest)
                ∙ sym (append_assoc rs (record_form.spell (record_of c (y ∷ ys)) ∷ []) (forms c (grouped_after c (x ∷ []) rest))));
          })
        where
          new : (rest : List Change) → grouped_after c (y ∷ ys) (x ∷ rest) ≡ (y ∷ ys) ∷ grouped_after c (x ∷ []) rest
          new rest = rw q

  packed_done : (group : List Change) → Packs group → finished (at group) ≡ forms c (grouped c came)
  packed_done [] h = sym (append-nil rs) ∙ (sym (h []) ∙ ap (λ (zs : List Change). forms c (grouped c zs)) (append-nil came))
  packed_done (y ∷ ys) h =
      let some : nat_lt 0 (length (y ∷ ys)) ≡ true = lt_is 0 (length (y ∷ ys)) (omega arith) in
      rw some (sym (h []) ∙ ap (λ (zs : List Change). forms c (grouped c zs)) (append-nil came))

-- a packing has what it is given by its fields
by_fields : (Q : PackingView → Type 0) (p : PackingView) (c : List ℕ) (n : ℕ) (w : List ℕ) → p.circuit ≡ c → p.count ≡ n → p.written ≡ w
    → Q (record { circuit = c; records = p.records; count = n; written = w }) → Q p
by_fields Q p c n w circuit count written h =
    subst (λ (z : List ℕ). Q (record { circuit = z; records = p.records; count = p.count; written = p.written })) (sym circuit)
    (subst (λ (z : ℕ). Q (record { circuit = c; records = p.records; count = z; written = p.written })) (sym count)
    (subst (λ (z : List ℕ). Q (record { circuit = c; records = p.records; count = n; written = z })) (sym written) h))

packed_taken : (c : List ℕ) (came : List Change) (p : PackingView) (x : Change) → IsPacked c came p
    → IsPacked c (came ++ x ∷ []) (taken p (change_form.spell x))
packed_taken c came p x h =
    by_fields (λ (q : PackingView). IsPacked c (came ++ x ∷ []) (taken q (change_form.spell x))) p c (length h.group)
    (bytes_of h.group) h.circuit h.count h.written
    (packed_one c came p.records x h.group h.records)

packed_finished : (c : List ℕ) (came : List Change) (p : PackingView) → IsPacked c came p → finished p ≡ spelled (grouped_records c (grouped c came))
packed_finished c came p h =
    by_fields (λ (q : PackingView). finished q ≡ forms c (grouped c came)) p c (length h.group) (bytes_of h.group) h.circuit h.count h.written
    (packed_done c came p.records h.group h.records)

-- one item more of a list
pub take_next : {A : Type 0} (xs : List A) (i : ℕ) (x : A) → i < length xs → x ≡ get_or xs i x → take (i + 1) xs ≡ take i xs ++ x ∷ []
take_next xs i x more is = take_more xs i x more ∙ ap (λ y. take i xs ++ y ∷ []) (sym is)

pub packed_next : (c : List ℕ) (xs : List Change) (i : ℕ) (x : Change) (p : PackingView) → i < length xs → x ≡ get_or xs i x → IsPacked c (take i xs) p
    → IsPacked c (take (i + 1) xs) (taken p (change_form.spell x))
packed_next c xs i x p more is h =
    subst (λ (came : List Change). IsPacked c came (taken p (change_form.spell x))) (sym (take_next xs i x more is)) (packed_taken c (take i xs) p x h)

pub packed_all : (c : List ℕ) (xs : List Change) (i : ℕ) (p : PackingView) → length xs ≤ i → IsPacked c (take i xs) p
    → finished p ≡ spelled (grouped_records c (grouped c xs))
packed_all c xs i p none h = packed_finished c xs p (subst (λ (came : List Change). IsPacked c came p) (take_all i xs none) h)
