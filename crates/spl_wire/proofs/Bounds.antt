-- Changes of at most so many bytes make a record that can be written.
use Rattle.std.{specs.{Int.w8, Prelude.{Option, Some, None}}, proofs.Common.{◌≡◌, ℕ, ◌+◌, ◌≤◌, true, ◌&&◌, IsTrue, List, [], ◌∷◌, ◌++◌, length}}
use Rattle.std.proofs.{Common.{length-append, Bool, refl, subst, arith}, lemmas.Bool.{and_parts, and_from}}
use Rattle.spl_base.specs.{Form.{Form, number_bytes}, FormLaws.{wide8, wide32}, Booleans.none_is}
use Rattle.spl_agree.specs.declared.event.GroupChange.{GroupChange, TheVariants.{Queue, Refuse, Promise, Commit, Kept}}
use Rattle.spl_circuit.specs.{Forms.{node_id, definition, kind, act, word, exact_definition, exact_kind}, declared.act.Act.Act}
use Rattle.spl_circuit.specs.declared.definition.Definition.{Definition}
use Rattle.spl_command.specs.{Forms.batch, Rules.broken_batch, declared.{batch.Batch.Batch, rules.TheConstants.LONGEST_BATCH}}
use Rattle.spl_command.proofs.Valid.{bounded_from_valid}
use Rattle.spl_wire.specs.{Changes.{put_change, change_form}, Grouping.{value_in, meets, breaks_no_rule}, Bounds.{IsWritable, has_form}}
use Rattle.spl_wire.{specs.declared.change.Change.{Change, TheVariants.{Bind, Admin, Service, Abandon, Purge}}, proofs.Short.short-definition}
use Rattle.spl_wire.proofs.{Short.{short-node_id, short-kind}, Small.{short-group, short-batch}, Sizes.size-of}

-- ---- values

pub bounded-act : (v : Act) → IsTrue (has_form v) → IsTrue (act.bounded v)
bounded-act v h = let b = and_parts (node_id.fits v.node) (kind.fits v.kind) h in exact_kind.bounds v.kind b.1

pub short-act_of : (v : Act) → IsTrue (has_form v) → length (act.spell v) ≤ 3551
short-act_of v h =
    let b = and_parts (node_id.fits v.node) (kind.fits v.kind) h in
    omega (
      arith,
      short-node_id v.node b.0,
      wide32.len v.turn,
      short-kind v.kind b.1,
      length-append (node_id.spell v.node) (word.spell v.turn ++ kind.spell v.kind),
      length-append (word.spell v.turn) (kind.spell v.kind),
    )

pub bounded-batch : (v : Batch) → breaks_no_rule (Some v) ≡ true → IsTrue (batch.bounded v)
bounded-batch v h = bounded_from_valid v (none_is (broken_batch v) h)

-- ---- changes

module _ {V : Type 0} (f : Form V) where
  bounded-fields : (x : GroupChange V) → ((v : V) → value_in x ≡ Some v → IsTrue (f.bounded v)) → IsTrue (put_change f x).bounded
  bounded-fields (Queue v) h = h v refl
  bounded-fields (Refuse v why) h = and_from (f.bounded v) true (h v refl) refl
  bounded-fields (Promise r v) h = h v refl
  bounded-fields (Commit r v) h = h v refl
  bounded-fields (Kept v why) h = and_from (f.bounded v) true (h v refl) refl
  bounded-fields x h = refl

-- a change can be written, in at most so many bytes
pub record IsBrief (most : ℕ) (x : Change) : Type 0 where
  pub bounded : IsTrue (change_form.bounded x)
  pub short : length (change_form.spell x) ≤ most

met : {V : Type 0} (may : V → Bool) (o : Option V) (v : V) → meets may o ≡ true → o ≡ Some v → may v ≡ true
met may None v h e = cc
met may (Some u) v h e = let same : u ≡ v = cc in subst (λ z. may z ≡ true) same h

pub brief-bind : (d : Definition) → IsTrue (definition.fits d) → IsBrief 3513 (Bind d)
brief-bind d h = record {
  bounded = exact_definition.bounds d h;
  short = omega (arith, short-definition d h, wide8.len 1, length-append (number_bytes w8 1) (definition.spell d));
}

pub brief-admin : (x : GroupChange Act) → meets has_form (value_in x) ≡ true → IsBrief 3569 (Admin x)
brief-admin x h = record {
  bounded = bounded-fields act x (λ v e. bounded-act v (met has_form (value_in x) v h e));
  short = short-group act 3551 1 x (λ v e. short-act_of v (met has_form (value_in x) v h e));
}

pub brief-service : (x : GroupChange Batch) → breaks_no_rule (value_in x) ≡ true → IsBrief 32786 (Service x)
brief-service x h = record {
  bounded = bounded-fields batch x (λ v e. bounded-batch v (met _ (value_in x) v h e));
  short = short-group batch LONGEST_BATCH 2 x (λ v e. short-batch v (met _ (value_in x) v h e));
}

pub brief-abandon : IsBrief 1 Abandon
brief-abandon = record { bounded = refl; short = omega (arith, wide8.len 9, length-append (number_bytes w8 9) []) }

pub brief-purge : IsBrief 1 Purge
brief-purge = record { bounded = refl; short = omega (arith, wide8.len 10, length-append (number_bytes w8 10) []) }

-- ---- records

module _ (c : List ℕ) (l : length c ≤ 11) where
  pub writable-none : IsWritable c []
  writable-none = record { few = omega arith; bounded = refl; some = omega (arith, size-of c []); short = omega (arith, size-of c []) }

  pub writable-one : (most : ℕ) (x : Change) → IsBrief most x → most ≤ 65523 → IsWritable c (x ∷ [])
  writable-one most x b m = record {
    few = omega arith;
    bounded = and_from (change_form.bounded x) true b.bounded refl;
    some = omega (arith, size-of c (x ∷ []));
    short = omega (arith, b.short, size-of c (x ∷ []), length-append (change_form.spell x) []);
  }

  pub writable-two : (m n : ℕ) (x y : Change) → IsBrief m x → IsBrief n y → m + n ≤ 65523 → IsWritable c (x ∷ y ∷ [])
  writable-two m n x y b d s = record {
    few = omega arith;
    bounded = and_from (change_form.bounded x) (change_form.bounded y && true) b.bounded (and_from (change_form.bounded y) true d.bounded refl);
    some = omega (arith, size-of c (x ∷ y ∷ []));
    short = omega (
      arith,
      b.short,
      d.short,
      size-of c (x ∷ y ∷ []),
      length-append (change_form.spell x) (change_form.spell y ++ []),
      length-append (change_form.spell y) [],
    );
  }
