-- A change that has a spelling makes a small record where its batch breaks no rule.
use Rattle.std.{specs.{Int.{w8, w16, w64}, Prelude.{Option, Some, None, nat_le, is_none}}, proofs.Common.{◌≡◌, ℕ, ◌+◌, ◌≤◌, true, IsTrue, List, [], ◌∷◌}}
use Rattle.std.proofs.{Common.{◌++◌, length, length-append, refl, subst, arith}, lemmas.Bool.{leb-true, le-leb, and_parts}}
use Rattle.spl_base.specs.{Form.{Form, number_bytes}, FormLaws.{wide8, wide16}, Rules.test_at, Booleans.none_is}
use Rattle.spl_agree.specs.declared.event.GroupChange.{GroupChange, TheVariants.{Queue, Refuse, Begin, Seen, Promise, Abort, Commit, Restore, Kept}}
use Rattle.spl_circuit.specs.Forms.{circuit_id, definition, word, act}
use Rattle.spl_command.specs.{Forms.batch, Rules.{rules_of, size_of, broken_batch}, declared.{batch.Batch.Batch, rules.TheConstants.LONGEST_BATCH}}
use Rattle.spl_wire.specs.{Bodies.{long, reason_form}, Changes.{put_change, fits_change, change_form}, Forms.record_form, Grouping.{most_bytes, record_of}}
use Rattle.spl_wire.specs.{Grouping.{record_size, value_in, breaks_no_rule, is_lawful, is_small}, declared.change.Change.{Change, TheVariants.{Bind, Admin}}}
use Rattle.spl_wire.{specs.declared.change.Change.TheVariants.{Service, Abandon, Purge, Turn, Gone}, proofs.Short.{short-word, short-long, short-definition}}
use Rattle.spl_wire.proofs.Short.{short-act, short-circuit_id, short-reason}
use Rattle.spl_wire.specs.declared.record.TheConstants.{MOST_CHANGES}

pub short-batch : (b : Batch) → is_none (broken_batch b) ≡ true → length (batch.spell b) ≤ LONGEST_BATCH
short-batch b h = leb-true (size_of b) LONGEST_BATCH (test_at 5 1 (rules_of b) (none_is (broken_batch b) h))

module _ {V : Type 0} (f : Form V) where
  -- its value has a spelling where it has one
  value-fits : (x : GroupChange V) (v : V) → IsTrue (fits_change f x) → value_in x ≡ Some v → IsTrue (f.fits v)
  value-fits (Queue u) v h e = let same : u ≡ v = cc in subst (λ z. IsTrue (f.fits z)) same h
  value-fits (Refuse u why) v h e = let same : u ≡ v = cc in subst (λ z. IsTrue (f.fits z)) same (and_parts (f.fits u) (reason_form.fits why) h).0
  value-fits (Promise n u) v h e = let same : u ≡ v = cc in subst (λ z. IsTrue (f.fits z)) same (and_parts (long.fits n) (f.fits u) h).1
  value-fits (Commit n u) v h e = let same : u ≡ v = cc in subst (λ z. IsTrue (f.fits z)) same (and_parts (long.fits n) (f.fits u) h).1
  value-fits (Kept u why) v h e = let same : u ≡ v = cc in subst (λ z. IsTrue (f.fits z)) same (and_parts (f.fits u) (reason_form.fits why) h).0
  value-fits x v h e = cc

  -- the fields are little longer than the value
  short-fields : (most : ℕ) (x : GroupChange V) → ((v : V) → value_in x ≡ Some v → length (f.spell v) ≤ most) → length (put_change f x).bytes ≤ most + 16
  short-fields most (Queue v) s = omega (arith, s v refl)
  short-fields most (Refuse v why) s = omega (arith, s v refl, short-reason why, length-append (f.spell v) (reason_form.spell why))
  short-fields most (Begin n) s = omega (arith, short-long n)
  short-fields most (Seen n) s = omega (arith, short-long n)
  short-fields most (Promise n v) s = omega (arith, s v refl, short-long n, length-append (number_bytes w64 n) (f.spell v))
  short-fields most Abort s = omega arith
  short-fields most (Commit n v) s = omega (arith, s v refl, short-long n, length-append (number_bytes w64 n) (f.spell v))
  short-fields most (Restore n t) s = omega (arith, short-long n, short-long t, length-append (number_bytes w64 n) (number_bytes w64 t))
  short-fields most (Kept v why) s = omega (arith, s v refl, short-reason why, length-append (f.spell v) (reason_form.spell why))

  pub short-group : (most group : ℕ) (x : GroupChange V) → ((v : V) → value_in x ≡ Some v → length (f.spell v) ≤ most)
      → length (number_bytes w8 (put_change f x).tag ++ (number_bytes w8 group ++ (put_change f x).bytes)) ≤ most + 18
  short-group most group x s =
      let c = put_change f x in
      omega (
        arith,
        short-fields most x s,
        wide8.len c.tag,
        wide8.len group,
        length-append (number_bytes w8 c.tag) (number_bytes w8 group ++ c.bytes),
        length-append (number_bytes w8 group) c.bytes,
      )

-- ---- all changes

pub lawful-value : (o : Option Batch) (b : Batch) → breaks_no_rule o ≡ true → o ≡ Some b → is_none (broken_batch b) ≡ true
lawful-value (Some u) b h e = let same : u ≡ b = cc in subst (λ (z : Batch). is_none (broken_batch z) ≡ true) same h
lawful-value None b h e = cc

short-change : (x : Change) → IsTrue (change_form.fits x) → is_lawful x ≡ true → length (change_form.spell x) ≤ 32786
short-change (Bind d) h l = omega (arith, short-definition d h, wide8.len 1, length-append (number_bytes w8 1) (definition.spell d))
short-change (Admin x) h l = omega (arith, short-group act 3551 1 x (λ v e. short-act v (value-fits act x v h e)))
short-change (Service x) h l = short-group batch LONGEST_BATCH 2 x (λ v e. short-batch v (lawful-value (value_in x) v l e))
short-change Abandon h l = omega (arith, wide8.len 9, length-append (number_bytes w8 9) [])
short-change Purge h l = omega (arith, wide8.len 10, length-append (number_bytes w8 10) [])
short-change (Turn n) h l = omega (arith, short-word n h, wide8.len 13, length-append (number_bytes w8 13) (word.spell n))
short-change (Gone n) h l = omega (arith, short-word n h, wide8.len 14, length-append (number_bytes w8 14) (word.spell n))

pub small-change : (c : List ℕ) (x : Change) → IsTrue (record_form.fits (record_of c (x ∷ []))) → is_lawful x ≡ true → is_small c x ≡ true
small-change c x h l =
    let b = and_parts (circuit_id.fits c) _ h in
    let own : IsTrue (change_form.fits x) = (and_parts (change_form.fits x) true (and_parts (nat_le 1 MOST_CHANGES) _ b.1).1).0 in
    let all = number_bytes w16 1 ++ (change_form.spell x ++ []) in
    le-leb (record_size c (x ∷ [])) most_bytes
    (omega (
      arith,
      short-change x own l,
      short-circuit_id c b.0,
      wide16.len 1,
      length-append c all,
      length-append (number_bytes w16 1) (change_form.spell x ++ []),
      length-append (change_form.spell x) [],
    ))
