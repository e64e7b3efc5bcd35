-- The length of a record's byte form.
use Rattle.std.{specs.{Prelude.◌==◌, Int.w16, List.flat_map}, proofs.Common.{◌≡◌, ℕ, ◌+◌, ◌++◌, List, length, length-append, IsTrue, arith}}
use Rattle.spl_base.specs.{Form.number_bytes, FormLaws.{wide16, both_true}, Ids.is_circuit_id}
use Rattle.spl_agree.proofs.Tests.{eqb_is}
use Rattle.spl_wire.specs.{Changes.change_form, Grouping.record_size, declared.change.Change.Change}

pub size-of : (c : List ℕ) (xs : List Change) → record_size c xs ≡ length c + 2 + length (flat_map change_form.spell xs)
size-of c xs =
    let spelled = flat_map change_form.spell xs in
    omega (arith, wide16.len (length xs), length-append c (number_bytes w16 (length xs) ++ spelled), length-append (number_bytes w16 (length xs)) spelled)

pub id_length : (c : List ℕ) → IsTrue (is_circuit_id c) → length c ≡ 11
id_length c h = eqb_is (length c) 11 (both_true (length c == 11) _ (both_true _ _ (both_true _ _ h).0).0).0
