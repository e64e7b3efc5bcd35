-- The proofs that a cell gives have byte forms: no batch there breaks a rule, so the values of its state are short.
use Rattle.std.{specs.List.list_all, proofs.{Common.{◌≡◌, ◌≤◌, true, leb, IsTrue, List, [], ◌∷◌, length, refl, arith}, lemmas.Bool.{leb-true, le-leb}}}
use Rattle.std.proofs.lemmas.Bool.{and_parts, and_from}
use Rattle.spl_state.specs.{Entries.Entry, declared.address.Address.Address}
use Rattle.spl_command.{specs.{Lists.state_of, Rules.is_short, declared.{batch.Batch.Batch, rules.TheConstants.LONGEST_DATA}}, proofs.Shorts.state_short}
use Rattle.spl_proof.{specs.{Forms.proof as proof_form, Made.proof, declared.proof.{Proof.Proof, TheConstants.LONGEST_VALUE}}, proofs.Bounding.made_bounded}
use Rattle.spl_cell_rules.specs.Changes.{may_serve}

short_enough : (es : List Entry) → IsTrue (list_all (λ e. is_short e.1) es) → IsTrue (list_all (λ e. leb (length e.1) LONGEST_VALUE) es)
short_enough [] h = refl
short_enough (e ∷ es) h =
    let b = and_parts (is_short e.1) (list_all (λ f. is_short f.1) es) h in
    let few : length e.1 ≤ LONGEST_DATA = leb-true (length e.1) LONGEST_DATA b.0 in
    and_from (leb (length e.1) LONGEST_VALUE) (list_all (λ f. leb (length f.1) LONGEST_VALUE) es) (le-leb (length e.1) LONGEST_VALUE (omega (arith, few)))
    (short_enough es b.1)

pub has_form : (bs : List Batch) (a : Address) (p : Proof) → list_all may_serve bs ≡ true → p ≡ proof (state_of bs) a → IsTrue (proof_form.bounded p)
has_form bs a p lawful is =
    let short : IsTrue (proof_form.bounded (proof (state_of bs) a)) = made_bounded (state_of bs) a (short_enough (state_of bs) (state_short bs lawful)) in
    rw is short
