-- A proof of a state whose values are short has a byte form.
use Rattle.std.{specs.{Prelude.{filter, if◌then◌else◌}, List.list_all}, proofs.Common.{◌≡◌, ℕ, Bool, true, false, ◌&&◌, leb, IsTrue, List, [], ◌∷◌, length}}
use Rattle.std.proofs.{Common.refl, lemmas.Bool.{and_parts, and_from}}
use Rattle.spl_state.specs.{Entries.Entry, Root.{digits_of, agrees, under}, declared.address.Address.Address}
use Rattle.spl_proof.specs.{Forms.{end, proof as proof_form}, Made.{depth, under_first, end_of, proof}, declared.proof.TheConstants.LONGEST_VALUE}

abbrev is_short : Entry → Bool
is_short e = leb (length e.1) LONGEST_VALUE

kept : (p q : Entry → Bool) (es : List Entry) → IsTrue (list_all p es) → IsTrue (list_all p (filter q es))
kept p q [] h = refl
kept p q (e ∷ es) h = go (q e) (kept p q es b.1)
  where
    b : IsTrue (p e) × IsTrue (list_all p es)
    b = and_parts (p e) (list_all p es) h

    go : (t : Bool) → IsTrue (list_all p (filter q es)) → IsTrue (list_all p (if t then (e ∷ filter q es) else filter q es))
    go true rest = and_from (p e) (list_all p (filter q es)) b.0 rest
    go false rest = rest

end_bounded : (es : List Entry) → IsTrue (list_all is_short es) → IsTrue (end.bounded (end_of es))
end_bounded [] h = refl
end_bounded (e ∷ es) h = (and_parts (is_short e) (list_all is_short es) h).0

pub made_bounded : (m : List Entry) (a : Address) → IsTrue (list_all is_short m) → IsTrue (proof_form.bounded (proof m a))
made_bounded m a h = end_bounded (under_first (depth a m) a m) (kept is_short (λ e. agrees 0 (digits_of (depth a m) 0 a.0) e.0.0) m h)
