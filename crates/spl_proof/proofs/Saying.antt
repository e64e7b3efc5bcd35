-- The end of a state's proof says what the state has; an end says one thing of an address.
use Rattle.std.{specs.{Map.lookup, BTreeMap.is_at, Ordering.is_eq, Cmp.tied_itself}, proofs.Common.{◌≡◌, ◌≢◌, ℕ, Bool, true, false, cond, List, [], ◌∷◌}}
use Rattle.std.proofs.Common.{Option, Some, None, refl, sym, ap, subst, ◌∙◌}
use Rattle.spl_state.specs.{Entries.{Entry, address_cmp}, Root.{digits_of, agrees}, Order.{address_order, one_address, tied}}
use Rattle.spl_state.specs.declared.address.Address.{Address}
use Rattle.spl_proof.specs.{Accepted.Says, Made.{at_most_one, under_first, end_of}, declared.proof.End.{End, TheVariants.{Empty, Leaf}}}
use Rattle.spl_proof.proofs.Digits.{agrees_itself, agrees_digits}

abbrev value : Address → List Entry → Option (List ℕ)
value a m = lookup (is_at (address_cmp a)) m

same_one : (a b : Address) → is_eq (address_cmp a b) ≡ true → b ≡ a
same_one a b h = sym (one_address a b (tied (address_cmp a b) h))

other_one : (a b : Address) → is_eq (address_cmp a b) ≡ false → b ≢ a
other_one a b h = λ e. let both : true ≡ false = sym (ap is_eq (tied_itself address_order a)) ∙ ap (λ x. is_eq (address_cmp a x)) (sym e) ∙ h in cc

-- where no entry has the first digits of an address, none has the address
none_found : (n : ℕ) (a : Address) (m : List Entry) → under_first n a m ≡ [] → value a m ≡ None
none_found n a [] h = refl
none_found n a (e ∷ m) h = by (agrees 0 (digits_of n 0 a.0) e.0.0) (is_eq (address_cmp a e.0)) refl refl (none_found n a m) h
  where
    by : (s t : Bool) → agrees 0 (digits_of n 0 a.0) e.0.0 ≡ s → is_eq (address_cmp a e.0) ≡ t → (under_first n a m ≡ [] → value a m ≡ None)
        → cond s (e ∷ under_first n a m) (under_first n a m) ≡ [] → cond t (Some e.1) (value a m) ≡ None
    by true t at is next none = absurd cc
    by false true at is next none =
        let not : true ≡ false = sym (agrees_itself n 0 a.0) ∙ ap (λ x. agrees 0 (digits_of n 0 a.0) x.0) (sym (same_one a e.0 is)) ∙ at in
        absurd cc
    by false false at is next none = next none

no_more : (e : Entry) (es : List Entry) → at_most_one (e ∷ es) ≡ true → es ≡ []
no_more e [] h = refl
no_more e (f ∷ es) h = absurd cc

pub state_says : (n : ℕ) (a : Address) (m : List Entry) → at_most_one (under_first n a m) ≡ true → Says (value a m) n a (end_of (under_first n a m))
state_says n a [] h = tt
state_says n a (e ∷ m) h = by (agrees 0 (digits_of n 0 a.0) e.0.0) (is_eq (address_cmp a e.0)) refl refl (state_says n a m) h
  where
    by : (s t : Bool) → agrees 0 (digits_of n 0 a.0) e.0.0 ≡ s → is_eq (address_cmp a e.0) ≡ t
        → (at_most_one (under_first n a m) ≡ true → Says (value a m) n a (end_of (under_first n a m)))
        → at_most_one (cond s (e ∷ under_first n a m) (under_first n a m)) ≡ true
        → Says (cond t (Some e.1) (value a m)) n a (end_of (cond s (e ∷ under_first n a m) (under_first n a m)))
    by true true at is next few = (same_one a e.0 is, refl)
    by true false at is next few =
        subst (λ o. Says o n a (Leaf e.0 e.1)) (sym (none_found n a m (no_more e (under_first n a m) few))) (other_one a e.0 is, agrees_digits n 0 a.0 e.0.0 at)
    by false true at is next few =
        let not : true ≡ false = sym (agrees_itself n 0 a.0) ∙ ap (λ x. agrees 0 (digits_of n 0 a.0) x.0) (sym (same_one a e.0 is)) ∙ at in
        absurd cc
    by false false at is next few = next few

pub says_one : (c d : Option (List ℕ)) (n : ℕ) (a : Address) (e : End) → Says c n a e → Says d n a e → c ≡ d
says_one (Some v) d n a Empty h g = absurd h
says_one None (Some w) n a Empty h g = absurd g
says_one None None n a Empty h g = refl
says_one (Some v) (Some w) n a (Leaf b x) h g = ap Some (sym h.1 ∙ g.1)
says_one (Some v) None n a (Leaf b x) h g = absurd (g.0 h.0)
says_one None (Some w) n a (Leaf b x) h g = absurd (h.0 g.0)
says_one None None n a (Leaf b x) h g = refl
