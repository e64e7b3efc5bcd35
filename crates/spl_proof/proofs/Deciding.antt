-- Acceptance as a test.
use Rattle.std.{specs.{Prelude.{◌↔◌, slice_index_or}, Str.bytes_eq}, proofs.Common.{◌≡◌, ℕ, ◌+◌, Bool, true, false, not, ◌&&◌, IsTrue, List, [], ◌∷◌, length}}
use Rattle.std.proofs.{Common.{Option, Some, None, refl, sym, ap}, lemmas.{Bool.{and_parts, and_from}, Slice.Eq.bytes_eq-Decides}}
use Rattle.spl_base.specs.Booleans.{bytes_are}
use Rattle.spl_state.specs.{Root.{digit_of, digits_of}, declared.address.Address.Address}
use Rattle.spl_proof.specs.{Accepted.{Level, top, AllFit, Says, IsAccepted, are_fit, is_said, accepts}, declared.proof.End.{End, TheVariants.{Empty, Leaf}}}
use Rattle.spl_proof.specs.declared.proof.Proof.{Proof}

same_bytes : (x y : List ℕ) → x ≡ y → IsTrue (bytes_eq x y)
same_bytes x y = (bytes_eq-Decides x y).1

address_is : (a b : Address) → a.0 ≡ b.0 → a ≡ b
address_is a b e = let to : List ℕ → Address = λ xs. record { 0 = xs } in ap (λ (xs : List ℕ). to xs) e

-- ---- levels

fit_from : (i : ℕ) (a : Address) (ls : List Level) (e : End) → IsTrue (are_fit i a ls e) → AllFit i a ls e
fit_from i a [] e h = tt
fit_from i a (l ∷ ls) e h =
    let b = and_parts (bytes_eq (slice_index_or l (digit_of a.0 i) []) (top ls e)) (are_fit (i + 1) a ls e) h in
    (bytes_are (slice_index_or l (digit_of a.0 i) []) (top ls e) b.0, fit_from (i + 1) a ls e b.1)

fit_back : (i : ℕ) (a : Address) (ls : List Level) (e : End) → AllFit i a ls e → IsTrue (are_fit i a ls e)
fit_back i a [] e h = refl
fit_back i a (l ∷ ls) e h =
    and_from (bytes_eq (slice_index_or l (digit_of a.0 i) []) (top ls e)) (are_fit (i + 1) a ls e)
    (same_bytes (slice_index_or l (digit_of a.0 i) []) (top ls e) h.0) (fit_back (i + 1) a ls e h.1)

-- ---- ends

not_so : (t : Bool) → IsTrue (not t) → t ≡ true → ⊥
not_so true h e = cc
not_so false h e = cc

unless_so : (t : Bool) → (t ≡ true → ⊥) → IsTrue (not t)
unless_so true h = absurd (h refl)
unless_so false h = refl

says_from : (claim : Option (List ℕ)) (n : ℕ) (a : Address) (e : End) → IsTrue (is_said claim n a e) → Says claim n a e
says_from (Some v) n a Empty h = absurd cc
says_from (Some v) n a (Leaf b w) h =
    let p = and_parts (bytes_eq b.0 a.0) (bytes_eq w v) h in
    (address_is b a (bytes_are b.0 a.0 p.0), bytes_are w v p.1)
says_from None n a Empty h = tt
says_from None n a (Leaf b w) h =
    let p = and_parts (not (bytes_eq b.0 a.0)) (bytes_eq (digits_of n 0 b.0) (digits_of n 0 a.0)) h in
    (λ e. not_so (bytes_eq b.0 a.0) p.0 (same_bytes b.0 a.0 (ap (λ (x : Address). x.0) e)), bytes_are (digits_of n 0 b.0) (digits_of n 0 a.0) p.1)

says_back : (claim : Option (List ℕ)) (n : ℕ) (a : Address) (e : End) → Says claim n a e → IsTrue (is_said claim n a e)
says_back (Some v) n a Empty h = absurd h
says_back (Some v) n a (Leaf b w) h = and_from (bytes_eq b.0 a.0) (bytes_eq w v) (same_bytes b.0 a.0 (ap (λ (x : Address). x.0) h.0)) (same_bytes w v h.1)
says_back None n a Empty h = refl
says_back None n a (Leaf b w) h =
    and_from (not (bytes_eq b.0 a.0)) (bytes_eq (digits_of n 0 b.0) (digits_of n 0 a.0))
    (unless_so (bytes_eq b.0 a.0) (λ e. h.0 (address_is b a (bytes_are b.0 a.0 e)))) (same_bytes (digits_of n 0 b.0) (digits_of n 0 a.0) h.1)

-- ---- proofs

accepts_from : (root : List ℕ) (a : Address) (claim : Option (List ℕ)) (p : Proof) → IsTrue (accepts root a claim p) → IsAccepted root a claim p
accepts_from root a claim p h =
    let outer = and_parts (bytes_eq (top p.levels p.end) root && are_fit 0 a p.levels p.end) (is_said claim (length p.levels) a p.end) h in
    let inner = and_parts (bytes_eq (top p.levels p.end) root) (are_fit 0 a p.levels p.end) outer.0 in
    record {
      top =
          bytes_are (top p.levels p.end) root inner.0;
      fit = fit_from 0 a p.levels p.end inner.1;
      says = says_from claim (length p.levels) a p.end outer.1;
    }

accepts_back : (root : List ℕ) (a : Address) (claim : Option (List ℕ)) (p : Proof) → IsAccepted root a claim p → IsTrue (accepts root a claim p)
accepts_back root a claim p h =
    and_from (bytes_eq (top p.levels p.end) root && are_fit 0 a p.levels p.end) (is_said claim (length p.levels) a p.end)
    (and_from (bytes_eq (top p.levels p.end) root) (are_fit 0 a p.levels p.end) (same_bytes (top p.levels p.end) root h.top)
    (fit_back 0 a p.levels p.end h.fit))
    (says_back claim (length p.levels) a p.end h.says)

both : (x y : Bool) → (IsTrue x → IsTrue y) → (IsTrue y → IsTrue x) → x ≡ y
both true y f g = sym (f refl)
both false true f g = g refl
both false false f g = refl

pub same_test : (x : Bool) (root : List ℕ) (a : Address) (claim : Option (List ℕ)) (p : Proof) → IsTrue x ↔ IsAccepted root a claim p
    → x ≡ accepts root a claim p
same_test x root a claim p h = both x (accepts root a claim p) (λ t. accepts_back root a claim p (h.0 t)) (λ t. h.1 (accepts_from root a claim p t))
