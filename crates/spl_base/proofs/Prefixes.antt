-- What is read from the beginning was spelled there, and what was spelled there is read.
use Rattle.std.{specs.Prelude.IfOk, proofs.Common.{◌≡◌, ℕ, List, ◌++◌, length, drop, Result, Ok, Err, IsTrue, sym, ap, subst, ◌∙◌, arith}}
use Rattle.std.proofs.lemmas.List.{drop_at}
use Rattle.spl_base.specs.{Input.Input, Form.{Form, IsBytes, IsExact}, FormLaws.{bind_ok, ok_is}, Prefix.{prefix_of, Answers}}
use Rattle.spl_base.specs.declared.fault.Malformed.{Malformed}

module _ {A : Type 0} (f : Form A) (p : IsExact f) where
  abbrev pub IsSpelled : List ℕ → A × ℕ → Type 0
  IsSpelled bytes x = (bytes ≡ f.spell x.0 ++ drop x.1 bytes) × IsTrue (f.fits x.0)

  pub spelled_from : (bytes : List ℕ) (x : A × ℕ) → IsBytes bytes → prefix_of f bytes ≡ Ok x → IsSpelled bytes x
  spelled_from bytes x fits e =
      let s : Input = record { rest = bytes; place = 0 } in
      let a = bind_ok (f.parse s) (λ x. Ok (x.0, x.1.place)) x e in
      let t = p.takes s a.0.0 a.0.1 fits a.1 in
      let len : length (f.spell a.0.0) ≡ a.0.1.place = omega (arith, t.place) in
      let rest : drop a.0.1.place bytes ≡ a.0.1.rest = ap (drop a.0.1.place) t.parts ∙ drop_at (f.spell a.0.0) a.0.1.rest a.0.1.place len in
      let made : A × ℕ = (a.0.0, a.0.1.place) in
      subst (IsSpelled bytes) (ok_is made x a.2) (t.parts ∙ ap (λ (r : List ℕ). f.spell a.0.0 ++ r) (sym rest), t.is_fit)

  pub found_from : (bytes : List ℕ) (r : Result (A × ℕ) Malformed) → IsBytes bytes → Answers r (prefix_of f bytes)
      → IfOk r (λ x. (bytes ≡ f.spell x.0 ++ drop x.1 bytes) × IsTrue (f.fits x.0))
  found_from bytes (Ok x) fits h = spelled_from bytes x fits h
  found_from bytes (Err e) fits h = tt

  pub prefix_again : (x : A) (rest : List ℕ) → IsTrue (f.fits x) → prefix_of f (f.spell x ++ rest) ≡ Ok (x, length (f.spell x))
  prefix_again x rest h = rw (p.again x rest 0 h) (ap (λ (n : ℕ). Ok (x, n)) (omega arith))
