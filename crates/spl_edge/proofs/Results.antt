-- What follows where a call succeeded, and where it failed.
use Rattle.std.specs.{Prelude.{is_err, OnOk, OnErr, IfOk, IfErr, IsErr, IsErrOf}, Result.IsErrAnd}
use Rattle.std.proofs.Common.{◌≡◌, Result, Ok, Err, Bool, true, false, true≢false, refl, sym, subst}

-- a call that failed
abbrev pub failed : (A E : Type 0) → E → Result A E
failed A E e = Err e

-- ---- where it succeeded

pub at_ok : {A E : Type 0} {P Q : Type 0} (r : Result A E) → (P → Q) → OnOk r P → OnOk r Q
at_ok (Ok a) f p = f p
at_ok (Err e) f p = p

pub on_ok : {A E : Type 0} {P : Type 0} (r : Result A E) → P → OnOk r P
on_ok (Ok a) p = p
on_ok (Err e) p = tt

pub when_ok : {A E : Type 0} {P Q : A → Type 0} (r : Result A E) → ((a : A) → P a → Q a) → IfOk r P → IfOk r Q
when_ok (Ok a) f p = f a p
when_ok (Err e) f p = p

pub ok_both : {A E : Type 0} {P Q R : Type 0} (r : Result A E) → (P → Q → R) → OnOk r P → OnOk r Q → OnOk r R
ok_both (Ok a) f p q = f p q
ok_both (Err e) f p q = p

pub ok_three : {A E : Type 0} {P Q R S : Type 0} (r : Result A E) → (P → Q → R → S) → OnOk r P → OnOk r Q → OnOk r R → OnOk r S
ok_three (Ok a) f p q s = f p q s
ok_three (Err e) f p q s = p

-- what stands beside what a call gives
pub ok_and : {T E : Type 0} (r : Result T E) (P Q : Type 0) → P → OnOk r Q → OnOk r (P × Q)
ok_and (Ok a) P Q p q = (p, q)
ok_and (Err e) P Q p q = tt

-- ---- where it failed

pub on_err : {A E : Type 0} {P : Type 0} (r : Result A E) → P → OnErr r P
on_err (Ok a) p = tt
on_err (Err e) p = p

pub at_err : {A E : Type 0} {P Q : Type 0} (r : Result A E) → (P → Q) → OnErr r P → OnErr r Q
at_err (Ok a) f p = p
at_err (Err e) f p = f p

-- a call that fails says nothing of success
pub off_ok : {T E : Type 0} (P : Type 0) (r : Result T E) → IsErr r → OnOk r P
off_ok P (Ok x) is = absurd (true≢false (sym is))
off_ok P (Err y) is = tt

pub off_if : {T E : Type 0} (P : T → Type 0) (r : Result T E) → IsErr r → IfOk r P
off_if P (Ok x) is = absurd (true≢false (sym is))
off_if P (Err y) is = tt

-- a call that fails as one in it does
pub err_from : {T E : Type 0} (r : Result T E) (e : E) (P : E → Type 0) → IsErr r × IsErrAnd r (λ y. y ≡ e) → P e → IfErr r P
err_from (Ok x) e P h p = tt
err_from (Err y) e P h p = subst P (sym h.1) p

pub err_same : {T E : Type 0} (r : Result T E) (f d : E) → IsErr r × IsErrAnd r (λ y. y ≡ f) → IsErrOf r d → f ≡ d
err_same (Ok a) f d e q = absurd e.1
err_same (Err y) f d e q = let is : y ≡ f = e.1 in cc

-- what follows of the error
pub err_so : {T E : Type 0} (r : Result T E) (P Q : E → Type 0) → ((e : E) → IsErrOf r e → P e → Q e) → IfErr r P → IfErr r Q
err_so (Ok a) P Q f h = tt
err_so (Err e) P Q f h = f e refl h

-- ---- either way

pub either_way : {A E : Type 0} {P Q R : Type 0} (r : Result A E) → (P → R) → (Q → R) → OnOk r P → OnErr r Q → R
either_way (Ok a) f g p q = f p
either_way (Err e) f g p q = g q

-- whether a call failed, where it succeeded and where it did not
pub ok_is : {A E : Type 0} (r : Result A E) (b : Bool) → b ≡ is_err r → OnOk r (b ≡ false)
ok_is (Ok a) b e = e
ok_is (Err x) b e = tt

pub err_is : {A E : Type 0} (r : Result A E) (b : Bool) → b ≡ is_err r → OnErr r (b ≡ true)
err_is (Ok a) b e = tt
err_is (Err x) b e = e
