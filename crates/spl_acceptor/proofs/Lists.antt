-- Pledges and sends, one more.
use Rattle.std.{specs.{Prelude.{Option, Some, Result, Ok, Err, OnOk, IfOk, ◌==◌}, List.insert}, proofs.Common.{◌≡◌, ◌≢◌, ℕ, zero, suc, ◌-◌, ◌⊎◌, Bool}}
use Rattle.std.proofs.{Common.{true, false, List, [], ◌∷◌, ◌++◌, inl, inr, refl, sym, subst, ◌∙◌, ap, append_assoc, arith}, Math.Path.fun_ext}
use Rattle.spl_agree.{specs.World.put, proofs.Tests.{if_true, if_false, eqb_is, eqb_not, bool_cases, put-same, put-other}}
use Rattle.spl_acceptor.specs.{Processes.{Pair, Pairs}, Quorums.numbers, Rows.{pair_among, pledges, pledge_of, to_each_process}, declared.message.Name.Name}
use Rattle.spl_acceptor.specs.declared.message.{PaxosMsg.PaxosMsg, Pledge.Pledge}

-- what follows where a call succeeded
pub on_ok : {A E : Type 0} (r : Result A E) (P Q : Type 0) → (P → Q) → OnOk r P → OnOk r Q
on_ok (Ok x) P Q f p = f p
on_ok (Err e) P Q f p = p

pub both_ok : {A E : Type 0} (r : Result A E) (P Q : Type 0) → OnOk r P → OnOk r Q → OnOk r (P × Q)
both_ok (Ok x) P Q p q = (p, q)
both_ok (Err e) P Q p q = p

-- what is said of the value of a call is true of the value that it has
pub ok_holds : {A E : Type 0} (P : A → Type 0) (r : Result A E) (x : A) → r ≡ Ok x → IfOk r P → P x
ok_holds P r x is h = subst (λ z. IfOk z P) is h

insert-first : (xs : List Pledge) (x : Pledge) → insert xs 0 x ≡ x ∷ xs
insert-first [] x = refl
insert-first (y ∷ ys) x = refl

-- a pledge in prefix is the one of its member
pub first-is : (xs : List Pledge) (x : Pledge) → pair_among (x ∷ xs) ≡ put (pair_among xs) x.member (Some (x.ballot, x.prepared))
first-is xs x = fun_ext (λ (j : ℕ). go j (bool_cases (x.member == j)))
  where
    go : (j : ℕ) → ((x.member == j) ≡ true) ⊎ ((x.member == j) ≡ false) → pair_among (x ∷ xs) j ≡ put (pair_among xs) x.member (Some (x.ballot, x.prepared)) j
    go j (inl e) =
        if_true (λ (o : Option Pair). o ≡ put (pair_among xs) x.member (Some (x.ballot, x.prepared)) j) (x.member == j) (Some (x.ballot, x.prepared))
        (pair_among xs j) e
        (subst (λ (k : ℕ). Some (x.ballot, x.prepared) ≡ put (pair_among xs) x.member (Some (x.ballot, x.prepared)) k) (eqb_is x.member j e)
        (sym (put-same (pair_among xs) x.member (Some (x.ballot, x.prepared)))))
    go j (inr e) =
        if_false (λ (o : Option Pair). o ≡ put (pair_among xs) x.member (Some (x.ballot, x.prepared)) j) (x.member == j) (Some (x.ballot, x.prepared))
        (pair_among xs j) e
        (sym (put-other (pair_among xs) x.member (Some (x.ballot, x.prepared)) j (λ k. eqb_not x.member j e (sym k))))

pub accepted-first : (old new : List Pledge) (i b : ℕ) (p : Bool) → new ≡ insert old 0 (record { member = i; ballot = b; prepared = p })
    → pair_among new ≡ put (pair_among old) i (Some (b, p))
accepted-first old new i b p e =
    ap (λ (xs : List Pledge). pair_among xs) (e ∙ insert-first old (record { member = i; ballot = b; prepared = p }))
    ∙ first-is old (record { member = i; ballot = b; prepared = p })

-- ---- the last of the numbers

each-append : (name : ℕ → Name) (m : PaxosMsg) (is js : List ℕ) → to_each_process name m (is ++ js) ≡ to_each_process name m is ++ to_each_process name m js
each-append name m [] js = refl
each-append name m (i ∷ is) js = ap (λ (z : List (Name × PaxosMsg)). (name i, m) ∷ z) (each-append name m is js)

pub each-last : (name : ℕ → Name) (m : PaxosMsg) (n : ℕ) → n ≢ 0
    → to_each_process name m (numbers n) ≡ to_each_process name m (numbers (n - 1)) ++ (name n, m) ∷ []
each-last name m zero d = absurd (d refl)
each-last name m (suc n) d =
    each-append name m (numbers n) (suc n ∷ [])
    ∙ (let e : n ≡ suc n - 1 = omega arith in ap (λ (k : ℕ). to_each_process name m (numbers k) ++ (name (suc n), m) ∷ []) e)

pub pledges-last : (n : ℕ) (pairs : Pairs) → n ≢ 0 → pledges n pairs ≡ pledges (n - 1) pairs ++ pledge_of n (pairs n)
pledges-last zero pairs d = absurd (d refl)
pledges-last (suc n) pairs d = let e : n ≡ suc n - 1 = omega arith in ap (λ (k : ℕ). pledges k pairs ++ pledge_of (suc n) (pairs (suc n))) e

-- sends, or pledges, after those that stand there
pub after : {A : Type 0} (old now start rest more all : List A) → now ≡ old ++ rest → start ≡ now ++ more → all ≡ rest ++ more → start ≡ old ++ all
after old now start rest more all e f h = f ∙ ap (λ z. z ++ more) e ∙ append_assoc old rest more ∙ ap (λ z. old ++ z) (sym h)
