-- A promise more.
use Rattle.std.{specs.{Prelude.{◌==◌, is_none, if◌then◌else◌}, Ordering.nat_cmp, BTreeMap.{BTreeMap, UpdatesBy, is_at, get}}, proofs.Common.{◌≡◌, ℕ, ◌⊎◌}}
use Rattle.std.proofs.{Common.{inl, inr, true, false, List, ◌∷◌, Option, Some, ◌&&◌, arith, sym, ◌∙◌, ap, subst}, Math.Path.fun_ext}
use Rattle.std.proofs.lemmas.Grind.{common_steps}
use Rattle.spl_agree.{specs.World.put, proofs.Tests.{if_true, if_false, eqb_is, eqb_not, bool_cases, put-same, put-other}}
use Rattle.spl_acceptor.specs.{Processes.{Pairs, Leader}, Rows.{PaxosPlan, Hear, pair_among, on_promise, counts_promise, leader_moved}}
use Rattle.spl_acceptor.specs.declared.{group.Group.Group, message.Pledge.Pledge}
use Rattle.spl_paxos.specs.{Promises.{heard_among, ballot_view}, Leaders.{used_or_none, leader_found}, declared.heard.HeardPromise.HeardPromise}
use Rattle.spl_paxos.specs.declared.heard.OpenBallot.{OpenBallot}

-- the one in prefix is that of its acceptor
pub first_heard : (xs : List HeardPromise) (x : HeardPromise) → heard_among (x ∷ xs) ≡ put (heard_among xs) x.acceptor (Some (pair_among x.pairs))
first_heard xs x = fun_ext (λ (a : ℕ). go a (bool_cases (x.acceptor == a)))
  where
    go : (a : ℕ) → ((x.acceptor == a) ≡ true) ⊎ ((x.acceptor == a) ≡ false)
        → heard_among (x ∷ xs) a ≡ put (heard_among xs) x.acceptor (Some (pair_among x.pairs)) a
    go a (inl e) =
        if_true (λ (o : Option Pairs). o ≡ put (heard_among xs) x.acceptor (Some (pair_among x.pairs)) a) (x.acceptor == a) (Some (pair_among x.pairs))
        (heard_among xs a) e
        (subst (λ (k : ℕ). Some (pair_among x.pairs) ≡ put (heard_among xs) x.acceptor (Some (pair_among x.pairs)) k) (eqb_is x.acceptor a e)
        (sym (put-same (heard_among xs) x.acceptor (Some (pair_among x.pairs)))))
    go a (inr e) =
        if_false (λ (o : Option Pairs). o ≡ put (heard_among xs) x.acceptor (Some (pair_among x.pairs)) a) (x.acceptor == a) (Some (pair_among x.pairs))
        (heard_among xs a) e
        (sym (put-other (heard_among xs) x.acceptor (Some (pair_among x.pairs)) a (λ k. eqb_not x.acceptor a e (sym k))))

-- a promise for the open ballot, of an acceptor that wasn't heard
pub promise_counts : (g : Group) (o : OpenBallot) (r a b : ℕ) (pairs : List Pledge) → (o.number == b) ≡ true → is_none (heard_among o.heard.items a) ≡ true
    → on_promise g (Some (ballot_view o)) r a b (pair_among pairs)
    ≡ counts_promise g r b a (pair_among pairs) (heard_among (record { acceptor = a; pairs = pairs } ∷ o.heard.items))
promise_counts g o r a b pairs same fresh =
    let both : ((o.number == b) && is_none (heard_among o.heard.items a)) ≡ true = rw same fresh in
    if_true (λ (p : PaxosPlan). p ≡ counts_promise g r b a (pair_among pairs) (heard_among (record { acceptor = a; pairs = pairs } ∷ o.heard.items)))
    (o.number == b && is_none (heard_among o.heard.items a)) _ _ both
    (ap (λ (heard : ℕ → Option Pairs). counts_promise g r b a (pair_among pairs) heard)
    (sym (first_heard o.heard.items (record { acceptor = a; pairs = pairs }))))

at_other : (k q : ℕ) → (k == q) ≡ false → is_at (nat_cmp k) q ≡ false
at_other k q h = grind (arith, common_steps)

-- the promise is counted for the open ballot of its round, and every other round is as it was
pub heard_there : (used : Option ℕ) (m n : BTreeMap ℕ OpenBallot) (k : ℕ) (o w : OpenBallot) (x : HeardPromise)
    → UpdatesBy nat_cmp (nat_cmp k) m n (Some w) → get nat_cmp m k ≡ Some o → w.number ≡ o.number → w.heard.items ≡ x ∷ o.heard.items
    → (r : ℕ) → leader_found used (get nat_cmp n r)
    ≡ (if k == r then leader_moved (leader_found used (get nat_cmp m r)) (Hear x.acceptor (pair_among x.pairs)) else leader_found used (get nat_cmp m r))
heard_there used m n k o w x u found number more r = by (bool_cases (k == r))
  where
    moved : Option OpenBallot → Leader
    moved s = leader_moved (leader_found used s) (Hear x.acceptor (pair_among x.pairs))

    there : leader_found used (get nat_cmp n k) ≡ moved (get nat_cmp m k)
    there =
        let made : (b : ℕ) → (ℕ → Option Pairs) → Leader = λ b f. record { used = used_or_none used; opened = Some (record { number = b; promises = f }) } in
        ap (leader_found used) u.1
        ∙ ap (λ (b : ℕ). made b (heard_among w.heard.items)) number
        ∙ ap (λ (xs : List HeardPromise). made o.number (heard_among xs)) more
        ∙ ap (λ (f : ℕ → Option Pairs). made o.number f) (first_heard o.heard.items x)
        ∙ ap moved (sym found)

    by : ((k == r) ≡ true) ⊎ ((k == r) ≡ false)
        → leader_found used (get nat_cmp n r) ≡ (if k == r then moved (get nat_cmp m r) else leader_found used (get nat_cmp m r))
    by (inl h) = if_true (λ (l : Leader). leader_found used (get nat_cmp n r) ≡ l) (k == r) _ _ h
        (subst (λ (j : ℕ). leader_found used (get nat_cmp n j) ≡ moved (get nat_cmp m j)) (eqb_is k r h) there)
    by (inr h) = if_false (λ (l : Leader). leader_found used (get nat_cmp n r) ≡ l) (k == r) _ _ h (ap (leader_found used) (u.2 r (at_other k r h)))
