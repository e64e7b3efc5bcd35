-- How the coordinator changes, for the others.
use Rattle.std.{specs.Prelude.{Some, None}, proofs.Common.{◌≡◌, ℕ, suc, ◌+◌, ◌<◌, ◌≤◌, ◌⊎◌, true, false, eqb, List, [], ◌∷◌, ◌++◌, refl, sym, ap, subst, ◌∙◌}}
use Rattle.std.proofs.Common.{inl, inr, arith}
use Rattle.spl_agree.specs.{Member.{has_round, but, has}, Agreement.{Ballot, Lead, Seat, IsLed, IsHeld, Follows, Told, Said}}
use Rattle.spl_agree.{specs.declared.message.CommitMsg.CommitMsg, proofs.Tests.{has_round-last, has_round-more, has_round-cases, has_round-none, eqb_is}}
use Rattle.spl_agree.proofs.Tests.{eqb_not, bool_cases, has-but}
use Rattle.spl_agree.specs.declared.message.CommitMsg.TheVariants as msg

-- the coordinator with a round begun, with one more yes, with nothing open, and with its open round committed
abbrev pub with_round : {V : Type 0} → List ℕ → Lead V → V → Lead V
with_round all l v =
    record { history = l.history; next = l.next + 1; opened = Some (l.next, all); ballot = Some (record { round = l.next; value = v; missing = all }) }

abbrev pub with_aye : {V : Type 0} → Lead V → Ballot V → ℕ → Lead V
with_aye l b i =
    record {
      history = l.history;
      next = l.next;
      opened = Some (b.round, but i b.missing);
      ballot = Some (record { round = b.round; value = b.value; missing = but i b.missing });
    }

abbrev pub closed : {V : Type 0} → Lead V → Lead V
closed l = record { history = l.history; next = l.next; opened = None; ballot = None }

abbrev pub committed : {V : Type 0} → Lead V → Ballot V → Lead V
committed l b = record { history = l.history ++ (b.round, b.value) ∷ []; next = l.next; opened = None; ballot = None }

-- what a change of the coordinator has to keep
pub record Keeps {V : Type 0} (old new : Lead V) : Type 0 where
  pub led : IsLed new
  pub told : (m : CommitMsg V) → Told old m → Told new m
  pub said : (s : Seat V) (m : CommitMsg V) → Said old s m → Said new s m

pub some_is : {A : Type 0} (x y : A) → Some x ≡ Some y → x ≡ y
some_is x y e = cc

pub round_is : {V : Type 0} (x b : Ballot V) → Some x ≡ Some b → b.round ≡ x.round
round_is {V} x b e = ap (λ (z : Ballot V). z.round) (sym (some_is x b e))

pub value_is : {V : Type 0} (x b : Ballot V) → Some x ≡ Some b → b.value ≡ x.value
value_is {V} x b e = ap (λ (z : Ballot V). z.value) (sym (some_is x b e))

-- a round that is not begun is not committed
pub not_begun : {V : Type 0} (l : Lead V) (r : ℕ) → IsLed l → l.next ≤ r → has_round r l.history ≡ false
not_begun l r led h = go (bool_cases (has_round r l.history))
  where
    go : (has_round r l.history ≡ true) ⊎ (has_round r l.history ≡ false) → has_round r l.history ≡ false
    go (inl q) = absurd (let k : r < l.next = led.begun r q in omega arith)
    go (inr q) = q

-- begin
abbrev pub first_ballot : {V : Type 0} → List ℕ → Lead V → V → Ballot V
first_ballot all l v = record { round = l.next; value = v; missing = all }

pub told-round : {V : Type 0} (all : List ℕ) (l : Lead V) (v : V) (m : CommitMsg V) → Told l m → Told (with_round all l v) m
told-round all l v (msg.VoteRequest gen q p u) h =
    (omega arith, λ b o e. absurd (let k : b.round ≡ l.next = round_is (first_ballot all l v) b o in omega (arith, h.0)))
told-round all l v (msg.Decision gen q true) h = h
told-round all l v (msg.Decision gen q false) h =
    (omega arith, h.1, λ b o e. let k : b.round ≡ l.next = round_is (first_ballot all l v) b o in omega (arith, h.0))
told-round all l v _ h = tt

pub said-round : {V : Type 0} (all : List ℕ) (l : Lead V) (v : V) (s : Seat V) (m : CommitMsg V) → Said l s m → Said (with_round all l v) s m
said-round all l v s (msg.Vote gen q true) h =
    (omega arith, λ b o e. absurd (let k : b.round ≡ l.next = round_is (first_ballot all l v) b o in omega (arith, h.0)))
said-round all l v s _ h = tt

pub keeps-round : {V : Type 0} (all : List ℕ) (l : Lead V) (v : V) → IsLed l → Keeps l (with_round all l v)
keeps-round all l v led = record {
  led = record {
    settled = λ o p. (first_ballot all l v, refl);
    begun = λ r h. let k : r < l.next = led.begun r h in omega arith;
    latest = λ b p. let k : b.round ≡ l.next = round_is (first_ballot all l v) b p in (omega arith, not_begun l b.round led (omega arith));
  };
  told = told-round all l v;
  said = said-round all l v;
}

pub follows-round : {V : Type 0} (all : List ℕ) (l : Lead V) (v : V) (s : Seat V) (i : ℕ) → has i all ≡ true → Follows l s i → Follows (with_round all l v) s i
follows-round all l v s i mine f = record {
  trails = f.trails;
  held = λ e p. let k : IsHeld l s e = f.held e p in record {
    begun = let n : e.0 < l.next = k.begun in omega arith;
    seen = k.seen;
    same = λ b o q. absurd (let n : b.round ≡ l.next = round_is (first_ballot all l v) b o in omega (arith, k.begun));
    lacks = k.lacks;
  };
  passed = f.passed;
  counted = λ b o h. let x : first_ballot all l v ≡ b = some_is (first_ballot all l v) b o in
      let y : has i b.missing ≡ has i all = ap (λ (z : Ballot _). has i z.missing) (sym x) in cc;
}

-- one more yes
abbrev pub aye_ballot : {V : Type 0} → Ballot V → ℕ → Ballot V
aye_ballot b i = record { round = b.round; value = b.value; missing = but i b.missing }

pub told-aye : {V : Type 0} (l : Lead V) (b : Ballot V) (i : ℕ) (m : CommitMsg V) → l.ballot ≡ Some b → Told l m → Told (with_aye l b i) m
told-aye l b i (msg.VoteRequest gen q p u) open_is h = (
  h.0,
  λ c o e. let r : c.round ≡ b.round = round_is (aye_ballot b i) c o in let v : c.value ≡ b.value = value_is (aye_ballot b i) c o in
      let k : b.value ≡ u = h.1 b open_is (sym r ∙ e) in cc,
)
told-aye l b i (msg.Decision gen q true) open_is h = h
told-aye l b i (msg.Decision gen q false) open_is h =
    (h.0, h.1, λ c o e. let r : c.round ≡ b.round = round_is (aye_ballot b i) c o in h.2 b open_is (sym r ∙ e))
told-aye l b i _ open_is h = tt

pub said-aye : {V : Type 0} (l : Lead V) (b : Ballot V) (i : ℕ) (s : Seat V) (m : CommitMsg V) → l.ballot ≡ Some b → Said l s m → Said (with_aye l b i) s m
said-aye l b i s (msg.Vote gen q true) open_is h = (
  h.0,
  λ c o e. let r : c.round ≡ b.round = round_is (aye_ballot b i) c o in let v : c.value ≡ b.value = value_is (aye_ballot b i) c o in
      let k : s.promise ≡ Some (b.round, b.value) = h.1 b open_is (sym r ∙ e) in cc,
)
said-aye l b i s _ open_is h = tt

pub keeps-aye : {V : Type 0} (l : Lead V) (b : Ballot V) (i : ℕ) → IsLed l → l.ballot ≡ Some b → Keeps l (with_aye l b i)
keeps-aye l b i led open_is = record {
  led = record {
    settled = λ o p. (aye_ballot b i, refl);
    begun = led.begun;
    latest = λ c o. rw (round_is (aye_ballot b i) c o) (led.latest b open_is);
  };
  told = λ m. told-aye l b i m open_is;
  said = λ s m. said-aye l b i s m open_is;
}

pub follows-aye : {V : Type 0} (l : Lead V) (b : Ballot V) (i : ℕ) (s : Seat V) (j : ℕ) → l.ballot ≡ Some b → (i ≡ j → s.promise ≡ Some (b.round, b.value))
    → Follows l s j → Follows (with_aye l b i) s j
follows-aye {V} l b i s j open_is new f = record {
  trails = f.trails;
  held = λ e p. let k : IsHeld l s e = f.held e p in record {
    begun = k.begun;
    seen = k.seen;
    same = λ c o q. let r : c.round ≡ b.round = round_is (aye_ballot b i) c o in let v : c.value ≡ b.value = value_is (aye_ballot b i) c o in
        v ∙ k.same b open_is (sym r ∙ q);
    lacks = k.lacks;
  };
  passed = f.passed;
  counted = λ c o h. let x : c ≡ aye_ballot b i = sym (some_is (aye_ballot b i) c o) in
      subst (λ (z : Ballot V). s.promise ≡ Some (z.round, z.value)) (sym x)
      (sub (bool_cases (eqb i j)) (subst (λ (z : Ballot V). has j z.missing ≡ false) x h));
}
  where
    sub : (eqb i j ≡ true) ⊎ (eqb i j ≡ false) → has j (but i b.missing) ≡ false → s.promise ≡ Some (b.round, b.value)
    sub (inl q) h = new (eqb_is i j q)
    sub (inr q) h = f.counted b open_is (rw (has-but i b.missing j (eqb_not i j q)) at h)

-- the round is closed
pub told-closed : {V : Type 0} (l : Lead V) (m : CommitMsg V) → Told l m → Told (closed l) m
told-closed l (msg.VoteRequest gen q p u) h = (h.0, λ c o e. cc)
told-closed l (msg.Decision gen q true) h = h
told-closed l (msg.Decision gen q false) h = (h.0, h.1, λ c o e. cc)
told-closed l _ h = tt

pub said-closed : {V : Type 0} (l : Lead V) (s : Seat V) (m : CommitMsg V) → Said l s m → Said (closed l) s m
said-closed l s (msg.Vote gen q true) h = (h.0, λ c o e. cc)
said-closed l s _ h = tt

pub keeps-closed : {V : Type 0} (l : Lead V) → IsLed l → Keeps l (closed l)
keeps-closed l led = record {
  led = record { settled = λ o p. cc; begun = led.begun; latest = λ b o. cc };
  told = told-closed l;
  said = said-closed l;
}

pub follows-closed : {V : Type 0} (l : Lead V) (s : Seat V) (i : ℕ) → Follows l s i → Follows (closed l) s i
follows-closed l s i f = record {
  trails = f.trails;
  held = λ e p. let k : IsHeld l s e = f.held e p in record { begun = k.begun; seen = k.seen; same = λ b o q. cc; lacks = k.lacks };
  passed = f.passed;
  counted = λ b o h. cc;
}

-- the open round is committed
pub told-committed : {V : Type 0} (l : Lead V) (b : Ballot V) (m : CommitMsg V) → l.ballot ≡ Some b → Told l m → Told (committed l b) m
told-committed l b (msg.VoteRequest gen q p u) open_is h = (h.0, λ c o e. cc)
told-committed l b (msg.Decision gen q true) open_is h = has_round-more q l.history (b.round, b.value) h
told-committed l b (msg.Decision gen q false) open_is h = (h.0, has_round-none q l.history (b.round, b.value) h.1 (h.2 b open_is), λ c o e. cc)
told-committed l b _ open_is h = tt

pub said-committed : {V : Type 0} (l : Lead V) (b : Ballot V) (s : Seat V) (m : CommitMsg V) → Said l s m → Said (committed l b) s m
said-committed l b s (msg.Vote gen q true) h = (h.0, λ c o e. cc)
said-committed l b s _ h = tt

pub keeps-committed : {V : Type 0} (l : Lead V) (b : Ballot V) → IsLed l → l.ballot ≡ Some b → Keeps l (committed l b)
keeps-committed l b led open_is = record {
  led = record {
    settled = λ o p. cc;
    begun = λ r h. sub r (has_round-cases r l.history (b.round, b.value) h);
    latest = λ c o. cc;
  };
  told = λ m. told-committed l b m open_is;
  said = said-committed l b;
}
  where
    sub : (r : ℕ) → (has_round r l.history ≡ true) ⊎ (b.round ≡ r) → r < l.next
    sub r (inl q) = led.begun r q
    sub r (inr q) = let k : suc b.round ≡ l.next = (led.latest b open_is).0 in omega arith

pub follows-committed : {V : Type 0} (l : Lead V) (b : Ballot V) (s : Seat V) (i : ℕ) → IsLed l → l.ballot ≡ Some b → s.promise ≡ Some (b.round, b.value)
    → Follows l s i → Follows (committed l b) s i
follows-committed {V} l b s i led open_is promised f = record {
  trails = inr ((b.round, b.value), promised, ap (λ h. h ++ (b.round, b.value) ∷ []) (sym same));
  held = λ e p. let x : (b.round, b.value) ≡ e = cc in subst (λ y. IsHeld (committed l b) s y) x (record {
    begun = mine.begun;
    seen = mine.seen;
    same = λ c o q. cc;
    lacks = λ h. ap (λ h. h ++ (b.round, b.value) ∷ []) (sym same);
  });
  passed = λ r h. sub r (has_round-cases r l.history (b.round, b.value) h);
  counted = λ c o h. cc;
}
  where
    mine : IsHeld l s (b.round, b.value)
    mine = f.held (b.round, b.value) promised

    pick : (s.history ≡ l.history) ⊎ ((e : ℕ × V) × (s.promise ≡ Some e) × (l.history ≡ s.history ++ e ∷ [])) → s.history ≡ l.history
    pick (inl h) = h
    pick (inr h) = let k : s.promise ≡ Some h.0 = h.1 in let x : h.0 ≡ (b.round, b.value) = cc in
        let y : l.history ≡ s.history ++ h.0 ∷ [] = h.2 in
        let z : has_round b.round (s.history ++ (b.round, b.value) ∷ []) ≡ true = has_round-last s.history (b.round, b.value) in
        let n : has_round b.round l.history ≡ false = (led.latest b open_is).1 in cc

    same : s.history ≡ l.history
    same = pick f.trails

    sub : (r : ℕ) → (has_round r l.history ≡ true) ⊎ (b.round ≡ r) → r ≤ s.seen
    sub r (inl q) = f.passed r q
    sub r (inr q) = let k : b.round ≤ s.seen = mine.seen in omega arith
