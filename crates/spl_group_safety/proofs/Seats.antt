-- How another member stands to the coordinator, as it changes.
use Rattle.std.{specs.Prelude.{Some, None}, proofs.Common.{◌≡◌, ℕ, ◌<◌, ◌≤◌, ◌⊎◌, true, false, List, [], ◌∷◌, ◌++◌, sym, subst, inl, inr, arith}}
use Rattle.spl_agree.specs.{Member.has_round, Agreement.{Lead, Seat, IsLed, IsHeld, Follows, Told, Said}, declared.message.CommitMsg.CommitMsg}
use Rattle.spl_agree.proofs.Tests.{has_round-last}
use Rattle.spl_agree.specs.declared.message.CommitMsg.TheVariants as msg

-- it has seen more
pub follows-seen : {V : Type 0} (l : Lead V) (s : Seat V) (i r : ℕ) → s.seen ≤ r → Follows l s i → Follows l (record s { seen = r }) i
follows-seen l s i r h f = record {
  trails = f.trails;
  held = λ e p. let k : IsHeld l s e = f.held e p in record { begun = k.begun; seen = omega arith; same = k.same; lacks = k.lacks };
  passed = λ q p. omega (arith, f.passed q p);
  counted = f.counted;
}

pub said-seen : {V : Type 0} (l : Lead V) (s : Seat V) (r : ℕ) (m : CommitMsg V) → Said l s m → Said l (record s { seen = r }) m
said-seen l s r (msg.Vote gen q true) h = h
said-seen l s r _ h = tt

-- it makes a promise
pub follows-promise : {V : Type 0} (l : Lead V) (s : Seat V) (i r place : ℕ) (v : V) → s.promise ≡ None → s.seen < r → Told l (msg.VoteRequest 0 r place v)
    → Follows l s i → Follows l (record { history = s.history; promise = Some (r, v); seen = r }) i
follows-promise {V} l s i r place v none more t f = record {
  trails = same f.trails;
  held = λ e p. let q : (r, v) ≡ e = cc in subst (λ x. IsHeld l (record { history = s.history; promise = Some (r, v); seen = r }) x) q (record {
    begun = t.0;
    seen = omega arith;
    same = t.1;
    lacks = λ h. absurd (let k : r ≤ s.seen = f.passed r h in omega arith);
  });
  passed = λ q p. let k : q ≤ s.seen = f.passed q p in omega arith;
  counted = λ b p h. let k : s.promise ≡ Some (b.round, b.value) = f.counted b p h in cc;
}
  where
    same : (s.history ≡ l.history) ⊎ ((e : ℕ × V) × (s.promise ≡ Some e) × (l.history ≡ s.history ++ e ∷ []))
        → (s.history ≡ l.history) ⊎ ((e : ℕ × V) × (Some (r, v) ≡ Some e) × (l.history ≡ s.history ++ e ∷ []))
    same (inl h) = inl h
    same (inr h) = let k : s.promise ≡ Some h.0 = h.1 in cc

pub said-promise : {V : Type 0} (l : Lead V) (s : Seat V) (r : ℕ) (v : V) (m : CommitMsg V) → s.promise ≡ None → Said l s m
    → Said l (record { history = s.history; promise = Some (r, v); seen = r }) m
said-promise l s r v (msg.Vote gen q true) none h = (h.0, λ b p e. let k : s.promise ≡ Some (b.round, b.value) = h.1 b p e in cc)
said-promise l s r v _ none h = tt

-- the yes that goes with the promise
pub said-yes : {V : Type 0} (l : Lead V) (s : Seat V) (r place : ℕ) (v : V) → Told l (msg.VoteRequest 0 r place v)
    → Said l (record { history = s.history; promise = Some (r, v); seen = r }) (msg.Vote 0 r true)
said-yes l s r place v t = (t.0, λ b p e. let k : b.value ≡ v = t.1 b p e in cc)

-- a yes that is said again
pub said-again : {V : Type 0} (l : Lead V) (s : Seat V) (i r : ℕ) (v : V) → s.promise ≡ Some (r, v) → Follows l s i → Said l s (msg.Vote 0 r true)
said-again l s i r v p f = let k : IsHeld l s (r, v) = f.held (r, v) p in (k.begun, λ b o q. let same : b.value ≡ v = k.same b o q in cc)

-- it moves by a commit
pub follows-commit : {V : Type 0} (l : Lead V) (s : Seat V) (i : ℕ) (e : ℕ × V) → IsLed l → s.promise ≡ Some e → has_round e.0 l.history ≡ true
    → Follows l s i → Follows l (record { history = s.history ++ e ∷ []; promise = None; seen = s.seen }) i
follows-commit l s i e led p h f = record {
  trails = inl (sym ((f.held e p).lacks h));
  held = λ d q. cc;
  passed = f.passed;
  counted = λ b o q. let k : s.promise ≡ Some (b.round, b.value) = f.counted b o q in
      let n : has_round b.round l.history ≡ false = (led.latest b o).1 in cc;
}

pub said-commit : {V : Type 0} (l : Lead V) (s : Seat V) (h : List (ℕ × V)) (e : ℕ × V) (m : CommitMsg V) → IsLed l → s.promise ≡ Some e
    → has_round e.0 l.history ≡ true → Said l s m → Said l (record { history = h; promise = None; seen = s.seen }) m
said-commit l s h e (msg.Vote gen q true) led p c t = (
  t.0,
  λ b o x. let k : s.promise ≡ Some (b.round, b.value) = t.1 b o x in
      let n : has_round b.round l.history ≡ false = (led.latest b o).1 in cc,
)
said-commit l s h e (msg.Vote gen q false) led p c t = tt
said-commit l s h e _ led p c t = tt

-- it moves by an abort
pub follows-abort : {V : Type 0} (l : Lead V) (s : Seat V) (i : ℕ) (e : ℕ × V) → s.promise ≡ Some e → Told l (msg.Decision 0 e.0 false) → Follows l s i
    → Follows l (record { history = s.history; promise = None; seen = s.seen }) i
follows-abort {V} l s i e p t f = record {
  trails = same f.trails;
  held = λ d q. cc;
  passed = f.passed;
  counted = λ b o q. let k : s.promise ≡ Some (b.round, b.value) = f.counted b o q in
      let n : b.round ≡ e.0 = cc in absurd (t.2 b o n);
}
  where
    same : (s.history ≡ l.history) ⊎ ((d : ℕ × V) × (s.promise ≡ Some d) × (l.history ≡ s.history ++ d ∷ []))
        → (s.history ≡ l.history) ⊎ ((d : ℕ × V) × (None ≡ Some d) × (l.history ≡ s.history ++ d ∷ []))
    same (inl h) = inl h
    same (inr h) = let k : s.promise ≡ Some h.0 = h.1 in let x : h.0 ≡ e = cc in
        let y : l.history ≡ s.history ++ h.0 ∷ [] = h.2 in
        let z : has_round h.0.0 (s.history ++ h.0 ∷ []) ≡ true = has_round-last s.history h.0 in
        let n : has_round e.0 l.history ≡ false = t.1 in cc

pub said-abort : {V : Type 0} (l : Lead V) (s : Seat V) (e : ℕ × V) (m : CommitMsg V) → s.promise ≡ Some e → Told l (msg.Decision 0 e.0 false) → Said l s m
    → Said l (record { history = s.history; promise = None; seen = s.seen }) m
said-abort l s e (msg.Vote gen q true) p t h =
    (h.0, λ b o x. let k : s.promise ≡ Some (b.round, b.value) = h.1 b o x in let n : b.round ≡ e.0 = cc in absurd (t.2 b o n))
said-abort l s e _ p t h = tt
