-- One message more on its pair.
use Rattle.std.{specs.Prelude.{◌==◌, if◌then◌else◌}, proofs.Common.{◌≡◌, ◌⊎◌, inl, inr, ℕ, ◌+◌, ◌*◌, ◌<◌, Bool, true, false, ◌&&◌, List, [], ◌∷◌, ◌++◌, refl}}
use Rattle.std.proofs.Common.{sym, ◌∙◌, ap, subst, append_assoc, append-nil, arith}
use Rattle.spl_agree.proofs.Tests.{if_true, if_false, bool_cases, eqb_is, eqb_same, and_left, and_right}
use Rattle.spl_acceptor.specs.{Worlds.{SentPaxosMessage, same_name, paxos_on_pair, paxos_posted}, Records.IsChangedAt, declared.message.Name.Name}
use Rattle.spl_acceptor.specs.declared.message.PaxosMsg.{PaxosMsg}
use Rattle.spl_paxos_run.specs.{Posts.{IsName, pair_key, posts_at, HoldsSent}, declared.posts.Posts.Posts}

-- two bytes are reported by one number
two_bytes : (x y u v : ℕ) → y < 256 → v < 256 → x * 256 + y ≡ u * 256 + v → (x ≡ u) × (y ≡ v)
two_bytes x y u v low high e = let same : x ≡ u = omega arith in (same, omega arith)

record IsSamePair (a b c d : Name) : Type 0 where
  from : a ≡ c
  to : b ≡ d

name_is : (a b : Name) → a.kind ≡ b.kind → a.number ≡ b.number → a ≡ b
name_is a b k n = ap (λ (z : ℕ). record { kind = z; number = a.number }) k ∙ ap (λ (z : ℕ). record { kind = b.kind; number = z }) n

pair_is : (a b c d : Name) → IsName a → IsName b → IsName c → IsName d → pair_key a b ≡ pair_key c d → IsSamePair a b c d
pair_is a b c d p q r s e =
    let last = two_bytes ((a.kind * 256 + a.number) * 256 + b.kind) b.number ((c.kind * 256 + c.number) * 256 + d.kind) d.number q.number s.number e in
    let third = two_bytes (a.kind * 256 + a.number) b.kind (c.kind * 256 + c.number) d.kind q.kind s.kind last.0 in
    let prefix = two_bytes a.kind a.number c.kind c.number p.number r.number third.0 in
    record { from = name_is a c prefix.0 prefix.1; to = name_is b d third.1 last.1 }

same_is : (a b : Name) → same_name a b ≡ true → a ≡ b
same_is a b e =
    name_is a b (eqb_is a.kind b.kind (and_left (a.kind == b.kind) (a.number == b.number) e))
    (eqb_is a.number b.number (and_right (a.kind == b.kind) (a.number == b.number) e))

same_self : (a : Name) → same_name a a ≡ true
same_self a = rw (eqb_same a.kind, eqb_same a.number) refl

-- what was sent on a pair, with one more at the end
on_pair-append : (a b : Name) (ss ts : List SentPaxosMessage) → paxos_on_pair a b (ss ++ ts) ≡ paxos_on_pair a b ss ++ paxos_on_pair a b ts
on_pair-append a b [] ts = refl
on_pair-append a b (s ∷ ss) ts = by (same_name s.from a && same_name s.to b) (on_pair-append a b ss ts)
  where
    by : (c : Bool) → paxos_on_pair a b (ss ++ ts) ≡ paxos_on_pair a b ss ++ paxos_on_pair a b ts
        → (if c then s.message ∷ paxos_on_pair a b (ss ++ ts) else paxos_on_pair a b (ss ++ ts))
        ≡ (if c then s.message ∷ paxos_on_pair a b ss else paxos_on_pair a b ss) ++ paxos_on_pair a b ts
    by true ih = ap (λ (l : List PaxosMsg). s.message ∷ l) ih
    by false ih = ih

module _ (p q : Posts) (ss : List SentPaxosMessage) (from to : Name) (m : PaxosMsg)
    (changed : IsChangedAt (posts_at p) (pair_key from to) (λ ms. ms ++ m ∷ []) (posts_at q)) (f : IsName from) (t : IsName to) where
  abbrev one : SentPaxosMessage
  one = record { from = from; to = to; message = m }

  pub pushed : HoldsSent p ss → HoldsSent q (ss ++ one ∷ [])
  pushed holds a b x y = changed (pair_key a b) ∙ by (bool_cases (pair_key from to == pair_key a b)) ∙ sym (on_pair-append a b ss (one ∷ []))
    where
      here : IsSamePair from to a b → paxos_on_pair a b (one ∷ []) ≡ m ∷ []
      here is =
          let first : same_name from a ≡ true = subst (λ (n : Name). same_name from n ≡ true) is.from (same_self from) in
          let second : same_name to b ≡ true = subst (λ (n : Name). same_name to n ≡ true) is.to (same_self to) in
          rw (first, second) refl

      elsewhere : (pair_key from to == pair_key a b) ≡ false → (c : Bool) → (same_name from a && same_name to b) ≡ c → (if c then m ∷ [] else []) ≡ []
      elsewhere other false is = refl
      elsewhere other true is =
          let first : from ≡ a = same_is from a (and_left (same_name from a) (same_name to b) is) in
          let second : to ≡ b = same_is to b (and_right (same_name from a) (same_name to b) is) in
          let same : pair_key from to ≡ pair_key a b = ap (λ (n : Name). pair_key n to) first ∙ ap (λ (n : Name). pair_key a n) second in
          let yes : (pair_key from to == pair_key a b) ≡ true = subst (λ (k : ℕ). (pair_key from to == k) ≡ true) same (eqb_same (pair_key from to)) in
          absurd cc

      by : ((pair_key from to == pair_key a b) ≡ true) ⊎ ((pair_key from to == pair_key a b) ≡ false)
          → (if pair_key from to == pair_key a b then posts_at p (pair_key a b) ++ m ∷ [] else posts_at p (pair_key a b))
          ≡ paxos_on_pair a b ss ++ paxos_on_pair a b (one ∷ [])
      by (inl e) = if_true (λ (l : List PaxosMsg). l ≡ paxos_on_pair a b ss ++ paxos_on_pair a b (one ∷ [])) (pair_key from to == pair_key a b) _ _ e
          (ap (λ (l : List PaxosMsg). l ++ m ∷ []) (holds a b x y)
          ∙ ap (λ (l : List PaxosMsg). paxos_on_pair a b ss ++ l) (sym (here (pair_is from to a b f t x y (eqb_is (pair_key from to) (pair_key a b) e)))))
      by (inr e) = if_false (λ (l : List PaxosMsg). l ≡ paxos_on_pair a b ss ++ paxos_on_pair a b (one ∷ [])) (pair_key from to == pair_key a b) _ _ e
          (holds a b x y ∙ sym (append-nil (paxos_on_pair a b ss))
          ∙ ap (λ (l : List PaxosMsg). paxos_on_pair a b ss ++ l) (sym (elsewhere e (same_name from a && same_name to b) refl)))

-- and its place among the messages that a process sends
posted-last : (from : Name) (x : Name × PaxosMsg) (xs : List (Name × PaxosMsg))
    → paxos_posted from (xs ++ x ∷ []) ≡ paxos_posted from xs ++ record { from = from; to = x.0; message = x.1 } ∷ []
posted-last from x [] = refl
posted-last from x (y ∷ ys) = ap (λ (l : List SentPaxosMessage). record { from = from; to = y.0; message = y.1 } ∷ l) (posted-last from x ys)

pub posted-more : (from : Name) (xs : List (Name × PaxosMsg)) (x : Name × PaxosMsg) (ss : List SentPaxosMessage)
    → ss ++ paxos_posted from (xs ++ x ∷ []) ≡ (ss ++ paxos_posted from xs) ++ record { from = from; to = x.0; message = x.1 } ∷ []
posted-more from xs x ss =
    ap (λ (l : List SentPaxosMessage). ss ++ l) (posted-last from x xs)
    ∙ sym (append_assoc ss (paxos_posted from xs) (record { from = from; to = x.0; message = x.1 } ∷ []))
