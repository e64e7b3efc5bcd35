-- What is said in a round, of what is sent.
use Rattle.std.{specs.Prelude.{List, [], ◌∷◌, ◌++◌, ◌==◌}, proofs.Common.{◌≡◌, ◌≢◌, ℕ, zero, suc, ◌≤◌, ◌⊎◌, Bool, true, eqb, inl, inr, refl, sym, subst, ◌∙◌}}
use Rattle.std.proofs.Common.{ap, append_assoc, arith}
use Rattle.spl_agree.proofs.Tests.{if_holds, if_true, if_false, eqb_same, eqb_other}
use Rattle.spl_acceptor.specs.{Quorums.{IsWithin, numbers, acceptors}, Rows.{member, acceptor, to_each_process, to_acceptors, to_members, orders}}
use Rattle.spl_acceptor.specs.{Worlds.{SentPaxosMessage, paxos_posted, round_of}, declared.{group.Group.Group, message.{Name.Name, PaxosMsg.PaxosMsg}}}
use Rattle.spl_acceptor.specs.declared.message.PaxosMsg.TheVariants as msg
use Rattle.spl_paxos_safety.proofs.{Round.{Message, IsAmong, said, said_in, seen}, Quorums.{within-more, within-last}, Tests.{was-split, was-prefix}}
use Rattle.spl_paxos_safety.proofs.{Tests.was-after, AcceptorRows.{Only, same_number}, LeaderRows.Orders}

abbrev pub Sends : Type 0
Sends = List (Name × PaxosMsg)

-- all of it is of this round
abbrev pub AllOf : ℕ → Sends → Type 0
AllOf r sends = (s : Name × PaxosMsg) → IsAmong s sends → round_of s.1 ≡ r

pub seen-append : (r : ℕ) (ss ps : List SentPaxosMessage) → seen r (ss ++ ps) ≡ seen r ps ++ seen r ss
seen-append r [] ps = sym (append-nil (seen r ps))
  where
    append-nil : (xs : List Message) → xs ++ [] ≡ xs
    append-nil [] = refl
    append-nil (x ∷ xs) = ap (λ (ys : List Message). x ∷ ys) (append-nil xs)
seen-append r (s ∷ ss) ps =
    ap (λ (xs : List Message). xs ++ said_in r s.from.number s.message) (seen-append r ss ps)
    ∙ append_assoc (seen r ps) (seen r ss) (said_in r s.from.number s.message)

-- nothing in another round
pub seen-other : (r k : ℕ) (n : Name) (sends : Sends) → k ≢ r → AllOf k sends → seen r (paxos_posted n sends) ≡ []
seen-other r k n [] d all = refl
seen-other r k n (s ∷ ss) d all = ap (λ (xs : List Message). xs ++ said_in r n.number s.1) (seen-other r k n ss d (λ t u. all t (inr u)))
    ∙ if_false (λ (xs : List Message). xs ≡ []) (round_of s.1 == r) (said n.number s.1 ∷ []) []
    (eqb_other (round_of s.1) r (λ e. d (sym (all s (inl refl)) ∙ e))) refl

-- each message says what was sent
pub seen-from : (r : ℕ) (n : Name) (sends : Sends) (y : Message) → IsAmong y (seen r (paxos_posted n sends))
    → (s : Name × PaxosMsg) × IsAmong s sends × (y ≡ said n.number s.1)
seen-from r n [] y u = absurd u
seen-from r n (s ∷ ss) y u = go (was-split y (seen r (paxos_posted n ss)) (said_in r n.number s.1) u) (seen-from r n ss y)
  where
    here : IsAmong y (said_in r n.number s.1) → y ≡ said n.number s.1
    here = if_holds (λ (xs : List Message). IsAmong y xs → y ≡ said n.number s.1) (round_of s.1 == r) (said n.number s.1 ∷ []) [] (λ q v. only v)
        (λ q v. absurd v)
      where
        only : (y ≡ said n.number s.1) ⊎ ⊥ → y ≡ said n.number s.1
        only (inl e) = e
        only (inr v) = absurd v

    go : IsAmong y (seen r (paxos_posted n ss)) ⊎ IsAmong y (said_in r n.number s.1)
        → (IsAmong y (seen r (paxos_posted n ss)) → (t : Name × PaxosMsg) × IsAmong t ss × (y ≡ said n.number t.1))
        → (t : Name × PaxosMsg) × IsAmong t (s ∷ ss) × (y ≡ said n.number t.1)
    go (inl v) ih = ((ih v).0, inr (ih v).1, (ih v).2)
    go (inr v) ih = (s, inl refl, here v)

-- and what was sent in the round was said
pub said-here : (r n : ℕ) (m : PaxosMsg) → round_of m ≡ r → IsAmong (said n m) (said_in r n m)
said-here r n m e =
    if_true (λ (xs : List Message). IsAmong (said n m) xs) (round_of m == r) (said n m ∷ []) []
    (subst (λ (k : ℕ). eqb (round_of m) k ≡ true) e (eqb_same (round_of m))) (inl refl)

pub seen-has : (r : ℕ) (n : Name) (sends : Sends) (s : Name × PaxosMsg) → IsAmong s sends → round_of s.1 ≡ r
    → IsAmong (said n.number s.1) (seen r (paxos_posted n sends))
seen-has r n [] s u e = absurd u
seen-has r n (t ∷ ts) s (inl q) e = was-after (said n.number s.1) (seen r (paxos_posted n ts)) (said_in r n.number t.1)
    (subst (λ (z : Name × PaxosMsg). IsAmong (said n.number s.1) (said_in r n.number z.1)) q (said-here r n.number s.1 e))
seen-has r n (t ∷ ts) s (inr u) e = was-prefix (said n.number s.1) (seen r (paxos_posted n ts)) (said_in r n.number t.1) (seen-has r n ts s u e)

-- what was sent on a pair was said in its round
pub sent-said : (r : ℕ) (ss : List SentPaxosMessage) (s : SentPaxosMessage) → IsAmong s ss → round_of s.message ≡ r
    → IsAmong (said s.from.number s.message) (seen r ss)
sent-said r [] s u e = absurd u
sent-said r (t ∷ ts) s (inl q) e = was-after (said s.from.number s.message) (seen r ts) (said_in r t.from.number t.message)
    (subst (λ (z : SentPaxosMessage). IsAmong (said s.from.number s.message) (said_in r z.from.number z.message)) q (said-here r s.from.number s.message e))
sent-said r (t ∷ ts) s (inr u) e = was-prefix (said s.from.number s.message) (seen r ts) (said_in r t.from.number t.message) (sent-said r ts s u e)

-- one message in its round
pub seen-one : (r : ℕ) (n to : Name) (m : PaxosMsg) → round_of m ≡ r → seen r (paxos_posted n ((to, m) ∷ [])) ≡ said n.number m ∷ []
seen-one r n to m e =
    if_true (λ (xs : List Message). xs ≡ said n.number m ∷ []) (round_of m == r) (said n.number m ∷ []) []
    (subst (λ (k : ℕ). eqb (round_of m) k ≡ true) e (eqb_same (round_of m))) refl

-- ---- one message to each of some

pub each-is : (name : ℕ → Name) (m : PaxosMsg) (is : List ℕ) (s : Name × PaxosMsg) → IsAmong s (to_each_process name m is) → s.1 ≡ m
each-is name m [] s u = absurd u
each-is name m (i ∷ is) s (inl e) = ap (λ (z : Name × PaxosMsg). z.1) e
each-is name m (i ∷ is) s (inr u) = each-is name m is s u

pub each-has : (name : ℕ → Name) (m : PaxosMsg) (is : List ℕ) (i : ℕ) → IsAmong i is → IsAmong (name i, m) (to_each_process name m is)
each-has name m [] i u = absurd u
each-has name m (j ∷ js) i (inl e) = inl (ap (λ (k : ℕ). (name k, m)) e)
each-has name m (j ∷ js) i (inr u) = inr (each-has name m js i u)

pub numbers-within : (n i : ℕ) → IsAmong i (numbers n) → IsWithin n i
numbers-within zero i u = absurd u
numbers-within (suc n) i u = go (was-split i (numbers n) (suc n ∷ []) u) (numbers-within n i)
  where
    go : IsAmong i (numbers n) ⊎ IsAmong i (suc n ∷ []) → (IsAmong i (numbers n) → IsWithin n i) → IsWithin (suc n) i
    go (inl v) ih = within-more n i (ih v)
    go (inr (inl e)) ih = subst (λ (k : ℕ). IsWithin (suc n) k) (sym e) (within-last n)
    go (inr (inr v)) ih = absurd v

pub within-numbers : (n i : ℕ) → IsWithin n i → IsAmong i (numbers n)
within-numbers zero i w = let j : 1 ≤ i = w.above in let k : i ≤ 0 = w.most in absurd (omega arith)
within-numbers (suc n) i w = go (same_number i (suc n)) (within-numbers n i)
  where
    go : (i ≡ suc n) ⊎ (i ≢ suc n) → (IsWithin n i → IsAmong i (numbers n)) → IsAmong i (numbers (suc n))
    go (inl e) ih = was-after i (numbers n) (suc n ∷ []) (inl e)
    go (inr d) ih = was-prefix i (numbers n) (suc n ∷ []) (ih (record { above = w.above; most = let k : i ≤ suc n = w.most in omega arith }))

each-all : (r : ℕ) (name : ℕ → Name) (m : PaxosMsg) (is : List ℕ) → round_of m ≡ r → AllOf r (to_each_process name m is)
each-all r name m is e s u = ap round_of (each-is name m is s u) ∙ e

pub acceptors-all : (g : Group) (r : ℕ) (m : PaxosMsg) → round_of m ≡ r → AllOf r (to_acceptors g m)
acceptors-all g r m e = each-all r acceptor m (numbers (acceptors g.faults)) e

pub members-all : (g : Group) (r : ℕ) (m : PaxosMsg) → round_of m ≡ r → AllOf r (to_members g m)
members-all g r m e = each-all r member m (numbers g.members) e

pub one-all : (r : ℕ) (to : Name) (m : PaxosMsg) → round_of m ≡ r → AllOf r ((to, m) ∷ [])
one-all r to m e s (inl q) = ap (λ (z : Name × PaxosMsg). round_of z.1) q ∙ e
one-all r to m e s (inr u) = absurd u

-- a message to all says one thing
pub each-only : (r : ℕ) (n : Name) (name : ℕ → Name) (m : PaxosMsg) (is : List ℕ) → Only (said n.number m) (seen r (paxos_posted n (to_each_process name m is)))
each-only r n name m is y u =
    let f : (s : Name × PaxosMsg) × IsAmong s (to_each_process name m is) × (y ≡ said n.number s.1) = seen-from r n (to_each_process name m is) y u in
    f.2 ∙ ap (said n.number) (each-is name m is f.0 f.1)

pub each-said : (r : ℕ) (n : Name) (name : ℕ → Name) (m : PaxosMsg) (is : List ℕ) (i : ℕ) → IsAmong i is → round_of m ≡ r
    → IsAmong (said n.number m) (seen r (paxos_posted n (to_each_process name m is)))
each-said r n name m is i u e = seen-has r n (to_each_process name m is) (name i, m) (each-has name m is i u) e

-- ---- the orders of a ballot

pub orders-from : (g : Group) (r b : ℕ) (chosen : ℕ → Bool) (is : List ℕ) (s : Name × PaxosMsg) → IsAmong s (orders g r b chosen is)
    → (i : ℕ) × IsAmong i is × (s.1 ≡ msg.Accept r i b (chosen i))
orders-from g r b chosen [] s u = absurd u
orders-from g r b chosen (i ∷ is) s u =
    go (was-split s (to_acceptors g (msg.Accept r i b (chosen i))) (orders g r b chosen is) u) (orders-from g r b chosen is s)
  where
    go : IsAmong s (to_acceptors g (msg.Accept r i b (chosen i))) ⊎ IsAmong s (orders g r b chosen is)
        → (IsAmong s (orders g r b chosen is) → (j : ℕ) × IsAmong j is × (s.1 ≡ msg.Accept r j b (chosen j)))
        → (j : ℕ) × IsAmong j (i ∷ is) × (s.1 ≡ msg.Accept r j b (chosen j))
    go (inl v) ih = (i, inl refl, each-is acceptor (msg.Accept r i b (chosen i)) (numbers (acceptors g.faults)) s v)
    go (inr v) ih = ((ih v).0, inr (ih v).1, (ih v).2)

pub orders-all : (g : Group) (r b : ℕ) (chosen : ℕ → Bool) (is : List ℕ) → AllOf r (orders g r b chosen is)
orders-all g r b chosen is s u = ap round_of (orders-from g r b chosen is s u).2

pub orders-said : (g : Group) (r b : ℕ) (n : Name) (chosen : ℕ → Bool) → Orders g b chosen (seen r (paxos_posted n (orders g r b chosen (numbers g.members))))
orders-said g r b n chosen y u =
    let f : (s : Name × PaxosMsg) × IsAmong s (orders g r b chosen (numbers g.members)) × (y ≡ said n.number s.1) =
    seen-from r n (orders g r b chosen (numbers g.members)) y u in
    let o : (i : ℕ) × IsAmong i (numbers g.members) × (f.0.1 ≡ msg.Accept r i b (chosen i)) = orders-from g r b chosen (numbers g.members) f.0 f.1 in
    (o.0, numbers-within g.members o.0 o.1, f.2 ∙ ap (said n.number) o.2)
