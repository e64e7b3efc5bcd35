-- Each of some acceptors hears the orders of a ballot, and accepts them.
use Rattle.std.{specs.Prelude.{Option, Some, None, nat_lt, not, ◌==◌}, proofs.Common.{◌≡◌, ◌≢◌, ℕ, zero, suc, ◌+◌, ◌-◌, ◌⊎◌, Bool, true, false, ◌&&◌, ◌||◌}}
use Rattle.std.proofs.Common.{List, [], ◌∷◌, ◌++◌, length, inl, inr, refl, sym, subst, ◌∙◌, ap, append_assoc, arith}
use Rattle.spl_agree.proofs.Tests.{if_holds, if_true, eqb_other}
use Rattle.spl_acceptor.specs.{Quorums.{IsWithin, numbers, acceptors}, Processes.Acceptor, Rows.{PaxosPlan, member, acceptor, leader, is_leader_of}}
use Rattle.spl_acceptor.specs.{Rows.{to_members, is_pair, accept_plan, may_order, acceptor_row, acceptor_changed, acceptor_after}, Worlds.PaxosCommitWorld}
use Rattle.spl_acceptor.specs.Worlds.{same_name, paxos_on_pair, message_numbered, message_at, paxos_posted, at_acceptor, Happening, Delivers, round_of}
use Rattle.spl_acceptor.specs.{Worlds.{message_heard, paxos_delivered, paxos_happens, paxos_run}, declared.{group.Group.Group, kind.TheConstants.MEMBER}}
use Rattle.spl_acceptor.specs.declared.{kind.TheConstants.LEADER, message.{Name.Name, PaxosMsg.PaxosMsg}}
use Rattle.spl_acceptor.specs.declared.record.PaxosRecord.{PaxosRecord}
use Rattle.spl_acceptor.specs.declared.message.PaxosMsg.TheVariants as msg
use Rattle.spl_acceptor.specs.declared.record.PaxosRecord.TheVariants as kept
use Rattle.spl_paxos_safety.{specs.Settling.{for_each, last_on, hand_orders}, proofs.{Round.IsAmong, Quorums.{within-more, within-last}}}
use Rattle.spl_paxos_safety.proofs.{AcceptorRows.same_number, Lists.{append-nil, listed, listed-append, numbered-tail, pair-append, member-kind, pair-each}}
use Rattle.spl_paxos_safety.proofs.Grows.{Grows, grows-self, grows-then, message-stays, hears-it, others-still, keep-each, each-stage, each-append}
use Rattle.spl_paxos_safety.proofs.{Closed.Ordering, Runs.run-append, Decisions.put_round-holds}

abbrev pub order_of : ℕ → ℕ → (ℕ → Bool) → ℕ → PaxosMsg
order_of r b chosen i = msg.Accept r i b (chosen i)

abbrev pub accepted_of : ℕ → ℕ → (ℕ → Bool) → ℕ → PaxosMsg
accepted_of r b chosen i = msg.Accepted r i b (chosen i)

-- what stays while the acceptors hear orders
pub record Obeying (r b : ℕ) (those : List ℕ) (start w : PaxosCommitWorld) : Type 0 where
  pub grows : Grows start w
  pub up : w.up ≡ start.up
  pub promised : (a : ℕ) → IsAmong a those → (w.acceptor a r).promised ≡ b

-- its last messages to each member are those of the ballot
abbrev pub Obeyed : Group → ℕ → ℕ → (ℕ → Bool) → ℕ → PaxosCommitWorld → Type 0
Obeyed g r b chosen a w =
    (m : ℕ) → IsWithin g.members m
    → (prefix : List PaxosMsg) × (paxos_on_pair (acceptor a) (member m) w.sent ≡ prefix ++ listed (accepted_of r b chosen) (numbers g.members))

not-below : (b c : ℕ) → c ≡ b → not (nat_lt b c) ≡ true
not-below b c e = grind (arith)

-- an order of a ballot that it promised is accepted
order-accepted : (g : Group) (l r b a i : ℕ) (p : Bool) (x : Acceptor) → is_leader_of b (leader l) ≡ true → x.promised ≡ b
    → acceptor_row g x (leader l) (msg.Accept r i b p) ≡ accept_plan g x r i b p
order-accepted g l r b a i p x own e = if_true (λ (q : PaxosPlan). q ≡ accept_plan g x r i b p) (may_order i b (leader l) && not (nat_lt b x.promised)) _ _
    (and-both (may_order i b (leader l)) (not (nat_lt b x.promised)) (or-right (b == 0 && (LEADER == MEMBER && l == i)) (is_leader_of b (leader l)) own)
    (not-below b x.promised e)) refl
  where
    and-both : (c d : Bool) → c ≡ true → d ≡ true → (c && d) ≡ true
    and-both true d s t = t
    and-both false d s t = cc

    or-right : (c d : Bool) → d ≡ true → (c || d) ≡ true
    or-right true d s = refl
    or-right false d s = s

accepts-promised : (g : Group) (x : Acceptor) (r i b : ℕ) (p : Bool) → x.promised ≡ b → (acceptor_after x (accept_plan g x r i b p)).promised ≡ b
accepts-promised g x r i b p e =
    if_holds (λ (c : Option PaxosRecord). (acceptor_changed x c).promised ≡ b) (x.promised == b && is_pair b p (x.accepted i)) None
    (Some (kept.Accepted r i b p)) (λ q. e) (λ q. refl)

abbrev order_lines : ℕ → ℕ → ℕ → ℕ → List Happening
order_lines l a before i = Delivers (leader l) (acceptor a) (before + i) ∷ []

-- one order
obeys-one : (g : Group) (l r b a i k : ℕ) (those : List ℕ) (p : Bool) (start w : PaxosCommitWorld) → is_leader_of b (leader l) ≡ true
    → start.up (acceptor a) ≡ true → message_at start (leader l) (acceptor a) k ≡ Some (msg.Accept r i b p) → IsAmong a those
    → Obeying r b those start w
    → Obeying r b those start (paxos_happens g w (Delivers (leader l) (acceptor a) k))
    × ((m : ℕ) → IsWithin g.members m
    → paxos_on_pair (acceptor a) (member m) (paxos_happens g w (Delivers (leader l) (acceptor a) k)).sent
    ≡ paxos_on_pair (acceptor a) (member m) w.sent ++ msg.Accepted r i b p ∷ [])
obeys-one g l r b a i k those p start w own up sent u x =
    subst (λ (v : PaxosCommitWorld). Obeying r b those start v
    × ((m : ℕ) → IsWithin g.members m
    → paxos_on_pair (acceptor a) (member m) v.sent ≡ paxos_on_pair (acceptor a) (member m) w.sent ++ msg.Accepted r i b p ∷ [])) (sym now) (
      record {
        grows = grows-then start w v x.grows (paxos_posted (acceptor a) (accept_plan g old r i b p).sends, refl);
        up = x.up;
        promised =
            λ c t. put_round-holds (λ (c n : ℕ) (z : Acceptor). n ≡ r → IsAmong c those → z.promised ≡ b) w.acceptor a r
            (acceptor_after old (accept_plan g old r i b p)) c r
            (λ e y. accepts-promised g old r i b p (x.promised a u)) (λ e y. x.promised c y) refl t;
      },
      λ m j. pair-append (acceptor a) (member m) w.sent (paxos_posted (acceptor a) (to_members g (msg.Accepted r i b p)))
          ∙ ap (λ (z : List PaxosMsg). paxos_on_pair (acceptor a) (member m) w.sent ++ z)
          (pair-each member (acceptor a) (msg.Accepted r i b p) g.members m member-kind j),
    )
  where
    old : Acceptor
    old = w.acceptor a r

    v : PaxosCommitWorld
    v = at_acceptor w a r (accept_plan g old r i b p)

    now : paxos_happens g w (Delivers (leader l) (acceptor a) k) ≡ v
    now = hears-it g w (leader l) (acceptor a) k (msg.Accept r i b p) (ap (λ (f : Name → Bool). f (acceptor a)) x.up ∙ up)
        (message-stays start w (leader l) (acceptor a) k (msg.Accept r i b p) x.grows sent)
        ∙ ap (at_acceptor w a r) (order-accepted g l r b a i p old own (x.promised a u))

-- the orders about the members from 1 to n
obeys-some : (g : Group) (l r b a before : ℕ) (those : List ℕ) (chosen : ℕ → Bool) (start w : PaxosCommitWorld) (n : ℕ) → is_leader_of b (leader l) ≡ true
    → start.up (acceptor a) ≡ true
    → ((i : ℕ) → IsWithin n i → message_at start (leader l) (acceptor a) (before + i) ≡ Some (order_of r b chosen i)) → IsAmong a those
    → Obeying r b those start w
    → Obeying r b those start (paxos_run g w (for_each (order_lines l a before) (numbers n)))
    × ((m : ℕ) → IsWithin g.members m
    → paxos_on_pair (acceptor a) (member m) (paxos_run g w (for_each (order_lines l a before) (numbers n))).sent
    ≡ paxos_on_pair (acceptor a) (member m) w.sent ++ listed (accepted_of r b chosen) (numbers n))
obeys-some g l r b a before those chosen start w zero own up sent u x = (x, λ m j. sym (append-nil (paxos_on_pair (acceptor a) (member m) w.sent)))
obeys-some g l r b a before those chosen start w (suc n) own up sent u x =
    subst (λ (v : PaxosCommitWorld). Obeying r b those start v
    × ((m : ℕ) → IsWithin g.members m
    → paxos_on_pair (acceptor a) (member m) v.sent ≡ paxos_on_pair (acceptor a) (member m) w.sent ++ listed (accepted_of r b chosen) (numbers (suc n))))
    (sym same)
    (last (obeys-some g l r b a before those chosen start w n own up (λ i j. sent i (within-more n i j)) u x))
  where
    v : PaxosCommitWorld
    v = paxos_run g w (for_each (order_lines l a before) (numbers n))

    same : paxos_run g w (for_each (order_lines l a before) (numbers (suc n))) ≡ paxos_happens g v (Delivers (leader l) (acceptor a) (before + suc n))
    same = ap (paxos_run g w) (each-append (order_lines l a before) (numbers n) (suc n ∷ []))
        ∙ run-append g w (for_each (order_lines l a before) (numbers n)) (order_lines l a before (suc n))

    last : Obeying r b those start v
        × ((m : ℕ) → IsWithin g.members m
        → paxos_on_pair (acceptor a) (member m) v.sent ≡ paxos_on_pair (acceptor a) (member m) w.sent ++ listed (accepted_of r b chosen) (numbers n))
        → Obeying r b those start (paxos_happens g v (Delivers (leader l) (acceptor a) (before + suc n)))
        × ((m : ℕ) → IsWithin g.members m
        → paxos_on_pair (acceptor a) (member m) (paxos_happens g v (Delivers (leader l) (acceptor a) (before + suc n))).sent
        ≡ paxos_on_pair (acceptor a) (member m) w.sent ++ listed (accepted_of r b chosen) (numbers (suc n)))
    last y =
        let z : Obeying r b those start (paxos_happens g v (Delivers (leader l) (acceptor a) (before + suc n)))
        × ((m : ℕ) → IsWithin g.members m
        → paxos_on_pair (acceptor a) (member m) (paxos_happens g v (Delivers (leader l) (acceptor a) (before + suc n))).sent
        ≡ paxos_on_pair (acceptor a) (member m) v.sent ++ accepted_of r b chosen (suc n) ∷ [])
        = obeys-one g l r b a (suc n) (before + suc n) those (chosen (suc n)) start v own up (sent (suc n) (within-last n)) u y.0 in (
          z.0,
          λ m j. z.1 m j ∙ ap (λ (q : List PaxosMsg). q ++ accepted_of r b chosen (suc n) ∷ []) (y.1 m j)
              ∙ append_assoc (paxos_on_pair (acceptor a) (member m) w.sent) (listed (accepted_of r b chosen) (numbers n))
              (accepted_of r b chosen (suc n) ∷ [])
              ∙ ap (λ (q : List PaxosMsg). paxos_on_pair (acceptor a) (member m) w.sent ++ q)
              (sym (listed-append (accepted_of r b chosen) (numbers n) (suc n ∷ []))),
        )

-- another acceptor's messages stay its last
heard-pair : (g : Group) (w : PaxosCommitWorld) (f t from : Name) (a : ℕ) (m : PaxosMsg) → same_name (acceptor a) f ≡ false
    → paxos_on_pair f t (message_heard g w from (acceptor a) m).sent ≡ paxos_on_pair f t w.sent
heard-pair g w f t from a m d = others-still w f t (acceptor a) (acceptor_row g (w.acceptor a (round_of m)) from m).sends d

delivered-pair : (g : Group) (w : PaxosCommitWorld) (f t from : Name) (a : ℕ) (o : Option PaxosMsg) → same_name (acceptor a) f ≡ false
    → paxos_on_pair f t (paxos_delivered g w from (acceptor a) o).sent ≡ paxos_on_pair f t w.sent
delivered-pair g w f t from a None d = refl
delivered-pair g w f t from a (Some m) d = heard-pair g w f t from a m d

delivers-pair : (g : Group) (w : PaxosCommitWorld) (f t from : Name) (a k : ℕ) → same_name (acceptor a) f ≡ false
    → paxos_on_pair f t (paxos_happens g w (Delivers from (acceptor a) k)).sent ≡ paxos_on_pair f t w.sent
delivers-pair g w f t from a k d =
    if_holds (λ (v : PaxosCommitWorld). paxos_on_pair f t v.sent ≡ paxos_on_pair f t w.sent) (w.up (acceptor a)) _ _
    (λ q. delivered-pair g w f t from a (message_at w from (acceptor a) k) d) (λ q. refl)

-- where each of them hears all orders, each accepts them all
pub orders-stage : (g : Group) (l r b : ℕ) (those : List ℕ) (chosen : ℕ → Bool) (start : PaxosCommitWorld) → is_leader_of b (leader l) ≡ true
    → ((a : ℕ) → IsAmong a those → start.up (acceptor a) ≡ true)
    → ((a : ℕ) → IsAmong a those → IsWithin (acceptors g.faults) a) → ((a : ℕ) → IsAmong a those → (start.acceptor a r).promised ≡ b)
    → Ordering g l r b chosen start.sent
    → Obeying r b those start (paxos_run g start (hand_orders g start l those))
    × ((a : ℕ) → IsAmong a those → Obeyed g r b chosen a (paxos_run g start (hand_orders g start l those)))
orders-stage g l r b those chosen start own up within promised ordered =
    each-stage g lines (Obeying r b those start) (Obeyed g r b chosen) those step keep start
    (record { grows = grows-self start; up = refl; promised = promised })
  where
    before : ℕ → ℕ
    before a = last_on start (leader l) (acceptor a) - g.members

    lines : ℕ → List Happening
    lines a = for_each (order_lines l a (before a)) (numbers g.members)

    sent : (a : ℕ) → IsAmong a those → (i : ℕ) → IsWithin g.members i → message_at start (leader l) (acceptor a) (before a + i) ≡ Some (order_of r b chosen i)
    sent a u i j =
        subst (λ (z : List PaxosMsg). message_numbered z (length z - g.members + i) ≡ Some (order_of r b chosen i)) (sym (ordered a (within a u)).1)
        (numbered-tail (ordered a (within a u)).0 (order_of r b chosen) g.members i j)

    step : (a : ℕ) (w : PaxosCommitWorld) → IsAmong a those → Obeying r b those start w
        → Obeying r b those start (paxos_run g w (lines a)) × Obeyed g r b chosen a (paxos_run g w (lines a))
    step a w u x =
        let y : Obeying r b those start (paxos_run g w (lines a))
        × ((m : ℕ) → IsWithin g.members m
        → paxos_on_pair (acceptor a) (member m) (paxos_run g w (lines a)).sent
        ≡ paxos_on_pair (acceptor a) (member m) w.sent ++ listed (accepted_of r b chosen) (numbers g.members))
        = obeys-some g l r b a (before a) those chosen start w g.members own (up a u) (sent a u) u x in
        (y.0, λ m j. (paxos_on_pair (acceptor a) (member m) w.sent, y.1 m j))

    others : (a c : ℕ) (w : PaxosCommitWorld) → c ≢ a → Obeyed g r b chosen c w → Obeyed g r b chosen c (paxos_run g w (lines a))
    others a c w d x = keep-each g (order_lines l a (before a)) (Obeyed g r b chosen c) (numbers g.members)
        (λ i v u y m j. ((y m j).0, delivers-pair g v (acceptor c) (member m) (leader l) a (before a + i) (eqb_other a c (λ e. d (sym e))) ∙ (y m j).1)) w x

    keep : (a c : ℕ) (w : PaxosCommitWorld) → IsAmong a those → Obeying r b those start w → Obeyed g r b chosen c w
        → Obeyed g r b chosen c (paxos_run g w (lines a))
    keep a c w u x y = go (same_number c a)
      where
        go : (c ≡ a) ⊎ (c ≢ a) → Obeyed g r b chosen c (paxos_run g w (lines a))
        go (inl e) = subst (λ (z : ℕ). Obeyed g r b chosen z (paxos_run g w (lines a))) (sym e) (step a w u x).1
        go (inr d) = others a c w d y
