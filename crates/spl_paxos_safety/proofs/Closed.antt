-- The leader hears the promises of a quorum, and its orders go out.
use Rattle.std.{specs.Prelude.{Option, Some, None, nat_lt, ◌==◌, not, is_none, is_some, if◌then◌else◌}, proofs.Common.{◌≡◌, ◌≢◌, ℕ, zero, suc, ◌≤◌, ◌⊎◌}}
use Rattle.std.proofs.Common.{Bool, true, false, ◌&&◌, eqb, List, [], ◌∷◌, ◌++◌, length, inl, inr, refl, sym, subst, ◌∙◌, ap, arith}
use Rattle.spl_agree.{specs.World.put, proofs.Tests.{if_holds, if_true, eqb_same, eqb_is, eqb_other, and_left, put-same}}
use Rattle.spl_acceptor.specs.{Quorums.{IsWithin, numbers, count, acceptors, has_quorum}, Processes.{Pairs, PaxosBallot, Leader}, Rows.{Hear, Close}}
use Rattle.spl_acceptor.specs.Rows.{PaxosPlan, note_alone, acceptor, leader, pair_among, choice, orders, counts_promise, on_promise, with_promise}
use Rattle.spl_acceptor.specs.{Rows.leader_after, Worlds.{PaxosCommitWorld, SentPaxosMessage, paxos_on_pair, message_numbered, message_at, paxos_posted}}
use Rattle.spl_acceptor.specs.{Worlds.{at_leader, Happening, Delivers, paxos_happens, paxos_run}, declared.{group.Group.Group, message.Name.Name}}
use Rattle.spl_acceptor.specs.declared.message.{PaxosMsg.PaxosMsg, Pledge.Pledge}
use Rattle.spl_acceptor.specs.declared.message.PaxosMsg.TheVariants as msg
use Rattle.spl_acceptor.specs.declared.note.PaxosNote.TheVariants as note
use Rattle.spl_paxos_safety.{specs.Settling.{Distinct, last_on, hand_replies}, proofs.{Round.IsAmong, Quorums.{within-more, within-last}, Tests.put_holds}}
use Rattle.spl_paxos_safety.proofs.{AcceptorRows.same_number, Lists.{append-nil, numbered-last, listed, pair-append, pair-orders}, Grows.{Grows, grows-self}}
use Rattle.spl_paxos_safety.proofs.{Grows.{grows-then, message-stays, hears-it, put_round-same, each-stage}, Taught.below-is}

-- ---- distinct numbers that pass a test are counted

and_both : (c d : Bool) → c ≡ true → d ≡ true → (c && d) ≡ true
and_both true d p q = q
and_both false d p q = cc

abbrev but : (ℕ → Bool) → ℕ → ℕ → Bool
but test a c = test c && not (c == a)

count-same : (n : ℕ) (f h : ℕ → Bool) → ((c : ℕ) → IsWithin n c → f c ≡ h c) → count n f ≡ count n h
count-same zero f h all = refl
count-same (suc n) f h all = go (f (suc n)) (h (suc n)) (all (suc n) (within-last n)) (count-same n f h (λ c w. all c (within-more n c w)))
  where
    go : (x y : Bool) → x ≡ y → count n f ≡ count n h → (if x then suc (count n f) else count n f) ≡ (if y then suc (count n h) else count n h)
    go true true e ih = ap suc ih
    go true false e ih = cc
    go false true e ih = cc
    go false false e ih = ih

not-other : (c a : ℕ) → c ≢ a → not (c == a) ≡ true
not-other c a d = ap not (eqb_other c a d)

and-true : (c : Bool) → (c && true) ≡ c
and-true true = refl
and-true false = refl

and-false : (c : Bool) → (c && false) ≡ false
and-false true = refl
and-false false = refl

but-other : (test : ℕ → Bool) (a c : ℕ) → c ≢ a → but test a c ≡ test c
but-other test a c d = ap (λ (z : Bool). test c && z) (not-other c a d) ∙ and-true (test c)

but-same : (test : ℕ → Bool) (a : ℕ) → but test a a ≡ false
but-same test a = ap (λ (z : Bool). test a && not z) (eqb_same a) ∙ and-false (test a)

-- one of them left out
count-but : (n : ℕ) (test : ℕ → Bool) (a : ℕ) → IsWithin n a → test a ≡ true → count n test ≡ suc (count n (but test a))
count-but zero test a w t = let j : 1 ≤ a = w.above in let k : a ≤ 0 = w.most in absurd (omega arith)
count-but (suc n) test a w t = go (same_number a (suc n)) (λ v. count-but n test a v t)
  where
    last : test (suc n) ≡ true → but test a (suc n) ≡ false → count n test ≡ count n (but test a) → count (suc n) test ≡ suc (count (suc n) (but test a))
    last x y e = if_true (λ (z : ℕ). z ≡ suc (count (suc n) (but test a))) (test (suc n)) _ _ x (ap suc (e ∙ sym (if_none (but test a (suc n)) y)))
      where
        if_none : (c : Bool) → c ≡ false → (if c then suc (count n (but test a)) else count n (but test a)) ≡ count n (but test a)
        if_none true q = cc
        if_none false q = refl

    before : (c d : Bool) → d ≡ c → count n test ≡ suc (count n (but test a))
        → (if c then suc (count n test) else count n test) ≡ suc (if d then suc (count n (but test a)) else count n (but test a))
    before true true e ih = ap suc ih
    before true false e ih = cc
    before false true e ih = cc
    before false false e ih = ih

    go : (a ≡ suc n) ⊎ (a ≢ suc n) → (IsWithin n a → count n test ≡ suc (count n (but test a))) → count (suc n) test ≡ suc (count (suc n) (but test a))
    go (inl e) ih =
        last (subst (λ (z : ℕ). test z ≡ true) e t) (subst (λ (z : ℕ). but test a z ≡ false) e (but-same test a))
        (count-same n test (but test a) (λ c v. sym (but-other test a c (λ f. let k : c ≤ n = v.most in omega arith))))
    go (inr d) ih =
        before (test (suc n)) (but test a (suc n)) (but-other test a (suc n) (λ f. d (sym f)))
        (ih (record { above = w.above; most = let k : a ≤ suc n = w.most in omega arith }))

pub distinct-count : (n : ℕ) (those : List ℕ) (test : ℕ → Bool) → Distinct those → ((a : ℕ) → IsAmong a those → IsWithin n a)
    → ((a : ℕ) → IsAmong a those → test a ≡ true) → length those ≤ count n test
distinct-count n [] test d w t = omega arith
distinct-count n (a ∷ those) test d w t =
    let e : count n test ≡ suc (count n (but test a)) = count-but n test a (w a (inl refl)) (t a (inl refl)) in
    let k : length those ≤ count n (but test a) =
    distinct-count n those (but test a) d.1 (λ c u. w c (inr u))
    (λ c u. but-other test a c (λ f. d.0 (subst (λ (z : ℕ). IsAmong z those) f u)) ∙ t c (inr u)) in
    omega arith

pub distinct-quorum : (g : Group) (those : List ℕ) (test : ℕ → Bool) → Distinct those → suc g.faults ≤ length those
    → ((a : ℕ) → IsAmong a those → IsWithin (acceptors g.faults) a) → ((a : ℕ) → IsAmong a those → test a ≡ true) → has_quorum g.faults test ≡ true
distinct-quorum g those test d l w t =
    below-is g.faults (count (acceptors g.faults) test)
    (let k : length those ≤ count (acceptors g.faults) test = distinct-count (acceptors g.faults) those test d w t in omega arith)

-- ---- the ballot is open, or its orders are out

-- the last messages to each acceptor order what is chosen
abbrev pub Ordering : Group → ℕ → ℕ → ℕ → (ℕ → Bool) → List SentPaxosMessage → Type 0
Ordering g l r b chosen sent =
    (c : ℕ) → IsWithin (acceptors g.faults) c
    → (prefix : List PaxosMsg) × (paxos_on_pair (leader l) (acceptor c) sent ≡ prefix ++ listed (λ (i : ℕ). msg.Accept r i b (chosen i)) (numbers g.members))

pub record IsShut (g : Group) (l r b : ℕ) (w : PaxosCommitWorld) : Type 0 where
  pub none : (w.leader l r).opened ≡ None
  pub chosen : ℕ → Bool
  pub orders_out : Ordering g l r b chosen w.sent

pub record IsOpen (g : Group) (l r b : ℕ) (w : PaxosCommitWorld) : Type 0 where
  pub ballot : PaxosBallot
  pub opened : (w.leader l r).opened ≡ Some ballot
  pub number : ballot.number ≡ b
  pub few : has_quorum g.faults (λ (c : ℕ). is_some (ballot.promises c)) ≡ false

abbrev pub State : Group → ℕ → ℕ → ℕ → PaxosCommitWorld → Type 0
State g l r b w = IsOpen g l r b w ⊎ IsShut g l r b w

-- a promise of this acceptor is counted, where the ballot is open
abbrev HeardOf : ℕ → ℕ → ℕ → PaxosCommitWorld → Type 0
HeardOf l r a w = (o : PaxosBallot) → (w.leader l r).opened ≡ Some o → is_some (o.promises a) ≡ true

-- what an event leaves: the state, this acceptor's promise, and those of others
abbrev Moves : Group → ℕ → ℕ → ℕ → ℕ → PaxosCommitWorld → PaxosCommitWorld → Type 0
Moves g l r b a w v = State g l r b v × HeardOf l r a v × ((c : ℕ) → HeardOf l r c w → HeardOf l r c v)

none-heard : (l r a : ℕ) (w : PaxosCommitWorld) → (w.leader l r).opened ≡ None → HeardOf l r a w
none-heard l r a w e o f = let q : None ≡ Some o = sym e ∙ f in cc

-- nothing happens
idle-state : (g : Group) (l r b : ℕ) (w : PaxosCommitWorld) → (at_leader w l r (note_alone note.Ignored)).leader l r ≡ w.leader l r
idle-state g l r b w = put_round-same w.leader l r (w.leader l r)

idle-moves : (g : Group) (l r b a : ℕ) (w : PaxosCommitWorld) → State g l r b w → HeardOf l r a w
    → Moves g l r b a w (at_leader w l r (note_alone note.Ignored))
idle-moves g l r b a w s h = (go s, heard_same a h, λ c x. heard_same c x)
  where
    heard_same : (c : ℕ) → HeardOf l r c w → HeardOf l r c (at_leader w l r (note_alone note.Ignored))
    heard_same c x o e = x o (ap (λ (z : Leader). z.opened) (sym (idle-state g l r b w)) ∙ e)

    go : State g l r b w → State g l r b (at_leader w l r (note_alone note.Ignored))
    go (inl x) = inl (record { ballot = x.ballot; opened = ap (λ (z : Leader). z.opened) (idle-state g l r b w) ∙ x.opened; number = x.number; few = x.few })
    go (inr x) =
        inr (record {
          none = ap (λ (z : Leader). z.opened) (idle-state g l r b w)
              ∙ x.none;
          chosen = x.chosen;
          orders_out = λ c i. ((x.orders_out c i).0, ap (paxos_on_pair (leader l) (acceptor c)) (append-nil w.sent) ∙ (x.orders_out c i).1);
        })

-- one promise more
counts-moves : (g : Group) (l r b a : ℕ) (w : PaxosCommitWorld) (o : PaxosBallot) (pairs : Pairs) → (w.leader l r).opened ≡ Some o → o.number ≡ b
    → Moves g l r b a w (at_leader w l r (counts_promise g r b a pairs (put o.promises a (Some pairs))))
counts-moves g l r b a w o pairs e n =
    if_holds (λ (p : PaxosPlan). Moves g l r b a w (at_leader w l r p)) (has_quorum g.faults (λ (c : ℕ). is_some (heard c))) _ _ shut more
  where
    heard : ℕ → Option Pairs
    heard = put o.promises a (Some pairs)

    shuts : PaxosPlan
    shuts = record { note = note.Sent b; change = None; move = Close; sends = orders g r b (choice g heard) (numbers g.members) }

    hears-it-now : PaxosPlan
    hears-it-now = record { note = note.Counted; change = None; move = Hear a pairs; sends = [] }

    none : ((at_leader w l r shuts).leader l r).opened ≡ None
    none = ap (λ (z : Leader). z.opened) (put_round-same w.leader l r (leader_after (w.leader l r) shuts))

    shut : has_quorum g.faults (λ (c : ℕ). is_some (heard c)) ≡ true → Moves g l r b a w (at_leader w l r shuts)
    shut q = (
      inr (record {
        none = none;
        chosen = choice g heard;
        orders_out =
            λ c i. (
              paxos_on_pair (leader l) (acceptor c) w.sent,
              pair-append (leader l) (acceptor c) w.sent (paxos_posted (leader l) shuts.sends)
                  ∙ ap (λ (z : List PaxosMsg). paxos_on_pair (leader l) (acceptor c) w.sent ++ z)
                  (pair-orders g r b (leader l) (choice g heard) (numbers g.members) c i),
            );
      }),
      none-heard l r a (at_leader w l r shuts) none,
      λ c x. none-heard l r c (at_leader w l r shuts) none,
    )

    now : PaxosBallot
    now = record { number = o.number; promises = heard }

    open_now : ((at_leader w l r hears-it-now).leader l r).opened ≡ Some now
    open_now =
        ap (λ (z : Leader). z.opened) (put_round-same w.leader l r (leader_after (w.leader l r) hears-it-now))
        ∙ ap (λ (z : Option PaxosBallot). with_promise z a pairs) e

    at-now : (c : ℕ) → is_some (heard c) ≡ true → HeardOf l r c (at_leader w l r hears-it-now)
    at-now c q d f = let k : Some now ≡ Some d = sym open_now ∙ f in let j : now ≡ d = cc in subst (λ (z : PaxosBallot). is_some (z.promises c) ≡ true) j q

    more : has_quorum g.faults (λ (c : ℕ). is_some (heard c)) ≡ false → Moves g l r b a w (at_leader w l r hears-it-now)
    more q = (
      inl (record { ballot = now; opened = open_now; number = n; few = q }),
      at-now a (ap is_some (put-same o.promises a (Some pairs))),
      λ c x. at-now c (put_holds (λ (c : ℕ) (z : Option Pairs). is_some (o.promises c) ≡ true → is_some z ≡ true) o.promises a (Some pairs) c (λ y. refl)
          (λ k y. y) (x o e)),
    )

promise-moves : (g : Group) (l r b a : ℕ) (w : PaxosCommitWorld) (pairs : Pairs) (o : Option PaxosBallot) → (w.leader l r).opened ≡ o → State g l r b w
    → Moves g l r b a w (at_leader w l r (on_promise g o r a b pairs))
promise-moves g l r b a w pairs None e s = idle-moves g l r b a w s (none-heard l r a w e)
promise-moves g l r b a w pairs (Some o) e s = if_holds (λ (p : PaxosPlan). Moves g l r b a w (at_leader w l r p)) (o.number == b && is_none (o.promises a)) _ _
    (λ q. counts-moves g l r b a w o pairs e (eqb_is o.number b (and_left (o.number == b) (is_none (o.promises a)) q)))
    (λ q. idle-moves g l r b a w s
    (λ d f. let k : Some o ≡ Some d = sym e ∙ f in let j : o ≡ d = cc in subst (λ (z : PaxosBallot). is_some (z.promises a) ≡ true) j (has q (number s))))
  where
    number : State g l r b w → o.number ≡ b
    number (inl x) = let k : Some x.ballot ≡ Some o = sym x.opened ∙ e in let j : x.ballot ≡ o = cc in ap (λ (z : PaxosBallot). z.number) (sym j) ∙ x.number
    number (inr x) = let k : None ≡ Some o = sym x.none ∙ e in cc

    has : (o.number == b && is_none (o.promises a)) ≡ false → o.number ≡ b → is_some (o.promises a) ≡ true
    has q n = some (o.promises a) (sym (ap (λ (z : Bool). z && is_none (o.promises a)) (subst (λ (z : ℕ). eqb o.number z ≡ true) n (eqb_same o.number))) ∙ q)
      where
        some : (z : Option Pairs) → is_none z ≡ false → is_some z ≡ true
        some None f = cc
        some (Some y) f = refl

-- what stays while the leader hears the promises
pub record Closing (g : Group) (l r b : ℕ) (start w : PaxosCommitWorld) : Type 0 where
  pub grows : Grows start w
  pub up : w.up ≡ start.up
  pub acceptors_same : w.acceptor ≡ start.acceptor
  pub state : IsOpen g l r b w ⊎ IsShut g l r b w

-- the last message to the leader is a promise of the ballot
pub record Pledged (l r b a : ℕ) (w : PaxosCommitWorld) : Type 0 where
  pub prefix : List PaxosMsg
  pub pairs : List Pledge
  pub last : paxos_on_pair (acceptor a) (leader l) w.sent ≡ prefix ++ msg.Promise r b pairs ∷ []

abbrev promise_line : ℕ → (ℕ → ℕ) → ℕ → List Happening
promise_line l k a = Delivers (acceptor a) (leader l) (k a) ∷ []

-- where the leader hears the promises of F + 1 acceptors, the orders of its ballot are out
pub promises-stage : (g : Group) (l r b : ℕ) (those : List ℕ) (start : PaxosCommitWorld) → start.up (leader l) ≡ true
    → (start.leader l r).opened ≡ Some (record { number = b; promises = λ a. None })
    → Distinct those → suc g.faults ≤ length those → ((a : ℕ) → IsAmong a those → IsWithin (acceptors g.faults) a)
    → ((a : ℕ) → IsAmong a those → Pledged l r b a start)
    → Closing g l r b start (paxos_run g start (hand_replies start l those)) × IsShut g l r b (paxos_run g start (hand_replies start l those))
promises-stage g l r b those start up opened distinct enough within pledged =
    end (each-stage g (promise_line l k) (Closing g l r b start) (HeardOf l r) those step keep start first)
  where
    k : ℕ → ℕ
    k a = last_on start (acceptor a) (leader l)

    no_count : (n : ℕ) → count n (λ (c : ℕ). false) ≡ 0
    no_count zero = refl
    no_count (suc n) = no_count n

    first : Closing g l r b start start
    first = record {
      grows = grows-self start;
      up = refl;
      acceptors_same = refl;
      state = inl (record {
        ballot =
            record { number = b; promises = λ a. None };
        opened = opened;
        number = refl;
        few = ap (nat_lt g.faults) (no_count (acceptors g.faults))
            ∙ none_below g.faults;
      });
    }
      where
        none_below : (n : ℕ) → nat_lt n 0 ≡ false
        none_below n = grind (arith)

    was-last : (a : ℕ) (u : IsAmong a those) → message_at start (acceptor a) (leader l) (k a) ≡ Some (msg.Promise r b (pledged a u).pairs)
    was-last a u =
        subst (λ (z : List PaxosMsg). message_numbered z (length z) ≡ Some (msg.Promise r b (pledged a u).pairs)) (sym (pledged a u).last)
        (numbered-last (pledged a u).prefix (msg.Promise r b (pledged a u).pairs))

    plan : (a : ℕ) (w : PaxosCommitWorld) → IsAmong a those → PaxosPlan
    plan a w u = on_promise g (w.leader l r).opened r a b (pair_among (pledged a u).pairs)

    heard-now : (a : ℕ) (w : PaxosCommitWorld) (u : IsAmong a those) → Closing g l r b start w
        → paxos_happens g w (Delivers (acceptor a) (leader l) (k a)) ≡ at_leader w l r (plan a w u)
    heard-now a w u i =
        hears-it g w (acceptor a) (leader l) (k a) (msg.Promise r b (pledged a u).pairs) (ap (λ (f : Name → Bool). f (leader l)) i.up ∙ up)
        (message-stays start w (acceptor a) (leader l) (k a) (msg.Promise r b (pledged a u).pairs) i.grows (was-last a u))

    moves : (a : ℕ) (w : PaxosCommitWorld) (u : IsAmong a those) → Closing g l r b start w → Moves g l r b a w (at_leader w l r (plan a w u))
    moves a w u i = promise-moves g l r b a w (pair_among (pledged a u).pairs) (w.leader l r).opened refl i.state

    step : (a : ℕ) (w : PaxosCommitWorld) → IsAmong a those → Closing g l r b start w
        → Closing g l r b start (paxos_run g w (promise_line l k a)) × HeardOf l r a (paxos_run g w (promise_line l k a))
    step a w u i = subst (λ (v : PaxosCommitWorld). Closing g l r b start v × HeardOf l r a v) (sym (heard-now a w u i)) (
      record {
        grows = grows-then start w (at_leader w l r (plan a w u)) i.grows (paxos_posted (leader l) (plan a w u).sends, refl);
        up = i.up;
        acceptors_same = i.acceptors_same;
        state = (moves a w u i).0;
      },
      (moves a w u i).1,
    )

    keep : (a c : ℕ) (w : PaxosCommitWorld) → IsAmong a those → Closing g l r b start w → HeardOf l r c w → HeardOf l r c (paxos_run g w (promise_line l k a))
    keep a c w u i x = subst (HeardOf l r c) (sym (heard-now a w u i)) ((moves a w u i).2 c x)

    end : Closing g l r b start (paxos_run g start (hand_replies start l those))
        × ((a : ℕ) → IsAmong a those → HeardOf l r a (paxos_run g start (hand_replies start l those)))
        → Closing g l r b start (paxos_run g start (hand_replies start l those)) × IsShut g l r b (paxos_run g start (hand_replies start l those))
    end x = (x.0, go x.0.state)
      where
        go : State g l r b (paxos_run g start (hand_replies start l those)) → IsShut g l r b (paxos_run g start (hand_replies start l those))
        go (inr y) = y
        go (inl y) =
            let e : true ≡ false = sym
            (distinct-quorum g those (λ (c : ℕ). is_some (y.ballot.promises c)) distinct enough within (λ a u. x.1 a u y.ballot y.opened)) ∙ y.few in cc
