-- Two turns of a leader, and what follows the second, decide a round at each member that is up.
use Rattle.std.{specs.Prelude.{Some, None, nat_lt, ◌==◌}, proofs.Common.{◌≡◌, ℕ, suc, ◌+◌, ◌-◌, ◌<◌, ◌≤◌, ◌⊎◌, ◌^◌, Bool, true, false, ◌&&◌, ◌||◌, eqb, List}}
use Rattle.std.proofs.Common.{[], ◌∷◌, ◌++◌, length, inl, inr, refl, sym, subst, ◌∙◌, ap, arith}
use Rattle.spl_agree.proofs.Tests.{if_holds, eqb_same}
use Rattle.spl_acceptor.specs.{Quorums.{IsWithin, numbers, acceptors}, Processes.{Acceptor, Leader}, Rows.{member, acceptor, leader, leader_of, is_leader_of}}
use Rattle.spl_acceptor.specs.{Rows.next_ballot, Worlds.{PaxosCommitWorld, is_in_range, has_name, first_paxos_world, message_at, Happening, Leads, Delivers}}
use Rattle.spl_acceptor.specs.{Worlds.{paxos_happens, paxos_run, paxos_world_after}, declared.{group.Group.Group, message.{Name.Name, PaxosMsg.PaxosMsg}}}
use Rattle.spl_acceptor.specs.declared.message.PaxosMsg.TheVariants as msg
use Rattle.spl_paxos_safety.specs.Settling.{Distinct, for_each, last_on, hand_asks, hand_replies, hand_last, hand_orders, hand_accepted, asking, turn}
use Rattle.spl_paxos_safety.{specs.Settling.{closing, second_turn, settling, CanSettle}, proofs.{Round.IsAmong, Changes.at_most_self, Said.within-numbers}}
use Rattle.spl_paxos_safety.proofs.{Grows.{grows-self, run-each, keep-each}, Asked.{IsReply, Replied, Asking, asks-stage}, Taught.{below-is, lead-begins}}
use Rattle.spl_paxos_safety.proofs.{Taught.{begun-is, begun-asks, Hearing, replies-stage}, Closed.{IsShut, Closing, Pledged, promises-stage}, Ordered.Obeying}
use Rattle.spl_paxos_safety.proofs.{Ordered.{Obeyed, orders-stage}, Patience.{Patient, run-patient, after-patient}, Told.{Telling, telling-stays, told-all}}
use Rattle.spl_paxos_safety.proofs.{Told.counted-decides, Ballots.{next-own, next-above}, Runs.{UpNamed, happens-named, run-append, member-named}}
use Rattle.spl_paxos_safety.proofs.{Runs.{leader-named, is-within}, Decisions.run-decided}

pub next-near : (l u : ℕ) → next_ballot l u ≤ u + 3
next-near l u =
    if_holds (λ (z : ℕ). z ≤ u + 3) (leader_of (u + 1) == l) _ _ (λ q. omega arith)
    (λ q. if_holds (λ (z : ℕ). z ≤ u + 3) (leader_of (u + 2) == l) _ _ (λ t. omega arith) (λ t. omega arith))

lead-own : (l b : ℕ) → 0 < b → leader_of b ≡ l → is_leader_of b (leader l) ≡ true
lead-own l b k e = both (nat_lt 0 b) (eqb l (leader_of b)) (below-is 0 b k) (subst (λ (z : ℕ). eqb l z ≡ true) (sym e) (eqb_same l))
  where
    both : (c d : Bool) → c ≡ true → d ≡ true → (c && d) ≡ true
    both true d s t = t
    both false d s t = cc

-- ---- a turn as far as the answers

-- each of the acceptors has answered to the ballot
record Asked (w : PaxosCommitWorld) (l r b most : ℕ) (those : List ℕ) (v : PaxosCommitWorld) : Type 0 where
  pub up : v.up ≡ w.up
  pub leads : v.leader l r ≡ record { used = b; opened = Some (record { number = b; promises = λ a. None }) }
  pub low : (a : ℕ) → IsAmong a those → (v.acceptor a r).promised ≤ most
  pub replied : (a : ℕ) → IsAmong a those → Replied l r b a v

record Led (g : Group) (w : PaxosCommitWorld) (l r b : ℕ) (v : PaxosCommitWorld) : Type 0 where
  pub up : v.up ≡ w.up
  pub acceptors_same : v.acceptor ≡ w.acceptor
  pub leads : v.leader l r ≡ record { used = b; opened = Some (record { number = b; promises = λ a. None }) }
  pub asks : (a : ℕ) → IsWithin (acceptors g.faults) a → message_at v (leader l) (acceptor a) (last_on v (leader l) (acceptor a)) ≡ Some (msg.Ask r b)

led-is : (g : Group) (w : PaxosCommitWorld) (l r : ℕ) → w.up (leader l) ≡ true → next_ballot l (w.leader l r).used < 2 ^ 64
    → Led g w l r (next_ballot l (w.leader l r).used) (paxos_happens g w (Leads l r))
led-is g w l r up room = subst (Led g w l r b) (sym (lead-begins g w l r up room)) (record {
  up = refl;
  acceptors_same = refl;
  leads = (begun-is g w l r b).leads;
  asks = λ a i. begun-asks g w l r b a i;
})
  where
    b : ℕ
    b = next_ballot l (w.leader l r).used

asked-from : (g : Group) (w v : PaxosCommitWorld) (l r b most : ℕ) (those : List ℕ) → is_leader_of b (leader l) ≡ true → b ≤ most
    → ((a : ℕ) → IsAmong a those → w.up (acceptor a) ≡ true) → ((a : ℕ) → IsAmong a those → IsWithin (acceptors g.faults) a)
    → ((a : ℕ) → IsAmong a those → (w.acceptor a r).promised ≤ most) → Led g w l r b v → Asked w l r b most those (paxos_run g v (hand_asks v l those))
asked-from g w v l r b most those own top up within low x = end (asks-stage g l r b most those (λ a. last_on v (leader l) (acceptor a)) v own top
    (λ a u. ap (λ (f : Name → Bool). f (acceptor a)) x.up ∙ up a u)
    (λ a u. x.asks a (within a u))
    (λ a u. subst (λ (f : ℕ → ℕ → Acceptor). (f a r).promised ≤ most) (sym x.acceptors_same) (low a u)))
  where
    end : Asking l r b most those (λ a. last_on v (leader l) (acceptor a)) v (paxos_run g v (hand_asks v l those))
        × ((a : ℕ) → IsAmong a those → Replied l r b a (paxos_run g v (hand_asks v l those))) → Asked w l r b most those (paxos_run g v (hand_asks v l those))
    end y = record {
      up = y.0.up ∙ x.up;
      leads = ap (λ (f : ℕ → ℕ → Leader). f l r) y.0.leaders ∙ x.leads;
      low = y.0.low;
      replied = y.1;
    }

asking-done : (g : Group) (w : PaxosCommitWorld) (l r most : ℕ) (those : List ℕ) → IsWithin 3 l → w.up (leader l) ≡ true
    → ((a : ℕ) → IsAmong a those → w.up (acceptor a) ≡ true) → ((a : ℕ) → IsAmong a those → IsWithin (acceptors g.faults) a)
    → next_ballot l (w.leader l r).used < 2 ^ 64 → next_ballot l (w.leader l r).used ≤ most → ((a : ℕ) → IsAmong a those → (w.acceptor a r).promised ≤ most)
    → Asked w l r (next_ballot l (w.leader l r).used) most those (paxos_run g w (asking g w l r those))
asking-done g w l r most those three led up within room top low =
    asked-from g w (paxos_happens g w (Leads l r)) l r (next_ballot l (w.leader l r).used) most those
    (lead-own l (next_ballot l (w.leader l r).used)
    (let k : (w.leader l r).used < next_ballot l (w.leader l r).used = next-above l (w.leader l r).used in omega arith)
    (next-own l (w.leader l r).used three)) top up within low (led-is g w l r led room)

-- ---- the first turn

record Learnt (w : PaxosCommitWorld) (l r most : ℕ) (those : List ℕ) (v : PaxosCommitWorld) : Type 0 where
  pub up : v.up ≡ w.up
  pub top : (v.leader l r).used ≤ most
  pub knows : (a : ℕ) → IsAmong a those → (v.acceptor a r).promised ≤ (v.leader l r).used

learnt-from : (g : Group) (w v : PaxosCommitWorld) (l r b most : ℕ) (those : List ℕ) → w.up (leader l) ≡ true → b ≤ most → Asked w l r b most those v
    → Learnt w l r most those (paxos_run g v (hand_replies v l those))
learnt-from g w v l r b most those led top x = end (replies-stage g l r b most those v (ap (λ (f : Name → Bool). f (leader l)) x.up ∙ led)
    (subst (λ (z : Leader). b ≤ z.used) (sym x.leads) (at_most_self b)) (subst (λ (z : Leader). z.used ≤ most) (sym x.leads) top) x.low x.replied)
  where
    end : Hearing l r b most v (paxos_run g v (hand_replies v l those))
        × ((a : ℕ) → IsAmong a those → (v.acceptor a r).promised ≤ ((paxos_run g v (hand_replies v l those)).leader l r).used)
        → Learnt w l r most those (paxos_run g v (hand_replies v l those))
    end y = record {
      up = y.0.up ∙ x.up;
      top = y.0.top;
      knows = λ a u. subst (λ (f : ℕ → ℕ → Acceptor). (f a r).promised ≤ ((paxos_run g v (hand_replies v l those)).leader l r).used)
          (sym y.0.acceptors_same) (y.1 a u);
    }

turn-learns : (g : Group) (w : PaxosCommitWorld) (l r most : ℕ) (those : List ℕ) → IsWithin 3 l → w.up (leader l) ≡ true
    → ((a : ℕ) → IsAmong a those → w.up (acceptor a) ≡ true) → ((a : ℕ) → IsAmong a those → IsWithin (acceptors g.faults) a)
    → next_ballot l (w.leader l r).used < 2 ^ 64 → next_ballot l (w.leader l r).used ≤ most
    → ((a : ℕ) → IsAmong a those → (w.acceptor a r).promised ≤ most) → Learnt w l r most those (paxos_run g w (turn g w l r those))
turn-learns g w l r most those three led up within room top low =
    subst (Learnt w l r most those) (sym (run-append g w (asking g w l r those) (hand_replies (paxos_run g w (asking g w l r those)) l those)))
    (learnt-from g w (paxos_run g w (asking g w l r those)) l r (next_ballot l (w.leader l r).used) most those led top
    (asking-done g w l r most those three led up within room top low))

-- ---- the second turn

record Ready (g : Group) (w : PaxosCommitWorld) (l r b : ℕ) (those : List ℕ) (v : PaxosCommitWorld) : Type 0 where
  pub up : v.up ≡ w.up
  pub promised : (a : ℕ) → IsAmong a those → (v.acceptor a r).promised ≡ b
  pub shut : IsShut g l r b v

-- an answer of an acceptor that promised no more than the ballot is its promise
pledged-by : (l r b a : ℕ) (v : PaxosCommitWorld) → (v.acceptor a r).promised ≤ b → Replied l r b a v → Pledged l r b a v × ((v.acceptor a r).promised ≡ b)
pledged-by l r b a v low x = go x.says
  where
    go : IsReply r b (v.acceptor a r).promised x.reply → Pledged l r b a v × ((v.acceptor a r).promised ≡ b)
    go (inl y) = (record { prefix = x.prefix; pairs = y.0; last = x.last ∙ ap (λ (m : PaxosMsg). x.prefix ++ m ∷ []) y.1 }, y.2)
    go (inr y) = let k : b < (v.acceptor a r).promised = y.1 in absurd (omega arith)

ready-from : (g : Group) (w v : PaxosCommitWorld) (l r b : ℕ) (those : List ℕ) → w.up (leader l) ≡ true
    → ((a : ℕ) → IsAmong a those → IsWithin (acceptors g.faults) a) → Distinct those → suc g.faults ≤ length those
    → Asked w l r b b those v → Ready g w l r b those (paxos_run g v (hand_replies v l those))
ready-from g w v l r b those led within distinct enough x =
    end (promises-stage g l r b those v (ap (λ (f : Name → Bool). f (leader l)) x.up ∙ led) (ap (λ (z : Leader). z.opened) x.leads) distinct enough within
    (λ a u. (pledged-by l r b a v (x.low a u) (x.replied a u)).0))
  where
    end : Closing g l r b v (paxos_run g v (hand_replies v l those)) × IsShut g l r b (paxos_run g v (hand_replies v l those))
        → Ready g w l r b those (paxos_run g v (hand_replies v l those))
    end y = record {
      up = y.0.up ∙ x.up;
      promised = λ a u. subst (λ (f : ℕ → ℕ → Acceptor). (f a r).promised ≡ b) (sym y.0.acceptors_same) (pledged-by l r b a v (x.low a u) (x.replied a u)).1;
      shut = y.1;
    }

turn-readies : (g : Group) (w : PaxosCommitWorld) (l r : ℕ) (those : List ℕ) → IsWithin 3 l → w.up (leader l) ≡ true
    → ((a : ℕ) → IsAmong a those → w.up (acceptor a) ≡ true) → ((a : ℕ) → IsAmong a those → IsWithin (acceptors g.faults) a)
    → Distinct those → suc g.faults ≤ length those → next_ballot l (w.leader l r).used < 2 ^ 64
    → ((a : ℕ) → IsAmong a those → (w.acceptor a r).promised ≤ (w.leader l r).used)
    → Ready g w l r (next_ballot l (w.leader l r).used) those (paxos_run g w (turn g w l r those))
turn-readies g w l r those three led up within distinct enough room knows =
    subst (Ready g w l r b those) (sym (run-append g w (asking g w l r those) (hand_replies (paxos_run g w (asking g w l r those)) l those)))
    (ready-from g w (paxos_run g w (asking g w l r those)) l r b those led within distinct enough
    (asking-done g w l r b those three led up within room (at_most_self b)
    (λ a u. let k : (w.acceptor a r).promised ≤ (w.leader l r).used = knows a u in
    let j : (w.leader l r).used < b = next-above l (w.leader l r).used in omega arith)))
  where
    b : ℕ
    b = next_ballot l (w.leader l r).used

-- ---- what follows it

-- each of the members that are up decides
members-decide : (g : Group) (r b : ℕ) (those : List ℕ) (chosen : ℕ → Bool) (start : PaxosCommitWorld) → 1 ≤ g.members → Distinct those
    → suc g.faults ≤ length those → ((a : ℕ) → IsAmong a those → IsWithin (acceptors g.faults) a)
    → ((a : ℕ) → IsAmong a those → Obeyed g r b chosen a start) → (ms : List ℕ) (w : PaxosCommitWorld) → Telling start w → Patient g w
    → (m : ℕ) → IsAmong m ms → start.up (member m) ≡ true → IsWithin g.members m
    → (d : Bool) × (((paxos_run g w (for_each (λ m. for_each (λ a. hand_last g start (acceptor a) (member m)) those) ms)).member m r).decision ≡ Some d)
members-decide g r b those chosen start some distinct enough within obeyed [] w x p m u up j = absurd u
members-decide g r b those chosen start some distinct enough within obeyed (n ∷ ns) w x p m u up j =
    subst (λ (v : PaxosCommitWorld). (d : Bool) × ((v.member m r).decision ≡ Some d)) (sym (run-each g lines n ns w))
    (go u (members-decide g r b those chosen start some distinct enough within obeyed ns (paxos_run g w (lines n)) (stays n w x)
    (run-patient g w (lines n) some p) m))
  where
    lines : ℕ → List Happening
    lines m = for_each (λ a. hand_last g start (acceptor a) (member m)) those

    stays : (n : ℕ) (w : PaxosCommitWorld) → Telling start w → Telling start (paxos_run g w (lines n))
    stays n w x = keep-each g (λ a. hand_last g start (acceptor a) (member n)) (Telling start) those
        (λ a v t y. keep-each g (λ i. Delivers (acceptor a) (member n) (last_on start (acceptor a) (member n) - g.members + i) ∷ []) (Telling start)
        (numbers g.members) (λ i z s q. telling-stays g start z (acceptor a) (member n)
        (last_on start (acceptor a) (member n) - g.members + i) q) v y) w x

    here : (d : Bool) × (((paxos_run g w (lines m)).member m r).decision ≡ Some d)
    here = counted-decides g those b chosen ((paxos_run g w (lines m)).member m r) (run-patient g w (lines m) some p m r) distinct enough within
        (λ a t i k. (told-all g r b m those chosen start up j obeyed w x).1 a t i (within-numbers g.members i k))

    go : (m ≡ n) ⊎ IsAmong m ns
        → (IsAmong m ns → start.up (member m) ≡ true → IsWithin g.members m
        → (d : Bool) × (((paxos_run g (paxos_run g w (lines n)) (for_each lines ns)).member m r).decision ≡ Some d))
        → (d : Bool) × (((paxos_run g (paxos_run g w (lines n)) (for_each lines ns)).member m r).decision ≡ Some d)
    go (inr v) ih = ih v up j
    go (inl e) ih =
        subst (λ (z : ℕ). (d : Bool) × (((paxos_run g (paxos_run g w (lines z)) (for_each lines ns)).member m r).decision ≡ Some d)) e
        (here.0, run-decided g (paxos_run g w (lines m)) (for_each lines ns) m r here.0 here.1)

closing-decides : (g : Group) (w v : PaxosCommitWorld) (l r b : ℕ) (those ms : List ℕ) → is_leader_of b (leader l) ≡ true → 1 ≤ g.members → Distinct those
    → suc g.faults ≤ length those → ((a : ℕ) → IsAmong a those → IsWithin (acceptors g.faults) a)
    → ((a : ℕ) → IsAmong a those → w.up (acceptor a) ≡ true) → Ready g w l r b those v → Patient g v → (m : ℕ) → IsAmong m ms → w.up (member m) ≡ true
    → IsWithin g.members m → (d : Bool) × (((paxos_run g v (closing g v l those ms)).member m r).decision ≡ Some d)
closing-decides g w v l r b those ms own some distinct enough within up x p m u led j =
    subst (λ (z : PaxosCommitWorld). (d : Bool) × ((z.member m r).decision ≡ Some d))
    (sym (run-append g v (hand_orders g v l those) (hand_accepted g z those ms)))
    (members-decide g r b those x.shut.chosen z some distinct enough within done.1 ms z (record { grows = grows-self z; up = refl })
    (run-patient g v (hand_orders g v l those) some p) m u (ap (λ (f : Name → Bool). f (member m)) (done.0.up ∙ x.up) ∙ led) j)
  where
    z : PaxosCommitWorld
    z = paxos_run g v (hand_orders g v l those)

    done : Obeying r b those v z × ((a : ℕ) → IsAmong a those → Obeyed g r b x.shut.chosen a z)
    done = orders-stage g l r b those x.shut.chosen v own (λ a t. ap (λ (f : Name → Bool). f (acceptor a)) x.up ∙ up a t) within x.promised x.shut.orders_out

-- ---- all of it

run-named : (g : Group) (w : PaxosCommitWorld) (es : List Happening) → UpNamed g w → UpNamed g (paxos_run g w es)
run-named g w [] n = n
run-named g w (e ∷ es) n = run-named g (paxos_happens g w e) es (happens-named g w e n)

or-none : (c : Bool) → (c || false) ≡ true → c ≡ true
or-none true e = refl
or-none false e = e

acceptor-named : (g : Group) (a : ℕ) → has_name g (acceptor a) ≡ true → IsWithin (acceptors g.faults) a
acceptor-named g a e = is-within (acceptors g.faults) a (or-none (is_in_range (acceptors g.faults) a) e)

pub settles : (g : Group) (es : List Happening) (l r : ℕ) (those ms : List ℕ) → CanSettle g (paxos_world_after g es) l r those → (m : ℕ) → IsAmong m ms
    → (paxos_world_after g es).up (member m) ≡ true
    → (d : Bool) × (((paxos_run g (paxos_world_after g es) (settling g (paxos_world_after g es) l r those ms)).member m r).decision ≡ Some d)
settles g es l r those ms c m u led =
    subst (λ (z : PaxosCommitWorld). (d : Bool) × ((z.member m r).decision ≡ Some d))
    (sym (run-append g w (turn g w l r those) (second_turn g v l r those ms) ∙ run-append g v (turn g v l r those) (closing g x l those ms)))
    (closing-decides g v x l r b those ms
    (lead-own l b (let k : (v.leader l r).used < b = next-above l (v.leader l r).used in omega arith)
    (next-own l (v.leader l r).used three)) c.members c.distinct c.enough within up ready patient m u
    (ap (λ (f : Name → Bool). f (member m)) learnt.up ∙ led) (member-named g m (named (member m) led)))
  where
    w : PaxosCommitWorld
    w = paxos_world_after g es

    v : PaxosCommitWorld
    v = paxos_run g w (turn g w l r those)

    x : PaxosCommitWorld
    x = paxos_run g v (turn g v l r those)

    b : ℕ
    b = next_ballot l (v.leader l r).used

    named : UpNamed g w
    named = run-named g (first_paxos_world g) es (λ n e. e)

    three : IsWithin 3 l
    three = leader-named g l (named (leader l) c.led)

    within : (a : ℕ) → IsAmong a those → IsWithin (acceptors g.faults) a
    within a t = acceptor-named g a (named (acceptor a) (c.up a t))

    most : ℕ
    most = 2 ^ 64 - 4

    near : next_ballot l (w.leader l r).used ≤ (w.leader l r).used + 3
    near = next-near l (w.leader l r).used

    learnt : Learnt w l r most those v
    learnt = turn-learns g w l r most those three c.led c.up within
        (let k : (w.leader l r).used + 6 < 2 ^ 64 = c.used in let n : next_ballot l (w.leader l r).used ≤ (w.leader l r).used + 3 = near in omega arith)
        (let k : (w.leader l r).used + 6 < 2 ^ 64 = c.used in let n : next_ballot l (w.leader l r).used ≤ (w.leader l r).used + 3 = near in omega arith)
        (λ a t. let k : (w.acceptor a r).promised + 6 < 2 ^ 64 = c.promised a t in omega arith)

    up : (a : ℕ) → IsAmong a those → v.up (acceptor a) ≡ true
    up a t = ap (λ (f : Name → Bool). f (acceptor a)) learnt.up ∙ c.up a t

    ready : Ready g v l r b those x
    ready = turn-readies g v l r those three (ap (λ (f : Name → Bool). f (leader l)) learnt.up ∙ c.led) up within c.distinct c.enough
        (let k : (v.leader l r).used ≤ 2 ^ 64 - 4 =
        learnt.top in let n : next_ballot l (v.leader l r).used ≤ (v.leader l r).used + 3 = next-near l (v.leader l r).used in omega arith) learnt.knows

    patient : Patient g x
    patient = run-patient g v (turn g v l r those) c.members (run-patient g w (turn g w l r those) c.members (after-patient g es c.members))
