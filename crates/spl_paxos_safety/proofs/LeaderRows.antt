-- The rows of a leader keep the soundness.
use Rattle.std.{specs.Prelude.{List, [], Option, Some, None, is_some}, proofs.Common.{◌≡◌, ℕ, ◌<◌, ◌≤◌, ◌⊎◌, Bool, inl, inr, refl, sym, subst, ◌∙◌, ap}}
use Rattle.std.proofs.Common.{arith}
use Rattle.spl_agree.{specs.World.put, proofs.Tests.put-same}
use Rattle.spl_acceptor.specs.{Quorums.IsWithin, Processes.{Pairs, PaxosBallot, Leader, stopped_leader}, Rows.{leader_of, choice}, Worlds.message_heard}
use Rattle.spl_acceptor.specs.declared.group.Group.{Group}
use Rattle.spl_paxos_safety.proofs.{Round.{Message, Ask, Accept, Promise, Accepted, Round, IsAmong, with_leader}, Quorums.IsQuorum, Soundness.Ordered}
use Rattle.spl_paxos_safety.proofs.{Soundness.{Opened, Sound}, Later.{Later, blocked-stays}, Changes.{at_most_self, leader-sound}, Tests.put_holds}
use Rattle.spl_paxos_safety.proofs.{Tests.{was-split, was-prefix, was-after, accept-same}, AcceptorRows.Only, Greatest.{Heard, choice-safe, choice-yes}}

-- a leader that sends nothing
pub quiet-sound : (g : Group) (w : Round) (l : ℕ) (x : Leader)
    → (w.leader l).used ≤ x.used
    → ((o : PaxosBallot) → x.opened ≡ Some o → (k : PaxosBallot) × ((w.leader l).opened ≡ Some k) × (k.number ≡ o.number))
    → ((o : PaxosBallot) → x.opened ≡ Some o → ((w.leader l).opened ≡ Some o) ⊎ Opened g (with_leader w l x []) l o)
    → Sound g w → Sound g (with_leader w l x [])
quiet-sound g w l x up reopened opened s =
    leader-sound g w l x [] up (λ o e. inl (reopened o e)) opened (λ c i b p z. z) (λ c b y z. z) (λ t i b p z. absurd z) s

pub stopped_leader-sound : (g : Group) (w : Round) (l : ℕ) → Sound g w → Sound g (with_leader w l (stopped_leader (w.leader l)) [])
stopped_leader-sound g w l s = quiet-sound g w l (stopped_leader (w.leader l)) (at_most_self _) (λ o e. cc) (λ o e. cc) s

-- a higher number is used
pub noted-sound : (g : Group) (w : Round) (l b : ℕ) → (w.leader l).used < b → Sound g w
    → Sound g (with_leader w l (record { used = b; opened = (w.leader l).opened }) [])
noted-sound g w l b k s = quiet-sound g w l (record { used = b; opened = (w.leader l).opened }) (omega arith) (λ o e. (o, e, refl)) (λ o e. inl e) s

pub idle-leader-sound : (g : Group) (w : Round) (l : ℕ) → Sound g w → Sound g (with_leader w l (w.leader l) [])
idle-leader-sound g w l s = quiet-sound g w l (w.leader l) (at_most_self _) (λ o e. (o, e, refl)) (λ o e. inl e) s

-- a ballot of its own above what it used is begun
pub begun-sound : (g : Group) (w : Round) (l b : ℕ) (sends : List Message) → (w.leader l).used < b → leader_of b ≡ l → Only (Ask b) sends
    → IsAmong (Ask b) sends → Sound g w
    → Sound g (with_leader w l (record { used = b; opened = Some (record { number = b; promises = λ a. None }) }) sends)
begun-sound g w l b sends k own only has s =
    leader-sound g w l new sends (omega arith) reopened opened no_accepted no_promise (λ t i c p u. absurd (no_accept i c p u)) s
  where
    ballot : PaxosBallot
    ballot = record { number = b; promises = λ a. None }

    new : Leader
    new = record { used = b; opened = Some ballot }

    v : Round
    v = with_leader w l new sends

    mine : Opened g v l ballot
    mine = record {
      used = subst (λ (x : Leader). b ≤ x.used) (sym (put-same w.leader l new)) (at_most_self b);
      own = own;
      above = omega arith;
      asked = was-prefix (Ask b) sends w.sent has;
      heard = λ a pairs e. cc;
    }

    reopened : (o : PaxosBallot) → Some ballot ≡ Some o
        → ((j : PaxosBallot) × ((w.leader l).opened ≡ Some j) × (j.number ≡ o.number)) ⊎ ((w.leader l).used < o.number)
    reopened o e = let f : ballot ≡ o = cc in inr (subst (λ (z : PaxosBallot). (w.leader l).used < z.number) f k)

    opened : (o : PaxosBallot) → Some ballot ≡ Some o → ((w.leader l).opened ≡ Some o) ⊎ Opened g v l o
    opened o e = let f : ballot ≡ o = cc in inr (subst (λ (z : PaxosBallot). Opened g v l z) f mine)

    no_accepted : (c i d : ℕ) (p : Bool) → IsAmong (Accepted c i d p) sends → ⊥
    no_accepted c i d p u = let e : Accepted c i d p ≡ Ask b = only (Accepted c i d p) u in cc

    no_promise : (c d : ℕ) (y : Pairs) → IsAmong (Promise c d y) sends → ⊥
    no_promise c d y u = let e : Promise c d y ≡ Ask b = only (Promise c d y) u in cc

    no_accept : (i d : ℕ) (p : Bool) → IsAmong (Accept i d p) sends → ⊥
    no_accept i d p u = let e : Accept i d p ≡ Ask b = only (Accept i d p) u in cc

-- each of these orders what is chosen for a member
abbrev pub Orders : Group → ℕ → (ℕ → Bool) → List Message → Type 0
Orders g b chosen sends = (y : Message) → IsAmong y sends → (i : ℕ) × IsWithin g.members i × (y ≡ Accept i b (chosen i))

-- the ballot closes, and its orders are sent
pub closes-sound : (g : Group) (w : Round) (l : ℕ) (o : PaxosBallot) (heard : ℕ → Option Pairs) (sends : List Message) → (w.leader l).opened ≡ Some o
    → Heard w o.number heard → IsQuorum g.faults (λ a. is_some (heard a)) → Orders g o.number (choice g heard) sends → Sound g w
    → Sound g (with_leader w l (record { used = (w.leader l).used; opened = None }) sends)
closes-sound g w l o heard sends e h quorum all s = leader-sound g w l new sends (at_most_self _) (λ k z. cc) (λ k z. cc) no_accepted no_promise fresh s
  where
    new : Leader
    new = record { used = (w.leader l).used; opened = None }

    orders-are : (i b : ℕ) (p : Bool) → IsAmong (Accept i b p) sends → (IsWithin g.members i) × (b ≡ o.number) × (p ≡ choice g heard i)
    orders-are i b p u =
        let m : (j : ℕ) × IsWithin g.members j × (Accept i b p ≡ Accept j o.number (choice g heard j)) = all (Accept i b p) u in
        let k : (i ≡ m.0) × (b ≡ o.number) × (p ≡ choice g heard m.0) = accept-same i b m.0 o.number p (choice g heard m.0) m.2 in
        (subst (λ (z : ℕ). IsWithin g.members z) (sym k.0) m.1, k.1, k.2 ∙ ap (choice g heard) (sym k.0))

    no_accepted : (c i d : ℕ) (p : Bool) → IsAmong (Accepted c i d p) sends → ⊥
    no_accepted c i d p u =
        let m : (j : ℕ) × IsWithin g.members j × (Accepted c i d p ≡ Accept j o.number (choice g heard j)) = all (Accepted c i d p) u in
        let e : Accepted c i d p ≡ Accept m.0 o.number (choice g heard m.0) = m.2 in cc

    no_promise : (c d : ℕ) (y : Pairs) → IsAmong (Promise c d y) sends → ⊥
    no_promise c d y u =
        let m : (j : ℕ) × IsWithin g.members j × (Promise c d y ≡ Accept j o.number (choice g heard j)) = all (Promise c d y) u in
        let e : Promise c d y ≡ Accept m.0 o.number (choice g heard m.0) = m.2 in cc

    v : Round
    v = with_leader w l new sends

    open_now : Opened g w l o
    open_now = s.opened l o e

    -- none was sent before
    unsent : (i : ℕ) (q : Bool) → IsAmong (Accept i o.number q) w.sent → ⊥
    unsent i q u =
        let k : o.number < o.number = (s.ordered i o.number q u).shut o (subst (λ (j : ℕ). (w.leader j).opened ≡ Some o) (sym open_now.own) e) in omega arith

    single : (i : ℕ) (q : Bool) → IsAmong (Accept i o.number q) sends ⊎ IsAmong (Accept i o.number q) w.sent → choice g heard i ≡ q
    single i q (inl u) = sym (orders-are i o.number q u).2
    single i q (inr u) = absurd (unsent i q u)

    mine : Later w v → (i : ℕ) → IsWithin g.members i → Ordered g v i o.number (choice g heard i)
    mine t i k = record {
      member = k;
      first = λ z. (let a : 0 < o.number = open_now.above in absurd (omega arith));
      yes = λ z. choice-yes g w o.number i heard s h z;
      asked = λ z. was-after (Ask o.number) sends w.sent open_now.asked;
      begun = subst (λ (j : ℕ). o.number ≤ (v.leader j).used) (sym open_now.own)
          (subst (λ (x : Leader). o.number ≤ x.used) (sym (put-same w.leader l new)) open_now.used);
      shut = λ d z. shut d (subst (λ (x : Leader). x.opened ≡ Some d) (put-same w.leader l new)
          (subst (λ (j : ℕ). (v.leader j).opened ≡ Some d) open_now.own z));
      single = λ q u. single i q (was-split (Accept i o.number q) sends w.sent u);
      safe = λ c q z n. blocked-stays g w v i c q t (choice-safe g w o.number i c q heard s h quorum z n);
    }
      where
        shut : (d : PaxosBallot) → None ≡ Some d → o.number < d.number
        shut d z = cc

    fresh : Later w v → (i b : ℕ) (p : Bool) → IsAmong (Accept i b p) sends → Ordered g v i b p
    fresh t i b p u =
        let m : (IsWithin g.members i) × (b ≡ o.number) × (p ≡ choice g heard i) = orders-are i b p u in
        subst (λ (z : ℕ). Ordered g v i z p) (sym m.1) (subst (λ (z : Bool). Ordered g v i o.number z) (sym m.2) (mine t i m.0))

-- the ballot stays open, with one more promise
pub heard-sound : (g : Group) (w : Round) (l : ℕ) (o : PaxosBallot) (heard : ℕ → Option Pairs) → (w.leader l).opened ≡ Some o → Heard w o.number heard
    → Sound g w → Sound g (with_leader w l (record { used = (w.leader l).used; opened = Some (record { number = o.number; promises = heard }) }) [])
heard-sound g w l o heard e h s = quiet-sound g w l new (at_most_self _) reopened opened s
  where
    ballot : PaxosBallot
    ballot = record { number = o.number; promises = heard }

    new : Leader
    new = record { used = (w.leader l).used; opened = Some ballot }

    v : Round
    v = with_leader w l new []

    mine : Opened g v l ballot
    mine = record {
      used = subst (λ (x : Leader). o.number ≤ x.used) (sym (put-same w.leader l new)) (s.opened l o e).used;
      own = (s.opened l o e).own;
      above = (s.opened l o e).above;
      asked = (s.opened l o e).asked;
      heard = h;
    }

    reopened : (d : PaxosBallot) → Some ballot ≡ Some d → (k : PaxosBallot) × ((w.leader l).opened ≡ Some k) × (k.number ≡ d.number)
    reopened d z = let f : ballot ≡ d = cc in (o, e, ap (λ (x : PaxosBallot). x.number) f)

    opened : (d : PaxosBallot) → Some ballot ≡ Some d → ((w.leader l).opened ≡ Some d) ⊎ Opened g v l d
    opened d z = let f : ballot ≡ d = cc in inr (subst (λ (x : PaxosBallot). Opened g v l x) f mine)

-- one more promise was heard
pub hears-more : (g : Group) (w : Round) (l : ℕ) (o : PaxosBallot) (a : ℕ) (pairs : Pairs) → (w.leader l).opened ≡ Some o
    → IsAmong (Promise a o.number pairs) w.sent → Sound g w → Heard w o.number (put o.promises a (Some pairs))
hears-more g w l o a pairs e u s c y = put_holds (λ (c : ℕ) (z : Option Pairs). z ≡ Some y → IsAmong (Promise c o.number y) w.sent) o.promises a (Some pairs) c
    (λ z. let f : pairs ≡ y = cc in subst (λ (x : Pairs). IsAmong (Promise a o.number x) w.sent) f u)
    (λ n z. (s.opened l o e).heard c y z)
