-- A member hears what was accepted, and decides.
use Rattle.std.{specs.Prelude.{Option, Some, None, ◌==◌, is_some}, proofs.Common.{◌≡◌, ℕ, zero, suc, ◌+◌, ◌-◌, ◌≤◌, ◌⊎◌, Bool, true, false, ◌&&◌, ◌||◌, eqb}}
use Rattle.std.proofs.Common.{List, [], ◌∷◌, length, inl, inr, refl, sym, subst, ◌∙◌, ap, arith}
use Rattle.spl_agree.proofs.Tests.{if_holds, bool_cases, and_left, and_right, eqb_is, eqb_same}
use Rattle.spl_acceptor.specs.{Quorums.{IsWithin, numbers, all_within, acceptors}, Processes.VotingMember, Rows.{PaxosPlan, member, acceptor, same_bool}}
use Rattle.spl_acceptor.specs.Rows.{is_acceptance_by, any_of, has_accepted, is_chosen, is_prepared, on_accepted, member_row, member_after}
use Rattle.spl_acceptor.specs.Worlds.{PaxosCommitWorld, message_numbered, message_at, at_member, Happening, Delivers, round_of, message_heard}
use Rattle.spl_acceptor.specs.{Worlds.{paxos_delivered, paxos_happens, paxos_run}, declared.{group.Group.Group, kind.TheConstants.{MEMBER, ACCEPTOR}}}
use Rattle.spl_acceptor.specs.declared.message.{Acceptance.Acceptance, Name.Name, PaxosMsg.PaxosMsg}
use Rattle.spl_acceptor.specs.declared.message.PaxosMsg.TheVariants as msg
use Rattle.spl_paxos_safety.{specs.Settling.{Distinct, for_each, last_on, hand_last}, proofs.{Round.IsAmong, Quorums.{within-more, within-last}}}
use Rattle.spl_paxos_safety.proofs.{Tests.{any-was, all-within}, Said.numbers-within, Lists.numbered-tail, Grows.{Grows, grows-then, delivers-grows}}
use Rattle.spl_paxos_safety.proofs.{Grows.{message-stays, delivers-up, hears-it, put_round-same, keep-each, each-stage}, Closed.distinct-quorum}
use Rattle.spl_paxos_safety.proofs.{Ordered.{accepted_of, Obeyed}, Patience.IsPatient, Decisions.{put_round-holds, row-leaves}}

-- the member has decided, or has counted this
abbrev pub Has : ℕ → ℕ → ℕ → Bool → VotingMember → Type 0
Has a i b p m = ((d : Bool) × (m.decision ≡ Some d)) ⊎ (has_accepted m.counted i b p a ≡ true)

abbrev pub Got : ℕ → ℕ → ℕ → ℕ → (ℕ → Bool) → ℕ → PaxosCommitWorld → Type 0
Got m r a b chosen i w = Has a i b (chosen i) (w.member m r)

some-is : (o : Option Bool) → is_some o ≡ true → (d : Bool) × (o ≡ Some d)
some-is None e = cc
some-is (Some x) e = (x, refl)

-- it hears it
same-self : (p : Bool) → same_bool p p ≡ true
same-self true = refl
same-self false = refl

or-left : (c d : Bool) → c ≡ true → (c || d) ≡ true
or-left true d e = refl
or-left false d e = cc

or-right : (c d : Bool) → d ≡ true → (c || d) ≡ true
or-right true d e = refl
or-right false d e = e

and-both : (c d : Bool) → c ≡ true → d ≡ true → (c && d) ≡ true
and-both true d s t = t
and-both false d s t = cc

counted-now : (a i b : ℕ) (p : Bool) (counted : List Acceptance)
    → has_accepted (record { acceptor = a; member = i; ballot = b; prepared = p } ∷ counted) i b p a ≡ true
counted-now a i b p counted = or-left (is_acceptance_by a i b p (record { acceptor = a; member = i; ballot = b; prepared = p })) (has_accepted counted i b p a)
    (and-both (eqb a a) (eqb i i && (eqb b b && same_bool p p)) (eqb_same a)
    (and-both (eqb i i) (eqb b b && same_bool p p) (eqb_same i) (and-both (eqb b b) (same_bool p p) (eqb_same b) (same-self p))))

accepted-has : (g : Group) (m : VotingMember) (k a i b : ℕ) (p : Bool)
    → Has a i b p (member_after m (on_accepted g k (record { acceptor = a; member = i; ballot = b; prepared = p }) m.counted))
accepted-has g m k a i b p = if_holds (λ (q : PaxosPlan). Has a i b p (member_after m q)) (is_chosen g (x ∷ m.counted) i b false) _ _ (λ q. inl (false, refl))
    (λ q. if_holds (λ (q : PaxosPlan). Has a i b p (member_after m q)) (all_within g.members (is_prepared g (x ∷ m.counted))) _ _ (λ t. inl (true, refl))
    (λ t. if_holds (λ (q : PaxosPlan). Has a i b p (member_after m q)) (has_accepted m.counted i b p a) _ _ (λ z. inr z)
    (λ z. inr (counted-now a i b p m.counted))))
  where
    x : Acceptance
    x = record { acceptor = a; member = i; ballot = b; prepared = p }

row-has : (g : Group) (m : VotingMember) (r a i b : ℕ) (p : Bool) → Has a i b p (member_after m (member_row g m (acceptor a) (msg.Accepted r i b p)))
row-has g m r a i b p =
    if_holds (λ (q : PaxosPlan). Has a i b p (member_after m q)) (is_some m.decision) _ _ (λ q. inl (some-is m.decision q)) (λ q. accepted-has g m r a i b p)

-- and keeps it whatever it hears then
accepted-keeps : (g : Group) (m : VotingMember) (k : ℕ) (x : Acceptance) (a i b : ℕ) (p : Bool) → has_accepted m.counted i b p a ≡ true
    → Has a i b p (member_after m (on_accepted g k x m.counted))
accepted-keeps g m k x a i b p e =
    if_holds (λ (q : PaxosPlan). Has a i b p (member_after m q)) (is_chosen g (x ∷ m.counted) x.member x.ballot false) _ _ (λ q. inl (false, refl))
    (λ q. if_holds (λ (q : PaxosPlan). Has a i b p (member_after m q)) (all_within g.members (is_prepared g (x ∷ m.counted))) _ _ (λ t. inl (true, refl))
    (λ t. if_holds (λ (q : PaxosPlan). Has a i b p (member_after m q)) (has_accepted m.counted x.member x.ballot x.prepared x.acceptor) _ _ (λ z. inr e)
    (λ z. inr (or-right (is_acceptance_by a i b p x) (has_accepted m.counted i b p a) e))))

row-keeps : (g : Group) (m : VotingMember) (from : Name) (x : PaxosMsg) (a i b : ℕ) (p : Bool) → Has a i b p m
    → Has a i b p (member_after m (member_row g m from x))
row-keeps g m from x a i b p (inl y) = inl (y.0, row-leaves g m from x y.0 y.1)
row-keeps g m from (msg.Accepted k j c q) a i b p (inr e) =
    if_holds (λ (z : PaxosPlan). Has a i b p (member_after m z)) (is_some m.decision) _ _ (λ t. inl (some-is m.decision t))
    (λ t. accepted-keeps g m k (record { acceptor = from.number; member = j; ballot = c; prepared = q }) a i b p e)
row-keeps g m from (msg.Ask k c) a i b p (inr e) = inr e
row-keeps g m from (msg.Accept k j c q) a i b p (inr e) = inr e
row-keeps g m from (msg.Promise k c pairs) a i b p (inr e) = inr e
row-keeps g m from (msg.Higher k c) a i b p (inr e) = inr e

heard-keeps : (g : Group) (w : PaxosCommitWorld) (from to : Name) (x : PaxosMsg) (m r a i b : ℕ) (p : Bool) → Has a i b p (w.member m r)
    → Has a i b p ((message_heard g w from to x).member m r)
heard-keeps g w from to x m r a i b p h = if_holds (λ (v : PaxosCommitWorld). Has a i b p (v.member m r)) (to.kind == MEMBER) _ _
    (λ q. put_round-holds (λ (m r : ℕ) (z : VotingMember). Has a i b p (w.member m r) → Has a i b p z) w.member to.number (round_of x)
    (member_after (w.member to.number (round_of x)) (member_row g (w.member to.number (round_of x)) from x)) m r
    (λ y. row-keeps g (w.member to.number (round_of x)) from x a i b p y) (λ y. y) h)
    (λ q. if_holds (λ (v : PaxosCommitWorld). Has a i b p (v.member m r)) (to.kind == ACCEPTOR) _ _ (λ t. h) (λ t. h))

delivered-keeps : (g : Group) (w : PaxosCommitWorld) (from to : Name) (o : Option PaxosMsg) (m r a i b : ℕ) (p : Bool) → Has a i b p (w.member m r)
    → Has a i b p ((paxos_delivered g w from to o).member m r)
delivered-keeps g w from to None m r a i b p h = h
delivered-keeps g w from to (Some x) m r a i b p h = heard-keeps g w from to x m r a i b p h

delivers-keeps : (g : Group) (w : PaxosCommitWorld) (from to : Name) (k m r a i b : ℕ) (p : Bool) → Has a i b p (w.member m r)
    → Has a i b p ((paxos_happens g w (Delivers from to k)).member m r)
delivers-keeps g w from to k m r a i b p h =
    if_holds (λ (v : PaxosCommitWorld). Has a i b p (v.member m r)) (w.up to) _ _ (λ q. delivered-keeps g w from to (message_at w from to k) m r a i b p h)
    (λ q. h)

-- ---- the lines to one member

-- what stays while members hear
pub record Telling (start w : PaxosCommitWorld) : Type 0 where
  pub grows : Grows start w
  pub up : w.up ≡ start.up

pub telling-stays : (g : Group) (start w : PaxosCommitWorld) (from to : Name) (k : ℕ) → Telling start w → Telling start (paxos_happens g w (Delivers from to k))
telling-stays g start w from to k x =
    record {
      grows = grows-then start w (paxos_happens g w (Delivers from to k)) x.grows (delivers-grows g w from to k);
      up = delivers-up g w from to k
          ∙ x.up;
    }

abbrev told_line : ℕ → ℕ → ℕ → ℕ → List Happening
told_line a m before i = Delivers (acceptor a) (member m) (before + i) ∷ []

told-one : (g : Group) (r b a m before : ℕ) (chosen : ℕ → Bool) (start : PaxosCommitWorld) → start.up (member m) ≡ true
    → ((i : ℕ) → IsWithin g.members i → message_at start (acceptor a) (member m) (before + i) ≡ Some (accepted_of r b chosen i))
    → (w : PaxosCommitWorld) → Telling start w
    → Telling start (paxos_run g w (for_each (told_line a m before) (numbers g.members)))
    × ((i : ℕ) → IsAmong i (numbers g.members) → Got m r a b chosen i (paxos_run g w (for_each (told_line a m before) (numbers g.members))))
told-one g r b a m before chosen start up sent w x = each-stage g (told_line a m before) (Telling start) (Got m r a b chosen) (numbers g.members) step keep w x
  where
    heard-now : (i : ℕ) (w : PaxosCommitWorld) → IsAmong i (numbers g.members) → Telling start w
        → paxos_happens g w (Delivers (acceptor a) (member m) (before + i))
        ≡ at_member w m r (member_row g (w.member m r) (acceptor a) (accepted_of r b chosen i))
    heard-now i w u x =
        hears-it g w (acceptor a) (member m) (before + i) (accepted_of r b chosen i) (ap (λ (f : Name → Bool). f (member m)) x.up ∙ up)
        (message-stays start w (acceptor a) (member m) (before + i) (accepted_of r b chosen i) x.grows (sent i (numbers-within g.members i u)))

    step : (i : ℕ) (w : PaxosCommitWorld) → IsAmong i (numbers g.members) → Telling start w
        → Telling start (paxos_run g w (told_line a m before i)) × Got m r a b chosen i (paxos_run g w (told_line a m before i))
    step i w u x = (
      telling-stays g start w (acceptor a) (member m) (before + i) x,
      subst (Got m r a b chosen i) (sym (heard-now i w u x))
          (subst (Has a i b (chosen i))
          (sym (put_round-same w.member m r (member_after (w.member m r) (member_row g (w.member m r) (acceptor a) (accepted_of r b chosen i)))))
          (row-has g (w.member m r) r a i b (chosen i))),
    )

    keep : (i j : ℕ) (w : PaxosCommitWorld) → IsAmong i (numbers g.members) → Telling start w → Got m r a b chosen j w
        → Got m r a b chosen j (paxos_run g w (told_line a m before i))
    keep i j w u x h = delivers-keeps g w (acceptor a) (member m) (before + i) m r a j b (chosen j) h

-- where it hears all that each of them accepted, it has decided or counted all of it
pub told-all : (g : Group) (r b m : ℕ) (those : List ℕ) (chosen : ℕ → Bool) (start : PaxosCommitWorld) → start.up (member m) ≡ true → IsWithin g.members m
    → ((a : ℕ) → IsAmong a those → Obeyed g r b chosen a start)
    → (w : PaxosCommitWorld) → Telling start w → Telling start (paxos_run g w (for_each (λ a. hand_last g start (acceptor a) (member m)) those))
    × ((a : ℕ) → IsAmong a those → (i : ℕ) → IsAmong i (numbers g.members)
    → Got m r a b chosen i (paxos_run g w (for_each (λ a. hand_last g start (acceptor a) (member m)) those)))
told-all g r b m those chosen start up within obeyed w x = each-stage g lines (Telling start) All those step keep w x
  where
    before : ℕ → ℕ
    before a = last_on start (acceptor a) (member m) - g.members

    lines : ℕ → List Happening
    lines a = for_each (told_line a m (before a)) (numbers g.members)

    All : ℕ → PaxosCommitWorld → Type 0
    All a v = (i : ℕ) → IsAmong i (numbers g.members) → Got m r a b chosen i v

    sent : (a : ℕ) → IsAmong a those → (i : ℕ) → IsWithin g.members i
        → message_at start (acceptor a) (member m) (before a + i) ≡ Some (accepted_of r b chosen i)
    sent a u i j =
        subst (λ (z : List PaxosMsg). message_numbered z (length z - g.members + i) ≡ Some (accepted_of r b chosen i)) (sym (obeyed a u m within).1)
        (numbered-tail (obeyed a u m within).0 (accepted_of r b chosen) g.members i j)

    step : (a : ℕ) (v : PaxosCommitWorld) → IsAmong a those → Telling start v → Telling start (paxos_run g v (lines a)) × All a (paxos_run g v (lines a))
    step a v u y = told-one g r b a m (before a) chosen start up (sent a u) v y

    keep : (a c : ℕ) (v : PaxosCommitWorld) → IsAmong a those → Telling start v → All c v → All c (paxos_run g v (lines a))
    keep a c v u y h i t =
        keep-each g (told_line a m (before a)) (Got m r c b chosen i) (numbers g.members)
        (λ j z s q. delivers-keeps g z (acceptor a) (member m) (before a + j) m r c i b (chosen i) q) v (h i t)

-- ---- what was counted decides

was-any : (test : Acceptance → Bool) (xs : List Acceptance) (x : Acceptance) → IsAmong x xs → test x ≡ true → any_of test xs ≡ true
was-any test [] x u e = absurd u
was-any test (y ∷ ys) x (inl q) e = or-left (test y) (any_of test ys) (subst (λ (z : Acceptance). test z ≡ true) q e)
was-any test (y ∷ ys) x (inr u) e = or-right (test y) (any_of test ys) (was-any test ys x u e)

all-intro : (n : ℕ) (test : ℕ → Bool) → ((i : ℕ) → IsWithin n i → test i ≡ true) → all_within n test ≡ true
all-intro zero test all = refl
all-intro (suc n) test all = and-both (all_within n test) (test (suc n)) (all-intro n test (λ i w. all i (within-more n i w))) (all (suc n) (within-last n))

all-or-not : (n : ℕ) (test : ℕ → Bool) → ((i : ℕ) → IsWithin n i → test i ≡ true) ⊎ ((i : ℕ) × IsWithin n i × (test i ≡ false))
all-or-not n test = go (bool_cases (all_within n test))
  where
    find : (n : ℕ) → all_within n test ≡ false → (i : ℕ) × IsWithin n i × (test i ≡ false)
    find zero e = cc
    find (suc n) e = pick (bool_cases (test (suc n))) (find n)
      where
        pick : (test (suc n) ≡ true) ⊎ (test (suc n) ≡ false) → (all_within n test ≡ false → (i : ℕ) × IsWithin n i × (test i ≡ false))
            → (i : ℕ) × IsWithin (suc n) i × (test i ≡ false)
        pick (inr q) ih = (suc n, within-last n, q)
        pick (inl q) ih =
            let f : all_within n test ≡ false = less (all_within n test) (test (suc n)) q e in let x : (i : ℕ) × IsWithin n i × (test i ≡ false) = ih f in
            (x.0, within-more n x.0 x.1, x.2)
          where
            less : (c d : Bool) → d ≡ true → (c && d) ≡ false → c ≡ false
            less true d s t = let k : true ≡ false = sym s ∙ t in cc
            less false d s t = refl

    go : (all_within n test ≡ true) ⊎ (all_within n test ≡ false) → ((i : ℕ) → IsWithin n i → test i ≡ true) ⊎ ((i : ℕ) × IsWithin n i × (test i ≡ false))
    go (inl e) = inl (λ i w. all-within n test i e w)
    go (inr e) = inr (find n e)

pub counted-decides : (g : Group) (those : List ℕ) (b : ℕ) (chosen : ℕ → Bool) (m : VotingMember) → IsPatient g m → Distinct those
    → suc g.faults ≤ length those → ((a : ℕ) → IsAmong a those → IsWithin (acceptors g.faults) a)
    → ((a : ℕ) → IsAmong a those → (i : ℕ) → IsWithin g.members i → Has a i b (chosen i) m) → (d : Bool) × (m.decision ≡ Some d)
counted-decides g those b chosen m patient distinct enough within has = go m.decision refl
  where
    found : m.decision ≡ None → (a : ℕ) → IsAmong a those → (i : ℕ) → IsWithin g.members i → has_accepted m.counted i b (chosen i) a ≡ true
    found e a u i w = pick (has a u i w)
      where
        pick : Has a i b (chosen i) m → has_accepted m.counted i b (chosen i) a ≡ true
        pick (inr q) = q
        pick (inl q) = let k : None ≡ Some q.0 = sym e ∙ q.1 in cc

    chosen-is : m.decision ≡ None → (i : ℕ) → IsWithin g.members i → is_chosen g m.counted i b (chosen i) ≡ true
    chosen-is e i w = distinct-quorum g those (has_accepted m.counted i b (chosen i)) distinct enough within (λ a u. found e a u i w)

    some-one : (those : List ℕ) → suc g.faults ≤ length those → (a : ℕ) × IsAmong a those
    some-one [] l = absurd (omega arith)
    some-one (a ∷ as_) l = (a, inl refl)

    prepared-is : m.decision ≡ None → (i : ℕ) → IsWithin g.members i → chosen i ≡ true → is_prepared g m.counted i ≡ true
    prepared-is e i w t =
        let a : (a : ℕ) × IsAmong a those = some-one those enough in
        let x : (x : Acceptance) × IsAmong x m.counted × (is_acceptance_by a.0 i b (chosen i) x ≡ true) =
        any-was (is_acceptance_by a.0 i b (chosen i)) m.counted (found e a.0 a.1 i w) in
        let s : (eqb x.0.member i && (eqb x.0.ballot b && same_bool x.0.prepared (chosen i))) ≡ true = and_right (eqb x.0.acceptor a.0) _ x.2 in
        let q : x.0.ballot ≡ b = eqb_is x.0.ballot b (and_left (eqb x.0.ballot b) _ (and_right (eqb x.0.member i) _ s)) in
        was-any (λ (y : Acceptance). is_chosen g m.counted i y.ballot true) m.counted x.0 x.1
        (subst (λ (z : ℕ). is_chosen g m.counted i z true ≡ true) (sym q) (subst (λ (z : Bool). is_chosen g m.counted i b z ≡ true) t (chosen-is e i w)))

    decides_now : m.decision ≡ None → ⊥
    decides_now e = which (all-or-not g.members chosen)
      where
        which : ((i : ℕ) → IsWithin g.members i → chosen i ≡ true) ⊎ ((i : ℕ) × IsWithin g.members i × (chosen i ≡ false)) → ⊥
        which (inl all) =
            let k : true ≡ false = sym (all-intro g.members (is_prepared g m.counted) (λ i w. prepared-is e i w (all i w))) ∙ (patient e).no_commit in cc
        which (inr x) =
            let k : true ≡ false = sym (subst (λ (z : Bool). is_chosen g m.counted x.0 b z ≡ true) x.2 (chosen-is e x.0 x.1))
            ∙ (patient e).no_abort x.0 b in cc

    go : (o : Option Bool) → m.decision ≡ o → (d : Bool) × (m.decision ≡ Some d)
    go None e = absurd (decides_now e)
    go (Some d) e = (d, e)
