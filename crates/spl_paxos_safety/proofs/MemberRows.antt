-- The rows of a member keep the soundness.
use Rattle.std.{specs.Prelude.{List, [], ◌∷◌, Option, Some, None, is_none}, proofs.Common.{◌≡◌, ℕ, ◌<◌, ◌⊎◌, Bool, true, false, ◌&&◌, eqb, inl, inr, refl}}
use Rattle.std.proofs.Common.{sym, subst, ◌∙◌, ap, arith}
use Rattle.spl_agree.proofs.Tests.{ltb_is, eqb_is, put-same, and_left, and_right}
use Rattle.spl_acceptor.specs.{Quorums.{IsWithin, count, all_within, acceptors}, Processes.{Pairs, VotingMember, stopped_member}, Rows.{leader_of, same_bool}}
use Rattle.spl_acceptor.specs.{Rows.{is_acceptance_by, has_accepted, is_chosen, is_prepared}, declared.{group.Group.Group, message.Acceptance.Acceptance}}
use Rattle.spl_paxos_safety.proofs.{Round.{Message, Accept, Promise, Accepted, Round, IsAmong, with_member}, Soundness.{Accepts, Chosen, Ordered, Reason}}
use Rattle.spl_paxos_safety.proofs.{Soundness.Sound, Changes.member-sound, Tests.{was-split, any-was, all-within, accept-same}, AcceptorRows.Only}

pub none_is : {A : Type 0} (o : Option A) (x : A) → is_none o ≡ true → o ≡ Some x → ⊥
none_is None x h e = cc
none_is (Some y) x h e = cc

-- it voted, which it hadn't
pub voted-sound : (g : Group) (w : Round) (m : ℕ) (p : Bool) (sends : List Message) → IsWithin g.members m → is_none (w.member m).vote ≡ true
    → Only (Accept m 0 p) sends → Sound g w
    → Sound g (with_member w m (record { vote = Some p; decision = (w.member m).decision; counted = (w.member m).counted }) sends)
voted-sound g w m p sends l free only s =
    member-sound g w m new sends (λ q e. absurd (none_is (w.member m).vote q free e)) no_accepted no_promise orders (λ y u. inl u) (λ d e. inl e) s
  where
    new : VotingMember
    new = record { vote = Some p; decision = (w.member m).decision; counted = (w.member m).counted }

    v : Round
    v = with_member w m new sends

    no_accepted : (c i b : ℕ) (q : Bool) → IsAmong (Accepted c i b q) sends → ⊥
    no_accepted c i b q u = let e : Accepted c i b q ≡ Accept m 0 p = only (Accepted c i b q) u in cc

    no_promise : (c b : ℕ) (y : Pairs) → IsAmong (Promise c b y) sends → ⊥
    no_promise c b y u = let e : Promise c b y ≡ Accept m 0 p = only (Promise c b y) u in cc

    single : (q : Bool) → IsAmong (Accept m 0 q) sends ⊎ IsAmong (Accept m 0 q) w.sent → p ≡ q
    single q (inl u) = sym (accept-same m 0 m 0 q p (only (Accept m 0 q) u)).2
    single q (inr u) = absurd (none_is (w.member m).vote q free ((s.ordered m 0 q u).first refl))

    mine : Ordered g v m 0 p
    mine = record {
      member = l;
      first = λ e. ap (λ (x : VotingMember). x.vote) (put-same w.member m new);
      yes = λ e. ap (λ (x : VotingMember). x.vote) (put-same w.member m new) ∙ ap (λ (q : Bool). Some q) e;
      asked = λ k. absurd (omega arith);
      begun = omega arith;
      shut = λ o e. (s.opened (leader_of 0) o e).above;
      single = λ q u. single q (was-split (Accept m 0 q) sends w.sent u);
      safe = λ c q k n. absurd (omega arith);
    }

    orders : (i b : ℕ) (q : Bool) → IsAmong (Accept i b q) sends → Ordered g v i b q
    orders i b q u =
        let k : (i ≡ m) × (b ≡ 0) × (q ≡ p) = accept-same i b m 0 q p (only (Accept i b q) u) in
        subst (λ (z : ℕ). Ordered g v z b q) (sym k.0)
        (subst (λ (z : ℕ). Ordered g v m z q) (sym k.1)
        (subst (λ (z : Bool). Ordered g v m 0 z) (sym k.2) mine))

pub same_is : (p q : Bool) → same_bool p q ≡ true → p ≡ q
same_is true true e = refl
same_is true false e = cc
same_is false true e = cc
same_is false false e = refl

-- what is counted as this acceptance was sent as this
pub of-sent : (sent : List Message) (x : Acceptance) (a i b : ℕ) (p : Bool) → is_acceptance_by a i b p x ≡ true
    → Accepts sent x.acceptor x.member x.ballot x.prepared → Accepts sent a i b p
of-sent sent x a i b p e y =
    let r : (eqb x.member i && (eqb x.ballot b && same_bool x.prepared p)) ≡ true = and_right (eqb x.acceptor a) _ e in
    let t : (eqb x.ballot b && same_bool x.prepared p) ≡ true = and_right (eqb x.member i) _ r in
    let ea : x.acceptor ≡ a = eqb_is x.acceptor a (and_left (eqb x.acceptor a) _ e) in
    let ei : x.member ≡ i = eqb_is x.member i (and_left (eqb x.member i) _ r) in
    let eb : x.ballot ≡ b = eqb_is x.ballot b (and_left (eqb x.ballot b) _ t) in
    let ep : x.prepared ≡ p = same_is x.prepared p (and_right (eqb x.ballot b) _ t) in
    subst (λ (z : Bool). Accepts sent a i b z) ep
    (subst (λ (z : ℕ). Accepts sent a i z x.prepared) eb
    (subst (λ (z : ℕ). Accepts sent a z x.ballot x.prepared) ei
    (subst (λ (z : ℕ). Accepts sent z x.member x.ballot x.prepared) ea y)))

-- what a quorum is counted for was chosen
pub counted-chosen : (g : Group) (sent : List Message) (counted : List Acceptance) (i b : ℕ) (p : Bool)
    → ((y : Acceptance) → IsAmong y counted → Accepts sent y.acceptor y.member y.ballot y.prepared) → is_chosen g counted i b p ≡ true → Chosen g sent i b p
counted-chosen g sent counted i b p all e =
    let k : g.faults < count (acceptors g.faults) (has_accepted counted i b p) =
    ltb_is g.faults (count (acceptors g.faults) (has_accepted counted i b p)) e in (
      has_accepted counted i b p,
      omega arith,
      λ a j t. let m : (x : Acceptance) × IsAmong x counted
          × (is_acceptance_by a i b p x ≡ true) = any-was (is_acceptance_by a i b p) counted t in of-sent sent m.0 a i b p m.2 (all m.0 m.1),
    )

-- what it counted, and what it hears now, was accepted
pub all-accepted : (g : Group) (w : Round) (m : ℕ) (x : Acceptance) → Accepts w.sent x.acceptor x.member x.ballot x.prepared → Sound g w → (y : Acceptance)
    → IsAmong y (x ∷ (w.member m).counted) → Accepts w.sent y.acceptor y.member y.ballot y.prepared
all-accepted g w m x u s y (inl e) = subst (λ (z : Acceptance). Accepts w.sent z.acceptor z.member z.ballot z.prepared) (sym e) u
all-accepted g w m x u s y (inr z) = s.counted m y z

abort-reason : (g : Group) (w : Round) (counted : List Acceptance) (x : Acceptance)
    → ((y : Acceptance) → IsAmong y counted → Accepts w.sent y.acceptor y.member y.ballot y.prepared)
    → is_chosen g counted x.member x.ballot false ≡ true → Reason g w false
abort-reason g w counted x all q = (x.member, x.ballot, counted-chosen g w.sent counted x.member x.ballot false all q)

commit-reason : (g : Group) (w : Round) (counted : List Acceptance)
    → ((y : Acceptance) → IsAmong y counted → Accepts w.sent y.acceptor y.member y.ballot y.prepared)
    → all_within g.members (is_prepared g counted) ≡ true → Reason g w true
commit-reason g w counted all r = λ i l.
    let m : (y : Acceptance) × IsAmong y counted × (is_chosen g counted i y.ballot true ≡ true) =
    any-was (λ y. is_chosen g counted i y.ballot true) counted (all-within g.members (is_prepared g counted) i r l) in
    (m.0.ballot, counted-chosen g w.sent counted i m.0.ballot true all m.2)

-- it decides, for a reason
pub decided-sound : (g : Group) (w : Round) (m : ℕ) (commit : Bool) → Reason g w commit → Sound g w
    → Sound g (with_member w m (record { vote = (w.member m).vote; decision = Some commit; counted = (w.member m).counted }) [])
decided-sound g w m commit r s = member-sound g w m new [] (λ p e. e) (λ c i b p z. z) (λ c b y z. z) (λ i b p z. absurd z) (λ y z. inl z)
    (λ d e. let f : commit ≡ d = cc in inr (subst (Reason g (with_member w m new [])) f (same commit r))) s
  where
    new : VotingMember
    new = record { vote = (w.member m).vote; decision = Some commit; counted = (w.member m).counted }

    same : (d : Bool) → Reason g w d → Reason g (with_member w m new []) d
    same true r = r
    same false r = r

-- with what it counted before, and with this too
pub abort-sound : (g : Group) (w : Round) (m : ℕ) (x : Acceptance) → Accepts w.sent x.acceptor x.member x.ballot x.prepared
    → is_chosen g (x ∷ (w.member m).counted) x.member x.ballot false ≡ true → Sound g w
    → Sound g (with_member w m (record { vote = (w.member m).vote; decision = Some false; counted = (w.member m).counted }) [])
abort-sound g w m x u q s = decided-sound g w m false (abort-reason g w (x ∷ (w.member m).counted) x (all-accepted g w m x u s) q) s

pub commit-sound : (g : Group) (w : Round) (m : ℕ) (x : Acceptance) → Accepts w.sent x.acceptor x.member x.ballot x.prepared
    → all_within g.members (is_prepared g (x ∷ (w.member m).counted)) ≡ true → Sound g w
    → Sound g (with_member w m (record { vote = (w.member m).vote; decision = Some true; counted = (w.member m).counted }) [])
commit-sound g w m x u q s = decided-sound g w m true (commit-reason g w (x ∷ (w.member m).counted) (all-accepted g w m x u s) q) s

pub counts-sound : (g : Group) (w : Round) (m : ℕ) (x : Acceptance) → Accepts w.sent x.acceptor x.member x.ballot x.prepared → Sound g w
    → Sound g (with_member w m (record { vote = (w.member m).vote; decision = (w.member m).decision; counted = x ∷ (w.member m).counted }) [])
counts-sound g w m x u s =
    member-sound g w m (record { vote = (w.member m).vote; decision = (w.member m).decision; counted = x ∷ (w.member m).counted }) [] (λ p e. e)
    (λ c i b p z. z) (λ c b y z. z) (λ i b p z. absurd z)
    (λ y z. inr (all-accepted g w m x u s y z)) (λ d e. inl e) s

pub stopped_member-sound : (g : Group) (w : Round) (m : ℕ) → Sound g w → Sound g (with_member w m (stopped_member (w.member m)) [])
stopped_member-sound g w m s =
    member-sound g w m (stopped_member (w.member m)) [] (λ p e. e) (λ c i b p z. z) (λ c b y z. z) (λ i b p z. absurd z) (λ y z. absurd z) (λ d e. inl e) s

pub idle-member-sound : (g : Group) (w : Round) (m : ℕ) → Sound g w → Sound g (with_member w m (w.member m) [])
idle-member-sound g w m s = member-sound g w m (w.member m) [] (λ p e. e) (λ c i b p z. z) (λ c b y z. z) (λ i b p z. absurd z) (λ y z. inl z) (λ d e. inl e) s
