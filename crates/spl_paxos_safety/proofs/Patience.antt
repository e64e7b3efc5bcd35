-- A member that is undecided has counted nothing that decides.
use Rattle.std.{specs.Prelude.{Option, Some, None, nat_lt, ◌==◌, is_none, is_some, if◌then◌else◌}, proofs.Common.{◌≡◌, ℕ, zero, suc, ◌≤◌, ◌⊎◌, Bool, true}}
use Rattle.std.proofs.Common.{false, ◌&&◌, ◌||◌, eqb, List, [], ◌∷◌, inl, inr, refl, sym, subst, ◌∙◌, ap, arith}
use Rattle.spl_agree.proofs.Tests.{if_holds, bool_cases, and_left, and_right, eqb_is, eqb_same}
use Rattle.spl_acceptor.specs.{Quorums.{count, all_within, acceptors}, Processes.{VotingMember, stopped_member}, Rows.{PaxosPlan, member, leader}}
use Rattle.spl_acceptor.specs.Rows.{on_paxos_vote, same_bool, is_acceptance_by, has_accepted, is_chosen, is_prepared, on_accepted, member_row, member_after}
use Rattle.spl_acceptor.specs.Worlds.{PaxosCommitWorld, has_name, first_paxos_world, message_at, at_member, Happening, Votes, Leads, Delivers, Shows, Stops}
use Rattle.spl_acceptor.specs.Worlds.{Starts, round_of, message_heard, paxos_delivered, process_stopped, paxos_happens, paxos_run, paxos_world_after}
use Rattle.spl_acceptor.specs.declared.{group.Group.Group, kind.TheConstants.{MEMBER, ACCEPTOR}, message.{Acceptance.Acceptance, Name.Name}}
use Rattle.spl_acceptor.specs.declared.message.PaxosMsg.{PaxosMsg}
use Rattle.spl_acceptor.specs.declared.message.PaxosMsg.TheVariants as msg
use Rattle.spl_paxos_safety.proofs.{Tests.put_holds, Views.forget-is, Decisions.put_round-holds}

pub record Waits (g : Group) (counted : List Acceptance) : Type 0 where
  pub no_abort : (i b : ℕ) → is_chosen g counted i b false ≡ false
  pub no_commit : all_within g.members (is_prepared g counted) ≡ false

abbrev pub IsPatient : Group → VotingMember → Type 0
IsPatient g m = m.decision ≡ None → Waits g m.counted

-- nothing counted decides nothing
no-count : (n : ℕ) → count n (λ (c : ℕ). false) ≡ 0
no-count zero = refl
no-count (suc n) = no-count n

none-below : (n : ℕ) → nat_lt n 0 ≡ false
none-below n = grind (arith)

none-within : (n : ℕ) → 1 ≤ n → all_within n (λ (c : ℕ). false) ≡ false
none-within zero l = absurd (omega arith)
none-within (suc n) l = go (all_within n (λ (c : ℕ). false))
  where
    go : (c : Bool) → (c && false) ≡ false
    go true = refl
    go false = refl

pub waits-first : (g : Group) → 1 ≤ g.members → Waits g []
waits-first g l = record {
  no_abort = λ i b. ap (nat_lt g.faults) (no-count (acceptors g.faults)) ∙ none-below g.faults;
  no_commit = none-within g.members l;
}

-- another instance isn't touched by one acceptance more
other-instance : (x : Acceptance) (a i b : ℕ) (p : Bool) (counted : List Acceptance) → (x.member ≡ i → x.ballot ≡ b → ⊥)
    → has_accepted (x ∷ counted) i b p a ≡ has_accepted counted i b p a
other-instance x a i b p counted d = go (bool_cases (is_acceptance_by a i b p x))
  where
    go : (is_acceptance_by a i b p x ≡ true) ⊎ (is_acceptance_by a i b p x ≡ false)
        → (is_acceptance_by a i b p x || has_accepted counted i b p a) ≡ has_accepted counted i b p a
    go (inl e) =
        let s : (eqb x.member i && (eqb x.ballot b && same_bool x.prepared p)) ≡ true = and_right (eqb x.acceptor a) _ e in
        let t : (eqb x.ballot b && same_bool x.prepared p) ≡ true = and_right (eqb x.member i) _ s in
        absurd (d (eqb_is x.member i (and_left (eqb x.member i) _ s)) (eqb_is x.ballot b (and_left (eqb x.ballot b) _ t)))
    go (inr e) = ap (λ (z : Bool). z || has_accepted counted i b p a) e

count-alike : (n : ℕ) (f h : ℕ → Bool) → ((c : ℕ) → f c ≡ h c) → count n f ≡ count n h
count-alike zero f h all = refl
count-alike (suc n) f h all = go (f (suc n)) (h (suc n)) (all (suc n)) (count-alike n f h all)
  where
    go : (x y : Bool) → x ≡ y → count n f ≡ count n h → (if x then suc (count n f) else count n f) ≡ (if y then suc (count n h) else count n h)
    go true true e ih = ap suc ih
    go true false e ih = cc
    go false true e ih = cc
    go false false e ih = ih

waits-more : (g : Group) (x : Acceptance) (counted : List Acceptance) → Waits g counted → is_chosen g (x ∷ counted) x.member x.ballot false ≡ false
    → all_within g.members (is_prepared g (x ∷ counted)) ≡ false → Waits g (x ∷ counted)
waits-more g x counted w one all = record { no_abort = λ i b. go i b (bool_cases (eqb x.member i && eqb x.ballot b)); no_commit = all }
  where
    same : (i b : ℕ) → (eqb x.member i && eqb x.ballot b) ≡ true → is_chosen g (x ∷ counted) i b false ≡ false
    same i b e = subst (λ (z : ℕ). is_chosen g (x ∷ counted) z b false ≡ false) (eqb_is x.member i (and_left (eqb x.member i) (eqb x.ballot b) e))
        (subst (λ (z : ℕ). is_chosen g (x ∷ counted) x.member z false ≡ false) (eqb_is x.ballot b (and_right (eqb x.member i) (eqb x.ballot b) e)) one)

    differ : (i b : ℕ) → (eqb x.member i && eqb x.ballot b) ≡ false → x.member ≡ i → x.ballot ≡ b → ⊥
    differ i b e f h =
        let k : true ≡ false = sym
        (both (eqb x.member i) (eqb x.ballot b) (subst (λ (z : ℕ). eqb x.member z ≡ true) f (eqb_same x.member))
        (subst (λ (z : ℕ). eqb x.ballot z ≡ true) h (eqb_same x.ballot))) ∙ e in cc
      where
        both : (c d : Bool) → c ≡ true → d ≡ true → (c && d) ≡ true
        both true d s t = t
        both false d s t = cc

    go : (i b : ℕ) → ((eqb x.member i && eqb x.ballot b) ≡ true) ⊎ ((eqb x.member i && eqb x.ballot b) ≡ false) → is_chosen g (x ∷ counted) i b false ≡ false
    go i b (inl e) = same i b e
    go i b (inr e) =
        ap (nat_lt g.faults) (count-alike (acceptors g.faults) (has_accepted (x ∷ counted) i b false) (has_accepted counted i b false)
        (λ a. other-instance x a i b false counted (differ i b e))) ∙ w.no_abort i b

-- rows of a member
accepted-patient : (g : Group) (m : VotingMember) (k : ℕ) (x : Acceptance) → Waits g m.counted → IsPatient g (member_after m (on_accepted g k x m.counted))
accepted-patient g m k x w = if_holds (λ (p : PaxosPlan). IsPatient g (member_after m p)) (is_chosen g (x ∷ m.counted) x.member x.ballot false) _ _ (λ q e. cc)
    (λ q. if_holds (λ (p : PaxosPlan). IsPatient g (member_after m p)) (all_within g.members (is_prepared g (x ∷ m.counted))) _ _ (λ t e. cc)
    (λ t. if_holds (λ (p : PaxosPlan). IsPatient g (member_after m p)) (has_accepted m.counted x.member x.ballot x.prepared x.acceptor) _ _ (λ z e. w)
    (λ z e. waits-more g x m.counted w q t)))

undecided : (o : Option Bool) → is_some o ≡ false → o ≡ None
undecided None e = refl
undecided (Some x) e = cc

row-patient : (g : Group) (m : VotingMember) (from : Name) (x : PaxosMsg) → IsPatient g m → IsPatient g (member_after m (member_row g m from x))
row-patient g m from (msg.Accepted k i b p) w =
    if_holds (λ (p : PaxosPlan). IsPatient g (member_after m p)) (is_some m.decision) _ _ (λ q. w)
    (λ q. accepted-patient g m k (record { acceptor = from.number; member = i; ballot = b; prepared = p }) (w (undecided m.decision q)))
row-patient g m from (msg.Ask k b) w = w
row-patient g m from (msg.Accept k i b p) w = w
row-patient g m from (msg.Promise k b pairs) w = w
row-patient g m from (msg.Higher k b) w = w

-- worlds
abbrev pub Patient : Group → PaxosCommitWorld → Type 0
Patient g w = (m r : ℕ) → IsPatient g (w.member m r)

at_member-patient : (g : Group) (w : PaxosCommitWorld) (h k : ℕ) (p : PaxosPlan) → IsPatient g (member_after (w.member h k) p) → Patient g w
    → Patient g (at_member w h k p)
at_member-patient g w h k p i w0 m r =
    put_round-holds (λ (m r : ℕ) (z : VotingMember). IsPatient g z) w.member h k (member_after (w.member h k) p) m r i (w0 m r)

heard-patient : (g : Group) (w : PaxosCommitWorld) (from to : Name) (x : PaxosMsg) → Patient g w → Patient g (message_heard g w from to x)
heard-patient g w from to x s = if_holds (Patient g) (to.kind == MEMBER) _ _
    (λ q. at_member-patient g w to.number (round_of x) (member_row g (w.member to.number (round_of x)) from x)
    (row-patient g (w.member to.number (round_of x)) from x (s to.number (round_of x))) s)
    (λ q. if_holds (Patient g) (to.kind == ACCEPTOR) _ _ (λ t. s) (λ t. s))

delivered-patient : (g : Group) (w : PaxosCommitWorld) (from to : Name) (o : Option PaxosMsg) → Patient g w → Patient g (paxos_delivered g w from to o)
delivered-patient g w from to None s = s
delivered-patient g w from to (Some x) s = heard-patient g w from to x s

stopped-patient : (g : Group) (w : PaxosCommitWorld) (n : Name) → 1 ≤ g.members → Patient g w → Patient g (process_stopped w n)
stopped-patient g w n l s m r = if_holds (λ (ms : ℕ → ℕ → VotingMember). IsPatient g (ms m r)) (n.kind == MEMBER) _ _
    (λ q. subst (IsPatient g) (sym (forget-is stopped_member w.member n.number r m))
    (put_holds (λ (i : ℕ) (z : VotingMember). IsPatient g (w.member i r) → IsPatient g z) (λ i. w.member i r) n.number
    (stopped_member (w.member n.number r)) m (λ y e. waits-first g l) (λ k y. y) (s m r)))
    (λ q. s m r)

happens-patient : (g : Group) (w : PaxosCommitWorld) (e : Happening) → 1 ≤ g.members → Patient g w → Patient g (paxos_happens g w e)
happens-patient g w (Votes i k p) l s =
    if_holds (Patient g) (w.up (member i) && is_none (w.member i k).vote) _ _ (λ q. at_member-patient g w i k (on_paxos_vote g i k p) (s i k) s) (λ q. s)
happens-patient g w (Leads h k) l s = if_holds (Patient g) (w.up (leader h)) _ _ (λ q. s) (λ q. s)
happens-patient g w (Delivers from to k) l s = if_holds (Patient g) (w.up to) _ _ (λ q. delivered-patient g w from to (message_at w from to k) s) (λ q. s)
happens-patient g w (Shows i k) l s = s
happens-patient g w (Stops x) l s = if_holds (Patient g) (w.up x) _ _ (λ q. stopped-patient g w x l s) (λ q. s)
happens-patient g w (Starts x) l s = if_holds (Patient g) (has_name g x) _ _ (λ q. s) (λ q. s)

pub run-patient : (g : Group) (w : PaxosCommitWorld) (es : List Happening) → 1 ≤ g.members → Patient g w → Patient g (paxos_run g w es)
run-patient g w [] l s = s
run-patient g w (e ∷ es) l s = run-patient g (paxos_happens g w e) es l (happens-patient g w e l s)

pub after-patient : (g : Group) (es : List Happening) → 1 ≤ g.members → (m r : ℕ) → IsPatient g ((paxos_world_after g es).member m r)
after-patient g es l = run-patient g (first_paxos_world g) es l (λ m r e. waits-first g l)
