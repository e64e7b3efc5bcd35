-- What a process keeps durably is the fold of the records that it wrote.
use Rattle.std.{specs.Prelude.{Option, Some, None, nat_lt, not, ◌==◌, is_none, is_some, if◌then◌else◌}, proofs.Common.{◌≡◌, ◌≢◌, ℕ, ◌⊎◌, ◌^◌, Bool, true}}
use Rattle.std.proofs.Common.{false, ◌&&◌, ◌||◌, eqb, List, [], ◌∷◌, ◌++◌, inl, inr, refl, sym, subst, ◌∙◌, ap}
use Rattle.spl_agree.{specs.World.put, proofs.Tests.{if_holds, if_true, if_false, bool_cases, eqb_is, eqb_not, eqb_same, eqb_other, put-other}}
use Rattle.spl_acceptor.specs.{Quorums.{all_within, acceptors, has_quorum}, Processes.{Pairs, Acceptor, VotingMember, PaxosBallot, Leader, new_acceptor}}
use Rattle.spl_acceptor.specs.{Processes.{new_paxos_member, new_leader, stopped_member, stopped_leader}, Records.{acceptor_with, member_with, leader_with}}
use Rattle.spl_acceptor.specs.{Records.{round_kept, recorded, acceptor_of, member_of, leader_of_records}, Rows.{Move, Keep, Count, Begin, Hear, Close}}
use Rattle.spl_acceptor.specs.Rows.{PaxosPlan, member, acceptor, leader, is_leader_of, on_paxos_vote, has_accepted, is_chosen, is_prepared, on_accepted}
use Rattle.spl_acceptor.specs.Rows.{member_row, is_pair, may_order, acceptor_row, next_ballot, on_lead, pair_among, counts_promise, on_promise, leader_row}
use Rattle.spl_acceptor.specs.Rows.{acceptor_changed, member_changed, member_moved, leader_changed, leader_moved, acceptor_after, member_after, leader_after}
use Rattle.spl_acceptor.specs.Worlds.{PaxosCommitWorld, is_in_range, has_name, first_paxos_world, put_round, message_at, Happening, Votes, Leads, Delivers}
use Rattle.spl_acceptor.specs.Worlds.{Shows, Stops, Starts, round_of, heard_plan, message_heard, paxos_delivered, process_stopped, paxos_happens, paxos_run}
use Rattle.spl_acceptor.specs.{Worlds.paxos_world_after, Logs.one_or_none, declared.{group.Group.Group, kind.TheConstants.{MEMBER, ACCEPTOR, LEADER}}}
use Rattle.spl_acceptor.specs.declared.message.{Acceptance.Acceptance, Name.Name, PaxosMsg.PaxosMsg}
use Rattle.spl_acceptor.specs.declared.record.PaxosRecord.{PaxosRecord}
use Rattle.spl_acceptor.specs.declared.message.PaxosMsg.TheVariants as msg
use Rattle.spl_acceptor.specs.declared.record.PaxosRecord.TheVariants as kept
use Rattle.spl_paxos_safety.{specs.Written.{delivered_plan, written_by, written}, proofs.{Tests.put_holds, AcceptorRows.same_number, Views.round-other}}
use Rattle.spl_paxos_safety.proofs.{Views.forget-is, Grows.put_round-same, Runs.{UpNamed, happens-named}}

pub recorded-append : {S : Type 0} (change : S → PaxosRecord → S) (r : ℕ) (s : S) (xs ys : List PaxosRecord)
    → recorded change r s (xs ++ ys) ≡ recorded change r (recorded change r s xs) ys
recorded-append change r s [] ys = refl
recorded-append change r s (x ∷ xs) ys = recorded-append change r (if round_kept x == r then change s x else s) xs ys

-- each record of a plan is of this round
abbrev Of : ℕ → PaxosPlan → Type 0
Of k p = (x : PaxosRecord) → p.change ≡ Some x → round_kept x ≡ k

-- ---- the records of rows are of the round

accepted-of : (g : Group) (k : ℕ) (x : Acceptance) (counted : List Acceptance) → Of k (on_accepted g k x counted)
accepted-of g k x counted =
    if_holds (Of k) (is_chosen g (x ∷ counted) x.member x.ballot false) _ _ (λ q y e. let f : kept.Decided k false ≡ y = cc in ap round_kept (sym f))
    (λ q. if_holds (Of k) (all_within g.members (is_prepared g (x ∷ counted))) _ _ (λ t y e. let f : kept.Decided k true ≡ y = cc in ap round_kept (sym f))
    (λ t. if_holds (Of k) (has_accepted counted x.member x.ballot x.prepared x.acceptor) _ _ (λ z y e. cc) (λ z y e. cc)))

member-of : (g : Group) (m : VotingMember) (from : Name) (x : PaxosMsg) → Of (round_of x) (member_row g m from x)
member-of g m from (msg.Accepted k i b p) =
    if_holds (Of k) (is_some m.decision) _ _ (λ q y e. cc)
    (λ q. accepted-of g k (record { acceptor = from.number; member = i; ballot = b; prepared = p }) m.counted)
member-of g m from (msg.Ask k b) = λ y e. cc
member-of g m from (msg.Accept k i b p) = λ y e. cc
member-of g m from (msg.Promise k b pairs) = λ y e. cc
member-of g m from (msg.Higher k b) = λ y e. cc

choose-of : (k : ℕ) (c : Bool) (x y : PaxosRecord) → round_kept x ≡ k → (if c then None else Some x) ≡ Some y → round_kept y ≡ k
choose-of k true x y h e = cc
choose-of k false x y h e = let f : x ≡ y = cc in subst (λ (z : PaxosRecord). round_kept z ≡ k) f h

acceptor-of : (g : Group) (a : Acceptor) (from : Name) (x : PaxosMsg) → Of (round_of x) (acceptor_row g a from x)
acceptor-of g a from (msg.Ask k b) = if_holds (Of k) (is_leader_of b from) _ _
    (λ q. if_holds (Of k) (nat_lt b a.promised) _ _ (λ t y e. cc) (λ t y e. choose-of k (a.promised == b) (kept.Promised k b) y refl e))
    (λ q y e. cc)
acceptor-of g a from (msg.Accept k i b p) =
    if_holds (Of k) (may_order i b from && not (nat_lt b a.promised)) _ _
    (λ q y e. choose-of k (a.promised == b && is_pair b p (a.accepted i)) (kept.Accepted k i b p) y refl e) (λ q y e. cc)
acceptor-of g a from (msg.Promise k b pairs) = λ y e. cc
acceptor-of g a from (msg.Higher k b) = λ y e. cc
acceptor-of g a from (msg.Accepted k i b p) = λ y e. cc

promise-of : (g : Group) (o : Option PaxosBallot) (r a b : ℕ) (pairs : Pairs) → Of r (on_promise g o r a b pairs)
promise-of g None r a b pairs = λ y e. cc
promise-of g (Some o) r a b pairs = if_holds (Of r) (o.number == b && is_none (o.promises a)) _ _ (λ q. counted (put o.promises a (Some pairs))) (λ q y e. cc)
  where
    counted : (heard : ℕ → Option Pairs) → Of r (counts_promise g r b a pairs heard)
    counted heard = if_holds (Of r) (has_quorum g.faults (λ (c : ℕ). is_some (heard c))) _ _ (λ t y e. cc) (λ t y e. cc)

leader-of : (g : Group) (l : Leader) (from : Name) (x : PaxosMsg) → Of (round_of x) (leader_row g l from x)
leader-of g l from (msg.Promise k b pairs) = promise-of g l.opened k from.number b (pair_among pairs)
leader-of g l from (msg.Higher k b) = if_holds (Of k) (nat_lt l.used b) _ _ (λ q y e. let f : kept.Used k b ≡ y = cc in ap round_kept (sym f)) (λ q y e. cc)
leader-of g l from (msg.Ask k b) = λ y e. cc
leader-of g l from (msg.Accept k i b p) = λ y e. cc
leader-of g l from (msg.Accepted k i b p) = λ y e. cc

lead-of : (g : Group) (h : ℕ) (l : Leader) (r : ℕ) → Of r (on_lead g h l r)
lead-of g h l r =
    if_holds (Of r) (nat_lt (next_ballot h l.used) (2 ^ 64)) _ _ (λ q y e. let f : kept.Used r (next_ballot h l.used) ≡ y = cc in ap round_kept (sym f))
    (λ q y e. cc)

-- ---- a plan, and the records of it

number-other : {S : Type 0} (f : ℕ → ℕ → S) (h k : ℕ) (s : S) (i r : ℕ) → i ≢ h → put_round f h k s i r ≡ f i r
unfolding put_round
number-other {S} f h k s i r d = ap (λ (z : ℕ → S). z r) (put-other f h (put (f h) k s) i d)

if_two : {A B : Type 0} (P : A → B → Type 0) (c : Bool) (x y : A) (u v : B) → (c ≡ true → P x u) → (c ≡ false → P y v)
    → P (if c then x else y) (if c then u else v)
if_two P true x y u v p q = p refl
if_two P false x y u v p q = q refl

-- what of a process lasts, and how records change it
module _ {S T : Type 0} (lasting : S → T) (change : S → PaxosRecord → S)
    (alike : (s t : S) (x : PaxosRecord) → lasting s ≡ lasting t → lasting (change s x) ≡ lasting (change t x)) where
  -- the records of a plan that leaves this, which is of a round
  changed-by : S → Option PaxosRecord → S
  changed-by s None = s
  changed-by s (Some x) = change s x

  none-written : (c : Bool) (r : ℕ) (s : S) → recorded change r s (if c then [] else []) ≡ s
  none-written true r s = refl
  none-written false r s = refl

  in-round : (r : ℕ) (s t : S) (o : Option PaxosRecord) → lasting s ≡ lasting t → ((x : PaxosRecord) → o ≡ Some x → round_kept x ≡ r)
      → lasting (recorded change r s (one_or_none o)) ≡ lasting (changed-by t o)
  unfolding changed-by
  in-round r s t None e k = e
  in-round r s t (Some x) e k =
      if_true (λ (z : S). lasting z ≡ lasting (change t x)) (round_kept x == r) (change s x) s
      (subst (λ (z : ℕ). eqb z r ≡ true) (sym (k x refl)) (eqb_same r)) (alike s t x e)

  out-of-round : (r k : ℕ) (s : S) (o : Option PaxosRecord) → k ≢ r → ((x : PaxosRecord) → o ≡ Some x → round_kept x ≡ k)
      → recorded change r s (one_or_none o) ≡ s
  out-of-round r k s None d h = refl
  out-of-round r k s (Some x) d h =
      if_false (λ (z : S). z ≡ s) (round_kept x == r) (change s x) s (eqb_other (round_kept x) r (λ e. d (sym (h x refl) ∙ e))) refl

  plan-step : (f : ℕ → ℕ → S) (h k : ℕ) (after : S) (o : Option PaxosRecord) (a r : ℕ) (s : S) → lasting after ≡ lasting (changed-by (f h k) o)
      → ((x : PaxosRecord) → o ≡ Some x → round_kept x ≡ k) → lasting s ≡ lasting (f a r)
      → lasting (recorded change r s (if h == a then one_or_none o else [])) ≡ lasting (put_round f h k after a r)
  plan-step f h k after o a r s ends of e = go (bool_cases (h == a))
    where
      here : h ≡ a → (k ≡ r) ⊎ (k ≢ r) → lasting (recorded change r s (one_or_none o)) ≡ lasting (put_round f h k after a r)
      here q (inl j) = in-round r s (f a r) o e (λ x y. of x y ∙ j)
          ∙ subst (λ (z : ℕ). lasting (changed-by (f a z) o) ≡ lasting (put_round f h k after a z)) j
          (subst (λ (z : ℕ). lasting (changed-by (f z k) o) ≡ lasting (put_round f h k after z k)) q (sym ends ∙ ap lasting (sym (put_round-same f h k after))))
      here q (inr d) = ap lasting (out-of-round r k s o d of) ∙ e ∙ ap lasting (sym (round-other f h k after a r (λ j. d (sym j))))

      go : ((h == a) ≡ true) ⊎ ((h == a) ≡ false) → lasting (recorded change r s (if h == a then one_or_none o else [])) ≡ lasting (put_round f h k after a r)
      go (inl q) =
          if_true (λ (xs : List PaxosRecord). lasting (recorded change r s xs) ≡ lasting (put_round f h k after a r)) (h == a) (one_or_none o) [] q
          (here (eqb_is h a q) (same_number k r))
      go (inr q) =
          if_false (λ (xs : List PaxosRecord). lasting (recorded change r s xs) ≡ lasting (put_round f h k after a r)) (h == a) (one_or_none o) [] q
          (e ∙ ap lasting (sym (number-other f h k after a r (λ j. eqb_not h a q (sym j)))))

-- ---- what lasts of an acceptor, a member and a leader

lasting_acceptor : Acceptor → Acceptor
lasting_acceptor a = a

acceptor-alike : (s t : Acceptor) (x : PaxosRecord) → lasting_acceptor s ≡ lasting_acceptor t
    → lasting_acceptor (acceptor_with s x) ≡ lasting_acceptor (acceptor_with t x)
unfolding lasting_acceptor
acceptor-alike s t x e = ap (λ (z : Acceptor). acceptor_with z x) e

abbrev pub lasting_member : VotingMember → Option Bool × Option Bool
lasting_member m = (m.vote, m.decision)

member-alike : (s t : VotingMember) (x : PaxosRecord) → lasting_member s ≡ lasting_member t
    → lasting_member (member_with s x) ≡ lasting_member (member_with t x)
member-alike s t (kept.Voted r aye) e = ap (λ (z : Option Bool × Option Bool). (Some aye, z.1)) e
member-alike s t (kept.Decided r commit) e = ap (λ (z : Option Bool × Option Bool). (z.0, Some commit)) e
member-alike s t (kept.Promised r b) e = e
member-alike s t (kept.Accepted r i b p) e = e
member-alike s t (kept.Used r b) e = e

abbrev pub lasting_leader : Leader → ℕ
lasting_leader l = l.used

leader-alike : (s t : Leader) (x : PaxosRecord) → lasting_leader s ≡ lasting_leader t → lasting_leader (leader_with s x) ≡ lasting_leader (leader_with t x)
leader-alike s t (kept.Used r b) e = refl
leader-alike s t (kept.Promised r b) e = e
leader-alike s t (kept.Accepted r i b p) e = e
leader-alike s t (kept.Voted r aye) e = e
leader-alike s t (kept.Decided r commit) e = e

-- a plan that is carried out leaves what its record makes
acceptor-ends : (a : Acceptor) (p : PaxosPlan)
    → lasting_acceptor (acceptor_after a p) ≡ lasting_acceptor (changed-by lasting_acceptor acceptor_with acceptor-alike a p.change)
unfolding changed-by
acceptor-ends a p = go p.change
  where
    go : (o : Option PaxosRecord) → lasting_acceptor (acceptor_changed a o) ≡ lasting_acceptor (changed-by lasting_acceptor acceptor_with acceptor-alike a o)
    go None = refl
    go (Some x) = refl

member-ends : (m : VotingMember) (p : PaxosPlan)
    → lasting_member (member_after m p) ≡ lasting_member (changed-by lasting_member member_with member-alike m p.change)
unfolding changed-by
member-ends m p = moved p.move ∙ go p.change
  where
    moved : (v : Move) → lasting_member (member_moved (member_changed m p.change) v) ≡ lasting_member (member_changed m p.change)
    moved Keep = refl
    moved (Count x) = refl
    moved (Begin b) = refl
    moved (Hear a pairs) = refl
    moved Close = refl

    go : (o : Option PaxosRecord) → lasting_member (member_changed m o) ≡ lasting_member (changed-by lasting_member member_with member-alike m o)
    go None = refl
    go (Some x) = refl

leader-ends : (l : Leader) (p : PaxosPlan) → lasting_leader (leader_after l p) ≡ lasting_leader (changed-by lasting_leader leader_with leader-alike l p.change)
unfolding changed-by
leader-ends l p = moved p.move ∙ go p.change
  where
    moved : (v : Move) → lasting_leader (leader_moved (leader_changed l p.change) v) ≡ lasting_leader (leader_changed l p.change)
    moved Keep = refl
    moved (Count x) = refl
    moved (Begin b) = refl
    moved (Hear a pairs) = refl
    moved Close = refl

    go : (o : Option PaxosRecord) → lasting_leader (leader_changed l o) ≡ lasting_leader (changed-by lasting_leader leader_with leader-alike l o)
    go None = refl
    go (Some x) = refl

-- ---- lines

-- a line at other processes writes nothing here, and nothing changes here
abbrev AtAcceptor : ℕ → ℕ → Acceptor → List PaxosRecord → PaxosCommitWorld → Type 0
AtAcceptor a r s xs v = lasting_acceptor (recorded acceptor_with r s xs) ≡ lasting_acceptor (v.acceptor a r)

abbrev AtMember : ℕ → ℕ → VotingMember → List PaxosRecord → PaxosCommitWorld → Type 0
AtMember i r s xs v = lasting_member (recorded member_with r s xs) ≡ lasting_member (v.member i r)

abbrev AtLeader : ℕ → ℕ → Leader → List PaxosRecord → PaxosCommitWorld → Type 0
AtLeader l r s xs v = lasting_leader (recorded leader_with r s xs) ≡ lasting_leader (v.leader l r)

both-none : (c : Bool) → (if c then one_or_none None else []) ≡ []
both-none true = refl
both-none false = refl

kind-not : (k j : ℕ) → (j == k) ≡ false → (n : Name) → (n.kind == j) ≡ true → (n.kind == k) ≡ false
kind-not k j e n q = subst (λ (z : ℕ). (z == k) ≡ false) (sym (eqb_is n.kind j q)) e

-- the test of a name of this kind
abbrev chosen_if : Bool → ℕ → ℕ → List PaxosRecord → List PaxosRecord
chosen_if c h a xs = if c && h == a then xs else []

chosen-not : (c : Bool) (h a : ℕ) (xs : List PaxosRecord) → c ≡ false → chosen_if c h a xs ≡ []
chosen-not true h a xs e = cc
chosen-not false h a xs e = refl

chosen-is : (c : Bool) (h a : ℕ) (xs : List PaxosRecord) → c ≡ true → chosen_if c h a xs ≡ (if h == a then xs else [])
chosen-is true h a xs e = refl
chosen-is false h a xs e = cc

-- acceptors
heard-acceptor : (g : Group) (w : PaxosCommitWorld) (from to : Name) (m : PaxosMsg) (a r : ℕ) (s : Acceptor)
    → lasting_acceptor s ≡ lasting_acceptor (w.acceptor a r)
    → AtAcceptor a r s (chosen_if (to.kind == ACCEPTOR) to.number a (one_or_none (heard_plan g w from to m).change)) (message_heard g w from to m)
heard-acceptor g w from to m a r s e =
    if_two (λ (p : PaxosPlan) (v : PaxosCommitWorld). AtAcceptor a r s (chosen_if (to.kind == ACCEPTOR) to.number a (one_or_none p.change)) v)
    (to.kind == MEMBER) _ _ _ _
    (λ q. ap (λ (xs : List PaxosRecord). lasting_acceptor (recorded acceptor_with r s xs))
    (chosen-not (to.kind == ACCEPTOR) to.number a _ (kind-not ACCEPTOR MEMBER refl to q)) ∙ e)
    (λ q. if_two (λ (p : PaxosPlan) (v : PaxosCommitWorld). AtAcceptor a r s (chosen_if (to.kind == ACCEPTOR) to.number a (one_or_none p.change)) v)
    (to.kind == ACCEPTOR) _ _ _ _
    (λ t. ap (λ (xs : List PaxosRecord). lasting_acceptor (recorded acceptor_with r s xs)) (chosen-is (to.kind == ACCEPTOR) to.number a _ t)
    ∙ plan-step lasting_acceptor acceptor_with acceptor-alike w.acceptor to.number (round_of m)
    (acceptor_after (w.acceptor to.number (round_of m)) (acceptor_row g (w.acceptor to.number (round_of m)) from m))
    (acceptor_row g (w.acceptor to.number (round_of m)) from m).change a r s
    (acceptor-ends (w.acceptor to.number (round_of m)) (acceptor_row g (w.acceptor to.number (round_of m)) from m))
    (acceptor-of g (w.acceptor to.number (round_of m)) from m) e)
    (λ t. ap (λ (xs : List PaxosRecord). lasting_acceptor (recorded acceptor_with r s xs)) (chosen-not (to.kind == ACCEPTOR) to.number a _ t) ∙ e))

delivered-acceptor : (g : Group) (w : PaxosCommitWorld) (from to : Name) (o : Option PaxosMsg) (a r : ℕ) (s : Acceptor)
    → lasting_acceptor s ≡ lasting_acceptor (w.acceptor a r)
    → AtAcceptor a r s (chosen_if (to.kind == ACCEPTOR) to.number a (one_or_none (delivered_plan g w from to o).change)) (paxos_delivered g w from to o)
delivered-acceptor g w from to None a r s e =
    ap (λ (xs : List PaxosRecord). lasting_acceptor (recorded acceptor_with r s xs)) (both-none (to.kind == ACCEPTOR && to.number == a)) ∙ e
delivered-acceptor g w from to (Some m) a r s e = heard-acceptor g w from to m a r s e

acceptor-line : (g : Group) (w : PaxosCommitWorld) (e : Happening) (a r : ℕ) (s : Acceptor) → lasting_acceptor s ≡ lasting_acceptor (w.acceptor a r)
    → AtAcceptor a r s (written_by g w e (acceptor a)) (paxos_happens g w e)
acceptor-line g w (Votes i k aye) a r s h =
    if_holds (λ (v : PaxosCommitWorld). lasting_acceptor s ≡ lasting_acceptor (v.acceptor a r)) (w.up (member i) && is_none (w.member i k).vote) _ _
    (λ q. h) (λ q. h)
acceptor-line g w (Leads l k) a r s h =
    if_holds (λ (v : PaxosCommitWorld). lasting_acceptor s ≡ lasting_acceptor (v.acceptor a r)) (w.up (leader l)) _ _ (λ q. h) (λ q. h)
acceptor-line g w (Delivers from to k) a r s h =
    if_two (λ (p : PaxosPlan) (v : PaxosCommitWorld). AtAcceptor a r s (chosen_if (to.kind == ACCEPTOR) to.number a (one_or_none p.change)) v)
    (w.up to) _ _ _ _
    (λ q. delivered-acceptor g w from to (message_at w from to k) a r s h)
    (λ q. ap (λ (xs : List PaxosRecord). lasting_acceptor (recorded acceptor_with r s xs)) (both-none (to.kind == ACCEPTOR && to.number == a)) ∙ h)
acceptor-line g w (Shows i k) a r s h = h
acceptor-line g w (Stops n) a r s h =
    ap (λ (xs : List PaxosRecord). lasting_acceptor (recorded acceptor_with r s xs)) (both-none (n.kind == ACCEPTOR && n.number == a))
    ∙ if_holds (λ (v : PaxosCommitWorld). lasting_acceptor s ≡ lasting_acceptor (v.acceptor a r)) (w.up n) _ _ (λ q. h) (λ q. h)
acceptor-line g w (Starts n) a r s h =
    ap (λ (xs : List PaxosRecord). lasting_acceptor (recorded acceptor_with r s xs)) (both-none (n.kind == ACCEPTOR && n.number == a))
    ∙ if_holds (λ (v : PaxosCommitWorld). lasting_acceptor s ≡ lasting_acceptor (v.acceptor a r)) (has_name g n) _ _ (λ q. h) (λ q. h)

acceptor-lines : (g : Group) (w : PaxosCommitWorld) (es : List Happening) (a r : ℕ) (s : Acceptor) → lasting_acceptor s ≡ lasting_acceptor (w.acceptor a r)
    → AtAcceptor a r s (written g w es (acceptor a)) (paxos_run g w es)
acceptor-lines g w [] a r s h = h
acceptor-lines g w (e ∷ es) a r s h =
    ap lasting_acceptor (recorded-append acceptor_with r s (written_by g w e (acceptor a)) (written g (paxos_happens g w e) es (acceptor a)))
    ∙ acceptor-lines g (paxos_happens g w e) es a r (recorded acceptor_with r s (written_by g w e (acceptor a))) (acceptor-line g w e a r s h)

pub acceptor-folds : (g : Group) (es : List Happening) (a r : ℕ)
    → acceptor_of (written g (first_paxos_world g) es (acceptor a)) r ≡ (paxos_world_after g es).acceptor a r
unfolding lasting_acceptor
acceptor-folds g es a r = acceptor-lines g (first_paxos_world g) es a r new_acceptor refl

-- members
heard-member : (g : Group) (w : PaxosCommitWorld) (from to : Name) (m : PaxosMsg) (i r : ℕ) (s : VotingMember)
    → lasting_member s ≡ lasting_member (w.member i r)
    → AtMember i r s (chosen_if (to.kind == MEMBER) to.number i (one_or_none (heard_plan g w from to m).change)) (message_heard g w from to m)
heard-member g w from to m i r s e =
    if_two (λ (p : PaxosPlan) (v : PaxosCommitWorld). AtMember i r s (chosen_if (to.kind == MEMBER) to.number i (one_or_none p.change)) v)
    (to.kind == MEMBER) _ _ _ _
    (λ q. ap (λ (xs : List PaxosRecord). lasting_member (recorded member_with r s xs)) (chosen-is (to.kind == MEMBER) to.number i _ q)
    ∙ plan-step lasting_member member_with member-alike w.member to.number (round_of m)
    (member_after (w.member to.number (round_of m)) (member_row g (w.member to.number (round_of m)) from m))
    (member_row g (w.member to.number (round_of m)) from m).change i r s
    (member-ends (w.member to.number (round_of m)) (member_row g (w.member to.number (round_of m)) from m))
    (member-of g (w.member to.number (round_of m)) from m) e)
    (λ q. if_two (λ (p : PaxosPlan) (v : PaxosCommitWorld). AtMember i r s (chosen_if (to.kind == MEMBER) to.number i (one_or_none p.change)) v)
    (to.kind == ACCEPTOR) _ _ _ _
    (λ t. ap (λ (xs : List PaxosRecord). lasting_member (recorded member_with r s xs)) (chosen-not (to.kind == MEMBER) to.number i _ q) ∙ e)
    (λ t. ap (λ (xs : List PaxosRecord). lasting_member (recorded member_with r s xs)) (chosen-not (to.kind == MEMBER) to.number i _ q) ∙ e))

delivered-member : (g : Group) (w : PaxosCommitWorld) (from to : Name) (o : Option PaxosMsg) (i r : ℕ) (s : VotingMember)
    → lasting_member s ≡ lasting_member (w.member i r)
    → AtMember i r s (chosen_if (to.kind == MEMBER) to.number i (one_or_none (delivered_plan g w from to o).change)) (paxos_delivered g w from to o)
delivered-member g w from to None i r s e =
    ap (λ (xs : List PaxosRecord). lasting_member (recorded member_with r s xs)) (both-none (to.kind == MEMBER && to.number == i)) ∙ e
delivered-member g w from to (Some m) i r s e = heard-member g w from to m i r s e

stopped-member : (w : PaxosCommitWorld) (n : Name) (i r : ℕ) → lasting_member ((process_stopped w n).member i r) ≡ lasting_member (w.member i r)
stopped-member w n i r = if_holds (λ (ms : ℕ → ℕ → VotingMember). lasting_member (ms i r) ≡ lasting_member (w.member i r)) (n.kind == MEMBER) _ _
    (λ q. ap lasting_member (forget-is stopped_member w.member n.number r i)
    ∙ put_holds (λ (j : ℕ) (z : VotingMember). lasting_member z ≡ lasting_member (w.member j r)) (λ j. w.member j r) n.number
    (stopped_member (w.member n.number r)) i refl (λ d. refl))
    (λ q. refl)

member-line : (g : Group) (w : PaxosCommitWorld) (e : Happening) (i r : ℕ) (s : VotingMember) → lasting_member s ≡ lasting_member (w.member i r)
    → AtMember i r s (written_by g w e (member i)) (paxos_happens g w e)
member-line g w (Votes j k aye) i r s h =
    if_two (λ (p : PaxosPlan) (v : PaxosCommitWorld). AtMember i r s (if j == i then one_or_none p.change else []) v)
    (w.up (member j) && is_none (w.member j k).vote) _ _ _ _
    (λ q. plan-step lasting_member member_with member-alike w.member j k (member_after (w.member j k) (on_paxos_vote g j k aye))
    (on_paxos_vote g j k aye).change i r s (member-ends (w.member j k) (on_paxos_vote g j k aye))
    (λ y e. let f : kept.Voted k aye ≡ y = cc in ap round_kept (sym f)) h)
    (λ q. ap (λ (xs : List PaxosRecord). lasting_member (recorded member_with r s xs)) (both-none (j == i)) ∙ h)
member-line g w (Leads l k) i r s h =
    if_holds (λ (v : PaxosCommitWorld). lasting_member s ≡ lasting_member (v.member i r)) (w.up (leader l)) _ _ (λ q. h) (λ q. h)
member-line g w (Delivers from to k) i r s h =
    if_two (λ (p : PaxosPlan) (v : PaxosCommitWorld). AtMember i r s (chosen_if (to.kind == MEMBER) to.number i (one_or_none p.change)) v) (w.up to) _ _ _ _
    (λ q. delivered-member g w from to (message_at w from to k) i r s h)
    (λ q. ap (λ (xs : List PaxosRecord). lasting_member (recorded member_with r s xs)) (both-none (to.kind == MEMBER && to.number == i)) ∙ h)
member-line g w (Shows j k) i r s h = ap (λ (xs : List PaxosRecord). lasting_member (recorded member_with r s xs)) (both-none (j == i)) ∙ h
member-line g w (Stops n) i r s h =
    ap (λ (xs : List PaxosRecord). lasting_member (recorded member_with r s xs)) (both-none (n.kind == MEMBER && n.number == i))
    ∙ if_holds (λ (v : PaxosCommitWorld). lasting_member s ≡ lasting_member (v.member i r)) (w.up n) _ _ (λ q. h ∙ sym (stopped-member w n i r)) (λ q. h)
member-line g w (Starts n) i r s h =
    ap (λ (xs : List PaxosRecord). lasting_member (recorded member_with r s xs)) (both-none (n.kind == MEMBER && n.number == i))
    ∙ if_holds (λ (v : PaxosCommitWorld). lasting_member s ≡ lasting_member (v.member i r)) (has_name g n) _ _ (λ q. h) (λ q. h)

member-lines : (g : Group) (w : PaxosCommitWorld) (es : List Happening) (i r : ℕ) (s : VotingMember) → lasting_member s ≡ lasting_member (w.member i r)
    → AtMember i r s (written g w es (member i)) (paxos_run g w es)
member-lines g w [] i r s h = h
member-lines g w (e ∷ es) i r s h =
    ap lasting_member (recorded-append member_with r s (written_by g w e (member i)) (written g (paxos_happens g w e) es (member i)))
    ∙ member-lines g (paxos_happens g w e) es i r (recorded member_with r s (written_by g w e (member i))) (member-line g w e i r s h)

pub member-folds : (g : Group) (es : List Happening) (i r : ℕ)
    → lasting_member (member_of (written g (first_paxos_world g) es (member i)) r) ≡ lasting_member ((paxos_world_after g es).member i r)
member-folds g es i r = member-lines g (first_paxos_world g) es i r new_paxos_member refl

-- leaders; only processes of the run are up
leads-kind : (c d e x y z : Bool) → c ≡ false → d ≡ false → ((c && x) || ((d && y) || (e && z))) ≡ true → e ≡ true
leads-kind true d e x y z p q h = cc
leads-kind false true e x y z p q h = cc
leads-kind false false true x y z p q h = refl
leads-kind false false false x y z p q h = cc

heard-leader : (g : Group) (w : PaxosCommitWorld) (from to : Name) (m : PaxosMsg) (l r : ℕ) (s : Leader) → has_name g to ≡ true
    → lasting_leader s ≡ lasting_leader (w.leader l r)
    → AtLeader l r s (chosen_if (to.kind == LEADER) to.number l (one_or_none (heard_plan g w from to m).change)) (message_heard g w from to m)
heard-leader g w from to m l r s named e =
    if_two (λ (p : PaxosPlan) (v : PaxosCommitWorld). AtLeader l r s (chosen_if (to.kind == LEADER) to.number l (one_or_none p.change)) v)
    (to.kind == MEMBER) _ _ _ _
    (λ q. ap (λ (xs : List PaxosRecord). lasting_leader (recorded leader_with r s xs))
    (chosen-not (to.kind == LEADER) to.number l _ (kind-not LEADER MEMBER refl to q)) ∙ e)
    (λ q. if_two (λ (p : PaxosPlan) (v : PaxosCommitWorld). AtLeader l r s (chosen_if (to.kind == LEADER) to.number l (one_or_none p.change)) v)
    (to.kind == ACCEPTOR) _ _ _ _
    (λ t. ap (λ (xs : List PaxosRecord). lasting_leader (recorded leader_with r s xs))
    (chosen-not (to.kind == LEADER) to.number l _ (kind-not LEADER ACCEPTOR refl to t)) ∙ e)
    (λ t. ap (λ (xs : List PaxosRecord). lasting_leader (recorded leader_with r s xs))
    (chosen-is (to.kind == LEADER) to.number l _
    (leads-kind (to.kind == MEMBER) (to.kind == ACCEPTOR) (to.kind == LEADER) (is_in_range g.members to.number)
    (is_in_range (acceptors g.faults) to.number) (is_in_range 3 to.number) q t named))
    ∙ plan-step lasting_leader leader_with leader-alike w.leader to.number (round_of m)
    (leader_after (w.leader to.number (round_of m)) (leader_row g (w.leader to.number (round_of m)) from m))
    (leader_row g (w.leader to.number (round_of m)) from m).change l r s
    (leader-ends (w.leader to.number (round_of m)) (leader_row g (w.leader to.number (round_of m)) from m))
    (leader-of g (w.leader to.number (round_of m)) from m) e))

delivered-leader : (g : Group) (w : PaxosCommitWorld) (from to : Name) (o : Option PaxosMsg) (l r : ℕ) (s : Leader) → has_name g to ≡ true
    → lasting_leader s ≡ lasting_leader (w.leader l r)
    → AtLeader l r s (chosen_if (to.kind == LEADER) to.number l (one_or_none (delivered_plan g w from to o).change)) (paxos_delivered g w from to o)
delivered-leader g w from to None l r s named e =
    ap (λ (xs : List PaxosRecord). lasting_leader (recorded leader_with r s xs)) (both-none (to.kind == LEADER && to.number == l)) ∙ e
delivered-leader g w from to (Some m) l r s named e = heard-leader g w from to m l r s named e

stopped-leader : (w : PaxosCommitWorld) (n : Name) (l r : ℕ) → lasting_leader ((process_stopped w n).leader l r) ≡ lasting_leader (w.leader l r)
stopped-leader w n l r = if_holds (λ (ls : ℕ → ℕ → Leader). lasting_leader (ls l r) ≡ lasting_leader (w.leader l r)) (n.kind == LEADER) _ _
    (λ q. ap lasting_leader (forget-is stopped_leader w.leader n.number r l)
    ∙ put_holds (λ (j : ℕ) (z : Leader). lasting_leader z ≡ lasting_leader (w.leader j r)) (λ j. w.leader j r) n.number
    (stopped_leader (w.leader n.number r)) l refl (λ d. refl))
    (λ q. refl)

leader-line : (g : Group) (w : PaxosCommitWorld) (e : Happening) (l r : ℕ) (s : Leader) → UpNamed g w → lasting_leader s ≡ lasting_leader (w.leader l r)
    → AtLeader l r s (written_by g w e (leader l)) (paxos_happens g w e)
leader-line g w (Votes j k aye) l r s n h =
    if_holds (λ (v : PaxosCommitWorld). lasting_leader s ≡ lasting_leader (v.leader l r)) (w.up (member j) && is_none (w.member j k).vote) _ _ (λ q. h)
    (λ q. h)
leader-line g w (Leads j k) l r s n h =
    if_two (λ (p : PaxosPlan) (v : PaxosCommitWorld). AtLeader l r s (if j == l then one_or_none p.change else []) v) (w.up (leader j)) _ _ _ _
    (λ q. plan-step lasting_leader leader_with leader-alike w.leader j k (leader_after (w.leader j k) (on_lead g j (w.leader j k) k))
    (on_lead g j (w.leader j k) k).change l r s (leader-ends (w.leader j k) (on_lead g j (w.leader j k) k)) (lead-of g j (w.leader j k) k) h)
    (λ q. ap (λ (xs : List PaxosRecord). lasting_leader (recorded leader_with r s xs)) (both-none (j == l)) ∙ h)
leader-line g w (Delivers from to k) l r s n h =
    if_two (λ (p : PaxosPlan) (v : PaxosCommitWorld). AtLeader l r s (chosen_if (to.kind == LEADER) to.number l (one_or_none p.change)) v) (w.up to) _ _ _ _
    (λ q. delivered-leader g w from to (message_at w from to k) l r s (n to q) h)
    (λ q. ap (λ (xs : List PaxosRecord). lasting_leader (recorded leader_with r s xs)) (both-none (to.kind == LEADER && to.number == l)) ∙ h)
leader-line g w (Shows j k) l r s n h = h
leader-line g w (Stops x) l r s n h =
    ap (λ (xs : List PaxosRecord). lasting_leader (recorded leader_with r s xs)) (both-none (x.kind == LEADER && x.number == l))
    ∙ if_holds (λ (v : PaxosCommitWorld). lasting_leader s ≡ lasting_leader (v.leader l r)) (w.up x) _ _ (λ q. h ∙ sym (stopped-leader w x l r)) (λ q. h)
leader-line g w (Starts x) l r s n h =
    ap (λ (xs : List PaxosRecord). lasting_leader (recorded leader_with r s xs)) (both-none (x.kind == LEADER && x.number == l))
    ∙ if_holds (λ (v : PaxosCommitWorld). lasting_leader s ≡ lasting_leader (v.leader l r)) (has_name g x) _ _ (λ q. h) (λ q. h)

leader-lines : (g : Group) (w : PaxosCommitWorld) (es : List Happening) (l r : ℕ) (s : Leader) → UpNamed g w
    → lasting_leader s ≡ lasting_leader (w.leader l r) → AtLeader l r s (written g w es (leader l)) (paxos_run g w es)
leader-lines g w [] l r s n h = h
leader-lines g w (e ∷ es) l r s n h =
    ap lasting_leader (recorded-append leader_with r s (written_by g w e (leader l)) (written g (paxos_happens g w e) es (leader l)))
    ∙ leader-lines g (paxos_happens g w e) es l r (recorded leader_with r s (written_by g w e (leader l))) (happens-named g w e n) (leader-line g w e l r s n h)

pub leader-folds : (g : Group) (es : List Happening) (l r : ℕ)
    → (leader_of_records (written g (first_paxos_world g) es (leader l)) r).used ≡ ((paxos_world_after g es).leader l r).used
leader-folds g es l r = leader-lines g (first_paxos_world g) es l r new_leader (λ n e. e) refl
