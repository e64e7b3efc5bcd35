-- What outlives lines: messages keep their numbers, and a process that does nothing stays as it was.
use Rattle.std.{specs.Prelude.{Option, Some, None, ◌==◌}, proofs.Common.{◌≡◌, ℕ, true, false, List, [], ◌∷◌, ◌++◌, inl, inr, refl, sym, subst, ◌∙◌, ap}}
use Rattle.std.proofs.Common.{append_assoc}
use Rattle.spl_agree.{specs.World.put, proofs.Tests.{if_holds, if_true, put-same}}
use Rattle.spl_acceptor.specs.{Rows.{member_row, acceptor_row, leader_row}, Worlds.{PaxosCommitWorld, SentPaxosMessage, same_name, put_round, paxos_on_pair}}
use Rattle.spl_acceptor.specs.Worlds.{message_numbered, message_at, paxos_posted, Happening, Delivers, round_of, message_heard, paxos_delivered}
use Rattle.spl_acceptor.specs.{Worlds.{paxos_happens, paxos_run}, declared.{group.Group.Group, kind.TheConstants.{MEMBER, ACCEPTOR, LEADER}}}
use Rattle.spl_acceptor.specs.declared.message.{Name.Name, PaxosMsg.PaxosMsg}
use Rattle.spl_paxos_safety.{specs.Settling.for_each, proofs.{Round.IsAmong, Said.Sends, Lists.{append-nil, numbered-prefix, pair-append, pair-other}}}
use Rattle.spl_paxos_safety.proofs.Runs.{run-append, delivered-up}

-- more was sent, after what was
abbrev pub Grows : PaxosCommitWorld → PaxosCommitWorld → Type 0
Grows w v = (extra : List SentPaxosMessage) × (v.sent ≡ w.sent ++ extra)

pub grows-self : (w : PaxosCommitWorld) → Grows w w
grows-self w = ([], sym (append-nil w.sent))

pub grows-then : (w v u : PaxosCommitWorld) → Grows w v → Grows v u → Grows w u
grows-then w v u x y = (x.0 ++ y.0, y.1 ∙ ap (λ (z : List SentPaxosMessage). z ++ y.0) x.1 ∙ append_assoc w.sent x.0 y.0)

heard-grows : (g : Group) (w : PaxosCommitWorld) (from to : Name) (m : PaxosMsg) → Grows w (message_heard g w from to m)
heard-grows g w from to m = if_holds (Grows w) (to.kind == MEMBER) _ _
    (λ q. (paxos_posted (record { kind = MEMBER; number = to.number }) (member_row g (w.member to.number (round_of m)) from m).sends, refl))
    (λ q. if_holds (Grows w) (to.kind == ACCEPTOR) _ _
    (λ t. (paxos_posted (record { kind = ACCEPTOR; number = to.number }) (acceptor_row g (w.acceptor to.number (round_of m)) from m).sends, refl))
    (λ t. (paxos_posted (record { kind = LEADER; number = to.number }) (leader_row g (w.leader to.number (round_of m)) from m).sends, refl)))

delivered-grows : (g : Group) (w : PaxosCommitWorld) (from to : Name) (o : Option PaxosMsg) → Grows w (paxos_delivered g w from to o)
delivered-grows g w from to None = grows-self w
delivered-grows g w from to (Some m) = heard-grows g w from to m

pub delivers-grows : (g : Group) (w : PaxosCommitWorld) (from to : Name) (k : ℕ) → Grows w (paxos_happens g w (Delivers from to k))
delivers-grows g w from to k = if_holds (Grows w) (w.up to) _ _ (λ q. delivered-grows g w from to (message_at w from to k)) (λ q. grows-self w)

-- a message keeps its number
pub message-stays : (w v : PaxosCommitWorld) (f t : Name) (k : ℕ) (m : PaxosMsg) → Grows w v → message_at w f t k ≡ Some m → message_at v f t k ≡ Some m
message-stays w v f t k m x e =
    ap (λ (z : List SentPaxosMessage). message_numbered (paxos_on_pair f t z) k) x.1
    ∙ ap (λ (z : List PaxosMsg). message_numbered z k) (pair-append f t w.sent x.0) ∙ numbered-prefix (paxos_on_pair f t w.sent) (paxos_on_pair f t x.0) k m e

pub delivers-up : (g : Group) (w : PaxosCommitWorld) (from to : Name) (k : ℕ) → (paxos_happens g w (Delivers from to k)).up ≡ w.up
delivers-up g w from to k = if_holds (λ (v : PaxosCommitWorld). v.up ≡ w.up) (w.up to) _ _ (λ q. delivered-up g w from to (message_at w from to k)) (λ q. refl)

-- ---- what is handed over is heard

pub hears-it : (g : Group) (w : PaxosCommitWorld) (from to : Name) (k : ℕ) (m : PaxosMsg) → w.up to ≡ true → message_at w from to k ≡ Some m
    → paxos_happens g w (Delivers from to k) ≡ message_heard g w from to m
hears-it g w from to k m up e =
    if_true (λ (v : PaxosCommitWorld). v ≡ message_heard g w from to m) (w.up to) (paxos_delivered g w from to (message_at w from to k)) w up
    (ap (paxos_delivered g w from to) e)

pub put_round-same : {S : Type 0} (f : ℕ → ℕ → S) (h k : ℕ) (s : S) → put_round f h k s h k ≡ s
unfolding put_round
put_round-same {S} f h k s = ap (λ (z : ℕ → S). z k) (put-same f h (put (f h) k s)) ∙ put-same (f h) k s

-- what one process sends is no other's
pub others-still : (w : PaxosCommitWorld) (f t here : Name) (sends : Sends) → same_name here f ≡ false
    → paxos_on_pair f t (w.sent ++ paxos_posted here sends) ≡ paxos_on_pair f t w.sent
others-still w f t here sends d =
    pair-append f t w.sent (paxos_posted here sends) ∙ ap (λ (z : List PaxosMsg). paxos_on_pair f t w.sent ++ z) (pair-other f t here sends d)
    ∙ append-nil (paxos_on_pair f t w.sent)

-- ---- some lines for each

pub run-each : {A : Type 0} (g : Group) (lines : A → List Happening) (x : A) (xs : List A) (w : PaxosCommitWorld)
    → paxos_run g w (for_each lines (x ∷ xs)) ≡ paxos_run g (paxos_run g w (lines x)) (for_each lines xs)
run-each g lines x xs w = run-append g w (lines x) (for_each lines xs)

-- what outlives the lines of each outlives them all
pub keep-each : {A : Type 0} (g : Group) (lines : A → List Happening) (Q : PaxosCommitWorld → Type 0) (xs : List A)
    → ((x : A) (w : PaxosCommitWorld) → IsAmong x xs → Q w → Q (paxos_run g w (lines x))) → (w : PaxosCommitWorld) → Q w
    → Q (paxos_run g w (for_each lines xs))
keep-each g lines Q [] keep w q = q
keep-each g lines Q (x ∷ xs) keep w q =
    subst Q (sym (run-each g lines x xs w)) (keep-each g lines Q xs (λ y v u. keep y v (inr u)) (paxos_run g w (lines x)) (keep x w (inl refl) q))

-- where the lines of each bring something about that outlives those of the others, all of it is there in the end
pub each-stage : {A : Type 0} (g : Group) (lines : A → List Happening) (I : PaxosCommitWorld → Type 0) (P : A → PaxosCommitWorld → Type 0) (xs : List A)
    → ((x : A) (w : PaxosCommitWorld) → IsAmong x xs → I w → I (paxos_run g w (lines x)) × P x (paxos_run g w (lines x)))
    → ((x y : A) (w : PaxosCommitWorld) → IsAmong x xs → I w → P y w → P y (paxos_run g w (lines x)))
    → (w : PaxosCommitWorld) → I w → I (paxos_run g w (for_each lines xs)) × ((x : A) → IsAmong x xs → P x (paxos_run g w (for_each lines xs)))
each-stage g lines I P [] step keep w i = (i, λ x u. absurd u)
each-stage {A} g lines I P (x ∷ xs) step keep w i =
    subst (λ (v : PaxosCommitWorld). I v × ((y : A) → IsAmong y (x ∷ xs) → P y v)) (sym (run-each g lines x xs w))
    (all (each-stage g lines I P xs (λ y v u j. step y v (inr u) j) (λ y z v u j p. keep y z v (inr u) j p) (paxos_run g w (lines x))
    (step x w (inl refl) i).0))
  where
    first : P x (paxos_run g (paxos_run g w (lines x)) (for_each lines xs))
    first = (keep-each g lines (λ (v : PaxosCommitWorld). I v × P x v) xs (λ y v u q. ((step y v (inr u) q.0).0, keep y x v (inr u) q.0 q.1))
        (paxos_run g w (lines x)) (step x w (inl refl) i)).1

    all : I (paxos_run g (paxos_run g w (lines x)) (for_each lines xs))
        × ((y : A) → IsAmong y xs → P y (paxos_run g (paxos_run g w (lines x)) (for_each lines xs)))
        → I (paxos_run g (paxos_run g w (lines x)) (for_each lines xs))
        × ((y : A) → IsAmong y (x ∷ xs) → P y (paxos_run g (paxos_run g w (lines x)) (for_each lines xs)))
    all s = (s.0, one)
      where
        one : (y : A) → IsAmong y (x ∷ xs) → P y (paxos_run g (paxos_run g w (lines x)) (for_each lines xs))
        one y (inl e) = subst (λ (z : A). P z (paxos_run g (paxos_run g w (lines x)) (for_each lines xs))) (sym e) first
        one y (inr u) = s.1 y u

pub each-append : {A : Type 0} (lines : A → List Happening) (xs ys : List A) → for_each lines (xs ++ ys) ≡ for_each lines xs ++ for_each lines ys
each-append lines [] ys = refl
each-append lines (x ∷ xs) ys =
    ap (λ (z : List Happening). lines x ++ z) (each-append lines xs ys) ∙ sym (append_assoc (lines x) (for_each lines xs) (for_each lines ys))
