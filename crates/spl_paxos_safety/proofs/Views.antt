-- What a plan that is carried out leaves of each round.
use Rattle.std.{specs.Prelude.{List, ◌++◌}, proofs.{Common.{◌≡◌, ◌≢◌, ℕ, refl, sym, ◌∙◌, ap}, Math.Path.fun_ext}}
use Rattle.spl_agree.{specs.World.put, proofs.Tests.{put-same, put-other}}
use Rattle.spl_acceptor.specs.{Processes.{Acceptor, VotingMember, Leader}, Rows.{PaxosPlan, acceptor_after, member_after, leader_after}}
use Rattle.spl_acceptor.specs.Worlds.{PaxosCommitWorld, put_round, paxos_posted, at_member, at_acceptor, at_leader, forget}
use Rattle.spl_acceptor.specs.declared.{kind.TheConstants.{MEMBER, ACCEPTOR, LEADER}, message.Name.Name}
use Rattle.spl_paxos_safety.proofs.{Round.{Message, Round, with_member, with_acceptor, with_leader, seen, in_round}, Tests.put_holds, Said.{Sends, AllOf}}
use Rattle.spl_paxos_safety.proofs.Said.{seen-append, seen-other}

-- in its round
pub round-same : {S : Type 0} (f : ℕ → ℕ → S) (h r : ℕ) (s : S) (i : ℕ) → put_round f h r s i r ≡ put (λ (j : ℕ). f j r) h s i
unfolding put_round
round-same {S} f h r s i = put_holds (λ (i : ℕ) (z : ℕ → S). z r ≡ put (λ (j : ℕ). f j r) h s i) f h (put (f h) r s) i
    (put-same (f h) r s ∙ sym (put-same (λ (j : ℕ). f j r) h s))
    (λ n. sym (put-other (λ (j : ℕ). f j r) h s i n))

-- in another
pub round-other : {S : Type 0} (f : ℕ → ℕ → S) (h k : ℕ) (s : S) (i r : ℕ) → r ≢ k → put_round f h k s i r ≡ f i r
unfolding put_round
round-other {S} f h k s i r d = put_holds (λ (i : ℕ) (z : ℕ → S). z r ≡ f i r) f h (put (f h) k s) i (put-other (f h) k s r d) (λ n. refl)

pub forget-is : {S : Type 0} (stop : S → S) (f : ℕ → ℕ → S) (h r i : ℕ) → forget stop f h i r ≡ put (λ (j : ℕ). f j r) h (stop (f h r)) i
unfolding forget
forget-is {S} stop f h r i = put_holds (λ (i : ℕ) (z : ℕ → S). z r ≡ put (λ (j : ℕ). f j r) h (stop (f h r)) i) f h (λ (k : ℕ). stop (f h k)) i
    (sym (put-same (λ (j : ℕ). f j r) h (stop (f h r))))
    (λ n. sym (put-other (λ (j : ℕ). f j r) h (stop (f h r)) i n))

pub view-member : (r : ℕ) (w : PaxosCommitWorld) (h : ℕ) (p : PaxosPlan)
    → in_round r (at_member w h r p)
    ≡ with_member (in_round r w) h (member_after (w.member h r) p) (seen r (paxos_posted (record { kind = MEMBER; number = h }) p.sends))
view-member r w h p =
    ap (λ (f : ℕ → VotingMember). made f (seen r (w.sent ++ paxos_posted (record { kind = MEMBER; number = h }) p.sends)))
    (fun_ext (round-same w.member h r (member_after (w.member h r) p)))
    ∙ ap (made (put (λ (i : ℕ). w.member i r) h (member_after (w.member h r) p)))
    (seen-append r w.sent (paxos_posted (record { kind = MEMBER; number = h }) p.sends))
  where
    made : (ℕ → VotingMember) → List Message → Round
    made f sent = record { member = f; acceptor = λ a. w.acceptor a r; leader = λ l. w.leader l r; sent = sent }

pub view-acceptor : (r : ℕ) (w : PaxosCommitWorld) (h : ℕ) (p : PaxosPlan)
    → in_round r (at_acceptor w h r p)
    ≡ with_acceptor (in_round r w) h (acceptor_after (w.acceptor h r) p) (seen r (paxos_posted (record { kind = ACCEPTOR; number = h }) p.sends))
view-acceptor r w h p =
    ap (λ (f : ℕ → Acceptor). made f (seen r (w.sent ++ paxos_posted (record { kind = ACCEPTOR; number = h }) p.sends)))
    (fun_ext (round-same w.acceptor h r (acceptor_after (w.acceptor h r) p)))
    ∙ ap (made (put (λ (i : ℕ). w.acceptor i r) h (acceptor_after (w.acceptor h r) p)))
    (seen-append r w.sent (paxos_posted (record { kind = ACCEPTOR; number = h }) p.sends))
  where
    made : (ℕ → Acceptor) → List Message → Round
    made f sent = record { member = λ i. w.member i r; acceptor = f; leader = λ l. w.leader l r; sent = sent }

pub view-leader : (r : ℕ) (w : PaxosCommitWorld) (h : ℕ) (p : PaxosPlan)
    → in_round r (at_leader w h r p)
    ≡ with_leader (in_round r w) h (leader_after (w.leader h r) p) (seen r (paxos_posted (record { kind = LEADER; number = h }) p.sends))
view-leader r w h p =
    ap (λ (f : ℕ → Leader). made f (seen r (w.sent ++ paxos_posted (record { kind = LEADER; number = h }) p.sends)))
    (fun_ext (round-same w.leader h r (leader_after (w.leader h r) p)))
    ∙ ap (made (put (λ (i : ℕ). w.leader i r) h (leader_after (w.leader h r) p)))
    (seen-append r w.sent (paxos_posted (record { kind = LEADER; number = h }) p.sends))
  where
    made : (ℕ → Leader) → List Message → Round
    made f sent = record { member = λ i. w.member i r; acceptor = λ a. w.acceptor a r; leader = f; sent = sent }

-- another round stays as it was
seen-still : (r k : ℕ) (w : PaxosCommitWorld) (n : Name) (sends : Sends) → k ≢ r → AllOf k sends → seen r (w.sent ++ paxos_posted n sends) ≡ seen r w.sent
seen-still r k w n sends d all = seen-append r w.sent (paxos_posted n sends) ∙ ap (λ (xs : List Message). xs ++ seen r w.sent) (seen-other r k n sends d all)

pub still-member : (r k : ℕ) (w : PaxosCommitWorld) (h : ℕ) (p : PaxosPlan) → k ≢ r → AllOf k p.sends → in_round r (at_member w h k p) ≡ in_round r w
still-member r k w h p d all =
    ap (λ (f : ℕ → VotingMember). made f (seen r (w.sent ++ paxos_posted (record { kind = MEMBER; number = h }) p.sends)))
    (fun_ext (λ (i : ℕ). round-other w.member h k (member_after (w.member h k) p) i r (λ e. d (sym e))))
    ∙ ap (made (λ (i : ℕ). w.member i r)) (seen-still r k w (record { kind = MEMBER; number = h }) p.sends d all)
  where
    made : (ℕ → VotingMember) → List Message → Round
    made f sent = record { member = f; acceptor = λ a. w.acceptor a r; leader = λ l. w.leader l r; sent = sent }

pub still-acceptor : (r k : ℕ) (w : PaxosCommitWorld) (h : ℕ) (p : PaxosPlan) → k ≢ r → AllOf k p.sends → in_round r (at_acceptor w h k p) ≡ in_round r w
still-acceptor r k w h p d all =
    ap (λ (f : ℕ → Acceptor). made f (seen r (w.sent ++ paxos_posted (record { kind = ACCEPTOR; number = h }) p.sends)))
    (fun_ext (λ (i : ℕ). round-other w.acceptor h k (acceptor_after (w.acceptor h k) p) i r (λ e. d (sym e))))
    ∙ ap (made (λ (i : ℕ). w.acceptor i r)) (seen-still r k w (record { kind = ACCEPTOR; number = h }) p.sends d all)
  where
    made : (ℕ → Acceptor) → List Message → Round
    made f sent = record { member = λ i. w.member i r; acceptor = f; leader = λ l. w.leader l r; sent = sent }

pub still-leader : (r k : ℕ) (w : PaxosCommitWorld) (h : ℕ) (p : PaxosPlan) → k ≢ r → AllOf k p.sends → in_round r (at_leader w h k p) ≡ in_round r w
still-leader r k w h p d all =
    ap (λ (f : ℕ → Leader). made f (seen r (w.sent ++ paxos_posted (record { kind = LEADER; number = h }) p.sends)))
    (fun_ext (λ (i : ℕ). round-other w.leader h k (leader_after (w.leader h k) p) i r (λ e. d (sym e))))
    ∙ ap (made (λ (i : ℕ). w.leader i r)) (seen-still r k w (record { kind = LEADER; number = h }) p.sends d all)
  where
    made : (ℕ → Leader) → List Message → Round
    made f sent = record { member = λ i. w.member i r; acceptor = λ a. w.acceptor a r; leader = f; sent = sent }
