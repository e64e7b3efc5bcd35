-- What the rows of a member and a leader write, and what a stop leaves of it.
use Rattle.std.{specs.Prelude.{◌==◌, nat_lt, is_none, is_some}, proofs.Common.{◌≡◌, ◌∙◌, ℕ, false, ◌&&◌, List, ◌∷◌, Option, None, Some, refl}}
use Rattle.spl_agree.{specs.World.put, proofs.Tests.if_holds}
use Rattle.spl_acceptor.specs.{Processes.{Pairs, PaxosBallot, VotingMember, Leader, stopped_member, stopped_leader}, Quorums.{all_within, has_quorum}}
use Rattle.spl_acceptor.specs.{Records.{member_with, leader_with, recorded_if_any}, Rows.{Move, Keep, Count, Begin, Hear, Close, PaxosPlan}}
use Rattle.spl_acceptor.specs.Rows.{is_chosen, is_prepared, has_accepted, on_accepted, member_row, pair_among, counts_promise, on_promise, leader_row}
use Rattle.spl_acceptor.specs.{Rows.{member_changed, member_moved, member_after, leader_changed, leader_moved, leader_after}, Steps.WritesIn, Worlds.round_of}
use Rattle.spl_acceptor.specs.declared.{group.Group.Group, message.{Acceptance.Acceptance, Name.Name, PaxosMsg.PaxosMsg}}
use Rattle.spl_acceptor.specs.declared.record.PaxosRecord.{PaxosRecord}
use Rattle.spl_acceptor.specs.declared.message.PaxosMsg.TheVariants as msg
use Rattle.spl_acceptor.specs.declared.record.PaxosRecord.TheVariants as kept

-- ---- a member

accepted_writes : (g : Group) (n k : ℕ) (x : Acceptance) (counted : List Acceptance) → WritesIn k n (on_accepted g k x counted)
accepted_writes g n k x counted = if_holds (WritesIn k n) (is_chosen g (x ∷ counted) x.member x.ballot false) _ _ (λ q. (refl, refl))
    (λ q. if_holds (WritesIn k n) (all_within g.members (is_prepared g (x ∷ counted))) _ _ (λ t. (refl, refl))
    (λ t. if_holds (WritesIn k n) (has_accepted counted x.member x.ballot x.prepared x.acceptor) _ _ (λ z. tt) (λ z. tt)))

pub member_writes : (g : Group) (n : ℕ) (m : VotingMember) (from : Name) (x : PaxosMsg) → WritesIn (round_of x) n (member_row g m from x)
member_writes g n m from (msg.Accepted k i b p) =
    if_holds (WritesIn k n) (is_some m.decision) _ _ (λ q. tt)
    (λ q. accepted_writes g n k (record { acceptor = from.number; member = i; ballot = b; prepared = p }) m.counted)
member_writes g n m from (msg.Ask k b) = tt
member_writes g n m from (msg.Accept k i b p) = tt
member_writes g n m from (msg.Promise k b pairs) = tt
member_writes g n m from (msg.Higher k b) = tt

pub member_lasts : (m : VotingMember) (p : PaxosPlan) → stopped_member (member_after m p) ≡ recorded_if_any member_with (stopped_member m) p.change
member_lasts m p = moved (member_changed m p.change) p.move ∙ changed p.change
  where
    moved : (k : VotingMember) (v : Move) → stopped_member (member_moved k v) ≡ stopped_member k
    moved k Keep = refl
    moved k (Count x) = refl
    moved k (Begin b) = refl
    moved k (Hear a pairs) = refl
    moved k Close = refl

    changed : (o : Option PaxosRecord) → stopped_member (member_changed m o) ≡ recorded_if_any member_with (stopped_member m) o
    changed None = refl
    changed (Some (kept.Voted r aye)) = refl
    changed (Some (kept.Decided r commit)) = refl
    changed (Some (kept.Promised r b)) = refl
    changed (Some (kept.Accepted r i b p)) = refl
    changed (Some (kept.Used r b)) = refl

pub member_alike : (m : VotingMember) (x : PaxosRecord) → stopped_member (member_with m x) ≡ member_with (stopped_member m) x
member_alike m (kept.Voted r aye) = refl
member_alike m (kept.Decided r commit) = refl
member_alike m (kept.Promised r b) = refl
member_alike m (kept.Accepted r i b p) = refl
member_alike m (kept.Used r b) = refl

-- ---- a leader

promise_writes : (g : Group) (n : ℕ) (o : Option PaxosBallot) (r a b : ℕ) (pairs : Pairs) → WritesIn r n (on_promise g o r a b pairs)
promise_writes g n None r a b pairs = tt
promise_writes g n (Some o) r a b pairs =
    if_holds (WritesIn r n) (o.number == b && is_none (o.promises a)) _ _ (λ q. counted (put o.promises a (Some pairs))) (λ q. tt)
  where
    counted : (heard : ℕ → Option Pairs) → WritesIn r n (counts_promise g r b a pairs heard)
    counted heard = if_holds (WritesIn r n) (has_quorum g.faults (λ (c : ℕ). is_some (heard c))) _ _ (λ t. tt) (λ t. tt)

pub leader_writes : (g : Group) (n : ℕ) (l : Leader) (from : Name) (x : PaxosMsg) → WritesIn (round_of x) n (leader_row g l from x)
leader_writes g n l from (msg.Promise k b pairs) = promise_writes g n l.opened k from.number b (pair_among pairs)
leader_writes g n l from (msg.Higher k b) = if_holds (WritesIn k n) (nat_lt l.used b) _ _ (λ q. (refl, refl)) (λ q. tt)
leader_writes g n l from (msg.Ask k b) = tt
leader_writes g n l from (msg.Accept k i b p) = tt
leader_writes g n l from (msg.Accepted k i b p) = tt

pub leader_lasts : (l : Leader) (p : PaxosPlan) → stopped_leader (leader_after l p) ≡ recorded_if_any leader_with (stopped_leader l) p.change
leader_lasts l p = moved (leader_changed l p.change) p.move ∙ changed p.change
  where
    moved : (k : Leader) (v : Move) → stopped_leader (leader_moved k v) ≡ stopped_leader k
    moved k Keep = refl
    moved k (Count x) = refl
    moved k (Begin b) = refl
    moved k (Hear a pairs) = refl
    moved k Close = refl

    changed : (o : Option PaxosRecord) → stopped_leader (leader_changed l o) ≡ recorded_if_any leader_with (stopped_leader l) o
    changed None = refl
    changed (Some (kept.Used r b)) = refl
    changed (Some (kept.Promised r b)) = refl
    changed (Some (kept.Accepted r i b p)) = refl
    changed (Some (kept.Voted r aye)) = refl
    changed (Some (kept.Decided r commit)) = refl

pub leader_alike : (l : Leader) (x : PaxosRecord) → stopped_leader (leader_with l x) ≡ leader_with (stopped_leader l) x
leader_alike l (kept.Used r b) = refl
leader_alike l (kept.Promised r b) = refl
leader_alike l (kept.Accepted r i b p) = refl
leader_alike l (kept.Voted r aye) = refl
leader_alike l (kept.Decided r commit) = refl
