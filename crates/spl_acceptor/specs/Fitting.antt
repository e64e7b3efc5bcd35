-- What a row of an acceptor writes.
use Rattle.std.{specs.Prelude.{IsTrue, nat_lt, not, ◌==◌, if◌then◌else◌}, proofs.Common.{◌≡◌, ℕ, Bool, true, false, ◌&&◌, None, Some, IfSome, refl}}
use Rattle.spl_agree.proofs.Tests.{if_holds}
use Rattle.spl_acceptor.specs.{Acceptors.orders_own, Processes.Acceptor, Records.{is_own, round_kept}, Rows.{is_leader_of, is_pair, may_order, acceptor_row}}
use Rattle.spl_acceptor.specs.{Steps.WritesIn, Worlds.round_of, declared.{group.Group.Group, message.{Name.Name, PaxosMsg.PaxosMsg}}}
use Rattle.spl_acceptor.specs.declared.record.PaxosRecord.{PaxosRecord}
use Rattle.spl_acceptor.specs.declared.message.PaxosMsg.TheVariants as msg
use Rattle.spl_acceptor.specs.declared.record.PaxosRecord.TheVariants as kept

unless : (P : PaxosRecord → Type 0) (c : Bool) (x : PaxosRecord) → P x → IfSome (if c then None else Some x) P
unless P true x p = tt
unless P false x p = p

pub acceptor_fits : (g : Group) (n : ℕ) (a : Acceptor) (from : Name) (m : PaxosMsg) → IsTrue (orders_own n m)
    → WritesIn (round_of m) n (acceptor_row g a from m)
acceptor_fits g n a from (msg.Ask k b) own = if_holds (WritesIn k n) (is_leader_of b from) _ _
    (λ q. if_holds (WritesIn k n) (nat_lt b a.promised) _ _ (λ t. tt)
    (λ t. unless (λ x. (round_kept x ≡ k) × IsTrue (is_own n x)) (a.promised == b) (kept.Promised k b) (refl, refl)))
    (λ q. tt)
acceptor_fits g n a from (msg.Accept k i b p) own = if_holds (WritesIn k n) (may_order i b from && not (nat_lt b a.promised)) _ _
    (λ q. unless (λ x. (round_kept x ≡ k) × IsTrue (is_own n x)) (a.promised == b && is_pair b p (a.accepted i)) (kept.Accepted k i b p) (refl, own)) (λ q. tt)
acceptor_fits g n a from (msg.Promise k b pairs) own = tt
acceptor_fits g n a from (msg.Higher k b) own = tt
acceptor_fits g n a from (msg.Accepted k i b p) own = tt
