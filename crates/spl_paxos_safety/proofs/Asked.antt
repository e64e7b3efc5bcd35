-- Each of some acceptors hears of a ballot, and answers.
use Rattle.std.{specs.Prelude.{Option, Some, None, nat_lt, ◌==◌}, proofs.Common.{◌≡◌, ◌≢◌, ℕ, ◌<◌, ◌≤◌, ◌⊎◌, Bool, true, List, [], ◌∷◌, ◌++◌, inl, inr, refl}}
use Rattle.std.proofs.Common.{sym, subst, ◌∙◌, ap}
use Rattle.spl_agree.proofs.Tests.{if_holds, if_true, ltb_is, eqb_is, eqb_other, put-other}
use Rattle.spl_acceptor.specs.{Processes.Acceptor, Rows.{PaxosPlan, acceptor, leader, is_leader_of, pledges, promises, decline_plan, on_ask}}
use Rattle.spl_acceptor.specs.{Rows.{acceptor_changed, acceptor_after}, Worlds.{PaxosCommitWorld, paxos_on_pair, message_at, paxos_posted, at_acceptor}}
use Rattle.spl_acceptor.specs.{Worlds.{Happening, Delivers, paxos_happens, paxos_run}, declared.{group.Group.Group, message.{Name.Name, PaxosMsg.PaxosMsg}}}
use Rattle.spl_acceptor.specs.declared.message.Pledge.{Pledge}
use Rattle.spl_acceptor.specs.declared.record.PaxosRecord.{PaxosRecord}
use Rattle.spl_acceptor.specs.declared.message.PaxosMsg.TheVariants as msg
use Rattle.spl_acceptor.specs.declared.record.PaxosRecord.TheVariants as kept
use Rattle.spl_paxos_safety.{specs.Settling.for_each, proofs.{Round.IsAmong, AcceptorRows.same_number, Said.Sends, Views.round-same, Lists.pair-append}}
use Rattle.spl_paxos_safety.proofs.{Lists.pair-one, Grows.{Grows, grows-self, grows-then, message-stays, hears-it, put_round-same, others-still, each-stage}}
use Rattle.spl_paxos_safety.proofs.Decisions.{put_round-holds}

-- an answer of an acceptor that promised q then
abbrev pub IsReply : ℕ → ℕ → ℕ → PaxosMsg → Type 0
IsReply r b q m = ((pairs : List Pledge) × (m ≡ msg.Promise r b pairs) × (q ≡ b)) ⊎ ((m ≡ msg.Higher r q) × (b < q))

-- the last message to the leader is such an answer
pub record Replied (l r b a : ℕ) (w : PaxosCommitWorld) : Type 0 where
  pub prefix : List PaxosMsg
  pub reply : PaxosMsg
  pub last : paxos_on_pair (acceptor a) (leader l) w.sent ≡ prefix ++ reply ∷ []
  pub says : IsReply r b (w.acceptor a r).promised reply

-- what stays while the acceptors hear of the ballot
pub record Asking (l r b most : ℕ) (those : List ℕ) (k : ℕ → ℕ) (start w : PaxosCommitWorld) : Type 0 where
  pub grows : Grows start w
  pub up : w.up ≡ start.up
  pub leaders : w.leader ≡ start.leader
  pub low : (a : ℕ) → IsAmong a those → (w.acceptor a r).promised ≤ most

-- a plan of an acceptor that sends one answer
answered : (l r b most a q : ℕ) (those : List ℕ) (k : ℕ → ℕ) (start w : PaxosCommitWorld) (p : PaxosPlan) (reply : PaxosMsg)
    → p.sends ≡ (leader l, reply) ∷ [] → (acceptor_after (w.acceptor a r) p).promised ≡ q → q ≤ most → IsReply r b q reply
    → Asking l r b most those k start w → Asking l r b most those k start (at_acceptor w a r p) × Replied l r b a (at_acceptor w a r p)
answered l r b most a q those k start w p reply sends new up says i = (
  record {
    grows = grows-then start w (at_acceptor w a r p) i.grows (paxos_posted (acceptor a) p.sends, refl);
    up = i.up;
    leaders = i.leaders;
    low = λ c u. put_round-holds (λ (c n : ℕ) (z : Acceptor). n ≡ r → IsAmong c those → z.promised ≤ most) w.acceptor a r
        (acceptor_after (w.acceptor a r) p) c r
        (λ e v. subst (λ (z : ℕ). z ≤ most) (sym new) up) (λ e v. i.low c v) refl u;
  },
  record {
    prefix = paxos_on_pair (acceptor a) (leader l) w.sent;
    reply = reply;
    last = pair-append (acceptor a) (leader l) w.sent (paxos_posted (acceptor a) p.sends)
        ∙ ap (λ (z : Sends). paxos_on_pair (acceptor a) (leader l) w.sent ++ paxos_on_pair (acceptor a) (leader l) (paxos_posted (acceptor a) z)) sends
        ∙ ap (λ (z : List PaxosMsg). paxos_on_pair (acceptor a) (leader l) w.sent ++ z) (pair-one (acceptor a) (leader l) reply);
    says = subst (λ (z : Acceptor). IsReply r b z.promised reply) (sym (put_round-same w.acceptor a r (acceptor_after (w.acceptor a r) p)))
        (subst (λ (z : ℕ). IsReply r b z reply) (sym new) says);
  },
)

ask-heard : (g : Group) (l r b most a : ℕ) (those : List ℕ) (k : ℕ → ℕ) (start w : PaxosCommitWorld) → is_leader_of b (leader l) ≡ true → b ≤ most
    → IsAmong a those → Asking l r b most those k start w
    → Asking l r b most those k start (at_acceptor w a r (on_ask g (w.acceptor a r) (leader l) r b))
    × Replied l r b a (at_acceptor w a r (on_ask g (w.acceptor a r) (leader l) r b))
ask-heard g l r b most a those k start w own low u i = if_true P (is_leader_of b (leader l)) _ _ own
    (if_holds P (nat_lt b (w.acceptor a r).promised) _ _
    (λ q. answered l r b most a (w.acceptor a r).promised those k start w (decline_plan (w.acceptor a r) (leader l) r)
    (msg.Higher r (w.acceptor a r).promised) refl refl (i.low a u) (inr (refl, ltb_is b (w.acceptor a r).promised q)) i)
    (λ q. answered l r b most a b those k start w (promises g (w.acceptor a r) (leader l) r b)
    (msg.Promise r b (pledges g.members (w.acceptor a r).accepted)) refl new low (inl (pledges g.members (w.acceptor a r).accepted, refl, refl)) i))
  where
    P : PaxosPlan → Type 0
    P p = Asking l r b most those k start (at_acceptor w a r p) × Replied l r b a (at_acceptor w a r p)

    new : (acceptor_after (w.acceptor a r) (promises g (w.acceptor a r) (leader l) r b)).promised ≡ b
    new = if_holds (λ (c : Option PaxosRecord). (acceptor_changed (w.acceptor a r) c).promised ≡ b) ((w.acceptor a r).promised == b) None
        (Some (kept.Promised r b)) (λ q. eqb_is (w.acceptor a r).promised b q) (λ q. refl)

-- another acceptor's answer stays the last one
replied-stays : (l r b a c : ℕ) (w : PaxosCommitWorld) (p : PaxosPlan) → c ≢ a → Replied l r b c w → Replied l r b c (at_acceptor w a r p)
replied-stays l r b a c w p d x = record {
  prefix = x.prefix;
  reply = x.reply;
  last = others-still w (acceptor c) (leader l) (acceptor a) p.sends (eqb_other a c (λ e. d (sym e))) ∙ x.last;
  says = subst (λ (z : Acceptor). IsReply r b z.promised x.reply)
      (sym (round-same w.acceptor a r (acceptor_after (w.acceptor a r) p) c
      ∙ put-other (λ (j : ℕ). w.acceptor j r) a (acceptor_after (w.acceptor a r) p) c d)) x.says;
}

abbrev ask_line : ℕ → (ℕ → ℕ) → ℕ → List Happening
ask_line l k a = Delivers (leader l) (acceptor a) (k a) ∷ []

-- each of them answers
pub asks-stage : (g : Group) (l r b most : ℕ) (those : List ℕ) (k : ℕ → ℕ) (start : PaxosCommitWorld) → is_leader_of b (leader l) ≡ true → b ≤ most
    → ((a : ℕ) → IsAmong a those → start.up (acceptor a) ≡ true)
    → ((a : ℕ) → IsAmong a those → message_at start (leader l) (acceptor a) (k a) ≡ Some (msg.Ask r b))
    → ((a : ℕ) → IsAmong a those → (start.acceptor a r).promised ≤ most)
    → Asking l r b most those k start (paxos_run g start (for_each (λ a. Delivers (leader l) (acceptor a) (k a) ∷ []) those))
    × ((a : ℕ) → IsAmong a those → Replied l r b a (paxos_run g start (for_each (λ a. Delivers (leader l) (acceptor a) (k a) ∷ []) those)))
asks-stage g l r b most those k start own top up asked low =
    each-stage g (ask_line l k) (Asking l r b most those k start) (Replied l r b) those step keep start
    (record { grows = grows-self start; up = refl; leaders = refl; low = low })
  where
    heard-now : (a : ℕ) (w : PaxosCommitWorld) → IsAmong a those → Asking l r b most those k start w
        → paxos_happens g w (Delivers (leader l) (acceptor a) (k a)) ≡ at_acceptor w a r (on_ask g (w.acceptor a r) (leader l) r b)
    heard-now a w u i =
        hears-it g w (leader l) (acceptor a) (k a) (msg.Ask r b) (ap (λ (f : Name → Bool). f (acceptor a)) i.up ∙ up a u)
        (message-stays start w (leader l) (acceptor a) (k a) (msg.Ask r b) i.grows (asked a u))

    step : (a : ℕ) (w : PaxosCommitWorld) → IsAmong a those → Asking l r b most those k start w
        → Asking l r b most those k start (paxos_run g w (ask_line l k a)) × Replied l r b a (paxos_run g w (ask_line l k a))
    step a w u i =
        subst (λ (v : PaxosCommitWorld). Asking l r b most those k start v × Replied l r b a v) (sym (heard-now a w u i))
        (ask-heard g l r b most a those k start w own top u i)

    keep : (a c : ℕ) (w : PaxosCommitWorld) → IsAmong a those → Asking l r b most those k start w → Replied l r b c w
        → Replied l r b c (paxos_run g w (ask_line l k a))
    keep a c w u i x = go (same_number c a)
      where
        go : (c ≡ a) ⊎ (c ≢ a) → Replied l r b c (paxos_run g w (ask_line l k a))
        go (inl e) = subst (λ (z : ℕ). Replied l r b z (paxos_run g w (ask_line l k a))) (sym e) (step a w u i).1
        go (inr d) = subst (Replied l r b c) (sym (heard-now a w u i)) (replied-stays l r b a c w (on_ask g (w.acceptor a r) (leader l) r b) d x)
