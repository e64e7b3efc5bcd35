-- Deeds that leave a group as it is.
use Rattle.std.{specs.{Prelude.{Option, None, ◌==◌}, Str.bytes_eq}, proofs.Common.{◌≡◌, ℕ, false, not, ◌&&◌, List, [], refl, ap, ◌∙◌}}
use Rattle.spl_cell_rules.specs.Cells.{site_at, Cell, Held, Deed, Refuses, Tells, Replies, can_bind, asked_first, forwarded_first, hears_first, Bound}
use Rattle.spl_cell_rules.{specs.{Batches.serves_other, Plans.planned}, proofs.Does.held-cannot}
use Rattle.spl_circuit_world.proofs.Unmoved.{moved-keep}
use Rattle.spl_agree.{specs.{Member.Member, Fits.generation_of, declared.message.CommitMsg.CommitMsg}, proofs.Tests.{if_holds, and_left, and_right}}
use Rattle.spl_agree.specs.declared.message.CommitMsg.TheVariants as msg
use Rattle.spl_circuit.specs.{Nodes.{NodeId, CircuitId, ServiceId}, Rules.{admin, is_member}, declared.act.{Act.Act, ActKind.ActKind}}
use Rattle.spl_circuit.specs.declared.definition.Definition.{Definition}
use Rattle.spl_circuit.specs.declared.act.ActKind.TheVariants as kind
use Rattle.spl_command.specs.declared.batch.Batch.{Batch}
use Rattle.spl_wire.specs.declared.message.Message.{Message}
use Rattle.spl_wire.specs.declared.message.Message.TheVariants as message
use Rattle.spl_circuit_safety.proofs.GroupOfDefinition.{There}
use Rattle.spl_circuit_liveness.proofs.Shapes.{Shape, owned, owns, Gives}

-- nothing changes, and nothing of the group is sent
abbrev pub IsIdle : {V : Type 0} → Shape V → Definition → NodeId → Deed → Type 0
IsIdle s d n (Refuses r) = Unit {0}
IsIdle s d n (Tells a) = Unit {0}
IsIdle s d n (Replies note to m) = (y : NodeId) → s.own d n y m ≡ None
IsIdle s d n _ = ⊥

-- a cell stays
pub gives-still : {V : Type 0} (s : Shape V) (d : Definition) (c : CircuitId) (n : NodeId) (k : Cell) (m : Member V) (deed : Deed) → IsIdle s d n deed
    → s.stand k ≡ There d m → Gives s d n k (planned (site_at n c) deed) m []
gives-still {V} s d c n k m (Replies note to x) idle is = record {
  stands = ap s.stand (moved-keep n k) ∙ is;
  sends = λ y h e. if_holds (λ (z : List Message). owns (s.own d n y) z ≡ []) (bytes_eq to y) _ _
      (λ q. ap (λ (o : Option (CommitMsg V)). owned o []) (idle y)) (λ q. refl);
}
gives-still {V} s d c n k m (Refuses r) idle is = record { stands = ap s.stand (moved-keep n k) ∙ is; sends = λ y h e. refl }
gives-still {V} s d c n k m (Tells a) idle is = record { stands = ap s.stand (moved-keep n k) ∙ is; sends = λ y h e. refl }
gives-still s d c n k m _ idle is = absurd idle

-- a reply to a message of acts is one of its generation
abbrev pub Declines : {V : Type 0} → Shape V → Definition → NodeId → NodeId → ℕ → Type 0
Declines {V} s d n c gen = (y : NodeId) (x : CommitMsg Act) → generation_of x ≡ gen → s.own d n y (message.Admin c x) ≡ None

-- a message of acts at a bound cell that takes no part in its generation
pub idle-asked : {V : Type 0} (s : Shape V) (d : Definition) (n : NodeId) (c : CircuitId) (b : Bound) (from : NodeId) (gen r place : ℕ) (v : Act)
    (w : ActKind) → Declines s d n c gen → IsIdle s d n (asked_first (site_at n c) (Held b) from gen r place v w)
idle-asked {V} s d n c b from gen r place v (kind.Propose f) h =
    if_holds (IsIdle s d n) (place == 0 && (can_bind (site_at n c) (Held b) gen f && bytes_eq (admin f) from)) _ _
    (λ q. absurd (held-cannot (site_at n c) b gen f (and_left (can_bind (site_at n c) (Held b) gen f) _ (and_right (place == 0) _ q))))
    (λ q y. h y (msg.Vote gen r false) refl)
idle-asked s d n c b from gen r place v kind.Accept h = λ y. h y (msg.Vote gen r false) refl
idle-asked s d n c b from gen r place v _ h = λ y. h y (msg.Vote gen r false) refl

pub idle-forwarded : {V : Type 0} (s : Shape V) (d : Definition) (n : NodeId) (c : CircuitId) (b : Bound) (from : NodeId) (gen : ℕ) (v : Act) (w : ActKind)
    → Declines s d n c gen → IsIdle s d n (forwarded_first (site_at n c) (Held b) from gen v w)
idle-forwarded {V} s d n c b from gen v (kind.Propose f) h =
    if_holds (IsIdle s d n) (can_bind (site_at n c) (Held b) gen f
    && (bytes_eq (admin f) n && (bytes_eq v.node from && (is_member f from && not (bytes_eq from n))))) _ _
    (λ q. absurd (held-cannot (site_at n c) b gen f (and_left (can_bind (site_at n c) (Held b) gen f) _ q)))
    (λ q y. h y (msg.Refused gen v _) refl)
idle-forwarded s d n c b from gen v kind.Accept h = tt
idle-forwarded s d n c b from gen v _ h = tt

pub idle-first : {V : Type 0} (s : Shape V) (d : Definition) (n : NodeId) (c : CircuitId) (b : Bound) (from : NodeId) (x : CommitMsg Act)
    → Declines s d n c (generation_of x) → IsIdle s d n (hears_first (site_at n c) (Held b) from x)
idle-first s d n c b from (msg.VoteRequest gen r place v) h = idle-asked s d n c b from gen r place v v.kind h
idle-first s d n c b from (msg.Forward gen v) h = idle-forwarded s d n c b from gen v v.kind h
idle-first s d n c b from _ h = tt

-- a message of batches of another generation
pub idle-other : {V : Type 0} (s : Shape V) (d : Definition) (n : NodeId) (c : CircuitId) (from : NodeId) (i t : ServiceId) (x : CommitMsg Batch)
    → ((y : NodeId) (z : CommitMsg Batch) → generation_of z ≡ generation_of x → s.own d n y (message.Scabbard c t i z) ≡ None)
    → IsIdle s d n (serves_other (site_at n c) from i t x)
idle-other s d n c from i t (msg.VoteRequest gen r place v) h = λ y. h y (msg.Vote gen r false) refl
idle-other s d n c from i t _ h = tt
