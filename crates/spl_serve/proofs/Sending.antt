-- Messages that can be sent.
use Rattle.std.proofs.Common.{◌≡◌, ℕ, ◌<◌, List, [], ◌∷◌, length, get_or, zero, suc, sym, subst, arith}
use Rattle.spl_wire.specs.{Bounds.{AllSendable, IsSendable}, declared.plan.Outgoing.Outgoing}

pub sendable_at : (os : List Outgoing) (i : ℕ) (o : Outgoing) → i < length os → o ≡ get_or os i o → AllSendable os → IsSendable o.message
sendable_at [] i o below is h = absurd (omega arith)
sendable_at (x ∷ os) zero o below is h = subst (λ (y : Outgoing). IsSendable y.message) (sym is) h.0
sendable_at (x ∷ os) (suc i) o below is h = sendable_at os i o (omega arith) is h.1
