-- What a plan sends.
use Rattle.std.proofs.Common.{ℕ, false, List, [], ◌∷◌}
use Rattle.spl_agree.specs.{Rows.{to_each, abort_each}, declared.{message.CommitMsg.CommitMsg, reason.Reason.Reason}}
use Rattle.spl_agree.specs.declared.message.CommitMsg.TheVariants as msg

abbrev pub AllSends : {V : Type 0} → (CommitMsg V → Type 0) → List (ℕ × CommitMsg V) → Type 0
AllSends P [] = Unit {0}
AllSends P (s ∷ ss) = P s.1 × AllSends P ss

pub sends-to_each : {V : Type 0} (P : CommitMsg V → Type 0) (m : CommitMsg V) (is : List ℕ) → P m → AllSends P (to_each m is)
sends-to_each P m [] p = tt
sends-to_each P m (i ∷ is) p = (p, sends-to_each P m is p)

pub sends-abort_each : {V : Type 0} (P : CommitMsg V → Type 0) (gen r : ℕ) (v : V) (reason : Reason) (is : List ℕ) → P (msg.Decision gen r false)
    → P (msg.Refused gen v reason) → AllSends P (abort_each gen r v reason is)
sends-abort_each P gen r v reason [] p q = tt
sends-abort_each P gen r v reason (i ∷ is) p q = (p, (q, sends-abort_each P gen r v reason is p q))
