-- An ask that isn't below what was promised.
use Rattle.std.{specs.Prelude.nat_lt, proofs.Common.{◌≡◌, ℕ, true, false, refl}}
use Rattle.spl_agree.proofs.Tests.{if_true, if_false}
use Rattle.spl_acceptor.specs.{Processes.Acceptor, Rows.{PaxosPlan, is_leader_of, on_ask, promises}, declared.{group.Group.Group, message.Name.Name}}

pub ask-promises : (g : Group) (a : Acceptor) (from : Name) (r b : ℕ) → is_leader_of b from ≡ true → nat_lt b a.promised ≡ false
    → on_ask g a from r b ≡ promises g a from r b
ask-promises g a from r b led low = if_true (λ (p : PaxosPlan). p ≡ promises g a from r b) (is_leader_of b from) _ _ led
    (if_false (λ (p : PaxosPlan). p ≡ promises g a from r b) (nat_lt b a.promised) _ _ low refl)
