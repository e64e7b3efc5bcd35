-- The orders of the last of the members.
use Rattle.std.proofs.{Common.{◌≡◌, ◌≢◌, ℕ, zero, suc, ◌-◌, Bool, List, [], ◌∷◌, ◌++◌, refl, sym, ◌∙◌, ap, append_assoc, arith}, lemmas.List.append-nil}
use Rattle.spl_acceptor.specs.{Quorums.numbers, Rows.{orders, to_acceptors}, declared.{group.Group.Group, message.{Name.Name, PaxosMsg.PaxosMsg}}}
use Rattle.spl_acceptor.specs.declared.message.PaxosMsg.TheVariants as msg

module _ (g : Group) (r b : ℕ) (chosen : ℕ → Bool) where
  orders-append : (is js : List ℕ) → orders g r b chosen (is ++ js) ≡ orders g r b chosen is ++ orders g r b chosen js
  orders-append [] js = refl
  orders-append (i ∷ is) js =
      let first = to_acceptors g (msg.Accept r i b (chosen i)) in
      ap (λ (z : List (Name × PaxosMsg)). first ++ z) (orders-append is js) ∙ sym (append_assoc first (orders g r b chosen is) (orders g r b chosen js))

  pub orders-last : (n : ℕ) → n ≢ 0 → orders g r b chosen (numbers n) ≡ orders g r b chosen (numbers (n - 1)) ++ to_acceptors g (msg.Accept r n b (chosen n))
  orders-last zero d = absurd (d refl)
  orders-last (suc n) d =
      let last = to_acceptors g (msg.Accept r (suc n) b (chosen (suc n))) in
      let e : n ≡ suc n - 1 = omega arith in
      orders-append (numbers n) (suc n ∷ [])
      ∙ ap (λ (z : List (Name × PaxosMsg)). orders g r b chosen (numbers n) ++ z) (append-nil last)
      ∙ ap (λ (k : ℕ). orders g r b chosen (numbers k) ++ last) e
