-- One change, and one message, more.
use Rattle.std.{specs.Prelude.map, proofs.Common.{◌≡◌, ℕ, List, [], ◌∷◌, ◌++◌, refl, sym, ap, ◌∙◌, append_assoc}}
use Rattle.spl_agree.specs.declared.{event.GroupChange.GroupChange, message.CommitMsg.CommitMsg}
use Rattle.spl_circuit.specs.Nodes.{NodeId}
use Rattle.spl_wire.specs.declared.{change.Change.Change, plan.Outgoing.Outgoing}
use Rattle.spl_cell_rules.specs.Plans.{Lane, outgoing, group_sends}

-- what is done to each of a list, after others
module _ {A B : Type 0} (of : List A → List B) (one : A → B) (none : of [] ≡ []) (some : (x : A) (xs : List A) → of (x ∷ xs) ≡ one x ∷ of xs) where
  last_more : (xs : List A) (x : A) → of (xs ++ x ∷ []) ≡ of xs ++ one x ∷ []
  last_more [] x = some x [] ∙ (ap (λ zs. one x ∷ zs) none ∙ ap (λ zs. zs ++ one x ∷ []) (sym none))
  last_more (y ∷ ys) x = some y (ys ++ x ∷ []) ∙ (ap (λ zs. one y ∷ zs) (last_more ys x) ∙ ap (λ zs. zs ++ one x ∷ []) (sym (some y ys)))

  more : (first : List B) (xs : List A) (x : A) → first ++ of (xs ++ x ∷ []) ≡ (first ++ of xs) ++ one x ∷ []
  more first xs x = ap (λ zs. first ++ zs) (last_more xs x) ∙ sym (append_assoc first (of xs) (one x ∷ []))

pub changes_more : {V : Type 0} (wrap : GroupChange V → Change) (first : List Change) (xs : List (GroupChange V)) (x : GroupChange V)
    → first ++ map wrap (xs ++ x ∷ []) ≡ (first ++ map wrap xs) ++ wrap x ∷ []
changes_more wrap = more (map wrap) wrap refl (λ x xs. refl)

pub sends_more : {V : Type 0} (lane : Lane V) (back : NodeId) (first : List Outgoing) (xs : List (ℕ × CommitMsg V)) (x : ℕ × CommitMsg V)
    → first ++ group_sends lane back (xs ++ x ∷ []) ≡ (first ++ group_sends lane back xs) ++ outgoing lane back x ∷ []
sends_more lane back = more (group_sends lane back) (outgoing lane back) refl (λ x xs. refl)
