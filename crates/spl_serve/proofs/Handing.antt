-- What is handed out, slot by slot.
use Rattle.std.{specs.{Prelude.{ℕ, map}, List.AllByRecursion}, proofs.Common.{◌≡◌, List, ◌∷◌, ◌++◌, Option, sym, ◌∙◌, ap, subst, append_assoc}}
use Rattle.spl_node.specs.{Turns.{MayBeSent, given_in}, declared.node.Outcome.Outcome}
use Rattle.spl_serve.specs.{Servers.handed, Turns.given_out, declared.{outside.Departure.Departure, turn.Slot.Slot}}
use Rattle.spl_serve.specs.declared.turn.Slot.TheVariants as slot

-- the first of what events gave can be sent, and so can the rest
pub sent_first : (gs left : List Outcome) (o : Outcome) → gs ≡ o ∷ left → AllByRecursion MayBeSent gs → MayBeSent o × AllByRecursion MayBeSent left
sent_first gs left o is all = subst (AllByRecursion MayBeSent) is all

pub handed_event : (out more : List Departure) (caller : Option ℕ) (o : Outcome) (ss rest : List Slot) (gs left : List Outcome) (whole : List Departure)
    → ss ≡ slot.Event caller ∷ rest → gs ≡ o ∷ left → more ≡ out ++ given_out caller (given_in o)
    → out ++ handed ss (map given_in gs) ≡ whole → more ++ handed rest (map given_in left) ≡ whole
handed_event out more caller o ss rest gs left whole first given is was =
    ap (λ (ds : List Departure). ds ++ handed rest (map given_in left)) is
    ∙ append_assoc out (given_out caller (given_in o)) (handed rest (map given_in left))
    ∙ sym (ap (λ (xs : List Slot). out ++ handed xs (map given_in gs)) first
    ∙ ap (λ (os : List Outcome). out ++ handed (slot.Event caller ∷ rest) (map given_in os)) given)
    ∙ was
