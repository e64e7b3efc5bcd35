-- One step of a walk over services.
use Rattle.std.{specs.Str.bytes_eq, proofs.Common.{◌≡◌, ℕ, suc, ◌+◌, ◌<◌, ◌&&◌, Some, List, ◌∷◌, length, cond, get_or, drop, sym, ap, add-one, drop-cons}}
use Rattle.spl_circuit.specs.{Nodes.{Node, is_below}, Rules.{ascends_after, ids_of, service_of_node}, declared.definition.Service.Service}

pub ascends_more : (p : Node) (xs : List Service) (i : ℕ) (x : Service) → i < length xs → x ≡ get_or xs i x
    → ascends_after p (ids_of (drop i xs)) ≡ (is_below p x.id && ascends_after x.id (ids_of (drop (i + 1) xs)))
ascends_more p xs i x lt e = rw (add-one, drop-cons xs i x) (ap (λ y. ascends_after p (ids_of (y ∷ drop (suc i) xs))) (sym e))

pub services_more : (n : Node) (xs : List Service) (i : ℕ) (x : Service) → i < length xs → x ≡ get_or xs i x
    → service_of_node (drop i xs) n ≡ cond (bytes_eq x.node n) (Some x.id) (service_of_node (drop (i + 1) xs) n)
services_more n xs i x lt e = rw (add-one, drop-cons xs i x) (ap (λ y. service_of_node (y ∷ drop (suc i) xs) n) (sym e))
