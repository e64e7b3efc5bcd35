-- The first service of an id, service by service.
use Rattle.std.{specs.{Prelude.Some, Str.bytes_eq}, proofs.Common.{◌≡◌, ℕ, suc, ◌+◌, ◌<◌, cond, List, ◌∷◌, length, get_or, drop, sym, ap, add-one, drop-cons}}
use Rattle.spl_circuit.specs.{Nodes.Node, Rules.node_of_service, declared.definition.Service.Service}

pub services_more : (n : Node) (xs : List Service) (i : ℕ) (x : Service) → i < length xs → x ≡ get_or xs i x
    → node_of_service (drop i xs) n ≡ cond (bytes_eq x.id n) (Some x.node) (node_of_service (drop (i + 1) xs) n)
services_more n xs i x lt e = rw (add-one, drop-cons xs i x) (ap (λ y. node_of_service (y ∷ drop (suc i) xs) n) (sym e))
