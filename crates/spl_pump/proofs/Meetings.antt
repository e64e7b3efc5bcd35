-- How a node names itself.
use Rattle.std.{proofs.Common.{◌≡◌, ℕ, zero, suc, Bool, true, false, not, List, []}, specs.{Option.option_map_or, Prelude.{Result, Ok, Err, Option}}}
use Rattle.std.proofs.{Common.{◌∷◌, Some, IsTrue, ltb, refl, ap, ◌∙◌}, lemmas.Slice.Eq.bytes_eq-Decides}
use Rattle.spl_base.specs.Ids.{is_node_id}
use Rattle.spl_frame.specs.Frames.{frame}
use Rattle.spl_registry.specs.Nodes.{Entry, knows, node_at}
use Rattle.spl_link.specs.{Sides.Side, Greetings.greeting, Heard.heard, declared.fault.LinkFault.LinkFault}
use Rattle.spl_pump.specs.Wires.{hand}
use Rattle.spl_agree.proofs.Booleans.{or_true}

not_not : (b : Bool) → not (not b) ≡ b
not_not true = refl
not_not false = refl

pub known_at : (es : List Entry) (i : ℕ) (n : List ℕ) → node_at es i ≡ Some n → knows es n ≡ true
known_at [] i n h = absurd cc
known_at (e ∷ es) zero n h = let same : e.identity ≡ n = cc in rw ((bytes_eq-Decides e.identity n).1 same) refl
known_at (e ∷ es) (suc i) n h = rw (known_at es i n h) (or_true _)

pub hand_is : (es : List Entry) (a b : ℕ) (n : List ℕ) → node_at es a ≡ Some n → hand es a b ≡ frame (greeting (ltb a b) n)
hand_is es a b n h = ap (λ (o : Option (List ℕ)). option_map_or (λ name. frame (greeting (ltb a b) name)) o []) h

ok_err : {A : Type 0} (x : A) (e : LinkFault) (r : Result A LinkFault) → r ≡ Ok x → r ≡ Err e → ⊥
ok_err x e r h k = cc

-- a node that the registry knows is not refused by its own name
pub not_refused : (es : List Entry) (side : Side) (peer here body : List ℕ) (opens : Bool) (x : LinkFault)
    → ((es : List Entry) (side : Side) → IsTrue (is_node_id side.peer) → knows es side.peer ≡ true
    → heard es side (greeting (not side.opens) side.peer) ≡ Ok side.peer)
    → side ≡ record { here = peer; peer = here; opens = not opens } → IsTrue (is_node_id here) → knows es here ≡ true → body ≡ greeting opens here
    → heard es side body ≡ Err x → ⊥
not_refused es side peer here body opens x law is id known spelled err =
    let good : heard es (record { here = peer; peer = here; opens = not opens }) (greeting (not (not opens)) here) ≡ Ok here =
    law es (record { here = peer; peer = here; opens = not opens }) id known in
    let same : heard es side body ≡ heard es (record { here = peer; peer = here; opens = not opens }) (greeting (not (not opens)) here) =
    rw (is, spelled, not_not opens) refl in
    ok_err here x (heard es side body) (same ∙ good) err
