-- A moment among all that processes do: what one of them has done by then, and what is committed at it.
use Rattle.std.{specs.{Prelude.if◌then◌else◌, Str.bytes_eq}, proofs.Common.{◌≡◌, ◌⊎◌, Bool, true, false, List, [], ◌∷◌, ◌++◌, append_assoc, refl, sym, ap}}
use Rattle.std.proofs.Common.{subst, ◌∙◌, inl, inr}
use Rattle.spl_agree.{specs.{Member.values, World.IsPrefixOf}, proofs.Booleans.bool_cases}
use Rattle.spl_circuit.specs.{Nodes.{NodeId, CircuitId}, Rules.service, declared.definition.Definition.Definition}
use Rattle.spl_cell_rules.specs.Cells.{Bound, Cell, Held}
use Rattle.spl_circuit_world.specs.Worlds.{Occurrence, empty_world, occur}
use Rattle.spl_circuit_safety.{specs.Agreement.{batch_list, batches_from, batches_in}, proofs.{SameLists.list-append, Shown.prefix-on}}
use Rattle.spl_deployment.specs.{Doings.{Doing, cells_done, cells_from}, Deployments.{AllMayBe, WorldGoesOn, History, IsLeftRunning, happened, left_by}}
use Rattle.spl_deployment.{specs.Deployments.own_doings, proofs.{OneList.may-before, Worlds.{goes-on, goes-on_from}}}

-- ---- what a process has done by then

pub own-append : (n : NodeId) (h later : History) → own_doings n (h ++ later) ≡ own_doings n h ++ own_doings n later
own-append n [] later = refl
own-append n (e ∷ h) later = go (bool_cases (bytes_eq e.by n)) (own-append n h later)
  where
    Fits : Bool → Type 0
    Fits b = (if b then e.doing ∷ own_doings n (h ++ later) else own_doings n (h ++ later))
        ≡ (if b then e.doing ∷ own_doings n h else own_doings n h) ++ own_doings n later

    go : (bytes_eq e.by n ≡ true) ⊎ (bytes_eq e.by n ≡ false) → own_doings n (h ++ later) ≡ own_doings n h ++ own_doings n later → Fits (bytes_eq e.by n)
    go (inl q) r = subst Fits (sym q) (ap (λ (xs : List Doing). e.doing ∷ xs) r)
    go (inr q) r = subst Fits (sym q) r

pub from-append : (n : NodeId) (cells : CircuitId → Cell) (xs ys : List Doing) → cells_from n cells (xs ++ ys) ≡ cells_from n (cells_from n cells xs) ys
from-append n cells [] ys = refl
from-append n cells (x ∷ xs) ys = from-append n (cells_done n cells x) xs ys

-- the part of a history that ends with a node's next doing, and the rest
pub record Next (n : NodeId) (h : History) (x : Doing) (xs : List Doing) : Type 0 where
  pub first : History
  pub rest : History
  pub parts : h ≡ first ++ rest
  pub does : own_doings n first ≡ x ∷ []
  pub later : own_doings n rest ≡ xs

pub next : (n : NodeId) (h : History) (x : Doing) (xs : List Doing) → own_doings n h ≡ x ∷ xs → Next n h x xs
next n [] x xs e = let k : [] ≡ x ∷ xs = e in absurd cc
next n (e ∷ h) x xs is = go (bool_cases (bytes_eq e.by n)) (next n h x xs)
  where
    Own : Bool → History → List Doing
    Own b k = if b then e.doing ∷ own_doings n k else own_doings n k

    go : (bytes_eq e.by n ≡ true) ⊎ (bytes_eq e.by n ≡ false) → (own_doings n h ≡ x ∷ xs → Next n h x xs) → Next n (e ∷ h) x xs
    go (inl q) later =
        let k : e.doing ∷ own_doings n h ≡ x ∷ xs = sym (ap (λ (b : Bool). Own b h) q) ∙ is in
        let one : e.doing ≡ x = cc in
        let more : own_doings n h ≡ xs = cc in
        record { first = e ∷ []; rest = h; parts = refl; does = ap (λ (b : Bool). Own b []) q ∙ ap (λ (y : Doing). y ∷ []) one; later = more }
    go (inr q) later =
        let r = later (sym (ap (λ (b : Bool). Own b h) q) ∙ is) in
        record {
          first =
              e ∷ r.first;
          rest = r.rest;
          parts = ap (λ (k : History). e ∷ k) r.parts;
          does = ap (λ (b : Bool). Own b r.first) q ∙ r.does;
          later = r.later;
        }

-- ---- what is committed at it then

-- it begins the list of the circuit after whatever happens later
pub begins-list : (ns : List NodeId) (past : CircuitId → List Occurrence) (h later : History) → IsLeftRunning ns past
    → AllMayBe ns (left_by ns past) (h ++ later)
    → (c : CircuitId) (d : Definition) (n : NodeId) (b : Bound) → cells_from n ((left_by ns past).cells n) (own_doings n h) c ≡ Held b → b.definition ≡ d
    → IsPrefixOf (values b.batches.history) (batch_list ns d (past c ++ happened c (h ++ later)))
begins-list ns past h later left may c d n b held is =
    prefix-on (values b.batches.history) (batch_list ns d (past c ++ happened c h)) (batch_list ns d (past c ++ happened c (h ++ later)))
    ((one.agreed d).batches n b (one.cells n ∙ held) is) grows
  where
    one : WorldGoesOn ns past h c
    one = goes-on_from ns past h left (may-before ns (left_by ns past) h later may) c

    grows : IsPrefixOf (batch_list ns d (past c ++ happened c h)) (batch_list ns d (past c ++ happened c (h ++ later)))
    grows = (
      batches_from d (occur (empty_world ns) (past c ++ happened c h)) (happened c later),
      sym (list-append batches_in refl (service d) d (empty_world ns) (past c ++ happened c h) (happened c later))
          ∙ ap (λ (es : List Occurrence). batch_list ns d es)
          (append_assoc (past c) (happened c h) (happened c later) ∙ ap (λ (es : List Occurrence). past c ++ es) (sym (goes-on c h later))),
    )
