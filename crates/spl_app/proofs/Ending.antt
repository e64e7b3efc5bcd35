-- Where a run ended, also in an event of one node, what is found are the cells of what happened up to there.
use Rattle.std.{specs.{List.position_from, Prelude.⊤}, proofs.Common.{◌≡◌, ◌≢◌, ◌⊎◌, inl, inr, ℕ, Bool, true, false, List, [], ◌∷◌, length, Option, Some}}
use Rattle.std.proofs.Common.{None, refl, sym, ap, subst, ◌∙◌}
use Rattle.spl_agree.proofs.Tests.{if_holds}
use Rattle.spl_circuit_world.specs.Worlds.{node_of, Halts, Occurrence, Starts, Steps, Stops, World, circuit_happens, halted, occur, started, step_plan}
use Rattle.spl_circuit_world.{specs.Worlds.node_stopped, proofs.{Nodes.node_cases, Puts.put_at-other}}
use Rattle.spl_circuit_safety.specs.Agreement.{AllHappenedAt}
use Rattle.spl_circuit.specs.Nodes.{CircuitId, Node, has_node, sorted}
use Rattle.spl_registry.specs.Nodes.{Entry, entry_ids, is_of}
use Rattle.spl_cell_rules.specs.{Cells.{Cell, Empty}, Changes.stopped_cell}
use Rattle.spl_sched.specs.Grammar.{step_node}
use Rattle.spl_node.specs.Benches.{AllTell, Images, images_at}
use Rattle.spl_world.specs.Held.{HoldFor, LeaveEither, kept_at, origin_on}
use Rattle.spl_app.{specs.Found.AllFound, proofs.{Finding.{Makes, found-either, found-makes}, Seats.{IsSeat, seat-below, unseated}}}

-- ---- other nodes

-- what happens at one node leaves the cells of any other
one-other : (w : World) (e : Occurrence) (n : Node) → n ≢ node_of e → (circuit_happens w e).at n ≡ w.at n
one-other w (Steps s) n apart = put_at-other w.at (step_node s) _ n apart
one-other w (Stops m) n apart = if_holds (λ (v : World). v.at n ≡ w.at n) (w.up m) (node_stopped w m) w (λ q. put_at-other w.at m _ n apart) (λ q. refl)
one-other w (Starts m) n apart = if_holds (λ (v : World). v.at n ≡ w.at n) (w.up m) w (started w m) (λ q. refl) (λ q. refl)
one-other w (Halts kept s) n apart =
    if_holds (λ (v : World). v.at n ≡ w.at n) (w.up (step_node s)) (halted w (step_node s) kept (step_plan w s)) w
    (λ q. put_at-other w.at (step_node s) _ n apart) (λ q. refl)

no : {A : Type 0} {b : Bool} → b ≡ true → b ≡ false → A
no p q = cc

-- what happens at these nodes leaves those of any node that isn't among them
pub outside-stays : (ns : List Node) (w : World) (es : List Occurrence) (n : Node) → AllHappenedAt ns es → has_node ns n ≡ false → (occur w es).at n ≡ w.at n
outside-stays ns w [] n at away = refl
outside-stays ns w (e ∷ es) n at away =
    outside-stays ns (circuit_happens w e) es n at.1 away
    ∙ one-other w e n (λ same. no at.0 (subst (λ (m : Node). has_node ns m ≡ false) same away))

-- nothing, or one event of this node
abbrev pub IsEventAt : Node → List Occurrence → Type 0
IsEventAt n [] = ⊤
IsEventAt n (e ∷ []) = n ≡ node_of e
IsEventAt n es = ⊥

-- of any other node it moves nothing
pub event-other : (w : World) (next : List Occurrence) (one n : Node) → IsEventAt one next → n ≢ one → (occur w next).at n ≡ w.at n
event-other w [] one n event apart = refl
event-other w (e ∷ []) one n event apart = one-other w e n (λ same. apart (same ∙ sym event))
event-other w (e ∷ d ∷ es) one n event apart = absurd event

-- ---- all nodes

-- what is found at each node makes these cells
abbrev pub AllMake : List Entry → (Node → CircuitId → Cell) → List Images → Type 0
AllMake es cells found = (n : Node) (k : ℕ) → IsSeat es n k → Makes n (cells n) (images_at found k)

module _ (es : List Entry) (was found : List Images) (all : AllFound (length es) was found) (told : AllTell (length es) found) where
  -- each stood for them
  pub all-make : (cells : Node → CircuitId → Cell) → ((n : Node) (k : ℕ) → IsSeat es n k → HoldFor n (cells n) (images_at was k)) → AllMake es cells found
  all-make cells hold n k at =
      let below = seat-below es n k at in found-makes n (cells n) (images_at was k) (images_at found k) (hold n k at) (all k below) (told k below)

  -- all but one stood for these, and that one for these or for others, which no other node has
  module _ (one : Node) (now later : Node → CircuitId → Cell)
      (others : (n : Node) (k : ℕ) → IsSeat es n k → n ≢ one → HoldFor n (now n) (images_at was k))
      (own : (k : ℕ) → IsSeat es one k → LeaveEither one (now one) (later one) (images_at was k))
      (elsewhere : (n : Node) → n ≢ one → (c : CircuitId) → later n c ≡ now n c) where
    rest : (n : Node) (k : ℕ) → IsSeat es n k → n ≢ one → Makes n (now n) (images_at found k)
    rest n k at apart =
        let below = seat-below es n k at in found-makes n (now n) (images_at was k) (images_at found k) (others n k at apart) (all k below) (told k below)

    same-seat : (n : Node) (j k : ℕ) → IsSeat es n j → IsSeat es n k → j ≡ k
    same-seat n j k one_at other_at = let both : Some j ≡ Some k = sym one_at ∙ other_at in cc

    -- with the one node at this position, and its cells
    with-one : (cells : Node → CircuitId → Cell) (k : ℕ) → IsSeat es one k → Makes one (cells one) (images_at found k)
        → ((n : Node) → n ≢ one → (c : CircuitId) → cells n c ≡ now n c) → AllMake es cells found
    with-one cells k at makes same n j seat = go (node_cases n one)
      where
        go : (n ≡ one) ⊎ (n ≢ one) → Makes n (cells n) (images_at found j)
        go (inl is) =
            let here : IsSeat es one j = subst (λ (m : Node). IsSeat es m j) is seat in
            subst (λ (m : Node). Makes m (cells m) (images_at found j)) (sym is)
            (subst (λ (i : ℕ). Makes one (cells one) (images_at found i)) (same-seat one k j at here) makes)
        go (inr apart) = λ c. rest n j seat apart c ∙ ap stopped_cell (sym (same n apart c))

    by-seat : (o : Option ℕ) → position_from (is_of one) 0 es ≡ o → AllMake es now found ⊎ AllMake es later found
    by-seat None none = inl (λ n k at. rest n k at (λ is. let both : None ≡ Some k = sym none ∙ subst (λ (m : Node). IsSeat es m k) is at in absurd cc))
    by-seat (Some k) at =
        go (found-either one (now one) (later one) (images_at was k) (images_at found k) (own k at) (all k (seat-below es one k at))
        (told k (seat-below es one k at)))
      where
        go : Makes one (now one) (images_at found k) ⊎ Makes one (later one) (images_at found k) → AllMake es now found ⊎ AllMake es later found
        go (inl makes) = inl (with-one now k at makes (λ n apart c. refl))
        go (inr makes) = inr (with-one later k at makes elsewhere)

    -- so all nodes have the ones, or all the others
    pub one-or-other : AllMake es now found ⊎ AllMake es later found
    one-or-other = by-seat (position_from (is_of one) 0 es) refl

-- ---- where a further run begins

-- its nodes keep what is found, each once it stopped; no other keeps anything
pub found-kept : (es : List Entry) (found : List Images) (cells : Node → CircuitId → Cell) → AllMake es cells found
    → ((n : Node) (c : CircuitId) → has_node (sorted (entry_ids es)) n ≡ false → cells n c ≡ Empty) → (c : CircuitId) (n : Node)
    → (origin_on es found).kept c n ≡ stopped_cell (cells n c)
found-kept es found cells make none c n = go (position_from (is_of n) 0 es) refl
  where
    go : (o : Option ℕ) → position_from (is_of n) 0 es ≡ o → kept_at found c n (position_from (is_of n) 0 es) ≡ stopped_cell (cells n c)
    go None at = ap (kept_at found c n) at ∙ sym (ap stopped_cell (none n c (unseated es n at)))
    go (Some k) at = ap (kept_at found c n) at ∙ make n k at c
