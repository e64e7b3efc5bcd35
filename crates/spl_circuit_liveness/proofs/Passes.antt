-- Passes of a circuit's world are full passes of the group.
use Rattle.std.{specs.{List.filter, Str.bytes_eq}, proofs.Common.{◌≡◌, ◌≢◌, ℕ, zero, suc, ◌⊎◌, Bool, true, false, ◌&&◌, ◌||◌, eqb, List, [], ◌∷◌, ◌++◌}}
use Rattle.std.proofs.Common.{length, refl, sym, ap, subst, ◌∙◌, inl, inr}
use Rattle.spl_agree.{specs.Member.{Group, has}, proofs.Tests.{bool_cases, or_cases, or_true, eqb_same}}
use Rattle.spl_circuit.specs.{Nodes.{NodeId, CircuitId, has_node, position, node_or}, Positions.position_below, Same.node_is}
use Rattle.spl_circuit.{specs.declared.definition.Definition.Definition, proofs.Valid.few_members}
use Rattle.spl_sched.specs.declared.line.Step.TheVariants as step
use Rattle.spl_wire.specs.declared.event.Event.TheVariants as event
use Rattle.spl_cell_rules.specs.Cells.{Cell, is_open_cell}
use Rattle.spl_group_liveness.{specs.Calm.{Calm, Order, ticked, group_turn, AllBelow, AllPairs, HasPair, IsFull, AllFull}, proofs.Orders.pairs-more}
use Rattle.spl_group_liveness.proofs.Orders.{pair-left, pair-right}
use Rattle.spl_group_liveness.specs.Calm as group
use Rattle.spl_circuit_world.specs.{Worlds.World, Calm.{Calming, calming_step, open_nodes, ticks, pair_turn, to_all, from_all, pass, passes}}
use Rattle.spl_circuit_world.proofs.Nodes.{node_cases}
use Rattle.spl_circuit_safety.proofs.{Positions.position-apart, GroupOfDefinition.group_of}
use Rattle.spl_circuit_liveness.proofs.{Places.{or-member, position-at}, Shapes.Shape, Lasting.IsCarried, Sims.Sim, Events.{sim-tick, sim-tick-other}}
use Rattle.spl_circuit_liveness.proofs.Turns.{IsLone, sim-turn, sim-turn-other}

-- a world in a calm, beside the group's calm
abbrev pub Beside : {V : Type 0} → Shape V → Definition → (World → (NodeId → NodeId → ℕ) → Type 0) → Calming → Calm V → Type 0
Beside s d Inv z k = Sim s d Inv z.world z.taken k

-- ---- ticks

-- the members among some nodes tick
pub record Ticked {V : Type 0} (s : Shape V) (d : Definition) (Inv : World → (NodeId → NodeId → ℕ) → Type 0) (ns : List NodeId) (z : Calming)
    (k : Calm V) : Type 0 where
  pub positions : List ℕ
  pub below : AllBelow (length d.members) positions
  pub each : (n : NodeId) → has_node ns n ≡ true → has_node d.members n ≡ true → has (position d.members n) positions ≡ true
  pub sim : Beside s d Inv z (group.group_ticks (group_of s.groups d) positions k)

pub sim-ticks : {V : Type 0} (s : Shape V) (IsOn : Definition → Cell → Type 0) (d : Definition) (Inv : World → (NodeId → NodeId → ℕ) → Type 0)
    → IsCarried s IsOn d Inv → (c : CircuitId) (ns : List NodeId) (z : Calming) (k : Calm V) → Beside s d Inv z k → Ticked s d Inv ns (ticks c z ns) k
sim-ticks s IsOn d Inv run c [] z k q = record { positions = []; below = tt; each = λ n h g. cc; sim = q }
sim-ticks {V} s IsOn d Inv run c (n ∷ ns) z k q =
    go (bool_cases (has_node d.members n)) (λ l p. sim-ticks s IsOn d Inv run c ns (calming_step z (step.At n c event.Tick)) l p)
  where
    z2 : Calming
    z2 = calming_step z (step.At n c event.Tick)

    go : (has_node d.members n ≡ true) ⊎ (has_node d.members n ≡ false) → ((l : Calm V) → Beside s d Inv z2 l → Ticked s d Inv ns (ticks c z2 ns) l)
        → Ticked s d Inv (n ∷ ns) (ticks c z2 ns) k
    go (inl h) hyp =
        let r : Ticked s d Inv ns (ticks c z2 ns) (ticked (group_of s.groups d) (position d.members n) k) =
        hyp (ticked (group_of s.groups d) (position d.members n) k) (sim-tick s IsOn d Inv run c n z.world z.taken k h q) in record {
          positions = position d.members n ∷ r.positions;
          below = (position_below d.members n h, r.below);
          each = λ m x g. each r m g (or_cases (bytes_eq n m) (has_node ns m) x);
          sim = r.sim;
        }
      where
        each : (r : Ticked s d Inv ns (ticks c z2 ns) (ticked (group_of s.groups d) (position d.members n) k)) → (m : NodeId) → has_node d.members m ≡ true
            → (bytes_eq n m ≡ true) ⊎ (has_node ns m ≡ true)
            → (eqb (position d.members n) (position d.members m) || has (position d.members m) r.positions) ≡ true
        each r m g (inl x) =
            let same : eqb (position d.members n) (position d.members m)
            ≡ true = subst (λ (u : NodeId). eqb (position d.members n) (position d.members u) ≡ true) (node_is n m x)
            (eqb_same (position d.members n)) in rw same
        each r m g (inr x) = rw (r.each m x g) (or_true _)
    go (inr h) hyp =
        let r : Ticked s d Inv ns (ticks c z2 ns) k = hyp k (sim-tick-other s IsOn d Inv run c n z.world z.taken k h q) in record {
          positions = r.positions;
          below = r.below;
          each = λ m x g. each r m g (or_cases (bytes_eq n m) (has_node ns m) x);
          sim = r.sim;
        }
      where
        each : (r : Ticked s d Inv ns (ticks c z2 ns) k) → (m : NodeId) → has_node d.members m ≡ true → (bytes_eq n m ≡ true) ⊎ (has_node ns m ≡ true)
            → has (position d.members m) r.positions ≡ true
        each r m g (inl x) = absurd (let p : has_node d.members m ≡ false = subst (λ (u : NodeId). has_node d.members u ≡ false) (node_is n m x) h in cc)
        each r m g (inr x) = r.each m x g

-- ---- turns

pub turns-append : {V : Type 0} (g : Group V) (ps qs : List (ℕ × ℕ)) (k : Calm V)
    → group.group_turns g (ps ++ qs) k ≡ group.group_turns g qs (group.group_turns g ps k)
turns-append g [] qs k = refl
turns-append g (p ∷ ps) qs k = turns-append g ps qs (group_turn g p.0 p.1 k)

-- pairs of members have their turns
pub record Turned {V : Type 0} (s : Shape V) (d : Definition) (Inv : World → (NodeId → NodeId → ℕ) → Type 0) (IsIn : NodeId → NodeId → Type 0)
    (z : Calming) (k : Calm V) : Type 0 where
  pub pairs : List (ℕ × ℕ)
  pub among : AllPairs (length d.members) pairs
  pub every : (x y : NodeId) → IsIn x y → has_node d.members x ≡ true → has_node d.members y ≡ true → x ≢ y
      → HasPair (position d.members x) (position d.members y) pairs
  pub sim : Beside s d Inv z (group.group_turns (group_of s.groups d) pairs k)

-- a pair is one of two members, or it isn't
pub pair-kind : (d : Definition) (x y : NodeId) → (((has_node d.members x ≡ true) × (has_node d.members y ≡ true)) × (x ≢ y)) ⊎ IsLone d x y
pair-kind d x y = go (bool_cases (has_node d.members x)) (bool_cases (has_node d.members y)) (node_cases x y)
  where
    go : (has_node d.members x ≡ true) ⊎ (has_node d.members x ≡ false) → (has_node d.members y ≡ true) ⊎ (has_node d.members y ≡ false)
        → (x ≡ y) ⊎ (x ≢ y) → (((has_node d.members x ≡ true) × (has_node d.members y ≡ true)) × (x ≢ y)) ⊎ IsLone d x y
    go a b (inl e) = inr (inl e)
    go (inr a) b (inr e) = inr (inr (inl a))
    go (inl a) (inr b) (inr e) = inr (inr (inr b))
    go (inl a) (inl b) (inr e) = inl ((a, b), e)

-- the turns of a sender with these nodes
abbrev pub ToThese : NodeId → List NodeId → NodeId → NodeId → Type 0
ToThese from ns x y = (x ≡ from) × (has_node ns y ≡ true)

pub sim-to_all : {V : Type 0} (s : Shape V) (IsOn : Definition → Cell → Type 0) (d : Definition) (Inv : World → (NodeId → NodeId → ℕ) → Type 0)
    → IsCarried s IsOn d Inv → (c : CircuitId) (from : NodeId) (ns : List NodeId) (z : Calming) (k : Calm V) → Beside s d Inv z k
    → Turned s d Inv (ToThese from ns) (to_all c z from ns) k
sim-to_all s IsOn d Inv run c from [] z k q = record { pairs = []; among = tt; every = λ x y i h g off. absurd (let p : false ≡ true = i.1 in cc); sim = q }
sim-to_all {V} s IsOn d Inv run c from (n ∷ ns) z k q = go (pair-kind d from n) (λ l p. sim-to_all s IsOn d Inv run c from ns (pair_turn c z from n) l p)
  where
    z2 : Calming
    z2 = pair_turn c z from n

    Rest : Calm V → Type 0
    Rest l = Turned s d Inv (ToThese from ns) (to_all c z2 from ns) l

    go : (((has_node d.members from ≡ true) × (has_node d.members n ≡ true)) × (from ≢ n)) ⊎ IsLone d from n
        → ((l : Calm V) → Beside s d Inv z2 l → Rest l) → Turned s d Inv (ToThese from (n ∷ ns)) (to_all c z2 from ns) k
    go (inl h) hyp =
        let r : Rest (group_turn (group_of s.groups d) (position d.members from) (position d.members n) k) =
        hyp (group_turn (group_of s.groups d) (position d.members from) (position d.members n) k)
        (sim-turn s IsOn d Inv run c from n z k h.0.0 h.0.1 h.1 q) in record {
          pairs = (position d.members from, position d.members n) ∷ r.pairs;
          among = (
            (
              position_below d.members from h.0.0,
              position_below d.members n h.0.1,
              λ e. h.1 (position-apart d.members from n (few_members d run.ruled).1 (position_below d.members from h.0.0) e),
            ),
            r.among,
          );
          every = λ x y i hx hy off. every r x y i hx hy off (or_cases (bytes_eq n y) (has_node ns y) i.1);
          sim = r.sim;
        }
      where
        every : (r : Rest (group_turn (group_of s.groups d) (position d.members from) (position d.members n) k)) → (x y : NodeId)
            → ToThese from (n ∷ ns) x y → has_node d.members x ≡ true → has_node d.members y ≡ true → x ≢ y
            → (bytes_eq n y ≡ true) ⊎ (has_node ns y ≡ true)
            → HasPair (position d.members x) (position d.members y) ((position d.members from, position d.members n) ∷ r.pairs)
        every r x y i hx hy off (inl e) = inl (ap (λ (u : NodeId). position d.members u) (sym i.0), ap (λ (u : NodeId). position d.members u) (node_is n y e))
        every r x y i hx hy off (inr e) = inr (r.every x y (i.0, e) hx hy off)
    go (inr h) hyp =
        let r : Rest k = hyp k (sim-turn-other s IsOn d Inv run c from n z k h q) in record {
          pairs = r.pairs;
          among = r.among;
          every = λ x y i hx hy off. every r x y i hx hy off h (or_cases (bytes_eq n y) (has_node ns y) i.1);
          sim = r.sim;
        }
      where
        lone_not : (x y : NodeId) → x ≡ from → n ≡ y → has_node d.members x ≡ true → has_node d.members y ≡ true → x ≢ y → IsLone d from n → ⊥
        lone_not x y e f hx hy off (inl p) = off (e ∙ (p ∙ f))
        lone_not x y e f hx hy off (inr (inl p)) = let t : has_node d.members from ≡ true = subst (λ (u : NodeId). has_node d.members u ≡ true) e hx in cc
        lone_not x y e f hx hy off (inr (inr p)) = let t : has_node d.members n ≡ true = subst (λ (u : NodeId). has_node d.members u ≡ true) (sym f) hy in cc

        every : (r : Rest k) → (x y : NodeId) → ToThese from (n ∷ ns) x y → has_node d.members x ≡ true → has_node d.members y ≡ true → x ≢ y
            → IsLone d from n → (bytes_eq n y ≡ true) ⊎ (has_node ns y ≡ true) → HasPair (position d.members x) (position d.members y) r.pairs
        every r x y i hx hy off lone (inl e) = absurd (lone_not x y i.0 (node_is n y e) hx hy off lone)
        every r x y i hx hy off lone (inr e) = r.every x y (i.0, e) hx hy off

-- the turns of these senders with all
abbrev pub FromThese : List NodeId → List NodeId → NodeId → NodeId → Type 0
FromThese ns all x y = (has_node ns x ≡ true) × (has_node all y ≡ true)

pub sim-from_all : {V : Type 0} (s : Shape V) (IsOn : Definition → Cell → Type 0) (d : Definition) (Inv : World → (NodeId → NodeId → ℕ) → Type 0)
    → IsCarried s IsOn d Inv → (c : CircuitId) (all ns : List NodeId) (z : Calming) (k : Calm V) → Beside s d Inv z k
    → Turned s d Inv (FromThese ns all) (from_all c z all ns) k
sim-from_all s IsOn d Inv run c all [] z k q = record { pairs = []; among = tt; every = λ x y i h g off. absurd (let p : false ≡ true = i.0 in cc); sim = q }
sim-from_all {V} s IsOn d Inv run c all (n ∷ ns) z k q =
    go (sim-to_all s IsOn d Inv run c n all z k q) (λ l p. sim-from_all s IsOn d Inv run c all ns (to_all c z n all) l p)
  where
    z2 : Calming
    z2 = to_all c z n all

    First : Type 0
    First = Turned s d Inv (ToThese n all) z2 k

    Rest : Calm V → Type 0
    Rest l = Turned s d Inv (FromThese ns all) (from_all c z2 all ns) l

    go : First → ((l : Calm V) → Beside s d Inv z2 l → Rest l) → Turned s d Inv (FromThese (n ∷ ns) all) (from_all c z2 all ns) k
    go f hyp =
        let r : Rest (group.group_turns (group_of s.groups d) f.pairs k) = hyp (group.group_turns (group_of s.groups d) f.pairs k) f.sim in record {
          pairs = f.pairs ++ r.pairs;
          among = pairs-more (length d.members) f.pairs r.pairs f.among r.among;
          every = λ x y i hx hy off. every r x y i hx hy off (or_cases (bytes_eq n x) (has_node ns x) i.0);
          sim = subst (λ (g : Calm V). Beside s d Inv (from_all c z2 all ns) g) (sym (turns-append (group_of s.groups d) f.pairs r.pairs k)) r.sim;
        }
      where
        every : (r : Rest (group.group_turns (group_of s.groups d) f.pairs k)) → (x y : NodeId) → FromThese (n ∷ ns) all x y → has_node d.members x ≡ true
            → has_node d.members y ≡ true → x ≢ y → (bytes_eq n x ≡ true) ⊎ (has_node ns x ≡ true)
            → HasPair (position d.members x) (position d.members y) (f.pairs ++ r.pairs)
        every r x y i hx hy off (inl e) =
            pair-left (position d.members x) (position d.members y) f.pairs r.pairs (f.every x y (sym (node_is n x e), i.1) hx hy off)
        every r x y i hx hy off (inr e) = pair-right (position d.members x) (position d.members y) f.pairs r.pairs (r.every x y (e, i.1) hx hy off)

-- ---- passes

-- who meets a test is among those that do
pub has-filter : (p : NodeId → Bool) (ns : List NodeId) (n : NodeId) → has_node ns n ≡ true → p n ≡ true → has_node (filter p ns) n ≡ true
has-filter p [] n h t = h
has-filter p (m ∷ ms) n h t = go (bool_cases (p m)) (or_cases (bytes_eq m n) (has_node ms n) h) (λ x. has-filter p ms n x t)
  where
    go : (p m ≡ true) ⊎ (p m ≡ false) → (bytes_eq m n ≡ true) ⊎ (has_node ms n ≡ true) → (has_node ms n ≡ true → has_node (filter p ms) n ≡ true)
        → has_node (filter p (m ∷ ms)) n ≡ true
    go (inl q) (inl e) hyp = rw q (rw e)
    go (inl q) (inr e) hyp = rw q (rw (hyp e) (or_true (bytes_eq m n)))
    go (inr q) (inl e) hyp = absurd (let z : p m ≡ true = subst (λ (u : NodeId). p u ≡ true) (sym (node_is m n e)) t in cc)
    go (inr q) (inr e) hyp = rw q (hyp e)

-- all members are among these nodes
abbrev pub HasMembers : Definition → List NodeId → Type 0
HasMembers d ns = (n : NodeId) → has_node d.members n ≡ true → has_node ns n ≡ true

pub record Passed {V : Type 0} (s : Shape V) (d : Definition) (Inv : World → (NodeId → NodeId → ℕ) → Type 0) (z : Calming) (k : Calm V) : Type 0 where
  pub order : Order
  pub full : IsFull (length d.members) order
  pub sim : Beside s d Inv z (group.group_pass (group_of s.groups d) order k)

pub sim-pass : {V : Type 0} (s : Shape V) (IsOn : Definition → Cell → Type 0) (d : Definition) (Inv : World → (NodeId → NodeId → ℕ) → Type 0)
    → IsCarried s IsOn d Inv → (c : CircuitId) (ns : List NodeId) (z : Calming) (k : Calm V) → HasMembers d ns → Beside s d Inv z k
    → Passed s d Inv (pass c ns z) k
sim-pass {V} s IsOn d Inv run c ns z k all q = go (sim-ticks s IsOn d Inv run c (open_nodes z.world ns) z k q)
  where
    z2 : Calming
    z2 = ticks c z (open_nodes z.world ns)

    opens : (n : NodeId) → has_node d.members n ≡ true → has_node (open_nodes z.world ns) n ≡ true
    opens n h =
        has-filter (λ m. z.world.up m && is_open_cell (z.world.at m)) ns n (all n h)
        (let u : z.world.up n ≡ true = q.up n h in
        let o : is_open_cell (z.world.at n) ≡ true = run.shaped.opens (z.world.at n) (run.on z.world z.taken q.inv n h) in rw (u, o))

    at : ℕ → NodeId
    at i = node_or d.members [] i

    go : Ticked s d Inv (open_nodes z.world ns) z2 k → Passed s d Inv (pass c ns z) k
    go t = turned (sim-from_all s IsOn d Inv run c ns ns z2 (group.group_ticks (group_of s.groups d) t.positions k) t.sim)
      where
        turned : Turned s d Inv (FromThese ns ns) (from_all c z2 ns ns) (group.group_ticks (group_of s.groups d) t.positions k) → Passed s d Inv (pass c ns z) k
        turned r = record {
          order = record { ticks = t.positions; pairs = r.pairs };
          full = record {
            members = t.below;
            each = λ i l. subst (λ (j : ℕ). has j t.positions ≡ true) (position-at d [] i run.ruled l)
                (t.each (at i) (opens (at i) (or-member d.members [] i l)) (or-member d.members [] i l));
            among = r.among;
            every = λ a b la lb off. subst (λ (j : ℕ). HasPair j b r.pairs) (position-at d [] a run.ruled la)
                (subst (λ (j : ℕ). HasPair (position d.members (at a)) j r.pairs) (position-at d [] b run.ruled lb)
                (r.every (at a) (at b) (all (at a) (or-member d.members [] a la), all (at b) (or-member d.members [] b lb)) (or-member d.members [] a la)
                (or-member d.members [] b lb)
                (λ e. off (sym (position-at d [] a run.ruled la) ∙ (ap (λ (u : NodeId). position d.members u) e ∙ position-at d [] b run.ruled lb)))));
          };
          sim = r.sim;
        }

pub record AllPassed {V : Type 0} (s : Shape V) (d : Definition) (Inv : World → (NodeId → NodeId → ℕ) → Type 0) (count : ℕ) (z : Calming)
    (k : Calm V) : Type 0 where
  pub orders : List Order
  pub full : AllFull (length d.members) orders
  pub many : length orders ≡ count
  pub sim : Beside s d Inv z (group.group_passes (group_of s.groups d) orders k)

pub sim-passes : {V : Type 0} (s : Shape V) (IsOn : Definition → Cell → Type 0) (d : Definition) (Inv : World → (NodeId → NodeId → ℕ) → Type 0)
    → IsCarried s IsOn d Inv → (c : CircuitId) (ns : List NodeId) (count : ℕ) (z : Calming) (k : Calm V) → HasMembers d ns → Beside s d Inv z k
    → AllPassed s d Inv count (passes c ns count z) k
sim-passes s IsOn d Inv run c ns zero z k all q = record { orders = []; full = tt; many = refl; sim = q }
sim-passes {V} s IsOn d Inv run c ns (suc count) z k all q =
    let p : Passed s d Inv (pass c ns z) k = sim-pass s IsOn d Inv run c ns z k all q in
    let r : AllPassed s d Inv count (passes c ns count (pass c ns z)) (group.group_pass (group_of s.groups d) p.order k) =
    sim-passes s IsOn d Inv run c ns count (pass c ns z) (group.group_pass (group_of s.groups d) p.order k) all p.sim in
    record { orders = p.order ∷ r.orders; full = (p.full, r.full); many = ap suc r.many; sim = r.sim }
