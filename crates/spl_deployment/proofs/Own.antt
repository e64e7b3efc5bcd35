-- What a process keeps is made by what it did itself; and of a circuit, by what it did about that.
use Rattle.std.{specs.{Prelude.if◌then◌else◌, Str.bytes_eq}, proofs.Common.{◌≡◌, ◌⊎◌, Bool, true, false, List, [], ◌∷◌, refl, sym, ap, subst, ◌∙◌, inl, inr}}
use Rattle.spl_agree.proofs.Booleans.{bool_cases}
use Rattle.spl_circuit.specs.{Nodes.{NodeId, CircuitId}, Same.node_is}
use Rattle.spl_wire.specs.declared.event.Event.{Event}
use Rattle.spl_wire.specs.declared.event.Event.TheVariants as event
use Rattle.spl_cell_rules.specs.{Cells.{Cell, Empty, site_at}, Changes.{after_plan, stopped_cell}, Plans.plan_of}
use Rattle.spl_node.specs.Kept.{cells_after}
use Rattle.spl_circuit_world.{specs.Worlds.put_at, proofs.{Nodes.node_not, Puts.{put_at-same, put_at-other}}}
use Rattle.spl_deployment.specs.{Doings.{Doing, Runs, Hears, Begins, about, cells_done, cells_from, is_about}, Deployments.{AreCircuitsApart, History, Net}}
use Rattle.spl_deployment.specs.Deployments.{net_after, net_by, own_doings}

-- ---- by itself

pub own-cells : (ns : List NodeId) (n : NodeId) (z : Net) (h : History) → (net_after ns z h).cells n ≡ cells_from n (z.cells n) (own_doings n h)
own-cells ns n z [] = refl
own-cells ns n z (e ∷ h) = own-cells ns n (net_by ns z e.by e.doing) h ∙ go (bool_cases (bytes_eq e.by n))
  where
    Fits : Bool → Type 0
    Fits b = cells_from n ((net_by ns z e.by e.doing).cells n) (own_doings n h)
        ≡ cells_from n (z.cells n) (if b then e.doing ∷ own_doings n h else own_doings n h)

    here : (m : NodeId) → m ≡ n → put_at z.cells m (cells_done m (z.cells m) e.doing) n ≡ cells_done n (z.cells n) e.doing
    here m q =
        subst (λ (k : NodeId). put_at z.cells k (cells_done k (z.cells k) e.doing) n ≡ cells_done n (z.cells n) e.doing) (sym q)
        (put_at-same z.cells n (cells_done n (z.cells n) e.doing))

    go : (bytes_eq e.by n ≡ true) ⊎ (bytes_eq e.by n ≡ false) → Fits (bytes_eq e.by n)
    go (inl q) = subst Fits (sym q) (ap (λ (f : CircuitId → Cell). cells_from n f (own_doings n h)) (here e.by (node_is e.by n q)))
    go (inr q) =
        subst Fits (sym q) (ap (λ (f : CircuitId → Cell). cells_from n f (own_doings n h))
        (put_at-other z.cells e.by (cells_done e.by (z.cells e.by) e.doing) n (λ s. node_not e.by n q (sym s))))

-- ---- about a circuit

event-same : (n : NodeId) (f g : CircuitId → Cell) (c d : CircuitId) (e : Event) → f c ≡ g c → bytes_eq d c ≡ true
    → cells_after n f d e c ≡ cells_after n g d e c
event-same n f g c d e same q =
    let is : d ≡ c = node_is d c q in
    let at : f d ≡ g d = ap f is ∙ (same ∙ sym (ap g is)) in
    ap (λ (b : Bool). if b then after_plan n (f d) (plan_of (site_at n d) (f d) e) else f c) q
    ∙ (ap (λ (k : Cell). after_plan n k (plan_of (site_at n d) k e)) at
    ∙ sym (ap (λ (b : Bool). if b then after_plan n (g d) (plan_of (site_at n d) (g d) e) else g c) q))

event-other : (n : NodeId) (f : CircuitId → Cell) (c d : CircuitId) (e : Event) → bytes_eq d c ≡ false → cells_after n f d e c ≡ f c
event-other n f c d e q = ap (λ (b : Bool). if b then after_plan n (f d) (plan_of (site_at n d) (f d) e) else f c) q

done-same : (n : NodeId) (f g : CircuitId → Cell) (c : CircuitId) (x : Doing) → f c ≡ g c → is_about c x ≡ true → cells_done n f x c ≡ cells_done n g x c
done-same n f g c (Runs d e) same q = event-same n f g c d e same q
done-same n f g c (Hears from d m) same q = event-same n f g c d (event.Deliver from m) same q
done-same n f g c Begins same q = ap stopped_cell same

done-other : (n : NodeId) (f : CircuitId → Cell) (c : CircuitId) (x : Doing) → is_about c x ≡ false → cells_done n f x c ≡ f c
done-other n f c (Runs d e) q = event-other n f c d e q
done-other n f c (Hears from d m) q = event-other n f c d (event.Deliver from m) q
done-other n f c Begins q = cc

about-from : (n : NodeId) (f g : CircuitId → Cell) (c : CircuitId) (xs : List Doing) → f c ≡ g c → cells_from n f xs c ≡ cells_from n g (about c xs) c
about-from n f g c [] same = same
about-from n f g c (x ∷ xs) same =
    go (bool_cases (is_about c x)) (about-from n (cells_done n f x) (cells_done n g x) c xs) (about-from n (cells_done n f x) g c xs)
  where
    Fits : Bool → Type 0
    Fits b = cells_from n (cells_done n f x) xs c ≡ cells_from n g (if b then x ∷ about c xs else about c xs) c

    go :
        (is_about c x ≡ true) ⊎ (is_about c x ≡ false) →
        (cells_done n f x c ≡ cells_done n g x c → Fits true) →
        (cells_done n f x c ≡ g c → Fits false) →
        Fits (is_about c x)
    go (inl q) on off = subst Fits (sym q) (on (done-same n f g c x same q))
    go (inr q) on off = subst Fits (sym q) (off (done-other n f c x q ∙ same))

pub are-apart : (n : NodeId) (xs : List Doing) → AreCircuitsApart n xs
are-apart n xs c = about-from n (λ d. Empty) (λ d. Empty) c xs refl
