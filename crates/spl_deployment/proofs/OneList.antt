-- What processes committed of a circuit is of one list.
use Rattle.std.proofs.Common.{◌≡◌, List, [], ◌∷◌, ◌++◌, refl, sym, ap, subst, ◌∙◌, inl, inr}
use Rattle.spl_agree.specs.{Member.values, World.IsPrefixOf}
use Rattle.spl_circuit.specs.{Nodes.{NodeId, CircuitId}, Rules.{admin, service}, declared.definition.Definition.Definition}
use Rattle.spl_circuit_world.specs.Worlds.{Occurrence, empty_world, occur}
use Rattle.spl_circuit_safety.{specs.Agreement.{act_list, acts_in, batch_list, batches_in, list_from}, proofs.{SameLists.list-append, Shown.prefix-on}}
use Rattle.spl_deployment.specs.Deployments.{AllMayBe, OneBeginsOther, History, IsOneWorld, IsPossible, KeepOneList, Net, empty_net, happened, net_by}
use Rattle.spl_deployment.proofs.Worlds.{goes-on, one-world}

-- ---- two beginnings of one list

prefix-cons : {A : Type 0} (x : A) (xs ys : List A) → IsPrefixOf xs ys → IsPrefixOf (x ∷ xs) (x ∷ ys)
prefix-cons {A} x xs ys p = (p.0, ap (λ (zs : List A). x ∷ zs) p.1)

prefix-both : {A : Type 0} (xs ys zs : List A) → IsPrefixOf xs zs → IsPrefixOf ys zs → OneBeginsOther xs ys
prefix-both [] ys zs p q = inl (ys, refl)
prefix-both (x ∷ xs) [] zs p q = inr (x ∷ xs, refl)
prefix-both (x ∷ xs) (y ∷ ys) [] p q = let h : x ∷ (xs ++ p.0) ≡ [] = p.1 in cc
prefix-both {A} (x ∷ xs) (y ∷ ys) (z ∷ zs) p q =
    go (prefix-both xs ys zs (p.0, let h : x ∷ (xs ++ p.0) ≡ z ∷ zs = p.1 in cc) (q.0, let h : y ∷ (ys ++ q.0) ≡ z ∷ zs = q.1 in cc))
  where
    first : x ≡ y
    first = let h : x ∷ (xs ++ p.0) ≡ z ∷ zs = p.1 in let k : y ∷ (ys ++ q.0) ≡ z ∷ zs = q.1 in cc

    go : OneBeginsOther xs ys → OneBeginsOther (x ∷ xs) (y ∷ ys)
    go (inl r) = inl (subst (λ (u : A). IsPrefixOf (x ∷ xs) (u ∷ ys)) first (prefix-cons x xs ys r))
    go (inr r) = inr (subst (λ (u : A). IsPrefixOf (u ∷ ys) (x ∷ xs)) first (prefix-cons x ys xs r))

-- ---- what may be before

pub may-before : (ns : List NodeId) (z : Net) (h later : History) → AllMayBe ns z (h ++ later) → AllMayBe ns z h
may-before ns z [] later may = tt
may-before ns z (e ∷ h) later may = (may.0, may-before ns (net_by ns z e.by e.doing) h later may.1)

-- ---- the lists grow

module _ {V : Type 0} (read : List Rattle.spl_wire.specs.declared.change.Change.Change → List V) (none : read [] ≡ []) (leader : NodeId) (d : Definition) where
  grows : (ns : List NodeId) (c : CircuitId) (h later : History)
      → IsPrefixOf (list_from read leader d (empty_world ns) (happened c h)) (list_from read leader d (empty_world ns) (happened c (h ++ later)))
  grows ns c h later = (
    list_from read leader d (occur (empty_world ns) (happened c h)) (happened c later),
    sym (list-append read none leader d (empty_world ns) (happened c h) (happened c later))
        ∙ ap (λ (es : List Occurrence). list_from read leader d (empty_world ns) es) (sym (goes-on c h later)),
  )

pub keep-one_list : (ns : List NodeId) (h later : History) → IsPossible ns (h ++ later) → KeepOneList h later
keep-one_list ns h later may a b c d x y p q = (acts, batches)
  where
    one : IsOneWorld ns h c
    one = one-world ns h (may-before ns empty_net h later may) c

    all : IsOneWorld ns (h ++ later) c
    all = one-world ns (h ++ later) may c

    acts : OneBeginsOther (values x.acts.history) (values y.acts.history)
    acts = prefix-both (values x.acts.history) (values y.acts.history) (act_list ns d (happened c (h ++ later)))
        (prefix-on (values x.acts.history) (act_list ns d (happened c h)) (act_list ns d (happened c (h ++ later)))
        ((one.agreed d).acts a x (one.cells a ∙ p.held) p.definition) (grows acts_in refl (admin d) d ns c h later))
        ((all.agreed d).acts b y (all.cells b ∙ q.held) q.definition)

    batches : OneBeginsOther (values x.batches.history) (values y.batches.history)
    batches = prefix-both (values x.batches.history) (values y.batches.history) (batch_list ns d (happened c (h ++ later)))
        (prefix-on (values x.batches.history) (batch_list ns d (happened c h)) (batch_list ns d (happened c (h ++ later)))
        ((one.agreed d).batches a x (one.cells a ∙ p.held) p.definition) (grows batches_in refl (service d) d ns c h later))
        ((all.agreed d).batches b y (all.cells b ∙ q.held) q.definition)
