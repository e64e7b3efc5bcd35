-- Registries whose nodes have different ids.
use Rattle.std.{specs.{Prelude.{Result, Ok, Err}, Option.option_map_or, List.{AllPairs, list_any}}, proofs.Common.{◌⊎◌, inl, inr, Bool, cond, Option, Some}}
use Rattle.std.proofs.Common.{None, subst, length-append, ◌≡◌, ◌≢◌, ◌<◌, ◌≤◌, ◌+◌, ℕ, zero, suc, true, false, List, [], ◌∷◌, ◌++◌, length, map, codes, refl}
use Rattle.std.proofs.{Common.{ap, ◌∙◌, sym, get_or, arith}, lemmas.List.{Quantifiers.all_pairs_push, get_or-map, length-map, Folds.list_any_at}}
use Rattle.std.proofs.lemmas.Slice.Eq.{bytes_eq-Decides}
use Rattle.toml.specs.Data.{Items, no_items, item}
use Rattle.spl_registry.specs.Nodes.{entries_from, entry_of, items_len, Entry, Differ, IsRegistry, knows, is_of, entry_ids, local, local_entries}
use Rattle.spl_registry.specs.declared.fault.RegistryFault.TheVariants.{BadEntry, Repeated}

bool_cases : (b : Bool) → (b ≡ true) ⊎ (b ≡ false)
bool_cases true = inl refl
bool_cases false = inr refl

no_err : {E A : Type 0} {e : E} {x : A} → Err e ≡ Ok x → ⊥
no_err h = cc

-- a node that isn't among them differs from each of them
pub apart_more : (es : List Entry) (e : Entry) → AllPairs Differ es → knows es e.identity ≡ false → AllPairs Differ (es ++ e ∷ [])
apart_more es e apart new =
    all_pairs_push Differ es e apart
    (λ k d lt same. let found : knows es e.identity ≡ true = list_any_at (is_of e.identity) es k d lt ((bytes_eq-Decides _ _).1 same) in
    absurd (differ (sym new ∙ found)))
  where
    differ : false ≡ true → ⊥
    differ h = cc

-- what is read has nodes of different ids, and no more than there are items
pub read_apart : (ds : Items) (found es : List Entry) (i : ℕ) → AllPairs Differ found → entries_from found i ds ≡ Ok es
    → AllPairs Differ es × (length es ≤ length found + items_len ds)
read_apart no_items found es i apart e = let same : found ≡ es = cc in (subst (AllPairs Differ) same apart, omega (arith, ap length same))
read_apart (item d ds) found es i apart e = go (entry_of d) e (λ x. read_apart ds (found ++ x ∷ []) es (i + 1))
  where
    known : (x : Entry) → (knows found x.identity ≡ true) ⊎ (knows found x.identity ≡ false)
        → (cond (knows found x.identity) (Err (Repeated i)) (entries_from (found ++ x ∷ []) (i + 1) ds)) ≡ Ok es
        → (entries_from (found ++ x ∷ []) (i + 1) ds ≡ Ok es) × (knows found x.identity ≡ false)
    known x (inl k) h = absurd (no_err (rw k at h))
    known x (inr k) h = ((rw k at h), k)

    go : (o : Option Entry) → option_map_or (λ (x : Entry). cond (knows found x.identity) (Err (Repeated i)) (entries_from (found ++ x ∷ []) (i + 1) ds)) o
        (Err (BadEntry i)) ≡ Ok es
        → ((x : Entry) → AllPairs Differ (found ++ x ∷ []) → entries_from (found ++ x ∷ []) (i + 1) ds ≡ Ok es
        → AllPairs Differ es × (length es ≤ length (found ++ x ∷ []) + items_len ds)) → AllPairs Differ es × (length es ≤ length found + (items_len ds + 1))
    go None h onward = absurd (no_err h)
    go (Some x) h onward =
        let k = known x (bool_cases (knows found x.identity)) h in
        let rest = onward x (apart_more found x apart k.1) k.0 in
        (rest.0, omega (arith, rest.1, length-append found (x ∷ [])))

pub read_is_registry : (ds : Items) (es : List Entry) → items_len ds ≤ 16 → entries_from [] 1 ds ≡ Ok es → IsRegistry es
read_is_registry ds es few e =
    let all = read_apart ds [] es 1 (λ i j d lt end. absurd (omega (arith, end))) e in record { few = omega (arith, all.1, few); apart = all.0 }

-- the ids of nodes that differ
pub ids_apart : (es : List Entry) → AllPairs Differ es → AllPairs (λ a b. a ≢ b) (entry_ids es)
ids_apart es apart = λ i j d lt end same.
    let none : Entry = record { identity = d; endpoint = [] } in
    let last : j < length es = omega (arith, end, length-map es (λ (e : Entry). e.identity)) in
    let at : (k : ℕ) → k < length es → get_or (entry_ids es) k d ≡ (get_or es k none).identity =
    λ k within. get_or-map (λ (e : Entry). e.identity) es k none d within in
    apart i j none lt last (sym (at i (omega (arith, lt, last))) ∙ same ∙ at j last)

-- nodes of different ids
pub made_is_registry : (ids : List (List ℕ)) → length ids ≤ 16 → AllPairs (λ a b. a ≢ b) ids → IsRegistry (local_entries ids)
made_is_registry ids few apart = record {
  few = omega (arith, few, length-map ids local);
  apart = λ i j d lt end same.
      let last : j < length ids = omega (arith, end, length-map ids local) in
      apart i j d.identity lt last (sym (at i d (omega (arith, lt, last))) ∙ same ∙ at j d last);
}
  where
    at : (k : ℕ) (d : Entry) → k < length ids → (get_or (local_entries ids) k d).identity ≡ get_or ids k d.identity
    at k d lt = ap (λ (e : Entry). e.identity) (get_or-map local ids k d.identity d lt)
