-- What the disks of a registry's nodes make is where a run may begin.
use Rattle.spl_circuit.proofs.Sorting.{has_sorted}
use Rattle.spl_node.specs.{Records.{changes_about, changes_in, is_record, record_in}, Stands.made_cell, Benches.{Images, images_at}}
use Rattle.spl_cell_rules.specs.{Cells.site_at, Changes.applied}
use Rattle.spl_registry.specs.Nodes.{entry_ids, is_of}
use Rattle.spl_snapshot.specs.Counting.{pair_records_of}
use Rattle.spl_wire.specs.declared.record.Record.{Record}
use Rattle.spl_world.{specs.Held.{circuit_in, circuits_at, circuits_of, circuits_on, kept_at, origin_on}, proofs.Common.{◌≡◌, ◌⊎◌, inl, inr, ℕ, zero, suc}}
use Rattle.spl_world.proofs.Common.{◌+◌, ◌<◌, true, false, true≢false, List, [], ◌∷◌, ◌++◌, length, Option, Some, None, refl, ap, sym, ◌∙◌, arith}
use Rattle.spl_world.proofs.Common.{position_from, bytes_eq, bool_cases, NodeId, CircuitId, has_node, Image, IsOrigin, Entry, Empty, Change, Bool, ◌||◌}
use Rattle.spl_world.proofs.{HoldingSeats.{node_below, node_found}, Slots.both_off}

-- ---- ids that aren't listed

has_parts : (xs ys : List CircuitId) (c : CircuitId) → has_node (xs ++ ys) c ≡ false → (has_node xs c ≡ false) × (has_node ys c ≡ false)
has_parts [] ys c h = (refl, h)
has_parts (x ∷ xs) ys c h =
    let off = both_off (bytes_eq x c) (has_node (xs ++ ys) c) h in
    let rest = has_parts xs ys c off.1 in
    (ap (λ (t : Bool). t || has_node xs c) off.0 ∙ rest.0, rest.1)

-- no record is about such a circuit
unlisted_changes : (c : CircuitId) (rs : List (List ℕ)) → has_node (circuits_of rs) c ≡ false → changes_in c rs ≡ []
unlisted_changes c [] h = refl
unlisted_changes c (bytes ∷ rs) h = let parts = has_parts (circuit_in (record_in bytes)) (circuits_of rs) c h in go (record_in bytes) parts.0 ∙ unlisted_changes c rs parts.1
  where
    about : (r : Record) → (bytes_eq r.circuit c ≡ true) ⊎ (bytes_eq r.circuit c ≡ false) → has_node (circuit_in (Some r)) c ≡ false → changes_about c (Some r) ≡ []
    about r (inl q) none = absurd (true≢false (rw q at none))
    about r (inr q) none = rw q refl

    none_about : (r : Option Record) → has_node (circuit_in r) c ≡ false → changes_about c r ≡ []
    none_about None none = refl
    none_about (Some r) none = about r (bool_cases (bytes_eq r.circuit c)) none

    go : (r : Option Record) → has_node (circuit_in r) c ≡ false → changes_about c r ++ changes_in c rs ≡ changes_in c rs
    go r none = ap (λ (xs : List Change). xs ++ changes_in c rs) (none_about r none)

unlisted_made : (n : NodeId) (c : CircuitId) (x y : Option Image) → has_node (circuits_at x y) c ≡ false → made_cell n c x y ≡ Empty
unlisted_made n c (Some i) (Some j) h = ap (applied (site_at n c) Empty) (unlisted_changes c (pair_records_of is_record i.bytes j.bytes) h)
unlisted_made n c (Some i) None h = refl
unlisted_made n c None y h = refl

unlisted_at : (es : List Entry) (is : List Images) (k : ℕ) (c : CircuitId) → k < length es → has_node (circuits_on es is) c ≡ false
    → has_node (circuits_at (images_at is k).0 (images_at is k).1) c ≡ false
unlisted_at [] is k c below h = absurd (omega (arith, below))
unlisted_at (e ∷ es) [] k c below h = refl
unlisted_at (e ∷ es) (p ∷ is) zero c below h = (has_parts (circuits_at p.0 p.1) (circuits_on es is) c h).0
unlisted_at (e ∷ es) (p ∷ is) (suc k) c below h = let rest : k < length es = omega (arith, below) in unlisted_at es is k c rest (has_parts (circuits_at p.0 p.1) (circuits_on es is) c h).1

-- ---- nodes that aren't registered

not_found : (es : List Entry) (n : NodeId) (k : ℕ) → has_node (entry_ids es) n ≡ false → position_from (is_of n) k es ≡ None
not_found [] n k h = refl
not_found (e ∷ es) n k h = elim (bool_cases (is_of n e)) [ inl q ↦ absurd (true≢false (rw q at h)) | inr q ↦ rw q ((not_found es n (k + 1)) (rw q at h)) ]

pub is_origin_on : (es : List Entry) (is : List Images) → IsOrigin (origin_on es is)
is_origin_on es is = record {
  only = λ c n none. ap (kept_at is c n) (not_found es n 0 (sym (has_sorted (entry_ids es) n) ∙ none));
  listed = λ c n none. listed c n none (position_from (is_of n) 0 es) refl;
}
  where
    listed : (c : CircuitId) (n : NodeId) → has_node (circuits_on es is) c ≡ false → (o : Option ℕ) → position_from (is_of n) 0 es ≡ o → kept_at is c n (position_from (is_of n) 0 es) ≡ Empty
    listed c n none None found = ap (kept_at is c n) found
    listed c n none (Some k) found =
        ap (kept_at is c n) found
        ∙ unlisted_made n c (images_at is k).0 (images_at is k).1 (unlisted_at es is k c (node_below es k n (node_found es n k found)) none)
