-- A lone part, in the words of the code's goals.
use Rattle.std.{specs.{Prelude.if◌then◌else◌, Map.{lookup, remove_entry}, BTreeMap.{insert_entry, is_at}}, proofs.Common.{◌≡◌, ℕ, ◌+◌, ◌-◌, ◌<◌, ◌≤◌, Bool}}
use Rattle.std.proofs.Common.{true, false, List, [], ◌∷◌, ◌++◌, length, min, Result, IfOk, OnOk, OnErr, Option, None, Some, IfSome, refl, sym, ap, subst, ◌∙◌}
use Rattle.std.proofs.Common.{arith, add-one, replicate, is_some, Box, Global}
use Rattle.spl_state.specs.{Entries.Entry, Root.{digit_of, joined}, Levels.node_of, Digits.{tail_cmp, same_digits, shares}, Runs.{AllAlong, IsFirstApart}}
use Rattle.spl_state.specs.{Runs.raised, Part.{Part, Run}, Kept.{AllDigit, IsShaped, IsKept, IsThin, entries_of, is_inner, thin_run, IsLeft, IsParting}}
use Rattle.spl_state.specs.{Kept.CanStand, declared.{address.Address.Address, tree.{Body.{Body, TheVariants.{Empty, Leaf, Thin, Inner}}, Tree.Tree}}}
use Rattle.spl_state.proofs.{Bytes.remove_none, Digits.{same_alike, same_digit}, Nodes.node_of-none, Parts.node_of_single, Runs.{along_above, along_below}}
use Rattle.spl_state.proofs.Runs.{along_digit, along_by, lookup_along, lookup_apart, insert_along, along_inserted, remove_along, along_removed, shares_along}
use Rattle.spl_state.proofs.{Runs.{shares_whole, shares_none, raised_is}, Steps.{on_ok, on_err, where_err, either, former_by}}

pub joined_none : (part : ℕ → List ℕ) → joined part 0 ≡ []
unfolding joined
joined_none part = refl

pub joined_more : (part : ℕ → List ℕ) (m : ℕ) → joined part (m + 1) ≡ joined part m ++ part m
unfolding joined
joined_more part m = rw add-one refl

-- The digest.

pub few_below : (m n k l : ℕ) (es : List Entry) → length es < 2 → node_of m k es ≡ node_of n l es
few_below m n k l [] h = node_of-none m k ∙ sym (node_of-none n l)
few_below m n k l (e ∷ []) h = node_of_single m n k l (e ∷ []) refl
few_below m n k l (e ∷ f ∷ es) h = absurd (omega arith)

-- of entries that stand higher than their part
pub raised_part : (d size : ℕ) (path : Address) (part : Part) (below : List ℕ) → d ≤ part.depth → part.depth ≤ 70 → AllAlong part.depth d path part.entries
    → below ≡ node_of (70 - part.depth) part.depth part.entries
    → size ≡ min (length part.entries) 2 → 2 ≤ size → raised (part.depth - d) d path below ≡ node_of (70 - d) d part.entries
raised_part d size path part below low high h e sized many = raised_is d part.depth path part.entries below low high h (omega arith) e

pub few_raised : (d size : ℕ) (part : Part) (below : List ℕ) → below ≡ node_of (70 - part.depth) part.depth part.entries
    → size ≡ min (length part.entries) 2 → size < 2 → below ≡ node_of (70 - d) d part.entries
few_raised d size part below e sized few = e ∙ few_below (70 - part.depth) (70 - d) part.depth d part.entries (omega arith)

-- A look-up.

pub found_in : (d : ℕ) (path : Address) (k : ℕ) (a : Address) (es : List Entry) (part : Part) → IsThin d path part
    → same_digits (part.depth - d) d a path ≡ true → d ≡ k → part.entries ≡ es
    → lookup (is_at (tail_cmp part.depth a)) part.entries ≡ lookup (is_at (tail_cmp k a)) es
found_in d path k a es part h at depth all =
    lookup_along d part.depth a part.entries (omega (arith, h.low)) h.high (along_by d part.depth a path part.entries at h.digits)
    ∙ ap (λ n. lookup (is_at (tail_cmp n a)) part.entries) depth ∙ ap (λ xs. lookup (is_at (tail_cmp k a)) xs) all

pub found_not : (d : ℕ) (path : Address) (k : ℕ) (a : Address) (es : List Entry) (part : Part) → IsThin d path part
    → same_digits (part.depth - d) d a path ≡ false → d ≡ k → part.entries ≡ es
    → None ≡ lookup (is_at (tail_cmp k a)) es
found_not d path k a es part h not depth all =
    sym (lookup_apart d part.depth a path part.entries (omega (arith, h.low)) h.high not h.digits)
    ∙ ap (λ n. lookup (is_at (tail_cmp n a)) part.entries) depth ∙ ap (λ xs. lookup (is_at (tail_cmp k a)) xs) all

pub former_in : {E : Type 0} (r : Result Bool E) (v : List ℕ) (d : ℕ) (path : Address) (k : ℕ) (a : Address) (es : List Entry) (part : Part)
    → IsThin d path part → same_digits (part.depth - d) d a path ≡ true → d ≡ k → part.entries ≡ es
    → IfOk r (λ b. (if b then Some v else None) ≡ lookup (is_at (tail_cmp part.depth a)) part.entries)
    → IfOk r (λ b. (if b then Some v else None) ≡ lookup (is_at (tail_cmp k a)) es)
former_in r v d path k a es part h at depth all = former_by r v _ _ (found_in d path k a es part h at depth all)

pub missing_in : {T E : Type 0} (r : Result T E) (d : ℕ) (path : Address) (k : ℕ) (a : Address) (es : List Entry) (part : Part) → IsThin d path part
    → same_digits (part.depth - d) d a path ≡ true → d ≡ k → part.entries ≡ es
    → OnErr r (lookup (is_at (tail_cmp part.depth a)) part.entries ≡ None) → OnErr r (lookup (is_at (tail_cmp k a)) es ≡ None)
missing_in r d path k a es part h at depth all = on_err r (λ e. sym (found_in d path k a es part h at depth all) ∙ e)

-- A digest below.

pub shares_in : (m d : ℕ) (path : Address) (k : ℕ) (a : Address) (es : List Entry) (part : Part) → IsThin d path part
    → same_digits (part.depth - d) d a path ≡ true → part.depth ≤ m → d ≡ k → part.entries ≡ es
    → shares m part.depth a part.entries ≡ shares m k a es
shares_in m d path k a es part h at deep depth all =
    shares_along d part.depth m a part.entries (omega (arith, h.low)) deep (along_by d part.depth a path part.entries at h.digits)
    ∙ ap (λ n. shares m n a part.entries) depth ∙ ap (λ xs. shares m k a xs) all

-- none of the entries has the address's digits
pub digest_not : (m e d : ℕ) (path : Address) (k : ℕ) (a : Address) (es : List Entry) (part : Part) → IsThin d path part
    → same_digits (e - d) d a path ≡ false → d ≤ e → e ≤ m → e ≤ part.depth → d ≡ k → part.entries ≡ es
    → replicate 32 0 ≡ node_of (70 - m) m (shares m k a es)
digest_not m e d path k a es part h not low high within depth all =
    sym (node_of-none (70 - m) m) ∙ ap (node_of (70 - m) m)
    (sym (shares_none d e m a path part.entries low high not (along_above d e part.depth path part.entries low within h.digits))
    ∙ ap (λ n. shares m n a part.entries) depth ∙ ap (λ xs. shares m k a xs) all)

-- all of them have
pub digest_along : (m d : ℕ) (path : Address) (k : ℕ) (a : Address) (es : List Entry) (part : Part) (r : List ℕ) → r ≡ node_of (70 - m) m part.entries
    → IsThin d path part → same_digits (m - d) d a path ≡ true → d ≤ m → m ≤ part.depth
    → d ≡ k → part.entries ≡ es → r ≡ node_of (70 - m) m (shares m k a es)
digest_along m d path k a es part r digest h at low within depth all =
    digest ∙ ap (node_of (70 - m) m)
    (sym (shares_whole d m a part.entries (along_by d m a path part.entries at (along_above d m part.depth path part.entries low within h.digits)))
    ∙ ap (λ n. shares m n a part.entries) depth ∙ ap (λ xs. shares m k a xs) all)

-- An insertion and a removal.

pub thin_inserted : {T E : Type 0} (r : Result T E) (d : ℕ) (path : Address) (a : Address) (v : List ℕ) (p old : Part) → IsThin d path old
    → same_digits (old.depth - d) d a path ≡ true → p.depth ≡ old.depth
    → OnOk r (p.entries ≡ insert_entry (tail_cmp old.depth) old.entries a v) → OnErr r (p.entries ≡ old.entries) → IsThin d path p
thin_inserted r d path a v p old h at depth good bad = record {
  low = subst (λ n. d < n) (sym depth) h.low;
  high = subst (λ n. n ≤ 70) (sym depth) h.high;
  digits = subst (λ n. AllAlong n d path p.entries) (sym depth) (either r
      (λ e. subst (AllAlong old.depth d path) (sym e) (along_inserted d old.depth path (tail_cmp old.depth) a old.entries v at h.digits))
      (λ e. subst (AllAlong old.depth d path) (sym e) h.digits) good bad);
}

pub entries_in : {T E : Type 0} (r : Result T E) (d : ℕ) (path : Address) (k : ℕ) (a : Address) (v : List ℕ) (es : List Entry) (p old : Part)
    → IsThin d path old → same_digits (old.depth - d) d a path ≡ true → d ≡ k → old.entries ≡ es
    → OnOk r (p.entries ≡ insert_entry (tail_cmp old.depth) old.entries a v) → OnOk r (p.entries ≡ insert_entry (tail_cmp k) es a v)
entries_in r d path k a v es p old h at depth all =
    on_ok r (λ e.
    e ∙ insert_along d old.depth a v old.entries (omega (arith, h.low)) h.high (along_by d old.depth a path old.entries at h.digits)
    ∙ ap (λ n. insert_entry (tail_cmp n) old.entries a v) depth ∙ ap (λ xs. insert_entry (tail_cmp k) xs a v) all)

pub thin_removed : (d : ℕ) (path : Address) (t : Address → Bool) (p old : Part) → IsThin d path old → p.depth ≡ old.depth
    → p.entries ≡ remove_entry t old.entries → IsThin d path p
thin_removed d path t p old h depth e = record {
  low = subst (λ n. d < n) (sym depth) h.low;
  high = subst (λ n. n ≤ 70) (sym depth) h.high;
  digits = subst (λ n. AllAlong n d path p.entries) (sym depth)
      (subst (AllAlong old.depth d path) (sym e) (along_removed d old.depth path t old.entries h.digits));
}

pub removed_in : (d : ℕ) (path : Address) (k : ℕ) (a : Address) (es : List Entry) (p old : Part) → IsThin d path old
    → same_digits (old.depth - d) d a path ≡ true → d ≡ k → old.entries ≡ es
    → p.entries ≡ remove_entry (is_at (tail_cmp old.depth a)) old.entries → p.entries ≡ remove_entry (is_at (tail_cmp k a)) es
removed_in d path k a es p old h at depth all e =
    e ∙ remove_along d old.depth a old.entries (omega (arith, h.low)) h.high (along_by d old.depth a path old.entries at h.digits)
    ∙ ap (λ n. remove_entry (is_at (tail_cmp n a)) old.entries) depth ∙ ap (λ xs. remove_entry (is_at (tail_cmp k a)) xs) all

pub removed_not : (d : ℕ) (path : Address) (k : ℕ) (a : Address) (es : List Entry) (part : Part) → IsThin d path part
    → same_digits (part.depth - d) d a path ≡ false → d ≡ k → part.entries ≡ es
    → es ≡ remove_entry (is_at (tail_cmp k a)) es
removed_not d path k a es part h not depth all = sym (remove_none (is_at (tail_cmp k a)) es (sym (found_not d path k a es part h not depth all)))

pub room_path : (d : ℕ) (s : Part) (a path : Address) (part : Part) → d ≡ s.depth → Some (record { path = path; end = part.depth }) ≡ s.thin
    → IfSome s.thin (λ r. same_digits (r.end - s.depth) s.depth a r.path ≡ true)
    → same_digits (part.depth - d) d a path ≡ true
room_path d s a path part depth thin h =
    let is : same_digits (part.depth - s.depth) s.depth a path ≡ true =
    subst (λ x. IfSome x (λ r. same_digits (r.end - s.depth) s.depth a r.path ≡ true)) (sym thin) h in
    ap (λ n. same_digits (part.depth - n) n a path) depth ∙ is

-- where a descent ends, above its end
pub left_path : (d m : ℕ) (s : Part) (a path : Address) (part : Part) → d ≡ s.depth → part.depth ≤ m
    → Some (record { path = path; end = part.depth }) ≡ s.thin → IsLeft m a s → same_digits (part.depth - d) d a path ≡ false
left_path d m s a path part depth low thin h =
    let not : part.depth ≤ m → same_digits (part.depth - s.depth) s.depth a path ≡ false =
    subst (λ x. IfSome x (λ r. r.end ≤ m → same_digits (r.end - s.depth) s.depth a r.path ≡ false)) (sym thin) h in
    ap (λ n. same_digits (part.depth - n) n a path) depth ∙ not low

-- Where an address leaves what stands here.

pub apart_same : (d k m : ℕ) (a b : Address) → IsFirstApart d m a b k → same_digits (k + 1 - d) d a b ≡ false
apart_same d k m a b h = by (same_digits (k + 1 - d) d a b) refl
  where
    by : (t : Bool) → same_digits (k + 1 - d) d a b ≡ t → t ≡ false
    by true is = absurd (h.differ (sym (same_digit d k a b h.low is)))
    by false is = refl

pub missing_apart : {T E : Type 0} (r : Result T E) (a path : Address) (k : ℕ) (s : Part) → IsParting a path k s
    → OnErr r (lookup (is_at (tail_cmp s.depth a)) s.entries ≡ None)
missing_apart r a path k s h =
    let apart = h.apart in
    where_err r (lookup_apart s.depth (k + 1) a path s.entries (omega (arith, apart.low)) (omega (arith, apart.high))
    (apart_same s.depth k 70 a path apart) h.along)

pub leaf_parting : (d k : ℕ) (a at : Address) (v : List ℕ) → IsFirstApart d 70 a at k
    → IsParting a at k (record { depth = d; entries = (at, v) ∷ []; inner = false; thin = None })
leaf_parting d k a at v h = record {
  apart = h;
  along = (same_alike (k + 1 - d) d at at refl, tt);
  stands = record { few = λ p. absurd (grind (arith, p)); above = tt };
}

pub thin_parting : (d k : ℕ) (a path : Address) (part : Part) → IsThin d path part → IsFirstApart d part.depth a path k
    → IsParting a path k (record { depth = d; entries = part.entries; inner = true; thin = Some (record { path = path; end = part.depth }) })
thin_parting d k a path part h apart = record {
  apart = record { low = apart.low; high = omega (arith, h.high, apart.high); same = apart.same; differ = apart.differ };
  along = along_above d (k + 1) part.depth path part.entries (omega (arith, apart.low)) (omega (arith, apart.high)) h.digits;
  stands = record { few = λ p. refl; above = omega (arith, apart.high) };
}

pub parting_above : (a path : Address) (k : ℕ) (s : Part) → IsParting a path k s → AllAlong k s.depth path s.entries
parting_above a path k s h = along_above s.depth k (k + 1) path s.entries (h.apart.low) (omega arith) h.along

pub parting_digit : (a path : Address) (k : ℕ) (s : Part) → IsParting a path k s → AllDigit k (digit_of path.0 k) s.entries
parting_digit a path k s h = along_digit s.depth k path s.entries h.apart.low h.along

above_more : (k : ℕ) (r : Option Run) → IfSome r (λ x. k + 1 ≤ x.end) → IfSome r (λ x. k ≤ x.end)
above_more k None h = tt
above_more k (Some x) h = omega (arith, h)

pub parting_stands : (a path : Address) (k : ℕ) (s : Part) → IsParting a path k s → CanStand k s
parting_stands a path k s h = record { few = h.stands.few; above = above_more k s.thin h.stands.above }

-- What stands lower.

shaped_lower : (d k : ℕ) (body : Body) → d ≤ k → (is_inner body ≡ true → is_some (thin_run body) ≡ true) → IfSome (thin_run body) (λ r. k < r.end)
    → IsShaped d body → IsShaped k body
shaped_lower d k Empty low few above h = tt
shaped_lower d k (Leaf a v) low few above h = tt
shaped_lower d k (Thin path part) low few above h = record {
  low = above;
  high = h.high;
  digits = along_below d k part.value.depth path part.value.entries low (omega (arith, above)) h.digits;
}
shaped_lower d k (Inner kids) low few above h = absurd (grind (arith, few refl))

pub kept_lower : (d k size : ℕ) (fresh b : Bool) (digest : List ℕ) (body : Body) → d ≤ k → (is_inner body ≡ true → is_some (thin_run body) ≡ true)
    → IfSome (thin_run body) (λ r. k < r.end)
    → (b ≡ true → (fresh ≡ true) × (size < 2)) → IsKept d size fresh digest body → IsKept k size b digest body
kept_lower d k size fresh b digest body low few above keeps h = record {
  sized = h.sized;
  digested = λ t. h.digested (keeps t).0 ∙ few_below (70 - d) (70 - k) d k (entries_of body) (omega (arith, h.sized, (keeps t).1));
  shaped = shaped_lower d k body low few above h.shaped;
}

pub no_run : (P : Run → Type 0) (body : Body) → ((path : Address) → (part : Box Tree Global) → body ≡ Thin path part → ⊥) → IfSome (thin_run body) P
no_run P Empty not = tt
no_run P (Leaf a v) not = tt
no_run P (Thin path part) not = absurd (not path part refl)
no_run P (Inner kids) not = tt
