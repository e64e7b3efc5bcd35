-- The packed form of a built member makes that member of a new one, and each of its changes fits.
use Rattle.std.{specs.Prelude.{Option, Some, None, nat_lt}, proofs.Common.{◌≡◌, ℕ, ◌+◌, ◌-◌, ◌^◌, ◌<◌, ◌≤◌, Bool, true, List, [], ◌∷◌, ◌++◌, append_assoc}}
use Rattle.std.proofs.Common.{append-nil, length, refl, sym, ap, subst, ◌∙◌, arith}
use Rattle.spl_agree.specs.{Member.{Rules, Member, values, new_member, known, changed, changed_by}, Fits.{AllGood, KeysDiffer, fits}, Pack.kept_each}
use Rattle.spl_agree.specs.{Pack.{committed_each, queued_each, promised_one, seen_without, packed_member}, declared.event.GroupChange.GroupChange}
use Rattle.spl_agree.{specs.declared.reason.Reason.Reason, proofs.Tests.lt_is}
use Rattle.spl_agree.specs.declared.event.GroupChange.TheVariants as change
use Rattle.spl_group_safety.proofs.{Sound.values-more, Fits.{length-one, commit-fits, queue-fits}}
use Rattle.spl_cell_rules.proofs.{Keys.{Each, RefusedDiffer}, Built.{IsPromised, IsUnsettled, IsBuilt}}

-- each change fits after those before it, where `may` reports by what is pending which values may be
abbrev pub FitInTurn : {V : Type 0} → Rules V → (List V → V → Bool) → Member V → List (GroupChange V) → Type 0
FitInTurn rules may m [] = Unit {0}
FitInTurn rules may m (x ∷ xs) = (fits rules (may m.pending) m x ≡ true) × FitInTurn rules may (changed rules m x) xs

-- each value may be pending after those before it
abbrev pub MayInTurn : {V : Type 0} → (List V → V → Bool) → List V → List V → Type 0
MayInTurn may before [] = Unit {0}
MayInTurn may before (v ∷ vs) = (may before v ≡ true) × MayInTurn may (before ++ v ∷ []) vs

-- a member where no round is open
abbrev pub member : {V : Type 0} → List (ℕ × V) → List V → List (V × Reason) → Option (ℕ × V) → ℕ → ℕ → Member V
member h p r o s n = record { history = h; pending = p; refused = r; promise = o; seen = s; next = n; opened = None }

module _ {V : Type 0} (rules : Rules V) (may : List V → V → Bool) where
  pub fit-append : (m : Member V) (xs ys : List (GroupChange V)) → FitInTurn rules may m xs → FitInTurn rules may (changed_by rules m xs) ys
      → FitInTurn rules may m (xs ++ ys)
  fit-append m [] ys f g = g
  fit-append m (x ∷ xs) ys f g = (f.0, fit-append (changed rules m x) xs ys f.1 g)

  pub by-append : (m : Member V) (xs ys : List (GroupChange V)) → changed_by rules m (xs ++ ys) ≡ changed_by rules (changed_by rules m xs) ys
  by-append m [] ys = refl
  by-append m (x ∷ xs) ys = by-append (changed rules m x) xs ys

  -- changes that fit and lead from a member to another one
  pub record Leads (m n : Member V) (xs : List (GroupChange V)) : Type 0 where
    pub fit : FitInTurn rules may m xs
    pub gives : changed_by rules m xs ≡ n

  leads-both : (k m n : Member V) (xs ys : List (GroupChange V)) → Leads k m xs → Leads m n ys → Leads k n (xs ++ ys)
  leads-both k m n xs ys f g = record {
    fit = fit-append k xs ys f.fit (subst (λ (z : Member V). FitInTurn rules may z ys) (sym f.gives) g.fit);
    gives = by-append k xs ys ∙ (ap (λ (z : Member V). changed_by rules z ys) f.gives ∙ g.gives);
  }

  -- ---- the refused values

  lead-kept : (s n : ℕ) (before us : List (V × Reason)) → RefusedDiffer rules before us
      → Leads (member [] [] before None s n) (member [] [] (before ++ us) None s n) (kept_each us)
  lead-kept s n before [] d = record { fit = tt; gives = ap (λ (z : List (V × Reason)). member [] [] z None s n) (sym (append-nil before)) }
  lead-kept s n before (u ∷ us) d =
      let rest : Leads (member [] [] (before ++ u ∷ []) None s n) (member [] [] ((before ++ u ∷ []) ++ us) None s n) (kept_each us) =
      lead-kept s n (before ++ u ∷ []) us d.1 in
      record {
        fit = (rw d.0, rest.fit);
        gives = rest.gives ∙ ap (λ (z : List (V × Reason)). member [] [] z None s n) (append_assoc before (u ∷ []) us);
      }

  -- ---- the history

  lead-committed : (r : List (V × Reason)) (s n : ℕ) (before es : List (ℕ × V)) → AllGood rules (values before) (values es)
      → length before + length es ≤ 2 ^ 32 - 1 → Leads (member before [] r None s n) (member (before ++ es) [] r None s n) (committed_each es)
  lead-committed r s n before [] g l = record { fit = tt; gives = ap (λ (z : List (ℕ × V)). member z [] r None s n) (sym (append-nil before)) }
  lead-committed r s n before (e ∷ es) g l =
      let one : length (before ++ e ∷ []) ≡ length before + 1 = length-one before e in
      let more : values (before ++ e ∷ []) ≡ values before ++ e.1 ∷ [] = values-more before e in
      let rest : Leads (member (before ++ e ∷ []) [] r None s n) (member ((before ++ e ∷ []) ++ es) [] r None s n) (committed_each es)
      = lead-committed r s n (before ++ e ∷ []) es (subst (λ (z : List V). AllGood rules z (values es)) (sym more) g.1) (omega arith) in
      record {
        fit = (commit-fits rules (may []) (member before [] r None s n) e.0 e.1 (omega arith) g.0, rest.fit);
        gives = rest.gives ∙ ap (λ (z : List (ℕ × V)). member z [] r None s n) (append_assoc before (e ∷ []) es);
      }

  -- ---- the pending values

  lead-queued : (h : List (ℕ × V)) (r : List (V × Reason)) (s n : ℕ) (before us : List V) → KeysDiffer rules before us → Each (IsUnsettled rules h r) us
      → MayInTurn may before us → length before + length us ≤ 64 → Leads (member h before r None s n) (member h (before ++ us) r None s n) (queued_each us)
  lead-queued h r s n before [] d u a l = record { fit = tt; gives = ap (λ (z : List V). member h z r None s n) (sym (append-nil before)) }
  lead-queued h r s n before (v ∷ vs) d u a l =
      let one : length (before ++ v ∷ []) ≡ length before + 1 = length-one before v in
      let none : known rules (member h before r None s n) v ≡ None = rw (u.0.0, d.0, u.0.1) in
      let rest : Leads (member h (before ++ v ∷ []) r None s n) (member h ((before ++ v ∷ []) ++ vs) r None s n) (queued_each vs)
      = lead-queued h r s n (before ++ v ∷ []) vs d.1 u.1 a.1 (omega arith) in
      record {
        fit = (queue-fits rules (may before) (member h before r None s n) v none (omega arith) a.0, rest.fit);
        gives = rest.gives ∙ ap (λ (z : List V). member h z r None s n) (append_assoc before (v ∷ []) vs);
      }

  -- ---- the promise

  lead-promised : (h : List (ℕ × V)) (p : List V) (r : List (V × Reason)) (o : Option (ℕ × V)) (s n : ℕ)
      → ((e : ℕ × V) → o ≡ Some e → IsPromised rules (member h p r o s n) e)
      → Leads (member h p r None (seen_without o s) n) (member h p r o s n) (promised_one o)
  lead-promised h p r None s n f = record { fit = tt; gives = refl }
  lead-promised h p r (Some e) s n f =
      let k : IsPromised rules (member h p r (Some e) s n) e = f e refl in
      let newer : nat_lt 0 e.0 ≡ true = lt_is 0 e.0 k.begun in
      let room : nat_lt (length h) (2 ^ 32 - 1) ≡ true = lt_is (length h) (2 ^ 32 - 1) k.room in
      record {
        fit = (rw (newer, room, k.good), tt);
        gives = ap (λ (z : ℕ). member h p r (Some e) z n) (sym k.seen);
      }

  -- ---- all of it

  lead-restored : (s n : ℕ) → 0 < n → n < 2 ^ 64 → Leads new_member (member [] [] [] None s n) (change.Restore n s ∷ [])
  lead-restored s n a b =
      let first : nat_lt 0 n ≡ true = lt_is 0 n a in
      let last : nat_lt n (2 ^ 64) ≡ true = lt_is n (2 ^ 64) b in
      record { fit = (rw (first, last), tt); gives = refl }

  lead-packed : (h : List (ℕ × V)) (p : List V) (r : List (V × Reason)) (o : Option (ℕ × V)) (s n : ℕ) → IsBuilt rules (member h p r o s n)
      → MayInTurn may [] p → Leads new_member (member h p r o s n) (packed_member (member h p r o s n))
  lead-packed h p r o s n b a =
      let t : ℕ = seen_without o s in
      leads-both new_member (member [] [] [] None t n) (member h p r o s n) (change.Restore n t ∷ []) _ (lead-restored t n b.begun b.bounded)
      (leads-both (member [] [] [] None t n) (member [] [] r None t n) (member h p r o s n) (kept_each r) _ (lead-kept t n [] r b.refused_differ)
      (leads-both (member [] [] r None t n) (member h [] r None t n) (member h p r o s n) (committed_each h) _
      (lead-committed r t n [] h b.good (omega (arith, b.room)))
      (leads-both (member h [] r None t n) (member h p r None t n) (member h p r o s n) (queued_each p) _
      (lead-queued h r t n [] p b.pending_differ b.unsettled a (omega (arith, b.few)))
      (lead-promised h p r o s n b.promised))))

  -- a built member is made of a new one by its packed form
  pub rebuilt : (m : Member V) → IsBuilt rules m → MayInTurn may [] m.pending → Leads new_member m (packed_member m)
  rebuilt m b a =
      let same : member m.history m.pending m.refused m.promise m.seen m.next ≡ m = ap (λ (o : Option (ℕ × List ℕ)). record m { opened = o }) (sym b.shut) in
      subst (λ (z : Member V). Leads new_member z (packed_member z)) same
      (lead-packed m.history m.pending m.refused m.promise m.seen m.next (subst (λ (z : Member V). IsBuilt rules z) (sym same) b) a)
