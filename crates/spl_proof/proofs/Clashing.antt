-- Two proofs that lead from one root.
use Rattle.std.{specs.{List.flat_map, Prelude.slice_index_or}, proofs.Common.{◌≡◌, ◌≢◌, ℕ, zero, suc, ◌+◌, ◌<◌, ◌≤◌, List, [], ◌∷◌, ◌++◌, length, get_or}}
use Rattle.std.proofs.{Common.{take, drop, refl, sym, ap, subst, ◌∙◌, arith, add-one, IsTrue}, lemmas.List.{drop_all, take_more, append-nil}}
use Rattle.std.proofs.Math.Seq.{drop-cons}
use Rattle.sha2.specs.Sha256.{sha256}
use Rattle.spl_state.specs.{Root.digit_of, declared.address.Address.Address}
use Rattle.spl_proof.specs.{Forms.level, FormLaws.exact_level, Accepted.{Level, level_bytes, level_digest, end_digest, Leads}, declared.proof.End.End}
use Rattle.spl_proof.specs.declared.proof.End.TheVariants.{Leaf}
use Rattle.spl_base.specs.FormLaws.{prefix_free}

-- both lead down from one digest, after levels that are the same
pub record IsBeside (i : ℕ) (a : Address) (xs ys : List Level) (e f : End) : Type 0 where
  pub digest : List ℕ
  pub first : Leads digest i a (drop i xs) e
  pub second : Leads digest i a (drop i ys) f
  pub same : take i xs ≡ take i ys

at_level : (d : List ℕ) (i : ℕ) (a : Address) (xs : List Level) (e : End) (x : Level) → i < length xs → Leads d i a (drop i xs) e
    → (level_digest (get_or xs i x) ≡ d) × Leads (slice_index_or (get_or xs i x) (digit_of a.0 i) []) (i + 1) a (drop (i + 1) xs) e
at_level d i a xs e x low h =
    let opened = subst (λ ls. Leads d i a ls e) (drop-cons xs i x low) h in
    (opened.0, subst (λ k. Leads (slice_index_or (get_or xs i x) (digit_of a.0 i) []) (i + 1) a (drop k xs) e) (sym (add-one i)) opened.1)

pub level_leads : (d : List ℕ) (i : ℕ) (a : Address) (xs : List Level) (e : End) (x : Level) → x ≡ get_or xs i x → i < length xs
    → Leads d i a (drop i xs) e → level_digest x ≡ d
level_leads d i a xs e x is low h = ap level_digest is ∙ (at_level d i a xs e x low h).0

pub end_leads : (d : List ℕ) (i : ℕ) (a : Address) (xs : List Level) (e : End) → length xs ≤ i → Leads d i a (drop i xs) e → end_digest e ≡ d
end_leads d i a xs e all h = subst (λ ls. Leads d i a ls e) (drop_all i xs all) h

pub beside_more : (i : ℕ) (a : Address) (xs ys : List Level) (e f : End) (d : Level) → i < length xs → i < length ys → get_or xs i d ≡ get_or ys i d
    → IsBeside i a xs ys e f → IsBeside (i + 1) a xs ys e f
beside_more i a xs ys e f d lowx lowy one h = record {
  digest = slice_index_or (get_or xs i d) (digit_of a.0 i) [];
  first = (at_level h.digest i a xs e d lowx h.first).1;
  second = subst (λ l. Leads (slice_index_or l (digit_of a.0 i) []) (i + 1) a (drop (i + 1) ys) f) (sym one) (at_level h.digest i a ys f d lowy h.second).1;
  same = take_more xs i d lowx ∙ ap (λ l. take i xs ++ l ∷ []) one ∙ ap (λ ls. ls ++ get_or ys i d ∷ []) h.same ∙ sym (take_more ys i d lowy);
}

-- levels are the same where their bytes are
pub same_level : (x y : Level) → IsTrue (level.fits x) → IsTrue (level.fits y) → level_bytes x ≡ level_bytes y → x ≡ y
same_level x y hx hy e =
    let tail : flat_map (λ d. d) x ≡ flat_map (λ d. d) y = cc in
    (prefix_free level exact_level x y [] [] hx hy (append-nil (flat_map (λ d. d) x) ∙ tail ∙ sym (append-nil (flat_map (λ d. d) y)))).0

prefix_same : (n : ℕ) (x y s t : List ℕ) → length x ≡ n → length y ≡ n → x ++ s ≡ y ++ t → (x ≡ y) × (s ≡ t)
prefix_same zero [] [] s t hx hy e = (refl, e)
prefix_same zero (u ∷ x) y s t hx hy e = absurd (omega arith)
prefix_same zero [] (v ∷ y) s t hx hy e = absurd (omega arith)
prefix_same (suc n) [] y s t hx hy e = absurd (omega arith)
prefix_same (suc n) (u ∷ x) [] s t hx hy e = absurd (omega arith)
prefix_same (suc n) (u ∷ x) (v ∷ y) s t hx hy e =
    let head : u ≡ v = cc in
    let tail : x ++ s ≡ y ++ t = cc in
    let rest = prefix_same n x y s t (omega arith) (omega arith) tail in
    (ap (λ w. w ∷ x) head ∙ ap (λ z. v ∷ z) rest.0, rest.1)

-- two leaves that differ, with one digest
pub leaf_clash : (x y : End) (a b : Address) (v w p q : List ℕ) → x ≢ y → end_digest x ≡ end_digest y → x ≡ Leaf a v → y ≡ Leaf b w → length a.0 ≡ 35
    → length b.0 ≡ 35 → p ≡ 0 ∷ a.0 ++ v → q ≡ 0 ∷ b.0 ++ w → (p ≢ q) × (sha256 p ≡ sha256 q)
leaf_clash x y a b v w p q differ alike isx isy la lb hp hq = (
  λ e.
      let same : 0 ∷ (a.0 ++ v) ≡ 0 ∷ (b.0 ++ w) = sym hp ∙ e ∙ hq in
      let tail : a.0 ++ v ≡ b.0 ++ w = cc in
      let parts = prefix_same 35 a.0 b.0 v w la lb tail in
      differ (isx ∙ ap (λ l. Leaf (record { 0 = l }) v) parts.0 ∙ ap (λ u. Leaf b u) parts.1 ∙ sym isy),
  ap sha256 hp ∙ sym (ap end_digest isx) ∙ alike ∙ ap end_digest isy ∙ sym (ap sha256 hq),
)
