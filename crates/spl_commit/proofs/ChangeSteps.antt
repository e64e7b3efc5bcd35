-- Durable changes, by entries.
use Rattle.std.specs.{Prelude.{Option, Some, None, is_none, nat_lt, ◌==◌}, List.{Contains, IsDistinct, list_any}, Map.{lookup, keys_of}, Cmp.IsEquivalence}
use Rattle.std.proofs.Common.{◌≡◌, ◌⊎◌, ◌↔◌, ℕ, suc, ◌-◌, ◌^◌, ◌<◌, Bool, true, false, ◌&&◌, ◌||◌, List, [], ◌∷◌, length, refl, sym, ap, subst, ◌∙◌, inl, inr}
use Rattle.std.proofs.{Common.arith, lemmas.Map.Views.lookup-from_Contains}
use Rattle.spl_agree.specs.{Member.{Member, values, found, found_refused, value_of, or_else, known_by}, Fits.has_nothing, declared.reason.Reason.Reason}
use Rattle.spl_agree.proofs.Tests.{bool_cases, or_cases, and_left, and_right, ltb_is, eqb_is}
use Rattle.spl_queue.specs.Lists.{Lists, refusal}
use Rattle.spl_commit.{specs.Views.{seconds, AreKeyed}, proofs.Keyed.lookup-found}

-- what isn't known is neither pending nor refused
pub unknown : {V : Type 0} (p : V → Bool) (m : Member V) → is_none (known_by p m) ≡ true → (found p m.pending ≡ None) × (found_refused p m.refused ≡ None)
unknown {V} p m h = go (found p (values m.history)) (found p m.pending) (found_refused p m.refused) h
  where
    go : (a b : Option V) → (c : Option (V × Reason)) → is_none (or_else a (or_else b (value_of c))) ≡ true → (b ≡ None) × (c ≡ None)
    go None None None h = (refl, refl)
    go None None (Some x) h = cc
    go None (Some x) c h = cc
    go (Some x) b c h = cc

-- an equal value that is pending is there by its key
pub contains-pending : {K V : Type 0} (key : V → K) (p : V → Bool) (v : V) (es : List (K × V)) → ((u : V) → p u ≡ true → u ≡ v) → AreKeyed key es
    → list_any p (seconds es) ≡ true → Contains es (key v, v)
contains-pending key p v [] same k h = cc
contains-pending {K} {V} key p v (e ∷ es) same k h = go (or_cases (p e.1) (list_any p (seconds es)) h) (contains-pending key p v es same k.1)
  where
    first : e.1 ≡ v → e ≡ (key v, v)
    first q = let r : e.0 ≡ key v = k.0 ∙ ap key q in let s : (e.0, e.1) ≡ (key v, v) = rw (r, q) in s

    go : (p e.1 ≡ true) ⊎ (list_any p (seconds es) ≡ true) → (list_any p (seconds es) ≡ true → Contains es (key v, v)) → Contains (e ∷ es) (key v, v)
    go (inl q) ih = (0, omega arith, first (same e.1 q))
    go (inr q) ih = let r : Contains es (key v, v) = ih q in (suc r.0, (let l : r.0 < length es = r.1 in omega arith), r.2)

pub lookup-pending : {K V : Type 0} (eq : K → K → Bool) (key : V → K) (p : V → Bool) (v : V) (k : K) (es : List (K × V)) → IsEquivalence eq → k ≡ key v
    → ((u : V) → p u ≡ true → u ≡ v) → AreKeyed key es → IsDistinct eq (keys_of es) → list_any p (seconds es) ≡ true → lookup (eq k) es ≡ Some v
lookup-pending {K} {V} eq key p v k es laws e same keyed distinct h =
    subst (λ (q : K). lookup (eq q) es ≡ Some v) (sym e) (lookup-from_Contains laws (key v) v es distinct (contains-pending key p v es same keyed h))

-- what a refused value adds
pub refusal-one : {K V : Type 0} (eq : K → K → Bool) (l : Lists K V) (k : K) (v : V) (reason : Reason) → lookup (eq k) l.pending ≡ Some v
    → refusal eq l k (Some reason) ≡ (k, (v, reason)) ∷ []
refusal-one eq l k v reason h = rw h

-- what fits the history
pub commit-room : (n : ℕ) (b : Bool) → (nat_lt n (2 ^ 32 - 1) && b) ≡ true → n < 2 ^ 32 - 1
commit-room n b h = ltb_is n (2 ^ 32 - 1) (and_left (nat_lt n (2 ^ 32 - 1)) b h)

pub commit-good : (a : Bool) (o : Option Reason) → (a && is_none o) ≡ true → o ≡ None
commit-good a None h = refl
commit-good a (Some x) h = absurd (let q : is_none (Some x) ≡ true = and_right a (is_none (Some x)) h in cc)

-- the value under a key, against an equal one that is pending
pub same-pending : {K V : Type 0} (eq : K → K → Bool) (key : V → K) (same : V → V → Bool) (q : V → Bool) (v u : V) (es : List (K × V)) → IsEquivalence eq
    → ((a b : V) → (same a b ≡ true) ↔ (a ≡ b)) → ((a : V) → eq (key v) (key a) ≡ q a) → AreKeyed key es → IsDistinct eq (keys_of es)
    → found q (seconds es) ≡ Some u → same u v ≡ list_any (λ a. same a v) (seconds es)
same-pending {K} {V} eq key same q v u es laws is h keyed distinct f = go (bool_cases (list_any (λ a. same a v) (seconds es)))
  where
    by_key : (x : Option V) → x ≡ Some v → x ≡ Some u → u ≡ v
    by_key None a b = cc
    by_key (Some x) a b = cc

    at : list_any (λ a. same a v) (seconds es) ≡ true → u ≡ v
    at t = by_key (lookup (eq (key v)) es) (lookup-pending eq key (λ a. same a v) v (key v) es laws refl (λ a. (is a v).0) keyed distinct t)
        (lookup-found (eq (key v)) key q es h keyed ∙ f)

    some_same : (a b : V) → Some a ≡ Some b → a ≡ b
    some_same a b k = cc

    true_or : (b : Bool) → (b || true) ≡ true
    true_or true = refl
    true_or false = refl

    back : (us : List V) → found q us ≡ Some u → same u v ≡ true → list_any (λ a. same a v) us ≡ true
    back [] e k = cc
    back (x ∷ xs) e k = one (bool_cases (q x)) (λ z. back xs z k)
      where
        one : (q x ≡ true) ⊎ (q x ≡ false) → (found q xs ≡ Some u → list_any (λ a. same a v) xs ≡ true) → list_any (λ a. same a v) (x ∷ xs) ≡ true
        one (inl t) ih = let y : x ≡ u = some_same x u (rw t at e) in rw (y, k)
        one (inr t) ih = rw (ih (rw t at e)) (true_or (same x v))

    go : (list_any (λ a. same a v) (seconds es) ≡ true) ⊎ (list_any (λ a. same a v) (seconds es) ≡ false) → same u v ≡ list_any (λ a. same a v) (seconds es)
    go (inl t) = (is u v).1 (at t) ∙ sym t
    go (inr t) = other (bool_cases (same u v))
      where
        other : (same u v ≡ true) ⊎ (same u v ≡ false) → same u v ≡ list_any (λ a. same a v) (seconds es)
        other (inl k) = k ∙ sym (back (seconds es) f k)
        other (inr k) = k ∙ sym t

pub none-pending : {K V : Type 0} (eq : K → K → Bool) (key : V → K) (same : V → V → Bool) (q : V → Bool) (v : V) (es : List (K × V)) → IsEquivalence eq
    → ((a b : V) → (same a b ≡ true) ↔ (a ≡ b)) → ((a : V) → eq (key v) (key a) ≡ q a) → AreKeyed key es → IsDistinct eq (keys_of es)
    → found q (seconds es) ≡ None → false ≡ list_any (λ a. same a v) (seconds es)
none-pending {K} {V} eq key same q v es laws is h keyed distinct f = go (bool_cases (list_any (λ a. same a v) (seconds es)))
  where
    by_key : (x : Option V) → x ≡ Some v → x ≡ None → ⊥
    by_key None a b = cc
    by_key (Some x) a b = cc

    go : (list_any (λ a. same a v) (seconds es) ≡ true) ⊎ (list_any (λ a. same a v) (seconds es) ≡ false) → false ≡ list_any (λ a. same a v) (seconds es)
    go (inl t) =
        absurd (by_key (lookup (eq (key v)) es) (lookup-pending eq key (λ a. same a v) v (key v) es laws refl (λ a. (is a v).0) keyed distinct t)
        (lookup-found (eq (key v)) key q es h keyed ∙ f))
    go (inr t) = sym t

-- equality that is identity
pub identity_by : {V : Type 0} (same same_of : V → V → Bool) → ((a b : V) → same a b ≡ same_of a b) → ((a b : V) → (same_of a b ≡ true) ↔ (a ≡ b))
    → (a b : V) → (same a b ≡ true) ↔ (a ≡ b)
identity_by same same_of h is a b = (λ e. (is a b).0 (sym (h a b) ∙ e), λ e. h a b ∙ (is a b).1 e)

-- where nothing is pending
pub nothing_pending : {V : Type 0} (m : Member V) → has_nothing m ≡ true → m.pending ≡ []
nothing_pending {V} m h = go m.pending (and_left (length m.pending == 0) (is_none m.promise) (and_right (length m.history == 0) _ h))
  where
    go : (us : List V) → (length us == 0) ≡ true → us ≡ []
    go [] k = refl
    go (u ∷ us) k = absurd (let z : length (u ∷ us) ≡ 0 = eqb_is (length (u ∷ us)) 0 k in omega arith)

pub none_found : {V : Type 0} (p : V → Bool) (m : Member V) → has_nothing m ≡ true → found p m.pending ≡ None
none_found {V} p m h = subst (λ (us : List V). found p us ≡ None) (sym (nothing_pending m h)) refl

pub no_entries : {K X : Type 0} (es : List (K × X)) → seconds es ≡ [] → es ≡ []
no_entries [] h = refl
no_entries (e ∷ es) h = cc
