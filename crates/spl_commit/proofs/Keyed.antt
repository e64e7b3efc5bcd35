-- Entries by keys, and their values.
use Rattle.std.{specs.{Prelude.{Option, Some, None, slice_get}, Option.option_map, Map.{lookup, remove_entry}}, proofs.Common.{◌≡◌, ℕ, zero, suc, Bool, true}}
use Rattle.std.proofs.Common.{false, cond, List, [], ◌∷◌, ◌++◌, length, refl, sym, ap, ◌∙◌}
use Rattle.spl_agree.specs.{Member.{found, found_refused, value_of, or_else, without}, declared.reason.Reason.Reason}
use Rattle.spl_queue.specs.{Lists.Lists, Status.IsStatus, declared.queue.Known.Known}
use Rattle.spl_queue.specs.declared.queue.Known.TheVariants as known
use Rattle.spl_commit.specs.{Views.{seconds, AreKeyed}, Waiting.IsWaiting}

-- two tests that agree
pub found-same : {V : Type 0} (p q : V → Bool) (us : List V) → ((v : V) → p v ≡ q v) → found p us ≡ found q us
found-same p q [] h = refl
found-same p q (u ∷ us) h = rw (h u, found-same p q us h)

pub without-same : {V : Type 0} (p q : V → Bool) (us : List V) → ((v : V) → p v ≡ q v) → without p us ≡ without q us
without-same p q [] h = refl
without-same p q (u ∷ us) h = rw (h u, without-same p q us h)

-- a look-up by key is a search by the keys of values
pub lookup-found : {K V : Type 0} (p : K → Bool) (key : V → K) (q : V → Bool) (es : List (K × V)) → ((v : V) → p (key v) ≡ q v) → AreKeyed key es
    → lookup p es ≡ found q (seconds es)
lookup-found p key q [] h k = refl
lookup-found p key q (e ∷ es) h k = rw (k.0, h e.1, lookup-found p key q es h k.1)

pub lookup-refused : {K V : Type 0} (p : K → Bool) (key : V → K) (q : V → Bool) (es : List (K × (V × Reason))) → ((v : V) → p (key v) ≡ q v)
    → AreKeyed (λ (u : V × Reason). key u.0) es → lookup p es ≡ found_refused q (seconds es)
lookup-refused p key q [] h k = refl
lookup-refused p key q (e ∷ es) h k = rw (k.0, h e.1.0, lookup-refused p key q es h k.1)

pub first-second : {K V : Type 0} (es : List (K × V)) (i : ℕ) → option_map (λ (e : K × V). e.1) (slice_get es i) ≡ slice_get (seconds es) i
first-second [] i = refl
first-second (e ∷ es) zero = refl
first-second (e ∷ es) (suc i) = first-second es i

pub remove-without : {K V : Type 0} (p : K → Bool) (key : V → K) (q : V → Bool) (es : List (K × V)) → ((v : V) → p (key v) ≡ q v) → AreKeyed key es
    → seconds (remove_entry p es) ≡ without q (seconds es)
remove-without {K} {V} p key q [] h k = refl
remove-without {K} {V} p key q (e ∷ es) h k = let t : p e.0 ≡ q e.1 = ap p k.0 ∙ h e.1 in rw t (go (q e.1) (remove-without p key q es h k.1))
  where
    go : (b : Bool) → seconds (remove_entry p es) ≡ without q (seconds es)
        → seconds (cond b es (e ∷ remove_entry p es)) ≡ cond b (seconds es) (e.1 ∷ without q (seconds es))
    go true r = refl
    go false r = ap (λ us. e.1 ∷ us) r

pub keyed-remove : {K X : Type 0} (p : K → Bool) (key : X → K) (es : List (K × X)) → AreKeyed key es → AreKeyed key (remove_entry p es)
keyed-remove p key [] k = tt
keyed-remove {K} {X} p key (e ∷ es) k = go (p e.0) (keyed-remove p key es k.1)
  where
    go : (b : Bool) → AreKeyed key (remove_entry p es) → AreKeyed key (cond b es (e ∷ remove_entry p es))
    go true r = k.1
    go false r = (k.0, r)

pub keyed-more : {K X : Type 0} (key : X → K) (es : List (K × X)) (e : K × X) → AreKeyed key es → e.0 ≡ key e.1 → AreKeyed key (es ++ e ∷ [])
keyed-more key [] e k h = (h, tt)
keyed-more key (x ∷ xs) e k h = (k.0, keyed-more key xs e k.1 h)

pub seconds-more : {K X : Type 0} (es : List (K × X)) (e : K × X) → seconds (es ++ e ∷ []) ≡ seconds es ++ e.1 ∷ []
seconds-more [] e = refl
seconds-more (x ∷ xs) e = ap (λ us. x.1 ∷ us) (seconds-more xs e)

pub length-seconds : {K X : Type 0} (es : List (K × X)) → length (seconds es) ≡ length es
length-seconds [] = refl
length-seconds (x ∷ xs) = ap suc (length-seconds xs)

pub ruleset view_facts = (first-second, length-seconds)

-- what a queue says of a key, by the values
pub waits-by_status : {K V : Type 0} (eq : K → K → Bool) (key : V → K) (k : K) (q : V → Bool) (l : Lists K V) (pending : List V)
    (refused : List (V × Reason)) (r : Known V) → ((v : V) → eq k (key v) ≡ q v) → AreKeyed key l.pending
    → AreKeyed (λ (u : V × Reason). key u.0) l.refused → seconds l.pending ≡ pending → seconds l.refused ≡ refused → IsStatus eq l k r
    → IsWaiting (found q pending) (found_refused q refused) r
waits-by_status {K} {V} eq key k q l pending refused r h kp kr ep er s = go r s
  where
    one : lookup (eq k) l.pending ≡ found q pending
    one = lookup-found (eq k) key q l.pending h kp ∙ ap (found q) ep

    two : lookup (eq k) l.refused ≡ found_refused q refused
    two = lookup-refused (eq k) key q l.refused h kr ∙ ap (found_refused q) er

    go : (x : Known V) → IsStatus eq l k x → IsWaiting (found q pending) (found_refused q refused) x
    go known.No s = (sym one ∙ s.0, sym two ∙ s.1)
    go (known.Pending u) s = sym one ∙ s
    go (known.Refused u reason) s = (sym one ∙ s.0, sym two ∙ s.1)

-- the value that it is about
abbrev pub told_of : {V : Type 0} → Known V → Option V
told_of known.No = None
told_of (known.Pending u) = Some u.now
told_of (known.Refused u reason) = Some u.now

pub known-waiting : {V : Type 0} (h : Option V) (pending : Option V) (refused : Option (V × Reason)) (r : Known V) → h ≡ None → IsWaiting pending refused r
    → told_of r ≡ or_else h (or_else pending (value_of refused))
known-waiting h pending refused known.No e w = rw (e, w.0, w.1)
known-waiting h pending refused (known.Pending u) e w = rw (e, w)
known-waiting h pending refused (known.Refused u reason) e w = rw (e, w.0, w.1)
