-- What is spelled is read, and what is read is spelled so: a law for each way to make a spelling.
use Rattle.std.{specs.{List.{list_all, slice_split, join_with_byte}, Option.option_map, Fmt.decimal, Str.bytes_eq}, proofs.Common.{◌≡◌, ℕ, ◌^◌, ◌<◌, ◌≤◌}}
use Rattle.std.proofs.Common.{Bool, true, false, cond, ◌&&◌, eqb, leb, ltb, IsTrue, List, [], ◌∷◌, length, map, Option, Some, None, refl, sym, ap, ◌∙◌, subst}
use Rattle.std.proofs.{Common.arith, lemmas.{Bool.{lt-ltb, ltb-true, leb-true, and_parts, and_from}, List.{length-map, Splits.join_with_byte-slice_split}}}
pub use Rattle.std.proofs.lemmas.Option.{same_Some as some_is}
pub use Rattle.spl_base.specs.Booleans.{bytes_are as same_bytes, bytes_same as itself}
use Rattle.spl_words.specs.Words.{Spelling, Word, Words, Kind, split, ◌>>=◌, text, flag, read_flag, is_decimal, value, number, joined, read_end, end, ◌&◌}
use Rattle.spl_words.{specs.Words.{read_each, up_to, meaning, that, kind, read_kind}, proofs.{Splits.{lacks, split_join, lacks_join}, Numbers.decimal_is}}
use Rattle.spl_words.proofs.Numbers.{value-decimal, decimal-value}

-- what is spelled is read, and what is read is spelled so
pub record IsExact {S A : Type 0} (s : Spelling S A) : Type 0 where
  pub again : (x : A) → IsTrue (s.fits x) → s.read (s.spell x) ≡ Some x
  pub only : (spelled : S) (x : A) → s.read spelled ≡ Some x → (spelled ≡ s.spell x) × IsTrue (s.fits x)

-- a test that passed
pub guard_some : {A : Type 0} (b : Bool) (o : Option A) (x : A) → cond b o None ≡ Some x → IsTrue b × (o ≡ Some x)
guard_some true o x e = (refl, e)
guard_some false o x e = absurd cc

-- a step that gave a value
pub bind_some : {A B : Type 0} (o : Option A) (f : A → Option B) (y : B) → (o >>= f) ≡ Some y → (x : A) × (o ≡ Some x) × (f x ≡ Some y)
bind_some None f y e = absurd cc
bind_some (Some x) f y e = (x, refl, e)

pub map_some : {A B : Type 0} (f : A → B) (o : Option A) (y : B) → option_map f o ≡ Some y → (x : A) × (o ≡ Some x) × (f x ≡ y)
map_some f None y e = absurd cc
map_some f (Some x) y e = (x, refl, cc)

-- ---- single words

pub exact_text : (p : List ℕ → Bool) → IsExact (text p)
exact_text p = record {
  again = λ x h. let passes : p x ≡ true = h in rw passes refl;
  only = λ xs x e. let g = guard_some (p xs) (Some xs) x e in let same : xs ≡ x = some_is xs x g.1 in (same, subst (λ (y : List ℕ). IsTrue (p y)) same g.0);
}

pub exact_number : (limit : ℕ) → limit ≤ 2 ^ 64 → IsExact (number limit)
exact_number limit wide = record {
  again = λ n h.
      let small : n < limit = ltb-true n limit h in
      let below : n < 2 ^ 64 = omega arith in
      let decimals : is_decimal (decimal n) ≡ true = decimal_is n below in
      let same : value (decimal n) ≡ n = value-decimal n below in
      rw (decimals, same, lt-ltb n limit small) refl;
  only = λ xs n e.
      let g = guard_some (is_decimal xs && ltb (value xs) limit) (Some (value xs)) n e in
      let b = and_parts (is_decimal xs) (ltb (value xs) limit) g.0 in
      let same : value xs ≡ n = some_is (value xs) n g.1 in
      let small : value xs < limit = ltb-true (value xs) limit b.1 in
      (sym (decimal-value xs b.0 (omega arith)) ∙ ap decimal same, subst (λ (m : ℕ). IsTrue (ltb m limit)) same b.1);
}

flag_other : (on off xs : List ℕ) (x b : Bool) → bytes_eq xs off ≡ b → cond b (Some false) None ≡ Some x → xs ≡ cond x on off
flag_other on off xs true true same e = absurd cc
flag_other on off xs false true same e = same_bytes xs off same
flag_other on off xs x false same e = absurd cc

flag_only : (on off xs : List ℕ) (x b : Bool) → bytes_eq xs on ≡ b → cond b (Some true) (cond (bytes_eq xs off) (Some false) None) ≡ Some x → xs ≡ cond x on off
flag_only on off xs true true same e = same_bytes xs on same
flag_only on off xs false true same e = absurd cc
flag_only on off xs x false same e = flag_other on off xs x (bytes_eq xs off) refl e

flag_again : (on off : List ℕ) → bytes_eq off on ≡ false → (x : Bool) → read_flag on off (cond x on off) ≡ Some x
flag_again on off other true = rw (itself on) refl
flag_again on off other false = rw (other, itself off) refl

pub exact_flag : (on off : List ℕ) → bytes_eq off on ≡ false → IsExact (flag on off)
exact_flag on off other = record { again = λ x h. flag_again on off other x; only = λ xs x e. (flag_only on off xs x (bytes_eq xs on) refl e, refl) }

-- ---- words in a row

end_only : (ws : List (List ℕ)) (x : Unit {0}) → read_end ws ≡ Some x → (ws ≡ []) × IsTrue true
end_only [] x e = (refl, refl)
end_only (w ∷ ws) x e = absurd cc

pub exact_end : IsExact end
exact_end = record { again = λ x h. refl; only = end_only }

module _ {A B : Type 0} (w : Word A) (ws : Words B) (p : IsExact w) (q : IsExact ws) where
  and_again : (x : A × B) → IsTrue ((w & ws).fits x) → (w & ws).read ((w & ws).spell x) ≡ Some x
  and_again x h = let b = and_parts (w.fits x.0) (ws.fits x.1) h in rw (p.again x.0 b.0, q.again x.1 b.1) refl

  and_only : (xs : List (List ℕ)) (x : A × B) → (w & ws).read xs ≡ Some x → (xs ≡ (w & ws).spell x) × IsTrue ((w & ws).fits x)
  and_only [] x e = absurd cc
  and_only (y ∷ ys) x e =
      let first = bind_some (w.read y >>= λ a. Some (a, ys)) (λ first. ws.read first.1 >>= λ b. Some (first.0, b)) x e in
      let word = bind_some (w.read y) (λ a. Some (a, ys)) first.0 first.1 in
      let rest = bind_some (ws.read first.0.1) (λ b. Some (first.0.0, b)) x first.2 in
      let pair : A × List (List ℕ) = (word.0, ys) in
      let made : A × B = (first.0.0, rest.0) in
      let pair_is : pair ≡ first.0 = some_is pair first.0 word.2 in
      let made_is : made ≡ x = some_is made x rest.2 in
      let one = p.only y word.0 word.1 in
      let others = q.only first.0.1 rest.0 rest.1 in
      let same_word : word.0 ≡ x.0 = ap (λ (z : A × List (List ℕ)). z.0) pair_is ∙ ap (λ (z : A × B). z.0) made_is in
      let same_rest : rest.0 ≡ x.1 = ap (λ (z : A × B). z.1) made_is in
      let left : ys ≡ first.0.1 = ap (λ (z : A × List (List ℕ)). z.1) pair_is in
      let head : y ≡ w.spell x.0 = one.0 ∙ ap w.spell same_word in
      let tail : ys ≡ ws.spell x.1 = left ∙ others.0 ∙ ap ws.spell same_rest in (
        ap (λ (z : List ℕ). z ∷ ys) head ∙ ap (λ (zs : List (List ℕ)). w.spell x.0 ∷ zs) tail,
        and_from (w.fits x.0) (ws.fits x.1) (subst (λ (a : A). IsTrue (w.fits a)) same_word one.1) (subst (λ (b : B). IsTrue (ws.fits b)) same_rest others.1),
      )

  pub exact_and : IsExact (w & ws)
  exact_and = record { again = and_again; only = and_only }

module _ {A : Type 0} (w : Word A) (p : IsExact w) where
  each_again : (xs : List A) → IsTrue (list_all w.fits xs) → read_each w.read (map w.spell xs) ≡ Some xs
  each_again [] h = refl
  each_again (x ∷ xs) h = let b = and_parts (w.fits x) (list_all w.fits xs) h in rw (p.again x b.0, each_again xs b.1) refl

  each_only : (ws : List (List ℕ)) (xs : List A) → read_each w.read ws ≡ Some xs → (ws ≡ map w.spell xs) × IsTrue (list_all w.fits xs)
  each_only [] xs e = let same : [] ≡ xs = some_is [] xs e in subst (λ (ys : List A). ([] ≡ map w.spell ys) × IsTrue (list_all w.fits ys)) same (refl, refl)
  each_only (y ∷ ys) xs e =
      let first = bind_some (w.read y) (λ a. read_each w.read ys >>= λ rest. Some (a ∷ rest)) xs e in
      let rest = bind_some (read_each w.read ys) (λ rest. Some (first.0 ∷ rest)) xs first.2 in
      let made : List A = first.0 ∷ rest.0 in
      let same : made ≡ xs = some_is made xs rest.2 in
      let one = p.only y first.0 first.1 in
      let others = each_only ys rest.0 rest.1 in
      subst (λ (zs : List A). (y ∷ ys ≡ map w.spell zs) × IsTrue (list_all w.fits zs)) same (
        ap (λ (z : List ℕ). z ∷ ys) one.0
            ∙ ap (λ (zs : List (List ℕ)). w.spell first.0 ∷ zs) others.0,
        and_from (w.fits first.0) (list_all w.fits rest.0) one.1 others.1,
      )

  pub exact_up_to : (most : ℕ) → IsExact (up_to most w)
  exact_up_to most = record {
    again = λ xs h.
        let b = and_parts (leb 1 (length xs) && leb (length xs) most) (list_all w.fits xs) h in
        let few : (leb 1 (length xs) && leb (length xs) most) ≡ true = b.0 in
        rw (length-map xs w.spell, few) (each_again xs b.1);
    only = λ ws xs e.
        let g = guard_some (leb 1 (length ws) && leb (length ws) most) (read_each w.read ws) xs e in
        let each = each_only ws xs g.1 in
        let same : length ws ≡ length xs = ap length each.0 ∙ length-map xs w.spell in
        (each.0, and_from (leb 1 (length xs) && leb (length xs) most) (list_all w.fits xs) (subst (λ (n : ℕ). IsTrue (leb 1 n && leb n most)) same g.0) each.1);
  }

-- ---- joined words

-- the words are there, and none has the byte
pub record IsSplit {A : Type 0} (c : ℕ) (ws : Words A) : Type 0 where
  pub some : (x : A) → IsTrue (ws.fits x) → 0 < length (ws.spell x)
  pub each : (x : A) → IsTrue (ws.fits x) → IsTrue (list_all (lacks c) (ws.spell x))

pub exact_joined : {A : Type 0} (c : ℕ) (ws : Words A) → IsSplit c ws → IsExact ws → IsExact (joined c ws)
exact_joined c ws split p = record {
  again = λ x h. rw (split_join c (ws.spell x) (split.some x h) (split.each x h)) (p.again x h);
  only = λ bs x e. let words = p.only (slice_split (λ b. eqb b c) bs) x e in (sym (join_with_byte-slice_split c bs) ∙ ap (join_with_byte c) words.0, words.1);
}

-- ---- another type

pub exact_meaning : {S A B : Type 0} (ok : B → Bool) (to : A → B) (from : B → A) (s : Spelling S A) → ((y : B) → IsTrue (ok y) → to (from y) ≡ y)
    → ((x : A) → IsTrue (s.fits x) → (from (to x) ≡ x) × IsTrue (ok (to x))) → IsExact s → IsExact (meaning ok to from s)
exact_meaning {S} {A} {B} ok to from s there back p = record {
  again = λ y h. let b = and_parts (ok y) (s.fits (from y)) h in rw (p.again (from y) b.1) (ap (λ (z : B). Some z) (there y b.0));
  only = λ bs y e.
      let m = map_some to (s.read bs) y e in
      let o = p.only bs m.0 m.1 in
      let r = back m.0 o.1 in
      subst (λ (z : B). (bs ≡ s.spell (from z)) × IsTrue (ok z && s.fits (from z))) m.2
      (o.0 ∙ ap s.spell (sym r.0), and_from (ok (to m.0)) (s.fits (from (to m.0))) r.1 (subst (λ (x : A). IsTrue (s.fits x)) (sym r.0) o.1));
}

-- ---- a test

passed : {A : Type 0} (ok : A → Bool) (x y : A) → cond (ok x) (Some x) None ≡ Some y → (x ≡ y) × IsTrue (ok y)
passed ok x y e =
    let g = guard_some (ok x) (Some x) y e in
    let same : x ≡ y = some_is x y g.1 in
    (same, subst (λ z. IsTrue (ok z)) same g.0)

pub exact_that : {S A : Type 0} (ok : A → Bool) (s : Spelling S A) → IsExact s → IsExact (that ok s)
exact_that {S} {A} ok s p = record {
  again = λ x h.
      let b = and_parts (ok x) (s.fits x) h in
      let passes : ok x ≡ true = b.0 in
      rw (p.again x b.1, passes) refl;
  only = λ bs y e.
      let m = bind_some (s.read bs) (λ a. cond (ok a) (Some a) None) y e in
      let w = passed ok m.0 y m.2 in
      let o = p.only bs m.0 m.1 in
      (o.0 ∙ ap s.spell w.0, and_from (ok y) (s.fits y) w.1 (subst (λ (x : A). IsTrue (s.fits x)) w.0 o.1));
}

-- ---- kinds

-- what words of the kind mean is spelled so
pub record IsKind {A : Type 0} (spell : A → List (List ℕ)) (fits : A → Bool) (k : Kind A) : Type 0 where
  pub only : (xs : List (List ℕ)) (a : A) → k.read xs ≡ Some a → (k.name ∷ xs ≡ spell a) × IsTrue (fits a)

pub is_kind : {A B : Type 0} (spell : B → List (List ℕ)) (fits : B → Bool) (name : List ℕ) (ws : Words A) (to : A → B) → IsExact ws
    → ((x : A) → IsTrue (ws.fits x) → (name ∷ ws.spell x ≡ spell (to x)) × IsTrue (fits (to x))) → IsKind spell fits (kind name ws to)
is_kind {A} {B} spell fits name ws to p means = record {
  only = λ xs b e.
      let m = map_some to (ws.read xs) b e in
      let o = p.only xs m.0 m.1 in
      let r = means m.0 o.1 in
      subst (λ (z : B). (name ∷ xs ≡ spell z) × IsTrue (fits z)) m.2 (ap (λ (zs : List (List ℕ)). name ∷ zs) o.0 ∙ r.0, r.1);
}

abbrev pub AllKinds : {A : Type 0} → (A → List (List ℕ)) → (A → Bool) → List (Kind A) → Type 0
AllKinds spell fits [] = Unit {0}
AllKinds spell fits (k ∷ ks) = IsKind spell fits k × AllKinds spell fits ks

module _ {A : Type 0} (spell : A → List (List ℕ)) (fits : A → Bool) where
  kind_only : (k : Kind A) (name : List ℕ) (xs : List (List ℕ)) (rest : Option A) (a : A) (b : Bool) → bytes_eq name k.name ≡ b → IsKind spell fits k
      → (rest ≡ Some a → (name ∷ xs ≡ spell a) × IsTrue (fits a)) → cond b (k.read xs) rest ≡ Some a → (name ∷ xs ≡ spell a) × IsTrue (fits a)
  kind_only k name xs rest a true same p q e =
      let o = p.only xs a e in
      (ap (λ (n : List ℕ). n ∷ xs) (same_bytes name k.name same) ∙ o.0, o.1)
  kind_only k name xs rest a false same p q e = q e

  pub kinds_only : (ks : List (Kind A)) (other : Option A) (name : List ℕ) (xs : List (List ℕ)) (a : A) → AllKinds spell fits ks
      → (other ≡ Some a → (name ∷ xs ≡ spell a) × IsTrue (fits a)) → read_kind ks other name xs ≡ Some a → (name ∷ xs ≡ spell a) × IsTrue (fits a)
  kinds_only [] other name xs a all q e = q e
  kinds_only (k ∷ ks) other name xs a all q e =
      kind_only k name xs (read_kind ks other name xs) a (bytes_eq name k.name) refl all.0 (kinds_only ks other name xs a all.1 q) e

-- the spelling of a value is read back
pub read_as : {S A B : Type 0} (ws : Spelling S A) (to : A → B) (x : A) (b : B) → IsExact ws → IsTrue (ws.fits x) → to x ≡ b
    → option_map to (ws.read (ws.spell x)) ≡ Some b
read_as {S} {A} {B} ws to x b p h e = ap (option_map to) (p.again x h) ∙ ap (λ (z : B). Some z) e

-- ---- which bytes a spelling lacks

pub record Lacks {A : Type 0} (c : ℕ) (w : Word A) : Type 0 where
  pub free : (x : A) → IsTrue (w.fits x) → IsTrue (lacks c (w.spell x))

pub record EachLacks {A : Type 0} (c : ℕ) (ws : Words A) : Type 0 where
  pub free : (x : A) → IsTrue (ws.fits x) → IsTrue (list_all (lacks c) (ws.spell x))

pub end_lacks : (c : ℕ) → EachLacks c end
end_lacks c = record { free = λ x h. refl }

pub and_lacks : {A B : Type 0} (c : ℕ) (w : Word A) (ws : Words B) → Lacks c w → EachLacks c ws → EachLacks c (w & ws)
and_lacks c w ws p q =
    record {
      free = λ x h. let b = and_parts (w.fits x.0) (ws.fits x.1) h in
          and_from (lacks c (w.spell x.0)) (list_all (lacks c) (ws.spell x.1)) (p.free x.0 b.0) (q.free x.1 b.1);
    }

each_map : {A : Type 0} (c : ℕ) (w : Word A) → Lacks c w → (xs : List A) → IsTrue (list_all w.fits xs) → IsTrue (list_all (lacks c) (map w.spell xs))
each_map c w p [] h = refl
each_map c w p (x ∷ xs) h =
    let b = and_parts (w.fits x) (list_all w.fits xs) h in
    and_from (lacks c (w.spell x)) (list_all (lacks c) (map w.spell xs)) (p.free x b.0) (each_map c w p xs b.1)

pub up_to_lacks : {A : Type 0} (c most : ℕ) (w : Word A) → Lacks c w → EachLacks c (up_to most w)
up_to_lacks c most w p = record { free = λ xs h. each_map c w p xs (and_parts (leb 1 (length xs) && leb (length xs) most) (list_all w.fits xs) h).1 }

pub joined_lacks : {A : Type 0} (c d : ℕ) (ws : Words A) → eqb d c ≡ false → EachLacks c ws → Lacks c (joined d ws)
joined_lacks c d ws other p = record { free = λ x h. lacks_join c d other (ws.spell x) (p.free x h) }

pub meaning_lacks : {A B : Type 0} (c : ℕ) (ok : B → Bool) (to : A → B) (from : B → A) (w : Word A) → Lacks c w → Lacks c (meaning ok to from w)
meaning_lacks c ok to from w p = record { free = λ x h. p.free (from x) (and_parts (ok x) (w.fits (from x)) h).1 }

-- words with a first one
pub split_and : {A B : Type 0} (c : ℕ) (w : Word A) (ws : Words B) → EachLacks c (w & ws) → IsSplit c (w & ws)
split_and c w ws p = record { some = λ x h. omega arith; each = p.free }

pub split_up_to : {A : Type 0} (c most : ℕ) (w : Word A) → Lacks c w → IsSplit c (up_to most w)
split_up_to c most w p = record {
  some = λ xs h.
      let b = and_parts (leb 1 (length xs) && leb (length xs) most) (list_all w.fits xs) h in
      let few : 1 ≤ length xs = leb-true 1 (length xs) (and_parts (leb 1 (length xs)) (leb (length xs) most) b.0).0 in
      omega (arith, length-map xs w.spell);
  each = (up_to_lacks c most w p).free;
}

pub that_lacks : {A : Type 0} (c : ℕ) (ok : A → Bool) (w : Word A) → Lacks c w → Lacks c (that ok w)
that_lacks c ok w p = record { free = λ x h. p.free x (and_parts (ok x) (w.fits x) h).1 }

pub each_that_lacks : {A : Type 0} (c : ℕ) (ok : A → Bool) (ws : Words A) → EachLacks c ws → EachLacks c (that ok ws)
each_that_lacks c ok ws p = record { free = λ x h. p.free x (and_parts (ok x) (ws.fits x) h).1 }

flag_free : (c : ℕ) (on off : List ℕ) → IsTrue (lacks c on) → IsTrue (lacks c off) → (b : Bool) → IsTrue (lacks c (cond b on off))
flag_free c on off p q true = p
flag_free c on off p q false = q

pub flag_lacks : (c : ℕ) (on off : List ℕ) → IsTrue (lacks c on) → IsTrue (lacks c off) → Lacks c (flag on off)
flag_lacks c on off p q = record { free = λ b h. flag_free c on off p q b }
