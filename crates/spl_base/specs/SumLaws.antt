-- The laws of sums: a list of cases is exact where each case is, and each value is made of a tag and fields.
use Rattle.std.{specs.{Prelude.{nat_eq, nat_lt, if◌then◌else◌}, Int.w8}, proofs.Common.{◌≡◌, ℕ, ◌+◌, ◌^◌, ◌<◌, Bool, true, false, ltb, IsTrue, List, [], ◌∷◌}}
use Rattle.std.proofs.{Common.{◌++◌, length, Ok, refl, sym, ap, subst, ◌∙◌, append_assoc, arith}, lemmas.{Bool.{eqb-true, ltb-true}, List.length-append}}
use Rattle.spl_base.specs.{Input.{Input, number_at}, Form.{Parsed, located, number_bytes, Case, read_case, put_case, Either, either, FieldsAt, Filled}}
use Rattle.spl_base.specs.Form.{filled, by_case, read_by, put_by, value_of, Tagged, Tags, tags_of, numbered, tagged, sum_of, IsBytes, Taken, IsReadFrom}
use Rattle.spl_base.specs.{Form.{IsSpelledSo, IsExact, TakenAfter, IsExactTags, IsExactCase, AreExact}, FormLaws.{bind_ok, ok_is, wide8, number_again}}
use Rattle.spl_base.specs.FormLaws.{number_taken}

-- ---- the cases

module _ {A : Type 0} (put : A → Tagged) where
  -- fields that are spelled are read after their tag
  pub again_by : (cs : List (Case A)) → AreExact put cs → (n : ℕ) (x : FieldsAt cs n) (rest : List ℕ) (place at : ℕ)
      → IsTrue (by_case put_case cs n x).fits → IsReadFrom (read_by cs n at) (by_case put_case cs n x).bytes (by_case (λ c. c.make) cs n x) rest place
  again_by [] e n x rest place at h = absurd x
  again_by (c ∷ cs) e n x rest place at h = go (nat_eq n c.tag) x h (λ x h. again_by cs e.1 n x rest place at h)
    where
      go : (b : Bool) (x : Either b c.Fields (FieldsAt cs n)) → IsTrue (either b (put_case c) (by_case put_case cs n) x).fits
          → ((y : FieldsAt cs n) → IsTrue (by_case put_case cs n y).fits
          → IsReadFrom (read_by cs n at) (by_case put_case cs n y).bytes (by_case (λ c. c.make) cs n y) rest place)
          → IsReadFrom (λ s. if b then read_case c s else read_by cs n at s) (either b (put_case c) (by_case put_case cs n) x).bytes
          (either b c.make (by_case (λ c. c.make) cs n) x) rest place
      go true x h k = rw (e.0.0.again x rest place h) refl
      go false x h k = k x h

  bounds_by : (cs : List (Case A)) → AreExact put cs → (n : ℕ) (x : FieldsAt cs n)
      → IsTrue (by_case put_case cs n x).fits → IsTrue (by_case put_case cs n x).bounded
  bounds_by [] e n x h = absurd x
  bounds_by (c ∷ cs) e n x h = go (nat_eq n c.tag) x h (λ y k. bounds_by cs e.1 n y k)
    where
      go : (b : Bool) (x : Either b c.Fields (FieldsAt cs n)) → IsTrue (either b (put_case c) (by_case put_case cs n) x).fits
          → ((y : FieldsAt cs n) → IsTrue (by_case put_case cs n y).fits → IsTrue (by_case put_case cs n y).bounded)
          → IsTrue (either b (put_case c) (by_case put_case cs n) x).bounded
      go true x h k = e.0.0.bounds x h
      go false x h k = k x h

  -- what is read after a tag is put so
  takes_case : (c : Case A) → IsExactCase put c → (s : Input) (x : A) (t : Input) → IsBytes s.rest
      → read_case c s ≡ Ok (x, t) → TakenAfter put c.tag s x t
  takes_case c e s x t bytes h =
      let a = bind_ok (c.form.parse s) (λ y. Ok (c.make y.0, y.1)) (x, t) h in
      let first = e.0.takes s a.0.0 a.0.1 bytes a.1 in
      let made : A × Input = (c.make a.0.0, a.0.1) in
      let same : put (c.make a.0.0) ≡ put_case c a.0.0 = e.1 a.0.0 in
      subst (λ (y : A × Input). TakenAfter put c.tag s y.0 y.1) (ok_is made (x, t) a.2) (record {
        tag = rw same refl;
        taken = record { parts = rw same first.parts; place = rw same first.place; is_fit = rw same first.is_fit; bytes = first.bytes };
      })

  pub takes_by : (cs : List (Case A)) → AreExact put cs → (n at : ℕ) (s : Input) (x : A) (t : Input)
      → IsBytes s.rest → read_by cs n at s ≡ Ok (x, t) → TakenAfter put n s x t
  takes_by [] e n at s x t bytes h = absurd cc
  takes_by (c ∷ cs) e n at s x t bytes h = go (nat_eq n c.tag) (eqb-true n c.tag) (takes_by cs e.1 n at s x t bytes) h
    where
      go : (b : Bool) → (b ≡ true → n ≡ c.tag) → (read_by cs n at s ≡ Ok (x, t) → TakenAfter put n s x t)
          → (if b then read_case c s else read_by cs n at s) ≡ Ok (x, t) → TakenAfter put n s x t
      go true q others k = subst (λ m. TakenAfter put m s x t) (sym (q refl)) (takes_case c e.0 s x t bytes k)
      go false q others k = others k

-- a list of cases is exact where each case is, and each value is made of its tag and fields
module _ {A : Type 0} (cs : List (Case A)) (fields : A → Filled cs) where
  pub record IsMade (x : A) : Type 0 where
    pub value : value_of cs (fields x) ≡ x
    pub small : IsTrue (nat_lt (put_by cs (fields x)).tag 256)

  module _ (made : (x : A) → IsMade x) (each : AreExact (tags_of cs fields).put cs) where
    again_of : (y : Filled cs) (rest : List ℕ) (place at : ℕ) → IsTrue (put_by cs y).fits
        → IsReadFrom (read_by cs (put_by cs y).tag at) (put_by cs y).bytes (value_of cs y) rest place
    again_of (filled n y) rest place at h = again_by (tags_of cs fields).put cs each n y rest place at h

    bounds_of : (y : Filled cs) → IsTrue (put_by cs y).fits → IsTrue (put_by cs y).bounded
    bounds_of (filled n y) h = bounds_by (tags_of cs fields).put cs each n y h

    pub exact_tags : IsExactTags (tags_of cs fields)
    exact_tags = record {
      small = λ x. ltb-true _ _ (made x).small;
      again = λ x rest place at h. again_of (fields x) rest place at h
          ∙ ap (λ (y : A). Ok (y, record { rest = rest; place = place + length (put_by cs (fields x)).bytes })) (made x).value;
      takes = takes_by (tags_of cs fields).put cs each;
      bounds = λ x h. bounds_of (fields x) h;
    }

-- ---- a byte, and what is read after it

module _ {A : Type 0} (take : ℕ → ℕ → Input → Parsed A) where
  -- what is read after a byte is read with it
  pub again_numbered : (n : ℕ) (bytes : List ℕ) (x : A) (rest : List ℕ) (place : ℕ) → n < 256
      → IsReadFrom (take n place) bytes x rest (place + 1) → IsReadFrom (numbered take) (number_bytes w8 n ++ bytes) x rest place
  again_numbered n bytes x rest place lt h =
      let first = number_bytes w8 n in
      let regrouped : (first ++ bytes) ++ rest ≡ first ++ (bytes ++ rest) = append_assoc first bytes rest in
      let places : place + 1 + length bytes ≡ place + length (first ++ bytes) = omega (arith, length-append first bytes, wide8.len n) in
      ap (λ (r : List ℕ). numbered take (record { rest = r; place = place })) regrouped
      ∙ rw (number_again w8 (2 ^ 8) wide8 n (bytes ++ rest) place lt, h) (ap (λ (k : ℕ). Ok (x, record { rest = rest; place = k })) places)

  -- the byte, and the input after it
  pub record Numbered (s : Input) (x : A) (t : Input) : Type 0 where
    pub number : ℕ
    pub next : Input
    pub first : Taken (number_bytes w8) (λ n. ltb n (2 ^ 8)) s number next
    pub others : take number s.place next ≡ Ok (x, t)

  pub takes_numbered : (s : Input) (x : A) (t : Input) → IsBytes s.rest → numbered take s ≡ Ok (x, t) → Numbered s x t
  takes_numbered s x t bytes e =
      let a = bind_ok (located (number_at w8 s)) (λ n. take n.0 s.place n.1) (x, t) e in
      record { number = a.0.0; next = a.0.1; first = number_taken w8 (2 ^ 8) wide8 s a.0.0 a.0.1 bytes a.1; others = a.2 }

-- a byte, and what is taken after it
pub taken_after : {A : Type 0} (spell : A → List ℕ) (fits : A → Bool) (n : ℕ) (s u : Input) (x : A) (t : Input)
    → Taken (number_bytes w8) (λ n. ltb n (2 ^ 8)) s n u → Taken spell fits u x t → Taken (λ a. number_bytes w8 n ++ spell a) fits s x t
taken_after spell fits n s u x t first others = record {
  parts = first.parts ∙ ap (λ (r : List ℕ). number_bytes w8 n ++ r) others.parts ∙ sym (append_assoc (number_bytes w8 n) (spell x) t.rest);
  place = omega (arith, first.place, others.place, length-append (number_bytes w8 n) (spell x));
  is_fit = others.is_fit;
  bytes = others.bytes;
}

module _ {A : Type 0} (c : Tags A) (q : IsExactTags c) where
  tagged_takes : (s : Input) (x : A) (t : Input) → IsSpelledSo (tagged c) s x t
  tagged_takes s x t bytes e =
      let a = takes_numbered c.take s x t bytes e in
      let body = q.takes a.number s.place a.next x t a.first.bytes a.others in
      let all = taken_after (λ a. (c.put a).bytes) (λ a. (c.put a).fits) a.number s a.next x t a.first body.taken in
      let same : number_bytes w8 a.number ≡ number_bytes w8 (c.put x).tag = ap (number_bytes w8) (sym body.tag) in
      record {
        parts = all.parts ∙ ap (λ (z : List ℕ). (z ++ (c.put x).bytes) ++ t.rest) same;
        place = all.place ∙ ap (λ (z : List ℕ). s.place + length (z ++ (c.put x).bytes)) same;
        is_fit = all.is_fit;
        bytes = all.bytes;
      }

  pub exact_tagged : IsExact (tagged c)
  exact_tagged = record {
    again = λ x rest place h. again_numbered c.take (c.put x).tag (c.put x).bytes x rest place (q.small x) (q.again x rest (place + 1) place h);
    takes = tagged_takes;
    bounds = q.bounds;
  }

-- the laws of one case, and those of the cases after it
infixr 4 ◌also◌
abbrev pub ◌also◌ : {P Q : Type 0} → P → Q → P × Q
p also q = (p, q)

pub exact_sum : {A : Type 0} (cs : List (Case A)) (fields : A → Filled cs) → ((x : A) → IsMade cs fields x)
    → AreExact (tags_of cs fields).put cs → IsExact (sum_of cs fields)
exact_sum cs fields made each = exact_tagged _ (exact_tags cs fields made each)
