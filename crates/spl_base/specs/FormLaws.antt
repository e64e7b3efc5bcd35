-- The laws of forms, one for each way to make a form.
use Rattle.std.{specs.{List.{flat_map, list_all}, Int.{Width, w8, w16, w32, w64, byte_len, from_be_bytes}}, proofs.Common.{◌≡◌, ℕ, zero, suc, ◌+◌, ◌%◌, ◌^◌}}
use Rattle.std.proofs.Common.{◌<◌, ◌≤◌, Bool, true, false, cond, ltb, leb, ◌&&◌, IsTrue, List, [], ◌∷◌, ◌++◌, length, take, drop, Result, Ok, Err, refl, sym}
use Rattle.std.proofs.{Common.{ap, subst, ◌∙◌, append_assoc, arith, inl, inr, lit<}, lemmas.Bool.{and_parts, and_from, cases_lt, ltb-false, ltb-true, le-ltb}}
use Rattle.std.proofs.lemmas.{Bool.{lt-ltb, leb-true, le-leb}, List.{take_at, drop_at, take-append-drop, length-append, length-take, get_or-drop}}
use Rattle.std.proofs.lemmas.{List.{get_or-take, get_or_past, Concat.flat_map-cons}, Nat.{be_bytes_2, be_bytes_4, be_bytes_8, from_be_bytes-to_be_bytes_2}}
use Rattle.std.proofs.lemmas.Nat.{from_be_bytes-to_be_bytes_4, from_be_bytes-to_be_bytes_8}
pub use Rattle.std.proofs.lemmas.Bool.{and_parts as both_true, and_from as and_true}
use Rattle.spl_base.specs.{Input.{Input, ◌>>=◌, advanced, raw_at, number_at, sized_at}, Form.{Form, located, number, number_bytes, raw, sized, text, counted}}
use Rattle.spl_base.specs.Form.{string, flag, flag_of, ◌&◌, via, items_at, list_of, nothing, IsBytes, Taken, IsReadBack, IsSpelledSo, IsExact}
use Rattle.spl_base.specs.{Prefix.NoneBeginsAnother, declared.fault.FieldFault.{FieldFault, TheVariants.{Short, TooLong}}}

-- ---- tests

-- the value of a step that did not fail
pub bind_ok : {A B E : Type 0} (r : Result A E) (f : A → Result B E) (y : B) → (r >>= f) ≡ Ok y → (x : A) × (r ≡ Ok x) × (f x ≡ Ok y)
bind_ok (Ok x) f y e = (x, refl, e)
bind_ok (Err d) f y e = absurd cc

-- a test that did not fail
pub guard_ok : {A E : Type 0} (b : Bool) (d : E) (x y : A) → cond b (Ok x) (Err d) ≡ Ok y → IsTrue b × (x ≡ y)
guard_ok true d x y e = (refl, cc)
guard_ok false d x y e = absurd cc

-- a fault that did not come
pub fault_not : {A E : Type 0} (b : Bool) (d : E) (r : Result A E) (y : A) → cond b (Err d) r ≡ Ok y → (b ≡ false) × (r ≡ Ok y)
fault_not true d r y e = absurd cc
fault_not false d r y e = (refl, e)

abbrev done : {A : Type 0} → A → Result A ℕ
done x = Ok x

pub ok_is : {A : Type 0} (x y : A) → done x ≡ done y → x ≡ y
ok_is x y e = cc

pub IsBytes-drop : (n : ℕ) (bytes : List ℕ) → IsBytes bytes → IsBytes (drop n bytes)
IsBytes-drop n bytes h i = rw get_or-drop (h (n + i))

pub IsBytes-take : (n : ℕ) (bytes : List ℕ) → IsBytes bytes → IsBytes (take n bytes)
IsBytes-take n bytes h i =
    elim (cases_lt i n) [
      | inl lt ↦ rw (get_or-take n bytes i 0 lt) (h i)
      | inr le ↦ rw (get_or_past (take n bytes) i 0 (omega (arith, length-take n bytes))) (omega arith)
    ]

-- ---- one after the other

module _ {A B : Type 0} (f : Form A) (g : Form B) (p : IsExact f) (q : IsExact g) where
  and_again : (x : A × B) (rest : List ℕ) (place : ℕ) → IsReadBack (f & g) x rest place
  and_again x rest place h =
      let b = and_parts (f.fits x.0) (g.fits x.1) h in
      let regrouped : (f.spell x.0 ++ g.spell x.1) ++ rest ≡ f.spell x.0 ++ (g.spell x.1 ++ rest) = append_assoc (f.spell x.0) (g.spell x.1) rest in
      let places : place + length (f.spell x.0) + length (g.spell x.1) ≡ place + length (f.spell x.0 ++ g.spell x.1)
      = omega (arith, length-append (f.spell x.0) (g.spell x.1)) in
      ap (λ (r : List ℕ). (f & g).parse (record { rest = r; place = place })) regrouped
      ∙ rw (p.again x.0 (g.spell x.1 ++ rest) place b.0, q.again x.1 rest (place + length (f.spell x.0)) b.1)
      (ap (λ (n : ℕ). Ok (x, record { rest = rest; place = n })) places)

  and_takes : (s : Input) (x : A × B) (t : Input) → IsSpelledSo (f & g) s x t
  and_takes s x t bytes e =
      let a = bind_ok (f.parse s) (λ a. g.parse a.1 >>= λ b. Ok ((a.0, b.0), b.1)) (x, t) e in
      let b = bind_ok (g.parse a.0.1) (λ b. Ok ((a.0.0, b.0), b.1)) (x, t) a.2 in
      let first = p.takes s a.0.0 a.0.1 bytes a.1 in
      let second = q.takes a.0.1 b.0.0 b.0.1 first.bytes b.1 in
      let made : (A × B) × Input = ((a.0.0, b.0.0), b.0.1) in
      subst (λ (y : (A × B) × Input). Taken (f & g).spell (f & g).fits s y.0 y.1) (ok_is made (x, t) b.2) (record {
        parts = first.parts ∙ ap (λ (r : List ℕ). f.spell a.0.0 ++ r) second.parts ∙ sym (append_assoc (f.spell a.0.0) (g.spell b.0.0) b.0.1.rest);
        place = omega (arith, first.place, second.place, length-append (f.spell a.0.0) (g.spell b.0.0));
        is_fit = and_from (f.fits a.0.0) (g.fits b.0.0) first.is_fit second.is_fit;
        bytes = second.bytes;
      })

  pub exact_and : IsExact (f & g)
  exact_and = record {
    again = and_again;
    takes = and_takes;
    bounds = λ x h. let b = and_parts (f.fits x.0) (g.fits x.1) h in and_from (f.bounded x.0) (g.bounded x.1) (p.bounds x.0 b.0) (q.bounds x.1 b.1);
  }

-- ---- another type

module _ {A B : Type 0} (to : A → B) (from : B → A) (f : Form A) (there : (b : B) → to (from b) ≡ b) (back : (a : A) → from (to a) ≡ a) (p : IsExact f) where
  via_takes : (s : Input) (x : B) (t : Input) → IsSpelledSo (via to from f) s x t
  via_takes s x t bytes e =
      let a = bind_ok (f.parse s) (λ x. Ok (to x.0, x.1)) (x, t) e in
      let first = p.takes s a.0.0 a.0.1 bytes a.1 in
      let same : a.0.0 ≡ from (to a.0.0) = sym (back a.0.0) in
      let made : B × Input = (to a.0.0, a.0.1) in
      let moved : Taken f.spell f.fits s (from (to a.0.0)) a.0.1 = subst (λ (z : A). Taken f.spell f.fits s z a.0.1) same first in
      subst (λ (y : B × Input). Taken (via to from f).spell (via to from f).fits s y.0 y.1) (ok_is made (x, t) a.2)
      (record { parts = moved.parts; place = moved.place; is_fit = moved.is_fit; bytes = moved.bytes })

  pub exact_via : IsExact (via to from f)
  exact_via = record {
    again = λ x rest place h. rw (p.again (from x) rest place h)
        (ap (λ (b : B). Ok (b, record { rest = rest; place = place + length (f.spell (from x)) })) (there x));
    takes = via_takes;
    bounds = λ x h. p.bounds (from x) h;
  }

-- ---- numbers

pub record IsWide (w : Width) (limit : ℕ) : Type 0 where
  pub len : (n : ℕ) → length (number_bytes w n) ≡ byte_len w
  pub back : (bytes : List ℕ) → length bytes ≡ byte_len w → IsBytes bytes → number_bytes w (from_be_bytes w bytes) ≡ bytes
  pub again : (n : ℕ) → n < limit → from_be_bytes w (number_bytes w n) ≡ n
  pub below : (bytes : List ℕ) → IsBytes bytes → from_be_bytes w bytes < limit

pub wide32 : IsWide w32 (2 ^ 32)
unfolding number_bytes
wide32 = record {
  len = λ n. refl;
  back = λ bytes len fits. be_bytes_4 bytes _ len fits refl;
  again = λ n lt. from_be_bytes-to_be_bytes_4 n lt;
  below = λ bytes fits. omega (arith, fits 0, fits 1, fits 2, fits 3);
}

pub wide64 : IsWide w64 (2 ^ 64)
unfolding number_bytes
wide64 = record {
  len = λ n. refl;
  back = λ bytes len fits. be_bytes_8 bytes _ len fits refl;
  again = λ n lt. from_be_bytes-to_be_bytes_8 n lt;
  below = λ bytes fits. omega (arith, fits 0, fits 1, fits 2, fits 3, fits 4, fits 5, fits 6, fits 7);
}

pub wide16 : IsWide w16 (2 ^ 16)
unfolding number_bytes
wide16 = record {
  len = λ n. refl;
  back = λ bytes len fits. be_bytes_2 bytes _ len fits refl;
  again = λ n lt. from_be_bytes-to_be_bytes_2 n lt;
  below = λ bytes fits. omega (arith, fits 0, fits 1);
}

one_byte : (bytes : List ℕ) → length bytes ≡ 1 → IsBytes bytes → number_bytes w8 (from_be_bytes w8 bytes) ≡ bytes
unfolding number_bytes
one_byte [] len fits = absurd (omega (arith, len))
one_byte (b ∷ []) len fits = let small : b % 256 ≡ b = omega (arith, fits 0) in rw small refl
one_byte (b ∷ c ∷ bytes) len fits = absurd (omega (arith, len))

pub wide8 : IsWide w8 (2 ^ 8)
unfolding number_bytes
wide8 = record {
  len = λ n. refl;
  back = one_byte;
  again = λ n lt. omega arith;
  below = λ bytes fits. omega (arith, fits 0);
}

pub located_ok : {A : Type 0} (r : Result A FieldFault) (y : A) → located r ≡ Ok y → r ≡ Ok y
located_ok (Ok x) y e = cc
located_ok (Err d) y e = absurd cc

-- a field that did not fail
taken_ok : {A : Type 0} (b : Bool) (e : FieldFault) (x y : A) → located (cond b (Err e) (Ok x)) ≡ Ok y → (b ≡ false) × (x ≡ y)
taken_ok true e x y h = absurd cc
taken_ok false e x y h = (refl, cc)

module _ (w : Width) (limit : ℕ) (wide : IsWide w limit) where
  pub number_again : (n : ℕ) (rest : List ℕ) (place : ℕ) → n < limit → number_at w (record { rest = number_bytes w n ++ rest; place = place })
      ≡ Ok (n, record { rest = rest; place = place + byte_len w })
  number_again n rest place lt =
      let len = wide.len n in
      let long : ltb (length (number_bytes w n ++ rest)) (byte_len w) ≡ false = le-ltb _ _ (omega (arith, length-append (number_bytes w n) rest)) in
      rw (long, take_at (number_bytes w n) rest (byte_len w) len, drop_at (number_bytes w n) rest (byte_len w) len, wide.again n lt) refl

  pub number_taken : (s : Input) (n : ℕ) (t : Input) → IsBytes s.rest → located (number_at w s) ≡ Ok (n, t) → Taken (number_bytes w) (λ n. ltb n limit) s n t
  number_taken s n t bytes e =
      let k = byte_len w in
      let prefix = take k s.rest in
      let g = taken_ok (ltb (length s.rest) k) (Short s.place) (from_be_bytes w prefix, advanced k s) (n, t) e in
      let long : k ≤ length s.rest = ltb-false _ _ g.0 in
      let spelled : number_bytes w (from_be_bytes w prefix) ≡ prefix = wide.back prefix (omega (arith, length-take k s.rest)) (IsBytes-take k s.rest bytes) in
      subst (λ (x : ℕ × Input). Taken (number_bytes w) (λ n. ltb n limit) s x.0 x.1) g.1 (record {
        parts = rw spelled (sym (take-append-drop k s.rest));
        place = ap (λ (i : ℕ). s.place + i) (sym (wide.len (from_be_bytes w prefix)));
        is_fit = lt-ltb _ _ (wide.below prefix (IsBytes-take k s.rest bytes));
        bytes = IsBytes-drop k s.rest bytes;
      })

  pub exact_number : IsExact (number w limit)
  exact_number = record {
    again = λ n rest place h. ap located (number_again n rest place (ltb-true _ _ h))
        ∙ ap (λ (k : ℕ). Ok (n, record { rest = rest; place = place + k })) (sym (wide.len n));
    takes = number_taken;
    bounds = λ n h. refl;
  }

-- ---- bytes

module _ (n : ℕ) (p : List ℕ → Bool) where
  raw_again : (xs rest : List ℕ) (place : ℕ) → length xs ≡ n → raw_at n (record { rest = xs ++ rest; place = place })
      ≡ Ok (xs, record { rest = rest; place = place + n })
  raw_again xs rest place len =
      let long : ltb (length (xs ++ rest)) n ≡ false = le-ltb _ _ (omega (arith, length-append xs rest)) in
      rw (long, take_at xs rest n len, drop_at xs rest n len) refl

  raw_spelled : (xs rest : List ℕ) (place : ℕ) → IsReadBack (raw n p) xs rest place
  raw_spelled xs rest place h =
      let b = and_parts (leb n (length xs) && leb (length xs) n) (p xs) h in
      let c = and_parts (leb n (length xs)) (leb (length xs) n) b.0 in
      let len : length xs ≡ n = omega (arith, leb-true _ _ c.0, leb-true _ _ c.1) in
      ap (λ (r : Result (List ℕ × Input) FieldFault). located r >>= λ x. cond (p x.0) (Ok x) (Err place)) (raw_again xs rest place len)
      ∙ rw b.1 (ap (λ (k : ℕ). Ok (xs, record { rest = rest; place = place + k })) (sym len))

  raw_takes : (s : Input) (xs : List ℕ) (t : Input) → IsSpelledSo (raw n p) s xs t
  raw_takes s xs t bytes e =
      let a = bind_ok (located (raw_at n s)) (λ x. cond (p x.0) (Ok x) (Err s.place)) (xs, t) e in
      let g = taken_ok (ltb (length s.rest) n) (Short s.place) (take n s.rest, advanced n s) a.0 a.1 in
      let q = guard_ok (p a.0.0) s.place a.0 (xs, t) a.2 in
      let long : n ≤ length s.rest = ltb-false _ _ g.0 in
      let len : length (take n s.rest) ≡ n = omega (arith, length-take n s.rest) in
      let passes : IsTrue (p (take n s.rest)) = rw (ap (λ (x : List ℕ × Input). x.0) g.1) q.0 in
      subst (λ (x : List ℕ × Input). Taken (raw n p).spell (raw n p).fits s x.0 x.1) (g.1 ∙ q.1) (record {
        parts = sym (take-append-drop n s.rest);
        place = ap (λ (i : ℕ). s.place + i) (sym len);
        is_fit = and_from _ _ (and_from _ _ (le-leb n (length (take n s.rest)) (omega arith)) (le-leb (length (take n s.rest)) n (omega arith))) passes;
        bytes = IsBytes-drop n s.rest bytes;
      })

  pub exact_raw : IsExact (raw n p)
  exact_raw = record { again = raw_spelled; takes = raw_takes; bounds = λ xs h. refl }

-- ---- a text

module _ (w : Width) (limit : ℕ) (wide : IsWide w limit) (most : ℕ) (p : List ℕ → Bool) (small : most < limit) where
  sized_again : (xs rest : List ℕ) (place : ℕ) → length xs ≤ most
      → sized_at w most (record { rest = number_bytes w (length xs) ++ (xs ++ rest); place = place })
      ≡ Ok (xs, record { rest = rest; place = place + byte_len w + length xs })
  sized_again xs rest place le =
      let short : ltb most (length xs) ≡ false = le-ltb _ _ le in
      let long : ltb (length (xs ++ rest)) (length xs) ≡ false = le-ltb _ _ (omega (arith, length-append xs rest)) in
      rw (
        number_again w limit wide (length xs) (xs ++ rest) place (omega (arith, le, small)),
        short,
        long,
        take_at xs rest (length xs) refl,
        drop_at xs rest (length xs) refl,
      ) refl

  sized_spelled : (xs rest : List ℕ) (place : ℕ) → IsReadBack (sized w most p) xs rest place
  sized_spelled xs rest place h =
      let b = and_parts (leb (length xs) most) (p xs) h in
      let regrouped : (number_bytes w (length xs) ++ xs) ++ rest ≡ number_bytes w (length xs) ++ (xs ++ rest)
      = append_assoc (number_bytes w (length xs)) xs rest in
      let places : place + byte_len w + length xs ≡ place + length (number_bytes w (length xs) ++ xs)
      = omega (arith, length-append (number_bytes w (length xs)) xs, wide.len (length xs)) in
      ap (λ (r : Result (List ℕ × Input) FieldFault). located r >>= λ x. cond (p x.0) (Ok x) (Err place))
      (ap (λ (r : List ℕ). sized_at w most (record { rest = r; place = place })) regrouped ∙ sized_again xs rest place (leb-true _ _ b.0))
      ∙ rw b.1 (ap (λ (k : ℕ). Ok (xs, record { rest = rest; place = k })) places)

  sized_takes : (s : Input) (xs : List ℕ) (t : Input) → IsSpelledSo (sized w most p) s xs t
  sized_takes s xs t bytes e =
      let a = bind_ok (located (sized_at w most s)) (λ x. cond (p x.0) (Ok x) (Err s.place)) (xs, t) e in
      let q = guard_ok (p a.0.0) s.place a.0 (xs, t) a.2 in
      let cut_at : ℕ × Input → Result (List ℕ × Input) FieldFault =
      λ n. cond (ltb (length n.1.rest) n.0) (Err (Short s.place)) (Ok (take n.0 n.1.rest, advanced n.0 n.1)) in
      let b = bind_ok (number_at w s) (λ n. cond (ltb most n.0) (Err (TooLong s.place)) (cut_at n)) a.0 (located_ok (sized_at w most s) a.0 a.1) in
      let n = b.0 in
      let g = fault_not (ltb most n.0) (TooLong s.place) (cut_at n) a.0 b.2 in
      let k = taken_ok (ltb (length n.1.rest) n.0) (Short s.place) (take n.0 n.1.rest, advanced n.0 n.1) a.0 (ap located g.1) in
      let first = number_taken w limit wide s n.0 n.1 bytes (ap located b.1) in
      let le : n.0 ≤ most = ltb-false _ _ g.0 in
      let long : n.0 ≤ length n.1.rest = ltb-false _ _ k.0 in
      let cut = take n.0 n.1.rest in
      let len : length cut ≡ n.0 = omega (arith, length-take n.0 n.1.rest) in
      let passes : IsTrue (p cut) = rw (ap (λ (x : List ℕ × Input). x.0) k.1) q.0 in
      let whole : n.1.rest ≡ cut ++ drop n.0 n.1.rest = sym (take-append-drop n.0 n.1.rest) in
      let counted : number_bytes w n.0 ≡ number_bytes w (length cut) = ap (number_bytes w) (sym len) in
      subst (λ (x : List ℕ × Input). Taken (sized w most p).spell (sized w most p).fits s x.0 x.1) (k.1 ∙ q.1) (record {
        parts = first.parts ∙ ap (λ (r : List ℕ). number_bytes w n.0 ++ r) whole ∙ sym (append_assoc (number_bytes w n.0) cut (drop n.0 n.1.rest))
            ∙ ap (λ (z : List ℕ). (z ++ cut) ++ drop n.0 n.1.rest) counted;
        place = omega (arith, first.place, len, length-append (number_bytes w (length cut)) cut, wide.len (length cut), wide.len n.0);
        is_fit = and_from (leb (length cut) most) (p cut) (le-leb (length cut) most (omega arith)) passes;
        bytes = IsBytes-drop n.0 n.1.rest first.bytes;
      })

  pub exact_sized : IsExact (sized w most p)
  exact_sized = record { again = sized_spelled; takes = sized_takes; bounds = λ xs h. refl }

pub exact_text : (most : ℕ) (p : List ℕ → Bool) → most < 2 ^ 16 → IsExact (text most p)
exact_text most p small = exact_sized w16 (2 ^ 16) wide16 most p small

-- ---- a list

module _ {A : Type 0} (f : Form A) (p : IsExact f) where
  items_bounds : (xs : List A) → IsTrue (list_all f.fits xs) → IsTrue (list_all f.bounded xs)
  items_bounds [] h = refl
  items_bounds (x ∷ xs) h =
      let b = and_parts (f.fits x) (list_all f.fits xs) h in
      and_from (f.bounded x) (list_all f.bounded xs) (p.bounds x b.0) (items_bounds xs b.1)

  pub items_again : (xs : List A) (rest : List ℕ) (place : ℕ) → IsTrue (list_all f.fits xs)
      → items_at f.parse (length xs) (record { rest = flat_map f.spell xs ++ rest; place = place })
      ≡ Ok (xs, record { rest = rest; place = place + length (flat_map f.spell xs) })
  items_again [] rest place h = ap (λ (k : ℕ). Ok ([], record { rest = rest; place = k })) (omega arith)
  items_again (x ∷ xs) rest place h =
      let b = and_parts (f.fits x) (list_all f.fits xs) h in
      let apart = flat_map-cons f.spell x xs in
      let regrouped : flat_map f.spell (x ∷ xs) ++ rest ≡ f.spell x ++ (flat_map f.spell xs ++ rest) = ap (λ (z : List ℕ). z ++ rest) apart
      ∙ append_assoc (f.spell x) (flat_map f.spell xs) rest in
      let places : place + length (f.spell x) + length (flat_map f.spell xs) ≡ place + length (flat_map f.spell (x ∷ xs))
      = omega (arith, ap length apart, length-append (f.spell x) (flat_map f.spell xs)) in
      ap (λ (r : List ℕ). items_at f.parse (suc (length xs)) (record { rest = r; place = place })) regrouped
      ∙ rw (p.again x (flat_map f.spell xs ++ rest) place b.0, items_again xs rest (place + length (f.spell x)) b.1)
      (ap (λ (k : ℕ). Ok (x ∷ xs, record { rest = rest; place = k })) places)

  pub items_take : (n : ℕ) (s : Input) (xs : List A) (t : Input) → IsBytes s.rest → items_at f.parse n s ≡ Ok (xs, t)
      → Taken (flat_map f.spell) (list_all f.fits) s xs t × (length xs ≡ n)
  items_take zero s xs t bytes e =
      let made : List A × Input = ([], s) in
      subst (λ (y : List A × Input). Taken (flat_map f.spell) (list_all f.fits) s y.0 y.1 × (length y.0 ≡ 0)) (ok_is made (xs, t) e)
      (record { parts = refl; place = omega arith; is_fit = refl; bytes = bytes }, refl)
  items_take (suc n) s xs t bytes e =
      let a = bind_ok (f.parse s) (λ a. items_at f.parse n a.1 >>= λ b. Ok (a.0 ∷ b.0, b.1)) (xs, t) e in
      let b = bind_ok (items_at f.parse n a.0.1) (λ b. Ok (a.0.0 ∷ b.0, b.1)) (xs, t) a.2 in
      let first = p.takes s a.0.0 a.0.1 bytes a.1 in
      let others = items_take n a.0.1 b.0.0 b.0.1 first.bytes b.1 in
      let apart = flat_map-cons f.spell a.0.0 b.0.0 in
      let made : List A × Input = (a.0.0 ∷ b.0.0, b.0.1) in
      subst (λ (y : List A × Input). Taken (flat_map f.spell) (list_all f.fits) s y.0 y.1 × (length y.0 ≡ suc n)) (ok_is made (xs, t) b.2) (
        record {
          parts = first.parts ∙ ap (λ (r : List ℕ). f.spell a.0.0 ++ r) others.0.parts ∙ sym (append_assoc (f.spell a.0.0) (flat_map f.spell b.0.0) b.0.1.rest)
              ∙ ap (λ (z : List ℕ). z ++ b.0.1.rest) (sym apart);
          place = omega (arith, first.place, others.0.place, ap length apart, length-append (f.spell a.0.0) (flat_map f.spell b.0.0));
          is_fit = and_from (f.fits a.0.0) (list_all f.fits b.0.0) first.is_fit others.0.is_fit;
          bytes = others.0.bytes;
        },
        ap suc others.1,
      )

  module _ (most : ℕ) (small : most < 2 ^ 16) where
    list_again : (xs : List A) (rest : List ℕ) (place : ℕ) → IsReadBack (list_of most f) xs rest place
    list_again xs rest place h =
        let b = and_parts (leb (length xs) most) (list_all f.fits xs) h in
        let le : length xs ≤ most = leb-true _ _ b.0 in
        let short : ltb most (length xs) ≡ false = le-ltb _ _ le in
        let count = number_bytes w16 (length xs) in
        let regrouped : (count ++ flat_map f.spell xs) ++ rest ≡ count ++ (flat_map f.spell xs ++ rest) = append_assoc count (flat_map f.spell xs) rest in
        let places : place + 2 + length (flat_map f.spell xs) ≡ place + length (count ++ flat_map f.spell xs)
        = omega (arith, length-append count (flat_map f.spell xs), wide16.len (length xs)) in
        ap (λ (r : List ℕ). (list_of most f).parse (record { rest = r; place = place })) regrouped
        ∙ rw (number_again w16 (2 ^ 16) wide16 (length xs) (flat_map f.spell xs ++ rest) place (omega arith), short, items_again xs rest (place + 2) b.1)
        (ap (λ (k : ℕ). Ok (xs, record { rest = rest; place = k })) places)

    list_takes : (s : Input) (xs : List A) (t : Input) → IsSpelledSo (list_of most f) s xs t
    list_takes s xs t bytes e =
        let a = bind_ok (located (number_at w16 s)) (λ n. cond (ltb most n.0) (Err s.place) (items_at f.parse n.0 n.1)) (xs, t) e in
        let g = fault_not (ltb most a.0.0) s.place (items_at f.parse a.0.0 a.0.1) (xs, t) a.2 in
        let first = number_taken w16 (2 ^ 16) wide16 s a.0.0 a.0.1 bytes a.1 in
        let others = items_take a.0.0 a.0.1 xs t first.bytes g.1 in
        let count = number_bytes w16 (length xs) in
        let counted : number_bytes w16 a.0.0 ≡ count = ap (number_bytes w16) (sym others.1) in
        record {
          parts = first.parts ∙ ap (λ (r : List ℕ). number_bytes w16 a.0.0 ++ r) others.0.parts
              ∙ sym (append_assoc (number_bytes w16 a.0.0) (flat_map f.spell xs) t.rest) ∙ ap (λ (c : List ℕ). (c ++ flat_map f.spell xs) ++ t.rest) counted;
          place = omega (arith, first.place, others.0.place, length-append count (flat_map f.spell xs), wide16.len (length xs), wide16.len a.0.0);
          is_fit = and_from (leb (length xs) most) (list_all f.fits xs) (le-leb _ _ (omega (arith, ltb-false _ _ g.0, others.1))) others.0.is_fit;
          bytes = others.0.bytes;
        }

    list_bounds : (xs : List A) → IsTrue ((list_of most f).fits xs) → IsTrue ((list_of most f).bounded xs)
    list_bounds xs h =
        let b = and_parts (leb (length xs) most) (list_all f.fits xs) h in
        and_from (leb (length xs) most) (list_all f.bounded xs) b.0 (items_bounds xs b.1)

    pub exact_list : IsExact (list_of most f)
    exact_list = record { again = list_again; takes = list_takes; bounds = list_bounds }

-- ---- nothing

pub exact_nothing : IsExact nothing
exact_nothing = record {
  again = λ x rest place h. ap (λ (k : ℕ). Ok (tt, record { rest = rest; place = k })) (omega arith);
  takes = λ s x t bytes e.
      let made : Unit {0} × Input = (tt, s) in
      subst (λ (y : Unit {0} × Input). Taken (λ _. []) (λ _. true) s y.0 y.1) (ok_is made (x, t) e)
      (record { parts = refl; place = omega arith; is_fit = refl; bytes = bytes });
  bounds = λ x h. refl;
}

-- ---- what every form has

pub prefix_free : {A : Type 0} (f : Form A) → IsExact f → NoneBeginsAnother f
prefix_free {A} f p x y a b h k e =
    let one = sym (p.again x a 0 h) ∙ ap (λ (r : List ℕ). f.parse (record { rest = r; place = 0 })) e ∙ p.again y b 0 k in
    let same : (x, record { rest = a; place = 0 + length (f.spell x) }) ≡ (y, record { rest = b; place = 0 + length (f.spell y) }) = ok_is _ _ one in
    (ap (λ (z : A × Input). z.0) same, ap (λ (z : A × Input). z.1.rest) same)

-- ---- strings and flags

passes_all : List ℕ → Bool
passes_all xs = true

module _ (w : Width) (limit : ℕ) (wide : IsWide w limit) (most : ℕ) (small : most < limit) where
  counted_again : (xs rest : List ℕ) (place : ℕ) → IsReadBack (counted w most) xs rest place
  counted_again xs rest place h =
      let regrouped : (number_bytes w (length xs) ++ xs) ++ rest ≡ number_bytes w (length xs) ++ (xs ++ rest)
      = append_assoc (number_bytes w (length xs)) xs rest in
      let places : place + byte_len w + length xs ≡ place + length (number_bytes w (length xs) ++ xs)
      = omega (arith, length-append (number_bytes w (length xs)) xs, wide.len (length xs)) in
      ap (λ (r : Result (List ℕ × Input) FieldFault). located r) (ap (λ (r : List ℕ). sized_at w most (record { rest = r; place = place })) regrouped
      ∙ sized_again w limit wide most passes_all small xs rest place (leb-true _ _ h))
      ∙ ap (λ (k : ℕ). Ok (xs, record { rest = rest; place = k })) places

  counted_takes : (s : Input) (xs : List ℕ) (t : Input) → IsSpelledSo (counted w most) s xs t
  unfolding passes_all
  counted_takes s xs t bytes e =
      let all = sized_takes w limit wide most passes_all small s xs t bytes (rw e refl) in
      record { parts = all.parts; place = all.place; is_fit = (and_parts (leb (length xs) most) true all.is_fit).0; bytes = all.bytes }

  pub exact_counted : IsExact (counted w most)
  exact_counted = record { again = counted_again; takes = counted_takes; bounds = λ xs h. h }

pub exact_string : (most : ℕ) → most < 2 ^ 16 → IsExact (string most)
exact_string most small = exact_counted w16 (2 ^ 16) wide16 most small

flag_again : (b : Bool) (rest : List ℕ) (place : ℕ) → IsReadBack flag b rest place
flag_again true rest place h = rw (number_again w8 (2 ^ 8) wide8 1 rest place (lit< tt), wide8.len 1) refl
flag_again false rest place h = rw (number_again w8 (2 ^ 8) wide8 0 rest place (lit< tt), wide8.len 0) refl

flag_takes_by : (n : ℕ) (s u : Input) (b : Bool) (t : Input) → Taken (number_bytes w8) (λ n. ltb n (2 ^ 8)) s n u → flag_of n s.place u ≡ Ok (b, t)
    → Taken flag.spell flag.fits s b t
flag_takes_by zero s u b t first e =
    let made : Bool × Input = (false, u) in
    subst (λ (y : Bool × Input). Taken flag.spell flag.fits s y.0 y.1) (ok_is made (b, t) e)
    (record { parts = first.parts; place = first.place; is_fit = refl; bytes = first.bytes })
flag_takes_by (suc zero) s u b t first e =
    let made : Bool × Input = (true, u) in
    subst (λ (y : Bool × Input). Taken flag.spell flag.fits s y.0 y.1) (ok_is made (b, t) e)
    (record { parts = first.parts; place = first.place; is_fit = refl; bytes = first.bytes })
flag_takes_by (suc (suc n)) s u b t first e = absurd cc

flag_takes : (s : Input) (b : Bool) (t : Input) → IsSpelledSo flag s b t
flag_takes s b t bytes e =
    let a = bind_ok (located (number_at w8 s)) (λ n. flag_of n.0 s.place n.1) (b, t) e in
    flag_takes_by a.0.0 s a.0.1 b t (number_taken w8 (2 ^ 8) wide8 s a.0.0 a.0.1 bytes a.1) a.2

pub exact_flag : IsExact flag
exact_flag = record { again = flag_again; takes = flag_takes; bounds = λ b h. refl }
