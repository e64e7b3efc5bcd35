-- Forms: how values of a type are spelled, and how they are read from left to right.
use Rattle.std.specs.Prelude.{◌≡◌, ℕ, zero, suc, ◌+◌, ◌<◌, Bool, true, false, ◌&&◌, ◌||◌, nat_eq, nat_lt, nat_le, if◌then◌else◌, IsTrue, Result, Ok, Err}
use Rattle.std.specs.{Prelude.{List, [], ◌∷◌, ◌++◌, length, slice_index}, List.{flat_map, list_all}, Int.{Width, w8, w16, to_be_bytes}}
use Rattle.spl_base.specs.{Input.{Input, ◌>>=◌, raw_at, number_at, sized_at}, declared.fault.FieldFault.{FieldFault, TheVariants.{Short, TooLong}}}
use Rattle.spl_base.specs.declared.fault.Malformed.{Malformed}
use Rattle.spl_base.specs.declared.fault.Malformed.TheVariants as malformed

-- a value and the input after it, or where the first unreadable field begins
abbrev pub Parsed : Type 0 → Type 0
Parsed A = Result (A × Input) ℕ

abbrev pub place_of : FieldFault → ℕ
place_of (Short at) = at
place_of (TooLong at) = at

abbrev pub located : {A : Type 0} → Result A FieldFault → Result A ℕ
located (Ok x) = Ok x
located (Err e) = Err (place_of e)

-- What a call read is what parsing gives, unless memory ran out.
abbrev pub Fails : {Y : Type 0} → Malformed → Result Y ℕ → Type 0
Fails malformed.NoMemory found = Unit {0}
Fails (malformed.At at) found = found ≡ Err at

abbrev pub Reads : {X Y : Type 0} → (X → Y) → Result X Malformed → Input → Parsed Y → Type 0
Reads view (Ok x) new found = found ≡ Ok (view x, new)
Reads view (Err e) new found = Fails e found

pub record Form (A : Type 0) : Type 0 where
  pub spell : A → List ℕ
  pub parse : Input → Parsed A
  -- what has a spelling
  pub fits : A → Bool
  -- the part of it that a caller sees to: lists and byte strings are not too long
  pub bounded : A → Bool

-- the bytes of a number, the highest first
unfoldable pub number_bytes : Width → ℕ → List ℕ
number_bytes w n = to_be_bytes w n

abbrev pub number : Width → ℕ → Form ℕ
number w limit = record {
  spell = number_bytes w;
  parse = λ s. located (number_at w s);
  fits = λ n. nat_lt n limit;
  bounded = λ n. true;
}

-- n bytes that pass a test
abbrev pub raw : ℕ → (List ℕ → Bool) → Form (List ℕ)
raw n p = record {
  spell = λ xs. xs;
  parse = λ s. located (raw_at n s) >>= λ x. if p x.0 then Ok x else Err s.place;
  fits = λ xs. (nat_le n (length xs) && nat_le (length xs) n) && p xs;
  bounded = λ xs. true;
}

-- at most so many bytes that pass a test, after their number
abbrev pub sized : Width → ℕ → (List ℕ → Bool) → Form (List ℕ)
sized w most p = record {
  spell = λ xs. number_bytes w (length xs) ++ xs;
  parse = λ s. located (sized_at w most s) >>= λ x. if p x.0 then Ok x else Err s.place;
  fits = λ xs. nat_le (length xs) most && p xs;
  bounded = λ xs. true;
}

-- a text of at most so many bytes that passes a test
abbrev pub text : ℕ → (List ℕ → Bool) → Form (List ℕ)
text most p = sized w16 most p

-- at most so many bytes after their number
abbrev pub counted : Width → ℕ → Form (List ℕ)
counted w most = record {
  spell = λ xs. number_bytes w (length xs) ++ xs;
  parse = λ s. located (sized_at w most s);
  fits = λ xs. nat_le (length xs) most;
  bounded = λ xs. nat_le (length xs) most;
}

-- a byte string of at most so many bytes
abbrev pub string : ℕ → Form (List ℕ)
string most = counted w16 most

abbrev pub flag_of : ℕ → ℕ → Input → Parsed Bool
flag_of zero at s = Ok (false, s)
flag_of (suc zero) at s = Ok (true, s)
flag_of (suc (suc n)) at s = Err at

-- a byte that is 0 or 1
abbrev pub flag : Form Bool
flag = record {
  spell = λ b. number_bytes w8 (if b then 1 else 0);
  parse = λ s. located (number_at w8 s) >>= λ n. flag_of n.0 s.place n.1;
  fits = λ b. true;
  bounded = λ b. true;
}

infixr 5 ◌&◌
abbrev pub ◌&◌ : {A B : Type 0} → Form A → Form B → Form (A × B)
f & g = record {
  spell = λ x. f.spell x.0 ++ g.spell x.1;
  parse = λ s. f.parse s >>= λ a. g.parse a.1 >>= λ b. Ok ((a.0, b.0), b.1);
  fits = λ x. f.fits x.0 && g.fits x.1;
  bounded = λ x. f.bounded x.0 && g.bounded x.1;
}

-- a form of another type, by a function to it and one back
abbrev pub via : {A B : Type 0} → (A → B) → (B → A) → Form A → Form B
via to from f = record {
  spell = λ b. f.spell (from b);
  parse = λ s. f.parse s >>= λ x. Ok (to x.0, x.1);
  fits = λ b. f.fits (from b);
  bounded = λ b. f.bounded (from b);
}

-- so many items, one after another
abbrev pub items_at : {A : Type 0} → (Input → Parsed A) → ℕ → Input → Parsed (List A)
items_at p zero s = Ok ([], s)
items_at p (suc n) s = p s >>= λ a. items_at p n a.1 >>= λ b. Ok (a.0 ∷ b.0, b.1)

-- two bytes of count, and that many items
abbrev pub list_of : {A : Type 0} → ℕ → Form A → Form (List A)
list_of most f = record {
  spell = λ xs. number_bytes w16 (length xs) ++ flat_map f.spell xs;
  parse = λ s. located (number_at w16 s) >>= λ n. if nat_lt most n.0 then Err s.place else items_at f.parse n.0 n.1;
  fits = λ xs. nat_le (length xs) most && list_all f.fits xs;
  bounded = λ xs. nat_le (length xs) most && list_all f.bounded xs;
}

abbrev pub nothing : Form (Unit {0})
nothing = record {
  spell = λ x. [];
  parse = λ s. Ok (tt, s);
  fits = λ x. true;
  bounded = λ x. true;
}

-- ---- a sum: a tag byte, and the fields after it

-- a case: its tag, the form of its fields, and the value that they make
pub record Case (A : Type 0) : Type 1 where
  pub tag : ℕ
  pub Fields : Type 0
  pub form : Form Fields
  pub make : Fields → A

abbrev pub case : {A F : Type 0} → ℕ → Form F → (F → A) → Case A
case {A} {F} tag f make = record { tag = tag; Fields = F; form = f; make = make }

abbrev pub Either : Bool → Type 0 → Type 0 → Type 0
Either true X Y = X
Either false X Y = Y

abbrev pub either : {X Y B : Type 0} (b : Bool) → (X → B) → (Y → B) → Either b X Y → B
either true f g x = f x
either false f g y = g y

-- the fields of the case with a tag
abbrev pub FieldsAt : {A : Type 0} → List (Case A) → ℕ → Type 0
FieldsAt [] n = ⊥
FieldsAt (c ∷ cs) n = Either (nat_eq n c.tag) c.Fields (FieldsAt cs n)

-- a tag, and the fields of its case
pub data Filled {A : Type 0} (cs : List (Case A)) : Type 0 where
  filled : (n : ℕ) → FieldsAt cs n → Filled cs

-- what the case with the tag makes of its fields
abbrev pub by_case : {A B : Type 0} → ((c : Case A) → c.Fields → B) → (cs : List (Case A)) (n : ℕ) → FieldsAt cs n → B
by_case f [] n x = absurd x
by_case f (c ∷ cs) n x = either (nat_eq n c.tag) (f c) (by_case f cs n) x

-- the value that they make
abbrev pub value_of : {A : Type 0} (cs : List (Case A)) → Filled cs → A
value_of cs (filled n x) = by_case (λ c. c.make) cs n x

abbrev pub read_case : {A : Type 0} → Case A → Input → Parsed A
read_case c s = c.form.parse s >>= λ x. Ok (c.make x.0, x.1)

-- whether a case has the tag
abbrev pub has_tag : {A : Type 0} → List (Case A) → ℕ → Bool
has_tag [] n = false
has_tag (c ∷ cs) n = nat_eq n c.tag || has_tag cs n

-- what is read after a tag that stands at a place
abbrev pub read_by : {A : Type 0} → List (Case A) → ℕ → ℕ → Input → Parsed A
read_by [] n at s = Err at
read_by (c ∷ cs) n at s = if nat_eq n c.tag then read_case c s else read_by cs n at s

-- the tag of a value, and what stands after it
pub record Tagged : Type 0 where
  pub tag : ℕ
  pub bytes : List ℕ
  pub fits : Bool
  pub bounded : Bool

abbrev pub put_case : {A : Type 0} (c : Case A) → c.Fields → Tagged
put_case c x = record { tag = c.tag; bytes = c.form.spell x; fits = c.form.fits x; bounded = c.form.bounded x }

abbrev pub put_by : {A : Type 0} (cs : List (Case A)) → Filled cs → Tagged
put_by cs (filled n x) = record (by_case put_case cs n x) { tag = n }

-- how the values of a type are spelled and read by their tags
pub record Tags (A : Type 0) : Type 0 where
  pub put : A → Tagged
  pub take : ℕ → ℕ → Input → Parsed A

-- by a list of cases, where each value has one of the tags, and fields
abbrev pub tags_of : {A : Type 0} (cs : List (Case A)) → (A → Filled cs) → Tags A
tags_of cs fields = record { put = λ a. put_by cs (fields a); take = read_by cs }

-- a byte, and what is read after it
abbrev pub numbered : {A : Type 0} → (ℕ → ℕ → Input → Parsed A) → Input → Parsed A
numbered take s = located (number_at w8 s) >>= λ n. take n.0 s.place n.1

-- a tag byte, and what stands after it
abbrev pub tagged : {A : Type 0} → Tags A → Form A
tagged c = record {
  spell = λ x. number_bytes w8 (c.put x).tag ++ (c.put x).bytes;
  parse = numbered c.take;
  fits = λ x. (c.put x).fits;
  bounded = λ x. (c.put x).bounded;
}

abbrev pub sum_of : {A : Type 0} (cs : List (Case A)) → (A → Filled cs) → Form A
sum_of cs fields = tagged (tags_of cs fields)

-- each element of a list is a byte
abbrev pub IsBytes : List ℕ → Type 0
IsBytes xs = (i : ℕ) → slice_index xs i < 256

-- x was read from s, which leaves t
pub record Taken {A : Type 0} (spell : A → List ℕ) (fits : A → Bool) (s : Input) (x : A) (t : Input) : Type 0 where
  pub parts : s.rest ≡ spell x ++ t.rest
  pub place : t.place ≡ s.place + length (spell x)
  pub is_fit : IsTrue (fits x)
  pub bytes : IsBytes t.rest

-- a value with these bytes is read from them, whatever follows
abbrev pub IsReadFrom : {A : Type 0} → (Input → Parsed A) → List ℕ → A → List ℕ → ℕ → Type 0
IsReadFrom parse bytes x rest place =
    parse (record { rest = bytes ++ rest; place = place }) ≡ Ok (x, record { rest = rest; place = place + length bytes })

-- a value that has a spelling is read from it, whatever follows
abbrev pub IsReadBack : {A : Type 0} → Form A → A → List ℕ → ℕ → Type 0
IsReadBack f x rest place = IsTrue (f.fits x) → IsReadFrom f.parse (f.spell x) x rest place

-- what is read was spelled so
abbrev pub IsSpelledSo : {A : Type 0} → Form A → Input → A → Input → Type 0
IsSpelledSo f s x t = IsBytes s.rest → f.parse s ≡ Ok (x, t) → Taken f.spell f.fits s x t

-- both hold, and what has a spelling is within its bounds
pub record IsExact {A : Type 0} (f : Form A) : Type 0 where
  pub again : (x : A) (rest : List ℕ) (place : ℕ) → IsReadBack f x rest place
  pub takes : (s : Input) (x : A) (t : Input) → IsSpelledSo f s x t
  pub bounds : (x : A) → IsTrue (f.fits x) → IsTrue (f.bounded x)

-- x was read after the tag n
pub record TakenAfter {A : Type 0} (put : A → Tagged) (n : ℕ) (s : Input) (x : A) (t : Input) : Type 0 where
  pub tag : (put x).tag ≡ n
  pub taken : Taken (λ a. (put a).bytes) (λ a. (put a).fits) s x t

-- the same after a tag
pub record IsExactTags {A : Type 0} (c : Tags A) : Type 0 where
  pub small : (x : A) → (c.put x).tag < 256
  pub again : (x : A) (rest : List ℕ) (place at : ℕ) → IsTrue (c.put x).fits → IsReadFrom (c.take (c.put x).tag at) (c.put x).bytes x rest place
  pub takes : (n at : ℕ) (s : Input) (x : A) (t : Input) → IsBytes s.rest → c.take n at s ≡ Ok (x, t) → TakenAfter c.put n s x t
  pub bounds : (x : A) → IsTrue (c.put x).fits → IsTrue (c.put x).bounded

-- the fields of a case are exact, and a value that they make is put so
abbrev pub IsExactCase : {A : Type 0} → (A → Tagged) → Case A → Type 0
IsExactCase put c = IsExact c.form × ((x : c.Fields) → put (c.make x) ≡ put_case c x)

abbrev pub AreExact : {A : Type 0} → (A → Tagged) → List (Case A) → Type 0
AreExact put [] = Unit {0}
AreExact put (c ∷ cs) = IsExactCase put c × AreExact put cs
