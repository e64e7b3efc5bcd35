-- What a reader has before it, and how far it has come.
use Rattle.std.specs.{Prelude.{◌≡◌, ℕ, ◌+◌, List, length, take, drop, Result, Ok, Err, nat_lt, if◌then◌else◌}, Int.{Width, w16, byte_len, from_be_bytes}}
use Rattle.spl_base.specs.declared.fault.FieldFault.{FieldFault, TheVariants.{Short, TooLong}}

pub record Input : Type 0 where
  pub rest : List ℕ
  pub place : ℕ

-- the input after n bytes
abbrev pub advanced : ℕ → Input → Input
advanced n s = record { rest = drop n s.rest; place = s.place + n }

-- the first n bytes
abbrev pub raw_at : ℕ → Input → Result (List ℕ × Input) FieldFault
raw_at n s = if nat_lt (length s.rest) n then Err (Short s.place) else Ok (take n s.rest, advanced n s)

abbrev pub number_at : Width → Input → Result (ℕ × Input) FieldFault
number_at w s = if nat_lt (length s.rest) (byte_len w) then Err (Short s.place) else Ok (from_be_bytes w (take (byte_len w) s.rest), advanced (byte_len w) s)

infixl 10 ◌>>=◌
abbrev pub ◌>>=◌ : {A B E : Type 0} → Result A E → (A → Result B E) → Result B E
(Ok x) >>= f = f x
(Err e) >>= f = Err e

-- a length of so many bytes, and that many bytes
abbrev pub sized_at : Width → ℕ → Input → Result (List ℕ × Input) FieldFault
sized_at w most s = do
  n ← number_at w s
  if nat_lt most n.0 then Err (TooLong s.place) else if nat_lt (length n.1.rest) n.0 then Err (Short s.place) else Ok (take n.0 n.1.rest, advanced n.0 n.1)

-- two bytes of length, and that many bytes
abbrev pub text_at : ℕ → Input → Result (List ℕ × Input) FieldFault
text_at most s = sized_at w16 most s

-- A call of a reader gives what the function on inputs gives; after a fault the reader stands where it stood.
abbrev pub Takes : {X Y : Type 0} → (X → Y) → Result X FieldFault → Input → Input → Result (Y × Input) FieldFault → Type 0
Takes view (Ok x) old new found = found ≡ Ok (view x, new)
Takes view (Err e) old new found = (found ≡ Err e) × (new ≡ old)
