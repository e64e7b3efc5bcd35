-- A value at the beginning of bytes, and how many bytes it takes.
use Rattle.std.specs.Prelude.{◌≡◌, ℕ, List, ◌++◌, length, Result, Ok, Err, IsTrue}
use Rattle.spl_base.specs.{Input.◌>>=◌, Form.{Form, Fails}, declared.fault.Malformed.Malformed}

-- the value at the beginning and its length, or where the first unreadable field begins
abbrev pub prefix_of : {A : Type 0} → Form A → List ℕ → Result (A × ℕ) ℕ
prefix_of f bytes = f.parse (record { rest = bytes; place = 0 }) >>= λ x. Ok (x.0, x.1.place)

-- an answer, unless memory ran out
abbrev pub Answers : {Y : Type 0} → Result Y Malformed → Result Y ℕ → Type 0
Answers (Ok x) found = found ≡ Ok x
Answers (Err e) found = Fails e found

-- what is spelled so at the beginning of bytes is what was read, whatever follows it, unless memory ran out
abbrev pub ReadsBack : {A : Type 0} → Form A → List ℕ → Result (A × ℕ) Malformed → Type 0
ReadsBack {A} f bytes found = (x : A) (rest : List ℕ) → IsTrue (f.fits x) → bytes ≡ f.spell x ++ rest → Answers found (Ok (x, length (f.spell x)))

-- no spelling begins another
abbrev pub NoneBeginsAnother : {A : Type 0} → Form A → Type 0
NoneBeginsAnother {A} f =
    (x y : A) (a b : List ℕ) → IsTrue (f.fits x) → IsTrue (f.fits y) → f.spell x ++ a ≡ f.spell y ++ b → (x ≡ y) × (a ≡ b)
