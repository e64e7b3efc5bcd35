-- Laws of tests, beside those of std: of equal bytes, of an option, and of all items of a list.
use Rattle.std.{specs.{Prelude.{is_some, is_none}, List.list_all, Str.bytes_eq}, proofs.Common.{◌≡◌, ℕ, Bool, true, false, ◌&&◌, List, [], ◌∷◌, ◌++◌, Option}}
use Rattle.std.proofs.{Common.{Some, None, IsTrue, refl, ◌∙◌}, lemmas.{Bool.and_from, List.Folds.list_all-append, Slice.Eq.bytes_eq-Decides}}

pub bytes_are : (a b : List ℕ) → bytes_eq a b ≡ true → a ≡ b
bytes_are a b = (bytes_eq-Decides a b).0

pub bytes_same : (a : List ℕ) → bytes_eq a a ≡ true
bytes_same a = (bytes_eq-Decides a a).1 refl

pub none_of : {A : Type 0} (o : Option A) → is_some o ≡ false → o ≡ None
none_of None h = refl
none_of (Some x) h = cc

pub none_is : {A : Type 0} (o : Option A) → is_none o ≡ true → o ≡ None
none_is None h = refl
none_is (Some x) h = cc

pub all_pass : {A : Type 0} (p : A → Bool) → ((x : A) → p x ≡ true) → (xs : List A) → IsTrue (list_all p xs)
all_pass p h [] = refl
all_pass p h (x ∷ xs) = and_from (p x) (list_all p xs) (h x) (all_pass p h xs)

-- one more that passes
pub all_more : {A : Type 0} (p : A → Bool) (xs : List A) (x : A) → IsTrue (list_all p xs) → IsTrue (p x) → IsTrue (list_all p (xs ++ x ∷ []))
all_more p xs x h k = list_all-append p xs (x ∷ []) ∙ and_from (list_all p xs) (p x && true) h (and_from (p x) true k refl)
