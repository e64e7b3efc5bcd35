-- Words that begin with bytes of their own.
use Rattle.std.{specs.Str.bytes_eq, proofs.Common.{◌≡◌, ℕ, Bool, IsTrue, List, [], ◌∷◌, ◌++◌, length, take, drop, Option, Some, None, refl, sym, ap, ◌∙◌}}
use Rattle.std.proofs.{Common.subst, lemmas.List.take-append-drop}
use Rattle.spl_words.{specs.Words.{Word, Keyword, keyword, after, read_after, read_keyword}, proofs.WordLaws.{IsExact, some_is, guard_some, map_some}}
use Rattle.spl_words.proofs.WordLaws.{same_bytes}

pub after_is : (bytes xs rest : List ℕ) → after bytes xs ≡ Some rest → bytes ++ rest ≡ xs
after_is bytes xs rest e =
    let g = guard_some (bytes_eq (take (length bytes) xs) bytes) (Some (drop (length bytes) xs)) rest e in
    let begin : take (length bytes) xs ≡ bytes = same_bytes _ _ g.0 in
    let left : drop (length bytes) xs ≡ rest = some_is _ _ g.1 in
    sym (ap (λ (ys : List ℕ). ys ++ rest) begin) ∙ sym (ap (λ (ys : List ℕ). take (length bytes) xs ++ ys) left) ∙ take-append-drop (length bytes) xs

-- what a word with these bytes means is spelled so
pub record IsKeyword {A : Type 0} (spell : A → List ℕ) (fits : A → Bool) (f : Keyword A) : Type 0 where
  pub only : (xs : List ℕ) (a : A) → f.read xs ≡ Some a → (f.bytes ++ xs ≡ spell a) × IsTrue (fits a)

pub is_keyword : {A B : Type 0} (spell : B → List ℕ) (fits : B → Bool) (bytes : List ℕ) (w : Word A) (to : A → B) → IsExact w
    → ((x : A) → IsTrue (w.fits x) → (bytes ++ w.spell x ≡ spell (to x)) × IsTrue (fits (to x))) → IsKeyword spell fits (keyword bytes w to)
is_keyword {A} {B} spell fits bytes w to p means = record {
  only = λ xs b e.
      let m = map_some to (w.read xs) b e in
      let o = p.only xs m.0 m.1 in
      let r = means m.0 o.1 in
      subst (λ (z : B). (bytes ++ xs ≡ spell z) × IsTrue (fits z)) m.2 (ap (λ (zs : List ℕ). bytes ++ zs) o.0 ∙ r.0, r.1);
}

abbrev pub AllKeywords : {A : Type 0} → (A → List ℕ) → (A → Bool) → List (Keyword A) → Type 0
AllKeywords spell fits [] = Unit {0}
AllKeywords spell fits (f ∷ fs) = IsKeyword spell fits f × AllKeywords spell fits fs

module _ {A : Type 0} (spell : A → List ℕ) (fits : A → Bool) where
  keyword_only : (f : Keyword A) (xs : List ℕ) (rest : Option A) (a : A) (o : Option (List ℕ)) → after f.bytes xs ≡ o → IsKeyword spell fits f
      → (rest ≡ Some a → (xs ≡ spell a) × IsTrue (fits a)) → read_after o f.read rest ≡ Some a → (xs ≡ spell a) × IsTrue (fits a)
  keyword_only f xs rest a None at p q e = q e
  keyword_only f xs rest a (Some ys) at p q e = let o = p.only ys a e in (sym (after_is f.bytes xs ys at) ∙ o.0, o.1)

  pub keywords_only : (fs : List (Keyword A)) (other : Option A) (xs : List ℕ) (a : A) → AllKeywords spell fits fs
      → (other ≡ Some a → (xs ≡ spell a) × IsTrue (fits a)) → read_keyword fs other xs ≡ Some a → (xs ≡ spell a) × IsTrue (fits a)
  keywords_only [] other xs a all q e = q e
  keywords_only (f ∷ fs) other xs a all q e =
      keyword_only f xs (read_keyword fs other xs) a (after f.bytes xs) refl all.0 (keywords_only fs other xs a all.1 q) e
