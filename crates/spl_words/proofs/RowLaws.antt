-- Which bytes ids, names and numbers lack, and words in a row that are read back and have no space.
use Rattle.std.{specs.{List.list_all, Fmt.decimal}, proofs.Common.{◌≡◌, ℕ, ◌^◌, ◌<◌, ◌≤◌, Bool, true, false, not, ◌&&◌, ◌||◌, eqb, leb, ltb, IsTrue, List}}
use Rattle.std.proofs.{Common.{[], ◌∷◌, ◌++◌, length, take, drop, get_or, refl, sym, ap, ◌∙◌, subst, arith, drop-cons}, lemmas.Bool.{eqb-true, ltb-true}}
use Rattle.std.proofs.lemmas.{Bool.{and_parts, and_from}, List.take-append-drop}
use Rattle.spl_base.specs.Ids.{is_node_id, is_node_byte, is_circuit_id, is_service_id, is_base62, is_digit, is_graphic, is_label}
use Rattle.spl_words.{specs.Words.{Word, Words, is_name, text, number, end, ◌&◌, that, is_decimal}, proofs.Splits.{lacks, lacks_from, lacks_append}}
use Rattle.spl_words.proofs.{Numbers.decimal_is, WordLaws.{IsExact, Lacks, EachLacks, exact_text, exact_number, exact_end, exact_and, exact_that, end_lacks}}
use Rattle.spl_words.proofs.WordLaws.{and_lacks, that_lacks, each_that_lacks}

-- ---- which bytes the words lack

pub node_lacks : (c : ℕ) → is_node_byte c ≡ false → Lacks c (text is_node_id)
node_lacks c other =
    record { free = λ x h. lacks_from is_node_byte c other x (and_parts (leb 1 (length x) && leb (length x) 32) (list_all is_node_byte x) h).1 }

pub service_id_lacks : (c : ℕ) → is_base62 c ≡ false → Lacks c (text is_service_id)
service_id_lacks c other = record { free = λ x h. lacks_from is_base62 c other x (and_parts (eqb (length x) 4) (list_all is_base62 x) h).1 }

pub name_lacks : (c : ℕ) → is_graphic c ≡ false → Lacks c (text is_name)
name_lacks c other =
    record {
      free = λ x h. lacks_from is_graphic c other x
          (and_parts (leb (length x) 128) (list_all is_graphic x) (and_parts (leb 1 (length x)) (is_label x) h).1).1;
    }

pub number_lacks : (c limit : ℕ) → is_digit c ≡ false → limit ≤ 2 ^ 64 → Lacks c (number limit)
number_lacks c limit other wide = record {
  free = λ n h.
      let small : n < limit = ltb-true n limit h in
      let digits : IsTrue (is_decimal (decimal n)) = decimal_is n (omega arith) in
      let keyword =
      and_parts (leb 1 (length (decimal n)) && list_all is_digit (decimal n))
      (eqb (length (decimal n)) 1 || not (eqb (get_or (decimal n) 0 0) 48)) digits in
      lacks_from is_digit c other (decimal n) (and_parts (leb 1 (length (decimal n))) (list_all is_digit (decimal n)) keyword.0).1;
}

pub circuit_id_lacks : (c : ℕ) → is_base62 c ≡ false → eqb 45 c ≡ false → Lacks c (text is_circuit_id)
circuit_id_lacks c other dash = record {
  free = λ x h.
      let a = and_parts (eqb (length x) 11 && eqb (get_or x 5 0) 45 && list_all is_base62 (take 5 x)) (list_all is_base62 (drop 6 x)) h in
      let b = and_parts (eqb (length x) 11 && eqb (get_or x 5 0) 45) (list_all is_base62 (take 5 x)) a.0 in
      let d = and_parts (eqb (length x) 11) (eqb (get_or x 5 0) 45) b.0 in
      let long : length x ≡ 11 = eqb-true _ _ d.0 in
      let middle : get_or x 5 0 ≡ 45 = eqb-true _ _ d.1 in
      let keyword : IsTrue (lacks c (take 5 x)) = lacks_from is_base62 c other (take 5 x) b.1 in
      let back : IsTrue (lacks c (drop 6 x)) = lacks_from is_base62 c other (drop 6 x) a.1 in
      let here : IsTrue (not (eqb 45 c)) = rw dash refl in
      let room : 5 < length x = omega arith in
      let tail : drop 5 x ≡ 45 ∷ drop 6 x = drop-cons x 5 0 room ∙ ap (λ (b : ℕ). b ∷ drop 6 x) middle in
      let all : take 5 x ++ (45 ∷ drop 6 x) ≡ x = ap (λ (ys : List ℕ). take 5 x ++ ys) (sym tail) ∙ take-append-drop 5 x in
      subst (λ (ys : List ℕ). IsTrue (lacks c ys)) all
      (lacks_append c (take 5 x) (45 ∷ drop 6 x) keyword (and_from (not (eqb 45 c)) (lacks c (drop 6 x)) here back));
}

-- ---- words in a row

-- what is spelled is read, and the words have no space
pub record IsSound {A : Type 0} (ws : Words A) : Type 0 where
  pub exact : IsExact ws
  pub lack : EachLacks 32 ws

pub sound_end : IsSound end
sound_end = record { exact = exact_end; lack = end_lacks 32 }

pub sound_and : {A B : Type 0} (w : Word A) (ws : Words B) → IsExact w → Lacks 32 w → IsSound ws → IsSound (w & ws)
sound_and w ws p q r = record { exact = exact_and w ws p r.exact; lack = and_lacks 32 w ws q r.lack }

pub sound_node : {A : Type 0} (ws : Words A) → IsSound ws → IsSound (text is_node_id & ws)
sound_node ws r = sound_and (text is_node_id) ws (exact_text is_node_id) (node_lacks 32 refl) r

pub sound_circuit : {A : Type 0} (ws : Words A) → IsSound ws → IsSound (text is_circuit_id & ws)
sound_circuit ws r = sound_and (text is_circuit_id) ws (exact_text is_circuit_id) (circuit_id_lacks 32 refl refl) r

pub sound_service : {A : Type 0} (ws : Words A) → IsSound ws → IsSound (text is_service_id & ws)
sound_service ws r = sound_and (text is_service_id) ws (exact_text is_service_id) (service_id_lacks 32 refl) r

pub sound_that : {A : Type 0} (ok : A → Bool) (ws : Words A) → IsSound ws → IsSound (that ok ws)
sound_that ok ws r = record { exact = exact_that ok ws r.exact; lack = each_that_lacks 32 ok ws r.lack }

pub sound_number : {A : Type 0} (ok : ℕ → Bool) (limit : ℕ) (ws : Words A) → limit ≤ 2 ^ 64 → IsSound ws → IsSound (that ok (number limit) & ws)
sound_number ok limit ws wide r =
    sound_and _ _ (exact_that ok (number limit) (exact_number limit wide)) (that_lacks 32 ok (number limit) (number_lacks 32 limit refl wide)) r
