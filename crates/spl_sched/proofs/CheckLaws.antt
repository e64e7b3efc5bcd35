-- The words of a line that checks a proof are read back, and have no space.
use Rattle.std.{specs.{Prelude.codes, Str.bytes_eq}, proofs.Common.{◌≡◌, ℕ, Bool, true, false, cond, ◌&&◌, eqb, leb, IsTrue, List, [], ◌∷◌, length, Option}}
use Rattle.std.proofs.Common.{Some, None, refl, sym, ap, ◌∙◌, subst}
use Rattle.spl_words.{specs.Words.{hex_string, read_keyword, end, ◌&◌}, proofs.{Splits.{lacks, lacks_append}, WordLaws.{IsExact, Lacks, some_is, same_bytes}}}
use Rattle.spl_words.proofs.{WordLaws.{read_as, exact_that, that_lacks}, HexLaws.{exact_hex_string, hex_string_lacks}, KeywordLaws.{AllKeywords, is_keyword}}
use Rattle.spl_words.proofs.{KeywordLaws.keywords_only, RowLaws.{IsSound, sound_and, sound_end}}
use Rattle.spl_sched.specs.{Transactions.{is_address, address_word}, Checks.{CheckTerms, is_root, is_claim, is_filled, is_check, root, claim_text}}
use Rattle.spl_sched.specs.{Checks.{claim_keywords, read_claim, claim, nonempty_hex, check, check_of}, declared.line.ProofCheck.ProofCheck}
use Rattle.spl_sched.proofs.CommandLaws.{exact_address, address_lacks}

-- ---- single words

exact_root : IsExact root
exact_root = exact_that (λ bs. eqb (length bs) 32) hex_string exact_hex_string

root_lacks : Lacks 32 root
root_lacks = that_lacks 32 (λ bs. eqb (length bs) 32) hex_string (hex_string_lacks 32 refl)

exact_filled : IsExact nonempty_hex
exact_filled = exact_that (λ bs. leb 1 (length bs)) hex_string exact_hex_string

filled_lacks : Lacks 32 nonempty_hex
filled_lacks = that_lacks 32 (λ bs. leb 1 (length bs)) hex_string (hex_string_lacks 32 refl)

claim_again : (x : Option (List ℕ)) → IsTrue (is_claim x) → read_claim (claim_text x) ≡ Some x
claim_again None h = refl
claim_again (Some v) h = read_as hex_string Some v (Some v) exact_hex_string h refl

all_claims : AllKeywords claim_text is_claim claim_keywords
all_claims = (is_keyword claim_text is_claim (codes "=") hex_string Some exact_hex_string (λ x h. (refl, h)), tt)

claim_by : (xs : List ℕ) (x : Option (List ℕ)) (b : Bool) → bytes_eq xs (codes "-") ≡ b → cond b (Some None) (read_keyword claim_keywords None xs) ≡ Some x
    → (xs ≡ claim_text x) × IsTrue (is_claim x)
claim_by xs x true same e =
    let none : None ≡ x = some_is None x e in
    subst (λ (y : Option (List ℕ)). (xs ≡ claim_text y) × IsTrue (is_claim y)) none (same_bytes xs (codes "-") same, refl)
claim_by xs x false same e = keywords_only claim_text is_claim claim_keywords None xs x all_claims (λ no. absurd cc) e

exact_claim : IsExact claim
exact_claim = record { again = claim_again; only = λ xs x e. claim_by xs x (bytes_eq xs (codes "-")) refl e }

claim_free : (x : Option (List ℕ)) → IsTrue (is_claim x) → IsTrue (lacks 32 (claim_text x))
claim_free None h = refl
claim_free (Some v) h = lacks_append 32 (codes "=") (hex_string.spell v) refl ((hex_string_lacks 32 refl).free v h)

claim_lacks : Lacks 32 claim
claim_lacks = record { free = claim_free }

-- ---- the line

pub sound_check : IsSound check
sound_check =
    sound_and root (address_word & claim & nonempty_hex & end) exact_root root_lacks
    (sound_and address_word (claim & nonempty_hex & end) exact_address (address_lacks 32 refl)
    (sound_and claim (nonempty_hex & end) exact_claim claim_lacks
    (sound_and nonempty_hex end exact_filled filled_lacks sound_end)))

abbrev pub terms_of_check : ProofCheck → CheckTerms
terms_of_check c = (c.root, (c.address, (c.claim, (c.bytes, tt))))

four_fit : (a b c d : Bool) → IsTrue (a && b && c && d) → IsTrue (a && (b && (c && (d && true))))
four_fit true true true true h = refl
four_fit true true true false h = h
four_fit true true false d h = h
four_fit true false c d h = h
four_fit false b c d h = h

fit_four : (a b c d : Bool) → IsTrue (a && (b && (c && (d && true)))) → IsTrue (a && b && c && d)
fit_four true true true true h = refl
fit_four true true true false h = h
fit_four true true false d h = h
fit_four true false c d h = h
fit_four false b c d h = h

pub check_fits : (c : ProofCheck) → IsTrue (is_check c) → IsTrue (check.fits (terms_of_check c))
check_fits c h = four_fit (is_root c.root) (is_address c.address) (is_claim c.claim) (is_filled c.bytes) h

pub fits_check : (x : CheckTerms) → IsTrue (check.fits x) → IsTrue (is_check (check_of x))
fits_check x h = fit_four (is_root x.0) (is_address x.1.0) (is_claim x.1.1.0) (is_filled x.1.1.1.0) h
