-- The words of a line that checks a proof (docs/RULES.md, Schedules).
use Rattle.std.specs.{Prelude.{ℕ, Bool, true, ◌&&◌, ◌==◌, nat_le, List, [], ◌∷◌, ◌++◌, length, Option, Some, None, if◌then◌else◌, codes}, Str.bytes_eq}
use Rattle.spl_state.specs.declared.address.Address.{Address}
use Rattle.spl_words.specs.Words.{Word, Words, Keyword, hex_string, end, ◌&◌, that, keyword, read_keyword}
use Rattle.spl_sched.specs.{Transactions.{is_bytes, is_address, address_word}, declared.line.ProofCheck.ProofCheck}

-- ---- which values are within their bounds

abbrev pub is_root : List ℕ → Bool
is_root bs = length bs == 32 && is_bytes bs

abbrev pub is_claim : Option (List ℕ) → Bool
is_claim None = true
is_claim (Some v) = is_bytes v

-- at least one byte
abbrev pub is_filled : List ℕ → Bool
is_filled bs = nat_le 1 (length bs) && is_bytes bs

abbrev pub is_check : ProofCheck → Bool
is_check c = is_root c.root && is_address c.address && is_claim c.claim && is_filled c.bytes

-- ---- single words

-- 64 digits
abbrev pub root : Word (List ℕ)
root = that (λ bs. length bs == 32) hex_string

-- - for none, or = and the digits of a value
abbrev pub claim_text : Option (List ℕ) → List ℕ
claim_text None = codes "-"
claim_text (Some v) = codes "=" ++ hex_string.spell v

abbrev pub claim_keywords : List (Keyword (Option (List ℕ)))
claim_keywords = keyword (codes "=") hex_string Some ∷ []

abbrev pub read_claim : List ℕ → Option (Option (List ℕ))
read_claim xs = if bytes_eq xs (codes "-") then Some None else read_keyword claim_keywords None xs

abbrev pub claim : Word (Option (List ℕ))
claim = record { spell = claim_text; read = read_claim; fits = is_claim }

-- 2 digits or more
abbrev pub nonempty_hex : Word (List ℕ)
nonempty_hex = that (λ bs. nat_le 1 (length bs)) hex_string

-- ---- the line

-- ROOT ADDRESS CLAIM HEX
abbrev pub words_of_check : ProofCheck → List (List ℕ)
words_of_check c = codes "check" ∷ root.spell c.root ∷ address_word.spell c.address ∷ claim_text c.claim ∷ nonempty_hex.spell c.bytes ∷ []

abbrev pub CheckTerms : Type 0
CheckTerms = List ℕ × (Address × (Option (List ℕ) × (List ℕ × Unit {0})))

abbrev pub check : Words CheckTerms
check = root & address_word & claim & nonempty_hex & end

abbrev pub check_of : CheckTerms → ProofCheck
check_of x = record { root = x.0; address = x.1.0; claim = x.1.1.0; bytes = x.1.1.1.0 }
