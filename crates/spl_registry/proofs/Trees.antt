-- A list of values beside the items that it shows.
use Rattle.std.{specs.{List.list_all, Str.{IsUtf8, is_utf8}}, proofs.Common.{◌≡◌, ℕ, ◌+◌, ◌&&◌, true, false, List, [], ◌∷◌, length, refl, ap, ◌∙◌, sym}}
use Rattle.std.proofs.{Common.{add-one, arith}, lemmas.Str.{IsUtf8-from_is_utf8, is_utf8-from_IsUtf8}}
use Rattle.toml.specs.{View.{view, items_view}, declared.value.Value.Value}
use Rattle.spl_registry.specs.Nodes.{is_text_value, all_texts, items_len}

pub all_texts_view : (vs : List Value) → all_texts (items_view vs) ≡ list_all (λ v. is_text_value (view v)) vs
all_texts_view [] = refl
all_texts_view (v ∷ vs) = ap (λ b. is_text_value (view v) && b) (all_texts_view vs)

pub items_len_view : (vs : List Value) → items_len (items_view vs) ≡ length vs
items_len_view [] = refl
items_len_view (v ∷ vs) = omega (arith, items_len_view vs)

-- the test of UTF-8
pub utf8_true : (bs : List ℕ) → IsUtf8 bs → is_utf8 bs ≡ true
utf8_true bs h = is_utf8-from_IsUtf8 bs h

pub utf8_false : (bs : List ℕ) → ¬ (IsUtf8 bs) → is_utf8 bs ≡ false
utf8_false bs h = elim (is_utf8 bs) as (λ b. is_utf8 bs ≡ b → is_utf8 bs ≡ false) [ true ↦ λ e. absurd (h (IsUtf8-from_is_utf8 bs e)) | false ↦ λ e. e ] refl
