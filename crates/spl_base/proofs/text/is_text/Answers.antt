use Rattle.std.{specs.Str.bytes_eq, proofs.{Common.{◌≡◌, ℕ, ◌≤◌, List, length, take, true, sym, subst, ◌∙◌}, lemmas.List.take_all}}
use Rattle.std.proofs.lemmas.Slice.Eq.{bytes_eq-Decides}
use Rattle.spl_base.proofs.text.is_text.Goals as goal

-- bytes that are as many as those of a text, and the same up to there, are the text
whole : (bytes text : List ℕ) (i : ℕ) → length bytes ≤ i → length bytes ≡ length text → take i bytes ≡ take i text → true ≡ bytes_eq bytes text
whole bytes text i all same is = sym ((bytes_eq-Decides bytes text).1 (sym (take_all i bytes all) ∙ (is ∙ take_all i text (subst (λ (n : ℕ). n ≤ i) same all))))

pub returns : goal.returns
returns c = whole c.args.bytes.now c.args.text.now c.loop-i.i c.loop-i-test.false c.if-bytes-text.false c.loop-i.invariant
