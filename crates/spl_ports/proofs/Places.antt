-- Bytes at their first line feed.
use Rattle.std.proofs.Common.{◌≡◌, ◌==◌, ℕ, true, ◌+◌, ◌<◌, ◌≤◌, List, ◌∷◌, ◌++◌, Some, length, get_or, take, drop, sym, ◌∙◌, ap, arith, take-append-drop}
use Rattle.std.proofs.{Common.length-take, lemmas.{List.{drop_more, Quantifiers.position-Some}, Bool.Decides.nat_tests}}
use Rattle.spl_base.specs.declared.limit.TheConstants.{LONGEST_LINE}
use Rattle.spl_ports.specs.Lines.{BeginsWithLine, place_of_feed}

feed_byte : (b : ℕ) → (b == 10) ≡ true → b ≡ 10
feed_byte b test = grind (arith, nat_tests)

-- they are what stands before it, the line feed, and what stands after it
split_at_feed : (bytes : List ℕ) (k : ℕ) → place_of_feed bytes ≡ Some k → bytes ≡ take k bytes ++ 10 ∷ drop (k + 1) bytes
split_at_feed bytes k is =
    let found = position-Some (λ b. b == 10) bytes k 0 is in
    sym (take-append-drop k bytes) ∙ ap (λ (l : List ℕ). take k bytes ++ l)
    (drop_more bytes k 0 found.0 ∙ ap (λ (b : ℕ). b ∷ drop (k + 1) bytes) (feed_byte (get_or bytes k 0) found.1))

within_at_feed : (bytes : List ℕ) (k : ℕ) → place_of_feed bytes ≡ Some k → k < length bytes
within_at_feed bytes k is = (position-Some (λ b. b == 10) bytes k 0 is).0

pub line_at_feed : (old line new : List ℕ) (k : ℕ) → place_of_feed old ≡ Some k → k ≤ LONGEST_LINE → line ≡ take k old → new ≡ drop (k + 1) old
    → BeginsWithLine old line new
line_at_feed old line new k feed short line_is new_is =
    let within : k < length old = within_at_feed old k feed in
    let taken : length (take k old) ≡ k = omega (arith, length-take k old, within) in
    let count : length line ≡ k = ap (λ (l : List ℕ). length l) line_is ∙ taken in
    record {
      spelled = rw (line_is, new_is) (split_at_feed old k feed);
      first = feed ∙ ap (λ (n : ℕ). Some n) (sym count);
      short = rw count short;
    }
