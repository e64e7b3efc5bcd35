-- The lines that a source gave are the first of those that it had.
use Rattle.std.{proofs.Common.{◌≡◌, ◌⊎◌, inl, inr, ◌≤◌, ℕ, List, [], ◌∷◌, ◌++◌, length, drop}, specs.{Io.KnownBytes.Consumes, List.AllByRecursion}}
use Rattle.std.proofs.Common.{Option, Some, None, ap, sym, subst, ◌∙◌, arith, append-nil}
use Rattle.spl_lines.{specs.Lines.{IsOverlong, IsUnfinished, run_of, IsShort, lines_of, rest_of}, proofs.{Fed.overlong_had, Feeds.{all_prefix, lines_prefix}}}
use Rattle.spl_lines.proofs.{Given.run_given, Schedules.all_at}
use Rattle.spl_edge.{specs.Sources.{had, limit}, proofs.Sources.{all_had, had_more}}

-- all that it had is the bytes given and others
rest_had : (old new : Option (List ℕ)) (bytes : List ℕ) → Consumes old new bytes → (rest : List ℕ) × (had old bytes ≡ bytes ++ rest)
rest_had None new bytes consumed = ([], sym (append-nil bytes))
rest_had (Some all) None bytes consumed = absurd consumed
rest_had (Some all) (Some rest) bytes consumed = (rest, consumed)

pub more_lines : (old new : Option (List ℕ)) (bytes : List ℕ) → Consumes old new bytes → length (had old bytes) ≤ limit
    → (ls : List (List ℕ)) × (run_of (had old bytes) ≡ run_of bytes ++ ls)
more_lines old new bytes consumed few =
    let less = had_more old new bytes consumed in
    let b = rest_had old new bytes consumed in
    let (rest, same) = lines_prefix bytes b.0 in
    (rest, run_given (had old bytes) few ∙ ap lines_of b.1 ∙ same ∙ ap (λ (ls : List (List ℕ)). ls ++ rest) (sym (run_given bytes (omega (arith, less, few)))))

-- a source had a text that is within the limit and ends with a line feed, and P holds of its lines, which aren't too long
module _ (P : List ℕ → Type 0) (fits : (line : List ℕ) → P line → IsShort line) (old new : Option (List ℕ)) (given : List ℕ) (consumed : Consumes old new given)
    (short : length (had old given) ≤ limit) (whole : rest_of (had old given) ≡ []) (good : AllByRecursion P (run_of (had old given))) where
  -- so P holds of each line that it gave
  pub good_at : (n : ℕ) (line : List ℕ) (more : List (List ℕ)) → drop n (run_of given) ≡ line ∷ more → P line
  good_at n line more place =
      let rest = more_lines old new given consumed short in
      all_at P (run_of given) n line more place (all_prefix P (run_of given) rest.0 (subst (AllByRecursion P) rest.1 good))

  -- and the line after those neither lacks its line feed nor is too long
  pub no_rest : IsUnfinished given new ⊎ IsOverlong given → ⊥
  no_rest (inl cut) = cut.more (ap rest_of (sym (all_had old new given consumed cut.ended)) ∙ whole)
  no_rest (inr long) = overlong_had P fits old new given consumed long short whole (subst (AllByRecursion P) (run_given (had old given) short) good)
