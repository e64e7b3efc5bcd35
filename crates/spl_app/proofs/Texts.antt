-- The text of a schedule doesn't end a run that can go to its end.
use Rattle.std.{specs.Io.KnownBytes.Consumes, proofs.Common.{◌≡◌, ◌⊎◌, inl, inr, ◌-◌, ◌≤◌, ℕ, true, List, [], length, drop, Ok, Err, ap, sym, ◌∙◌, arith}}
use Rattle.spl_edge.{specs.{Devices.{Rose, SourceView}, Sources.{had, limit, given}}, proofs.Sources.had_more}
use Rattle.spl_lines.{specs.Lines.{run_of, IsShort, rest_of}, proofs.Parts.{good_at, no_rest}}
use Rattle.spl_runs.specs.Run.{IsAllowed, Plan, RunMode, ids, AreAllowed, Ended, EndsText, IsBadLine, IsBadRest}
use Rattle.spl_runs.specs.declared.fault.RunEnd.TheVariants as end
use Rattle.spl_runs.specs.declared.fault.RunFault.TheVariants as fault
use Rattle.spl_app.proofs.Ends.{is_of_text}

-- the source had a text that is within the limit and ends with a line feed, and the schedule may have each of its lines
pub record IsWellHad (w : RunMode) (p : Plan) (old new : SourceView) : Type 0 where
  pub short : length (had old.left (given old new)) ≤ limit
  pub whole : rest_of (had old.left (given old new)) ≡ []
  pub good : AreAllowed w p (run_of (had old.left (given old new)))

module _ (w : RunMode) (p : Plan) (old new : SourceView) (consumed : Consumes old.left new.left (given old new)) (lines : p.lines ≡ run_of (given old new))
    (well : IsWellHad w p old new) where
  fits : (line : List ℕ) → IsAllowed w (ids p) line → IsShort line
  fits line good = good.good.0

  no_bad : (n : ℕ) → IsBadLine w p n ⊎ IsBadRest p (given old new) new.left n → ⊥
  no_bad n (inl h) =
      h.bad (good_at (IsAllowed w (ids p)) fits old.left new.left (given old new) consumed well.short well.whole well.good (n - 1) h.line h.more
      (ap (drop (n - 1)) (sym lines) ∙ h.place))
  no_bad n (inr h) = no_rest (IsAllowed w (ids p)) fits old.left new.left (given old new) consumed well.short well.whole well.good h.bad

  few : length (given old new) ≤ limit
  few = omega (arith, well.short, had_more old.left new.left (given old new) consumed)

  pub never_text : (Rose old.faults new.faults → ⊥) → (e : Ended) → EndsText e w p old new → is_of_text e ≡ true → ⊥
  never_text still (Ok end.Read) h is = still h.0
  never_text still (Ok end.TooLong) h is = omega (arith, few, h.0)
  never_text still (Err (fault.BadLine n)) h is = no_bad n h
  never_text still e h is = cc
