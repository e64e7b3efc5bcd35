-- How the reading of a schedule ends.
use Rattle.std.{specs.{Io.KnownBytes.IsAtEnd, Prelude.IsErrOf}, proofs.Common.{◌≡◌, ◌≢◌, ◌≤◌, ◌<◌, ◌+◌, ◌⊎◌, inl, inr, ℕ, Bool, false, List, [], ◌∷◌, ◌++◌}}
use Rattle.std.proofs.Common.{Ok, Err, refl, sym, ◌∙◌, ap, subst, length, arith}
use Rattle.spl_circuit.specs.Nodes.{Node}
use Rattle.spl_edge.{proofs.Results.failed, specs.{Devices.{Rose, SourceView}, Sources.{limit, given}}}
use Rattle.spl_lines.specs.{Feed.{Feeds, count_of, waiting}, Lines.{IsOverlong, IsUnfinished, run_of, IsLong, IsShort, has_feed}, declared.feed.Feed.Feed}
use Rattle.spl_lines.{specs.declared.feed.FeedFault.FeedFault, proofs.Fed.{all_lines, is_long, is_overlong, is_short, rest_given}}
use Rattle.spl_lines.proofs.{Fed.unfinished as is_unfinished, Schedules.{all_before, before_it, it_and_more}}
use Rattle.spl_lines.specs.declared.feed.FeedFault.TheVariants as feed
use Rattle.spl_lint.specs.{Linting.{AreLines, FitsLine, IsFirstBad, Linted, lint_fault}, declared.linting.LintFault.LintFault}
use Rattle.spl_lint.specs.declared.linting.LintFault.TheVariants as fault

module _ (ns : List Node) (lines : List (List ℕ)) (good : AreLines ns lines) (s t : SourceView) where
  -- the next line is a bad one, or there was no memory to read it
  pub line_fails : (rest : List (List ℕ)) (line : List ℕ) (number : ℕ) → number ≡ length lines + 1 → run_of (given s t) ≡ (lines ++ line ∷ []) ++ rest
      → (f : LintFault) → FitsLine (failed (Unit {0}) LintFault f) ns number line → Linted (Err f) ns s t
  line_fails rest line number counted is (fault.BadLine n cause) fits = record {
    before = subst (AreLines ns) (sym (before_it lines line rest (run_of (given s t)) is n (fits.0 ∙ counted))) good;
    bad = inl (record {
      line = line;
      more = rest;
      counted = omega (arith, fits.0, counted);
      place = it_and_more lines line rest (run_of (given s t)) is n (fits.0 ∙ counted);
      bad = fits.1;
    });
  }
  line_fails rest line number counted is fault.NoMemory fits = tt
  line_fails rest line number counted is fault.Read fits = absurd fits
  line_fails rest line number counted is fault.TooLong fits = absurd fits

  module _ (f : Feed) (feeds : Feeds s.gave s.left lines t.gave t.left f) (none : has_feed (waiting f) ≡ false) where
    same_lines : run_of (given s t) ≡ lines
    same_lines = all_lines s.gave s.left lines t.gave t.left f feeds none

    good_given : AreLines ns (run_of (given s t))
    good_given = subst (AreLines ns) (sym same_lines) good

    -- there is no line more
    pub lines_whole : IsAtEnd t.left × (count_of f ≤ limit) × (waiting f ≡ []) → Linted (Ok tt) ns s t
    lines_whole (ended, few, empty) = record {
      ended = ended;
      short = is_short s.gave s.left lines t.gave t.left f feeds none few;
      whole = rest_given s.gave s.left lines t.gave t.left f feeds none few ∙ empty;
      lines = good_given;
    }

    -- what comes after all lines is no line
    no_end : (n : ℕ) → n ≡ length lines + 1 → IsUnfinished (given s t) t.left ⊎ IsOverlong (given s t) → IsFirstBad ns (given s t) t.left n
    no_end n counted bad = record {
      before = subst (AreLines ns) (sym (all_before lines (run_of (given s t)) n same_lines counted)) good;
      bad = inr (record { last = omega (arith, counted, ap length same_lines); bad = bad });
    }

    pub lines_end : (number : ℕ) → number ≡ length lines + 1 → (before : ℕ) → s.faults ≤ before → (e : FeedFault)
        → (IsErrOf (failed Bool FeedFault e) feed.Unfinished → IsAtEnd t.left × (count_of f ≤ limit) × (waiting f ≢ []))
        → (IsErrOf (failed Bool FeedFault e) feed.Overlong → IsLong (waiting f))
        → (IsErrOf (failed Bool FeedFault e) feed.TooLong → (limit < count_of f) × IsShort (waiting f))
        → (IsErrOf (failed Bool FeedFault e) feed.Read → Rose before t.faults × (count_of f ≤ limit) × IsShort (waiting f))
        → Linted (Err (lint_fault e number)) ns s t
    lines_end number counted before later feed.Unfinished unfinished over long read =
        (let h = unfinished refl in no_end number counted (inl (is_unfinished s.gave s.left lines t.gave t.left f feeds none h.1 h.0 h.2)))
    lines_end number counted before later feed.Overlong unfinished over long read =
        no_end number counted (inr (is_overlong s.gave s.left lines t.gave t.left f feeds none (over refl)))
    lines_end number counted before later feed.TooLong unfinished over long read =
        ((is_long s.gave s.left lines t.gave t.left f feeds none (long refl)).0, good_given)
    lines_end number counted before later feed.Read unfinished over long read = (let h = read refl in (omega (arith, later, h.0), good_given))
    lines_end number counted before later feed.NoMemory unfinished over long read = tt
