use Rattle.std.proofs.Common.{◌≡◌, ◌≤◌, ◌-◌, ◌+◌, ℕ, List, length}
use Rattle.spl_lines.specs.Feed.{Feeds}
use Rattle.spl_lint.specs.Linting.{AreLines}
use Rattle.spl_lint.proofs.linting.lint.Given as goal

abbrev pub invariant-lines : goal.invariant-lines
invariant-lines g l = record {
  lines : List (List ℕ);
  counted : l.number ≡ length lines + 1;
  feeds : Feeds (g.S.Source.view l.initial.source).gave (g.S.Source.view l.initial.source).left lines (g.S.Source.view l.source).gave
      (g.S.Source.view l.source).left l.feed;
  good : AreLines l.initial.nodes lines;
  later : (g.S.Source.view l.initial.source).faults ≤ (g.S.Source.view l.source).faults;
}

abbrev pub decreases-lines : goal.decreases-lines
decreases-lines g l = 67108866 - l.number
