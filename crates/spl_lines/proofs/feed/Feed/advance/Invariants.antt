use Rattle.std.proofs.Common.{◌≡◌, ◌≤◌, ◌-◌, ℕ, List, Option, false, length, take}
use Rattle.spl_lines.specs.{Lines.has_feed, Feed.{Feeds, waiting, count_of}}
use Rattle.spl_lines.proofs.feed.Feed.advance.Given as goal

abbrev pub invariant-pieces : goal.invariant-pieces
invariant-pieces g l = record {
  within : l.seen ≤ length (waiting l.self);
  none : has_feed (take l.seen (waiting l.self)) ≡ false;
  feeds : (before : List ℕ) (had : Option (List ℕ)) (lines : List (List ℕ))
      → Feeds before had lines (g.S.Source.view l.initial.source).gave (g.S.Source.view l.initial.source).left l.initial.self
      → Feeds before had lines (g.S.Source.view l.source).gave (g.S.Source.view l.source).left l.self;
  later : (g.S.Source.view l.initial.source).faults ≤ (g.S.Source.view l.source).faults;
}

abbrev pub decreases-pieces : goal.decreases-pieces
decreases-pieces g l = 67108865 - count_of l.self
