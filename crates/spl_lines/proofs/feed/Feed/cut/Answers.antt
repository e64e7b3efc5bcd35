use Rattle.std.proofs.Common.{refl}
use Rattle.spl_lines.proofs.Fed.{cut_line, cut_none}
use Rattle.spl_lines.proofs.feed.Feed.cut.Goals as goal

pub returns-in-Some-clause-line : goal.returns-in-Some-clause-line
returns-in-Some-clause-line c =
    λ is. cut_line c.args.self.now.buffer.items c.deref.result.now c.args.self.now.start c.args.seen c.deref.ensures.value c.requires.seen c.requires.none
    c.in-Some.count c.in-Some.ensures

pub returns-in-None-clause-none : goal.returns-in-None-clause-none
returns-in-None-clause-none c =
    λ is. (
      cut_none c.args.self.now.buffer.items c.deref.result.now c.args.self.now.start c.args.seen c.deref.ensures.value c.requires.seen c.requires.none
          c.in-None.ensures,
      refl,
    )
