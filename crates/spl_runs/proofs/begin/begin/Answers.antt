use Rattle.std.{specs.Prelude.IfOk, proofs.Common.{[], sym, subst}}
use Rattle.spl_node.{specs.Benches.{images, images_at}, proofs.Starting.blank_read}
use Rattle.spl_world.{proofs.Leaving.no_journal, specs.Views.StandsAfterLines}
use Rattle.spl_runs.specs.{Run.origin_in, declared.mode.Beginning.Beginning}
use Rattle.spl_runs.proofs.begin.begin.Goals as goal
use Rattle.spl_edge.proofs.Results.{on_ok}

pub returns-in-Resumed-clause-stands : goal.returns-in-Resumed-clause-stands
returns-in-Resumed-clause-stands g c = λ tell.
    let is = images g.D.Disk.view c.args.pairs.now.items in
    subst (λ (b : Beginning). IfOk c.open.result
    (λ w. StandsAfterLines (origin_in b c.args.registry.now is) 0 [] w (images g.D.Disk.view c.open.new.pairs.items))) (sym c.in-Resumed.is)
    (c.open.ensures.stands tell)

pub returns-in-Resumed-clause-unread : goal.returns-in-Resumed-clause-unread
returns-in-Resumed-clause-unread g c = λ tell slot at is. (c.open.ensures.journal tell slot at is).1

pub returns-in-Resumed-clause-journal : goal.returns-in-Resumed-clause-journal
returns-in-Resumed-clause-journal g c = λ slot at is. (c.in-Resumed.is, c.open.ensures.bound slot at is)

pub returns-in-Blank-clause-unread : goal.returns-in-Blank-clause-unread
returns-in-Blank-clause-unread g c = λ tell slot at is. absurd (no_journal c.new.result c.new.ensures.sound slot at is)

pub returns-in-Blank-clause-journal : goal.returns-in-Blank-clause-journal
returns-in-Blank-clause-journal g c = λ slot at is. absurd (no_journal c.new.result c.new.ensures.sound slot at is)

pub returns-in-Blank-clause-stands : goal.returns-in-Blank-clause-stands
returns-in-Blank-clause-stands g c = λ tell.
    let is = images g.D.Disk.view c.args.pairs.now.items in
    subst (λ (b : Beginning). IfOk c.new.result
    (λ w. StandsAfterLines (origin_in b c.args.registry.now is) 0 [] w (images g.D.Disk.view c.new.new.pairs.items))) (sym c.in-Blank.is)
    (c.new.ensures.stands tell)

pub returns-in-Blank-clause-readable : goal.returns-in-Blank-clause-readable
returns-in-Blank-clause-readable g c = λ tell.
    let is = images g.D.Disk.view c.args.pairs.now.items in
    on_ok c.new.result (λ k below.
    (let blank = c.requires.blank c.in-Blank.is k below in blank_read (images_at is k).0 (images_at is k).1 blank.first blank.second))

pub returns-in-Blank-clause-held : goal.returns-in-Blank-clause-held
returns-in-Blank-clause-held g c = λ off none tell. c.new.ensures.held tell none
