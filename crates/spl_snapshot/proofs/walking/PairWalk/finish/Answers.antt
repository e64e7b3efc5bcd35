use Rattle.std.proofs.Common.{◌+◌, List, ℕ, refl, subst}
use Rattle.spl_edge.specs.Devices.{image_now, pair_view}
use Rattle.spl_journal.specs.Journals.{Walks}
use Rattle.spl_snapshot.{specs.{Anew.IsBelow, Counting.{chosen, pair_records_of, HaveEither, IfBoth, PairLeaves}}, proofs.Checkpoints.left_still}
use Rattle.spl_snapshot.proofs.{Checkpoints.walking_below, Findings.if_map}
use Rattle.spl_snapshot.proofs.walking.PairWalk.finish.Goals as goal

pub returns-then-not-is_older-clause-any_moment : goal.returns-then-not-is_older-clause-any_moment
returns-then-not-is_older-clause-any_moment g c =
    left_still g.R.Form.is_record (g.P.Packed.packed c.args.state.now) (c.args.self.walk.epoch + 1) c.args.self.other c.args.self.second
    (image_now (g.D.Disk.view c.args.disks.now.first)) (image_now (g.D.Disk.view c.args.disks.now.second)) (g.D.Disk.view c.args.disks.now.first).image_at
    (g.D.Disk.view c.args.disks.now.second).image_at (g.D.Disk.view c.args.disks.now.first).moment (g.D.Disk.view c.args.disks.now.second).moment
    (if_map (chosen c.args.self.second (image_now (g.D.Disk.view c.args.disks.now.first)) (image_now (g.D.Disk.view c.args.disks.now.second)))
    (Walks g.R.Form.is_record c.args.self.walk) (IsBelow g.R.Form.is_record (c.args.self.walk.epoch + 1)) c.requires.walks.counting
    (walking_below g.R.Form.is_record c.args.self.walk.at c.args.self.walk.extent c.args.self.walk.epoch
    (c.args.self.walk.epoch + 1) c.args.self.walk.form c.args.self.walk.ended c.requires.ended
    (c.is_older.ensures.last c.requires.ended) refl)) c.requires.walks.other c.requires.walks.counts refl refl

pub returns-in_default-clause-any_moment : goal.returns-in_default-clause-any_moment
returns-in_default-clause-any_moment g c =
    left_still g.R.Form.is_record (g.P.Packed.packed c.args.state.now) (c.args.self.walk.epoch + 1) c.args.self.other c.args.self.second
    (image_now (g.D.Disk.view c.args.disks.now.first)) (image_now (g.D.Disk.view c.args.disks.now.second)) (g.D.Disk.view c.args.disks.now.first).image_at
    (g.D.Disk.view c.args.disks.now.second).image_at (g.D.Disk.view c.args.disks.now.first).moment (g.D.Disk.view c.args.disks.now.second).moment
    (if_map (chosen c.args.self.second (image_now (g.D.Disk.view c.args.disks.now.first)) (image_now (g.D.Disk.view c.args.disks.now.second)))
    (Walks g.R.Form.is_record c.args.self.walk) (IsBelow g.R.Form.is_record (c.args.self.walk.epoch + 1)) c.requires.walks.counting
    (walking_below g.R.Form.is_record c.args.self.walk.at c.args.self.walk.extent c.args.self.walk.epoch
    (c.args.self.walk.epoch + 1) c.args.self.walk.form c.args.self.walk.ended c.requires.ended
    (c.is_older.ensures.last c.requires.ended) refl)) c.requires.walks.other c.requires.walks.counts refl refl

pub returns-clause-any_moment : goal.returns-clause-any_moment
returns-clause-any_moment g c =
    subst (λ (l : List (List ℕ)). IfBoth (image_now (g.D.Disk.view c.args.disks.now.first)) (image_now (g.D.Disk.view c.args.disks.now.second))
    (λ i j. PairLeaves (pair_view g.D.Disk.view c.args.disks.now) (pair_view g.D.Disk.view c.carry_over.new.disks)
    (HaveEither g.R.Form.is_record (pair_records_of g.R.Form.is_record i.bytes j.bytes) l))) c.in-Ok.ensures c.carry_over.ensures.any_moment
