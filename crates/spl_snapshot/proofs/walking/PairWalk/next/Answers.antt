use Rattle.std.proofs.Common.{◌≡◌, Bool, subst}
use Rattle.spl_edge.specs.Devices.{image_now}
use Rattle.spl_journal.specs.Journals.{given_by}
use Rattle.spl_snapshot.{specs.Counting.{second_counts, IfBoth}, proofs.Findings.{fault_first, fault_second, first_next, first_none, ok_none, ok_some}}
use Rattle.spl_snapshot.proofs.walking.PairWalk.next.Goals as goal

pub returns-then-self-clause-not : goal.returns-then-self-clause-not
returns-then-self-clause-not g c =
    λ at fault. fault_second g.R.Form.is_record at (image_now (g.D.Disk.view c.args.disks.now.first)) (image_now (g.D.Disk.view c.args.disks.now.second))
    (c.next.ensures.not at fault)
    (subst (λ (b : Bool). IfBoth (image_now (g.D.Disk.view c.args.disks.now.first)) (image_now (g.D.Disk.view c.args.disks.now.second))
    (λ i j. second_counts i.bytes j.bytes ≡ b)) c.if-self.true c.requires.walks.counts)

pub returns-clause-not : goal.returns-clause-not
returns-clause-not g c =
    λ at fault. fault_first g.R.Form.is_record at (image_now (g.D.Disk.view c.args.disks.now.first)) (image_now (g.D.Disk.view c.args.disks.now.second))
    (c.next-2.ensures.not at fault)
    (subst (λ (b : Bool). IfBoth (image_now (g.D.Disk.view c.args.disks.now.first)) (image_now (g.D.Disk.view c.args.disks.now.second))
    (λ i j. second_counts i.bytes j.bytes ≡ b)) c.if-self.false c.requires.walks.counts)

pub returns-clause-next : goal.returns-clause-next
returns-clause-next g c = ok_some c.next-2.result _ _ c.next-2.ensures.next
    (λ r more. first_next c.args.self.now.second (image_now (g.D.Disk.view c.args.disks.now.first)) (image_now (g.D.Disk.view c.args.disks.now.second))
    (given_by g.R.Form.is_record c.next-2.new.self) (given_by g.R.Form.is_record c.args.self.now.walk) (g.R.Form.bytes_of r) c.if-self.false more)

pub returns-clause-none : goal.returns-clause-none
returns-clause-none g c = ok_none c.next-2.result _ _ c.next-2.ensures.none
    (λ all. first_none g.R.Form.is_record c.args.self.now.second (image_now (g.D.Disk.view c.args.disks.now.first))
    (image_now (g.D.Disk.view c.args.disks.now.second)) (given_by g.R.Form.is_record c.args.self.now.walk) c.if-self.false c.requires.walks.counts all)
