use Rattle.std.proofs.Common.{◌≡◌, ◌++◌, Option, Ok, Some, None, IfSome, subst, rules}
use Rattle.spl_edge.specs.Devices.{image_now}
use Rattle.spl_journal.specs.Gate.{LeavesSince}
use Rattle.spl_acceptor.{specs.Logs.{records_on, paxos_records, one_or_none, IsKeptOrNot}, proofs.Logs.{none_kept, none_leaves}}
use Rattle.spl_acceptor.specs.declared.record.PaxosRecord.{PaxosRecord}
use Rattle.spl_acceptor.proofs.log.PaxosLog.keep.Goals as goal

pub returns-in-None-clause-kept : goal.returns-in-None-clause-kept
returns-in-None-clause-kept g c =
    let none : None ≡ c.args.change.now = search rules in
    let old = image_now (g.D.Disk.view c.args.disk.now) in
    subst (λ (o : Option PaxosRecord). IfSome old (λ i. IfSome old (λ j. records_on j.bytes ≡ Ok (paxos_records i.bytes ++ one_or_none o)))) none
    (none_kept c.args.self.now.journal.end c.args.self.now.journal.extent c.args.self.now.journal.epoch old c.requires.stands)

pub returns-in-None-clause-any_moment : goal.returns-in-None-clause-any_moment
returns-in-None-clause-any_moment g c =
    none_leaves c.args.self.now.journal.end c.args.self.now.journal.extent c.args.self.now.journal.epoch (g.D.Disk.view c.args.disk.now)
    (one_or_none c.args.change.now) c.requires.stands

pub returns-in-Some-clause-any_moment : goal.returns-in-Some-clause-any_moment
returns-in-Some-clause-any_moment g c =
    let some : Some c.in-Some.change ≡ c.args.change.now = search rules in
    subst (λ (o : Option PaxosRecord). IfSome (image_now (g.D.Disk.view c.args.disk.now))
    (λ i. LeavesSince (g.D.Disk.view c.args.disk.now) (g.D.Disk.view c.append.new.disk) (IsKeptOrNot (paxos_records i.bytes) (one_or_none o)))) some
    c.append.ensures.any_moment
