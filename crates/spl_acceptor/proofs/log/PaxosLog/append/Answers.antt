use Rattle.std.proofs.Common.{◌≡◌, [], ◌∷◌, ◌++◌, Ok, Some, IfSome, rules}
use Rattle.spl_edge.specs.Devices.{image_now}
use Rattle.spl_journal.specs.{Journals.Stands, Records.{records, records_of}}
use Rattle.spl_acceptor.{specs.{Forms.paxos_record_form, Logs.{paxos_record_in, is_paxos_record, records_on, paxos_records}}, proofs.Lists.{both_ok, on_ok}}
use Rattle.spl_acceptor.proofs.{Logs.{append_leaves, append_keeps, none_leaves}, Reading.{good_record, good_read}}
use Rattle.spl_acceptor.proofs.log.PaxosLog.append.Goals as goal

pub returns-in_default-clause-any_moment : goal.returns-in_default-clause-any_moment
returns-in_default-clause-any_moment g c =
    none_leaves c.args.self.now.journal.end c.args.self.now.journal.extent c.args.self.now.journal.epoch (g.D.Disk.view c.args.disk.now)
    (c.args.change.now ∷ []) c.requires.stands

pub append-requires-clause-good : goal.append-requires-clause-good
append-requires-clause-good g c =
    let spelled : c.bytes-2.result.now ≡ paxos_record_form.spell c.args.change.now = search rules in
    good_record c.args.change.now c.bytes-2.result.now spelled c.in-Ok.ensures.fits

pub returns-clause-kept : goal.returns-clause-kept
returns-clause-kept g c =
    let old = image_now (g.D.Disk.view c.args.disk.now) in
    let new = image_now (g.D.Disk.view c.append.new.disk) in
    let spelled : c.bytes-2.result.now ≡ paxos_record_form.spell c.args.change.now = search rules in
    let read : paxos_record_in c.bytes-2.result.now ≡ Some c.args.change.now = good_read c.args.change.now c.bytes-2.result.now spelled c.in-Ok.ensures.fits in
    on_ok c.append.result
    (IfSome new (Stands is_paxos_record c.append.new.self)
    × IfSome old (λ i. IfSome new (λ j. records is_paxos_record j.bytes ≡ Ok (records_of is_paxos_record i.bytes ++ c.bytes-2.result.now ∷ []))))
    (IfSome old (λ i. IfSome new (λ j. records_on j.bytes ≡ Ok (paxos_records i.bytes ++ c.args.change.now ∷ []))))
    (append_keeps (g.D.Disk.view c.args.disk.now)
    (g.D.Disk.view c.append.new.disk) old c.bytes-2.result.now c.args.change.now read c.append.new.self.end c.append.new.self.extent
    c.append.new.self.epoch new)
    (both_ok c.append.result _ _ c.append.ensures.stands c.append.ensures.records)

pub returns-clause-any_moment : goal.returns-clause-any_moment
returns-clause-any_moment g c =
    let spelled : c.bytes-2.result.now ≡ paxos_record_form.spell c.args.change.now = search rules in
    let read : paxos_record_in c.bytes-2.result.now ≡ Some c.args.change.now = good_read c.args.change.now c.bytes-2.result.now spelled c.in-Ok.ensures.fits in
    append_leaves (g.D.Disk.view c.args.disk.now) (g.D.Disk.view c.append.new.disk)
    (image_now (g.D.Disk.view c.args.disk.now)) c.bytes-2.result.now c.args.change.now read c.args.self.now.journal.end c.args.self.now.journal.extent
    c.args.self.now.journal.epoch c.requires.stands c.append.ensures.head c.append.ensures.any_moment
