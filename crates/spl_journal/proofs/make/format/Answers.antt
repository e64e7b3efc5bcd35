use Rattle.std.proofs.Common.{◌≡◌, ◌∙◌, length, ap, rules}
use Rattle.spl_edge.specs.Devices.{image_now}
use Rattle.spl_journal.{specs.Records.closed_head, proofs.Makes.{length-closed_head, format_stands, format_records}}
use Rattle.spl_journal.proofs.make.format.Goals as goal

pub write_head-requires-clause-long : goal.write_head-requires-clause-long
write_head-requires-clause-long g c =
    let head : c.deref.result.now ≡ closed_head c.args.epoch = search rules in
    ap length head ∙ length-closed_head c.args.epoch

pub returns-clause-stands : goal.returns-clause-stands
returns-clause-stands g c =
    let head : c.deref.result.now ≡ closed_head c.args.epoch = search rules in
    format_stands g.R.Form.is_record c.args.epoch (image_now (g.D.Disk.view c.args.disk.now))
    (image_now (g.D.Disk.view c.write_head.new.disk)) c.deref.result.now (search rules) head c.requires.blank c.in_default-write_head.ensures.made

pub returns-clause-empty : goal.returns-clause-empty
returns-clause-empty g c =
    let head : c.deref.result.now ≡ closed_head c.args.epoch = search rules in
    format_records g.R.Form.is_record c.args.epoch (image_now (g.D.Disk.view c.args.disk.now))
    (image_now (g.D.Disk.view c.write_head.new.disk)) c.deref.result.now head c.requires.blank c.in_default-write_head.ensures.made
