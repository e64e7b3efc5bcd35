use Rattle.std.proofs.Common.{◌≡◌, ℕ, None, Some, length, ap, ◌∙◌, rules}
use Rattle.spl_edge.specs.Devices.{image_now}
use Rattle.spl_journal.{specs.Records.epoch_from, proofs.Pieces.{head_read, form_read, epoch_read}}
use Rattle.spl_journal.proofs.read.read_head.Goals as goal

pub returns-in-Err-head_form-clause-not : goal.returns-in-Err-head_form-clause-not
returns-in-Err-head_form-clause-not g c = λ at e.
    let same : c.in-Err-head_form.at ≡ at = cc in
    head_read (image_now (g.D.Disk.view c.args.disk.now)) c.in-Ok.got c.read.new.buf (Some at) c.in-Ok.ensures.bytes (search rules)
    (c.in-Err-head_form.ensures.not ∙ ap (λ (n : ℕ). Some n) same)

pub returns-clause-ok : goal.returns-clause-ok
returns-clause-ok g c =
    head_read (image_now (g.D.Disk.view c.args.disk.now)) c.in-Ok.got c.read.new.buf None c.in-Ok.ensures.bytes (search rules) c.in-Ok-head_form.ensures.ok

pub returns-clause-form : goal.returns-clause-form
returns-clause-form g c =
    form_read (image_now (g.D.Disk.view c.args.disk.now)) c.in-Ok.got c.read.new.buf c.in-Ok-head_form.form c.in-Ok.ensures.bytes
    (search rules) c.in-Ok-head_form.ensures.form

pub returns-clause-epoch : goal.returns-clause-epoch
returns-clause-epoch g c =
    let long : length c.read.new.buf ≡ 18 = search rules in
    epoch_read (image_now (g.D.Disk.view c.args.disk.now)) c.in-Ok.got c.read.new.buf c.in-Ok.ensures.bytes long (returns-clause-ok g c) c.epoch_from.result
    (c.epoch_from.ensures ∙ ap epoch_from c.copy_from_slice.ensures.after)
