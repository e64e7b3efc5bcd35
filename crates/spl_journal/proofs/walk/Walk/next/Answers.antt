use Rattle.std.proofs.Common.{◌≡◌, ◌∙◌, ◌+◌, ◌<◌, ℕ, Err, length, IfSome, ap, sym, subst}
use Rattle.spl_edge.specs.Devices.{image_now}
use Rattle.spl_journal.{specs.{Records.{records, IsRecord}, Reads.IsNext, declared.form.JournalFault.TheVariants.NotAJournal}, proofs.Pieces.given_of}
use Rattle.spl_journal.proofs.Readings.{walk_gave, walk_more, walk_all, walk_broken}
use Rattle.spl_journal.proofs.walk.Walk.next.Goals as goal

pub returns-in-Err-clause-not : goal.returns-in-Err-clause-not
returns-in-Err-clause-not g c = λ at e.
    let same : c.in-Err.fault ≡ NotAJournal at = cc in
    let both = c.in-Err.ensures.not at (ap (λ f. Err f) same) in
    subst (λ (n : ℕ). IfSome (image_now (g.D.Disk.view c.args.disk.now)) (λ i. records g.R.Form.is_record i.bytes ≡ Err n)) (sym both.0)
    (walk_broken g.R.Form.is_record c.args.self.now.at c.args.self.now.extent c.args.self.now.epoch c.args.self.now.form c.args.self.now.ended
    (image_now (g.D.Disk.view c.args.disk.now)) (sym c.is_last.ensures ∙ c.if-is_last.false) c.requires.walks both.1)

pub returns-in_default-clause-none : goal.returns-in_default-clause-none
returns-in_default-clause-none g c =
    walk_all g.R.Form.is_record c.args.self.now.at c.args.self.now.extent c.args.self.now.epoch c.args.self.now.form c.args.self.now.ended
    (image_now (g.D.Disk.view c.args.disk.now)) (sym c.is_last.ensures ∙ c.if-is_last.false) c.requires.walks (c.in-Ok.ensures.end c.in_default.is)

pub returns-clause-walks : goal.returns-clause-walks
returns-clause-walks g c =
    let size : c.in-Some.size ≡ length (g.R.Form.bytes_of c.in-Some.record) =
    given_of (λ r. r.1 ≡ length (g.R.Form.bytes_of r.0)) c.in-Ok.found (c.in-Some.record, c.in-Some.size) c.in-Some.is c.in-Ok.ensures.size in
    let found =
    given_of (λ r. IsRecord c.args.self.now.form.longest g.R.Form.is_record (g.R.Form.bytes_of r.0)
    × IfSome (image_now (g.D.Disk.view c.args.disk.now))
    (λ i. c.args.self.now.at < length i.bytes
    → IsNext c.args.self.now.form.longest g.R.Form.is_record c.args.self.now.at (g.R.Form.bytes_of r.0) i.bytes)) c.in-Ok.found
    (c.in-Some.record, c.in-Some.size) c.in-Some.is c.in-Ok.ensures.next in
    walk_more g.R.Form.is_record c.args.self.now.at c.args.self.now.extent c.args.self.now.epoch c.args.self.now.form c.args.self.now.ended
    (g.R.Form.bytes_of c.in-Some.record) (c.args.self.now.at + 5 + c.in-Some.size) (ap (λ (n : ℕ). c.args.self.now.at + 5 + n) size)
    (image_now (g.D.Disk.view c.args.disk.now)) (sym c.is_last.ensures ∙ c.if-is_last.false) c.requires.walks found.1

pub returns-clause-next : goal.returns-clause-next
returns-clause-next g c =
    let size : c.in-Some.size ≡ length (g.R.Form.bytes_of c.in-Some.record) =
    given_of (λ r. r.1 ≡ length (g.R.Form.bytes_of r.0)) c.in-Ok.found (c.in-Some.record, c.in-Some.size) c.in-Some.is c.in-Ok.ensures.size in
    let found =
    given_of (λ r. IsRecord c.args.self.now.form.longest g.R.Form.is_record (g.R.Form.bytes_of r.0)
    × IfSome (image_now (g.D.Disk.view c.args.disk.now))
    (λ i. c.args.self.now.at < length i.bytes
    → IsNext c.args.self.now.form.longest g.R.Form.is_record c.args.self.now.at (g.R.Form.bytes_of r.0) i.bytes)) c.in-Ok.found
    (c.in-Some.record, c.in-Some.size) c.in-Some.is c.in-Ok.ensures.next in
    walk_gave g.R.Form.is_record c.args.self.now.at c.args.self.now.extent c.args.self.now.epoch c.args.self.now.form c.args.self.now.ended
    (g.R.Form.bytes_of c.in-Some.record) (c.args.self.now.at + 5 + c.in-Some.size) (ap (λ (n : ℕ). c.args.self.now.at + 5 + n) size)
    (image_now (g.D.Disk.view c.args.disk.now)) (sym c.is_last.ensures ∙ c.if-is_last.false) c.requires.walks found.1
