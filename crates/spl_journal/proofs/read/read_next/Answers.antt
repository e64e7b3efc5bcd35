use Rattle.std.{specs.Prelude.is_some, proofs.Common.{◌≡◌, ◌+◌, ◌-◌, ◌<◌, ◌≤◌, ℕ, List, Option, true, false, min, length, get_or, take, drop, IfSome, ap}}
use Rattle.std.proofs.{Common.{subst, sym, ◌∙◌, length-take, length-drop, arith, rules}, lemmas.List.{take_all, take_at}}
use Rattle.spl_edge.specs.Devices.{Image, image_now}
use Rattle.spl_journal.{specs.{Records.{size_bytes, size_from, is_block, IsRecord}, Reads.IsNext}, proofs.Pieces.{given_of, lift2, not_fit, next_is}}
use Rattle.spl_journal.proofs.Pieces.{gate_read}
use Rattle.spl_journal.proofs.read.read_next.Goals as goal

pub returns-in-Ok-Some-clause-next : goal.returns-in-Ok-Some-clause-next
returns-in-Ok-Some-clause-next g c =
    let five : length c.read.new.buf ≡ 5 = search rules in
    let whole : 5 ≤ c.in-Ok.got = search rules in
    let gate : get_or c.read.new.buf 0 0 ≡ 1 = search rules in
    let part : c.copy_from_slice.new.self ≡ drop 1 c.read.new.buf =
    c.copy_from_slice.ensures.after ∙ take_all 4 (drop 1 c.read.new.buf) (omega (arith, five, length-drop 1 c.read.new.buf)) in
    let is_size : c.size_from-size.result ≡ size_from (drop 1 c.read.new.buf) = c.size_from-size.ensures.value ∙ ap size_from part in
    let long : length c.read-2.new.buf ≡ c.size_from-size.result + 1 = search rules in
    let full : c.size_from-size.result + 1 ≤ c.in-Ok-read.got = search rules in
    let is : c.truncate.new.self.items ≡ take c.size_from-size.result c.read-2.new.buf =
    c.truncate.ensures.items
    ∙ ap (λ (l : List ℕ). take c.size_from-size.result l)
    (take_at c.read-2.new.buf (drop (length c.read-2.new.buf) c.in-Ok-zeros.record.items) c.in-Ok-zeros.record.len
    (c.read-2.auto.buf ∙ c.deref_mut.ensures.len)) in
    let p1 : IfSome (image_now (g.D.Disk.view c.args.disk.now))
    (λ (i : Image). (c.in-Ok.got ≡ min (length c.read.new.buf) (length i.bytes - c.args.at))
    × (take c.in-Ok.got c.read.new.buf ≡ take c.in-Ok.got (drop c.args.at i.bytes))) = c.in-Ok.ensures.bytes in
    let p2 : IfSome (image_now (g.D.Disk.view c.args.disk.now))
    (λ (i : Image). (c.in-Ok-read.got ≡ min (length c.read-2.new.buf) (length i.bytes - (c.args.at + 5)))
    × (take c.in-Ok-read.got c.read-2.new.buf ≡ take c.in-Ok-read.got (drop (c.args.at + 5) i.bytes))) = subst
    (λ (o : Option Image). IfSome o
    (λ (i : Image). (c.in-Ok-read.got ≡ min (length c.read-2.new.buf) (length i.bytes - (c.args.at + 5)))
    × (take c.in-Ok-read.got c.read-2.new.buf ≡ take c.in-Ok-read.got (drop (c.args.at + 5) i.bytes)))) c.read.ensures.same c.in-Ok-read.ensures.bytes in
    let most : c.size_from-size.result ≤ c.args.longest = search rules in
    let some : 1 ≤ c.size_from-size.result = search rules in
    let small : size_bytes c.size_from-size.result ≡ drop 1 c.read.new.buf = c.size_from-size.ensures.back ∙ part in
    let fit : g.R.Form.is_record c.truncate.new.self.items ≡ true = sym c.in-Ok-Some.ensures.record ∙ ap is_some c.in-Ok-Some.field-0-is in
    let spelled : g.R.Form.bytes_of c.in-Ok-Some.found ≡ c.truncate.new.self.items =
    given_of (λ r. g.R.Form.bytes_of r
    ≡ c.truncate.new.self.items) c.in-Ok-Some.field-0 c.in-Ok-Some.found c.in-Ok-Some.field-0-is c.in-Ok-Some.ensures.bytes in
    let size : length c.truncate.new.self.items ≡ c.size_from-size.result =
    omega (arith, ap length is, length-take c.size_from-size.result c.read-2.new.buf, long) in
    subst (λ (b : List ℕ). IsRecord c.args.longest g.R.Form.is_record b
    × IfSome (image_now (g.D.Disk.view c.args.disk.now))
    (λ (i : Image). c.args.at < length i.bytes → IsNext c.args.longest g.R.Form.is_record c.args.at b i.bytes)) (sym spelled) (
      record { some = omega (arith, size, some); most = omega (arith, size, most); fits_form = fit },
      lift2 (image_now (g.D.Disk.view c.args.disk.now))
          (λ (i : Image). (c.in-Ok.got ≡ min (length c.read.new.buf) (length i.bytes - c.args.at))
          × (take c.in-Ok.got c.read.new.buf ≡ take c.in-Ok.got (drop c.args.at i.bytes)))
          (λ (i : Image). (c.in-Ok-read.got ≡ min (length c.read-2.new.buf) (length i.bytes - (c.args.at + 5)))
          × (take c.in-Ok-read.got c.read-2.new.buf ≡ take c.in-Ok-read.got (drop (c.args.at + 5) i.bytes)))
          (λ i. c.args.at < length i.bytes → IsNext c.args.longest g.R.Form.is_record c.args.at c.truncate.new.self.items i.bytes) p1 p2
          (λ i a b within. next_is c.args.longest g.R.Form.is_record c.args.at i.bytes c.read.new.buf c.read-2.new.buf c.truncate.new.self.items
          c.in-Ok.got c.in-Ok-read.got c.size_from-size.result a five whole gate is_size b long full is some most small fit),
    )

pub returns-in-Ok-None-clause-not : goal.returns-in-Ok-None-clause-not
returns-in-Ok-None-clause-not g c = λ k e.
    let same : c.args.at ≡ k = cc in
    let five : length c.read.new.buf ≡ 5 = search rules in
    let whole : 5 ≤ c.in-Ok.got = search rules in
    let gate : get_or c.read.new.buf 0 0 ≡ 1 = search rules in
    let part : c.copy_from_slice.new.self ≡ drop 1 c.read.new.buf =
    c.copy_from_slice.ensures.after ∙ take_all 4 (drop 1 c.read.new.buf) (omega (arith, five, length-drop 1 c.read.new.buf)) in
    let is_size : c.size_from-size.result ≡ size_from (drop 1 c.read.new.buf) = c.size_from-size.ensures.value ∙ ap size_from part in
    let long : length c.read-2.new.buf ≡ c.size_from-size.result + 1 = search rules in
    let full : c.size_from-size.result + 1 ≤ c.in-Ok-read.got = search rules in
    let is : c.truncate.new.self.items ≡ take c.size_from-size.result c.read-2.new.buf =
    c.truncate.ensures.items
    ∙ ap (λ (l : List ℕ). take c.size_from-size.result l)
    (take_at c.read-2.new.buf (drop (length c.read-2.new.buf) c.in-Ok-zeros.record.items) c.in-Ok-zeros.record.len
    (c.read-2.auto.buf ∙ c.deref_mut.ensures.len)) in
    let p1 : IfSome (image_now (g.D.Disk.view c.args.disk.now))
    (λ (i : Image). (c.in-Ok.got ≡ min (length c.read.new.buf) (length i.bytes - c.args.at))
    × (take c.in-Ok.got c.read.new.buf ≡ take c.in-Ok.got (drop c.args.at i.bytes))) = c.in-Ok.ensures.bytes in
    let p2 : IfSome (image_now (g.D.Disk.view c.args.disk.now))
    (λ (i : Image). (c.in-Ok-read.got ≡ min (length c.read-2.new.buf) (length i.bytes - (c.args.at + 5)))
    × (take c.in-Ok-read.got c.read-2.new.buf ≡ take c.in-Ok-read.got (drop (c.args.at + 5) i.bytes))) = subst
    (λ (o : Option Image). IfSome o
    (λ (i : Image). (c.in-Ok-read.got ≡ min (length c.read-2.new.buf) (length i.bytes - (c.args.at + 5)))
    × (take c.in-Ok-read.got c.read-2.new.buf ≡ take c.in-Ok-read.got (drop (c.args.at + 5) i.bytes)))) c.read.ensures.same c.in-Ok-read.ensures.bytes in
    let out : g.R.Form.is_record c.truncate.new.self.items ≡ false = sym c.in-Ok-None.ensures.record ∙ ap is_some c.in-Ok-None.field-0-is in (
      sym same,
      lift2 (image_now (g.D.Disk.view c.args.disk.now))
          (λ (i : Image). (c.in-Ok.got ≡ min (length c.read.new.buf) (length i.bytes - c.args.at))
          × (take c.in-Ok.got c.read.new.buf ≡ take c.in-Ok.got (drop c.args.at i.bytes)))
          (λ (i : Image). (c.in-Ok-read.got ≡ min (length c.read-2.new.buf) (length i.bytes - (c.args.at + 5)))
          × (take c.in-Ok-read.got c.read-2.new.buf ≡ take c.in-Ok-read.got (drop (c.args.at + 5) i.bytes)))
          (λ i. c.args.at < length i.bytes
          → (get_or i.bytes c.args.at 0 ≡ 1) × (is_block c.args.longest g.R.Form.is_record (drop c.args.at i.bytes) ≡ false)) p1 p2
          (λ i a b within. (
            gate_read c.args.longest g.R.Form.is_record c.args.at i.bytes c.read.new.buf c.read-2.new.buf c.truncate.new.self.items
                c.in-Ok.got c.in-Ok-read.got c.size_from-size.result a five whole gate is_size b long full is,
            not_fit c.args.longest g.R.Form.is_record c.args.at i.bytes c.read.new.buf c.read-2.new.buf c.truncate.new.self.items c.in-Ok.got
                c.in-Ok-read.got c.size_from-size.result a five whole gate is_size b long full is out,
          )),
    )
