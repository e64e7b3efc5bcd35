use Rattle.std.proofs.Common.{◌<◌, length, sym, ◌∙◌, ap, arith, rules}
use Rattle.spl_registry.specs.Nodes.{registry_of}
use Rattle.spl_edge.proofs.Sources.{gives, limit_is}
use Rattle.spl_cli.proofs.registered.read_registry.Goals as goal

pub returns-in-Ok-clause-read : goal.returns-in-Ok-clause-read
returns-in-Ok-clause-read g c =
    let no : 67108864 < length c.read_all-reading.result.bytes.items → ⊥ = λ long. cc (c.read_all-reading.ensures.too_long.1 long) in
    let same =
    gives (g.S.Source.view c.args.registry.now).gave
    (g.S.Source.view c.read_all-reading.new.source).gave c.read_all-reading.result.bytes.items c.read_all-reading.ensures.taken in
    record { ended = c.read_all-reading.ensures.whole c.in-Whole.is; short = omega (arith, no, limit_is, ap length same) }

pub returns-in-Ok-clause-entries : goal.returns-in-Ok-clause-entries
returns-in-Ok-clause-entries g c =
    let same =
    gives (g.S.Source.view c.args.registry.now).gave
    (g.S.Source.view c.read_all-reading.new.source).gave c.read_all-reading.result.bytes.items c.read_all-reading.ensures.taken in
    ap registry_of (same ∙ sym c.deref.ensures.value) ∙ c.in-Ok.ensures.ok

pub returns-in-TooLong-clause-ended : goal.returns-in-TooLong-clause-ended
returns-in-TooLong-clause-ended g c =
    let same =
    gives (g.S.Source.view c.args.registry.now).gave
    (g.S.Source.view c.read_all-reading.new.source).gave c.read_all-reading.result.bytes.items c.read_all-reading.ensures.taken in
    omega (arith, limit_is, c.read_all-reading.ensures.too_long.0 c.in-TooLong.is, ap length same)

pub returns-in-Whole : goal.returns-in-Whole
returns-in-Whole g c =
    let no : 67108864 < length c.read_all-reading.result.bytes.items → ⊥ = λ long. cc (c.read_all-reading.ensures.too_long.1 long) in
    let same =
    gives (g.S.Source.view c.args.registry.now).gave
    (g.S.Source.view c.read_all-reading.new.source).gave c.read_all-reading.result.bytes.items c.read_all-reading.ensures.taken in
    record {
      read = tt;
      entries = tt;
      ended = (
        ap registry_of (same ∙ sym c.deref.ensures.value)
            ∙ c.in-Err.ensures.err (search rules),
        c.read_all-reading.ensures.whole c.in-Whole.is,
        omega (arith, no, limit_is, ap length same),
      );
      taken = search rules;
    }

pub returns-in-Fault-clause-ended : goal.returns-in-Fault-clause-ended
returns-in-Fault-clause-ended g c =
    let no : 67108864 < length c.read_all-reading.result.bytes.items → ⊥ = λ long. cc (c.read_all-reading.ensures.too_long.1 long) in
    let same =
    gives (g.S.Source.view c.args.registry.now).gave
    (g.S.Source.view c.read_all-reading.new.source).gave c.read_all-reading.result.bytes.items c.read_all-reading.ensures.taken in
    (c.read_all-reading.ensures.fault c.in-Fault.is, omega (arith, no, limit_is, ap length same))
