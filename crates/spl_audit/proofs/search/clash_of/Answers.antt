use Rattle.std.proofs.{Common.{◌<◌, ◌≤◌, ◌+◌, Option, length, refl, sym, subst, arith}, lemmas.Option.slice_get_read}
use Rattle.spl_audit.{specs.{Clashes.IsLeast, Keepers.keepers, Searching.IsClashOf, declared.clash.Clash.Clash}, proofs.Searches.{with_node, to_the_end}}
use Rattle.spl_audit.proofs.search.clash_of.Goals as goal

pub others-preserved : goal.others-preserved
others-preserved c =
    let ns = c.args.nodes.now in
    let j = c.others.second in
    let two = c.index-nodes-second.result in
    let below : j < length ns = omega (arith, c.others-test.true) in
    let ordered : c.args.first < j = omega (arith, c.others.auto.second) in
    subst (λ (o : Option Clash). IsLeast (IsClashOf (keepers ns) c.args.first (j + 1)) o) (sym c.lesser-least.ensures)
    (with_node ns c.args.circuits.now c.args.first j c.args.one.now two c.requires.there
    (slice_get_read ns (length ns) j two refl below c.index-nodes-second.is) ordered c.requires.bound c.others.least c.clash_of_pair-here.result
    c.others.invariant c.clash_of_pair-here.ensures)

pub returns : goal.returns
returns c =
    let past : length c.args.nodes.now ≤ c.others.second = omega (arith, c.others-test.false) in
    to_the_end c.args.nodes.now c.args.first c.others.second c.others.least past c.others.invariant
