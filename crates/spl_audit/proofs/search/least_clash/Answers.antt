use Rattle.std.proofs.Common.{◌≤◌, ◌+◌, Option, length, sym, subst, arith}
use Rattle.spl_audit.{specs.{Clashes.IsLeast, Keepers.keepers, Searching.IsClashBelow, declared.clash.Clash.Clash}, proofs.Searches.{with_first, all_of_them}}
use Rattle.spl_audit.proofs.search.least_clash.Goals as goal

pub nodes-preserved : goal.nodes-preserved
nodes-preserved c =
    let ns = c.args.nodes.now in
    subst (λ (o : Option Clash). IsLeast (IsClashBelow (keepers ns) (c.nodes.first + 1)) o) (sym c.lesser-least.ensures)
    (with_first ns c.nodes.first c.nodes.least c.clash_of-here.result c.nodes.invariant c.clash_of-here.ensures)

pub returns : goal.returns
returns c =
    let past : length c.args.nodes.now ≤ c.nodes.first = omega (arith, c.nodes-test.false) in
    all_of_them c.args.nodes.now c.nodes.first c.nodes.least past c.nodes.invariant
