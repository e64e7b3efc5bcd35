use Rattle.std.proofs.Common.{sym}
use Rattle.spl_node.specs.Kept.{cell_at}
use Rattle.spl_audit.{specs.Keepers.keeper_of, proofs.Searches.{bound_is, in_cells}}
use Rattle.spl_audit.proofs.search.clash_in.Goals as goal

pub returns : goal.returns
returns c =
    let circuit = c.args.circuit.now in
    let h = c.in-Some.ours.now.bound in
    let k = c.in-Some-held.theirs.now.bound in
    in_cells circuit c.args.first c.args.second (keeper_of c.args.one.now) (keeper_of c.args.other.now) h k c.clash_of_cells.result
    (bound_is (cell_at c.args.one.now.entries circuit) h (sym c.in-Some.ensures))
    (bound_is (cell_at c.args.other.now.entries circuit) k (sym c.in-Some-held.ensures)) c.clash_of_cells.ensures
