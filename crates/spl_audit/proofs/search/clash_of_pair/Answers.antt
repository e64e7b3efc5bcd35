use Rattle.std.proofs.{Common.{◌<◌, ◌≤◌, ◌+◌, List, Option, length, take, sym, subst, arith}, lemmas.List.take_all}
use Rattle.spl_circuit.specs.Nodes.{CircuitId}
use Rattle.spl_audit.{specs.{Clashes.{IsLeast, lesser}, Keepers.keeper_of, Searching.IsPairClash, declared.clash.Clash.Clash}, proofs.Searches.took}
use Rattle.spl_audit.proofs.Searches.{with_circuit}
use Rattle.spl_audit.proofs.search.clash_of_pair.Goals as goal

pub circuits-preserved : goal.circuits-preserved
circuits-preserved c =
    let xs = c.args.circuits.now in
    let i = c.circuits.circuit-index in
    let x = c.circuit-item.result in
    let n = keeper_of c.args.one.now in
    let m = keeper_of c.args.other.now in
    let below : i < length xs = omega (arith, c.circuits-test.true) in
    subst (λ (o : Option Clash). IsLeast (IsPairClash (take (i + 1) xs) c.args.first c.args.second n m) o) (sym c.lesser-least.ensures)
    (subst (λ (cs : List CircuitId). IsLeast (IsPairClash cs c.args.first c.args.second n m) (lesser c.circuits.least c.clash_in.result))
    (sym (took xs i x below c.circuit-item.is))
    (with_circuit (take i xs) x c.args.first c.args.second n m c.circuits.least c.clash_in.result c.circuits.invariant c.clash_in.ensures))

pub returns : goal.returns
returns c =
    let xs = c.args.circuits.now in
    let past : length xs ≤ c.circuits.circuit-index = omega (arith, c.circuits-test.false) in
    subst (λ (cs : List CircuitId). IsLeast
    (IsPairClash cs c.args.first c.args.second (keeper_of c.args.one.now) (keeper_of c.args.other.now)) c.circuits.least)
    (take_all c.circuits.circuit-index xs past) c.circuits.invariant
