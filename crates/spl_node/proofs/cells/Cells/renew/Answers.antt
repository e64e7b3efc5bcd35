use Rattle.std.{specs.BTreeMap.BTreeMap, proofs.Common.{◌∙◌, ap, sym, subst}}
use Rattle.spl_cell.specs.Views.{CellView}
use Rattle.spl_circuit.specs.Nodes.{CircuitId}
use Rattle.spl_node.{specs.Kept.{AreOwn, Entries}, proofs.{Maps.written_same, cells.Cells.renew.Goals.{in-Some, in_default}}}
use Rattle.spl_node.proofs.cells.Cells.renew.Goals as goal

pub invariant_of-self : goal.invariant_of-self
invariant_of-self c = elim c.match-get_mut.branch [
  | in-Some w ↦ rw w.self-inside-is
      (subst (λ (es : Entries). AreOwn c.self.inside.here es)
      (sym (written_same c.args.circuit.now c.self.inside.map.entries
      (c.get_mut.follows.lender w.renew.new.self).entries w.in-Some.cell.now w.renew.new.self (sym w.in-Some.ensures.value)
      (c.get_mut.follows.holds w.renew.new.self).0 w.renew.ensures)) c.self.invariant)
  | in_default w ↦ rw w.self-inside-is
      (subst (λ (es : Entries). AreOwn c.self.inside.here es)
      (sym (ap (λ (m : BTreeMap CircuitId CellView). m.entries) c.get_mut.follows.holds-at-none)) c.self.invariant)
]

pub returns : goal.returns
returns c = elim c.match-get_mut.branch [
  | in-Some w ↦ rw w.self-inside-is
      (ap (λ (es : Entries). record { here = c.self.inside.here; entries = es })
      (written_same c.args.circuit.now c.self.inside.map.entries
      (c.get_mut.follows.lender w.renew.new.self).entries w.in-Some.cell.now w.renew.new.self (sym w.in-Some.ensures.value)
      (c.get_mut.follows.holds w.renew.new.self).0 w.renew.ensures) ∙ c.self.view_is)
  | in_default w ↦ rw w.self-inside-is
      (ap (λ (es : Entries). record { here = c.self.inside.here; entries = es })
      (ap (λ (m : BTreeMap CircuitId CellView). m.entries) c.get_mut.follows.holds-at-none) ∙ c.self.view_is)
]
