use Rattle.std.{specs.List.filter, proofs.Common.{◌≡◌, length, map, drop}}
use Rattle.spl_agree.specs.Member.{values}
use Rattle.spl_audit.specs.Reporting.{greatest_with, is_definition_of}
use Rattle.spl_audit.proofs.report.measure.Given as goal
use Rattle.spl_cell_rules.specs.Cells.{Bound}

abbrev pub invariant-held : goal.invariant-held
invariant-held l = record {
  acts : greatest_with l.acts
      (map (λ (h : Bound). length (values h.acts.history))
      (filter (is_definition_of l.fn.definition) (map (λ h. h.now.bound) (drop l.one-index l.fn.held))))
      ≡ greatest_with 0 (map (λ (h : Bound). length (values h.acts.history)) (filter (is_definition_of l.fn.definition) (map (λ h. h.now.bound) l.fn.held)));
  batches : greatest_with l.batches
      (map (λ (h : Bound). length (values h.batches.history))
      (filter (is_definition_of l.fn.definition) (map (λ h. h.now.bound) (drop l.one-index l.fn.held))))
      ≡ greatest_with 0 (map (λ (h : Bound). length (values h.batches.history))
      (filter (is_definition_of l.fn.definition) (map (λ h. h.now.bound) l.fn.held)));
}
