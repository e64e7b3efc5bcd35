use Rattle.std.proofs.Common.{ℕ, List, Option, IfSome, sym, subst, rules}
use Rattle.spl_journal.specs.Records.{AreGood, IsGood}
use Rattle.spl_node.{specs.{Kept.cells_after, Records.is_record, Stands.{here_of, circuit_cell}, Turns.RecordsLead}, proofs.Standing.quiet}
use Rattle.spl_node.proofs.{Events.{more_kept, none_changed, has_none, has_some}, Turns.{leads_still, leads_more, good_more}}
use Rattle.spl_node.proofs.node.Node.step_ahead.Goals as goal

pub returns-in_default-clause-leads : goal.returns-in_default-clause-leads
returns-in_default-clause-leads c =
    λ before leads. leads_still (here_of c.args.self.now) before (circuit_cell c.args.self.now) c.args.turn.now leads
    (cells_after (here_of c.args.self.now) (circuit_cell c.args.self.now) c.args.circuit.now c.args.event.now) _
    (quiet (here_of c.args.self.now) c.args.circuit.now (circuit_cell c.args.self.now) c.args.event.now
    (none_changed (here_of c.args.self.now) c.args.circuit.now
    (circuit_cell c.args.self.now) c.args.event.now c.in-Ok.done c.in-Ok.ensures.given c.in_default.is)) c.in-Ok.ensures.cells

pub returns-in_default-clause-gives : goal.returns-in_default-clause-gives
returns-in_default-clause-gives c = record {
  answer = search rules;
  sends = search rules;
  changed = has_none (here_of c.args.self.now) c.args.circuit.now
      (circuit_cell c.args.self.now) c.args.event.now c.in-Ok.done c.in-Ok.ensures.given c.in_default.is;
  legal = search rules;
  sendable = search rules;
}

pub returns-clause-leads : goal.returns-clause-leads
returns-clause-leads c =
    λ before leads. subst (RecordsLead (here_of c.args.self.now) before _) (sym c.in_default-take.ensures.ok)
    (leads_more (here_of c.args.self.now) before (circuit_cell c.args.self.now) c.args.turn.now leads
    (cells_after (here_of c.args.self.now) (circuit_cell c.args.self.now) c.args.circuit.now c.args.event.now) _ c.in-Some.bytes
    (more_kept (here_of c.args.self.now) c.args.circuit.now
    (circuit_cell c.args.self.now) c.args.event.now c.in-Ok.done c.in-Ok.ensures.given c.in-Some.bytes c.in-Some.is) c.in-Ok.ensures.cells)

pub returns-clause-good : goal.returns-clause-good
returns-clause-good c =
    λ good. subst (AreGood is_record) (sym c.in_default-take.ensures.ok)
    (good_more is_record c.args.turn.now c.in-Some.bytes good
    (subst (λ (o : Option (List ℕ)). IfSome o (IsGood is_record)) c.in-Some.is c.in-Ok.ensures.given.good))

pub returns-clause-gives : goal.returns-clause-gives
returns-clause-gives c = record {
  answer = search rules;
  sends = search rules;
  changed = has_some (here_of c.args.self.now) c.args.circuit.now
      (circuit_cell c.args.self.now) c.args.event.now c.in-Ok.done c.in-Ok.ensures.given c.in-Some.bytes c.in-Some.is;
  legal = search rules;
  sendable = search rules;
}
