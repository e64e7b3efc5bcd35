use Rattle.std.{specs.{Prelude.nat_eq, List.{find, starts_with}}, proofs.Common.{◌≡◌, drop}}
use Rattle.spl_journal.proofs.journal_form.first_form.Given as goal

abbrev pub invariant-loop-form : goal.invariant-loop-form
invariant-loop-form l = find (λ f. starts_with nat_eq l.bytes f.magic) (drop l.form-index l.forms) ≡ find (λ f. starts_with nat_eq l.bytes f.magic) l.forms
