use Rattle.std.proofs.Common.{◌≡◌, Option, Some, None, IfSome}
use Rattle.spl_journal.specs.{Journals.Stands, Records.form_number}
use Rattle.spl_snapshot.specs.Counting.{chosen}
use Rattle.spl_snapshot.proofs.pairing.Pairing.form.Goals as goal

of_each : {A : Type 0} (P Q : A → Type 0) (o : Option A) → ((x : A) → P x → Q x) → IfSome o P → IfSome o Q
of_each P Q None f h = tt
of_each P Q (Some x) f h = f x h

pub returns : goal.returns
returns g c = λ first second stands.
    of_each (Stands g.R.Form.is_record c.args.self.now.journal) (λ i. form_number i.bytes ≡ Some c.form.result)
    (chosen c.args.self.now.second first second) c.form.ensures stands.counting
