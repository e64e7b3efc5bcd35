use Rattle.std.proofs.Common.{◌≡◌, ◌≢◌, ℕ, List, true, false, length, sym, ◌∙◌, ap, subst, rules}
use Rattle.spl_acceptor.{specs.Logs.is_paxos_record, proofs.Reading.{whole_record, part_record, no_record_by, whole_spelled}}
use Rattle.spl_acceptor.proofs.log_form.PaxosFormForm.read.Goals as goal

pub returns-then-size-len-clause-record : goal.returns-then-size-len-clause-record
returns-then-size-len-clause-record c =
    let bytes : c.deref.result.now ≡ c.args.bytes.items = search rules in
    let whole : c.in-Ok.size ≡ length c.args.bytes.items = search rules in
    sym (subst (λ (b : List ℕ). is_paxos_record b ≡ true) bytes
    (whole_record c.deref.result.now c.in-Ok.item c.in-Ok.size (whole ∙ ap length (sym bytes)) c.in-Ok.ensures.exact))

pub returns-then-size-len-clause-bytes : goal.returns-then-size-len-clause-bytes
returns-then-size-len-clause-bytes c =
    let bytes : c.deref.result.now ≡ c.args.bytes.items = search rules in
    let whole : c.in-Ok.size ≡ length c.args.bytes.items = search rules in
    whole_spelled c.deref.result.now c.in-Ok.item c.in-Ok.size (whole ∙ ap length (sym bytes)) c.in-Ok.ensures.found.0 ∙ bytes

pub returns-in-Err-At-clause-record : goal.returns-in-Err-At-clause-record
returns-in-Err-At-clause-record c =
    let bytes : c.deref.result.now ≡ c.args.bytes.items = search rules in
    sym (subst (λ (b : List ℕ). is_paxos_record b ≡ false) bytes
    (no_record_by c.deref.result.now c.in-Err-At.field-0-0 (rw c.in-Err-At.field-0-is at c.in-Err-At.ensures.exact)))

pub returns-in-Ok-clause-record : goal.returns-in-Ok-clause-record
returns-in-Ok-clause-record c =
    let bytes : c.deref.result.now ≡ c.args.bytes.items = search rules in
    let part : c.in-Ok.size ≢ length c.args.bytes.items = search rules in
    sym (subst (λ (b : List ℕ). is_paxos_record b ≡ false) bytes
    (part_record c.deref.result.now c.in-Ok.item c.in-Ok.size (λ whole. part (whole ∙ ap length bytes)) c.in-Ok.ensures.exact))
