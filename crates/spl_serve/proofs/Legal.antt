-- A message that was read is one that a cell may hear, where the batch in it breaks no rule.
use Rattle.std.{specs.Prelude.{nat_le, length, not}, proofs.Common.{◌≡◌, Bool, true, false, ◌&&◌, refl}}
use Rattle.spl_agree.{specs.declared.message.CommitMsg.CommitMsg, proofs.Booleans.{and_left, and_right}}
use Rattle.spl_agree.specs.declared.message.CommitMsg.TheVariants as msg
use Rattle.spl_circuit.specs.{Forms.{act, circuit_id, kind, node_id, service_id, word}, declared.act.Act.Act}
use Rattle.spl_wire.specs.{Bodies.{body, long, reason_form}, Bounds.has_form, Forms.message_form, declared.message.Message.Message}
use Rattle.spl_wire.specs.declared.message.Message.TheVariants as message
use Rattle.spl_cell_rules.specs.{Changes.may_serve, Valid.{carries, is_legal}}
use Rattle.spl_serve.specs.Hearing.{may_hear}

both : (a b : Bool) → a ≡ true → b ≡ true → (a && b) ≡ true
both true b h k = k
both a b h k = cc

act-formed : (v : Act) → act.fits v ≡ true → has_form v ≡ true
act-formed v h =
    let rest = and_right (node_id.fits v.node) _ h in
    both (node_id.fits v.node) (kind.fits v.kind) (and_left (node_id.fits v.node) _ h) (and_right _ (kind.fits v.kind) rest)

acts-carry : (x : CommitMsg Act) → (body act).fits x ≡ true → carries has_form x ≡ true
acts-carry (msg.VoteRequest g r p v) h =
    act-formed v (and_right (word.fits p) (act.fits v)
    (and_right (long.fits r) (word.fits p && act.fits v) (and_right (word.fits g) (long.fits r && (word.fits p && act.fits v)) h)))
acts-carry (msg.Forward g v) h = act-formed v (and_right (word.fits g) (act.fits v) h)
acts-carry (msg.Refused g v why) h =
    act-formed v (and_left (act.fits v) (reason_form.fits why) (and_right (word.fits g) (act.fits v && reason_form.fits why) h))
acts-carry x h = refl

pub legal : (m : Message) → message_form.fits m ≡ true → may_hear m ≡ true → is_legal m ≡ true
legal (message.Admin c x) h k =
    let id : circuit_id.fits c ≡ true = and_left (circuit_id.fits c) ((body act).fits x) h in
    both (nat_le (length c) 11) (carries has_form x) (and_right (nat_le 11 (length c)) (nat_le (length c) 11) (and_left _ _ id))
    (acts-carry x (and_right (circuit_id.fits c) ((body act).fits x) h))
legal (message.Scabbard c s t x) h k =
    let id : circuit_id.fits c ≡ true = and_left (circuit_id.fits c) _ h in
    let rest = and_right (circuit_id.fits c) _ h in
    let from : service_id.fits s ≡ true = and_left (service_id.fits s) _ rest in
    let more = and_right (service_id.fits s) _ rest in
    let to : service_id.fits t ≡ true = and_left (service_id.fits t) _ more in
    both (nat_le (length c) 11) _ (and_right (nat_le 11 (length c)) (nat_le (length c) 11) (and_left _ _ id))
    (both (nat_le (length s) 4) _ (and_right (nat_le 4 (length s)) (nat_le (length s) 4) (and_left _ _ from))
    (both (nat_le (length t) 4) (carries may_serve x) (and_right (nat_le 4 (length t)) (nat_le (length t) 4) (and_left _ _ to)) k))

pub unless : (r b : Bool) → r ≡ true → r ≡ not b → b ≡ false
unless r true h k = cc
unless r false h k = refl
