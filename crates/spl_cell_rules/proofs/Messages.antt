-- A message that a cell may hear can be sent.
use Rattle.std.{specs.{Int.{w8, w32, w64}, Prelude.nat_le}, proofs.Common.{◌≡◌, ℕ, ◌+◌, ◌≤◌, Bool, true, IsTrue, List, [], ◌∷◌, ◌++◌, length, length-append}}
use Rattle.std.proofs.{Common.{refl, arith}, lemmas.Bool.leb-true}
use Rattle.spl_base.specs.{Form.{Form, number_bytes}, FormLaws.{wide8, wide32, wide64, both_true, and_true}}
use Rattle.spl_agree.specs.declared.message.CommitMsg.{CommitMsg}
use Rattle.spl_agree.specs.declared.message.CommitMsg.TheVariants as msg
use Rattle.spl_circuit.specs.Forms.{act}
use Rattle.spl_command.specs.Forms.{batch}
use Rattle.spl_wire.specs.{Bodies.body, Bounds.{IsSendable, AllSendable, has_form}, declared.{message.Message.Message, plan.Outgoing.Outgoing}}
use Rattle.spl_wire.proofs.{Small.short-batch, Bounds.{bounded-act, short-act_of, bounded-batch}}
use Rattle.spl_wire.specs.declared.message.Message.TheVariants as message
use Rattle.spl_cell_rules.specs.{Changes.may_serve, Valid.{carries, is_legal, are_legal}}

len8 : (n : ℕ) → length (number_bytes w8 n) ≡ 1
len8 n = wide8.len n

len32 : (n : ℕ) → length (number_bytes w32 n) ≡ 4
len32 n = wide32.len n

len64 : (n : ℕ) → length (number_bytes w64 n) ≡ 8
len64 n = wide64.len n

module _ {V : Type 0} (f : Form V) (may : V → Bool) where
  bounded-body : ((v : V) → may v ≡ true → IsTrue (f.bounded v)) → (x : CommitMsg V) → carries may x ≡ true → IsTrue ((body f).bounded x)
  bounded-body b (msg.VoteRequest gen r place v) k = b v k
  bounded-body b (msg.Forward gen v) k = b v k
  bounded-body b (msg.Refused gen v why) k = and_true (f.bounded v) true (b v k) refl
  bounded-body b _ k = refl

  -- a tag, a generation, a round and a place are 17 bytes
  short-body : (most : ℕ) → ((v : V) → may v ≡ true → length (f.spell v) ≤ most) → (x : CommitMsg V) → carries may x ≡ true
      → length ((body f).spell x) ≤ most + 17
  short-body most s (msg.VoteRequest gen r place v) k = simp (length-append, len8, len32, len64) (omega (arith, s v k))
  short-body most s (msg.Forward gen v) k = simp (length-append, len8, len32) (omega (arith, s v k))
  short-body most s (msg.Refused gen v why) k = simp (length-append, len8, len32) (omega (arith, s v k))
  short-body most s _ k = simp (length-append, len8, len32, len64) (omega arith)

pub sendable-legal : (m : Message) → is_legal m ≡ true → IsSendable m
sendable-legal (message.Admin c x) h =
    let b = both_true (nat_le (length c) 11) (carries has_form x) h in
    record {
      bounded = bounded-body act has_form bounded-act x b.1;
      short = omega (
        arith,
        leb-true (length c) 11 b.0,
        short-body act has_form 3551 short-act_of x b.1,
        len8 1,
        length-append (number_bytes w8 1) (c ++ (body act).spell x),
        length-append c ((body act).spell x),
      );
    }
sendable-legal (message.Scabbard c s t x) h =
    let b = both_true (nat_le (length c) 11) _ h in
    let d = both_true (nat_le (length s) 4) _ b.1 in
    let e = both_true (nat_le (length t) 4) (carries may_serve x) d.1 in
    record {
      bounded = bounded-body batch may_serve bounded-batch x e.1;
      short = omega (
        arith,
        leb-true (length c) 11 b.0,
        leb-true (length s) 4 d.0,
        leb-true (length t) 4 e.0,
        short-body batch may_serve 32768 short-batch x e.1,
        len8 2,
        length-append (number_bytes w8 2) (c ++ (s ++ (t ++ (body batch).spell x))),
        length-append c (s ++ (t ++ (body batch).spell x)),
        length-append s (t ++ (body batch).spell x),
        length-append t ((body batch).spell x),
      );
    }

pub sendable-all : (os : List Outgoing) → are_legal os ≡ true → AllSendable os
sendable-all [] h = tt
sendable-all (o ∷ os) h = let b = both_true (is_legal o.message) (are_legal os) h in (sendable-legal o.message b.0, sendable-all os b.1)
