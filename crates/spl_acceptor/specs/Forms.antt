-- The byte forms of records and messages (docs/RULES.md, Byte forms).
use Rattle.std.{specs.{Prelude.{ℕ, ◌^◌, Bool, ◌&&◌, nat_lt, nat_le, List, [], ◌∷◌, Ok, Err, IsTrue, if◌then◌else◌}, Int.{w8, w64}}, proofs.Common.refl}
use Rattle.std.proofs.Common.{subst, lit<}
use Rattle.spl_base.specs.{Input.{Input, ◌>>=◌}, Form.{Form, IsReadBack, IsSpelledSo, IsExact, Taken, number, flag, list_of, ◌&◌, via, Case, case, Filled}}
use Rattle.spl_base.specs.{Form.{filled, sum_of}, FormLaws.{both_true, and_true, bind_ok, guard_ok, wide8, wide64, exact_number, exact_flag, exact_list}}
use Rattle.spl_base.specs.{FormLaws.{exact_and, exact_via}, SumLaws.{◌also◌, IsMade, exact_sum}}
use Rattle.spl_acceptor.specs.declared.message.{PaxosMsg.PaxosMsg, Pledge.Pledge}
use Rattle.spl_acceptor.specs.declared.record.PaxosRecord.{PaxosRecord}
use Rattle.spl_acceptor.specs.declared.message.PaxosMsg.TheVariants as msg
use Rattle.spl_acceptor.specs.declared.record.PaxosRecord.TheVariants as kept

-- those values of a form that pass a test
abbrev pub tested : {A : Type 0} → (A → Bool) → Form A → Form A
tested passes f = record {
  spell = f.spell;
  parse = λ s. f.parse s >>= λ x. if passes x.0 then Ok x else Err s.place;
  fits = λ x. f.fits x && passes x;
  bounded = λ x. f.bounded x && passes x;
}

-- a round, or a ballot
abbrev pub round_or_ballot : Form ℕ
round_or_ballot = number w64 (2 ^ 64)

-- members have the numbers from 1 to 8
abbrev pub is_member_number : ℕ → Bool
is_member_number i = nat_lt 0 i && nat_le i 8

abbrev pub member_number : Form ℕ
member_number = tested is_member_number (number w8 (2 ^ 8))

-- the number of a member, a ballot, and whether the member is prepared
abbrev pub pledge : Form Pledge
pledge = via (λ x. record { member = x.0; ballot = x.1.0; prepared = x.1.1 }) (λ p. (p.member, (p.ballot, p.prepared))) (member_number & round_or_ballot & flag)

-- ---- records

abbrev pub paxos_record_cases : List (Case PaxosRecord)
paxos_record_cases =
    case 1 (round_or_ballot & round_or_ballot) (λ x. kept.Promised x.0 x.1)
    ∷ case 2 (round_or_ballot & pledge) (λ x. kept.Accepted x.0 x.1.member x.1.ballot x.1.prepared)
    ∷ case 3 (round_or_ballot & flag) (λ x. kept.Voted x.0 x.1)
    ∷ case 4 (round_or_ballot & round_or_ballot) (λ x. kept.Used x.0 x.1)
    ∷ case 5 (round_or_ballot & flag) (λ x. kept.Decided x.0 x.1)
    ∷ []

abbrev pub record_fields : PaxosRecord → Filled paxos_record_cases
record_fields (kept.Promised r b) = filled 1 (r, b)
record_fields (kept.Accepted r i b p) = filled 2 (r, record { member = i; ballot = b; prepared = p })
record_fields (kept.Voted r aye) = filled 3 (r, aye)
record_fields (kept.Used r b) = filled 4 (r, b)
record_fields (kept.Decided r commit) = filled 5 (r, commit)

abbrev pub paxos_record_form : Form PaxosRecord
paxos_record_form = sum_of paxos_record_cases record_fields

-- ---- messages

abbrev pub paxos_messages : List (Case PaxosMsg)
paxos_messages =
    case 1 (round_or_ballot & round_or_ballot) (λ x. msg.Ask x.0 x.1)
    ∷ case 2 (round_or_ballot & pledge) (λ x. msg.Accept x.0 x.1.member x.1.ballot x.1.prepared)
    ∷ case 3 (round_or_ballot & round_or_ballot & list_of 8 pledge) (λ x. msg.Promise x.0 x.1.0 x.1.1)
    ∷ case 4 (round_or_ballot & round_or_ballot) (λ x. msg.Higher x.0 x.1)
    ∷ case 5 (round_or_ballot & pledge) (λ x. msg.Accepted x.0 x.1.member x.1.ballot x.1.prepared)
    ∷ []

abbrev pub message_fields : PaxosMsg → Filled paxos_messages
message_fields (msg.Ask r b) = filled 1 (r, b)
message_fields (msg.Accept r i b p) = filled 2 (r, record { member = i; ballot = b; prepared = p })
message_fields (msg.Promise r b pairs) = filled 3 (r, (b, pairs))
message_fields (msg.Higher r b) = filled 4 (r, b)
message_fields (msg.Accepted r i b p) = filled 5 (r, record { member = i; ballot = b; prepared = p })

abbrev pub paxos_message_form : Form PaxosMsg
paxos_message_form = sum_of paxos_messages message_fields

-- ---- their laws

module _ {A : Type 0} (passes : A → Bool) (f : Form A) (q : IsExact f) where
  tested_again : (x : A) (rest : List ℕ) (place : ℕ) → IsReadBack (tested passes f) x rest place
  tested_again x rest place h =
      let b = both_true (f.fits x) (passes x) h in
      rw (q.again x rest place b.0, b.1) refl

  tested_takes : (s : Input) (x : A) (t : Input) → IsSpelledSo (tested passes f) s x t
  tested_takes s x t bytes e =
      let a = bind_ok (f.parse s) (λ y. if passes y.0 then Ok y else Err s.place) (x, t) e in
      let g = guard_ok (passes a.0.0) s.place a.0 (x, t) a.2 in
      let first = q.takes s a.0.0 a.0.1 bytes a.1 in
      subst (λ (y : A × Input). Taken (tested passes f).spell (tested passes f).fits s y.0 y.1) g.1
      (record { parts = first.parts; place = first.place; is_fit = and_true (f.fits a.0.0) (passes a.0.0) first.is_fit g.0; bytes = first.bytes })

  tested_bounds : (x : A) → IsTrue ((tested passes f).fits x) → IsTrue ((tested passes f).bounded x)
  tested_bounds x h =
      let b = both_true (f.fits x) (passes x) h in
      and_true (f.bounded x) (passes x) (q.bounds x b.0) b.1

  pub exact_tested : IsExact (tested passes f)
  exact_tested = record { again = tested_again; takes = tested_takes; bounds = tested_bounds }

exact_long : IsExact round_or_ballot
exact_long = exact_number w64 (2 ^ 64) wide64

pub exact_pledge : IsExact pledge
exact_pledge = exact_via _ _ _ (λ _. refl) (λ _. refl)
    (exact_and _ _ (exact_tested is_member_number _ (exact_number w8 (2 ^ 8) wide8)) (exact_and _ _ exact_long exact_flag))

exact_ballot : IsExact (round_or_ballot & round_or_ballot)
exact_ballot = exact_and _ _ exact_long exact_long

exact_order : IsExact (round_or_ballot & pledge)
exact_order = exact_and _ _ exact_long exact_pledge

exact_answer : IsExact (round_or_ballot & flag)
exact_answer = exact_and _ _ exact_long exact_flag

record_made : (x : PaxosRecord) → IsMade paxos_record_cases record_fields x
record_made (kept.Promised r b) = record { value = refl; small = refl }
record_made x = record { value = refl; small = refl }

pub exact_paxos_record : IsExact paxos_record_form
exact_paxos_record = exact_sum paxos_record_cases record_fields record_made (
    (exact_ballot, λ _. refl)
    also (exact_order, λ _. refl)
    also (exact_answer, λ _. refl)
    also (exact_ballot, λ _. refl)
    also (exact_answer, λ _. refl)
    also tt)

message_made : (x : PaxosMsg) → IsMade paxos_messages message_fields x
message_made (msg.Ask r b) = record { value = refl; small = refl }
message_made x = record { value = refl; small = refl }

pub exact_paxos_message : IsExact paxos_message_form
exact_paxos_message = exact_sum paxos_messages message_fields message_made (
    (exact_ballot, λ _. refl)
    also (exact_order, λ _. refl)
    also (exact_and _ _ exact_long (exact_and _ _ exact_long (exact_list pledge exact_pledge 8 (lit< tt))), λ _. refl)
    also (exact_ballot, λ _. refl)
    also (exact_order, λ _. refl)
    also tt)
