-- The byte forms of reasons and of the bodies of messages (docs/RULES.md, Byte forms).
use Rattle.std.specs.{Prelude.{ℕ, ◌^◌, List, [], ◌∷◌, refl}, Int.w64}
use Rattle.spl_base.specs.{Form.{Form, IsExact, number, flag, ◌&◌, via, Case, case, Filled, filled, sum_of}, FormLaws.{wide64, exact_number, exact_flag}}
use Rattle.spl_base.specs.{FormLaws.{exact_and, exact_via}, SumLaws.{◌also◌, IsMade, exact_sum}}
use Rattle.spl_agree.specs.declared.{message.CommitMsg.CommitMsg, reason.Reason.Reason}
use Rattle.spl_agree.specs.declared.message.CommitMsg.TheVariants as commit
use Rattle.spl_circuit.specs.Forms.{byte, word, exact_byte, exact_word}

abbrev pub long : Form ℕ
long = number w64 (2 ^ 64)

pub exact_long : IsExact long
exact_long = exact_number w64 (2 ^ 64) wide64

-- code and place
abbrev pub reason_form : Form Reason
reason_form = via (λ x. record { code = x.0; at = x.1 }) (λ r. (r.code, r.at)) (byte & byte)

pub exact_reason : IsExact reason_form
exact_reason = exact_via _ _ _ (λ _. refl) (λ _. refl) (exact_and _ _ exact_byte exact_byte)

-- ---- the bodies of messages

module _ {V : Type 0} (value : Form V) where
  -- the generation, and then the fields of each
  abbrev pub bodies : List (Case (CommitMsg V))
  bodies =
      case 1 (word & long & word & value) (λ x. commit.VoteRequest x.0 x.1.0 x.1.1.0 x.1.1.1)
      ∷ case 2 (word & long & flag) (λ x. commit.Vote x.0 x.1.0 x.1.1)
      ∷ case 3 (word & long & flag) (λ x. commit.Decision x.0 x.1.0 x.1.1)
      ∷ case 4 (word & long) (λ x. commit.DecisionRequest x.0 x.1)
      ∷ case 5 (word & value) (λ x. commit.Forward x.0 x.1)
      ∷ case 6 (word & value & reason_form) (λ x. commit.Refused x.0 x.1.0 x.1.1)
      ∷ []

  abbrev pub body_fields : CommitMsg V → Filled bodies
  body_fields (commit.VoteRequest g r p v) = filled 1 (g, (r, (p, v)))
  body_fields (commit.Vote g r aye) = filled 2 (g, (r, aye))
  body_fields (commit.Decision g r c) = filled 3 (g, (r, c))
  body_fields (commit.DecisionRequest g r) = filled 4 (g, r)
  body_fields (commit.Forward g v) = filled 5 (g, v)
  body_fields (commit.Refused g v r) = filled 6 (g, (v, r))

  abbrev pub body : Form (CommitMsg V)
  body = sum_of bodies body_fields

  body_made : (x : CommitMsg V) → IsMade bodies body_fields x
  body_made (commit.VoteRequest g r p v) = record { value = refl; small = refl }
  body_made x = record { value = refl; small = refl }

  pub exact_body : IsExact value → IsExact body
  exact_body p = exact_sum bodies body_fields body_made (
      (exact_and _ _ exact_word (exact_and _ _ exact_long (exact_and _ _ exact_word p)), λ _. refl)
      also (exact_and _ _ exact_word (exact_and _ _ exact_long exact_flag), λ _. refl)
      also (exact_and _ _ exact_word (exact_and _ _ exact_long exact_flag), λ _. refl)
      also (exact_and _ _ exact_word exact_long, λ _. refl)
      also (exact_and _ _ exact_word p, λ _. refl)
      also (exact_and _ _ exact_word (exact_and _ _ p exact_reason), λ _. refl)
      also tt)
