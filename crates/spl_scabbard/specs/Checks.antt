-- Why a batch can't follow others (docs/RULES.md, Batches).
use Rattle.std.specs.{Prelude.{ℕ, ◌==◌, Bool, List, if◌then◌else◌, Option, Some, None}, List.list_any}
use Rattle.spl_agree.specs.{Member.Rules, declared.reason.{Reason.Reason, TheConstants.Reason.{ID_TAKEN, BROKEN_RULE}}}
use Rattle.spl_agree.specs.declared.reason.Admit.TheVariants as admit
use Rattle.spl_command.specs.{Equality.same_batch, Rules.broken_batch, Execution.{verdict_on, told_cause}, Lists.state_of, declared.batch.Batch.Batch}

-- one of the batches has the id
abbrev pub is_taken : List Batch → ℕ → Bool
is_taken bs i = list_any (λ b. i == b.id) bs

abbrev pub reason_of : Option (ℕ × ℕ) → Option Reason
reason_of None = None
reason_of (Some x) = Some (record { code = x.1; at = x.0 })

-- a batch that breaks no rule, after others
abbrev pub misfit_valid : List Batch → Batch → Option Reason
misfit_valid bs b = if is_taken bs b.id then Some ID_TAKEN else reason_of (told_cause (verdict_on (state_of bs) b))

abbrev pub unless_broken : Option ℕ → Option Reason → Option Reason
unless_broken None next = next
unless_broken (Some rule) next = Some (record { code = BROKEN_RULE; at = rule })

abbrev pub misfit_batch : List Batch → Batch → Option Reason
misfit_batch bs b = unless_broken (broken_batch b) (misfit_valid bs b)

-- what the service group of a circuit says of batches
abbrev pub batch_rules : Rules Batch
batch_rules = record {
  same_key = λ b c. b.id == c.id;
  same = same_batch;
  check = misfit_batch;
  stray = λ b. None;
  admits = λ sender b. admit.Take;
}
