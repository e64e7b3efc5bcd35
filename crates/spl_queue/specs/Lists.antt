-- A queue as two lists of entries, in the order in which they came (docs/RULES.md, "Groups"). `eq` says which keys are equal.
use Rattle.std.specs.{Prelude.{◌≡◌, ◌≤◌, length, Bool, List, [], ◌∷◌, Option, None, Some}, Map.lookup}
use Rattle.spl_agree.specs.declared.{limit.TheConstants.MOST_PENDING, reason.Reason.Reason}

pub record Lists (K V : Type 0) : Type 0 where
  pub pending : List (K × V)
  pub refused : List (K × (V × Reason))

-- the value of a key
abbrev pub at : {K V : Type 0} → (K → K → Bool) → List (K × V) → K → Option V
at eq es k = lookup (eq k) es

-- no key of the first list is a key of the second
abbrev pub Apart : {K V W : Type 0} → (K → K → Bool) → List (K × V) → List (K × W) → Type 0
Apart {K} eq es fs = (k : K) → (v : _) → at eq es k ≡ Some v → at eq fs k ≡ None

abbrev pub refused_entry : {K V : Type 0} → K → Reason → Option V → List (K × (V × Reason))
refused_entry k r None = []
refused_entry k r (Some v) = (k, (v, r)) ∷ []

-- what a settled key adds to the refused values
abbrev pub refusal : {K V : Type 0} → (K → K → Bool) → Lists K V → K → Option Reason → List (K × (V × Reason))
refusal eq q k None = []
refusal eq q k (Some r) = refused_entry k r (at eq q.pending k)

-- what the two lists keep: no key in both, and few pending
pub record IsQueue {K V : Type 0} (eq : K → K → Bool) (pending : List (K × V)) (refused : List (K × (V × Reason))) : Type 0 where
  pub apart : Apart eq pending refused
  pub short : length pending ≤ MOST_PENDING
