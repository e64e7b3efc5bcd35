-- A history with the places of its keys and of its rounds.
use Rattle.std.specs.{Prelude.{◌≡◌, ◌==◌, ℕ, suc, Bool, List, [], ◌∷◌, Option, Some, None, if◌then◌else◌}, Option.option_map, Map.lookup}
use Rattle.spl_agree.specs.Member.{values}

-- the place of the first key that meets a test
abbrev pub place_of : {K : Type 0} → (K → Bool) → List K → Option ℕ
place_of p [] = None
place_of p (k ∷ ks) = if p k then Some 0 else option_map suc (place_of p ks)

-- entries that give the first place of each key
abbrev pub IsIndex : {K : Type 0} → (K → K → Bool) → List (K × ℕ) → List K → Type 0
IsIndex {K} eq es ks = (k : K) → lookup (eq k) es ≡ place_of (eq k) ks

abbrev pub keys_by : {K V : Type 0} → (V → K) → List V → List K
keys_by key [] = []
keys_by key (v ∷ vs) = key v ∷ keys_by key vs

abbrev pub rounds_of : {V : Type 0} → List (ℕ × V) → List ℕ
rounds_of [] = []
rounds_of (e ∷ es) = e.0 ∷ rounds_of es

-- both indexes of a history
pub record IsNoted {K V : Type 0} (eq : K → K → Bool) (key : V → K) (history : List (ℕ × V)) (places : List (K × ℕ)) (rounds : List (ℕ × ℕ)) : Type 0 where
  pub keys : IsIndex eq places (keys_by key (values history))
  pub rounds_noted : IsIndex (λ a b. a == b) rounds (rounds_of history)
