-- A member as its callers see it.
use Rattle.std.specs.Prelude.{◌≡◌, ℕ, ◌^◌, ◌<◌, ◌≤◌, false, List, [], ◌∷◌, length, Option, Some, None}
use Rattle.spl_agree.specs.{Member.{Rules, Group, Member, values, none_left}, declared.reason.Reason.Reason}
use Rattle.spl_coord.specs.Positions.{positions}

-- the content, what the member keeps, its generation, how many members there are, and the positions of the coordinator and of this one
pub record MemberView (C V : Type 0) : Type 0 where
  pub content : C
  pub state : Member V
  pub generation : ℕ
  pub members : ℕ
  pub coordinator : ℕ
  pub here : ℕ

-- the group that a member is in, by the rules of its content
abbrev pub group_by : {C V : Type 0} → Rules V → MemberView C V → Group V
group_by rules m = record { rules = rules; generation = m.generation; members = m.members; coordinator = m.coordinator }

-- what stays when a member changes
pub record IsFixed {C V : Type 0} (old new : MemberView C V) : Type 0 where
  pub generation : new.generation ≡ old.generation
  pub members : new.members ≡ old.members
  pub coordinator : new.coordinator ≡ old.coordinator
  pub here : new.here ≡ old.here

-- the values of entries
abbrev pub seconds : {K X : Type 0} → List (K × X) → List X
seconds [] = []
seconds (e ∷ es) = e.1 ∷ seconds es

-- each entry has the key of its value
abbrev pub AreKeyed : {K X : Type 0} → (X → K) → List (K × X) → Type 0
AreKeyed key [] = Unit {0}
AreKeyed key (e ∷ es) = (e.0 ≡ key e.1) × AreKeyed key es

abbrev pub some_missing : Option (ℕ × ℕ) → Type 0
some_missing None = Unit {0}
some_missing (Some o) = none_left (positions o.1) ≡ false

-- what a member keeps inside: the content stands for the history, the queue is by keys, the numbers are in their bounds
pub record IsKept {K V : Type 0} (key : V → K) (items : List V) (history : List (ℕ × V)) (pending : List (K × V))
    (refused : List (K × (V × Reason))) (opened : Option (ℕ × ℕ)) (members coordinator here : ℕ) : Type 0 where
  pub applied : items ≡ values history
  pub pending_keys : AreKeyed key pending
  pub refused_keys : AreKeyed (λ (u : V × Reason). key u.0) refused
  pub room : length history < 2 ^ 32
  pub missing : some_missing opened
  pub two : 2 ≤ members
  pub eight : members ≤ 8
  pub led : coordinator < members
  pub placed : here < members
