-- What a calm gives, and what it needs.
use Rattle.std.specs.Prelude.{◌≡◌, ◌≢◌, ℕ, ◌-◌, ◌^◌, ◌<◌, ◌≤◌, ◌⊎◌, true, false, List, [], ◌∷◌, length, Some, None}
use Rattle.spl_agree.specs.{Member.{Rules, Group, Member, values, has, found, none_left}, World.{World, Happening, Ticks, Submits, Delivers, happens, run}}
use Rattle.spl_agree.specs.Agreement.{Agrees}

-- one of them is such
abbrev pub AnyOf : {A : Type 0} → (A → Type 0) → List A → Type 0
AnyOf P [] = ⊥
AnyOf P (x ∷ xs) = P x ⊎ AnyOf P xs

abbrev pub InHistory : {V : Type 0} → V → Member V → Type 0
InHistory v m = AnyOf (λ u. u ≡ v) (values m.history)

abbrev pub IsPending : {V : Type 0} → V → Member V → Type 0
IsPending v m = AnyOf (λ u. u ≡ v) m.pending

abbrev pub IsRefused : {V : Type 0} → V → Member V → Type 0
IsRefused v m = AnyOf (λ u. u.0 ≡ v) m.refused

-- the value is in the history of every member, or it is refused at the coordinator and pending at no member
abbrev pub Settles : {V : Type 0} → Group V → V → World V → Type 0
Settles g v w = ((i : ℕ) → i < g.members → InHistory v (w.at i)) ⊎ (IsRefused v (w.at g.coordinator) × ((i : ℕ) → i < g.members → IsPending v (w.at i) → ⊥))

-- having one key is an equivalence, and a value is the same as itself
pub record IsKeyed {V : Type 0} (rules : Rules V) : Type 0 where
  pub self : (v : V) → rules.same_key v v ≡ true
  pub turned : (u v : V) → rules.same_key u v ≡ true → rules.same_key v u ≡ true
  pub through : (u v w : V) → rules.same_key u v ≡ true → rules.same_key v w ≡ true → rules.same_key u w ≡ true
  pub same : (v : V) → rules.same v v ≡ true

-- the key of this value stands at most once
abbrev pub Once : {V : Type 0} → Rules V → V → List V → Type 0
Once rules v [] = Unit {0}
Once rules v (x ∷ xs) = (rules.same_key v x ≡ true → found (rules.same_key v) xs ≡ None) × Once rules v xs

-- an open round misses a member, and misses others only
pub record IsManned {V : Type 0} (g : Group V) (missing : List ℕ) : Type 0 where
  pub some : none_left missing ≡ false
  pub among : (j : ℕ) → has j missing ≡ true → (j < g.members) × (j ≢ g.coordinator)

-- a group in which a calm settles the first pending value of the coordinator
pub record IsFit {V : Type 0} (g : Group V) (w : World V) : Type 0 where
  pub keyed : IsKeyed g.rules
  pub two : 2 ≤ g.members
  pub leads : g.coordinator < g.members
  pub agrees : Agrees g w
  -- no member has seen a round that was not begun
  pub heard : (i : ℕ) → i < g.members → i ≢ g.coordinator → (w.at i).seen < (w.at g.coordinator).next
  -- no key is pending twice at a member
  pub once : (i : ℕ) → i < g.members → (v : V) → Once g.rules v (w.at i).pending
  pub manned : (o : ℕ × List ℕ) → (w.at g.coordinator).opened ≡ Some o → IsManned g o.1
  pub rounds : (w.at g.coordinator).next < 2 ^ 64 - 1
  pub places : length (w.at g.coordinator).history < 2 ^ 32 - 1

-- what is submitted has a key that isn't pending there
abbrev pub IsGuarded : {V : Type 0} → Group V → World V → Happening V → Type 0
IsGuarded g w (Submits here v) = found (g.rules.same_key v) (w.at here).pending ≡ None
IsGuarded g w _ = Unit {0}

abbrev pub AllGuarded : {V : Type 0} → Group V → World V → List (Happening V) → Type 0
AllGuarded g w [] = Unit {0}
AllGuarded g w (e ∷ es) = IsGuarded g w e × AllGuarded g (happens g w e) es

-- ticks and deliveries alone
abbrev pub IsQuietHappening : {V : Type 0} → Happening V → Type 0
IsQuietHappening (Ticks here) = Unit {0}
IsQuietHappening (Delivers which) = Unit {0}
IsQuietHappening _ = ⊥

abbrev pub AllQuiet : {V : Type 0} → List (Happening V) → Type 0
AllQuiet [] = Unit {0}
AllQuiet (e ∷ es) = IsQuietHappening e × AllQuiet es

-- the second is reached from the first by ticks and deliveries
abbrev pub IsRunOf : {V : Type 0} → Group V → World V → World V → Type 0
IsRunOf {V} g w x = (es : List (Happening V)) × (AllQuiet es × (run g w es ≡ x))
