-- What a member of a group keeps, and what changes it (docs/RULES.md, "Groups").
use Rattle.std.specs.Prelude.{ℕ, zero, suc, ◌+◌, ◌-◌, ◌^◌, if◌then◌else◌, Bool, true, false, not, ◌&&◌, ◌||◌, ◌==◌, nat_lt, List, [], ◌∷◌, ◌++◌, length}
use Rattle.std.specs.Prelude.{Option, Some, None}
use Rattle.spl_agree.specs.declared.{event.{GroupChange.GroupChange, OpenMove.OpenMove}, reason.{Admit.Admit, Reason.Reason}}
use Rattle.spl_agree.specs.declared.event.GroupChange.TheVariants as change
use Rattle.spl_agree.specs.declared.event.OpenMove.TheVariants as move

-- what the content of a group says: which values have one key, which are equal, why a value can't follow
-- a list, what answers a forwarded value at a member that isn't the coordinator, and what becomes of one
-- that comes from a position
pub record Rules (V : Type 0) : Type 0 where
  pub same_key : V → V → Bool
  pub same : V → V → Bool
  pub check : List V → V → Option Reason
  pub stray : V → Option Reason
  pub admits : ℕ → V → Admit

-- a group: its rules and generation, how many members it has, and which position the coordinator has
pub record Group (V : Type 0) : Type 0 where
  pub rules : Rules V
  pub generation : ℕ
  pub members : ℕ
  pub coordinator : ℕ

-- a member. All but `opened` outlives a stop. `opened` is the open round, with the positions of those
-- that have not voted yes, in order
pub record Member (V : Type 0) : Type 0 where
  pub history : List (ℕ × V)
  pub pending : List V
  pub refused : List (V × Reason)
  pub promise : Option (ℕ × V)
  pub seen : ℕ
  pub next : ℕ
  pub opened : Option (ℕ × List ℕ)

abbrev pub new_member : {V : Type 0} → Member V
new_member = record { history = []; pending = []; refused = []; promise = None; seen = 0; next = 1; opened = None }

-- the values of a history, which are the list applied so far
abbrev pub values : {V : Type 0} → List (ℕ × V) → List V
values [] = []
values (e ∷ es) = e.1 ∷ values es

-- the round is in the history
abbrev pub has_round : {V : Type 0} → ℕ → List (ℕ × V) → Bool
has_round r [] = false
has_round r (e ∷ es) = e.0 == r || has_round r es

-- the first value that meets a test
abbrev pub found : {V : Type 0} → (V → Bool) → List V → Option V
found p [] = None
found p (u ∷ us) = if p u then Some u else found p us

abbrev pub found_refused : {V : Type 0} → (V → Bool) → List (V × Reason) → Option (V × Reason)
found_refused p [] = None
found_refused p (u ∷ us) = if p u.0 then Some u else found_refused p us

abbrev pub value_of : {V : Type 0} → Option (V × Reason) → Option V
value_of None = None
value_of (Some u) = Some u.0

abbrev pub or_else : {V : Type 0} → Option V → Option V → Option V
or_else None o = o
or_else (Some v) o = Some v

-- what is known of the values that meet a test: the first of the history, the pending and the refused ones
abbrev pub known_by : {V : Type 0} → (V → Bool) → Member V → Option V
known_by p m = or_else (found p (values m.history)) (or_else (found p m.pending) (value_of (found_refused p m.refused)))

-- what is known of the key of a value
abbrev pub known : {V : Type 0} → Rules V → Member V → V → Option V
known rules m v = known_by (rules.same_key v) m

-- without the first value that meets a test
abbrev pub without : {V : Type 0} → (V → Bool) → List V → List V
without p [] = []
without p (u ∷ us) = if p u then us else u ∷ without p us

-- a durable change
abbrev pub changed : {V : Type 0} → Rules V → Member V → GroupChange V → Member V
changed rules m (change.Queue v) = record m { pending = m.pending ++ v ∷ [] }
changed rules m (change.Refuse v reason) = record m { pending = without (rules.same_key v) m.pending; refused = m.refused ++ (v, reason) ∷ [] }
changed rules m (change.Begin r) = record m { next = r + 1 }
changed rules m (change.Seen r) = record m { seen = r }
changed rules m (change.Promise r v) = record m { promise = Some (r, v); seen = r }
changed rules m change.Abort = record m { promise = None }
changed rules m (change.Commit r v) = record m { history = m.history ++ (r, v) ∷ []; promise = None; pending = without (rules.same_key v) m.pending }
changed rules m (change.Restore next seen) = record m { next = next; seen = seen }
changed rules m (change.Kept v reason) = record m { refused = m.refused ++ (v, reason) ∷ [] }

abbrev pub changed_by : {V : Type 0} → Rules V → Member V → List (GroupChange V) → Member V
changed_by rules m [] = m
changed_by rules m (c ∷ cs) = changed_by rules (changed rules m c) cs

-- the positions below n but one, in order
abbrev pub below_but : ℕ → ℕ → List ℕ
below_but zero here = []
below_but (suc n) here = below_but n here ++ (if n == here then [] else n ∷ [])

-- the other members
abbrev pub others : {V : Type 0} → Group V → ℕ → List ℕ
others g here = below_but g.members here

abbrev pub has : ℕ → List ℕ → Bool
has i [] = false
has i (j ∷ js) = j == i || has i js

-- these positions but one
abbrev pub but : ℕ → List ℕ → List ℕ
but i [] = []
but i (j ∷ js) = if j == i then but i js else j ∷ but i js

abbrev pub none_left : List ℕ → Bool
none_left [] = true
none_left (i ∷ is) = false

-- one more voted yes
abbrev pub with_yes : ℕ → Option (ℕ × List ℕ) → Option (ℕ × List ℕ)
with_yes i None = None
with_yes i (Some o) = Some (o.0, but i o.1)

-- a move of the open round
abbrev pub moved : {V : Type 0} → Group V → ℕ → Member V → OpenMove → Member V
moved g here m move.Keep = m
moved g here m (move.Begin r) = record m { opened = Some (r, others g here) }
moved g here m (move.Yes i) = record m { opened = with_yes i m.opened }
moved g here m move.Close = record m { opened = None }

-- a stop forgets the open round
abbrev pub restarted : {V : Type 0} → Member V → Member V
restarted m = record m { opened = None }

-- the last round is spent, or the last place
abbrev pub is_spent : {V : Type 0} → Member V → Bool
is_spent m = m.next == 2 ^ 64 - 1 || length m.history == 2 ^ 32 - 1

-- this round is open
abbrev pub is_open : ℕ → Option (ℕ × List ℕ) → Bool
is_open r None = false
is_open r (Some o) = o.0 == r

-- the decision of a round at the coordinator, where it is known: by whether it is in the history, the next round, and
-- whether it is open
abbrev pub decision_by : Bool → ℕ → Bool → ℕ → Option Bool
decision_by committed next opened r =
    if committed then Some true
    else (if nat_lt r next && not opened then Some false else None)

abbrev pub decision : {V : Type 0} → Member V → ℕ → Option Bool
decision m r = decision_by (has_round r m.history) m.next (is_open r m.opened) r
