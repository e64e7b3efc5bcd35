-- The packed form of a member: the changes that make it of a new one (docs/RULES.md, "Groups").
use Rattle.std.specs.Prelude.{ℕ, List, [], ◌∷◌, ◌++◌, Option, Some, None}
use Rattle.spl_agree.specs.{Member.Member, declared.{event.GroupChange.GroupChange, reason.Reason.Reason}}
use Rattle.spl_agree.specs.declared.event.GroupChange.TheVariants as change

-- each refused value is kept
abbrev pub kept_each : {V : Type 0} → List (V × Reason) → List (GroupChange V)
kept_each [] = []
kept_each (u ∷ us) = change.Kept u.0 u.1 ∷ kept_each us

-- each value of the history is committed in its round
abbrev pub committed_each : {V : Type 0} → List (ℕ × V) → List (GroupChange V)
committed_each [] = []
committed_each (e ∷ es) = change.Commit e.0 e.1 ∷ committed_each es

-- each pending value is queued
abbrev pub queued_each : {V : Type 0} → List V → List (GroupChange V)
queued_each [] = []
queued_each (v ∷ vs) = change.Queue v ∷ queued_each vs

-- the promise, where there is one
abbrev pub promised_one : {V : Type 0} → Option (ℕ × V) → List (GroupChange V)
promised_one None = []
promised_one (Some e) = change.Promise e.0 e.1 ∷ []

-- the round seen without the promise, which sets it
abbrev pub seen_without : {V : Type 0} → Option (ℕ × V) → ℕ → ℕ
seen_without None seen = seen
seen_without (Some e) seen = 0

-- the rounds; then the refused values, since a committed one may have the key of one; then the history, the pending
-- values, which no list may know, and the promise
abbrev pub packed_member : {V : Type 0} → Member V → List (GroupChange V)
packed_member m =
    change.Restore m.next (seen_without m.promise m.seen) ∷ kept_each m.refused
    ++ (committed_each m.history ++ (queued_each m.pending ++ promised_one m.promise))
