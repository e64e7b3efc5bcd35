-- One group as a whole: its members and all messages ever sent (docs/RULES.md, "Groups").
use Rattle.std.specs.Prelude.{◌≡◌, ℕ, Bool, true, not, ◌&&◌, ◌==◌, nat_lt, List, [], ◌∷◌, ◌++◌, if◌then◌else◌, slice_get, Option, Some, None}
use Rattle.spl_agree.specs.{Member.{Group, Member, new_member, changed_by, moved, restarted}, Rows.row, declared.event.GroupChange.GroupChange}
use Rattle.spl_agree.specs.declared.{event.GroupEvent.GroupEvent, message.CommitMsg.CommitMsg, plan.GroupPlan.GroupPlan}
use Rattle.spl_agree.specs.declared.message.CommitMsg.TheVariants as msg
use Rattle.spl_agree.specs.declared.event.GroupEvent.TheVariants as event

pub record Sent (V : Type 0) : Type 0 where
  pub from : ℕ
  pub to : ℕ
  pub message : CommitMsg V

pub record World (V : Type 0) : Type 0 where
  pub at : ℕ → Member V
  pub sent : List (Sent V)

abbrev pub new_world : {V : Type 0} → World V
new_world = record { at = λ _. new_member; sent = [] }

-- the members with another one in the place of this one
unfoldable pub put : {A : Type 0} → (ℕ → A) → ℕ → A → ℕ → A
put f here m i = if i == here then m else f i

abbrev pub posted : {V : Type 0} → ℕ → List (ℕ × CommitMsg V) → List (Sent V)
posted here [] = []
posted here (s ∷ ss) = record { from = here; to = s.0; message = s.1 } ∷ posted here ss

-- the member after a plan
abbrev pub after : {V : Type 0} → Group V → ℕ → Member V → GroupPlan V → Member V
after g here m p = moved g here (changed_by g.rules m p.changes) p.opening

-- a plan is carried out at a member
abbrev pub carried_out : {V : Type 0} → Group V → World V → ℕ → GroupPlan V → World V
carried_out g w here p = record { at = put w.at here (after g here (w.at here) p); sent = posted here p.sends ++ w.sent }

-- a member stops and starts again
abbrev pub stopped : {V : Type 0} → World V → ℕ → World V
stopped w here = record { at = put w.at here (restarted (w.at here)); sent = w.sent }

-- a member stops once these changes are made, before any move is made and any message is sent
abbrev pub cut_short : {V : Type 0} → Group V → World V → ℕ → List (GroupChange V) → World V
cut_short g w here made = record { at = put w.at here (restarted (changed_by g.rules (w.at here) made)); sent = w.sent }

-- what a stranger may send to this member, from this position
abbrev pub is_strange_message : {V : Type 0} → Group V → ℕ → CommitMsg V → Bool
is_strange_message g sender (msg.VoteRequest gen r place v) = not (sender == g.coordinator)
is_strange_message g sender (msg.Vote gen r true) = not (nat_lt sender g.members)
is_strange_message g sender (msg.Decision gen r commit) = not (sender == g.coordinator)
is_strange_message g sender _ = true

abbrev pub is_strange : {V : Type 0} → Group V → ℕ → ℕ → CommitMsg V → Bool
is_strange g here sender m = not (sender == here) && is_strange_message g sender m

-- what may happen in a group
pub data Happening (V : Type 0) : Type 0 where
  Ticks : (here : ℕ) → Happening V
  Expires : (here : ℕ) → Happening V
  Submits : (here : ℕ) → (value : V) → Happening V
  Delivers : (which : ℕ) → Happening V
  Strays : (here : ℕ) → (sender : ℕ) → (message : CommitMsg V) → Happening V
  Restarts : (here : ℕ) → Happening V

-- an event at a member; nothing happens at a position that is no member's
abbrev pub acts : {V : Type 0} → Group V → World V → ℕ → GroupEvent V → World V
acts g w here e = if nat_lt here g.members then carried_out g w here (row g here (w.at here) e) else w

-- a message comes, where it was sent
abbrev pub comes : {V : Type 0} → Group V → World V → Option (Sent V) → World V
comes g w None = w
comes g w (Some s) = if s.from == s.to then w else acts g w s.to (event.From s.from s.message)

abbrev pub happens : {V : Type 0} → Group V → World V → Happening V → World V
happens g w (Ticks here) = acts g w here event.Tick
happens g w (Expires here) = acts g w here event.Expire
happens g w (Submits here v) = acts g w here (event.Submit v)
happens g w (Delivers which) = comes g w (slice_get w.sent which)
happens g w (Strays here sender m) = if is_strange g here sender m then acts g w here (event.From sender m) else w
happens g w (Restarts here) = if nat_lt here g.members then stopped w here else w

-- a whole schedule
abbrev pub run : {V : Type 0} → Group V → World V → List (Happening V) → World V
run g w [] = w
run g w (e ∷ es) = run g (happens g w e) es

-- ys begins with xs
abbrev pub IsPrefixOf : {A : Type 0} → List A → List A → Type 0
IsPrefixOf xs ys = (rest : List _) × (xs ++ rest ≡ ys)
