-- When an event, a change and a move fit a member, and what a member keeps by itself (docs/RULES.md, "Groups").
use Rattle.std.specs.Prelude.{◌≡◌, ◌≢◌, ℕ, suc, ◌-◌, ◌^◌, ◌<◌, ◌≤◌, Bool, true, false, not, ◌&&◌, ◌==◌, nat_lt, List, [], ◌∷◌, ◌++◌, length, Option, Some}
use Rattle.std.specs.{Prelude.{None, is_some, is_none}, List.list_any}
use Rattle.spl_agree.specs.Member.{Rules, Group, Member, values, found, found_refused, known, changed, moved, has, but, none_left}
use Rattle.spl_agree.specs.declared.{event.{GroupChange.GroupChange, GroupEvent.GroupEvent, OpenMove.OpenMove}, limit.TheConstants.MOST_PENDING}
use Rattle.spl_agree.specs.declared.message.CommitMsg.{CommitMsg}
use Rattle.spl_agree.specs.declared.message.CommitMsg.TheVariants as msg
use Rattle.spl_agree.specs.declared.reason.Admit.TheVariants as admit
use Rattle.spl_agree.specs.declared.event.GroupEvent.TheVariants as event
use Rattle.spl_agree.specs.declared.event.GroupChange.TheVariants as change
use Rattle.spl_agree.specs.declared.event.OpenMove.TheVariants as move

-- the open round is at the coordinator, is the last one begun, has a place, and is about the first pending
-- value, whose check is good
pub record IsJudged {V : Type 0} (g : Group V) (here : ℕ) (m : Member V) (o : ℕ × List ℕ) : Type 0 where
  pub here_leads : here ≡ g.coordinator
  pub latest : suc o.0 ≡ m.next
  pub room : length m.history < 2 ^ 32 - 1
  pub first : V
  pub rest : List V
  pub pending : m.pending ≡ first ∷ rest
  pub good : g.rules.check (values m.history) first ≡ None

-- no round is open, or one is as it has to be
abbrev pub IsSettled : {V : Type 0} → Group V → ℕ → Member V → Type 0
IsSettled g here m = (o : ℕ × List ℕ) → m.opened ≡ Some o → IsJudged g here m o

abbrev pub generation_of : {V : Type 0} → CommitMsg V → ℕ
generation_of (msg.VoteRequest gen r place v) = gen
generation_of (msg.Vote gen r aye) = gen
generation_of (msg.Decision gen r commit) = gen
generation_of (msg.DecisionRequest gen r) = gen
generation_of (msg.Forward gen v) = gen
generation_of (msg.Refused gen v reason) = gen

-- what a change queues
abbrev pub queued : {V : Type 0} → GroupChange V → Option V
queued (change.Queue v) = Some v
queued _ = None

-- what an event asks: a submitted value isn't known, and fewer than the limit are pending; a message has the
-- group's generation, and comes from another position
abbrev pub IsDue : {V : Type 0} → Group V → ℕ → Member V → GroupEvent V → Type 0
IsDue g here m (event.Submit v) = (known g.rules m v ≡ None) × (length m.pending < MOST_PENDING)
IsDue g here m (event.From sender x) = (generation_of x ≡ g.generation) × (sender ≢ here)
IsDue g here m _ = Unit {0}

-- an equal value is pending
abbrev pub is_pending : {V : Type 0} → Rules V → V → List V → Bool
is_pending rules v us = list_any (λ u. rules.same u v) us

-- nothing is committed, pending or promised
abbrev pub has_nothing : {V : Type 0} → Member V → Bool
has_nothing m = length m.history == 0 && (length m.pending == 0 && is_none m.promise)

-- the member is as it was made
abbrev pub is_new : {V : Type 0} → Member V → Bool
is_new m = has_nothing m && (length m.refused == 0 && (m.seen == 0 && m.next == 1))

-- where a change fits. `may` says which values the content lets into the pending ones
abbrev pub fits : {V : Type 0} → Rules V → (V → Bool) → Member V → GroupChange V → Bool
fits rules may m (change.Queue v) = is_none (known rules m v) && (nat_lt (length m.pending) MOST_PENDING && may v)
fits rules may m (change.Refuse v reason) = is_pending rules v m.pending
fits rules may m (change.Begin r) = r == m.next && nat_lt r (2 ^ 64 - 1)
fits rules may m (change.Seen r) = nat_lt m.seen r && is_none m.promise
fits rules may m (change.Promise r v) =
    nat_lt m.seen r && (is_none m.promise && (nat_lt (length m.history) (2 ^ 32 - 1) && is_none (rules.check (values m.history) v)))
fits rules may m change.Abort = is_some m.promise
fits rules may m (change.Commit r v) = nat_lt (length m.history) (2 ^ 32 - 1) && is_none (rules.check (values m.history) v)
fits rules may m (change.Restore next seen) = is_new m && (nat_lt 0 next && nat_lt next (2 ^ 64))
fits rules may m (change.Kept v reason) = has_nothing m && is_none (found_refused (rules.same_key v) m.refused)

-- any value may be pending
abbrev pub any_value : {V : Type 0} → V → Bool
any_value v = true

-- each change fits after those before it
abbrev pub AllFit : {V : Type 0} → Rules V → (V → Bool) → Member V → List (GroupChange V) → Type 0
AllFit rules may m [] = Unit {0}
AllFit rules may m (x ∷ xs) = (fits rules may m x ≡ true) × AllFit rules may (changed rules m x) xs

-- a round is open that misses this member and another one
abbrev pub misses_more : ℕ → Option (ℕ × List ℕ) → Bool
misses_more i None = false
misses_more i (Some o) = has i o.1 && not (none_left (but i o.1))

-- what the move itself asks: a round begins where none is open; a yes is counted where it is missing and isn't the last one
abbrev pub CanMove : {V : Type 0} → Member V → OpenMove → Type 0
CanMove m (move.Begin r) = m.opened ≡ None
CanMove m (move.Yes i) = misses_more i m.opened ≡ true
CanMove m _ = Unit {0}

-- a move fits where it can be made and leaves the member settled
pub record FitsMove {V : Type 0} (g : Group V) (here : ℕ) (m : Member V) (x : OpenMove) : Type 0 where
  pub can : CanMove m x
  pub settled : IsSettled g here (moved g here m x)

-- each value had a good check against those before it
abbrev pub AllGood : {V : Type 0} → Rules V → List V → List V → Type 0
AllGood rules before [] = Unit {0}
AllGood rules before (v ∷ vs) = (rules.check before v ≡ None) × AllGood rules (before ++ v ∷ []) vs

-- no value has the key of one before it
abbrev pub KeysDiffer : {V : Type 0} → Rules V → List V → List V → Type 0
KeysDiffer rules before [] = Unit {0}
KeysDiffer rules before (v ∷ vs) = (found (rules.same_key v) before ≡ None) × KeysDiffer rules (before ++ v ∷ []) vs

-- the check refuses a value whose key the list has
abbrev pub RefusesKnown : {V : Type 0} → Rules V → Type 0
RefusesKnown {V} rules = (before : List V) → (v : V) → rules.check before v ≡ None → found (rules.same_key v) before ≡ None

-- every committed, promised and open value had a good check against the values before it, and the numbers are in their bounds
pub record IsSound {V : Type 0} (g : Group V) (here : ℕ) (m : Member V) : Type 0 where
  pub good : AllGood g.rules [] (values m.history)
  pub held : (e : ℕ × V) → m.promise ≡ Some e → g.rules.check (values m.history) e.1 ≡ None
  pub settled : IsSettled g here m

pub record IsRoomy {V : Type 0} (m : Member V) : Type 0 where
  pub few : length m.pending ≤ MOST_PENDING
  pub rounds : m.next ≤ 2 ^ 64 - 1
  pub room : length m.history ≤ 2 ^ 32 - 1
  pub while_promised : (e : ℕ × V) → m.promise ≡ Some e → length m.history < 2 ^ 32 - 1

-- what the content has to see to: what is submitted, and what it takes in, may be pending
abbrev pub MayQueue : {V : Type 0} → Group V → (V → Bool) → GroupEvent V → Type 0
MayQueue g may (event.Submit v) = may v ≡ true
MayQueue g may (event.From s (msg.Forward gen v)) = g.rules.admits s v ≡ admit.Take → may v ≡ true
MayQueue g may _ = Unit {0}
