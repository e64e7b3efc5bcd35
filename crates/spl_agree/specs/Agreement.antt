-- What holds of a group at every moment (docs/RULES.md, "Groups").
use Rattle.std.specs.Prelude.{◌≡◌, ◌≢◌, ℕ, suc, ◌<◌, ◌≤◌, ◌⊎◌, true, false, List, [], ◌∷◌, ◌++◌, Option, Some, None}
use Rattle.spl_agree.specs.{Member.{Group, Member, has_round, has}, World.{Sent, World}, declared.{event.GroupEvent.GroupEvent, message.CommitMsg.CommitMsg}}
use Rattle.spl_agree.specs.declared.message.CommitMsg.TheVariants as msg
use Rattle.spl_agree.specs.declared.event.GroupEvent.TheVariants as event

-- an open round, with the value that it is about and who has not voted yes
pub record Ballot (V : Type 0) : Type 0 where
  pub round : ℕ
  pub value : V
  pub missing : List ℕ

abbrev pub ballot_of : {V : Type 0} → Option (ℕ × List ℕ) → List V → Option (Ballot V)
ballot_of None us = None
ballot_of (Some o) [] = None
ballot_of (Some o) (v ∷ vs) = Some (record { round = o.0; value = v; missing = o.1 })

-- what the others depend on at the coordinator
pub record Lead (V : Type 0) : Type 0 where
  pub history : List (ℕ × V)
  pub next : ℕ
  pub opened : Option (ℕ × List ℕ)
  pub ballot : Option (Ballot V)

abbrev pub lead : {V : Type 0} → Member V → Lead V
lead m = record { history = m.history; next = m.next; opened = m.opened; ballot = ballot_of m.opened m.pending }

-- what the coordinator depends on at another member
pub record Seat (V : Type 0) : Type 0 where
  pub history : List (ℕ × V)
  pub promise : Option (ℕ × V)
  pub seen : ℕ

abbrev pub seat : {V : Type 0} → Member V → Seat V
seat m = record { history = m.history; promise = m.promise; seen = m.seen }

-- the coordinator by itself
pub record IsLed {V : Type 0} (l : Lead V) : Type 0 where
  -- an open round has a value
  pub settled : (o : ℕ × List ℕ) → l.opened ≡ Some o → (b : Ballot V) × (l.ballot ≡ Some b)
  -- committed rounds were begun
  pub begun : (r : ℕ) → has_round r l.history ≡ true → r < l.next
  -- the open round is the last one begun, and is not committed
  pub latest : (b : Ballot V) → l.ballot ≡ Some b → (suc b.round ≡ l.next) × (has_round b.round l.history ≡ false)

-- a promise of this member, against the coordinator
pub record IsHeld {V : Type 0} (l : Lead V) (s : Seat V) (e : ℕ × V) : Type 0 where
  pub begun : e.0 < l.next
  pub seen : e.0 ≤ s.seen
  -- where the round is open, it is about this value
  pub same : (b : Ballot V) → l.ballot ≡ Some b → b.round ≡ e.0 → b.value ≡ e.1
  -- where the round is committed, it is the one that this member lacks
  pub lacks : has_round e.0 l.history ≡ true → l.history ≡ s.history ++ e ∷ []

-- another member against the coordinator
pub record Follows {V : Type 0} (l : Lead V) (s : Seat V) (i : ℕ) : Type 0 where
  -- the same history, or it lacks the last one, which it has promised
  pub trails : (s.history ≡ l.history) ⊎ ((e : ℕ × V) × (s.promise ≡ Some e) × (l.history ≡ s.history ++ e ∷ []))
  pub held : (e : ℕ × V) → s.promise ≡ Some e → IsHeld l s e
  -- it has seen each committed round
  pub passed : (r : ℕ) → has_round r l.history ≡ true → r ≤ s.seen
  -- where its yes is counted, it has promised the open round and its value
  pub counted : (b : Ballot V) → l.ballot ≡ Some b → has i b.missing ≡ false → s.promise ≡ Some (b.round, b.value)

-- a message that the coordinator has sent
abbrev pub Told : {V : Type 0} → Lead V → CommitMsg V → Type 0
Told l (msg.VoteRequest gen r place v) = (r < l.next) × ((b : Ballot _) → l.ballot ≡ Some b → b.round ≡ r → b.value ≡ v)
Told l (msg.Decision gen r true) = has_round r l.history ≡ true
Told l (msg.Decision gen r false) = (r < l.next) × (has_round r l.history ≡ false) × ((b : Ballot _) → l.ballot ≡ Some b → b.round ≢ r)
Told l _ = Unit {0}

-- a message that another member has sent
abbrev pub Said : {V : Type 0} → Lead V → Seat V → CommitMsg V → Type 0
Said l s (msg.Vote gen r true) = (r < l.next) × ((b : Ballot _) → l.ballot ≡ Some b → b.round ≡ r → s.promise ≡ Some (b.round, b.value))
Said l s _ = Unit {0}

-- the message was sent
abbrev pub Was : {V : Type 0} → Sent V → List (Sent V) → Type 0
Was s [] = ⊥
Was s (x ∷ xs) = (s ≡ x) ⊎ Was s xs

-- the whole group
pub record Agrees {V : Type 0} (g : Group V) (w : World V) : Type 0 where
  pub led : IsLed (lead (w.at g.coordinator))
  pub follows : (i : ℕ) → i < g.members → i ≢ g.coordinator → Follows (lead (w.at g.coordinator)) (seat (w.at i)) i
  pub told : (s : Sent V) → Was s w.sent → s.from ≡ g.coordinator → Told (lead (w.at g.coordinator)) s.message
  pub said : (s : Sent V) → Was s w.sent → s.from ≢ g.coordinator → Said (lead (w.at g.coordinator)) (seat (w.at s.from)) s.message

-- a message that may come here: from the coordinator what it may have sent, from another member what that may have
-- sent, and anything from elsewhere
pub record MayCome {V : Type 0} (g : Group V) (w : World V) (here sender : ℕ) (x : CommitMsg V) : Type 0 where
  pub other : sender ≢ here
  pub told : sender ≡ g.coordinator → Told (lead (w.at g.coordinator)) x
  pub said : here ≡ g.coordinator → sender < g.members → sender ≢ g.coordinator → Said (lead (w.at g.coordinator)) (seat (w.at sender)) x

-- an event that may happen here
abbrev pub MayHappen : {V : Type 0} → Group V → World V → ℕ → GroupEvent V → Type 0
MayHappen g w here (event.From sender x) = MayCome g w here sender x
MayHappen g w here _ = Unit {0}

-- nobody has a history or a promise, and nothing is open at the coordinator
pub record IsFresh {V : Type 0} (g : Group V) (at : ℕ → Member V) : Type 0 where
  pub empty : (i : ℕ) → (at i).history ≡ []
  pub free : (i : ℕ) → (at i).promise ≡ None
  pub shut : (at g.coordinator).opened ≡ None
