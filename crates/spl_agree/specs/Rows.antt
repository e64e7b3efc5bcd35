-- What each event does at a member: one definition per event and message, one case per line, tried from the top
-- (docs/RULES.md, "Groups" and "Messages").
use Rattle.std.specs.Prelude.{ℕ, ◌-◌, ◌^◌, Bool, true, false, ◌&&◌, ◌==◌, nat_lt, List, [], ◌∷◌, length, if◌then◌else◌, Option, Some, None, is_none}
use Rattle.spl_agree.specs.Member.{Rules, Group, Member, values, has_round, found, found_refused, others, has, but, none_left, is_spent, decision}
use Rattle.spl_agree.specs.declared.{event.{GroupChange.GroupChange, GroupEvent.GroupEvent, Note.Note}, limit.TheConstants.MOST_PENDING}
use Rattle.spl_agree.specs.declared.{message.CommitMsg.CommitMsg, plan.GroupPlan.GroupPlan, reason.{Admit.Admit, Reason.Reason, TheConstants.Reason.VOTED_NO}}
use Rattle.spl_agree.specs.declared.reason.TheConstants.Reason.{ID_TAKEN}
use Rattle.spl_agree.specs.declared.reason.Admit.TheVariants as admit
use Rattle.spl_agree.specs.declared.message.CommitMsg.TheVariants as msg
use Rattle.spl_agree.specs.declared.event.GroupEvent.TheVariants as event
use Rattle.spl_agree.specs.declared.event.GroupChange.TheVariants as change
use Rattle.spl_agree.specs.declared.event.OpenMove.TheVariants as move
use Rattle.spl_agree.specs.declared.event.Note.TheVariants as note

-- a note alone; a message to one position; one change
abbrev pub nothing : {V : Type 0} → Note → GroupPlan V
nothing n = record { note = n; changes = []; opening = move.Keep; sends = [] }

abbrev pub sends_one : {V : Type 0} → Note → ℕ → CommitMsg V → GroupPlan V
sends_one n to m = record { note = n; changes = []; opening = move.Keep; sends = (to, m) ∷ [] }

abbrev pub changes_one : {V : Type 0} → Note → GroupChange V → GroupPlan V
changes_one n c = record { note = n; changes = c ∷ []; opening = move.Keep; sends = [] }

-- one change, and a message to one position
abbrev pub both : {V : Type 0} → Note → GroupChange V → ℕ → CommitMsg V → GroupPlan V
both n c to m = record { note = n; changes = c ∷ []; opening = move.Keep; sends = (to, m) ∷ [] }

-- one message to each of these
abbrev pub to_each : {V : Type 0} → CommitMsg V → List ℕ → List (ℕ × CommitMsg V)
to_each m [] = []
to_each m (i ∷ is) = (i, m) ∷ to_each m is

-- to each of these an abort of the round, and after it what was refused
abbrev pub abort_each : {V : Type 0} → ℕ → ℕ → V → Reason → List ℕ → List (ℕ × CommitMsg V)
abort_each gen r v reason [] = []
abort_each gen r v reason (i ∷ is) = (i, msg.Decision gen r false) ∷ (i, msg.Refused gen v reason) ∷ abort_each gen r v reason is

-- a value of that key is known here with other content
abbrev pub other_value : Reason
other_value = ID_TAKEN

-- a member voted no
abbrev pub vote_no : Reason
vote_no = VOTED_NO

-- Tick at the coordinator
-- a round is open: the request goes again to those that have not voted yes
abbrev pub ask_again : {V : Type 0} → Group V → ℕ → Member V → ℕ × List ℕ → List V → GroupPlan V
ask_again g here m o [] = nothing note.Idle
ask_again g here m o (v ∷ vs) = record {
  note = note.Asked o.0;
  changes = [];
  opening = move.Keep;
  sends = to_each (msg.VoteRequest g.generation o.0 (length m.history) v) o.1;
}

abbrev pub refuse_first : {V : Type 0} → Group V → ℕ → V → Reason → GroupPlan V
refuse_first g here v reason = record {
  note = note.Refused reason;
  changes = change.Refuse v reason ∷ [];
  opening = move.Keep;
  sends = to_each (msg.Refused g.generation v reason) (others g here);
}

abbrev pub begin_at : {V : Type 0} → ℕ → List ℕ → ℕ → ℕ → V → GroupPlan V
begin_at gen all next place v = record {
  note = note.Begun next;
  changes = change.Begin next ∷ [];
  opening = move.Begin next;
  sends = to_each (msg.VoteRequest gen next place v) all;
}

abbrev pub judge_first : {V : Type 0} → Group V → ℕ → Member V → V → Option Reason → GroupPlan V
judge_first g here m v (Some reason) = refuse_first g here v reason
judge_first g here m v None = begin_at g.generation (others g here) m.next (length m.history) v

abbrev pub try_first : {V : Type 0} → Group V → ℕ → Member V → List V → GroupPlan V
try_first g here m [] = nothing note.Idle
try_first g here m (v ∷ vs) = judge_first g here m v (g.rules.check (values m.history) v)

abbrev pub coordinator_tick : {V : Type 0} → Group V → ℕ → Member V → Option (ℕ × List ℕ) → GroupPlan V
coordinator_tick g here m (Some o) = ask_again g here m o m.pending
coordinator_tick g here m None = if is_spent m then nothing note.Idle else try_first g here m m.pending

-- Tick at another member
abbrev pub forward_first : {V : Type 0} → Group V → List V → GroupPlan V
forward_first g [] = nothing note.Idle
forward_first g (v ∷ vs) = sends_one note.Forwarded g.coordinator (msg.Forward g.generation v)

abbrev pub member_tick : {V : Type 0} → Group V → Member V → Option (ℕ × V) → GroupPlan V
member_tick g m (Some p) = sends_one (note.Asked p.0) g.coordinator (msg.DecisionRequest g.generation p.0)
member_tick g m None = forward_first g m.pending

abbrev pub on_tick : {V : Type 0} → Group V → ℕ → Member V → GroupPlan V
on_tick g here m = if here == g.coordinator then coordinator_tick g here m m.opened else member_tick g m m.promise

-- Expire
abbrev pub expire_open : {V : Type 0} → Group V → ℕ → Option (ℕ × List ℕ) → GroupPlan V
expire_open g here None = nothing note.Idle
expire_open g here (Some o) = record {
  note = note.Expired o.0;
  changes = [];
  opening = move.Close;
  sends = to_each (msg.Decision g.generation o.0 false) (others g here);
}

abbrev pub on_expire : {V : Type 0} → Group V → ℕ → Member V → GroupPlan V
on_expire g here m = if here == g.coordinator then expire_open g here m.opened else nothing note.Idle

-- Submit
abbrev pub on_submit : {V : Type 0} → Group V → ℕ → V → GroupPlan V
on_submit g here v =
    if here == g.coordinator then changes_one note.Queued (change.Queue v)
    else both note.Queued (change.Queue v) g.coordinator (msg.Forward g.generation v)

-- VoteRequest
-- the place is the next one, there is one, and the check is good
abbrev pub fits_here : {V : Type 0} → Rules V → List (ℕ × V) → ℕ → V → Bool
fits_here rules history place v = place == length history && (nat_lt (length history) (2 ^ 32 - 1) && is_none (rules.check (values history) v))

-- where there is no promise
abbrev pub requested_free : {V : Type 0} → ℕ → List (ℕ × V) → ℕ → ℕ → ℕ → V → Bool → GroupPlan V
requested_free gen history seen sender r v fits =
    if nat_lt r seen then nothing note.Ignored
    else (if r == seen && has_round r history then nothing note.Ignored
    else (if r == seen then sends_one (note.Declined r) sender (msg.Vote gen r false)
    else (if fits then both (note.Promised r) (change.Promise r v) sender (msg.Vote gen r true)
    else both (note.Declined r) (change.Seen r) sender (msg.Vote gen r false))))

abbrev pub requested : {V : Type 0} → Group V → Member V → Option (ℕ × V) → ℕ → ℕ → ℕ → V → GroupPlan V
requested g m (Some p) sender r place v =
    if p.0 == r then sends_one (note.Again r) sender (msg.Vote g.generation r true)
    else sends_one (note.Asked p.0) sender (msg.DecisionRequest g.generation p.0)
requested g m None sender r place v = requested_free g.generation m.history m.seen sender r v (fits_here g.rules m.history place v)

abbrev pub on_vote_request : {V : Type 0} → Group V → Member V → ℕ → ℕ → ℕ → V → GroupPlan V
on_vote_request g m sender r place v =
    if sender == g.coordinator then requested g m m.promise sender r place v
    else sends_one (note.Declined r) sender (msg.Vote g.generation r false)

-- Vote
abbrev pub commit_open : {V : Type 0} → Group V → ℕ → ℕ → List V → GroupPlan V
commit_open g here r [] = nothing note.Ignored
commit_open g here r (v ∷ vs) = record {
  note = note.Committed r;
  changes = change.Commit r v ∷ [];
  opening = move.Close;
  sends = to_each (msg.Decision g.generation r true) (others g here);
}

abbrev pub abort_open : {V : Type 0} → Group V → ℕ → ℕ → List V → GroupPlan V
abort_open g here r [] = nothing note.Ignored
abort_open g here r (v ∷ vs) = record {
  note = note.Aborted r;
  changes = change.Refuse v vote_no ∷ [];
  opening = move.Close;
  sends = abort_each g.generation r v vote_no (others g here);
}

abbrev pub voted_yes : {V : Type 0} → Group V → ℕ → Member V → ℕ → ℕ → List ℕ → GroupPlan V
voted_yes g here m sender r missing =
    if has sender (others g here) && has sender missing
    then (if none_left (but sender missing)
    then commit_open g here r m.pending
    else record { note = note.Counted r; changes = []; opening = move.Yes sender; sends = [] })
    else nothing note.Ignored

abbrev pub voted_no : {V : Type 0} → Group V → ℕ → Member V → ℕ → ℕ → GroupPlan V
voted_no g here m sender r = if has sender (others g here) then abort_open g here r m.pending else nothing note.Ignored

abbrev pub counted_vote : {V : Type 0} → Group V → ℕ → Member V → ℕ → ℕ → List ℕ → Bool → GroupPlan V
counted_vote g here m sender r missing true = voted_yes g here m sender r missing
counted_vote g here m sender r missing false = voted_no g here m sender r

abbrev pub on_vote : {V : Type 0} → Group V → ℕ → Member V → Option (ℕ × List ℕ) → ℕ → ℕ → Bool → GroupPlan V
on_vote g here m None sender r aye = nothing note.Ignored
on_vote g here m (Some o) sender r aye = if here == g.coordinator && o.0 == r then counted_vote g here m sender r o.1 aye else nothing note.Ignored

-- Decision
abbrev pub decided : {V : Type 0} → Option (ℕ × V) → ℕ → Bool → GroupPlan V
decided None r commit = nothing note.Ignored
decided (Some p) r true = if p.0 == r then changes_one (note.Committed r) (change.Commit r p.1) else nothing note.Ignored
decided (Some p) r false = if p.0 == r then changes_one (note.Aborted r) change.Abort else nothing note.Ignored

abbrev pub on_decision : {V : Type 0} → Group V → Member V → ℕ → ℕ → Bool → GroupPlan V
on_decision g m sender r commit = if sender == g.coordinator then decided m.promise r commit else nothing note.Ignored

-- DecisionRequest
abbrev pub told : {V : Type 0} → ℕ → Option Bool → ℕ → ℕ → GroupPlan V
told gen None sender r = nothing note.Ignored
told gen (Some commit) sender r = sends_one (note.Told r commit) sender (msg.Decision gen r commit)

abbrev pub on_decision_request : {V : Type 0} → Group V → ℕ → Member V → ℕ → ℕ → GroupPlan V
on_decision_request g here m sender r =
    if here == g.coordinator && has sender (others g here) then told g.generation (decision m r) sender r else nothing note.Ignored

-- Forward
abbrev pub returns : {V : Type 0} → ℕ → ℕ → V → Reason → GroupPlan V
returns gen sender v reason = sends_one (note.Returned reason) sender (msg.Refused gen v reason)

abbrev pub forwarded_new : {V : Type 0} → Member V → V → GroupPlan V
forwarded_new m v = if length m.pending == MOST_PENDING then nothing note.Ignored else changes_one note.Queued (change.Queue v)

abbrev pub forwarded_refused : {V : Type 0} → Group V → Member V → ℕ → V → Option (V × Reason) → GroupPlan V
forwarded_refused g m sender v None = forwarded_new m v
forwarded_refused g m sender v (Some u) = if g.rules.same u.0 v then returns g.generation sender v u.1 else returns g.generation sender v other_value

-- where it is known in the history or pending
abbrev pub forwarded_held : {V : Type 0} → Group V → ℕ → V → V → GroupPlan V
forwarded_held g sender v u = if g.rules.same u v then nothing note.Ignored else returns g.generation sender v other_value

abbrev pub forwarded_pending : {V : Type 0} → Group V → Member V → ℕ → V → Option V → GroupPlan V
forwarded_pending g m sender v None = forwarded_refused g m sender v (found_refused (g.rules.same_key v) m.refused)
forwarded_pending g m sender v (Some u) = forwarded_held g sender v u

abbrev pub forwarded : {V : Type 0} → Group V → Member V → ℕ → V → Option V → GroupPlan V
forwarded g m sender v None = forwarded_pending g m sender v (found (g.rules.same_key v) m.pending)
forwarded g m sender v (Some u) = forwarded_held g sender v u

abbrev pub admitted : {V : Type 0} → Group V → Member V → ℕ → V → Admit → GroupPlan V
admitted g m sender v admit.Take = forwarded g m sender v (found (g.rules.same_key v) (values m.history))
admitted g m sender v admit.Ignore = nothing note.Ignored
admitted g m sender v (admit.Return reason) = returns g.generation sender v reason

abbrev pub strayed : {V : Type 0} → ℕ → ℕ → V → Option Reason → GroupPlan V
strayed gen sender v None = nothing note.Ignored
strayed gen sender v (Some reason) = returns gen sender v reason

abbrev pub on_forward : {V : Type 0} → Group V → ℕ → Member V → ℕ → V → GroupPlan V
on_forward g here m sender v =
    if here == g.coordinator
    then (if has sender (others g here) then admitted g m sender v (g.rules.admits sender v) else nothing note.Ignored)
    else strayed g.generation sender v (g.rules.stray v)

-- Refused
abbrev pub taken_back : {V : Type 0} → Rules V → Option V → V → Reason → GroupPlan V
taken_back rules None v reason = nothing note.Ignored
taken_back rules (Some u) v reason = if rules.same u v then changes_one (note.Refused reason) (change.Refuse v reason) else nothing note.Ignored

abbrev pub on_refused : {V : Type 0} → Group V → Member V → ℕ → V → Reason → GroupPlan V
on_refused g m sender v reason =
    if sender == g.coordinator then taken_back g.rules (found (g.rules.same_key v) m.pending) v reason else nothing note.Ignored

-- a message of the group's generation
abbrev pub on_message : {V : Type 0} → Group V → ℕ → Member V → ℕ → CommitMsg V → GroupPlan V
on_message g here m sender (msg.VoteRequest gen r place v) = on_vote_request g m sender r place v
on_message g here m sender (msg.Vote gen r aye) = on_vote g here m m.opened sender r aye
on_message g here m sender (msg.Decision gen r commit) = on_decision g m sender r commit
on_message g here m sender (msg.DecisionRequest gen r) = on_decision_request g here m sender r
on_message g here m sender (msg.Forward gen v) = on_forward g here m sender v
on_message g here m sender (msg.Refused gen v reason) = on_refused g m sender v reason

-- any event
abbrev pub row : {V : Type 0} → Group V → ℕ → Member V → GroupEvent V → GroupPlan V
row g here m event.Tick = on_tick g here m
row g here m event.Expire = on_expire g here m
row g here m (event.Submit v) = on_submit g here v
row g here m (event.From sender message) = on_message g here m sender message
