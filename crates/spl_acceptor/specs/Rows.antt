-- What each step does at a process: one definition per step and message, one case per line, tried from the top
-- (docs/RULES.md, Paxos Commit).
use Rattle.std.specs.Prelude.{ℕ, zero, suc, ◌+◌, ◌^◌, ◌%◌, Bool, true, false, not, ◌&&◌, ◌||◌, ◌==◌, nat_lt, List, [], ◌∷◌, ◌++◌, if◌then◌else◌, Option, Some}
use Rattle.std.specs.Prelude.{None, is_none, is_some}
use Rattle.spl_agree.specs.World.{put}
use Rattle.spl_acceptor.specs.{Quorums.{numbers, all_within, acceptors, has_quorum}, Processes.{Pair, Pairs, Acceptor, VotingMember, PaxosBallot, Leader}}
use Rattle.spl_acceptor.specs.{Records.{acceptor_with, member_with, leader_with, recorded_if_any}, declared.group.Group.Group}
use Rattle.spl_acceptor.specs.declared.kind.TheConstants.{MEMBER, ACCEPTOR, LEADER}
use Rattle.spl_acceptor.specs.declared.{message.{Acceptance.Acceptance, Name.Name, PaxosMsg.PaxosMsg, Pledge.Pledge}, note.PaxosNote.PaxosNote}
use Rattle.spl_acceptor.specs.declared.record.PaxosRecord.{PaxosRecord}
use Rattle.spl_acceptor.specs.declared.message.PaxosMsg.TheVariants as msg
use Rattle.spl_acceptor.specs.declared.note.PaxosNote.TheVariants as note
use Rattle.spl_acceptor.specs.declared.record.PaxosRecord.TheVariants as kept

-- what becomes of the volatile part
pub data Move : Type 0 where
  Keep : Move
  -- a member counts what was accepted
  Count : (x : Acceptance) → Move
  -- a leader opens a ballot, with no promise
  Begin : (ballot : ℕ) → Move
  -- a leader counts a promise of an acceptor
  Hear : (acceptor : ℕ) → (pairs : Pairs) → Move
  -- no ballot is open
  Close : Move

-- what a step gives: a note, at most one record, a move of the volatile part, and messages
pub record PaxosPlan : Type 0 where
  pub note : PaxosNote
  pub change : Option PaxosRecord
  pub move : Move
  pub sends : List (Name × PaxosMsg)

abbrev pub note_alone : PaxosNote → PaxosPlan
note_alone n = record { note = n; change = None; move = Keep; sends = [] }

-- ---- names

abbrev pub named : ℕ → ℕ → Name
named kind i = record { kind = kind; number = i }

abbrev pub member : ℕ → Name
member i = named MEMBER i

abbrev pub acceptor : ℕ → Name
acceptor a = named ACCEPTOR a

abbrev pub leader : ℕ → Name
leader l = named LEADER l

-- the number of the leader of a ballot above 0
abbrev pub leader_of : ℕ → ℕ
leader_of b = if b % 3 == 0 then 3 else b % 3

abbrev pub is_leader_of : ℕ → Name → Bool
is_leader_of b n = nat_lt 0 b && (n.kind == LEADER && n.number == leader_of b)

-- one message to each of these
abbrev pub to_each_process : (ℕ → Name) → PaxosMsg → List ℕ → List (Name × PaxosMsg)
to_each_process name m [] = []
to_each_process name m (i ∷ is) = (name i, m) ∷ to_each_process name m is

abbrev pub to_acceptors : Group → PaxosMsg → List (Name × PaxosMsg)
to_acceptors g m = to_each_process acceptor m (numbers (acceptors g.faults))

abbrev pub to_members : Group → PaxosMsg → List (Name × PaxosMsg)
to_members g m = to_each_process member m (numbers g.members)

-- ---- a member

-- a vote, where it has none
abbrev pub on_paxos_vote : Group → ℕ → ℕ → Bool → PaxosPlan
on_paxos_vote g here r aye = record {
  note = note.Voted;
  change = Some (kept.Voted r aye);
  move = Keep;
  sends = to_acceptors g (msg.Accept r here 0 aye);
}

abbrev pub same_bool : Bool → Bool → Bool
same_bool true q = q
same_bool false q = not q

-- that this acceptor accepted this
abbrev pub is_acceptance_by : ℕ → ℕ → ℕ → Bool → Acceptance → Bool
is_acceptance_by a i b p x = (x.acceptor == a) && ((x.member == i) && ((x.ballot == b) && same_bool x.prepared p))

-- one of the list passes a test
abbrev pub any_of : {A : Type 0} → (A → Bool) → List A → Bool
any_of test [] = false
any_of test (x ∷ xs) = test x || any_of test xs

abbrev pub has_accepted : List Acceptance → ℕ → ℕ → Bool → ℕ → Bool
has_accepted counted i b p a = any_of (is_acceptance_by a i b p) counted

-- F + 1 acceptors accepted this
abbrev pub is_chosen : Group → List Acceptance → ℕ → ℕ → Bool → Bool
is_chosen g counted i b p = has_quorum g.faults (has_accepted counted i b p)

-- the member has a ballot that F + 1 acceptors accepted with yes
abbrev pub is_prepared : Group → List Acceptance → ℕ → Bool
is_prepared g counted i = any_of (λ x. is_chosen g counted i x.ballot true) counted

abbrev pub decides : ℕ → PaxosNote → Bool → PaxosPlan
decides r n commit = record { note = n; change = Some (kept.Decided r commit); move = Keep; sends = [] }

abbrev pub counts : Acceptance → PaxosPlan
counts x = record { note = note.Counted; change = None; move = Count x; sends = [] }

-- with what it counted before, and with this too
abbrev pub on_accepted : Group → ℕ → Acceptance → List Acceptance → PaxosPlan
on_accepted g r x counted =
    if is_chosen g (x ∷ counted) x.member x.ballot false then decides r note.Abort false
    else (if all_within g.members (is_prepared g (x ∷ counted)) then decides r note.Commit true
    else (if has_accepted counted x.member x.ballot x.prepared x.acceptor then note_alone note.Ignored
    else counts x))

abbrev pub member_row : Group → VotingMember → Name → PaxosMsg → PaxosPlan
member_row g m from (msg.Accepted r i b p) =
    if is_some m.decision then note_alone note.Ignored
    else on_accepted g r (record { acceptor = from.number; member = i; ballot = b; prepared = p }) m.counted
member_row g m from (msg.Ask r b) = note_alone note.Ignored
member_row g m from (msg.Accept r i b p) = note_alone note.Ignored
member_row g m from (msg.Promise r b pairs) = note_alone note.Ignored
member_row g m from (msg.Higher r b) = note_alone note.Ignored

-- ---- an acceptor

abbrev pub pledge_of : ℕ → Option Pair → List Pledge
pledge_of i None = []
pledge_of i (Some x) = record { member = i; ballot = x.0; prepared = x.1 } ∷ []

-- the accepted pairs of the members from 1 to n, in order
abbrev pub pledges : ℕ → Pairs → List Pledge
pledges zero pairs = []
pledges (suc n) pairs = pledges n pairs ++ pledge_of (suc n) (pairs (suc n))

-- promised is b, whatever it was
abbrev pub promises : Group → Acceptor → Name → ℕ → ℕ → PaxosPlan
promises g a from r b = record {
  note = note.Promised b;
  change = if a.promised == b then None else Some (kept.Promised r b);
  move = Keep;
  sends = (from, msg.Promise r b (pledges g.members a.accepted)) ∷ [];
}

abbrev pub decline_plan : Acceptor → Name → ℕ → PaxosPlan
decline_plan a from r = record { note = note.Higher a.promised; change = None; move = Keep; sends = (from, msg.Higher r a.promised) ∷ [] }

abbrev pub on_ask : Group → Acceptor → Name → ℕ → ℕ → PaxosPlan
on_ask g a from r b =
    if is_leader_of b from then (if nat_lt b a.promised then decline_plan a from r else promises g a from r b)
    else note_alone note.Ignored

-- the pair is this one
abbrev pub is_pair : ℕ → Bool → Option Pair → Bool
is_pair b p None = false
is_pair b p (Some x) = x.0 == b && same_bool x.1 p

-- promised is b and the pair of i is (b, p), whatever they were
abbrev pub accept_plan : Group → Acceptor → ℕ → ℕ → ℕ → Bool → PaxosPlan
accept_plan g a r i b p = record {
  note = note.Accepted;
  change = if a.promised == b && is_pair b p (a.accepted i) then None else Some (kept.Accepted r i b p);
  move = Keep;
  sends = to_members g (msg.Accepted r i b p);
}

-- member i in ballot 0, and the leader of the ballot above
abbrev pub may_order : ℕ → ℕ → Name → Bool
may_order i b n = (b == 0 && (n.kind == MEMBER && n.number == i)) || is_leader_of b n

abbrev pub on_accept : Group → Acceptor → Name → ℕ → ℕ → ℕ → Bool → PaxosPlan
on_accept g a from r i b p = if may_order i b from && not (nat_lt b a.promised) then accept_plan g a r i b p else note_alone note.Ignored

abbrev pub acceptor_row : Group → Acceptor → Name → PaxosMsg → PaxosPlan
acceptor_row g a from (msg.Ask r b) = on_ask g a from r b
acceptor_row g a from (msg.Accept r i b p) = on_accept g a from r i b p
acceptor_row g a from (msg.Promise r b pairs) = note_alone note.Ignored
acceptor_row g a from (msg.Higher r b) = note_alone note.Ignored
acceptor_row g a from (msg.Accepted r i b p) = note_alone note.Ignored

-- ---- a leader

-- the least number above this one that is the leader's
abbrev pub next_ballot : ℕ → ℕ → ℕ
next_ballot here used = if leader_of (used + 1) == here then used + 1 else (if leader_of (used + 2) == here then used + 2 else used + 3)

abbrev pub begin_plan : Group → ℕ → ℕ → PaxosPlan
begin_plan g r b = record { note = note.Ballot b; change = Some (kept.Used r b); move = Begin b; sends = to_acceptors g (msg.Ask r b) }

abbrev pub on_lead : Group → ℕ → Leader → ℕ → PaxosPlan
on_lead g here l r = if nat_lt (next_ballot here l.used) (2 ^ 64) then begin_plan g r (next_ballot here l.used) else note_alone note.Spent

-- the pair of a member among pledges
abbrev pub pair_among : List Pledge → Pairs
pair_among [] i = None
pair_among (x ∷ xs) i = if x.member == i then Some (x.ballot, x.prepared) else pair_among xs i

-- the pair of the greater ballot
abbrev pub greater : Option Pair → Option Pair → Option Pair
greater None y = y
greater (Some x) None = Some x
greater (Some x) (Some y) = if nat_lt x.0 y.0 then Some y else Some x

abbrev pub pair_in : Option Pairs → ℕ → Option Pair
pair_in None i = None
pair_in (Some pairs) i = pairs i

-- the greatest ballot's pair of a member, among the promises of the acceptors from 1 to n
abbrev pub greatest : ℕ → (ℕ → Option Pairs) → ℕ → Option Pair
greatest zero heard i = None
greatest (suc n) heard i = greater (greatest n heard i) (pair_in (heard (suc n)) i)

-- no where there is none
abbrev pub prepared_of : Option Pair → Bool
prepared_of None = false
prepared_of (Some x) = x.1

abbrev pub choice : Group → (ℕ → Option Pairs) → ℕ → Bool
choice g heard i = prepared_of (greatest (acceptors g.faults) heard i)

-- for each of these members, in order, what is chosen, to all acceptors
abbrev pub orders : Group → ℕ → ℕ → (ℕ → Bool) → List ℕ → List (Name × PaxosMsg)
orders g r b chosen [] = []
orders g r b chosen (i ∷ is) = to_acceptors g (msg.Accept r i b (chosen i)) ++ orders g r b chosen is

-- these promises are counted, the last of them now
abbrev pub counts_promise : Group → ℕ → ℕ → ℕ → Pairs → (ℕ → Option Pairs) → PaxosPlan
counts_promise g r b a pairs heard =
    if has_quorum g.faults (λ c. is_some (heard c))
    then record { note = note.Sent b; change = None; move = Close; sends = orders g r b (choice g heard) (numbers g.members) }
    else record { note = note.Counted; change = None; move = Hear a pairs; sends = [] }

abbrev pub on_promise : Group → Option PaxosBallot → ℕ → ℕ → ℕ → Pairs → PaxosPlan
on_promise g None r a b pairs = note_alone note.Ignored
on_promise g (Some o) r a b pairs =
    if o.number == b && is_none (o.promises a) then counts_promise g r b a pairs (put o.promises a (Some pairs))
    else note_alone note.Ignored

abbrev pub on_higher : Leader → ℕ → ℕ → PaxosPlan
on_higher l r b =
    if nat_lt l.used b then record { note = note.Noted b; change = Some (kept.Used r b); move = Keep; sends = [] }
    else note_alone note.Ignored

abbrev pub leader_row : Group → Leader → Name → PaxosMsg → PaxosPlan
leader_row g l from (msg.Promise r b pairs) = on_promise g l.opened r from.number b (pair_among pairs)
leader_row g l from (msg.Higher r b) = on_higher l r b
leader_row g l from (msg.Ask r b) = note_alone note.Ignored
leader_row g l from (msg.Accept r i b p) = note_alone note.Ignored
leader_row g l from (msg.Accepted r i b p) = note_alone note.Ignored

-- ---- what a plan leaves

abbrev pub acceptor_changed : Acceptor → Option PaxosRecord → Acceptor
acceptor_changed a o = recorded_if_any acceptor_with a o

abbrev pub member_changed : VotingMember → Option PaxosRecord → VotingMember
member_changed m o = recorded_if_any member_with m o

abbrev pub member_moved : VotingMember → Move → VotingMember
member_moved m (Count x) = record { vote = m.vote; decision = m.decision; counted = x ∷ m.counted }
member_moved m Keep = m
member_moved m (Begin b) = m
member_moved m (Hear a pairs) = m
member_moved m Close = m

abbrev pub leader_changed : Leader → Option PaxosRecord → Leader
leader_changed l o = recorded_if_any leader_with l o

abbrev pub with_promise : Option PaxosBallot → ℕ → Pairs → Option PaxosBallot
with_promise None a pairs = None
with_promise (Some o) a pairs = Some (record { number = o.number; promises = put o.promises a (Some pairs) })

abbrev pub leader_moved : Leader → Move → Leader
leader_moved l (Begin b) = record { used = l.used; opened = Some (record { number = b; promises = λ a. None }) }
leader_moved l (Hear a pairs) = record { used = l.used; opened = with_promise l.opened a pairs }
leader_moved l Close = record { used = l.used; opened = None }
leader_moved l Keep = l
leader_moved l (Count x) = l

abbrev pub acceptor_after : Acceptor → PaxosPlan → Acceptor
acceptor_after a p = acceptor_changed a p.change

abbrev pub member_after : VotingMember → PaxosPlan → VotingMember
member_after m p = member_moved (member_changed m p.change) p.move

abbrev pub leader_after : Leader → PaxosPlan → Leader
leader_after l p = leader_moved (leader_changed l p.change) p.move

-- a plan is carried out in its round, and the other rounds stay
abbrev pub round_carried_out : {S : Type 0} → (S → PaxosPlan → S) → (ℕ → S) → ℕ → PaxosPlan → ℕ → S
round_carried_out after states here p = put states here (after (states here) p)
