-- What each record does to what a process keeps of its round (docs/RULES.md, Paxos Commit).
use Rattle.std.specs.Prelude.{◌≡◌, ℕ, Bool, true, ◌==◌, ◌&&◌, nat_lt, nat_le, List, [], ◌∷◌, Option, Some, None, if◌then◌else◌}
use Rattle.spl_agree.specs.World.{put}
use Rattle.spl_acceptor.specs.Processes.{Acceptor, VotingMember, Leader, new_acceptor, new_paxos_member, new_leader, stopped_member, stopped_leader}
use Rattle.spl_acceptor.specs.declared.record.PaxosRecord.{PaxosRecord}
use Rattle.spl_acceptor.specs.declared.record.PaxosRecord.TheVariants as kept

abbrev pub round_kept : PaxosRecord → ℕ
round_kept (kept.Promised r b) = r
round_kept (kept.Accepted r i b p) = r
round_kept (kept.Voted r aye) = r
round_kept (kept.Used r b) = r
round_kept (kept.Decided r commit) = r

-- at an acceptor; what was accepted was promised too
abbrev pub acceptor_with : Acceptor → PaxosRecord → Acceptor
acceptor_with a (kept.Promised r b) = record { promised = b; accepted = a.accepted }
acceptor_with a (kept.Accepted r i b p) = record { promised = b; accepted = put a.accepted i (Some (b, p)) }
acceptor_with a (kept.Voted r aye) = a
acceptor_with a (kept.Used r b) = a
acceptor_with a (kept.Decided r commit) = a

-- at a member
abbrev pub member_with : VotingMember → PaxosRecord → VotingMember
member_with m (kept.Voted r aye) = record { vote = Some aye; decision = m.decision; counted = m.counted }
member_with m (kept.Decided r commit) = record { vote = m.vote; decision = Some commit; counted = m.counted }
member_with m (kept.Promised r b) = m
member_with m (kept.Accepted r i b p) = m
member_with m (kept.Used r b) = m

-- at a leader
abbrev pub leader_with : Leader → PaxosRecord → Leader
leader_with l (kept.Used r b) = record { used = b; opened = l.opened }
leader_with l (kept.Promised r b) = l
leader_with l (kept.Accepted r i b p) = l
leader_with l (kept.Voted r aye) = l
leader_with l (kept.Decided r commit) = l

-- what the records of a round make of what there was, the first one first
abbrev pub recorded : {S : Type 0} → (S → PaxosRecord → S) → ℕ → S → List PaxosRecord → S
recorded with r s [] = s
recorded with r s (x ∷ xs) = recorded with r (if round_kept x == r then with s x else s) xs

-- this is made of it in one round, and every other round is as it was
abbrev pub IsChangedAt : {S : Type 0} → (ℕ → S) → ℕ → (S → S) → (ℕ → S) → Type 0
IsChangedAt old here made new = (r : ℕ) → new r ≡ (if here == r then made (old r) else old r)

-- what a record changes, where there is one
abbrev pub recorded_if_any : {S : Type 0} → (S → PaxosRecord → S) → S → Option PaxosRecord → S
recorded_if_any with s None = s
recorded_if_any with s (Some x) = with s x

-- what the records of a journal make, by round
abbrev pub acceptor_of : List PaxosRecord → ℕ → Acceptor
acceptor_of xs r = recorded acceptor_with r new_acceptor xs

abbrev pub member_of : List PaxosRecord → ℕ → VotingMember
member_of xs r = recorded member_with r new_paxos_member xs

abbrev pub leader_of_records : List PaxosRecord → ℕ → Leader
leader_of_records xs r = recorded leader_with r new_leader xs

-- ---- the records of so many members

-- what was accepted of a member is theirs if it is one of them
abbrev pub is_own : ℕ → PaxosRecord → Bool
is_own n (kept.Accepted r i b p) = nat_lt 0 i && nat_le i n
is_own n (kept.Promised r b) = true
is_own n (kept.Voted r aye) = true
is_own n (kept.Used r b) = true
is_own n (kept.Decided r commit) = true

abbrev pub own_records : ℕ → List PaxosRecord → List PaxosRecord
own_records n [] = []
own_records n (x ∷ xs) = if is_own n x then x ∷ own_records n xs else own_records n xs

-- of what there was first, these records make this by rounds
abbrev pub MakeRounds : {S : Type 0} → (S → PaxosRecord → S) → S → ℕ → (ℕ → S) → List PaxosRecord → Type 0
MakeRounds with first n states xs = (r : ℕ) → recorded with r first (own_records n xs) ≡ states r

-- they make it, except what a stop forgets
abbrev pub MakeDurable : {S : Type 0} → (S → PaxosRecord → S) → (S → S) → S → ℕ → (ℕ → S) → List PaxosRecord → Type 0
MakeDurable with stopped first n states xs = MakeRounds with first n (λ r. stopped (states r)) xs

-- what an acceptor keeps; a stop forgets nothing of it
abbrev pub MakeAcceptor : ℕ → (ℕ → Acceptor) → List PaxosRecord → Type 0
MakeAcceptor n states xs = MakeDurable acceptor_with (λ a. a) new_acceptor n states xs

-- what a member or a leader keeps
abbrev pub MakeMember : ℕ → (ℕ → VotingMember) → List PaxosRecord → Type 0
MakeMember n states xs = MakeDurable member_with stopped_member new_paxos_member n states xs

abbrev pub MakeLeader : ℕ → (ℕ → Leader) → List PaxosRecord → Type 0
MakeLeader n states xs = MakeDurable leader_with stopped_leader new_leader n states xs
