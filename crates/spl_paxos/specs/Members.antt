-- What a member keeps, as the code has it (docs/RULES.md, Paxos Commit).
use Rattle.std.specs.{Prelude.{ℕ, ◌==◌, ◌&&◌, Bool, true, List, [], Option, Some, None, Vec}, Ordering.nat_cmp, BTreeMap.is_at, Map.lookup}
use Rattle.std.specs.declared.alloc.Global.{Global}
use Rattle.spl_acceptor.specs.{Processes.VotingMember, Rows.{is_chosen, same_bool}, declared.{group.Group.Group, message.Acceptance.Acceptance}}
use Rattle.spl_paxos.specs.declared.{kept.Kept.Kept, member_rounds.MemberRounds.MemberRounds}

-- what is durable of a round, with nothing counted
abbrev pub member_of_kept : Kept → VotingMember
member_of_kept k = record { vote = k.vote; decision = k.decision; counted = [] }

-- nothing is kept of a round that isn't found
abbrev pub kept_or_new : Option Kept → Kept
kept_or_new None = record { vote = None; decision = None }
kept_or_new (Some k) = k

abbrev pub counted_or_none : Option (Vec Acceptance Global) → List Acceptance
counted_or_none None = []
counted_or_none (Some v) = v.items

-- what is found of a round in both parts
abbrev pub member_found : Option Kept → Option (Vec Acceptance Global) → VotingMember
member_found kept counted = record { vote = (kept_or_new kept).vote; decision = (kept_or_new kept).decision; counted = counted_or_none counted }

-- what a member keeps of a round, and what it counted
abbrev pub member_in : MemberRounds → ℕ → VotingMember
member_in m r = member_found (lookup (is_at (nat_cmp r)) m.kept.entries) (lookup (is_at (nat_cmp r)) m.counted.entries)

-- an acceptance says this, of whichever acceptor
abbrev pub is_acceptance_of : ℕ → ℕ → Bool → Acceptance → Bool
is_acceptance_of i b p x = (x.member == i) && ((x.ballot == b) && same_bool x.prepared p)

-- an acceptance is of the member, with yes, at a ballot that F + 1 acceptors accepted so
abbrev pub has_ballot : Group → List Acceptance → ℕ → Acceptance → Bool
has_ballot g counted i x = (x.member == i) && (x.prepared && is_chosen g counted i x.ballot true)
