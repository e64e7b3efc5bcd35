-- The processes of a run by their places: its members, then its acceptors, then its leaders. Each has the first disk of the pair
-- at its place (docs/RULES.md, Paxos Commit).
use Rattle.std.specs.{Prelude.{◌≡◌, ◌<◌, ◌+◌, ◌-◌, ◌==◌, ℕ, Bool, nat_lt, List, [], ◌∷◌, Some, slice_get, if◌then◌else◌}, List.list_all}
use Rattle.spl_edge.specs.Devices.{DiskView, PairView}
use Rattle.spl_acceptor.specs.{Quorums.acceptors, Rows.{member, acceptor, leader}, Worlds.has_name, declared.{group.Group.Group, kind.TheConstants.MEMBER}}
use Rattle.spl_acceptor.specs.declared.{kind.TheConstants.ACCEPTOR, message.Name.Name}
use Rattle.spl_paxos.specs.declared.line.PaxosLine.{PaxosLine}
use Rattle.spl_paxos.specs.declared.line.PaxosLine.TheVariants as line

-- how many there are
abbrev pub process_count : Group → ℕ
process_count g = g.members + acceptors g.faults + 3

-- the place of a process
abbrev pub process_place : Group → Name → ℕ
process_place g n = if n.kind == MEMBER then n.number - 1
    else (if n.kind == ACCEPTOR then g.members + n.number - 1 else g.members + acceptors g.faults + n.number - 1)

-- the process at a place
abbrev pub name_at : Group → ℕ → Name
name_at g k = if nat_lt k g.members then member (k + 1)
    else (if nat_lt k (g.members + acceptors g.faults) then acceptor (k + 1 - g.members) else leader (k + 1 - (g.members + acceptors g.faults)))

-- this holds of each process and its disk, as it was at the start and as it is
abbrev pub EachDisk : (Name → DiskView → DiskView → Type 0) → Group → List PairView → List PairView → Type 0
EachDisk P g start now =
    (k : ℕ) (s p : PairView) → k < process_count g → slice_get start k ≡ Some s → slice_get now k ≡ Some p → P (name_at g k) s.first p.first

-- ---- lines

-- the processes that a line names
abbrev pub names_of : PaxosLine → List Name
names_of (line.Vote i r aye) = member i ∷ []
names_of (line.Lead l r) = leader l ∷ []
names_of (line.Deliver from to k) = from ∷ to ∷ []
names_of (line.Show i r) = member i ∷ []
names_of (line.Stop n) = n ∷ []
names_of (line.Start n) = n ∷ []

-- a line names no other processes than the run's
abbrev pub has_line_names : Group → PaxosLine → Bool
has_line_names g l = list_all (has_name g) (names_of l)
