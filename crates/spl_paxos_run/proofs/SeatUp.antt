-- A process that is up in some world.
use Rattle.std.{specs.Prelude.{IsSomeAnd, is_some, is_none, true}, proofs.Common.{◌≡◌, ℕ, false, Option, Some, None, IfSome, refl, sym, ◌∙◌, ap}}
use Rattle.spl_edge.specs.Devices.{Image}
use Rattle.spl_acceptor.specs.{Worlds.PaxosCommitWorld, declared.{group.Group.Group, kind.TheConstants.{MEMBER, LEADER}, message.Name.Name}}
use Rattle.spl_paxos_run.specs.{Seats.{IsProcessUp, IsProcessSeated}, States.{States, member_state, kind_of, states_of, ProcessStands, IsOfRun}}
use Rattle.spl_paxos_run.{specs.declared.{process.Process.Process, seat.Seat.Seat}, proofs.{Answering.is_up, Moves.leads, Processes.member_states}}

some_holds : (o : Option Image) (P : Image → Type 0) → IsSomeAnd o P → IfSome o P
some_holds None P h = tt
some_holds (Some i) P h = h

module _ (g : Group) (w : PaxosCommitWorld) (n : Name) (p : Process) (o : Option Image) (up : IsProcessUp g w n p o) where
  pub up_stands : IfSome o (ProcessStands p)
  up_stands = some_holds o (ProcessStands p) up.disk

  pub member_kind : n.kind ≡ MEMBER → kind_of (states_of p) ≡ MEMBER
  member_kind is = ap kind_of (up.states ∙ member_states w n is)

  pub leader_kind : n.kind ≡ LEADER → kind_of (states_of p) ≡ LEADER
  leader_kind is = ap kind_of (up.states ∙ leads w n is)

  pub member_keeps : (r : ℕ) → n.kind ≡ MEMBER → member_state (states_of p) r ≡ w.member n.number r
  member_keeps r is = ap (λ (s : States). member_state s r) (up.states ∙ member_states w n is)

-- a seat whose process is this stands as it in some world
pub seated_up : (s : Seat) (p : Process) (o : Option Image) → IsProcessSeated s o → s.process ≡ Some p
    → (g : Group) × (w : PaxosCommitWorld) × IsProcessUp g w s.name p o
seated_up s p o seated is = (seated.0, seated.1, is_up seated.0 seated.1 s.name s.process p o is seated.2)

-- two runs of a process have as many members
pub same_run : (g h : Group) (i j : ℕ) (p : Process) → IsOfRun g i p → IsOfRun h j p → g.members ≡ h.members
same_run g h i j p a b = ap (λ (z : Group). z.members) (sym a.0 ∙ b.0)

pub none_of : {A : Type 0} (o : Option A) → is_some o ≡ false → o ≡ None
none_of None h = refl
none_of (Some x) h = cc

pub some_none : {A : Type 0} (o : Option A) → is_some o ≡ true → is_none o ≡ false
some_none None h = cc
some_none (Some x) h = refl

pub is_there : (o : Option Process) → is_none o ≡ false → (p : Process) × (o ≡ Some p)
is_there None h = cc
is_there (Some p) h = (p, refl)
