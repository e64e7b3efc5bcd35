-- A member at its seat.
use Rattle.std.proofs.Common.{◌≡◌, ℕ, sym, ap, subst, ◌∙◌}
use Rattle.spl_agree.specs.{Member.{Rules, Group, Member, new_member, moved}, Rows.row, Fits.{IsSettled, IsDue, FitsMove}}
use Rattle.spl_agree.specs.declared.event.{GroupEvent.GroupEvent, OpenMove.OpenMove}
use Rattle.spl_commit.specs.Views.{MemberView, IsFixed, group_by}
use Rattle.spl_cell.specs.{Lanes.{LaneKind, lane_at, IsDueAt, row_at}, Views.{HeldView, IsSeated}}

abbrev group_of : {V : Type 0} → Rules V → ℕ → ℕ → ℕ → Group V
group_of rules g n k = record { rules = rules; generation = g; members = n; coordinator = k }

same_group : {V : Type 0} (rules : Rules V) (g h n m k l : ℕ) → g ≡ h → n ≡ m → k ≡ l → group_of rules g n k ≡ group_of rules h m l
same_group rules g h n m k l a b c = cc

-- the group that a member is in is that of its seat
pub group_here : {C V : Type 0} (g : Group V) (at : ℕ) (m : MemberView C V) → IsSeated g at m → group_by g.rules m ≡ g
group_here g at m s = same_group g.rules m.generation g.generation m.members g.members m.coordinator g.coordinator s.generation s.members s.coordinator

-- no round is open in a new member
pub settled_new : {V : Type 0} (g : Group V) (at : ℕ) → IsSettled g at new_member
settled_new g at o e = cc

-- a member at its seat, in the group by the rules of its content, stands as what it keeps stands in the group of the seat
module _ {C V : Type 0} (g : Group V) (at : ℕ) (m : MemberView C V) (rules : Rules V) (s : Member V) (same : rules ≡ g.rules) (is : m.state ≡ s)
    (seat : IsSeated g at m) where
  here_is : group_by rules m ≡ g
  here_is = ap (λ (r : Rules V). group_by r m) same ∙ group_here g at m seat

  stands : (P : Group V → ℕ → Member V → Type 0) → P g at s → P (group_by rules m) m.here m.state
  stands P h =
      subst (λ (k : Group V). P k m.here m.state) (sym here_is)
      (subst (λ (p : ℕ). P g p m.state) (sym seat.here) (subst (λ (s : Member V). P g at s) (sym is) h))

  pub seat_settled : IsSettled g at s → IsSettled (group_by rules m) m.here m.state
  seat_settled h = stands (λ k p s. IsSettled k p s) h

  pub seat_due : (e : GroupEvent V) → IsDue g at s e → IsDue (group_by rules m) m.here m.state e
  seat_due e h = stands (λ k p s. IsDue k p s e) h

  pub seat_row : (e : GroupEvent V) → row (group_by rules m) m.here m.state e ≡ row g at s e
  seat_row e = ap (λ (k : Group V). row k m.here m.state e) here_is ∙ ap (λ (p : ℕ). row g p m.state e) seat.here ∙ ap (λ (s : Member V). row g at s e) is

-- the node's member of a lane of a bound cell
module _ {C V : Type 0} (kind : LaneKind V) (m : MemberView C V) (rules : Rules V) (h k : HeldView) (same : h ≡ k) (state : m.state ≡ kind.kept h.bound)
    (ruled : rules ≡ kind.rules h.bound.definition) (seated : IsSeated (lane_at kind h).group (lane_at kind h).here m) where
  abbrev Facts : HeldView → Type 0
  Facts z = (m.state ≡ kind.kept z.bound) × (rules ≡ kind.rules z.bound.definition) × IsSeated (lane_at kind z).group (lane_at kind z).here m

  facts : Facts k
  facts = subst Facts same (state, ruled, seated)

  pub lane_settled : IsSettled (lane_at kind k).group (lane_at kind k).here (kind.kept k.bound) → IsSettled (group_by rules m) m.here m.state
  lane_settled i = seat_settled (lane_at kind k).group (lane_at kind k).here m rules (kind.kept k.bound) facts.1 facts.0 facts.2 i

  pub lane_due : (e : GroupEvent V) → IsDueAt kind k e → IsDue (group_by rules m) m.here m.state e
  lane_due e d = seat_due (lane_at kind k).group (lane_at kind k).here m rules (kind.kept k.bound) facts.1 facts.0 facts.2 e d

  pub lane_row : (e : GroupEvent V) → row (group_by rules m) m.here m.state e ≡ row_at kind k e
  lane_row e = seat_row (lane_at kind k).group (lane_at kind k).here m rules (kind.kept k.bound) facts.1 facts.0 facts.2 e

-- a move that fits, and what it leaves
pub move_seat : {C V : Type 0} (g : Group V) (at : ℕ) (m : MemberView C V) (x : OpenMove) → IsSeated g at m → FitsMove g at m.state x
    → FitsMove (group_by g.rules m) m.here m.state x
move_seat {C} {V} g at m x s h =
    subst (λ (p : ℕ). FitsMove (group_by g.rules m) p m.state x) (sym s.here) (subst (λ (k : Group V). FitsMove k at m.state x) (sym (group_here g at m s)) h)

pub moved_seat : {C V : Type 0} (g : Group V) (at : ℕ) (m : MemberView C V) (x : OpenMove) → IsSeated g at m
    → moved (group_by g.rules m) m.here m.state x ≡ moved g at m.state x
moved_seat g at m x s = ap (λ k. moved k m.here m.state x) (group_here g at m s) ∙ ap (λ p. moved g p m.state x) s.here

pub ruleset move_facts = (move_seat, moved_seat)

-- what keeps its place keeps its seat
pub seat_stays : {C V : Type 0} (g : Group V) (at : ℕ) (old new : MemberView C V) → IsSeated g at old → IsFixed old new → IsSeated g at new
seat_stays g at old new s f = record {
  generation = f.generation ∙ s.generation;
  members = f.members ∙ s.members;
  coordinator = f.coordinator ∙ s.coordinator;
  here = f.here ∙ s.here;
}
