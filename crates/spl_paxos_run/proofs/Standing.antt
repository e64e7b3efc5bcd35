-- The disks after lines that ran, and after one more.
use Rattle.std.{specs.Prelude.{slice_get, IsSomeAnd, Ok, Err}, proofs.Common.{◌≡◌, ◌∙◌, ◌<◌, inl, ⊎_elim, ℕ, List, [], ◌∷◌, ◌++◌, Option, None, Some, sym}}
use Rattle.std.proofs.{Common.{ap, subst, arith}, lemmas.Bool.cases_eq}
use Rattle.spl_edge.specs.Devices.{Image, PairView, image_now}
use Rattle.spl_acceptor.specs.{Logs.JournalMakes, Worlds.{Happening, PaxosCommitWorld, paxos_world_after}, declared.{group.Group.Group, message.Name.Name}}
use Rattle.spl_paxos.specs.declared.line.PaxosLine.{PaxosLine}
use Rattle.spl_paxos_run.specs.{Places.{EachDisk, name_at, process_count}, States.{MakeStates, states_in}, Steps.HoldsEither, Wholes.{AreSeated, AreSpared}}
use Rattle.spl_paxos_run.specs.{Wholes.{ChangesFirst, HasFallen, ProcessHasPicked, HoldsAfter, WorldStands, group_of}, Run.{PaxosEnded, IsDiskLeft, Left}}
use Rattle.spl_paxos_run.{specs.{Schedule.happenings, declared.world.PaxosWorld.PaxosWorld}, proofs.{Lifting.{get_below, same_item}, Seated.get_at}}
use Rattle.spl_paxos_run.proofs.Seated.{seat_holds}
use Rattle.spl_paxos_run.specs.declared.fault.PaxosFault.TheVariants as fault

-- ---- what the disks hold

-- each disk is left as the lines say
pub are_left : (g : Group) (es : List Happening) (start now : List PairView) (world : PaxosWorld) → group_of world ≡ g → WorldStands es world now
    → EachDisk (ProcessHasPicked g es) g start now → EachDisk (IsDiskLeft g es) g start now
are_left g es start now world group stands picked k s p below at there =
    let seated : AreSeated g (paxos_world_after g es) world.seats.items now =
    subst (λ (h : Group). AreSeated h (paxos_world_after h es) world.seats.items now) group stands.seats in
    let seat = get_at world.seats.items k (omega (arith, below, seated.as_many)) in
    record {
      held = subst (λ (n : Name). HoldsAfter g es n p.first) (seated.names k seat.0 seat.1)
          (seat_holds g (paxos_world_after g es) seat.0.name seat.0.process (image_now p.first) (seated.each k seat.0 p seat.1 there));
      picked = picked k s p below at there;
    }

held_first : (g : Group) (n : Name) (w v : PaxosCommitWorld) (o : Option Image)
    → IsSomeAnd o (λ i. JournalMakes (MakeStates g.members (states_in w n)) i.bytes) → HoldsEither g n w v o
held_first g n w v None h = absurd h
held_first g n w v (Some i) h = inl h

-- so a line that changes nothing leaves it
pub left_fallen : (g : Group) (es : List Happening) (e : Happening) (start now : List PairView) → EachDisk (IsDiskLeft g es) g start now
    → EachDisk (HasFallen g es e) g start now
left_fallen g es e start now left k s p below at there =
    let h : IsDiskLeft g es (name_at g k) s.first p.first = left k s p below at there in
    record {
      held = held_first g (name_at g k) (paxos_world_after g es) (paxos_world_after g (es ++ e ∷ [])) (image_now p.first) h.held;
      picked = inl h.picked;
    }

-- a run that ended after these lines
pub left_after : (e : PaxosEnded) (g : Group) (ls : List (ℕ × PaxosLine)) (start now : List PairView) → EachDisk (IsDiskLeft g (happenings ls)) g start now
    → Left e g ls [] start now
left_after (Ok e) g ls start now left = left
left_after (Err (fault.BadLine n)) g ls start now left = left
left_after (Err (fault.TooMany which)) g ls start now left = left
left_after (Err (fault.Disk n)) g ls start now left = left
left_after (Err fault.Write) g ls start now left = left
left_after (Err fault.NoMemory) g ls start now left = left

-- ---- what no process has

-- a line changes first disks of processes alone
pub spared_more : (g : Group) (start old new : List PairView) → AreSpared g start old → (k : ℕ) × (k < process_count g) × ChangesFirst k old new
    → AreSpared g start new
spared_more g start old new spared (k, low, changes) = record {
  as_many = changes.as_many ∙ spared.as_many;
  others = λ i h. changes.others i (λ is. (let none : ⊥ = omega (arith, is, h, low) in none)) ∙ spared.others i h;
  second = second;
}
  where
    second : (i : ℕ) (p q : PairView) → slice_get start i ≡ Some p → slice_get new i ≡ Some q → q.second ≡ p.second
    second i p q at there =
        let mid = get_at old i (omega (arith, get_below start i p at, spared.as_many)) in
        let before : mid.0.second ≡ p.second = spared.second i p mid.0 at mid.1 in
        ⊎_elim
        (λ (is : i ≡ k). changes.second mid.0 q (subst (λ (j : ℕ). slice_get old j ≡ Some mid.0) is mid.1)
        (subst (λ (j : ℕ). slice_get new j ≡ Some q) is there) ∙ before)
        (λ other. (let same : q ≡ mid.0 = same_item old i q mid.0 (sym (changes.others i other) ∙ there) mid.1 in ap (λ (z : PairView). z.second) same
        ∙ before))
        (cases_eq i k)
