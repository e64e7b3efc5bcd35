-- The processes of a run of Paxos Commit: their names, and their disks before and after it.
use Rattle.std.{specs.Prelude.{◌==◌, IsTrue}, proofs.Common.{◌≡◌, ◌⊎◌, ⊎_elim, inl, inr, ℕ, ◌<◌, ◌≤◌, true, ◌&&◌, ◌||◌, List, [], ◌∷◌, length, slice_get}}
use Rattle.std.proofs.{Common.{Some, Err, sym, ◌∙◌, ap, subst, arith}, lemmas.{Bool.cases_lt, Option.slice_get_within}}
use Rattle.spl_agree.proofs.Tests.{and_right, or_cases}
use Rattle.spl_acceptor.specs.{Quorums.acceptors, Worlds.{Happening, has_name, is_in_range}, declared.{group.Group.Group, kind.TheConstants.MEMBER}}
use Rattle.spl_acceptor.specs.declared.{kind.TheConstants.{ACCEPTOR, LEADER}, message.Name.Name}
use Rattle.spl_edge.specs.{Devices.{DiskView, PairView, bench}, declared.bench.Pair.Pair}
use Rattle.spl_paxos.specs.declared.line.PaxosLine.{PaxosLine}
use Rattle.spl_paxos_run.specs.{Run.{PaxosDevices, PaxosEnded, PaxosRunEnds, Left, PaxosOutcome, PaxosRun, ProcessesUnmade}, Schedule.happenings}
use Rattle.spl_paxos_run.specs.{Places.{name_at, process_count}, Wholes.{AreFresh, ProcessHasPicked}}
use Rattle.spl_paxos_run.specs.declared.fault.PaxosFault.TheVariants as fault
use Rattle.spl_paxos_safety.proofs.Runs.{is-within}
use Rattle.spl_node.{specs.Benches.{AllUnarmed, IsPairUnarmed, NoneForgotten, images, AreBlank, images_at, AllUnpicked}, proofs.Benches.told_images}
use Rattle.spl_node.proofs.Positions.{same_there, some_at}

-- ---- names

-- a process's number has one digit
pub named_low : (g : Group) (n : Name) → g.members ≤ 8 → g.faults ≤ 2 → IsTrue (has_name g n) → n.number < 10
named_low g n few faulty named = by (or_cases (n.kind == MEMBER && is_in_range g.members n.number) _ named)
  where
    by_two : ((n.kind == ACCEPTOR && is_in_range (acceptors g.faults) n.number) ≡ true) ⊎ ((n.kind == LEADER && is_in_range 3 n.number) ≡ true) → n.number < 10
    by_two (inl e) =
        (let most : n.number ≤ acceptors g.faults = (is-within (acceptors g.faults) n.number (and_right (n.kind == ACCEPTOR) _ e)).most in omega
        (arith, most, faulty))
    by_two (inr e) = (let most : n.number ≤ 3 = (is-within 3 n.number (and_right (n.kind == LEADER) _ e)).most in omega (arith, most))

    by : ((n.kind == MEMBER && is_in_range g.members n.number) ≡ true)
        ⊎ (((n.kind == ACCEPTOR && is_in_range (acceptors g.faults) n.number) || (n.kind == LEADER && is_in_range 3 n.number)) ≡ true) → n.number < 10
    by (inl e) = (let most : n.number ≤ g.members = (is-within g.members n.number (and_right (n.kind == MEMBER) _ e)).most in omega (arith, most, few))
    by (inr e) = by_two (or_cases (n.kind == ACCEPTOR && is_in_range (acceptors g.faults) n.number) _ e)

-- the process that an end names is one of the run
pub blamed : (e : PaxosEnded) (g : Group) (lines : List (List ℕ)) (x y : PaxosDevices) → PaxosOutcome e g lines x y → (n : Name) → e ≡ Err (fault.Disk n)
    → IsTrue (has_name g n)
blamed e g lines x y ran n is = ⊎_elim
    (λ (u : ProcessesUnmade e g x y). let both : Err u.fault ≡ Err (fault.Disk n) = sym u.is ∙ is in let same : u.fault ≡ fault.Disk n = cc in
    (u.disks.failed n same).1.named)
    (λ (r : PaxosRun e g lines x y). let (t, next, process, failed) = subst
    (λ (f : PaxosEnded). PaxosRunEnds f g lines r.read r.before r.next x y) is r.ends in failed.named)
    ran.done

-- ---- disks before a run

-- blank disks are fresh
pub fresh_of : {D : Type 0} (view : D → DiskView) (ps : List (Pair D)) (g : Group) → process_count g ≤ 16
    → ((i : ℕ) → i < 16 → AreBlank (images_at (images view ps) i)) → AllUnpicked (bench view ps) → AreFresh g (bench view ps)
fresh_of view ps g few blank unpicked = λ k p low there.
    let here = subst AreBlank (told_images view ps k p there) (blank k (omega (arith, low, few))) in
    let none = unpicked k p there in
    record { blank = here.first; unpicked = none.first.picks; unarmed = none.first.off }

-- ---- and after it

left_picked : (e : PaxosEnded) (g : Group) (before next : List (ℕ × PaxosLine)) (start now : List PairView) → Left e g before next start now
    → (k : ℕ) (s p : PairView) → k < process_count g → slice_get start k ≡ Some s → slice_get now k ≡ Some p
    → (es : List Happening) × ProcessHasPicked g es (name_at g k) s.first p.first
left_picked (Err (fault.TooMany which)) g before next start now h k s p low was there = (happenings before, (h k s p low was there).picked)
left_picked e g before [] start now h k s p low was there = (happenings before, (h k s p low was there).picked)
left_picked e g before (t ∷ ts) start now h k s p low was there = ⊎_elim (λ some. (_, some)) (λ more. (_, more)) (h k s p low was there).picked

module _ (e : PaxosEnded) (g : Group) (lines : List (List ℕ)) (x y : PaxosDevices) (ran : PaxosOutcome e g lines x y) where
  -- the disk of a process picked at lines that took it down
  picked_at : (k : ℕ) (s p : PairView) → k < process_count g → slice_get x.disks k ≡ Some s → slice_get y.disks k ≡ Some p
      → (es : List Happening) × ProcessHasPicked g es (name_at g k) s.first p.first
  picked_at k s p low was there = ⊎_elim
      (λ (u : ProcessesUnmade e g x y). ([], u.disks.picked k s p low was there))
      (λ (r : PaxosRun e g lines x y). left_picked e g r.before r.next x.disks y.disks r.left k s p low was there)
      ran.done

  -- no other disk changed
  spared_at : (k : ℕ) (s p : PairView) → process_count g ≤ k → slice_get x.disks k ≡ Some s → slice_get y.disks k ≡ Some p → s ≡ p
  spared_at k s p past was there = same_there x.disks k s p was (sym (ran.spared.others k past) ∙ there)

  pub group_forgets : NoneForgotten x.disks y.disks
  group_forgets =
      record {
        as_many = ran.spared.as_many;
        first = first;
        second = λ k s p was there. omega (arith, ap (λ (d : DiskView). d.faults) (ran.spared.second k s p was there));
      }
    where
      first : (k : ℕ) (s p : PairView) → slice_get x.disks k ≡ Some s → slice_get y.disks k ≡ Some p → s.first.faults ≤ p.first.faults
      first k s p was there = ⊎_elim
          (λ (low : k < process_count g). (picked_at k s p low was there).1.no_less)
          (λ (past : process_count g ≤ k). omega (arith, ap (λ (z : PairView). z.first.faults) (spared_at k s p past was there)))
          (cases_lt k (process_count g))

  pub group_unarmed : AllUnpicked x.disks → AllUnarmed y.disks
  group_unarmed unpicked = λ k p there.
      let low : k < length x.disks = subst (λ (n : ℕ). k < n) ran.spared.as_many (slice_get_within y.disks k p there) in
      let (s, was) = some_at x.disks k low in
      let none = unpicked k s was in (
        ⊎_elim
            (λ (low : k < process_count g). (picked_at k s p low was there).1.unarmed)
            (λ (past : process_count g ≤ k). (subst IsPairUnarmed (spared_at k s p past was there) (none.first.off, none.second.off)).0)
            (cases_lt k (process_count g)),
        ap (λ (d : DiskView). d.armed.arming) (ran.spared.second k s p was there) ∙ none.second.off,
      )
