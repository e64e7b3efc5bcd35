-- Where nothing failed, a run of Paxos Commit doesn't give up by itself.
use Rattle.std.{proofs.Common.{◌≡◌, ◌⊎◌, inl, inr, ◌+◌, ◌-◌, ◌≤◌, ℕ, List, [], ◌∷◌, ◌++◌, length, length-append}, specs.Io.KnownBytes.Consumes}
use Rattle.std.proofs.Common.{Ok, Err, refl, ap, sym, subst, ◌∙◌, arith, append_assoc}
use Rattle.spl_acceptor.specs.declared.group.Group.{Group}
use Rattle.spl_edge.{specs.{Devices.{Rose, SourceView}, Sources.{had, limit, given}}, proofs.Sources.had_more}
use Rattle.spl_lines.{specs.Lines.run_of, proofs.Parts.{good_at, more_lines, no_rest}}
use Rattle.spl_paxos.specs.declared.line.PaxosLine.{PaxosLine}
use Rattle.spl_paxos_run.specs.{Limits.{IsOverPaxosLimit, AreLinesWithin, paxos_stops}, Run.{PaxosDevices, PaxosEnded, PaxosEndsText, IsBadPaxosLine}}
use Rattle.spl_paxos_run.specs.{Run.{IsBadPaxosRest, PaxosRun, ProcessesUnmade}, Schedule.{IsPaxosLine, numbered_lines, paxos_line_said, with_number}}
use Rattle.spl_paxos_run.specs.{Faults.IsOfWorld, Paxos.{CameOfGroup, GroupCanEnd, NoneFailed, status_of}, declared.fault.PaxosFault.PaxosFault}
use Rattle.spl_paxos_run.proofs.Lines.{numbered_with}
use Rattle.spl_paxos_run.specs.declared.run.PaxosEnd.TheVariants as end
use Rattle.spl_paxos_run.specs.declared.fault.PaxosFault.TheVariants as fault
use Rattle.spl_cli.specs.declared.status.Status.{Status}
use Rattle.spl_cli.specs.declared.status.Status.TheVariants as status

-- ---- the limits of the first lines

numbered_first : (n : ℕ) (lines more : List (List ℕ)) → (rest : List (ℕ × PaxosLine)) × (numbered_lines n (lines ++ more) ≡ numbered_lines n lines ++ rest)
numbered_first n [] more = (numbered_lines n more, refl)
numbered_first n (l ∷ lines) more =
    let (rest, same) = numbered_first (n + 1) lines more in (
      rest,
      ap (λ (xs : List (ℕ × PaxosLine)). with_number n (paxos_line_said l) xs) same
          ∙ numbered_with n (paxos_line_said l) (numbered_lines (n + 1) lines) rest,
    )

stops-append : (xs ys : List (ℕ × PaxosLine)) → paxos_stops (xs ++ ys) ≡ paxos_stops xs + paxos_stops ys
stops-append [] ys = omega arith
stops-append (x ∷ xs) ys = let rest = stops-append xs ys in omega (arith, rest)

within_first : (xs ys all : List (ℕ × PaxosLine)) → all ≡ xs ++ ys → AreLinesWithin all → AreLinesWithin xs
within_first xs ys all same few = record {
  events = omega (arith, few.events, ap length same, length-append xs ys);
  stops = omega (arith, few.stops, ap paxos_stops same, stops-append xs ys);
}

not_over : (ls : List (ℕ × PaxosLine)) (which : ℕ) → AreLinesWithin ls → IsOverPaxosLimit ls which → ⊥
not_over ls which few (inl (is, over)) = omega (arith, few.events, over)
not_over ls which few (inr (is, events, over)) = omega (arith, few.stops, over)

-- ---- a run

module _ (g : Group) (lines more : List (List ℕ)) (x y : PaxosDevices) (within : AreLinesWithin (numbered_lines 1 (lines ++ more))) where
  -- no line passes a limit
  never_over : (which : ℕ) → PaxosRun (Err (fault.TooMany which)) g lines x y → ⊥
  never_over which r =
      let (t, next, over) = r.ends in
      let ran : numbered_lines 1 r.read ≡ r.before ++ t ∷ [] = r.all ∙ ap (λ (ls : List (ℕ × PaxosLine)). r.before ++ ls) next in
      let place : lines ++ more ≡ r.read ++ (r.rest ++ more) = ap (λ (ls : List (List ℕ)). ls ++ more) r.place ∙ append_assoc r.read r.rest more in
      let (later, first) = numbered_first 1 r.read (r.rest ++ more) in
      let same : numbered_lines 1 (lines ++ more) ≡ (r.before ++ t ∷ []) ++ later =
      ap (numbered_lines 1) place ∙ first ∙ ap (λ (ls : List (ℕ × PaxosLine)). ls ++ later) ran in
      not_over (r.before ++ t ∷ []) which (within_first (r.before ++ t ∷ []) later (numbered_lines 1 (lines ++ more)) same within) over

  -- a run that wasn't made ended for its disks, or for memory
  unmade_of : (f : PaxosFault) → ProcessesUnmade (Err f) g x y → IsOfWorld f
  unmade_of f u = (let same : u.fault ≡ f = (let is : Err f ≡ Err u.fault = u.is in cc) in subst IsOfWorld same u.cause)

-- ---- the text

module _ (g : Group) (c d : SourceView) (consumed : Consumes c.left d.left (given c d)) (can : GroupCanEnd g (had c.left (given c d)))
    (sound : Rose c.faults d.faults → ⊥) where
  few : length (given c d) ≤ limit
  few = omega (arith, can.short, had_more c.left d.left (given c d) consumed)

  -- each line may be one of the schedule, and nothing stands after the last
  no_bad : (n : ℕ) → IsBadPaxosLine g (run_of (given c d)) n ⊎ IsBadPaxosRest (run_of (given c d)) (given c d) d.left n → ⊥
  no_bad n (inl h) =
      h.bad (good_at (IsPaxosLine g) (λ line good. good.0) c.left d.left (given c d) consumed can.short can.whole can.allowed (n - 1) h.line h.more h.place)
  no_bad n (inr h) = no_rest (IsPaxosLine g) (λ line good. good.0) c.left d.left (given c d) consumed can.short can.whole can.allowed h.bad

  module _ (x y : PaxosDevices) (none : NoneFailed g c d x y) where
    more : (ls : List (List ℕ)) × (run_of (had c.left (given c d)) ≡ run_of (given c d) ++ ls)
    more = more_lines c.left d.left (given c d) consumed can.short

    within_all : AreLinesWithin (numbered_lines 1 (run_of (given c d) ++ more.0))
    within_all = subst (λ (ls : List (List ℕ)). AreLinesWithin (numbered_lines 1 ls)) more.1 can.within

    -- what each end says can't be, but of these two
    ends_well : (e : PaxosEnded) → PaxosEndsText e g (run_of (given c d)) c d → ProcessesUnmade e g x y ⊎ PaxosRun e g (run_of (given c d)) x y
        → (status_of e ≡ status.Ok) ⊎ (status_of e ≡ status.NoMemory)
    ends_well (Ok end.Whole) text done = inl refl
    ends_well (Ok end.TooLong) text done = absurd (omega (arith, few, text.0))
    ends_well (Ok end.Read) text done = absurd (sound text.0)
    ends_well (Err (fault.BadLine n)) text done = absurd (no_bad n text)
    ends_well (Err (fault.TooMany which)) text (inl u) = absurd (unmade_of g (run_of (given c d)) more.0 x y within_all (fault.TooMany which) u)
    ends_well (Err (fault.TooMany which)) text (inr r) = absurd (never_over g (run_of (given c d)) more.0 x y within_all which r)
    ends_well (Err (fault.Disk n)) text (inl u) =
        (let is : Err (fault.Disk n) ≡ Err u.fault = u.is in let same : u.fault ≡ fault.Disk n = cc in absurd (none.disks n (u.disks.failed n same).1))
    ends_well (Err (fault.Disk n)) text (inr r) = (let (t, next, process, failed) = r.ends in absurd (none.disks n failed))
    ends_well (Err fault.Write) text (inl u) = absurd (unmade_of g (run_of (given c d)) more.0 x y within_all fault.Write u)
    ends_well (Err fault.Write) text (inr r) = absurd (none.sink r.ends.0)
    ends_well (Err fault.NoMemory) text done = inr refl

pub group_complete : (s : Status) (g : Group) (c d : SourceView) (x y : PaxosDevices) → Consumes c.left d.left (given c d) → CameOfGroup s g c d x y
    → GroupCanEnd g (had c.left (given c d)) → NoneFailed g c d x y → (s ≡ status.Ok) ⊎ (s ≡ status.NoMemory)
group_complete s g c d x y consumed came can none =
    subst (λ (t : Status). (t ≡ status.Ok) ⊎ (t ≡ status.NoMemory)) (sym came.status)
    (ends_well g c d consumed can none.schedule x y none came.ended came.text came.ran.done)

-- ---- the status

pub group_usage : (e : PaxosEnded) → status.Usage ≡ status_of e → ⊥
group_usage (Ok end.Whole) is = cc
group_usage (Ok end.TooLong) is = cc
group_usage (Ok end.Read) is = cc
group_usage (Err (fault.BadLine n)) is = cc
group_usage (Err (fault.TooMany which)) is = cc
group_usage (Err (fault.Disk n)) is = cc
group_usage (Err fault.Write) is = cc
group_usage (Err fault.NoMemory) is = cc
