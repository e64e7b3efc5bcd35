-- The marks of a disk in memory: what each change was, and the bytes from before it.
use Rattle.std.specs.Prelude.{ℕ, List, [], ◌∷◌, ◌++◌, take, drop}
use Rattle.spl_edge.specs.Devices.{patched}
use Rattle.spl_memory.specs.{Changes.{Change, Wrote, Cut, Synced, Picked, Call}, declared.marks.Kind.{Kind, TheVariants.{Appended, Turned}}}
use Rattle.spl_memory.specs.declared.marks.{Kind.TheVariants.{Wrote as WroteOver, Cut as CutOff, Synced as WasSynced, Picked as WasPicked}, Mark.Mark}

-- the bytes from before a change, by those after it
abbrev pub was : Kind → List ℕ → List ℕ
was (Appended count at) now = take at now
was (Turned old at) now = patched now at (old ∷ [])
was (WroteOver over) now = take over.value.len (patched now over.value.at over.value.old.items)
was (CutOff rest) now = now ++ rest.value.old.items
was WasSynced now = now
was (WasPicked pick) now = take pick.value.same now ++ pick.value.old.items

-- those from before all of these, the oldest first
abbrev pub marks_undone : List Mark → List ℕ → List ℕ
marks_undone [] now = now
marks_undone (m ∷ later) now = was m.kind (marks_undone later now)

-- the change, by the bytes after it
abbrev pub change_of : Kind → List ℕ → Change
change_of (Appended count at) now = Wrote at (take count (drop at now))
change_of (Turned old at) now = Wrote at (take 1 (drop at now))
change_of (WroteOver over) now = Wrote over.value.at (take over.value.count (drop over.value.at now))
change_of (CutOff rest) now = Cut rest.value.at
change_of WasSynced now = Synced
change_of (WasPicked pick) now = Picked pick.value.fill pick.value.arming pick.value.faults

abbrev pub call_of : Mark → List ℕ → Call
call_of m now = record { moment = m.moment; change = change_of m.kind now }

-- all of these changes, by the bytes after the last
abbrev pub calls_of : List Mark → List ℕ → List Call
calls_of [] now = []
calls_of (m ∷ later) now = call_of m (marks_undone later now) ∷ calls_of later now

-- the offset and the number of the bytes that were written; a cut wrote none
abbrev pub range_by : Kind → ℕ × ℕ
range_by (Appended count at) = (at, count)
range_by (Turned old at) = (at, 1)
range_by (WroteOver over) = (over.value.at, over.value.count)
range_by (CutOff rest) = (rest.value.at, 0)
range_by WasSynced = (0, 0)
range_by (WasPicked pick) = (0, 0)

abbrev pub range_of : Mark → ℕ × ℕ
range_of m = range_by m.kind
