use Rattle.std.{specs.List.list_all, proofs.Common.{IsTrue, take}}
use Rattle.spl_wire.{specs.Changes.change_form, proofs.Packs.IsPacked}
use Rattle.spl_wire.proofs.packing.packed_records.Given as goal

-- those so far are packed, and have byte forms
abbrev pub invariant-loop-change : goal.invariant-loop-change
invariant-loop-change l =
    IsPacked l.fn.circuit (take l.change-index l.change-items) l.packing × IsTrue (list_all change_form.fits (take l.change-index l.change-items))
