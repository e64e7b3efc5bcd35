use Rattle.std.{specs.{Int.w16, List.{flat_map, list_all}}, proofs.Common.{◌≡◌, ◌++◌, length, take, IsTrue}}
use Rattle.spl_base.specs.Form.{number_bytes}
use Rattle.spl_base.proofs.field.put_list.Given as goal

abbrev pub invariant-loop-x : goal.invariant-loop-x
invariant-loop-x g l = record {
  spelled : l.w ≡ l.fn.w ++ (number_bytes w16 (length l.items) ++ flat_map g.T.Field.form.spell (take l.x-index l.items));
  is_fit : IsTrue (list_all g.T.Field.form.fits (take l.x-index l.items));
}
