use Rattle.std.{specs.{List.{flat_map, list_all}, Int.w8}, proofs.Common.{◌≡◌, ◌++◌, length, take, IsTrue}}
use Rattle.spl_base.specs.Form.{number_bytes}
use Rattle.spl_proof.specs.Forms.{level}
use Rattle.spl_proof.proofs.codec.LevelsField.put_parts.Given as goal

abbrev pub invariant-loop-x : goal.invariant-loop-x
invariant-loop-x l =
    (l.w ≡ l.fn.w ++ (number_bytes w8 (length l.levels) ++ flat_map level.spell (take l.x-index l.levels)))
    × IsTrue (list_all level.fits (take l.x-index l.levels))
