-- What is reported where nothing is left to do at a cell (docs/RULES.md, Calm).
use Rattle.std.specs.Prelude.{Bool, true, false, ◌&&◌}
use Rattle.spl_agree.specs.declared.event.Note.{Note}
use Rattle.spl_agree.specs.declared.event.Note.TheVariants as note
use Rattle.spl_wire.specs.declared.answer.Answer.{Answer}
use Rattle.spl_wire.specs.declared.answer.Answer.TheVariants as answer

-- a group has nothing to do, or it isn't there
abbrev pub is_idle_note : Note → Bool
is_idle_note note.Idle = true
is_idle_note note.Off = true
is_idle_note _ = false

-- no group of the cell has anything to do
abbrev pub is_idle : Answer → Bool
is_idle (answer.Notes a b) = is_idle_note a && is_idle_note b
is_idle _ = false
