-- Byte strings, in the value itself or on the heap.
use Rattle.std.specs.Prelude.{ℕ, List}
use Rattle.spl_base.specs.declared.piece.Bytes.{Bytes, TheVariants.{Short, Long}}

-- the bytes, wherever they stand
abbrev pub bytes_of : Bytes → List ℕ
bytes_of (Short bytes) = bytes
bytes_of (Long bytes) = bytes.items
