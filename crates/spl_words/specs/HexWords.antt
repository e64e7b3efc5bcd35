-- Digits, as the crate hex reads them.
use Rattle.std.specs.Prelude.{ℕ, Bool, ◌&&◌, ◌||◌, nat_le}
use Rattle.hex.specs.declared.error.FromHexError.{FromHexError, TheVariants.OutOfMemory}
use Rattle.spl_base.specs.Ids.{is_digit}
use Rattle.spl_words.specs.declared.fault.LineFault.{LineFault, TheVariants.{NoMemory, BadLine}}

-- a digit of 0 to 9 and a to f
abbrev pub is_lower_digit : ℕ → Bool
is_lower_digit c = is_digit c || nat_le 97 c && nat_le c 102

-- what is wrong with a line whose digits the crate doesn't read
abbrev pub hex_fault : FromHexError → LineFault
hex_fault OutOfMemory = NoMemory
hex_fault _ = BadLine
