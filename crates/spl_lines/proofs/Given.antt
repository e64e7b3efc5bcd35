-- What a source gave of what it had.
use Rattle.std.proofs.{Common.{◌≡◌, ℕ, ◌≤◌, List, length, ap}, lemmas.List.take_all}
use Rattle.spl_edge.specs.Sources.{had, limit}
use Rattle.spl_lines.specs.Lines.{run_of, lines_of}

-- what a source gives within the limit is run as a whole
pub run_given : (given : List ℕ) → length given ≤ limit → run_of given ≡ lines_of given
run_given given short = ap lines_of (take_all limit given short)
