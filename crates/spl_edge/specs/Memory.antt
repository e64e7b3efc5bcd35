-- What the objects in memory show.
use Rattle.std.specs.Prelude.{◌≡◌, ℕ, List, [], take, drop, Some}
use Rattle.spl_edge.specs.{Devices.{SourceView, SinkView}, declared.memory.{MemSink.MemSink, MemSource.MemSource}}

-- the bytes that a source has given
abbrev pub taken_of : MemSource → List ℕ
taken_of s = take s.at s.bytes.items

-- the bytes that it still has
abbrev pub left_of : MemSource → List ℕ
left_of s = drop s.at s.bytes.items

-- how often it has failed
abbrev pub read_faults : MemSource → ℕ
read_faults s = s.faults

abbrev pub source_view : MemSource → SourceView
source_view s = record { gave = taken_of s; left = Some (left_of s); faults = read_faults s }

-- how often it was called
abbrev pub read_calls : MemSource → ℕ
read_calls s = s.calls

-- the numbers of the calls that fail
abbrev pub failing_reads : MemSource → List ℕ
failing_reads s = s.failing.items

-- a source that has all of its bytes still, and wasn't called
pub record IsFreshSource (s : MemSource) (bytes failing : List ℕ) : Type 0 where
  pub taken : taken_of s ≡ []
  pub left : left_of s ≡ bytes
  pub faults : read_faults s ≡ 0
  pub calls : read_calls s ≡ 0
  pub numbers : failing_reads s ≡ failing

-- the bytes that were written to a sink
abbrev pub written_of : MemSink → List ℕ
written_of s = s.bytes.items

-- how often it has failed
abbrev pub write_faults : MemSink → ℕ
write_faults s = s.faults

abbrev pub sink_view : MemSink → SinkView
sink_view s = record { written = Some (written_of s); faults = write_faults s }

-- how often it was called
abbrev pub write_calls : MemSink → ℕ
write_calls s = s.calls

-- the numbers of the calls that fail
abbrev pub failing_writes : MemSink → List ℕ
failing_writes s = s.failing.items

-- a sink that has no bytes, and wasn't called
pub record IsFreshSink (s : MemSink) (failing : List ℕ) : Type 0 where
  pub written : written_of s ≡ []
  pub faults : write_faults s ≡ 0
  pub calls : write_calls s ≡ 0
  pub numbers : failing_writes s ≡ failing
