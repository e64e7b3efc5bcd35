-- The records of a process, as bytes and on a disk (docs/RULES.md, Paxos Commit and Journals).
use Rattle.std.specs.Prelude.{◌≡◌, ◌⊎◌, ◌==◌, ◌&&◌, ◌++◌, [], ◌∷◌, ℕ, Bool, false, List, length, Option, Some, None, is_some, Result, Ok, Err, if◌then◌else◌}
use Rattle.std.specs.{Option.option_map_or, Result.{IsOkAnd, result_map_both}}
use Rattle.spl_base.specs.Prefix.{prefix_of}
use Rattle.spl_edge.specs.Devices.{Image}
use Rattle.spl_journal.specs.{Journals.{is_halted as journal_halted, Stands}, Records.{form_in, is_older, is_open, records, records_of, walk_after}}
use Rattle.spl_acceptor.specs.{Forms.paxos_record_form, declared.log.PaxosLog.PaxosLog}
use Rattle.spl_acceptor.specs.declared.record.PaxosRecord.{PaxosRecord}

-- what was read, where it took so many bytes
abbrev pub whole_paxos_record : ℕ → Result (PaxosRecord × ℕ) ℕ → Option PaxosRecord
whole_paxos_record size (Ok x) = if x.1 == size then Some x.0 else None
whole_paxos_record size (Err at) = None

-- the record that bytes are, with nothing after it
unfoldable pub paxos_record_in : List ℕ → Option PaxosRecord
paxos_record_in bytes = whole_paxos_record (length bytes) (prefix_of paxos_record_form bytes)

-- bytes are exactly one record
abbrev pub is_paxos_record : List ℕ → Bool
is_paxos_record bytes = is_some (paxos_record_in bytes)

-- the byte form of a record
unfoldable pub paxos_record_bytes : PaxosRecord → List ℕ
paxos_record_bytes x = paxos_record_form.spell x

abbrev pub one_or_none : Option PaxosRecord → List PaxosRecord
one_or_none None = []
one_or_none (Some x) = x ∷ []

-- the records that these bytes are, each of them one
abbrev pub records_read : List (List ℕ) → List PaxosRecord
records_read [] = []
records_read (bytes ∷ rs) = one_or_none (paxos_record_in bytes) ++ records_read rs

-- ---- a disk

-- a log is written as journals are made: a journal of an older form is none
abbrev pub older_fault : List ℕ → Option ℕ
older_fault bytes = if is_open bytes && option_map_or is_older (form_in bytes) false then Some 0 else None

-- the records of a disk's bytes, or the place where they are no log
abbrev pub records_on : List ℕ → Result (List PaxosRecord) ℕ
records_on bytes = result_map_both records_read (λ at. at) (walk_after (older_fault bytes) (records is_paxos_record bytes))

-- the records of the journal, or none where the bytes are no journal
abbrev pub paxos_records : List ℕ → List PaxosRecord
paxos_records bytes = records_read (records_of is_paxos_record bytes)

-- these records are there, or these and more
abbrev pub IsKeptOrNot : List PaxosRecord → List PaxosRecord → List ℕ → Type 0
IsKeptOrNot xs more bytes = (records_on bytes ≡ Ok xs) ⊎ (records_on bytes ≡ Ok (xs ++ more))

-- the bytes are a journal, and its records make what is asked
abbrev pub JournalMakes : (List PaxosRecord → Type 0) → List ℕ → Type 0
JournalMakes Made bytes = IsOkAnd (records_on bytes) Made

-- a disk reports exactly where it did
abbrev pub TellsAs : Option Image → Option Image → Type 0
TellsAs old new = is_some new ≡ is_some old

-- ---- a log

-- a call failed, so that the disk has to be read again
abbrev pub is_log_halted : PaxosLog → Bool
is_log_halted l = journal_halted l.journal

-- the disk is as the log left it, and nothing is pending
abbrev pub LogStands : PaxosLog → Image → Type 0
LogStands l i = Stands is_paxos_record l.journal i
