-- Which faults a run's processes have.
use Rattle.std.specs.Prelude.{⊤}
use Rattle.spl_paxos_run.specs.declared.fault.PaxosFault.{PaxosFault}
use Rattle.spl_paxos_run.specs.declared.fault.PaxosFault.TheVariants as fault

-- a disk failed, or memory ran out
abbrev pub IsOfWorld : PaxosFault → Type 0
IsOfWorld (fault.Disk n) = ⊤
IsOfWorld fault.NoMemory = ⊤
IsOfWorld (fault.BadLine n) = ⊥
IsOfWorld (fault.TooMany which) = ⊥
IsOfWorld fault.Write = ⊥
