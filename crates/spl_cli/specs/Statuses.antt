-- The number and the text of a status (docs/RULES.md, Statuses).
use Rattle.std.specs.Prelude.{ℕ, List, [], ◌++◌, ◌==◌, if◌then◌else◌, codes, decimal}
use Rattle.spl_registry.specs.declared.fault.RegistryFault.{RegistryFault}
use Rattle.spl_registry.specs.declared.fault.RegistryFault.TheVariants as fault
use Rattle.spl_cli.specs.declared.status.Status.{Status}
use Rattle.spl_cli.specs.declared.status.Status.TheVariants as status

-- the exit status
abbrev pub code_of : Status → ℕ
code_of status.Ok = 0
code_of status.Usage = 1
code_of (status.BadRegistry fault) = 2
code_of (status.BadSchedule line) = 3
code_of (status.TooMany which) = 4
code_of status.ReadFault = 5
code_of status.WriteFault = 6
code_of (status.DiskFault node) = 7
code_of status.LinkFault = 8
code_of (status.Lied from to sent got) = 9
code_of (status.NotBlank node) = 10
code_of status.TooLong = 11
code_of status.NoMemory = 12
code_of (status.NotAJournal node at) = 13
code_of status.Disagreed = 14

-- what is said of a registry's fault
abbrev pub registry_fault_text : RegistryFault → List ℕ
registry_fault_text fault.NotToml = codes "not TOML"
registry_fault_text (fault.BadEntry index) = codes "entry " ++ decimal index
registry_fault_text (fault.Repeated index) = codes "repeated " ++ decimal index
registry_fault_text (fault.TooMany count) = decimal count ++ codes " entries"
registry_fault_text fault.NoMemory = codes "out of memory"

-- what is said of it
abbrev pub status_message : Status → List ℕ
status_message status.Ok = []
status_message status.Usage = codes "usage: splinter replay REGISTRY SCHEDULE or links REGISTRY SCHEDULE DIR or gen N SEED or trace REGISTRY SCHEDULE or resume REGISTRY SCHEDULE DIR or audit REGISTRY DIR or paxos MEMBERS F SCHEDULE"
status_message (status.BadRegistry why) = codes "bad registry: " ++ registry_fault_text why
status_message (status.BadSchedule line) = codes "bad schedule: line " ++ decimal line
status_message (status.TooMany which) = if which == 1 then codes "too many events" else codes "too many stops"
status_message status.ReadFault = codes "read failed"
status_message status.WriteFault = codes "write failed"
status_message (status.DiskFault node) = codes "disk of " ++ node ++ codes " failed"
status_message status.LinkFault = codes "link failed"
status_message (status.Lied from to sent got) = codes "link from " ++ from ++ codes " to " ++ to ++ codes " lied"
status_message (status.NotBlank node) = codes "disk of " ++ node ++ codes " not blank"
status_message status.TooLong = codes "input too long"
status_message status.NoMemory = codes "out of memory"
status_message (status.NotAJournal node at) = codes "disk of " ++ node ++ codes " is not a journal at " ++ decimal at
status_message status.Disagreed = codes "journals disagree"
