-- Why a process that serves ends (docs/RULES.md, Node processes).
use Rattle.spl_journal.specs.declared.form.JournalFault.{JournalFault}
use Rattle.spl_journal.specs.declared.form.JournalFault.TheVariants as journal
use Rattle.spl_serve.specs.declared.{fault.ServeFault.ServeFault, outside.PortFault.PortFault}
use Rattle.spl_serve.specs.declared.fault.ServeFault.TheVariants as serve
use Rattle.spl_serve.specs.declared.outside.PortFault.TheVariants as port

abbrev pub fault_of_journal : JournalFault → ServeFault
fault_of_journal journal.NoMemory = serve.NoMemory
fault_of_journal _ = serve.Disk

abbrev pub fault_of_ports : PortFault → ServeFault
fault_of_ports port.NoMemory = serve.NoMemory
fault_of_ports port.Failed = serve.Ports
