-- Why a call of a journal failed.
use Rattle.spl_edge.specs.declared.fault.DeviceError.{DeviceError, TheVariants.{Failed, NoMemory as NoRoom}}
use Rattle.spl_journal.specs.declared.form.JournalFault.{JournalFault, TheVariants.{Disk, NoMemory}}

abbrev pub fault_of : DeviceError → JournalFault
fault_of Failed = Disk
fault_of NoRoom = NoMemory
