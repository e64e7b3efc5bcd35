-- What is asked of the parts of a run of circuits: nodes that can be named, and the plan of what was read.
use Rattle.std.specs.Prelude.{◌⊎◌, ◌<◌, List, length, Err, ⊤}
use Rattle.spl_app.specs.{Asked.{Outside, mode_of}, Headline.{Began, NotBegun}}
use Rattle.spl_cli.specs.declared.{command.Command.Command, status.Status.Status}
use Rattle.spl_edge.specs.{Devices.SourceView, Sources.given}
use Rattle.spl_lines.specs.Lines.{run_of}
use Rattle.spl_registry.specs.Nodes.{Entry}
use Rattle.spl_runs.specs.{Run.{Plan, run_plan, Ended}, declared.mode.Mode.Mode}
use Rattle.spl_runs.specs.declared.fault.RunFault.TheVariants as fault
use Rattle.spl_node.specs.Benches.{Images}
use Rattle.spl_world.specs.declared.fault.WorldFault.{WorldFault}
use Rattle.spl_world.specs.declared.fault.WorldFault.TheVariants as error

-- the nodes that an error names, by their positions, are of the registry
abbrev pub NamesNodes : List Entry → WorldFault → Type 0
NamesNodes es (error.Disk k) = k < length es
NamesNodes es (error.NotAJournal k at) = k < length es
NamesNodes es (error.Lied from to sent got) = (from < length es) × (to < length es)
NamesNodes es e = ⊤

-- so are those that an end names
abbrev pub EndNamesNodes : List Entry → Ended → Type 0
EndNamesNodes es (Err (fault.World e)) = NamesNodes es e
EndNamesNodes es ended = ⊤

-- the nodes of a registry and the lines that a source gave since, in a mode, over disks that held this
abbrev pub plan_given : Mode → List Entry → List Images → SourceView → SourceView → Plan
plan_given m es is s t = run_plan m es is (run_of (given s t))

-- what came of a command that reads such a schedule
abbrev pub Came : Status → Command → List Entry → List Images → SourceView → SourceView → Outside → Outside → Type 0
Came s m es is c d x y = NotBegun s m (plan_given (mode_of m) es is c d) c d x y ⊎ Began s m (plan_given (mode_of m) es is c d) c d x y
