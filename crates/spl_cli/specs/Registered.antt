-- The reading of a registry, and the status of a run that it ends (docs/RULES.md, Statuses).
use Rattle.std.specs.{Prelude.{◌≡◌, ◌<◌, ◌≤◌, ℕ, List, length, Option, Err, ⊤}, Io.KnownBytes.IsAtEnd}
use Rattle.spl_edge.specs.{Devices.{Rose, SourceView}, Sources.{given, limit}}
use Rattle.spl_registry.specs.Nodes.{registry_of}
use Rattle.spl_cli.specs.declared.status.Status.{Status}
use Rattle.spl_cli.specs.declared.status.Status.TheVariants as status

-- the reading of the registry ended the run: its bytes have this fault or are too many, its source failed, or memory ran out
abbrev pub EndsReading : Status → SourceView → SourceView → Type 0
EndsReading (status.BadRegistry why) r q = (registry_of (given r q) ≡ Err why) × IsAtEnd q.left × (length (given r q) ≤ limit)
EndsReading status.ReadFault r q = Rose r.faults q.faults × (length (given r q) ≤ limit)
EndsReading status.TooLong r q = limit < length (given r q)
EndsReading status.NoMemory r q = ⊤
EndsReading s r q = ⊥

-- the registry was read to its end
pub record IsRegistryRead (text : List ℕ) (left : Option (List ℕ)) : Type 0 where
  pub ended : IsAtEnd left
  pub short : length text ≤ limit
