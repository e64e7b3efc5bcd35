-- Where nothing failed, and a registry was given, its reading ends no run but for memory.
use Rattle.std.{specs.Io.KnownBytes.Consumes, proofs.Common.{◌≡◌, ◌⊎◌, inr, ◌≤◌, List, length, Ok, Err, refl, ap, sym, ◌∙◌, arith}}
use Rattle.spl_edge.{specs.{Devices.{Rose, SourceView}, Sources.{had, limit, given}}, proofs.Sources.{all_had, had_more}}
use Rattle.spl_registry.specs.Nodes.{Entry, registry_of}
use Rattle.spl_cli.specs.{Registered.EndsReading, declared.status.Status.Status}
use Rattle.spl_cli.specs.declared.status.Status.TheVariants as status

pub read_ends : (r q : SourceView) → Consumes r.left q.left (given r q) → (Rose r.faults q.faults → ⊥) → (es : List Entry)
    → registry_of (had r.left (given r q)) ≡ Ok es → length (had r.left (given r q)) ≤ limit → (s : Status) → EndsReading s r q
    → (s ≡ status.Ok) ⊎ (s ≡ status.NoMemory)
read_ends r q consumed sound es spelled few status.NoMemory h = inr refl
read_ends r q consumed sound es spelled few status.ReadFault h = absurd (sound h.0)
read_ends r q consumed sound es spelled few status.TooLong h = (let less = had_more r.left q.left (given r q) consumed in absurd (omega (arith, less, few, h)))
read_ends r q consumed sound es spelled few (status.BadRegistry why) h =
    (let clash : Ok es ≡ Err why = sym spelled ∙ ap registry_of (all_had r.left q.left (given r q) consumed h.1) ∙ h.0 in absurd cc)
read_ends r q consumed sound es spelled few s h = absurd h
