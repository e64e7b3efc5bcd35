-- The nodes and the circuits of a generated schedule (docs/RULES.md, Generated schedules).
use Rattle.std.specs.Prelude.{ℕ, ◌+◌, ◌%◌, ◌==◌, List, [], ◌∷◌, ◌++◌, length, map, slice_index, if◌then◌else◌, codes}
use Rattle.spl_circuit.specs.declared.definition.{Definition.Definition, Service.Service}
use Rattle.spl_gen.specs.declared.circuit.Circuit.{Circuit, TheVariants.{First, Second, Third}}

-- n and the last digit of a number
abbrev pub generated_node : ℕ → List ℕ
generated_node i = codes "n" ++ (48 + i % 10) ∷ []

abbrev pub nodes : List (List ℕ)
nodes = map generated_node (1 ∷ 2 ∷ 3 ∷ 4 ∷ [])

-- the service on the node of this number
abbrev pub generated_service : ℕ → Service
generated_service i = record { id = codes "s00" ++ (48 + i % 10) ∷ []; kind = codes "scabbard"; node = generated_node i }

abbrev pub circuits : List Circuit
circuits = First ∷ Second ∷ Third ∷ []

abbrev pub id : Circuit → List ℕ
id First = codes "Gener-00001"
id Second = codes "Gener-00002"
id Third = codes "Gener-00003"

abbrev pub circuit_name : Circuit → List ℕ
circuit_name First = codes "first"
circuit_name Second = codes "second"
circuit_name Third = codes "third"

-- the numbers of its nodes
abbrev pub circuit_members : Circuit → List ℕ
circuit_members First = 1 ∷ 2 ∷ []
circuit_members Second = 2 ∷ 3 ∷ 4 ∷ []
circuit_members Third = 1 ∷ 2 ∷ 3 ∷ 4 ∷ []

-- the member at this position, counted round
abbrev pub circuit_member : Circuit → ℕ → ℕ
circuit_member c d = slice_index (circuit_members c) (d % length (circuit_members c))

abbrev pub generated_definition : Circuit → Definition
generated_definition c =
    record {
      id = id c;
      generation = 1;
      version = 1;
      management = codes "gen";
      name = circuit_name c;
      members = map generated_node (circuit_members c);
      services = map generated_service (circuit_members c);
    }

-- the circuit of batch k
abbrev pub batch_circuit : ℕ → Circuit
batch_circuit k = if k % 3 == 1 then First else if k % 3 == 2 then Second else Third
