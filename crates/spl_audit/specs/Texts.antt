-- How what an audit gives is printed (docs/RULES.md, Audit).
use Rattle.std.specs.{Prelude.{ℕ, List, ◌++◌, codes, decimal}, List.flat_map}
use Rattle.spl_circuit.specs.Nodes.{NodeId}
use Rattle.spl_audit.specs.declared.{clash.{Clash.Clash, Kind.Kind}, report.Found.Found}
use Rattle.spl_audit.specs.declared.clash.Kind.TheVariants as kind

-- ID GEN acts N batches M
abbrev pub found_line : Found → List ℕ
found_line f =
    f.circuit ++ (codes " " ++ (decimal f.generation ++ (codes " acts " ++ (decimal f.acts ++ (codes " batches " ++ (decimal f.batches ++ codes "\n"))))))

abbrev pub report_text : List Found → List ℕ
report_text fs = flat_map found_line fs ++ codes "agreed\n"

abbrev pub kind_text : Kind → List ℕ
kind_text kind.Definitions = codes "definitions"
kind_text kind.Acts = codes "acts"
kind_text kind.Batches = codes "batches"

-- disagreed ID GEN KIND
abbrev pub kind_of_clash : Clash → List ℕ
kind_of_clash s = codes "disagreed " ++ (s.circuit ++ (codes " " ++ (decimal s.generation ++ (codes " " ++ kind_text s.kind))))

-- and NODE NODE PLACE, with the ids of the two nodes
abbrev pub clash_text : Clash → NodeId → NodeId → List ℕ
clash_text s n m = kind_of_clash s ++ (codes " " ++ (n ++ (codes " " ++ (m ++ (codes " " ++ (decimal s.place ++ codes "\n"))))))
