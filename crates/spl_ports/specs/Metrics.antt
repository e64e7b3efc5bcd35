-- The answer to the line metrics (docs/RULES.md, Serving).
use Rattle.std.specs.Prelude.{ℕ, List, ◌++◌, codes, decimal}
use Rattle.spl_ports.specs.declared.{metrics.Asked.Asked, peer.Counts.Counts}
use Rattle.spl_serve.specs.declared.tally.Tally.{Tally}

-- the name of a counter
abbrev pub counter_name : List ℕ → List ℕ
counter_name name = codes "splinter_" ++ (name ++ codes "_total")

-- the line of its type
abbrev pub counter_type : List ℕ → List ℕ
counter_type name = codes "# TYPE " ++ (counter_name name ++ codes " counter\n")

-- the line of what it counted
abbrev pub counter_count : List ℕ → ℕ → List ℕ
counter_count name n = counter_name name ++ (codes " " ++ (decimal n ++ codes "\n"))

-- a counter and its type, in the text form that Prometheus reads
abbrev pub counter : List ℕ → ℕ → List ℕ
counter name n = counter_type name ++ counter_count name n

-- what the node did
abbrev pub tally_text : Tally → List ℕ
tally_text t =
    counter (codes "turns") t.turns ++ (counter (codes "events") t.events ++ (counter (codes "records") t.records
    ++ counter (codes "syncs") t.syncs))

-- what went to its peers, and came from them
abbrev pub traffic_text : Counts → List ℕ
traffic_text c =
    counter (codes "messages_out") c.sent ++ (counter (codes "bytes_out") c.sent_bytes ++ (counter (codes "messages_in") c.heard
    ++ counter (codes "bytes_in") c.heard_bytes))

-- what passed between it and its peers
abbrev pub passed_text : Counts → List ℕ
passed_text c = traffic_text c ++ (counter (codes "messages_dropped") c.dropped ++ counter (codes "peer_connections") c.connections)

-- what its operators asked
abbrev pub asked_text : Asked → List ℕ
asked_text a = counter (codes "operator_connections") a.operators ++ (counter (codes "lines") a.lines ++ counter (codes "bad_lines") a.bad_lines)

-- how many lines follow, and the lines
abbrev pub metrics_text : Tally → Counts → Asked → List ℕ
metrics_text t c a = codes "ok metrics 26\n" ++ (tally_text t ++ (passed_text c ++ asked_text a))
