-- A run over a folder goes on from the history of those before it.
use Rattle.std.{specs.List.position_from, proofs.Common.{◌≡◌, ℕ, List, [], ◌++◌, length, Option, Some, None, IfSome, refl, sym, ap, subst, ◌∙◌}}
use Rattle.spl_circuit_safety.{specs.Agreement.IsAgreed, proofs.OwnLines.plain-prefix}
use Rattle.spl_node.specs.{Blank.{AllEmpty, AreEmpty}, Stands.made_cell, Records.{is_record, recorded_cell}, Benches.{AllTell, Images, images_at}}
use Rattle.spl_circuit.specs.{Nodes.{CircuitId, Node}, declared.definition.Definition.Definition}
use Rattle.spl_edge.specs.Devices.{Image}
use Rattle.spl_circuit_world.specs.{Projection.AllPlain, Worlds.{Occurrence, Origin}}
use Rattle.spl_registry.specs.Nodes.{Entry, is_of}
use Rattle.spl_cell_rules.specs.Cells.{Empty}
use Rattle.spl_runs.specs.{Run.{Plan, RunMode, nodes_in, origin, origin_in, run_plan, Devices, Ended, PlanRun, held_on}, declared.mode.Beginning.Beginning}
use Rattle.spl_runs.{specs.declared.mode.Mode.Mode, proofs.Plans.origin_planned}
use Rattle.spl_runs.specs.declared.mode.Beginning.TheVariants as beginning
use Rattle.spl_snapshot.specs.Counting.{pair_records_of}
use Rattle.spl_world.specs.Held.{kept_at, origin_on}
use Rattle.spl_app.specs.{Folders.{AfterRun, AfterUnmade, Folder, FolderRun, New, OneHistory, plan_in}, Found.AllFound, Left.{HasLeftCells, history_on}}
use Rattle.spl_app.{specs.Runs.{IsOneHistory, happened_by}, proofs.{Keeping.stays, Seats.seat-below}}

-- ---- disks without bytes

made-empty : (n : Node) (c : CircuitId) (a b : Option Image) → IfSome a (λ i. i.bytes ≡ []) → IfSome b (λ i. i.bytes ≡ []) → made_cell n c a b ≡ Empty
made-empty n c None b h k = refl
made-empty n c (Some i) None h k = refl
made-empty n c (Some i) (Some j) h k =
    ap (λ (bytes : List ℕ). recorded_cell n c (pair_records_of is_record bytes j.bytes)) h
    ∙ ap (λ (bytes : List ℕ). recorded_cell n c (pair_records_of is_record [] bytes)) k

-- nothing is kept on them
pub empty-kept : (es : List Entry) (is : List Images) → AllEmpty (length es) is → (c : CircuitId) (n : Node) → (origin_on es is).kept c n ≡ Empty
empty-kept es is empty c n = go (position_from (is_of n) 0 es) refl
  where
    go : (o : Option ℕ) → position_from (is_of n) 0 es ≡ o → kept_at is c n (position_from (is_of n) 0 es) ≡ Empty
    go None at = ap (kept_at is c n) at
    go (Some k) at =
        let none : AreEmpty (images_at is k) = empty k (seat-below es n k at) in
        ap (kept_at is c n) at ∙ made-empty n c (images_at is k).0 (images_at is k).1 none.first none.second

-- so nothing happened before
pub none-before : (es : List Entry) (is : List Images) → AllEmpty (length es) is → HasLeftCells (origin_on es is) (λ c. [])
none-before es is empty = record { plain = λ c. tt; own = λ c. tt; cells = λ c n. empty-kept es is empty c n }

-- ---- a run more

-- a run begins with what the disks hold
pub begins-with : (m : Mode) (es : List Entry) (is : List Images) (lines : List (List ℕ)) (before : CircuitId → List Occurrence)
    → (m.beginning ≡ beginning.Blank → AllEmpty (length es) is) → HasLeftCells (origin_on es is) before
    → HasLeftCells (origin (run_plan m es is lines)) before
begins-with m es is lines before blank left = subst (λ (o : Origin). HasLeftCells o before) (origin_planned m es is lines) (by m.beginning blank)
  where
    by : (b : Beginning) → (b ≡ beginning.Blank → AllEmpty (length es) is) → HasLeftCells (origin_in b es is) before
    by beginning.Resumed blank = left
    by beginning.Blank blank = record { plain = left.plain; own = left.own; cells = λ c n. sym (empty-kept es is (blank refl) c n) ∙ left.cells c n }

-- what a run leaves, however it ended
abbrev pub LeaveHistories : Type 0
LeaveHistories = (e : Ended) (w : RunMode) (p : Plan) (x y : Devices) (r : PlanRun e w p x y) (before : CircuitId → List Occurrence) (found : List Images)
    → HasLeftCells (origin p) before → AllFound (length p.nodes) (held_on y.disks) found → AllTell (length p.nodes) found
    → IsOneHistory p before r.reached.before r.reached.stop found

module _ (law : LeaveHistories) (agree : (ns : List Node) (es : List Occurrence) (d : Definition) → AllPlain es → IsAgreed ns es d) where
  -- at each moment
  at-each : (es : List Entry) (is : List Images) (happened : CircuitId → List Occurrence) → HasLeftCells (origin_on es is) happened
      → (c : CircuitId) (d : Definition) (past later : List Occurrence) → past ++ later ≡ happened c → IsAgreed (nodes_in es) past d
  at-each es is happened left c d past later whole = agree (nodes_in es) past d (plain-prefix past later (subst AllPlain (sym whole) (left.plain c)))

  one-more : {es : List Entry} (r : FolderRun es) (folder : Folder es (held_on r.first.disks)) → OneHistory folder → OneHistory (AfterRun r folder)
  one-more {es} r folder h =
      let begins = begins-with r.mode es (held_on r.first.disks) r.lines h.happened r.blank h.cells in
      let one = law r.ended _ (plan_in r) r.first r.last r.run h.happened r.found begins r.left r.told in
      record {
        happened = history_on (nodes_in es) h.happened (happened_by (origin (plan_in r)) r.run.reached.before one.part);
        grown = (h.happened, h.grown, record { one = one; is = λ c. refl });
        cells = one.cells;
        agreed = at-each es r.found _ one.cells;
      }

  -- all runs over a folder are one history
  pub one-history : {es : List Entry} {is : List Images} (folder : Folder es is) → OneHistory folder
  one-history {es} (New is empty) = record {
    happened = λ c. [];
    grown = λ c. refl;
    cells = none-before es is empty;
    agreed = at-each es is (λ c. []) (none-before es is empty);
  }
  one-history (AfterRun r folder) = one-more r folder (one-history folder)
  one-history (AfterUnmade r folder) =
      let h = one-history folder in
      record { happened = h.happened; grown = h.grown; cells = stays r h.happened h.cells; agreed = h.agreed }
