-- What a line of a watcher is told, by what a cell shows of its circuit, and what it makes of the watchers.
use Rattle.std.{specs.{Prelude.if◌then◌else◌, Str.bytes_eq}, proofs.Common.{◌≡◌, Bool, true, false, List, Some, None, refl, sym, ◌∙◌, ap}}
use Rattle.spl_agree.specs.Member.{values}
use Rattle.spl_cell.specs.Reading.{bound_definition, running_batches}
use Rattle.spl_circuit.specs.{Nodes.CircuitId, declared.definition.Definition.Definition}
use Rattle.spl_command.specs.declared.batch.Batch.{Batch}
use Rattle.spl_cell_rules.{specs.Cells.{Bound, Cell, Empty, Held, Purged, runs}, proofs.Positions.node_is}
use Rattle.spl_delta.specs.{Kept.{Groups, watchers_of}, Watches.{IsHere, Watcher, watch_told_at, told_by, watch_circuit, watchers_after}}
use Rattle.spl_delta.specs.declared.{answer.WatchAnswer.{WatchAnswer, TheVariants.{NoCircuit, NotActive}}, line.WatchLine.WatchLine}
use Rattle.spl_serve.specs.Served.{Served, watch_told, watchers_past, watchers_told}

-- ---- what it is told

pub told_none : (k : Cell) (ts : List Watcher) (l : WatchLine) → bound_definition k ≡ None → NoCircuit ≡ watch_told_at k ts l
told_none Empty ts l h = refl
told_none (Purged g) ts l h = refl
told_none (Held b) ts l h = absurd cc

off_by : {A : Type 0} (r : Bool) (bs : A) (a : WatchAnswer) → (if r then Some bs else None) ≡ None → NotActive ≡ (if r then a else NotActive)
off_by true bs a h = absurd cc
off_by false bs a h = refl

pub told_off : (k : Cell) (d : Definition) (ts : List Watcher) (l : WatchLine) → bound_definition k ≡ Some d → running_batches k ≡ None
    → NotActive ≡ watch_told_at k ts l
told_off Empty d ts l h q = absurd cc
told_off (Purged g) d ts l h q = absurd cc
told_off (Held b) d ts l h q = off_by (runs b) (values b.batches.history) (told_by b ts l) q

-- a cell whose circuit runs, with this definition and these batches
pub record IsRunning (k : Cell) (d : Definition) (bs : List Batch) : Type 0 where
  pub bound : Bound
  pub held : k ≡ Held bound
  pub here : IsHere bound d bs
  pub told : (ts : List Watcher) (l : WatchLine) → told_by bound ts l ≡ watch_told_at k ts l

running_by : (b : Bound) (d : Definition) (bs : List Batch) (r : Bool) → runs b ≡ r → b.definition ≡ d
    → (if r then Some (values b.batches.history) else None) ≡ Some bs
    → IsRunning (Held b) d bs
running_by b d bs true is h q = record {
  bound = b;
  held = refl;
  here = record { definition_is = h; batches_are = cc };
  told = λ ts l. sym (ap (λ (r : Bool). if r then told_by b ts l else NotActive) is);
}
running_by b d bs false is h q = absurd cc

pub is_running : (k : Cell) (d : Definition) (bs : List Batch) → bound_definition k ≡ Some d → running_batches k ≡ Some bs → IsRunning k d bs
is_running Empty d bs h q = absurd cc
is_running (Purged g) d bs h q = absurd cc
is_running (Held b) d bs h q = let same : b.definition ≡ d = cc in running_by b d bs (runs b) refl same q

-- ---- what it makes of the watchers

past_by : (z : Served) (l : WatchLine) (ws : Groups) (c : CircuitId) (same : Bool) → bytes_eq (watch_circuit l) c ≡ same
    → watchers_of ws (watch_circuit l) ≡ watchers_told z l
    → ((c : CircuitId) → bytes_eq (watch_circuit l) c ≡ false → watchers_of ws c ≡ z.watchers c)
    → watchers_of ws c ≡ (if same then watchers_told z l else z.watchers c)
past_by z l ws c true is own others = ap (watchers_of ws) (sym (node_is (watch_circuit l) c is)) ∙ own
past_by z l ws c false is own others = others c is

-- those of its circuit are as the answer says, and those of the others stay
pub watched_past : (z : Served) (l : WatchLine) (a : WatchAnswer) (ws : Groups) → a ≡ watch_told z l
    → watchers_of ws (watch_circuit l) ≡ watchers_after (z.cells (watch_circuit l)) (z.watchers (watch_circuit l)) l a
    → ((c : CircuitId) → bytes_eq (watch_circuit l) c ≡ false → watchers_of ws c ≡ z.watchers c)
    → (c : CircuitId) → watchers_of ws c ≡ watchers_past z l c
watched_past z l a ws told own others c = past_by z l ws c (bytes_eq (watch_circuit l) c) refl
    (own ∙ ap (λ (b : WatchAnswer). watchers_after (z.cells (watch_circuit l)) (z.watchers (watch_circuit l)) l b) told) others
