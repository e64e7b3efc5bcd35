-- However a run ended, it leaves one history with what happened before.
use Rattle.std.proofs.Common.{◌≡◌, ℕ, true, List, [], ◌∷◌, ◌++◌, length, slice_get, Option, Some, IsTrue, refl, sym, subst, ◌∙◌}
use Rattle.spl_agree.proofs.Tests.{and_left, and_right}
use Rattle.spl_circuit_world.specs.{Worlds.{node_of, Halts, Occurrence, Starts, Steps, Stops, node_of as event_node}, Projection.{Ran, line_fits, lines_fit}}
use Rattle.spl_circuit_world.proofs.Owns.{fits-left}
use Rattle.spl_circuit.specs.Nodes.{CircuitId, Node}
use Rattle.spl_delta.specs.{Watches.{is_watch_line, watch_line_of, watch_spelling}, declared.line.WatchLine.WatchLine}
use Rattle.spl_lines.{specs.{Tasks.{Task, ran_by}, declared.reading.Said.Said}, proofs.Tasks.ran-append}
use Rattle.spl_lines.specs.declared.reading.Said.TheVariants as say
use Rattle.spl_runs.specs.Run.{Plan, RunMode, ids, origin, After, Ended, Devices, HeldAtEnd, In, PlanRun, Stop, held_on, under_way}
use Rattle.spl_sched.specs.{Grammar.{is_line, line_of, spelling}, declared.line.Line.Line}
use Rattle.spl_node.specs.Benches.{AllTell, Images}
use Rattle.spl_world.specs.{Held.IsEventOf, declared.fault.WorldFault.WorldFault}
use Rattle.spl_app.{specs.{Found.AllFound, Left.HasLeftCells, Runs.IsOneHistory}, proofs.{EndsOfRuns.{ended-after, ended-in-line}, Ending.IsEventAt}}
use Rattle.spl_app.proofs.{Places.AllOf, Tasks.{AllAdmitted, admitted-lines, admitted-parts, allowed-known, tasks_fit}}

fits-right : (xs ys : List Ran) → lines_fit (xs ++ ys) ≡ true → lines_fit ys ≡ true
fits-right [] ys h = h
fits-right (x ∷ xs) ys h = fits-right xs ys (and_right (line_fits x) (lines_fit (xs ++ ys)) h)

node-is : (e : Occurrence) → event_node e ≡ node_of e
node-is (Steps s) = refl
node-is (Stops n) = refl
node-is (Starts n) = refl
node-is (Halts kept s) = refl

event-at : (ns : List Node) (i : ℕ) (next : List Occurrence) → IsEventOf ns i next → (n : Node) → slice_get ns i ≡ Some n → IsEventAt n next
event-at ns i [] event n at = tt
event-at ns i (e ∷ []) event n at =
    let same : event_node e ≡ node_of e = node-is e in
    let both : Some n ≡ Some (event_node e) = sym at ∙ event in
    cc
event-at ns i (e ∷ d ∷ es) event n at = absurd event

module _ (p : Plan) (ts : List Task) (fit : lines_fit (ran_by ts) ≡ true) (known : AllOf (ids p) (ran_by ts)) (before : CircuitId → List Occurrence)
    (left : HasLeftCells (origin p) before) (found was : List Images) (all : AllFound (length p.nodes) was found)
    (told : AllTell (length p.nodes) found) where
  in-task : (number : Option ℕ) (s : Said) (e : WorldFault) (more : List Task) → AllAdmitted (ids p) (record { number = number; line = s } ∷ more)
      → lines_fit (ran_by (record { number = number; line = s } ∷ more)) ≡ true
      → HeldAtEnd p ts (In (record { number = number; line = s }) e) was → IsOneHistory p before ts (In (record { number = number; line = s }) e) found
  in-task number (say.Watch l) e more of fits held =
      ended-after p ts fit known before left found was all told (In (record { number = number; line = say.Watch l }) e) (λ c. refl) held
  in-task number (say.Line l) e more of fits held =
      ended-in-line p ts fit known before left found was all told number l e (and_left (is_line l) _ fits) of.0
      held.done held.next held.rest held.all held.one (event-at (ids p) held.one held.next held.event) held.others held.own_disks

  by-stop : (stop : Stop) (more : List Task) → AllAdmitted (ids p) (under_way stop ++ more) → lines_fit (ran_by (under_way stop ++ more)) ≡ true
      → HeldAtEnd p ts stop was → IsOneHistory p before ts stop found
  by-stop After more of fits held = ended-after p ts fit known before left found was all told After (λ c. refl) held
  by-stop (In t e) more of fits held = in-task t.number t.line e more of fits held

module _ (law : (bytes : List ℕ) (l : Line) → line_of bytes ≡ Some l → (bytes ≡ spelling l) × IsTrue (is_line l))
    (watch_law : (bytes : List ℕ) (l : WatchLine) → watch_line_of bytes ≡ Some l → (bytes ≡ watch_spelling l) × IsTrue (is_watch_line l)) where
  pub run-leaves : (e : Ended) (w : RunMode) (p : Plan) (x y : Devices) (r : PlanRun e w p x y) (before : CircuitId → List Occurrence) (found : List Images)
      → HasLeftCells (origin p) before → AllFound (length p.nodes) (held_on y.disks) found → AllTell (length p.nodes) found
      → IsOneHistory p before r.reached.before r.reached.stop found
  run-leaves e w p x y r before found left all told =
      let ts = r.reached.before in
      let rest : List Task = under_way r.reached.stop ++ r.reached.more in
      let of = admitted-parts (ids p) ts rest (subst (AllAdmitted (ids p)) r.reached.all (allowed-known w (ids p) r.reached.lines r.reached.allowed)) in
      let fits : lines_fit (ran_by ts ++ ran_by rest) ≡ true =
      subst (λ (rs : List Ran). lines_fit rs ≡ true) (ran-append ts rest)
      (subst (λ (us : List Task). lines_fit (ran_by us) ≡ true) r.reached.all (tasks_fit law watch_law w r.reached.lines)) in
      by-stop p ts (fits-left (ran_by ts) (ran_by rest) fits) (admitted-lines (ids p) ts of.0) before left found (held_on y.disks) all told
      r.reached.stop r.reached.more of.1 (fits-right (ran_by ts) (ran_by rest) fits) r.held
