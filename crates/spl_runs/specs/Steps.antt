-- What a call of a run did.
use Rattle.std.specs.{Io.KnownBytes.Consumes, Prelude.{◌≡◌, ◌⊎◌, ◌<◌, ◌≤◌, ℕ, length, Bool, List, [], ◌∷◌, ◌++◌, Option, Result, IsErr, IsErrOf, OnOk, Err}}
use Rattle.std.specs.Result.{MatchResult}
use Rattle.spl_edge.specs.{Devices.{Rose, PairView, SinkView, SourceView}, Sources.given}
use Rattle.spl_lines.specs.{Tasks.{Task, line_said}, declared.reading.Said.Said}
use Rattle.spl_runs.specs.{Faults.{FailsAs, HaveCauses}, Moments.{AreDone, AreWatchersKept, CanCarry, MayGoOn}, Run.{IsAllowed, Plan, ids, nodes_in, origin}}
use Rattle.spl_runs.specs.{Run.{run_plan, tasks_of, run_way, with_lines, Devices, Ended, devices, held_on}, Stops.{ReachesEnd, HasRead, RunsOn, StopsInTask}}
use Rattle.spl_runs.specs.{Stops.StopsWith, declared.{fault.RunFault.RunFault, mode.Mode.Mode, run.Run.Run}}
use Rattle.spl_runs.specs.declared.fault.RunFault.TheVariants as fault
use Rattle.spl_registry.specs.Nodes.{Entry}
use Rattle.spl_node.specs.Benches.{AllTell, Images}
use Rattle.spl_world.specs.{Held.AllReadable, Links.LinkView, Views.{IsPlace, places_of}, declared.fault.WorldFault.WorldFault}

-- a run over the nodes of a registry begins so in a mode, over disks that held these images
pub record RunBegins (linked : Bool) (m : Mode) (es : List Entry) (is : List Images) (start now : List PairView) (r : Run) : Type 0 where
  pub nodes : r.nodes.items ≡ nodes_in es
  pub unanswered : r.unanswered ≡ m.unanswered
  pub places : (k : ℕ) → IsPlace (places_of r.world) k → k < length es
  pub readable : AllTell (length es) (held_on start) → AllReadable es (held_on start)
  pub go : (y : LinkView) → CanCarry es y → MayGoOn r.nodes.items r.world now y
  pub done : (lines : List (List ℕ)) (sink : SinkView) (links : LinkView) → ((a b : ℕ) → links.wire [] a b ≡ []) → AllTell (length es) (held_on start)
      → AreDone linked (run_plan m es is lines) [] r (devices sink start links) (devices sink now links)

abbrev pub task : Option ℕ → Said → Task
task number l = record { number = number; line = l }

-- a call changed nothing of a run but its nodes and what its tracer wrote
pub record KeepsRest (r s : Run) : Type 0 where
  pub nodes : s.nodes ≡ r.nodes
  pub watchers : s.watchers ≡ r.watchers
  pub traced : s.tracer.on ≡ r.tracer.on
  pub text : s.text ≡ r.text
  pub output : s.output ≡ r.output
  pub unanswered : s.unanswered ≡ r.unanswered

-- how a call leaves a run and its devices, and the cause of a fault with which it ends, whatever they report
pub record GoesOn (linked : Bool) {A E : Type 0} (q : Result A E) (Fails : RunFault → Type 0) (r s : Run) (x y : Devices) : Type 0 where
  pub nodes : s.nodes.items ≡ r.nodes.items
  pub unanswered : s.unanswered ≡ r.unanswered
  pub traced : s.tracer.on ≡ r.tracer.on
  pub places : places_of s.world ≡ places_of r.world
  pub go : OnOk q (MayGoOn s.nodes.items s.world y.disks y.links)
  pub causes : HaveCauses linked Fails (IsPlace (places_of r.world)) x.disks y.disks x.links y.links
  pub write : Fails fault.Write → Rose x.sink.faults y.sink.faults
  pub later : x.sink.faults ≤ y.sink.faults

-- a line was run after these tasks, and this is the text of its answer
pub record HasRun (linked : Bool) (p : Plan) (ts : List Task) (t : Task) (s : Run) (x y : Devices) (told : List ℕ) : Type 0 where
  pub ran : RunsOn linked p ts t s.world x y told
  pub kept : AreWatchersKept (origin p) (ts ++ t ∷ []) s.watchers

-- a call ran what a line says, and told nothing of it yet; its answer has this text
pub record RunsSaid (linked : Bool) (l : Said) {A : Type 0} (text : A → List ℕ) (q : Result A WorldFault) (r s : Run) (x y : Devices) : Type 0 where
  pub on : GoesOn linked q (FailsAs q) r s x y
  pub output : s.output ≡ r.output
  pub sink : y.sink ≡ x.sink
  pub comes : (p : Plan) (ts : List Task) (number : Option ℕ) (z : Devices) → AreDone linked p ts r z x
      → MatchResult q (λ a. HasRun linked p ts (task number l) s z y (text a)) (StopsInTask linked p ts (task number l) z y)

-- a call of a run with so many unanswered lines ended so, with these tasks done, or as it stopped in them
abbrev pub DoneOrStops : Bool → ℕ → Plan → List Task → {A : Type 0} → Result A RunFault → Run → Devices → Devices → Type 0
DoneOrStops linked unanswered p ts q s x y =
    MatchResult q (λ a. AreDone linked p ts s x y) (λ f. StopsWith (Err f) (run_way linked unanswered) p ts s.output x y)

-- a call ran these tasks, and what is told of them was written, or waits
pub record Step (linked : Bool) (us : List Task) {A : Type 0} (q : Result A RunFault) (r s : Run) (x y : Devices) : Type 0 where
  pub on : GoesOn linked q (λ f. IsErrOf q f) r s x y
  pub comes : (p : Plan) (ts : List Task) (z : Devices) → AreDone linked p ts r z x → DoneOrStops linked r.unanswered p (ts ++ us) q s z y

-- a line of this number is one that the schedule may have, and all of it was run
pub record LineRuns (linked : Bool) (number : ℕ) (line : List ℕ) {A : Type 0} (q : Result A RunFault) (r s : Run) (x y : Devices) : Type 0 where
  pub good : IsAllowed (run_way linked r.unanswered) r.nodes.items line
  pub never : (n : ℕ) → IsErrOf q (fault.BadLine n) → ⊥
  pub step : Step linked (tasks_of (run_way linked r.unanswered) number (line_said line)) q r s x y

-- or it isn't, or could not be read, and nothing was run
pub record LineStops (linked : Bool) (number : ℕ) (line : List ℕ) {A : Type 0} (q : Result A RunFault) (r s : Run) (x y : Devices) : Type 0 where
  pub fails : IsErr q
  pub bad : (n : ℕ) → IsErrOf q (fault.BadLine n) → (n ≡ number) × (IsAllowed (run_way linked r.unanswered) r.nodes.items line → ⊥)
  pub step : Step linked [] q r s x y

abbrev pub TakesLine : Bool → ℕ → List ℕ → {A : Type 0} → Result A RunFault → Run → Run → Devices → Devices → Type 0
TakesLine linked number line q r s x y = LineRuns linked number line q r s x y ⊎ LineStops linked number line q r s x y

-- what came of all lines that a source gave
pub record LinesRun (linked : Bool) (e : Ended) (lines : List (List ℕ)) (r s : Run) (x y : Devices) (t u : SourceView) : Type 0 where
  pub read : (p : Plan) → r.nodes.items ≡ ids p → HasRead e (run_way linked r.unanswered) (with_lines p lines) t u
  pub comes : (p : Plan) (z : Devices) → r.nodes.items ≡ ids p → AreDone linked (with_lines p lines) [] r z x
      → ReachesEnd e (run_way linked r.unanswered) (with_lines p lines) s.output z y
  pub taken : Consumes t.left u.left (given t u)
  pub causes : HaveCauses linked (λ f. IsErrOf e f) (IsPlace (places_of r.world)) x.disks y.disks x.links y.links
  pub write : IsErrOf e fault.Write → Rose x.sink.faults y.sink.faults
  pub later : x.sink.faults ≤ y.sink.faults
