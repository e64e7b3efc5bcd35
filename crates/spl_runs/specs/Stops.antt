-- Where a run stopped, while some of the answers wait to be written.
use Rattle.std.specs.Prelude.{◌≡◌, ◌-◌, ℕ, Bool, List, [], ◌∷◌, ◌++◌, Option, Ok, Err, ⊤, take, IsErrOf, OnOk}
use Rattle.spl_edge.specs.Devices.{SinkView, SourceView}
use Rattle.spl_lines.specs.{Due.{IsOutputDue, IsDuePart}, Tasks.{AreTasksWithin, Task, answer_text}}
use Rattle.spl_runs.specs.{Moments.AreRun, Run.{Plan, RunMode, origin, tasks, texts, run_way, After, AreAllowed, Devices, Ended, EndsText, ErrorHasCause}}
use Rattle.spl_runs.specs.Run.{LinksHeard, HeldAtEnd, In, PickedAtStops, SentOverLinks, Stop, devices, held_on, under_way}
use Rattle.spl_runs.specs.declared.fault.RunFault.TheVariants as fault
use Rattle.spl_world.specs.declared.{fault.WorldFault.WorldFault, world.World.World}
use Rattle.spl_world.specs.declared.fault.WorldFault.TheVariants as error

-- what the disks and the links have of these tasks, and of the one under way
pub record RunLeaves (w : RunMode) (p : Plan) (before : List Task) (stop : Stop) (x y : Devices) : Type 0 where
  pub within : AreTasksWithin (origin p) before
  pub cause : (sink : SinkView) → ErrorHasCause w p before stop x (devices sink y.disks y.links)
  pub held : HeldAtEnd p before stop (held_on y.disks)
  pub picked : PickedAtStops w.linked p before stop x.disks y.disks
  pub sent : SentOverLinks p before stop x.links y.links
  pub heard : LinksHeard p before stop x.links y.links

-- ---- a task

-- it ran after these, and this is the text of its answer
abbrev pub RunsOn : Bool → Plan → List Task → Task → World → Devices → Devices → List ℕ → Type 0
RunsOn linked p ts t w x y told = (told ≡ answer_text (origin p) ts t.line) × AreRun linked p (ts ++ t ∷ []) w x y

-- it ended with this error, however many lines are unanswered
abbrev pub StopsInTask : Bool → Plan → List Task → Task → Devices → Devices → WorldFault → Type 0
StopsInTask linked p ts t x y e = (unanswered : ℕ) → RunLeaves (run_way linked unanswered) p ts (In t e) x y

-- ---- a run of tasks

-- where a run stops that ends so, before these tasks: in a task with this error, a failed write in none that found no memory, and
-- a bad line and the end of all lines after all
abbrev pub IsStopOf : Ended → Stop → List Task → Type 0
IsStopOf (Err (fault.World e)) stop more = (t : Task) × (stop ≡ In t e)
IsStopOf (Err fault.Write) stop more = (t : Task) → stop ≡ In t error.NoMemory → ⊥
IsStopOf (Err fault.NoMemory) stop more = ⊤
IsStopOf e stop more = (stop ≡ After) × (more ≡ [])

-- all of these answers were written or wait, and a prefix of them where a write failed or memory ran out
abbrev pub Due : Ended → Option (List ℕ) → Option (List ℕ) → List ℕ → List ℕ → Type 0
Due (Err fault.Write) old new waiting all = IsDuePart old new waiting all
Due (Err fault.NoMemory) old new waiting all = IsDuePart old new waiting all
Due e old new waiting all = IsOutputDue old new waiting all

-- a run of these tasks ended so
pub record StopsWith (e : Ended) (w : RunMode) (p : Plan) (ts : List Task) (waiting : List ℕ) (x y : Devices) : Type 0 where
  pub before : List Task
  pub stop : Stop
  pub more : List Task
  pub all : ts ≡ before ++ (under_way stop ++ more)
  pub leaves : RunLeaves w p before stop x y
  pub is_stop : IsStopOf e stop more
  pub due : Due e x.sink.written y.sink.written waiting (texts p before)

-- ---- a run of a plan

-- the lines before its end are such as the schedule may have
abbrev pub AllAllowed : Ended → RunMode → Plan → Type 0
AllAllowed (Ok e) w p = AreAllowed w p p.lines
AllAllowed (Err (fault.BadLine n)) w p = AreAllowed w p (take (n - 1) p.lines)
AllAllowed e w p = ⊤

-- what its source gave, and that the lines before its end are such as the schedule may have
pub record HasRead (e : Ended) (w : RunMode) (p : Plan) (s t : SourceView) : Type 0 where
  pub text : EndsText e w p s t
  pub allowed : AllAllowed e w p

-- a run of a plan ended so in what is run of the first of its lines
pub record ReachesEnd (e : Ended) (w : RunMode) (p : Plan) (wait : List ℕ) (x y : Devices) : Type 0 where
  pub lines : List (List ℕ)
  pub rest : List (List ℕ)
  pub place : p.lines ≡ lines ++ rest
  pub allowed : AreAllowed w p lines
  pub all : OnOk e (p.lines ≡ lines)
  pub bad : (n : ℕ) → IsErrOf e (fault.BadLine n) → take (n - 1) p.lines ≡ lines
  pub stops : StopsWith e w p (tasks w lines) wait x y
