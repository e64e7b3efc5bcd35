-- What holds of each plan.
use Rattle.std.proofs.Common.{ℕ, List, [], ◌∷◌, ◌++◌, subst}
use Rattle.spl_cli.specs.declared.command.Command.{Command}
use Rattle.spl_cli.specs.declared.command.Command.TheVariants as command
use Rattle.spl_circuit_safety.specs.Agreement.{restarts}
use Rattle.spl_circuit.specs.Nodes.{NodeId}
use Rattle.spl_app.{specs.{Asked.way_of, Headline.{PlanAgrees, HistoryGoesOn, Laws}}, proofs.GoingOn.plain-restarts}
use Rattle.spl_circuit_world.specs.{Projection.AllPlain, Worlds.{IsOrigin, Occurrence}, Origins.is-blank}
use Rattle.spl_registry.specs.Nodes.{Entry}
use Rattle.spl_runs.specs.{Run.{Plan, ids, nodes_in, origin, origin_in, run_plan, tasks}, declared.mode.{Beginning.Beginning, Mode.Mode}}
use Rattle.spl_runs.proofs.Plans.{origin_planned}
use Rattle.spl_runs.specs.declared.mode.Beginning.TheVariants as beginning
use Rattle.spl_node.specs.Benches.{Images}
use Rattle.spl_world.proofs.Origins.{is_origin_on}

-- ---- what holds of each plan

pub plain_more : (es : List Occurrence) (ns : List NodeId) → AllPlain es → AllPlain (es ++ restarts ns)
plain_more [] ns plain = plain-restarts ns
plain_more (e ∷ es) ns plain = (plain.0, plain_more es ns plain.1)

pub agrees : (m : Command) (p : Plan) → Laws (ids p) (tasks (way_of m) p.lines) → HistoryGoesOn (origin p) (tasks (way_of m) p.lines) → PlanAgrees m p
agrees command.Resume p fresh on = on
agrees command.Replay p fresh on = fresh
agrees command.Trace p fresh on = fresh
agrees command.Links p fresh on = fresh
agrees command.Audit p fresh on = fresh
agrees (command.Gen n seed) p fresh on = fresh
agrees (command.Paxos g) p fresh on = fresh

-- what a plan begins with in a mode
pub begins_planned : (m : Mode) (es : List Entry) (is : List Images) (lines : List (List ℕ)) → IsOrigin (origin (run_plan m es is lines))
begins_planned m es is lines = subst IsOrigin (origin_planned m es is lines) (by m.beginning)
  where
    by : (b : Beginning) → IsOrigin (origin_in b es is)
    by beginning.Resumed = is_origin_on es is
    by beginning.Blank = is-blank (nodes_in es)
