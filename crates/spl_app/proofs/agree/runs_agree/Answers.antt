use Rattle.std.proofs.Common.{◌++◌, arith, refl}
use Rattle.spl_circuit.specs.Nodes.{CircuitId}
use Rattle.spl_lines.specs.Tasks.{asked_by, ran_by}
use Rattle.spl_circuit_world.specs.Worlds.{blank}
use Rattle.spl_runs.specs.Run.{ids, origin, tasks}
use Rattle.spl_circuit_safety.specs.Agreement.{restarts}
use Rattle.spl_app.{specs.Asked.way_of, proofs.{Tasks.tasks_fit, Agreed.{agrees, plain_more}}}
use Rattle.spl_app.proofs.agree.runs_agree.Goals as goal

pub returns : goal.returns
returns c = λ m p.
    let fits = tasks_fit c.lines_have_one_spelling.ensures c.watch_lines_are_read_back.ensures.only (way_of m) p.lines in
    let ran = ran_by (tasks (way_of m) p.lines) in
    let o = origin p in
    agrees m p (record {
      agree = c.circuits_agree.ensures.lines (ids p) ran fits;
      one_list = c.members_tell_one_list.ensures (ids p) ran fits;
      shown = c.answers_show_prefixes.ensures (ids p) ran fits;
      taken = c.watchers_take_one_list.ensures (ids p) (asked_by (tasks (way_of m) p.lines)) fits;
      traced = λ named within. c.traces_are_one_run.ensures (blank (ids p)) ran (record { only = λ d n h. refl; listed = λ d n h. refl }) fits
          (c.flat_schedules_fit.ensures (ids p) ran named fits (omega (arith, within.0)));
      asked = λ named within. c.traces_ask_watchers_alike.ensures (blank (ids p)) (asked_by (tasks (way_of m) p.lines))
          (record { only = λ d n h. refl; listed = λ d n h. refl }) fits (c.flat_schedules_fit.ensures (ids p) ran named fits (omega (arith, within.0)));
    }) (λ before left.
    let both = λ (d : CircuitId). before d ++ restarts o.nodes in
    let plain = λ (d : CircuitId). plain_more (before d) o.nodes (left.plain d) in
    let has = λ (d : CircuitId). c.resumed_circuits_agree.ensures.left o d (before d) (left.own d) (left.cells d) in
    record {
      agree = c.resumed_circuits_agree.ensures.on o both ran fits plain has;
      shown = λ start. c.resumed_circuits_agree.ensures.shown o both ran start fits plain has;
      taken = λ start. c.watchers_take_on.ensures o both (asked_by (tasks (way_of m) p.lines)) start fits plain has;
    })
