use Rattle.std.proofs.{Common.{◌≡◌, Some, refl, sym, ◌∙◌}, KnownBytes.Appends-nil}
use Rattle.spl_cli.specs.declared.command.Command.TheVariants as command
use Rattle.spl_edge.specs.Devices.{bench}
use Rattle.spl_paxos_run.{specs.Run.paxos_devices as group_devices, proofs.GroupComplete.group_complete}
use Rattle.spl_app.{specs.Asked.{Untouched, outside_of}, proofs.{Complete.{audit_done, plan_complete}, Statuses.no_usage}}
use Rattle.spl_app.proofs.top.splinter.Goals as goal

-- ---- words that are a command

pub returns-in-Some-clause-usage : goal.returns-in-Some-clause-usage
returns-in-Some-clause-usage g c = (
  λ is. absurd (no_usage _ c.run_command.result _ _ _ _ _ _ _ _ _ _ _ _ c.in-Some.command c.run_command.ensures.circuits c.run_command.ensures.audited
      c.run_command.ensures.rounds is),
  λ none. absurd (none (c.in-Some.command, c.in-Some.ensures.asked)),
)

pub returns-in-Some-clause-nothing : goal.returns-in-Some-clause-nothing
returns-in-Some-clause-nothing g c =
    λ is. absurd (no_usage _ c.run_command.result _ _ _ _ _ _ _ _ _ _ _ _ c.in-Some.command c.run_command.ensures.circuits c.run_command.ensures.audited
    c.run_command.ensures.rounds is)

pub returns-in-Some-clause-apart : goal.returns-in-Some-clause-apart
returns-in-Some-clause-apart g c = λ m asks.
    let both : Some c.in-Some.command ≡ Some m = sym c.in-Some.is ∙ c.command_of.ensures.all m asks in
    let same : m ≡ c.in-Some.command = cc in
    let own = c.run_command.ensures in
    rw same (own.own_bench, own.own_shelf, own.own_fabric, own.unread, own.none_read)

pub returns-in-Some-clause-circuits : goal.returns-in-Some-clause-circuits
returns-in-Some-clause-circuits g c = λ m asks.
    let both : Some c.in-Some.command ≡ Some m = sym c.in-Some.is ∙ c.command_of.ensures.all m asks in
    let same : m ≡ c.in-Some.command = cc in
    rw same (λ runs. c.run_command.ensures.circuits runs)

pub returns-in-Some-clause-complete : goal.returns-in-Some-clause-complete
returns-in-Some-clause-complete g c = λ m asks.
    let both : Some c.in-Some.command ≡ Some m = sym c.in-Some.is ∙ c.command_of.ensures.all m asks in
    let same : m ≡ c.in-Some.command = cc in
    let now = c.args in
    let later = c.run_command.new in
    let x = outside_of g.W.Sink.view g.D.Disk.view g.E.Disk.view g.F.Fabric.view now.out.now now.bench.now now.shelf.now now.fabric.now in
    let y = outside_of g.W.Sink.view g.D.Disk.view g.E.Disk.view g.F.Fabric.view later.out later.bench later.shelf later.fabric in
    rw same (λ runs sound. plan_complete c.run_command.result c.in-Some.command (g.S.Source.view now.registry.now) (g.S.Source.view later.registry)
    (g.S.Source.view now.schedule.now) (g.S.Source.view later.schedule) x y c.run_command.ensures.nodes_taken c.run_command.ensures.taken
    (Untouched (g.W.Sink.view now.out.now)
    (g.W.Sink.view later.out) now.schedule.now later.schedule now.bench.now later.bench now.shelf.now later.shelf now.fabric.now later.fabric)
    (c.run_command.ensures.circuits runs) sound)

pub returns-in-Some-clause-audited : goal.returns-in-Some-clause-audited
returns-in-Some-clause-audited g c = λ asks.
    let both : Some c.in-Some.command ≡ Some command.Audit = sym c.in-Some.is ∙ c.command_of.ensures.all command.Audit asks in
    c.run_command.ensures.audited cc

pub returns-in-Some-clause-audit_complete : goal.returns-in-Some-clause-audit_complete
returns-in-Some-clause-audit_complete g c = λ asks sound.
    let both : Some c.in-Some.command ≡ Some command.Audit = sym c.in-Some.is ∙ c.command_of.ensures.all command.Audit asks in
    let now = c.args in
    let later = c.run_command.new in
    audit_done (Untouched (g.W.Sink.view now.out.now)
    (g.W.Sink.view later.out) now.schedule.now later.schedule now.bench.now later.bench now.shelf.now later.shelf now.fabric.now later.fabric)
    c.run_command.result (g.S.Source.view now.registry.now) (g.S.Source.view later.registry) (bench g.E.Disk.view now.shelf.now.pairs.items)
    (bench g.E.Disk.view later.shelf.pairs.items) (g.W.Sink.view now.out.now) (g.W.Sink.view later.out)
    c.run_command.ensures.nodes_taken (c.run_command.ensures.audited cc) sound

pub returns-in-Some-clause-rounds : goal.returns-in-Some-clause-rounds
returns-in-Some-clause-rounds g c = λ h. (
  λ asks. (let both : Some c.in-Some.command
      ≡ Some (command.Paxos h) = sym c.in-Some.is ∙ c.command_of.ensures.all (command.Paxos h) asks in c.run_command.ensures.rounds h cc),
  λ ls. c.rounds_decide.ensures h ls,
)

pub returns-in-Some-clause-rounds_complete : goal.returns-in-Some-clause-rounds_complete
returns-in-Some-clause-rounds_complete g c = λ h asks can none.
    let both : Some c.in-Some.command ≡ Some (command.Paxos h) = sym c.in-Some.is ∙ c.command_of.ensures.all (command.Paxos h) asks in
    let now = c.args in
    let later = c.run_command.new in
    group_complete c.run_command.result h (g.S.Source.view now.schedule.now) (g.S.Source.view later.schedule)
    (group_devices (g.W.Sink.view now.out.now) (bench g.D.Disk.view now.bench.now.pairs.items))
    (group_devices (g.W.Sink.view later.out) (bench g.D.Disk.view later.bench.pairs.items))
    c.run_command.ensures.taken (c.run_command.ensures.rounds h cc) can none

-- ---- words that are none

pub returns-in-None-clause-usage : goal.returns-in-None-clause-usage
returns-in-None-clause-usage g c = (
  λ is words. (let some = c.command_of.ensures.all words.0 words.1 in let none = c.in-None.is in cc),
  λ none. refl,
)

pub returns-in-None-clause-nothing : goal.returns-in-None-clause-nothing
returns-in-None-clause-nothing g c = λ is. (refl, (Appends-nil _, refl, refl, refl, refl))

pub returns-in-None-clause-apart : goal.returns-in-None-clause-apart
returns-in-None-clause-apart g c = λ m asks. (λ is. refl, λ is. refl, λ is. refl, λ is. refl, λ is. refl)

pub returns-in-None-clause-circuits : goal.returns-in-None-clause-circuits
returns-in-None-clause-circuits g c = λ m asks. (let some = c.command_of.ensures.all m asks in let none = c.in-None.is in absurd cc)

pub returns-in-None-clause-complete : goal.returns-in-None-clause-complete
returns-in-None-clause-complete g c = λ m asks. (let some = c.command_of.ensures.all m asks in let none = c.in-None.is in absurd cc)

pub returns-in-None-clause-audited : goal.returns-in-None-clause-audited
returns-in-None-clause-audited g c = λ asks. (let some = c.command_of.ensures.all command.Audit asks in let none = c.in-None.is in absurd cc)

pub returns-in-None-clause-audit_complete : goal.returns-in-None-clause-audit_complete
returns-in-None-clause-audit_complete g c = λ asks. (let some = c.command_of.ensures.all command.Audit asks in let none = c.in-None.is in absurd cc)

pub returns-in-None-clause-rounds : goal.returns-in-None-clause-rounds
returns-in-None-clause-rounds g c = λ h. (
  λ asks. (let some = c.command_of.ensures.all (command.Paxos h) asks in let none = c.in-None.is in absurd cc),
  λ ls. c.rounds_decide.ensures h ls,
)

pub returns-in-None-clause-rounds_complete : goal.returns-in-None-clause-rounds_complete
returns-in-None-clause-rounds_complete g c = λ h asks. (let some = c.command_of.ensures.all (command.Paxos h) asks in let none = c.in-None.is in absurd cc)
