use Rattle.std.proofs.{Common.{◌≡◌, inl, inr, List, Result, refl, sym, ◌∙◌, ap}, KnownBytes.Appends-nil}
use Rattle.spl_edge.specs.{Devices.bench, Sources.given}
use Rattle.spl_gen.specs.Circuits.{nodes as gen_nodes}
use Rattle.spl_lines.specs.Lines.{run_of}
use Rattle.spl_registry.specs.{Nodes.{Entry, local_entries}, declared.fault.RegistryFault.RegistryFault}
use Rattle.spl_circuit_world.specs.Origins.{is-blank}
use Rattle.spl_runs.specs.Run.{nodes_in, plan, held_on}
use Rattle.spl_app.{specs.{Parts.plan_given, Asked.{generated_lines, mode_of, plan_over}}, proofs.Agreed.begins_planned}
use Rattle.spl_app.proofs.top.run_command.Goals as goal
use Rattle.spl_cli.proofs.Commands.{does_read, is_replay}
use Rattle.spl_cli.specs.declared.command.Command.TheVariants as command

pub returns-in-Gen-clause-circuits : goal.returns-in-Gen-clause-circuits
returns-in-Gen-clause-circuits g c = rw c.in-Gen.is (λ runs. inr (record {
  plan = plan (local_entries gen_nodes) (generated_lines c.in-Gen.batches c.in-Gen.seed);
  spelled = refl;
  read = λ read. absurd cc;
  begins = is-blank (nodes_in (local_entries gen_nodes));
  comes = inr (c.run_generated.ensures.began (g.S.Source.view c.args.schedule.now) (bench g.E.Disk.view c.args.shelf.now.pairs.items)
      (g.F.Fabric.view c.args.fabric.now));
}))

pub returns-in-Paxos-clause-rounds : goal.returns-in-Paxos-clause-rounds
returns-in-Paxos-clause-rounds g c = λ h is.
    let both : command.Paxos c.in-Paxos.group ≡ command.Paxos h = sym c.in-Paxos.is ∙ is in
    let same : h ≡ c.in-Paxos.group = cc in
    rw same c.paxos.ensures.came

pub returns-in-Links-clause-circuits : goal.returns-in-Links-clause-circuits
returns-in-Links-clause-circuits g c =
    let files = held_on (bench g.E.Disk.view c.args.shelf.now.pairs.items) in
    let s = g.S.Source.view c.args.schedule.now in
    let t = g.S.Source.view c.links.new.schedule in
    rw c.in-Links.is (λ runs. inr (record {
      plan = plan_given (mode_of command.Links) c.in-Ok.found files s t;
      spelled = ap (λ (r : Result (List Entry) RegistryFault). plan_over (mode_of command.Links) files r (run_of (given s t))) c.in-Ok.ensures.entries;
      read = λ read. c.in-Ok.ensures.read;
      begins = begins_planned (mode_of command.Links) c.in-Ok.found files (run_of (given s t));
      comes = c.links.ensures.came (bench g.D.Disk.view c.args.bench.now.pairs.items);
    }))

pub returns-in-Resume-clause-circuits : goal.returns-in-Resume-clause-circuits
returns-in-Resume-clause-circuits g c =
    let files = held_on (bench g.E.Disk.view c.args.shelf.now.pairs.items) in
    let s = g.S.Source.view c.args.schedule.now in
    let t = g.S.Source.view c.links-in-Resume.new.schedule in
    rw c.in-Resume.is (λ runs. inr (record {
      plan = plan_given (mode_of command.Resume) c.in-Ok.found files s t;
      spelled = ap (λ (r : Result (List Entry) RegistryFault). plan_over (mode_of command.Resume) files r (run_of (given s t))) c.in-Ok.ensures.entries;
      read = λ read. c.in-Ok.ensures.read;
      begins = begins_planned (mode_of command.Resume) c.in-Ok.found files (run_of (given s t));
      comes = c.links-in-Resume.ensures.came (bench g.D.Disk.view c.args.bench.now.pairs.items);
    }))

pub returns-in-Audit-clause-audited : goal.returns-in-Audit-clause-audited
returns-in-Audit-clause-audited g c =
    λ is. inr (record { nodes = c.in-Ok.found; spelled = c.in-Ok.ensures.entries; read = c.in-Ok.ensures.read; audited = c.audit_disks.ensures.came })

pub returns-in-Trace-clause-circuits : goal.returns-in-Trace-clause-circuits
returns-in-Trace-clause-circuits g c =
    let shelf = bench g.E.Disk.view c.args.shelf.now.pairs.items in
    let s = g.S.Source.view c.args.schedule.now in
    let t = g.S.Source.view c.replay.new.schedule in
    rw c.in-Trace.is (λ runs. inr (record {
      plan = plan_given (mode_of command.Trace) c.in-Ok.found (held_on shelf) s t;
      spelled = ap (λ (r : Result (List Entry) RegistryFault). plan_over (mode_of command.Trace) (held_on shelf) r
          (run_of (given s t))) c.in-Ok.ensures.entries;
      read = λ read. c.in-Ok.ensures.read;
      begins = begins_planned (mode_of command.Trace) c.in-Ok.found (held_on shelf) (run_of (given s t));
      comes = inr (c.replay.ensures.began shelf (g.F.Fabric.view c.args.fabric.now));
    }))

pub returns-in-Ok-clause-circuits : goal.returns-in-Ok-clause-circuits
returns-in-Ok-clause-circuits g c =
    let shelf = bench g.E.Disk.view c.args.shelf.now.pairs.items in
    let s = g.S.Source.view c.args.schedule.now in
    let t = g.S.Source.view c.replay-in_default-command-2.new.schedule in
    rw (is_replay c.args.command c.in_default-command-2.not-Links c.in_default-command-2.not-Resume c.in_default-command-2.not-Audit
    c.in_default-command-2.not-Trace c.in_default.not-Gen c.in_default-command.not-Paxos) (λ runs. inr (record {
      plan = plan_given (mode_of command.Replay) c.in-Ok.found (held_on shelf) s t;
      spelled = ap (λ (r : Result (List Entry) RegistryFault). plan_over (mode_of command.Replay) (held_on shelf) r
          (run_of (given s t))) c.in-Ok.ensures.entries;
      read = λ read. c.in-Ok.ensures.read;
      begins = begins_planned (mode_of command.Replay) c.in-Ok.found (held_on shelf) (run_of (given s t));
      comes = inr (c.replay-in_default-command-2.ensures.began shelf (g.F.Fabric.view c.args.fabric.now));
    }))

pub returns-clause-circuits : goal.returns-clause-circuits
returns-clause-circuits g c =
    λ runs. inl (
      does_read c.args.command c.in_default.not-Gen c.in_default-command.not-Paxos,
      c.in-Err.ensures.ended,
      (Appends-nil _, refl, refl, refl, refl),
    )

pub returns-clause-audited : goal.returns-clause-audited
returns-clause-audited g c = λ is. inl (c.in-Err.ensures.ended, (Appends-nil _, refl, refl, refl, refl))
