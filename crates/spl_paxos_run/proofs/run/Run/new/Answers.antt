use Rattle.spl_edge.{proofs.Results.err_from, specs.Devices.bench}
use Rattle.spl_paxos_run.{proofs.Starting.none_made, specs.{Wholes.AreProcessesUnmade, declared.fault.PaxosFault.TheVariants.NoMemory}}
use Rattle.spl_paxos_run.proofs.run.Run.new.Goals as goal

pub returns-in_err-new-clause-unmade : goal.returns-in_err-new-clause-unmade
returns-in_err-new-clause-unmade g c =
    let disks = bench g.D.Disk.view c.args.pairs.now.items in
    err_from c.from_residual.result NoMemory (λ f. AreProcessesUnmade c.args.group f disks disks) c.from_residual.ensures
    (none_made c.args.group disks c.requires.fresh)
