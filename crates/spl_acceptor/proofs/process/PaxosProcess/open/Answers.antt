use Rattle.spl_edge.specs.Devices.{image_now}
use Rattle.spl_acceptor.specs.{Keeping.ProcessKeeps, Logs.{JournalMakes, LogStands}, Records.{MakeRounds, MakeDurable}}
use Rattle.spl_acceptor.proofs.{Logs.stand_map, Making.read_durable}
use Rattle.spl_acceptor.proofs.process.PaxosProcess.open.Goals as goal
use Rattle.spl_journal.proofs.Pieces.{lift2}

pub returns-in-Ok-clause-stands : goal.returns-in-Ok-clause-stands
returns-in-Ok-clause-stands g c =
    let k = g.K.Keeps in
    let laws = g.met.K.Keeps in
    let n = c.args.group.members in
    let states = k.kept c.open.new.rounds in
    lift2 (image_now (g.D.Disk.view c.open.new.disk)) (LogStands c.in-Ok.log)
    (λ i. JournalMakes (MakeRounds k.with k.first n states) i.bytes) (ProcessKeeps (MakeDurable k.with k.stopped k.first) k.kept _)
    c.in-Ok.ensures.stands c.in-Ok.ensures.read
    (λ i log read. record {
      log = log;
      made = stand_map (MakeRounds k.with k.first n states) (MakeDurable k.with k.stopped k.first n states) i.bytes
          (read_durable k.with k.stopped k.first laws.blank n laws.alike states) read;
    })
