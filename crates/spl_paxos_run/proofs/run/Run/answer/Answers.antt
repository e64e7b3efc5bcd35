use Rattle.std.proofs.Common.{◌≡◌, ◌∙◌, ◌<◌, ℕ, List, [], ◌∷◌, ◌++◌, sym, ap, subst, arith}
use Rattle.spl_edge.{proofs.Results.{err_from, err_same, failed}, specs.Devices.bench}
use Rattle.spl_lines.specs.Due.{IsOutputDue}
use Rattle.spl_acceptor.specs.{Worlds.{paxos_answer, first_paxos_world, paxos_world_after}, declared.{group.Group.Group, message.Name.Name}}
use Rattle.spl_paxos.specs.{Lines.happening_of, declared.line.PaxosLine.PaxosLine}
use Rattle.spl_paxos_run.specs.{Places.{EachDisk, process_count}, Wholes.{ChangesFirst, HasFailedAt, HasFallen, ProcessHasPicked, WorldStands, group_of}}
use Rattle.spl_paxos_run.specs.{Run.paxos_devices, Schedule.{happenings, outputs}, Stages.RunFailsAt, declared.fault.PaxosFault.PaxosFault}
use Rattle.spl_paxos_run.specs.declared.{fault.PaxosFault.TheVariants.{BadLine, Disk, NoMemory, TooMany}, world.PaxosWorld.PaxosWorld}
use Rattle.spl_paxos_run.proofs.Halting.{due_answer, due_unanswered, part_answer, spelled_as, stops_fallen, stops_memory, stops_over, stops_sink, stepped}
use Rattle.spl_paxos_run.proofs.Standing.{spared_more}
use Rattle.spl_paxos_run.proofs.run.Run.answer.Goals as goal
use Rattle.spl_paxos_safety.specs.Written.{process_of}

pub returns-in_err-count-clause-stopped : goal.returns-in_err-count-clause-stopped
returns-in_err-count-clause-stopped g c = λ run ls x h.
    let t : ℕ × PaxosLine = (c.args.number, c.args.line.now) in
    let y = paxos_devices (g.W.Sink.view c.args.out.now) (bench g.D.Disk.view c.args.pairs.now.items) in
    let over = c.in_err-count.ensures.over ls c.args.number h.events h.stops in
    let stops =
    subst (λ (f : PaxosFault). RunFailsAt f run (ls ++ t ∷ []) c.args.self.now.output x y) (sym over.1)
    (stops_over run ls c.args.self.now x y h t over.0 over.2) in
    err_from c.from_residual.result c.in_err-count.field-0.0 (λ f. RunFailsAt f run (ls ++ t ∷ []) c.count.new.self.output x y) c.from_residual.ensures
    (subst (λ (waiting : List ℕ). RunFailsAt c.in_err-count.field-0.0 run (ls ++ t ∷ []) waiting x y) (sym c.count.ensures.output) stops)

pub returns-in_err-count-clause-good : goal.returns-in_err-count-clause-good
returns-in_err-count-clause-good g c = λ n is.
    let done = c.requires.done in
    let over = c.in_err-count.ensures.over done.1 c.args.number done.3.events done.3.stops in
    let same = err_same c.from_residual.result c.in_err-count.field-0.0 (BadLine n) c.from_residual.ensures is in
    let none : TooMany over.0 ≡ BadLine n = sym over.1 ∙ same in
    cc

pub returns-in_err-answer-clause-stopped : goal.returns-in_err-answer-clause-stopped
returns-in_err-answer-clause-stopped g c = λ run ls x h.
    let t : ℕ × PaxosLine = (c.args.number, c.args.line.now) in
    let es = happenings ls in
    let v = c.count.new.self.world in
    let old = bench g.D.Disk.view c.args.pairs.now.items in
    let new = bench g.D.Disk.view c.step.new.pairs.items in
    let sink = g.W.Sink.view c.args.out.now in
    let f = c.in_err-answer.field-0.0 in
    let group : group_of v ≡ run = ap group_of c.count.ensures.world ∙ h.group in
    let stands = subst (λ (w : PaxosWorld). WorldStands es w old) (sym c.count.ensures.world) h.stands in
    let picked = subst (λ (k : Group). EachDisk (ProcessHasPicked k es) k x.disks old) (sym group) h.picked in
    let fallen =
    subst (λ (k : Group). EachDisk (HasFallen k es (happening_of t.1)) k x.disks new) group (c.in_err-answer.ensures.fallen es x.disks stands picked) in
    let spared =
    spared_more run x.disks old new h.spared
    (subst (λ (k : Group). (i : ℕ) × (i < process_count k) × ChangesFirst i old new) group c.step.ensures.changes) in
    let why : (n : Name) → f ≡ Disk n → (n ≡ process_of (happening_of t.1)) × HasFailedAt run n x.disks new =
    λ n is. subst (λ (k : Group). (n ≡ process_of (happening_of t.1)) × HasFailedAt k n x.disks new) group
    (c.in_err-answer.ensures.failed es x.disks stands picked n (ap (failed _ PaxosFault) is)) in
    let stops = stops_fallen run ls c.args.self.now x (paxos_devices sink old) h t new fallen spared f c.in_err-answer.ensures.only why in
    err_from c.from_residual-in_err-answer.result f
    (λ e. RunFailsAt e run (ls ++ t ∷ []) c.count.new.self.output x (paxos_devices sink new)) c.from_residual-in_err-answer.ensures
    (subst (λ (waiting : List ℕ). RunFailsAt f run (ls ++ t ∷ []) waiting x (paxos_devices sink new)) (sym c.count.ensures.output) stops)

pub returns-in_err-append_answer-clause-stopped : goal.returns-in_err-append_answer-clause-stopped
returns-in_err-append_answer-clause-stopped g c = λ run ls x h.
    let t : ℕ × PaxosLine = (c.args.number, c.args.line.now) in
    let old = bench g.D.Disk.view c.args.pairs.now.items in
    let new = bench g.D.Disk.view c.step.new.pairs.items in
    let sink = g.W.Sink.view c.args.out.now in
    let after =
    stepped run ls t c.args.self.now x (paxos_devices sink old) h c.count.new.self.world c.count.ensures.world c.step.new.self c.step.ensures.group new
    c.in_ok-answer.ensures.stands c.in_ok-answer.ensures.picked c.step.ensures.changes
    (c.in_ok-count.ensures.counted ls c.args.number h.within h.events h.stops).0 in
    let due = subst (λ (waiting : List ℕ). IsOutputDue x.sink.written sink.written waiting (outputs run (first_paxos_world run) ls))
    (sym c.count.ensures.output) h.due in
    err_from c.from_residual-in_err-append_answer.result NoMemory
    (λ e. RunFailsAt e run (ls ++ t ∷ []) c.count.new.self.output x (paxos_devices sink new)) c.from_residual-in_err-append_answer.ensures
    (stops_memory run (ls ++ t ∷ []) c.step.new.self x (paxos_devices sink new) after c.count.new.self.output
    (due_unanswered run ls t x.sink.written sink.written c.count.new.self.output due))

pub returns-in-Ok-clause-done : goal.returns-in-Ok-clause-done
returns-in-Ok-clause-done g c = λ run ls x h.
    let t : ℕ × PaxosLine = (c.args.number, c.args.line.now) in
    let es = happenings ls in
    let old = bench g.D.Disk.view c.args.pairs.now.items in
    let new = bench g.D.Disk.view c.step.new.pairs.items in
    let sink = g.W.Sink.view c.args.out.now in
    let a = c.in_ok-answer.answer in
    let counted = c.in_ok-count.ensures.counted ls c.args.number h.within h.events h.stops in
    let after =
    stepped run ls t c.args.self.now x (paxos_devices sink old) h c.count.new.self.world c.count.ensures.world c.step.new.self c.step.ensures.group new
    c.in_ok-answer.ensures.stands c.in_ok-answer.ensures.picked c.step.ensures.changes counted.0 in
    let group : group_of c.count.new.self.world ≡ run = ap group_of c.count.ensures.world ∙ h.group in
    let stands = subst (λ (w : PaxosWorld). WorldStands es w old) (sym c.count.ensures.world) h.stands in
    let right = subst (λ (k : Group). a ≡ paxos_answer k (paxos_world_after k es) (happening_of t.1)) group (c.in_ok-answer.ensures.answer es stands) in
    let spelled =
    spelled_as a c.clear.new.self.items c.append_answer.new.out.items c.deref.result.now c.clear.ensures.items c.in_ok-append_answer.ensures
    c.deref.ensures.value in
    let due = subst (λ (waiting : List ℕ). IsOutputDue x.sink.written sink.written waiting (outputs run (first_paxos_world run) ls))
    (sym c.count.ensures.output) h.due in
    record {
      group = after.group;
      stands = after.stands;
      picked = after.picked;
      spared = after.spared;
      within = after.within;
      events = counted.1;
      stops = counted.2;
      due = due_answer run ls t x.sink.written sink.written c.count.new.self.output due a right c.deref.result.now spelled
          (g.W.Sink.view c.put.new.sink).written c.put.new.self c.in-Ok.ensures.ok;
      later = omega (arith, h.later, c.put.ensures.cause.later);
    }

pub returns-in-Err-clause-stopped : goal.returns-in-Err-clause-stopped
returns-in-Err-clause-stopped g c = λ run ls x h.
    let t : ℕ × PaxosLine = (c.args.number, c.args.line.now) in
    let es = happenings ls in
    let old = bench g.D.Disk.view c.args.pairs.now.items in
    let new = bench g.D.Disk.view c.step.new.pairs.items in
    let sink = g.W.Sink.view c.args.out.now in
    let later = g.W.Sink.view c.put.new.sink in
    let a = c.in_ok-answer.answer in
    let after =
    stepped run ls t c.args.self.now x (paxos_devices sink old) h c.count.new.self.world c.count.ensures.world c.step.new.self c.step.ensures.group new
    c.in_ok-answer.ensures.stands c.in_ok-answer.ensures.picked c.step.ensures.changes
    (c.in_ok-count.ensures.counted ls c.args.number h.within h.events h.stops).0 in
    let group : group_of c.count.new.self.world ≡ run = ap group_of c.count.ensures.world ∙ h.group in
    let stands = subst (λ (w : PaxosWorld). WorldStands es w old) (sym c.count.ensures.world) h.stands in
    let right = subst (λ (k : Group). a ≡ paxos_answer k (paxos_world_after k es) (happening_of t.1)) group (c.in_ok-answer.ensures.answer es stands) in
    let spelled =
    spelled_as a c.clear.new.self.items c.append_answer.new.out.items c.deref.result.now c.clear.ensures.items c.in_ok-append_answer.ensures
    c.deref.ensures.value in
    let due = subst (λ (waiting : List ℕ). IsOutputDue x.sink.written sink.written waiting (outputs run (first_paxos_world run) ls))
    (sym c.count.ensures.output) h.due in
    let part =
    part_answer run ls t x.sink.written sink.written c.count.new.self.output due a right c.deref.result.now spelled later.written c.put.new.self
    c.in-Err.ensures.part in
    subst (λ (f : PaxosFault). RunFailsAt f run (ls ++ t ∷ []) c.put.new.self x (paxos_devices later new)) (sym c.fault_of.ensures)
    (stops_sink run (ls ++ t ∷ []) c.step.new.self x (paxos_devices later new) after c.put.new.self c.in-Err.fault
    (λ is. (let rose : (g.W.Sink.view c.args.out.now).faults < later.faults = c.in-Err.ensures.cause.failed (ap (failed _ _) is) in omega
    (arith, rose, h.later))) part)
