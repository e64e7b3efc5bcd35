use Rattle.std.proofs.Common.{◌≡◌, ◌∙◌, List, Some, sym, subst, inl, arith, rules}
use Rattle.spl_cli.specs.declared.command.Command.TheVariants as command
use Rattle.spl_cli.specs.declared.status.Status.TheVariants as status
use Rattle.spl_node.{specs.{Blank.{AllEmpty, IsFirstWithBytes}, Benches.{AreBlank, Images, images_at, images}}, proofs.Holding.{as_many, held_same}}
use Rattle.spl_node.proofs.{Holding.images_held, Journals.blank_pair, Since.same_itself, Benches.all_then}
use Rattle.spl_edge.specs.Devices.{bench}
use Rattle.spl_registry.specs.Nodes.{node_at}
use Rattle.spl_runs.specs.Run.{held_on}
use Rattle.spl_runs.specs.declared.mode.Beginning.TheVariants as beginning
use Rattle.spl_app.{specs.{Asked.mode_of, Parts.plan_given}, proofs.Beginnings.not_begun}
use Rattle.spl_app.proofs.links.links.Goals as goal

-- ---- a run that goes on

pub returns-in-Resumed-clause-came : goal.returns-in-Resumed-clause-came
returns-in-Resumed-clause-came g c = λ others.
    c.run_linked.ensures.came others (bench g.E.Disk.view c.args.pairs.now.items) (same_itself _ _)
    (λ blank. absurd (let clash : beginning.Resumed ≡ beginning.Blank = sym c.in-Resumed.is ∙ blank in cc))

-- ---- one that begins with nothing

pub check_blank-requires : goal.check_blank-requires
check_blank-requires g c = record { room = omega (arith, c.len.ensures.value, c.requires.pairs) }

pub run_linked-requires-in-Ok-clause-pairs : goal.run_linked-requires-in-Ok-clause-pairs
run_linked-requires-in-Ok-clause-pairs g c =
    omega (arith, as_many g.E.Disk.view c.check_blank.new.pairs.items c.args.pairs.now.items c.check_blank.ensures.same, c.requires.pairs)

pub run_linked-requires-in-Ok-clause-blank : goal.run_linked-requires-in-Ok-clause-blank
run_linked-requires-in-Ok-clause-blank g c = λ fresh i below.
    subst (λ (is : List Images). AreBlank (images_at is i)) (sym c.check_blank.ensures.same)
    (blank_pair (images_at (images g.E.Disk.view c.args.pairs.now.items) i) (c.in-Ok.ensures.empty i (omega (arith, below, c.len.ensures.value)))
    (c.requires.settled i below))

pub node-requires : goal.node-requires
node-requires g c = let below = (c.in-Err-NotBlank.ensures.bytes c.in-Err-NotBlank.slot (search rules)).0 in omega (arith, below, c.len.ensures.value)

pub node-requires-in-Err-Disk : goal.node-requires-in-Err-Disk
node-requires-in-Err-Disk g c = let below = (c.in-Err-Disk.ensures.failed c.in-Err-Disk.slot (search rules)).0 in omega (arith, below, c.len.ensures.value)

pub returns-in-Ok-clause-onward : goal.returns-in-Ok-clause-onward
returns-in-Ok-clause-onward g c = all_then _ _ _ c.check_blank.ensures.onward c.run_linked-in-Ok.ensures.onward

pub returns-in-Ok-clause-came : goal.returns-in-Ok-clause-came
returns-in-Ok-clause-came g c = λ others.
    c.run_linked-in-Ok.ensures.came others (bench g.E.Disk.view c.args.pairs.now.items) (record {
      same = held_same g.E.Disk.view c.check_blank.new.pairs.items c.args.pairs.now.items c.check_blank.ensures.same;
      onward = c.check_blank.ensures.onward;
      spared = λ k past. c.check_blank.ensures.spared k (omega (arith, past, c.len.ensures.value));
    }) (λ fresh k below. subst (λ (is : List Images). AllEmpty c.len.result is)
    (sym (images_held g.E.Disk.view c.args.pairs.now.items)) c.in-Ok.ensures.empty k (omega (arith, below, c.len.ensures.value)))

pub returns-in-Err-NotBlank-clause-came : goal.returns-in-Err-NotBlank-clause-came
returns-in-Err-NotBlank-clause-came g c = λ others.
    let slot = c.in-Err-NotBlank.slot in
    let found = c.in-Err-NotBlank.ensures.bytes slot (search rules) in
    let at : node_at c.args.registry.now slot ≡ Some c.node.result = search rules in
    let start = bench g.E.Disk.view c.args.pairs.now.items in
    let s = g.S.Source.view c.args.schedule.now in
    rw c.in-Blank.is (inl (not_begun (status.NotBlank c.node.result) (plan_given (mode_of command.Links) c.args.registry.now (held_on start) s s) s
    (g.W.Sink.view c.args.out.now) others start (bench g.E.Disk.view c.check_blank.new.pairs.items) (g.F.Fabric.view c.args.fabric.now)
    (held_same g.E.Disk.view c.check_blank.new.pairs.items c.args.pairs.now.items c.check_blank.ensures.same)
    (slot, at, subst (λ (is : List Images). IsFirstWithBytes slot is) (sym (images_held g.E.Disk.view c.args.pairs.now.items)) found.1)))

pub returns-in-Err-Disk-clause-came : goal.returns-in-Err-Disk-clause-came
returns-in-Err-Disk-clause-came g c = λ others.
    let slot = c.in-Err-Disk.slot in
    let found = c.in-Err-Disk.ensures.failed slot (search rules) in
    let at : node_at c.args.registry.now slot ≡ Some c.node-in-Err-Disk.result = search rules in
    let start = bench g.E.Disk.view c.args.pairs.now.items in
    let s = g.S.Source.view c.args.schedule.now in
    rw c.in-Blank.is (inl (not_begun (status.DiskFault c.node-in-Err-Disk.result)
    (plan_given (mode_of command.Links) c.args.registry.now (held_on start) s s) s (g.W.Sink.view c.args.out.now) others start
    (bench g.E.Disk.view c.check_blank.new.pairs.items) (g.F.Fabric.view c.args.fabric.now)
    (held_same g.E.Disk.view c.check_blank.new.pairs.items c.args.pairs.now.items c.check_blank.ensures.same) (slot, at, found.1)))

pub returns-in-Err-NoMemory-clause-came : goal.returns-in-Err-NoMemory-clause-came
returns-in-Err-NoMemory-clause-came g c = λ others.
    let start = bench g.E.Disk.view c.args.pairs.now.items in
    let s = g.S.Source.view c.args.schedule.now in
    rw c.in-Blank.is (inl (not_begun status.NoMemory (plan_given (mode_of command.Links) c.args.registry.now (held_on start) s s) s
    (g.W.Sink.view c.args.out.now) others start (bench g.E.Disk.view c.check_blank.new.pairs.items) (g.F.Fabric.view c.args.fabric.now)
    (held_same g.E.Disk.view c.check_blank.new.pairs.items c.args.pairs.now.items c.check_blank.ensures.same) tt))
