use Rattle.std.proofs.Common.{◌≡◌, ◌⊎◌, [], Bool, Option, IfOk, OnOk, sym, ap, subst, rules}
use Rattle.spl_circuit.specs.Nodes.{CircuitId}
use Rattle.spl_edge.{proofs.Results.at_ok, specs.Devices.{Image, image_now, pair_view}}
use Rattle.spl_snapshot.specs.{Counting.{IfBoth, PairLeavesInTurn, PairTellsAs}, Pairs.is_second}
use Rattle.spl_cell_rules.specs.{Plans.plan_of, Cells.site_at}
use Rattle.spl_node.{specs.{Stands.{counts_second, StandFor, here_of, circuit_cell}, Kept.cells_after, Steps.Gives}, proofs.Hosting.{as_host, both_apply}}
use Rattle.spl_node.proofs.Hosting.{runs_on, up_runs}
use Rattle.spl_node.proofs.host.Host.handle.Goals as goal

pub returns-clause-leaves : goal.returns-clause-leaves
returns-clause-leaves g c = record {
  any_moment =
      as_host (λ here cells. IfBoth (image_now (g.D.Disk.view c.args.disks.now.first)) (image_now (g.D.Disk.view c.args.disks.now.second))
      (λ i j. PairLeavesInTurn (counts_second c.args.self.now.node) (pair_view g.D.Disk.view c.args.disks.now)
      (pair_view g.D.Disk.view c.step.new.disks)
      (λ a b. StandFor here cells a b
      ⊎ StandFor here (cells_after here cells c.args.circuit.now c.args.event.now) a b))) c.args.self.now.id c.args.self.now.node c.in-Some.node
      (image_now (g.D.Disk.view c.args.disks.now.first)) (image_now (g.D.Disk.view c.args.disks.now.second)) c.in-Some.is
      (up_runs c.args.self.now.id c.args.self.now.node c.in-Some.node (image_now (g.D.Disk.view c.args.disks.now.first))
      (image_now (g.D.Disk.view c.args.disks.now.second)) c.in-Some.is c.requires.stands.up).here_is
      (subst (λ (second : Bool). IfBoth (image_now (g.D.Disk.view c.args.disks.now.first)) (image_now (g.D.Disk.view c.args.disks.now.second))
      (λ i j. PairLeavesInTurn second (pair_view g.D.Disk.view c.args.disks.now) (pair_view g.D.Disk.view c.step.new.disks)
      (λ a b. StandFor (here_of c.in-Some.node) (circuit_cell c.in-Some.node) a b
      ⊎ StandFor (here_of c.in-Some.node)
      (cells_after (here_of c.in-Some.node) (circuit_cell c.in-Some.node) c.args.circuit.now c.args.event.now) a b)))
      (sym (ap counts_second c.in-Some.is))
      (both_apply (image_now (g.D.Disk.view c.args.disks.now.first)) (image_now (g.D.Disk.view c.args.disks.now.second))
      (λ i j. StandFor (here_of c.in-Some.node) (circuit_cell c.in-Some.node) i.bytes j.bytes)
      (λ i j. PairLeavesInTurn (is_second c.in-Some.node.pairing) (pair_view g.D.Disk.view c.args.disks.now) (pair_view g.D.Disk.view c.step.new.disks)
      (λ a b. StandFor (here_of c.in-Some.node) (circuit_cell c.in-Some.node) a b
      ⊎ StandFor (here_of c.in-Some.node)
      (cells_after (here_of c.in-Some.node) (circuit_cell c.in-Some.node) c.args.circuit.now c.args.event.now) a b))
      (up_runs c.args.self.now.id c.args.self.now.node c.in-Some.node (image_now (g.D.Disk.view c.args.disks.now.first))
      (image_now (g.D.Disk.view c.args.disks.now.second)) c.in-Some.is c.requires.stands.up).stands.cells c.step.ensures.leaves.any_moment));
  told = search rules;
  stands =
      at_ok c.step.result (λ runs. record { up = runs; down = tt })
      (runs_on c.step.result c.args.self.now.id c.in-Some.node c.step.new.self (image_now (g.D.Disk.view c.args.disks.now.first))
      (image_now (g.D.Disk.view c.args.disks.now.second)) (image_now (g.D.Disk.view c.step.new.disks.first))
      (image_now (g.D.Disk.view c.step.new.disks.second))
      (at_ok c.step.result (λ (t : PairTellsAs (pair_view g.D.Disk.view c.args.disks.now)
      (pair_view g.D.Disk.view c.step.new.disks)). t.0) c.step.ensures.leaves.told)
      (at_ok c.step.result (λ (t : PairTellsAs (pair_view g.D.Disk.view c.args.disks.now)
      (pair_view g.D.Disk.view c.step.new.disks)). t.1) c.step.ensures.leaves.told)
      (up_runs c.args.self.now.id c.args.self.now.node c.in-Some.node (image_now (g.D.Disk.view c.args.disks.now.first))
      (image_now (g.D.Disk.view c.args.disks.now.second)) c.in-Some.is c.requires.stands.up)
      c.step.ensures.ends.running c.step.ensures.here c.step.ensures.leaves.pair c.step.ensures.leaves.stands);
}

pub returns-clause-gives : goal.returns-clause-gives
returns-clause-gives g c =
    as_host (λ here cells. IfOk c.step.result (Gives (plan_of (site_at here c.args.circuit.now) (cells c.args.circuit.now) c.args.event.now)))
    c.args.self.now.id c.args.self.now.node c.in-Some.node (image_now (g.D.Disk.view c.args.disks.now.first))
    (image_now (g.D.Disk.view c.args.disks.now.second)) c.in-Some.is
    (up_runs c.args.self.now.id c.args.self.now.node c.in-Some.node (image_now (g.D.Disk.view c.args.disks.now.first))
    (image_now (g.D.Disk.view c.args.disks.now.second)) c.in-Some.is c.requires.stands.up).here_is
    c.step.ensures.gives

pub returns-clause-no_calls : goal.returns-clause-no_calls
returns-clause-no_calls g c =
    as_host (λ here cells. (plan_of (site_at here c.args.circuit.now) (cells c.args.circuit.now) c.args.event.now).changes ≡ []
    → c.step.new.disks ≡ c.args.disks.now)
    c.args.self.now.id c.args.self.now.node c.in-Some.node (image_now (g.D.Disk.view c.args.disks.now.first))
    (image_now (g.D.Disk.view c.args.disks.now.second)) c.in-Some.is
    (up_runs c.args.self.now.id c.args.self.now.node c.in-Some.node (image_now (g.D.Disk.view c.args.disks.now.first))
    (image_now (g.D.Disk.view c.args.disks.now.second)) c.in-Some.is c.requires.stands.up).here_is
    c.step.ensures.calls.no_calls

pub returns-clause-ends : goal.returns-clause-ends
returns-clause-ends g c = record { not = c.step.ensures.ends.not; failed = c.step.ensures.ends.failed; onward = c.step.ensures.ends.onward }

pub returns-clause-cells : goal.returns-clause-cells
returns-clause-cells g c =
    as_host (λ here cells. OnOk c.step.result
    (Option Image → Option Image → (i : CircuitId) → circuit_cell c.step.new.self i ≡ cells_after here cells c.args.circuit.now c.args.event.now i))
    c.args.self.now.id c.args.self.now.node c.in-Some.node (image_now (g.D.Disk.view c.args.disks.now.first))
    (image_now (g.D.Disk.view c.args.disks.now.second)) c.in-Some.is
    (up_runs c.args.self.now.id c.args.self.now.node c.in-Some.node (image_now (g.D.Disk.view c.args.disks.now.first))
    (image_now (g.D.Disk.view c.args.disks.now.second)) c.in-Some.is c.requires.stands.up).here_is
    (at_ok c.step.result (λ same first second i. same i) c.step.ensures.cells)
