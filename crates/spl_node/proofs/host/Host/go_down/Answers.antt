use Rattle.std.{specs.Prelude.IfNone, proofs.Common.{◌≡◌, Option, None, IfSome, sym, subst, rules}}
use Rattle.spl_cell_rules.specs.Changes.{stopped_cell}
use Rattle.spl_node.{specs.{Stands.{Runs, Rests, kept_cell}, declared.node.Node.Node}, proofs.Hosting.{down_cells, rests_down}}
use Rattle.spl_node.proofs.host.Host.go_down.Goals as goal

pub returns-clause-stands : goal.returns-clause-stands
returns-clause-stands c = λ first second stands.
    let none : c.take.new.self ≡ None = search rules in
    record {
      up = subst (λ (o : Option Node). IfSome o (Runs c.args.self.now.id first second)) (sym none) tt;
      down = subst (λ (o : Option Node). IfNone o (Rests first second)) (sym none)
          (rests_down c.args.self.now.id c.args.self.now.node first second stands.up stands.down);
    }

pub returns-clause-cells : goal.returns-clause-cells
returns-clause-cells c = λ first second stands tell i.
    let none : c.take.new.self ≡ None = search rules in
    subst (λ (o : Option Node). kept_cell c.args.self.now.id o first second i
    ≡ stopped_cell (kept_cell c.args.self.now.id c.args.self.now.node first second i)) (sym none)
    (down_cells c.args.self.now.id c.args.self.now.node first second stands.up stands.down tell i)
