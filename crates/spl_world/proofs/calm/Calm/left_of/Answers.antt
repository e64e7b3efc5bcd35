use Rattle.spl_world.{specs.Views.world_node_ids, proofs.{Common.{◌≤◌, ◌+◌, ℕ, List, subst, sum}, Cursor.{left_by, row_there}}}
use Rattle.spl_world.proofs.calm.Calm.left_of.Goals as goal

pub returns : goal.returns
returns c = λ is z a h f at.
    let rows = c.args.self.now.rows.items in
    let there = row_there _ rows c.args.from c.index.result.now c.requires.square c.requires.below c.index.ensures in
    left_by z a (world_node_ids c.args.world.now) c.total-total.result c.left_of.result c.index.result.now.items
    (f.tracks.taken c.args.from a c.index.result.now at there) (c.total-total.ensures is z.world a h at)
    (subst (λ (ns : List ℕ). c.total-total.result ≤ c.left_of.result + sum ns) c.as_slice.ensures.value c.left_of.ensures)
