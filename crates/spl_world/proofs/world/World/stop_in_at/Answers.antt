use Rattle.std.specs.Option.{option_copied}
use Rattle.spl_node.{specs.{Stopping.{FillsHost, has_changes}, Benches.{images, images_of}}, proofs.Benches.one_rose}
use Rattle.spl_world.specs.{Kept.NodeView, Picks.FailsBy, Views.{HoldsWorld, Nodes, node_view, seen, slot_id, NodeSeat}, declared.slot.Slot.Slot}
use Rattle.spl_world.proofs.Common.{◌≡◌, ◌∙◌, ap, refl, sym, subst, List, Some, slice_set, true≢false, NodeId, bench, Halts, Stops, circuit_happens}
use Rattle.spl_world.proofs.{Common.{step_plan, cells_stopped, event_changes, keeps, stopped_cell, Change}, Cutting.{changes_here, halted_here, stopped_else}}
use Rattle.spl_world.proofs.{Ending.own_halted, Handling.{own_alone, own_stands, own_view, own_by}, Moving.{halt_holds, stop_holds}, Picking.one_higher}
use Rattle.spl_world.proofs.{Reading.is_there_up, Slots.{id_at, same_at}, world.World.stop_in_at.Given.Over}
use Rattle.spl_world.proofs.world.World.stop_in_at.Goals as goal
use Rattle.spl_edge.proofs.Results.{at_ok, when_ok, ok_both, on_err}

pub stop_in-requires : goal.stop_in-requires
stop_in-requires g c =
    let seat = c.place_of-place.ensures.seat c.index_mut-here.result.now c.index_mut-disks.result.now c.index_mut-here.ensures.value c.index_mut-disks.ensures.value in
    let s = c.index_mut-here.result.now in
    record { up = is_there_up c.args.self.now.slots.items c.args.slot s seat.there c.requires.up; own = c.requires.own (slot_id s) (id_at c.args.self.now.slots.items c.args.slot s seat.there); calls = c.requires.calls; stands = own_stands seat }

-- the node and its pair
abbrev seat : (g : Over) (c : goal.After-pairs-1 g)
    → NodeSeat g.D.Disk.view c.args.self.now.slots.items c.args.pairs.now.items c.args.slot c.place_of-place.result c.index_mut-here.result.now c.index_mut-disks.result.now
seat g c = c.place_of-place.ensures.seat c.index_mut-here.result.now c.index_mut-disks.result.now c.index_mut-here.ensures.value c.index_mut-disks.ensures.value

pub returns-clause-others : goal.returns-clause-others
returns-clause-others g c = λ d n m at off h.
    let ss = c.args.self.now.slots.items in
    let ps = c.args.pairs.now.items in
    let s = c.index_mut-here.result.now in
    let view = own_view (seat g c) in
    let nodes = seen g.D.Disk.view c.args.self.now ps in
    let r = images_of g.D.Disk.view c.stop_in.new.disks in
    let same = same_at ss c.args.slot s n (seat g c).there at in
    let cells = (node_view s (images_of g.D.Disk.view c.index_mut-disks.result.now)).cells in
    ok_both c.stop_in.result (λ down stopped. subst (λ (i : NodeId). HoldsWorld d (circuit_happens m (Stops i)) (record { slots = slice_set ss c.args.slot c.stop_in.new.self; disks = images g.D.Disk.view (slice_set ps c.place_of-place.result c.stop_in.new.disks) })) same
    (own_by (seat g c) c.stop_in.new.self c.stop_in.new.disks (λ (xs : Nodes). HoldsWorld d (circuit_happens m (Stops (slot_id s))) xs)
    (stop_holds nodes c.args.slot s c.stop_in.new.self r c.requires.sits (seat g c).there c.stop_in.ensures.keeps.position c.stop_in.ensures.keeps.id (g.met.D.StopDisk.tells c.stop_in.new.disks.first, g.met.D.StopDisk.tells c.stop_in.new.disks.second) d m h (is_there_up ss c.args.slot s (seat g c).there c.requires.up) down
    (stopped d ∙ stopped_else (slot_id s) cells c.args.circuit.now (event_changes (slot_id s) cells c.args.circuit.now (option_copied c.args.event))
    (keeps c.args.stopping) d off ∙ ap (λ (v : NodeView). stopped_cell (v.cells d)) (sym view)) c.stop_in.ensures.keeps.posts)))
    c.stop_in.ensures.goes.down c.stop_in.ensures.goes.stopped

pub returns-clause-alone : goal.returns-clause-alone
returns-clause-alone g c =
    let stop = c.stop_in.ensures in
    let up = is_there_up c.args.self.now.slots.items c.args.slot c.index_mut-here.result.now (seat g c).there c.requires.up in
    own_alone c.args.self.now _ (seat g c) c.stop_in.new.self c.stop_in.new.disks refl stop.keeps.id stop.keeps.position (Some c.args.stopping) c.stop_in.result
    stop.goes.stands stop.picks.forgets (at_ok c.stop_in.result (λ picked u off. picked) stop.picks.picks) (λ down. absurd (true≢false (sym up ∙ down)))

pub returns-clause-stopped : goal.returns-clause-stopped
returns-clause-stopped g c = λ m step at about is h.
    let ss = c.args.self.now.slots.items in
    let ps = c.args.pairs.now.items in
    let s = c.index_mut-here.result.now in
    let circuit = c.args.circuit.now in
    let event = option_copied c.args.event in
    let view = own_view (seat g c) in
    let nodes = seen g.D.Disk.view c.args.self.now ps in
    let r = images_of g.D.Disk.view c.stop_in.new.disks in
    let there = (seat g c).there in
    let id = same_at ss c.args.slot s _ there at in
    let up = is_there_up ss c.args.slot s there c.requires.up in
    let kept = keeps c.args.stopping in
    let changes = ap (λ (v : NodeView). event_changes (slot_id s) v.cells circuit event) (sym view) ∙ changes_here nodes c.args.slot s m step circuit event h there id about is in
    record {
      tells = when_ok c.stop_in.result (λ b told. told ∙ ap has_changes changes) c.stop_in.ensures.goes.tells;
      own = ok_both c.stop_in.result (λ down stopped. own_by (seat g c) c.stop_in.new.self c.stop_in.new.disks (λ (xs : Nodes). HoldsWorld circuit (circuit_happens m (Halts kept step)) xs)
          (halt_holds nodes c.args.slot s c.stop_in.new.self r c.requires.sits there c.stop_in.ensures.keeps.position c.stop_in.ensures.keeps.id
          (g.met.D.StopDisk.tells c.stop_in.new.disks.first, g.met.D.StopDisk.tells c.stop_in.new.disks.second) circuit m step kept (sym id) h up down
          (stopped circuit ∙ ap (λ (v : NodeView). cells_stopped (slot_id s) v.cells circuit (event_changes (slot_id s) v.cells circuit event) kept circuit) (sym view)
          ∙ halted_here nodes c.args.slot s m step circuit event h there id about is kept) c.stop_in.ensures.keeps.posts))
          c.stop_in.ensures.goes.down c.stop_in.ensures.goes.stopped;
      risen = λ t here.
          let same : s ≡ t = (let e : Some s ≡ Some t = sym there ∙ here in cc) in
          ok_both c.stop_in.result (λ rose higher. subst (λ (u : Slot). FailsBy m c.args.stopping step u (bench g.D.Disk.view ps) (bench g.D.Disk.view (slice_set ps c.place_of-place.result c.stop_in.new.disks))) same
          (record {
            torn = λ torn. one_rose g.D.Disk.view ps c.place_of-place.result c.index_mut-disks.result.now c.stop_in.new.disks (seat g c).pair s.position
                (seat g c).place (rose (λ none. torn.1 (sym changes ∙ none)) torn.0);
            checkpoint = λ full. one_higher g.D.Disk.view ps c.place_of-place.result c.index_mut-disks.result.now c.stop_in.new.disks (seat g c).pair s.position (seat g c).place
                (higher (subst (λ (xs : List Change). FillsHost s.host circuit xs) (sym changes)
                (subst (λ (d : NodeId). FillsHost s.host d (step_plan m step).changes) about full.1)) full.0);
          })) c.stop_in.ensures.picks.risen c.stop_in.ensures.picks.risen_other;
      ended = on_err c.stop_in.result (own_halted (seat g c) c.stop_in.new.self c.stop_in.new.disks circuit event m step h up id about is c.stop_in.ensures.goes.leaves);
    }
