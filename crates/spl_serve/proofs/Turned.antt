-- A turn of a server that took what came and is kept, or isn't.
use Rattle.std.proofs.Common.{◌≡◌, ◌⊎◌, Bool, false, List, [], ◌∷◌, Option, sym, ◌∙◌, ap, subst}
use Rattle.spl_circuit.specs.Nodes.{NodeId}
use Rattle.spl_edge.specs.Devices.{Image, image_now}
use Rattle.spl_snapshot.specs.{Counting.{IfBoth, PairLeavesInTurn, PairOnward, PairTellsAs}, Pairs.PairStands, declared.pairing.Pairing.Pairing}
use Rattle.spl_node.specs.{Records.is_record, Stands.{StandFor, is_node_halted}, declared.{form.CellForm.CellForm, node.Node.Node}}
use Rattle.spl_serve.specs.{Outside.{PortsView, grown_by, arrivals_stop}, Processes.{ServingEnds, Goes, KeptTurn, LeavesEither, LeavesPart, Place, TakesAll}}
use Rattle.spl_serve.specs.{Served.Served, Servers.{TurnBegan, TurnGoesOn, ServerStands, Serves, TakesArrivals, server_cells, server_here, server_served}}
use Rattle.spl_serve.specs.{Servers.turn_here, Turns.{Deed, cells_past, departures_of, served_past}, declared.outside.Departure.Departure}
use Rattle.spl_serve.{specs.declared.{server.Server.Server, turn.ServerTurn.ServerTurn}, proofs.Running.{ends_unkept, ends_unsaid, goes_kept, leaves_either}}
use Rattle.spl_serve.proofs.Running.{stands_after}

pub turn_pair : (s : Server) (start t : ServerTurn) (o p : Option Image) → start.turn.node ≡ s.node → TurnGoesOn start t
    → PairStands is_record s.node.pairing o p → PairStands is_record t.turn.node.pairing o p
turn_pair s start t o p same goes stands =
    subst (λ (q : Pairing CellForm). PairStands is_record q o p) (sym (goes.pairing_is ∙ ap (λ (n : Node). n.pairing) same)) stands

module _ {stops : Bool} (s : Server) (ns : List NodeId) (v w : Option PortsView) (start t : ServerTurn)
    (nothing : Serves (server_here s) (server_served s) [] start) (all : TakesAll ns stops v w start t) where
  pub turn_taken : TakesArrivals (server_here s) ns (server_served s) [] all.came t
  turn_taken = all.takes (server_here s) (server_served s) [] nothing

  pub turn_began : TurnBegan t
  turn_began =
      let h = all.takes (server_here s) (server_served s) [] nothing in
      record { here = server_here s; before = server_served s; deeds = h.more; serves = h.serves }

module _ {stops : Bool} (s : Server) (ns : List NodeId) (x y : Place) (w : Option PortsView) (start t : ServerTurn)
    (nothing : Serves (server_here s) (server_served s) [] start)
    (all : TakesAll ns stops x.ports w start t) (was : ServerStands s x.disks) (onward : PairOnward x.disks y.disks) (second : Bool)
    (moments : (here : NodeId) (before : Served) (ds : List Deed) → Serves here before ds t
    → IfBoth (image_now x.disks.first) (image_now x.disks.second) (λ i j. StandFor here before.cells i.bytes j.bytes
    → PairLeavesInTurn second x.disks y.disks (λ c d. StandFor here before.cells c d ⊎ StandFor here (cells_past here before.cells ds) c d))) where
  took : TakesArrivals (server_here s) ns (server_served s) [] all.came t
  took = all.takes (server_here s) (server_served s) [] nothing

  leaves : (ds : List Deed) → Serves (server_here s) (server_served s) ds t
      → LeavesEither (server_here s) (server_cells s) (cells_past (server_here s) (server_cells s) ds) x.disks y.disks
  leaves ds serves =
      leaves_either s (cells_past (server_here s) (server_cells s) ds) x.disks y.disks second was (moments (server_here s) (server_served s) ds serves)

  by_unkept : TakesArrivals (server_here s) ns (server_served s) [] all.came t → y.ports ≡ w → ServingEnds (server_here s) ns (server_served s) x y
  by_unkept h same = ends_unkept s ns x y all.came h.more h.brings (leaves h.more h.serves) (same ∙ all.ports)

  pub turn_unkept : y.ports ≡ w → ServingEnds (server_here s) ns (server_served s) x y
  turn_unkept = by_unkept (all.takes (server_here s) (server_served s) [] nothing)

  module _ (ds : List Departure)
      (departs : (here : NodeId) (before : Served) (es : List Deed) → Serves here before es t → ds ≡ departures_of here before es) where
    by_unsaid : TakesArrivals (server_here s) ns (server_served s) [] all.came t → LeavesPart ds w y.ports
        → ServingEnds (server_here s) ns (server_served s) x y
    by_unsaid h part = ends_unsaid s ns x y w all.came h.more h.brings (leaves h.more h.serves) onward all.ports ds
        (departs (server_here s) (server_served s) h.more h.serves) part

    pub turn_unsaid : LeavesPart ds w y.ports → ServingEnds (server_here s) ns (server_served s) x y
    turn_unsaid = by_unsaid (all.takes (server_here s) (server_served s) [] nothing)

    by_kept : TakesArrivals (server_here s) ns (server_served s) [] all.came t → (r : Server) → server_here r ≡ turn_here t → is_node_halted r.node ≡ false
        → PairStands is_record r.node.pairing (image_now y.disks.first) (image_now y.disks.second) → PairTellsAs x.disks y.disks
        → ((here : NodeId) (before : Served) (es : List Deed) → Serves here before es t → server_served r ≡ served_past here before es)
        → ((here : NodeId) (before : Served) (es : List Deed) → Serves here before es t
        → IfBoth (image_now x.disks.first) (image_now x.disks.second) (λ i j. StandFor here before.cells i.bytes j.bytes → ServerStands r y.disks))
        → y.ports ≡ grown_by [] ds w
        → (k : KeptTurn) × (stops ≡ arrivals_stop k.came) × Goes (server_here s) ns (server_served s) x (k ∷ []) y r
    by_kept h r same running pair tells cells stands ports = (
      record { came = all.came; deeds = h.more; disks = y.disks },
      all.stops_is,
      goes_kept s ns x y w all.came h.more h.brings (leaves h.more h.serves) onward all.ports ds
          (departs (server_here s) (server_served s) h.more h.serves) r (same ∙ h.serves.turn.here_is) (cells (server_here s) (server_served s) h.more h.serves)
          (stands_after s r x.disks y.disks was running pair tells (stands (server_here s) (server_served s) h.more h.serves)) ports,
    )

    pub turn_kept : (r : Server) → server_here r ≡ turn_here t → is_node_halted r.node ≡ false
        → PairStands is_record r.node.pairing (image_now y.disks.first) (image_now y.disks.second) → PairTellsAs x.disks y.disks
        → ((here : NodeId) (before : Served) (es : List Deed) → Serves here before es t → server_served r ≡ served_past here before es)
        → ((here : NodeId) (before : Served) (es : List Deed) → Serves here before es t
        → IfBoth (image_now x.disks.first) (image_now x.disks.second) (λ i j. StandFor here before.cells i.bytes j.bytes → ServerStands r y.disks))
        → y.ports ≡ grown_by [] ds w
        → (k : KeptTurn) × (stops ≡ arrivals_stop k.came) × Goes (server_here s) ns (server_served s) x (k ∷ []) y r
    turn_kept = by_kept (all.takes (server_here s) (server_served s) [] nothing)
