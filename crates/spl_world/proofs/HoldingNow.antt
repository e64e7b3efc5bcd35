-- What the disks of nodes hold, and that it stands for their cells.
use Rattle.std.specs.Result.{IsOkAnd}
use Rattle.spl_node.{specs.{Records.is_record, Stands.{host_cell, Make}, Benches.{images, Images, images_at}}, proofs.Benches.told_images}
use Rattle.spl_node.proofs.{Hosting.kept_stand, Positions.mapped_there}
use Rattle.spl_snapshot.specs.Counting.{pair_records}
use Rattle.spl_world.specs.{Held.cells_after_lines, Picks.{AllHeld, AllPicked}, Views.{StandsAfterLines, world_node_ids, places_of, slot_id, slot_ids}}
use Rattle.spl_world.{specs.{Views.slot_places, declared.{slot.Slot.Slot, world.World.World}}, proofs.Common.{◌≡◌, ℕ, List, slice_get, Option, Some, None}}
use Rattle.spl_world.proofs.Common.{Result, Ok, Err, ap, subst, ◌∙◌, NodeId, CircuitId, Image, DiskView, PairView, bench, image_now, Pair, Ran, Origin}
use Rattle.spl_world.proofs.{Common.{StandFor, Cell, stopped_cell, IfBoth, sym}, Slots.place_at}

-- ---- disks that stand for the same cells

makes_as : (n : NodeId) (f g : CircuitId → Cell) → ((c : CircuitId) → f c ≡ g c) → (r : Result (List (List ℕ)) ℕ) → IsOkAnd r (Make n f) → IsOkAnd r (Make n g)
makes_as n f g same (Ok rs) h = λ c. h c ∙ ap stopped_cell (same c)
makes_as n f g same (Err at) h = h

pub stand_as : (n : NodeId) (f g : CircuitId → Cell) → ((c : CircuitId) → f c ≡ g c) → (x y : Option Image)
    → IfBoth x y (λ i j. StandFor n f i.bytes j.bytes) → IfBoth x y (λ i j. StandFor n g i.bytes j.bytes)
stand_as n f g same None p h = tt
stand_as n f g same (Some i) None h = tt
stand_as n f g same (Some i) (Some j) h = makes_as n f g same (pair_records is_record i.bytes j.bytes) h

-- ---- nodes that stand

-- up or down, the disks of a node stand for its cells
pub slot_held : {o : Origin} {others : ℕ} (rs : List Ran) (w : World) (is : List Images) → StandsAfterLines o others rs w is → (i : ℕ) (s : Slot) → slice_get w.slots.items i ≡ Some s
    → IfBoth (images_at is s.position).0 (images_at is s.position).1 (λ i j. StandFor (slot_id s) (cells_after_lines o rs (slot_id s)) i.bytes j.bytes)
slot_held {o} rs w is stands i s there =
    let q = images_at is s.position in
    let host = stands.sits.each i s there in
    stand_as (slot_id s) (host_cell s.host q.0 q.1) (cells_after_lines o rs (slot_id s)) (λ c. ((stands.each c).each i s there).state) q.0 q.1
    (kept_stand s.host.id s.host.node q.0 q.1 host.up host.down)

-- the node that has this id and this place
pub record IsSlot (ss : List Slot) (i : ℕ) (n : NodeId) (k : ℕ) (s : Slot) : Type 0 where
  pub there : slice_get ss i ≡ Some s
  pub id_is : slot_id s ≡ n
  pub place_is : s.position ≡ k

pub slot_there : (ss : List Slot) (i : ℕ) (n : NodeId) (k : ℕ) → slice_get (slot_ids ss) i ≡ Some n → slice_get (slot_places ss) i ≡ Some k → (s : Slot) × IsSlot ss i n k s
slot_there ss i n k e f =
    let s = mapped_there slot_id ss i n e in
    let place : Some s.0.position ≡ Some k = sym (place_at ss i s.0 s.1) ∙ f in
    let same : s.0.position ≡ k = cc in
    (s.0, record { there = s.1; id_is = s.2; place_is = same })

module _ {D : Type 0} (view : D → DiskView) where
  abbrev told : List (Pair D) → List PairView
  told ps = bench view ps

  pub pair_held : {o : Origin} {others : ℕ} (rs : List Ran) (w : World) (ps : List (Pair D)) → StandsAfterLines o others rs w (images view ps) → (i : ℕ) (n : NodeId) (k : ℕ) (p : PairView) → slice_get (world_node_ids w) i ≡ Some n → slice_get (places_of w) i ≡ Some k → slice_get (told ps) k ≡ Some p
      → IfBoth (p.first.image_at p.first.moment) (p.second.image_at p.second.moment) (λ i j. StandFor n (cells_after_lines o rs n) i.bytes j.bytes)
  pair_held {o} rs w ps stands i n k p at place there =
      let f = slot_there w.slots.items i n k at place in
      let s = f.0 in
      let is : IsSlot w.slots.items i n k s = f.1 in
      let q : images_at (images view ps) s.position ≡ (image_now p.first, image_now p.second) = ap (images_at (images view ps)) is.place_is ∙ told_images view ps k p there in
      subst (λ (m : NodeId). IfBoth (p.first.image_at p.first.moment) (p.second.image_at p.second.moment) (λ i j. StandFor m (cells_after_lines o rs m) i.bytes j.bytes)) is.id_is
      (subst (λ (x : Images). IfBoth x.0 x.1 (λ i j. StandFor (slot_id s) (cells_after_lines o rs (slot_id s)) i.bytes j.bytes)) q
      (slot_held rs w (images view ps) stands i s is.there))

  -- the disks of all nodes hold what the nodes keep
  pub all_held : {o : Origin} {others : ℕ} (start : List PairView) (rs : List Ran) (w : World) (ps : List (Pair D))
      → StandsAfterLines o others rs w (images view ps) → AllPicked o start rs w (told ps) → AllHeld o start rs w (told ps)
  all_held start rs w ps stands picked = λ i n k s p at place was there. record { picked = picked i n k s p at place was there; now = pair_held rs w ps stands i n k p at place there }
