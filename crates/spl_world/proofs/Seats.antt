-- What the pairs of disks at the positions of a registry hold and picked.
use Rattle.spl_node.specs.Benches.{Images, Tell, images_at}
use Rattle.spl_world.specs.{Held.{HoldFor, HasPicked, cells_after_lines, stops_at, EachSeat}, Links.{Places, seat_of}, Picks.{AllHeld, EachPair}}
use Rattle.spl_world.specs.{Views.{ArePlaced, StandsAfterLines, world_node_ids, node_view, places_of, slot_id}, declared.{slot.Slot.Slot, world.World.World}}
use Rattle.spl_world.proofs.Common.{◌≡◌, ◌≢◌, ℕ, zero, suc, false, List, [], ◌∷◌, length, map, slice_get, Some, refl, sym, ◌∙◌, ap, subst, arith, AllPairs}
use Rattle.spl_world.proofs.{Common.{NodeId, sorted, PairView, Ran, Origin, Entry, registered, node_at, Line}, Ending.{hold_as, stands_hold}}
use Rattle.spl_world.proofs.{Holding.as_many_places, HoldingNow.{IsSlot, slot_there}, HoldingSeats.{is_seated, seats_placed}}

-- the places of nodes, where each has that of this function
places_are : (place : NodeId → ℕ) (ids : List NodeId) (ks : List ℕ) → length ks ≡ length ids → Places place ids ks → ks ≡ map place ids
places_are place [] [] n h = refl
places_are place [] (k ∷ ks) n h = absurd cc
places_are place (i ∷ ids) [] n h = absurd cc
places_are place (i ∷ ids) (k ∷ ks) n h =
    let here : place i ≡ k = h zero i k refl refl in
    let less : length ks ≡ length ids = omega (arith, n) in
    let rest = places_are place ids ks less (λ j m q at there. h (suc j) m q at there) in
    ap (λ (l : List ℕ). k ∷ l) rest ∙ ap (λ (q : ℕ). q ∷ map place ids) (sym here)

-- the same nodes at the same places
pub placed_as : (es : List Entry) (w v : World) → world_node_ids v ≡ world_node_ids w → places_of v ≡ places_of w → ArePlaced es w → ArePlaced es v
placed_as es w v ids places placed = λ i n p at there.
    placed i n p (ap (λ (ns : List NodeId). slice_get ns i) (sym ids) ∙ at) (ap (λ (ks : List ℕ). slice_get ks i) (sym places) ∙ there)

module _ (es : List Entry) (w : World) (differ : AllPairs (λ x y. x ≢ y) (registered es)) (ids : world_node_ids w ≡ sorted (registered es)) (placed : ArePlaced es w) where
  pub places_seated : places_of w ≡ map (seat_of es) (sorted (registered es))
  places_seated = places_are (seat_of es) (world_node_ids w) (places_of w) (as_many_places w.slots.items) (seats_placed es w differ ids placed) ∙ ap (map (seat_of es)) ids

  -- each pair tells what it holds: what its node keeps after these lines, whatever a crash leaves of it
  pub seats_hold : {o : Origin} {others : ℕ} (rs : List Ran) (is : List Images) → StandsAfterLines o others rs w is → (k : ℕ) (n : NodeId) → node_at es k ≡ Some n
      → Tell (images_at is k) × HoldFor n (cells_after_lines o rs n) (images_at is k)
  seats_hold {o} rs is stands k n at =
      let seat = is_seated es w differ ids placed k n at in
      let f = slot_there w.slots.items seat.0 n k seat.1 seat.2 in
      let s : Slot = f.0 in
      let there : IsSlot w.slots.items seat.0 n k s = f.1 in
      let q : Images = images_at is s.position in
      let told : Tell q = (stands.each []).told seat.0 s there.there in
      let holds : HoldFor (slot_id s) (cells_after_lines o rs (slot_id s)) q = hold_as (slot_id s) (node_view s q).cells (cells_after_lines o rs (slot_id s)) (λ c. ((stands.each c).each seat.0 s there.there).state) q (stands_hold s q (stands.sits.each seat.0 s there.there)) in
      subst (λ (m : NodeId). Tell (images_at is k) × HoldFor m (cells_after_lines o rs m) (images_at is k)) there.id_is
      (subst (λ (r : ℕ). Tell (images_at is r) × HoldFor (slot_id s) (cells_after_lines o rs (slot_id s)) (images_at is r)) there.place_is (told, holds))

  -- each pair of a node is the one at its position
  pub each_seat : (P : NodeId → PairView → PairView → Type 0) (start now : List PairView) → EachPair P (world_node_ids w) (places_of w) start now
      → EachSeat (λ k n s q. P n s q) es start now
  each_seat P start now h = λ k n s q at was there.
      let seat = is_seated es w differ ids placed k n at in
      h seat.0 n k s q seat.1 seat.2 was there

  -- the pair of a node that a line doesn't stop, where only those of others changed
  pub seat_spared : (l : Line) (old new : List PairView)
      → ((i : ℕ) (s : Slot) → slice_get w.slots.items i ≡ Some s → stops_at (slot_id s) l ≡ false → slice_get new s.position ≡ slice_get old s.position)
      → (k : ℕ) (n : NodeId) → node_at es k ≡ Some n → stops_at n l ≡ false → slice_get new k ≡ slice_get old k
  seat_spared l old new others k n at none =
      let seat = is_seated es w differ ids placed k n at in
      let f = slot_there w.slots.items seat.0 n k seat.1 seat.2 in
      subst (λ (j : ℕ). slice_get new j ≡ slice_get old j) f.1.place_is (others seat.0 f.0 f.1.there (subst (λ (m : NodeId). stops_at m l ≡ false) (sym f.1.id_is) none))

pub all_picked : (o : Origin) (w : World) (start : List PairView) (rs : List Ran) (now : List PairView) → AllHeld o start rs w now
    → EachPair (HasPicked o rs) (world_node_ids w) (places_of w) start now
all_picked o w start rs now h = λ i n k s q at place was there. (h i n k s q at place was there).picked
