-- What happens at one node moves the worlds that the nodes stand for.
use Rattle.std.proofs.Common.{append-nil}
use Rattle.spl_agree.proofs.Tests.{if_true, if_false}
use Rattle.spl_circuit_world.specs.{Answers.line_stops, Worlds.{on_pair, node_stopped, started}, Apart.whole_from-append, Whole.world_after_line}
use Rattle.spl_circuit_world.proofs.LinesAsOccurrences.{fit-append}
use Rattle.spl_cell_rules.specs.Cells.{site_at}
use Rattle.spl_node.specs.Benches.{TellAs, Images, Tell, images_at}
use Rattle.spl_world.specs.{Kept.{NodeView, PlaceView, IsDone, circuit_place, sent_to, sends_to, Posted, lists_about}, Views.{Nodes, HoldsWorld, IsAs, Moves}}
use Rattle.spl_world.specs.Views.{Sits, node_view, slot_id, slot_ids, slot_up, view_in, StandsAfterLines, world_node_ids, nodes_over}
use Rattle.spl_world.{specs.declared.{slot.Slot.Slot, world.World.World}, proofs.Common.{◌≡◌, ℕ, inl, inr, true, false, List, [], ◌∷◌, ◌++◌, Some, slice_get}}
use Rattle.spl_world.proofs.Common.{refl, ap, sym, ◌∙◌, subst, ◌+◌, Bool, if◌then◌else◌, arith, bytes_eq, bool_cases, bytes_are, bytes_same, NodeId}
use Rattle.spl_world.proofs.Common.{CircuitId, has_node, line_events, events_of, stops_of, Ran, lines_fit, put_at-here, put_at-other, CircuitWorld}
use Rattle.spl_world.proofs.Common.{posted_outgoing, circuit_carried_out, Origin, SentMessage, first_world, step_plan, halted, Stops, Starts, Halts}
use Rattle.spl_world.proofs.Common.{circuit_happens, on_pair-append, whole_world, events-more, Cell, after_plan, changes_made, stopped_cell, plan_of}
use Rattle.spl_world.proofs.{Common.{step_node, is_line, Step, Event, Outgoing, Plan}, Pairing.{changed, changed_holds}, Slots.{same_at, id_at, apart}}
use Rattle.spl_world.proofs.{Standing.stops_after, Telling.told_as}

-- ---- what is posted

posted_here : (ns : List NodeId) (n b : NodeId) (os : List Outgoing) → has_node ns b ≡ true → on_pair n b (posted_outgoing ns n os) ≡ sends_to b os
posted_here ns n b [] h = refl
posted_here ns n b (o ∷ os) h = elim (bool_cases (bytes_eq o.to b)) [
  | inl q ↦ rw (subst (λ (a : NodeId). has_node ns a ≡ true) (sym (bytes_are o.to b q)) h, bytes_same n, q) (ap (λ ms. o.message ∷ ms) (posted_here ns n b os h))
  | inr q ↦ elim (bool_cases (has_node ns o.to)) [ inl r ↦ rw (r, bytes_same n, q) (posted_here ns n b os h) | inr r ↦ rw (r, q) (posted_here ns n b os h) ]
]

posted_else : (ns : List NodeId) (n a b : NodeId) (os : List Outgoing) → bytes_eq n a ≡ false → on_pair a b (posted_outgoing ns n os) ≡ []
posted_else ns n a b [] h = refl
posted_else ns n a b (o ∷ os) h = elim (bool_cases (has_node ns o.to)) [
  | inl r ↦ rw (r, h) (posted_else ns n a b os h)
  | inr r ↦ rw r (posted_else ns n a b os h)
]

-- ---- one node

-- the node where a plan is carried out
own_as : (c : CircuitId) (m : CircuitWorld) (x y : NodeView) (n : NodeId) (p : Plan) → x.id ≡ n → y.id ≡ x.id → y.up ≡ x.up → IsAs c m x
    → IsDone n p (circuit_place x c) (circuit_place y c) → IsAs c (circuit_carried_out m n p) y
own_as c m x y n p here same ups stood done = record {
  up = ups ∙ stood.up ∙ ap m.up (sym same);
  state = done.state ∙ ap (λ (k : Cell). after_plan n k p) (stood.state ∙ ap m.at here)
      ∙ sym (put_at-here m.at n y.id (after_plan n (m.at n) p) (ap (λ (i : NodeId). bytes_eq i n) (same ∙ here) ∙ bytes_same n));
  sent = λ b known. done.sent b ∙ ap (λ ms. ms ++ sends_to b p.sends) (stood.sent b known ∙ ap (λ (i : NodeId). on_pair i b m.sent) here)
      ∙ ap (λ ms. on_pair n b m.sent ++ ms) (sym (posted_here m.nodes n b p.sends known)) ∙ sym (on_pair-append n b m.sent (posted_outgoing m.nodes n p.sends))
      ∙ ap (λ (i : NodeId). on_pair i b (m.sent ++ posted_outgoing m.nodes n p.sends)) (sym (same ∙ here));
}

-- another node
else_as : (c : CircuitId) (m : CircuitWorld) (z : NodeView) (n : NodeId) (p : Plan) → bytes_eq z.id n ≡ false → bytes_eq n z.id ≡ false → IsAs c m z → IsAs c (circuit_carried_out m n p) z
else_as c m z n p off back stood = record {
  up = stood.up;
  state = stood.state ∙ sym (put_at-other m.at n z.id (after_plan n (m.at n) p) off);
  sent = λ b known. stood.sent b known ∙ sym (append-nil (on_pair z.id b m.sent)) ∙ ap (λ ms. on_pair z.id b m.sent ++ ms) (sym (posted_else m.nodes n z.id b p.sends back)) ∙ sym (on_pair-append z.id b m.sent (posted_outgoing m.nodes n p.sends));
}

same_as : (d : CircuitId) (m : CircuitWorld) (x y : NodeView) → y.id ≡ x.id → y.up ≡ x.up → circuit_place y d ≡ circuit_place x d → IsAs d m x → IsAs d m y
same_as d m x y same ups there stood = record {
  up = ups ∙ stood.up ∙ ap m.up (sym same);
  state = ap (λ (p : PlaceView). p.state) there ∙ stood.state ∙ ap m.at (sym same);
  sent = λ b known. ap (λ (p : PlaceView). sent_to p.sent b) there ∙ stood.sent b known ∙ ap (λ (i : NodeId). on_pair i b m.sent) (sym same);
}

-- ---- all nodes

module _ (xs : Nodes) (i : ℕ) (x y : Slot) (q : Images) (sits : Sits xs) (there : slice_get xs.slots i ≡ Some x) (place : y.position ≡ x.position)
    (same : slot_id y ≡ slot_id x) (ups : slot_up y ≡ slot_up x) where
  pub own_holds : (c : CircuitId) (m : CircuitWorld) (n : NodeId) (p : Plan) → HoldsWorld c m xs → Tell q → slot_id x ≡ n
      → IsDone n p (circuit_place (view_in xs x) c) (circuit_place (node_view y q) c) → HoldsWorld c (circuit_carried_out m n p) (changed xs i x y q)
  own_holds c m n p h tells here done =
      changed_holds xs i x y q sits there place same c m (circuit_carried_out m n p) h tells refl (own_as c m (view_in xs x) (node_view y q) n p here same ups (h.each i x there) done)
      (λ j z ne at.
      let off : bytes_eq (slot_id z) (slot_id x) ≡ false = apart (slot_ids xs.slots) i j (slot_id x) (slot_id z) h.ordered (id_at xs.slots i x there) (id_at xs.slots j z at) ne in
      let back : bytes_eq (slot_id x) (slot_id z) ≡ false =
      apart (slot_ids xs.slots) j i (slot_id z) (slot_id x) h.ordered (id_at xs.slots j z at) (id_at xs.slots i x there) (λ f. ne (sym f)) in
      else_as c m (view_in xs z) n p (ap (λ (k : NodeId). bytes_eq (slot_id z) k) (sym here) ∙ off) (ap (λ (k : NodeId). bytes_eq k (slot_id z)) (sym here) ∙ back) (h.each j z at))

  pub others_hold : (d : CircuitId) (m : CircuitWorld) → HoldsWorld d m xs → Tell q → circuit_place (node_view y q) d ≡ circuit_place (view_in xs x) d → HoldsWorld d m (changed xs i x y q)
  others_hold d m h tells kept =
      changed_holds xs i x y q sits there place same d m m h tells refl (same_as d m (view_in xs x) (node_view y q) same ups kept (h.each i x there)) (λ j z off at. h.each j z at)

-- the plan of an event at a node
pub same_plan : (xs : Nodes) (i : ℕ) (x : Slot) (c : CircuitId) (n : NodeId) (e : Event) (m : CircuitWorld) → slice_get xs.slots i ≡ Some x → slice_get (slot_ids xs.slots) i ≡ Some n → HoldsWorld c m xs → plan_of (site_at (slot_id x) c) ((view_in xs x).cells c) e ≡ plan_of (site_at n c) (m.at n) e
same_plan xs i x c n e m there at h = ap (λ (k : Cell). plan_of (site_at (slot_id x) c) k e) ((h.each i x there).state) ∙ ap (λ (k : NodeId). plan_of (site_at k c) (m.at k) e) (same_at xs.slots i x n there at)

-- an event at a node
pub event_moves : (xs : Nodes) (i : ℕ) (x y : Slot) (q : Images) (c : CircuitId) (n : NodeId) (e : Event) → Sits xs → slice_get xs.slots i ≡ Some x → y.position ≡ x.position → slot_id y ≡ slot_id x → slot_up y ≡ slot_up x → slice_get (slot_ids xs.slots) i ≡ Some n → TellAs (images_at xs.disks x.position) q
    → IsDone (slot_id x) (plan_of (site_at (slot_id x) c) ((view_in xs x).cells c) e) (circuit_place (view_in xs x) c) (circuit_place (node_view y q) c)
    → ((d : CircuitId) → bytes_eq c d ≡ false → circuit_place (node_view y q) d ≡ circuit_place (view_in xs x) d)
    → Moves c (λ m. circuit_carried_out m n (plan_of (site_at n c) (m.at n) e)) xs (changed xs i x y q)
event_moves xs i x y q c n e sits there place same ups at tells done others = record {
  own = λ m h.
      let here : slot_id x ≡ n = same_at xs.slots i x n there at in
      let plans : plan_of (site_at (slot_id x) c) ((view_in xs x).cells c) e ≡ plan_of (site_at n c) (m.at n) e = same_plan xs i x c n e m there at h in
      own_holds xs i x y q sits there place same ups c m n (plan_of (site_at n c) (m.at n) e) h (told_as (images_at xs.disks x.position) q tells (h.told i x there)) here
      (subst (λ (p : Plan). IsDone n p (circuit_place (view_in xs x) c) (circuit_place (node_view y q) c)) plans (subst (λ (k : NodeId). IsDone k (plan_of (site_at (slot_id x) c) ((view_in xs x).cells c) e) (circuit_place (view_in xs x) c) (circuit_place (node_view y q) c)) here done));
  others = λ d m off h. others_hold xs i x y q sits there place same ups d m h (told_as (images_at xs.disks x.position) q tells (h.told i x there)) (others d off);
}

-- ---- a node goes down or comes up, in each world that the nodes stand for

-- two worlds that are the same but at one node
pub record IsSameBut (n : NodeId) (m m2 : CircuitWorld) : Type 0 where
  pub nodes : m2.nodes ≡ m.nodes
  pub sent : m2.sent ≡ m.sent
  pub up : (k : NodeId) → bytes_eq k n ≡ false → m2.up k ≡ m.up k
  pub at : (k : NodeId) → bytes_eq k n ≡ false → m2.at k ≡ m.at k

module _ (xs : Nodes) (i : ℕ) (x y : Slot) (q : Images) (sits : Sits xs) (there : slice_get xs.slots i ≡ Some x) (place : y.position ≡ x.position)
    (same : slot_id y ≡ slot_id x) (tells : Tell q) where
  -- the cells of the node, before and after
  abbrev was_at : CircuitId → Cell
  was_at c = (view_in xs x).cells c

  abbrev is_at : CircuitId → Cell
  is_at c = (node_view y q).cells c

  -- one node is as the second world has it, and sent nothing more
  pub but_holds : (c : CircuitId) (m m2 : CircuitWorld) → HoldsWorld c m xs → IsSameBut (slot_id x) m m2 → slot_up y ≡ m2.up (slot_id x)
      → is_at c ≡ m2.at (slot_id x) → y.posts ≡ x.posts → HoldsWorld c m2 (changed xs i x y q)
  but_holds c m m2 h o up state sent = changed_holds xs i x y q sits there place same c m m2 h tells o.nodes here else_here
    where
      here : IsAs c m2 (node_view y q)
      here = record {
        up = up ∙ ap m2.up (sym same);
        state = state ∙ ap m2.at (sym same);
        sent = λ b known. ap (λ (ps : Posted). sent_to (lists_about ps c) b) sent ∙ (h.each i x there).sent b (subst (λ (ns : List NodeId). has_node ns b ≡ true) o.nodes known) ∙ ap (λ (ss : List SentMessage). on_pair (slot_id x) b ss) (sym o.sent) ∙ ap (λ (k : NodeId). on_pair k b m2.sent) (sym same);
      }

      else_here : (j : ℕ) (z : Slot) → (j ≡ i → ⊥) → slice_get xs.slots j ≡ Some z → IsAs c m2 (view_in xs z)
      else_here j z ne at =
          let off : bytes_eq (slot_id z) (slot_id x) ≡ false = apart (slot_ids xs.slots) i j (slot_id x) (slot_id z) h.ordered (id_at xs.slots i x there) (id_at xs.slots j z at) ne in
          let old = h.each j z at in record {
            up = old.up ∙ sym (o.up (slot_id z) off);
            state = old.state ∙ sym (o.at (slot_id z) off);
            sent = λ b known. old.sent b (subst (λ (ns : List NodeId). has_node ns b ≡ true) o.nodes known) ∙ ap (λ (ss : List SentMessage). on_pair (slot_id z) b ss) (sym o.sent);
          }

  -- a node that was up goes down
  pub stop_holds : (c : CircuitId) (m : CircuitWorld) → HoldsWorld c m xs → slot_up x ≡ true → slot_up y ≡ false → is_at c ≡ stopped_cell (was_at c)
      → y.posts ≡ x.posts → HoldsWorld c (circuit_happens m (Stops (slot_id x))) (changed xs i x y q)
  stop_holds c m h was up state sent =
      if_true (λ (w : CircuitWorld). HoldsWorld c w (changed xs i x y q)) (m.up (slot_id x)) (node_stopped m (slot_id x)) m (sym (h.each i x there).up ∙ was)
      (but_holds c m (node_stopped m (slot_id x)) h (record { nodes = refl; sent = refl; up = λ k off. put_at-other m.up (slot_id x) k false off; at = λ k off. put_at-other m.at (slot_id x) k (stopped_cell (m.at (slot_id x))) off })
      (up ∙ sym (put_at-here m.up (slot_id x) (slot_id x) false (bytes_same (slot_id x))))
      (state ∙ ap stopped_cell (h.each i x there).state ∙ sym (put_at-here m.at (slot_id x) (slot_id x) (stopped_cell (m.at (slot_id x))) (bytes_same (slot_id x)))) sent)

  -- in an event of this circuit
  pub halt_holds : (c : CircuitId) (m : CircuitWorld) (s : Step) (kept : Bool) → step_node s ≡ slot_id x → HoldsWorld c m xs → slot_up x ≡ true → slot_up y ≡ false → is_at c ≡ stopped_cell (if kept then changes_made (slot_id x) (m.at (slot_id x)) (step_plan m s).changes else m.at (slot_id x)) → y.posts ≡ x.posts → HoldsWorld c (circuit_happens m (Halts kept s)) (changed xs i x y q)
  halt_holds c m s kept at h was up state sent = subst (λ (n : NodeId). HoldsWorld c (if m.up n then halted m n kept (step_plan m s) else m) (changed xs i x y q)) (sym at)
      (if_true (λ (w : CircuitWorld). HoldsWorld c w (changed xs i x y q)) (m.up (slot_id x)) (halted m (slot_id x) kept (step_plan m s)) m (sym (h.each i x there).up ∙ was)
      (but_holds c m (halted m (slot_id x) kept (step_plan m s)) h (record { nodes = refl; sent = refl; up = λ k off. put_at-other m.up (slot_id x) k false off; at = λ k off. put_at-other m.at (slot_id x) k _ off })
      (up ∙ sym (put_at-here m.up (slot_id x) (slot_id x) false (bytes_same (slot_id x))))
      (state ∙ sym (put_at-here m.at (slot_id x) (slot_id x) _ (bytes_same (slot_id x)))) sent))

  -- a node that was down comes up, with the cells that it had
  pub start_holds : (c : CircuitId) (m : CircuitWorld) → HoldsWorld c m xs → slot_up x ≡ false → slot_up y ≡ true → is_at c ≡ was_at c → y.posts ≡ x.posts
      → HoldsWorld c (circuit_happens m (Starts (slot_id x))) (changed xs i x y q)
  start_holds c m h was up state sent = if_false (λ (w : CircuitWorld). HoldsWorld c w (changed xs i x y q)) (m.up (slot_id x)) m (started m (slot_id x)) (sym (h.each i x there).up ∙ was)
      (but_holds c m (started m (slot_id x)) h (record { nodes = refl; sent = refl; up = λ k off. put_at-other m.up (slot_id x) k true off; at = λ k off. refl })
      (up ∙ sym (put_at-here m.up (slot_id x) (slot_id x) true (bytes_same (slot_id x))))
      (state ∙ (h.each i x there).state) sent)

  -- whether it was up before or not
  pub starts : (c : CircuitId) (m : CircuitWorld) → HoldsWorld c m xs → slot_up y ≡ true → is_at c ≡ was_at c → y.posts ≡ x.posts
      → HoldsWorld c (circuit_happens m (Starts (slot_id x))) (changed xs i x y q)
  starts c m h up state sent = elim (bool_cases (slot_up x)) [
    | inl u ↦ if_true (λ (w : CircuitWorld). HoldsWorld c w (changed xs i x y q)) (m.up (slot_id x)) m (started m (slot_id x)) (sym (h.each i x there).up ∙ u)
        (but_holds c m m h (record { nodes = refl; sent = refl; up = λ k off. refl; at = λ k off. refl }) (up ∙ sym u ∙ (h.each i x there).up) (state ∙ (h.each i x there).state) sent)
    | inr d ↦ start_holds c m h d up state sent
  ]

  pub stops : (c : CircuitId) (m : CircuitWorld) → HoldsWorld c m xs → slot_up y ≡ false → (slot_up x ≡ true → is_at c ≡ stopped_cell (was_at c))
      → (slot_up x ≡ false → is_at c ≡ was_at c) → y.posts ≡ x.posts → HoldsWorld c (circuit_happens m (Stops (slot_id x))) (changed xs i x y q)
  stops c m h down was_up was_down sent = elim (bool_cases (slot_up x)) [
    | inl u ↦ stop_holds c m h u down (was_up u) sent
    | inr d ↦ if_false (λ (w : CircuitWorld). HoldsWorld c w (changed xs i x y q)) (m.up (slot_id x)) (node_stopped m (slot_id x)) m (sym (h.each i x there).up ∙ d)
        (but_holds c m m h (record { nodes = refl; sent = refl; up = λ k off. refl; at = λ k off. refl }) (down ∙ sym d ∙ (h.each i x there).up) (was_down d ∙ (h.each i x there).state) sent)
  ]

-- where it is so already, nothing happens
pub stop_none : (c : CircuitId) (m : CircuitWorld) (xs : Nodes) (n : NodeId) → HoldsWorld c m xs → m.up n ≡ false → HoldsWorld c (circuit_happens m (Stops n)) xs
stop_none c m xs n h down = if_false (λ (w : CircuitWorld). HoldsWorld c w xs) (m.up n) (node_stopped m n) m down h

pub halt_none : (c : CircuitId) (m : CircuitWorld) (xs : Nodes) (s : Step) (kept : Bool) → HoldsWorld c m xs → m.up (step_node s) ≡ false → HoldsWorld c (circuit_happens m (Halts kept s)) xs
halt_none c m xs s kept h down = if_false (λ (w : CircuitWorld). HoldsWorld c w xs) (m.up (step_node s)) (halted m (step_node s) kept (step_plan m s)) m down h

-- ---- lines

module _ {o : Origin} {others : ℕ} (before : List Ran) (old new : World) (was is : List Images) (ids : world_node_ids new ≡ world_node_ids old) (one : new.events ≡ old.events + 1) (now : ℕ) (stops : new.stops ≡ old.stops + now) (stands : StandsAfterLines o others before old was) (sits : Sits (nodes_over new is)) where
  fits : (r : Ran) → is_line r.line ≡ true → lines_fit (before ++ r ∷ []) ≡ true
  fits r k = fit-append before (r ∷ []) stands.fit (rw k)

  -- the line is one event
  abbrev IsOne : Ran → Type 0
  IsOne r = line_events (λ c. whole_world o c before) r.line ≡ 1

  counted : (r : Ran) → is_line r.line ≡ true → IsOne r → new.events ≡ events_of o (before ++ r ∷ []) + others
  counted r k n =
      omega (arith, one, stands.counted, n, events-more o before r stands.begins (fits r k))

  more_stops : (r : Ran) → line_stops r.line ≡ now → new.stops ≡ stops_of (before ++ r ∷ [])
  more_stops r k = let more = stops_after before r in let was_so = stands.stopped in omega (arith, more, k, was_so, stops)

  -- any line, by what it does in each world
  pub stands_line : (r : Ran) → is_line r.line ≡ true → IsOne r → line_stops r.line ≡ now → ((c : CircuitId) (m : CircuitWorld) → HoldsWorld c m (nodes_over old was) → HoldsWorld c (world_after_line c m r) (nodes_over new is)) → StandsAfterLines o others (before ++ r ∷ []) new is
  stands_line r k n none h = record {
    begins = stands.begins;
    nodes = ids ∙ stands.nodes;
    fit = fits r k;
    counted = counted r k n;
    stopped = more_stops r none;
    each = λ c. subst (λ (m : CircuitWorld). HoldsWorld c m (nodes_over new is)) (sym (whole_from-append c (first_world o c) before (r ∷ []))) (h c (whole_world o c before) (stands.each c));
    sits = sits;
  }
