-- What is read of one node among all.
use Rattle.std.proofs.{Common.replicate, lemmas.Bool.or_right}
use Rattle.spl_cell.specs.Due.{due}
use Rattle.spl_circuit_world.{specs.Worlds.{plan_up, on_pair, IsUnmoved}, proofs.Unmoved.unmoved-step}
use Rattle.spl_cell_rules.specs.Cells.{site_at}
use Rattle.spl_wire.specs.declared.answer.Refusal.{Refusal}
use Rattle.spl_wire.specs.declared.answer.Answer.TheVariants as answer
use Rattle.spl_wire.specs.declared.answer.Refusal.TheVariants as refusal
use Rattle.spl_world.specs.{Calms.{due_at, sender_counts}, Kept.{lists_about, sent_to, NodeView}, Views.{Nodes, HoldsWorld, slot_ids, slot_up, slot_ups}}
use Rattle.spl_world.{specs.{Views.{slot_id, view_in, IsAs, Moves, WorldsStay}, declared.slot.Slot.Slot}, proofs.Common.{◌≡◌, ℕ, zero, suc, Bool, true}}
use Rattle.spl_world.proofs.Common.{false, List, [], ◌∷◌, Some, slice_get, if◌then◌else◌, refl, ap, sym, ◌∙◌, ◌⊎◌, ◌||◌, length, None, subst, inl, inr}
use Rattle.spl_world.proofs.Common.{Result, Ok, Err, OnOk, IfOk, bytes_eq, bool_cases, bytes_same, bytes_are, NodeId, CircuitId, has_node, CircuitWorld}
use Rattle.spl_world.proofs.{Common.{step_plan, step_world, messages, SentMessage, Cell, tells_only, step_node, Step, Answer}, Slots.same_at}
use Rattle.spl_node.proofs.Positions.{mapped_at, mapped_there}

-- ---- where a node is up

pub step_up : (m : CircuitWorld) (s : Step) → m.up (step_node s) ≡ true → step_plan m s ≡ plan_up m s
step_up m s h = ap (λ (b : Bool). if b then plan_up m s else tells_only (answer.Refused refusal.Down)) h

pub step_down : (m : CircuitWorld) (s : Step) → m.up (step_node s) ≡ false → step_plan m s ≡ tells_only (answer.Refused refusal.Down)
step_down m s h = ap (λ (b : Bool). if b then plan_up m s else tells_only (answer.Refused refusal.Down)) h

-- the node of this index
pub up_at : (xs : List Slot) (i : ℕ) (x : Slot) → slice_get xs i ≡ Some x → slice_get (slot_ups xs) i ≡ Some (slot_up x)
up_at xs i x h = mapped_at slot_up xs i x h

-- it is up
pub is_there_up : (xs : List Slot) (i : ℕ) (x : Slot) → slice_get xs i ≡ Some x → slice_get (slot_ups xs) i ≡ Some true → slot_up x ≡ true
is_there_up xs i x there up = let is : Some (slot_up x) ≡ Some true = sym (up_at xs i x there) ∙ up in cc

-- it is up in each world that the nodes stand for
pub up_as : (c : CircuitId) (m : CircuitWorld) (xs : Nodes) (i : ℕ) (x : Slot) (n : NodeId) → HoldsWorld c m xs → slice_get xs.slots i ≡ Some x
    → slice_get (slot_ids xs.slots) i ≡ Some n → slot_up x ≡ m.up n
up_as c m xs i x n h there at = (h.each i x there).up ∙ ap m.up (same_at xs.slots i x n there at)

pub node_up : (c : CircuitId) (m : CircuitWorld) (xs : Nodes) (i : ℕ) (n : NodeId) → HoldsWorld c m xs → slice_get (slot_ids xs.slots) i ≡ Some n
    → slice_get (slot_ups xs.slots) i ≡ Some true → m.up n ≡ true
node_up c m xs i n h at up =
    let x = mapped_there slot_up xs.slots i true up in
    sym (up_as c m xs i x.0 n h x.1 at) ∙ x.2

-- ---- what the nodes report of the world that they stand for

-- whether a tick has anything to do at a node, and in each world that the nodes stand for
pub due_as : (xs : Nodes) (i : ℕ) (x : Slot) (c : CircuitId) (n : NodeId) (m : CircuitWorld) → slice_get xs.slots i ≡ Some x → slice_get (slot_ids xs.slots) i ≡ Some n → HoldsWorld c m xs → (if slot_up x then due (site_at (slot_id x) c) ((view_in xs x).cells c) else None) ≡ due_at c m n
due_as xs i x c n m there at h =
    let same : slot_id x ≡ n = same_at xs.slots i x n there at in
    ap (λ (b : Bool). if b then due (site_at (slot_id x) c) ((view_in xs x).cells c) else None) (up_as c m xs i x n h there at)
    ∙ ap (λ (k : Cell). if m.up n then due (site_at (slot_id x) c) k else None) ((h.each i x there).state ∙ ap m.at same)
    ∙ ap (λ (k : NodeId). if m.up n then due (site_at k c) (m.at n) else None) same

-- what it keeps about a circuit
pub cell_as : (xs : Nodes) (i : ℕ) (x : Slot) (c : CircuitId) (n : NodeId) (m : CircuitWorld) → slice_get xs.slots i ≡ Some x
    → slice_get (slot_ids xs.slots) i ≡ Some n → HoldsWorld c m xs → (view_in xs x).cells c ≡ m.at n
cell_as xs i x c n m there at h = (h.each i x there).state ∙ ap m.at (same_at xs.slots i x n there at)

pub has_at : (ns : List NodeId) (j : ℕ) (b : NodeId) → slice_get ns j ≡ Some b → has_node ns b ≡ true
has_at [] j b e = absurd cc
has_at (n ∷ ns) zero b e = let same : n ≡ b = cc in subst (λ (k : NodeId). (bytes_eq k b || has_node ns b) ≡ true) (sym same) (ap (λ t. t || has_node ns b) (bytes_same b))
has_at (n ∷ ns) (suc j) b e = or_right (bytes_eq n b) (has_node ns b) (has_at ns j b e)

pub messages_as : (xs : Nodes) (i j : ℕ) (x y : Slot) (c : CircuitId) (a b : NodeId) (m : CircuitWorld) → slice_get xs.slots i ≡ Some x → slice_get xs.slots j ≡ Some y → slice_get (slot_ids xs.slots) i ≡ Some a → slice_get (slot_ids xs.slots) j ≡ Some b → HoldsWorld c m xs → bytes_eq a b ≡ false
    → sent_to (lists_about x.posts c) (slot_id y) ≡ messages m a b
messages_as xs i j x y c a b m there also at to h off =
    ap (sent_to (lists_about x.posts c)) (same_at xs.slots j y b also to)
    ∙ (h.each i x there).sent b (ap (λ ns. has_node ns b) h.nodes ∙ has_at (slot_ids xs.slots) j b to)
    ∙ ap (λ (k : NodeId). on_pair k b m.sent) (same_at xs.slots i x a there at)
    ∙ (rw off refl)

pub no_messages : (m : CircuitWorld) (a b : NodeId) → bytes_eq a b ≡ true → messages m a b ≡ []
no_messages m a b same = rw same refl

-- nothing that was sent about a circuit is for anyone
pub silent_as : (xs : Nodes) (i : ℕ) (x : Slot) (c : CircuitId) (a b : NodeId) (m : CircuitWorld) → slice_get xs.slots i ≡ Some x
    → slice_get (slot_ids xs.slots) i ≡ Some a → has_node (slot_ids xs.slots) b ≡ true → HoldsWorld c m xs → lists_about x.posts c ≡ []
    → messages m a b ≡ []
silent_as xs i x c a b m there at known h silent = elim (bool_cases (bytes_eq a b)) [
  | inl q ↦ no_messages m a b q
  | inr q ↦
      let sent : sent_to (lists_about x.posts c) b ≡ on_pair a b m.sent =
      (h.each i x there).sent b (ap (λ ns. has_node ns b) h.nodes ∙ known) ∙ ap (λ (k : NodeId). on_pair k b m.sent) (same_at xs.slots i x a there at) in
      let whole : messages m a b ≡ on_pair a b m.sent = rw q refl in
      whole ∙ (sym sent ∙ ap (λ ls. sent_to ls b) silent)
]

-- a row of zeros
pub zeros_of : (f : NodeId → NodeId → ℕ) (a : NodeId) (bs : List NodeId) → ((j : ℕ) (b : NodeId) → slice_get bs j ≡ Some b → f a b ≡ zero)
    → replicate (length bs) zero ≡ sender_counts f a bs
zeros_of f a [] none = refl
zeros_of f a (b ∷ bs) none =
    ap (λ (k : ℕ). k ∷ replicate (length bs) zero) (sym (none zero b refl)) ∙ ap (λ (ks : List ℕ). f a b ∷ ks) (zeros_of f a bs (λ j d e. none (suc j) d e))

-- ---- what stands where a step was refused

-- nodes that stand for a world stand for what it was before it stayed
holds_unmoved : (c : CircuitId) (m n : CircuitWorld) (xs : Nodes) → IsUnmoved m n → HoldsWorld c n xs → HoldsWorld c m xs
holds_unmoved c m n xs u h = record { ordered = h.ordered; nodes = sym u.nodes ∙ h.nodes; each = λ i s there. each (view_in xs s) (h.each i s there); told = h.told }
  where
    each : (x : NodeView) → IsAs c n x → IsAs c m x
    each x k = record {
      up = k.up ∙ u.up x.id;
      state = k.state ∙ u.at x.id;
      sent = λ b reg. k.sent b (subst (λ (ns : List NodeId). has_node ns b ≡ true) (sym u.nodes) reg) ∙ ap (λ (ss : List SentMessage). on_pair x.id b ss) u.sent;
    }

pub stays_refused : {E : Type 0} (r : Result Answer E) (c : CircuitId) (s : Step) (old new : Nodes) (why : Refusal) → ((m : CircuitWorld) → HoldsWorld c m old → IfOk r (λ a. a ≡ (step_plan m s).answer)) → OnOk r (Moves c (λ m. step_world m s) old new) → IfOk r (λ a. a ≡ answer.Refused why → WorldsStay old new)
stays_refused (Err e) c s old new why told moves = moves
stays_refused (Ok a) c s old new why told moves = λ is d m h. go is d m h (bool_cases (bytes_eq c d))
  where
    own : a ≡ answer.Refused why → (m : CircuitWorld) → HoldsWorld c m old → HoldsWorld c m new
    own is m h = holds_unmoved c m (step_world m s) new (unmoved-step m s why (sym (told m h) ∙ is)) (moves.own m h)

    go : a ≡ answer.Refused why → (d : CircuitId) (m : CircuitWorld) → HoldsWorld d m old → (bytes_eq c d ≡ true) ⊎ (bytes_eq c d ≡ false) → HoldsWorld d m new
    go is d m h (inl q) = subst (λ (e : NodeId). HoldsWorld e m old → HoldsWorld e m new) (bytes_are c d q) (own is m) h
    go is d m h (inr q) = moves.others d m q h
