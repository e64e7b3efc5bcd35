-- A host that is up, stops and starts.
use Rattle.std.{specs.{Prelude.{is_some, not, if◌then◌else◌, IsSome, IsOk, IfNone}, Result.{IsOkAnd, result_unwrap_or}}, proofs.Common.{◌≡◌, ℕ, Bool, true}}
use Rattle.std.proofs.Common.{false, List, [], Option, Some, None, IfSome, OnOk, Result, Ok, Err, refl, sym, ◌∙◌, ap, subst}
use Rattle.spl_circuit.specs.Nodes.{NodeId, CircuitId}
use Rattle.spl_edge.specs.Devices.{Image, IsSettled, settled_at}
use Rattle.spl_cell_rules.specs.{Cells.{Cell, site_at}, Changes.stopped_cell}
use Rattle.spl_cell.specs.Due.{due}
use Rattle.spl_snapshot.{proofs.Keeps.both_if, specs.{Counting.{pair_records, pair_records_of, IfBoth, TellsAs}, Pairs.PairStands}}
use Rattle.spl_node.specs.Stands.{BothTell, Runs, Rests, kept_cell, made_cell, IsMade, IsRead, Make, NodeStands, StandFor, here_of, circuit_cell}
use Rattle.spl_node.specs.{Stands.is_node_halted, Kept.{CellsView, cell_at}, Records.{is_record, recorded_cell, changes_in}, declared.node.Node.Node}
use Rattle.spl_node.proofs.{Disks.settled_pair, Standing.makes, Stops.applied-still}

-- ---- two disks that report

-- what follows where both report
pub both_told : (o p : Option Image) (P : Image → Image → Type 0) (Q : Type 0) → IsSome o → IsSome p → IfBoth o p P
    → ((i j : Image) → o ≡ Some i → p ≡ Some j → P i j → Q) → Q
both_told (Some i) (Some j) P Q a b h f = f i j refl refl h
both_told (Some i) None P Q a b h f = cc
both_told None p P Q a b h f = cc

pub both_apply : (o p : Option Image) (P Q : Image → Image → Type 0) → IfBoth o p P → IfBoth o p (λ i j. P i j → Q i j) → IfBoth o p Q
both_apply None p P Q h f = tt
both_apply (Some i) None P Q h f = tt
both_apply (Some i) (Some j) P Q h f = f h

-- ---- a host that is up

-- what is said of a node and its cells, said of the host
pub as_host : (P : NodeId → (CircuitId → Cell) → Type 0) (here : NodeId) (o : Option Node) (n : Node) (first second : Option Image) → o ≡ Some n
    → here_of n ≡ here → P (here_of n) (circuit_cell n) → P here (kept_cell here o first second)
as_host P here o n first second is same h =
    subst (λ (k : CircuitId → Cell). P here k) (sym (ap (λ (x : Option Node). kept_cell here x first second) is))
    (subst (λ (m : NodeId). P m (circuit_cell n)) same h)

pub up_runs : (here : NodeId) (o : Option Node) (n : Node) (first second : Option Image) → o ≡ Some n → IfSome o (Runs here first second)
    → Runs here first second n
up_runs here o n first second is h = subst (λ (x : Option Node). IfSome x (Runs here first second)) is h

-- there is a node where it is up
pub up_node : (o : Option Node) (Q : Type 0) → is_some o ≡ true → ((n : Node) → o ≡ Some n → Q) → Q
up_node (Some n) Q up f = f n refl
up_node None Q up f = cc

-- there is one where a test of none answered no
pub is_there : (o : Option Node) (b : Bool) → is_some o ≡ not b → b ≡ false → is_some o ≡ true
is_there o b is none = is ∙ ap not none

pub when_down : (o : Option Node) (P : Type 0) → is_some o ≡ false → IfNone o P → P
when_down (Some n) P down h = cc
when_down None P down h = h

-- the disks of a node that goes on stand for its cells
pub runs_stand : (here : NodeId) (first second : Option Image) (n : Node) → Runs here first second n
    → IfBoth first second (λ i j. StandFor here (circuit_cell n) i.bytes j.bytes)
runs_stand here first second n runs =
    subst (λ (m : NodeId). IfBoth first second (λ i j. StandFor m (circuit_cell n) i.bytes j.bytes)) runs.here_is runs.stands.cells

-- where a step left the disks reporting as they did
stands_told : (n : Node) (first second now now_other : Option Image) → TellsAs first now → TellsAs second now_other
    → PairStands is_record n.pairing now now_other → IfBoth first second (λ i j. NodeStands n now now_other) → NodeStands n now now_other
stands_told n (Some i) (Some j) now now_other told other_told pair stands = stands
stands_told n None second None now_other told other_told pair stands = record { pair = pair; cells = tt }
stands_told n None second (Some k) now_other told other_told pair stands = cc
stands_told n (Some i) None None now_other told other_told pair stands = cc
stands_told n (Some i) None (Some k) None told other_told pair stands = record { pair = pair; cells = tt }
stands_told n (Some i) None (Some k) (Some l) told other_told pair stands = cc

-- a step that succeeded leaves a node that goes on
pub runs_on : {A E : Type 0} (r : Result A E) (here : NodeId) (n m : Node) (first second now now_other : Option Image) → OnOk r (TellsAs first now)
    → OnOk r (TellsAs second now_other) → Runs here first second n → OnOk r (is_node_halted m ≡ false) → here_of m ≡ here_of n
    → OnOk r (PairStands is_record m.pairing now now_other)
    → OnOk r (IfBoth first second (λ i j. StandFor (here_of n) (circuit_cell n) i.bytes j.bytes → NodeStands m now now_other))
    → OnOk r (Runs here now now_other m)
runs_on (Ok a) here n m first second now now_other told other_told runs running same pair stands = record {
  running = running;
  here_is = same ∙ runs.here_is;
  stands = stands_told m first second now now_other told other_told pair
      (both_apply first second (λ i j. StandFor (here_of n) (circuit_cell n) i.bytes j.bytes) (λ i j. NodeStands m now now_other) runs.stands.cells stands);
}
runs_on (Err e) here n m first second now now_other told other_told runs running same pair stands = tt

-- whether a tick has anything to do there, where it is up
pub due_up : (here : NodeId) (o : Option Node) (n : Node) (first second : Option Image) (c : CircuitId) → o ≡ Some n → here_of n ≡ here
    → due (site_at (here_of n) c) (circuit_cell n c) ≡ (if is_some o then due (site_at here c) (kept_cell here o first second c) else None)
due_up here o n first second c is same =
    subst (λ (x : Option Node). due (site_at (here_of n) c) (circuit_cell n c)
    ≡ (if is_some x then due (site_at here c) (kept_cell here x first second c) else None)) (sym is)
    (ap (λ (k : NodeId). due (site_at k c) (circuit_cell n c)) same)

-- ---- a stop

some_of : (o : Option Image) (i : Image) (P : Image → Type 0) → o ≡ Some i → IfSome o P → P i
some_of o i P is h = subst (λ (x : Option Image). IfSome x P) is h

both_of : (o p : Option Image) (i j : Image) (P : Image → Image → Type 0) → o ≡ Some i → p ≡ Some j → IfBoth o p P → P i j
both_of o p i j P is other_is h = subst (λ (y : Option Image). IfBoth (Some i) y P) other_is (subst (λ (x : Option Image). IfBoth x p P) is h)

pub ok_of : (r : Result (List (List ℕ)) ℕ) (P : List (List ℕ) → Type 0) → IsOkAnd r P → IsOk r
ok_of (Ok rs) P h = refl
ok_of (Err at) P h = absurd h

pub settled_now : (bytes : List ℕ) → IsSettled (settled_at bytes)
settled_now bytes = record { same = refl; none = refl; least = refl; greatest = refl }

-- the images that two disks held at their last syncs, which are what a read gives
module _ (here : NodeId) (n : Node) (first second : Option Image) (i j : Image) (is : first ≡ Some i) (other_is : second ≡ Some j)
    (runs : Runs here first second n) where
  pub synced_stand : StandFor here (circuit_cell n) i.synced j.synced
  synced_stand =
      let settled = settled_pair is_record n.pairing first second runs.stands.pair in
      let one : IsSettled i = some_of first i IsSettled is settled.0 in
      let other : IsSettled j = some_of second j IsSettled other_is settled.1 in
      subst (λ (c : List ℕ). StandFor here (circuit_cell n) c j.synced) (sym one.same)
      (subst (λ (d : List ℕ). StandFor here (circuit_cell n) i.bytes d) (sym other.same)
      (both_of first second i j (λ i j. StandFor here (circuit_cell n) i.bytes j.bytes) is other_is (runs_stand here first second n runs)))

  module _ (now now_other : Option Image) (holds : now ≡ Some (settled_at i.synced)) (other_holds : now_other ≡ Some (settled_at j.synced)) where
    -- what is said of both, said of what the disks hold
    at_images : (P : Option Image → Option Image → Type 0) → P (Some (settled_at i.synced)) (Some (settled_at j.synced)) → P now now_other
    at_images P h = subst (λ (x : Option Image). P x now_other) (sym holds) (subst (λ (y : Option Image). P (Some (settled_at i.synced)) y) (sym other_holds) h)

    pub stopped_rests : Rests now now_other
    stopped_rests = at_images Rests (record {
      first_is = settled_now i.synced;
      second_is = settled_now j.synced;
      journal = ok_of (pair_records is_record i.synced j.synced) (Make here (circuit_cell n)) synced_stand;
    })

    pub stopped_stand : IfBoth now now_other (λ a b. StandFor here (circuit_cell n) a.bytes b.bytes)
    stopped_stand = at_images (λ x y. IfBoth x y (λ a b. StandFor here (circuit_cell n) a.bytes b.bytes)) synced_stand

    pub stopped_cells : (c : CircuitId) → made_cell here c now now_other ≡ stopped_cell (circuit_cell n c)
    stopped_cells c = at_images (λ x y. made_cell here c x y ≡ stopped_cell (circuit_cell n c)) (makes here (circuit_cell n) i.synced j.synced synced_stand c)

-- ---- a start

made_of : (v : CellsView) (r : Result (List (List ℕ)) ℕ) → IsOkAnd r (IsMade v) → IsMade v (result_unwrap_or r [])
made_of v (Ok rs) h = h
made_of v (Err at) h = absurd h

-- the cells that were read of two disks are those that they make
pub read_made : (here : NodeId) (v : CellsView) (o p : Option Image) → v.here ≡ here → IsSome o → IsSome p → IfBoth o p (λ i j. IsRead v i.bytes j.bytes)
    → (c : CircuitId) → cell_at v.entries c ≡ made_cell here c o p
read_made here v (Some i) (Some j) same a b read c =
    subst (λ (m : NodeId). cell_at v.entries c ≡ recorded_cell m c (pair_records_of is_record i.bytes j.bytes)) same
    (made_of v (pair_records is_record i.bytes j.bytes) read c)
read_made here v (Some i) None same a b read c = cc
read_made here v None p same a b read c = cc

not_both : (r : Result (List (List ℕ)) ℕ) (at : ℕ) → IsOk r → r ≡ Err at → ⊥
not_both (Ok rs) at ok err = cc
not_both (Err e) at ok err = cc

pub started_cells : (here : NodeId) (o : Option Node) (n : Node) (first second : Option Image) → is_some o ≡ false → here_of n ≡ here
    → IfBoth first second (λ i j. IsRead n.cells i.bytes j.bytes) → BothTell first second
    → (c : CircuitId) → circuit_cell n c ≡ kept_cell here o first second c
started_cells here (Some m) n first second down same read tell c = cc
started_cells here None n first second down same read tell c = read_made here n.cells first second same tell.0 tell.1 read c

untold : (o : Option Image) → is_some o ≡ false → IsSome o → ⊥
untold o none told = cc

-- bytes that are a journal aren't no journal
pub is_journal : (o p : Option Image) (at : ℕ) → BothTell o p → IfBoth o p (λ i j. IsOk (pair_records is_record i.bytes j.bytes))
    → IfBoth o p (λ i j. pair_records is_record i.bytes j.bytes ≡ Err at) → ⊥
is_journal (Some i) (Some j) at tell ok err = not_both (pair_records is_record i.bytes j.bytes) at ok err
is_journal (Some i) None at tell ok err = absurd (untold None refl tell.1)
is_journal None p at tell ok err = absurd (untold None refl tell.0)

-- disks that stay
pub runs_still : (here : NodeId) (n : Node) (o p x y : Option Image) → x ≡ o → y ≡ p → Runs here o p n → Runs here x y n
runs_still here n o p x y is other_is runs =
    subst (λ (a : Option Image). Runs here a y n) (sym is) (subst (λ (b : Option Image). Runs here o b n) (sym other_is) runs)

-- ---- up or down, the disks stand for the cells

-- nothing is pending on them
pub kept_settled : (here : NodeId) (o : Option Node) (first second : Option Image) → IfSome o (Runs here first second) → IfNone o (Rests first second)
    → IfSome first IsSettled × IfSome second IsSettled
kept_settled here (Some n) first second up down = settled_pair is_record n.pairing first second up.stands.pair
kept_settled here None first second up down = (down.first_is, down.second_is)

pub recorded_make : (here : NodeId) (r : Result (List (List ℕ)) ℕ) → IsOk r → IsOkAnd r (Make here (λ c. recorded_cell here c (result_unwrap_or r [])))
recorded_make here (Ok rs) ok = λ c. sym (applied-still (site_at here c) (changes_in c rs))
recorded_make here (Err at) ok = cc

rests_stand : (here : NodeId) (first second : Option Image) → Rests first second
    → IfBoth first second (λ i j. StandFor here (kept_cell here None first second) i.bytes j.bytes)
rests_stand here None second rests = tt
rests_stand here (Some i) None rests = tt
rests_stand here (Some i) (Some j) rests = recorded_make here (pair_records is_record i.bytes j.bytes) rests.journal

pub kept_stand : (here : NodeId) (o : Option Node) (first second : Option Image) → IfSome o (Runs here first second) → IfNone o (Rests first second)
    → IfBoth first second (λ i j. StandFor here (kept_cell here o first second) i.bytes j.bytes)
kept_stand here (Some n) first second up down = runs_stand here first second n up
kept_stand here None first second up down = rests_stand here first second down

-- ---- a host that goes down without a call

pub rests_down : (here : NodeId) (o : Option Node) (first second : Option Image) → IfSome o (Runs here first second) → IfNone o (Rests first second)
    → Rests first second
rests_down here (Some n) first second up down =
    let settled = settled_pair is_record n.pairing first second up.stands.pair in
    record {
      first_is = settled.0;
      second_is = settled.1;
      journal = both_if first second (λ i j. StandFor here (circuit_cell n) i.bytes j.bytes) (λ i j. IsOk (pair_records is_record i.bytes j.bytes))
          (runs_stand here first second n up)
          (λ i j stands. ok_of (pair_records is_record i.bytes j.bytes) (Make here (circuit_cell n)) stands);
    }
rests_down here None first second up down = down

pub down_cells : (here : NodeId) (o : Option Node) (first second : Option Image) → IfSome o (Runs here first second) → IfNone o (Rests first second)
    → BothTell first second
    → (c : CircuitId) → made_cell here c first second ≡ stopped_cell (kept_cell here o first second c)
down_cells here o (Some i) (Some j) up down tell c =
    makes here (kept_cell here o (Some i) (Some j)) i.bytes j.bytes (kept_stand here o (Some i) (Some j) up down) c
down_cells here o (Some i) None up down tell c = absurd (untold None refl tell.1)
down_cells here o None second up down tell c = absurd (untold None refl tell.0)
