-- A run that didn't begin leaves the cells that the disks made.
use Rattle.std.{specs.List.position_from, proofs.Common.{◌≡◌, ◌⊎◌, inl, inr, ℕ, List, Option, Some, None, IfSome, Err, refl, sym, ap, subst, ◌∙◌}}
use Rattle.std.proofs.lemmas.Bool.{cases_eq}
use Rattle.spl_circuit.specs.Nodes.{CircuitId, Node, sorted}
use Rattle.spl_edge.specs.Devices.{Image, IsSettled}
use Rattle.spl_journal.proofs.Images.{only_settled}
use Rattle.spl_circuit_world.specs.Worlds.{Occurrence, world_after}
use Rattle.spl_node.specs.{Stands.made_cell, Records.{is_record, recorded_cell}, Benches.{AreBlank, Images, Tell, images_at, AreSettled}}
use Rattle.spl_registry.specs.Nodes.{Entry, entry_ids, is_of, node_at}
use Rattle.spl_cell_rules.specs.{Cells.Cell, Changes.stopped_cell}
use Rattle.spl_runs.specs.Run.{Plan, AreUnmade, Ended, held_on}
use Rattle.spl_runs.specs.declared.fault.RunFault.TheVariants as fault
use Rattle.spl_snapshot.specs.Counting.{pair_records_of}
use Rattle.spl_world.specs.{Held.{AreKept, AreDisksLeft, AreOpenedBut, kept_at, origin_on}, declared.fault.WorldFault.WorldFault}
use Rattle.spl_world.specs.declared.fault.WorldFault.TheVariants as error
use Rattle.spl_app.{specs.{Folders.UnmadeRun, Found.{AreFound, CrashLeaves}, Left.HasLeftCells}, proofs.{Finding.found-makes, Seats.{seat-below, seat-node}}}
use Rattle.spl_circuit_safety.proofs.Restarts.{stopped-twice}

-- ---- which disks are kept

opened-but : (e : Ended) (p : Plan) (start now : List Images) → AreUnmade e p start now → (f : WorldFault) × AreOpenedBut p.nodes f start now
opened-but (Err (fault.World (error.Disk k))) p start now h = (error.Disk k, h)
opened-but (Err (fault.World (error.NotAJournal k at))) p start now h = (error.NotAJournal k at, h.1)
opened-but (Err fault.NoMemory) p start now h = (error.NoMemory, h)
opened-but _ p start now h = absurd h

-- disks that weren't blank hold what they held, or what stands for it
kept-by : (es : List Entry) (f : WorldFault) (start now : List Images) → AreOpenedBut es f start now → (k : ℕ) (n : Node) → node_at es k ≡ Some n
    → (AreBlank (images_at start k) → ⊥) → AreKept n (images_at start k) (images_at now k)
kept-by es f start now opened k n at bytes = go (cases_eq k opened.one)
  where
    own : AreKept n (images_at start k) (images_at now k) ⊎ AreBlank (images_at start k) → AreKept n (images_at start k) (images_at now k)
    own (inl kept) = kept
    own (inr blank) = absurd (bytes blank)

    other : AreDisksLeft n (images_at start k) (images_at now k) → AreKept n (images_at start k) (images_at now k)
    other (inl kept) = kept
    other (inr fresh) = absurd (bytes fresh.0)

    go : (k ≡ opened.one) ⊎ (k ≡ opened.one → ⊥) → AreKept n (images_at start k) (images_at now k)
    go (inl same) =
        own (subst (λ (j : ℕ). AreKept n (images_at start j) (images_at now j) ⊎ AreBlank (images_at start j)) (sym same)
        (opened.own n (subst (λ (j : ℕ). node_at es j ≡ Some n) same at)))
    go (inr apart) = other (opened.others k n at apart)

-- ---- what is found of them

-- a crash leaves of settled disks what they hold
same-made : (n : Node) (c : CircuitId) (a b x y : Option Image) → IfSome a IsSettled → IfSome b IsSettled → CrashLeaves a x → CrashLeaves b y
    → made_cell n c x y ≡ made_cell n c a b
same-made n c (Some i) (Some j) (Some k) (Some l) one other h q =
    ap (λ (bytes : List ℕ). recorded_cell n c (pair_records_of is_record bytes l.bytes)) (only_settled i k.bytes one h)
    ∙ ap (λ (bytes : List ℕ). recorded_cell n c (pair_records_of is_record i.bytes bytes)) (only_settled j l.bytes other q)
same-made n c None b x y one other h q = absurd h
same-made n c (Some i) b None y one other h q = absurd h
same-made n c (Some i) None (Some k) y one other h q = absurd q
same-made n c (Some i) (Some j) (Some k) None one other h q = absurd q

settled-made : (n : Node) (c : CircuitId) (was now : Images) → AreSettled was → AreFound was now → made_cell n c now.0 now.1 ≡ made_cell n c was.0 was.1
settled-made n c was now settled (inl same) = ap (λ (is : Images). made_cell n c is.0 is.1) same
settled-made n c was now settled (inr crash) = same-made n c was.0 was.1 now.0 now.1 settled.first settled.second crash.0 crash.1

-- what kept disks make
kept-made : (n : Node) (c : CircuitId) (start last found : Images) (k : Cell) → AreKept n start last → AreSettled start → AreFound last found → Tell start
    → Tell found → made_cell n c start.0 start.1 ≡ stopped_cell k → made_cell n c found.0 found.1 ≡ stopped_cell k
kept-made n c start last found k (inl same) settled left tell told made =
    settled-made n c start found settled (subst (λ (is : Images). AreFound is found) same left) ∙ made
kept-made n c start last found k (inr hold) settled left tell told made =
    found-makes n (λ d. made_cell n d start.0 start.1) last found (hold tell) left told c ∙ (ap stopped_cell made ∙ stopped-twice k)

-- ---- the history stays

pub stays : {es : List Entry} (r : UnmadeRun es) (before : CircuitId → List Occurrence) → HasLeftCells (origin_on es (held_on r.first.disks)) before
    → HasLeftCells (origin_on es r.found) before
stays {es} r before left = record { plain = left.plain; own = left.own; cells = λ c n. cells c n (position_from (is_of n) 0 es) refl }
  where
    start : List Images
    start = held_on r.first.disks

    after : CircuitId → Node → Cell
    after c n = stopped_cell ((world_after (sorted (entry_ids es)) (before c)).at n)

    cells : (c : CircuitId) (n : Node) (o : Option ℕ) → position_from (is_of n) 0 es ≡ o → (origin_on es r.found).kept c n ≡ after c n
    cells c n None at = ap (kept_at r.found c n) at ∙ (sym (ap (kept_at start c n) at) ∙ left.cells c n)
    cells c n (Some k) at =
        let below = seat-below es n k at in
        let opened = opened-but r.ended _ start (held_on r.last.disks) r.unmade.disks in
        let kept = kept-by es opened.0 start (held_on r.last.disks) opened.1 k n (seat-node es n k at) (r.bytes k below) in
        ap (kept_at r.found c n) at
        ∙ kept-made n c (images_at start k) (images_at (held_on r.last.disks) k) (images_at r.found k)
        ((world_after (sorted (entry_ids es)) (before c)).at n) kept (r.settled k below) (r.left k below) (r.told.0 k below) (r.told.1 k below)
        (sym (ap (kept_at start c n) at) ∙ left.cells c n)
