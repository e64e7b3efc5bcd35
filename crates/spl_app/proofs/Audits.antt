-- Nodes that keep the cells of one history don't clash.
use Rattle.std.{specs.{List.AllPairs, Option.option_map_or, Prelude.{IsOkAnd, nat_le, option_map}, Result.result_unwrap_or, Str.is_utf8}, proofs.Common.◌≡◌}
use Rattle.std.proofs.Common.{◌≢◌, ◌⊎◌, inl, inr, ℕ, zero, suc, Bool, true, false, codes, List, [], ◌∷◌, ◌++◌, length, slice_get, Option, Some, None, IsSome}
use Rattle.std.proofs.{Common.{Result, Ok, Err, refl, sym, ap, subst, ◌∙◌}, lemmas.Option.slice_get-map}
use Rattle.toml.specs.{Data.Items, Parse.parse_document}
use Rattle.spl_agree.specs.{Member.{restarted, values}, World.IsPrefixOf}
use Rattle.spl_circuit_safety.specs.Agreement.{IsAgreed, act_list, batch_list}
use Rattle.spl_audit.specs.{Clashes.{ClashAt, DifferAt, IsBoundAt, Keeper}, Keepers.{keeper_of, keepers}, Runs.{AllStand, CameOf, IsAudited, StandsAt}}
use Rattle.spl_audit.specs.{Audit.{CameOfAudit, IsAuditStatus}, declared.{clash.Kind.Kind, verdict.{AuditRunFault.AuditRunFault, Verdict.Verdict}}}
use Rattle.spl_audit.specs.declared.clash.Kind.TheVariants as kind
use Rattle.spl_audit.specs.declared.verdict.AuditRunFault.TheVariants as audit
use Rattle.spl_audit.specs.declared.verdict.Verdict.TheVariants as verdict
use Rattle.spl_circuit.specs.{Nodes.{CircuitId, Node, sorted}, declared.definition.Definition.Definition}
use Rattle.spl_edge.specs.Devices.{Image, PairView, SinkView, SourceView, image_now}
use Rattle.spl_circuit_world.specs.Worlds.{Occurrence, World, world_after}
use Rattle.spl_node.specs.{Stands.{made_cell, IsMade, IsPeeked}, Records.is_record, Kept.{CellsView, cell_at}, Benches.{AllTell, Images, Tell, images_at}}
use Rattle.spl_node.{specs.Benches.{images_or_none, images_now}, proofs.Booleans.is_le}
use Rattle.spl_registry.specs.Nodes.{Entry, IsRegistry, entry_ids, items_len, list_at, registry_of, registry_of_items, registry_of_tree}
use Rattle.spl_registry.{specs.declared.fault.RegistryFault.{RegistryFault, TheVariants.NotToml}, proofs.Registries.read_is_registry}
use Rattle.spl_cell_rules.specs.{Cells.{Bound, Cell, Empty, Held, Purged}, Changes.stopped_cell}
use Rattle.spl_runs.specs.Run.{held_on}
use Rattle.spl_cli.specs.declared.status.Status.{Status}
use Rattle.spl_cli.specs.declared.status.Status.TheVariants as status
use Rattle.spl_snapshot.specs.Counting.{IfBoth, pair_records, pair_records_of}
use Rattle.spl_world.{specs.Held.{kept_at, origin_on}, proofs.HoldingSeats.{node_below, position_is}}
use Rattle.spl_app.specs.Left.{HasLeftCells}

-- ---- lists

got : {A : Type 0} (xs rest : List A) (k : ℕ) (x : A) → slice_get xs k ≡ Some x → slice_get (xs ++ rest) k ≡ Some x
got [] rest k x h = absurd cc
got (y ∷ xs) rest zero x h = h
got (y ∷ xs) rest (suc k) x h = got xs rest k x h

-- two that begin one list don't differ
no-difference : {A : Type 0} (xs ys zs : List A) (place : ℕ) → IsPrefixOf xs zs → IsPrefixOf ys zs → DifferAt xs ys place → ⊥
no-difference xs ys zs place p q d =
    let one : slice_get zs place ≡ Some d.one = subst (λ ls. slice_get ls place ≡ Some d.one) p.1 (got xs p.0 place d.one d.first) in
    let other : slice_get zs place ≡ Some d.other = subst (λ ls. slice_get ls place ≡ Some d.other) q.1 (got ys q.0 place d.other d.second) in
    let both : Some d.one ≡ Some d.other = sym one ∙ other in
    let same : d.one ≡ d.other = cc in
    d.differ same

-- what begins with something is something
not-none : {V : Type 0} (hs : List (ℕ × V)) (zs : List V) → IsPrefixOf (values hs) zs → hs ≢ [] → zs ≢ []
not-none [] zs p some = absurd (some refl)
not-none (h ∷ hs) zs p some = λ none. let both : values (h ∷ hs) ++ p.0 ≡ [] = p.1 ∙ none in cc

-- ---- a cell

-- a cell that stopped, and was bound
record WasBound (k : Cell) (h : Bound) : Type 0 where
  bound : Bound
  is : k ≡ Held bound
  definition : bound.definition ≡ h.definition
  acts : bound.acts.history ≡ h.acts.history
  batches : bound.batches.history ≡ h.batches.history

was-bound : (k : Cell) (h : Bound) → stopped_cell k ≡ Held h → WasBound k h
was-bound (Held b) h e =
    let same : record b { acts = restarted b.acts; batches = restarted b.batches } ≡ h = cc in
    record {
      bound = b;
      is = refl;
      definition = ap (λ (x : Bound). x.definition) same;
      acts = ap (λ (x : Bound). x.acts.history) same;
      batches = ap (λ (x : Bound). x.batches.history) same;
    }
was-bound Empty h e = absurd cc
was-bound (Purged g) h e = absurd cc

-- ---- what was read

made-of : (v : CellsView) (r : Result (List (List ℕ)) ℕ) → IsOkAnd r (IsMade v) → IsMade v (result_unwrap_or r [])
made-of v (Ok rs) h = h
made-of v (Err at) h = absurd h

kept-made : (v : CellsView) (a b : List ℕ) → IsPeeked v a b → IsMade v (pair_records_of is_record a b)
kept-made v [] [] h = h
kept-made v [] (b ∷ more) h = made-of v (pair_records is_record [] (b ∷ more)) h
kept-made v (a ∷ more) b h = made-of v (pair_records is_record (a ∷ more) b) h

-- cells that were read of disks are those that they make
peeked-made : (v : CellsView) (a b : Option Image) → IsSome a → IsSome b → IfBoth a b (λ i j. IsPeeked v i.bytes j.bytes) → (c : CircuitId)
    → cell_at v.entries c ≡ made_cell v.here c a b
peeked-made v (Some i) (Some j) one other h c = kept-made v i.bytes j.bytes h c
peeked-made v None b one other h c = cc
peeked-made v (Some i) None one other h c = cc

none-tells : Tell (None, None) → ⊥
none-tells tell = let no = tell.0 in cc

module _ (es : List Entry) (ps : List PairView) (apart : AllPairs (λ a b. a ≢ b) (entry_ids es)) (told : AllTell (length es) (held_on ps))
    (history : CircuitId → List Occurrence) (left : HasLeftCells (origin_on es (held_on ps)) history) where
  abbrev nodes : List Node
  nodes = sorted (entry_ids es)

  abbrev after : CircuitId → World
  after c = world_after nodes (history c)

  tells : (position : ℕ) (o : Option PairView) → slice_get ps position ≡ o → Tell (images_at (held_on ps) position)
      → (p : PairView) × (slice_get ps position ≡ Some p)
  tells position (Some p) at tell = (p, at)
  tells position None at tell =
      let none : images_at (held_on ps) position ≡ (None, None) = ap images_or_none (slice_get-map images_now ps position ∙ ap (option_map images_now) at) in
      absurd (none-tells (subst Tell none tell))

  -- a node whose disks were read keeps what its world has, once it stopped
  read-cell : (position : ℕ) (v : CellsView) → StandsAt es ps position v → (c : CircuitId) → cell_at v.entries c ≡ stopped_cell ((after c).at v.here)
  read-cell position v stands c =
      let tell : Tell (images_at (held_on ps) position) = told position (node_below es position v.here stands.node) in
      let pair = tells position (slice_get ps position) refl tell in
      let there : images_at (held_on ps) position ≡ images_now pair.0 =
      ap images_or_none (slice_get-map images_now ps position ∙ ap (option_map images_now) pair.1) in
      let both : Tell (images_now pair.0) = subst Tell there tell in
      peeked-made v (image_now pair.0.first) (image_now pair.0.second) both.0 both.1 (stands.cells pair.0 pair.1) c
      ∙ (ap (λ (is : Images). made_cell v.here c is.0 is.1) (sym there)
      ∙ (ap (kept_at (held_on ps) c v.here) (sym (position_is es position v.here apart stands.node))
      ∙ left.cells c v.here))

  module _ (vs : List CellsView) (stand : AllStand es ps vs) (agreed : (c : CircuitId) (d : Definition) → IsAgreed nodes (history c) d) where
    -- one of them that is bound to a definition
    record IsKept (c : CircuitId) (g : ℕ) (h : Bound) : Type 0 where
      node : Node
      was : WasBound ((after c).at node) h
      generation : h.definition.generation ≡ g

    view-at : (xs : List CellsView) (position : ℕ) (n : Keeper) → slice_get (keepers xs) position ≡ Some n
        → (v : CellsView) × (slice_get xs position ≡ Some v) × (n ≡ keeper_of v)
    view-at [] position n e = absurd cc
    view-at (x ∷ xs) zero n e = let same : keeper_of x ≡ n = cc in (x, refl, sym same)
    view-at (x ∷ xs) (suc k) n e = view-at xs k n e

    kept-at : (c : CircuitId) (g position : ℕ) (h : Bound) → IsBoundAt (keepers vs) c g position h → IsKept c g h
    kept-at c g position h b =
        let v = view-at vs position b.node b.there in
        let cell : cell_at v.0.entries c ≡ Held h = ap (λ (n : Keeper). n.at c) (sym v.2) ∙ b.bound in
        record {
          node = v.0.here;
          was = was-bound ((after c).at v.0.here) h (sym (read-cell position v.0 (stand.each position v.0 v.1) c) ∙ cell);
          generation = b.generation;
        }

    acts-begin : (c : CircuitId) (g : ℕ) (h : Bound) (d : Definition) → IsKept c g h → h.definition ≡ d
        → IsPrefixOf (values h.acts.history) (act_list nodes d (history c))
    acts-begin c g h d k is =
        subst (λ xs. IsPrefixOf (values xs) (act_list nodes d (history c))) k.was.acts ((agreed c d).acts k.node k.was.bound k.was.is (k.was.definition ∙ is))

    batches-begin : (c : CircuitId) (g : ℕ) (h : Bound) (d : Definition) → IsKept c g h → h.definition ≡ d
        → IsPrefixOf (values h.batches.history) (batch_list nodes d (history c))
    batches-begin c g h d k is =
        subst (λ xs. IsPrefixOf (values xs) (batch_list nodes d (history c))) k.was.batches
        ((agreed c d).batches k.node k.was.bound k.was.is (k.was.definition ∙ is))

    none-at : (why : Kind) (c : CircuitId) (g place : ℕ) (h k : Bound) → IsKept c g h → IsKept c g k → ClashAt why h k place → ⊥
    none-at kind.Definitions c g place h k one other clash =
        let share = clash.1.1.0 in
        clash.1.0 ((agreed c h.definition).apart k.definition share.node share.first share.second (one.generation ∙ sym other.generation)
        (not-none h.acts.history _ (acts-begin c g h h.definition one refl) clash.1.1.1.0)
        (not-none k.acts.history _ (acts-begin c g k k.definition other refl) clash.1.1.1.1))
    none-at kind.Acts c g place h k one other clash =
        no-difference (values h.acts.history) (values k.acts.history) _ place (acts-begin c g h h.definition one refl)
        (acts-begin c g k h.definition other (sym clash.0)) clash.1
    none-at kind.Batches c g place h k one other clash =
        no-difference (values h.batches.history) (values k.batches.history) _ place (batches-begin c g h h.definition one refl)
        (batches-begin c g k h.definition other (sym clash.0)) clash.1

  -- so an audit finds no clash
  pub none-clash : ((c : CircuitId) (d : Definition) → IsAgreed nodes (history c) d) → (text : List ℕ) → IsAudited es ps verdict.Disagreed text → ⊥
  none-clash agreed text a =
      let s = a.says.0 in
      let clash = a.says.1.least.clash in
      none-at a.nodes a.stand agreed s.kind s.circuit s.generation s.place clash.one clash.other
      (kept-at a.nodes a.stand agreed s.circuit s.generation s.first clash.one clash.first)
      (kept-at a.nodes a.stand agreed s.circuit s.generation s.second clash.other clash.second) clash.clash

-- ---- what comes of an audit

bool_cases : (b : Bool) → (b ≡ true) ⊎ (b ≡ false)
bool_cases true = inl refl
bool_cases false = inr refl

no_err : {E A : Type 0} {e : E} {x : A} → Err e ≡ Ok x → ⊥
no_err h = cc

items-registry : (ds : Items) (es : List Entry) → registry_of_items ds ≡ Ok es → IsRegistry es
items-registry ds es h = go (bool_cases (nat_le (items_len ds) 16))
  where
    go : (nat_le (items_len ds) 16 ≡ true) ⊎ (nat_le (items_len ds) 16 ≡ false) → IsRegistry es
    go (inl q) = read_is_registry ds es (is_le (items_len ds) 16 q) (rw q at h)
    go (inr q) = absurd (no_err (rw q at h))

some-registry : {X : Type 0} (read : X → Result (List Entry) RegistryFault) (o : Option X) (es : List Entry) → ((x : X) → read x ≡ Ok es → IsRegistry es)
    → option_map_or read o (Err NotToml) ≡ Ok es → IsRegistry es
some-registry read (Some x) es law h = law x h
some-registry read None es law h = absurd (no_err h)

-- bytes that are read spell a registry
spelled-registry : (bytes : List ℕ) (es : List Entry) → registry_of bytes ≡ Ok es → IsRegistry es
spelled-registry bytes es h = go (bool_cases (is_utf8 bytes))
  where
    go : (is_utf8 bytes ≡ true) ⊎ (is_utf8 bytes ≡ false) → IsRegistry es
    go (inl q) =
        some-registry registry_of_tree (parse_document bytes) es
        (λ ms. some-registry registry_of_items (list_at (codes "node") ms) es (λ ds. items-registry ds es)) (rw q at h)
    go (inr q) = absurd (no_err (rw q at h))

pub audited-registry : {s : Status} {r q : SourceView} {ps qs : List PairView} {w x : SinkView} (a : CameOfAudit s r q ps qs w x) → IsRegistry a.nodes
audited-registry a = spelled-registry _ a.nodes a.spelled

-- only an audit that found a clash says so
pub disagreed-by : (es : List Entry) (s : Status) (ended : Result Verdict AuditRunFault) (ps qs : List PairView) (w x : SinkView)
    → IsAuditStatus es ended s → CameOf ended es ps qs w x → s ≡ status.Disagreed → (text : List ℕ) × IsAudited es ps verdict.Disagreed text
disagreed-by es s (Ok verdict.Agreed) ps qs w x is came same = let no : status.Ok ≡ status.Disagreed = sym is ∙ same in absurd cc
disagreed-by es s (Ok verdict.Disagreed) ps qs w x is came same = (came.text, came.audited)
disagreed-by es s (Err (audit.Disk slot)) ps qs w x is came same = let no : status.DiskFault is.0 ≡ status.Disagreed = sym is.2 ∙ same in absurd cc
disagreed-by es s (Err (audit.NotAJournal slot at)) ps qs w x is came same =
    let no : status.NotAJournal is.0 at ≡ status.Disagreed = sym is.2 ∙ same in absurd cc
disagreed-by es s (Err audit.Write) ps qs w x is came same = let no : status.WriteFault ≡ status.Disagreed = sym is ∙ same in absurd cc
disagreed-by es s (Err audit.NoMemory) ps qs w x is came same = let no : status.NoMemory ≡ status.Disagreed = sym is ∙ same in absurd cc
