-- Causes of faults, of one call after another.
use Rattle.std.{specs.{Prelude.{IsErr, IsErrOf}, Result.IsErrAnd}, proofs.Common.{◌≡◌, true≢false, ◌<◌, ℕ, Bool, true, false, List, [], arith, sym, ap}}
use Rattle.std.proofs.{Common.{subst, refl, ◌∙◌, slice_get, Result, Ok, Err, IfErr}, lemmas.Result.IfErr-at_err}
use Rattle.spl_edge.specs.{Devices.{Rose, PairView}, declared.fault.DeviceError.{DeviceError, TheVariants.{Failed, NoMemory as NoRoom}}}
use Rattle.spl_circuit_world.specs.Worlds.{Origin, blank}
use Rattle.spl_registry.specs.Nodes.{Entry}
use Rattle.spl_world.specs.{Counts.is_of_limit, Disks.is_of_journal, Picks.AllHeld, Links.{LinkView, LinksGoOn, MayBeDue, is_of_links}}
use Rattle.spl_world.{specs.declared.{fault.WorldFault.WorldFault, world.World.World}, proofs.Onward.{rose_failed, rose_later, unarmed_on, none_on}}
use Rattle.spl_world.proofs.Onward.{none_then}
use Rattle.spl_world.specs.declared.fault.WorldFault.TheVariants as error
use Rattle.spl_node.{specs.Benches.{AllGoOn, Images, RoseAt, NoneForgotten, AllUnpicked}, proofs.Benches.{all_then, all_itself}}
use Rattle.spl_runs.specs.{Faults.{FailsAs, HaveCauses, PairsGoOn, run_fault, world_fault}, Moments.WorldPicked, Run.{nodes_in, origin, origin_in, run_plan}}
use Rattle.spl_runs.{specs.{Run.HasFailed, declared.{fault.RunFault.RunFault, mode.{Beginning.Beginning, Mode.Mode}}}, proofs.Plans.origin_planned}
use Rattle.spl_runs.specs.declared.mode.Beginning.TheVariants as beginning
use Rattle.spl_runs.specs.declared.fault.RunFault.TheVariants as fault
use Rattle.spl_pump.specs.Wires.{LiesOf}
use Rattle.spl_pump.specs.declared.fault.PumpFault.TheVariants as pump
use Rattle.spl_edge.proofs.Results.{err_same, failed}

-- ---- calls that failed

-- and one that succeeded
abbrev pub done : (A : Type 0) → A → Result A WorldFault
done A a = Ok a

pub err_as : {A E : Type 0} (e d : E) → e ≡ d → IsErrOf (failed A E e) d
err_as {A} {E} e d same = ap (failed A E) same

-- a call that fails so is this failure
pub err_is : {A E : Type 0} (r : Result A E) (e : E) → IsErr r × IsErrAnd r (λ y. y ≡ e) → r ≡ Err e
err_is (Ok a) e h = absurd h.1
err_is {A} {E} (Err d) e h = (let same : d ≡ e = h.1 in ap (failed A E) same)

-- a failure of one call is one of another
pub err_again : {A B E : Type 0} {e f : E} → IsErrOf (failed A E e) f → IsErrOf (failed B E e) f
err_again {e = e} {f = f} is = (let same : e ≡ f = cc in err_as e f same)

-- what holds of an error and of what a run reports of it: running out of memory, or a fault that says which
pub world_each : (P : WorldFault → RunFault → Type 0) → P error.NoMemory fault.NoMemory
    → ((e : WorldFault) → (e ≡ error.NoMemory → ⊥) → P e (fault.World e)) → (e : WorldFault) → P e (world_fault e)
world_each P short other (error.TooMany which) = other (error.TooMany which) (λ q. cc)
world_each P short other (error.Disk k) = other (error.Disk k) (λ q. cc)
world_each P short other (error.NotAJournal k at) = other (error.NotAJournal k at) (λ q. cc)
world_each P short other error.Link = other error.Link (λ q. cc)
world_each P short other (error.Lied from to put got) = other (error.Lied from to put got) (λ q. cc)
world_each P short other error.NoMemory = short

-- what it reports of the error, which is never running out of memory in the world
pub world_same : (f e : WorldFault) → world_fault f ≡ fault.World e → f ≡ e
world_same f e h = world_each (λ d g. g ≡ fault.World e → d ≡ e) (λ q. absurd cc) (λ d other q. cc) f h

pub world_room : (f : WorldFault) → world_fault f ≡ fault.World error.NoMemory → ⊥
world_room f h = world_each (λ d g. g ≡ fault.World error.NoMemory → ⊥) (λ q. cc) (λ d other q. other (cc)) f h

pub world_write : (f : WorldFault) → world_fault f ≡ fault.Write → ⊥
world_write f h = world_each (λ d g. g ≡ fault.Write → ⊥) (λ q. cc) (λ d other q. cc) f h

-- an error of a limit or of memory is one of a limit, where the run reports it of the world
pub limit_of : (e d : WorldFault) → world_fault e ≡ fault.World d → ((e ≡ error.NoMemory → ⊥) → is_of_limit e ≡ true) → is_of_limit d ≡ true
limit_of e d same only =
    (let is : e ≡ d = world_same e d same in subst (λ (f : WorldFault). is_of_limit f ≡ true) is
    (only (λ none. world_room e (same ∙ ap fault.World (sym is ∙ none)))))

-- a call failed with this error of the world
pub fails_is : {A : Type 0} (q : Result A WorldFault) (e : WorldFault) → FailsAs q (fault.World e) → IsErrOf q e
fails_is q e (f, same, is) = subst (λ (d : WorldFault). IsErrOf q d) (world_same f e same) is

-- a fault of the sink is none of the world
pub sink_world : (d : DeviceError) (e : WorldFault) → run_fault d ≡ fault.World e → ⊥
sink_world Failed e h = cc
sink_world NoRoom e h = cc

pub sink_write : (d : DeviceError) → run_fault d ≡ fault.Write → d ≡ Failed
sink_write Failed h = refl
sink_write NoRoom h = cc

-- ---- they go on

pub on_any : (linked : Bool) (S : Type 0) (xs ys : List PairView) → AllGoOn xs ys → PairsGoOn linked S xs ys
on_any true S xs ys on = on
on_any false S xs ys on = (none_on xs ys on, λ off room. unarmed_on xs ys on off)

pub on_none : (linked : Bool) (S : Type 0) (xs ys : List PairView) → PairsGoOn linked S xs ys → NoneForgotten xs ys
on_none true S xs ys on = none_on xs ys on
on_none false S xs ys on = on.0

pub on_then : (linked : Bool) (S T : Type 0) (xs ys zs : List PairView) → (S → ⊥) → PairsGoOn linked S xs ys → PairsGoOn linked T ys zs
    → PairsGoOn linked T xs zs
on_then true S T xs ys zs room a b = all_then xs ys zs a b
on_then false S T xs ys zs room a b = (none_then xs ys zs a.0 b.0, λ off more. b.1 (a.1 off room) more)

pub on_if : (linked : Bool) (S T : Type 0) (xs ys : List PairView) → (S → T) → PairsGoOn linked S xs ys → PairsGoOn linked T xs ys
on_if true S T xs ys f on = on
on_if false S T xs ys f on = (on.0, λ off more. on.1 off (λ s. more (f s)))

-- ---- nodes that begin

pub first_failed : (linked : Bool) (k : ℕ) (xs ys : List PairView) → (linked ≡ false → AllUnpicked xs) → AllGoOn xs ys → RoseAt k xs ys
    → HasFailed linked k xs ys
first_failed true k xs ys h on rose = rose
first_failed false k xs ys h on rose = rose_failed k xs ys (h refl) on rose

-- nothing was picked yet: over links none is, and else the disks were blank
pub picked_blank : (linked : Bool) (m : Mode) (es : List Entry) (is : List Images) (lines : List (List ℕ)) (w : World) (start now : List PairView)
    → AllGoOn start now → (m.beginning ≡ beginning.Resumed → linked ≡ true)
    → (linked ≡ false → m.beginning ≡ beginning.Blank → AllHeld (blank (nodes_in es)) start [] w now)
    → WorldPicked linked (origin (run_plan m es is lines)) [] w start now
picked_blank true m es is lines w start now on only held = on
picked_blank false m es is lines w start now on only held =
    subst (λ (o : Origin). AllHeld o start [] w now) (origin_planned m es is lines) (go m.beginning refl)
  where
    go : (b : Beginning) → m.beginning ≡ b → AllHeld (origin_in m.beginning es is) start [] w now
    go beginning.Resumed q = absurd (true≢false (sym (only q)))
    go beginning.Blank q = subst (λ (b : Beginning). AllHeld (origin_in b es is) start [] w now) (sym q) (held refl q)

-- ---- causes

links_itself : (x : LinkView) → LinksGoOn x x
links_itself x = record { no_less = omega arith; slots = refl; hello = refl }

-- a call that fails as one in it does
pub causes_as : {linked : Bool} {P Q : RunFault → Type 0} {Seat Place : ℕ → Type 0} {xs ys : List PairView} {x y : LinkView}
    → (P fault.NoMemory → Q fault.NoMemory) → ((e : WorldFault) → Q (fault.World e) → P (fault.World e)) → ((k : ℕ) → Seat k → Place k)
    → HaveCauses linked P Seat xs ys x y → HaveCauses linked Q Place xs ys x y
causes_as {linked} {P} {Q} {Seat} {Place} {xs} {ys} short keeps seat h = record {
  onward = on_if linked (P fault.NoMemory) (Q fault.NoMemory) xs ys short h.onward;
  spared = λ k off. h.spared k (λ is. off (seat k is));
  links = h.links;
  room = λ q. h.room (keeps error.NoMemory q);
  disk = λ k q. (let d = h.disk k (keeps (error.Disk k) q) in (seat k d.0, d.1));
  journal = λ k at q. seat k (h.journal k at (keeps (error.NotAJournal k at) q));
  link = λ q. h.link (keeps error.Link q);
  lied = λ from to sent got q. h.lied from to sent got (keeps (error.Lied from to sent got) q);
}

pub causes_if : {linked : Bool} {P Q : RunFault → Type 0} {Seat : ℕ → Type 0} {xs ys : List PairView} {x y : LinkView}
    → (P fault.NoMemory → Q fault.NoMemory) → ((e : WorldFault) → Q (fault.World e) → P (fault.World e)) → HaveCauses linked P Seat xs ys x y
    → HaveCauses linked Q Seat xs ys x y
causes_if short keeps h = causes_as short keeps (λ k q. q) h

-- one after another that succeeded
pub causes_then : {linked : Bool} {P Q : RunFault → Type 0} {Seat : ℕ → Type 0} {xs ys zs : List PairView} {x y z : LinkView} → (P fault.NoMemory → ⊥)
    → HaveCauses linked P Seat xs ys x y → HaveCauses linked Q Seat ys zs y z → HaveCauses linked Q Seat xs zs x z
causes_then {linked} {P} {Q} {Seat} {xs} {ys} {zs} {x} {y} {z} room a b = record {
  onward = on_then linked (P fault.NoMemory) (Q fault.NoMemory) xs ys zs room a.onward b.onward;
  spared = λ k off. b.spared k off ∙ a.spared k off;
  links = record { no_less = omega (arith, a.links.no_less, b.links.no_less); slots = b.links.slots ∙ a.links.slots; hello = b.links.hello ∙ a.links.hello };
  room = b.room;
  disk = λ k q. (let d = b.disk k q in (d.0, rose_later k xs ys zs (on_none linked (P fault.NoMemory) xs ys a.onward) d.1));
  journal = b.journal;
  link = λ q. (let rose = b.link q in omega (arith, a.links.no_less, rose));
  lied = λ from to sent got q. (let d = b.lied from to sent got q in (
    subst (λ (n : ℕ). from < n) a.links.slots d.0,
    subst (λ (n : ℕ). to < n) a.links.slots d.1,
    subst (λ (hello : ℕ → ℕ → List ℕ). LiesOf (MayBeDue hello from to) (pump.Lied sent got) z.put z.taken) a.links.hello d.2,
  ));
}

-- a call that changes nothing, and fails at a limit alone
pub limit_causes : {linked : Bool} {P : RunFault → Type 0} {Seat : ℕ → Type 0} {xs : List PairView} {x : LinkView}
    → ((e : WorldFault) → P (fault.World e) → is_of_limit e ≡ true) → HaveCauses linked P Seat xs xs x x
limit_causes {linked} {P} {Seat} {xs} {x} only = record {
  onward = on_any linked (P fault.NoMemory) xs xs (all_itself xs);
  spared = λ k off. refl;
  links = links_itself x;
  room = λ q. (let h = only error.NoMemory q in cc);
  disk = λ k q. absurd (let h = only (error.Disk k) q in cc);
  journal = λ k at q. absurd (let h = only (error.NotAJournal k at) q in cc);
  link = λ q. absurd (let h = only error.Link q in cc);
  lied = λ from to sent got q. absurd (let h = only (error.Lied from to sent got) q in cc);
}

-- or blames nothing
pub still_causes : {linked : Bool} {P : RunFault → Type 0} {Seat : ℕ → Type 0} {xs : List PairView} {x : LinkView}
    → ((e : WorldFault) → P (fault.World e) → ⊥) → HaveCauses linked P Seat xs xs x x
still_causes none = limit_causes (λ e q. absurd (none e q))

-- a call of the world
pub world_causes : {A : Type 0} {linked : Bool} {q : Result A WorldFault} {Seat : ℕ → Type 0} {xs ys : List PairView} {x y : LinkView}
    → PairsGoOn linked (IsErrOf q error.NoMemory) xs ys → ((k : ℕ) → (Seat k → ⊥) → slice_get ys k ≡ slice_get xs k) → LinksGoOn x y
    → ((k : ℕ) → IsErrOf q (error.Disk k) → Seat k × RoseAt k xs ys) → ((k at : ℕ) → IsErrOf q (error.NotAJournal k at) → Seat k)
    → (IsErrOf q error.Link → Rose x.faults y.faults)
    → ((from to : ℕ) (sent got : List ℕ) → IsErrOf q (error.Lied from to sent got)
    → (from < x.slots) × (to < x.slots) × LiesOf (MayBeDue x.hello from to) (pump.Lied sent got) y.put y.taken)
    → HaveCauses linked (FailsAs q) Seat xs ys x y
world_causes {A} {linked} {q} {Seat} {xs} {ys} onward spared links disk journal link lied = record {
  onward = on_if linked (IsErrOf q error.NoMemory) (FailsAs q fault.NoMemory) xs ys (λ is. (error.NoMemory, refl, is)) onward;
  spared = spared;
  links = links;
  room = λ (e, same, is). world_room e same;
  disk = λ k h. disk k (fails_is q (error.Disk k) h);
  journal = λ k at h. journal k at (fails_is q (error.NotAJournal k at) h);
  link = λ h. link (fails_is q error.Link h);
  lied = λ from to sent got h. lied from to sent got (fails_is q (error.Lied from to sent got) h);
}

-- a call that failed as a call of the world in it
pub fails_in : {A B : Type 0} (r : Result B RunFault) (e : WorldFault) → IsErr r × IsErrAnd r (λ y. y ≡ world_fault e) → (f : RunFault) → IsErrOf r f
    → FailsAs (failed A WorldFault e) f
fails_in r e h f is = (e, err_same r (world_fault e) f h is, refl)

pub fails_out : {A B : Type 0} (r : Result B RunFault) (e : WorldFault) → IsErr r × IsErrAnd r (λ y. y ≡ world_fault e) → (f : RunFault)
    → FailsAs (failed A WorldFault e) f → IsErrOf r f
fails_out {A} {B} r e h f (d, same, is) = let then : e ≡ d = cc in err_is r (world_fault e) h ∙ ap (failed B RunFault) (ap world_fault then ∙ same)

-- one that blames no link
pub unlinked_causes : {A : Type 0} {linked : Bool} (q : Result A WorldFault) {Seat : ℕ → Type 0} {xs ys : List PairView} {x : LinkView}
    → PairsGoOn linked (IsErrOf q error.NoMemory) xs ys → ((k : ℕ) → (Seat k → ⊥) → slice_get ys k ≡ slice_get xs k)
    → IfErr q (λ e. is_of_links e ≡ false) → ((k : ℕ) → IsErrOf q (error.Disk k) → Seat k × RoseAt k xs ys)
    → ((k at : ℕ) → IsErrOf q (error.NotAJournal k at) → Seat k) → HaveCauses linked (FailsAs q) Seat xs ys x x
unlinked_causes {A} {linked} q {Seat} {xs} {ys} {x} onward spared off disk journal =
    world_causes onward spared (links_itself x) disk journal
    (λ is. (let h : is_of_links error.Link ≡ false = IfErr-at_err (λ e. is_of_links e ≡ false) is off in absurd cc))
    (λ from to sent got is. (let h : is_of_links (error.Lied from to sent got) ≡ false = IfErr-at_err (λ e. is_of_links e ≡ false) is off in absurd cc))

-- and no journal
pub quiet_causes : {A : Type 0} {linked : Bool} (q : Result A WorldFault) {Seat : ℕ → Type 0} {xs ys : List PairView} {x : LinkView}
    → PairsGoOn linked (IsErrOf q error.NoMemory) xs ys → ((k : ℕ) → (Seat k → ⊥) → slice_get ys k ≡ slice_get xs k)
    → IfErr q (λ e. is_of_links e ≡ false) → IfErr q (λ e. is_of_journal e ≡ false) → ((k : ℕ) → IsErrOf q (error.Disk k) → Seat k × RoseAt k xs ys)
    → HaveCauses linked (FailsAs q) Seat xs ys x x
quiet_causes q onward spared off sound disk =
    unlinked_causes q onward spared off disk
    (λ k at is. absurd (let h : is_of_journal (error.NotAJournal k at) ≡ false = IfErr-at_err (λ e. is_of_journal e ≡ false) is sound in cc))
