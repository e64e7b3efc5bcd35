-- Where nothing failed, a run doesn't give up by itself.
use Rattle.std.{specs.Io.KnownBytes.Consumes, proofs.Common.{◌≡◌, ◌⊎◌, inl, inr, ⊎_elim, ◌+◌, ◌≤◌, ℕ, Bool, true, false, List, [], ◌∷◌, ◌++◌, length, Some}}
use Rattle.std.proofs.Common.{Result, Ok, Err, refl, ap, sym, subst, ◌∙◌, arith, append_assoc, append-nil}
use Rattle.spl_agree.proofs.Tests.{bool_cases}
use Rattle.spl_cli.specs.{Command.{is_linked, reads}, Registered.EndsReading, declared.{command.Command.Command, status.Status.Status}}
use Rattle.spl_cli.proofs.Reading.{read_ends}
use Rattle.spl_cli.specs.declared.command.Command.TheVariants as command
use Rattle.spl_cli.specs.declared.status.Status.TheVariants as status
use Rattle.spl_audit.{specs.Audit.{AuditIsSound, CameOfAudit}, proofs.Audits.audit_complete}
use Rattle.spl_node.{specs.{Blank.AllEmpty, Benches.{AllTell, Images, RoseAt, images_at}}, proofs.Journals.no_bytes}
use Rattle.spl_edge.{specs.{Devices.{Rose, IsHonest, PairView, SinkView, SourceView}, Sources.{had, limit, given}}, proofs.Sources.all_had}
use Rattle.spl_lines.{specs.{Lines.run_of, Tasks.{AreTasksWithin, Task}}, proofs.Parts.more_lines}
use Rattle.spl_pump.{specs.Wires.{AreTold, LiesOf}, proofs.Honest.never_lies}
use Rattle.spl_pump.specs.declared.fault.PumpFault.TheVariants as pump
use Rattle.spl_registry.specs.{Nodes.{Entry, registry_of}, declared.fault.RegistryFault.RegistryFault}
use Rattle.spl_runs.specs.Run.{Plan, RunMode, origin, run_plan, tasks, tasks_from, with_lines, AreAllowed, Devices, Ended, ErrorHasCause, HasFailed, In}
use Rattle.spl_runs.{specs.{Run.{Reached, PlanRun, Stop, Unmade, Why, held_on, under_way}, declared.mode.Mode.Mode}, proofs.Tasks.tasks-append}
use Rattle.spl_runs.specs.declared.fault.RunEnd.TheVariants as end
use Rattle.spl_runs.specs.declared.fault.RunFault.TheVariants as fault
use Rattle.spl_world.{specs.{Held.AllReadable, Links.MayBeDue, declared.fault.WorldFault.WorldFault}, proofs.HoldingSeats.node_below}
use Rattle.spl_world.specs.declared.fault.WorldFault.TheVariants as error
use Rattle.spl_app.specs.{Asked.{Outside, Report, devices_by, devices_of, mode_of, command_plan, plan_over, way_of, IsStatusOf}, Headline.{Began, CameOfPlan}}
use Rattle.spl_app.{specs.{Headline.{NotBegun, WhyNot}, Sound.{CanEnd, NothingFailed, PlanIsSound}}, proofs.Beginnings.{NoJournalFault, none_of_journal}}
use Rattle.spl_app.proofs.{Ends.{is_of_text, none_of_text, text_of, why_of}, Limits.{not_over, within_first}, Statuses.no_lie, Texts.never_text}

-- ---- the plan

-- that of the bytes given is the first part of that of all bytes
pub record IsPart (p q : Plan) : Type 0 where
  pub more : List (List ℕ)
  pub whole : q ≡ with_lines p (p.lines ++ more)

plan_is : (mode : Mode) (is : List Images) (r : Result (List Entry) RegistryFault) (lines : List (List ℕ)) (p : Plan) → plan_over mode is r lines ≡ Some p
    → (es : List Entry) × (r ≡ Ok es) × (run_plan mode es is lines ≡ p)
plan_is mode is (Ok es) lines p h = (let same : run_plan mode es is lines ≡ p = cc in (es, refl, same))
plan_is mode is (Err fault) lines p h = absurd cc

of_bytes : (mode : Mode) (is : List Images) (text whole bytes all : List ℕ) (p q : Plan) → plan_over mode is (registry_of text) (run_of bytes) ≡ Some p
    → plan_over mode is (registry_of whole) (run_of all) ≡ Some q → whole ≡ text → (ls : List (List ℕ)) × (run_of all ≡ run_of bytes ++ ls) → IsPart p q
of_bytes mode is text whole bytes all p q h g same more =
    let a = plan_is mode is (registry_of text) (run_of bytes) p h in
    let b = plan_is mode is (registry_of whole) (run_of all) q g in
    let both : Ok b.0 ≡ Ok a.0 = sym b.1 ∙ ap registry_of same ∙ a.1 in
    let nodes : b.0 ≡ a.0 = cc in
    record {
      more = more.0;
      whole = sym b.2 ∙ ap (λ (es : List Entry). run_plan mode es is (run_of all)) nodes ∙ ap (λ (ls : List (List ℕ)). run_plan mode a.0 is ls) more.1
          ∙ ap (λ (z : Plan). with_lines z (z.lines ++ more.0)) a.2;
    }

-- of a registry and a schedule that are read
plan_read : (m : Command) (is : List Images) (registry schedule : List ℕ) (q : Plan) → reads m ≡ true → command_plan m is registry schedule ≡ Some q
    → plan_over (mode_of m) is (registry_of registry) (run_of schedule) ≡ Some q
plan_read command.Replay is registry schedule q read h = h
plan_read command.Trace is registry schedule q read h = h
plan_read command.Links is registry schedule q read h = h
plan_read command.Resume is registry schedule q read h = h
plan_read command.Audit is registry schedule q read h = absurd cc
plan_read (command.Gen n seed) is registry schedule q read h = absurd cc
plan_read (command.Paxos g) is registry schedule q read h = absurd cc

-- and where none is
plan_made : (m : Command) (is : List Images) (text bytes registry schedule : List ℕ) (p q : Plan) → reads m ≡ false → command_plan m is text bytes ≡ Some p
    → command_plan m is registry schedule ≡ Some q → q ≡ p
plan_made command.Replay is text bytes registry schedule p q none h g = absurd cc
plan_made command.Trace is text bytes registry schedule p q none h g = absurd cc
plan_made command.Links is text bytes registry schedule p q none h g = absurd cc
plan_made command.Resume is text bytes registry schedule p q none h g = absurd cc
plan_made command.Audit is text bytes registry schedule p q none h g = absurd cc
plan_made (command.Gen n seed) is text bytes registry schedule p q none h g = let both : Some q ≡ Some p = sym g ∙ h in cc
plan_made (command.Paxos g) is text bytes registry schedule p q none h other = absurd cc

-- ---- devices that didn't fail

-- no device of a run failed, and no link lied
record AreSound (linked : Bool) (x y : Devices) : Type 0 where
  disks : (k : ℕ) → HasFailed linked k x.disks y.disks → ⊥
  link : Rose x.links.faults y.links.faults → ⊥
  lied : (from to : ℕ) (sent got : List ℕ) → LiesOf (MayBeDue x.links.hello from to) (pump.Lied sent got) y.links.put y.links.taken → ⊥
  sink : Rose x.sink.faults y.sink.faults → ⊥

abbrev LinksAreSound : Outside → Outside → Type 0
LinksAreSound x y = (Rose x.fabric.faults y.fabric.faults → ⊥) × AreTold y.fabric.put y.fabric.taken × IsHonest y.fabric.put y.fabric.taken

sound_by : (linked : Bool) (p q : Plan) (x y : Outside) → ((k : ℕ) → HasFailed linked k (devices_by linked q x).disks (devices_by linked q y).disks → ⊥)
    → (Rose x.sink.faults y.sink.faults → ⊥) → (linked ≡ true → LinksAreSound x y) → AreSound linked (devices_by linked p x) (devices_by linked p y)
sound_by true p q x y disks sink sound = (let links = sound refl in record {
  disks = disks;
  link = links.0;
  lied = λ from to sent got. never_lies (MayBeDue (devices_by true p x).links.hello from to) y.fabric.put y.fabric.taken (pump.Lied sent got) links.1 links.2;
  sink = sink;
})
sound_by false p q x y disks sink sound =
    record { disks = disks; link = λ rose. omega (arith, rose); lied = λ from to. no_lie (MayBeDue (devices_by false p x).links.hello from to); sink = sink }

sound_of : (m : Command) (p q : Plan) (r v c d : SourceView) (x y : Outside) → NothingFailed m q r v c d x y
    → AreSound (is_linked m) (devices_of m p x) (devices_of m p y)
sound_of m p q r v c d x y h = sound_by (is_linked m) p q x y h.disks h.sink h.links

-- ---- a run of the first lines

module _ (w : RunMode) (p : Plan) (c d : SourceView) (more : List (List ℕ)) (x y : Devices) (sound : AreSound w.linked x y)
    (within : AreTasksWithin (origin p) (tasks w (p.lines ++ more))) where
  -- no task passes a limit
  never_over : (r : Reached w p x y) (t : Task) (which : ℕ) → r.stop ≡ In t (error.TooMany which) → ⊥
  never_over r t which is =
      let cause = subst (λ (stop : Stop). ErrorHasCause w p r.before stop x y) is r.cause in
      let here : tasks w r.lines ≡ r.before ++ t ∷ r.more = subst (λ (stop : Stop). tasks w r.lines ≡ r.before ++ (under_way stop ++ r.more)) is r.all in
      let rest = r.rest ++ more in
      let lines : p.lines ++ more ≡ r.lines ++ rest = ap (λ (ls : List (List ℕ)). ls ++ more) r.place ∙ append_assoc r.lines r.rest more in
      let later = tasks_from w (1 + length r.lines) rest in
      let next = r.before ++ t ∷ [] in
      let same : tasks w (p.lines ++ more) ≡ next ++ (r.more ++ later) =
      ap (tasks w) lines ∙ tasks-append w 1 r.lines rest ∙ ap (λ (ts : List Task). ts ++ later) (here ∙ sym (append_assoc r.before (t ∷ []) r.more))
      ∙ append_assoc next r.more later in
      not_over (origin p) next which (within_first (origin p) next (r.more ++ later) (tasks w (p.lines ++ more)) same within) cause

  never_in : (e : WorldFault) → ((k at : ℕ) → e ≡ error.NotAJournal k at → ⊥) → Why (Err (fault.World e)) w p x y
      → Unmade (Err (fault.World e)) w p c d x y ⊎ PlanRun (Err (fault.World e)) w p x y → ⊥
  never_in (error.TooMany which) read why (inl un) = un.disks
  never_in (error.TooMany which) read why (inr r) = never_over r.reached r.ends.0 which r.ends.1
  never_in (error.Disk k) read why done = sound.disks k why.1
  never_in (error.NotAJournal k at) read why done = read k at refl
  never_in error.Link read why done = sound.link why
  never_in (error.Lied from to sent got) read why done = sound.lied from to sent got why.2
  never_in error.NoMemory read why done = why

  complete_end : (e : Ended) (s : Status) → IsStatusOf p.nodes e s → (is_of_text e ≡ true → ⊥)
      → ((k at : ℕ) → e ≡ Err (fault.World (error.NotAJournal k at)) → ⊥) → Why e w p x y → Unmade e w p c d x y ⊎ PlanRun e w p x y
      → (s ≡ status.Ok) ⊎ (s ≡ status.NoMemory)
  complete_end (Ok end.Whole) s told silent read why done = inl told
  complete_end (Err fault.NoMemory) s told silent read why done = inr told
  complete_end (Err (fault.World e)) s told silent read why done =
      absurd (never_in e (λ k at is. read k at (ap (λ (f : WorldFault). Err (fault.World f)) is)) why done)
  complete_end (Err fault.Write) s told silent read why done = absurd (sound.sink why)
  complete_end e s told silent read why done = absurd (silent refl)

-- ---- what came of the bytes given

false_true : false ≡ true → ⊥
false_true is = cc

report_by : (linked : Bool) (p : Plan) (x : Outside) → (linked ≡ true → AllTell (length p.nodes) (held_on x.shelf)) → Report linked p x
report_by true p x told = told refl
report_by false p x told = tt

-- disks hold nothing before a run over links that begins with nothing
unbegun : (s : Status) (p : Plan) (x y : Outside) → AllTell (length p.nodes) (held_on x.shelf) → AllEmpty (length p.nodes) (held_on x.shelf)
    → ((k : ℕ) → RoseAt k x.shelf y.shelf → ⊥) → WhyNot s p x y → (s ≡ status.Ok) ⊎ (s ≡ status.NoMemory)
unbegun (status.NotBlank node) p x y told blank disks (k, at, first) =
    let under = node_below p.nodes k node at in absurd (no_bytes (images_at (held_on x.shelf) k) (told k under) (blank k under) first.here)
unbegun (status.DiskFault node) p x y told blank disks (k, at, rose) = absurd (disks k rose)
unbegun status.NoMemory p x y told blank disks why = inr refl
unbegun s p x y told blank disks why = absurd why

module _ (s : Status) (m : Command) (r v c d : SourceView) (x y : Outside) (registry : Consumes r.left v.left (given r v))
    (consumed : Consumes c.left d.left (given c d)) where
  abbrev text : List ℕ
  text = had r.left (given r v)

  abbrev bytes : List ℕ
  bytes = had c.left (given c d)

  abbrev files : List Images
  files = held_on x.shelf

  -- the lines of a plan, where a schedule is read
  lines_are : (registry schedule : List ℕ) (p : Plan) → reads m ≡ true → command_plan m files registry schedule ≡ Some p → p.lines ≡ run_of schedule
  lines_are registry schedule p read is =
      ap (λ (z : Plan). z.lines)
      (sym (plan_is (mode_of m) files (registry_of registry) (run_of schedule) p (plan_read m files registry schedule p read is)).2)

  module _ (h : CameOfPlan s m r v c d x y) where
    part_of : (q : Plan) → command_plan m files text bytes ≡ Some q → (reads m ≡ true → length bytes ≤ limit) → IsPart h.plan q
    part_of q is short = by (bool_cases (reads m))
      where
        by : (reads m ≡ true) ⊎ (reads m ≡ false) → IsPart h.plan q
        by (inl read) =
            of_bytes (mode_of m) files (given r v) text (given c d) bytes h.plan q (plan_read m files (given r v) (given c d) h.plan read h.spelled)
            (plan_read m files text bytes q read is)
            (all_had r.left v.left (given r v) registry (h.read read).ended) (more_lines c.left d.left (given c d) consumed (short read))
        by (inr none) =
            let same = plan_made m files (given r v) (given c d) text bytes h.plan q none h.spelled is in
            record { more = []; whole = same ∙ ap (λ (ls : List (List ℕ)). with_lines h.plan ls) (sym (append-nil h.plan.lines)) }

    module _ (more : List (List ℕ)) where
      abbrev q : Plan
      q = with_lines h.plan (h.plan.lines ++ more)

      -- the text didn't end a run that began
      silent : command_plan m files text bytes ≡ Some q → CanEnd m q bytes → (Rose c.faults d.faults → ⊥) → (b : Began s m h.plan c d x y)
          → is_of_text b.ended ≡ true → ⊥
      silent is can still b of_text = by (bool_cases (reads m))
        where
          by : (reads m ≡ true) ⊎ (reads m ≡ false) → ⊥
          by (inl read) = never_text (way_of m) h.plan c d consumed (lines_are (given r v) (given c d) h.plan read h.spelled)
              (record {
                short =
                    can.short read;
                whole = can.whole read;
                good = subst (AreAllowed (way_of m) q) (lines_are text bytes q read is) can.allowed;
              }) still b.ended
              (text_of (way_of m) h.plan c d (devices_of m h.plan x) (devices_of m h.plan y) b.ended (reads m) read b.why) of_text
          by (inr none) =
              false_true (sym (none_of_text (way_of m) h.plan c d (devices_of m h.plan x) (devices_of m h.plan y) b.ended (reads m) none b.why) ∙ of_text)

      module _ (sound : NothingFailed m q r v c d x y) where
        began_not : NotBegun s m h.plan c d x y → (s ≡ status.Ok) ⊎ (s ≡ status.NoMemory)
        began_not un = unbegun s h.plan x y (sound.told (ap is_linked un.linked)) (sound.blank un.linked)
            (subst (λ (n : Command). (k : ℕ) → HasFailed (is_linked n) k (devices_of n q x).disks (devices_of n q y).disks → ⊥) un.linked sound.disks) un.why

        why_began : (b : Began s m h.plan c d x y) → Why b.ended (way_of m) h.plan (devices_of m h.plan x) (devices_of m h.plan y)
        why_began b = why_of (way_of m) h.plan c d (devices_of m h.plan x) (devices_of m h.plan y) b.ended (reads m) b.why

        -- a run that goes on finds journals
        all_read : Report (is_linked m) h.plan x → (b : Began s m h.plan c d x y) → NoJournalFault b.ended
        all_read report b = λ k at is.
            let resumed = b.opened report k at is in
            none_of_journal b.ended (way_of m) h.plan c d (devices_of m h.plan x) (devices_of m h.plan y)
            (record { why = why_began b; done = λ told. b.done report })
            (subst (λ (n : Command). AllTell (length h.plan.nodes) (held_on (devices_of n h.plan x).disks)) (sym resumed) (sound.told (ap is_linked resumed)))
            (subst (λ (n : Command). AllReadable h.plan.nodes (held_on (devices_of n h.plan x).disks)) (sym resumed) (sound.kept resumed)) k at is

        ends_well : command_plan m files text bytes ≡ Some q → CanEnd m q bytes → (s ≡ status.Ok) ⊎ (s ≡ status.NoMemory)
        ends_well is can = ⊎_elim began_not
            (λ (b : Began s m h.plan c d x y).
            let report = report_by (is_linked m) h.plan x sound.told in
            complete_end (way_of m) h.plan c d more (devices_of m h.plan x) (devices_of m h.plan y)
            (sound_of m h.plan q r v c d x y sound) can.within b.ended s b.status (silent is can sound.schedule b) (all_read report b) (why_began b)
            (b.done report))
            h.comes

  pub plan_complete : (A : Type 0) → ((reads m ≡ true) × EndsReading s r v × A) ⊎ CameOfPlan s m r v c d x y → PlanIsSound m text bytes r v c d x y
      → (s ≡ status.Ok) ⊎ (s ≡ status.NoMemory)
  plan_complete A (inl ended) h =
      let b = plan_is (mode_of m) files (registry_of text) (run_of bytes) h.plan (plan_read m files text bytes h.plan ended.0 h.spelled) in
      read_ends r v registry h.sound.registry b.0 b.1 (h.short ended.0) s ended.1
  plan_complete A (inr came) h =
      let part = part_of came h.plan h.spelled h.ends.short in
      ends_well came part.more
      (subst (λ (z : Plan). NothingFailed m z r v c d x y) part.whole h.sound)
      (subst (λ (z : Plan). command_plan m files text bytes ≡ Some z) part.whole h.spelled)
      (subst (λ (z : Plan). CanEnd m z bytes) part.whole h.ends)

-- ---- an audit

pub audit_done : (A : Type 0) (s : Status) (r v : SourceView) (ps qs : List PairView) (w z : SinkView) → Consumes r.left v.left (given r v)
    → (EndsReading s r v × A) ⊎ CameOfAudit s r v ps qs w z → AuditIsSound (had r.left (given r v)) r v ps qs w z
    → ((s ≡ status.Ok) ⊎ (s ≡ status.Disagreed)) ⊎ (s ≡ status.NoMemory)
audit_done A s r v ps qs w z consumed (inl h) sound = audit_complete s r v ps qs w z consumed (inl h.0) sound
audit_done A s r v ps qs w z consumed (inr came) sound = audit_complete s r v ps qs w z consumed (inr came) sound
