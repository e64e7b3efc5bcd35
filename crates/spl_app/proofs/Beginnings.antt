-- Runs that began, in memory and over links.
use Rattle.std.{specs.Io.appended_bytes, proofs.Common.{◌≡◌, ◌⊎◌, ⊎_elim, inl, inr, ◌<◌, ◌≤◌, ℕ, Bool, true, false, List, [], length, Err, refl, sym, ◌∙◌}}
use Rattle.std.proofs.{Common.{subst, arith}, KnownBytes.Appends-nil, lemmas.List.drop_all}
use Rattle.spl_cli.specs.{Command.{in_memory, is_linked, over_links, reads}, declared.{command.Command.Command, status.Status.Status}}
use Rattle.spl_cli.specs.declared.command.Command.TheVariants as command
use Rattle.spl_cli.specs.declared.status.Status.TheVariants as status
use Rattle.spl_node.{specs.{Blank.{AllEmpty, IsSame}, Benches.{AllTell, Images, images_at}}, proofs.Journals.{never, readable_empty}}
use Rattle.spl_edge.specs.Devices.{FabricView, PairView, SinkView, SourceView}
use Rattle.spl_registry.specs.Nodes.{Entry}
use Rattle.spl_runs.specs.Run.{Plan, RunMode, is_resumed, is_trace, run_way, After, Devices, Ended, EndsText, ErrorHasCause, PickedAtStops, PlanOutcome}
use Rattle.spl_runs.specs.{Run.{PlanRun, Spared, Stop, Unmade, Why, devices, held_on}, declared.mode.{Beginning.Beginning, Mode.Mode, Writing.Writing}}
use Rattle.spl_runs.specs.declared.fault.RunFault.TheVariants as fault
use Rattle.spl_runs.specs.declared.mode.Beginning.TheVariants as beginning
use Rattle.spl_runs.specs.declared.mode.Writing.TheVariants as writing
use Rattle.spl_world.{specs.{Held.{AllReadable, AreOpenedBut}, Links.LinkView}, proofs.Opened.made_none as unmade_none}
use Rattle.spl_world.specs.declared.fault.WorldFault.TheVariants as error
use Rattle.spl_app.specs.{Asked.{Outside, Report, devices_of, links_over, mode_of, no_links, outside, way_of, IsStatusOf}, Headline.{Began, NotBegun, WhyNot}}
use Rattle.spl_app.{specs.Parts.plan_given, proofs.Ends.because_read}

-- ---- disks that are blank or a journal

none_unread : (p : Plan) (w : RunMode) (c d : SourceView) (x y : Devices) (k at : ℕ) → AllTell (length p.nodes) (held_on x.disks)
    → AllReadable p.nodes (held_on x.disks) → k < length p.nodes
    → Unmade (Err (fault.World (error.NotAJournal k at))) w p c d x y ⊎ PlanRun (Err (fault.World (error.NotAJournal k at))) w p x y → ⊥
none_unread p w c d x y k at told kept known (inl un) =
    let is = images_at (held_on x.disks) k in never at is.0 is.1 (told k known) (kept k known) un.disks.0.here
none_unread p w c d x y k at told kept known (inr r) = subst (λ (stop : Stop). ErrorHasCause w p r.reached.before stop x y) r.ends.1 r.reached.cause

-- no bytes that were read from disks are why it ended
abbrev pub NoJournalFault : Ended → Type 0
NoJournalFault e = (k at : ℕ) → e ≡ Err (fault.World (error.NotAJournal k at)) → ⊥

-- a run over disks that are blank or a journal doesn't find that they are none
pub none_of_journal : (e : Ended) (w : RunMode) (p : Plan) (c d : SourceView) (x y : Devices) → PlanOutcome e w p c d x y
    → AllTell (length p.nodes) (held_on x.disks) → AllReadable p.nodes (held_on x.disks) → NoJournalFault e
none_of_journal e w p c d x y ran told kept = λ k at is. none_unread p w c d x y k at told kept
    (subst (λ (f : Ended). Why f w p x y) is ran.why)
    (subst (λ (f : Ended). Unmade f w p c d x y ⊎ PlanRun f w p x y) is (ran.done told))

-- ---- devices to which nothing was done

-- nothing was given, or taken
pub none_given : (bytes : List ℕ) → appended_bytes bytes bytes ≡ []
none_given bytes = drop_all (length bytes) bytes (omega arith)

-- no node was made, where memory ran out before
pub none_made : (linked : Bool) (unanswered : ℕ) (p : Plan) (c : SourceView) (sink : SinkView) (start disks : List PairView) (links : LinkView)
    → held_on disks ≡ held_on start → PickedAtStops linked p [] After start disks → Spared p start disks
    → Unmade (Err fault.NoMemory) (run_way linked unanswered) p c c (devices sink start links) (devices sink disks links)
none_made linked unanswered p c sink start disks links same picked spared = record {
  unread = refl;
  disks = subst (λ (is : List Images). AreOpenedBut p.nodes error.NoMemory is (held_on disks)) same
      (unmade_none p.nodes error.NoMemory (held_on disks) (λ k q. cc) (λ k at q. cc));
  picked = picked;
  spared = spared;
  written = Appends-nil sink.written;
  links = refl;
}

-- ---- runs that began

-- a mode that writes answers or traces of each line, or that goes on
abbrev pub mode_by : Beginning → Writing → Mode
mode_by b w = record { beginning = b; writing = w; unanswered = 0 }

-- of a schedule that is read
began_read : (s : Status) (m : Command) (p : Plan) (c d : SourceView) (x y : Outside) (e : Ended) → reads m ≡ true
    → (m ≡ command.Links → AllEmpty (length p.nodes) (held_on x.shelf)) → IsStatusOf p.nodes e s → EndsText e (way_of m) p c d
    → (Report (is_linked m) p x → (m ≡ command.Resume) ⊎ NoJournalFault e) → Why e (way_of m) p (devices_of m p x) (devices_of m p y)
    → (Report (is_linked m) p x
    → Unmade e (way_of m) p c d (devices_of m p x) (devices_of m p y) ⊎ PlanRun e (way_of m) p (devices_of m p x) (devices_of m p y))
    → Began s m p c d x y
began_read s m p c d x y e read blank told text opened why done = record {
  blank = blank;
  ended = e;
  status = told;
  why = because_read (way_of m) p c d (devices_of m p x) (devices_of m p y) e (reads m) read text why;
  opened = λ tells k at is. ⊎_elim (λ (resumed : m ≡ command.Resume). resumed) (λ (no : NoJournalFault e). absurd (no k at is)) (opened tells);
  done = done;
}

-- ---- in memory

module _ (s : Status) (es : List Entry) (c d : SourceView) (is : List Images) (e : Ended) (old new : SinkView) (start now shelf : List PairView)
    (fabric : FabricView) where
  pub began_in_memory : (wr : Writing) → IsStatusOf es e s → EndsText e (run_way false 0) (plan_given (mode_by beginning.Blank wr) es is c d) c d
      → PlanOutcome e (run_way false 0) (plan_given (mode_by beginning.Blank wr) es is c d) c d (devices old start no_links) (devices new now no_links)
      → AllTell (length es) (held_on start) → NoJournalFault e
      → Began s (in_memory (is_trace wr)) (plan_given (mode_of (in_memory (is_trace wr))) es (held_on shelf) c d) c d (outside old start shelf fabric)
      (outside new now shelf fabric)
  began_in_memory writing.Answers told text ran report sound =
      began_read s command.Replay (plan_given (mode_by beginning.Blank writing.Answers) es is c d) c d (outside old start shelf fabric)
      (outside new now shelf fabric) e refl (λ linked. absurd cc) told text (λ tells. inr sound) ran.why (λ tells. ran.done report)
  began_in_memory writing.Trace told text ran report sound =
      began_read s command.Trace (plan_given (mode_by beginning.Blank writing.Trace) es is c d) c d (outside old start shelf fabric)
      (outside new now shelf fabric) e refl (λ linked. absurd cc) told text (λ tells. inr sound) ran.why (λ tells. ran.done report)

-- ---- over links

module _ (s : Status) (es : List Entry) (c d : SourceView) (e : Ended) (old new : SinkView) (bench start now : List PairView) (f g : FabricView) where
  -- disks that hold nothing are no journal that can't be read
  no_fault : (p : Plan) → p.nodes ≡ es → AllEmpty (length es) (held_on start)
      → PlanOutcome e (run_way true 0) p c d (devices old start (links_over es f)) (devices new now (links_over es g))
      → AllTell (length es) (held_on start) → NoJournalFault e
  no_fault p over empty ran told = none_of_journal e (run_way true 0) p c d (devices old start (links_over es f)) (devices new now (links_over es g)) ran
      (subst (λ (fs : List Entry). AllTell (length fs) (held_on start)) (sym over) told)
      (λ i below. readable_empty (images_at (held_on start) i) (empty i (subst (λ (fs : List Entry). i < length fs) over below)))

  pub began_over_links : (b : Beginning) → (b ≡ beginning.Blank → AllEmpty (length es) (held_on start)) → IsStatusOf es e s
      → EndsText e (run_way true 0) (plan_given (mode_by b writing.Answers) es (held_on start) c d) c d
      → PlanOutcome e (run_way true 0) (plan_given (mode_by b writing.Answers) es (held_on start) c d) c d (devices old start (links_over es f))
      (devices new now (links_over es g))
      → Began s (over_links (is_resumed b)) (plan_given (mode_of (over_links (is_resumed b))) es (held_on start) c d) c d (outside old bench start f)
      (outside new bench now g)
  began_over_links beginning.Blank empty told text ran =
      let p = plan_given (mode_by beginning.Blank writing.Answers) es (held_on start) c d in
      began_read s command.Links p c d (outside old bench start f) (outside new bench now g) e refl (λ linked. empty refl) told text
      (λ tells. inr (no_fault p refl (empty refl) ran tells)) ran.why ran.done
  began_over_links beginning.Resumed empty told text ran =
      began_read s command.Resume (plan_given (mode_by beginning.Resumed writing.Answers) es (held_on start) c d) c d (outside old bench start f)
      (outside new bench now g) e refl (λ linked. absurd cc) told text (λ tells. inl refl) ran.why ran.done

-- one that didn't, since its disks hold bytes, or for want of memory
pub not_begun : (s : Status) (p : Plan) (c : SourceView) (sink : SinkView) (bench start mid : List PairView) (f : FabricView) → held_on mid ≡ held_on start
    → WhyNot s p (outside sink bench start f) (outside sink bench mid f)
    → NotBegun s command.Links p c c (outside sink bench start f) (outside sink bench mid f)
not_begun s p c sink bench start mid f same why = record {
  linked = refl;
  why = why;
  unread = none_given c.gave;
  written = Appends-nil sink.written;
  disks = same;
  links = refl;
}

-- where memory ran out before the first task, nothing was done
module _ (es : List Entry) (c : SourceView) (sink : SinkView) (bench start mid : List PairView) (f : FabricView) (asked : IsSame (length es) start mid) where
  none_begun : (p : Plan) → p.nodes ≡ es
      → Unmade (Err fault.NoMemory) (run_way true 0) p c c (devices sink start (links_over es f)) (devices sink mid (links_over es f))
  none_begun p over =
      none_made true 0 p c sink start mid (links_over es f) asked.same asked.onward
      (λ k past. asked.spared k (subst (λ (fs : List Entry). length fs ≤ k) over past))

  pub began_without_memory : (b : Beginning) → (b ≡ beginning.Blank → AllEmpty (length es) (held_on start))
      → NotBegun status.NoMemory (over_links (is_resumed b)) (plan_given (mode_of (over_links (is_resumed b))) es (held_on start) c c) c c
      (outside sink bench start f) (outside sink bench mid f)
      ⊎ Began status.NoMemory (over_links (is_resumed b)) (plan_given (mode_of (over_links (is_resumed b))) es (held_on start) c c) c c
      (outside sink bench start f) (outside sink bench mid f)
  began_without_memory beginning.Blank empty =
      inl (not_begun status.NoMemory (plan_given (mode_of command.Links) es (held_on start) c c) c sink bench start mid f asked.same tt)
  began_without_memory beginning.Resumed empty =
      inr (began_read status.NoMemory command.Resume (plan_given (mode_of command.Resume) es (held_on start) c c) c c (outside sink bench start f)
      (outside sink bench mid f) (Err fault.NoMemory) refl (λ linked. absurd cc) refl tt
      (λ tells. inl refl) tt (λ tells. inl (none_begun (plan_given (mode_of command.Resume) es (held_on start) c c) refl)))
