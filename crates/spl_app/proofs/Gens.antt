-- A generated schedule, of whose text a run read a part.
use Rattle.std.{specs.{List.AllByRecursion, Io.KnownBytes.Consumes}, proofs.Common.{◌≡◌, ◌⊎◌, inl, inr, ◌-◌, ◌≤◌, ℕ, false, List, [], ◌∷◌, ◌++◌, Ok, Err}}
use Rattle.std.proofs.Common.{length, refl, sym, ◌∙◌, ap, subst, arith}
use Rattle.spl_cli.specs.declared.status.Status.{Status}
use Rattle.spl_cli.specs.declared.command.Command.TheVariants as command
use Rattle.spl_cli.specs.declared.status.Status.TheVariants as status
use Rattle.spl_circuit.specs.Nodes.{Node}
use Rattle.spl_edge.{specs.{Devices.{Rose, FabricView, PairView, SinkView, SourceView}, Sources.{had, limit, given}}, proofs.Sources.all_had}
use Rattle.spl_gen.specs.{Circuits.nodes, Generated.generated_text}
use Rattle.spl_lines.{specs.{Lines.{run_of, lines_of, rest_of}, Tasks.IsLine}, proofs.{Given.run_given, Parts.more_lines}}
use Rattle.spl_registry.specs.Nodes.{Entry, local_entries}
use Rattle.spl_runs.specs.Run.{IsAllowed, Plan, nodes_in, origin, plan, run_way, Ended, EndsText, PlanOutcome, devices, held_on}
use Rattle.spl_runs.specs.declared.fault.RunEnd.TheVariants as end
use Rattle.spl_runs.specs.declared.fault.RunFault.TheVariants as fault
use Rattle.spl_node.{specs.Benches.{AllTell, AllUnpicked}, proofs.Benches.all_itself}
use Rattle.spl_world.proofs.Holding.{pair_unpicked}
use Rattle.spl_app.{specs.{Asked.{no_links, outside, way_of, generated_lines, IsStatusOf}, Headline.Began}, proofs.Alike.{IsBroken, ran_alike, same_disks}}
use Rattle.spl_app.proofs.{Beginnings.{NoJournalFault, none_made}, Ends.{because_made, is_of_text}, Texts.{IsWellHad, never_text}}

-- the nodes of a generated schedule stand in order
nodes_are : nodes_in (local_entries nodes) ≡ nodes
nodes_are = refl

-- a run in memory may have each line of its nodes
all_allowed : (k : ℕ) (ns : List Node) (lines : List (List ℕ)) → AllByRecursion (IsLine ns) lines → AllByRecursion (IsAllowed (run_way false k) ns) lines
all_allowed k ns [] good = tt
all_allowed k ns (line ∷ lines) good = (record { good = good.0; taken = λ linked. absurd cc }, all_allowed k ns lines good.1)

-- what a run gave that is over these nodes and answers the lines after the first so many
pub record HasRun (e : Ended) (told : Status) (s t : SourceView) (old new : SinkView) (start now : List PairView) (es : List Entry) (k : ℕ) : Type 0 where
  pub text : EndsText e (run_way false k) (plan es (run_of (given s t))) s t
  pub ran : PlanOutcome e (run_way false k) (plan es (run_of (given s t))) s t (devices old start no_links) (devices new now no_links)
  pub report : AllTell (length es) (held_on start)
  pub sound : NoJournalFault e
  pub status : IsStatusOf es e told

module _ (n seed : ℕ) (s t : SourceView) (consumed : Consumes s.left t.left (given s t)) (is : had s.left (given s t) ≡ generated_text n seed)
    (few : length (generated_text n seed) ≤ limit) (still : Rose s.faults t.faults → ⊥)
    (good : AllByRecursion (IsLine nodes) (lines_of (generated_text n seed))) (whole : rest_of (generated_text n seed) ≡ []) where
  abbrev p : Plan
  p = plan (local_entries nodes) (generated_lines n seed)

  abbrev first : Plan
  first = plan (local_entries nodes) (run_of (given s t))

  short : length (had s.left (given s t)) ≤ limit
  short = omega (arith, few, ap length is)

  lines_are : run_of (had s.left (given s t)) ≡ generated_lines n seed
  lines_are = run_given (had s.left (given s t)) short ∙ ap lines_of is

  well : (k : ℕ) → IsWellHad (run_way false k) first s t
  well k = record {
    short = short;
    whole = ap rest_of is ∙ whole;
    good = subst (λ (ns : List Node). AllByRecursion (IsAllowed (run_way false k) ns) (run_of (had s.left (given s t)))) (sym nodes_are)
        (all_allowed k nodes (run_of (had s.left (given s t))) (subst (AllByRecursion (IsLine nodes)) (sym lines_are) good));
  }

  -- it goes to its end, or an error ends it
  no_text : (k : ℕ) (e : Ended) → EndsText e (run_way false k) first s t → (is_of_text e ≡ false) × (IsBroken e ⊎ (run_of (given s t) ≡ generated_lines n seed))
  no_text k (Ok end.Whole) h = (refl, inr (run_given (given s t) h.short ∙ ap lines_of (sym (all_had s.left t.left (given s t) consumed h.ended) ∙ is)))
  no_text k (Ok end.Read) h = absurd (never_text (run_way false k) first s t consumed refl (well k) still (Ok end.Read) h refl)
  no_text k (Ok end.TooLong) h = absurd (never_text (run_way false k) first s t consumed refl (well k) still (Ok end.TooLong) h refl)
  no_text k (Err (fault.BadLine l)) h = absurd (never_text (run_way false k) first s t consumed refl (well k) still (Err (fault.BadLine l)) h refl)
  no_text k e h = (refl, inl tt)

  ran_generated : (e : Ended) (told : Status) (old new : SinkView) (start now : List PairView)
      → HasRun e told s t old new start now (local_entries nodes) (length (generated_lines n seed) - 9)
      → (c : SourceView) (shelf : List PairView) (fabric : FabricView)
      → Began told (command.Gen n seed) p c c (outside old start shelf fabric) (outside new now shelf fabric)
  ran_generated e told old new start now h c shelf fabric =
      let w = way_of (command.Gen n seed) in
      let found = no_text (length (generated_lines n seed) - 9) e h.text in
      let part = more_lines s.left t.left (given s t) consumed short in
      let ran = ran_alike w p (run_of (given s t)) part.0 (generated_lines n seed)
      (sym lines_are ∙ part.1) old new start start now no_links no_links no_links no_links
      (same_disks w first start now no_links no_links no_links no_links (λ i below. below) refl (λ h. h) (λ a b sent got h. h) (λ before stop h. h)
      (λ before stop h. h) (λ h. h)) s t c c (λ same. refl) e found.1 h.ran in
      record {
        blank =
            λ linked. absurd cc;
        ended = e;
        status = h.status;
        why = because_made w p c c (devices old start no_links) (devices new now no_links) e found.0 ran.why;
        opened = λ report k at is. absurd (h.sound k at is);
        done = λ report. ran.done h.report;
      }

  -- a run of its text is one of its lines
  pub began_generated : (e : Ended) (told : Status) (old new : SinkView) (start now : List PairView) (es : List Entry) (k : ℕ) → es ≡ local_entries nodes
      → k ≡ length (generated_lines n seed) - 9 → HasRun e told s t old new start now es k
      → (c : SourceView) (shelf : List PairView) (fabric : FabricView)
      → Began told (command.Gen n seed) p c c (outside old start shelf fabric) (outside new now shelf fabric)
  began_generated e told old new start now es k over skips h = ran_generated e told old new start now
      (subst (HasRun e told s t old new start now (local_entries nodes)) skips (subst (λ (fs : List Entry). HasRun e told s t old new start now fs k) over h))

-- where memory ran out before it, nothing was done
pub none_generated : (n seed : ℕ) (c : SourceView) (sink : SinkView) (disks shelf : List PairView) (fabric : FabricView) → AllUnpicked disks
    → Began status.NoMemory (command.Gen n seed) (plan (local_entries nodes) (generated_lines n seed)) c c (outside sink disks shelf fabric)
    (outside sink disks shelf fabric)
none_generated n seed c sink disks shelf fabric unpicked = record {
  blank = λ linked. absurd cc;
  ended = Err fault.NoMemory;
  status = refl;
  why = tt;
  opened = λ report k at is. absurd cc;
  done = λ report. inl (none_made false (length (generated_lines n seed) - 9)
      (plan (local_entries nodes) (generated_lines n seed)) c sink disks disks no_links refl
      (λ k m s q at was there. inl
      (pair_unpicked (origin (plan (local_entries nodes) (generated_lines n seed))) m s q (unpicked k s was) ((all_itself disks).each k s q was there)))
      (λ k past. refl));
}
