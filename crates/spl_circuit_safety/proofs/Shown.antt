-- What is shown of a circuit is of prefixes of its lists: a node's histories begin the lists after the lines so far, and these
-- begin the lists after all lines.
use Rattle.std.{specs.Prelude.{Option, Some, None, is_some, if◌then◌else◌}, proofs.Common.{◌≡◌, ℕ, ◌⊎◌, Bool, true, false, List, [], ◌∷◌, ◌++◌, append_assoc}}
use Rattle.std.proofs.Common.{length, take, refl, sym, ap, subst, ◌∙◌, inl, inr}
use Rattle.spl_agree.{specs.{Member.{values, found, found_refused}, World.IsPrefixOf, declared.reason.Reason.Reason}, proofs.Tests.{if_holds, bool_cases}}
use Rattle.spl_agree.proofs.Tests.{length-values}
use Rattle.spl_command.specs.declared.{batch.Batch.Batch, receipt.Receipt.Receipt}
use Rattle.spl_scabbard.specs.Readers.{place_of, receipts_of}
use Rattle.spl_circuit.specs.{Nodes.{NodeId, CircuitId}, Rules.{admin, service}, Same.definition_is, declared.{act.Act.Act, definition.Definition.Definition}}
use Rattle.spl_wire.specs.declared.{answer.{Answer.Answer, Refusal.Refusal}, change.Change.Change, event.Event.Event}
use Rattle.spl_wire.specs.declared.event.Event.TheVariants as event
use Rattle.spl_wire.specs.declared.answer.Answer.TheVariants as answer
use Rattle.spl_wire.specs.declared.answer.Refusal.TheVariants as refusal
use Rattle.spl_cell_rules.specs.{Cells.{Cell, Held, Deed, Bound, Site, runs, site_at}, Batches.{has_the_id, status_kept, status_refused, receipt_kept}}
use Rattle.spl_cell_rules.specs.{Events.held_does, Plans.{planned, plan_of, tells_only}}
use Rattle.spl_circuit_world.specs.{Origins.is-blank, Projection.{AllPlain, Ran, lines_fit}, Worlds.{blank, IsOrigin, Origin, World, Occurrence, empty_world}}
use Rattle.spl_circuit_world.specs.{Worlds.{first_world, occur}, Answers.occurrences, Whole.{whole_from, whole_world, happened_from, whole_happened}}
use Rattle.spl_circuit_world.proofs.{Happens.{whole-run, plain-whole, happened-append}, Owns.{own-same, fits-left, answer-whole}}
use Rattle.spl_circuit_safety.specs.Agreement.{is_bound_to, acts_in, batches_in, list_from, act_list, batch_list, answered, asking_line, IsTold, IsShownBy}
use Rattle.spl_circuit_safety.{specs.Agreement.{IsOfPrefixes, ShowsPrefixes}, proofs.{Occurrences.{begins-acts, begins-batches}, Prefixes.take-prefix}}
use Rattle.spl_circuit_safety.proofs.{Prefixes.receipts-placed, Tells.held-answers, SameLists.{list-append, same-acts, same-batches}}

-- ---- at a cell

-- what a bound cell reports is of its own histories
module _ (site : Site) (b : Bound) where
  abbrev Shows : Event → Deed → Type 0
  Shows e deed = IsShownBy b.definition (values b.acts.history) (values b.batches.history) e (planned site deed).answer

  shows-status : (i : ℕ) (o : Option ℕ) → place_of (values b.batches.history) i ≡ o → Shows (event.Status i) (status_kept b.batches i o)
  shows-status i (Some place) h = h
  shows-status i None h =
      if_holds (Shows (event.Status i)) (is_some (found (has_the_id i) b.batches.pending)) _ _ (λ q. tt)
      (λ q. refused (found_refused (has_the_id i) b.batches.refused))
    where
      refused : (u : Option (Batch × Reason)) → Shows (event.Status i) (status_refused u)
      refused None = tt
      refused (Some u) = tt

  shows-receipt : (i : ℕ) (o : Option ℕ) (rs : Option (List Receipt)) → place_of (values b.batches.history) i ≡ o
      → receipts_of (values b.batches.history) i ≡ rs → Shows (event.Receipt i) (receipt_kept i o rs)
  shows-receipt i (Some place) (Some receipts) h k = (refl, h, sym (receipts-placed (values b.batches.history) i place h) ∙ k)
  shows-receipt i (Some place) None h k = tt
  shows-receipt i None rs h k = tt

  shows-cell : (e : Event) → Shows e (held_does site b e)
  shows-cell event.Show = (refl, refl, refl, sym (length-values b.acts.history), sym (length-values b.batches.history))
  shows-cell event.Detail = (refl, refl, refl, refl)
  shows-cell event.Root = if_holds (Shows event.Root) (runs b) _ _ (λ q. (sym (length-values b.batches.history), refl)) (λ q. tt)
  shows-cell (event.Prove address) = if_holds (Shows (event.Prove address)) (runs b) _ _ (λ q. (refl, refl)) (λ q. tt)
  shows-cell event.History = if_holds (Shows event.History) (runs b) _ _ (λ q. refl) (λ q. tt)
  shows-cell (event.Get address) = if_holds (Shows (event.Get address)) (runs b) _ _ (λ q. refl) (λ q. tt)
  shows-cell (event.List prefix) = if_holds (Shows (event.List prefix)) (runs b) _ _ (λ q. refl) (λ q. tt)
  shows-cell (event.Status i) = if_holds (Shows (event.Status i)) (runs b) _ _ (λ q. shows-status i (place_of (values b.batches.history) i) refl) (λ q. tt)
  shows-cell (event.Receipt i) =
      if_holds (Shows (event.Receipt i)) (runs b) _ _
      (λ q. shows-receipt i (place_of (values b.batches.history) i) (receipts_of (values b.batches.history) i) refl refl) (λ q. tt)
  shows-cell _ = tt

shows-refused : (d : Definition) (acts : List Act) (batches : List Batch) (e : Event) (why : Refusal) → IsShownBy d acts batches e (answer.Refused why)
shows-refused d acts batches event.Show why = tt
shows-refused d acts batches event.Detail why = tt
shows-refused d acts batches event.Root why = tt
shows-refused d acts batches (event.Prove address) why = tt
shows-refused d acts batches event.History why = tt
shows-refused d acts batches (event.Get address) why = tt
shows-refused d acts batches (event.List prefix) why = tt
shows-refused d acts batches (event.Status i) why = tt
shows-refused d acts batches (event.Receipt i) why = tt
shows-refused d acts batches _ why = tt

-- ---- lists grow

pub prefix-on : {A : Type 0} (xs ys zs : List A) → IsPrefixOf xs ys → IsPrefixOf ys zs → IsPrefixOf xs zs
prefix-on {A} xs ys zs p q = (p.0 ++ q.0, sym (append_assoc xs p.0 q.0) ∙ (ap (λ (us : List A). us ++ q.0) p.1 ∙ q.1))

-- from the lines before one to all lines
pub list-grows : {V : Type 0} (values : List Change → List V) (none : values [] ≡ []) (leader : NodeId) (d : Definition) (ns : List NodeId) (c : CircuitId)
    (xs ys : List Ran) → IsPrefixOf (list_from values leader d (empty_world ns) (whole_happened (blank ns) c xs))
    (list_from values leader d (empty_world ns) (whole_happened (blank ns) c (xs ++ ys)))
list-grows values none leader d ns c xs ys = (
  list_from values leader d (occur (empty_world ns) (whole_happened (blank ns) c xs)) later,
  sym (list-append values none leader d (empty_world ns) (whole_happened (blank ns) c xs) later)
      ∙ ap (λ (es : List Occurrence). list_from values leader d (empty_world ns) es) (sym (happened-append c (empty_world ns) xs ys)),
)
  where
    later : List Occurrence
    later = happened_from c (whole_from c (empty_world ns) xs) ys

-- ---- in lines

-- the cell of a node that is bound to the definition
pub record IsHeld (w : World) (n : NodeId) (d : Definition) : Type 0 where
  pub bound : Bound
  pub is : w.at n ≡ Held bound
  pub same : bound.definition ≡ d

pub held-bound : (w : World) (n : NodeId) (d : Definition) (k : Cell) → w.at n ≡ k → is_bound_to d k ≡ true → IsHeld w n d
held-bound w n d (Held b) is h = record { bound = b; is = is; same = definition_is b.definition d h }
held-bound w n d _ is h = cc

module _ (o : Origin) (start : IsOrigin o) (rs : List Ran) (fit : lines_fit rs ≡ true) (c : CircuitId) (d : Definition) (e : Event) (told : Answer)
    (t : IsTold o rs c d e told) where
  abbrev w : World
  w = whole_world o c t.before

  fits : lines_fit (t.before ++ asking_line t.node c e ∷ []) ≡ true
  fits = fits-left (t.before ++ asking_line t.node c e ∷ []) t.after
      (subst (λ (xs : List Ran). lines_fit xs ≡ true) (sym t.lines ∙ sym (append_assoc t.before (asking_line t.node c e ∷ []) t.after)) fit)

  pub fits_before : lines_fit t.before ≡ true
  fits_before = fits-left t.before (asking_line t.node c e ∷ []) fits

  abbrev pub held : IsHeld w t.node d
  held = held-bound w t.node d (w.at t.node) refl
      (subst (λ (at : NodeId → Cell). is_bound_to d (at t.node) ≡ true) (own-same o c t.before start fits_before).at t.bound)

  asked : answered w (site_at t.node c) e ≡ told
  asked = sym (answer-whole o t.before (asking_line t.node c e) start fits) ∙ t.said

  pub after_lines : (occur (first_world o c) (whole_happened o c t.before)).at t.node ≡ Held held.bound
  after_lines = subst (λ (x : World). x.at t.node ≡ Held held.bound) (whole-run c (first_world o c) t.before) held.is

  -- by the histories of the node that is asked
  shown-here : IsShownBy d (values held.bound.acts.history) (values held.bound.batches.history) e told
  shown-here = go (bool_cases (w.up t.node))
    where
      go : (w.up t.node ≡ true) ⊎ (w.up t.node ≡ false) → IsShownBy d (values held.bound.acts.history) (values held.bound.batches.history) e told
      go (inl q) =
          subst (λ (x : Definition). IsShownBy x (values held.bound.acts.history) (values held.bound.batches.history) e told) held.same
          (subst (IsShownBy held.bound.definition (values held.bound.acts.history) (values held.bound.batches.history) e)
          (sym (held-answers w (site_at t.node c) held.bound e q held.is) ∙ asked) (shows-cell (site_at t.node c) held.bound e))
      go (inr q) =
          let down : answered w (site_at t.node c) e ≡ answer.Refused refusal.Down =
          ap (λ (b : Bool). (if b then plan_of (site_at t.node c) (w.at t.node) e else tells_only (answer.Refused refusal.Down)).answer) q in
          subst (IsShownBy d (values held.bound.acts.history) (values held.bound.batches.history) e) (sym down ∙ asked)
          (shows-refused d (values held.bound.acts.history) (values held.bound.batches.history) e refusal.Down)

  -- and by lists that these begin
  pub of-prefixes : (acts : List Act) (batches : List Batch) → IsPrefixOf (values held.bound.acts.history) acts
      → IsPrefixOf (values held.bound.batches.history) batches → IsOfPrefixes d acts batches e told
  of-prefixes acts batches first second = record {
    acts_before = length held.bound.acts.history;
    batches_before = length held.bound.batches.history;
    shown =
        subst (λ (xs : List Act). IsShownBy d xs (take (length held.bound.batches.history) batches) e told)
        (sym (take-prefix held.bound.acts.history acts first))
        (subst (λ (ys : List Batch). IsShownBy d (values held.bound.acts.history) ys e told)
        (sym (take-prefix held.bound.batches.history batches second)) shown-here);
  }

-- ---- in lines that begin with nothing

module _ (ns : List NodeId) (rs : List Ran) (fit : lines_fit rs ≡ true) (c : CircuitId) (d : Definition) (e : Event) (told : Answer)
    (t : IsTold (blank ns) rs c d e told) where
  abbrev bound : IsHeld (whole_world (blank ns) c t.before) t.node d
  bound = held (blank ns) (is-blank ns) rs fit c d e told t

  plain : AllPlain (whole_happened (blank ns) c t.before)
  plain = plain-whole c (empty_world ns) t.before (fits_before (blank ns) (is-blank ns) rs fit c d e told t)

  here : (occur (empty_world ns) (whole_happened (blank ns) c t.before)).at t.node ≡ Held bound.bound
  here = after_lines (blank ns) (is-blank ns) rs fit c d e told t

  prefix-acts : IsPrefixOf (values bound.bound.acts.history) (act_list ns d (occurrences (blank ns) c rs))
  prefix-acts = prefix-on _ _ _
      (begins-acts ns (whole_happened (blank ns) c t.before) d plain t.node bound.bound here bound.same)
      (subst (λ (xs : List Act). IsPrefixOf (act_list ns d (whole_happened (blank ns) c t.before)) xs)
      (ap (λ (xs : List Ran). act_list ns d (whole_happened (blank ns) c xs)) t.lines ∙ sym (same-acts ns c d rs fit))
      (list-grows acts_in refl (admin d) d ns c t.before (asking_line t.node c e ∷ t.after)))

  prefix-batches : IsPrefixOf (values bound.bound.batches.history) (batch_list ns d (occurrences (blank ns) c rs))
  prefix-batches = prefix-on _ _ _
      (begins-batches ns (whole_happened (blank ns) c t.before) d plain t.node bound.bound here bound.same)
      (subst (λ (xs : List Batch). IsPrefixOf (batch_list ns d (whole_happened (blank ns) c t.before)) xs)
      (ap (λ (xs : List Ran). batch_list ns d (whole_happened (blank ns) c xs)) t.lines ∙ sym (same-batches ns c d rs fit))
      (list-grows batches_in refl (service d) d ns c t.before (asking_line t.node c e ∷ t.after)))

  shown-prefixes : IsOfPrefixes d (act_list ns d (occurrences (blank ns) c rs)) (batch_list ns d (occurrences (blank ns) c rs)) e told
  shown-prefixes =
      of-prefixes (blank ns) (is-blank ns) rs fit c d e told t (act_list ns d (occurrences (blank ns) c rs))
      (batch_list ns d (occurrences (blank ns) c rs)) prefix-acts prefix-batches

pub shows-prefixes : (ns : List NodeId) (rs : List Ran) → lines_fit rs ≡ true → ShowsPrefixes ns rs
shows-prefixes ns rs fit c d e told t = shown-prefixes ns rs fit c d e told t
