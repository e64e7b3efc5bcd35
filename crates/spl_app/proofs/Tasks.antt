-- What is run of lines that a schedule may have is within the bounds of lines, and names nodes of the run alone.
use Rattle.std.{specs.{List.AllByRecursion, Prelude.IsSomeAnd}, proofs.Common.{◌≡◌, ◌⊎◌, inl, inr, ℕ, ◌+◌, Bool, true, false, List, [], ◌∷◌, ◌++◌, Option}}
use Rattle.std.proofs.Common.{Some, None, IsTrue, if◌then◌else◌, refl, subst}
use Rattle.spl_base.specs.{FormLaws.and_true, Ids.is_circuit_id}
use Rattle.spl_circuit.specs.Nodes.{CircuitId, Node}
use Rattle.spl_delta.specs.{Watches.{is_watch_line, watch_line_of, watch_spelling}, declared.line.WatchLine.WatchLine}
use Rattle.spl_lines.specs.{Lines.is_silent, Tasks.{Task, ran_by, IsAdmitted, IsLine, named_circuit, is_sayable, line_said, said_in}}
use Rattle.spl_lines.{specs.declared.reading.Said.Said, proofs.Saids.{one_more, said_fits, said_id}}
use Rattle.spl_lines.specs.declared.reading.Said.TheVariants as say
use Rattle.spl_circuit_world.specs.Projection.{lines_fit}
use Rattle.spl_runs.specs.Run.{IsAllowed, RunMode, calm_in, calm_passes, number_of, tasks, tasks_from, tasks_of}
use Rattle.spl_sched.specs.{Grammar.{is_line, line_of, spelling}, declared.line.Line.Line}
use Rattle.spl_sched.specs.declared.line.Line.TheVariants as line
use Rattle.spl_app.proofs.Places.{AllOf}

-- ---- bounds

calm_fits : (c : CircuitId) → IsTrue (is_circuit_id c) → is_line (line.Calm c calm_passes) ≡ true
calm_fits c id = and_true (is_circuit_id c) true id refl

calm_after : (s : Said) (c : Option CircuitId) (rest : List Task) → is_sayable s ≡ true → named_circuit s ≡ c → lines_fit (ran_by rest) ≡ true
    → lines_fit (ran_by (calm_in c ++ rest)) ≡ true
calm_after s None rest fits about h = h
calm_after s (Some c) rest fits about h = and_true (is_line (line.Calm c calm_passes)) _ (calm_fits c (said_id s c about fits)) h

fits_after : (linked : Bool) (s : Said) (rest : List Task) → is_sayable s ≡ true → lines_fit (ran_by rest) ≡ true
    → lines_fit (ran_by ((if linked then calm_in (named_circuit s) else []) ++ rest)) ≡ true
fits_after true s rest fits h = calm_after s (named_circuit s) rest fits refl h
fits_after false s rest fits h = h

module _ (law : (bytes : List ℕ) (l : Line) → line_of bytes ≡ Some l → (bytes ≡ spelling l) × IsTrue (is_line l))
    (watch_law : (bytes : List ℕ) (l : WatchLine) → watch_line_of bytes ≡ Some l → (bytes ≡ watch_spelling l) × IsTrue (is_watch_line l)) where
  fits_of : (w : RunMode) (n : ℕ) (bytes : List ℕ) (o : Option Said) (rest : List Task) → line_said bytes ≡ o → lines_fit (ran_by rest) ≡ true
      → lines_fit (ran_by (tasks_of w n o ++ rest)) ≡ true
  fits_of w n bytes None rest e h = h
  fits_of w n bytes (Some s) rest e h = let fits = said_fits law watch_law bytes s e in one_more (number_of w n) s _ fits (fits_after w.linked s rest fits h)

  fits_from : (w : RunMode) (n : ℕ) (lines : List (List ℕ)) → lines_fit (ran_by (tasks_from w n lines)) ≡ true
  fits_from w n [] = refl
  fits_from w n (bytes ∷ lines) = fits_of w n bytes (line_said bytes) (tasks_from w (n + 1) lines) refl (fits_from w (n + 1) lines)

  pub tasks_fit : (w : RunMode) (lines : List (List ℕ)) → lines_fit (ran_by (tasks w lines)) ≡ true
  tasks_fit w lines = fits_from w 1 lines

-- ---- nodes

-- each task names no other node
abbrev pub AllAdmitted : List Node → List Task → Type 0
AllAdmitted ns [] = Unit {0}
AllAdmitted ns (t ∷ ts) = IsAdmitted ns t.line × AllAdmitted ns ts

pub admitted-append : (ns : List Node) (a b : List Task) → AllAdmitted ns a → AllAdmitted ns b → AllAdmitted ns (a ++ b)
admitted-append ns [] b h k = k
admitted-append ns (t ∷ a) b h k = (h.0, admitted-append ns a b h.1 k)

pub admitted-parts : (ns : List Node) (a b : List Task) → AllAdmitted ns (a ++ b) → AllAdmitted ns a × AllAdmitted ns b
admitted-parts ns [] b h = (tt, h)
admitted-parts ns (t ∷ a) b h = let rest = admitted-parts ns a b h.1 in ((h.0, rest.0), rest.1)

-- so do the lines of the nodes among them
lines-with : (ns : List Node) (number : Option ℕ) (s : Said) (ts : List Task) → IsAdmitted ns s → AllOf ns (ran_by ts)
    → AllOf ns (ran_by (record { number = number; line = s } ∷ ts))
lines-with ns number (say.Line l) ts known rest = (known, rest)
lines-with ns number (say.Watch l) ts known rest = rest

pub admitted-lines : (ns : List Node) (ts : List Task) → AllAdmitted ns ts → AllOf ns (ran_by ts)
admitted-lines ns [] h = tt
admitted-lines ns (t ∷ ts) h = lines-with ns t.number t.line ts h.0 (admitted-lines ns ts h.1)

some_and : (o : Option Said) (s : Said) (P : Said → Type 0) → o ≡ Some s → IsSomeAnd o P → P s
some_and (Some r) s P is h = let same : r ≡ s = cc in subst P same h
some_and None s P is h = absurd h

said_known : (ns : List Node) (bytes : List ℕ) (b : Bool) (s : Said) → is_silent bytes ≡ b → (if b then None else said_in bytes) ≡ Some s
    → (IsTrue (is_silent bytes) ⊎ IsSomeAnd (said_in bytes) (IsAdmitted ns)) → IsAdmitted ns s
said_known ns bytes true s silent is h = absurd cc
said_known ns bytes false s silent is (inl quiet) = absurd cc
said_known ns bytes false s silent is (inr known) = some_and (said_in bytes) s (IsAdmitted ns) is known

calm_known : (ns : List Node) (linked : Bool) (c : Option CircuitId) → AllAdmitted ns (if linked then calm_in c else [])
calm_known ns true None = tt
calm_known ns true (Some c) = (refl, tt)
calm_known ns false c = tt

tasks_known : (w : RunMode) (ns : List Node) (n : ℕ) (bytes : List ℕ) (o : Option Said) → line_said bytes ≡ o → IsLine ns bytes
    → AllAdmitted ns (tasks_of w n o)
tasks_known w ns n bytes None is h = tt
tasks_known w ns n bytes (Some s) is h = (said_known ns bytes (is_silent bytes) s refl is h.1, calm_known ns w.linked (named_circuit s))

lines_known : (w : RunMode) (ns : List Node) (n : ℕ) (lines : List (List ℕ)) → AllByRecursion (IsAllowed w ns) lines → AllAdmitted ns (tasks_from w n lines)
lines_known w ns n [] h = tt
lines_known w ns n (bytes ∷ lines) h =
    admitted-append ns (tasks_of w n (line_said bytes)) (tasks_from w (n + 1) lines) (tasks_known w ns n bytes (line_said bytes) refl h.0.good)
    (lines_known w ns (n + 1) lines h.1)

pub allowed-known : (w : RunMode) (ns : List Node) (lines : List (List ℕ)) → AllByRecursion (IsAllowed w ns) lines → AllAdmitted ns (tasks w lines)
allowed-known w ns lines h = lines_known w ns 1 lines h
