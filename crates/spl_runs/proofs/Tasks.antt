-- What is run of lines one after another, and the messages that tasks carry.
use Rattle.std.{specs.Prelude.IfSome, proofs.Common.{◌≡◌, ℕ, suc, ◌+◌, Bool, true, false, List, [], ◌∷◌, ◌++◌, length, Option, Some, subst, sym, refl, ◌∙◌}}
use Rattle.std.proofs.Common.{ap, arith, append_assoc, append-nil}
use Rattle.spl_circuit.specs.Nodes.{Node}
use Rattle.spl_lines.{specs.{Tasks.{Task, IsLine, named_circuit, line_said}, declared.reading.Said.Said}, proofs.Tasks.{ran-append, watches-append}}
use Rattle.spl_pump.specs.Wires.{Carried}
use Rattle.spl_runs.specs.Run.{IsAllowed, Plan, RunMode, after_line, calm_in, carried, carried_after, is_said_taken, task_carried, tasks, tasks_from}
use Rattle.spl_runs.specs.Run.{tasks_of, run_way}
pub use Rattle.spl_lines.proofs.Tasks.{ran-append, watches-append}

module _ (w : RunMode) where
  pub tasks-append : (n : ℕ) (xs ys : List (List ℕ)) → tasks_from w n (xs ++ ys) ≡ tasks_from w n xs ++ tasks_from w (n + length xs) ys
  tasks-append n [] ys = let same : n ≡ n + 0 = omega arith in ap (λ (k : ℕ). tasks_from w k ys) same
  tasks-append n (x ∷ xs) ys =
      let same : n + 1 + length xs ≡ n + suc (length xs) = omega arith in
      ap (λ (l : List Task). tasks_of w n (line_said x) ++ l) (tasks-append (n + 1) xs ys ∙ ap (λ (k : ℕ). tasks_from w (n + 1) xs ++ tasks_from w k ys) same)
      ∙ sym (append_assoc (tasks_of w n (line_said x)) (tasks_from w (n + 1) xs) (tasks_from w (n + suc (length xs)) ys))

  -- a line more
  pub tasks_then : (lines : List (List ℕ)) (line : List ℕ) (number : ℕ) → number ≡ length lines + 1
      → tasks w (lines ++ line ∷ []) ≡ tasks w lines ++ tasks_of w number (line_said line)
  tasks_then lines line number counted =
      let same : 1 + length lines ≡ number = omega arith in
      tasks-append 1 lines (line ∷ [])
      ∙ ap (λ (l : List Task). tasks w lines ++ l)
      (append-nil (tasks_of w (1 + length lines) (line_said line)) ∙ ap (λ (k : ℕ). tasks_of w k (line_said line)) same)

-- over links a calm comes after a line that names a circuit
pub calm_after : (linked : Bool) (unanswered : ℕ) (s : Said) → linked ≡ true → after_line (run_way linked unanswered) s ≡ calm_in (named_circuit s)
calm_after linked unanswered s on = rw on refl

-- and in memory none
pub calm_none : (linked : Bool) (unanswered : ℕ) (s : Said) → linked ≡ false → after_line (run_way linked unanswered) s ≡ []
calm_none linked unanswered s off = rw off refl

-- a line that a schedule may have there, by what it says
pub allowed : (linked : Bool) (unanswered : ℕ) (ns : List Node) (bytes : List ℕ) (s : Said) → IsLine ns bytes → line_said bytes ≡ Some s
    → (linked ≡ true → is_said_taken s ≡ true) → IsAllowed (run_way linked unanswered) ns bytes
allowed linked unanswered ns bytes s good is taken =
    record { good = good; taken = λ on. subst (λ (o : Option Said). IfSome o (λ x. is_said_taken x ≡ true)) (sym is) (taken on) }

-- one that links don't take is none
pub not_allowed : (linked : Bool) (unanswered : ℕ) (ns : List Node) (bytes : List ℕ) (s : Said) → line_said bytes ≡ Some s → linked ≡ true
    → is_said_taken s ≡ false → IsAllowed (run_way linked unanswered) ns bytes → ⊥
not_allowed linked unanswered ns bytes s is on untaken a =
    let taken : is_said_taken s ≡ true = subst (λ (o : Option Said). IfSome o (λ x. is_said_taken x ≡ true)) is (a.taken on) in cc

-- ---- messages

module _ (p : Plan) where
  carried-from : (before a b : List Task) → carried_after p before (a ++ b) ≡ carried_after p before a ++ carried_after p (before ++ a) b
  carried-from before [] b = ap (λ (ts : List Task). carried_after p ts b) (sym (append-nil before))
  carried-from before (t ∷ a) b =
      let first = task_carried p before t.line in
      let after = before ++ t ∷ [] in
      ap (λ (l : List Carried). first ++ l)
      (carried-from after a b ∙ ap (λ (ts : List Task). carried_after p after a ++ carried_after p ts b) (append_assoc before (t ∷ []) a))
      ∙ sym (append_assoc first (carried_after p after a) (carried_after p (before ++ t ∷ a) b))

  pub carried_one : (ts : List Task) (t : Task) → carried p (ts ++ t ∷ []) ≡ carried p ts ++ task_carried p ts t.line
  carried_one ts t = carried-from [] ts (t ∷ []) ∙ ap (λ (l : List Carried). carried p ts ++ l) (append-nil (task_carried p ts t.line))
