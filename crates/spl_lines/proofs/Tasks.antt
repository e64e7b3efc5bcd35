-- Tasks one after another, and what comes of them.
use Rattle.std.{specs.Prelude.if◌then◌else◌, proofs.Common.{◌≡◌, ◌⊎◌, inl, inr, ℕ, ◌+◌, Bool, true, false, nat_le, List, [], ◌∷◌, ◌++◌, Some, None, sym}}
use Rattle.std.proofs.{Common.{refl, ◌∙◌, ap, arith, append_assoc, append-nil, Option, subst}, lemmas.{Bool.cases_Bool, List.map-append}}
use Rattle.spl_delta.{specs.Watches.lines_in, proofs.WholeWatched.lines-both}
use Rattle.spl_lines.specs.{Due.{IsOutputDue, IsDuePart}, Tasks.{Task, answer_text, asked_by, asked_for, numbered_text, ran_by, task_text, text_for}}
use Rattle.spl_lines.{specs.{Tasks.{texts_after, texts_of, trace_text, watches_in, shown_line}, declared.reading.Said.Said}, proofs.Dues.{due_due, due_part}}
use Rattle.spl_lines.proofs.Dues.{due_then}
use Rattle.spl_circuit_world.specs.Worlds.{Origin}

pub asked-append : (a b : List Task) → asked_by (a ++ b) ≡ asked_by a ++ asked_by b
asked-append a b = map-append (λ (t : Task). asked_for t.line) a b

pub ran-append : (a b : List Task) → ran_by (a ++ b) ≡ ran_by a ++ ran_by b
ran-append a b = ap lines_in (asked-append a b) ∙ lines-both (asked_by a) (asked_by b)

pub watches-append : (a b : List Task) → watches_in (a ++ b) ≡ watches_in a + watches_in b
watches-append [] b = omega arith
watches-append (t ∷ a) b = let rest = watches-append a b in omega (arith, rest)

module _ (traced : Bool) (o : Origin) where
  texts-from : (before a b : List Task) → texts_after traced o before (a ++ b) ≡ texts_after traced o before a ++ texts_after traced o (before ++ a) b
  texts-from before [] b = ap (λ (ts : List Task). texts_after traced o ts b) (sym (append-nil before))
  texts-from before (t ∷ a) b =
      let first = task_text traced o before t in
      let after = before ++ t ∷ [] in
      ap (λ (l : List ℕ). first ++ l)
      (texts-from after a b ∙ ap (λ (ts : List Task). texts_after traced o after a ++ texts_after traced o ts b) (append_assoc before (t ∷ []) a))
      ∙ sym (append_assoc first (texts_after traced o after a) (texts_after traced o (before ++ t ∷ a) b))

  -- what is written of the first tasks comes first
  pub texts_then : (a b : List Task) → texts_of traced o (a ++ b) ≡ texts_of traced o a ++ texts_after traced o a b
  texts_then a b = texts-from [] a b

  pub texts_one : (ts : List Task) (t : Task) → texts_of traced o (ts ++ t ∷ []) ≡ texts_of traced o ts ++ task_text traced o ts t
  texts_one ts t = texts_then ts (t ∷ []) ∙ ap (λ (l : List ℕ). texts_of traced o ts ++ l) (append-nil (task_text traced o ts t))

-- a text that has a number where its line is shown
pub numbered_shown : (traced : Bool) (unanswered number : ℕ) (text : List ℕ)
    → numbered_text traced (if nat_le number unanswered then None else Some number) text ≡ shown_line traced unanswered number text
numbered_shown traced unanswered number text = go (cases_Bool (nat_le number unanswered))
  where
    go : (nat_le number unanswered ≡ true) ⊎ (nat_le number unanswered ≡ false)
        → numbered_text traced (if nat_le number unanswered then None else Some number) text ≡ shown_line traced unanswered number text
    go (inl q) = rw q refl
    go (inr q) = rw q refl

-- what is told of a line is its answer, or its trace
pub right_text : (on traced : Bool) (o : Origin) (ts : List Task) (l : Said) (a : List ℕ) → traced ≡ on → (on ≡ false → a ≡ answer_text o ts l)
    → (on ≡ true → a ≡ trace_text o ts l) → a ≡ text_for traced o ts l
right_text true traced o ts l a same answer trace = trace refl ∙ ap (λ (t : Bool). text_for t o ts l) (sym same)
right_text false traced o ts l a same answer trace = answer refl ∙ ap (λ (t : Bool). text_for t o ts l) (sym same)

-- ---- what waits of what is written

module _ (traced : Bool) (o : Origin) (ts : List Task) where
  -- nothing is written of a line with no number
  pub texts_none : (l : Said) → texts_of traced o (ts ++ record { number = None; line = l } ∷ []) ≡ texts_of traced o ts
  texts_none l = texts_one traced o ts (record { number = None; line = l }) ∙ append-nil (texts_of traced o ts)

  pub due_more : (more : List Task) (a b : Option (List ℕ)) (waiting : List ℕ) → IsOutputDue a b waiting (texts_of traced o ts)
      → IsDuePart a b waiting (texts_of traced o (ts ++ more))
  due_more more a b waiting due = subst (IsDuePart a b waiting) (sym (texts_then traced o ts more)) (due_part a b waiting (texts_of traced o ts) _ due)

  -- what is told of a line waits, where it is shown
  module _ (unanswered number : ℕ) (l : Said) (a : List ℕ) (right : a ≡ text_for traced o ts l) (s was : Option (List ℕ)) (waiting : List ℕ)
      (due : IsOutputDue s was waiting (texts_of traced o ts)) where
    abbrev one : Task
    one = record { number = if nat_le number unanswered then None else Some number; line = l }

    texts_are : texts_of traced o (ts ++ one ∷ []) ≡ texts_of traced o ts ++ shown_line traced unanswered number a
    texts_are = texts_one traced o ts one ∙ ap (λ (b : List ℕ). texts_of traced o ts ++ b)
        (numbered_shown traced unanswered number (text_for traced o ts l) ∙ ap (λ (b : List ℕ). shown_line traced unanswered number b) (sym right))

    pub due_one : (later : List ℕ) (written : Option (List ℕ)) → IsOutputDue was written later (waiting ++ shown_line traced unanswered number a)
        → IsOutputDue s written later (texts_of traced o (ts ++ one ∷ []))
    due_one later written h =
        subst (IsOutputDue s written later) (sym texts_are)
        (due_due s was written waiting later (texts_of traced o ts) (shown_line traced unanswered number a) due h)

    pub part_one : (later : List ℕ) (written : Option (List ℕ)) → IsDuePart was written later (waiting ++ shown_line traced unanswered number a)
        → IsDuePart s written later (texts_of traced o (ts ++ one ∷ []))
    part_one later written h =
        subst (IsDuePart s written later) (sym texts_are)
        (due_then s was written waiting later (texts_of traced o ts) (shown_line traced unanswered number a) due h)
