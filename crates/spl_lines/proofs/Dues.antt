-- What is due to a sink, step by step.
use Rattle.std.{specs.Io.KnownBytes.Appends, proofs.Common.{◌≡◌, ℕ, List, [], ◌++◌, Option, refl, sym, ◌∙◌, ap, subst, append_assoc, append-nil}}
use Rattle.std.proofs.KnownBytes.{Appends-nil, Appends-trans}
use Rattle.spl_edge.specs.Devices.{AppendsPart}
use Rattle.spl_lines.specs.Due.{IsOutputDue, IsDuePart}

-- all of it waits
pub due_waits : (a : Option (List ℕ)) (waiting : List ℕ) → IsOutputDue a a waiting waiting
due_waits a waiting = record { done = []; is = refl; written = Appends-nil a }

-- nothing waits
pub due_done : (a b : Option (List ℕ)) (all : List ℕ) → Appends a b all → IsOutputDue a b [] all
due_done a b all wrote = record { done = all; is = sym (append-nil all); written = wrote }

pub done_due : (a b : Option (List ℕ)) (all : List ℕ) → IsOutputDue a b [] all → Appends a b all
done_due a b all due = subst (Appends a b) (sym (due.is ∙ append-nil due.done)) due.written

-- a prefix of it was handed over, and nothing waits
pub part_done : (a b : Option (List ℕ)) (all : List ℕ) → AppendsPart a b all → IsDuePart a b [] all
part_done a b all (done, more, is, wrote) = record { due = done; more = more; is = is; so_far = due_done a b done wrote }

pub done_part : (a b : Option (List ℕ)) (all : List ℕ) → IsDuePart a b [] all → AppendsPart a b all
done_part a b all part = (part.due, part.more, part.is, done_due a b part.due part.so_far)

-- more waits
pub due_more : (a b : Option (List ℕ)) (waiting all line : List ℕ) → IsOutputDue a b waiting all → IsOutputDue a b (waiting ++ line) (all ++ line)
due_more a b waiting all line due = record {
  done = due.done;
  is = ap (λ (l : List ℕ). l ++ line) due.is ∙ append_assoc due.done waiting line;
  written = due.written;
}

-- all is a prefix of more
pub due_part : (a b : Option (List ℕ)) (waiting all more : List ℕ) → IsOutputDue a b waiting all → IsDuePart a b waiting (all ++ more)
due_part a b waiting all more due = record { due = all; more = more; is = refl; so_far = due }

pub part_more : (a b : Option (List ℕ)) (waiting all more : List ℕ) → IsDuePart a b waiting all → IsDuePart a b waiting (all ++ more)
part_more a b waiting all more part = record {
  due = part.due;
  more = part.more ++ more;
  is = ap (λ (l : List ℕ). l ++ more) part.is ∙ append_assoc part.due part.more more;
  so_far = part.so_far;
}

-- one step after another
pub due_due : (a b c : Option (List ℕ)) (waiting later all line : List ℕ) → IsOutputDue a b waiting all → IsOutputDue b c later (waiting ++ line)
    → IsOutputDue a c later (all ++ line)
due_due a b c waiting later all line first then = record {
  done = first.done ++ then.done;
  is = ap (λ (l : List ℕ). l ++ line) first.is ∙ append_assoc first.done waiting line ∙ ap (λ (l : List ℕ). first.done ++ l) then.is
      ∙ sym (append_assoc first.done then.done later);
  written = Appends-trans a b c _ _ first.written then.written;
}

pub due_then : (a b c : Option (List ℕ)) (waiting later all line : List ℕ) → IsOutputDue a b waiting all → IsDuePart b c later (waiting ++ line)
    → IsDuePart a c later (all ++ line)
due_then a b c waiting later all line first part = record {
  due = first.done ++ part.due;
  more = part.more;
  is = ap (λ (l : List ℕ). l ++ line) first.is ∙ append_assoc first.done waiting line ∙ ap (λ (l : List ℕ). first.done ++ l) part.is
      ∙ sym (append_assoc first.done part.due part.more);
  so_far = record {
    done = first.done ++ part.so_far.done;
    is = ap (λ (l : List ℕ). first.done ++ l) part.so_far.is ∙ sym (append_assoc first.done part.so_far.done later);
    written = Appends-trans a b c _ _ first.written part.so_far.written;
  };
}

pub due_whole : (a b : Option (List ℕ)) (waiting all : List ℕ) → IsOutputDue a b waiting all → IsDuePart a b waiting all
due_whole a b waiting all due = record { due = all; more = []; is = sym (append-nil all); so_far = due }

pub due_put : (a b : Option (List ℕ)) (waiting later all line : List ℕ) → IsOutputDue a b waiting all → later ≡ waiting ++ line
    → IsDuePart a b later (all ++ line)
due_put a b waiting later all line due is =
    due_whole a b later (all ++ line) (subst (λ (w : List ℕ). IsOutputDue a b w (all ++ line)) (sym is) (due_more a b waiting all line due))

-- what waits is handed over, as far as it goes
pub part_flushed : (a b c : Option (List ℕ)) (waiting all : List ℕ) → IsDuePart a b waiting all → AppendsPart b c waiting → AppendsPart a c all
part_flushed a b c waiting all part (handed, kept, is, wrote) =
    let done = part.so_far.done in (
      done ++ handed,
      kept ++ part.more,
      part.is ∙ ap (λ (l : List ℕ). l ++ part.more) (part.so_far.is ∙ ap (λ (l : List ℕ). done ++ l) is) ∙ regroup done,
      Appends-trans a b c _ _ part.so_far.written wrote,
    )
  where
    regroup : (done : List ℕ) → (done ++ (handed ++ kept)) ++ part.more ≡ (done ++ handed) ++ (kept ++ part.more)
    regroup done = simp append_assoc

pub due_same : (a b c : Option (List ℕ)) (waiting later all : List ℕ) → c ≡ b → later ≡ waiting → IsOutputDue a b waiting all → IsOutputDue a c later all
due_same a b c waiting later all same kept due =
    record {
      done = due.done;
      is = due.is
          ∙ ap (λ (l : List ℕ). due.done ++ l) (sym kept);
      written = subst (λ (o : Option (List ℕ)). Appends a o due.done) (sym same) due.written;
    }

-- all that waits is handed over
pub due_flushed : (a b c : Option (List ℕ)) (waiting all : List ℕ) → IsOutputDue a b waiting all → Appends b c waiting → Appends a c all
due_flushed a b c waiting all due wrote = subst (Appends a c) (sym due.is) (Appends-trans a b c _ _ due.written wrote)
