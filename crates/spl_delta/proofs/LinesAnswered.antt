-- Watchers change no answer to a line.
use Rattle.std.{specs.{List.list_all, Str.bytes_eq}, proofs.Common.{◌≡◌, Bool, true, List, [], ◌∷◌, ◌++◌, refl, sym, ap, subst, ◌∙◌}}
use Rattle.spl_agree.proofs.Tests.{if_holds, and_right}
use Rattle.spl_circuit.specs.Nodes.{NodeId, CircuitId, has_node}
use Rattle.spl_wire.specs.declared.answer.Answer.{Answer}
use Rattle.spl_circuit_world.specs.{Worlds.{Origin, IsOrigin, World}, Projection.{Ran, lines_fit, names, cells_concern, lines_concern, own_line, own_among}}
use Rattle.spl_circuit_world.{specs.{Answers.{line_answer, lines_world, line_world, roll_answer, answer_to}, Whole.whole_world}, proofs.Within.are_within}
use Rattle.spl_circuit_world.proofs.{Within.IsCellWithin, Owns.{IsAlikeFor, AllConcern, all-concern, kept-within, within-same, lines-append, alike-for}}
use Rattle.spl_circuit_world.proofs.Owns.{answer-alike, answer-whole, all-left}
use Rattle.spl_delta.specs.Watches.{watch_circuit, Task, Line, OfWatcher, lines_in, asked_in, concerned_in, Watched, lines_watched, watch_done, task_done}
use Rattle.spl_delta.specs.Watches.{tasks_done, first_watched, watched_before, OfLine, task_answer}

-- ---- the world after tasks is that after the lines among them

pub watched-lines : (z : Watched) (rs : List Ran) → (lines_watched z rs).world ≡ lines_world z.world rs
watched-lines z [] = refl
watched-lines z (r ∷ rs) = watched-lines (record { world = line_world z.world r.line r.kept; watchers = z.watchers }) rs

pub done-world : (c : CircuitId) (ns : List NodeId) (z : Watched) (ts : List Task)
    → (tasks_done c ns z ts).world ≡ lines_world z.world (own_among c ns (lines_in ts))
done-world c ns z [] = refl
done-world c ns z (Line r ∷ ts) =
    done-world c ns (lines_watched z (own_line c ns r)) ts
    ∙ (ap (λ (w : World). lines_world w (own_among c ns (lines_in ts))) (watched-lines z (own_line c ns r))
    ∙ sym (lines-append ns z.world (own_line c ns r) (own_among c ns (lines_in ts))))
done-world c ns z (OfWatcher l ∷ ts) =
    done-world c ns (task_done c ns z (OfWatcher l)) ts
    ∙ ap (λ (w : World). lines_world w (own_among c ns (lines_in ts))) same
  where
    same : (task_done c ns z (OfWatcher l)).world ≡ z.world
    same = if_holds (λ (y : Watched). y.world ≡ z.world) (bytes_eq (watch_circuit l) c) (watch_done z l) z (λ q. refl) (λ q. refl)

lines-more : (ts : List Task) (r : Ran) → lines_in (ts ++ Line r ∷ []) ≡ lines_in ts ++ r ∷ []
lines-more [] r = refl
lines-more (Line x ∷ ts) r = ap (λ (rs : List Ran). x ∷ rs) (lines-more ts r)
lines-more (OfWatcher l ∷ ts) r = lines-more ts r

-- ---- the nodes concerned have all that lines concern

all-right : {A : Type 0} (p : A → Bool) (xs ys : List A) → list_all p (xs ++ ys) ≡ true → list_all p ys ≡ true
all-right p [] ys h = h
all-right p (x ∷ xs) ys h = all-right p xs ys (and_right (p x) (list_all p (xs ++ ys)) h)

module _ (o : Origin) (c : CircuitId) (ts : List Task) where
  abbrev ns : List NodeId
  ns = concerned_in o c ts

  both : are_within ns (cells_concern (o.kept c) o.nodes ++ lines_concern c (lines_in ts)) ≡ true
  both = all-left (has_node ns) (cells_concern (o.kept c) o.nodes ++ lines_concern c (lines_in ts)) (asked_in c ts) (within-same ns)

  pub keeps : IsOrigin o → (n : NodeId) → IsCellWithin ns n (o.kept c n)
  keeps i = kept-within ns o c i (all-left (has_node ns) (cells_concern (o.kept c) o.nodes) (lines_concern c (lines_in ts)) both)

  pub asked : are_within ns (asked_in c ts) ≡ true
  asked = all-right (has_node ns) (cells_concern (o.kept c) o.nodes ++ lines_concern c (lines_in ts)) (asked_in c ts) (within-same ns)

  pub concerns : AllConcern ns c (lines_in ts)
  concerns = all-concern ns c (lines_in ts) (all-right (has_node ns) (cells_concern (o.kept c) o.nodes) (lines_concern c (lines_in ts)) both)

-- ---- answers

pub line-answered : (o : Origin) (before : List Task) (r : Ran) → IsOrigin o → lines_fit (lines_in before ++ r ∷ []) ≡ true
    → task_answer o before (Line r) ≡ OfLine (answer_to o (lines_in before) r)
line-answered o before r i f = ap (λ (a : Answer). OfLine a)
    (answer-alike (λ c. (watched_before o c before (Line r)).world) (λ c. whole_world o c (lines_in before)) roll r.line r.kept alike
    ∙ (ap (λ (rs : List Ran). line_answer (λ c. whole_world o c (lines_in before)) (λ n. roll_answer o rs n) r.line r.kept) (lines-more before r)
    ∙ sym (answer-whole o (lines_in before) r i f)))
  where
    roll : NodeId → Answer
    roll n = roll_answer o (lines_in (before ++ Line r ∷ [])) n

    alike : (c : CircuitId) → names c r.line ≡ true → IsAlikeFor r.line (watched_before o c before (Line r)).world (whole_world o c (lines_in before))
    alike c q =
        subst (λ (w : World). IsAlikeFor r.line w (whole_world o c (lines_in before)))
        (sym (done-world c (concerned_in o c (before ++ Line r ∷ [])) (first_watched o c) before))
        (alike-for o (concerned_in o c (before ++ Line r ∷ [])) c (lines_in before) r (keeps o c (before ++ Line r ∷ []) i) f
        (subst (λ (rs : List Ran). AllConcern (concerned_in o c (before ++ Line r ∷ [])) c rs) (lines-more before r) (concerns o c (before ++ Line r ∷ []))) q)
