-- One line more.
use Rattle.std.{specs.Prelude.if◌then◌else◌, proofs.Common.{◌≡◌, ℕ, suc, ◌+◌, List, [], ◌∷◌, ◌++◌, length, Option, None, Some, refl, sym, ◌∙◌, ap}}
use Rattle.std.proofs.Common.{append_assoc, append-nil, arith}
use Rattle.spl_lines.specs.Tasks.{printed}
use Rattle.spl_acceptor.specs.{Worlds.{PaxosCommitWorld, Happening, paxos_answer, paxos_happens, paxos_run}, declared.group.Group.Group}
use Rattle.spl_paxos.specs.{Lines.happening_of, Texts.paxos_answer_text, declared.line.PaxosLine.PaxosLine}
use Rattle.spl_paxos_run.specs.{Limits.{is_stop, paxos_stops}, Schedule.{happenings, numbered_lines, outputs, paxos_line_said, with_number}}

pub happenings_more : (ls : List (ℕ × PaxosLine)) (x : ℕ × PaxosLine) → happenings (ls ++ x ∷ []) ≡ happenings ls ++ happening_of x.1 ∷ []
happenings_more [] x = refl
happenings_more (l ∷ ls) x = ap (λ (es : List Happening). happening_of l.1 ∷ es) (happenings_more ls x)

pub stops_more : (ls : List (ℕ × PaxosLine)) (x : ℕ × PaxosLine) → paxos_stops (ls ++ x ∷ []) ≡ paxos_stops ls + (if is_stop x.1 then 1 else 0)
stops_more [] x = omega arith
stops_more (l ∷ ls) x = let ih : paxos_stops (ls ++ x ∷ []) ≡ paxos_stops ls + (if is_stop x.1 then 1 else 0) = stops_more ls x in omega (arith, ih)

-- the answer to it, after the lines before
pub outputs_more : (g : Group) (w : PaxosCommitWorld) (ls : List (ℕ × PaxosLine)) (x : ℕ × PaxosLine)
    → outputs g w (ls ++ x ∷ []) ≡ outputs g w ls ++ printed x.0 (paxos_answer_text (paxos_answer g (paxos_run g w (happenings ls)) (happening_of x.1)))
outputs_more g w [] x = append-nil (printed x.0 (paxos_answer_text (paxos_answer g w (happening_of x.1))))
outputs_more g w (l ∷ ls) x =
    let first = printed l.0 (paxos_answer_text (paxos_answer g w (happening_of l.1))) in
    let next = paxos_happens g w (happening_of l.1) in
    ap (λ (bytes : List ℕ). first ++ bytes) (outputs_more g next ls x)
    ∙ sym (append_assoc first (outputs g next ls) (printed x.0 (paxos_answer_text (paxos_answer g (paxos_run g next (happenings ls)) (happening_of x.1)))))

pub numbered_with : (n : ℕ) (o : Option PaxosLine) (xs ys : List (ℕ × PaxosLine)) → with_number n o (xs ++ ys) ≡ with_number n o xs ++ ys
numbered_with n None xs ys = refl
numbered_with n (Some l) xs ys = refl

numbered_from : (n : ℕ) (lines : List (List ℕ)) (line : List ℕ)
    → numbered_lines n (lines ++ line ∷ []) ≡ numbered_lines n lines ++ with_number (n + length lines) (paxos_line_said line) []
numbered_from n [] line = let same : n ≡ n + 0 = omega arith in ap (λ (k : ℕ). with_number k (paxos_line_said line) []) same
numbered_from n (l ∷ lines) line =
    let same : n + 1 + length lines ≡ n + suc (length lines) = omega arith in
    ap (λ (xs : List (ℕ × PaxosLine)). with_number n (paxos_line_said l) xs)
    (numbered_from (n + 1) lines line ∙ ap (λ (k : ℕ). numbered_lines (n + 1) lines ++ with_number k (paxos_line_said line) []) same)
    ∙ numbered_with n (paxos_line_said l) (numbered_lines (n + 1) lines) (with_number (n + suc (length lines)) (paxos_line_said line) [])

-- what is run of lines and of one more, of this number
pub numbered_more : (lines : List (List ℕ)) (line : List ℕ) (number : ℕ) → number ≡ length lines + 1
    → numbered_lines 1 (lines ++ line ∷ []) ≡ numbered_lines 1 lines ++ with_number number (paxos_line_said line) []
numbered_more lines line number counted =
    let same : 1 + length lines ≡ number = omega (arith, counted) in
    numbered_from 1 lines line ∙ ap (λ (k : ℕ). numbered_lines 1 lines ++ with_number k (paxos_line_said line) []) same
