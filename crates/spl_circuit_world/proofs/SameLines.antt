-- The answers to the lines that name a circuit hang on its own lines alone.
use Rattle.std.{specs.Prelude.{Some, if◌then◌else◌}, proofs.Common.{◌≡◌, ◌⊎◌, Bool, true, false, List, [], ◌∷◌, ◌++◌, append-nil, append_assoc, refl, sym}}
use Rattle.std.proofs.Common.{ap, subst, ◌∙◌, inl, inr}
use Rattle.spl_agree.proofs.Tests.{if_holds, bool_cases, and_left, and_right}
use Rattle.spl_circuit.specs.Nodes.{NodeId, CircuitId, has_node}
use Rattle.spl_wire.specs.declared.answer.Answer.{Answer}
use Rattle.spl_wire.specs.declared.answer.Answer.TheVariants as answer
use Rattle.spl_sched.specs.{Grammar.{step_node, line_circuit}, declared.line.Line.Line}
use Rattle.spl_sched.specs.declared.line.Line.TheVariants as line
use Rattle.spl_circuit_world.specs.{Worlds.{Origin, IsOrigin, World, first_world}, Projection.{Ran, line_fits, lines_fit, names, line_concerns}}
use Rattle.spl_circuit_world.specs.{Projection.{lines_concern, cells_concern, concerned, at_one_of, beside, own_line, own_among, own}, Answers.line_answer}
use Rattle.spl_circuit_world.specs.{Answers.{line_world, lines_world, roll_answer, answer_to, answers_about}, Whole.whole_world}
use Rattle.spl_circuit_world.proofs.{LinesAsOccurrences.fit-append, Within.IsCellWithin, Owns.{IsPair, pair-first, named-within, names-is, IsAlikeFor}}
use Rattle.spl_circuit_world.proofs.Owns.{answer-alike, AllConcern, lines-append, lines-pair, concerned-keep, concerned-all, own-append, answer-whole}

-- the answer to a line that names a circuit, in a world of it
abbrev pub named_answer : World → Ran → Answer
named_answer w r = line_answer (λ c. w) (λ n. answer.Power true) r.line r.kept

-- the answers to the lines that name a circuit, in a world where its own lines run
abbrev pub named_answers : NodeId → World → List Ran → List Answer
named_answers c w [] = []
named_answers c w (r ∷ rs) =
    if names c r.line then named_answer w r ∷ named_answers c (line_world w r.line r.kept) rs
    else named_answers c (line_world w r.line r.kept) rs

-- no line that names a circuit asks for a roll
unrolled : (c : CircuitId) (ws : NodeId → World) (roll roll2 : NodeId → Answer) (l : Line) (kept : Bool) → names c l ≡ true
    → line_answer ws roll l kept ≡ line_answer ws roll2 l kept
unrolled c ws roll roll2 (line.Roll n) kept q = cc
unrolled c ws roll roll2 _ kept q = refl

-- a line names one circuit
named-one_circuit : (c i : CircuitId) (l : Line) → names c l ≡ true → names i l ≡ true → i ≡ c
named-one_circuit c i l q z = let x : line_circuit l ≡ Some c = names-is c l q in let y : line_circuit l ≡ Some i = names-is i l z in cc

-- stops and starts are none of these
named-one : (c : CircuitId) (w : World) (ns : List NodeId) (n : NodeId) (l : Line) (xs : List Ran) → names c l ≡ false
    → named_answers c w (at_one_of ns n l ++ xs) ≡ named_answers c (lines_world w (at_one_of ns n l)) xs
named-one c w ns n l xs h =
    if_holds (λ (ys : List Ran). named_answers c w (ys ++ xs) ≡ named_answers c (lines_world w ys) xs) (has_node ns n) _ _ (λ q. rw h) (λ q. refl)

named-beside : (c : CircuitId) (w : World) (ns : List NodeId) (l : Line) (xs : List Ran)
    → named_answers c w (beside ns l ++ xs) ≡ named_answers c (lines_world w (beside ns l)) xs
named-beside c w ns (line.Stop n) xs = named-one c w ns n (line.Stop n) xs refl
named-beside c w ns (line.Start n) xs = named-one c w ns n (line.Start n) xs refl
named-beside c w ns (line.Cut calls f s) xs = named-one c w ns (step_node s) (line.Stop (step_node s)) xs refl
named-beside c w ns (line.Fail call s) xs = named-one c w ns (step_node s) (line.Stop (step_node s)) xs refl
named-beside c w ns _ xs = refl

module _ (o : Origin) (c : CircuitId) (ns : List NodeId) (i : IsOrigin o) (kept : (n : NodeId) → IsCellWithin ns n (o.kept c n)) where
  -- the world after own lines
  abbrev here : List Ran → World
  here rs = lines_world (first_world o c) (own_among c ns rs)

  here-more : (before : List Ran) (r : Ran) → here (before ++ r ∷ []) ≡ lines_world (here before) (own_line c ns r)
  here-more before r =
      ap (λ (xs : List Ran). lines_world (first_world o c) xs)
      (own-append c ns before (r ∷ []) ∙ ap (λ (xs : List Ran). own_among c ns before ++ xs) (append-nil (own_line c ns r)))
      ∙ lines-append ns (first_world o c) (own_among c ns before) (own_line c ns r)

  concern-append : (xs ys : List Ran) → AllConcern ns c xs → AllConcern ns c ys → AllConcern ns c (xs ++ ys)
  concern-append [] ys h k = k
  concern-append (x ∷ xs) ys h k = (h.0, concern-append xs ys h.1 k)

  pub about-named : (before rs : List Ran) → lines_fit before ≡ true → lines_fit rs ≡ true → AllConcern ns c before → AllConcern ns c rs
      → answers_about o c before rs ≡ named_answers c (here before) (own_among c ns rs)
  about-named before [] f g h k = refl
  about-named before (r ∷ rs) f g h k =
      go (bool_cases (names c r.line))
      (about-named (before ++ r ∷ []) rs fits (and_right (line_fits r) (lines_fit rs) g) (concern-append before (r ∷ []) h (k.0, tt)) k.1)
    where
      fits : lines_fit (before ++ r ∷ []) ≡ true
      fits = fit-append before (r ∷ []) f (rw (and_left (line_fits r) (lines_fit rs) g))

      pair : IsPair ns (here before) (whole_world o c before)
      pair = lines-pair ns c (first_world o c) (first_world o c) before f h (pair-first ns o c kept)

      answered : names c r.line ≡ true → answer_to o before r ≡ named_answer (here before) r
      answered q =
          answer-whole o before r i fits
          ∙ (sym (answer-alike (λ j. here before) (λ j. whole_world o j before) (λ n. roll_answer o (before ++ r ∷ []) n) r.line r.kept alike)
          ∙ unrolled c (λ j. here before) (λ n. roll_answer o (before ++ r ∷ []) n) (λ n. answer.Power true) r.line r.kept q)
        where
          alike : (j : CircuitId) → names j r.line ≡ true → IsAlikeFor r.line (here before) (whole_world o j before)
          alike j z =
              subst (λ (m : NodeId). IsAlikeFor r.line (here before) (whole_world o m before)) (sym (named-one_circuit c j r.line q z))
              (record { nodes = ns; within = named-within ns c r.line q (k.0 q); alike = pair.alike })

      own_is : names c r.line ≡ true → own_line c ns r ≡ r ∷ []
      own_is q = rw q

      beside_is : names c r.line ≡ false → own_line c ns r ≡ beside ns r.line
      beside_is q = rw q

      Goal : List Ran → Type 0
      Goal xs = answers_about o c before (r ∷ rs) ≡ named_answers c (here before) (xs ++ own_among c ns rs)

      go : (names c r.line ≡ true) ⊎ (names c r.line ≡ false)
          → answers_about o c (before ++ r ∷ []) rs ≡ named_answers c (here (before ++ r ∷ [])) (own_among c ns rs)
          → answers_about o c before (r ∷ rs) ≡ named_answers c (here before) (own_among c ns (r ∷ rs))
      go (inl q) hyp =
          subst (λ (xs : List Ran). Goal xs) (sym (own_is q))
          (rw q (ap (λ (a : Answer). a ∷ answers_about o c (before ++ r ∷ []) rs) (answered q)
          ∙ ap (λ (xs : List Answer). named_answer (here before) r ∷ xs)
          (hyp ∙ ap (λ (w : World). named_answers c w (own_among c ns rs))
          (here-more before r ∙ ap (λ (xs : List Ran). lines_world (here before) xs) (own_is q)))))
      go (inr q) hyp =
          subst (λ (xs : List Ran). Goal xs) (sym (beside_is q))
          (rw q (hyp ∙ (ap (λ (w : World). named_answers c w (own_among c ns rs))
          (here-more before r ∙ ap (λ (xs : List Ran). lines_world (here before) xs) (beside_is q))
          ∙ sym (named-beside c (here before) ns r.line (own_among c ns rs)))))

-- of its own lines alone
pub about-own : (o : Origin) (c : CircuitId) (rs : List Ran) → IsOrigin o → lines_fit rs ≡ true
    → answers_about o c [] rs ≡ named_answers c (first_world o c) (own o c rs)
about-own o c rs i f = about-named o c (concerned o c rs) i (concerned-keep o c rs i) [] rs refl f tt (concerned-all o c rs)

-- equal own lines, equal answers
pub equal-answers : (o : Origin) (c : CircuitId) (rs ss : List Ran) → IsOrigin o → lines_fit rs ≡ true → lines_fit ss ≡ true → own o c rs ≡ own o c ss
    → answers_about o c [] rs ≡ answers_about o c [] ss
equal-answers o c rs ss i f g e = about-own o c rs i f ∙ (ap (λ (xs : List Ran). named_answers c (first_world o c) xs) e ∙ sym (about-own o c ss i g))

-- ---- a line that leaves nothing

concern_lines-append : (c : CircuitId) (xs ys : List Ran) → lines_concern c (xs ++ ys) ≡ lines_concern c xs ++ lines_concern c ys
concern_lines-append c [] ys = refl
concern_lines-append c (x ∷ xs) ys =
    ap (λ (ns : List NodeId). first ++ ns) (concern_lines-append c xs ys) ∙ sym (append_assoc first (lines_concern c xs) (lines_concern c ys))
  where
    first : List NodeId
    first = if names c x.line then line_concerns x.line else []

concerned-drop : (o : Origin) (c : CircuitId) (xs ys : List Ran) (r : Ran) → names c r.line ≡ false → concerned o c (xs ++ r ∷ ys) ≡ concerned o c (xs ++ ys)
concerned-drop o c xs ys r h =
    ap (λ (ns : List NodeId). cells_concern (o.kept c) o.nodes ++ ns)
    (concern_lines-append c xs (r ∷ ys) ∙ (ap (λ (ns : List NodeId). lines_concern c xs ++ ns) one ∙ sym (concern_lines-append c xs ys)))
  where
    one : lines_concern c (r ∷ ys) ≡ lines_concern c ys
    one = rw h

-- a line that doesn't name the circuit, and leaves no stop or start of a node concerned, is dropped
pub own-drop : (o : Origin) (c : CircuitId) (xs ys : List Ran) (r : Ran) → names c r.line ≡ false → beside (concerned o c (xs ++ ys)) r.line ≡ []
    → own o c (xs ++ r ∷ ys) ≡ own o c (xs ++ ys)
own-drop o c xs ys r h e =
    ap (λ (ns : List NodeId). own_among c ns (xs ++ r ∷ ys)) (concerned-drop o c xs ys r h)
    ∙ (own-append c all xs (r ∷ ys) ∙ (ap (λ (zs : List Ran). own_among c all xs ++ zs) one ∙ sym (own-append c all xs ys)))
  where
    all : List NodeId
    all = concerned o c (xs ++ ys)

    line_is : own_line c all r ≡ []
    line_is = rw h e

    one : own_among c all (r ∷ ys) ≡ own_among c all ys
    one = ap (λ (zs : List Ran). zs ++ own_among c all ys) line_is
