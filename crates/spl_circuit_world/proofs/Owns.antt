-- A circuit's own lines, and all lines, keep two worlds alike.
use Rattle.std.{specs.{Prelude.{Option, Some, None, nat_le, nat_lt, if◌then◌else◌}, List.list_all, Str.bytes_eq}, proofs.Common.{◌≡◌, ℕ, ◌^◌, ◌⊎◌, Bool}}
use Rattle.std.proofs.Common.{true, false, ◌&&◌, List, [], ◌∷◌, ◌++◌, append_assoc, refl, sym, ap, subst, ◌∙◌, inl, inr}
use Rattle.spl_agree.proofs.Tests.{bool_cases, and_left, and_right, or_true}
use Rattle.spl_circuit.specs.{Nodes.{NodeId, CircuitId, has_node}, Same.{node_is, node_same}, declared.act.{Act.Act, ActKind.ActKind}}
use Rattle.spl_circuit.specs.declared.act.ActKind.TheVariants as kind
use Rattle.spl_wire.specs.declared.{answer.{Answer.Answer, Bit.Bit}, plan.Plan.Plan}
use Rattle.spl_wire.specs.declared.answer.Answer.TheVariants as answer
use Rattle.spl_wire.specs.declared.answer.Refusal.TheVariants as refusal
use Rattle.spl_sched.specs.{Grammar.{step_node, step_circuit, is_inner_step, is_step, is_fill, is_line, line_circuit}, declared.line.{Line.Line, Step.Step}}
use Rattle.spl_sched.specs.declared.line.Line.TheVariants as line
use Rattle.spl_cell_rules.specs.Cells.{Cell, Empty, Held, Purged}
use Rattle.spl_circuit_world.specs.{Same.IsSameFor, Whole.{world_beside, world_after_line, whole_from, whole_world}, Worlds.{Origin, IsOrigin, World}}
use Rattle.spl_circuit_world.specs.{Worlds.{first_world, step_plan, circuit_happens, Stops, Starts, Halts}, Projection.{Ran, plainly, line_fits, lines_fit}}
use Rattle.spl_circuit_world.specs.Projection.{names, names_circuit, line_concerns, lines_concern, kind_members, members_of_acts, kept_values, cell_concerns}
use Rattle.spl_circuit_world.specs.{Projection.{cells_concern, concerned, at_one_of, beside, own_line, own_among}, Answers.{bit_of, halt_answer, line_answer}}
use Rattle.spl_circuit_world.{specs.Answers.{line_world, lines_world, circuit_world, world_before, roll_answer, answer_to}, proofs.Within.are_within}
use Rattle.spl_circuit_world.proofs.{Within.{is_kind_within, is_act_within, IsCellWithin, within-empty}, Confined.{IsConfined, confined-first, IsStepWithin}}
use Rattle.spl_circuit_world.proofs.{Confined.{step-here, confined-step, confined-happens}, Alike.{IsAlike, alike-same, same-alike, up-alike, plan-alike}}
use Rattle.spl_circuit_world.proofs.{Alike.{step-alike, happens-alike, stops-aside, starts-aside}, Calms.calm-alike, LinesAsOccurrences.plain-step}

-- the step after a cut or a fail is within its bounds
pub cut-fits : (calls : ℕ) (f : Rattle.spl_edge.specs.declared.fill.Fill.Fill) (s : Step) → is_line (line.Cut calls f s) ≡ true → is_step s ≡ true
cut-fits calls f s h = and_right (nat_lt calls (2 ^ 8) && is_fill f && is_inner_step s) (is_step s) h

pub fail-fits : (call : ℕ) (s : Step) → is_line (line.Fail call s) ≡ true → is_step s ≡ true
fail-fits call s h = and_right ((nat_le 1 call && nat_lt call (2 ^ 8)) && is_inner_step s) (is_step s) h

module _ (ns : List NodeId) where
  -- two worlds that are alike at these nodes, which have all that touches the circuit
  pub record IsPair (w v : World) : Type 0 where
    pub alike : IsAlike ns w v
    pub confined : IsConfined ns v

  pub pair-first : (o : Origin) (c : CircuitId) → ((n : NodeId) → IsCellWithin ns n (o.kept c n)) → IsPair (first_world o c) (first_world o c)
  pair-first o c h = record { alike = alike-same ns (first_world o c); confined = confined-first ns o c h }

  -- ---- a line that names the circuit, or is about one of the nodes

  -- where the line takes place, and whom it proposes
  abbrev pub IsLineWithin : Line → Type 0
  IsLineWithin (line.Step s) = IsStepWithin ns s
  IsLineWithin (line.Calm c k) = Unit {0}
  IsLineWithin (line.Stop n) = has_node ns n ≡ true
  IsLineWithin (line.Start n) = has_node ns n ≡ true
  IsLineWithin (line.Roll n) = Unit {0}
  IsLineWithin (line.Check k) = Unit {0}
  IsLineWithin (line.Cut calls f s) = IsStepWithin ns s
  IsLineWithin (line.Fail call s) = IsStepWithin ns s

  halts-pair : (w v : World) (s : Step) (kept : Bool) → is_step s ≡ true → IsStepWithin ns s → IsPair w v
      → IsPair (circuit_happens w (Halts kept s)) (circuit_happens v (Halts kept s))
  halts-pair w v s kept f h p = record {
    alike = happens-alike ns w v (Halts kept s) p.alike (step-here ns s h);
    confined = confined-happens ns v (Halts kept s) (plain-step s f, h) p.confined;
  }

  pub line-pair : (w v : World) (l : Line) (kept : Bool) → is_line l ≡ true → IsLineWithin l → IsPair w v → IsPair (line_world w l kept) (line_world v l kept)
  line-pair w v (line.Step s) kept f h p =
      record { alike = step-alike ns w v s p.alike (step-here ns s h); confined = confined-step ns v s (plain-step s f) h p.confined }
  line-pair w v (line.Calm c k) kept f h p = let z = calm-alike ns c w v k p.alike p.confined in record { alike = z.world; confined = z.confined }
  line-pair w v (line.Stop n) kept f h p = record { alike = happens-alike ns w v (Stops n) p.alike h; confined = confined-happens ns v (Stops n) tt p.confined }
  line-pair w v (line.Start n) kept f h p =
      record { alike = happens-alike ns w v (Starts n) p.alike h; confined = confined-happens ns v (Starts n) tt p.confined }
  line-pair w v (line.Roll n) kept f h p = p
  line-pair w v (line.Check k) kept f h p = p
  line-pair w v (line.Cut calls fill s) kept f h p = halts-pair w v s kept (cut-fits calls fill s f) h p
  line-pair w v (line.Fail call s) kept f h p = halts-pair w v s kept (fail-fits call s f) h p

  halt-same : (say : Bit → Answer) (w v : World) (s : Step) (kept : Bool) → IsStepWithin ns s → IsAlike ns w v
      → halt_answer say w s kept ≡ halt_answer say v s kept
  halt-same say w v s kept h a =
      ap (λ (b : Bool). if b then say (bit_of kept (step_plan w s).changes) else answer.Refused refusal.Down)
      (up-alike ns w v (step_node s) a (step-here ns s h))
      ∙ ap (λ (p : Plan). if v.up (step_node s) then say (bit_of kept p.changes) else answer.Refused refusal.Down) (plan-alike ns w v s a (step-here ns s h))

  -- ---- any other line

  stops-pair : (w v : World) (n : NodeId) → IsPair w v → IsPair (lines_world w (at_one_of ns n (line.Stop n))) (circuit_happens v (Stops n))
  stops-pair w v n p = go (bool_cases (has_node ns n))
    where
      confined : IsConfined ns (circuit_happens v (Stops n))
      confined = confined-happens ns v (Stops n) tt p.confined

      pick : (b : Bool) → List Ran
      pick b = if b then plainly (line.Stop n) ∷ [] else []

      go : (has_node ns n ≡ true) ⊎ (has_node ns n ≡ false) → IsPair (lines_world w (pick (has_node ns n))) (circuit_happens v (Stops n))
      go (inl q) =
          subst (λ (b : Bool). IsPair (lines_world w (pick b)) (circuit_happens v (Stops n))) (sym q)
          (record { alike = happens-alike ns w v (Stops n) p.alike q; confined = confined })
      go (inr q) =
          subst (λ (b : Bool). IsPair (lines_world w (pick b)) (circuit_happens v (Stops n))) (sym q)
          (record { alike = stops-aside ns w v n q p.confined p.alike; confined = confined })

  starts-pair : (w v : World) (n : NodeId) → IsPair w v → IsPair (lines_world w (at_one_of ns n (line.Start n))) (circuit_happens v (Starts n))
  starts-pair w v n p = go (bool_cases (has_node ns n))
    where
      confined : IsConfined ns (circuit_happens v (Starts n))
      confined = confined-happens ns v (Starts n) tt p.confined

      pick : (b : Bool) → List Ran
      pick b = if b then plainly (line.Start n) ∷ [] else []

      go : (has_node ns n ≡ true) ⊎ (has_node ns n ≡ false) → IsPair (lines_world w (pick (has_node ns n))) (circuit_happens v (Starts n))
      go (inl q) =
          subst (λ (b : Bool). IsPair (lines_world w (pick b)) (circuit_happens v (Starts n))) (sym q)
          (record { alike = happens-alike ns w v (Starts n) p.alike q; confined = confined })
      go (inr q) =
          subst (λ (b : Bool). IsPair (lines_world w (pick b)) (circuit_happens v (Starts n))) (sym q)
          (record { alike = starts-aside ns w v n q p.alike; confined = confined })

  pub beside-pair : (w v : World) (l : Line) → IsPair w v → IsPair (lines_world w (beside ns l)) (world_beside v l)
  beside-pair w v (line.Stop n) p = stops-pair w v n p
  beside-pair w v (line.Start n) p = starts-pair w v n p
  beside-pair w v (line.Cut calls fill s) p = stops-pair w v (step_node s) p
  beside-pair w v (line.Fail call s) p = stops-pair w v (step_node s) p
  beside-pair w v _ p = p

  -- ---- lines

  -- a line that names a circuit concerns what it touches
  pub named-within : (c : CircuitId) (l : Line) → names c l ≡ true → are_within ns (line_concerns l) ≡ true → IsLineWithin l
  named-within c (line.Calm i j) h k = tt
  named-within c (line.Stop n) h k = cc
  named-within c (line.Start n) h k = cc
  named-within c (line.Roll n) h k = tt
  named-within c (line.Check p) h k = tt
  named-within c _ h k = k

  -- where it names the circuit, what it concerns is among the nodes
  abbrev pub Concerns : NodeId → Ran → Type 0
  Concerns c r = names c r.line ≡ true → are_within ns (line_concerns r.line) ≡ true

  abbrev pub AllConcern : NodeId → List Ran → Type 0
  AllConcern c [] = Unit {0}
  AllConcern c (r ∷ rs) = Concerns c r × AllConcern c rs

  pub ran-pair : (c : CircuitId) (w v : World) (r : Ran) → line_fits r ≡ true → Concerns c r → IsPair w v
      → IsPair (lines_world w (own_line c ns r)) (world_after_line c v r)
  ran-pair c w v r f h p = go (bool_cases (names c r.line))
    where
      go : (names c r.line ≡ true) ⊎ (names c r.line ≡ false) → IsPair (lines_world w (own_line c ns r)) (world_after_line c v r)
      go (inl q) = rw q (line-pair w v r.line r.kept f (named-within c r.line q (h q)) p)
      go (inr q) = rw q (beside-pair w v r.line p)

  pub lines-append : (w : World) (xs ys : List Ran) → lines_world w (xs ++ ys) ≡ lines_world (lines_world w xs) ys
  lines-append w [] ys = refl
  lines-append w (x ∷ xs) ys = lines-append (line_world w x.line x.kept) xs ys

  -- own lines and all lines
  pub lines-pair : (c : CircuitId) (w v : World) (rs : List Ran) → lines_fit rs ≡ true → AllConcern c rs → IsPair w v
      → IsPair (lines_world w (own_among c ns rs)) (whole_from c v rs)
  lines-pair c w v [] f h p = p
  lines-pair c w v (r ∷ rs) f h p =
      subst (λ (u : World). IsPair u (whole_from c (world_after_line c v r) rs)) (sym (lines-append w (own_line c ns r) (own_among c ns rs)))
      (lines-pair c (lines_world w (own_line c ns r)) (world_after_line c v r) rs (and_right (line_fits r) (lines_fit rs) f) h.1
      (ran-pair c w v r (and_left (line_fits r) (lines_fit rs) f) h.0 p))

-- ---- the nodes that lines concern

within-left : (ns xs ys : List NodeId) → are_within ns (xs ++ ys) ≡ true → are_within ns xs ≡ true
within-left ns [] ys h = refl
within-left ns (x ∷ xs) ys h =
    rw (and_left (has_node ns x) (are_within ns (xs ++ ys)) h) (within-left ns xs ys (and_right (has_node ns x) (are_within ns (xs ++ ys)) h))

within-right : (ns xs ys : List NodeId) → are_within ns (xs ++ ys) ≡ true → are_within ns ys ≡ true
within-right ns [] ys h = h
within-right ns (x ∷ xs) ys h = within-right ns xs ys (and_right (has_node ns x) (are_within ns (xs ++ ys)) h)

-- what has all nodes concerned has those of each line
pub all-concern : (ns : List NodeId) (c : CircuitId) (rs : List Ran) → are_within ns (lines_concern c rs) ≡ true → AllConcern ns c rs
all-concern ns c [] h = tt
all-concern ns c (r ∷ rs) h = (
  λ q. first q (within-left ns (if names c r.line then line_concerns r.line else []) (lines_concern c rs) h),
  all-concern ns c rs (within-right ns (if names c r.line then line_concerns r.line else []) (lines_concern c rs) h),
)
  where
    first : names c r.line ≡ true → are_within ns (if names c r.line then line_concerns r.line else []) ≡ true → are_within ns (line_concerns r.line) ≡ true
    first q k = rw q at k

-- nodes are among themselves
within-by : (ns xs : List NodeId) → ((n : NodeId) → has_node xs n ≡ true → has_node ns n ≡ true) → are_within ns xs ≡ true
within-by ns [] h = refl
within-by ns (x ∷ xs) h = rw (h x (rw (node_same x))) (within-by ns xs (λ n k. h n (rw k (or_true (bytes_eq x n)))))

pub within-same : (ns : List NodeId) → are_within ns ns ≡ true
within-same ns = within-by ns ns (λ n h. h)

-- ---- the cells that a run begins with

-- what acts propose, one list after the other
acts-within : (ns : List NodeId) (vs : List Act) → are_within ns (members_of_acts vs) ≡ true → list_all (is_act_within ns) vs ≡ true
acts-within ns [] h = refl
acts-within ns (v ∷ vs) h = rw (one v.kind (members_of_acts vs) h) (acts-within ns vs (rest v.kind (members_of_acts vs) h))
  where
    one : (k : ActKind) (ms : List NodeId) → are_within ns (kind_members k ++ ms) ≡ true → is_kind_within ns k ≡ true
    one (kind.Propose d) ms x = within-left ns d.members ms x
    one _ ms x = refl

    rest : (k : ActKind) (ms : List NodeId) → are_within ns (kind_members k ++ ms) ≡ true → are_within ns ms ≡ true
    rest k ms x = within-right ns (kind_members k) ms x

pub all-left : {A : Type 0} (p : A → Bool) (xs ys : List A) → list_all p (xs ++ ys) ≡ true → list_all p xs ≡ true
all-left p [] ys h = refl
all-left p (x ∷ xs) ys h = rw (and_left (p x) (list_all p (xs ++ ys)) h) (all-left p xs ys (and_right (p x) (list_all p (xs ++ ys)) h))

-- a cell is among the nodes that it concerns
cell-within : (ns : List NodeId) (n : NodeId) (k : Cell) → are_within ns (cell_concerns n k) ≡ true → IsCellWithin ns n k
cell-within ns n Empty h = tt
cell-within ns n (Purged g) h = and_left (has_node ns n) (are_within ns []) h
cell-within ns n (Held b) h =
    let rest : are_within ns (b.definition.members ++ members_of_acts (kept_values b.acts)) ≡ true =
    and_right (has_node ns n) (are_within ns (b.definition.members ++ members_of_acts (kept_values b.acts))) h in (
      and_left (has_node ns n) (are_within ns (b.definition.members ++ members_of_acts (kept_values b.acts))) h,
      within-left ns b.definition.members (members_of_acts (kept_values b.acts)) rest,
      all-left (is_act_within ns) b.acts.pending _
          (acts-within ns (kept_values b.acts) (within-right ns b.definition.members (members_of_acts (kept_values b.acts)) rest)),
    )

-- so is each of these
cells-within : (ns : List NodeId) (at : NodeId → Cell) (ms : List NodeId) (n : NodeId) → are_within ns (cells_concern at ms) ≡ true → has_node ms n ≡ true
    → IsCellWithin ns n (at n)
cells-within ns at [] n h k = cc
cells-within ns at (m ∷ ms) n h k = go (bool_cases (bytes_eq m n)) (cells-within ns at ms n (within-right ns (cell_concerns m (at m)) (cells_concern at ms) h))
  where
    go : (bytes_eq m n ≡ true) ⊎ (bytes_eq m n ≡ false) → (has_node ms n ≡ true → IsCellWithin ns n (at n)) → IsCellWithin ns n (at n)
    go (inl q) rest =
        subst (λ (j : NodeId). IsCellWithin ns j (at j)) (node_is m n q)
        (cell-within ns m (at m) (within-left ns (cell_concerns m (at m)) (cells_concern at ms) h))
    go (inr q) rest = rest (rw q at k)

pub kept-within : (ns : List NodeId) (o : Origin) (c : CircuitId) → IsOrigin o → are_within ns (cells_concern (o.kept c) o.nodes) ≡ true → (n : NodeId)
    → IsCellWithin ns n (o.kept c n)
kept-within ns o c i h n = go (bool_cases (has_node o.nodes n))
  where
    go : (has_node o.nodes n ≡ true) ⊎ (has_node o.nodes n ≡ false) → IsCellWithin ns n (o.kept c n)
    go (inl q) = cells-within ns (o.kept c) o.nodes n h q
    go (inr q) = subst (λ (k : Cell). IsCellWithin ns n k) (sym (i.only c n q)) tt

-- what is concerned has all that the cells have, and what each line concerns
pub concerned-keep : (o : Origin) (c : CircuitId) (rs : List Ran) → IsOrigin o → (n : NodeId) → IsCellWithin (concerned o c rs) n (o.kept c n)
concerned-keep o c rs i =
    kept-within (concerned o c rs) o c i
    (within-left (concerned o c rs) (cells_concern (o.kept c) o.nodes) (lines_concern c rs) (within-same (concerned o c rs)))

pub concerned-all : (o : Origin) (c : CircuitId) (rs : List Ran) → AllConcern (concerned o c rs) c rs
concerned-all o c rs =
    all-concern (concerned o c rs) c rs
    (within-right (concerned o c rs) (cells_concern (o.kept c) o.nodes) (lines_concern c rs) (within-same (concerned o c rs)))

-- ---- the laws

-- the world of a circuit after its own lines, and after all lines
pub own-pair : (o : Origin) (c : CircuitId) (rs : List Ran) → IsOrigin o → lines_fit rs ≡ true
    → IsPair (concerned o c rs) (circuit_world o c rs) (whole_world o c rs)
own-pair o c rs i f =
    lines-pair (concerned o c rs) c (first_world o c) (first_world o c) rs f (concerned-all o c rs)
    (pair-first (concerned o c rs) o c (concerned-keep o c rs i))

-- own lines one list after the other
pub own-append : (c : CircuitId) (ns : List NodeId) (xs ys : List Ran) → own_among c ns (xs ++ ys) ≡ own_among c ns xs ++ own_among c ns ys
own-append c ns [] ys = refl
own-append c ns (x ∷ xs) ys =
    ap (λ (zs : List Ran). own_line c ns x ++ zs) (own-append c ns xs ys) ∙ sym (append_assoc (own_line c ns x) (own_among c ns xs) (own_among c ns ys))

pub fits-left : (xs ys : List Ran) → lines_fit (xs ++ ys) ≡ true → lines_fit xs ≡ true
fits-left [] ys h = refl
fits-left (x ∷ xs) ys h = rw (and_left (line_fits x) (lines_fit (xs ++ ys)) h) (fits-left xs ys (and_right (line_fits x) (lines_fit (xs ++ ys)) h))

pub concern-left : (ns : List NodeId) (c : CircuitId) (xs ys : List Ran) → AllConcern ns c (xs ++ ys) → AllConcern ns c xs × AllConcern ns c ys
concern-left ns c [] ys h = (tt, h)
concern-left ns c (x ∷ xs) ys h = let k = concern-left ns c xs ys h.1 in ((h.0, k.0), k.1)

-- the worlds in which a line runs, after the own lines and after all
pub pair-before : (o : Origin) (c : CircuitId) (before : List Ran) (r : Ran) → IsOrigin o → lines_fit (before ++ r ∷ []) ≡ true
    → IsPair (concerned o c (before ++ r ∷ [])) (world_before o c before r) (whole_world o c before)
pair-before o c before r i f =
    lines-pair all c (first_world o c) (first_world o c) before (fits-left before (r ∷ []) f) k.0
    (pair-first all o c (concerned-keep o c (before ++ r ∷ []) i))
  where
    all : List NodeId
    all = concerned o c (before ++ r ∷ [])

    k : AllConcern all c before × AllConcern all c (r ∷ [])
    k = concern-left all c before (r ∷ []) (concerned-all o c (before ++ r ∷ []))

-- which circuit a line names
pub names-is : (c : CircuitId) (l : Line) → names c l ≡ true → line_circuit l ≡ Some c
names-is c l h = go (line_circuit l) h
  where
    go : (o : Option NodeId) → names_circuit c o ≡ true → o ≡ Some c
    go None q = cc
    go (Some i) q = ap (λ (x : NodeId). Some x) (node_is i c q)

-- two worlds of a circuit that a line names are alike at nodes where it takes place
pub record IsAlikeFor (l : Line) (w v : World) : Type 0 where
  pub nodes : List NodeId
  pub within : IsLineWithin nodes l
  pub alike : IsAlike nodes w v

-- a line is answered alike where the worlds of the circuit that it names are alike
pub answer-alike : (ws vs : NodeId → World) (roll : NodeId → Answer) (l : Line) (kept : Bool)
    → ((c : CircuitId) → names c l ≡ true → IsAlikeFor l (ws c) (vs c)) → line_answer ws roll l kept ≡ line_answer vs roll l kept
answer-alike ws vs roll (line.Step s) kept h =
    let k : IsAlikeFor (line.Step s) (ws (step_circuit s)) (vs (step_circuit s)) = h (step_circuit s) (node_same (step_circuit s)) in
    ap (λ (p : Plan). p.answer) (plan-alike k.nodes (ws (step_circuit s)) (vs (step_circuit s)) s k.alike (step-here k.nodes s k.within))
answer-alike ws vs roll (line.Cut calls fill s) kept h =
    let k : IsAlikeFor (line.Cut calls fill s) (ws (step_circuit s)) (vs (step_circuit s)) = h (step_circuit s) (node_same (step_circuit s)) in
    halt-same k.nodes answer.Cut (ws (step_circuit s)) (vs (step_circuit s)) s kept k.within k.alike
answer-alike ws vs roll (line.Fail call s) kept h =
    let k : IsAlikeFor (line.Fail call s) (ws (step_circuit s)) (vs (step_circuit s)) = h (step_circuit s) (node_same (step_circuit s)) in
    halt-same k.nodes answer.Fault (ws (step_circuit s)) (vs (step_circuit s)) s kept k.within k.alike
answer-alike ws vs roll _ kept h = refl

-- among any nodes that have all that is concerned, the world after the own lines is alike to the one after all lines
pub alike-for : (o : Origin) (ns : List NodeId) (c : CircuitId) (before : List Ran) (r : Ran) → ((n : NodeId) → IsCellWithin ns n (o.kept c n))
    → lines_fit (before ++ r ∷ []) ≡ true → AllConcern ns c (before ++ r ∷ []) → names c r.line ≡ true
    → IsAlikeFor r.line (lines_world (first_world o c) (own_among c ns before)) (whole_world o c before)
alike-for o ns c before r i f h q = record { nodes = ns; within = named-within ns c r.line q (k.1.0 q); alike = p.alike }
  where
    k : AllConcern ns c before × AllConcern ns c (r ∷ [])
    k = concern-left ns c before (r ∷ []) h

    p : IsPair ns (lines_world (first_world o c) (own_among c ns before)) (whole_world o c before)
    p = lines-pair ns c (first_world o c) (first_world o c) before (fits-left before (r ∷ []) f) k.0 (pair-first ns o c i)

pub answer-whole : (o : Origin) (before : List Ran) (r : Ran) → IsOrigin o → lines_fit (before ++ r ∷ []) ≡ true
    → answer_to o before r ≡ line_answer (λ c. whole_world o c before) (λ n. roll_answer o (before ++ r ∷ []) n) r.line r.kept
unfolding answer_to
answer-whole o before r i f =
    answer-alike (λ c. world_before o c before r) (λ c. whole_world o c before) (λ n. roll_answer o (before ++ r ∷ []) n) r.line r.kept
    (λ c q. alike-for o (concerned o c (before ++ r ∷ [])) c before r (concerned-keep o c (before ++ r ∷ []) i) f (concerned-all o c (before ++ r ∷ [])) q)

-- nothing is kept at a node that isn't concerned
pub elsewhere-empty : (o : Origin) (c : CircuitId) (rs : List Ran) (n : NodeId) → IsOrigin o → lines_fit rs ≡ true → has_node (concerned o c rs) n ≡ false
    → (whole_world o c rs).at n ≡ Empty
elsewhere-empty o c rs n i f h = within-empty (concerned o c rs) n ((whole_world o c rs).at n) h ((own-pair o c rs i f).confined.cells n)

-- the two worlds
pub own-same : (o : Origin) (c : CircuitId) (rs : List Ran) → IsOrigin o → lines_fit rs ≡ true
    → IsSameFor (concerned o c rs) (circuit_world o c rs) (whole_world o c rs)
own-same o c rs i f = same-alike (concerned o c rs) (circuit_world o c rs) (whole_world o c rs) (own-pair o c rs i f).alike
