-- What is bound at a node.
use Rattle.std.specs.{Cmp.Lexicographic.slice_cmp, List.{Sorted.IsStrictlySortedBy, AllByRecursion, list_any}, Ordering.{nat_cmp, is_lt}}
use Rattle.std.specs.declared.cmp.Ordering.TheVariants.{Less}
use Rattle.spl_base.specs.FormLaws.{and_true}
use Rattle.spl_circuit_world.{proofs.{Rolls.bound-is, Ups.whole-up}, specs.Answers.bound_at}
use Rattle.spl_cell_rules.specs.Cells.{is_bound}
use Rattle.spl_sched.specs.declared.line.Line.TheVariants as line
use Rattle.spl_world.proofs.Common.{◌≡◌, Bool, true, List, [], ◌∷◌, refl, sym, ◌+◌, ◌-◌}
use Rattle.spl_world.proofs.Common.{◌||◌, ◌++◌, ap, ◌∙◌, bytes_eq, NodeId, CircuitId, has_node, is_below, ascends, ascends_after}
use Rattle.spl_world.proofs.Common.{is_up, by_rule, Ran, lines_fit, IsOrigin, Origin, CircuitWorld, moves-beside, whole_world, Cell}
use Rattle.spl_world.proofs.{Common.is_line, Slots.turned, Standing.fits_after}

rises : (x : CircuitId) (ys : List CircuitId) → AllByRecursion (λ (y : CircuitId). slice_cmp nat_cmp x y ≡ Less) ys → IsStrictlySortedBy (slice_cmp nat_cmp) ys → ascends_after x ys ≡ true
unfolding IsStrictlySortedBy
rises x [] h k = refl
rises x (y ∷ ys) h k = and_true (is_below x y) (ascends_after y ys) (ap is_lt h.0) (rises y ys k.0 k.1)

sorted_ascends : (xs : List CircuitId) → IsStrictlySortedBy (slice_cmp nat_cmp) xs → ascends xs ≡ true
unfolding IsStrictlySortedBy
sorted_ascends [] h = refl
sorted_ascends (x ∷ xs) h = rises x xs h.0 h.1

has_any : (xs : List CircuitId) (c : CircuitId) → has_node xs c ≡ list_any (bytes_eq c) xs
has_any [] c = refl
has_any (x ∷ xs) c = ap (λ (b : Bool). b || has_node xs c) (turned x c) ∙ ap (λ (b : Bool). bytes_eq c x || b) (has_any xs c)

pub rolled : (o : Origin) → IsOrigin o → (before : List Ran) (n : NodeId) (ids : List CircuitId) (cells : CircuitId → Cell) → is_line (line.Roll n) ≡ true → lines_fit before ≡ true → IsStrictlySortedBy (slice_cmp nat_cmp) ids → ((c : CircuitId) → list_any (bytes_eq c) ids ≡ is_bound (cells c)) → ((c : CircuitId) → cells c ≡ (whole_world o c before).at n) → ids ≡ bound_at o (before ++ by_rule (line.Roll n) ∷ []) n
rolled o begins before n ids cells own fit sorted bound held =
    bound-is o (before ++ by_rule (line.Roll n) ∷ []) n ids begins (fits_after before (line.Roll n) fit own) (sorted_ascends ids sorted)
    (λ c. has_any ids c ∙ bound c ∙ ap is_bound (held c ∙ ap (λ (w : CircuitWorld). w.at n) (sym (moves-beside o before (by_rule (line.Roll n)) c refl))))

pub roll_up : (o : Origin) (before : List Ran) (n : NodeId) → (whole_world o [] before).up n ≡ is_up n (before ++ by_rule (line.Roll n) ∷ [])
roll_up o before n = ap (λ (w : CircuitWorld). w.up n) (sym (moves-beside o before (by_rule (line.Roll n)) [] refl)) ∙ whole-up o [] (before ++ by_rule (line.Roll n) ∷ []) n
