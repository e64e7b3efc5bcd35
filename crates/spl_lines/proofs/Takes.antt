-- Each line of a generated text is one that a schedule over its nodes may have.
use Rattle.std.{specs.{Prelude.{nat_le, IsSomeAnd}, List.{AllByRecursion, list_all}}, proofs.Common.{◌≡◌, inr, List, [], ◌∷◌, Option, Some, length, map}}
use Rattle.std.proofs.{Common.{IsTrue, sym, subst}, lemmas.Bool.{and_parts, leb-true}}
use Rattle.spl_circuit.specs.Nodes.{Node, has_node}
use Rattle.spl_sched.specs.{Grammar.{line_of, line_nodes, spelling}, declared.line.Line.Line}
use Rattle.spl_base.specs.declared.limit.TheConstants.{LONGEST_LINE}
use Rattle.spl_lines.{specs.{Lines.IsShort, Tasks.{IsAdmitted, IsLine, or_watch, said_in}}, proofs.Longest.short_line}
use Rattle.spl_delta.specs.Watches.{watch_line_of}

first_same : {A : Type 0} (x y : Option A) (xs ys : List (Option A)) → x ∷ xs ≡ y ∷ ys → (x ≡ y) × (xs ≡ ys)
first_same x y xs ys same = (cc, cc)

pub all_taken : (ns : List Node) (ls : List Line) → IsTrue (list_all (λ l. nat_le (length (spelling l)) LONGEST_LINE) ls)
    → map (λ l. line_of (spelling l)) ls ≡ map Some ls
    → IsTrue (list_all (λ l. list_all (has_node ns) (line_nodes l)) ls) → AllByRecursion (IsLine ns) (map spelling ls)
all_taken ns [] short read known = tt
all_taken ns (l ∷ ls) short read known =
    let few = and_parts (nat_le (length (spelling l)) LONGEST_LINE) (list_all (λ l. nat_le (length (spelling l)) LONGEST_LINE) ls) short in
    let reads = first_same (line_of (spelling l)) (Some l) (map (λ l. line_of (spelling l)) ls) (map Some ls) read in
    let names = and_parts (list_all (has_node ns) (line_nodes l)) (list_all (λ l. list_all (has_node ns) (line_nodes l)) ls) known in
    let size : IsShort (spelling l) = short_line (spelling l) (leb-true (length (spelling l)) LONGEST_LINE few.0) in
    let admitted : IsSomeAnd (said_in (spelling l)) (IsAdmitted ns) =
    subst (λ (o : Option Line). IsSomeAnd (or_watch o (watch_line_of (spelling l))) (IsAdmitted ns)) (sym reads.0) names.0 in
    ((size, inr admitted), all_taken ns ls few.1 reads.1 names.1)
