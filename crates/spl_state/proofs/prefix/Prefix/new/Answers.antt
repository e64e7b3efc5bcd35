use Rattle.std.proofs.{Common.{◌≡◌, ◌++◌, ◌≤◌, List, ℕ, length, take, drop, replicate, refl, ap}, lemmas.List.{take_at, drop-replicate}}
use Rattle.spl_state.specs.Cells.{padded}
use Rattle.spl_state.proofs.prefix.Prefix.new.Goals as goal

made : (cap : ℕ) (cells xs : List ℕ) → cells ≡ xs → length xs ≤ cap →
    let all = cells ++ drop (length xs) (replicate cap 0) in
    (all ≡ padded cap (take (length xs) all)) × (length (take (length xs) all) ≡ length xs) × (length xs ≤ cap)
made cap cells xs e h =
    let all = cells ++ drop (length xs) (replicate cap 0) in
    let prefix : take (length xs) all ≡ xs = rw e (take_at xs (drop (length xs) (replicate cap 0)) (length xs) refl) in
    (rw (prefix, e, drop-replicate) refl, ap length prefix, h)

pub invariant_of-result : goal.invariant_of-result
invariant_of-result c = made 35 c.copy_from_slice.new.self c.args.bytes.now c.copy_from_slice.ensures.after c.requires
