use Rattle.std.proofs.Common.{◌≡◌, ◌-◌, ◌*◌, ◌/◌, ◌%◌, ◌^◌, bit_or, slice_index, sym, ap, ◌∙◌, arith}
use Rattle.spl_sha256_lanes.proofs.Lanes.{joined_lanes}
use Rattle.spl_sha256_lanes.proofs.words.rotated_right.Goals as goal

pub returns : goal.returns
returns c j h =
    let k = c.args.k in
    let x = slice_index c.args.x j in
    let turned : k % 32 ≡ k = omega (arith, c.requires.high) in
    let rest : (32 - k % 32) % 32 ≡ 32 - k = omega (arith, c.requires.low, c.requires.high) in
    joined_lanes bit_or (λ x n. x / 2 ^ n) (λ x n. x * 2 ^ n % 2 ^ 32) c.args.x k (32 - k) j c.fits-x.0 h
    ∙ ap (λ n. bit_or (x / 2 ^ n) (x * 2 ^ (32 - k) % 2 ^ 32)) (sym turned)
    ∙ ap (λ n. bit_or (x / 2 ^ (k % 32)) (x * 2 ^ n % 2 ^ 32)) (sym rest)
