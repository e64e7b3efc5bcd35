use Rattle.std.proofs.{Common.{◌≡◌, ◌-◌, ◌*◌, length, take, drop, sym, ap, ◌∙◌, arith, length-drop}, lemmas.List.{take-take, take_all, length-take-le}}
use Rattle.spl_state.proofs.Compared.{same_vectors}
use Rattle.spl_state.proofs.tree.levels.has_digest.Goals as goal

pub returns : goal.returns
returns c = λ held.
    let at = 32 * c.args.digit in
    let digests = c.args.digests.now in
    let digest = c.args.digest.now in
    let here : take 32 (take (512 - at) (drop at digests)) ≡ take 32 (drop at digests) =
    take-take 32 (512 - at) (drop at digests) (omega (arith, c.requires)) in
    let whole : take 32 digest ≡ digest = take_all 32 digest (omega (arith, c.told-digest)) in
    let wide : length (take 32 (take (512 - at) (drop at digests))) ≡ 32 =
    ap length here ∙ length-take-le 32 (drop at digests) (omega (arith, length-drop at digests, c.told-digests, c.requires)) in
    let long : length (take 32 digest) ≡ 32 = ap length whole ∙ c.told-digest in
    sym here ∙ same_vectors (take 32 (take (512 - at) (drop at digests))) (take 32 digest) (wide ∙ sym long) (omega (arith, wide)) held ∙ whole
