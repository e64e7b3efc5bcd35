use Rattle.std.proofs.Common.{◌≡◌, ◌+◌, ◌*◌, ◌%◌, ap, ◌∙◌, arith, refl, slice_set, slice_index}
use Rattle.sha2.proofs.Schedule256.{IsRoundsAt_at, rounds_window, window_word_place}
use Rattle.spl_sha256_lanes.{specs.Lanes.lane, proofs.Lanes.lane_set}
use Rattle.spl_sha256_lanes.proofs.rounds.step.Goals as goal

pub returns : goal.returns
returns c j low b h held =
    let place = c.args.place in
    let t = 16 * c.args.turn + place in
    let w = lane j c.args.w.now in
    let words = c.next_words-words in
    let at : place ≡ t % 16 = omega (arith, c.requires.place) in
    let word = words.ensures.value j low ∙ window_word_place w c.args.turn place in
    let window = ap (lane j) words.ensures.window ∙ lane_set j c.args.w.now place words.result ∙ ap (λ k. slice_set w k (slice_index words.result j)) at in
    IsRoundsAt_at b h _ _ (t + 1) _ (omega arith)
    (rounds_window b h w (lane j c.args.v) t _ _ _ _ (omega (arith, c.requires.low)) (omega (arith, c.requires.high, c.requires.place)) held.0 held.1
    word window refl (c.round.ensures j low))
