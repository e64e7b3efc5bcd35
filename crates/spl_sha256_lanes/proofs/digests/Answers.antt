use Rattle.std.proofs.Common.{◌≡◌, ◌<◌, ◌*◌, [], ◌∷◌, List, ℕ, take, drop, map, length, slice_index_or, sym, ap, ◌∙◌, arith}
use Rattle.sha2.{specs.Sha256.{compress, digest_bytes, hash_after, initial_hash_256, padded_message, sha256}, proofs.Absorbing256.hash_after_next}
use Rattle.spl_sha256_lanes.{specs.Lanes.lane, proofs.{Lanes.{below_four, four_of}, Blocks.digest_whole}}
use Rattle.spl_sha256_lanes.proofs.digests.Goals as goal

pub loop-n-init : goal.loop-n-init
unfolding hash_after
loop-n-init c = record { hashed = λ j low. c.start-state.ensures j low; sized = λ none. absurd (omega (arith, none)) }

pub loop-n-preserved : goal.loop-n-preserved
loop-n-preserved c =
    let n = c.loop-n.n in
    let blocks : List (List ℕ) = c.of.result ∷ c.of-in-loop-n.result ∷ c.of-in-loop-n-2.result ∷ c.of-in-loop-n-3.result ∷ [] in
    let block = below_four (λ j. slice_index_or blocks j [] ≡ take 64 (drop (n * 64) (padded_message (c.args.first ∷ slice_index_or c.args.rest.now j []))))
    c.of.ensures.block c.of-in-loop-n.ensures.block c.of-in-loop-n-2.ensures.block c.of-in-loop-n-3.ensures.block in
    record {
      hashed = λ j low.
          let message = padded_message (c.args.first ∷ slice_index_or c.args.rest.now j []) in
          c.compress.ensures j low
          ∙ ap (compress (lane j c.loop-n.state)) (block j low)
          ∙ ap (λ h. compress h (take 64 (drop (n * 64) message))) (c.loop-n.invariant.hashed j low)
          ∙ sym (hash_after_next initial_hash_256 message n);
      sized = λ some. below_four (λ j. length (slice_index_or c.args.rest.now j []) ≡ 512)
          c.of.ensures.sized c.of-in-loop-n.ensures.sized c.of-in-loop-n-2.ensures.sized c.of-in-loop-n-3.ensures.sized;
    }

pub returns : goal.returns
returns c =
    let done : c.loop-n.n ≡ 9 = omega (arith, c.loop-n.auto.n-end, c.loop-n-test.false) in
    let whole : (j : ℕ) → j < 4 → digest_bytes (lane j c.loop-n.state) 8 ≡ sha256 (c.args.first ∷ slice_index_or c.args.rest.now j []) =
    λ j low. digest_whole c.args.first _ _ (c.loop-n.invariant.sized (omega (arith, done)) j low) (rw done at (c.loop-n.invariant.hashed j low)) in
    let first = c.digest_of.ensures ∙ whole 0 (omega arith) in
    let second = c.digest_of-2.ensures ∙ whole 1 (omega arith) in
    let third = c.digest_of-3.ensures ∙ whole 2 (omega arith) in
    let fourth = c.digest_of-4.ensures ∙ whole 3 (omega arith) in
    (λ i. first i ∷ second i ∷ third i ∷ fourth i ∷ [])
    ∙ ap (map (λ bytes. sha256 (c.args.first ∷ bytes))) (sym (four_of c.args.rest.now c.told-rest))
