use Rattle.std.{specs.Int.{w32, to_be_bytes}, proofs.{Common.{rules, ◌≡◌, arith, refl, sym, ap, ◌∙◌}, lemmas.{List.take_all, Slice.overwrites}}}
use Rattle.sha2.{specs.Sha256.digest_bytes, proofs.Absorbing256.digest_more}
use Rattle.spl_sha256_lanes.{specs.Lanes.lane, proofs.Lanes.lane_at}
use Rattle.spl_sha256_lanes.proofs.block.digest_of.Goals as goal

pub words-init : goal.words-init
unfolding digest_bytes
words-init c = record { sized = refl; made = refl }

pub words-preserved : goal.words-preserved
words-preserved c = record {
  sized = search (rules, overwrites);
  made = digest_more c.words.out (lane c.args.j c.args.state.now) _ c.words.i _ c.words.invariant.made (omega (arith, c.words.invariant.sized))
      (c.copy_from_slice.ensures.after ∙ c.to_be_bytes.ensures ∙ ap (to_be_bytes w32) (sym (lane_at c.args.j c.args.state.now c.words.i)));
}

pub returns : goal.returns
returns c =
    let done : c.words.i ≡ 8 = omega (arith, c.words.auto.i-end) in
    sym (take_all 32 c.words.out (omega (arith, c.words.invariant.sized))) ∙ rw done at c.words.invariant.made
