use Rattle.std.proofs.Common.{◌∷◌, ◌∙◌, List, [], length, length-append, ap, sym, subst, arith}
use Rattle.spl_edge.specs.declared.bench.Pair.{Pair}
use Rattle.spl_memory.{specs.{Benches.FirstFails, declared.mem_disk.MemDisk.MemDisk}, proofs.Blanks.{AllBlank, pair_blank, blank_more, first_more, first_one}}
use Rattle.spl_memory.proofs.Blanks.{pair_unpicked, told, unpicked_more}
use Rattle.spl_memory.proofs.bench.failing_bench.Goals as goal
use Rattle.spl_node.specs.Benches.{AllUnpicked}

pub pairs-init : goal.pairs-init
pairs-init c =
    let p = c.blank_pair.result in
    let one = c.in_ok-join.ensures in
    record {
      some = omega (arith, ap length one, length-append c.new-pairs.result.items (p ∷ []));
      few = omega (arith, ap length one, length-append c.new-pairs.result.items (p ∷ []), ap length c.new-pairs.ensures.items);
      blank = subst AllBlank (sym one)
          (blank_more c.new-pairs.result.items p (subst AllBlank (sym c.new-pairs.ensures.items) (λ i lt. absurd (omega (arith, lt))))
          (pair_blank p c.blank_pair.ensures.first c.blank_pair.ensures.second));
      unpicked =
          subst (λ (ps : List (Pair MemDisk)). AllUnpicked (told ps)) (sym one)
          (unpicked_more c.new-pairs.result.items p
          (subst (λ (ps : List (Pair MemDisk)). AllUnpicked (told ps)) (sym c.new-pairs.ensures.items) (λ i q e. absurd cc))
          (pair_unpicked p c.blank_pair.ensures.first c.blank_pair.ensures.second));
      calls = subst (FirstFails c.args.failing.items) (sym one)
          (first_one c.args.failing.items c.new-pairs.result.items p c.new-pairs.ensures.items c.blank_pair.ensures.first_calls
          c.blank_pair.ensures.second_calls);
    }

pub pairs-preserved : goal.pairs-preserved
pairs-preserved c =
    let p = c.blank_pair-in-pairs.result in
    let one = c.in_ok-join-2.ensures in
    record {
      some = omega (arith, ap length one, length-append c.pairs.pairs.items (p ∷ []));
      few = omega (arith, c.pairs-test.true, c.len.ensures, ap length one, length-append c.pairs.pairs.items (p ∷ []));
      blank = subst AllBlank (sym one)
          (blank_more c.pairs.pairs.items p c.pairs.invariant.blank (pair_blank p c.blank_pair-in-pairs.ensures.first c.blank_pair-in-pairs.ensures.second));
      unpicked =
          subst (λ (ps : List (Pair MemDisk)). AllUnpicked (told ps)) (sym one)
          (unpicked_more c.pairs.pairs.items p c.pairs.invariant.unpicked
          (pair_unpicked p c.blank_pair-in-pairs.ensures.first c.blank_pair-in-pairs.ensures.second));
      calls = subst (FirstFails c.args.failing.items) (sym one)
          (first_more c.args.failing.items c.pairs.pairs.items p c.pairs.invariant.some c.pairs.invariant.calls
          (record { first = c.blank_pair-in-pairs.ensures.first_calls ∙ c.new.ensures.items; second = c.blank_pair-in-pairs.ensures.second_calls }));
    }
