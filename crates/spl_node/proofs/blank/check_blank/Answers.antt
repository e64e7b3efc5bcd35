use Rattle.std.proofs.Common.{◌≡◌, ℕ, List, rules, subst, ◌∙◌, arith}
use Rattle.spl_edge.specs.Devices.{bench}
use Rattle.spl_node.{specs.{Benches.{Images, RoseAt, images_at, images}, Blank.AreEmpty}, proofs.{Benches.{all_then, rose_after}, Holding.as_many}}
use Rattle.spl_node.proofs.Holding.{one_more, spares}
use Rattle.spl_node.proofs.blank.check_blank.Goals as goal

pub are_empty_at-requires : goal.are_empty_at-requires
are_empty_at-requires g c =
    record {
      room = omega (
        arith,
        as_many g.E.Disk.view c.slots.pairs.items c.args.pairs.now.items c.slots.invariant.same,
        c.slots-test.true,
        c.requires.room,
      );
    }

pub returns-in-Ok-false-clause-onward : goal.returns-in-Ok-false-clause-onward
returns-in-Ok-false-clause-onward g c = all_then _ _ _ c.slots.invariant.onward c.are_empty_at.ensures.onward

pub returns-in-Err-Failed-clause-failed : goal.returns-in-Err-Failed-clause-failed
returns-in-Err-Failed-clause-failed g c = λ slot is.
    let same : c.slots.slot ≡ slot = cc in
    let rose = c.in-Err-Failed.ensures.failed (search rules) in (
      omega (arith, same, c.slots-test.true),
      subst (λ (k : ℕ). RoseAt k (bench g.E.Disk.view c.args.pairs.now.items) (bench g.E.Disk.view c.are_empty_at.new.pairs.items)) same
          (rose_after c.slots.slot _ _ _ c.slots.invariant.onward rose),
    )

pub returns-in-Err-Failed-clause-onward : goal.returns-in-Err-Failed-clause-onward
returns-in-Err-Failed-clause-onward g c = all_then _ _ _ c.slots.invariant.onward c.are_empty_at.ensures.onward

pub returns-in-Err-NoMemory-clause-onward : goal.returns-in-Err-NoMemory-clause-onward
returns-in-Err-NoMemory-clause-onward g c = all_then _ _ _ c.slots.invariant.onward c.are_empty_at.ensures.onward

pub slots-preserved : goal.slots-preserved
slots-preserved g c = record {
  same = c.are_empty_at.ensures.same ∙ c.slots.invariant.same;
  empty =
      let here = c.in-Ok-true.ensures.empty (search rules) in
      one_more c.slots.slot (images g.E.Disk.view c.args.pairs.now.items) c.slots.invariant.empty
      (subst (λ (is : List Images). AreEmpty (images_at is c.slots.slot)) c.slots.invariant.same here);
  onward = all_then _ _ _ c.slots.invariant.onward c.are_empty_at.ensures.onward;
  spared = λ k past. spares (bench g.E.Disk.view c.args.pairs.now.items) (bench g.E.Disk.view c.slots.pairs.items)
      (bench g.E.Disk.view c.are_empty_at.new.pairs.items) c.slots.slot c.args.count c.slots-test.true c.are_empty_at.ensures.others
      c.slots.invariant.spared k past;
}

pub returns-in-Ok-false-clause-spared : goal.returns-in-Ok-false-clause-spared
returns-in-Ok-false-clause-spared g c =
    λ k past. spares (bench g.E.Disk.view c.args.pairs.now.items) (bench g.E.Disk.view c.slots.pairs.items)
    (bench g.E.Disk.view c.are_empty_at.new.pairs.items) c.slots.slot c.args.count c.slots-test.true c.are_empty_at.ensures.others c.slots.invariant.spared
    k past

pub returns-in-Err-Failed-clause-spared : goal.returns-in-Err-Failed-clause-spared
returns-in-Err-Failed-clause-spared g c =
    λ k past. spares (bench g.E.Disk.view c.args.pairs.now.items) (bench g.E.Disk.view c.slots.pairs.items)
    (bench g.E.Disk.view c.are_empty_at.new.pairs.items) c.slots.slot c.args.count c.slots-test.true c.are_empty_at.ensures.others c.slots.invariant.spared
    k past

pub returns-in-Err-NoMemory-clause-spared : goal.returns-in-Err-NoMemory-clause-spared
returns-in-Err-NoMemory-clause-spared g c =
    λ k past. spares (bench g.E.Disk.view c.args.pairs.now.items) (bench g.E.Disk.view c.slots.pairs.items)
    (bench g.E.Disk.view c.are_empty_at.new.pairs.items) c.slots.slot c.args.count c.slots-test.true c.are_empty_at.ensures.others c.slots.invariant.spared
    k past
