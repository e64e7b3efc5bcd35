use Rattle.std.proofs.Common.{◌<◌, length, arith, below_more}
use Rattle.spl_audit.proofs.Beside.{no_difference, a_difference, difference_within, not_before}
use Rattle.spl_audit.proofs.lists.first_difference.Goals as goal

pub returns-then-not-same : goal.returns-then-not-same
returns-then-not-same g c =
    let xs = c.args.ours.now in
    let ys = c.args.theirs.now in
    let m : c.places.place < length xs = omega (arith, c.places-test.true, c.min-both.ensures) in
    let n : c.places.place < length ys = omega (arith, c.places-test.true, c.min-both.ensures) in (
      a_difference xs ys c.places.place c.index-ours-place.result c.index-theirs-place.result m n c.index-ours-place.is c.index-theirs-place.is
          (λ e. let t = c.same.ensures.1 e in cc),
      λ k d. not_before c.places.place k (λ h. c.places.invariant k h d),
    )

pub places-preserved : goal.places-preserved
places-preserved g c =
    let xs = c.args.ours.now in
    let ys = c.args.theirs.now in
    let m : c.places.place < length xs = omega (arith, c.places-test.true, c.min-both.ensures) in
    let n : c.places.place < length ys = omega (arith, c.places-test.true, c.min-both.ensures) in
    below_more _ _ c.places.invariant
    (no_difference xs ys c.places.place c.index-ours-place.result c.index-theirs-place.result m n c.index-ours-place.is c.index-theirs-place.is
    (c.same.ensures.0 c.if-not-same.false))

pub returns : goal.returns
returns g c = λ k d.
    let h = difference_within c.args.ours.now c.args.theirs.now k d in
    c.places.invariant k (omega (arith, h, c.places-test.false, c.min-both.ensures)) d
