use Rattle.std.{specs.Prelude.{slice_get, slice_set, Some}, proofs.Common.{◌≡◌, ℕ, ◌+◌, ◌<◌, Err, List, length, refl, sym, ◌∙◌, ap, subst, arith}}
use Rattle.std.proofs.lemmas.Option.{slice_get_read}
use Rattle.spl_edge.specs.Devices.{bench, pair_view}
use Rattle.spl_paxos_run.specs.{Places.{process_count, name_at}, Wholes.ChangesFirst, declared.fault.PaxosFault.{PaxosFault, TheVariants.NoMemory}}
use Rattle.spl_paxos_run.{specs.declared.seat.Seat.Seat, proofs.{Benches.{bench_here, bench_length, first_changes, set_after, with_first}, Begun.AreBegun}}
use Rattle.spl_paxos_run.proofs.Begun.{begun_none, begun_more, begun_all, picked_since, unmade_at, spared_at}
use Rattle.spl_paxos_run.proofs.world.PaxosWorld.new.Goals as goal

pub places-init : goal.places-init
places-init g c = record {
  few = omega arith;
  begun = begun_none c.args.group c.new-seats.result.items (bench g.D.Disk.view c.args.pairs.now.items) c.new-seats.ensures.items;
}

pub seat_at-requires-clause-blank : goal.seat_at-requires-clause-blank
seat_at-requires-clause-blank g c =
    let view = g.D.Disk.view in
    let k = c.places.place in
    let ps = c.places.pairs.items in
    let low : k < process_count c.args.group = omega (arith, c.places-test.true, c.process_count-place-end.ensures) in
    let below : c.from.result < length ps =
    omega (arith, c.from.ensures, low, c.places.invariant.begun.room, bench_length view ps, bench_length view c.args.pairs.now.items, c.requires.room) in
    let there = slice_get_read ps (length ps) c.from.result c.index_mut.result.now refl below c.index_mut.ensures.value in
    let old : slice_get (bench view c.args.pairs.now.items) k ≡ Some (pair_view view c.index_mut.result.now) =
    sym (c.places.invariant.begun.past k (omega arith)) ∙ ap (slice_get (bench view ps)) (sym c.from.ensures)
    ∙ bench_here view ps c.from.result c.index_mut.result.now there in
    (c.requires.fresh k (pair_view view c.index_mut.result.now) low old).blank

pub places-preserved : goal.places-preserved
places-preserved g c =
    let view = g.D.Disk.view in
    let run = c.args.group in
    let k = c.places.place in
    let ps = c.places.pairs.items in
    let old = bench view c.args.pairs.now.items in
    let begun = c.places.invariant.begun in
    let low : k < process_count run = omega (arith, c.places-test.true, c.process_count-place-end.ensures) in
    let below : c.from.result < length ps =
    omega (arith, c.from.ensures, low, begun.room, bench_length view ps, bench_length view c.args.pairs.now.items, c.requires.room) in
    let there = slice_get_read ps (length ps) c.from.result c.index_mut.result.now refl below c.index_mut.ensures.value in
    let p = c.index_mut.result.now in
    let q = with_first p c.seat_at.new.disk in
    let at : slice_get (bench view ps) k ≡ Some (pair_view view p) =
    ap (slice_get (bench view ps)) (sym c.from.ensures) ∙ bench_here view ps c.from.result p there in
    let new = bench view (slice_set ps c.from.result q) in
    let after : slice_get new k ≡ Some (pair_view view q) = ap (slice_get new) (sym c.from.ensures) ∙ set_after view ps c.from.result p q there below refl in
    let changes = subst (λ (z : ℕ). ChangesFirst z (bench view ps) new) c.from.ensures (first_changes view ps c.from.result p q there below refl) in
    let s = c.in-Ok.seat in
    let name : s.name ≡ name_at run k = c.in-Ok.ensures.name ∙ c.name_at-name.ensures.name in
    record {
      few = omega (arith, low);
      begun = subst (λ (l : List Seat). AreBegun run (k + 1) l old new) (sym c.in-Ok-join.ensures)
          (begun_more run k c.places.seats.items old (bench view ps) new begun (pair_view view p)
          (pair_view view q) at after changes c.seat_at.ensures.onward s low name c.in-Ok.ensures.stands);
    }

pub returns-clause-stands : goal.returns-clause-stands
returns-clause-stands g c =
    let run = c.args.group in
    let old = bench g.D.Disk.view c.args.pairs.now.items in
    let new = bench g.D.Disk.view c.places.pairs.items in
    let begun = c.places.invariant.begun in
    let few = c.places.invariant.few in
    let whole : c.places.place ≡ process_count run = omega (arith, few, c.places-test.false, c.process_count-place-end.ensures) in
    record {
      seats = begun_all run c.places.place c.places.seats.items old new begun whole
          (omega (arith, c.requires.room, bench_length g.D.Disk.view c.args.pairs.now.items));
      sent = c.new.ensures;
    }

pub returns-clause-picked : goal.returns-clause-picked
returns-clause-picked g c =
    picked_since c.args.group (bench g.D.Disk.view c.args.pairs.now.items)
    (bench g.D.Disk.view c.places.pairs.items) c.requires.fresh c.places.invariant.begun.onward

pub returns-in-Err-clause-unmade : goal.returns-in-Err-clause-unmade
returns-in-Err-clause-unmade g c =
    let view = g.D.Disk.view in
    let run = c.args.group in
    let k = c.places.place in
    let ps = c.places.pairs.items in
    let old = bench view c.args.pairs.now.items in
    let begun = c.places.invariant.begun in
    let low : k < process_count run = omega (arith, c.places-test.true, c.process_count-place-end.ensures) in
    let below : c.from.result < length ps =
    omega (arith, c.from.ensures, low, begun.room, bench_length view ps, bench_length view c.args.pairs.now.items, c.requires.room) in
    let there = slice_get_read ps (length ps) c.from.result c.index_mut.result.now refl below c.index_mut.ensures.value in
    let p = c.index_mut.result.now in
    let q = with_first p c.seat_at.new.disk in
    let at : slice_get (bench view ps) k ≡ Some (pair_view view p) =
    ap (slice_get (bench view ps)) (sym c.from.ensures) ∙ bench_here view ps c.from.result p there in
    let new = bench view (slice_set ps c.from.result q) in
    let after : slice_get new k ≡ Some (pair_view view q) = ap (slice_get new) (sym c.from.ensures) ∙ set_after view ps c.from.result p q there below refl in
    let changes = subst (λ (z : ℕ). ChangesFirst z (bench view ps) new) c.from.ensures (first_changes view ps c.from.result p q there below refl) in
    unmade_at run k c.places.seats.items old (bench view ps) new begun (pair_view view p)
    (pair_view view q) at after changes c.seat_at.ensures.onward c.requires.fresh low c.in-Err.fault
    (λ n same. (let found = c.seat_at.ensures.failed n (c.in-Err.is ∙ ap (λ (z : PaxosFault). Err z) same) in (found.0 ∙ c.name_at-name.ensures.name, found.1)))

pub returns-in-Err-clause-spared : goal.returns-in-Err-clause-spared
returns-in-Err-clause-spared g c =
    let view = g.D.Disk.view in
    let run = c.args.group in
    let k = c.places.place in
    let ps = c.places.pairs.items in
    let old = bench view c.args.pairs.now.items in
    let begun = c.places.invariant.begun in
    let low : k < process_count run = omega (arith, c.places-test.true, c.process_count-place-end.ensures) in
    let below : c.from.result < length ps =
    omega (arith, c.from.ensures, low, begun.room, bench_length view ps, bench_length view c.args.pairs.now.items, c.requires.room) in
    let there = slice_get_read ps (length ps) c.from.result c.index_mut.result.now refl below c.index_mut.ensures.value in
    let p = c.index_mut.result.now in
    let q = with_first p c.seat_at.new.disk in
    let at : slice_get (bench view ps) k ≡ Some (pair_view view p) =
    ap (slice_get (bench view ps)) (sym c.from.ensures) ∙ bench_here view ps c.from.result p there in
    let new = bench view (slice_set ps c.from.result q) in
    let after : slice_get new k ≡ Some (pair_view view q) = ap (slice_get new) (sym c.from.ensures) ∙ set_after view ps c.from.result p q there below refl in
    let changes = subst (λ (z : ℕ). ChangesFirst z (bench view ps) new) c.from.ensures (first_changes view ps c.from.result p q there below refl) in
    spared_at run k c.places.seats.items old (bench view ps) new begun (pair_view view p) (pair_view view q) at after changes c.seat_at.ensures.onward low

pub returns-in-Err-join-clause-unmade : goal.returns-in-Err-join-clause-unmade
returns-in-Err-join-clause-unmade g c =
    let view = g.D.Disk.view in
    let run = c.args.group in
    let k = c.places.place in
    let ps = c.places.pairs.items in
    let old = bench view c.args.pairs.now.items in
    let begun = c.places.invariant.begun in
    let low : k < process_count run = omega (arith, c.places-test.true, c.process_count-place-end.ensures) in
    let below : c.from.result < length ps =
    omega (arith, c.from.ensures, low, begun.room, bench_length view ps, bench_length view c.args.pairs.now.items, c.requires.room) in
    let there = slice_get_read ps (length ps) c.from.result c.index_mut.result.now refl below c.index_mut.ensures.value in
    let p = c.index_mut.result.now in
    let q = with_first p c.seat_at.new.disk in
    let at : slice_get (bench view ps) k ≡ Some (pair_view view p) =
    ap (slice_get (bench view ps)) (sym c.from.ensures) ∙ bench_here view ps c.from.result p there in
    let new = bench view (slice_set ps c.from.result q) in
    let after : slice_get new k ≡ Some (pair_view view q) = ap (slice_get new) (sym c.from.ensures) ∙ set_after view ps c.from.result p q there below refl in
    let changes = subst (λ (z : ℕ). ChangesFirst z (bench view ps) new) c.from.ensures (first_changes view ps c.from.result p q there below refl) in
    unmade_at run k c.places.seats.items old (bench view ps) new begun (pair_view view p)
    (pair_view view q) at after changes c.seat_at.ensures.onward c.requires.fresh low NoMemory
    (λ n same. absurd cc)

pub returns-in-Err-join-clause-spared : goal.returns-in-Err-join-clause-spared
returns-in-Err-join-clause-spared g c =
    let view = g.D.Disk.view in
    let run = c.args.group in
    let k = c.places.place in
    let ps = c.places.pairs.items in
    let old = bench view c.args.pairs.now.items in
    let begun = c.places.invariant.begun in
    let low : k < process_count run = omega (arith, c.places-test.true, c.process_count-place-end.ensures) in
    let below : c.from.result < length ps =
    omega (arith, c.from.ensures, low, begun.room, bench_length view ps, bench_length view c.args.pairs.now.items, c.requires.room) in
    let there = slice_get_read ps (length ps) c.from.result c.index_mut.result.now refl below c.index_mut.ensures.value in
    let p = c.index_mut.result.now in
    let q = with_first p c.seat_at.new.disk in
    let at : slice_get (bench view ps) k ≡ Some (pair_view view p) =
    ap (slice_get (bench view ps)) (sym c.from.ensures) ∙ bench_here view ps c.from.result p there in
    let new = bench view (slice_set ps c.from.result q) in
    let after : slice_get new k ≡ Some (pair_view view q) = ap (slice_get new) (sym c.from.ensures) ∙ set_after view ps c.from.result p q there below refl in
    let changes = subst (λ (z : ℕ). ChangesFirst z (bench view ps) new) c.from.ensures (first_changes view ps c.from.result p q there below refl) in
    spared_at run k c.places.seats.items old (bench view ps) new begun (pair_view view p) (pair_view view q) at after changes c.seat_at.ensures.onward low
