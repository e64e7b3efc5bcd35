use Rattle.std.{specs.Option.option_map, proofs.Common.{◌≡◌, ◌∙◌, ◌<◌, ◌+◌, ℕ, List, [], ◌∷◌, length, IsTrue, ap, sym, refl, arith}}
use Rattle.spl_edge.specs.Devices.{after_write, after_sync, PartOfWrite, fails_at, fails_now, image_now}
use Rattle.spl_journal.{specs.Gate.{LeavesSince, IsAfterGate, opened}, proofs.Gates.{bytes_of, of_told, started, goes_on, here_0, here_1, here_2, here_3}}
use Rattle.spl_journal.proofs.Gates.{here_4, then_1, then_2, then_3, then_4, opened_0, by_calls, passed_more}
use Rattle.spl_journal.proofs.gate.open_gate.Goals as goal

pub returns-in-Err-clause-any_moment : goal.returns-in-Err-clause-any_moment
returns-in-Err-clause-any_moment g c =
    let l0 = started (g.D.Disk.view c.args.disk.now).image_at (g.D.Disk.view c.args.disk.now).moment
    (IsAfterGate c.args.gate c.args.piece.now (bytes_of (image_now (g.D.Disk.view c.args.disk.now))))
    (here_0 c.args.gate c.args.piece.now (image_now (g.D.Disk.view c.args.disk.now)) c.requires.ready) in
    let l1 = goes_on (g.D.Disk.view c.args.disk.now).image_at (g.D.Disk.view c.write_at.new.self).image_at (g.D.Disk.view c.args.disk.now).moment
    (g.D.Disk.view c.args.disk.now).moment (g.D.Disk.view c.write_at.new.self).moment
    (IsAfterGate c.args.gate c.args.piece.now
    (bytes_of (image_now (g.D.Disk.view c.args.disk.now)))) l0 c.write_at.ensures.past c.write_at.ensures.call.any_tick
    (here_1 c.args.gate c.args.piece.now (image_now (g.D.Disk.view c.args.disk.now)) c.requires.ready
    (fails_now (g.D.Disk.view c.args.disk.now)) c.write_at.result (image_now (g.D.Disk.view c.args.disk.now))
    (image_now (g.D.Disk.view c.write_at.new.self)) c.write_at.ensures.change refl) in
    of_told (image_now (g.D.Disk.view c.args.disk.now))
    (λ (b : List ℕ). LeavesSince (g.D.Disk.view c.args.disk.now) (g.D.Disk.view c.write_at.new.self) (IsAfterGate c.args.gate c.args.piece.now b)) l1

pub returns-in-Err-clause-by_calls : goal.returns-in-Err-clause-by_calls
returns-in-Err-clause-by_calls g c =
    let p0 : (j : ℕ) → j < 0 → IsTrue (fails_at (g.D.Disk.view c.args.disk.now).armed ((g.D.Disk.view c.args.disk.now).moment + j)) → ⊥ =
    λ j lt due. absurd (omega (arith, lt)) in
    by_calls 4 (g.D.Disk.view c.args.disk.now) (g.D.Disk.view c.args.disk.now) (g.D.Disk.view c.write_at.new.self) 0 (opened c.args.gate c.args.piece.now)
    (after_write (c.args.gate + 1) c.args.piece.now) (PartOfWrite (c.args.gate + 1) (length c.args.piece.now)) c.in-Err.fault (omega arith)
    (omega arith) (opened_0 c.args.gate c.args.piece.now
    (image_now (g.D.Disk.view c.args.disk.now))) refl p0 c.write_at.ensures.past c.in-Err.ensures.call c.in-Err.ensures.change

pub returns-in-Err-sync-clause-any_moment : goal.returns-in-Err-sync-clause-any_moment
returns-in-Err-sync-clause-any_moment g c =
    let is_1 : (image_now (g.D.Disk.view c.write_at.new.self))
    ≡ option_map (opened c.args.gate c.args.piece.now 1) (image_now (g.D.Disk.view c.args.disk.now)) = then_1 c.args.gate c.args.piece.now
    (image_now (g.D.Disk.view c.args.disk.now)) (image_now (g.D.Disk.view c.write_at.new.self)) c.in_default.ensures.change.done in
    let l0 = started (g.D.Disk.view c.args.disk.now).image_at (g.D.Disk.view c.args.disk.now).moment
    (IsAfterGate c.args.gate c.args.piece.now (bytes_of (image_now (g.D.Disk.view c.args.disk.now))))
    (here_0 c.args.gate c.args.piece.now (image_now (g.D.Disk.view c.args.disk.now)) c.requires.ready) in
    let l1 = goes_on (g.D.Disk.view c.args.disk.now).image_at (g.D.Disk.view c.write_at.new.self).image_at (g.D.Disk.view c.args.disk.now).moment
    (g.D.Disk.view c.args.disk.now).moment (g.D.Disk.view c.write_at.new.self).moment
    (IsAfterGate c.args.gate c.args.piece.now
    (bytes_of (image_now (g.D.Disk.view c.args.disk.now)))) l0 c.write_at.ensures.past c.write_at.ensures.call.any_tick
    (here_1 c.args.gate c.args.piece.now (image_now (g.D.Disk.view c.args.disk.now)) c.requires.ready
    (fails_now (g.D.Disk.view c.args.disk.now)) c.write_at.result (image_now (g.D.Disk.view c.args.disk.now))
    (image_now (g.D.Disk.view c.write_at.new.self)) c.write_at.ensures.change refl) in
    let l2 = goes_on (g.D.Disk.view c.write_at.new.self).image_at (g.D.Disk.view c.sync.new.self).image_at (g.D.Disk.view c.args.disk.now).moment
    (g.D.Disk.view c.write_at.new.self).moment (g.D.Disk.view c.sync.new.self).moment
    (IsAfterGate c.args.gate c.args.piece.now
    (bytes_of (image_now (g.D.Disk.view c.args.disk.now)))) l1 c.sync.ensures.past c.sync.ensures.call.any_tick
    (here_2 c.args.gate c.args.piece.now (image_now (g.D.Disk.view c.args.disk.now)) c.requires.ready
    (fails_now (g.D.Disk.view c.write_at.new.self)) c.sync.result (image_now (g.D.Disk.view c.write_at.new.self))
    (image_now (g.D.Disk.view c.sync.new.self)) c.sync.ensures.change is_1) in
    of_told (image_now (g.D.Disk.view c.args.disk.now))
    (λ (b : List ℕ). LeavesSince (g.D.Disk.view c.args.disk.now) (g.D.Disk.view c.sync.new.self) (IsAfterGate c.args.gate c.args.piece.now b)) l2

pub returns-in-Err-sync-clause-by_calls : goal.returns-in-Err-sync-clause-by_calls
returns-in-Err-sync-clause-by_calls g c =
    let is_1 : (image_now (g.D.Disk.view c.write_at.new.self))
    ≡ option_map (opened c.args.gate c.args.piece.now 1) (image_now (g.D.Disk.view c.args.disk.now)) = then_1 c.args.gate c.args.piece.now
    (image_now (g.D.Disk.view c.args.disk.now)) (image_now (g.D.Disk.view c.write_at.new.self)) c.in_default.ensures.change.done in
    let p0 : (j : ℕ) → j < 0 → IsTrue (fails_at (g.D.Disk.view c.args.disk.now).armed ((g.D.Disk.view c.args.disk.now).moment + j)) → ⊥ =
    λ j lt due. absurd (omega (arith, lt)) in
    let here_1 : (g.D.Disk.view c.write_at.new.self).moment ≡ (g.D.Disk.view c.args.disk.now).moment + 1 = omega (arith, c.in_default.ensures.call.tick) in
    let p1 = passed_more (g.D.Disk.view c.args.disk.now) (g.D.Disk.view c.args.disk.now) (g.D.Disk.view c.write_at.new.self) 0 c.in_default.field-0
    (omega arith) (refl) c.in_default.ensures.call p0 in
    let arm_1 : (g.D.Disk.view c.write_at.new.self).armed ≡ (g.D.Disk.view c.args.disk.now).armed = c.write_at.ensures.armed in
    by_calls 4 (g.D.Disk.view c.args.disk.now) (g.D.Disk.view c.write_at.new.self) (g.D.Disk.view c.sync.new.self) 1
    (opened c.args.gate c.args.piece.now) after_sync (λ i j. ⊥) c.in-Err-sync.fault here_1
    (omega arith) is_1 arm_1 p1 c.sync.ensures.past c.in-Err-sync.ensures.call c.in-Err-sync.ensures.change

pub returns-in-Err-write_at-clause-any_moment : goal.returns-in-Err-write_at-clause-any_moment
returns-in-Err-write_at-clause-any_moment g c =
    let is_1 : (image_now (g.D.Disk.view c.write_at.new.self))
    ≡ option_map (opened c.args.gate c.args.piece.now 1) (image_now (g.D.Disk.view c.args.disk.now)) = then_1 c.args.gate c.args.piece.now
    (image_now (g.D.Disk.view c.args.disk.now)) (image_now (g.D.Disk.view c.write_at.new.self)) c.in_default.ensures.change.done in
    let is_2 : (image_now (g.D.Disk.view c.sync.new.self))
    ≡ option_map (opened c.args.gate c.args.piece.now 2) (image_now (g.D.Disk.view c.args.disk.now)) = then_2 c.args.gate c.args.piece.now
    (image_now (g.D.Disk.view c.args.disk.now)) (image_now (g.D.Disk.view c.write_at.new.self))
    (image_now (g.D.Disk.view c.sync.new.self)) c.in_default-sync.ensures.change.done is_1 in
    let l0 = started (g.D.Disk.view c.args.disk.now).image_at (g.D.Disk.view c.args.disk.now).moment
    (IsAfterGate c.args.gate c.args.piece.now (bytes_of (image_now (g.D.Disk.view c.args.disk.now))))
    (here_0 c.args.gate c.args.piece.now (image_now (g.D.Disk.view c.args.disk.now)) c.requires.ready) in
    let l1 = goes_on (g.D.Disk.view c.args.disk.now).image_at (g.D.Disk.view c.write_at.new.self).image_at (g.D.Disk.view c.args.disk.now).moment
    (g.D.Disk.view c.args.disk.now).moment (g.D.Disk.view c.write_at.new.self).moment
    (IsAfterGate c.args.gate c.args.piece.now
    (bytes_of (image_now (g.D.Disk.view c.args.disk.now)))) l0 c.write_at.ensures.past c.write_at.ensures.call.any_tick
    (here_1 c.args.gate c.args.piece.now (image_now (g.D.Disk.view c.args.disk.now)) c.requires.ready
    (fails_now (g.D.Disk.view c.args.disk.now)) c.write_at.result (image_now (g.D.Disk.view c.args.disk.now))
    (image_now (g.D.Disk.view c.write_at.new.self)) c.write_at.ensures.change refl) in
    let l2 = goes_on (g.D.Disk.view c.write_at.new.self).image_at (g.D.Disk.view c.sync.new.self).image_at (g.D.Disk.view c.args.disk.now).moment
    (g.D.Disk.view c.write_at.new.self).moment (g.D.Disk.view c.sync.new.self).moment
    (IsAfterGate c.args.gate c.args.piece.now
    (bytes_of (image_now (g.D.Disk.view c.args.disk.now)))) l1 c.sync.ensures.past c.sync.ensures.call.any_tick
    (here_2 c.args.gate c.args.piece.now (image_now (g.D.Disk.view c.args.disk.now)) c.requires.ready
    (fails_now (g.D.Disk.view c.write_at.new.self)) c.sync.result (image_now (g.D.Disk.view c.write_at.new.self))
    (image_now (g.D.Disk.view c.sync.new.self)) c.sync.ensures.change is_1) in
    let l3 = goes_on (g.D.Disk.view c.sync.new.self).image_at (g.D.Disk.view c.write_at-2.new.self).image_at (g.D.Disk.view c.args.disk.now).moment
    (g.D.Disk.view c.sync.new.self).moment (g.D.Disk.view c.write_at-2.new.self).moment
    (IsAfterGate c.args.gate c.args.piece.now
    (bytes_of (image_now (g.D.Disk.view c.args.disk.now)))) l2 c.write_at-2.ensures.past c.write_at-2.ensures.call.any_tick
    (here_3 c.args.gate c.args.piece.now (image_now (g.D.Disk.view c.args.disk.now)) c.requires.ready
    (fails_now (g.D.Disk.view c.sync.new.self)) c.write_at-2.result (image_now (g.D.Disk.view c.sync.new.self))
    (image_now (g.D.Disk.view c.write_at-2.new.self)) c.write_at-2.ensures.change is_2) in
    of_told (image_now (g.D.Disk.view c.args.disk.now))
    (λ (b : List ℕ). LeavesSince (g.D.Disk.view c.args.disk.now) (g.D.Disk.view c.write_at-2.new.self) (IsAfterGate c.args.gate c.args.piece.now b)) l3

pub returns-in-Err-write_at-clause-by_calls : goal.returns-in-Err-write_at-clause-by_calls
returns-in-Err-write_at-clause-by_calls g c =
    let is_1 : (image_now (g.D.Disk.view c.write_at.new.self))
    ≡ option_map (opened c.args.gate c.args.piece.now 1) (image_now (g.D.Disk.view c.args.disk.now)) = then_1 c.args.gate c.args.piece.now
    (image_now (g.D.Disk.view c.args.disk.now)) (image_now (g.D.Disk.view c.write_at.new.self)) c.in_default.ensures.change.done in
    let is_2 : (image_now (g.D.Disk.view c.sync.new.self))
    ≡ option_map (opened c.args.gate c.args.piece.now 2) (image_now (g.D.Disk.view c.args.disk.now)) = then_2 c.args.gate c.args.piece.now
    (image_now (g.D.Disk.view c.args.disk.now)) (image_now (g.D.Disk.view c.write_at.new.self))
    (image_now (g.D.Disk.view c.sync.new.self)) c.in_default-sync.ensures.change.done is_1 in
    let p0 : (j : ℕ) → j < 0 → IsTrue (fails_at (g.D.Disk.view c.args.disk.now).armed ((g.D.Disk.view c.args.disk.now).moment + j)) → ⊥ =
    λ j lt due. absurd (omega (arith, lt)) in
    let here_1 : (g.D.Disk.view c.write_at.new.self).moment ≡ (g.D.Disk.view c.args.disk.now).moment + 1 = omega (arith, c.in_default.ensures.call.tick) in
    let p1 = passed_more (g.D.Disk.view c.args.disk.now) (g.D.Disk.view c.args.disk.now) (g.D.Disk.view c.write_at.new.self) 0 c.in_default.field-0
    (omega arith) (refl) c.in_default.ensures.call p0 in
    let arm_1 : (g.D.Disk.view c.write_at.new.self).armed ≡ (g.D.Disk.view c.args.disk.now).armed = c.write_at.ensures.armed in
    let here_2 : (g.D.Disk.view c.sync.new.self).moment ≡ (g.D.Disk.view c.args.disk.now).moment + 2 =
    omega (arith, c.in_default.ensures.call.tick, c.in_default-sync.ensures.call.tick) in
    let p2 = passed_more (g.D.Disk.view c.args.disk.now) (g.D.Disk.view c.write_at.new.self) (g.D.Disk.view c.sync.new.self) 1 c.in_default-sync.field-0
    (here_1) (arm_1) c.in_default-sync.ensures.call p1 in
    let arm_2 : (g.D.Disk.view c.sync.new.self).armed ≡ (g.D.Disk.view c.args.disk.now).armed = c.sync.ensures.armed ∙ arm_1 in
    by_calls 4 (g.D.Disk.view c.args.disk.now) (g.D.Disk.view c.sync.new.self) (g.D.Disk.view c.write_at-2.new.self) 2
    (opened c.args.gate c.args.piece.now) (after_write c.args.gate (1 ∷ [])) (PartOfWrite c.args.gate 1) c.in-Err-write_at.fault here_2
    (omega arith) is_2 arm_2 p2 c.write_at-2.ensures.past c.in-Err-write_at.ensures.call c.in-Err-write_at.ensures.change

pub returns-in-Err-sync-2-clause-any_moment : goal.returns-in-Err-sync-2-clause-any_moment
returns-in-Err-sync-2-clause-any_moment g c =
    let is_1 : (image_now (g.D.Disk.view c.write_at.new.self))
    ≡ option_map (opened c.args.gate c.args.piece.now 1) (image_now (g.D.Disk.view c.args.disk.now)) = then_1 c.args.gate c.args.piece.now
    (image_now (g.D.Disk.view c.args.disk.now)) (image_now (g.D.Disk.view c.write_at.new.self)) c.in_default.ensures.change.done in
    let is_2 : (image_now (g.D.Disk.view c.sync.new.self))
    ≡ option_map (opened c.args.gate c.args.piece.now 2) (image_now (g.D.Disk.view c.args.disk.now)) = then_2 c.args.gate c.args.piece.now
    (image_now (g.D.Disk.view c.args.disk.now)) (image_now (g.D.Disk.view c.write_at.new.self))
    (image_now (g.D.Disk.view c.sync.new.self)) c.in_default-sync.ensures.change.done is_1 in
    let is_3 : (image_now (g.D.Disk.view c.write_at-2.new.self))
    ≡ option_map (opened c.args.gate c.args.piece.now 3) (image_now (g.D.Disk.view c.args.disk.now)) = then_3 c.args.gate c.args.piece.now
    (image_now (g.D.Disk.view c.args.disk.now)) (image_now (g.D.Disk.view c.sync.new.self))
    (image_now (g.D.Disk.view c.write_at-2.new.self)) c.in_default-write_at.ensures.change.done is_2 in
    let l0 = started (g.D.Disk.view c.args.disk.now).image_at (g.D.Disk.view c.args.disk.now).moment
    (IsAfterGate c.args.gate c.args.piece.now (bytes_of (image_now (g.D.Disk.view c.args.disk.now))))
    (here_0 c.args.gate c.args.piece.now (image_now (g.D.Disk.view c.args.disk.now)) c.requires.ready) in
    let l1 = goes_on (g.D.Disk.view c.args.disk.now).image_at (g.D.Disk.view c.write_at.new.self).image_at (g.D.Disk.view c.args.disk.now).moment
    (g.D.Disk.view c.args.disk.now).moment (g.D.Disk.view c.write_at.new.self).moment
    (IsAfterGate c.args.gate c.args.piece.now
    (bytes_of (image_now (g.D.Disk.view c.args.disk.now)))) l0 c.write_at.ensures.past c.write_at.ensures.call.any_tick
    (here_1 c.args.gate c.args.piece.now (image_now (g.D.Disk.view c.args.disk.now)) c.requires.ready
    (fails_now (g.D.Disk.view c.args.disk.now)) c.write_at.result (image_now (g.D.Disk.view c.args.disk.now))
    (image_now (g.D.Disk.view c.write_at.new.self)) c.write_at.ensures.change refl) in
    let l2 = goes_on (g.D.Disk.view c.write_at.new.self).image_at (g.D.Disk.view c.sync.new.self).image_at (g.D.Disk.view c.args.disk.now).moment
    (g.D.Disk.view c.write_at.new.self).moment (g.D.Disk.view c.sync.new.self).moment
    (IsAfterGate c.args.gate c.args.piece.now
    (bytes_of (image_now (g.D.Disk.view c.args.disk.now)))) l1 c.sync.ensures.past c.sync.ensures.call.any_tick
    (here_2 c.args.gate c.args.piece.now (image_now (g.D.Disk.view c.args.disk.now)) c.requires.ready
    (fails_now (g.D.Disk.view c.write_at.new.self)) c.sync.result (image_now (g.D.Disk.view c.write_at.new.self))
    (image_now (g.D.Disk.view c.sync.new.self)) c.sync.ensures.change is_1) in
    let l3 = goes_on (g.D.Disk.view c.sync.new.self).image_at (g.D.Disk.view c.write_at-2.new.self).image_at (g.D.Disk.view c.args.disk.now).moment
    (g.D.Disk.view c.sync.new.self).moment (g.D.Disk.view c.write_at-2.new.self).moment
    (IsAfterGate c.args.gate c.args.piece.now
    (bytes_of (image_now (g.D.Disk.view c.args.disk.now)))) l2 c.write_at-2.ensures.past c.write_at-2.ensures.call.any_tick
    (here_3 c.args.gate c.args.piece.now (image_now (g.D.Disk.view c.args.disk.now)) c.requires.ready
    (fails_now (g.D.Disk.view c.sync.new.self)) c.write_at-2.result (image_now (g.D.Disk.view c.sync.new.self))
    (image_now (g.D.Disk.view c.write_at-2.new.self)) c.write_at-2.ensures.change is_2) in
    let l4 = goes_on (g.D.Disk.view c.write_at-2.new.self).image_at (g.D.Disk.view c.sync-2.new.self).image_at (g.D.Disk.view c.args.disk.now).moment
    (g.D.Disk.view c.write_at-2.new.self).moment (g.D.Disk.view c.sync-2.new.self).moment
    (IsAfterGate c.args.gate c.args.piece.now
    (bytes_of (image_now (g.D.Disk.view c.args.disk.now)))) l3 c.sync-2.ensures.past c.sync-2.ensures.call.any_tick
    (here_4 c.args.gate c.args.piece.now (image_now (g.D.Disk.view c.args.disk.now)) c.requires.ready
    (fails_now (g.D.Disk.view c.write_at-2.new.self)) c.sync-2.result (image_now (g.D.Disk.view c.write_at-2.new.self))
    (image_now (g.D.Disk.view c.sync-2.new.self)) c.sync-2.ensures.change is_3) in
    of_told (image_now (g.D.Disk.view c.args.disk.now))
    (λ (b : List ℕ). LeavesSince (g.D.Disk.view c.args.disk.now) (g.D.Disk.view c.sync-2.new.self) (IsAfterGate c.args.gate c.args.piece.now b)) l4

pub returns-in-Err-sync-2-clause-by_calls : goal.returns-in-Err-sync-2-clause-by_calls
returns-in-Err-sync-2-clause-by_calls g c =
    let is_1 : (image_now (g.D.Disk.view c.write_at.new.self))
    ≡ option_map (opened c.args.gate c.args.piece.now 1) (image_now (g.D.Disk.view c.args.disk.now)) = then_1 c.args.gate c.args.piece.now
    (image_now (g.D.Disk.view c.args.disk.now)) (image_now (g.D.Disk.view c.write_at.new.self)) c.in_default.ensures.change.done in
    let is_2 : (image_now (g.D.Disk.view c.sync.new.self))
    ≡ option_map (opened c.args.gate c.args.piece.now 2) (image_now (g.D.Disk.view c.args.disk.now)) = then_2 c.args.gate c.args.piece.now
    (image_now (g.D.Disk.view c.args.disk.now)) (image_now (g.D.Disk.view c.write_at.new.self))
    (image_now (g.D.Disk.view c.sync.new.self)) c.in_default-sync.ensures.change.done is_1 in
    let is_3 : (image_now (g.D.Disk.view c.write_at-2.new.self))
    ≡ option_map (opened c.args.gate c.args.piece.now 3) (image_now (g.D.Disk.view c.args.disk.now)) = then_3 c.args.gate c.args.piece.now
    (image_now (g.D.Disk.view c.args.disk.now)) (image_now (g.D.Disk.view c.sync.new.self))
    (image_now (g.D.Disk.view c.write_at-2.new.self)) c.in_default-write_at.ensures.change.done is_2 in
    let p0 : (j : ℕ) → j < 0 → IsTrue (fails_at (g.D.Disk.view c.args.disk.now).armed ((g.D.Disk.view c.args.disk.now).moment + j)) → ⊥ =
    λ j lt due. absurd (omega (arith, lt)) in
    let here_1 : (g.D.Disk.view c.write_at.new.self).moment ≡ (g.D.Disk.view c.args.disk.now).moment + 1 = omega (arith, c.in_default.ensures.call.tick) in
    let p1 = passed_more (g.D.Disk.view c.args.disk.now) (g.D.Disk.view c.args.disk.now) (g.D.Disk.view c.write_at.new.self) 0 c.in_default.field-0
    (omega arith) (refl) c.in_default.ensures.call p0 in
    let arm_1 : (g.D.Disk.view c.write_at.new.self).armed ≡ (g.D.Disk.view c.args.disk.now).armed = c.write_at.ensures.armed in
    let here_2 : (g.D.Disk.view c.sync.new.self).moment ≡ (g.D.Disk.view c.args.disk.now).moment + 2 =
    omega (arith, c.in_default.ensures.call.tick, c.in_default-sync.ensures.call.tick) in
    let p2 = passed_more (g.D.Disk.view c.args.disk.now) (g.D.Disk.view c.write_at.new.self) (g.D.Disk.view c.sync.new.self) 1 c.in_default-sync.field-0
    (here_1) (arm_1) c.in_default-sync.ensures.call p1 in
    let arm_2 : (g.D.Disk.view c.sync.new.self).armed ≡ (g.D.Disk.view c.args.disk.now).armed = c.sync.ensures.armed ∙ arm_1 in
    let here_3 : (g.D.Disk.view c.write_at-2.new.self).moment ≡ (g.D.Disk.view c.args.disk.now).moment + 3 =
    omega (arith, c.in_default.ensures.call.tick, c.in_default-sync.ensures.call.tick, c.in_default-write_at.ensures.call.tick) in
    let p3 = passed_more (g.D.Disk.view c.args.disk.now) (g.D.Disk.view c.sync.new.self)
    (g.D.Disk.view c.write_at-2.new.self) 2 c.in_default-write_at.field-0 (here_2) (arm_2) c.in_default-write_at.ensures.call p2 in
    let arm_3 : (g.D.Disk.view c.write_at-2.new.self).armed ≡ (g.D.Disk.view c.args.disk.now).armed = c.write_at-2.ensures.armed ∙ arm_2 in
    by_calls 4 (g.D.Disk.view c.args.disk.now) (g.D.Disk.view c.write_at-2.new.self) (g.D.Disk.view c.sync-2.new.self) 3
    (opened c.args.gate c.args.piece.now) after_sync (λ i j. ⊥) c.in-Err-sync-2.fault here_3
    (omega arith) is_3 arm_3 p3 c.sync-2.ensures.past c.in-Err-sync-2.ensures.call c.in-Err-sync-2.ensures.change

pub returns-clause-any_moment : goal.returns-clause-any_moment
returns-clause-any_moment g c =
    let is_1 : (image_now (g.D.Disk.view c.write_at.new.self))
    ≡ option_map (opened c.args.gate c.args.piece.now 1) (image_now (g.D.Disk.view c.args.disk.now)) = then_1 c.args.gate c.args.piece.now
    (image_now (g.D.Disk.view c.args.disk.now)) (image_now (g.D.Disk.view c.write_at.new.self)) c.in_default.ensures.change.done in
    let is_2 : (image_now (g.D.Disk.view c.sync.new.self))
    ≡ option_map (opened c.args.gate c.args.piece.now 2) (image_now (g.D.Disk.view c.args.disk.now)) = then_2 c.args.gate c.args.piece.now
    (image_now (g.D.Disk.view c.args.disk.now)) (image_now (g.D.Disk.view c.write_at.new.self))
    (image_now (g.D.Disk.view c.sync.new.self)) c.in_default-sync.ensures.change.done is_1 in
    let is_3 : (image_now (g.D.Disk.view c.write_at-2.new.self))
    ≡ option_map (opened c.args.gate c.args.piece.now 3) (image_now (g.D.Disk.view c.args.disk.now)) = then_3 c.args.gate c.args.piece.now
    (image_now (g.D.Disk.view c.args.disk.now)) (image_now (g.D.Disk.view c.sync.new.self))
    (image_now (g.D.Disk.view c.write_at-2.new.self)) c.in_default-write_at.ensures.change.done is_2 in
    let l0 = started (g.D.Disk.view c.args.disk.now).image_at (g.D.Disk.view c.args.disk.now).moment
    (IsAfterGate c.args.gate c.args.piece.now (bytes_of (image_now (g.D.Disk.view c.args.disk.now))))
    (here_0 c.args.gate c.args.piece.now (image_now (g.D.Disk.view c.args.disk.now)) c.requires.ready) in
    let l1 = goes_on (g.D.Disk.view c.args.disk.now).image_at (g.D.Disk.view c.write_at.new.self).image_at (g.D.Disk.view c.args.disk.now).moment
    (g.D.Disk.view c.args.disk.now).moment (g.D.Disk.view c.write_at.new.self).moment
    (IsAfterGate c.args.gate c.args.piece.now
    (bytes_of (image_now (g.D.Disk.view c.args.disk.now)))) l0 c.write_at.ensures.past c.write_at.ensures.call.any_tick
    (here_1 c.args.gate c.args.piece.now (image_now (g.D.Disk.view c.args.disk.now)) c.requires.ready
    (fails_now (g.D.Disk.view c.args.disk.now)) c.write_at.result (image_now (g.D.Disk.view c.args.disk.now))
    (image_now (g.D.Disk.view c.write_at.new.self)) c.write_at.ensures.change refl) in
    let l2 = goes_on (g.D.Disk.view c.write_at.new.self).image_at (g.D.Disk.view c.sync.new.self).image_at (g.D.Disk.view c.args.disk.now).moment
    (g.D.Disk.view c.write_at.new.self).moment (g.D.Disk.view c.sync.new.self).moment
    (IsAfterGate c.args.gate c.args.piece.now
    (bytes_of (image_now (g.D.Disk.view c.args.disk.now)))) l1 c.sync.ensures.past c.sync.ensures.call.any_tick
    (here_2 c.args.gate c.args.piece.now (image_now (g.D.Disk.view c.args.disk.now)) c.requires.ready
    (fails_now (g.D.Disk.view c.write_at.new.self)) c.sync.result (image_now (g.D.Disk.view c.write_at.new.self))
    (image_now (g.D.Disk.view c.sync.new.self)) c.sync.ensures.change is_1) in
    let l3 = goes_on (g.D.Disk.view c.sync.new.self).image_at (g.D.Disk.view c.write_at-2.new.self).image_at (g.D.Disk.view c.args.disk.now).moment
    (g.D.Disk.view c.sync.new.self).moment (g.D.Disk.view c.write_at-2.new.self).moment
    (IsAfterGate c.args.gate c.args.piece.now
    (bytes_of (image_now (g.D.Disk.view c.args.disk.now)))) l2 c.write_at-2.ensures.past c.write_at-2.ensures.call.any_tick
    (here_3 c.args.gate c.args.piece.now (image_now (g.D.Disk.view c.args.disk.now)) c.requires.ready
    (fails_now (g.D.Disk.view c.sync.new.self)) c.write_at-2.result (image_now (g.D.Disk.view c.sync.new.self))
    (image_now (g.D.Disk.view c.write_at-2.new.self)) c.write_at-2.ensures.change is_2) in
    let l4 = goes_on (g.D.Disk.view c.write_at-2.new.self).image_at (g.D.Disk.view c.sync-2.new.self).image_at (g.D.Disk.view c.args.disk.now).moment
    (g.D.Disk.view c.write_at-2.new.self).moment (g.D.Disk.view c.sync-2.new.self).moment
    (IsAfterGate c.args.gate c.args.piece.now
    (bytes_of (image_now (g.D.Disk.view c.args.disk.now)))) l3 c.sync-2.ensures.past c.sync-2.ensures.call.any_tick
    (here_4 c.args.gate c.args.piece.now (image_now (g.D.Disk.view c.args.disk.now)) c.requires.ready
    (fails_now (g.D.Disk.view c.write_at-2.new.self)) c.sync-2.result (image_now (g.D.Disk.view c.write_at-2.new.self))
    (image_now (g.D.Disk.view c.sync-2.new.self)) c.sync-2.ensures.change is_3) in
    of_told (image_now (g.D.Disk.view c.args.disk.now))
    (λ (b : List ℕ). LeavesSince (g.D.Disk.view c.args.disk.now) (g.D.Disk.view c.sync-2.new.self) (IsAfterGate c.args.gate c.args.piece.now b)) l4

pub returns-clause-by_calls : goal.returns-clause-by_calls
returns-clause-by_calls g c =
    let is_1 : (image_now (g.D.Disk.view c.write_at.new.self))
    ≡ option_map (opened c.args.gate c.args.piece.now 1) (image_now (g.D.Disk.view c.args.disk.now)) = then_1 c.args.gate c.args.piece.now
    (image_now (g.D.Disk.view c.args.disk.now)) (image_now (g.D.Disk.view c.write_at.new.self)) c.in_default.ensures.change.done in
    let is_2 : (image_now (g.D.Disk.view c.sync.new.self))
    ≡ option_map (opened c.args.gate c.args.piece.now 2) (image_now (g.D.Disk.view c.args.disk.now)) = then_2 c.args.gate c.args.piece.now
    (image_now (g.D.Disk.view c.args.disk.now)) (image_now (g.D.Disk.view c.write_at.new.self))
    (image_now (g.D.Disk.view c.sync.new.self)) c.in_default-sync.ensures.change.done is_1 in
    let is_3 : (image_now (g.D.Disk.view c.write_at-2.new.self))
    ≡ option_map (opened c.args.gate c.args.piece.now 3) (image_now (g.D.Disk.view c.args.disk.now)) = then_3 c.args.gate c.args.piece.now
    (image_now (g.D.Disk.view c.args.disk.now)) (image_now (g.D.Disk.view c.sync.new.self))
    (image_now (g.D.Disk.view c.write_at-2.new.self)) c.in_default-write_at.ensures.change.done is_2 in
    let is_4 : (image_now (g.D.Disk.view c.sync-2.new.self))
    ≡ option_map (opened c.args.gate c.args.piece.now 4) (image_now (g.D.Disk.view c.args.disk.now)) = then_4 c.args.gate c.args.piece.now
    (image_now (g.D.Disk.view c.args.disk.now)) (image_now (g.D.Disk.view c.write_at-2.new.self))
    (image_now (g.D.Disk.view c.sync-2.new.self)) c.in_default-sync-2.ensures.change.done is_3 in
    let p0 : (j : ℕ) → j < 0 → IsTrue (fails_at (g.D.Disk.view c.args.disk.now).armed ((g.D.Disk.view c.args.disk.now).moment + j)) → ⊥ =
    λ j lt due. absurd (omega (arith, lt)) in
    let here_1 : (g.D.Disk.view c.write_at.new.self).moment ≡ (g.D.Disk.view c.args.disk.now).moment + 1 = omega (arith, c.in_default.ensures.call.tick) in
    let p1 = passed_more (g.D.Disk.view c.args.disk.now) (g.D.Disk.view c.args.disk.now) (g.D.Disk.view c.write_at.new.self) 0 c.in_default.field-0
    (omega arith) (refl) c.in_default.ensures.call p0 in
    let arm_1 : (g.D.Disk.view c.write_at.new.self).armed ≡ (g.D.Disk.view c.args.disk.now).armed = c.write_at.ensures.armed in
    let here_2 : (g.D.Disk.view c.sync.new.self).moment ≡ (g.D.Disk.view c.args.disk.now).moment + 2 =
    omega (arith, c.in_default.ensures.call.tick, c.in_default-sync.ensures.call.tick) in
    let p2 = passed_more (g.D.Disk.view c.args.disk.now) (g.D.Disk.view c.write_at.new.self) (g.D.Disk.view c.sync.new.self) 1 c.in_default-sync.field-0
    (here_1) (arm_1) c.in_default-sync.ensures.call p1 in
    let arm_2 : (g.D.Disk.view c.sync.new.self).armed ≡ (g.D.Disk.view c.args.disk.now).armed = c.sync.ensures.armed ∙ arm_1 in
    let here_3 : (g.D.Disk.view c.write_at-2.new.self).moment ≡ (g.D.Disk.view c.args.disk.now).moment + 3 =
    omega (arith, c.in_default.ensures.call.tick, c.in_default-sync.ensures.call.tick, c.in_default-write_at.ensures.call.tick) in
    let p3 = passed_more (g.D.Disk.view c.args.disk.now) (g.D.Disk.view c.sync.new.self)
    (g.D.Disk.view c.write_at-2.new.self) 2 c.in_default-write_at.field-0 (here_2) (arm_2) c.in_default-write_at.ensures.call p2 in
    let arm_3 : (g.D.Disk.view c.write_at-2.new.self).armed ≡ (g.D.Disk.view c.args.disk.now).armed = c.write_at-2.ensures.armed ∙ arm_2 in
    let here_4 : (g.D.Disk.view c.sync-2.new.self).moment ≡ (g.D.Disk.view c.args.disk.now).moment + 4 =
    omega (
      arith,
      c.in_default.ensures.call.tick,
      c.in_default-sync.ensures.call.tick,
      c.in_default-write_at.ensures.call.tick,
      c.in_default-sync-2.ensures.call.tick,
    ) in
    let p4 = passed_more (g.D.Disk.view c.args.disk.now) (g.D.Disk.view c.write_at-2.new.self)
    (g.D.Disk.view c.sync-2.new.self) 3 c.in_default-sync-2.field-0 (here_3) (arm_3) c.in_default-sync-2.ensures.call p3 in
    let arm_4 : (g.D.Disk.view c.sync-2.new.self).armed ≡ (g.D.Disk.view c.args.disk.now).armed = c.sync-2.ensures.armed ∙ arm_3 in
    record {
      calls =
          4;
      at_most = omega arith;
      stands = ap (g.D.Disk.view c.sync-2.new.self).image_at (sym here_4)
          ∙ is_4;
      last = omega (arith, here_4);
      passed = p4;
      still = λ due. ap (g.D.Disk.view c.sync-2.new.self).image_at here_4;
      named = λ failed. cc;
      whole = λ ok. refl;
      fewer = λ failed. cc;
    }
