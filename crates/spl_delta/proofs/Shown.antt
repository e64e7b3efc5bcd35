-- What a line of a watcher is answered, by what its node shows of a circuit.
use Rattle.std.proofs.Common.{◌≡◌, true, false, List, refl, sym, ap, ◌∙◌}
use Rattle.spl_delta.specs.{Watches.{Watcher, watch_told_at, told_by, watch_answer, watch_node}, declared.answer.WatchAnswer.TheVariants.{Down, NoCircuit}}
use Rattle.spl_delta.specs.declared.{answer.WatchAnswer.TheVariants.NotActive, line.WatchLine.WatchLine}
use Rattle.spl_circuit_world.specs.Worlds.{World}
use Rattle.spl_cell_rules.specs.Cells.{Bound, Cell, Empty, Held, Purged, runs}

none_at : (k : Cell) (ts : List Watcher) (l : WatchLine) → ((b : Bound) → k ≡ Held b → ⊥) → NoCircuit ≡ watch_told_at k ts l
none_at Empty ts l off = refl
none_at (Purged g) ts l off = refl
none_at (Held b) ts l off = absurd (off b refl)

-- in the world of the circuit
module _ (m : World) (ts : List Watcher) (l : WatchLine) where
  pub told_down : m.up (watch_node l) ≡ false → Down ≡ watch_answer m ts l
  told_down down = rw down refl

  module _ (up : m.up (watch_node l) ≡ true) where
    pub told_none : ((b : Bound) → m.at (watch_node l) ≡ Held b → ⊥) → NoCircuit ≡ watch_answer m ts l
    told_none off = rw up (none_at (m.at (watch_node l)) ts l off)

    module _ (b : Bound) (held : m.at (watch_node l) ≡ Held b) where
      pub told_off : runs b ≡ false → NotActive ≡ watch_answer m ts l
      told_off off = rw up (sym (ap (λ (k : Cell). watch_told_at k ts l) held ∙ (rw off refl)))

      pub told_here : runs b ≡ true → told_by b ts l ≡ watch_answer m ts l
      told_here running = rw up (sym (ap (λ (k : Cell). watch_told_at k ts l) held ∙ (rw running refl)))
