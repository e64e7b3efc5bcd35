-- A line that the code has made of its parts is the definition's.
use Rattle.std.{specs.Prelude.slice_index, proofs.Common.{◌≡◌, ℕ, List, refl}}
use Rattle.spl_command.specs.declared.batch.Batch.{Batch}
use Rattle.spl_wire.specs.declared.event.Event.{Event, TheVariants.{Propose, Submit}}
use Rattle.spl_sched.specs.declared.line.Line.{Line}
use Rattle.spl_gen.specs.{Draws.{next_state, draw}, Circuits.{circuit_members, circuit_member, generated_definition, batch_circuit}, Batches.generated_batch}
use Rattle.spl_gen.specs.{Generated.{line_at, settled, submitted_lines}, declared.circuit.Circuit.Circuit}

pub proposed_is : (c : Circuit) (e : Event) (ms : List ℕ) (l : Line) → ms ≡ circuit_members c → e ≡ Propose (generated_definition c)
    → l ≡ line_at c e (slice_index ms 0)
    → settled c l ≡ settled c (line_at c (Propose (generated_definition c)) (slice_index (circuit_members c) 0))
proposed_is c e ms l hm he hl = rw (hl, he, hm) refl

pub submitted_is : (k x x1 x2 d m place value : ℕ) (c : Circuit) (b : Batch) (l : Line) → c ≡ batch_circuit k → d ≡ draw x → x1 ≡ next_state x
    → m ≡ circuit_member c d → place ≡ draw x1 → x2 ≡ next_state x1 → value ≡ draw x2 → b ≡ generated_batch k place value
    → l ≡ line_at c (Submit b) m → settled c l ≡ submitted_lines k x
submitted_is k x x1 x2 d m place value c b l hc hd hx1 hm hp hx2 hv hb hl = rw (hl, hb, hv, hx2, hp, hm, hd, hx1, hc) refl
