-- What one thing that came brings.
use Rattle.std.{specs.Prelude.{ℕ, codes, if◌then◌else◌}, proofs.Common.{◌≡◌, Bool, true, false, List, [], ◌∷◌, ◌++◌, Option, Some, None, refl, sym, ap}}
use Rattle.std.proofs.Common.{subst}
use Rattle.spl_answer.specs.Texts.{answer_spelling}
use Rattle.spl_circuit.specs.Nodes.{NodeId, CircuitId}
use Rattle.spl_wire.specs.{Messages.circuit_of, declared.{event.Event.Event, message.Message.Message}}
use Rattle.spl_wire.specs.declared.answer.Answer.TheVariants as answer
use Rattle.spl_wire.specs.declared.event.Event.TheVariants as event
use Rattle.spl_delta.specs.declared.line.WatchLine.{WatchLine}
use Rattle.spl_cell_rules.specs.Cells.{site_at}
use Rattle.spl_serve.specs.{Asking.asked_by_line, Hearing.is_heard, Served.Served, Servers.{Serves, TakesOne}, Turns.{Brings, BringsAsked, Deed, Handles}}
use Rattle.spl_serve.specs.{Turns.{IsRoll, Tells, Watches, ended, served_past}, Waits.waits_at, declared.{line.Asked.Asked, turn.ServerTurn.ServerTurn}}
use Rattle.spl_serve.proofs.Turning.{serves_still}
use Rattle.spl_serve.specs.declared.line.Asked.TheVariants as asked
use Rattle.spl_serve.specs.declared.outside.Arrival.TheVariants as arrival

module _ (here : NodeId) (ns : List NodeId) (before : Served) (ds : List Deed) (u : ServerTurn) where
  asks : (caller : ℕ) (line : List ℕ) (o : Option Asked) (more : List Deed) → asked_by_line here ns line ≡ o
      → BringsAsked here (served_past here before ds) caller o more → Brings here ns (served_past here before ds) (arrival.Line caller line) more
  asks caller line o more is h = subst (λ (p : Option Asked). BringsAsked here (served_past here before ds) caller p more) (sym is) h

  pub asks_event : (caller : ℕ) (line : List ℕ) (c : CircuitId) (e : Event) → asked_by_line here ns line ≡ Some (asked.At c e)
      → Serves here before (ds ++ Handles (Some caller) (c, e) ∷ []) u → TakesOne here ns before ds (arrival.Line caller line) (Some c) u
  asks_event caller line c e is serves =
      record {
        more = Handles (Some caller) (c, e)
            ∷ [];
        brings = asks caller line (Some (asked.At c e)) (Handles (Some caller) (c, e) ∷ []) is refl;
        circuit_is = refl;
        serves = serves;
      }

  pub asks_roll : (caller : ℕ) (line : List ℕ) (ids : List CircuitId) (bytes : List ℕ) → asked_by_line here ns line ≡ Some asked.Roll
      → IsRoll (served_past here before ds).cells ids → bytes ≡ ended (answer_spelling (answer.Roll ids))
      → Serves here before (ds ++ Tells caller bytes ∷ []) u → TakesOne here ns before ds (arrival.Line caller line) None u
  asks_roll caller line ids bytes is roll spelled serves = record {
    more = Tells caller bytes ∷ [];
    brings = asks caller line (Some asked.Roll) (Tells caller bytes ∷ []) is (ids, roll, ap (λ (bs : List ℕ). Tells caller bs ∷ []) spelled);
    circuit_is = refl;
    serves = serves;
  }

  pub asks_waits : (caller : ℕ) (line : List ℕ) (c : CircuitId) (bytes : List ℕ) → asked_by_line here ns line ≡ Some (asked.Waits c)
      → bytes ≡ ended (waits_at (site_at here c) ((served_past here before ds).cells c))
      → Serves here before (ds ++ Tells caller bytes ∷ []) u → TakesOne here ns before ds (arrival.Line caller line) None u
  asks_waits caller line c bytes is spelled serves = record {
    more = Tells caller bytes ∷ [];
    brings = asks caller line (Some (asked.Waits c)) (Tells caller bytes ∷ []) is (ap (λ (bs : List ℕ). Tells caller bs ∷ []) spelled);
    circuit_is = refl;
    serves = serves;
  }

  pub asks_watch : (caller : ℕ) (line : List ℕ) (l : WatchLine) → asked_by_line here ns line ≡ Some (asked.OfWatcher l)
      → Serves here before (ds ++ Watches caller l ∷ []) u → TakesOne here ns before ds (arrival.Line caller line) None u
  asks_watch caller line l is serves =
      record {
        more = Watches caller l
            ∷ [];
        brings = asks caller line (Some (asked.OfWatcher l)) (Watches caller l ∷ []) is refl;
        circuit_is = refl;
        serves = serves;
      }

  pub asks_nothing : (caller : ℕ) (line bytes : List ℕ) → asked_by_line here ns line ≡ None → bytes ≡ codes "bad line\n"
      → Serves here before (ds ++ Tells caller bytes ∷ []) u → TakesOne here ns before ds (arrival.Line caller line) None u
  asks_nothing caller line bytes is bad serves = record {
    more = Tells caller bytes ∷ [];
    brings = asks caller line None (Tells caller bytes ∷ []) is (ap (λ (bs : List ℕ). Tells caller bs ∷ []) bad);
    circuit_is = refl;
    serves = serves;
  }

  pub hears : (from : NodeId) (m : Message) → is_heard here from m ≡ true → Serves here before (ds ++ Handles None (circuit_of m, event.Deliver from m) ∷ []) u
      → TakesOne here ns before ds (arrival.Message from m) (Some (circuit_of m)) u
  hears from m is serves = record {
    more = Handles None (circuit_of m, event.Deliver from m) ∷ [];
    brings = sym (ap (λ (b : Bool). if b then Handles None (circuit_of m, event.Deliver from m) ∷ [] else []) is);
    circuit_is = refl;
    serves = serves;
  }

  pub drops : (from : NodeId) (m : Message) → is_heard here from m ≡ false → Serves here before ds u
      → TakesOne here ns before ds (arrival.Message from m) None u
  drops from m is serves = record {
    more = [];
    brings = sym (ap (λ (b : Bool). if b then Handles None (circuit_of m, event.Deliver from m) ∷ [] else []) is);
    circuit_is = refl;
    serves = serves_still here before ds u serves;
  }

  pub stops : (caller : ℕ) (bytes : List ℕ) → bytes ≡ codes "ok stopping\n" → Serves here before (ds ++ Tells caller bytes ∷ []) u
      → TakesOne here ns before ds (arrival.Stop caller) None u
  stops caller bytes spelled serves =
      record { more = Tells caller bytes ∷ []; brings = ap (λ (bs : List ℕ). Tells caller bs ∷ []) spelled; circuit_is = refl; serves = serves }

  pub ticks : (c : CircuitId) → Serves here before (ds ++ Handles None (c, event.Tick) ∷ []) u → TakesOne here ns before ds (arrival.Tick c) (Some c) u
  ticks c serves = record { more = Handles None (c, event.Tick) ∷ []; brings = refl; circuit_is = refl; serves = serves }
