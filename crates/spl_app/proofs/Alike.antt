-- What is said of a run over some devices is said of it over others that report the same, and of a plan of more lines.
use Rattle.std.proofs.Common.{◌≡◌, ◌⊎◌, ⊎_elim, inl, inr, ◌<◌, ◌-◌, ℕ, Bool, true, false, List, [], ◌++◌, length, take, Ok, Err, refl, sym, ◌∙◌, ap, subst}
use Rattle.std.proofs.Common.{append_assoc, append-nil}
use Rattle.spl_edge.specs.Devices.{Rose, PairView, SinkView, SourceView}
use Rattle.spl_lines.specs.Tasks.{Task}
use Rattle.spl_pump.specs.Wires.{LiesOn}
use Rattle.spl_runs.specs.Run.{Plan, RunMode, task_carried, tasks, with_lines, After, AreAllowed, AreUnmade, Devices, Ended, RunEnds, ErrorHasCause}
use Rattle.spl_runs.specs.Run.{HasFailed, LinksHeard, In, PickedAtStops, PlanOutcome, Reached, PlanRun, SentOverLinks, Spared, Stop, Unmade, Why, devices}
use Rattle.spl_runs.specs.Run.{held_on}
use Rattle.spl_runs.specs.declared.fault.RunFault.TheVariants as fault
use Rattle.spl_node.specs.Benches.{AllTell, Images}
use Rattle.spl_world.specs.{Held.AllReadable, Links.{LinkView, MayBeDue, WasDue}}
use Rattle.spl_world.specs.declared.fault.WorldFault.TheVariants as error

-- what is said of disks and links from d and l to now and m is said of them from e and k to now and o
pub record AreAlike (w : RunMode) (p : Plan) (d e now : List PairView) (l m k o : LinkView) : Type 0 where
  pub failed : (i : ℕ) → HasFailed w.linked i d now → HasFailed w.linked i e now
  pub held : held_on d ≡ held_on e
  pub picked : (before : List Task) (stop : Stop) → PickedAtStops w.linked p before stop d now → PickedAtStops w.linked p before stop e now
  pub spared : Spared p d now → Spared p e now
  pub slots : (i : ℕ) → i < l.slots → i < k.slots
  pub hello : l.hello ≡ k.hello
  pub link : Rose l.faults m.faults → Rose k.faults o.faults
  pub lied : (a b : ℕ) (sent got : List ℕ) → LiesOn a b sent got m.put m.taken → LiesOn a b sent got o.put o.taken
  pub sent : (before : List Task) (stop : Stop) → SentOverLinks p before stop l m → SentOverLinks p before stop k o
  pub heard : (before : List Task) (stop : Stop) → LinksHeard p before stop l m → LinksHeard p before stop k o
  pub still : m ≡ l → o ≡ k

-- an error or a failed write ended the run, or memory ran out
abbrev pub IsBroken : Ended → Type 0
IsBroken (Ok e) = ⊥
IsBroken (Err (fault.BadLine n)) = ⊥
IsBroken e = Unit {0}

module _ (w : RunMode) (plan : Plan) (lines more all : List (List ℕ)) (place : all ≡ lines ++ more) where
  abbrev p : Plan
  p = with_lines plan lines

  abbrev q : Plan
  q = with_lines plan all

  module _ (old new : SinkView) (d e now : List PairView) (l m k o : LinkView) (alike : AreAlike w p d e now l m k o) where
    abbrev x : Devices
    x = devices old d l

    abbrev y : Devices
    y = devices new now m

    abbrev u : Devices
    u = devices old e k

    abbrev v : Devices
    v = devices new now o

    cause : (before : List Task) (stop : Stop) → ErrorHasCause w p before stop x y → ErrorHasCause w q before stop u v
    cause before After h = tt
    cause before (In t (error.Disk i)) h = (alike.failed i h.0, h.1)
    cause before (In t error.Link) h = (h.0, alike.link h.1)
    cause before (In t (error.Lied from to sent got)) (a, b, due, on) =
        (a, b, subst (λ (hello : ℕ → ℕ → List ℕ). WasDue hello from to (task_carried p before t.line) a b sent) alike.hello due, alike.lied a b sent got on)
    cause before (In t f) h = h

    abbrev reached : Reached w p x y → Reached w q u v
    reached r = record {
      lines = r.lines;
      rest = r.rest ++ more;
      place = place ∙ ap (λ (ls : List (List ℕ)). ls ++ more) r.place ∙ append_assoc r.lines r.rest more;
      allowed = r.allowed;
      before = r.before;
      stop = r.stop;
      more = r.more;
      all = r.all;
      within = r.within;
      cause = cause r.before r.stop r.cause;
    }

    ends : (f : Ended) → IsBroken f ⊎ (lines ≡ all) → (r : Reached w p x y) → RunEnds f r → RunEnds f (reached r)
    ends (Ok a) (inl is) r h = absurd is
    ends (Ok a) (inr same) r h = record { before = h.before ∙ ap (tasks w) same; stop = h.stop }
    ends (Err (fault.BadLine n)) (inl is) r h = absurd is
    ends (Err (fault.BadLine n)) (inr same) r h = record { before = h.before ∙ ap (λ (ls : List (List ℕ)). tasks w (take (n - 1) ls)) same; stop = h.stop }
    ends f whole r h = h

    why : (f : Ended) → IsBroken f ⊎ (lines ≡ all) → Why f w p x y → Why f w q u v
    why (Ok a) (inl is) h = absurd is
    why (Ok a) (inr same) h = subst (λ (ls : List (List ℕ)). AreAllowed w p ls) same h
    why (Err (fault.BadLine n)) (inl is) h = absurd is
    why (Err (fault.BadLine n)) (inr same) h = subst (λ (ls : List (List ℕ)). AreAllowed w p (take (n - 1) ls)) same h
    why (Err (fault.World (error.Disk i))) whole h = (h.0, alike.failed i h.1)
    why (Err (fault.World error.Link)) whole h = alike.link h
    why (Err (fault.World (error.Lied from to sent got))) whole (first, second, lie) =
        let (a, b, due, on) = lie in (
          alike.slots from first,
          alike.slots to second,
          (a, b, subst (λ (hello : ℕ → ℕ → List ℕ). MayBeDue hello from to a b sent) alike.hello due, alike.lied a b sent got on),
        )
    why f whole h = h

    unmade : (f : Ended) → AreUnmade f p (held_on d) (held_on now) → AreUnmade f q (held_on e) (held_on now)
    unmade f h = subst (λ (is : List Images). AreUnmade f q is (held_on now)) alike.held (same_unmade f h)
      where
        same_unmade : (f : Ended) → AreUnmade f p (held_on d) (held_on now) → AreUnmade f q (held_on d) (held_on now)
        same_unmade (Err (fault.World (error.Disk i))) h = h
        same_unmade (Err (fault.World (error.NotAJournal i at))) h = h
        same_unmade (Err fault.NoMemory) h = h
        same_unmade f h = h

    picked : (linked : Bool) (before : List Task) (stop : Stop) (start end : List PairView) → PickedAtStops linked p before stop start end
        → PickedAtStops linked q before stop start end
    picked true before stop start end h = h
    picked false before stop start end h = h

    pub ran_alike : (s t c r : SourceView) → (t ≡ s → r ≡ c) → (f : Ended) → IsBroken f ⊎ (lines ≡ all) → PlanOutcome f w p s t x y → PlanOutcome f w q c r u v
    ran_alike s t c r unread f whole h = record {
      why = why f whole h.why;
      done = λ told. ⊎_elim
          (λ (un : Unmade f w p s t x y). inl
          (record {
            unread = unread un.unread;
            disks = unmade f un.disks;
            picked = picked w.linked [] After e now (alike.picked [] After un.picked);
            spared = alike.spared un.spared;
            written = un.written;
            links = alike.still un.links;
          }))
          (λ (r : PlanRun f w p x y). inr (record {
            readable = subst (AllReadable plan.nodes) alike.held r.readable;
            reached = reached r.reached;
            ends = ends f whole r.reached r.ends;
            written = r.written;
            held = r.held;
            picked = picked w.linked r.reached.before r.reached.stop e now (alike.picked r.reached.before r.reached.stop r.picked);
            spared = alike.spared r.spared;
            sent = alike.sent r.reached.before r.reached.stop r.sent;
            heard = (let k = alike.heard r.reached.before r.reached.stop r.heard in record { taken = k.taken; others = k.others });
          }))
          (h.done (subst (AllTell (length plan.nodes)) (sym alike.held) told));
    }

-- over the same disks, and links that report the same except their carriers
pub same_disks : (w : RunMode) (p : Plan) (start now : List PairView) (l m k o : LinkView) → ((i : ℕ) → i < l.slots → i < k.slots) → l.hello ≡ k.hello
    → (Rose l.faults m.faults → Rose k.faults o.faults)
    → ((a b : ℕ) (sent got : List ℕ) → LiesOn a b sent got m.put m.taken → LiesOn a b sent got o.put o.taken)
    → ((before : List Task) (stop : Stop) → SentOverLinks p before stop l m → SentOverLinks p before stop k o)
    → ((before : List Task) (stop : Stop) → LinksHeard p before stop l m → LinksHeard p before stop k o) → (m ≡ l → o ≡ k)
    → AreAlike w p start start now l m k o
same_disks w p start now l m k o slots hello link lied sent heard still = record {
  failed = λ i h. h;
  held = refl;
  picked = λ before stop h. h;
  spared = λ h. h;
  slots = slots;
  hello = hello;
  link = link;
  lied = lied;
  sent = sent;
  heard = heard;
  still = still;
}

-- of the same lines
pub ran_still : (s t : SourceView) (w : RunMode) (p : Plan) (old new : SinkView) (d e now : List PairView) (l m k o : LinkView)
    → AreAlike w p d e now l m k o → (f : Ended) → PlanOutcome f w p s t (devices old d l) (devices new now m)
    → PlanOutcome f w p s t (devices old e k) (devices new now o)
ran_still s t w p old new d e now l m k o alike f h =
    ran_alike w p p.lines [] p.lines (sym (append-nil p.lines)) old new d e now l m k o alike s t s t (λ same. same) f (inr refl) h
