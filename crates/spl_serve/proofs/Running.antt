-- Turns one after another.
use Rattle.std.{specs.Prelude.{ℕ, is_some}, proofs.Common.{◌≡◌, ◌<◌, ◌⊎◌, inl, inr, Bool, true, false, ◌||◌, List, [], ◌∷◌, ◌++◌, Option, Some, None, length}}
use Rattle.std.proofs.{Common.{refl, sym, ◌∙◌, ap, subst, append_assoc, arith, ◌+◌}, lemmas.{Bool.{or_from, or_parts}, List.{append-nil, length_push}}}
use Rattle.spl_circuit.specs.Nodes.{NodeId, CircuitId}
use Rattle.spl_edge.specs.Devices.{Image, PairView, image_now}
use Rattle.spl_snapshot.specs.{Counting.{HasRisen, IfBoth, PairLeavesInTurn, PairOnward, PairTellsAs}, Pairs.PairStands}
use Rattle.spl_cell_rules.specs.Cells.{Cell}
use Rattle.spl_node.{specs.{Records.is_record, Stands.{StandFor, circuit_cell, here_of, is_node_halted}}, proofs.Disks.{onward_join, onward_same}}
use Rattle.spl_serve.specs.{Outside.{PortsView, grown_by, arrivals_stop}, Processes.{AreTurns, ServingEnds, Goes, KeptTurn, LeavesEither, LeavesPart, Place}}
use Rattle.spl_serve.specs.{Processes.{StopsWithin, before_last, came_in, deeds_in}, Served.Served, Servers.{ServerStands, server_cells, server_here}}
use Rattle.spl_serve.specs.{Servers.server_served, Turns.{AllBring, Deed, cells_past, departures_of, served_past}, declared.outside.Arrival.Arrival}
use Rattle.spl_serve.{specs.declared.{outside.Departure.Departure, server.Server.Server}, proofs.{Deeds.{departures_append, past_append}, Coming.grown_none}}
use Rattle.spl_serve.proofs.Coming.{grown_twice, stops_append}

deeds_append : (ts us : List KeptTurn) → deeds_in (ts ++ us) ≡ deeds_in ts ++ deeds_in us
deeds_append [] us = refl
deeds_append (t ∷ ts) us = ap (λ (ds : List Deed). t.deeds ++ ds) (deeds_append ts us) ∙ sym (append_assoc t.deeds (deeds_in ts) (deeds_in us))

came_append : (ts us : List KeptTurn) → came_in (ts ++ us) ≡ came_in ts ++ came_in us
came_append [] us = refl
came_append (t ∷ ts) us = ap (λ (cs : List Arrival). t.came ++ cs) (came_append ts us) ∙ sym (append_assoc t.came (came_in ts) (came_in us))

turns_append : (here : NodeId) (ns : List NodeId) (z : Served) (p q r : PairView) (ts us : List KeptTurn)
    → AreTurns here ns z p ts q → AreTurns here ns (served_past here z (deeds_in ts)) q us r → AreTurns here ns z p (ts ++ us) r
turns_append here ns z p q r [] us h k = subst (λ (m : PairView). AreTurns here ns z m us r) h k
turns_append here ns z p q r (t ∷ ts) us h k = (
  h.0,
  turns_append here ns (served_past here z t.deeds) t.disks q r ts us h.1
      (subst (λ (f : Served). AreTurns here ns f q us r) (past_append here z t.deeds (deeds_in ts)) k),
)

-- what is served after turns and more turns
past_turns : (here : NodeId) (z : Served) (ts us : List KeptTurn)
    → served_past here (served_past here z (deeds_in ts)) (deeds_in us) ≡ served_past here z (deeds_in (ts ++ us))
past_turns here z ts us = sym (past_append here z (deeds_in ts) (deeds_in us)) ∙ ap (served_past here z) (sym (deeds_append ts us))

departures_turns : (here : NodeId) (z : Served) (ts us : List KeptTurn)
    → departures_of here z (deeds_in ts) ++ departures_of here (served_past here z (deeds_in ts)) (deeds_in us) ≡ departures_of here z (deeds_in (ts ++ us))
departures_turns here z ts us = sym (departures_append here z (deeds_in ts) (deeds_in us)) ∙ ap (departures_of here z) (sym (deeds_append ts us))

-- ---- what asks it to stop

unasked_parts : (xs ys : List Arrival) → arrivals_stop (xs ++ ys) ≡ false → (arrivals_stop ys ≡ false) × (arrivals_stop xs ≡ false)
unasked_parts xs ys h = or_parts (arrivals_stop ys) (arrivals_stop xs) (sym (stops_append xs ys) ∙ h)

unasked_both : (xs ys : List Arrival) → arrivals_stop xs ≡ false → arrivals_stop ys ≡ false → arrivals_stop (xs ++ ys) ≡ false
unasked_both xs ys h k = stops_append xs ys ∙ or_from (arrivals_stop ys) (arrivals_stop xs) k h

-- turns in which nothing asked it to stop, and then others
unasked_on : (ts us : List KeptTurn) → arrivals_stop (came_in ts) ≡ false → arrivals_stop (came_in (before_last us)) ≡ false
    → arrivals_stop (came_in (before_last (ts ++ us))) ≡ false
unasked_on [] us h k = k
unasked_on (t ∷ []) [] h k = refl
unasked_on (t ∷ []) (u ∷ us) h k = unasked_both t.came (came_in (before_last (u ∷ us))) (unasked_parts t.came [] h).1 k
unasked_on (t ∷ v ∷ ts) us h k =
    let parts = unasked_parts t.came (came_in (v ∷ ts)) h in
    unasked_both t.came (came_in (before_last ((v ∷ ts) ++ us))) parts.1 (unasked_on (v ∷ ts) us parts.0 k)

-- ---- a process

pub goes_still : (ns : List NodeId) (x : Place) (s : Server) → ServerStands s x.disks → Goes (server_here s) ns (server_served s) x [] x s
goes_still ns x s stands = record { turns = refl; ports = grown_none x.ports; here_is = refl; served_is = refl; stands = stands }

module _ (here : NodeId) (ns : List NodeId) (v : Served) (x y z : Place) (ts : List KeptTurn) (s : Server) (was : Goes here ns v x ts y s) where
  goes_after : (us : List KeptTurn) (r : Server) → Goes here ns (served_past here v (deeds_in ts)) y us z r → Goes here ns v x (ts ++ us) z r
  goes_after us r h = record {
    turns = turns_append here ns v x.disks y.disks z.disks ts us was.turns h.turns;
    ports = h.ports ∙ ap (grown_by (came_in us) (departures_of here (served_past here v (deeds_in ts)) (deeds_in us))) was.ports
        ∙ grown_twice (came_in ts) (came_in us) (departures_of here v (deeds_in ts))
        (departures_of here (served_past here v (deeds_in ts)) (deeds_in us)) x.ports
        ∙ ap (λ (cs : List Arrival). grown_by cs
        (departures_of here v (deeds_in ts) ++ departures_of here (served_past here v (deeds_in ts)) (deeds_in us)) x.ports) (sym (came_append ts us))
        ∙ ap (λ (ds : List Departure). grown_by (came_in (ts ++ us)) ds x.ports) (departures_turns here v ts us);
    here_is = h.here_is;
    served_is = h.served_is ∙ past_turns here v ts us;
    stands = h.stands;
  }

  pub goes_more : (us : List KeptTurn) (r : Server) → Goes (server_here s) ns (server_served s) y us z r → Goes here ns v x (ts ++ us) z r
  goes_more us r h = goes_after us r (subst (λ (f : Served). Goes here ns f y us z r) was.served_is
      (subst (λ (n : NodeId). Goes n ns (server_served s) y us z r) was.here_is h))

  ends_after : arrivals_stop (came_in ts) ≡ false → ServingEnds here ns (served_past here v (deeds_in ts)) y z → ServingEnds here ns v x z
  ends_after none h = record {
    kept = ts ++ h.kept;
    disks = h.disks;
    turns = turns_append here ns v x.disks y.disks h.disks ts h.kept was.turns h.turns;
    unasked = unasked_on ts h.kept none h.unasked;
    came = h.came;
    deeds = h.deeds;
    lost = h.lost;
    brings = subst (λ (f : Served). AllBring here ns f h.came h.deeds) (past_turns here v ts h.kept) h.brings;
    leaves = subst (λ (f : Served). (z.disks ≡ h.disks) ⊎ LeavesEither here f.cells (cells_past here f.cells h.deeds) h.disks z.disks)
        (past_turns here v ts h.kept) h.leaves;
    left = departures_of here v (deeds_in ts) ++ h.left;
    unsaid = h.unsaid;
    departures = sym (departures_turns here v ts h.kept) ∙ ap (λ (ds : List Departure). departures_of here v (deeds_in ts) ++ ds) h.departures
        ∙ sym (append_assoc (departures_of here v (deeds_in ts)) h.left h.unsaid);
    ports = h.ports ∙ ap (grown_by (came_in h.kept ++ (h.came ++ h.lost)) h.left) was.ports
        ∙ grown_twice (came_in ts) (came_in h.kept ++ (h.came ++ h.lost)) (departures_of here v (deeds_in ts)) h.left x.ports
        ∙ ap (λ (cs : List Arrival). grown_by cs (departures_of here v (deeds_in ts) ++ h.left) x.ports)
        (sym (append_assoc (came_in ts) (came_in h.kept) (h.came ++ h.lost))
        ∙ ap (λ (cs : List Arrival). cs ++ (h.came ++ h.lost)) (sym (came_append ts h.kept)));
  }

  pub ends_more : arrivals_stop (came_in ts) ≡ false → ServingEnds (server_here s) ns (server_served s) y z → ServingEnds here ns v x z
  ends_more none h =
      ends_after none (subst (λ (f : Served). ServingEnds here ns f y z) was.served_is
      (subst (λ (n : NodeId). ServingEnds n ns (server_served s) y z) was.here_is h))

-- ---- one turn

-- nothing was kept, and something may have come
pub ends_lost : (here : NodeId) (ns : List NodeId) (z : Served) (x y : Place) (lost : List Arrival) → y.disks ≡ x.disks
    → y.ports ≡ grown_by lost [] x.ports → ServingEnds here ns z x y
ends_lost here ns z x y lost same ports = record {
  kept = [];
  disks = x.disks;
  turns = refl;
  unasked = refl;
  came = [];
  deeds = [];
  lost = lost;
  brings = refl;
  leaves = inl same;
  left = [];
  unsaid = [];
  departures = refl;
  ports = ports;
}

both_apply : (o p : Option Image) (P Q : Image → Image → Type 0) → IfBoth o p P → IfBoth o p (λ i j. P i j → Q i j) → IfBoth o p Q
both_apply None p P Q h k = tt
both_apply (Some i) None P Q h k = tt
both_apply (Some i) (Some j) P Q h k = k h

-- disks that stand for the cells of a server stand for them while a turn is kept, or for those after it
pub leaves_either : (s : Server) (after : CircuitId → Cell) (p q : PairView) (second : Bool) → ServerStands s p
    → IfBoth (image_now p.first) (image_now p.second) (λ i j. StandFor (server_here s) (server_cells s) i.bytes j.bytes
    → PairLeavesInTurn second p q (λ c d. StandFor (server_here s) (server_cells s) c d ⊎ StandFor (server_here s) after c d))
    → LeavesEither (server_here s) (server_cells s) after p q
leaves_either s after p q second stands moments = (
  second,
  both_apply (image_now p.first) (image_now p.second)
      (λ i j. StandFor (server_here s) (server_cells s) i.bytes j.bytes)
      (λ i j. PairLeavesInTurn second p q
      (λ c d. StandFor (server_here s) (server_cells s) c d ⊎ StandFor (server_here s) after c d)) stands.stands.cells moments,
)

-- the turn wasn't kept
pub ends_unkept : (s : Server) (ns : List NodeId) (x y : Place) (came : List Arrival) (deeds : List Deed)
    → AllBring (server_here s) ns (server_served s) came deeds
    → LeavesEither (server_here s) (server_cells s) (cells_past (server_here s) (server_cells s) deeds) x.disks y.disks
    → y.ports ≡ grown_by came [] x.ports
    → ServingEnds (server_here s) ns (server_served s) x y
ends_unkept s ns x y came deeds brings leaves ports = record {
  kept = [];
  disks = x.disks;
  turns = refl;
  unasked = refl;
  came = came;
  deeds = deeds;
  lost = [];
  brings = brings;
  leaves = inr leaves;
  left = [];
  unsaid = [];
  departures = refl;
  ports = ports ∙ ap (λ (cs : List Arrival). grown_by cs [] x.ports) (sym (append-nil came));
}

-- the turn was kept
module _ (s : Server) (ns : List NodeId) (x y : Place) (w : Option PortsView) (came : List Arrival) (deeds : List Deed)
    (brings : AllBring (server_here s) ns (server_served s) came deeds)
    (leaves : LeavesEither (server_here s) (server_cells s) (cells_past (server_here s) (server_cells s) deeds) x.disks y.disks)
    (onward : PairOnward x.disks y.disks) (comes : w ≡ grown_by came [] x.ports)
    (ds : List Departure) (departs : ds ≡ departures_of (server_here s) (server_served s) deeds) where
  is_turn : AreTurns (server_here s) ns (server_served s) x.disks (record { came = came; deeds = deeds; disks = y.disks } ∷ []) y.disks
  is_turn = (record { brings = brings; leaves = leaves; onward = onward }, refl)

  departs_by : ds ≡ departures_of (server_here s) (server_served s) (deeds ++ [])
  departs_by = departs ∙ ap (departures_of (server_here s) (server_served s)) (sym (append-nil deeds))

  pub goes_kept : (r : Server) → server_here r ≡ server_here s → server_served r ≡ served_past (server_here s) (server_served s) deeds → ServerStands r y.disks
      → y.ports ≡ grown_by [] ds w
      → Goes (server_here s) ns (server_served s) x (record { came = came; deeds = deeds; disks = y.disks } ∷ []) y r
  goes_kept r same served stands ports = record {
    turns = is_turn;
    ports = ports ∙ ap (grown_by [] ds) comes ∙ grown_twice came [] [] ds x.ports ∙ ap (λ (gs : List Departure). grown_by (came ++ []) gs x.ports) departs_by;
    here_is = same;
    served_is = served ∙ ap (served_past (server_here s) (server_served s)) (sym (append-nil deeds));
    stands = stands;
  }

  pub ends_unsaid : LeavesPart ds w y.ports → ServingEnds (server_here s) ns (server_served s) x y
  ends_unsaid part = record {
    kept = record { came = came; deeds = deeds; disks = y.disks } ∷ [];
    disks = y.disks;
    turns = is_turn;
    unasked = refl;
    came = [];
    deeds = [];
    lost = [];
    brings = refl;
    leaves = inl refl;
    left = part.left;
    unsaid = part.unsaid;
    departures = sym departs_by ∙ part.parts;
    ports = part.ports ∙ ap (grown_by [] part.left) comes ∙ grown_twice came [] [] part.left x.ports
        ∙ ap (λ (cs : List Arrival). grown_by cs part.left x.ports) (sym (append-nil (came ++ [])));
  }

-- a server that kept a turn stands on its disks
pub stands_after : (s r : Server) (p q : PairView) → ServerStands s p → is_node_halted r.node ≡ false
    → PairStands is_record r.node.pairing (image_now q.first) (image_now q.second) → PairTellsAs p q
    → IfBoth (image_now p.first) (image_now p.second) (λ i j. StandFor (server_here s) (server_cells s) i.bytes j.bytes → ServerStands r q)
    → ServerStands r q
stands_after s r p q was running pair tells stands = record {
  running = running;
  stands = record {
    pair = pair;
    cells = by (image_now p.first) (image_now p.second) (image_now q.first) (image_now q.second) tells.0 tells.1
        (both_apply (image_now p.first) (image_now p.second) (λ i j. StandFor (server_here s) (server_cells s) i.bytes j.bytes)
        (λ i j. ServerStands r q) was.stands.cells stands)
        (λ h. h.stands.cells);
  };
}
  where
    by : (o p m n : Option Image) → is_some m ≡ is_some o → is_some n ≡ is_some p → IfBoth o p (λ i j. ServerStands r q)
        → (ServerStands r q → IfBoth m n (λ i j. StandFor (here_of r.node) (circuit_cell r.node) i.bytes j.bytes))
        → IfBoth m n (λ i j. StandFor (here_of r.node) (circuit_cell r.node) i.bytes j.bytes)
    by (Some i) (Some j) m n a b h f = f h
    by None p None n a b h f = tt
    by None p (Some i) n a b h f = absurd cc
    by (Some i) None None n a b h f = tt
    by (Some i) None (Some k) None a b h f = tt
    by (Some i) None (Some k) (Some l) a b h f = absurd cc

-- ---- disks that go on

pub pair_same : (p : PairView) → PairOnward p p
pair_same p = record { first = onward_same p.first; second = onward_same p.second }

pub pair_join : (p q r : PairView) → PairOnward p q → PairOnward q r → PairOnward p r
pair_join p q r a b = record { first = onward_join p.first q.first r.first a.first b.first; second = onward_join p.second q.second r.second a.second b.second }

pub risen_since : (p q r : PairView) → PairOnward p q → HasRisen q r → HasRisen p r
risen_since p q r on (inl rose) = inl (omega (arith, on.first.no_less, rose))
risen_since p q r on (inr rose) = inr (omega (arith, on.second.no_less, rose))

-- so many turns, in which nothing asked the process to stop
pub record GoesUnasked (here : NodeId) (ns : List NodeId) (v : Served) (x y : Place) (s : Server) (n : ℕ) : Type 0 where
  pub kept : List KeptTurn
  pub count : length kept ≡ n
  pub unasked : arrivals_stop (came_in kept) ≡ false
  pub goes : Goes here ns v x kept y s

-- one turn more, and whether something in it asks the process to stop
abbrev pub GoesOnce : NodeId → List NodeId → Served → Place → Place → Server → Bool → Type 0
GoesOnce here ns v x y r stops = (t : KeptTurn) × (stops ≡ arrivals_stop t.came) × Goes here ns v x (t ∷ []) y r

pub one_more : (here : NodeId) (ns : List NodeId) (v : Served) (x y z : Place) (s r : Server) (n : ℕ) (stops : Bool) → stops ≡ false
    → GoesUnasked here ns v x y s n → GoesOnce (server_here s) ns (server_served s) y z r stops → GoesUnasked here ns v x z r (n + 1)
one_more here ns v x y z s r n stops not was now = record {
  kept = was.kept ++ now.0 ∷ [];
  count = length_push was.kept now.0 ∙ ap (λ (k : ℕ). k + 1) was.count;
  unasked = ap arrivals_stop (came_append was.kept (now.0 ∷ [])) ∙ (stops_append (came_in was.kept) (now.0.came ++ [])
      ∙ (ap (λ (b : Bool). arrivals_stop (now.0.came ++ []) || b) was.unasked ∙ none));
  goes = goes_more here ns v x y z was.kept s was.goes (now.0 ∷ []) r now.2;
}
  where
    none : (arrivals_stop (now.0.came ++ []) || false) ≡ false
    none = ap (λ (cs : List Arrival). arrivals_stop cs || false) (append-nil now.0.came) ∙ ap (λ (b : Bool). b || false) (sym now.1 ∙ not)

-- the last one
pub stops_now : (here : NodeId) (ns : List NodeId) (v : Served) (x y z : Place) (s r : Server) (n turns : ℕ) (stops : Bool) → n < turns → stops ≡ true
    → GoesUnasked here ns v x y s n → GoesOnce (server_here s) ns (server_served s) y z r stops → StopsWithin turns here ns v x z
stops_now here ns v x y z s r n turns stops few is was now = record {
  before = was.kept;
  last = now.0;
  few = omega (arith, few, was.count);
  unasked = was.unasked;
  asked = sym now.1 ∙ is;
  server = r;
  goes = goes_more here ns v x y z was.kept s was.goes (now.0 ∷ []) r now.2;
}
