-- Each line has one spelling, and what is read is the line of that spelling.
use Rattle.std.{specs.{Prelude.{codes, Result, Ok, Err, IfOk}, List.{list_all, onto_first}, Option.option_map, Str.bytes_eq}, proofs.Common.{◌≡◌, ℕ, ◌^◌}}
use Rattle.std.proofs.Common.{◌≤◌, ◌<◌, Bool, true, false, not, ◌&&◌, leb, ltb, IsTrue, List, [], ◌∷◌, length, Some, None, refl, sym, ap, ◌∙◌, subst, arith}
use Rattle.std.proofs.{Common.lit≤, lemmas.Bool.{lt-ltb, leb-true, and_parts, and_from}, Math.Bool.and_assoc}
use Rattle.spl_base.specs.Ids.{is_node_byte, is_node_id, is_circuit_id, is_service_id}
use Rattle.spl_circuit.specs.declared.definition.Definition.{Definition}
use Rattle.spl_edge.specs.declared.fill.Fill.{Fill, TheVariants.{Old, New, Byte}}
use Rattle.spl_wire.specs.declared.event.Event.{Event}
use Rattle.spl_wire.specs.declared.event.Event.TheVariants as event
use Rattle.spl_words.specs.{Words.{Words, number, joined, end, Reads, that, kind, read_kind, ◌&◌, hex, split}, declared.fault.LineFault.LineFault}
use Rattle.spl_words.proofs.{Splits.{lacks, lacks_from}, WordLaws.{IsExact, Lacks, IsKind, AllKinds, is_kind, kinds_only, read_as, exact_number, exact_and}}
use Rattle.spl_words.proofs.{WordLaws.{exact_joined, exact_end, joined_lacks, map_some, same_bytes, itself}, HexLaws.{exact_hex, hex_lacks}, RowLaws.IsSound}
use Rattle.spl_words.proofs.RowLaws.{node_lacks, circuit_id_lacks, number_lacks, sound_and, sound_end, sound_number, sound_that}
use Rattle.spl_sched.specs.{Transactions.{is_address, is_prefix}, Grammar.{event_name, event_words, step_words, words_of, spelling, is_definition, is_event}}
use Rattle.spl_sched.specs.Grammar.{is_step, is_fill, is_passes, is_line, fill_words, fill_kinds, fill_parts, read_fill, fill, terms, terms_of, definition_of}
use Rattle.spl_sched.specs.Grammar.{proposed, answer, work, submitted, place, places, batch_words, way_words, delivery, delivered, asking_kinds, acting_kinds}
use Rattle.spl_sched.specs.Grammar.{worded_kinds, read_acting, read_event, read_at, read_step, is_inner_step, step, inner, calm_words, node, cut, failing}
use Rattle.spl_sched.specs.{Grammar.{line_kinds, read_words, line_words, line_of}, Checks.{check, check_of}, declared.line.{Line.Line, Step.Step}}
use Rattle.spl_sched.{specs.declared.line.{Step.TheVariants.{At, Deliver}, TheConstants.MOST_PASSES}, proofs.CheckLaws.{terms_of_check, check_fits}}
use Rattle.spl_sched.proofs.{CheckLaws.{fits_check, sound_check}, GrammarLaws.{terms_spelled, terms_fit, sound_terms, sound_answer, sound_work, sound_place}}
use Rattle.spl_sched.proofs.GrammarLaws.{sound_places, sound_batch, sound_way, sound_delivery, sound_calm, sound_one_node}
use Rattle.spl_sched.specs.declared.line.Line.TheVariants as line

infixr 10 ◌▹◌
abbrev ◌▹◌ : {A B : Type 0} → A → B → A × B
a ▹ b = (a, b)

-- ---- events

more : (b : Bool) → IsTrue b → IsTrue (b && true)
more b h = and_from b true h refl

less : (b : Bool) → IsTrue (b && true) → IsTrue b
less b h = (and_parts b true h).0

way_fits : (a b c : Bool) → IsTrue (a && b && c) → IsTrue (a && (b && (c && true)))
way_fits true true true h = refl
way_fits true true false h = h
way_fits true false c h = h
way_fits false b c h = h

fits_way : (a b c : Bool) → IsTrue (a && (b && (c && true))) → IsTrue (a && b && c)
fits_way true true true h = refl
fits_way true true false h = h
fits_way true false c h = h
fits_way false b c h = h

abbrev named_words : Event → List (List ℕ)
named_words e = event_name e ∷ event_words e

-- an event is read back from its words, and they have no space; its name is that of no other step or line
record IsSeen (id : List ℕ) (e : Event) : Type 0 where
  pub again : read_event id (event_name e) (event_words e) ≡ Some e
  pub lack : IsTrue (list_all (lacks 32) (named_words e))
  pub step : (xs : List (List ℕ)) → read_step (event_name e ∷ xs) ≡ read_at (event_name e) xs
  pub alone : (xs : List (List ℕ)) → read_words (event_name e ∷ xs) ≡ option_map line.Step (read_at (event_name e) xs)

module _ (id : List ℕ) {A : Type 0} (ws : Words A) (to : A → Event) (p : IsSound ws) (e : Event) (free : IsTrue (lacks 32 (event_name e)))
    (named : (xs : List (List ℕ)) → read_event id (event_name e) xs ≡ option_map to (ws.read xs))
    (step : (xs : List (List ℕ)) → read_step (event_name e ∷ xs) ≡ read_at (event_name e) xs)
    (alone : (xs : List (List ℕ)) → read_words (event_name e ∷ xs) ≡ option_map line.Step (read_at (event_name e) xs)) where
  seen : (x : A) → IsTrue (ws.fits x) → to x ≡ e → event_words e ≡ ws.spell x → IsSeen id e
  seen x h is words = record {
    again = ap (read_event id (event_name e)) words ∙ named (ws.spell x) ∙ read_as ws to x e p.exact h is;
    lack = and_from (lacks 32 (event_name e)) (list_all (lacks 32) (event_words e)) free
        (subst (λ (zs : List (List ℕ)). IsTrue (list_all (lacks 32) zs)) (sym words) (p.lack.free x h));
    step = step;
    alone = alone;
  }

-- a definition with the id of its line
module _ (id : List ℕ) (d : Definition) (h : IsTrue (is_event id (event.Propose d))) where
  own : IsTrue (bytes_eq d.id id)
  own = (and_parts (bytes_eq d.id id) (is_definition d) h).0

  proposal_is : proposed id (terms_of d) ≡ event.Propose d
  proposal_is = ap (λ (i : List ℕ). event.Propose (record d { id = i })) (sym (same_bytes d.id id own))

  proposal_fits : IsTrue (terms.fits (terms_of d))
  proposal_fits = sym (terms_fit d) ∙ (and_parts (bytes_eq d.id id) (is_definition d) h).1

event_seen : (id : List ℕ) (e : Event) → IsTrue (is_event id e) → IsSeen id e
event_seen id (event.Propose d) h =
    seen id terms (proposed id) sound_terms (event.Propose d) refl (λ xs. refl) (λ xs. refl) (λ xs. refl) (terms_of d) (proposal_fits id d h)
    (proposal_is id d h) (terms_spelled d)
event_seen id (event.Vote accept) h =
    seen id answer (λ x. event.Vote x.0) sound_answer (event.Vote accept) refl (λ xs. refl) (λ xs. refl) (λ xs. refl) (accept, tt) refl refl refl
event_seen id (event.Submit b) h =
    seen id work submitted sound_work (event.Submit b) refl (λ xs. refl) (λ xs. refl) (λ xs. refl) (b.id, b.transactions) h refl refl
event_seen id (event.Get a) h =
    seen id place (λ x. event.Get x.0) sound_place (event.Get a) refl (λ xs. refl) (λ xs. refl) (λ xs. refl) (a, tt) (more (is_address a) h) refl refl
event_seen id (event.Prove a) h =
    seen id place (λ x. event.Prove x.0) sound_place (event.Prove a) refl (λ xs. refl) (λ xs. refl) (λ xs. refl) (a, tt) (more (is_address a) h) refl refl
event_seen id (event.List p) h =
    seen id places (λ x. event.List x.0) sound_places (event.List p) refl (λ xs. refl) (λ xs. refl) (λ xs. refl) (p, tt) (more (is_prefix p) h) refl refl
event_seen id (event.Status b) h =
    seen id batch_words (λ x. event.Status x.0) sound_batch (event.Status b) refl (λ xs. refl) (λ xs. refl) (λ xs. refl) (b, tt)
    (more (ltb b (2 ^ 64)) h) refl refl
event_seen id (event.Receipt b) h =
    seen id batch_words (λ x. event.Receipt x.0) sound_batch (event.Receipt b) refl (λ xs. refl) (λ xs. refl) (λ xs. refl) (b, tt)
    (more (ltb b (2 ^ 64)) h) refl refl
event_seen id (event.Route from sender recipient) h =
    seen id way_words (λ x. event.Route x.0 x.1.0 x.1.1.0) sound_way (event.Route from sender recipient) refl (λ xs. refl) (λ xs. refl) (λ xs. refl)
    (from, (sender, (recipient, tt)))
    (way_fits (is_node_id from) (is_service_id sender) (is_service_id recipient) h) refl refl
event_seen id (event.Deliver from message) h = absurd cc
event_seen id event.Remove h = seen id end (λ x. event.Remove) sound_end event.Remove refl (λ xs. refl) (λ xs. refl) (λ xs. refl) tt refl refl refl
event_seen id event.Disband h = seen id end (λ x. event.Disband) sound_end event.Disband refl (λ xs. refl) (λ xs. refl) (λ xs. refl) tt refl refl refl
event_seen id event.Abandon h = seen id end (λ x. event.Abandon) sound_end event.Abandon refl (λ xs. refl) (λ xs. refl) (λ xs. refl) tt refl refl refl
event_seen id event.Purge h = seen id end (λ x. event.Purge) sound_end event.Purge refl (λ xs. refl) (λ xs. refl) (λ xs. refl) tt refl refl refl
event_seen id event.Show h = seen id end (λ x. event.Show) sound_end event.Show refl (λ xs. refl) (λ xs. refl) (λ xs. refl) tt refl refl refl
event_seen id event.Detail h = seen id end (λ x. event.Detail) sound_end event.Detail refl (λ xs. refl) (λ xs. refl) (λ xs. refl) tt refl refl refl
event_seen id event.Root h = seen id end (λ x. event.Root) sound_end event.Root refl (λ xs. refl) (λ xs. refl) (λ xs. refl) tt refl refl refl
event_seen id event.History h = seen id end (λ x. event.History) sound_end event.History refl (λ xs. refl) (λ xs. refl) (λ xs. refl) tt refl refl refl
event_seen id event.Tick h = seen id end (λ x. event.Tick) sound_end event.Tick refl (λ xs. refl) (λ xs. refl) (λ xs. refl) tt refl refl refl
event_seen id event.Expire h = seen id end (λ x. event.Expire) sound_end event.Expire refl (λ xs. refl) (λ xs. refl) (λ xs. refl) tt refl refl refl

kind_is : (id : List ℕ) {A : Type 0} {name : List ℕ} (ws : Words A) (to : A → Event) → IsSound ws
    → ((x : A) → IsTrue (ws.fits x) → (name ∷ ws.spell x ≡ named_words (to x)) × IsTrue (is_event id (to x)))
    → IsKind named_words (is_event id) (kind name ws to)
kind_is id {A} {name} ws to p means = is_kind named_words (is_event id) name ws to p.exact means

all_asking : (id : List ℕ) → AllKinds named_words (is_event id) asking_kinds
all_asking id =
    kind_is id end (λ x. event.Show) sound_end (λ x h. (refl, refl))
    ▹ kind_is id end (λ x. event.Root) sound_end (λ x h. (refl, refl))
    ▹ kind_is id end (λ x. event.History) sound_end (λ x h. (refl, refl))
    ▹ kind_is id end (λ x. event.Detail) sound_end (λ x h. (refl, refl))
    ▹ tt

all_acting : (id : List ℕ) → AllKinds named_words (is_event id) acting_kinds
all_acting id =
    kind_is id end (λ x. event.Tick) sound_end (λ x h. (refl, refl))
    ▹ kind_is id end (λ x. event.Expire) sound_end (λ x h. (refl, refl))
    ▹ kind_is id end (λ x. event.Remove) sound_end (λ x h. (refl, refl))
    ▹ kind_is id end (λ x. event.Disband) sound_end (λ x h. (refl, refl))
    ▹ kind_is id end (λ x. event.Abandon) sound_end (λ x h. (refl, refl))
    ▹ kind_is id end (λ x. event.Purge) sound_end (λ x h. (refl, refl))
    ▹ tt

all_worded : (id : List ℕ) → AllKinds named_words (is_event id) (worded_kinds id)
all_worded id =
    kind_is id terms (proposed id) sound_terms (λ x h. (
      ap (λ (zs : List (List ℕ)). codes "propose" ∷ zs) (sym (terms_spelled (definition_of id x))),
      and_from (bytes_eq id id) (is_definition (definition_of id x)) (itself id) (terms_fit (definition_of id x) ∙ h),
    ))
    ▹ kind_is id answer (λ x. event.Vote x.0) sound_answer (λ x h. (refl, refl))
    ▹ kind_is id work submitted sound_work (λ x h. (refl, h))
    ▹ kind_is id place (λ x. event.Get x.0) sound_place (λ x h. (refl, less (is_address x.0) h))
    ▹ kind_is id place (λ x. event.Prove x.0) sound_place (λ x h. (refl, less (is_address x.0) h))
    ▹ kind_is id places (λ x. event.List x.0) sound_places (λ x h. (refl, less (is_prefix x.0) h))
    ▹ kind_is id batch_words (λ x. event.Status x.0) sound_batch (λ x h. (refl, less (ltb x.0 (2 ^ 64)) h))
    ▹ kind_is id batch_words (λ x. event.Receipt x.0) sound_batch (λ x h. (refl, less (ltb x.0 (2 ^ 64)) h))
    ▹ kind_is id way_words (λ x. event.Route x.0 x.1.0 x.1.1.0) sound_way
    (λ x h. (refl, fits_way (is_node_id x.0) (is_service_id x.1.0) (is_service_id x.1.1.0) h))
    ▹ tt

none : {A : Type 0} {P : Type 0} (x : A) → None ≡ Some x → P
none x e = absurd cc

event_only : (id name : List ℕ) (xs : List (List ℕ)) (e : Event) → read_event id name xs ≡ Some e → (name ∷ xs ≡ named_words e) × IsTrue (is_event id e)
event_only id name xs e is =
    kinds_only named_words (is_event id) asking_kinds (read_acting id name xs) name xs e (all_asking id)
    (kinds_only named_words (is_event id) acting_kinds (read_kind (worded_kinds id) None name xs) name xs e (all_acting id)
    (kinds_only named_words (is_event id) (worded_kinds id) None name xs e (all_worded id) (none e))) is

-- ---- steps

-- a step is read back from its words, also alone in a line, and they have no space
record IsSeenStep (s : Step) : Type 0 where
  pub again : read_step (step_words s) ≡ Some s
  pub alone : read_words (step_words s) ≡ Some (line.Step s)
  pub lack : IsTrue (list_all (lacks 32) (step_words s))

at_again : (n id : List ℕ) (e : Event) → IsTrue (is_node_id n) → IsTrue (is_circuit_id id) → IsSeen id e
    → read_at (event_name e) (n ∷ id ∷ event_words e) ≡ Some (At n id e)
at_again n id e p q s =
    let a : is_node_id n ≡ true = p in
    let b : is_circuit_id id ≡ true = q in
    rw (a, b, s.again) refl

at_lacks : (n id : List ℕ) (e : Event) → IsTrue (is_node_id n) → IsTrue (is_circuit_id id) → IsSeen id e → IsTrue (list_all (lacks 32) (step_words (At n id e)))
at_lacks n id e p q s =
    let named = and_parts (lacks 32 (event_name e)) (list_all (lacks 32) (event_words e)) s.lack in
    and_from (lacks 32 (event_name e)) _ named.0
    (and_from (lacks 32 n) _ ((node_lacks 32 refl).free n p) (and_from (lacks 32 id) _ ((circuit_id_lacks 32 refl refl).free id q) named.1))

at_seen : (n id : List ℕ) (e : Event) → IsTrue (is_node_id n && is_circuit_id id && is_event id e) → IsSeenStep (At n id e)
at_seen n id e h =
    let outer = and_parts (is_node_id n && is_circuit_id id) (is_event id e) h in
    let ids = and_parts (is_node_id n) (is_circuit_id id) outer.0 in
    let s = event_seen id e outer.1 in
    let again = at_again n id e ids.0 ids.1 s in
    record {
      again = s.step (n ∷ id ∷ event_words e) ∙ again;
      alone = s.alone (n ∷ id ∷ event_words e) ∙ ap (option_map line.Step) again;
      lack = at_lacks n id e ids.0 ids.1 s;
    }

delivery_fits : (a b c d e : Bool) → IsTrue (a && b && c && d && e) → IsTrue (e && (a && (b && (c && (d && true)))))
delivery_fits true true true true true h = refl
delivery_fits true true true true false h = h
delivery_fits a b c d e h = absurd cc

fits_delivery : (a b c d e : Bool) → IsTrue (e && (a && (b && (c && (d && true))))) → IsTrue (a && b && c && d && e)
fits_delivery true true true true true h = refl
fits_delivery a b c d false h = absurd cc
fits_delivery true true true false true h = h
fits_delivery true true false d true h = h
fits_delivery true false c d true h = h
fits_delivery false b c d true h = h

step_seen : (s : Step) → IsTrue (is_step s) → IsSeenStep s
step_seen (At n id e) h = at_seen n id e h
step_seen (Deliver from to id number) h =
    let fits = delivery_fits (is_node_id from) (is_node_id to) (is_circuit_id id) (leb 1 number && ltb number (2 ^ 32)) (not (bytes_eq from to)) h in
    let found : option_map delivered (delivery.read (delivery.spell (from, (to, (id, (number, tt)))))) ≡ Some (Deliver from to id number) =
    read_as delivery delivered (from, (to, (id, (number, tt)))) _ sound_delivery.exact fits refl in
    record {
      again = found;
      alone = ap (option_map line.Step) found;
      lack = and_from (lacks 32 (codes "deliver")) _ refl (sound_delivery.lack.free (from, (to, (id, (number, tt)))) fits);
    }

-- a node and a circuit between the name and the words after it
abbrev between : List ℕ → List ℕ → List (List ℕ) → List (List ℕ)
between n id [] = []
between n id (x ∷ xs) = x ∷ n ∷ id ∷ xs

at_only : (name : List ℕ) (xs : List (List ℕ)) (s : Step) → read_at name xs ≡ Some s → (name ∷ xs ≡ step_words s) × IsTrue (is_step s)
at_only name [] s is = absurd cc
at_only name (n ∷ []) s is = at_one (is_node_id n) refl
  where
    at_one : (a : Bool) → is_node_id n ≡ a → (name ∷ n ∷ [] ≡ step_words s) × IsTrue (is_step s)
    at_one true a = absurd (let no : None ≡ Some s = rw a at is in cc)
    at_one false a = absurd (let no : None ≡ Some s = rw a at is in cc)
at_only name (n ∷ id ∷ xs) s is = at_both (is_node_id n) (is_circuit_id id) refl refl is
  where
    at_both : (a b : Bool) → is_node_id n ≡ a → is_circuit_id id ≡ b → read_at name (n ∷ id ∷ xs) ≡ Some s
        → (name ∷ n ∷ id ∷ xs ≡ step_words s) × IsTrue (is_step s)
    at_both false b p q e = absurd (let no : None ≡ Some s = rw p at e in cc)
    at_both true false p q e = absurd (let no : None ≡ Some s = rw (p, q) at e in cc)
    at_both true true p q e =
        let found : option_map (At n id) (read_event id name xs) ≡ Some s = rw (p, q) at e in
        let m = map_some (At n id) (read_event id name xs) s found in
        let o = event_only id name xs m.0 m.1 in
        subst (λ (z : Step). (name ∷ n ∷ id ∷ xs ≡ step_words z) × IsTrue (is_step z)) m.2
        (ap (between n id) o.0, and_from (is_node_id n && is_circuit_id id) (is_event id m.0) (and_from (is_node_id n) (is_circuit_id id) p q) o.1)

deliveries : IsKind step_words is_step (kind (codes "deliver") delivery delivered)
deliveries = is_kind step_words is_step (codes "deliver") delivery delivered sound_delivery.exact (λ x h.
    (refl, fits_delivery (is_node_id x.0) (is_node_id x.1.0) (is_circuit_id x.1.1.0) (leb 1 x.1.1.1.0 && ltb x.1.1.1.0 (2 ^ 32)) (not (bytes_eq x.0 x.1.0)) h))

step_only : (ws : List (List ℕ)) (s : Step) → read_step ws ≡ Some s → (ws ≡ step_words s) × IsTrue (is_step s)
step_only [] s e = absurd cc
step_only (name ∷ xs) s e =
    kinds_only step_words is_step (kind (codes "deliver") delivery delivered ∷ []) (read_at name xs) name xs s (deliveries ▹ tt) (at_only name xs s) e

sound_step : IsSound step
sound_step = record { exact = record { again = λ s h. (step_seen s h).again; only = step_only }; lack = record { free = λ s h. (step_seen s h).lack } }

sound_inner : IsSound inner
sound_inner = sound_that is_inner_step step sound_step

-- ---- what a disk keeps

fill_again : (f : Fill) → IsTrue (is_fill f) → read_fill (fill_words f) ≡ Some f
fill_again Old h = refl
fill_again New h = refl
fill_again (Byte b) h = read_as (hex & end) (λ x. Byte x.0) (b, tt) (Byte b) (exact_and hex end exact_hex exact_end) (more (ltb b 256) h) refl

all_fills : AllKinds fill_words is_fill fill_kinds
all_fills =
    is_kind fill_words is_fill (codes "old") end (λ x. Old) exact_end (λ x h. (refl, refl))
    ▹ is_kind fill_words is_fill (codes "new") end (λ x. New) exact_end (λ x h. (refl, refl))
    ▹ is_kind fill_words is_fill (codes "byte") (hex & end) (λ x. Byte x.0) (exact_and hex end exact_hex exact_end) (λ x h. (refl, less (ltb x.0 256) h))
    ▹ tt

fill_only : (ws : List (List ℕ)) (f : Fill) → read_fill ws ≡ Some f → (ws ≡ fill_words f) × IsTrue (is_fill f)
fill_only [] f e = absurd cc
fill_only (name ∷ xs) f e = kinds_only fill_words is_fill fill_kinds None name xs f all_fills (none f) e

fill_free : (c : ℕ) → is_node_byte c ≡ false → (f : Fill) → IsTrue (is_fill f) → IsTrue (list_all (lacks c) (fill_words f))
fill_free c other Old h = and_from (lacks c (codes "old")) true (lacks_from is_node_byte c other (codes "old") refl) refl
fill_free c other New h = and_from (lacks c (codes "new")) true (lacks_from is_node_byte c other (codes "new") refl) refl
fill_free c other (Byte b) h =
    and_from (lacks c (codes "byte")) _ (lacks_from is_node_byte c other (codes "byte") refl)
    (and_from (lacks c (hex.spell b)) true ((hex_lacks c other).free b h) refl)

fill_some : (f : Fill) → 0 < length (fill_words f)
fill_some Old = omega arith
fill_some New = omega arith
fill_some (Byte b) = omega arith

exact_fill : IsExact fill
exact_fill = exact_joined 58 fill_parts (record { some = λ f h. fill_some f; each = fill_free 58 refl }) (record { again = fill_again; only = fill_only })

fill_lacks : Lacks 32 fill
fill_lacks = joined_lacks 32 58 fill_parts refl (record { free = fill_free 32 refl })

-- ---- lines

sound_cut : IsSound cut
sound_cut = sound_and _ _ (exact_number (2 ^ 8) (lit≤ tt)) (number_lacks 32 (2 ^ 8) refl (lit≤ tt)) (sound_and fill inner exact_fill fill_lacks sound_inner)

sound_failing : IsSound failing
sound_failing = sound_number (leb 1) (2 ^ 8) inner (lit≤ tt) sound_inner

cut_fits : (calls : ℕ) (f : Fill) (s : Step) → is_line (line.Cut calls f s) ≡ cut.fits (calls, (f, s))
cut_fits calls f s =
    and_assoc (ltb calls (2 ^ 8) && is_fill f) (is_inner_step s) (is_step s) ∙ and_assoc (ltb calls (2 ^ 8)) (is_fill f) (is_inner_step s && is_step s)

fail_fits : (call : ℕ) (s : Step) → is_line (line.Fail call s) ≡ failing.fits (call, s)
fail_fits call s = and_assoc (leb 1 call && ltb call (2 ^ 8)) (is_inner_step s) (is_step s)

-- a line is read back from its words, and they have no space
record IsRead (l : Line) : Type 0 where
  pub again : read_words (words_of l) ≡ Some l
  pub lack : IsTrue (list_all (lacks 32) (words_of l))

read_so : {A : Type 0} (name : List ℕ) (ws : Words A) (to : A → Line) → IsSound ws → IsTrue (lacks 32 name)
    → ((xs : List (List ℕ)) → read_words (name ∷ xs) ≡ option_map to (ws.read xs)) → (x : A) (l : Line) → IsTrue (ws.fits x) → to x ≡ l
    → words_of l ≡ name ∷ ws.spell x → IsRead l
read_so name ws to p free named x l h e words = record {
  again = ap read_words words ∙ named (ws.spell x) ∙ read_as ws to x l p.exact h e;
  lack = subst (λ (zs : List (List ℕ)). IsTrue (list_all (lacks 32) zs)) (sym words)
      (and_from (lacks 32 name) (list_all (lacks 32) (ws.spell x)) free (p.lack.free x h));
}

few : (n : ℕ) → IsTrue (is_passes n) → IsTrue (ltb n (2 ^ 8))
few n h = let b = and_parts (leb 1 n) (leb n MOST_PASSES) h in let le : n ≤ MOST_PASSES = leb-true n MOST_PASSES b.1 in lt-ltb n (2 ^ 8) (omega arith)

passes_fit : (n : ℕ) → IsTrue (is_passes n) → IsTrue ((that is_passes (number (2 ^ 8))).fits n)
passes_fit n h = and_from (is_passes n) (ltb n (2 ^ 8)) h (few n h)

line_read : (l : Line) → IsTrue (is_line l) → IsRead l
line_read (line.Step s) h = record { again = (step_seen s h).alone; lack = (step_seen s h).lack }
line_read (line.Calm id n) h =
    let b = and_parts (is_circuit_id id) (is_passes n) h in
    read_so (codes "calm") calm_words (λ x. line.Calm x.0 x.1.0) sound_calm refl (λ xs. refl) (id, (n, tt)) _
    (and_from (is_circuit_id id) _ b.0 (more _ (passes_fit n b.1))) refl refl
line_read (line.Stop n) h = read_so (codes "stop") node (λ x. line.Stop x.0) sound_one_node refl (λ xs. refl) (n, tt) _ (more _ h) refl refl
line_read (line.Start n) h = read_so (codes "start") node (λ x. line.Start x.0) sound_one_node refl (λ xs. refl) (n, tt) _ (more _ h) refl refl
line_read (line.Roll n) h = read_so (codes "roll") node (λ x. line.Roll x.0) sound_one_node refl (λ xs. refl) (n, tt) _ (more _ h) refl refl
line_read (line.Check c) h =
    read_so (codes "check") check (λ x. line.Check (check_of x)) sound_check refl (λ xs. refl) (terms_of_check c) _ (check_fits c h) refl refl
line_read (line.Cut calls f s) h =
    read_so (codes "cut") cut (λ x. line.Cut x.0 x.1.0 x.1.1) sound_cut refl (λ xs. refl) (calls, (f, s)) _ (sym (cut_fits calls f s) ∙ h) refl refl
line_read (line.Fail call s) h =
    read_so (codes "fail") failing (λ x. line.Fail x.0 x.1) sound_failing refl (λ xs. refl) (call, s) _ (sym (fail_fits call s) ∙ h) refl refl

fits_calm : (x : List ℕ × (ℕ × Unit {0})) → IsTrue (calm_words.fits x) → IsTrue (is_circuit_id x.0 && is_passes x.1.0)
fits_calm x h =
    let b = and_parts (is_circuit_id x.0) ((is_passes x.1.0 && ltb x.1.0 (2 ^ 8)) && true) h in
    and_from (is_circuit_id x.0) (is_passes x.1.0) b.0 (and_parts (is_passes x.1.0) (ltb x.1.0 (2 ^ 8)) (less _ b.1)).0

all_lines : AllKinds words_of is_line line_kinds
all_lines =
    is_kind words_of is_line (codes "calm") calm_words (λ x. line.Calm x.0 x.1.0) sound_calm.exact (λ x h. (refl, fits_calm x h))
    ▹ is_kind words_of is_line (codes "stop") node (λ x. line.Stop x.0) sound_one_node.exact (λ x h. (refl, less _ h))
    ▹ is_kind words_of is_line (codes "start") node (λ x. line.Start x.0) sound_one_node.exact (λ x h. (refl, less _ h))
    ▹ is_kind words_of is_line (codes "roll") node (λ x. line.Roll x.0) sound_one_node.exact (λ x h. (refl, less _ h))
    ▹ is_kind words_of is_line (codes "check") check (λ x. line.Check (check_of x)) sound_check.exact (λ x h. (refl, fits_check x h))
    ▹ is_kind words_of is_line (codes "cut") cut (λ x. line.Cut x.0 x.1.0 x.1.1) sound_cut.exact (λ x h. (refl, cut_fits x.0 x.1.0 x.1.1 ∙ h))
    ▹ is_kind words_of is_line (codes "fail") failing (λ x. line.Fail x.0 x.1) sound_failing.exact (λ x h. (refl, fail_fits x.0 x.1 ∙ h))
    ▹ tt

step_line : (ws : List (List ℕ)) (l : Line) → option_map line.Step (read_step ws) ≡ Some l → (ws ≡ words_of l) × IsTrue (is_line l)
step_line ws l e =
    let m = map_some line.Step (read_step ws) l e in
    subst (λ (z : Line). (ws ≡ words_of z) × IsTrue (is_line z)) m.2 (step_only ws m.0 m.1)

line_only : (ws : List (List ℕ)) (l : Line) → read_words ws ≡ Some l → (ws ≡ words_of l) × IsTrue (is_line l)
line_only [] l e = absurd cc
line_only (name ∷ xs) l e =
    kinds_only words_of is_line line_kinds (option_map line.Step (read_step (name ∷ xs))) name xs l all_lines (step_line (name ∷ xs) l) e

some_word : (l : Line) → 0 < length (words_of l)
some_word (line.Step (At n id e)) = omega arith
some_word (line.Step (Deliver from to id n)) = omega arith
some_word l = omega arith

exact_line : IsExact (joined 32 line_words)
exact_line =
    exact_joined 32 line_words (record { some = λ l h. some_word l; each = λ l h. (line_read l h).lack })
    (record { again = λ l h. (line_read l h).again; only = line_only })

-- ---- the laws

pub read_back : (l : Line) → IsTrue (is_line l) → line_of (spelling l) ≡ Some l
read_back = exact_line.again

pub spelled_so : (bytes : List ℕ) (l : Line) → line_of bytes ≡ Some l → (bytes ≡ spelling l) × IsTrue (is_line l)
spelled_so = exact_line.only

pub same_spelling : (l m : Line) → IsTrue (is_line l) → IsTrue (is_line m) → spelling l ≡ spelling m → l ≡ m
same_spelling l m h k e = let both : Some l ≡ Some m = sym (read_back l h) ∙ ap line_of e ∙ read_back m k in cc

-- a line by its words
pub by_words : (bytes : List ℕ) (words : List (List ℕ)) (r : Result Line LineFault) → words ≡ split 32 bytes → Reads r (read_words words)
    → IfOk r (λ l. (bytes ≡ spelling l) × IsTrue (is_line l))
by_words bytes words (Ok l) parts e = spelled_so bytes l (ap read_words (sym parts) ∙ e)
by_words bytes words (Err f) parts e = tt

pub read_back_at : (bytes : List ℕ) (l : Line) → bytes ≡ spelling l → IsTrue (is_line l) → line_of bytes ≡ Some l
read_back_at bytes l e h = ap line_of e ∙ read_back l h

-- no step begins with a name that no event has
at_none : (name : List ℕ) → ((id : List ℕ) (ys : List (List ℕ)) → read_event id name ys ≡ None) → (xs : List (List ℕ)) → read_at name xs ≡ None
at_none name none_is [] = refl
at_none name none_is (n ∷ []) = at_one (is_node_id n) refl
  where
    at_one : (a : Bool) → is_node_id n ≡ a → read_at name (n ∷ []) ≡ None
    at_one true p = rw p refl
    at_one false p = rw p refl
at_none name none_is (n ∷ id ∷ ys) = at_both (is_node_id n) (is_circuit_id id) refl refl
  where
    at_both : (a b : Bool) → is_node_id n ≡ a → is_circuit_id id ≡ b → read_at name (n ∷ id ∷ ys) ≡ None
    at_both false b p q = rw p refl
    at_both true false p q = rw (p, q) refl
    at_both true true p q = rw (p, q, none_is id ys) refl

-- the first word of what begins so begins so
first_of : (ws : List (List ℕ)) → read_words (onto_first 35 ws) ≡ None
first_of [] = refl
first_of (w ∷ ws) = ap (option_map line.Step) (at_none (35 ∷ w) (λ id ys. refl) ws)

pub comment : (bytes : List ℕ) → line_of (35 ∷ bytes) ≡ None
comment bytes = first_of (split 32 bytes)
