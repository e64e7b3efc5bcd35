-- Which bytes the words of a line lack, and that they are read back.
use Rattle.std.{specs.{Prelude.codes, List.{list_all, join_with_byte}, Fmt.decimal}, proofs.Common.{◌≡◌, ℕ, ◌^◌, ◌≤◌, Bool, true, false, ◌&&◌, eqb, leb, ltb}}
use Rattle.std.proofs.{Common.{IsTrue, List, [], ◌∷◌, length, map, refl, sym, ap, ◌∙◌, arith, lit≤}, lemmas.Bool.{leb-true, le-leb, and_parts, and_from}}
use Rattle.std.proofs.{lemmas.{Bool.Decides.nat_tests, List.map-id}, Math.Bool.and-true}
use Rattle.spl_base.specs.Ids.{is_node_id, is_node_byte, is_service_id, is_base62, is_graphic, is_label}
use Rattle.spl_circuit.specs.declared.definition.{Definition.Definition, Service.Service}
use Rattle.spl_words.{specs.Words.{is_name, text, joined, end, ◌&◌, up_to}, proofs.WordLaws.{IsExact, Lacks, EachLacks, exact_text, exact_number, exact_flag}}
use Rattle.spl_words.proofs.WordLaws.{exact_end, exact_and, exact_up_to, exact_joined, exact_meaning, end_lacks, and_lacks, flag_lacks, up_to_lacks}
use Rattle.spl_words.proofs.{WordLaws.{joined_lacks, meaning_lacks, split_and, split_up_to}, RowLaws.{IsSound, node_lacks, service_id_lacks, name_lacks}}
use Rattle.spl_words.proofs.RowLaws.{number_lacks, sound_and, sound_end, sound_node, sound_circuit, sound_service, sound_that, sound_number}
use Rattle.spl_sched.specs.Grammar.{is_type, service_text, words_of_terms, is_service, is_definition, is_passes, is_between_two, service_word, service_parts}
use Rattle.spl_sched.specs.Grammar.{service_of, parts_of_service, any, terms, terms_of, answer, work, place, places, batch_words, way_words, delivery}
use Rattle.spl_sched.{specs.Grammar.{calm_words, node}, proofs.CommandLaws.{exact_address, address_lacks, exact_dashed, dashed_lacks}}
use Rattle.spl_sched.proofs.TransactionLaws.{exact_transactions, transactions_lack}

byte_is_graphic : (b : ℕ) → IsTrue (is_node_byte b) → IsTrue (is_graphic b)
byte_is_graphic b h = grind (arith, nat_tests)

bytes_are_graphic : (xs : List ℕ) → IsTrue (list_all is_node_byte xs) → IsTrue (list_all is_graphic xs)
bytes_are_graphic [] h = refl
bytes_are_graphic (x ∷ xs) h =
    let b = and_parts (is_node_byte x) (list_all is_node_byte xs) h in
    and_from (is_graphic x) (list_all is_graphic xs) (byte_is_graphic x b.0) (bytes_are_graphic xs b.1)

pub type_is_label : (xs : List ℕ) → IsTrue (is_type xs) → IsTrue (is_label xs)
type_is_label xs h =
    let b = and_parts (leb 1 (length xs) && leb (length xs) 32) (list_all is_node_byte xs) h in
    let few : length xs ≤ 32 = leb-true _ _ (and_parts (leb 1 (length xs)) (leb (length xs) 32) b.0).1 in
    and_from (leb (length xs) 128) (list_all is_graphic xs) (le-leb (length xs) 128 (omega arith)) (bytes_are_graphic xs b.1)

-- ---- services

service_parts_lack : (c : ℕ) → is_base62 c ≡ false → is_node_byte c ≡ false → EachLacks c service_parts
service_parts_lack c a b = and_lacks c _ _ (service_id_lacks c a) (and_lacks c _ _ (node_lacks c b) (and_lacks c _ _ (node_lacks c b) (end_lacks c)))

service_lacks : (c : ℕ) → is_base62 c ≡ false → is_node_byte c ≡ false → eqb 58 c ≡ false → Lacks c service_word
service_lacks c a b other =
    meaning_lacks c any service_of parts_of_service (joined 58 service_parts) (joined_lacks c 58 service_parts other (service_parts_lack c a b))

exact_service_parts : IsExact service_parts
exact_service_parts = exact_and _ _ (exact_text is_service_id) (exact_and _ _ (exact_text is_type) (exact_and _ _ (exact_text is_node_id) exact_end))

exact_service : IsExact service_word
exact_service = exact_meaning any service_of parts_of_service (joined 58 service_parts) (λ y h. refl) (λ x h. (refl, refl))
    (exact_joined 58 service_parts
    (split_and 58 (text is_service_id) (text is_type & text is_node_id & end) (service_parts_lack 58 refl refl)) exact_service_parts)

-- ---- definitions

members_lack : Lacks 32 (joined 44 (up_to 16 (text is_node_id)))
members_lack = joined_lacks 32 44 (up_to 16 (text is_node_id)) refl (up_to_lacks 32 16 (text is_node_id) (node_lacks 32 refl))

services_lack : Lacks 32 (joined 44 (up_to 16 service_word))
services_lack = joined_lacks 32 44 (up_to 16 service_word) refl (up_to_lacks 32 16 service_word (service_lacks 32 refl refl refl))

terms_lack : EachLacks 32 terms
terms_lack =
    and_lacks 32 _ _ (number_lacks 32 (2 ^ 32) refl (lit≤ tt)) (and_lacks 32 _ _ (number_lacks 32 (2 ^ 8) refl (lit≤ tt))
    (and_lacks 32 _ _ (name_lacks 32 refl)
    (and_lacks 32 _ _ (name_lacks 32 refl) (and_lacks 32 _ _ members_lack (and_lacks 32 _ _ services_lack (end_lacks 32))))))

exact_terms : IsExact terms
exact_terms =
    exact_and _ _ (exact_number (2 ^ 32) (lit≤ tt))
    (exact_and _ _ (exact_number (2 ^ 8) (lit≤ tt)) (exact_and _ _ (exact_text is_name) (exact_and _ _ (exact_text is_name)
    (exact_and _ _ (exact_joined 44 (up_to 16 (text is_node_id)) (split_up_to 44 16 (text is_node_id) (node_lacks 44 refl))
    (exact_up_to (text is_node_id) (exact_text is_node_id) 16))
    (exact_and _ _ (exact_joined 44 (up_to 16 service_word) (split_up_to 44 16 service_word (service_lacks 44 refl refl refl))
    (exact_up_to service_word exact_service 16)) exact_end)))))

-- ---- the words of the grammar are those of the reading

pub members_spelled : (ms : List (List ℕ)) → join_with_byte 44 (map (λ m. m) ms) ≡ join_with_byte 44 ms
members_spelled ms = ap (join_with_byte 44) (map-id ms)

pub terms_spelled : (d : Definition) → words_of_terms d ≡ terms.spell (terms_of d)
terms_spelled d =
    ap (λ (ms : List ℕ). decimal d.generation ∷ decimal d.version ∷ d.management ∷ d.name ∷ ms ∷ join_with_byte 44 (map service_text d.services) ∷ [])
    (sym (members_spelled d.members))

three : (a b c : Bool) → (a && b && c) ≡ (a && (b && (c && true)))
three true true c = sym (and-true c)
three true false c = refl
three false b c = refl

six : (a b c d e f : Bool) → (a && b && c && d && e && f) ≡ (a && (b && (c && (d && (e && (f && true))))))
six true true true true e f = three true e f
six true true true false e f = refl
six true true false d e f = refl
six true false c d e f = refl
six false b c d e f = refl

service_fits : (s : Service) → is_service s ≡ service_word.fits s
service_fits s = three (is_service_id s.id) (is_type s.kind) (is_node_id s.node)

pub terms_fit : (d : Definition) → is_definition d ≡ terms.fits (terms_of d)
terms_fit d = ap (λ (f : Service → Bool). ltb d.generation (2 ^ 32) && ltb d.version (2 ^ 8) && is_name d.management && is_name d.name
    && (leb 1 (length d.members) && leb (length d.members) 16 && list_all is_node_id d.members)
    && (leb 1 (length d.services) && leb (length d.services) 16 && list_all f d.services)) (λ i s. service_fits s i)
    ∙ six (ltb d.generation (2 ^ 32)) (ltb d.version (2 ^ 8)) (is_name d.management) (is_name d.name)
    (leb 1 (length d.members) && leb (length d.members) 16 && list_all is_node_id d.members)
    (leb 1 (length d.services) && leb (length d.services) 16 && list_all service_word.fits d.services)

-- ---- the kinds of words

pub sound_terms : IsSound terms
sound_terms = record { exact = exact_terms; lack = terms_lack }

pub sound_answer : IsSound answer
sound_answer = sound_and _ _ (exact_flag (codes "accept") (codes "reject") refl) (flag_lacks 32 (codes "accept") (codes "reject") refl refl) sound_end

pub sound_work : IsSound work
sound_work =
    sound_and _ _ (exact_number (2 ^ 64) (lit≤ tt)) (number_lacks 32 (2 ^ 64) refl (lit≤ tt))
    (record { exact = exact_transactions; lack = transactions_lack })

pub sound_place : IsSound place
sound_place = sound_and _ _ exact_address (address_lacks 32 refl) sound_end

pub sound_places : IsSound places
sound_places = sound_and _ _ exact_dashed dashed_lacks sound_end

pub sound_batch : IsSound batch_words
sound_batch = sound_and _ _ (exact_number (2 ^ 64) (lit≤ tt)) (number_lacks 32 (2 ^ 64) refl (lit≤ tt)) sound_end

pub sound_way : IsSound way_words
sound_way = sound_node _ (sound_service _ (sound_service _ sound_end))

pub sound_delivery : IsSound delivery
sound_delivery = sound_that is_between_two _ (sound_node _ (sound_node _ (sound_circuit _ (sound_number (leb 1) (2 ^ 32) end (lit≤ tt) sound_end))))

pub sound_calm : IsSound calm_words
sound_calm = sound_circuit _ (sound_number is_passes (2 ^ 8) end (lit≤ tt) sound_end)

pub sound_one_node : IsSound node
sound_one_node = sound_node end sound_end
