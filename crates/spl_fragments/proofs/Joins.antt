-- Bodies of a message are joined to it.
use Rattle.std.{specs.{Prelude.IsErr, Result.IsErrAnd}, proofs.Common.{◌≡◌, ◌≢◌, ℕ, zero, suc, ◌+◌, ◌≤◌, ◌<◌, ◌⊎◌, inl, inr, Bool, true, false, cond, ltb}}
use Rattle.std.proofs.Common.{List, [], ◌∷◌, ◌++◌, length, take, drop, Option, Some, None, Result, Ok, Err, IsTrue, get_or, refl, sym, ap, subst, ◌∙◌}
use Rattle.std.proofs.{Common.{append_assoc, append-nil, take-append-drop, length-append, length-drop, arith}, lemmas.Bool.{ltb-true, ltb-false, le-ltb}}
use Rattle.std.proofs.lemmas.{Bool.{lt-leb, eq-eqb, ne_eqb, cases_Bool}, List.{at_drop_all, at_drop_more, length-take-le}}
use Rattle.spl_base.specs.{Form.number_bytes, FormLaws.prefix_free, Prefix.prefix_of}
use Rattle.spl_frame.specs.declared.header.TheConstants.{LONGEST_BODY}
use Rattle.spl_wire.specs.{Forms.{message_form, exact_message}, declared.message.{Message.Message, TheConstants.LONGEST_MESSAGE}}
use Rattle.spl_wire.specs.declared.message.Message.TheVariants as message
use Rattle.spl_fragments.specs.{Parts.{message_bodies, cut_parts, parts}, Joining.{Joining, joining_after, after_by, all_of, join_answer, content, is_bad}}
use Rattle.spl_fragments.specs.Joining.{is_open_part, joined_message, judged_body, last_answer, message_of, some_of}
use Rattle.spl_fragments.specs.declared.{bodies.TheConstants.{LONGEST_PART, MORE, LAST}, fault.JoinFault.{JoinFault, TheVariants.NoMemory}}
use Rattle.spl_fragments.proofs.Cuts.{cut_by, cut_step, cut_more, cut_last}

-- ---- what one body is answered

judged_open : (held body : List ℕ) → is_bad (length held) body ≡ false → length held + length (content body) ≤ LONGEST_MESSAGE → is_open_part body ≡ true
    → judged_body held body ≡ Ok None
judged_open held body bad short opens = rw (bad, le-ltb LONGEST_MESSAGE (length held + length (content body)) short, opens) refl

judged_last : (held body : List ℕ) → is_bad (length held) body ≡ false → length held + length (content body) ≤ LONGEST_MESSAGE → is_open_part body ≡ false
    → judged_body held body ≡ some_of (message_of (held ++ content body))
judged_last held body bad short closed = rw (bad, le-ltb LONGEST_MESSAGE (length held + length (content body)) short, closed) refl

abbrev holding : List ℕ → Joining
holding held = record { held = held; fault = None }

-- a part that others follow
open_part : (held part : List ℕ) → length part ≡ LONGEST_PART → length held + length part ≤ LONGEST_MESSAGE → judged_body held (MORE ∷ part) ≡ Ok None
open_part held part size short = judged_open held (MORE ∷ part) (rw (eq-eqb (length part) LONGEST_PART size) refl) short refl

-- the last part
last_part : (held part : List ℕ) → 1 ≤ length held → 1 ≤ length part → LONGEST_BODY < length held + length part → length held + length part ≤ LONGEST_MESSAGE
    → judged_body held (LAST ∷ part) ≡ some_of (message_of (held ++ part))
last_part held part before some long short =
    judged_last held (LAST ∷ part)
    (rw (
      ne_eqb (length held) 0 (λ e. omega (arith, e, before)),
      ne_eqb (length part) 0 (λ e. omega (arith, e, some)),
      lt-leb (length held + length part) LONGEST_BODY long,
    ) refl) short refl

-- ---- parts after those that came

joins_cut : (k : ℕ) (held rest : List ℕ) (m : Message) (last : Result (Option Message) JoinFault) → length rest ≤ k → 1 ≤ length rest
    → LONGEST_BODY < length held + length rest
    → length held + length rest ≤ LONGEST_MESSAGE → message_of (held ++ rest) ≡ Ok m
    → last_answer (holding held) last (cut_parts LONGEST_PART (length rest) rest) ≡ Ok (Some m)
joins_cut zero held rest m last few some long short is = absurd (omega (arith, few, some))
joins_cut (suc k) held rest m last few some long short is = by (cases_Bool (ltb LONGEST_PART (length rest)))
    (λ all little left. joins_cut k (held ++ take LONGEST_PART rest) (drop LONGEST_PART rest) m (Ok None) little left (omega (arith, long, all))
    (omega (arith, short, all))
    (ap message_of (append_assoc held (take LONGEST_PART rest) (drop LONGEST_PART rest)
    ∙ ap (λ (l : List ℕ). held ++ l) (take-append-drop LONGEST_PART rest)) ∙ is))
  where
    Later : Type 0
    Later = (length (held ++ take LONGEST_PART rest) + length (drop LONGEST_PART rest) ≡ length held + length rest) → length (drop LONGEST_PART rest) ≤ k
        → 1 ≤ length (drop LONGEST_PART rest)
        → last_answer (holding (held ++ take LONGEST_PART rest)) (Ok None)
        (cut_parts LONGEST_PART (length (drop LONGEST_PART rest)) (drop LONGEST_PART rest)) ≡ Ok (Some m)

    by : (ltb LONGEST_PART (length rest) ≡ true) ⊎ (ltb LONGEST_PART (length rest) ≡ false) → Later
        → last_answer (holding held) last (cut_parts LONGEST_PART (length rest) rest) ≡ Ok (Some m)
    by (inl e) later =
        let much : LONGEST_PART < length rest = ltb-true LONGEST_PART (length rest) e in
        let size : length (take LONGEST_PART rest) ≡ LONGEST_PART = length-take-le LONGEST_PART rest (omega (arith, much)) in
        let left : length (drop LONGEST_PART rest) + LONGEST_PART ≡ length rest = omega (arith, much, length-drop LONGEST_PART rest) in
        let all : length (held ++ take LONGEST_PART rest) ≡ length held + LONGEST_PART =
        length-append held (take LONGEST_PART rest) ∙ ap (λ (n : ℕ). length held + n) size in
        let heard : judged_body held (MORE ∷ take LONGEST_PART rest) ≡ Ok None =
        open_part held (take LONGEST_PART rest) size (omega (arith, size, left, short)) in
        ap (last_answer (holding held) last) (cut_more LONGEST_PART rest (omega arith) much)
        ∙ ap (λ (r : Result (Option Message) JoinFault). last_answer (after_by held (take LONGEST_PART rest) r) r
        (cut_parts LONGEST_PART (length (drop LONGEST_PART rest)) (drop LONGEST_PART rest))) heard
        ∙ later (omega (arith, all, left)) (omega (arith, few, left)) (omega (arith, much, left))
    by (inr e) later =
        let end : length rest ≤ LONGEST_PART = ltb-false LONGEST_PART (length rest) e in
        ap (last_answer (holding held) last) (cut_last LONGEST_PART rest (omega arith) end)
        ∙ last_part held rest (omega (arith, end, long)) some long short
        ∙ ap some_of is

-- ---- messages

-- the first byte of a message, which is no tag of a part
pub record IsLane (tag : ℕ) : Type 0 where
  pub good : (bytes : List ℕ) → is_bad 0 (tag ∷ bytes) ≡ false
  pub whole : (bytes : List ℕ) → content (tag ∷ bytes) ≡ tag ∷ bytes
  pub closed : (bytes : List ℕ) → is_open_part (tag ∷ bytes) ≡ false

lane_one : IsLane 1
lane_one = record { good = λ bytes. refl; whole = λ bytes. refl; closed = λ bytes. refl }

lane_two : IsLane 2
lane_two = record { good = λ bytes. refl; whole = λ bytes. refl; closed = λ bytes. refl }

begins : (m : Message) → (tag : ℕ) × (bytes : List ℕ) × (message_form.spell m ≡ tag ∷ bytes) × IsLane tag
unfolding number_bytes
begins (message.Admin c b) = (1, _, refl, lane_one)
begins (message.Scabbard c s t b) = (2, _, refl, lane_two)

pub message_back : (m : Message) → IsTrue (message_form.fits m) → message_of (message_form.spell m) ≡ Ok m
unfolding message_of
message_back m fits =
    let bytes : List ℕ = message_form.spell m in
    let read : prefix_of message_form (bytes ++ []) ≡ Ok (m, length bytes) = rw (exact_message.again m [] 0 fits) (ap (λ (n : ℕ). Ok (m, n)) (omega arith)) in
    ap (all_of (length bytes)) (subst (λ (l : List ℕ). prefix_of message_form l ≡ Ok (m, length bytes)) (append-nil bytes) read)
    ∙ rw (eq-eqb (length bytes) (length bytes) refl) refl

whole_message : (m : Message) → IsTrue (message_form.fits m) → length (message_form.spell m) ≤ LONGEST_MESSAGE
    → judged_body [] (message_form.spell m) ≡ Ok (Some m)
whole_message m fits short = by (begins m)
  where
    by : (tag : ℕ) × (bytes : List ℕ) × (message_form.spell m ≡ tag ∷ bytes) × IsLane tag → judged_body [] (message_form.spell m) ≡ Ok (Some m)
    by (tag, bytes, is, lane) =
        ap (judged_body []) is
        ∙ judged_last [] (tag ∷ bytes) (lane.good bytes) (omega (arith, short, ap length is, ap length (lane.whole bytes))) (lane.closed bytes)
        ∙ ap (λ (l : List ℕ). some_of (message_of l)) (lane.whole bytes ∙ sym is)
        ∙ ap some_of (message_back m fits)

pub message_joined : (m : Message) → IsTrue (message_form.fits m) → length (message_form.spell m) ≤ LONGEST_MESSAGE
    → joined_message (message_bodies (message_form.spell m)) ≡ Ok (Some m)
message_joined m fits short = by (cases_Bool (ltb LONGEST_BODY (length bytes)))
  where
    bytes : List ℕ
    bytes = message_form.spell m

    by : (ltb LONGEST_BODY (length bytes) ≡ true) ⊎ (ltb LONGEST_BODY (length bytes) ≡ false) → joined_message (message_bodies bytes) ≡ Ok (Some m)
    by (inl e) =
        let long : LONGEST_BODY < length bytes = ltb-true LONGEST_BODY (length bytes) e in
        ap (λ (b : Bool). joined_message (cond b (parts bytes) (bytes ∷ []))) e
        ∙ joins_cut (length bytes) [] bytes m (Ok None) (omega arith) (omega (arith, long)) (omega (arith, long)) (omega (arith, short)) (message_back m fits)
    by (inr e) = ap (λ (b : Bool). joined_message (cond b (parts bytes) (bytes ∷ []))) e ∙ whole_message m fits short

-- ---- bodies of two messages

glue : List (List ℕ) → List ℕ
glue [] = []
glue (b ∷ bs) = content b ++ glue bs

glue_by : (n : ℕ) (bytes : List ℕ) (others : List (List ℕ)) (b : Bool) → glue others ≡ drop n bytes → glue (cut_by n b bytes others) ≡ bytes
unfolding glue
glue_by n bytes others true same = ap (λ (l : List ℕ). take n bytes ++ l) same ∙ take-append-drop n bytes
glue_by n bytes others false same = append-nil bytes

glue_cut : (n k : ℕ) (bytes : List ℕ) → glue (cut_parts n k bytes) ≡ bytes
unfolding glue
glue_cut n zero bytes = append-nil bytes
glue_cut n (suc k) bytes = ap glue (cut_step n k bytes) ∙ glue_by n bytes (cut_parts n k (drop n bytes)) (ltb n (length bytes)) (glue_cut n k (drop n bytes))

glue_bodies : (bytes : List ℕ) → content bytes ≡ bytes → glue (message_bodies bytes) ≡ bytes
unfolding glue
glue_bodies bytes whole = by (ltb LONGEST_BODY (length bytes))
  where
    by : (b : Bool) → glue (cond b (parts bytes) (bytes ∷ [])) ≡ bytes
    by true = glue_cut LONGEST_PART (length bytes) bytes
    by false = append-nil (content bytes) ∙ whole

message_glued : (m : Message) → glue (message_bodies (message_form.spell m)) ≡ message_form.spell m
message_glued m = by (begins m)
  where
    by : (tag : ℕ) × (bytes : List ℕ) × (message_form.spell m ≡ tag ∷ bytes) × IsLane tag → glue (message_bodies (message_form.spell m)) ≡ message_form.spell m
    by (tag, bytes, is, lane) = glue_bodies (message_form.spell m) (ap content is ∙ lane.whole bytes ∙ sym is)

pub one_message : (x y : Message) → IsTrue (message_form.fits x) → IsTrue (message_form.fits y)
    → message_bodies (message_form.spell x) ≡ message_bodies (message_form.spell y) → x ≡ y
one_message x y fits fits' same =
    let spelled : message_form.spell x ≡ message_form.spell y = sym (message_glued x) ∙ ap glue same ∙ message_glued y in
    (prefix_free message_form exact_message x y [] [] fits fits' (ap (λ (l : List ℕ). l ++ []) spelled)).0

-- ---- a fault is answered again

pub fault_stays : (held : List ℕ) (e : JoinFault) (bs : List (List ℕ)) → last_answer (record { held = held; fault = Some e }) (Err e) bs ≡ Err e
fault_stays held e [] = refl
fault_stays held e (b ∷ bs) = fault_stays held e bs

-- ---- one body after another

pub join_goes_on : (j k : Joining) (last found : Result (Option Message) JoinFault) (bs : List (List ℕ)) (i : ℕ) (b : List ℕ)
    (all : Result (Option Message) JoinFault) → i < length bs → b ≡ get_or bs i b
    → found ≡ join_answer j b → k ≡ joining_after j b → last_answer j last (drop i bs) ≡ all → last_answer k found (drop (i + 1) bs) ≡ all
join_goes_on j k last found bs i b all within at is next before =
    rw (is, next) (sym (at_drop_more (last_answer j last) bs i b within ∙ ap (λ (x : List ℕ). last_answer j last (x ∷ drop (i + 1) bs)) (sym at)) ∙ before)

pub join_fails : (j : Joining) (last : Result (Option Message) JoinFault) (e : JoinFault) (bs : List (List ℕ)) (i : ℕ) (b : List ℕ)
    (all : Result (Option Message) JoinFault) → i < length bs → b ≡ get_or bs i b
    → Err e ≡ join_answer j b → last_answer j last (drop i bs) ≡ all → Err e ≡ all
join_fails j last e bs i b all within at is before =
    sym (ap (λ (r : Result (Option Message) JoinFault). last_answer (after_by j.held (content b) r) r (drop (i + 1) bs)) (sym is)
    ∙ fault_stays j.held e (drop (i + 1) bs))
    ∙ sym (at_drop_more (last_answer j last) bs i b within ∙ ap (λ (x : List ℕ). last_answer j last (x ∷ drop (i + 1) bs)) (sym at)) ∙ before

pub join_ends : (j : Joining) (last : Result (Option Message) JoinFault) (bs : List (List ℕ)) (i : ℕ) (all : Result (Option Message) JoinFault)
    → length bs ≤ i → last_answer j last (drop i bs) ≡ all → last ≡ all
join_ends j last bs i all end before = sym (at_drop_all (last_answer j last) bs i end) ∙ before

abbrev failed : JoinFault → Result (Option Message) JoinFault
failed e = Err e

pub err_known : (r : Result (Option Message) JoinFault) (e : JoinFault) (all : Result (Option Message) JoinFault) → IsErr r × IsErrAnd r (λ y. y ≡ e)
    → ((failed e ≢ failed NoMemory) → failed e ≡ all) → (r ≢ failed NoMemory) → r ≡ all
err_known (Ok x) e all h f known = let bad : false ≡ true = h.0 in absurd cc
err_known (Err y) e all h f known =
    let same : failed y ≡ failed e = ap failed h.1 in
    same ∙ f (λ k. known (same ∙ k))
