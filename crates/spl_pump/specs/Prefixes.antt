-- What some messages put begins what they and later ones put.
use Rattle.std.{specs.List.{list_any, flat_map, filter}, proofs.Common.{◌≡◌, ℕ, Bool, true, false, ◌||◌, cond, min, max, List, [], ◌∷◌, ◌++◌, append_assoc}}
use Rattle.std.proofs.{Common.{refl, sym, ap, subst, ◌∙◌}, lemmas.{Bool.or_parts, List.{Concat.flat_map-append, Elements.filter-append}}}
use Rattle.std.proofs.lemmas.List.Folds.{list_any-append}
use Rattle.spl_agree.specs.World.{IsPrefixOf}
use Rattle.spl_registry.specs.Nodes.{Entry}
use Rattle.spl_pump.specs.Wires.{Carried, pair_frames, hand, have_met, is_between, is_on, carried_frames, wire_from}

frames_more : (sent later : List Carried) (a b : ℕ) → pair_frames (sent ++ later) a b ≡ pair_frames sent a b ++ pair_frames later a b
frames_more sent later a b = ap (flat_map carried_frames) (filter-append (is_on a b) sent later)
    ∙ flat_map-append carried_frames (filter (is_on a b) sent) (filter (is_on a b) later)

-- between two nodes of which no message went to the other there is no frame of one
no_frames : (sent : List Carried) (a b : ℕ) → list_any (is_between a b) sent ≡ false → pair_frames sent a b ≡ []
no_frames [] a b none = refl
no_frames (c ∷ cs) a b none =
    let these = or_parts (is_between a b c) (list_any (is_between a b) cs) none in
    let here : is_on a b c ≡ false = (or_parts (is_on a b c) (is_on b a c) these.0).0 in
    ap (λ (on : Bool). flat_map carried_frames (cond on (c ∷ filter (is_on a b) cs) (filter (is_on a b) cs))) here ∙ no_frames cs a b these.1

-- what two nodes put, by whether they have met, whether some messages went between them, and whether later ones do
begins : (met some others : Bool) (hand own rest : List ℕ) → (some ≡ false → own ≡ [])
    → IsPrefixOf (cond met own (cond some hand [] ++ own)) (cond met (own ++ rest) (cond (some || others) hand [] ++ (own ++ rest)))
begins true some others hand own rest none = (rest, refl)
begins false true others hand own rest none = (rest, append_assoc hand own rest)
begins false false others hand own rest none =
    (cond others hand [] ++ (own ++ rest), ap (λ (l : List ℕ). l ++ (cond others hand [] ++ (own ++ rest))) (none refl))

pub wire_prefix : (es : List Entry) (met : List (ℕ × ℕ)) (sent later : List Carried) (a b : ℕ)
    → IsPrefixOf (wire_from es met sent a b) (wire_from es met (sent ++ later) a b)
wire_prefix es met sent later a b =
    let known : Bool = have_met met (min a b) (max a b) in
    let own : List ℕ = wire_from es met sent a b in
    let all : List ℕ = pair_frames (sent ++ later) a b in
    let some : Bool = list_any (is_between a b) sent in
    let others : Bool = list_any (is_between a b) later in
    subst (λ (any : Bool). IsPrefixOf own (cond known all (cond any (hand es a b) [] ++ all))) (sym (list_any-append (is_between a b) sent later))
    (subst (λ (frames : List ℕ). IsPrefixOf own (cond known frames (cond (some || others) (hand es a b) [] ++ frames))) (sym (frames_more sent later a b))
    (begins known some others (hand es a b) (pair_frames sent a b) (pair_frames later a b) (no_frames sent a b)))
