-- What an end hears of what was put.
use Rattle.std.{specs.{List.{All, AllByRecursion, flat_map, list_any, position_from}, Option.option_map_or}, proofs.Common.{◌≡◌, ◌≤◌, ◌+◌, ◌||◌, ℕ, Bool}}
use Rattle.std.proofs.Common.{true, false, cond, List, [], ◌∷◌, ◌++◌, length, Option, Some, None, Result, Ok, Err, IsTrue, refl, sym, ap, subst, ◌∙◌}
use Rattle.std.proofs.{Common.{append-nil, arith}, lemmas.List.{Concat.flat_map-cons, Elements.{All-cons, recursion_from_All}}}
use Rattle.spl_base.specs.Ids.{is_node_id}
use Rattle.spl_frame.specs.Frames.{IsBody, frame, frames_of}
use Rattle.spl_link.{specs.{Greetings.greeting, declared.fault.LinkFault.TheVariants.{NotHello, Unknown}}, proofs.Readings.{greeting_short, peer_is_heard}}
use Rattle.spl_link.proofs.Readings.{read_back}
use Rattle.spl_fragments.specs.{Joining.{Joining, after_by, join_answer, content, empty_joining, joined_message, last_answer}, Parts.IsSized}
use Rattle.spl_fragments.specs.{Parts.message_bodies, declared.fault.JoinFault.JoinFault}
use Rattle.spl_fragments.specs.Joining as parts
use Rattle.spl_registry.specs.Nodes.{Entry, is_of, knows, slot_of}
use Rattle.spl_wire.specs.{Forms.message_form, declared.message.{Message.Message as MessageValue, TheConstants.LONGEST_MESSAGE}}
use Rattle.spl_talk.specs.Talks.{End, admitted_peer, talk_end_after, expected, hello, is_before, is_lower_node, known_node, listening, named_opener}
use Rattle.spl_talk.specs.{Talks.{names_peer, of_link, opener, opening, says, says_by, tells}, Connections.{HasFrames, HearsAll, HearsPrefix, IsOf}}
use Rattle.spl_talk.specs.{Connections.{MayConnect, all_from, before, hears, hears_on, messages_in, puts}, declared.fault.TalkFault.TalkFault}
use Rattle.spl_talk.{specs.declared.{side.Side.TheVariants.Knows, spoken.Spoken.{Spoken, TheVariants.{Name, Message, Part}}}, proofs.Bodies.AreOpen}
use Rattle.spl_talk.proofs.{Bodies.{EndsOnce, bodies_end, open_goes_on}, Frames.{bodies_of, bodies_short, framed, frames_of_all, frames_of_prefix}}
use Rattle.spl_talk.specs.declared.fault.TalkFault.TheVariants as fault

abbrev Answer : Type 0
Answer = Result (Option MessageValue) JoinFault

abbrev some : MessageValue → Answer
some m = Ok (Some m)

-- an end that knows its peer
abbrev pub knowing : List ℕ → List ℕ → Joining → End
knowing here peer parts = record { here = here; side = Knows peer; parts = parts }

-- Of bodies of these messages, after which others are left, an end hears no fault, and a prefix of the messages: all of them where none are left
pub record Told (es : List Entry) (t : End) (peer : List ℕ) (bs : List (List ℕ)) (ms : List MessageValue) (left : List (List ℕ)) : Type 0 where
  pub said : List Spoken
  pub heard : hears es t bs ≡ Ok said
  pub others : List (List ℕ × MessageValue)
  pub prefix : messages_in said ++ others ≡ all_from peer ms
  pub all : left ≡ [] → others ≡ []

some_left : (left bs : List (List ℕ)) (b : List ℕ) → left ≡ b ∷ bs → left ≡ [] → ⊥
some_left left bs b is none = absurd cc

-- none have come
nothing_told : (es : List Entry) (t : End) (peer : List ℕ) (ms : List MessageValue) (b : List ℕ) (bs left : List (List ℕ)) → left ≡ b ∷ bs
    → Told es t peer [] ms left
nothing_told es t peer ms b bs left is = record {
  said = [];
  heard = refl;
  others = all_from peer ms;
  prefix = refl;
  all = λ none. absurd (some_left left bs b is none);
}

same_head : (x y : List ℕ) (xs ys : List (List ℕ)) → x ∷ xs ≡ y ∷ ys → x ≡ y
same_head x y xs ys e = cc

same_tail : (x y : List ℕ) (xs ys : List (List ℕ)) → x ∷ xs ≡ y ∷ ys → xs ≡ ys
same_tail x y xs ys e = cc

abbrev told : Spoken → Result Spoken TalkFault
told s = Ok s

-- a body says this, and then the others
pub hears_first : (es : List Entry) (t : End) (b : List ℕ) (bs : List (List ℕ)) (said : Spoken) → says es t b ≡ told said
    → hears es t (b ∷ bs) ≡ before said (hears es (talk_end_after t b said) bs)
hears_first es t b bs said is = ap (λ (r : Result Spoken TalkFault). hears_on r (λ s. hears es (talk_end_after t b s) bs)) is

-- ---- one message

module _ (es : List Entry) (here peer : List ℕ) where
  -- a part that others follow
  part_told : (j : Joining) (b : List ℕ) (bs left : List (List ℕ)) (ms : List MessageValue) → join_answer j b ≡ Ok None
      → Told es (knowing here peer (parts.joining_after j b)) peer bs ms left → Told es (knowing here peer j) peer (b ∷ bs) ms left
  part_told j b bs left ms is later = record {
    said = Part ∷ later.said;
    heard = hears_first es (knowing here peer j) b bs Part (ap (tells peer) is) ∙ ap (before Part) later.heard;
    others = later.others;
    prefix = later.prefix;
    all = later.all;
  }

  -- a message
  message_told : (j : Joining) (b : List ℕ) (bs left : List (List ℕ)) (m : MessageValue) (ms : List MessageValue) → join_answer j b ≡ some m
      → Told es (knowing here peer empty_joining) peer bs ms left → Told es (knowing here peer j) peer (b ∷ bs) (m ∷ ms) left
  message_told j b bs left m ms is later =
      let free : parts.joining_after j b ≡ empty_joining = ap (after_by j.held (content b)) is in
      record {
        said = Message peer m ∷ later.said;
        heard = hears_first es (knowing here peer j) b bs (Message peer m) (ap (tells peer) is)
            ∙ ap (λ (p : Joining). before (Message peer m) (hears es (knowing here peer p) bs)) free
            ∙ ap (before (Message peer m)) later.heard;
        others = later.others;
        prefix = ap (λ (l : List (List ℕ × MessageValue)). (peer, m) ∷ l) later.prefix;
        all = later.all;
      }

  -- all bodies of a message, or some of them
  bodies_told : (opens : List (List ℕ)) (last : List ℕ) (j : Joining) (found : Answer) (bs rest left : List (List ℕ)) (m : MessageValue)
      (ms : List MessageValue)
      → AreOpen opens → last_answer j found (opens ++ last ∷ []) ≡ some m → bs ++ left ≡ (opens ++ last ∷ []) ++ rest
      → ((cs : List (List ℕ)) → cs ++ left ≡ rest → Told es (knowing here peer empty_joining) peer cs ms left)
      → Told es (knowing here peer j) peer bs (m ∷ ms) left
  bodies_told [] last j found [] rest left m ms opened ends is later = nothing_told es (knowing here peer j) peer (m ∷ ms) last rest left is
  bodies_told [] last j found (b ∷ bs) rest left m ms opened ends is later =
      message_told j b bs left m ms (ap (join_answer j) (same_head b last (bs ++ left) rest is) ∙ ends) (later bs (same_tail b last (bs ++ left) rest is))
  bodies_told (o ∷ opens) last j found [] rest left m ms opened ends is later =
      nothing_told es (knowing here peer j) peer (m ∷ ms) o ((opens ++ last ∷ []) ++ rest) left is
  bodies_told (o ∷ opens) last j found (b ∷ bs) rest left m ms opened ends is later =
      let same : b ≡ o = same_head b o (bs ++ left) ((opens ++ last ∷ []) ++ rest) is in
      let further : bs ++ left ≡ (opens ++ last ∷ []) ++ rest = same_tail b o (bs ++ left) ((opens ++ last ∷ []) ++ rest) is in
      let none : join_answer j o ≡ Ok None = open_goes_on j o (opens ++ last ∷ []) m opened.0 ends in
      let onward : Told es (knowing here peer (parts.joining_after j o)) peer bs (m ∷ ms) left
      = bodies_told opens last (parts.joining_after j o) (join_answer j o) bs rest left m ms opened.1 ends further later in
      subst (λ (x : List ℕ). Told es (knowing here peer j) peer (x ∷ bs) (m ∷ ms) left) (sym same) (part_told j o bs left (m ∷ ms) none onward)

-- ---- messages

no_bodies : (bs left : List (List ℕ)) → bs ++ left ≡ [] → bs ≡ []
no_bodies [] left is = refl
no_bodies (b ∷ bs) left is = absurd cc

abbrev pub IsJoined : MessageValue → Type 0
IsJoined m = IsTrue (message_form.fits m) → length (message_form.spell m) ≤ LONGEST_MESSAGE → joined_message (message_bodies (message_form.spell m)) ≡ some m

pub messages_told : (es : List Entry) (here peer : List ℕ) → ((m : MessageValue) → IsJoined m) → (ms : List MessageValue) → AllByRecursion HasFrames ms
    → (bs left : List (List ℕ)) → bs ++ left ≡ flat_map bodies_of ms → Told es (knowing here peer empty_joining) peer bs ms left
messages_told es here peer join [] all bs left is =
    subst (λ (cs : List (List ℕ)). Told es (knowing here peer empty_joining) peer cs [] left) (sym (no_bodies bs left is))
    (record { said = []; heard = refl; others = []; prefix = refl; all = λ none. refl })
messages_told es here peer join (m ∷ ms) all bs left is =
    let ends : EndsOnce (bodies_of m) = bodies_end (message_form.spell m) in
    let whole : last_answer empty_joining (Ok None) (ends.opens ++ ends.last ∷ []) ≡ some m =
    ap (last_answer empty_joining (Ok None)) (sym ends.is) ∙ join m all.0.fits all.0.short in
    let cut : bs ++ left ≡ (ends.opens ++ ends.last ∷ []) ++ flat_map bodies_of ms =
    is ∙ flat_map-cons bodies_of m ms ∙ ap (λ (l : List (List ℕ)). l ++ flat_map bodies_of ms) ends.is in
    bodies_told es here peer ends.opens ends.last empty_joining (Ok None) bs (flat_map bodies_of ms) left m ms ends.opened whole cut
    (λ cs same. messages_told es here peer join ms all.1 cs left same)

-- ---- a greeting, and messages

-- what a greeting says to an end to which nothing was said yet
pub record IsGreeted (es : List Entry) (t : End) (peer body : List ℕ) : Type 0 where
  pub reply : Option (List ℕ)
  pub says : says es t body ≡ Ok (Name peer reply)
  pub free : t.parts ≡ empty_joining

pub all_told : (es : List Entry) (t : End) (peer body : List ℕ) → ((m : MessageValue) → IsJoined m) → (ms : List MessageValue)
    → AllByRecursion HasFrames ms → IsGreeted es t peer body
    → (bs left : List (List ℕ)) → bs ++ left ≡ body ∷ flat_map bodies_of ms → Told es t peer bs ms left
all_told es t peer body join ms all g [] left is = nothing_told es t peer ms body (flat_map bodies_of ms) left is
all_told es t peer body join ms all g (b ∷ bs) left is =
    let same : b ≡ body = same_head b body (bs ++ left) (flat_map bodies_of ms) is in
    let later : Told es (knowing t.here peer empty_joining) peer bs ms left =
    messages_told es t.here peer join ms all bs left (same_tail b body (bs ++ left) (flat_map bodies_of ms) is) in
    subst (λ (x : List ℕ). Told es t peer (x ∷ bs) ms left) (sym same)
    (record {
      said = Name peer g.reply ∷ later.said;
      heard = hears_first es t body bs (Name peer g.reply) g.says
          ∙ ap (λ (p : Joining). before (Name peer g.reply) (hears es (knowing t.here peer p) bs)) g.free
          ∙ ap (before (Name peer g.reply)) later.heard;
      others = later.others;
      prefix = later.prefix;
      all = later.all;
    })

-- ---- who is greeted

some_position : (es : List Entry) (n : List ℕ) (i k : ℕ) → position_from (is_of n) i es ≡ Some k → list_any (is_of n) es ≡ true
some_position [] n i k is = absurd cc
some_position (e ∷ es) n i k is = by (is_of n e) (some_position es n (i + 1) k) is
  where
    by : (b : Bool) → (position_from (is_of n) (i + 1) es ≡ Some k → list_any (is_of n) es ≡ true)
        → cond b (Some i) (position_from (is_of n) (i + 1) es) ≡ Some k → (b || list_any (is_of n) es) ≡ true
    by true later is = refl
    by false later is = later is

pub record AreKnown (es : List Entry) (low high : List ℕ) : Type 0 where
  pub first : knows es low ≡ true
  pub second : knows es high ≡ true

pub both_known : (es : List Entry) (low high : List ℕ) → IsTrue (is_lower_node es low high) → AreKnown es low high
both_known es low high order = by (slot_of es low) (slot_of es high) refl refl order
  where
    by : (a b : Option ℕ) → slot_of es low ≡ a → slot_of es high ≡ b → IsTrue (is_before a b) → AreKnown es low high
    by (Some a) (Some b) is also order = record { first = some_position es low 0 a is; second = some_position es high 0 b also }
    by (Some a) None is also order = absurd cc
    by None b is also order = absurd cc

pub opener_greeted : (es : List Entry) (low high : List ℕ) → MayConnect es low high → IsGreeted es (listening high) low (greeting true low)
opener_greeted es low high may =
    let in_it : knows es low ≡ true = (both_known es low high may.order).first in
    let order : is_lower_node es low high ≡ true = may.order in
    let name : named_opener es (greeting true low) ≡ Ok low
    = ap (λ (o : Option (List ℕ)). option_map_or (known_node es) o (Err NotHello)) (read_back true low may.low_id)
    ∙ ap (λ (b : Bool). cond b (Ok low) (Err (Unknown low))) in_it in
    let found : opener es high (greeting true low) ≡ Ok low
    = ap (admitted_peer es high) name ∙ ap (λ (b : Bool). cond b (Ok low) (Err fault.NotLower)) order in
    record { reply = Some (hello false high); says = ap (names_peer (Some (hello false high))) found; free = refl }

pub expected_greeted : (es : List Entry) (low high : List ℕ) → MayConnect es low high → IsGreeted es (opening low high) high (greeting false high)
expected_greeted es low high may =
    let found : expected es low high (greeting false high) ≡ Ok high
    = ap of_link (peer_is_heard es (record { here = low; peer = high; opens = true }) may.high_id (both_known es low high may.order).second) in
    record { reply = None; says = ap (names_peer None) found; free = refl }

-- ---- connections

module _ (join : (m : MessageValue) → IsJoined m) (sized : (m : MessageValue) → All IsSized (bodies_of m)) where
  all_short : (opens : Bool) (name : List ℕ) (ms : List MessageValue) → IsTrue (is_node_id name) → All IsBody (greeting opens name ∷ flat_map bodies_of ms)
  all_short opens name ms id =
      All-cons IsBody (greeting opens name) (flat_map bodies_of ms) (omega (arith, greeting_short opens name id)) (bodies_short sized ms)

  pub hears_prefix : (es : List Entry) (t : End) (opens : Bool) (peer : List ℕ) (ms : List MessageValue) (came left : List ℕ) → IsTrue (is_node_id peer)
      → All HasFrames ms
      → IsGreeted es t peer (greeting opens peer) → came ++ left ≡ puts opens peer ms → HearsPrefix es t peer ms came
  hears_prefix es t opens peer ms came left id all g is =
      let bs : List (List ℕ) = greeting opens peer ∷ flat_map bodies_of ms in
      let cut = frames_of_prefix bs came left (all_short opens peer ms id) (is ∙ framed (greeting opens peer) ms) in
      let heard = all_told es t peer (greeting opens peer) join ms (recursion_from_All HasFrames ms all) g (frames_of came) cut.left cut.frames in
      record { said = heard.said; framed = cut.fault; heard = heard.heard; messages = (heard.others, heard.prefix) }

  pub hears_all : (es : List Entry) (t : End) (opens : Bool) (peer : List ℕ) (ms : List MessageValue) → IsTrue (is_node_id peer) → All HasFrames ms
      → IsGreeted es t peer (greeting opens peer) → HearsAll es t peer ms (puts opens peer ms)
  hears_all es t opens peer ms id all g =
      let bs : List (List ℕ) = greeting opens peer ∷ flat_map bodies_of ms in
      let short : All IsBody bs = all_short opens peer ms id in
      let is : puts opens peer ms ≡ flat_map frame bs = framed (greeting opens peer) ms in
      let cut = frames_of_prefix bs (puts opens peer ms) [] short (append-nil (puts opens peer ms) ∙ is) in
      let frames : frames_of (puts opens peer ms) ≡ bs = ap (λ (l : List ℕ). frames_of l) is ∙ frames_of_all bs short in
      let heard =
      all_told es t peer (greeting opens peer) join ms (recursion_from_All HasFrames ms all) g (frames_of (puts opens peer ms)) []
      (append-nil (frames_of (puts opens peer ms)) ∙ frames) in
      record {
        said = heard.said;
        framed = cut.fault;
        heard = heard.heard;
        messages =
            sym (append-nil (messages_in heard.said)) ∙ ap (λ (l : List (List ℕ × MessageValue)). messages_in heard.said ++ l) (sym (heard.all refl))
            ∙ heard.prefix;
      }

-- ---- whom an end knows

abbrev Heard : Type 0
Heard = Result (List Spoken) TalkFault

abbrev all_said : List Spoken → Heard
all_said said = Ok said

abbrev failed : TalkFault → Heard
failed e = Err e

not_failed : (e : TalkFault) (said : List Spoken) → failed e ≡ all_said said → ⊥
not_failed e said is = absurd cc

nothing_said : (said : List Spoken) → all_said [] ≡ all_said said → [] ≡ said
nothing_said said is = cc

said_after : (s : Spoken) (r : Heard) (said : List Spoken) → before s r ≡ all_said said → (more : List Spoken) × (r ≡ all_said more) × (s ∷ more ≡ said)
said_after s (Ok more) said is = (more, refl, cc)
said_after s (Err e) said is = absurd (not_failed e said is)

pub peer_stays : (es : List Entry) (t : End) (peer : List ℕ) (bs : List (List ℕ)) (said : List Spoken) → t.side ≡ Knows peer
    → hears es t bs ≡ all_said said → AllByRecursion (IsOf peer) said
peer_stays es t peer [] said side is = subst (AllByRecursion (IsOf peer)) (nothing_said said is) tt
peer_stays es t peer (b ∷ bs) said side is = by (join_answer t.parts b) refl (λ s next more. peer_stays es (talk_end_after t b s) peer bs more next)
  where
    Later : Type 0
    Later = (s : Spoken) → (talk_end_after t b s).side ≡ Knows peer → (more : List Spoken) → hears es (talk_end_after t b s) bs ≡ all_said more
        → AllByRecursion (IsOf peer) more

    by_said : (s : Spoken) → says es t b ≡ told s → (talk_end_after t b s).side ≡ Knows peer → IsOf peer s → Later → AllByRecursion (IsOf peer) said
    by_said s first next of later =
        let parts = said_after s (hears es (talk_end_after t b s) bs) said (sym (hears_first es t b bs s first) ∙ is) in
        subst (AllByRecursion (IsOf peer)) parts.2 (of, later s next parts.0 parts.1)

    by : (r : Answer) → join_answer t.parts b ≡ r → Later → AllByRecursion (IsOf peer) said
    by (Ok (Some m)) e later = by_said (Message peer m) (ap (says_by es t.here t.parts b) side ∙ ap (tells peer) e) side refl later
    by (Ok None) e later = by_said Part (ap (says_by es t.here t.parts b) side ∙ ap (tells peer) e) side tt later
    by (Err f) e later =
        let first : says es t b ≡ Err (fault.Message f) = ap (says_by es t.here t.parts b) side ∙ ap (tells peer) e in
        absurd (not_failed (fault.Message f) said (sym (ap (λ (r : Result Spoken TalkFault). hears_on r (λ s. hears es (talk_end_after t b s) bs)) first) ∙ is))
