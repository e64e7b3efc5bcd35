-- Greetings are read back, in one way only.
use Rattle.std.{specs.{Prelude.{Result, Ok, Err, ◌==◌, option_and_then}, Result.result_ok, Int.{w8, w16}, List.list_all, Str.bytes_eq}, proofs.Common.◌≡◌}
use Rattle.std.proofs.Common.{◌+◌, ◌^◌, ◌≤◌, ◌&&◌, ℕ, zero, suc, Bool, true, false, cond, not, eqb, leb, ltb, List, [], ◌∷◌, ◌++◌, length, Option, Some, None}
use Rattle.std.proofs.{Common.{IsTrue, refl, ap, sym, subst, ◌∙◌, lit<, arith, append-nil, length-append}, lemmas.Bool.{eqb-true, eq-eqb, leb-true, le-leb}}
use Rattle.std.proofs.lemmas.Slice.Eq.{bytes_eq-Decides}
use Rattle.spl_base.specs.{Input.{Input, ◌>>=◌}, Form.{IsExact, IsBytes, number_bytes}, FormLaws.{exact_and, exact_number, exact_text, wide8, wide16}}
use Rattle.spl_base.specs.{FormLaws.{both_true, and_true, bind_ok}, Prefix.prefix_of, Ids.{is_node_id, is_node_byte}}
use Rattle.spl_registry.specs.Nodes.{Entry, knows}
use Rattle.spl_link.specs.{Greetings.{greeting_form, greeting, tag_of, name_in, name_of}, Sides.Side, Heard.{heard, judged_peer}}

pub exact_greeting : IsExact greeting_form
exact_greeting = exact_and _ _ (exact_number w8 (2 ^ 8) wide8) (exact_and _ _ (exact_number w16 (2 ^ 16) wide16) (exact_text 32 is_node_id (lit< tt)))

ok_same : {A E : Type 0} (a b : A) → (r : Result A E) → r ≡ Ok a → r ≡ Ok b → a ≡ b
ok_same a b r h k = cc

eq_same : (n : ℕ) → (n == n) ≡ true
eq_same n = eq-eqb n n refl

eq_is : (n m : ℕ) → (n == m) ≡ true → n ≡ m
eq_is n m h = eqb-true n m h

id_short : (name : List ℕ) → IsTrue (is_node_id name) → length name ≤ 32
id_short name h =
    leb-true _ _ (both_true (leb 1 (length name)) (leb (length name) 32)
    (both_true (leb 1 (length name) && leb (length name) 32) (list_all is_node_byte name) h).0).1

-- a greeting has at most 37 bytes
pub greeting_short : (opens : Bool) (name : List ℕ) → IsTrue (is_node_id name) → length (greeting opens name) ≤ 37
greeting_short opens name h =
    let tag = number_bytes w8 (tag_of opens) in
    let version = number_bytes w16 1 in
    let count = number_bytes w16 (length name) in
    omega (
      arith,
      id_short name h,
      wide8.len (tag_of opens),
      wide16.len 1,
      wide16.len (length name),
      length-append tag (version ++ (count ++ name)),
      length-append version (count ++ name),
      length-append count name,
    )

fits : (opens : Bool) (name : List ℕ) → IsTrue (is_node_id name) → IsTrue (greeting_form.fits (tag_of opens, (1, name)))
fits true name h = and_true _ _ (le-leb _ _ (id_short name h)) h
fits false name h = and_true _ _ (le-leb _ _ (id_short name h)) h

named : (opens : Bool) (n m : ℕ) (name : List ℕ) → n ≡ m → name_of opens m ((tag_of opens, (1, name)), n) ≡ Some name
named true n m name e = rw (e, eq_same m) refl
named false n m name e = rw (e, eq_same m) refl

pub read_back : (opens : Bool) (name : List ℕ) → IsTrue (is_node_id name) → name_in opens (greeting opens name) ≡ Some name
read_back opens name h =
    let g = greeting opens name in
    let parsed : greeting_form.parse (record { rest = g; place = 0 }) ≡ Ok ((tag_of opens, (1, name)), record { rest = []; place = 0 + length g })
    = ap (λ (r : List ℕ). greeting_form.parse (record { rest = r; place = 0 })) (sym (append-nil g))
    ∙ exact_greeting.again (tag_of opens, (1, name)) [] 0 (fits opens name h) in
    ap (λ (p : Result ((ℕ × (ℕ × List ℕ)) × Input) ℕ). option_and_then (name_of opens (length g)) (result_ok (p >>= λ x. Ok (x.0, x.1.place)))) parsed
    ∙ named opens (0 + length g) (length g) name (omega arith)

some_ok : {A B E : Type 0} (f : A → Option B) (r : Result A E) (y : B) → option_and_then f (result_ok r) ≡ Some y → (x : A) × (r ≡ Ok x) × (f x ≡ Some y)
some_ok f (Ok x) y e = (x, refl, e)
some_ok f (Err d) y e = absurd cc

some_if : {A : Type 0} (b : Bool) (x y : A) → cond b (Some x) None ≡ Some y → IsTrue b × (x ≡ y)
some_if true x y e = (refl, cc)
some_if false x y e = absurd cc

empty : (xs : List ℕ) → length xs ≡ 0 → xs ≡ []
empty [] e = refl
empty (x ∷ xs) e = absurd (omega (arith, e))

pub read_one_way : (opens : Bool) (body name : List ℕ) → IsBytes body → name_in opens body ≡ Some name → (body ≡ greeting opens name) × IsTrue (is_node_id name)
read_one_way opens body name bytes e =
    let found = some_ok (name_of opens (length body)) (prefix_of greeting_form body) name e in
    let parsed = bind_ok (greeting_form.parse (record { rest = body; place = 0 })) (λ x. Ok (x.0, x.1.place)) found.0 found.1 in
    let x = parsed.0.0 in
    let t = parsed.0.1 in
    let taken = exact_greeting.takes (record { rest = body; place = 0 }) x t bytes parsed.1 in
    let is : (x, t.place) ≡ found.0 = ok_same (x, t.place) found.0 (Ok (x, t.place)) refl parsed.2 in
    let named : name_of opens (length body) (x, t.place) ≡ Some name = ap (name_of opens (length body)) is ∙ found.2 in
    let tests = some_if ((x.0 == tag_of opens && x.1.0 == 1) && t.place == length body) x.1.1 name named in
    let both = both_true (x.0 == tag_of opens && x.1.0 == 1) (t.place == length body) tests.0 in
    let prefix = both_true (x.0 == tag_of opens) (x.1.0 == 1) both.0 in
    let tag = eq_is x.0 (tag_of opens) prefix.0 in
    let version = eq_is x.1.0 1 prefix.1 in
    let whole = eq_is t.place (length body) both.1 in
    let none : t.rest ≡ [] = empty t.rest (omega (arith, whole, taken.place, ap length taken.parts, length-append (greeting_form.spell x) t.rest)) in
    let spelled : body ≡ greeting_form.spell x = taken.parts ∙ ap (λ (r : List ℕ). greeting_form.spell x ++ r) none ∙ append-nil (greeting_form.spell x) in
    let same : greeting_form.spell x ≡ greeting opens name = rw (tag, version, tests.1) refl in
    (spelled ∙ same, subst (λ (n : List ℕ). IsTrue (is_node_id n)) tests.1 (passes x taken.is_fit))
  where
    passes : (x : ℕ × (ℕ × List ℕ)) → IsTrue (greeting_form.fits x) → IsTrue (is_node_id x.1.1)
    passes x h =
        let text = leb (length x.1.1) 32 && is_node_id x.1.1 in
        (both_true (leb (length x.1.1) 32) (is_node_id x.1.1)
        (both_true (ltb x.1.0 (2 ^ 16)) text (both_true (ltb x.0 (2 ^ 8)) (ltb x.1.0 (2 ^ 16) && text) h).1).1).1

-- a peer that the registry knows, and that gives its own name, is heard
pub peer_is_heard : (es : List Entry) (side : Side) → IsTrue (is_node_id side.peer) → knows es side.peer ≡ true
    → heard es side (greeting (not side.opens) side.peer) ≡ Ok side.peer
peer_is_heard es side h known = rw (read_back (not side.opens) side.peer h, known, (bytes_eq-Decides side.peer side.peer).1 refl) refl
