-- A list of changes, moment by moment.
use Rattle.std.{specs.Option.option_map, proofs.Common.{◌≡◌, ℕ, ◌<◌, ◌≤◌, List, [], ◌∷◌, ◌++◌, true, nat_le, if◌then◌else◌, Some, append_assoc, refl, sym}}
use Rattle.std.proofs.{Common.{◌∙◌, ap, subst, arith}, lemmas.{Bool.Decides.nat_tests, List.append-nil}}
use Rattle.spl_edge.specs.Devices.{Image, Picked}
use Rattle.spl_memory.specs.{Replay.{after_change, replayed, kept_by, picks_of, until, all_until, Pushed}, Changes.Call}

pub replayed-push : (i : Image) (calls : List Call) (c : Call) → replayed i (calls ++ c ∷ []) ≡ after_change c.change (replayed i calls)
replayed-push i [] c = refl
replayed-push i (x ∷ calls) c = replayed-push (after_change x.change i) calls c

pub picks-push : (i : Image) (calls : List Call) (c : Call) → picks_of i (calls ++ c ∷ []) ≡ picks_of i calls ++ kept_by c.change (replayed i calls)
picks-push i [] c = append-nil (kept_by c.change i)
picks-push i (x ∷ calls) c =
    ap (λ (l : List Picked). kept_by x.change i ++ l) (picks-push (after_change x.change i) calls c)
    ∙ sym (append_assoc (kept_by x.change i) (picks_of (after_change x.change i) calls) (kept_by c.change (replayed (after_change x.change i) calls)))

until-yes : (k : ℕ) (c : Call) (calls : List Call) → c.moment ≤ k → until k (c ∷ calls) ≡ c ∷ until k calls
until-yes k c calls le = grind (arith, nat_tests)

until-no : (k : ℕ) (c : Call) (calls : List Call) → k < c.moment → until k (c ∷ calls) ≡ until k calls
until-no k c calls lt = grind (arith, nat_tests)

all_first : (m : ℕ) (c : Call) (calls : List Call) → all_until m (c ∷ calls) ≡ true → (c.moment ≤ m) × (all_until m calls ≡ true)
all_first m c calls all = (grind (arith, nat_tests), grind (arith, nat_tests))

all_cons : (m : ℕ) (c : Call) (calls : List Call) → c.moment ≤ m → all_until m calls ≡ true → all_until m (c ∷ calls) ≡ true
all_cons m c calls le all = grind (arith, nat_tests)

-- all changes so far count at a moment from the last on
pub until_all : (m k : ℕ) (calls : List Call) → all_until m calls ≡ true → m ≤ k → until k calls ≡ calls
until_all m k [] all le = refl
until_all m k (c ∷ calls) all le =
    let (first, rest) = all_first m c calls all in until-yes k c calls (omega arith) ∙ ap (λ (l : List Call). c ∷ l) (until_all m k calls rest le)

pub later_all : (m k : ℕ) (calls : List Call) → all_until m calls ≡ true → m ≤ k → all_until k calls ≡ true
later_all m k [] all le = refl
later_all m k (c ∷ calls) all le = let (first, rest) = all_first m c calls all in all_cons k c calls (omega arith) (later_all m k calls rest le)

all-push : (m k : ℕ) (calls : List Call) (c : Call) → all_until m calls ≡ true → m ≤ k → c.moment ≤ k → all_until k (calls ++ c ∷ []) ≡ true
all-push m k [] c all le now = all_cons k c [] now refl
all-push m k (x ∷ calls) c all le now =
    let (first, rest) = all_first m x calls all in all_cons k x (calls ++ c ∷ []) (omega arith) (all-push m k calls c rest le now)

-- and a later one doesn't count before
until-push : (t : ℕ) (calls : List Call) (c : Call) → t < c.moment → until t (calls ++ c ∷ []) ≡ until t calls
until-push t [] c after = until-no t c [] after
until-push t (x ∷ calls) c after = ap (λ (l : List Call). if nat_le x.moment t then x ∷ l else l) (until-push t calls c after)

pub pushed : (moment : ℕ) (f : Image → Image) (kept : Image → List Picked) (calls : List Call) (c : Call) → c.moment ≡ moment
    → ((i : Image) → after_change c.change i ≡ f i) → ((i : Image) → kept_by c.change i ≡ kept i) → Pushed moment f kept calls (calls ++ c ∷ [])
pushed moment f kept calls c now does keeps = record {
  step = λ i. replayed-push i calls c ∙ does (replayed i calls);
  past = λ t before. until-push t calls c (omega arith);
  all = λ m before all. all-push m moment calls c all (omega arith) (omega arith);
  picks = λ i. picks-push i calls c ∙ ap (λ (l : List Picked). picks_of i calls ++ l) (keeps (replayed i calls));
}

-- what is reported where nothing changed
pub told_same : (s : Image) (calls : List Call) (m k : ℕ) → all_until m calls ≡ true → m ≤ k
    → Some (replayed s (until k calls)) ≡ Some (replayed s (until m calls))
told_same s calls m k all le =
    let same : until k calls ≡ until m calls = until_all m k calls all le ∙ sym (until_all m m calls all (omega arith)) in
    ap (λ (l : List Call). Some (replayed s l)) same

-- and where a change was added
pub told_done : (s : Image) (f : Image → Image) (kept : Image → List Picked) (old new : List Call) (m k : ℕ) → Pushed k f kept old new
    → all_until m old ≡ true → m < k → Some (replayed s (until k new)) ≡ option_map f (Some (replayed s (until m old)))
told_done s f kept old new m k push all lt =
    let now : until k new ≡ new = until_all k k new (push.all m lt all) (omega arith) in
    let before : until m old ≡ old = until_all m m old all (omega arith) in
    ap (λ (l : List Call). Some (replayed s l)) now ∙ ap (λ (i : Image). Some i) (push.step s) ∙ ap (λ (l : List Call). Some (f (replayed s l))) (sym before)

pub told_past : (s : Image) (f : Image → Image) (kept : Image → List Picked) (old new : List Call) (m k : ℕ) → Pushed k f kept old new → m < k → (t : ℕ)
    → t ≤ m → Some (replayed s (until t new)) ≡ Some (replayed s (until t old))
told_past s f kept old new m k push lt t le = ap (λ (l : List Call). Some (replayed s l)) (push.past t (omega arith))

pub pushed_to : (moment : ℕ) (f : Image → Image) (kept : Image → List Picked) (old new : List Call) (c : Call) → new ≡ old ++ c ∷ [] → c.moment ≡ moment
    → ((i : Image) → after_change c.change i ≡ f i) → ((i : Image) → kept_by c.change i ≡ kept i) → Pushed moment f kept old new
pushed_to moment f kept old new c is now does keeps = subst (λ (l : List Call). Pushed moment f kept old l) (sym is) (pushed moment f kept old c now does keeps)
