-- The byte forms of durable changes (docs/RULES.md, Byte forms).
use Rattle.std.specs.Prelude.{◌≡◌, ℕ, zero, suc, ◌+◌, ◌^◌, ◌<◌, nat_lt, List, [], ◌∷◌, ◌++◌, Bool, true, false, IsTrue, if◌then◌else◌, Ok, Err, refl}
use Rattle.std.{specs.Int.w8, proofs.Common.{lit<, subst, ap, ◌∙◌}}
use Rattle.spl_base.specs.{Input.{Input, ◌>>=◌}, Form.{Form, Parsed, number_bytes, ◌&◌, nothing, Case, case, Filled, filled, put_by, has_tag, read_by}}
use Rattle.spl_base.specs.Form.{Tagged, Tags, tags_of, numbered, tagged, IsBytes, Taken, IsReadFrom, IsExact, TakenAfter, IsExactTags, AreExact}
use Rattle.spl_base.specs.{FormLaws.{bind_ok, ok_is, exact_and, exact_nothing}, SumLaws.{◌also◌, again_by, takes_by, IsMade, exact_tags, again_numbered}}
use Rattle.spl_base.specs.SumLaws.{takes_numbered, taken_after, exact_tagged}
use Rattle.spl_agree.specs.declared.event.GroupChange.{GroupChange, TheVariants.{Queue, Refuse, Begin, Seen, Promise, Abort, Commit, Restore, Kept}}
use Rattle.spl_circuit.specs.Forms.{word, definition, act, exact_word, exact_definition, exact_act}
use Rattle.spl_command.specs.Forms.{batch, exact_batch}
use Rattle.spl_wire.specs.{Bodies.{long, reason_form, exact_long, exact_reason}, declared.change.Change.{Change, TheVariants.{Bind, Admin, Service, Abandon}}}
use Rattle.spl_wire.specs.declared.change.Change.TheVariants.{Purge, Turn, Gone}

-- ---- the changes of one group

module _ {V : Type 0} (value : Form V) where
  abbrev pub group_changes : List (Case (GroupChange V))
  group_changes =
      case 2 value (λ v. Queue v)
      ∷ case 3 (value & reason_form) (λ x. Refuse x.0 x.1)
      ∷ case 4 long (λ n. Begin n)
      ∷ case 5 long (λ n. Seen n)
      ∷ case 6 (long & value) (λ x. Promise x.0 x.1)
      ∷ case 7 nothing (λ _. Abort)
      ∷ case 8 (long & value) (λ x. Commit x.0 x.1)
      ∷ case 11 (long & long) (λ x. Restore x.0 x.1)
      ∷ case 12 (value & reason_form) (λ x. Kept x.0 x.1)
      ∷ []

  abbrev pub group_fields : GroupChange V → Filled group_changes
  group_fields (Queue v) = filled 2 v
  group_fields (Refuse v why) = filled 3 (v, why)
  group_fields (Begin n) = filled 4 n
  group_fields (Seen n) = filled 5 n
  group_fields (Promise n v) = filled 6 (n, v)
  group_fields Abort = filled 7 tt
  group_fields (Commit n v) = filled 8 (n, v)
  group_fields (Restore n seen) = filled 11 (n, seen)
  group_fields (Kept v why) = filled 12 (v, why)

  abbrev pub group_tags : Tags (GroupChange V)
  group_tags = tags_of group_changes group_fields

  abbrev pub put_change : GroupChange V → Tagged
  put_change x = group_tags.put x

  abbrev pub fits_change : GroupChange V → Bool
  fits_change x = (put_change x).fits

-- ---- all changes

abbrev pub cell_changes : List (Case Change)
cell_changes =
    case 1 definition (λ d. Bind d)
    ∷ case 9 nothing (λ _. Abandon)
    ∷ case 10 nothing (λ _. Purge)
    ∷ case 13 word (λ n. Turn n)
    ∷ case 14 word (λ n. Gone n)
    ∷ []

-- the number of the group stands between tag and fields
abbrev pub in_group : ℕ → Tagged → Tagged
in_group group t = record t { bytes = number_bytes w8 group ++ t.bytes }

-- 1 is the admin group, 2 the service group
abbrev pub tagged_change : Change → Tagged
tagged_change (Bind d) = put_by cell_changes (filled 1 d)
tagged_change (Admin x) = in_group 1 (put_change act x)
tagged_change (Service x) = in_group 2 (put_change batch x)
tagged_change Abandon = put_by cell_changes (filled 9 tt)
tagged_change Purge = put_by cell_changes (filled 10 tt)
tagged_change (Turn n) = put_by cell_changes (filled 13 n)
tagged_change (Gone n) = put_by cell_changes (filled 14 n)

-- what was read, as another type has it
abbrev pub made : {A B : Type 0} → (A → B) → Parsed A → Parsed B
made to r = r >>= λ x. Ok (to x.0, x.1)

-- the fields after the number of a group
abbrev pub of_group : ℕ → ℕ → ℕ → Input → Parsed Change
of_group tag zero at s = Err at
of_group tag (suc zero) at s = made (λ x. Admin x) ((group_tags act).take tag s.place s)
of_group tag (suc (suc zero)) at s = made (λ x. Service x) ((group_tags batch).take tag s.place s)
of_group tag (suc (suc (suc n))) at s = Err at

-- whether a group follows the tag
abbrev pub is_of_group : ℕ → Bool
is_of_group tag = has_tag (group_changes act) tag

abbrev pub take : ℕ → ℕ → Input → Parsed Change
take tag at s = if is_of_group tag then numbered (of_group tag) s else read_by cell_changes tag at s

abbrev pub change_form : Form Change
change_form = tagged (record { put = tagged_change; take = take })

-- ---- they are read back, and nothing else is read

module _ {V : Type 0} (value : Form V) (p : IsExact value) where
  group_made : (x : GroupChange V) → IsMade (group_changes value) (group_fields value) x
  group_made (Queue v) = record { value = refl; small = refl }
  group_made x = record { value = refl; small = refl }

  exact_group : IsExactTags (group_tags value)
  exact_group = exact_tags (group_changes value) (group_fields value) group_made (
      (p, λ _. refl)
      also (exact_and _ _ p exact_reason, λ _. refl)
      also (exact_long, λ _. refl)
      also (exact_long, λ _. refl)
      also (exact_and _ _ exact_long p, λ _. refl)
      also (exact_nothing, λ _. refl)
      also (exact_and _ _ exact_long p, λ _. refl)
      also (exact_and _ _ exact_long exact_long, λ _. refl)
      also (exact_and _ _ p exact_reason, λ _. refl)
      also tt)

  has_group : (x : GroupChange V) → is_of_group (put_change value x).tag ≡ true
  has_group (Queue v) = refl
  has_group x = refl

  -- a change of a group after the group's number
  again_group : (group : ℕ) (to : GroupChange V → Change) (x : GroupChange V) (rest : List ℕ) (place : ℕ) → group < 256
      → ((at : ℕ) (s : Input) → of_group (put_change value x).tag group at s ≡ made to ((group_tags value).take (put_change value x).tag s.place s))
      → IsTrue (fits_change value x)
      → IsReadFrom (numbered (of_group (put_change value x).tag)) (number_bytes w8 group ++ (put_change value x).bytes) (to x) rest place
  again_group group to x rest place small so h =
      again_numbered (of_group (put_change value x).tag) group (put_change value x).bytes (to x) rest place small
      (so place _ ∙ ap (made to) (exact_group.again x rest (place + 1) (place + 1) h))

  takes_group : (group : ℕ) (to : GroupChange V → Change) → ((x : GroupChange V) → tagged_change (to x) ≡ in_group group (put_change value x))
      → (tag : ℕ) (s u : Input) (x : Change) (t : Input) → Taken (number_bytes w8) (λ n. nat_lt n (2 ^ 8)) s group u
      → made to ((group_tags value).take tag u.place u) ≡ Ok (x, t) → TakenAfter tagged_change tag s x t
  takes_group group to so tag s u x t first e =
      let a = bind_ok ((group_tags value).take tag u.place u) (λ y. Ok (to y.0, y.1)) (x, t) e in
      let body = exact_group.takes tag u.place u a.0.0 a.0.1 first.bytes a.1 in
      let spell = λ (y : GroupChange V). (put_change value y).bytes in
      let all = taken_after spell (fits_change value) group s u a.0.0 a.0.1 first body.taken in
      let found : Change × Input = (to a.0.0, a.0.1) in
      let same : tagged_change (to a.0.0) ≡ in_group group (put_change value a.0.0) = so a.0.0 in
      subst (λ (y : Change × Input). TakenAfter tagged_change tag s y.0 y.1) (ok_is found (x, t) a.2) (record {
        tag = rw same body.tag;
        taken = record { parts = rw same all.parts; place = rw same all.place; is_fit = rw same all.is_fit; bytes = all.bytes };
      })

cells : AreExact tagged_change cell_changes
cells =
    (exact_definition, λ _. refl)
    also (exact_nothing, λ _. refl)
    also (exact_nothing, λ _. refl)
    also (exact_word, λ _. refl)
    also (exact_word, λ _. refl)
    also tt

change_small : (x : Change) → (tagged_change x).tag < 256
change_small (Admin x) = (exact_group act exact_act).small x
change_small (Service x) = (exact_group batch exact_batch).small x
change_small x = lit< tt

change_again : (x : Change) (rest : List ℕ) (place at : ℕ) → IsTrue (tagged_change x).fits
    → IsReadFrom (take (tagged_change x).tag at) (tagged_change x).bytes x rest place
change_again (Bind d) rest place at h = again_by tagged_change cell_changes cells 1 d rest place at h
change_again (Admin x) rest place at h =
    rw (has_group act exact_act x) (again_group act exact_act 1 (λ y. Admin y) x rest place (lit< tt) (λ at s. refl) h)
change_again (Service x) rest place at h =
    rw (has_group batch exact_batch x) (again_group batch exact_batch 2 (λ y. Service y) x rest place (lit< tt) (λ at s. refl) h)
change_again Abandon rest place at h = again_by tagged_change cell_changes cells 9 tt rest place at h
change_again Purge rest place at h = again_by tagged_change cell_changes cells 10 tt rest place at h
change_again (Turn n) rest place at h = again_by tagged_change cell_changes cells 13 n rest place at h
change_again (Gone n) rest place at h = again_by tagged_change cell_changes cells 14 n rest place at h

change_takes : (tag at : ℕ) (s : Input) (x : Change) (t : Input) → IsBytes s.rest → take tag at s ≡ Ok (x, t) → TakenAfter tagged_change tag s x t
change_takes tag at s x t bytes e = by_kind (is_of_group tag) e
  where
    by_number : (group : ℕ) (u : Input) → Taken (number_bytes w8) (λ n. nat_lt n (2 ^ 8)) s group u → of_group tag group s.place u ≡ Ok (x, t)
        → TakenAfter tagged_change tag s x t
    by_number zero u first k = absurd cc
    by_number (suc zero) u first k = takes_group act exact_act 1 (λ y. Admin y) (λ y. refl) tag s u x t first k
    by_number (suc (suc zero)) u first k = takes_group batch exact_batch 2 (λ y. Service y) (λ y. refl) tag s u x t first k
    by_number (suc (suc (suc n))) u first k = absurd cc

    by_kind : (b : Bool) → (if b then numbered (of_group tag) s else read_by cell_changes tag at s) ≡ Ok (x, t) → TakenAfter tagged_change tag s x t
    by_kind true k = let a = takes_numbered (of_group tag) s x t bytes k in by_number a.number a.next a.first a.others
    by_kind false k = takes_by tagged_change cell_changes cells tag at s x t bytes k

change_bounds : (x : Change) → IsTrue (tagged_change x).fits → IsTrue (tagged_change x).bounded
change_bounds (Bind d) h = exact_definition.bounds d h
change_bounds (Admin x) h = (exact_group act exact_act).bounds x h
change_bounds (Service x) h = (exact_group batch exact_batch).bounds x h
change_bounds x h = refl

pub exact_change : IsExact change_form
exact_change = exact_tagged _ (record { small = change_small; again = change_again; takes = change_takes; bounds = change_bounds })
