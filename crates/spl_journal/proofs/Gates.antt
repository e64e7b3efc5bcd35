-- How the four calls that open a gate go on.
use Rattle.std.{specs.Option.option_map, proofs.Common.{◌≡◌, ⊎_elim, ℕ, ◌+◌, ◌-◌, ◌<◌, ◌≤◌, ◌^◌, min, List, [], ◌∷◌, length, Bool, IsTrue, Option, None}}
use Rattle.std.proofs.{Common.{Some, IfSome, Result, Ok, Err, IsOk, IsErrOf, refl, sym, ◌∙◌, ap, subst, arith}, lemmas.Bool.{cases_lt, cases_eq}}
use Rattle.spl_edge.specs.Devices.{Image, after_write, after_sync, Changes, PartOfWrite, SamePast, IsArmed, fails_at, IsCall, fails_now, DiskView, image_now}
use Rattle.spl_edge.specs.declared.{disk.Armed.Armed, fault.DeviceError.{DeviceError, TheVariants.Failed}}
use Rattle.spl_journal.{specs.Gate.{IsReady, IsAfterGate, ByCalls, opened, LeavesBetween}, proofs.Images.{Safe, safe_0, safe_1, safe_2, safe_3, safe_4}}
use Rattle.spl_journal.proofs.Images.{part_0, part_2}

abbrev pub bytes_of : Option Image → List ℕ
bytes_of None = []
bytes_of (Some i) = i.bytes

pub of_told : (o : Option Image) (Q : List ℕ → Type 0) → Q (bytes_of o) → IfSome o (λ i. Q i.bytes)
of_told None Q q = tt
of_told (Some i) Q q = q

pub started : (at : ℕ → Option Image) (m : ℕ) (P : List ℕ → Type 0) → IfSome (at m) (Safe P) → LeavesBetween at m m P
started at m P here k low high = let same : m ≡ k = omega arith in subst (λ (n : ℕ). IfSome (at n) (Safe P)) same here

pub goes_on : (at later : ℕ → Option Image) (first m now : ℕ) (P : List ℕ → Type 0) → LeavesBetween at first m P → ((t : ℕ) → t ≤ m → later t ≡ at t)
    → now ≡ min (m + 1) (2 ^ 64 - 1) → IfSome (later now) (Safe P) → LeavesBetween later first now P
goes_on at later first m now P so_far past tick here k low high =
    ⊎_elim
    (λ (above : m < k). let same : now ≡ k = omega arith in subst (λ (n : ℕ). IfSome (later n) (Safe P)) same here)
    (λ (within : k ≤ m). subst (λ (o : Option Image). IfSome o (Safe P)) (sym (past k within)) (so_far k low within))
    (cases_lt m k)

-- whatever a call answers, what it leaves has R
pub leaves : {T : Type 0} (armed : Bool) (r : Result T DeviceError) (f : Image → Image) (Part : Image → Image → Type 0) (told old new : Option Image)
    (g : Image → Image) (Q : Image → Type 0) (R : Option Image → Image → Type 0)
    → Changes armed r f Part old new → old ≡ option_map g told
    → ((i : Image) → Q i → R (Some i) (f (g i))) → ((i : Image) → Q i → R (Some i) (g i)) → ((i j : Image) → Q i → Part (g i) j → R (Some i) j)
    → IfSome told Q → IfSome new (R told)
leaves armed (Ok x) f Part None old new g Q R change is step stay part h =
    subst (λ (o : Option Image). IfSome o (R None)) (sym (change.done ∙ ap (λ (o : Option Image). option_map f o) is)) tt
leaves armed (Ok x) f Part (Some i) old new g Q R change is step stay part h =
    subst (λ (o : Option Image). IfSome o (R (Some i))) (sym (change.done ∙ ap (λ (o : Option Image). option_map f o) is)) (step i h)
leaves {T = T} armed (Err e) f Part None old new g Q R change is step stay part h =
    let now = subst (λ (o : Option Image). Changes {T = T} armed (Err e) f Part o new) is change in
    ⊎_elim (λ same. subst (λ (o : Option Image). IfSome o (R None)) (sym same) tt) (λ some. absurd some) now.part
leaves {T = T} armed (Err e) f Part (Some i) old new g Q R change is step stay part h =
    let now = subst (λ (o : Option Image). Changes {T = T} armed (Err e) f Part o new) is change in
    ⊎_elim (λ same. subst (λ (o : Option Image). IfSome o (R (Some i))) (sym same) (stay i h))
    (λ (j, is, some). subst (λ (o : Option Image). IfSome o (R (Some i))) (sym is) (part i j h some)) now.part

module _ (gate : ℕ) (piece : List ℕ) (told : Option Image) (ready : IfSome told (IsReady gate)) where
  abbrev R : Option Image → Image → Type 0
  R o i = Safe (IsAfterGate gate piece (bytes_of o)) i

  abbrev P : List ℕ → Type 0
  P = IsAfterGate gate piece (bytes_of told)

  pub here_0 : IfSome told (Safe P)
  here_0 = elim told as (λ (o : Option Image). IfSome o (IsReady gate) → IfSome o (R o)) [
    | None ↦ λ r. tt
    | Some i ↦ λ r. safe_0 gate piece i r
  ] ready

  pub here_1 : {T : Type 0} (armed : Bool) (r : Result T DeviceError) (old new : Option Image)
      → Changes armed r (after_write (gate + 1) piece) (PartOfWrite (gate + 1) (length piece)) old new → old ≡ told → IfSome new (Safe P)
  here_1 armed r old new change is =
      leaves armed r (after_write (gate + 1) piece) (PartOfWrite (gate + 1) (length piece)) told old new (opened gate piece 0) (IsReady gate) R change
      (is ∙ sym same)
      (λ i q. safe_1 gate piece i q) (λ i q. safe_0 gate piece i q) (λ i j q part. part_0 gate piece i q j part) ready
    where
      same : option_map (opened gate piece 0) told ≡ told
      same = elim told as (λ (o : Option Image). option_map (opened gate piece 0) o ≡ o) [
        | None ↦ refl
        | Some i ↦ refl
      ]

  pub here_2 : {T : Type 0} (armed : Bool) (r : Result T DeviceError) (old new : Option Image) → Changes armed r after_sync (λ i j. ⊥) old new
      → old ≡ option_map (opened gate piece 1) told → IfSome new (Safe P)
  here_2 armed r old new change is = leaves armed r after_sync (λ i j. ⊥) told old new (opened gate piece 1) (IsReady gate) R change is
      (λ i q. safe_2 gate piece i q) (λ i q. safe_1 gate piece i q) (λ i j q part. absurd part) ready

  pub here_3 : {T : Type 0} (armed : Bool) (r : Result T DeviceError) (old new : Option Image)
      → Changes armed r (after_write gate (1 ∷ [])) (PartOfWrite gate 1) old new → old ≡ option_map (opened gate piece 2) told → IfSome new (Safe P)
  here_3 armed r old new change is =
      leaves armed r (after_write gate (1 ∷ [])) (PartOfWrite gate 1) told old new (opened gate piece 2) (IsReady gate) R change is
      (λ i q. safe_3 gate piece i q) (λ i q. safe_2 gate piece i q) (λ i j q part. part_2 gate piece i q j part) ready

  pub here_4 : {T : Type 0} (armed : Bool) (r : Result T DeviceError) (old new : Option Image) → Changes armed r after_sync (λ i j. ⊥) old new
      → old ≡ option_map (opened gate piece 3) told → IfSome new (Safe P)
  here_4 armed r old new change is = leaves armed r after_sync (λ i j. ⊥) told old new (opened gate piece 3) (IsReady gate) R change is
      (λ i q. safe_4 gate piece i q) (λ i q. safe_3 gate piece i q) (λ i j q part. absurd part) ready

pub opened_0 : (gate : ℕ) (piece : List ℕ) (told : Option Image) → told ≡ option_map (opened gate piece 0) told
opened_0 gate piece None = refl
opened_0 gate piece (Some i) = refl

-- one call after another
pub then_1 : (gate : ℕ) (piece : List ℕ) (told new : Option Image) → new ≡ option_map (after_write (gate + 1) piece) told
    → new ≡ option_map (opened gate piece 1) told
then_1 gate piece told new is = is

pub then_2 : (gate : ℕ) (piece : List ℕ) (told old new : Option Image) → new ≡ option_map after_sync old → old ≡ option_map (opened gate piece 1) told
    → new ≡ option_map (opened gate piece 2) told
then_2 gate piece None old new is was = is ∙ ap (λ (o : Option Image). option_map after_sync o) was
then_2 gate piece (Some i) old new is was = is ∙ ap (λ (o : Option Image). option_map after_sync o) was

pub then_3 : (gate : ℕ) (piece : List ℕ) (told old new : Option Image) → new ≡ option_map (after_write gate (1 ∷ [])) old
    → old ≡ option_map (opened gate piece 2) told → new ≡ option_map (opened gate piece 3) told
then_3 gate piece None old new is was = is ∙ ap (λ (o : Option Image). option_map (after_write gate (1 ∷ [])) o) was
then_3 gate piece (Some i) old new is was = is ∙ ap (λ (o : Option Image). option_map (after_write gate (1 ∷ [])) o) was

pub then_4 : (gate : ℕ) (piece : List ℕ) (told old new : Option Image) → new ≡ option_map after_sync old → old ≡ option_map (opened gate piece 3) told
    → new ≡ option_map (opened gate piece 4) told
then_4 gate piece None old new is was = is ∙ ap (λ (o : Option Image). option_map after_sync o) was
then_4 gate piece (Some i) old new is was = is ∙ ap (λ (o : Option Image). option_map after_sync o) was

-- the failing call came after so many
pub by_calls : {T : Type 0} (most : ℕ) (x y z : DiskView) (calls : ℕ) (f : ℕ → Image → Image) (g : Image → Image) (Part : Image → Image → Type 0)
    (e : DeviceError)
    → y.moment ≡ x.moment + calls → calls < most → image_now y ≡ option_map (f calls) (image_now x) → y.armed ≡ x.armed
    → ((j : ℕ) → j < calls → IsTrue (fails_at x.armed (x.moment + j)) → ⊥)
    → SamePast y z → IsCall {T = T} y z (Err e) → Changes {T = T} (fails_now y) (Err e) g Part (image_now y) (image_now z)
    → ByCalls most x z f (IsOk {T = T} {E = DeviceError} (Err e)) (IsErrOf {T = T} {E = DeviceError} (Err e) Failed)
by_calls most x y z calls f g Part e here fewer stands same passed past call change = record {
  calls = calls;
  at_most = omega (arith, fewer);
  stands = ap z.image_at (sym here) ∙ past y.moment (omega arith) ∙ stands;
  last = omega (arith, here, call.any_tick);
  passed = passed;
  still = λ due. change.stopped (subst IsTrue (sym due_is) due) ∙ sym (past y.moment (omega arith)) ∙ ap z.image_at here;
  named = λ failed is_armed. subst IsTrue due_is (call.named failed (subst (λ (a : Armed). IsArmed a) (sym same) is_armed));
  whole = λ ok. cc;
  fewer = λ failed. fewer;
}
  where
    due_is : fails_now y ≡ fails_at x.armed (x.moment + calls)
    due_is = ap (λ (a : Armed). fails_at a y.moment) same ∙ ap (λ (n : ℕ). fails_at x.armed n) here

-- a call that succeeded was none that the arming names
pub passed_more : {U : Type 0} (x y z : DiskView) (calls : ℕ) (value : U) → y.moment ≡ x.moment + calls → y.armed ≡ x.armed → IsCall y z (Ok value)
    → ((j : ℕ) → j < calls → IsTrue (fails_at x.armed (x.moment + j)) → ⊥) → (j : ℕ) → j < calls + 1 → IsTrue (fails_at x.armed (x.moment + j)) → ⊥
passed_more x y z calls value here same call before j lt due = ⊎_elim
    (λ (is : j ≡ calls). call.stopped
    (subst IsTrue (ap (λ (n : ℕ). fails_at x.armed n) (omega (arith, is, here)) ∙ ap (λ (a : Armed). fails_at a y.moment) (sym same)) due))
    (λ other. before j (omega (arith, lt, ne_lt j calls lt other)) due)
    (cases_eq j calls)
  where
    ne_lt : (a b : ℕ) → a < b + 1 → (a ≡ b → ⊥) → a < b
    ne_lt a b less ne = ⊎_elim (λ (l : a < b). l) (λ (g : b ≤ a). absurd (ne (omega arith))) (cases_lt a b)

pub no_calls : (x : DiskView) (gate : ℕ) (piece : List ℕ) (ok failed : Type 0) → (ok → ⊥) → (failed → ⊥) → ByCalls 4 x x (opened gate piece) ok failed
no_calls x gate piece ok failed not_ok not_failed =
    let here : x.moment + 0 ≡ x.moment = omega arith in
    record {
      calls = 0;
      at_most = omega arith;
      stands = ap x.image_at here ∙ opened_0 gate piece (image_now x);
      last = omega arith;
      passed = λ j lt due. absurd (omega (arith, lt));
      still = λ due. ap x.image_at (sym here);
      named = λ f. absurd (not_failed f);
      whole = λ o. absurd (not_ok o);
      fewer = λ f. absurd (not_failed f);
    }
