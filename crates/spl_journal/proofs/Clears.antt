-- What a crash leaves while a disk is cleared.
use Rattle.std.{specs.Option.option_map, proofs.Common.{◌≡◌, ◌⊎◌, inl, inr, ⊎_elim, ℕ, ◌+◌, ◌<◌, ◌≤◌, min, List, [], ◌∷◌, ◌++◌, length, get_or, take, Bool}}
use Rattle.std.proofs.{Common.{Option, None, Some, IfSome, Result, refl, sym, ◌∙◌, ap, subst, arith, length-take}, lemmas.List.{append-nil, drop_all}}
use Rattle.std.proofs.lemmas.{List.{ext_get_or, get_or-take}, Bool.cases_lt}
use Rattle.spl_edge.specs.Devices.{Image, IsOutside, patched, after_write, after_cut, after_sync, settled_at, Changes, PartOfWrite, PartOfCut}
use Rattle.spl_edge.specs.{ImageLaws.length-patched, declared.fault.DeviceError.DeviceError}
use Rattle.spl_journal.{specs.{Clear.{IsAtRest, IsShortOrSame, cleared}, Records.closed_prefix}, proofs.{Sizes.length-closed_prefix, Images.Safe}}
use Rattle.spl_journal.proofs.{Images.only_settled, Gates.{bytes_of, leaves}}

short : (j : Image) (bytes : List ℕ) → j.greatest < 18 → Safe (IsShortOrSame bytes) j
short j bytes small c left = inl (omega (arith, small, left.no_longer))

cut_short : (j : Image) (bytes : List ℕ) (n : ℕ) → j.synced ≡ bytes → j.touched ≡ (n, 0) ∷ [] → j.greatest ≡ length bytes → Safe (IsShortOrSame bytes) j
cut_short j bytes n synced touched greatest c left = ⊎_elim
    (λ (lt : length c < 18). inl lt)
    (λ (le : 18 ≤ length c).
    let room : length c ≤ length bytes = omega (arith, greatest, left.no_longer) in
    inr (
      ext_get_or 0 (take 17 c) (take 17 bytes) (omega (arith, length-take 17 c, length-take 17 bytes, le, room))
          (λ k lt. get_or-take 17 c k 0 (omega (arith, length-take 17 c, lt))
          ∙ left.same k (omega (arith, length-take 17 c, lt)) (omega (arith, length-take 17 c, lt, room, ap length synced))
          (subst (λ (rs : List (ℕ × ℕ)). IsOutside k rs) (sym touched) (beside k n, tt))
          ∙ ap (λ (l : List ℕ). get_or l k 0) synced
          ∙ sym (get_or-take 17 bytes k 0 (omega (arith, length-take 17 c, lt)))),
      room,
    ))
    (cases_lt (length c) 18)
  where
    beside : (k m : ℕ) → (k < m) ⊎ (m + 0 ≤ k)
    beside k m = ⊎_elim (λ (l : k < m). inl l) (λ (g : m ≤ k). inr (omega arith)) (cases_lt k m)

module _ (len : ℕ) (head : List ℕ) (long : length head ≡ 17) (i : Image) (rest : IsAtRest len i) where
  pub safe_0 : Safe (IsShortOrSame i.bytes) i
  safe_0 c left = let same = only_settled i c rest.settled left in inr (ap (take 17) same, omega (arith, ap length same))

  pub safe_1 : Safe (IsShortOrSame i.bytes) (after_cut (min len 17) i)
  safe_1 = cut_short (after_cut (min len 17) i) i.bytes (min len 17) rest.settled.same
      (ap (λ (rs : List (ℕ × ℕ)). rs ++ (min len 17, 0) ∷ []) rest.settled.none) rest.settled.greatest

  pub part_0 : (j : Image) → PartOfCut (min len 17) i j → Safe (IsShortOrSame i.bytes) j
  part_0 j part =
      cut_short j i.bytes (min len 17) (part.synced ∙ rest.settled.same)
      (part.touched ∙ ap (λ (rs : List (ℕ × ℕ)). rs ++ (min len 17, 0) ∷ []) rest.settled.none) (part.greatest ∙ rest.settled.greatest)

  size : length (take (min len 17) i.bytes) ≤ 17
  size = omega (arith, length-take (min len 17) i.bytes)

  pub safe_2 : Safe (IsShortOrSame i.bytes) (after_sync (after_cut (min len 17) i))
  safe_2 = short (after_sync (after_cut (min len 17) i)) i.bytes (omega (arith, size))

  pub safe_3 : Safe (IsShortOrSame i.bytes) (after_write 0 head (after_sync (after_cut (min len 17) i)))
  safe_3 = short (after_write 0 head (after_sync (after_cut (min len 17) i))) i.bytes (omega (arith, size, long))

  pub part_2 : (j : Image) → PartOfWrite 0 (length head) (after_sync (after_cut (min len 17) i)) j → Safe (IsShortOrSame i.bytes) j
  part_2 j part = short j i.bytes (omega (arith, part.greatest, size, long))

  pub safe_4 : Safe (IsShortOrSame i.bytes) (after_sync (after_write 0 head (after_sync (after_cut (min len 17) i))))
  safe_4 = short (after_sync (after_write 0 head (after_sync (after_cut (min len 17) i)))) i.bytes
      (omega (arith, size, long, length-patched (take (min len 17) i.bytes) head 0 (omega arith)))

module _ (len : ℕ) (head : List ℕ) (long : length head ≡ 17) (told : Option Image) (rest : IfSome told (IsAtRest len)) where
  abbrev R : Option Image → Image → Type 0
  R o i = Safe (IsShortOrSame (bytes_of o)) i

  abbrev P : List ℕ → Type 0
  P = IsShortOrSame (bytes_of told)

  pub here_0 : IfSome told (Safe P)
  here_0 = elim told as (λ (o : Option Image). IfSome o (IsAtRest len) → IfSome o (R o)) [
    | None ↦ λ r. tt
    | Some i ↦ λ r. safe_0 len head long i r
  ] rest

  pub here_1 : {T : Type 0} (armed : Bool) (r : Result T DeviceError) (old new : Option Image)
      → Changes armed r (after_cut (min len 17)) (PartOfCut (min len 17)) old new → old ≡ option_map (cleared (min len 17) head 0) told → IfSome new (Safe P)
  here_1 armed r old new change is =
      leaves armed r (after_cut (min len 17)) (PartOfCut (min len 17)) told old new (cleared (min len 17) head 0) (IsAtRest len) R change is
      (λ i q. safe_1 len head long i q) (λ i q. safe_0 len head long i q) (λ i j q part. part_0 len head long i q j part) rest

  pub here_2 : {T : Type 0} (armed : Bool) (r : Result T DeviceError) (old new : Option Image) → Changes armed r after_sync (λ i j. ⊥) old new
      → old ≡ option_map (cleared (min len 17) head 1) told → IfSome new (Safe P)
  here_2 armed r old new change is = leaves armed r after_sync (λ i j. ⊥) told old new (cleared (min len 17) head 1) (IsAtRest len) R change is
      (λ i q. safe_2 len head long i q) (λ i q. safe_1 len head long i q) (λ i j q part. absurd part) rest

  pub here_3 : {T : Type 0} (armed : Bool) (r : Result T DeviceError) (old new : Option Image)
      → Changes armed r (after_write 0 head) (PartOfWrite 0 (length head)) old new → old ≡ option_map (cleared (min len 17) head 2) told → IfSome new (Safe P)
  here_3 armed r old new change is =
      leaves armed r (after_write 0 head) (PartOfWrite 0 (length head)) told old new (cleared (min len 17) head 2) (IsAtRest len) R change is
      (λ i q. safe_3 len head long i q) (λ i q. safe_2 len head long i q) (λ i j q part. part_2 len head long i q j part) rest

  pub here_4 : {T : Type 0} (armed : Bool) (r : Result T DeviceError) (old new : Option Image) → Changes armed r after_sync (λ i j. ⊥) old new
      → old ≡ option_map (cleared (min len 17) head 3) told → IfSome new (Safe P)
  here_4 armed r old new change is = leaves armed r after_sync (λ i j. ⊥) told old new (cleared (min len 17) head 3) (IsAtRest len) R change is
      (λ i q. safe_4 len head long i q) (λ i q. safe_3 len head long i q) (λ i j q part. absurd part) rest

pub cleared_0 : (n : ℕ) (head : List ℕ) (told : Option Image) → told ≡ option_map (cleared n head 0) told
cleared_0 n head None = refl
cleared_0 n head (Some i) = refl

pub next : (f g h : Image → Image) (told old new : Option Image) → new ≡ option_map f old → old ≡ option_map g told → ((i : Image) → f (g i) ≡ h i)
    → new ≡ option_map h told
next f g h None old new is was same = is ∙ ap (λ (o : Option Image). option_map f o) was
next f g h (Some i) old new is was same = is ∙ ap (λ (o : Option Image). option_map f o) was ∙ ap (λ (j : Image). Some j) (same i)

pub room : (len n : ℕ) (told : Option Image) → n ≡ min len 17 → IfSome told (IsAtRest len) → IfSome told (λ i. n ≤ length i.bytes)
room len n None is rest = tt
room len n (Some i) is rest = omega (arith, is, rest.long)

-- a head over fewer bytes is all there is
pub only_head : (bytes head : List ℕ) → length bytes ≤ length head → patched bytes 0 head ≡ head
only_head bytes head fewer = ap (λ (l : List ℕ). head ++ l) (drop_all (0 + length head) bytes (omega (arith, fewer))) ∙ append-nil head

cleared_is : (n epoch : ℕ) (i : Image) → n ≤ 17 → cleared n (closed_prefix epoch) 4 i ≡ settled_at (closed_prefix epoch)
cleared_is n epoch i small =
    ap settled_at (only_head (take n i.bytes) (closed_prefix epoch) (omega (arith, small, length-take n i.bytes, length-closed_prefix epoch)))

pub cleared_told : (n epoch : ℕ) (head : List ℕ) (told new : Option Image) → n ≤ 17 → head ≡ closed_prefix epoch → new ≡ option_map (cleared n head 4) told
    → new ≡ option_map (λ i. settled_at (closed_prefix epoch)) told
cleared_told n epoch head None new small same is = is
cleared_told n epoch head (Some i) new small same is =
    is ∙ ap (λ (h : List ℕ). Some (cleared n h 4 i)) same ∙ ap (λ (j : Image). Some j) (cleared_is n epoch i small)
