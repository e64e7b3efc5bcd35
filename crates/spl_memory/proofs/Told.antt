-- What a call of a disk in memory reports.
use Rattle.std.{specs.Option.option_map, proofs.Common.{◌≡◌, inl, ℕ, ◌≤◌, ◌-◌, min, List, ◌++◌, length, take, drop, length-append, length-drop, Bool, IsTrue}}
use Rattle.std.proofs.{Common.{OnOk, OnErr, true, Option, Some, Result, Ok, Err, sym, ◌∙◌, ap, arith}, lemmas.List.{take_at, drop_min}, Math.Nat.min_comm}
use Rattle.spl_edge.specs.{Devices.{Image, Changes}, declared.fault.DeviceError.DeviceError}
use Rattle.spl_memory.{specs.{Replay.{replayed, until, all_until}, Changes.Call}, proofs.Kept.{told_same, until_all}}

pub unchanged : {T : Type 0} (armed : Bool) (e : DeviceError) (f : Image → Image) (Part : Image → Image → Type 0) (old new : Option Image) → new ≡ old
    → Changes {T = T} armed (Err e) f Part old new
unchanged armed e f Part old new same = record { done = tt; stopped = λ _. same; part = inl same }

pub made : {T : Type 0} (armed : Bool) (x : T) (f : Image → Image) (Part : Image → Image → Type 0) (old new : Option Image) → new ≡ option_map f old
    → (IsTrue armed → ⊥) → Changes {T = T} armed (Ok x) f Part old new
made armed x f Part old new is passes = record { done = is; stopped = λ stopped. absurd (passes stopped); part = tt }

pub either : {T E : Type 0} (r : Result T E) (A B C : Type 0) → OnOk r A → OnErr r B → (A → C) → (B → C) → C
either (Ok x) A B C a b f g = f a
either (Err e) A B C a b f g = g b

pub either2 : {T E : Type 0} (r : Result T E) (A B : Type 0) → OnOk r A → OnOk r B → OnOk r (A × B)
either2 (Ok x) A B a b = (a, b)
either2 (Err e) A B a b = tt

pub told_err : (s : Image) (old new : List Call) (m k : ℕ) → new ≡ old → all_until m old ≡ true → m ≤ k
    → Some (replayed s (until k new)) ≡ Some (replayed s (until m old))
told_err s old new m k same all le = ap (λ (l : List Call). Some (replayed s (until k l))) same ∙ told_same s old m k all le

pub known_told : (s : Image) (calls : List Call) (m : ℕ) (bytes : List ℕ) → all_until m calls ≡ true → bytes ≡ (replayed s calls).bytes
    → bytes ≡ (replayed s (until m calls)).bytes
known_told s calls m bytes all known = known ∙ ap (λ (l : List Call). (replayed s l).bytes) (sym (until_all m m calls all (omega arith)))

pub read_is : (bytes img buf piece : List ℕ) (at from count : ℕ) → bytes ≡ img → from ≡ min (length bytes) at
    → count ≡ min (length buf) (length bytes - from) → length piece ≡ count → piece ≡ take count (drop from bytes)
    → (count ≡ min (length (piece ++ drop count buf)) (length img - at)) × (take count (piece ++ drop count buf) ≡ take count (drop at img))
read_is bytes img buf piece at from count same start size long is = (
  omega (arith, ap length same, length-append {A = ℕ}, length-drop {A = ℕ}),
  take_at piece (drop count buf) count long ∙ is ∙ ap (λ (n : ℕ). take count (drop n bytes)) (start ∙ min_comm (length bytes) at)
      ∙ ap (λ (l : List ℕ). take count l) (drop_min at bytes) ∙ ap (λ (l : List ℕ). take count (drop at l)) same,
)
