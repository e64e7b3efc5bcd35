-- What stands at the beginning of a stream.
use Rattle.std.{specs.Int.{w16, w32, from_be_bytes, to_be_bytes}, proofs.Common.{◌≡◌, ◌≢◌, ℕ, ◌+◌, ◌^◌, ◌<◌, ◌≤◌, Bool, true, false, cond, ltb, ◌==◌, List}}
use Rattle.std.proofs.{Common.{◌++◌, length, take, drop, Option, Some, None, Result, Ok, Err, refl, sym, ap, subst, ◌∙◌, ne_eqb, arith}, lemmas.Bool.ltb-true}
use Rattle.std.proofs.lemmas.{Bool.{ltb-false, lt-ltb, le-ltb, eqb-true, eqb-false}, List.{take-append-drop, length-append, length-drop, length-take-le}}
use Rattle.std.proofs.lemmas.{List.{take-append-le, drop-append-le, drop-drop}, Nat.{be_bytes_2, be_bytes_4, from_be_bytes-to_be_bytes_2}}
use Rattle.std.proofs.lemmas.Nat.{from_be_bytes-to_be_bytes_4}
use Rattle.spl_base.specs.{Form.IsBytes, FormLaws.{IsBytes-drop, IsBytes-take}}
use Rattle.spl_frame.specs.{Frames.{frame, IsBody, version_of, length_of, first_frame, Shows}, declared.fault.FrameFault.{FrameFault, TheVariants.NoMemory}}
use Rattle.spl_frame.specs.declared.{fault.FrameFault.TheVariants.{BadVersion, TooLong}, header.TheConstants.LONGEST_BODY}

abbrev FirstFrame : Type 0
FirstFrame = Result (Option ℕ) FrameFault

abbrev failed : FrameFault → FirstFrame
failed e = Err e

-- ---- what the tests say

-- a test that was not passed, where passing it would give another answer
not_then : (b : Bool) (x y z : FirstFrame) → cond b x y ≡ z → x ≢ z → (b ≡ false) × (y ≡ z)
not_then true x y z e n = absurd (n e)
not_then false x y z e n = (refl, e)

not_else : (b : Bool) (x y z : FirstFrame) → cond b x y ≡ z → y ≢ z → (b ≡ true) × (x ≡ z)
not_else true x y z e n = (refl, e)
not_else false x y z e n = absurd (n e)

-- a whole frame of n bytes
pub record IsWhole (bytes : List ℕ) (n : ℕ) : Type 0 where
  pub version : version_of bytes ≡ 1
  pub size : n ≡ 6 + length_of bytes
  pub short : length_of bytes ≤ LONGEST_BODY
  pub there : n ≤ length bytes

pub whole_first_frame : (bytes : List ℕ) (n : ℕ) → IsWhole bytes n → first_frame bytes ≡ Ok (Some n)
whole_first_frame bytes n w =
    let l2 = le-ltb (length bytes) 2 (omega (arith, w.size, w.there)) in
    let l6 = le-ltb (length bytes) 6 (omega (arith, w.size, w.there)) in
    let lm = le-ltb LONGEST_BODY (length_of bytes) w.short in
    let ln = le-ltb (length bytes) (6 + length_of bytes) (omega (arith, w.size, w.there)) in
    rw (l2, w.version, l6, lm, ln) (ap (λ k. Ok (Some k)) (sym w.size))

pub first_frame_whole : (bytes : List ℕ) (n : ℕ) → first_frame bytes ≡ Ok (Some n) → IsWhole bytes n
first_frame_whole bytes n e =
    let a = not_then (ltb (length bytes) 2) _ _ (Ok (Some n)) e (λ h. absurd cc) in
    let b = not_else (version_of bytes == 1) _ _ (Ok (Some n)) a.1 (λ h. absurd cc) in
    let c = not_then (ltb (length bytes) 6) _ _ (Ok (Some n)) b.1 (λ h. absurd cc) in
    let d = not_then (ltb LONGEST_BODY (length_of bytes)) _ _ (Ok (Some n)) c.1 (λ h. absurd cc) in
    let f = not_then (ltb (length bytes) (6 + length_of bytes)) _ _ (Ok (Some n)) d.1 (λ h. absurd cc) in
    let s : 6 + length_of bytes ≡ n = cc in
    record {
      version = eqb-true (version_of bytes) 1 b.0;
      size = sym s;
      short = ltb-false LONGEST_BODY (length_of bytes) d.0;
      there = omega (arith, s, ltb-false (length bytes) (6 + length_of bytes) f.0);
    }

-- a header with a fault
pub record IsBadVersion (bytes : List ℕ) : Type 0 where
  pub there : 2 ≤ length bytes
  pub other : version_of bytes ≢ 1

pub record IsTooLong (bytes : List ℕ) : Type 0 where
  pub version : version_of bytes ≡ 1
  pub there : 6 ≤ length bytes
  pub long : LONGEST_BODY < length_of bytes

pub bad_first_frame : (bytes : List ℕ) → IsBadVersion bytes → first_frame bytes ≡ Err (BadVersion (version_of bytes))
bad_first_frame bytes b = rw (le-ltb (length bytes) 2 b.there, ne_eqb (version_of bytes) 1 b.other) refl

pub long_first_frame : (bytes : List ℕ) → IsTooLong bytes → first_frame bytes ≡ Err (TooLong (length_of bytes))
long_first_frame bytes b =
    rw (le-ltb (length bytes) 2 (omega (arith, b.there)), b.version, le-ltb (length bytes) 6 b.there, lt-ltb LONGEST_BODY (length_of bytes) b.long) refl

abbrev IsFaulty : FrameFault → List ℕ → Type 0
IsFaulty NoMemory bytes = ⊥
IsFaulty (BadVersion v) bytes = (version_of bytes ≡ v) × IsBadVersion bytes
IsFaulty (TooLong n) bytes = (length_of bytes ≡ n) × IsTooLong bytes

is_err : (e f : FrameFault) → Err e ≡ failed f → e ≡ f
is_err e f h = cc

faulty_by : (bytes : List ℕ) (e : FrameFault) (a b c d f : Bool) → ltb (length bytes) 2 ≡ a → (version_of bytes == 1) ≡ b → ltb (length bytes) 6 ≡ c
    → ltb LONGEST_BODY (length_of bytes) ≡ d → ltb (length bytes) (6 + length_of bytes) ≡ f
    → cond a (Ok None) (cond b (cond c (Ok None) (cond d (Err (TooLong (length_of bytes))) (cond f (Ok None) (Ok (Some (6 + length_of bytes))))))
    (Err (BadVersion (version_of bytes)))) ≡ Err e → IsFaulty e bytes
faulty_by bytes e true b c d f p q r s t h = absurd cc
faulty_by bytes e false false c d f p q r s t h =
    subst (λ v. IsFaulty v bytes) (is_err (BadVersion (version_of bytes)) e h)
    (refl, record { there = ltb-false (length bytes) 2 p; other = eqb-false (version_of bytes) 1 q })
faulty_by bytes e false true true d f p q r s t h = absurd cc
faulty_by bytes e false true false true f p q r s t h =
    subst (λ v. IsFaulty v bytes) (is_err (TooLong (length_of bytes)) e h)
    (refl, record { version = eqb-true (version_of bytes) 1 q; there = ltb-false (length bytes) 6 r; long = ltb-true LONGEST_BODY (length_of bytes) s })
faulty_by bytes e false true false false true p q r s t h = absurd cc
faulty_by bytes e false true false false false p q r s t h = absurd cc

pub first_frame_faulty : (bytes : List ℕ) (e : FrameFault) → first_frame bytes ≡ Err e → IsFaulty e bytes
first_frame_faulty bytes e =
    faulty_by bytes e (ltb (length bytes) 2) (version_of bytes == 1) (ltb (length bytes) 6) (ltb LONGEST_BODY (length_of bytes))
    (ltb (length bytes) (6 + length_of bytes)) refl refl refl refl refl

pub faulty_first_frame : (bytes : List ℕ) (e : FrameFault) → IsFaulty e bytes → first_frame bytes ≡ Err e
faulty_first_frame bytes NoMemory f = absurd f
faulty_first_frame bytes (BadVersion v) f = bad_first_frame bytes f.1 ∙ ap (λ k. Err (BadVersion k)) f.0
faulty_first_frame bytes (TooLong n) f = long_first_frame bytes f.1 ∙ ap (λ k. Err (TooLong k)) f.0

-- ---- more bytes after

version_grows : (xs ys : List ℕ) → 2 ≤ length xs → version_of (xs ++ ys) ≡ version_of xs
version_grows xs ys l = ap (from_be_bytes w16) (take-append-le 2 xs ys l)

length_grows : (xs ys : List ℕ) → 6 ≤ length xs → length_of (xs ++ ys) ≡ length_of xs
length_grows xs ys l =
    ap (λ r. from_be_bytes w32 (take 4 r)) (drop-append-le 2 xs ys (omega (arith, l)))
    ∙ ap (from_be_bytes w32) (take-append-le 4 (drop 2 xs) ys (omega (arith, l, length-drop 2 xs)))

pub whole_grows : (xs ys : List ℕ) (n : ℕ) → IsWhole xs n → IsWhole (xs ++ ys) n
whole_grows xs ys n w =
    let l : 6 ≤ length xs = omega (arith, w.size, w.there) in
    let e = length_grows xs ys l in
    record {
      version = version_grows xs ys (omega (arith, l)) ∙ w.version;
      size = w.size ∙ ap (λ k. 6 + k) (sym e);
      short = omega (arith, e, w.short);
      there = omega (arith, w.there, length-append xs ys);
    }

faulty_grows : (xs ys : List ℕ) (e : FrameFault) → IsFaulty e xs → IsFaulty e (xs ++ ys)
faulty_grows xs ys NoMemory f = absurd f
faulty_grows xs ys (BadVersion v) f =
    let g = version_grows xs ys f.1.there in
    (g ∙ f.0, record { there = omega (arith, f.1.there, length-append xs ys); other = λ h. f.1.other (sym g ∙ h) })
faulty_grows xs ys (TooLong n) f =
    let g = length_grows xs ys f.1.there in (
      g ∙ f.0,
      record {
        version =
            version_grows xs ys (omega (arith, f.1.there))
            ∙ f.1.version;
        there = omega (arith, f.1.there, length-append xs ys);
        long = omega (arith, g, f.1.long);
      },
    )

pub first_frame_grows : (xs ys : List ℕ) (n : ℕ) → first_frame xs ≡ Ok (Some n) → first_frame (xs ++ ys) ≡ Ok (Some n)
first_frame_grows xs ys n e = whole_first_frame (xs ++ ys) n (whole_grows xs ys n (first_frame_whole xs n e))

pub fault_grows : (xs ys : List ℕ) (e : FrameFault) → first_frame xs ≡ Err e → first_frame (xs ++ ys) ≡ Err e
fault_grows xs ys e h = faulty_first_frame (xs ++ ys) e (faulty_grows xs ys e (first_frame_faulty xs e h))

-- ---- frames and headers as they are written

pub frame_is_whole : (body more : List ℕ) → IsBody body → IsWhole (frame body ++ more) (6 + length body)
frame_is_whole body more l =
    let s : length_of (frame body ++ more) ≡ length body = from_be_bytes-to_be_bytes_4 (length body) (omega (arith, l)) in
    record {
      version = refl;
      size = ap (λ k. 6 + k) (sym s);
      short = omega (arith, s, l);
      there = omega (arith, length-append body more);
    }

pub shown_first_frame : (e : FrameFault) (bytes : List ℕ) → Shows e bytes → first_frame bytes ≡ Err e
shown_first_frame NoMemory bytes s = absurd s
shown_first_frame (BadVersion v) bytes s =
    let is = s.2.1 in
    let g : version_of bytes ≡ v = ap version_of is ∙ from_be_bytes-to_be_bytes_2 v s.1 in
    faulty_first_frame bytes (BadVersion v) (g, record { there = omega (arith, ap length is); other = λ h. s.0 (sym g ∙ h) })
shown_first_frame (TooLong n) bytes s =
    let is = s.2.1 in
    let g : length_of bytes ≡ n = ap length_of is ∙ from_be_bytes-to_be_bytes_4 n s.1 in
    faulty_first_frame bytes (TooLong n) (g, record { version = ap version_of is; there = omega (arith, ap length is); long = omega (arith, g, s.0) })

-- ---- frames and headers as they are read

-- bytes from their first two, the next four, and the others
split_header : (bytes : List ℕ) → bytes ≡ take 2 bytes ++ (take 4 (drop 2 bytes) ++ drop 6 bytes)
split_header bytes = sym (
    ap (λ r. take 2 bytes ++ r) (ap (λ r. take 4 (drop 2 bytes) ++ r) (sym (drop-drop 4 2 bytes)) ∙ take-append-drop 4 (drop 2 bytes))
    ∙ take-append-drop 2 bytes)

version_bytes : (bytes : List ℕ) (v : ℕ) → IsBytes bytes → 2 ≤ length bytes → version_of bytes ≡ v → take 2 bytes ≡ to_be_bytes w16 v
version_bytes bytes v h l e = sym (be_bytes_2 (take 2 bytes) v (length-take-le 2 bytes l) (IsBytes-take 2 bytes h) (sym e))

length_bytes : (bytes : List ℕ) (n : ℕ) → IsBytes bytes → 6 ≤ length bytes → length_of bytes ≡ n → take 4 (drop 2 bytes) ≡ to_be_bytes w32 n
length_bytes bytes n h l e =
    sym (be_bytes_4 (take 4 (drop 2 bytes)) n (length-take-le 4 (drop 2 bytes) (omega (arith, l, length-drop 2 bytes)))
    (IsBytes-take 4 (drop 2 bytes) (IsBytes-drop 2 bytes h)) (sym e))

-- the body of a whole frame
pub body_length : (bytes : List ℕ) (n : ℕ) → IsWhole bytes n → length (drop 6 (take n bytes)) ≡ length_of bytes
body_length bytes n w = omega (arith, length-drop 6 (take n bytes), length-take-le n bytes w.there, w.size)

after_header : (bytes : List ℕ) (n : ℕ) → IsWhole bytes n → drop 6 bytes ≡ drop 6 (take n bytes) ++ drop n bytes
after_header bytes n w =
    ap (drop 6) (sym (take-append-drop n bytes))
    ∙ drop-append-le 6 (take n bytes) (drop n bytes) (omega (arith, length-take-le n bytes w.there, w.size))

pub whole_is_frame : (bytes : List ℕ) (n : ℕ) → IsBytes bytes → IsWhole bytes n → bytes ≡ frame (drop 6 (take n bytes)) ++ drop n bytes
whole_is_frame bytes n h w =
    let l : 6 ≤ length bytes = omega (arith, w.size, w.there) in
    split_header bytes
    ∙ ap (λ r. r ++ (take 4 (drop 2 bytes) ++ drop 6 bytes)) (version_bytes bytes 1 h (omega (arith, l)) w.version)
    ∙ ap (λ r. to_be_bytes w16 1 ++ (r ++ drop 6 bytes)) (length_bytes bytes (length (drop 6 (take n bytes))) h l (sym (body_length bytes n w)))
    ∙ ap (λ r. to_be_bytes w16 1 ++ (to_be_bytes w32 (length (drop 6 (take n bytes))) ++ r)) (after_header bytes n w)

small_version : (bytes : List ℕ) → IsBytes bytes → 2 ≤ length bytes → version_of bytes < 2 ^ 16
small_version bytes h l =
    let b = IsBytes-take 2 bytes h in
    omega (arith, b 0, b 1)

small_length : (bytes : List ℕ) → IsBytes bytes → length_of bytes < 2 ^ 32
small_length bytes h =
    let b = IsBytes-take 4 (drop 2 bytes) (IsBytes-drop 2 bytes h) in
    omega (arith, b 0, b 1, b 2, b 3)

faulty_shows : (e : FrameFault) (bytes : List ℕ) → IsBytes bytes → IsFaulty e bytes → Shows e bytes
faulty_shows NoMemory bytes h f = absurd f
faulty_shows (BadVersion v) bytes h f = (
  λ e. f.1.other (f.0 ∙ e),
  rw (sym f.0) (small_version bytes h f.1.there),
  (drop 2 bytes, sym (take-append-drop 2 bytes) ∙ ap (λ r. r ++ drop 2 bytes) (version_bytes bytes v h f.1.there f.0)),
)
faulty_shows (TooLong n) bytes h f = (
  omega (arith, f.0, f.1.long),
  rw (sym f.0) (small_length bytes h),
  (
    drop 6 bytes,
    split_header bytes
        ∙ ap (λ r. r ++ (take 4 (drop 2 bytes) ++ drop 6 bytes)) (version_bytes bytes 1 h (omega (arith, f.1.there)) f.1.version)
        ∙ ap (λ r. to_be_bytes w16 1 ++ (r ++ drop 6 bytes)) (length_bytes bytes n h f.1.there f.0),
  ),
)

pub first_frame_shows : (e : FrameFault) (bytes : List ℕ) → IsBytes bytes → first_frame bytes ≡ Err e → Shows e bytes
first_frame_shows e bytes h f = faulty_shows e bytes h (first_frame_faulty bytes e f)
