-- How long spellings are at most.
use Rattle.std.{specs.{Int.{Width, w8, w16, w32, w64, byte_len}, List.{flat_map, list_all}, Prelude.nat_le}, proofs.Common.{◌≡◌, ℕ, ◌+◌, ◌*◌, ◌^◌, ◌≤◌, Bool}}
use Rattle.std.proofs.{Common.{◌&&◌, IsTrue, List, [], ◌∷◌, length, length-append, arith}, Math.Nat.mul-le-mul_left, lemmas.Bool.{leb-true, and_parts}}
use Rattle.spl_base.specs.{Form.{Form, number, number_bytes, raw, text, ◌&◌, list_of}, FormLaws.{IsWide, wide8, wide16, wide32, wide64}}
use Rattle.spl_circuit.specs.Forms.{node_id, label, service_id, circuit_id, byte, word, service, lists, definition, kind, act}
use Rattle.spl_circuit.specs.declared.act.ActKind.TheVariants.{Propose, Accept, Reject, Remove, Disband, DisbandAccept, DisbandReject, DisbandRemove}
use Rattle.spl_agree.specs.declared.reason.Reason.{Reason}
use Rattle.spl_wire.specs.Bodies.{reason_form}

-- what has a spelling has a short one
abbrev pub IsShort : {A : Type 0} → Form A → ℕ → Type 0
IsShort {A} f n = (x : A) → IsTrue (f.fits x) → length (f.spell x) ≤ n

short-number : (w : Width) (limit : ℕ) → IsWide w limit → IsShort (number w limit) (byte_len w)
short-number w limit wide x h = omega (arith, wide.len x)

short-raw : (n : ℕ) (p : List ℕ → Bool) → IsShort (raw n p) n
short-raw n p x h =
    let b = and_parts (nat_le n (length x) && nat_le (length x) n) (p x) h in let c = and_parts (nat_le n (length x)) (nat_le (length x) n) b.0 in
    leb-true (length x) n c.1

short-text : (most : ℕ) (p : List ℕ → Bool) → IsShort (text most p) (2 + most)
short-text most p x h =
    let b = and_parts (nat_le (length x) most) (p x) h in
    omega (arith, leb-true (length x) most b.0, wide16.len (length x), length-append (number_bytes w16 (length x)) x)

short-and : {A B : Type 0} (f : Form A) (g : Form B) (m n : ℕ) → IsShort f m → IsShort g n → IsShort (f & g) (m + n)
short-and f g m n s t x h =
    let b = and_parts (f.fits x.0) (g.fits x.1) h in
    omega (arith, s x.0 b.0, t x.1 b.1, length-append (f.spell x.0) (g.spell x.1))

short-items : {A : Type 0} (f : Form A) (n : ℕ) → IsShort f n → (xs : List A) → IsTrue (list_all f.fits xs) → length (flat_map f.spell xs) ≤ length xs * n
short-items f n s [] h = omega arith
short-items f n s (x ∷ xs) h =
    let b = and_parts (f.fits x) (list_all f.fits xs) h in
    omega (arith, s x b.0, short-items f n s xs b.1, length-append (f.spell x) (flat_map f.spell xs))

short-list : {A : Type 0} (most : ℕ) (f : Form A) (n : ℕ) → IsShort f n → IsShort (list_of most f) (2 + n * most)
short-list most f n s xs h =
    let b = and_parts (nat_le (length xs) most) (list_all f.fits xs) h in
    omega (
      arith,
      short-items f n s xs b.1,
      mul-le-mul_left n (leb-true (length xs) most b.0),
      wide16.len (length xs),
      length-append (number_bytes w16 (length xs)) (flat_map f.spell xs),
    )

pub short-byte : IsShort byte 1
short-byte = short-number w8 (2 ^ 8) wide8

pub short-word : IsShort word 4
short-word = short-number w32 (2 ^ 32) wide32

pub short-long : (n : ℕ) → length (number_bytes w64 n) ≡ 8
short-long n = wide64.len n

pub short-node_id : IsShort node_id 34
short-node_id = short-text 32 _

short-label : IsShort label 130
short-label = short-text 128 _

pub short-service : IsShort service 168
short-service x h =
    short-and service_id (label & node_id) 4 164 (short-raw 4 _) (short-and label node_id 130 34 short-label short-node_id) (x.id, (x.kind, x.node)) h

pub short-definition : IsShort definition 3512
short-definition x h =
    short-and circuit_id (word & byte & label & label & lists) 11 3501 (short-raw 11 _)
    (short-and word (byte & label & label & lists) 4 3497 short-word
    (short-and byte (label & label & lists) 1 3496 short-byte
    (short-and label (label & lists) 130 3366 short-label
    (short-and label lists 130 3236 short-label
    (short-and (list_of 16 node_id) (list_of 16 service) 546 2690 (short-list 16 node_id 34 short-node_id) (short-list 16 service 168 short-service))))))
    (x.id, (x.generation, (x.version, (x.management, (x.name, (x.members, x.services)))))) h

pub short-kind : IsShort kind 3513
short-kind (Propose d) h = omega (arith, short-definition d h, wide8.len 1, length-append (number_bytes w8 1) (definition.spell d))
short-kind Accept h = omega (arith, wide8.len 2, length-append (number_bytes w8 2) [])
short-kind Reject h = omega (arith, wide8.len 3, length-append (number_bytes w8 3) [])
short-kind Remove h = omega (arith, wide8.len 4, length-append (number_bytes w8 4) [])
short-kind Disband h = omega (arith, wide8.len 5, length-append (number_bytes w8 5) [])
short-kind (DisbandAccept p) h = omega (arith, wide8.len 6, wide32.len p, length-append (number_bytes w8 6) (word.spell p))
short-kind (DisbandReject p) h = omega (arith, wide8.len 7, wide32.len p, length-append (number_bytes w8 7) (word.spell p))
short-kind (DisbandRemove p) h = omega (arith, wide8.len 8, wide32.len p, length-append (number_bytes w8 8) (word.spell p))

pub short-act : IsShort act 3551
short-act x h = short-and node_id (word & kind) 34 3517 short-node_id (short-and word kind 4 3513 short-word short-kind) (x.node, (x.turn, x.kind)) h

pub short-circuit_id : IsShort circuit_id 11
short-circuit_id = short-raw 11 _

pub short-reason : (r : Reason) → length (reason_form.spell r) ≡ 2
short-reason r = omega (arith, wide8.len r.code, wide8.len r.at, length-append (number_bytes w8 r.code) (number_bytes w8 r.at))
