-- The nine blocks of a message of 513 bytes.
use Rattle.std.proofs.Common.{◌≡◌, ℕ, suc, ◌+◌, ◌*◌, ◌≤◌, List, [], ◌∷◌, ◌++◌, length, take, drop, slice_index, sym, ap, ◌∙◌, arith, length-drop}
use Rattle.std.proofs.{Common.{length-append, ◌/◌}, Math.Seq.drop-cons, lemmas.List.{take-append-le, drop-append-le, drop_all}}
use Rattle.sha2.specs.Sha256.{padded_message, padding, hash_after, initial_hash_256, digest_bytes, sha256}

padded_whole : (first : ℕ) (rest : List ℕ) → length rest ≡ 512 → padded_message (first ∷ rest) ≡ first ∷ (rest ++ padding 513)
padded_whole first rest sized =
    let all : suc (length rest) ≡ 513 = omega (arith, sized) in
    ap (λ n. first ∷ (rest ++ padding n)) all

pub head_block : (first : ℕ) (rest : List ℕ) (n : ℕ) → length rest ≡ 512 → n ≡ 0
    → first ∷ take 63 rest ≡ take 64 (drop (n * 64) (padded_message (first ∷ rest)))
head_block first rest n sized is =
    let from : 0 ≡ n * 64 = omega (arith, is) in
    ap (λ r. first ∷ r) (sym (take-append-le 63 rest (padding 513) (omega (arith, sized))))
    ∙ ap (λ k. take 64 (drop k (first ∷ (rest ++ padding 513)))) from
    ∙ ap (λ m. take 64 (drop (n * 64) m)) (sym (padded_whole first rest sized))

pub inner_block : (first : ℕ) (rest : List ℕ) (n from : ℕ) → length rest ≡ 512 → n * 64 ≡ from + 1 → from + 64 ≤ 512
    → take 64 (drop from rest) ≡ take 64 (drop (n * 64) (padded_message (first ∷ rest)))
inner_block first rest n from sized at room =
    let next : suc from ≡ n * 64 = omega (arith, at) in
    let left : 64 ≤ length (drop from rest) = omega (arith, length-drop from rest, sized, room) in
    sym (take-append-le 64 (drop from rest) (padding 513) left)
    ∙ ap (take 64) (sym (drop-append-le from rest (padding 513) (omega (arith, sized, room))))
    ∙ ap (λ k. take 64 (drop k (first ∷ (rest ++ padding 513)))) next
    ∙ ap (λ m. take 64 (drop (n * 64) m)) (sym (padded_whole first rest sized))

last_one : (rest : List ℕ) → length rest ≡ 512 → drop 511 rest ≡ slice_index rest 511 ∷ []
last_one rest sized = drop-cons rest 511 0 (omega (arith, sized)) ∙ ap (λ r. slice_index rest 511 ∷ r) (drop_all 512 rest (omega (arith, sized)))

pub tail_block : (first : ℕ) (rest : List ℕ) (n : ℕ) → length rest ≡ 512 → n ≡ 8
    → slice_index rest 511 ∷ padding 513 ≡ take 64 (drop (n * 64) (padded_message (first ∷ rest)))
tail_block first rest n sized is =
    let from : suc 511 ≡ n * 64 = omega (arith, is) in
    ap (λ r. take 64 (r ++ padding 513)) (sym (last_one rest sized))
    ∙ ap (take 64) (sym (drop-append-le 511 rest (padding 513) (omega (arith, sized))))
    ∙ ap (λ k. take 64 (drop k (first ∷ (rest ++ padding 513)))) from
    ∙ ap (λ m. take 64 (drop (n * 64) m)) (sym (padded_whole first rest sized))

nine_blocks : (first : ℕ) (rest : List ℕ) → length rest ≡ 512 → 9 ≡ length (padded_message (first ∷ rest)) / 64
nine_blocks first rest sized =
    let all : length (padded_message (first ∷ rest)) ≡ suc (length (rest ++ padding 513)) = ap length (padded_whole first rest sized) in
    omega (arith, all, length-append rest (padding 513), sized)

-- the digest, by the hash value after the nine blocks
pub digest_whole : (first : ℕ) (rest h : List ℕ) → length rest ≡ 512 → h ≡ hash_after initial_hash_256 (padded_message (first ∷ rest)) 9
    → digest_bytes h 8 ≡ sha256 (first ∷ rest)
unfolding sha256
digest_whole first rest h sized done =
    ap (λ v. digest_bytes v 8) (done ∙ ap (hash_after initial_hash_256 (padded_message (first ∷ rest))) (nine_blocks first rest sized))
