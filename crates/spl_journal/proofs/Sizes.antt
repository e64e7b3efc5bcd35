-- Lengths in four bytes.
use Rattle.std.{specs.Int.{w32, w64, to_be_bytes, from_be_bytes}, proofs.Common.{◌≡◌, ℕ, ◌<◌, ◌^◌, List, [], ◌∷◌, ◌++◌, ◌∙◌, ap, length, take, drop, get_or}}
use Rattle.std.proofs.{Common.{refl, sym, arith, length-append, append_assoc}, lemmas.{List.{take_at, drop_at, take-take, drop-take}, Nat.be_bytes_4}}
use Rattle.std.proofs.lemmas.Nat.{from_be_bytes-to_be_bytes_4, from_be_bytes-to_be_bytes_8}
use Rattle.spl_journal.specs.Records.{magic, size_bytes, size_from, epoch_bytes, epoch_from, epoch_in, closed_prefix}

pub length-size_bytes : (n : ℕ) → length (size_bytes n) ≡ 4
unfolding size_bytes
length-size_bytes n = refl

pub size_back : (n : ℕ) → n < 2 ^ 32 → size_from (size_bytes n) ≡ n
unfolding size_bytes size_from
size_back n small = from_be_bytes-to_be_bytes_4 n small

pub size_of : (bs : List ℕ) → length bs ≡ 4 → ((i : ℕ) → get_or bs i 0 < 256) → size_bytes (size_from bs) ≡ bs
unfolding size_bytes size_from
size_of bs four small = be_bytes_4 bs (size_from bs) four small refl

pub size_bytes_is : (n : ℕ) (l : List ℕ) → l ≡ to_be_bytes w32 n → l ≡ size_bytes n
unfolding size_bytes
size_bytes_is n l is = is

pub size_from_is : (bytes : List ℕ) (n : ℕ) → n ≡ from_be_bytes w32 bytes → n ≡ size_from bytes
unfolding size_from
size_from_is bytes n is = is

pub epoch_from_is : (bytes : List ℕ) (n : ℕ) → n ≡ from_be_bytes w64 bytes → n ≡ epoch_from bytes
unfolding epoch_from
epoch_from_is bytes n is = is

pub epoch_bytes_is : (n : ℕ) (l : List ℕ) → l ≡ to_be_bytes w64 n → l ≡ epoch_bytes n
unfolding epoch_bytes
epoch_bytes_is n l is = is

pub length-epoch_bytes : (n : ℕ) → length (epoch_bytes n) ≡ 8
unfolding epoch_bytes
length-epoch_bytes n = refl

pub epoch_back : (n : ℕ) → n < 2 ^ 64 → epoch_from (epoch_bytes n) ≡ n
unfolding epoch_bytes epoch_from
epoch_back n small = from_be_bytes-to_be_bytes_8 n small

pub length-closed_prefix : (epoch : ℕ) → length (closed_prefix epoch) ≡ 17
length-closed_prefix epoch =
    omega (arith, length-append (magic ++ epoch_bytes epoch) (0 ∷ []), length-append magic (epoch_bytes epoch), length-epoch_bytes epoch)

-- the epoch after the first eight bytes
pub epoch_is : (epoch : ℕ) (more : List ℕ) → epoch < 2 ^ 64 → epoch_in ((magic ++ epoch_bytes epoch) ++ more) ≡ epoch
epoch_is epoch more small =
    ap (λ (l : List ℕ). epoch_from (take 8 (drop 8 l))) (append_assoc magic (epoch_bytes epoch) more)
    ∙ ap (λ (l : List ℕ). epoch_from (take 8 l)) (drop_at magic (epoch_bytes epoch ++ more) 8 refl)
    ∙ ap epoch_from (take_at (epoch_bytes epoch) more 8 (length-epoch_bytes epoch))
    ∙ epoch_back epoch small

-- it is one of the first 17 bytes
pub same_epoch : (bytes c : List ℕ) → take 17 c ≡ take 17 bytes → epoch_in c ≡ epoch_in bytes
same_epoch bytes c same = ap epoch_from (sym (prefix c) ∙ ap (λ (l : List ℕ). drop 8 (take 16 l)) same ∙ prefix bytes)
  where
    prefix : (l : List ℕ) → drop 8 (take 16 (take 17 l)) ≡ take 8 (drop 8 l)
    prefix l = ap (drop 8) (take-take 16 17 l (omega arith)) ∙ drop-take 8 8 l
