-- Reading and writing the items of a list one after the other.
use Rattle.std.{specs.{Prelude.{Result, Ok, Err, OnOk}, List.{join_with_byte, slice_get}}, proofs.Common.{◌≡◌, ℕ, add-one, ◌+◌, ◌<◌, ◌≤◌, Bool, true, false}}
use Rattle.std.proofs.Common.{cond, ◌&&◌, leb, List, [], ◌∷◌, ◌++◌, length, map, take, get_or, Option, Some, None, refl, sym, ap, ◌∙◌, append_assoc, arith}
use Rattle.std.proofs.lemmas.{Bool.{le-leb, lt-leb}, List.{append-nil, take_more, length-map, length-take, map-append}, Grind.flat_map-append}
use Rattle.std.proofs.lemmas.Option.{slice_get_within, get_or_from_slice_get, slice_get-get_or}
use Rattle.spl_words.specs.{Words.{◌>>=◌, read_hex, read_hex_string, read_each, after_spaces, Fails}, declared.fault.LineFault.LineFault}
use Rattle.spl_words.specs.declared.fault.LineFault.TheVariants.{NoMemory, BadLine}

-- what was read before, and what is still read
abbrev pub with_prefix : {A : Type 0} → List A → Option (List A) → Option (List A)
with_prefix keyword read = read >>= λ xs. Some (keyword ++ xs)

abbrev nothing : {A : Type 0} → Option A
nothing = None

no_way : {A : Type 0} (b : Bool) → cond b (nothing {A = A}) nothing ≡ nothing
no_way true = refl
no_way false = refl

-- one more at the end of the beginning
pub moved : {A : Type 0} (keyword : List A) (x : A) (others : Option (List A))
    → with_prefix keyword (others >>= λ xs. Some (x ∷ xs)) ≡ with_prefix (keyword ++ x ∷ []) others
moved keyword x None = refl
moved {A} keyword x (Some xs) = ap (λ (ys : List A). Some ys) (simp append_assoc)

module _ {A : Type 0} (read : List ℕ → Option A) where
  pub one_more : (keyword : List A) (word : List ℕ) (words : List (List ℕ)) (x : A) (all : Option (List A)) → read word ≡ Some x
      → with_prefix keyword (read_each read (word ∷ words)) ≡ all → with_prefix (keyword ++ x ∷ []) (read_each read words) ≡ all
  one_more keyword word words x all e h =
      let one : with_prefix keyword (read_each read (word ∷ words)) ≡ with_prefix (keyword ++ x ∷ []) (read_each read words) =
      rw e (moved keyword x (read_each read words)) in
      sym one ∙ h

  pub one_bad : (f : LineFault) (keyword : List A) (word : List ℕ) (words : List (List ℕ)) (b : Bool) (all : Option (List A)) → Fails f (read word)
      → with_prefix keyword (read_each read (word ∷ words)) ≡ all → Fails f (cond b all None)
  one_bad NoMemory keyword word words b all e h = tt
  one_bad BadLine keyword word words b all e h =
      let none : all ≡ None = sym h ∙ rw e refl in
      rw none (no_way b)

  pub all_read : (keyword : List A) (words : List (List ℕ)) (all : Option (List A)) (n : ℕ) → words ≡ [] → with_prefix keyword (read_each read words) ≡ all
      → 1 ≤ n → n ≤ 16
      → cond (leb 1 n && leb n 16) all None ≡ Some keyword
  all_read keyword words all n e h low high =
      let whole : all ≡ Some keyword = sym h ∙ rw e (ap (λ (ys : List A). Some ys) (append-nil keyword)) in
      rw (le-leb 1 n low, le-leb n 16 high) whole

pub too_many : {A : Type 0} (n : ℕ) (all : Option A) → 16 < n → cond (leb 1 n && leb n 16) all None ≡ None
too_many n all high = rw (le-leb 1 n (omega arith), lt-leb n 16 high) refl

-- one more byte of a byte string read
pub byte_read : (keyword new rest others after : List ℕ) (high low n : ℕ) (all : Option (List ℕ)) → rest ≡ high ∷ others → others ≡ low ∷ after
    → read_hex (high ∷ low ∷ []) ≡ Some n → new ≡ keyword ++ n ∷ []
    → with_prefix keyword (read_hex_string rest) ≡ all → with_prefix new (read_hex_string after) ≡ all
byte_read keyword new rest others after high low n all e o h made before =
    let whole : rest ≡ high ∷ low ∷ after = e ∙ ap (λ (xs : List ℕ). high ∷ xs) o in
    let one : with_prefix keyword (read_hex_string (high ∷ low ∷ after)) ≡ with_prefix (keyword ++ n ∷ []) (read_hex_string after) =
    rw h (moved keyword n (read_hex_string after)) in
    ap (λ (xs : List ℕ). with_prefix xs (read_hex_string after)) made ∙ sym one
    ∙ sym (ap (λ (xs : List ℕ). with_prefix keyword (read_hex_string xs)) whole) ∙ before

-- one more item written
pub join_more : (c : ℕ) (ws : List (List ℕ)) (x : List ℕ) → 0 < length ws → join_with_byte c (ws ++ x ∷ []) ≡ join_with_byte c ws ++ (c ∷ x)
join_more c [] x some = absurd (omega arith)
join_more c (w ∷ []) x some = refl
join_more c (w ∷ y ∷ ws) x some =
    ap (λ (r : List ℕ). w ++ (c ∷ r)) (join_more c (y ∷ ws) x (omega arith)) ∙ sym (append_assoc w (c ∷ join_with_byte c (y ∷ ws)) (c ∷ x))

module _ {A : Type 0} (f : A → List ℕ) where
  item_after : (first : A) (others : List A) (i : ℕ) (x : A) → i < length others → x ≡ get_or others i x
      → join_with_byte 44 (map f (take (i + 1 + 1) (first ∷ others))) ≡ join_with_byte 44 (map f (take (i + 1) (first ∷ others))) ++ (44 ∷ f x)
  item_after first others i x lt e =
      let some : 0 < length (map f (take (i + 1) (first ∷ others))) =
      omega (arith, length-map (take (i + 1) (first ∷ others)) f, length-take (i + 1) (first ∷ others)) in
      let here : get_or (first ∷ others) (i + 1) x ≡ x = rw (add-one i) (sym e) in
      let room : i + 1 < length (first ∷ others) = omega arith in
      let grown : take (i + 1 + 1) (first ∷ others) ≡ take (i + 1) (first ∷ others) ++ (x ∷ []) =
      take_more (first ∷ others) (i + 1) x room ∙ ap (λ (y : A). take (i + 1) (first ∷ others) ++ (y ∷ [])) here in
      ap (λ (ys : List A). join_with_byte 44 (map f ys)) grown
      ∙ ap (join_with_byte 44) (map-append f (take (i + 1) (first ∷ others)) (x ∷ []))
      ∙ join_more 44 (map f (take (i + 1) (first ∷ others))) (f x) some

  pub item_put : (old w comma new : List ℕ) (items others : List A) (first x : A) (i : ℕ) → items ≡ first ∷ others → i < length others → x ≡ get_or others i x
      → w ≡ old ++ join_with_byte 44 (map f (take (i + 1) items)) → comma ≡ w ++ (44 ∷ []) → new ≡ comma ++ f x
      → new ≡ old ++ join_with_byte 44 (map f (take (i + 1 + 1) items))
  item_put old w comma new items others first x i e lt here h c n =
      let more : join_with_byte 44 (map f (take (i + 1 + 1) items)) ≡ join_with_byte 44 (map f (take (i + 1) items)) ++ (44 ∷ f x) =
      rw e (item_after first others i x lt here) in
      rw (n, c, h, more) (simp append_assoc)

-- one more word written after a space
pub word_put : {A : Type 0} (f : A → List ℕ) (old w new : List ℕ) (items : List A) (i : ℕ) (x : A) → Some x ≡ slice_get items i
    → w ≡ old ++ after_spaces (map f (take i items)) → new ≡ w ++ (32 ∷ f x)
    → new ≡ old ++ after_spaces (map f (take (i + 1) items))
word_put {A} f old w new items i x here h n =
    let inside : i < length items = slice_get_within items i x (sym here) in
    let grown : take (i + 1) items ≡ take i items ++ (x ∷ []) =
    take_more items i x inside ∙ ap (λ (y : A). take i items ++ (y ∷ [])) (get_or_from_slice_get items i x x (sym here)) in
    let keyword : List (List ℕ) = map f (take i items) in
    let spelled : after_spaces (map f (take (i + 1) items)) ≡ after_spaces keyword ++ (32 ∷ f x) =
    ap (λ (ys : List A). after_spaces (map f ys)) grown ∙ ap after_spaces (map-append f (take i items) (x ∷ []))
    ∙ flat_map-append (λ (word : List ℕ). 32 ∷ word) keyword (f x ∷ []) ∙ ap (λ (ys : List ℕ). after_spaces keyword ++ (32 ∷ ys)) (append-nil (f x)) in
    rw (n, h, spelled) (append_assoc old (after_spaces keyword) (32 ∷ f x))

-- a place before the end has an item
pub some_item : {A : Type 0} (items : List A) (i : ℕ) → None ≡ slice_get items i → i < length items → ⊥
some_item [] i none lt = absurd (omega arith)
some_item (x ∷ xs) i none lt = let some : None ≡ Some (get_or (x ∷ xs) i x) = none ∙ slice_get-get_or (x ∷ xs) i x lt in cc

-- ---- a name, a node, a circuit, and more words

pub joined_spaces : (x : List ℕ) (ws : List (List ℕ)) → join_with_byte 32 (x ∷ ws) ≡ x ++ after_spaces ws
joined_spaces x [] = sym (append-nil x)
joined_spaces x (w ∷ ws) = ap (λ (r : List ℕ). x ++ (32 ∷ r)) (joined_spaces w ws)

four : (old name node id rest : List ℕ) → (((old ++ name) ++ (32 ∷ node)) ++ (32 ∷ id)) ++ rest ≡ old ++ (name ++ (32 ∷ (node ++ (32 ∷ (id ++ rest)))))
four old name node id rest = simp append_assoc

home_spelled : (old named placed whole new name node id : List ℕ) (ws : List (List ℕ)) → named ≡ old ++ name → placed ≡ named ++ (32 ∷ node)
    → whole ≡ placed ++ (32 ∷ id) → new ≡ whole ++ after_spaces ws
    → new ≡ old ++ join_with_byte 32 (name ∷ node ∷ id ∷ ws)
home_spelled old named placed whole new name node id ws a b c d =
    let spelled : join_with_byte 32 (name ∷ node ∷ id ∷ ws) ≡ name ++ (32 ∷ (node ++ (32 ∷ (id ++ after_spaces ws)))) = joined_spaces name (node ∷ id ∷ ws) in
    d ∙ ap (λ (r : List ℕ). r ++ after_spaces ws) (c ∙ ap (λ (r : List ℕ). r ++ (32 ∷ id)) (b ∙ ap (λ (r : List ℕ). r ++ (32 ∷ node)) a))
    ∙ four old name node id (after_spaces ws) ∙ ap (λ (r : List ℕ). old ++ r) (sym spelled)

pub home_put : {E : Type 0} (result : Result (Unit {0}) E) (old named placed whole new name node id : List ℕ) (ws : List (List ℕ)) → named ≡ old ++ name
    → placed ≡ named ++ (32 ∷ node) → whole ≡ placed ++ (32 ∷ id)
    → OnOk result (new ≡ whole ++ after_spaces ws) → OnOk result (new ≡ old ++ join_with_byte 32 (name ∷ node ∷ id ∷ ws))
home_put (Ok x) old named placed whole new name node id ws a b c d = home_spelled old named placed whole new name node id ws a b c d
home_put (Err e) old named placed whole new name node id ws a b c d = tt
