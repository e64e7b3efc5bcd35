-- The bytes that a feed read, its lines and what waits.
use Rattle.std.{specs.{List.{AllByRecursion, position, position_or_len}, Io.{appended_bytes, KnownBytes.{Consumes, IsAtEnd}}}, proofs.Common.{suc, zero}}
use Rattle.std.proofs.Common.{◌==◌, if◌then◌else◌, ◌≡◌, ◌≢◌, ◌⊎◌, inl, inr, ⊎_elim, ℕ, Bool, true, false, ◌+◌, ◌-◌, ◌<◌, ◌≤◌, ltb, cond, List, [], ◌∷◌, ◌++◌}
use Rattle.std.proofs.Common.{Option, Some, None, length, get_or, take, drop, min, refl, sym, ◌∙◌, ap, subst, arith, append_assoc, append-nil, length-append}
use Rattle.std.proofs.{Common.{length-drop, length-take, take-add, take-append-drop}, Math.Seq.{take-append-add, take-append_seam}, lemmas.List.take_all}
use Rattle.std.proofs.lemmas.List.{take-append-le, take_rest, drop_at, drop_all, drop-drop, get_or-drop, Quantifiers.position-Some, Sums.fails_before_first}
use Rattle.std.proofs.{lemmas.Bool.{cases_eq, cases_lt, ltb-false, Decides.nat_tests}, KnownBytes.{Consumes-nil, Consumes-trans}}
use Rattle.spl_lines.specs.{Lines.{IsLong, IsShort, lines_of, onto_line, has_feed, rest_of, longest_line, IsOverlong, IsUnfinished}, Feed.{IsFed, Feeds}}
use Rattle.spl_lines.{specs.{Feed.{waiting, count_of}, declared.feed.Feed.Feed}, proofs.{Longest.long_more, Feeds.{NoFeed, NoFeed_more, no_feed}}}
use Rattle.spl_lines.proofs.Feeds.{lines-other, lines_none, lines_first, rest_none, split_at}
use Rattle.spl_edge.{specs.Sources.{limit, had}, proofs.Sources.limit_is}

-- ---- where a line feed is, and where none

pub free : (bytes : List ℕ) → has_feed bytes ≡ false → NoFeed bytes
free [] none = tt
free (b ∷ bytes) none =
    let other : b ≢ 10 = λ is. grind (arith, nat_tests) in
    let rest : has_feed bytes ≡ false = grind (arith, nat_tests) in
    (other, free bytes rest)

NoFeed-append : (xs ys : List ℕ) → NoFeed xs → NoFeed ys → NoFeed (xs ++ ys)
NoFeed-append [] ys left right = right
NoFeed-append (b ∷ xs) ys left right = (left.0, NoFeed-append xs ys left.1 right)

free_to : (bytes : List ℕ) (n : ℕ) → n ≤ length bytes → ((k : ℕ) → k < n → get_or bytes k 0 ≢ 10) → NoFeed (take n bytes)
free_to bytes zero within other = tt
free_to bytes (suc n) within other =
    let one : suc n ≡ n + 1 = omega arith in
    rw one (NoFeed_more bytes n (omega arith) (free_to bytes n (omega arith) (λ k less. other k (omega arith))) (other n (omega arith)))

other_byte : (b : ℕ) → (b == 10) ≡ false → b ≢ 10
other_byte b test = λ is. grind (arith, nat_tests)

feed_byte : (b : ℕ) → (b == 10) ≡ true → b ≡ 10
feed_byte b test = grind (arith, nat_tests)

none_by : (p : ℕ → Bool) (xs : List ℕ) (b : Bool) → ltb (position_or_len p xs) (length xs) ≡ b → cond b (Some (position_or_len p xs)) None ≡ None
    → length xs ≤ position_or_len p xs
none_by p xs true test none = absurd cc
none_by p xs false test none = ltb-false (position_or_len p xs) (length xs) test

free_all : (xs : List ℕ) → position (λ b. b == 10) xs ≡ None → NoFeed xs
free_all xs none =
    let past : length xs ≤ position_or_len (λ b. b == 10) xs = none_by (λ b. b == 10) xs (ltb (position_or_len (λ b. b == 10) xs) (length xs)) refl none in
    subst NoFeed (take_all (length xs) xs (omega arith))
    (free_to xs (length xs) (omega arith) (λ k less. other_byte (get_or xs k 0) (fails_before_first (λ b. b == 10) xs k 0 (omega arith))))

-- a search after the first bytes that wait, of which none is a line feed
module _ (items lent : List ℕ) (start seen : ℕ) (same : lent ≡ items) (within : seen ≤ length (drop start items))
    (none : has_feed (take seen (drop start items)) ≡ false) where
  unseen : take (length lent - (start + seen)) (drop (start + seen) lent) ≡ drop seen (drop start items)
  unseen = take_rest lent (start + seen) ∙ ap (λ (l : List ℕ). drop (start + seen) l) same ∙ sym (drop-drop seen start items)

  pub cut_none : None ≡ position (λ b. b == 10) (take (length lent - (start + seen)) (drop (start + seen) lent)) → has_feed (drop start items) ≡ false
  cut_none is =
      let found : position (λ b. b == 10) (drop seen (drop start items)) ≡ None = ap (position (λ b. b == 10)) (sym unseen) ∙ sym is in
      no_feed (drop start items)
      (subst NoFeed (take-append-drop seen (drop start items))
      (NoFeed-append (take seen (drop start items)) (drop seen (drop start items)) (free (take seen (drop start items)) none)
      (free_all (drop seen (drop start items)) found)))

  pub cut_line : (count : ℕ) → Some count ≡ position (λ b. b == 10) (take (length lent - (start + seen)) (drop (start + seen) lent))
      → (drop start items ≡ take (start + seen + count - start) (drop start items) ++ 10 ∷ drop (start + seen + count + 1) items)
      × (has_feed (take (start + seen + count - start) (drop start items)) ≡ false)
  cut_line count is =
      let found = position-Some (λ b. b == 10) (drop seen (drop start items)) count 0 (ap (position (λ b. b == 10)) (sym unseen) ∙ sym is) in
      let place : start + seen + count - start ≡ seen + count = omega arith in
      let here : seen + count < length (drop start items) = omega (arith, found.0, length-drop seen (drop start items)) in
      let feed : get_or (drop start items) (seen + count) 0 ≡ 10 =
      sym (get_or-drop seen (drop start items) count 0) ∙ feed_byte (get_or (drop seen (drop start items)) count 0) found.1 in
      let more : drop (start + seen + count + 1) items ≡ drop (seen + count + 1) (drop start items) =
      ap (λ (n : ℕ). drop n items) (omega arith) ∙ sym (drop-drop (seen + count + 1) start items) in
      let free_line : NoFeed (take (seen + count) (drop start items)) = subst NoFeed (sym (take-add seen count (drop start items)))
      (NoFeed-append (take seen (drop start items)) (take count (drop seen (drop start items))) (free (take seen (drop start items)) none)
      (free_to (drop seen (drop start items)) count (omega (arith, found.0))
      (λ k less. other_byte (get_or (drop seen (drop start items)) k 0) (found.2 k less)))) in
      rw (place, more) (split_at (drop start items) (seen + count) here feed, no_feed (take (seen + count) (drop start items)) free_line)

-- ---- lines before a line feed, and after it

some_lines : (prefix : List ℕ) → (first : List ℕ) × (more : List (List ℕ)) × ((ys : List ℕ) → lines_of (prefix ++ 10 ∷ ys) ≡ first ∷ (more ++ lines_of ys))
some_lines [] = ([], [], λ ys. refl)
some_lines (b ∷ prefix) =
    let (first, more, same) = some_lines prefix in
    ⊎_elim
    (λ (is : b ≡ 10). (
      [],
      first
          ∷ more,
      λ ys. subst (λ (d : ℕ). lines_of (d ∷ prefix ++ 10 ∷ ys) ≡ [] ∷ (first ∷ more ++ lines_of ys)) (sym is)
          (ap (λ (ls : List (List ℕ)). [] ∷ ls) (same ys)),
    ))
    (λ (other : b ≢ 10). (b ∷ first, more, λ ys. lines-other b (prefix ++ 10 ∷ ys) other ∙ ap (onto_line b) (same ys)))
    (cases_eq b 10)

lines_feed : (prefix ys : List ℕ) → lines_of (prefix ++ 10 ∷ ys) ≡ lines_of (prefix ++ 10 ∷ []) ++ lines_of ys
lines_feed prefix ys =
    let (first, more, same) = some_lines prefix in
    same ys ∙ ap (λ (ls : List (List ℕ)). ls ++ lines_of ys) (sym (same [] ∙ ap (λ (ls : List (List ℕ)). first ∷ ls) (append-nil more)))

a_feed : (prefix rest : List ℕ) → has_feed (prefix ++ 10 ∷ rest) ≡ true
a_feed [] rest = refl
a_feed (b ∷ prefix) rest =
    let more = a_feed prefix rest in
    grind (arith, nat_tests)

pub rest_feed : (prefix ys : List ℕ) → rest_of (prefix ++ 10 ∷ ys) ≡ rest_of ys
rest_feed [] ys = refl
rest_feed (b ∷ prefix) ys = ap (λ (t : Bool). if t then rest_of (prefix ++ 10 ∷ ys) else b ∷ prefix ++ 10 ∷ ys) (a_feed (b ∷ prefix) ys) ∙ rest_feed prefix ys

-- bytes round their last line feed
record HasLast (bytes : List ℕ) : Type 0 where
  prefix : List ℕ
  rest : List ℕ
  none : NoFeed rest
  is : bytes ≡ prefix ++ 10 ∷ rest

parts : (bytes : List ℕ) → NoFeed bytes ⊎ HasLast bytes
parts [] = inl tt
parts (b ∷ bytes) = ⊎_elim
    (λ (none : NoFeed bytes). ⊎_elim
    (λ (is : b ≡ 10). inr record { prefix = []; rest = bytes; none = none; is = ap (λ (d : ℕ). d ∷ bytes) is })
    (λ (other : b ≢ 10). inl (other, none))
    (cases_eq b 10))
    (λ (last : HasLast bytes). inr record { prefix = b ∷ last.prefix; rest = last.rest; none = last.none; is = ap (λ (l : List ℕ). b ∷ l) last.is })
    (parts bytes)

-- ---- what more bytes add

lines_last : (prefix rest ys : List ℕ) → NoFeed rest
    → lines_of ((prefix ++ 10 ∷ rest) ++ ys) ≡ lines_of (prefix ++ 10 ∷ rest) ++ lines_of (rest_of (prefix ++ 10 ∷ rest) ++ ys)
lines_last prefix rest ys none =
    let after : rest_of (prefix ++ 10 ∷ rest) ≡ rest = rest_feed prefix rest ∙ rest_none rest none in
    let before : lines_of (prefix ++ 10 ∷ rest) ≡ lines_of (prefix ++ 10 ∷ []) =
    lines_feed prefix rest ∙ ap (λ (ls : List (List ℕ)). lines_of (prefix ++ 10 ∷ []) ++ ls) (lines_none rest none)
    ∙ append-nil (lines_of (prefix ++ 10 ∷ [])) in
    ap lines_of (append_assoc prefix (10 ∷ rest) ys) ∙ lines_feed prefix (rest ++ ys)
    ∙ ap (λ (ls : List (List ℕ)). ls ++ lines_of (rest ++ ys)) (sym before)
    ∙ ap (λ (l : List ℕ). lines_of (prefix ++ 10 ∷ rest) ++ lines_of (l ++ ys)) (sym after)

pub lines-append : (xs ys : List ℕ) → lines_of (xs ++ ys) ≡ lines_of xs ++ lines_of (rest_of xs ++ ys)
lines-append xs ys = ⊎_elim
    (λ (none : NoFeed xs). ap (λ (l : List ℕ). lines_of (l ++ ys)) (sym (rest_none xs none))
    ∙ ap (λ (ls : List (List ℕ)). ls ++ lines_of (rest_of xs ++ ys)) (sym (lines_none xs none)))
    (λ (last : HasLast xs). subst (λ (l : List ℕ). lines_of (l ++ ys) ≡ lines_of l ++ lines_of (rest_of l ++ ys)) (sym last.is)
    (lines_last last.prefix last.rest ys last.none))
    (parts xs)

pub rest-append : (xs ys : List ℕ) → rest_of (xs ++ ys) ≡ rest_of (rest_of xs ++ ys)
rest-append xs ys = ⊎_elim
    (λ (none : NoFeed xs). ap (λ (l : List ℕ). rest_of (l ++ ys)) (sym (rest_none xs none)))
    (λ (last : HasLast xs). subst (λ (l : List ℕ). rest_of (l ++ ys) ≡ rest_of (rest_of l ++ ys)) (sym last.is)
    (ap rest_of (append_assoc last.prefix (10 ∷ last.rest) ys) ∙ rest_feed last.prefix (last.rest ++ ys)
    ∙ ap (λ (l : List ℕ). rest_of (l ++ ys)) (sym (rest_feed last.prefix last.rest ∙ rest_none last.rest last.none))))
    (parts xs)

-- what a limit leaves of bytes and more bytes
pub take-append : (n : ℕ) (xs ys : List ℕ) → take n (xs ++ ys) ≡ take n xs ++ take (n - length xs) ys
take-append n xs ys = ⊎_elim
    (λ (less : n < length xs).
    let none : n - length xs ≡ 0 = omega arith in
    rw none (take-append-le n xs ys (omega arith) ∙ sym (append-nil (take n xs))))
    (λ (more : length xs ≤ n).
    let sum : n ≡ length xs + (n - length xs) = omega arith in
    ap (λ (m : ℕ). take m (xs ++ ys)) sum ∙ take-append-add xs ys (n - length xs)
    ∙ ap (λ (l : List ℕ). l ++ take (n - length xs) ys) (sym (take_all n xs more)))
    (cases_lt n (length xs))

take-min : (n : ℕ) (xs : List ℕ) → take (min (length xs) n) xs ≡ take n xs
take-min n xs = ⊎_elim
    (λ (less : n < length xs). ap (λ (m : ℕ). take m xs) (omega arith))
    (λ (more : length xs ≤ n). take_all (min (length xs) n) xs (omega arith) ∙ sym (take_all n xs more))
    (cases_lt n (length xs))

-- ---- a feed's steps

-- what waits, and what was kept of a piece
pub put_waits : (old new piece : List ℕ) (start within taken : ℕ) → start ≡ 0 → new ≡ old ++ take within piece
    → within ≡ min (length piece) (67108864 - taken) → drop start new ≡ drop start old ++ take (limit - taken) piece
put_waits old new piece start within taken prefix is least =
    let kept : take within piece ≡ take (limit - taken) piece = rw (least, limit_is) (take-min (67108864 - taken) piece) in
    rw (prefix, is, kept) refl

-- where no more bytes came, the same waits
pub waits_still : (old new more : List ℕ) (n : ℕ) → new ≡ old ++ take n more → more ≡ [] → new ≡ old
waits_still old new more n waits none =
    waits ∙ ap (λ (l : List ℕ). old ++ take n l) none ∙ ap (λ (l : List ℕ). old ++ l) (take_all n [] (omega arith)) ∙ append-nil old

pub no_bytes : (bytes : List ℕ) → length bytes ≡ 0 → bytes ≡ []
no_bytes [] none = refl
no_bytes (b ∷ bytes) none = absurd (omega arith)

pub free_prefix : (wait more all : List ℕ) (seen : ℕ) → seen ≡ length wait → has_feed wait ≡ false → all ≡ wait ++ more → has_feed (take seen all) ≡ false
free_prefix wait more all seen size none is =
    ap has_feed (ap (λ (l : List ℕ). take seen l) is ∙ ap (λ (n : ℕ). take n (wait ++ more)) size ∙ take-append_seam wait more) ∙ none

-- more bytes were read
pub fed_more : (given more : List ℕ) (lines : List (List ℕ)) (wait : List ℕ) (count : ℕ) → IsFed given lines wait count
    → IsFed (given ++ more) lines (wait ++ take (limit - count) more) (count + length more)
fed_more given more lines wait count fed = rw fed.counted (record {
  counted = sym (length-append given more);
  run = ap lines_of cut ∙ lines-append text new ∙ ap (λ (ls : List (List ℕ)). ls ++ lines_of (rest_of text ++ new)) fed.run
      ∙ append_assoc lines (lines_of wait) (lines_of (rest_of text ++ new)) ∙ ap (λ (l : List ℕ). lines ++ (lines_of wait ++ lines_of (l ++ new))) fed.after
      ∙ ap (λ (ls : List (List ℕ)). lines ++ ls) (sym (lines-append wait new));
  after = ap rest_of cut ∙ rest-append text new ∙ ap (λ (l : List ℕ). rest_of (l ++ new)) fed.after ∙ sym (rest-append wait new);
})
  where
    text : List ℕ
    text = take limit given

    new : List ℕ
    new = take (limit - length given) more

    cut : take limit (given ++ more) ≡ text ++ new
    cut = take-append limit given more

-- a line that waits was given
pub fed_line : (given : List ℕ) (lines : List (List ℕ)) (line wait wait' : List ℕ) (count : ℕ) → IsFed given lines wait count → wait ≡ line ++ 10 ∷ wait'
    → has_feed line ≡ false → IsFed given (lines ++ line ∷ []) wait' count
fed_line given lines line wait wait' count fed is none = record {
  counted = fed.counted;
  run = fed.run ∙ ap (λ (l : List ℕ). lines ++ lines_of l) is ∙ ap (λ (ls : List (List ℕ)). lines ++ ls) (lines_first line wait' (free line none))
      ∙ sym (append_assoc lines (line ∷ []) (lines_of wait'));
  after = fed.after ∙ ap rest_of is ∙ rest_feed line wait';
}

-- what a source gave, and more
appended-more : (before taken taken' more : List ℕ) → taken ≡ before ++ appended_bytes before taken → taken' ≡ taken ++ more
    → appended_bytes before taken' ≡ appended_bytes before taken ++ more
appended-more before taken taken' more told is =
    let all : taken' ≡ before ++ (appended_bytes before taken ++ more) =
    is ∙ ap (λ (l : List ℕ). l ++ more) told ∙ append_assoc before (appended_bytes before taken) more in
    ap (λ (l : List ℕ). drop (length before) l) all ∙ drop_at before (appended_bytes before taken ++ more) (length before) refl

pub feeds_new : (before : List ℕ) (left : Option (List ℕ)) (feed : Feed) → waiting feed ≡ [] → count_of feed ≡ 0 → Feeds before left [] before left feed
feeds_new before left feed nothing fresh =
    let none : appended_bytes before before ≡ [] = drop_all (length before) before (omega arith) in
    record {
      told = sym (append-nil before) ∙ ap (λ (l : List ℕ). before ++ l) (sym none);
      consumed = rw none (Consumes-nil left);
      fed = rw (none, nothing, fresh)
          (record { counted = refl; run = ap lines_of (take_all limit [] (omega arith)); after = ap rest_of (take_all limit [] (omega arith)) });
    }

pub feeds_more : (before : List ℕ) (had : Option (List ℕ)) (lines : List (List ℕ)) (taken : List ℕ) (left : Option (List ℕ)) (feed : Feed)
    (taken' : List ℕ) (left' : Option (List ℕ)) (feed' : Feed) (more : List ℕ) → Feeds before had lines taken left feed
    → taken' ≡ taken ++ more → Consumes left left' more → waiting feed' ≡ waiting feed ++ take (limit - count_of feed) more
    → count_of feed' ≡ count_of feed + length more
    → Feeds before had lines taken' left' feed'
feeds_more before had lines taken left feed taken' left' feed' more feeds took consumed waits counts =
    let given : appended_bytes before taken' ≡ appended_bytes before taken ++ more = appended-more before taken taken' more feeds.told took in
    record {
      told = took ∙ ap (λ (l : List ℕ). l ++ more) feeds.told ∙ append_assoc before (appended_bytes before taken) more
          ∙ ap (λ (l : List ℕ). before ++ l) (sym given);
      consumed = subst (Consumes had left') (sym given) (Consumes-trans had left left' (appended_bytes before taken) more feeds.consumed consumed);
      fed = subst (λ (l : List ℕ). IsFed l lines (waiting feed') (count_of feed')) (sym given)
          (subst (λ (l : List ℕ). IsFed (appended_bytes before taken ++ more) lines l (count_of feed')) (sym waits)
          (subst (IsFed (appended_bytes before taken ++ more) lines (waiting feed ++ take (limit - count_of feed) more)) (sym counts)
          (fed_more (appended_bytes before taken) more lines (waiting feed) (count_of feed) feeds.fed)));
    }

pub feeds_line : (before : List ℕ) (had : Option (List ℕ)) (lines : List (List ℕ)) (taken : List ℕ) (left : Option (List ℕ)) (feed feed' : Feed)
    (line : List ℕ) → Feeds before had lines taken left feed
    → waiting feed ≡ line ++ 10 ∷ waiting feed' → has_feed line ≡ false → count_of feed' ≡ count_of feed
    → Feeds before had (lines ++ line ∷ []) taken left feed'
feeds_line before had lines taken left feed feed' line feeds is none counts = record {
  told = feeds.told;
  consumed = feeds.consumed;
  fed = subst (IsFed (appended_bytes before taken) (lines ++ line ∷ []) (waiting feed')) (sym counts)
      (fed_line (appended_bytes before taken) lines line (waiting feed) (waiting feed') (count_of feed) feeds.fed is none);
}

-- nothing but moves
pub feeds_same : (before : List ℕ) (had : Option (List ℕ)) (lines : List (List ℕ)) (taken : List ℕ) (left : Option (List ℕ)) (feed feed' : Feed)
    → Feeds before had lines taken left feed
    → waiting feed' ≡ waiting feed → count_of feed' ≡ count_of feed → Feeds before had lines taken left feed'
feeds_same before had lines taken left feed feed' feeds waits counts = record {
  told = feeds.told;
  consumed = feeds.consumed;
  fed = subst (λ (l : List ℕ). IsFed (appended_bytes before taken) lines l (count_of feed')) (sym waits)
      (subst (IsFed (appended_bytes before taken) lines (waiting feed)) (sym counts) feeds.fed);
}

-- ---- what a feed's lines say of what the source gave

onto_length : (b : ℕ) (lines : List (List ℕ)) → length (onto_line b lines) ≡ length lines
onto_length b [] = refl
onto_length b (line ∷ lines) = refl

pub length-lines : (bytes : List ℕ) → length (lines_of bytes) ≤ length bytes
length-lines [] = omega arith
length-lines (b ∷ bytes) = ⊎_elim
    (λ (is : b ≡ 10). subst (λ (d : ℕ). length (lines_of (d ∷ bytes)) ≤ length (d ∷ bytes)) (sym is) (let less = length-lines bytes in omega arith))
    (λ (other : b ≢ 10). let less = length-lines bytes in omega (arith, ap length (lines-other b bytes other), onto_length b (lines_of bytes)))
    (cases_eq b 10)

module _ (before : List ℕ) (had : Option (List ℕ)) (lines : List (List ℕ)) (taken : List ℕ) (left : Option (List ℕ)) (feed : Feed)
    (feeds : Feeds before had lines taken left feed) where
  -- there are no more lines than bytes within the limit
  pub few_lines : length lines ≤ limit
  few_lines =
      omega (
        arith,
        ap length feeds.fed.run,
        length-append lines (lines_of (waiting feed)),
        length-lines (take limit (appended_bytes before taken)),
        length-take limit (appended_bytes before taken),
      )

  -- no line waits
  module _ (none : has_feed (waiting feed) ≡ false) where
    pub all_lines : lines_of (take limit (appended_bytes before taken)) ≡ lines
    all_lines = feeds.fed.run ∙ ap (λ (ls : List (List ℕ)). lines ++ ls) (lines_none (waiting feed) (free (waiting feed) none)) ∙ append-nil lines

    pub rest_waits : rest_of (take limit (appended_bytes before taken)) ≡ waiting feed
    rest_waits = feeds.fed.after ∙ rest_none (waiting feed) (free (waiting feed) none)

    pub is_overlong : IsLong (waiting feed) → IsOverlong (appended_bytes before taken)
    is_overlong over = record { over = subst IsLong (sym rest_waits) over }

    pub is_long : (limit < count_of feed) × IsShort (waiting feed)
        → (limit < length (appended_bytes before taken)) × IsShort (rest_of (take limit (appended_bytes before taken)))
    is_long long = (omega (arith, feeds.fed.counted, long.0), subst IsShort (sym rest_waits) long.1)

    -- the source gave no more than the limit
    module _ (few : count_of feed ≤ limit) where
      pub is_short : length (appended_bytes before taken) ≤ limit
      is_short = omega (arith, feeds.fed.counted)

      whole : take limit (appended_bytes before taken) ≡ appended_bytes before taken
      whole = take_all limit (appended_bytes before taken) is_short

      pub lines_given : lines_of (appended_bytes before taken) ≡ lines
      lines_given = ap lines_of (sym whole) ∙ all_lines

      pub rest_given : rest_of (appended_bytes before taken) ≡ waiting feed
      rest_given = ap rest_of (sym whole) ∙ rest_waits

      -- the line that waits isn't too long so far
      pub rest_short : IsShort (waiting feed) → IsShort (rest_of (appended_bytes before taken))
      rest_short short = subst IsShort (sym rest_given) short

      -- and its last line lacks its line feed
      pub unfinished : IsAtEnd left → waiting feed ≢ [] → IsUnfinished (appended_bytes before taken) left
      unfinished ended more = record { ended = ended; short = is_short; more = λ empty. more (sym rest_given ∙ empty) }

-- ---- a line that is too long already ends as a line that is too long

-- bytes round their first line feed
record HasFirst (bytes : List ℕ) : Type 0 where
  prefix : List ℕ
  rest : List ℕ
  none : NoFeed prefix
  is : bytes ≡ prefix ++ 10 ∷ rest

first_feed : (bytes : List ℕ) → NoFeed bytes ⊎ HasFirst bytes
first_feed [] = inl tt
first_feed (b ∷ bytes) = ⊎_elim
    (λ (is : b ≡ 10). inr record { prefix = []; rest = bytes; none = tt; is = ap (λ (d : ℕ). d ∷ bytes) is })
    (λ (other : b ≢ 10). ⊎_elim
    (λ (none : NoFeed bytes). inl (other, none))
    (λ (first : HasFirst bytes). inr record {
      prefix = b
          ∷ first.prefix;
      rest = first.rest;
      none = (other, first.none);
      is = ap (λ (l : List ℕ). b ∷ l) first.is;
    })
    (first_feed bytes))
    (cases_eq b 10)

rest_free : (bytes : List ℕ) → NoFeed (rest_of bytes)
rest_free bytes = ⊎_elim
    (λ (none : NoFeed bytes). subst NoFeed (sym (rest_none bytes none)) none)
    (λ (last : HasLast bytes). subst NoFeed (sym (ap rest_of last.is ∙ rest_feed last.prefix last.rest ∙ rest_none last.rest last.none)) last.none)
    (parts bytes)

module _ (P : List ℕ → Type 0) (short : (line : List ℕ) → P line → IsShort line) where
  all_after : (xs ys : List (List ℕ)) → AllByRecursion P (xs ++ ys) → AllByRecursion P ys
  all_after [] ys all = all
  all_after (x ∷ xs) ys all = all_after xs ys all.1

  first_short : (wait more : List ℕ) → NoFeed wait → IsLong wait → rest_of (wait ++ more) ≡ [] → AllByRecursion P (lines_of (wait ++ more)) → ⊥
  first_short wait more none over whole all = ⊎_elim
      (λ (free : NoFeed more).
      let same = rest_none (wait ++ more) (NoFeed-append wait more none free) in
      let long : longest_line wait < length wait = over in
      omega (arith, long, ap length (sym same ∙ whole), length-append wait more))
      (λ (first : HasFirst more).
      let is : wait ++ more ≡ (wait ++ first.prefix) ++ 10 ∷ first.rest =
      ap (λ (l : List ℕ). wait ++ l) first.is ∙ sym (append_assoc wait first.prefix (10 ∷ first.rest)) in
      let lines = ap lines_of is ∙ lines_first (wait ++ first.prefix) first.rest (NoFeed-append wait first.prefix none first.none) in
      let found = subst (AllByRecursion P) lines all in
      let less : length (wait ++ first.prefix) ≤ longest_line wait =
      subst (λ (n : ℕ). length (wait ++ first.prefix) ≤ n) (long_more wait first.prefix over) (short (wait ++ first.prefix) found.0) in
      let long : longest_line wait < length wait = over in
      omega (arith, long, less, length-append wait first.prefix))
      (first_feed more)

  pub overlong_text : (given more : List ℕ) → IsOverlong given → length (given ++ more) ≤ limit → rest_of (given ++ more) ≡ []
      → AllByRecursion P (lines_of (given ++ more)) → ⊥
  overlong_text given more long few whole all =
      let same : take limit given ≡ given = take_all limit given (omega (arith, length-append given more)) in
      first_short (rest_of given) more (rest_free given) (subst (λ (l : List ℕ). IsLong (rest_of l)) same long.over)
      (sym (rest-append given more) ∙ whole)
      (all_after (lines_of given) (lines_of (rest_of given ++ more)) (subst (AllByRecursion P) (lines-append given more) all))

  -- so what a source had is no schedule
  pub overlong_had : (old new : Option (List ℕ)) (given : List ℕ) → Consumes old new given → IsOverlong given → length (had old given) ≤ limit
      → rest_of (had old given) ≡ [] → AllByRecursion P (lines_of (had old given)) → ⊥
  overlong_had None new given consumed long few whole all =
      let same : given ++ [] ≡ given = append-nil given in
      overlong_text given [] long (omega (arith, few, ap length same)) (ap rest_of same ∙ whole)
      (subst (λ (l : List ℕ). AllByRecursion P (lines_of l)) (sym same) all)
  overlong_had (Some text) None given consumed long few whole all = absurd consumed
  overlong_had (Some text) (Some more) given consumed long few whole all =
      overlong_text given more long (omega (arith, few, ap length consumed)) (ap rest_of (sym consumed) ∙ whole)
      (subst (λ (l : List ℕ). AllByRecursion P (lines_of l)) consumed all)
