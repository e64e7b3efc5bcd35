-- Where the digits of an address leave at most one entry, in the words of the code's goals.
use Rattle.std.proofs.{Common.{◌≡◌, ℕ, ◌+◌, ◌-◌, ◌<◌, ◌≤◌, true, List, [], length, get_or, inl, inr, sym, ap, subst, ◌∙◌, arith}, lemmas.Bool.cases_lt}
use Rattle.spl_state.specs.{Entries.Entry, Root.digit_of, Digits.{same_digits, shares}, Runs.IsFirstApart, Part.Part, Kept.{IsInner, IsThin, all_entries}}
use Rattle.spl_state.{specs.declared.address.Address.Address, proofs.{Digits.same_above, Prefixes.{shares_all, shares_below}, Runs.{along_above, along_by}}}
use Rattle.spl_state.proofs.{Runs.{shares_whole, shares_none}, Steps.depth_of, Thin.{apart_same, shares_in}}

-- two entries or more share each number of digits of the address from k to n
abbrev pub Crowded : ℕ → ℕ → Address → List Entry → Type 0
Crowded n k a es = (i : ℕ) → k ≤ i → i < n → 2 ≤ length (shares i k a es)

many_as : (xs ys : List Entry) → xs ≡ ys → 2 ≤ length ys → 2 ≤ length xs
many_as xs ys e h = subst (λ l. 2 ≤ length l) (sym e) h

pub crowded_inner : (n d i k : ℕ) (a : Address) (es : List Entry) (ss : List Part) (old : Part) → IsInner d ss → i ≡ digit_of a.0 d → i < length ss
    → old ≡ get_or ss i old → d ≡ k → all_entries ss ≡ es
    → 2 ≤ length es → Crowded n old.depth a old.entries → Crowded n k a es
crowded_inner n d i k a es ss old h at low is depth all many below = λ j above under.
    elim (cases_lt d j) [
      | inl lt ↦ many_as _ _ (sym (shares_below j d i k a es ss old h at low is lt depth all)) (below j (omega (arith, depth_of d i ss old h low is)) under)
      | inr le ↦ many_as _ _ (shares_all j k a es (omega arith)) many
    ]

-- all entries share what the address shares with them
along_whole : (j d m k : ℕ) (a path : Address) (es : List Entry) (part : Part) → IsThin d path part → same_digits (m - d) d a path ≡ true → m ≤ part.depth
    → d ≡ k → part.entries ≡ es → k ≤ j → j ≤ m → shares j k a es ≡ es
along_whole j d m k a path es part h at high depth all above under =
    sym (ap (λ n. shares j n a part.entries) depth ∙ ap (λ xs. shares j k a xs) all)
    ∙ shares_whole d j a part.entries
    (along_by d j a path part.entries (same_above d j m a path (omega arith) under at)
    (along_above d j part.depth path part.entries (omega arith) (omega arith) h.digits))
    ∙ all

pub crowded_apart : (d k f : ℕ) (a path : Address) (es : List Entry) (part : Part) → IsThin d path part → IsFirstApart d part.depth a path f → d ≡ k
    → part.entries ≡ es → 2 ≤ length es → Crowded (f + 1) k a es
crowded_apart d k f a path es part h apart depth all many = λ j above under.
    many_as _ _ (along_whole j d f k a path es part h apart.same (omega (arith, apart.high)) depth all above (omega arith)) many

pub none_apart : (d k f : ℕ) (a path : Address) (es : List Entry) (part : Part) → IsThin d path part → IsFirstApart d part.depth a path f → d ≡ k
    → part.entries ≡ es → shares (f + 1) k a es ≡ []
none_apart d k f a path es part h apart depth all =
    sym (ap (λ n. shares (f + 1) n a part.entries) depth ∙ ap (λ xs. shares (f + 1) k a xs) all)
    ∙ shares_none d (f + 1) (f + 1) a path part.entries (omega (arith, apart.low)) (omega arith) (apart_same d f part.depth a path apart)
    (along_above d (f + 1) part.depth path part.entries (omega (arith, apart.low)) (omega (arith, apart.high)) h.digits)

pub crowded_thin : (n d k : ℕ) (a path : Address) (es : List Entry) (part : Part) → IsThin d path part → same_digits (part.depth - d) d a path ≡ true
    → d ≡ k → part.entries ≡ es
    → 2 ≤ length es → Crowded n part.depth a part.entries → Crowded n k a es
crowded_thin n d k a path es part h at depth all many below = λ j above under.
    elim (cases_lt j part.depth) [
      | inl lt ↦ many_as _ _ (along_whole j d part.depth k a path es part h at (omega arith) depth all above (omega arith)) many
      | inr le ↦ many_as _ _ (sym (shares_in j d path k a es part h at le depth all)) (below j le under)
    ]
