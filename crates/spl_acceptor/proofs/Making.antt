-- What the records of a process make, with one record more.
use Rattle.std.{specs.{Prelude.{IsTrue, ◌==◌, if◌then◌else◌}, Result.{IsOkAnd, result_map_both, result_unwrap_or}}, proofs.Common.{◌≡◌, ◌≢◌, ◌⊎◌, inl, inr}}
use Rattle.std.proofs.Common.{⊎_elim, ℕ, Bool, true, false, List, [], ◌∷◌, ◌++◌, Option, None, Some, Result, Ok, Err, IfSome, refl, sym, ◌∙◌, ap, subst}
use Rattle.std.proofs.Common.{append-nil}
use Rattle.spl_agree.{specs.World.put, proofs.Tests.{if_true, if_false, bool_cases, eqb_is, eqb_not, put-same, put-other}}
use Rattle.spl_edge.specs.Devices.{Image, IsSettled, DiskView, image_now}
use Rattle.spl_journal.{proofs.Pieces.lift2, specs.{Gate.LeavesSince, Records.{records, walk_after}, declared.form.JournalFault.JournalFault}}
use Rattle.spl_journal.proofs.Appends.{leaves_map}
use Rattle.spl_acceptor.specs.Logs.{is_paxos_record, older_fault, one_or_none, records_read, records_on, paxos_records, IsKeptOrNot, JournalMakes, TellsAs}
use Rattle.spl_acceptor.specs.Records.{round_kept, recorded, is_own, own_records, recorded_if_any, IsChangedAt, MakeRounds, MakeDurable}
use Rattle.spl_acceptor.specs.{Rows.{PaxosPlan, round_carried_out}, Steps.IsStepped}
use Rattle.spl_acceptor.{proofs.Logs.{stand_for, still_leaves}, specs.{Steps.{WritesIn, CarriesOut}, declared.note.Stepped.Stepped}}
use Rattle.spl_acceptor.specs.declared.record.PaxosRecord.{PaxosRecord}

-- ---- the records of so many members

own_first : (n : ℕ) (y : PaxosRecord) (ys zs ws : List PaxosRecord) → own_records n zs ≡ own_records n ys ++ ws
    → own_records n (y ∷ zs) ≡ own_records n (y ∷ ys) ++ ws
own_first n y ys zs ws same = by (is_own n y)
  where
    by : (b : Bool) → (if b then y ∷ own_records n zs else own_records n zs) ≡ (if b then y ∷ own_records n ys else own_records n ys) ++ ws
    by true = ap (λ (l : List PaxosRecord). y ∷ l) same
    by false = same

pub own_more : (n : ℕ) (xs : List PaxosRecord) (x : PaxosRecord) → is_own n x ≡ true → own_records n (xs ++ x ∷ []) ≡ own_records n xs ++ x ∷ []
own_more n [] x h = rw h refl
own_more n (y ∷ ys) x h = own_first n y ys (ys ++ x ∷ []) (x ∷ []) (own_more n ys x h)

pub own_other : (n : ℕ) (xs : List PaxosRecord) (x : PaxosRecord) → is_own n x ≡ false → own_records n (xs ++ x ∷ []) ≡ own_records n xs
own_other n [] x h = rw h refl
own_other n (y ∷ ys) x h = own_first n y ys (ys ++ x ∷ []) [] (own_other n ys x h ∙ sym (append-nil (own_records n ys))) ∙ append-nil (own_records n (y ∷ ys))

-- ---- one record more

module _ {S : Type 0} (with : S → PaxosRecord → S) where
  recorded-append : (r : ℕ) (s : S) (xs ys : List PaxosRecord) → recorded with r s (xs ++ ys) ≡ recorded with r (recorded with r s xs) ys
  recorded-append r s [] ys = refl
  recorded-append r s (x ∷ xs) ys = recorded-append r (if round_kept x == r then with s x else s) xs ys

  pub recorded-more : (r : ℕ) (s : S) (xs : List PaxosRecord) (x : PaxosRecord)
      → recorded with r s (xs ++ x ∷ []) ≡ (if round_kept x == r then with (recorded with r s xs) x else recorded with r s xs)
  recorded-more r s xs x = recorded-append r s xs (x ∷ [])

  pub replayed : (new : S) (old now : ℕ → S) (x : PaxosRecord) → ((r : ℕ) → now r ≡ (if round_kept x == r then with (old r) x else old r))
      → (xs : List PaxosRecord) → ((r : ℕ) → recorded with r new xs ≡ old r) → (r : ℕ) → recorded with r new (xs ++ x ∷ []) ≡ now r
  replayed new old now x changed xs made r = recorded-more r new xs x ∙ ap (λ (s : S). if round_kept x == r then with s x else s) (made r) ∙ sym (changed r)

  -- what a stop forgets isn't made by records
  pub recorded-stopped : (stopped : S → S) → ((s : S) (x : PaxosRecord) → stopped (with s x) ≡ with (stopped s) x)
      → (r : ℕ) (s : S) (xs : List PaxosRecord) → stopped (recorded with r s xs) ≡ recorded with r (stopped s) xs
  recorded-stopped stopped alike r s [] = refl
  recorded-stopped stopped alike r s (x ∷ xs) =
      recorded-stopped stopped alike r (if round_kept x == r then with s x else s) xs ∙ ap (λ (t : S). recorded with r t xs) (by (round_kept x == r))
    where
      by : (b : Bool) → stopped (if b then with s x else s) ≡ (if b then with (stopped s) x else stopped s)
      by true = alike s x
      by false = refl

-- ---- what is kept durably

module _ {S : Type 0} (with : S → PaxosRecord → S) (stopped : S → S) (first : S) (blank : stopped first ≡ first) (n : ℕ) where
  pub none_durable : (states : ℕ → S) → ((r : ℕ) → states r ≡ first) → MakeDurable with stopped first n states []
  none_durable states none r = sym (ap stopped (none r) ∙ blank)

  -- what is read has nothing that a stop forgets
  pub read_durable : ((s : S) (x : PaxosRecord) → stopped (with s x) ≡ with (stopped s) x) → (states : ℕ → S) (xs : List PaxosRecord)
      → MakeRounds with first n states xs → MakeDurable with stopped first n states xs
  read_durable alike states xs made r =
      ap (λ (s : S). recorded with r s (own_records n xs)) (sym blank) ∙ sym (recorded-stopped with stopped alike r first (own_records n xs))
      ∙ ap stopped (made r)

pub same_durable : {S : Type 0} (with : S → PaxosRecord → S) (stopped : S → S) (first : S) (n : ℕ) (states now : ℕ → S) → ((r : ℕ) → states r ≡ now r)
    → (xs : List PaxosRecord) → MakeDurable with stopped first n states xs → MakeDurable with stopped first n now xs
same_durable with stopped first n states now same xs made r = made r ∙ ap stopped (same r)

-- ---- a step

pub carried_out_at : {S : Type 0} (after : S → PaxosPlan → S) (states now : ℕ → S) (here : ℕ) (p : PaxosPlan)
    → IsChangedAt states here (λ s. after s p) now → (r : ℕ) → now r ≡ round_carried_out after states here p r
carried_out_at {S} after states now here p changed r = changed r ∙ by (bool_cases (here == r))
  where
    by : ((here == r) ≡ true) ⊎ ((here == r) ≡ false) → (if here == r then after (states r) p else states r) ≡ put states here (after (states here) p) r
    by (inl e) = if_true (λ (s : S). s ≡ put states here (after (states here) p) r) (here == r) _ _ e
        (subst (λ (k : ℕ). after (states k) p ≡ put states here (after (states here) p) k) (eqb_is here r e)
        (sym (put-same states here (after (states here) p))))
    by (inr e) = if_false (λ (s : S). s ≡ put states here (after (states here) p) r) (here == r) _ _ e
        (sym (put-other states here (after (states here) p) r (λ k. eqb_not here r e (sym k))))

-- a process: how a record changes what it keeps of a round, what a stop leaves of that, and what a plan makes of it
module _ {S : Type 0} (with : S → PaxosRecord → S) (stopped : S → S) (new : S) (after : S → PaxosPlan → S)
    (ends : (s : S) (p : PaxosPlan) → stopped (after s p) ≡ recorded_if_any with (stopped s) p.change) where
  module _ (n : ℕ) (states : ℕ → S) (here : ℕ) (p : PaxosPlan) where
    abbrev Makes : (ℕ → S) → List PaxosRecord → Type 0
    Makes s xs = MakeDurable with stopped new n s xs

    abbrev now : ℕ → S
    now = round_carried_out after states here p

    elsewhere : (r : ℕ) → r ≢ here → now r ≡ states r
    elsewhere r other = put-other states here (after (states here) p) r other

    there : (o : Option PaxosRecord) → ((s : S) → stopped (after s p) ≡ recorded_if_any with (stopped s) o)
        → stopped (now here) ≡ recorded_if_any with (stopped (states here)) o
    there o ends_so = ap stopped (put-same states here (after (states here) p)) ∙ ends_so (states here)

    makes_one : (x : PaxosRecord) → round_kept x ≡ here → is_own n x ≡ true → ((s : S) → stopped (after s p) ≡ with (stopped s) x)
        → (xs : List PaxosRecord) → Makes states xs → Makes now (xs ++ x ∷ [])
    makes_one x of mine ends_so xs made r =
        ap (recorded with r new) (own_more n xs x mine) ∙ recorded-more with r new (own_records n xs) x
        ∙ ap (λ (s : S). if round_kept x == r then with s x else s) (made r) ∙ by (bool_cases (round_kept x == r))
      where
        by : ((round_kept x == r) ≡ true) ⊎ ((round_kept x == r) ≡ false)
            → (if round_kept x == r then with (stopped (states r)) x else stopped (states r)) ≡ stopped (now r)
        by (inl e) = if_true (λ (s : S). s ≡ stopped (now r)) (round_kept x == r) _ _ e
            (subst (λ (k : ℕ). with (stopped (states k)) x ≡ stopped (now k)) (sym of ∙ eqb_is (round_kept x) r e) (sym (there (Some x) ends_so)))
        by (inr e) = if_false (λ (s : S). s ≡ stopped (now r)) (round_kept x == r) _ _ e
            (ap stopped (sym (elsewhere r (λ k. eqb_not (round_kept x) r e (of ∙ sym k)))))

    makes_none : ((s : S) → stopped (after s p) ≡ stopped s) → (xs : List PaxosRecord) → Makes states xs → Makes now (xs ++ [])
    makes_none ends_so xs made r = ap (λ (l : List PaxosRecord). recorded with r new (own_records n l)) (append-nil xs) ∙ made r ∙ by (bool_cases (here == r))
      where
        by : ((here == r) ≡ true) ⊎ ((here == r) ≡ false) → stopped (states r) ≡ stopped (now r)
        by (inl e) = subst (λ (k : ℕ). stopped (states k) ≡ stopped (now k)) (eqb_is here r e) (sym (there None ends_so))
        by (inr e) = ap stopped (sym (elsewhere r (λ k. eqb_not here r e (sym k))))

    pub makes_more : WritesIn here n p → (xs : List PaxosRecord) → Makes states xs → Makes now (xs ++ one_or_none p.change)
    makes_more fits = by p.change fits (λ s. ends s p)
      where
        by : (o : Option PaxosRecord) → IfSome o (λ x. (round_kept x ≡ here) × IsTrue (is_own n x))
            → ((s : S) → stopped (after s p) ≡ recorded_if_any with (stopped s) o) → (xs : List PaxosRecord) → Makes states xs
            → Makes now (xs ++ one_or_none o)
        by None fits ends_so = makes_none ends_so
        by (Some x) fits ends_so = makes_one x fits.0 fits.1 ends_so

-- ---- images

kept_made : (Made : List PaxosRecord → Type 0) (bytes : List ℕ) → JournalMakes Made bytes → Made (paxos_records bytes)
kept_made Made bytes = by (older_fault bytes) (records is_paxos_record bytes)
  where
    by : (h : Option ℕ) (r : Result (List (List ℕ)) ℕ) → IsOkAnd (result_map_both records_read (λ (at : ℕ). at) (walk_after h r)) Made
        → Made (records_read (result_unwrap_or r []))
    by None (Ok rs) made = made
    by None (Err at) made = absurd made
    by (Some at) r made = absurd made

-- ---- a plan is carried out; what was made is made again, or what is made with its record

module _ {S : Type 0} (with : S → PaxosRecord → S) (stopped : S → S) (first : S) (after : S → PaxosPlan → S)
    (ends : (s : S) (p : PaxosPlan) → stopped (after s p) ≡ recorded_if_any with (stopped s) p.change) (n : ℕ) (old new : ℕ → S) (here : ℕ) (p : PaxosPlan)
    (writes : WritesIn here n p) (change : Option PaxosRecord) (same : change ≡ p.change) (x y : DiskView)
    (stands : IfSome (image_now x) (λ i. JournalMakes (MakeDurable with stopped first n old) i.bytes)) where
  abbrev Old : List PaxosRecord → Type 0
  Old xs = MakeDurable with stopped first n old xs

  abbrev Now : List PaxosRecord → Type 0
  Now xs = MakeDurable with stopped first n (round_carried_out after old here p) xs

  more_now : (xs : List PaxosRecord) → Old xs → Now (xs ++ one_or_none change)
  more_now xs made =
      subst (λ (o : Option PaxosRecord). Now (xs ++ one_or_none o)) (sym same) (makes_more with stopped first after ends n old here p writes xs made)

  either : (xs : List PaxosRecord) → Old xs → (c : List ℕ) → IsKeptOrNot xs (one_or_none change) c → JournalMakes Old c ⊎ JournalMakes Now c
  either xs made c =
      ⊎_elim (λ (e : records_on c ≡ Ok xs). inl (stand_for Old xs c e made))
      (λ (e : records_on c ≡ Ok (xs ++ one_or_none change)). inr (stand_for Now (xs ++ one_or_none change) c e (more_now xs made)))

  leaves : IfSome (image_now x) (λ i. LeavesSince x y (IsKeptOrNot (paxos_records i.bytes) (one_or_none change)))
      → IfSome (image_now x) (λ i. LeavesSince x y (λ c. JournalMakes Old c ⊎ JournalMakes Now c))
  leaves left =
      lift2 (image_now x) (λ i. JournalMakes Old i.bytes) (λ i. LeavesSince x y (IsKeptOrNot (paxos_records i.bytes) (one_or_none change)))
      (λ i. LeavesSince x y (λ c. JournalMakes Old c ⊎ JournalMakes Now c)) stands left
      (λ i s l. leaves_map y.image_at x.moment y.moment (IsKeptOrNot (paxos_records i.bytes) (one_or_none change))
      (λ c. JournalMakes Old c ⊎ JournalMakes Now c) (either (paxos_records i.bytes) (kept_made Old i.bytes s)) l)

  now_stands : (o q : Option Image) → TellsAs o q → IfSome o (λ i. JournalMakes Old i.bytes)
      → IfSome o (λ i. IfSome q (λ j. records_on j.bytes ≡ Ok (paxos_records i.bytes ++ one_or_none change))) → IfSome q (λ j. JournalMakes Now j.bytes)
  now_stands None None told s kept = tt
  now_stands None (Some j) told s kept = cc
  now_stands (Some i) None told s kept = tt
  now_stands (Some i) (Some j) told s kept =
      stand_for Now (paxos_records i.bytes ++ one_or_none change) j.bytes kept (more_now (paxos_records i.bytes) (kept_made Old i.bytes s))

  -- the call failed; its record may be on the disk
  pub fails_then : (e : JournalFault) → IfSome (image_now x) (λ i. LeavesSince x y (IsKeptOrNot (paxos_records i.bytes) (one_or_none change)))
      → (change ≡ None → y ≡ x) → CarriesOut (MakeDurable with stopped first n) after old new here p x y (Err e)
  fails_then e left none = record { answer = tt; rounds = tt; any_moment = leaves left; kept = tt; quiet = λ h. none (same ∙ h) }

  pub carries : (s : Stepped) → IsStepped s p → IfSome (image_now x) (λ i. LeavesSince x y (IsKeptOrNot (paxos_records i.bytes) (one_or_none change)))
      → (change ≡ None → y ≡ x)
      → TellsAs (image_now x) (image_now y)
      → IfSome (image_now x) (λ i. IfSome (image_now y) (λ j. records_on j.bytes ≡ Ok (paxos_records i.bytes ++ one_or_none change)))
      → IsChangedAt old here (λ s. after s p) new → CarriesOut (MakeDurable with stopped first n) after old new here p x y (Ok s)
  carries s told_so left none told kept changed =
      record {
        answer = told_so;
        rounds = carried_out_at after old new here p changed;
        any_moment = leaves left;
        kept = now_stands (image_now x) (image_now y) told stands kept;
        quiet = λ h. none (same ∙ h);
      }

-- a call that failed before the disk was asked
pub fails_first : {S : Type 0} (Made : (ℕ → S) → List PaxosRecord → Type 0) (after : S → PaxosPlan → S) (old new : ℕ → S) (here : ℕ) (p : PaxosPlan)
    (x : DiskView) (e : JournalFault)
    → (Stands : Image → Type 0) → ((i : Image) → Stands i → IsSettled i) → ((i : Image) → Stands i → JournalMakes (Made old) i.bytes)
    → IfSome (image_now x) Stands → CarriesOut Made after old new here p x x (Err e)
fails_first Made after old new here p x e Stands settled made stands = record {
  answer = tt;
  rounds = tt;
  any_moment =
      still_leaves x (image_now x) Stands
      (λ i c. JournalMakes (Made old) c ⊎ JournalMakes (Made (round_carried_out after old here p)) c) refl stands settled (λ i s. inl (made i s));
  kept = tt;
  quiet = λ h. refl;
}
