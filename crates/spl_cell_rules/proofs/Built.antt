-- What holds of a member of any group that changes have made of a new one, whether rows gave them or not.
use Rattle.std.{specs.Prelude.{Some, None, ◌==◌, nat_lt, is_none}, proofs.Common.{◌≡◌, ◌⊎◌, ℕ, ◌+◌, ◌-◌, ◌^◌, ◌<◌, ◌≤◌, Bool, true, false, ◌&&◌, List, []}}
use Rattle.std.proofs.Common.{◌∷◌, ◌++◌, length, refl, sym, subst, inl, inr, arith}
use Rattle.spl_agree.specs.{Member.{Rules, Member, values, new_member, known, changed, without, found, found_refused}, Fits.{AllGood, KeysDiffer, is_pending}}
use Rattle.spl_agree.{specs.{Fits.{has_nothing, is_new, fits}, declared.{event.GroupChange.GroupChange, reason.Reason.Reason}}, proofs.Tests.and_left}
use Rattle.spl_agree.proofs.Tests.{and_right, ltb_is, eqb_is, or_cases}
use Rattle.spl_agree.specs.declared.event.GroupChange.TheVariants as change
use Rattle.spl_group_safety.proofs.{Sound.{AllGood-more, values-more, is_none_is}, Fits.{length-one, length-without}}
use Rattle.spl_cell_rules.proofs.Keys.{Each, each-more, each-both, each-without, found-both, refused-more, nowhere, HasKeys, RefusedDiffer}
use Rattle.spl_cell_rules.proofs.Keys.{refused-differ-more, differ-more, differ-without, without-apart, refused-key}

-- a promise: its check is good, there is a place, and its round is the last one seen
pub record IsPromised {V : Type 0} (rules : Rules V) (m : Member V) (e : ℕ × V) : Type 0 where
  pub good : rules.check (values m.history) e.1 ≡ None
  pub room : length m.history < 2 ^ 32 - 1
  pub seen : m.seen ≡ e.0
  pub begun : 0 < e.0

-- the key is neither committed nor refused
abbrev pub IsUnsettled : {V : Type 0} → Rules V → List (ℕ × V) → List (V × Reason) → V → Type 0
IsUnsettled rules h r v = (found (rules.same_key v) (values h) ≡ None) × (found_refused (rules.same_key v) r ≡ None)

pub record IsBuilt {V : Type 0} (rules : Rules V) (m : Member V) : Type 0 where
  pub good : AllGood rules [] (values m.history)
  pub room : length m.history ≤ 2 ^ 32 - 1
  pub few : length m.pending ≤ 64
  pub promised : (e : ℕ × V) → m.promise ≡ Some e → IsPromised rules m e
  pub begun : 0 < m.next
  pub bounded : m.next < 2 ^ 64
  pub shut : m.opened ≡ None
  pub pending_differ : KeysDiffer rules [] m.pending
  pub refused_differ : RefusedDiffer rules [] m.refused
  pub unsettled : Each (IsUnsettled rules m.history m.refused) m.pending

pub built-new : {V : Type 0} (rules : Rules V) → IsBuilt rules new_member
built-new rules =
    record {
      good = tt;
      room = omega arith;
      few = omega arith;
      promised = λ e p. cc;
      begun = omega arith;
      bounded = omega arith;
      shut = refl;
      pending_differ = tt;
      refused_differ = tt;
      unsettled = tt;
    }

empty_is : {A : Type 0} (xs : List A) → (length xs == 0) ≡ true → xs ≡ []
empty_is [] h = refl
empty_is (x ∷ xs) h = absurd (let z : length (x ∷ xs) ≡ 0 = eqb_is (length (x ∷ xs)) 0 h in omega arith)

-- what has nothing
pub record IsBare {V : Type 0} (m : Member V) : Type 0 where
  pub history : m.history ≡ []
  pub pending : m.pending ≡ []
  pub promise : m.promise ≡ None

pub bare : {V : Type 0} (m : Member V) → has_nothing m ≡ true → IsBare m
bare m h =
    let k : (length m.pending == 0 && is_none m.promise) ≡ true = and_right (length m.history == 0) _ h in
    record {
      history = empty_is m.history (and_left (length m.history == 0) _ h);
      pending = empty_is m.pending (and_left (length m.pending == 0) _ k);
      promise = is_none_is m.promise (and_right (length m.pending == 0) _ k);
    }

-- what is as it was made
pub record IsFresh {V : Type 0} (m : Member V) : Type 0 where
  pub bare : IsBare m
  pub refused : m.refused ≡ []
  pub seen : m.seen ≡ 0
  pub next : m.next ≡ 1

pub is-fresh : {V : Type 0} (m : Member V) → is_new m ≡ true → IsFresh m
is-fresh m h =
    let k : (length m.refused == 0 && (m.seen == 0 && m.next == 1)) ≡ true = and_right (has_nothing m) _ h in
    let l : (m.seen == 0 && m.next == 1) ≡ true = and_right (length m.refused == 0) _ k in
    record {
      bare = bare m (and_left (has_nothing m) _ h);
      refused = empty_is m.refused (and_left (length m.refused == 0) _ k);
      seen = eqb_is m.seen 0 (and_left (m.seen == 0) _ l);
      next = eqb_is m.next 1 (and_right (m.seen == 0) _ l);
    }

module _ {V : Type 0} (rules : Rules V) (may : V → Bool) (m : Member V) where
  abbrev Keeps : GroupChange V → Type 0
  Keeps x = fits rules may m x ≡ true → IsBuilt rules m → IsBuilt rules (changed rules m x)

  built-queue : (v : V) → Keeps (change.Queue v)
  built-queue v h s =
      let space : (nat_lt (length m.pending) 64 && may v) ≡ true = and_right (is_none (known rules m v)) (nat_lt (length m.pending) 64 && may v) h in
      let l : length m.pending < 64 = ltb_is (length m.pending) 64 (and_left (nat_lt (length m.pending) 64) (may v) space) in
      let one : length (m.pending ++ v ∷ []) ≡ length m.pending + 1 = length-one m.pending v in
      let none =
      nowhere (found (rules.same_key v) (values m.history)) (found (rules.same_key v) m.pending) (found_refused (rules.same_key v) m.refused)
      (is_none_is (known rules m v) (and_left (is_none (known rules m v)) (nat_lt (length m.pending) 64 && may v) h)) in
      record {
        good = s.good;
        room = s.room;
        few = omega arith;
        promised = λ e p. let k : IsPromised rules m e = s.promised e p in record { good = k.good; room = k.room; seen = k.seen; begun = k.begun };
        begun = s.begun;
        bounded = s.bounded;
        shut = s.shut;
        pending_differ = differ-more rules [] m.pending v s.pending_differ none.1;
        refused_differ = s.refused_differ;
        unsettled = each-more (IsUnsettled rules m.history m.refused) m.pending v s.unsettled (none.0, none.2);
      }

  built-begin : (r : ℕ) → Keeps (change.Begin r)
  built-begin r h s =
      let l : r < 2 ^ 64 - 1 = ltb_is r (2 ^ 64 - 1) (and_right (r == m.next) (nat_lt r (2 ^ 64 - 1)) h) in
      record {
        good = s.good;
        room = s.room;
        few = s.few;
        promised = λ e p. let k : IsPromised rules m e = s.promised e p in record { good = k.good; room = k.room; seen = k.seen; begun = k.begun };
        begun = omega arith;
        bounded = omega arith;
        shut = s.shut;
        pending_differ = s.pending_differ;
        refused_differ = s.refused_differ;
        unsettled = s.unsettled;
      }

  built-seen : (r : ℕ) → Keeps (change.Seen r)
  built-seen r h s =
      let none : m.promise ≡ None = is_none_is m.promise (and_right (nat_lt m.seen r) (is_none m.promise) h) in
      record {
        good = s.good;
        room = s.room;
        few = s.few;
        promised = λ e p. absurd (let z : None ≡ Some e = rw none at p in cc);
        begun = s.begun;
        bounded = s.bounded;
        shut = s.shut;
        pending_differ = s.pending_differ;
        refused_differ = s.refused_differ;
        unsettled = s.unsettled;
      }

  built-promise : (r : ℕ) (v : V) → Keeps (change.Promise r v)
  built-promise r v h s =
      let newer : m.seen < r = ltb_is m.seen r (and_left (nat_lt m.seen r) _ h) in
      let free : (is_none m.promise && (nat_lt (length m.history) (2 ^ 32 - 1) && is_none (rules.check (values m.history) v))) ≡ true =
      and_right (nat_lt m.seen r) _ h in
      let both : (nat_lt (length m.history) (2 ^ 32 - 1) && is_none (rules.check (values m.history) v)) ≡ true = and_right (is_none m.promise) _ free in
      let space : length m.history < 2 ^ 32 - 1 =
      ltb_is (length m.history) (2 ^ 32 - 1) (and_left (nat_lt (length m.history) (2 ^ 32 - 1)) (is_none (rules.check (values m.history) v)) both) in
      let well : rules.check (values m.history) v ≡ None =
      is_none_is (rules.check (values m.history) v)
      (and_right (nat_lt (length m.history) (2 ^ 32 - 1)) (is_none (rules.check (values m.history) v)) both) in
      record {
        good = s.good;
        room = s.room;
        few = s.few;
        promised =
            λ e p. let one : (r, v) ≡ e = cc in
            subst (λ (x : ℕ × V). IsPromised rules (changed rules m (change.Promise r v)) x) one
            (record { good = well; room = space; seen = refl; begun = omega arith });
        begun = s.begun;
        bounded = s.bounded;
        shut = s.shut;
        pending_differ = s.pending_differ;
        refused_differ = s.refused_differ;
        unsettled = s.unsettled;
      }

  built-abort : Keeps change.Abort
  built-abort h s = record {
    good = s.good;
    room = s.room;
    few = s.few;
    promised = λ e p. cc;
    begun = s.begun;
    bounded = s.bounded;
    shut = s.shut;
    pending_differ = s.pending_differ;
    refused_differ = s.refused_differ;
    unsettled = s.unsettled;
  }

  built-restore : (next seen : ℕ) → Keeps (change.Restore next seen)
  built-restore next seen h s =
      let both : (nat_lt 0 next && nat_lt next (2 ^ 64)) ≡ true = and_right (is_new m) _ h in
      let b : IsFresh m = is-fresh m (and_left (is_new m) _ h) in
      let none : m.promise ≡ None = b.bare.promise in
      record {
        good = s.good;
        room = s.room;
        few = s.few;
        promised = λ e p. absurd (let z : None ≡ Some e = rw none at p in cc);
        begun = ltb_is 0 next (and_left (nat_lt 0 next) (nat_lt next (2 ^ 64)) both);
        bounded = ltb_is next (2 ^ 64) (and_right (nat_lt 0 next) (nat_lt next (2 ^ 64)) both);
        shut = s.shut;
        pending_differ = s.pending_differ;
        refused_differ = s.refused_differ;
        unsettled = s.unsettled;
      }

  built-kept : (v : V) (why : Reason) → Keeps (change.Kept v why)
  built-kept v why h s =
      let b : IsBare m = bare m (and_left (has_nothing m) _ h) in
      let none : m.promise ≡ None = b.promise in
      let new : found_refused (rules.same_key v) m.refused ≡ None = is_none_is (found_refused (rules.same_key v) m.refused) (and_right (has_nothing m) _ h) in
      record {
        good = s.good;
        room = s.room;
        few = s.few;
        promised = λ e p. absurd (let z : None ≡ Some e = rw none at p in cc);
        begun = s.begun;
        bounded = s.bounded;
        shut = s.shut;
        pending_differ = s.pending_differ;
        refused_differ = refused-differ-more rules [] m.refused (v, why) s.refused_differ new;
        unsettled = subst (λ (us : List V). Each (IsUnsettled rules m.history (m.refused ++ (v, why) ∷ [])) us) (sym b.pending) tt;
      }

  -- an equal value is pending, so that its key is not refused
  pending-new : (v : V) (us : List V) → HasKeys rules → is_pending rules v us ≡ true → Each (IsUnsettled rules m.history m.refused) us
      → found_refused (rules.same_key v) m.refused ≡ None
  pending-new v [] keys h s = cc
  pending-new v (u ∷ us) keys h s = go (or_cases (rules.same u v) (is_pending rules v us) h) (pending-new v us keys)
    where
      go : (rules.same u v ≡ true) ⊎ (is_pending rules v us ≡ true)
          → (is_pending rules v us ≡ true → Each (IsUnsettled rules m.history m.refused) us → found_refused (rules.same_key v) m.refused ≡ None)
          → found_refused (rules.same_key v) m.refused ≡ None
      go (inl q) f = refused-key rules keys u v m.refused (keys.same u v q) s.0.1
      go (inr q) f = f q s.1

  built-refuse : HasKeys rules → (v : V) (why : Reason) → Keeps (change.Refuse v why)
  built-refuse keys v why h s =
      let k : length (without (rules.same_key v) m.pending) ≤ length m.pending = length-without (rules.same_key v) m.pending in
      let f : length m.pending ≤ 64 = s.few in
      let new : found_refused (rules.same_key v) m.refused ≡ None = pending-new v m.pending keys h s.unsettled in
      record {
        good = s.good;
        room = s.room;
        few = omega arith;
        promised = λ e p. let k : IsPromised rules m e = s.promised e p in record { good = k.good; room = k.room; seen = k.seen; begun = k.begun };
        begun = s.begun;
        bounded = s.bounded;
        shut = s.shut;
        pending_differ = differ-without rules (rules.same_key v) [] m.pending s.pending_differ;
        refused_differ = refused-differ-more rules [] m.refused (v, why) s.refused_differ new;
        unsettled =
            each-both (IsUnsettled rules m.history m.refused) (λ w. rules.same_key w v ≡ false) (IsUnsettled rules m.history (m.refused ++ (v, why) ∷ []))
            (without (rules.same_key v) m.pending)
            (λ w a b. (a.0, refused-more (rules.same_key w) m.refused (v, why) a.1 b))
            (each-without (IsUnsettled rules m.history m.refused) (rules.same_key v) m.pending s.unsettled)
            (without-apart rules keys v [] m.pending s.pending_differ);
      }

  built-commit : HasKeys rules → (r : ℕ) (v : V) → Keeps (change.Commit r v)
  built-commit keys r v h s =
      let space : length m.history < 2 ^ 32 - 1 =
      ltb_is (length m.history) (2 ^ 32 - 1) (and_left (nat_lt (length m.history) (2 ^ 32 - 1)) (is_none (rules.check (values m.history) v)) h) in
      let well : rules.check (values m.history) v ≡ None =
      is_none_is (rules.check (values m.history) v) (and_right (nat_lt (length m.history) (2 ^ 32 - 1)) (is_none (rules.check (values m.history) v)) h) in
      let k : length (without (rules.same_key v) m.pending) ≤ length m.pending = length-without (rules.same_key v) m.pending in
      let f : length m.pending ≤ 64 = s.few in
      let one : length (m.history ++ (r, v) ∷ []) ≡ length m.history + 1 = length-one m.history (r, v) in
      record {
        good = rw (values-more m.history (r, v)) (AllGood-more rules [] (values m.history) v s.good well);
        room = omega arith;
        few = omega arith;
        promised = λ e p. cc;
        begun = s.begun;
        bounded = s.bounded;
        shut = s.shut;
        pending_differ = differ-without rules (rules.same_key v) [] m.pending s.pending_differ;
        refused_differ = s.refused_differ;
        unsettled =
            each-both (IsUnsettled rules m.history m.refused) (λ w. rules.same_key w v ≡ false) (IsUnsettled rules (m.history ++ (r, v) ∷ []) m.refused)
            (without (rules.same_key v) m.pending)
            (λ w a b. (rw (values-more m.history (r, v)) (found-both (rules.same_key w) (values m.history) (v ∷ []) a.0 (rw b)), a.1))
            (each-without (IsUnsettled rules m.history m.refused) (rules.same_key v) m.pending s.unsettled)
            (without-apart rules keys v [] m.pending s.pending_differ);
      }

  -- each change that fits leaves a built member
  pub built-changed : HasKeys rules → (x : GroupChange V) → Keeps x
  built-changed keys (change.Queue v) h s = built-queue v h s
  built-changed keys (change.Refuse v why) h s = built-refuse keys v why h s
  built-changed keys (change.Begin r) h s = built-begin r h s
  built-changed keys (change.Seen r) h s = built-seen r h s
  built-changed keys (change.Promise r v) h s = built-promise r v h s
  built-changed keys change.Abort h s = built-abort h s
  built-changed keys (change.Commit r v) h s = built-commit keys r v h s
  built-changed keys (change.Restore next seen) h s = built-restore next seen h s
  built-changed keys (change.Kept v why) h s = built-kept v why h s
