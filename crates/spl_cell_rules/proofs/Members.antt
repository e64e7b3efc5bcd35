-- What a member of any group keeps at each change that fits.
use Rattle.std.{specs.{Prelude.{None, ◌==◌, nat_lt, is_none}, List.list_all}, proofs.Common.{◌≡◌, ℕ, ◌-◌, ◌^◌, ◌<◌, Bool, true, ◌&&◌, List, [], ◌∷◌, ◌++◌}}
use Rattle.std.proofs.Common.{length, refl, subst, arith}
use Rattle.spl_agree.specs.{Member.{Rules, Member, values, known, changed, without, new_member}, Fits.{is_new, fits}, declared.event.GroupChange.GroupChange}
use Rattle.spl_agree.proofs.Tests.{if_holds, and_left, and_right, ltb_is}
use Rattle.spl_agree.specs.declared.event.GroupChange.TheVariants as change
use Rattle.spl_wire.specs.Grouping.{value_in, meets}
use Rattle.spl_cell_rules.specs.Valid.{IsKeptMember, AllMeet}
use Rattle.spl_group_safety.proofs.{Sound.{AllGood-more, values-more, is_none_is}, Fits.{roomy-queue, roomy-refuse, roomy-commit, roomy-new_member}}

pub checked-new : {V : Type 0} (rules : Rules V) → IsKeptMember rules new_member
checked-new rules = record { good = tt; promised = λ e p. cc; roomy = roomy-new_member }

checked-queue : {V : Type 0} (rules : Rules V) (may : V → Bool) (m : Member V) (v : V) → fits rules may m (change.Queue v) ≡ true → IsKeptMember rules m
    → IsKeptMember rules (changed rules m (change.Queue v))
checked-queue rules may m v h s =
    let space : (nat_lt (length m.pending) 64 && may v) ≡ true = and_right (is_none (known rules m v)) (nat_lt (length m.pending) 64 && may v) h in
    record {
      good =
          s.good;
      promised = s.promised;
      roomy = roomy-queue m v (ltb_is (length m.pending) 64 (and_left (nat_lt (length m.pending) 64) (may v) space)) s.roomy;
    }

checked-begin : {V : Type 0} (rules : Rules V) (may : V → Bool) (m : Member V) (r : ℕ) → fits rules may m (change.Begin r) ≡ true → IsKeptMember rules m
    → IsKeptMember rules (changed rules m (change.Begin r))
checked-begin rules may m r h s =
    let l : r < 2 ^ 64 - 1 = ltb_is r (2 ^ 64 - 1) (and_right (r == m.next) (nat_lt r (2 ^ 64 - 1)) h) in
    record {
      good =
          s.good;
      promised = s.promised;
      roomy = record { few = s.roomy.few; rounds = omega arith; room = s.roomy.room; while_promised = s.roomy.while_promised };
    }

checked-promise : {V : Type 0} (rules : Rules V) (may : V → Bool) (m : Member V) (r : ℕ) (v : V) → fits rules may m (change.Promise r v) ≡ true
    → IsKeptMember rules m → IsKeptMember rules (changed rules m (change.Promise r v))
checked-promise {V} rules may m r v h s =
    let free : (is_none m.promise && (nat_lt (length m.history) (2 ^ 32 - 1) && is_none (rules.check (values m.history) v))) ≡ true =
    and_right (nat_lt m.seen r) _ h in
    let both : (nat_lt (length m.history) (2 ^ 32 - 1) && is_none (rules.check (values m.history) v)) ≡ true = and_right (is_none m.promise) _ free in
    let room : length m.history < 2 ^ 32 - 1 =
    ltb_is (length m.history) (2 ^ 32 - 1) (and_left (nat_lt (length m.history) (2 ^ 32 - 1)) (is_none (rules.check (values m.history) v)) both) in
    let good : rules.check (values m.history) v ≡ None =
    is_none_is (rules.check (values m.history) v)
    (and_right (nat_lt (length m.history) (2 ^ 32 - 1)) (is_none (rules.check (values m.history) v)) both) in
    record {
      good = s.good;
      promised = λ e p. let same : (r, v) ≡ e = cc in subst (λ (x : ℕ × V). rules.check (values m.history) x.1 ≡ None) same good;
      roomy = record { few = s.roomy.few; rounds = s.roomy.rounds; room = s.roomy.room; while_promised = λ e p. room };
    }

checked-commit : {V : Type 0} (rules : Rules V) (may : V → Bool) (m : Member V) (r : ℕ) (v : V) → fits rules may m (change.Commit r v) ≡ true
    → IsKeptMember rules m → IsKeptMember rules (changed rules m (change.Commit r v))
checked-commit rules may m r v h s =
    let room : length m.history < 2 ^ 32 - 1 =
    ltb_is (length m.history) (2 ^ 32 - 1) (and_left (nat_lt (length m.history) (2 ^ 32 - 1)) (is_none (rules.check (values m.history) v)) h) in
    let good : rules.check (values m.history) v ≡ None =
    is_none_is (rules.check (values m.history) v) (and_right (nat_lt (length m.history) (2 ^ 32 - 1)) (is_none (rules.check (values m.history) v)) h) in
    record {
      good = rw (values-more m.history (r, v)) (AllGood-more rules [] (values m.history) v s.good good);
      promised = λ e p. cc;
      roomy = roomy-commit rules m r v m.opened room s.roomy;
    }

checked-restore : {V : Type 0} (rules : Rules V) (may : V → Bool) (m : Member V) (next seen : ℕ) → fits rules may m (change.Restore next seen) ≡ true
    → IsKeptMember rules m → IsKeptMember rules (changed rules m (change.Restore next seen))
checked-restore rules may m next seen h s =
    let l : next < 2 ^ 64 = ltb_is next (2 ^ 64) (and_right (nat_lt 0 next) (nat_lt next (2 ^ 64)) (and_right (is_new m) _ h)) in
    record {
      good =
          s.good;
      promised = s.promised;
      roomy = record { few = s.roomy.few; rounds = omega arith; room = s.roomy.room; while_promised = s.roomy.while_promised };
    }

pub checked-changed : {V : Type 0} (rules : Rules V) (may : V → Bool) (m : Member V) (x : GroupChange V) → fits rules may m x ≡ true → IsKeptMember rules m
    → IsKeptMember rules (changed rules m x)
checked-changed rules may m (change.Queue v) h s = checked-queue rules may m v h s
checked-changed rules may m (change.Refuse v reason) h s = record { good = s.good; promised = s.promised; roomy = roomy-refuse rules m v _ m.opened s.roomy }
checked-changed rules may m (change.Begin r) h s = checked-begin rules may m r h s
checked-changed rules may m (change.Seen r) h s =
    record {
      good = s.good;
      promised = s.promised;
      roomy = record { few = s.roomy.few; rounds = s.roomy.rounds; room = s.roomy.room; while_promised = s.roomy.while_promised };
    }
checked-changed rules may m (change.Promise r v) h s = checked-promise rules may m r v h s
checked-changed rules may m change.Abort h s =
    record {
      good = s.good;
      promised = λ e p. cc;
      roomy = record { few = s.roomy.few; rounds = s.roomy.rounds; room = s.roomy.room; while_promised = λ e p. cc };
    }
checked-changed rules may m (change.Commit r v) h s = checked-commit rules may m r v h s
checked-changed rules may m (change.Restore next seen) h s = checked-restore rules may m next seen h s
checked-changed rules may m (change.Kept v why) h s =
    record {
      good = s.good;
      promised = s.promised;
      roomy = record { few = s.roomy.few; rounds = s.roomy.rounds; room = s.roomy.room; while_promised = s.roomy.while_promised };
    }

-- ---- what may be pending

without-all : {V : Type 0} (may p : V → Bool) (us : List V) → list_all may us ≡ true → list_all may (without p us) ≡ true
without-all may p [] h = refl
without-all {V} may p (u ∷ us) h =
    if_holds (λ (vs : List V). list_all may vs ≡ true) (p u) _ _ (λ q. and_right (may u) (list_all may us) h)
    (λ q. rw (and_left (may u) (list_all may us) h, without-all may p us (and_right (may u) (list_all may us) h)))

more-all : {V : Type 0} (may : V → Bool) (us : List V) (v : V) → list_all may us ≡ true → may v ≡ true → list_all may (us ++ v ∷ []) ≡ true
more-all may [] v h k = rw k
more-all may (u ∷ us) v h k = rw (and_left (may u) (list_all may us) h, more-all may us v (and_right (may u) (list_all may us) h) k)

-- a change that fits leaves what may be pending
pub pending-changed : {V : Type 0} (rules : Rules V) (may : V → Bool) (m : Member V) (x : GroupChange V) → fits rules may m x ≡ true
    → list_all may m.pending ≡ true → list_all may (changed rules m x).pending ≡ true
pending-changed rules may m (change.Queue v) h l =
    more-all may m.pending v l
    (and_right (nat_lt (length m.pending) 64) (may v) (and_right (is_none (known rules m v)) (nat_lt (length m.pending) 64 && may v) h))
pending-changed rules may m (change.Refuse v why) h l = without-all may (rules.same_key v) m.pending l
pending-changed rules may m (change.Commit r v) h l = without-all may (rules.same_key v) m.pending l
pending-changed rules may m _ h l = l

-- ---- what each value meets

pub meets-new : {V : Type 0} (may : V → Bool) → AllMeet may new_member
meets-new may = record { history = refl; pending = refl; refused = refl; promise = λ e p. cc }

-- a change whose value meets the test
pub meets-changed : {V : Type 0} (rules : Rules V) (may : V → Bool) (m : Member V) (x : GroupChange V) → meets may (value_in x) ≡ true → AllMeet may m
    → AllMeet may (changed rules m x)
meets-changed rules may m (change.Queue v) h s =
    record { history = s.history; pending = more-all may m.pending v s.pending h; refused = s.refused; promise = s.promise }
meets-changed rules may m (change.Refuse v why) h s =
    record {
      history = s.history;
      pending = without-all may (rules.same_key v) m.pending s.pending;
      refused = more-all (λ u. may u.0) m.refused (v, why) s.refused h;
      promise = s.promise;
    }
meets-changed {V} rules may m (change.Promise r v) h s =
    record {
      history = s.history;
      pending = s.pending;
      refused = s.refused;
      promise = λ e p. let same : (r, v) ≡ e = cc in
          subst (λ (x : ℕ × V). may x.1 ≡ true) same h;
    }
meets-changed rules may m change.Abort h s = record { history = s.history; pending = s.pending; refused = s.refused; promise = λ e p. cc }
meets-changed rules may m (change.Commit r v) h s =
    record {
      history = rw (values-more m.history (r, v)) (more-all may (values m.history) v s.history h);
      pending = without-all may (rules.same_key v) m.pending s.pending;
      refused = s.refused;
      promise = λ e p. cc;
    }
meets-changed rules may m (change.Kept v why) h s =
    record { history = s.history; pending = s.pending; refused = more-all (λ u. may u.0) m.refused (v, why) s.refused h; promise = s.promise }
meets-changed rules may m _ h s = record { history = s.history; pending = s.pending; refused = s.refused; promise = s.promise }
