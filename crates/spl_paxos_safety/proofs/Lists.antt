-- Lists of messages, by their numbers.
use Rattle.std.{specs.Prelude.{Some, slice_get, ◌==◌, if◌then◌else◌}, proofs.Common.{◌≡◌, ◌≢◌, ℕ, zero, suc, ◌+◌, ◌-◌, ◌<◌, ◌≤◌, ◌⊎◌, Bool, true, false}}
use Rattle.std.proofs.Common.{◌&&◌, List, [], ◌∷◌, ◌++◌, length, inl, inr, refl, sym, subst, ◌∙◌, ap, arith}
use Rattle.spl_agree.proofs.Tests.{if_true, if_false, eqb_same, eqb_other}
use Rattle.spl_acceptor.specs.{Quorums.{IsWithin, numbers, acceptors}, Rows.{member, acceptor, to_each_process, to_acceptors, orders}}
use Rattle.spl_acceptor.specs.{Worlds.{SentPaxosMessage, same_name, paxos_on_pair, message_numbered, paxos_posted}, declared.group.Group.Group}
use Rattle.spl_acceptor.specs.declared.message.{Name.Name, PaxosMsg.PaxosMsg}
use Rattle.spl_acceptor.specs.declared.message.PaxosMsg.TheVariants as msg
use Rattle.spl_paxos_safety.proofs.{AcceptorRows.same_number, Said.Sends}

pub append-nil : {A : Type 0} (xs : List A) → xs ++ [] ≡ xs
append-nil [] = refl
append-nil (x ∷ xs) = ap (λ ys. x ∷ ys) (append-nil xs)

pub length-append : {A : Type 0} (xs ys : List A) → length (xs ++ ys) ≡ length xs + length ys
length-append [] ys = omega arith
length-append (x ∷ xs) ys = let e : length (xs ++ ys) ≡ length xs + length ys = length-append xs ys in omega arith

-- what stands after a prefix
pub slice-after : {A : Type 0} (xs ys : List A) (k : ℕ) → slice_get (xs ++ ys) (length xs + k) ≡ slice_get ys k
slice-after {A} [] ys k = let e : length {A = A} [] + k ≡ k = omega arith in ap (slice_get ys) e
slice-after (x ∷ xs) ys k = let e : length (x ∷ xs) + k ≡ suc (length xs + k) = omega arith in ap (slice_get (x ∷ (xs ++ ys))) e ∙ slice-after xs ys k

-- and in it
pub slice-prefix : {A : Type 0} (xs ys : List A) (k : ℕ) (x : A) → slice_get xs k ≡ Some x → slice_get (xs ++ ys) k ≡ Some x
slice-prefix [] ys k x e = cc
slice-prefix (z ∷ zs) ys zero x e = e
slice-prefix (z ∷ zs) ys (suc k) x e = slice-prefix zs ys k x e

pub numbered-prefix : (xs ys : List PaxosMsg) (k : ℕ) (m : PaxosMsg) → message_numbered xs k ≡ Some m → message_numbered (xs ++ ys) k ≡ Some m
numbered-prefix xs ys zero m e = cc
numbered-prefix xs ys (suc k) m e = slice-prefix xs ys k m e

-- the last one
pub numbered-last : (xs : List PaxosMsg) (m : PaxosMsg) → message_numbered (xs ++ m ∷ []) (length (xs ++ m ∷ [])) ≡ Some m
numbered-last xs m = let e : length (xs ++ m ∷ []) ≡ length xs + 1 = length-append xs (m ∷ []) in
    let f : length (xs ++ m ∷ []) ≡ suc (length xs + 0) = omega arith in
    ap (message_numbered (xs ++ m ∷ [])) f ∙ slice-after xs (m ∷ []) 0

-- one message for each of some numbers
abbrev pub listed : (ℕ → PaxosMsg) → List ℕ → List PaxosMsg
listed h [] = []
listed h (i ∷ is) = h i ∷ listed h is

pub listed-append : (h : ℕ → PaxosMsg) (is js : List ℕ) → listed h (is ++ js) ≡ listed h is ++ listed h js
listed-append h [] js = refl
listed-append h (i ∷ is) js = ap (λ (z : List PaxosMsg). h i ∷ z) (listed-append h is js)

pub listed-length : (h : ℕ → PaxosMsg) (n : ℕ) → length (listed h (numbers n)) ≡ n
listed-length h zero = refl
listed-length h (suc n) =
    let e : length (listed h (numbers n) ++ h (suc n) ∷ []) ≡ length (listed h (numbers n)) + 1 = length-append (listed h (numbers n)) (h (suc n) ∷ []) in
    let f : length (listed h (numbers n)) ≡ n = listed-length h n in
    ap length (listed-append h (numbers n) (suc n ∷ [])) ∙ (let k : length (listed h (numbers n) ++ h (suc n) ∷ []) ≡ suc n = omega arith in k)

pub listed-at : (h : ℕ → PaxosMsg) (n k : ℕ) → k < n → slice_get (listed h (numbers n)) k ≡ Some (h (suc k))
listed-at h zero k l = absurd (omega arith)
listed-at h (suc n) k l = ap (λ (z : List PaxosMsg). slice_get z k) (listed-append h (numbers n) (suc n ∷ [])) ∙ go (same_number k n) (λ j. listed-at h n k j)
  where
    last : slice_get (listed h (numbers n) ++ h (suc n) ∷ []) n ≡ Some (h (suc n))
    last = let e : length (listed h (numbers n)) ≡ n = listed-length h n in
        let f : n ≡ length (listed h (numbers n)) + 0 = omega arith in
        ap (slice_get (listed h (numbers n) ++ h (suc n) ∷ [])) f ∙ slice-after (listed h (numbers n)) (h (suc n) ∷ []) 0

    go : (k ≡ n) ⊎ (k ≢ n) → (k < n → slice_get (listed h (numbers n)) k ≡ Some (h (suc k)))
        → slice_get (listed h (numbers n) ++ h (suc n) ∷ []) k ≡ Some (h (suc k))
    go (inl e) ih = subst (λ (z : ℕ). slice_get (listed h (numbers n) ++ h (suc n) ∷ []) z ≡ Some (h (suc z))) (sym e) last
    go (inr d) ih = slice-prefix (listed h (numbers n)) (h (suc n) ∷ []) k (h (suc k)) (ih (omega arith))

-- the last n of a list, one for each number
pub numbered-tail : (prefix : List PaxosMsg) (h : ℕ → PaxosMsg) (n i : ℕ) → IsWithin n i
    → message_numbered (prefix ++ listed h (numbers n)) (length (prefix ++ listed h (numbers n)) - n + i) ≡ Some (h i)
numbered-tail prefix h n zero w = let k : 1 ≤ 0 = w.above in absurd (omega arith)
numbered-tail prefix h n (suc i) w =
    let e : length (prefix ++ listed h (numbers n)) ≡ length prefix + length (listed h (numbers n)) = length-append prefix (listed h (numbers n)) in
    let f : length (listed h (numbers n)) ≡ n = listed-length h n in
    let k : suc i ≤ n = w.most in
    let j : length (prefix ++ listed h (numbers n)) - n + suc i ≡ suc (length prefix + i) = omega arith in
    ap (message_numbered (prefix ++ listed h (numbers n))) j ∙ slice-after prefix (listed h (numbers n)) i ∙ listed-at h n i k

-- ---- pairs

pub pair-append : (f t : Name) (ss ps : List SentPaxosMessage) → paxos_on_pair f t (ss ++ ps) ≡ paxos_on_pair f t ss ++ paxos_on_pair f t ps
pair-append f t [] ps = refl
pair-append f t (s ∷ ss) ps = go (same_name s.from f && same_name s.to t) (pair-append f t ss ps)
  where
    go : (c : Bool) → paxos_on_pair f t (ss ++ ps) ≡ paxos_on_pair f t ss ++ paxos_on_pair f t ps
        → (if c then s.message ∷ paxos_on_pair f t (ss ++ ps) else paxos_on_pair f t (ss ++ ps))
        ≡ (if c then s.message ∷ paxos_on_pair f t ss else paxos_on_pair f t ss) ++ paxos_on_pair f t ps
    go true ih = ap (λ (z : List PaxosMsg). s.message ∷ z) ih
    go false ih = ih

and_is : (c d : Bool) → c ≡ true → d ≡ true → (c && d) ≡ true
and_is true d p q = q
and_is false d p q = cc

and_not : (c d : Bool) → c ≡ false → (c && d) ≡ false
and_not true d p = cc
and_not false d p = refl

and_then_not : (c d : Bool) → d ≡ false → (c && d) ≡ false
and_then_not true d p = p
and_then_not false d p = refl

pub name-same : (n : Name) → same_name n n ≡ true
name-same n = and_is (n.kind == n.kind) (n.number == n.number) (eqb_same n.kind) (eqb_same n.number)

-- nothing of a pair comes from another process
pub pair-other : (f t here : Name) (sends : Sends) → same_name here f ≡ false → paxos_on_pair f t (paxos_posted here sends) ≡ []
pair-other f t here [] e = refl
pair-other f t here (s ∷ ss) e =
    if_false (λ (z : List PaxosMsg). z ≡ []) (same_name here f && same_name s.0 t) (s.1 ∷ paxos_on_pair f t (paxos_posted here ss))
    (paxos_on_pair f t (paxos_posted here ss)) (and_not (same_name here f) (same_name s.0 t) e) (pair-other f t here ss e)

pub pair-one : (here to : Name) (m : PaxosMsg) → paxos_on_pair here to (paxos_posted here ((to, m) ∷ [])) ≡ m ∷ []
pair-one here to m =
    if_true (λ (z : List PaxosMsg). z ≡ m ∷ []) (same_name here here && same_name to to) (m ∷ []) []
    (and_is (same_name here here) (same_name to to) (name-same here) (name-same to)) refl

pub posted-append : (here : Name) (ss ts : Sends) → paxos_posted here (ss ++ ts) ≡ paxos_posted here ss ++ paxos_posted here ts
posted-append here [] ts = refl
posted-append here (s ∷ ss) ts = ap (λ (z : List SentPaxosMessage). record { from = here; to = s.0; message = s.1 } ∷ z) (posted-append here ss ts)

to_each-append : (name : ℕ → Name) (m : PaxosMsg) (is js : List ℕ) → to_each_process name m (is ++ js) ≡ to_each_process name m is ++ to_each_process name m js
to_each-append name m [] js = refl
to_each-append name m (i ∷ is) js = ap (λ (z : Sends). (name i, m) ∷ z) (to_each-append name m is js)

-- names of one kind, which differ by their numbers
abbrev pub IsKind : (ℕ → Name) → Type 0
IsKind name = (i j : ℕ) → same_name (name i) (name j) ≡ (i == j)

pub acceptor-kind : IsKind acceptor
acceptor-kind i j = refl

pub member-kind : IsKind member
member-kind i j = refl

abbrev on_each : (ℕ → Name) → Name → PaxosMsg → ℕ → ℕ → List PaxosMsg
on_each name here m n j = paxos_on_pair here (name j) (paxos_posted here (to_each_process name m (numbers n)))

each-step : (name : ℕ → Name) (here : Name) (m : PaxosMsg) (n j : ℕ)
    → on_each name here m (suc n) j ≡ on_each name here m n j ++ paxos_on_pair here (name j) (paxos_posted here ((name (suc n), m) ∷ []))
each-step name here m n j = ap (λ (z : Sends). paxos_on_pair here (name j) (paxos_posted here z)) (to_each-append name m (numbers n) (suc n ∷ []))
    ∙ ap (paxos_on_pair here (name j)) (posted-append here (to_each_process name m (numbers n)) ((name (suc n), m) ∷ []))
    ∙ pair-append here (name j) (paxos_posted here (to_each_process name m (numbers n))) (paxos_posted here ((name (suc n), m) ∷ []))

one-other : (name : ℕ → Name) (here : Name) (m : PaxosMsg) (i j : ℕ) → IsKind name → i ≢ j
    → paxos_on_pair here (name j) (paxos_posted here ((name i, m) ∷ [])) ≡ []
one-other name here m i j kind d =
    if_false (λ (z : List PaxosMsg). z ≡ []) (same_name here here && same_name (name i) (name j)) (m ∷ []) []
    (and_then_not (same_name here here) (same_name (name i) (name j)) (kind i j ∙ eqb_other i j d)) refl

each-above : (name : ℕ → Name) (here : Name) (m : PaxosMsg) (n j : ℕ) → IsKind name → n < j → on_each name here m n j ≡ []
each-above name here m zero j kind l = refl
each-above name here m (suc n) j kind l = each-step name here m n j
    ∙ ap (λ (z : List PaxosMsg). z ++ paxos_on_pair here (name j) (paxos_posted here ((name (suc n), m) ∷ []))) (each-above name here m n j kind (omega arith))
    ∙ one-other name here m (suc n) j kind (λ e. omega arith)

-- a message to each of the numbers from 1 to n comes once on each of these pairs
pub pair-each : (name : ℕ → Name) (here : Name) (m : PaxosMsg) (n j : ℕ) → IsKind name → IsWithin n j
    → paxos_on_pair here (name j) (paxos_posted here (to_each_process name m (numbers n))) ≡ m ∷ []
pair-each name here m zero j kind w = let a : 1 ≤ j = w.above in let b : j ≤ 0 = w.most in absurd (omega arith)
pair-each name here m (suc n) j kind w = go (same_number j (suc n)) (λ v. pair-each name here m n j kind v)
  where
    go : (j ≡ suc n) ⊎ (j ≢ suc n) → (IsWithin n j → on_each name here m n j ≡ m ∷ []) → on_each name here m (suc n) j ≡ m ∷ []
    go (inl e) ih = each-step name here m n j
        ∙ ap (λ (z : List PaxosMsg). z ++ paxos_on_pair here (name j) (paxos_posted here ((name (suc n), m) ∷ [])))
        (each-above name here m n j kind (omega arith))
        ∙ subst (λ (z : ℕ). paxos_on_pair here (name z) (paxos_posted here ((name (suc n), m) ∷ [])) ≡ m ∷ []) (sym e) (pair-one here (name (suc n)) m)
    go (inr d) ih = each-step name here m n j
        ∙ ap (λ (z : List PaxosMsg). z ++ paxos_on_pair here (name j) (paxos_posted here ((name (suc n), m) ∷ [])))
        (ih (record { above = w.above; most = let b : j ≤ suc n = w.most in omega arith }))
        ∙ ap (λ (z : List PaxosMsg). m ∷ z) (one-other name here m (suc n) j kind (λ e. d (sym e)))

-- and orders, one for each member
pub pair-orders : (g : Group) (r b : ℕ) (here : Name) (chosen : ℕ → Bool) (is : List ℕ) (a : ℕ) → IsWithin (acceptors g.faults) a
    → paxos_on_pair here (acceptor a) (paxos_posted here (orders g r b chosen is)) ≡ listed (λ (i : ℕ). msg.Accept r i b (chosen i)) is
pair-orders g r b here chosen [] a w = refl
pair-orders g r b here chosen (i ∷ is) a w =
    ap (paxos_on_pair here (acceptor a)) (posted-append here (to_acceptors g (msg.Accept r i b (chosen i))) (orders g r b chosen is))
    ∙ pair-append here (acceptor a) (paxos_posted here (to_acceptors g (msg.Accept r i b (chosen i)))) (paxos_posted here (orders g r b chosen is))
    ∙ ap (λ (z : List PaxosMsg). z ++ paxos_on_pair here (acceptor a) (paxos_posted here (orders g r b chosen is)))
    (pair-each acceptor here (msg.Accept r i b (chosen i)) (acceptors g.faults) a acceptor-kind w)
    ∙ ap (λ (z : List PaxosMsg). msg.Accept r i b (chosen i) ∷ z) (pair-orders g r b here chosen is a w)
