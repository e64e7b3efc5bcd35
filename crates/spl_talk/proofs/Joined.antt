-- What a joiner that holds bytes is left with, and a message that it gives.
use Rattle.std.{specs.Prelude.{IfOk, IfSome}, proofs.Common.{◌≡◌, ◌≢◌, ◌==◌, ◌||◌, ℕ, zero, suc, Bool, true, false, cond, List, [], ◌∷◌, ◌++◌, length}}
use Rattle.std.proofs.Common.{Option, Some, None, Result, Ok, Err, IsTrue, refl, sym, subst, arith}
use Rattle.spl_base.{specs.{Form.IsBytes, FormLaws.guard_ok, Prefix.prefix_of}, proofs.Prefixes.spelled_from}
use Rattle.spl_fragments.specs.Joining.{Joining, joining_after, after_by, all_of, join_answer, answer_by, content, is_bad, is_open_part, judged_body}
use Rattle.spl_fragments.specs.{Joining.{message_of, some_of}, declared.fault.JoinFault.{JoinFault, TheVariants.{BadPart, TooLong, Malformed, NoMemory}}}
use Rattle.spl_wire.specs.{Forms.{message_form, exact_message}, declared.message.Message.Message}

abbrev Answer : Type 0
Answer = Result (Option Message) JoinFault

abbrev some : Message → Answer
some m = Ok (Some m)

abbrev failed : JoinFault → Answer
failed e = Err e

abbrev one : Message → Result Message JoinFault
one m = Ok m

-- ---- bytes

bytes_append : (xs ys : List ℕ) → IsBytes xs → IsBytes ys → IsBytes (xs ++ ys)
bytes_append [] ys h k i = k i
bytes_append (x ∷ xs) ys h k zero = h 0
bytes_append (x ∷ xs) ys h k (suc i) = bytes_append xs ys (λ n. h (suc n)) k i

bytes_content : (body : List ℕ) → IsBytes body → IsBytes (content body)
bytes_content [] h = h
bytes_content (tag ∷ bytes) h = by (tag == 5 || tag == 6)
  where
    by : (b : Bool) → IsBytes (cond b bytes (tag ∷ bytes))
    by true = λ i. h (suc i)
    by false = h

after_bytes : (held bytes : List ℕ) (r : Answer) → IsBytes held → IsBytes bytes → IsBytes (after_by held bytes r).held
after_bytes held bytes (Ok None) h k = bytes_append held bytes h k
after_bytes held bytes (Ok (Some m)) h k = λ i. omega arith
after_bytes held bytes (Err e) h k = h

-- whatever is answered
pub taken_bytes : (j k : Joining) (body : List ℕ) (r : Answer) → IsBytes j.held → IsBytes body → ((r ≢ failed NoMemory) → k ≡ joining_after j body)
    → (r ≡ failed NoMemory → k ≡ j) → IsBytes k.held
taken_bytes j k body r h b next memory = by r next memory
  where
    known : k ≡ joining_after j body → IsBytes k.held
    known is = subst (λ (x : Joining). IsBytes x.held) (sym is) (after_bytes j.held (content body) (join_answer j body) h (bytes_content body b))

    by : (r : Answer) → ((r ≢ failed NoMemory) → k ≡ joining_after j body) → (r ≡ failed NoMemory → k ≡ j) → IsBytes k.held
    by (Ok x) next memory = known (next (λ e. absurd cc))
    by (Err NoMemory) next memory = subst (λ (x : Joining). IsBytes x.held) (sym (memory refl)) h
    by (Err BadPart) next memory = known (next (λ e. absurd cc))
    by (Err (TooLong n)) next memory = known (next (λ e. absurd cc))
    by (Err (Malformed at)) next memory = known (next (λ e. absurd cc))

-- ---- a message has a byte form

all_fits : (bytes : List ℕ) (m : Message) (r : Result (Message × ℕ) ℕ) → IsBytes bytes → prefix_of message_form bytes ≡ r → all_of (length bytes) r ≡ one m
    → IsTrue (message_form.fits m)
all_fits bytes m (Err at) h e is = absurd cc
all_fits bytes m (Ok found) h e is =
    subst (λ (x : Message). IsTrue (message_form.fits x)) (guard_ok (found.1 == length bytes) (Malformed found.1) found.0 m is).1
    (spelled_from message_form exact_message bytes found h e).1

message_fits : (bytes : List ℕ) (m : Message) → IsBytes bytes → message_of bytes ≡ one m → IsTrue (message_form.fits m)
unfolding message_of
message_fits bytes m h is = all_fits bytes m (prefix_of message_form bytes) h refl is

some_is : (r : Result Message JoinFault) (m : Message) → some_of r ≡ some m → r ≡ one m
some_is (Ok x) m is = cc
some_is (Err e) m is = absurd cc

judged_is : (bad long opened : Bool) (n : ℕ) (r : Result Message JoinFault) (m : Message)
    → cond bad (Err BadPart) (cond long (Err (TooLong n)) (cond opened (Ok None) (some_of r))) ≡ some m → r ≡ one m
judged_is true long opened n r m is = absurd cc
judged_is false true opened n r m is = absurd cc
judged_is false false true n r m is = absurd cc
judged_is false false false n r m is = some_is r m is

answered_fits : (o : Option JoinFault) (held body : List ℕ) (m : Message) → IsBytes held → IsBytes body → answer_by o (judged_body held body) ≡ some m
    → IsTrue (message_form.fits m)
answered_fits (Some e) held body m h b is = absurd cc
answered_fits None held body m h b is =
    message_fits (held ++ content body) m (bytes_append held (content body) h (bytes_content body b))
    (judged_is (is_bad (length held) body) _ (is_open_part body) _ (message_of (held ++ content body)) m is)

pub taken_fits : (j : Joining) (body : List ℕ) (r : Answer) → IsBytes j.held → IsBytes body → ((r ≢ failed NoMemory) → r ≡ join_answer j body)
    → IfOk r (λ o. IfSome o (λ m. IsTrue (message_form.fits m)))
taken_fits j body (Ok (Some m)) h b known = answered_fits j.fault j.held body m h b (sym (known (λ e. absurd cc)))
taken_fits j body (Ok None) h b known = tt
taken_fits j body (Err e) h b known = tt
