-- The message in frames.
use Rattle.std.{specs.{Prelude.{IfOk, OnOk}, List.All}, proofs.Common.{◌≡◌, ◌≢◌, ◌≤◌, ◌+◌, ℕ, List, [], length, Option, Some, Result, Ok, Err, refl, sym, ap}}
use Rattle.std.proofs.Common.{subst, ◌∙◌, append-nil}
use Rattle.spl_base.specs.{Prefix.{Answers, ReadsBack}, declared.fault.Malformed.Malformed}
use Rattle.spl_base.specs.declared.fault.Malformed.TheVariants as Unread
use Rattle.spl_frame.specs.{Frames.{frame, IsBody}, declared.header.TheConstants.LONGEST_BODY}
use Rattle.spl_wire.specs.{Forms.message_form, declared.message.Message.Message}
use Rattle.spl_fragments.{specs.{Parts.IsSized, declared.fault.JoinFault.{JoinFault, TheVariants.NoMemory}}, proofs.Framed.one_framed}
use Rattle.spl_pump.specs.Wires.{IsSentAs, IsSpelled, sent_as}

-- a frame takes them as its bodies
pub sized_short : (bs : List (List ℕ)) → All IsSized bs → All IsBody bs
sized_short bs sized = λ k d within. (sized k d within).most

-- ---- what bodies are joined to

abbrev found : Option Message → Result (Option Message) JoinFault
found o = Ok o

abbrev failed : JoinFault → Result (Option Message) JoinFault
failed e = Err e

found_or_failed : (o : Option Message) (e : JoinFault) → found o ≡ failed e → ⊥
found_or_failed o e h = absurd cc

same_found : (o p : Option Message) → found o ≡ found p → o ≡ p
same_found o p h = cc

same_failed : (e f : JoinFault) → failed e ≡ failed f → e ≡ f
same_failed e f h = cc

-- the message that they were sent as
pub is_found : (o : Option Message) (m : Message) → ((found o ≢ failed NoMemory) → found o ≡ found (Some m)) → o ≡ Some m
is_found o m h = same_found o (Some m) (h (λ k. found_or_failed o NoMemory k))

-- none where they can't be joined: they weren't sent as a message
pub none_found : {E : Type 0} (r : Result (Option Message) E) (e : JoinFault) (Sent : Message → Type 0) → OnOk r (e ≢ NoMemory)
    → ((m : Message) → Sent m → (failed e ≢ failed NoMemory) → failed e ≡ found (Some m)) → IfOk r (λ o. (m : Message) → Sent m → o ≡ Some m)
none_found (Ok o) e Sent known h = λ m sent. absurd (found_or_failed (Some m) e (sym (h m sent (λ k. known (same_failed e NoMemory k)))))
none_found (Err x) e Sent known h = tt

-- what was found, on the heap
pub same_boxed : {E : Type 0} (r : Result (Option Message) E) (o : Option Message) (Sent : Message → Type 0) → IfOk r (λ p. p ≡ o)
    → ((m : Message) → Sent m → o ≡ Some m) → IfOk r (λ p. (m : Message) → Sent m → p ≡ Some m)
same_boxed (Ok p) o Sent is h = λ m sent. is ∙ h m sent
same_boxed (Err x) o Sent is h = tt

-- ---- a message in one frame

abbrev read_failed : Malformed → Result (Message × ℕ) Malformed
read_failed e = Err e

abbrev found_at : Message × ℕ → Result (Message × ℕ) ℕ
found_at x = Ok x

abbrev spelled : Message → ℕ → Result (Message × ℕ) ℕ
spelled m n = Ok (m, n)

same_pair : (x y : Message × ℕ) → found_at x ≡ found_at y → y ≡ x
same_pair x y h = cc

same_message : (m n : Message) (i j : ℕ) → spelled m i ≡ spelled n j → n ≡ m
same_message m n i j h = ap (λ (p : Message × ℕ). p.0) (same_pair (m, i) (n, j) h)

-- the message that is read is the one that is spelled so
pub read_message : (bytes : List ℕ) (found : Message) (n : ℕ) → ReadsBack message_form bytes (Ok (found, n)) → (m : Message) → IsSpelled m bytes → found ≡ m
read_message bytes found n reads m s =
    same_message m found (length (message_form.spell m)) n (reads m [] s.fits (s.is ∙ sym (append-nil (message_form.spell m))))

unread_fails : (e : Malformed) (m : Message) (n : ℕ) → Answers (read_failed e) (spelled m n) → (e ≢ Unread.NoMemory) → ⊥
unread_fails (Unread.At at) m n h known = absurd cc
unread_fails Unread.NoMemory m n h known = known refl

-- none where no message is spelled so
pub not_spelled : {E : Type 0} (r : Result (Option Message) E) (e : Malformed) (bytes : List ℕ) → OnOk r (e ≢ Unread.NoMemory)
    → ReadsBack message_form bytes (Err e)
    → IfOk r (λ o. (m : Message) → IsSpelled m bytes → o ≡ Some m)
not_spelled (Ok o) e bytes known reads =
    λ m s. absurd (unread_fails e m (length (message_form.spell m)) (reads m [] s.fits (s.is ∙ sym (append-nil (message_form.spell m)))) known)
not_spelled (Err x) e bytes known reads = tt

-- what is no longer than a frame is one
one_frame : (m : Message) (frames : List ℕ) → length frames ≤ LONGEST_BODY + 6 → IsSentAs m frames → frames ≡ frame (message_form.spell m)
unfolding sent_as
one_frame m frames short s = s.frames ∙ one_framed (message_form.spell m) (subst (λ (l : List ℕ). length l ≤ LONGEST_BODY + 6) s.frames short)

-- the message in a frame
pub spelled_found : {E : Type 0} (r : Result (Option Message) E) (frames body : List ℕ) → length frames ≤ LONGEST_BODY + 6
    → ((b : List ℕ) → frames ≡ frame b → body ≡ b)
    → IfOk r (λ o. (m : Message) → IsSpelled m body → o ≡ Some m) → IfOk r (λ o. (m : Message) → IsSentAs m frames → o ≡ Some m)
spelled_found (Ok o) frames body short is h = λ m s. h m (record { fits = s.fits; is = is (message_form.spell m) (one_frame m frames short s) })
spelled_found (Err x) frames body short is h = tt

pub no_frame : (o : Option Message) (m : Message) (frames : List ℕ) → length frames ≤ LONGEST_BODY + 6 → ((b : List ℕ) → frames ≢ frame b)
    → IsSentAs m frames → o ≡ Some m
no_frame o m frames short none s = absurd (none (message_form.spell m) (one_frame m frames short s))
