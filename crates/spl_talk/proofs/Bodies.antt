-- The bodies of a message: parts that others follow, and the last one.
use Rattle.std.{specs.Prelude.⊤, proofs.Common.{◌≡◌, ℕ, zero, suc, Bool, true, false, cond, ltb, List, [], ◌∷◌, ◌++◌, length, drop, Option, Some, None}}
use Rattle.std.proofs.Common.{Result, Ok, Err, refl, sym, ap, subst, ◌∙◌}
use Rattle.spl_frame.specs.declared.header.TheConstants.{LONGEST_BODY}
use Rattle.spl_fragments.specs.Joining.{Joining, after_by, join_answer, answer_by, content, is_bad, is_open_part, judged_body, last_answer, message_of}
use Rattle.spl_fragments.specs.{Joining.some_of, Parts.{message_bodies, cut_parts, parts}, declared.fault.JoinFault.{JoinFault, TheVariants.BadPart}}
use Rattle.spl_fragments.{specs.declared.fault.JoinFault.TheVariants.TooLong, proofs.{Cuts.{cut_by, cut_step}, Joins.fault_stays}}
use Rattle.spl_wire.specs.declared.message.Message.{Message}

abbrev Answer : Type 0
Answer = Result (Option Message) JoinFault

abbrev some : Message → Answer
some m = Ok (Some m)

abbrev none : Answer
none = Ok None

abbrev failed : JoinFault → Answer
failed e = Err e

-- each is a part that others follow
abbrev pub AreOpen : List (List ℕ) → Type 0
AreOpen [] = ⊤
AreOpen (b ∷ bs) = (is_open_part b ≡ true) × AreOpen bs

-- such parts, and a last body
pub record EndsOnce (bs : List (List ℕ)) : Type 0 where
  pub opens : List (List ℕ)
  pub last : List ℕ
  pub is : bs ≡ opens ++ last ∷ []
  pub opened : AreOpen opens

one : (b : List ℕ) → EndsOnce (b ∷ [])
one b = record { opens = []; last = b; is = refl; opened = tt }

one_more : (b : List ℕ) (bs : List (List ℕ)) → is_open_part b ≡ true → EndsOnce bs → EndsOnce (b ∷ bs)
one_more b bs opened e = record { opens = b ∷ e.opens; last = e.last; is = ap (λ (l : List (List ℕ)). b ∷ l) e.is; opened = (opened, e.opened) }

cut_by_ends : (n : ℕ) (b : Bool) (bytes : List ℕ) (others : List (List ℕ)) → EndsOnce others → EndsOnce (cut_by n b bytes others)
cut_by_ends n true bytes others e = one_more _ others refl e
cut_by_ends n false bytes others e = one _

cut_ends : (n k : ℕ) (bytes : List ℕ) → EndsOnce (cut_parts n k bytes)
cut_ends n zero bytes = one _
cut_ends n (suc k) bytes =
    subst EndsOnce (sym (cut_step n k bytes)) (cut_by_ends n (ltb n (length bytes)) bytes (cut_parts n k (drop n bytes)) (cut_ends n k (drop n bytes)))

pub bodies_end : (bytes : List ℕ) → EndsOnce (message_bodies bytes)
bodies_end bytes = by (ltb LONGEST_BODY (length bytes))
  where
    by : (b : Bool) → EndsOnce (cond b (parts bytes) (bytes ∷ []))
    by true = cut_ends _ (length bytes) bytes
    by false = one bytes

-- ---- what a part that others follow is answered

open_judged : (bad long opened : Bool) (n : ℕ) (other : Answer) (m : Message) → opened ≡ true
    → cond bad (Err BadPart) (cond long (Err (TooLong n)) (cond opened (Ok None) other)) ≡ some m → ⊥
open_judged true long opened n other m is e = absurd cc
open_judged false true opened n other m is e = absurd cc
open_judged false false true n other m is e = absurd cc
open_judged false false false n other m is e = absurd cc

open_answered : (o : Option JoinFault) (held body : List ℕ) (m : Message) → is_open_part body ≡ true → answer_by o (judged_body held body) ≡ some m → ⊥
open_answered (Some e) held body m opened is = absurd cc
open_answered None held body m opened is =
    open_judged (is_bad (length held) body) _ (is_open_part body) _ (some_of (message_of (held ++ content body))) m opened is

ok_or_err : (m : Message) (e : JoinFault) → failed e ≡ some m → ⊥
ok_or_err m e is = absurd cc

-- it isn't answered by a fault where a message comes of it and those after it, and neither by a message
pub open_goes_on : (j : Joining) (body : List ℕ) (more : List (List ℕ)) (m : Message) → is_open_part body ≡ true
    → last_answer (after_by j.held (content body) (join_answer j body)) (join_answer j body) more ≡ some m → join_answer j body ≡ none
open_goes_on j body more m opened ends = by (join_answer j body) refl
  where
    by : (r : Answer) → join_answer j body ≡ r → join_answer j body ≡ none
    by (Ok None) is = is
    by (Ok (Some y)) is = absurd (open_answered j.fault j.held body y opened is)
    by (Err e) is =
        absurd (ok_or_err m e (sym (fault_stays j.held e more) ∙ sym (ap (λ (r : Answer). last_answer (after_by j.held (content body) r) r more) is) ∙ ends))
