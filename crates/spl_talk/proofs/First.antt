-- The fault of the first whole frame.
use Rattle.std.{specs.{Prelude.{IfErr, IsErr}, Result.IsErrAnd}, proofs.Common.{◌≡◌, ◌≢◌, ℕ, List, Option, Result, Ok, Err, sym, ap, subst, ◌∙◌}}
use Rattle.spl_frame.specs.Frames.{frames_of, stream_of}
use Rattle.spl_frame.specs.Frames as frames
use Rattle.spl_registry.specs.Nodes.{Entry}
use Rattle.spl_talk.specs.{Talks.{End, FrameFails, Talking, says}, declared.{fault.TalkFault.{TalkFault, TheVariants.NoMemory}, spoken.Spoken.Spoken}}

abbrev failed : TalkFault → Result Spoken TalkFault
failed e = Err e

same_fault : (e f : TalkFault) → failed e ≡ failed f → e ≡ f
same_fault e f is = cc

-- a fault that is passed on
pub err_has : (r : Result (Option Spoken) TalkFault) (e : TalkFault) (P : TalkFault → Type 0) → IsErr r × IsErrAnd r (λ y. y ≡ e) → P e → IfErr r P
err_has (Ok x) e P is p = tt
err_has (Err y) e P is p = subst P (sym is.1) p

pub first_fails : (es : List Entry) (old : Talking) (end : End) (bytes left body heard : List ℕ) (e : TalkFault) → record { end = end; bytes = bytes } ≡ old
    → stream_of bytes ≡ frames.after body (stream_of left) → heard ≡ body → ((failed e ≢ failed NoMemory) → failed e ≡ says es end heard) → e ≢ NoMemory
    → FrameFails es old e
first_fails es old end bytes left body heard e view first same told known =
    subst (λ (t : Talking). FrameFails es t e) view
    (body, frames_of left, ap (λ s. s.frames) first, ap (says es end) (sym same) ∙ sym (told (λ k. known (same_fault e NoMemory k))))
