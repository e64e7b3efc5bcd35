-- What an end said, frame after frame, is what all bytes that came say to it.
use Rattle.std.proofs.Common.{◌≡◌, ℕ, List, [], ◌∷◌, ◌++◌, Result, Ok, refl, sym, ap, ◌∙◌, append_assoc, append-nil}
use Rattle.spl_frame.{specs.Frames.frames_of, proofs.Hearing.first_frame_stays}
use Rattle.spl_registry.specs.Nodes.{Entry}
use Rattle.spl_talk.specs.{Talks.{End, HearsFrame, Talking}, Connections.{HasSaid, before, before_all, hears}, declared.fault.TalkFault.TalkFault}
use Rattle.spl_talk.{specs.declared.spoken.Spoken.Spoken, proofs.Hearing.hears_first}

abbrev Heard : Type 0
Heard = Result (List Spoken) TalkFault

pub said_more : (es : List Entry) (start : End) (came piece : List ℕ) (said : List Spoken) (end : End) (bytes : List ℕ)
    → HasSaid es start came said (record { end = end; bytes = bytes }) → HasSaid es start (came ++ piece) said (record { end = end; bytes = bytes ++ piece })
said_more es start came piece said end bytes h more =
    ap (λ (l : List ℕ). hears es start (frames_of l)) (append_assoc came piece more)
    ∙ h (piece ++ more)
    ∙ sym (ap (λ (l : List ℕ). before_all said (hears es end (frames_of l))) (append_assoc bytes piece more))

before_last : (said : List Spoken) (s : Spoken) (r : Heard) → before_all (said ++ s ∷ []) r ≡ before_all said (before s r)
before_last [] s r = refl
before_last (x ∷ said) s r = ap (before x) (before_last said s r)

pub said_next : (es : List Entry) (start : End) (came : List ℕ) (said : List Spoken) (old new : Talking) (s : Spoken)
    → HasSaid es start came said old → HearsFrame es old s new → HasSaid es start came (said ++ s ∷ []) new
said_next es start came said old new s h next more =
    h more
    ∙ ap (before_all said) (ap (λ t. hears es old.end t.frames) (first_frame_stays old.bytes new.bytes next.body more next.first)
    ∙ hears_first es old.end next.body (frames_of (new.bytes ++ more)) s next.says
    ∙ ap (λ (e : End). before s (hears es e (frames_of (new.bytes ++ more)))) (sym next.end))
    ∙ sym (before_last said s (hears es new.end (frames_of (new.bytes ++ more))))

pub said_all : (es : List Entry) (start : End) (came : List ℕ) (said : List Spoken) (t : Talking) → HasSaid es start came said t → frames_of t.bytes ≡ []
    → hears es start (frames_of came) ≡ Ok said
said_all es start came said t h none =
    ap (λ (l : List ℕ). hears es start (frames_of l)) (sym (append-nil came))
    ∙ h []
    ∙ ap (λ (l : List ℕ). before_all said (hears es t.end (frames_of l))) (append-nil t.bytes)
    ∙ ap (λ (fs : List (List ℕ)). before_all said (hears es t.end fs)) none
    ∙ before_none said
  where
    before_none : (said : List Spoken) → before_all said (Ok []) ≡ Ok said
    before_none [] = refl
    before_none (x ∷ said) = ap (before x) (before_none said)
