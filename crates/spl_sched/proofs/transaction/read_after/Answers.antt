use Rattle.std.{specs.{Str.bytes_eq, Prelude.codes}, proofs.Common.{◌≡◌, true, List, [], ◌∷◌, ◌++◌, ℕ, Option, sym, ap, ◌∙◌}}
use Rattle.spl_command.specs.declared.batch.Transaction.{Transaction}
use Rattle.spl_sched.specs.Transactions.{no_parts, read_open}
use Rattle.spl_sched.proofs.transaction.read_after.Goals as goal
use Rattle.spl_words.proofs.Items.{with_prefix, moved}

-- the word that ends a transaction begins one without parts
opened : (done now : List Transaction) (ended begun : Transaction) (word : List ℕ) (words : List (List ℕ)) (all : Option (List Transaction))
    → bytes_eq word (codes "tx") ≡ true → now ≡ done ++ ended ∷ [] → begun ≡ no_parts
    → with_prefix done (read_open ended (word ∷ words)) ≡ all → with_prefix now (read_open begun words) ≡ all
opened done now ended begun word words all tx more fresh h =
    let one : with_prefix done (read_open ended (word ∷ words)) ≡ with_prefix (done ++ ended ∷ []) (read_open no_parts words) =
    rw tx (moved done ended (read_open no_parts words)) in
    ap (λ (xs : List Transaction). with_prefix xs (read_open begun words)) more
    ∙ (ap (λ (t : Transaction). with_prefix (done ++ ended ∷ []) (read_open t words)) fresh ∙ (sym one ∙ h))

pub loop-word-preserved-then-is_text : goal.loop-word-preserved-then-is_text
loop-word-preserved-then-is_text c =
    opened c.loop-word.done c.push.new.self c.loop-word.open c.in_ok-open-2.open c.in-Some.word.now c.next.new.self _
    (sym c.is_text.ensures ∙ c.if-is_text.true) (c.in_ok-push.ensures.ok) (c.in_ok-open-2.ensures)
    (ap (λ (ws : List (List ℕ)). with_prefix c.loop-word.done (read_open c.loop-word.open ws)) (sym c.in-Some.ensures) ∙ c.loop-word.invariant)
