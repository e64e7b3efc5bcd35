use Rattle.std.proofs.Common.{ℕ, List, ◌++◌, arith}
use Rattle.spl_sched.specs.Transactions.{prefix_word}
use Rattle.spl_sched.proofs.transaction.put_prefixes.Goals as goal
use Rattle.spl_words.proofs.Items.{word_put, some_item}

pub loop-i-preserved : goal.loop-i-preserved
loop-i-preserved c =
    word_put (λ (p : List ℕ). c.args.keyword.now
    ++ prefix_word.spell p) c.args.w.now c.loop-i.w c.put_prefix.new.w c.args.prefixes.now c.loop-i.i c.in-Some.prefix.now
    c.in-Some.ensures c.loop-i.invariant c.in_ok-put_prefix.ensures

pub returns-in_default : goal.returns-in_default
returns-in_default c = absurd (some_item c.args.prefixes.now c.loop-i.i c.in_default.ensures (omega (arith, c.loop-i-test.true, c.len-i-end.ensures)))
