-- A word of zeros more.
use native.Mathlib.Omega.{arith}
use borrow.Author.Rules.{rules}
use Rattle.bits.proofs.Words.{zero_word}
use Rattle.bits.proofs.zero_words.Goals as goal

pub loop-n-preserved : goal.loop-n-preserved
loop-n-preserved c =
    let a = c.args in
    omega (arith, zero_word a.s.now a.j c.loop-n.n a.end (c.requires.2 (omega arith)) (omega arith) (omega arith) (search rules))
