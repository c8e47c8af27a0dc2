-- What is left of the word is the number of the bits from j on.
use Rattle.bits.proofs.Words.{word_from}
use borrow.Author.Rules.{rules}
use Rattle.bits.proofs.word_from.Goals as goal

pub returns : goal.returns
returns c = let a = c.args in word_from a.s.now a.j c.word64.result (search rules) c.word64.ensures
