-- A word of eight bytes is two of four.
use Rattle.bits.proofs.Words.{words_joined}
use Rattle.bits.proofs.whole_word.Goals as goal

pub returns : goal.returns
returns c =
    let s = c.args.s.now in
    let low = c.word32 in
    let high = c.word32-2 in
    words_joined s (λ j. (c.type_inv.s j).fits) c.args.i low.result high.result low.ensures.1 high.ensures.1 low.ensures.0 high.ensures.0
