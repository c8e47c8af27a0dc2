-- The positions of the first i bytes are listed (`Differences`).
use mathlib.Core.Path.{◌∙◌}
use lib.ListN.{get_or}
use native.Mathlib.Omega.{arith}
use borrow.Author.Tests.{eq-eqb, ne_eqb}
use Rattle.mend.proofs.Differences.{listed_few, listed_whole, byte_kept, byte_put}
use Rattle.mend.proofs.list_differing.Goals as goal
use Rattle.mend.proofs.list_differing.Goals.{then-old-i, else-old-i}

pub put-k-requires : goal.put-k-requires
put-k-requires c =
    let few = listed_few c.args.old.now c.args.new.now c.loop-i.invariant c.requires.0 (omega arith) in
    (omega (arith, c.requires.1), omega (arith, c.requires.1, c.requires.2, few))

pub loop-i-preserved : goal.loop-i-preserved
loop-i-preserved c =
    let a = c.args in
    let i = c.loop-i.i in
    elim c.if-old-i.branch [
      | then-old-i w ↦
          byte_put a.old.now a.new.now c.loop-i.invariant c.requires.0 c.loop-i-test.true (ne_eqb (get_or a.old.now i 0) (get_or a.new.now i 0) w.if-old-i.true) (w.list-is ∙ w.put-k.ensures.list) (w.k-is ∙ w.put-k.ensures.next)
      | else-old-i w ↦
          rw (w.list-is, w.k-is) (byte_kept a.old.now a.new.now c.loop-i.invariant c.requires.0 c.loop-i-test.true (eq-eqb (get_or a.old.now i 0) (get_or a.new.now i 0) w.if-old-i.false))
    ]

pub returns : goal.returns
returns c =
    let w = listed_whole c.args.old.now c.args.new.now c.loop-i.invariant c.requires.0 (omega arith) in
    record { list = w.stored; next = w.next }
