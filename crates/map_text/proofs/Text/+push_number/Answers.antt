-- The digits of the tenth part, then the last digit.
use Rattle.std.proofs.Common.{◌/◌, arith, sym}
use Rattle.map_text.proofs.Digits.{short, last_alone, last_after}
use Rattle.map_text.proofs.Added.{adds_then, adds_as}
use Rattle.map_text.proofs.Text.+push_number.Goals as goal
use Rattle.map_text.proofs.Text.+push_number.Goals.{then-x-ge10, else-x-ge10}

pub push-requires : goal.push-requires
push-requires t c =
    elim c.if-x-ge10.branch [
      | then-x-ge10 w ↦ rw w.self-is (omega (arith, short 9 (c.args.x / 10) (omega arith) (omega arith)))
      | else-x-ge10 w ↦ rw w.self-is (omega arith)
    ]

pub returns : goal.returns
returns t c = elim c.if-x-ge10.branch [
  | then-x-ge10 w ↦ adds_as (sym (last_after c.args.x w.if-x-ge10.true)) (adds_then w.push_number.ensures (rw w.self-is at c.push.ensures))
  | else-x-ge10 w ↦ adds_as (sym (last_alone c.args.x w.if-x-ge10.false)) (rw w.self-is at c.push.ensures)
]
