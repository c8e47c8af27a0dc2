-- The refusal 17, or the pieces on the one side of the id's start zone stored, and then those on the other.
use native.Mathlib.Omega.{arith}
use Rattle.claim.proofs.TakenListed.{rest_small, few_for_several, late_fits, early_fits, pieces_listed}
use Rattle.claim.proofs.list_several.Goals as goal

pub count_pieces-n-requires : goal.count_pieces-n-requires
count_pieces-n-requires c =
    (c.requires.0.accepted, rest_small c.requires.0 c.requires.2 c.find_threshold-t.ensures)

pub returns-then-list-n : goal.returns-then-list-n
returns-then-list-n c =
    few_for_several c.requires.0 c.requires.2 c.find_threshold-t.ensures c.args.id c.requires.1 c.args.list.now c.count_pieces-n.ensures (omega (arith, c.if-list-n.true)) c.into.ensures

pub write_pieces-at-requires : goal.write_pieces-at-requires
write_pieces-at-requires c = (
  c.requires.0.accepted,
  rest_small c.requires.0 c.requires.2 c.find_threshold-t.ensures,
  late_fits c.requires.0 c.requires.2 c.find_threshold-t.ensures c.args.id c.requires.1 c.args.list.now c.count_pieces-n.ensures (omega (arith, c.if-list-n.false)),
)

pub write_pieces-requires : goal.write_pieces-requires
write_pieces-requires c = (
  c.requires.0.accepted,
  rest_small c.requires.0 c.requires.2 c.find_threshold-t.ensures,
  early_fits c.requires.0 c.requires.2 c.find_threshold-t.ensures c.args.id c.requires.1 c.args.list.now c.count_pieces-n.ensures c.if-list-n.false
      c.write_pieces-at.new.pairs c.write_pieces-at.auto.pairs c.write_pieces-at.ensures.next,
)

pub returns : goal.returns
returns c =
    pieces_listed c.requires.0 c.requires.2 c.find_threshold-t.ensures c.args.id c.requires.1 c.args.list.now c.count_pieces-n.ensures c.if-list-n.false
    c.write_pieces-at.ensures.list c.write_pieces-at.ensures.next c.write_pieces.ensures.list
