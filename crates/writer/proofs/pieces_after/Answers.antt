-- The pieces that stay, or these with the pairs merged in (`ZonePieces`).
use Prim.Native.Nat.{◌+◌, ◌/◌, ◌≤◌}
use mathlib.Core.Path.{◌≡◌, ap, ◌∙◌}
use native.Mathlib.Omega.{arith}
use lib.ListN.{length, drop}
use lib.Seq.{take_at, length-take-le}
use Rattle.writer.specs.Listed.{as_pieces}
use Rattle.writer.proofs.ZonePieces.{some_come}
use Rattle.writer.proofs.pieces_after.Goals as goal

pub returns-clause-pieces : goal.returns-clause-pieces
returns-clause-pieces c =
    let q = c.requires in
    let old = c.staying-n.new.buffer in
    let new = c.merge_pairs.new.pieces in
    let end = c.staying-n.result + length c.args.list.now / 2 in
    let room : end ≤ length old = omega (arith, q.fits, c.staying-n.ensures.few, c.staying-n.auto.buffer) in
    let sized : length new ≡ end = c.merge_pairs.auto.pieces ∙ length-take-le end old room in
    ap as_pieces (take_at new (drop end old) end sized) ∙ some_come q c.args.gone c.if-id-eq0.false old c.staying-n.result room c.staying-n.ensures.pieces new c.merge_pairs.ensures
