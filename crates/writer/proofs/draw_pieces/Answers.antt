-- The zone is drawn from `to` on (`PiecesDrawn`).
use Prim.Native.Nat.{◌-◌, ◌<◌}
use mathlib.Core.Path.{◌≡◌, ◌∙◌}
use mathlib.Core.List.{[], ◌∷◌, ◌++◌}
use native.Mathlib.Omega.{arith}
use lib.ListN.{length, get_or}
use Rattle.std.proofs.lemmas.List.{length_push}
use Rattle.std.proofs.lemmas.Iterator.Adapters.{YieldsList-from_rev_slice}
use Rattle.std.proofs.lemmas.Iterator.Consumers.{YieldsList-turn, YieldsList-end}
use Rattle.bits.proofs.Bytes.{all_bytes}
use Rattle.writer.proofs.PiecesDrawn.{from_last, none_more, same_size, reaches, last_gap, piece_fits, gap_fits, fragment_fits, draw_turn}
use Rattle.writer.proofs.draw_pieces.Goals as goal
use Rattle.writer.proofs.draw_pieces.Goals.{In-Some}

abbrev Turn : In-Some → Type 0
Turn c =
    let x = c.in-Some.piece.now in
    let i = length c.args.pieces.now - length c.loop-piece.yielded in (0 < i) × (x ≡ get_or c.args.pieces.now (i - 1) x)

turn : (c : In-Some) → Turn c
turn c =
    from_last c.args.pieces.now (length c.loop-piece.yielded) c.in-Some.piece.now
    (YieldsList-turn (YieldsList-from_rev_slice c.args.pieces.now cc) c.loop-piece.yielded _ c.loop-piece.yielded_by _ _ c.in-Some.piece c.in-Some.is c.next.ensures.steps)

pub overflow_add-at : goal.overflow_add-at
overflow_add-at c =
    let t = turn (goal.at.overflow_add-at c).In-Some in
    let f = piece_fits c.requires (reaches c.requires) c.loop-piece.invariant t.0 t.1 c.block_bit-at.ensures in
    omega (arith, f.0, f.1)

pub draw_gap-next-requires : goal.draw_gap-next-requires
draw_gap-next-requires c =
    let t = turn (goal.at.draw_gap-next-requires c).In-Some in
    gap_fits (same_size c.loop-piece.block c.loop-piece.auto.block c.requires) (reaches c.requires) c.loop-piece.invariant t.0 t.1 c.block_bit-at.ensures

pub write_fragment-requires : goal.write_fragment-requires
write_fragment-requires c =
    let t = turn (goal.at.write_fragment-requires c).In-Some in
    fragment_fits (same_size c.draw_gap-next.new.block (c.draw_gap-next.auto.block ∙ c.loop-piece.auto.block) c.requires) (reaches c.requires) c.loop-piece.invariant t.0 t.1 c.block_bit-at.ensures

pub loop-piece-preserved : goal.loop-piece-preserved
loop-piece-preserved c =
    let t = turn (goal.at.loop-piece-preserved c).In-Some in
    let d = draw_turn c.requires (reaches c.requires) c.loop-piece.invariant t.0 t.1 c.block_bit-at.ensures c.draw_gap-next.ensures c.write_fragment.ensures in
    let e : length c.args.pieces.now - length (c.loop-piece.yielded ++ c.in-Some.piece ∷ []) ≡ length c.args.pieces.now - length c.loop-piece.yielded - 1 = omega (arith, length_push c.loop-piece.yielded c.in-Some.piece) in
    rw e d

pub returns-clause-bits : goal.returns-clause-bits
returns-clause-bits c =
    let e = YieldsList-end (YieldsList-from_rev_slice c.args.pieces.now cc) c.loop-piece.yielded _ c.loop-piece.yielded_by _ _ c.in-None.is c.next.ensures.steps in
    last_gap c.requires (reaches c.requires) c.loop-piece.invariant (none_more c.args.pieces.now (length c.loop-piece.yielded) e.1) c.zone_first-start.ensures.0 c.draw_gap.ensures

pub returns-clause-bytes : goal.returns-clause-bytes
returns-clause-bytes c = all_bytes c.draw_gap.new.block (λ j. (c.type_inv.block j).fits)
