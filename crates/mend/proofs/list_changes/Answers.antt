-- The positions in the zones below z are listed (`PositionsListed`).
use mathlib.Core.Path.{◌≡◌, refl, ap, ◌∙◌}
use mathlib.Core.List.{List}
use Prim.Native.Nat.{ℕ, ◌+◌, ◌*◌}
use native.Mathlib.Omega.{arith}
use lib.ListN.{length, drop, length-append, length-drop}
use lib.Seq.{sets, length-take-le}
use Rattle.model.specs.Rules.{zone_block}
use Rattle.walk.proofs.ZonesRead.{reads_on}
use Rattle.mended.specs.Mended.{mended, differ_from}
use Rattle.mend.proofs.ZonesInTurn.{zone_mend, zone_mended}
use Rattle.mend.proofs.PositionsListed.{positions_start, differing_asks, positions_turn, positions_end}
use Rattle.mend.proofs.list_changes.Goals as goal
use Rattle.mend.proofs.list_changes.Goals.{After-mended_block}

pub loop-z-init : goal.loop-z-init
loop-z-init c = let a = c.args in (refl, refl, positions_start a.g a.map.now a.list.now)

pub mended_block-requires : goal.mended_block-requires
mended_block-requires c =
    let ok = c.requires.readable.numbers in (
      zone_mend c.requires c.cross_lack-lack.ensures.bytes c.args.map.now c.loop-z.z refl c.loop-z-test.true
          (reads_on c.requires.readable c.loop-z.z (omega arith)) (omega (arith, c.loop-z.invariant.0)),
      length-take-le c.args.g.sector c.loop-z.block (omega (arith, c.loop-z.invariant.1, ok.sector_high)),
    )

-- what was drawn is the mended map's block
drawn : (c : After-mended_block) → c.mended_block.new.block ≡ zone_block c.args.g (mended c.args.map.now) c.loop-z.z
drawn c =
    c.mended_block.ensures
    ∙ zone_mended c.requires c.cross_lack-lack.ensures.bytes c.args.map.now c.loop-z.z refl c.loop-z-test.true c.cross_lack-lack.ensures.lack c.change_of.ensures

pub list_differing-n-requires : goal.list_differing-n-requires
list_differing-n-requires c =
    rw c.block.ensures
    (differing_asks c.requires c.cross_lack-lack.ensures.bytes c.loop-z.invariant.2 c.loop-z-test.true (drawn (goal.at.list_differing-n-requires c).After-mended_block))

pub loop-z-preserved : goal.loop-z-preserved
loop-z-preserved c =
    let b = c.mended_block.new.block in
    let k = c.loop-z.z * c.args.g.sector in (
      c.mended_block.auto.pieces ∙ c.loop-z.invariant.0,
      omega (
        arith,
        length-append b (drop c.args.g.sector c.loop-z.block),
        length-drop c.args.g.sector c.loop-z.block,
        c.mended_block.auto.block ∙ length-take-le c.args.g.sector c.loop-z.block (omega (arith, c.loop-z.invariant.1, c.requires.readable.numbers.sector_high)),
        c.loop-z.invariant.1,
        c.requires.readable.numbers.sector_high,
      ),
      positions_turn c.requires c.cross_lack-lack.ensures.bytes c.loop-z.invariant.2 c.loop-z-test.true (drawn (goal.at.loop-z-preserved c).After-mended_block)
          (c.list_differing-n.ensures.list ∙ ap (λ (x : List ℕ). sets c.loop-z.list c.loop-z.n (differ_from k x b)) c.block.ensures)
          (c.list_differing-n.ensures.next ∙ ap (λ (x : List ℕ). c.loop-z.n + length (differ_from k x b)) c.block.ensures),
    )

pub returns : goal.returns
returns c = positions_end c.requires c.cross_lack-lack.ensures.bytes c.loop-z.invariant.2 (omega arith)
