-- From the last zone down, the sum so far is that of the blocks from zone z on.
use mathlib.Core.Path.{ap, ◌∙◌}
use Prim.Native.Nat.{ℕ}
use native.Mathlib.Omega.{arith}
use lib.Bits.{bit_xor}
use Rattle.checks.specs.Cross.{cross_of}
use Rattle.map.proofs.ChecksByZone.{cross_turn}
use Rattle.map.proofs.cross_checks.Goals as goal

pub loop-z-preserved : goal.loop-z-preserved
loop-z-preserved c =
    let a = c.args in
    ap (λ (y : ℕ). bit_xor y c.loop-z.sum) (c.cross_check-sum.ensures ∙ ap cross_of c.block.ensures)
    ∙ cross_turn a.map.now a.g.zones a.g.sector c.loop-z.z c.loop-z.sum (omega arith) (omega arith) c.loop-z.invariant
