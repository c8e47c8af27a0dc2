-- A shift of 1 by at most 19 places stays within 64 bits.
use Prim.Native.Nat.{◌^◌, ◌<◌, ◌≤◌}
use native.Mathlib.Omega.{arith}
use lib.Pow.{pow_mono, pow_pos}
use Rattle.bits.proofs.Words.{one_shifted}
use Rattle.geometry.proofs.power.Goals as goal

pub returns : goal.returns
returns c =
    let n = c.args.n in
    let h : 2 ^ n ≤ 2 ^ 19 = pow_mono c.requires in
    let l : 0 < 2 ^ n = pow_pos n in
    (one_shifted n (omega arith), omega (arith, one_shifted n (omega arith)), omega (arith, one_shifted n (omega arith)))
