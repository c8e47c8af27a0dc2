-- The bits that are left after the window's ids were cleared are the unused ids.
use Prim.Native.Nat.{ℕ}
use mathlib.Core.Path.{◌∙◌}
use native.Mathlib.Omega.{arith}
use lib.ListN.{length-replicate}
use Rattle.claim.proofs.LowestFound.{unused_found}
use Rattle.claim.proofs.unused_in.Goals as goal

pub returns : goal.returns
returns c =
    c.then_some.ensures
    ∙ unused_found c.requires.0 c.requires.1 c.clear_used.new.unused c.clear_used.ensures (omega (arith, c.clear_used.auto.unused, length-replicate {A = ℕ} 16384 255))
    c.zero_run.result c.zero_run.ensures.0 c.zero_run.ensures.1
