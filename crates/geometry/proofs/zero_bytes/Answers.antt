-- No bit is 1 where every byte is 0.
use mathlib.Core.Path.{ap, ◌∙◌}
use Prim.Native.Nat.{ℕ, ◌-◌, ◌*◌, ◌<◌}
use lib.Dec.{eqb}
use lib.ListN.{get_or}
use borrow.Author.Rules.{rules}
use Rattle.geometry.proofs.ZeroBytes.{bits_zero}
use Rattle.geometry.proofs.zero_bytes.Goals as goal

pub returns : goal.returns
returns c =
    let a = c.args in
    let bytes : (j : ℕ) → get_or a.r.now j 0 < 256 = λ j. (c.type_inv.r j).fits in
    ap (λ (x : ℕ). eqb x (8 * (a.end - a.from))) c.zero_run.ensures.0 ∙ bits_zero a.r.now bytes a.end (search rules) a.from (search rules)
