-- The sum of the cross checks, exclusive-ored with 255.
use mathlib.Core.Path.{ap}
use Prim.Native.Nat.{ℕ}
use lib.Bits.{bit_xor}
use Rattle.bits.proofs.Bytes.{all_bytes}
use Rattle.mend.proofs.cross_lack.Goals as goal

pub returns : goal.returns
returns c =
    record {
      lack = ap (λ (x : ℕ). bit_xor x 255) c.cross_checks.ensures;
      bytes = all_bytes c.args.map.now (λ j. (c.type_inv.map j).fits);
    }
