-- The bytes that are written are the record's.
use mathlib.Core.Path.{◌∙◌, ap}
use mathlib.Core.List.{List, [], ◌∷◌}
use Prim.Native.Nat.{ℕ}
use lib.ListN.{length, get_or}
use Rattle.format.proofs.RecordWritten.{record_put_law}
use Rattle.format.proofs.write_record.Goals as goal

pub returns : goal.returns
returns c =
    let q = c.requires in
    record_put_law c.args.r (length c.args.map.now) q.2 q.4 (c.fill.ensures.after (λ y h. h)) (cc)
    (c.copy_from_slice-2.ensures.after ∙ ap (λ (bs : List ℕ). get_or bs 0 0 ∷ get_or bs 1 0 ∷ get_or bs 2 0 ∷ get_or bs 3 0 ∷ []) c.to_le_bytes-2.ensures)
