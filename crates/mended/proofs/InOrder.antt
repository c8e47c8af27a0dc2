-- Maps before and after: a refused one is left as it is, an accepted one shows the same, and one in order stays byte for byte, since its
-- cross checks lack nothing and it is what is written from its pieces. So mending twice is mending once.
use mathlib.Core.Path.{◌≡◌, refl, sym, ap, ◌∙◌, subst}
use mathlib.Core.List.{List, map}
use mathlib.Core.Logic.{◌↔◌}
use Prim.Native.Nat.{ℕ}
use Rattle.bits.specs.Bits.{Bytes}
use Rattle.checks.specs.Cross.{cross_of}
use Rattle.geometry.specs.Record.{geometry_of}
use Rattle.model.specs.Answer.{Answer, refused, answered}
use Rattle.model.specs.Chain.{Entry}
use Rattle.model.specs.Check.{blocks_of, map_read, mend_read}
use Rattle.model.specs.Pieces.{pieces_of_zones}
use Rattle.model.specs.Rules.{MapRules}
use Rattle.model.specs.Shown.{zones_in, zones_of, listed_on, spans_on}
use Rattle.model.proofs.MapJudged.{rules_accepted}
use Rattle.model.proofs.MapTests.{accepted_tests}
use Rattle.edits.specs.Editable.{Editable}
use Rattle.edits.specs.Room.{InSome}
use Rattle.edits.proofs.MapAccepted.{map_as_written}
use Rattle.edits.proofs.StepWritten.{written_map}
use Rattle.mended.specs.Mended.{mended_by, mended}
use Rattle.mended.proofs.CrossMended.{right_stay}
use Rattle.mended.proofs.MapMended.{mends}

pub refused_stays : (m : List ℕ) (n z : ℕ) → mend_read m ≡ refused n z → mended m ≡ m
refused_stays m n z e = ap (mended_by m) e

pub stays : (m : List ℕ) → Editable m → mended m ≡ m
stays m ed =
    let ess = zones_of m in
    let k = accepted_tests m ess ed.accepted in
    let c = right_stay (map cross_of (blocks_of (geometry_of m) m)) k.sum in
    ap (mended_by m) k.read
    ∙ ap (λ (cs : List ℕ). written_map (geometry_of m) m (record { pieces = pieces_of_zones (geometry_of m) 0 ess; cross = cs })) c
    ∙ map_as_written m ess ed.bytes ed.accepted ed.apart

pub twice : (m : List ℕ) → Bytes m → mended (mended m) ≡ mended m
twice m bytes = go (mend_read m) refl
  where
    go : (r : Answer (List (List Entry))) → mend_read m ≡ r → mended (mended m) ≡ mended m
    go (refused n z) e = ap mended (refused_stays m n z e)
    go (answered ess) e = stays (mended m) (mends m bytes ess e).in_order

pub only_in_order : (m : List ℕ) → Bytes m → (ess : List (List Entry)) → mend_read m ≡ answered ess → mended m ≡ m → Editable m
only_in_order m bytes ess e same = subst Editable same (mends m bytes ess e).in_order

-- an accepted map
module _ (m : List ℕ) (bytes : Bytes m) (w : MapRules m) where
  read : map_read m ≡ answered (zones_of m)
  read = let k = (rules_accepted m w).1 in k ∙ ap answered (sym (ap zones_in k))

  pub list_same : (id : ℕ) → listed_on (mended m) id ≡ listed_on m id
  list_same = (mends m bytes (zones_of m) (accepted_tests m (zones_of m) read).read).objects

  pub free_same : (d : ℕ) → InSome (spans_on (mended m)) d ↔ InSome (spans_on m) d
  free_same = (mends m bytes (zones_of m) (accepted_tests m (zones_of m) read).read).free_bits
