-- A map that was read, test by test: as the mender reads it, its record and its length are right and its zones are read; and one that the
-- check accepts is so read, and its zone checks and cross checks are right besides.
use mathlib.Core.Path.{◌≡◌, refl}
use mathlib.Core.Bool.{Bool, true, false}
use mathlib.Core.List.{List, ◌∷◌}
use mathlib.Core.Option.{Option, none, some}
use Prim.Native.Nat.{ℕ, suc, ◌*◌}
use lib.Dec.{eqb, leb}
use lib.ListN.{length}
use borrow.Author.Tests.{eqb-true}
use Rattle.geometry.specs.declared.Geometry.{Geometry}
use Rattle.geometry.specs.Record.{disc_record, geometry_of}
use Rattle.geometry.specs.Ranges.{record_fits}
use Rattle.model.specs.Answer.{Answer, refused, answered, unless}
use Rattle.model.specs.Chain.{Entry}
use Rattle.model.specs.Check.{join_zone, zone_read, zones_read, differing, cross_sum, after_checks, blocks_read, blocks_of, length_fits, measured, map_read, mend_read}
use Rattle.model.proofs.LinesJudged.{not_answered, same_answer}

if_passed : (b : Bool) (n : ℕ) (r : Answer (List (List Entry))) (ess : List (List Entry)) → unless b n r ≡ answered ess → (b ≡ true) × (r ≡ answered ess)
if_passed true n r ess e = (refl, e)
if_passed false n r ess e = absurd (not_answered e)

if_checked : (o : Option ℕ) (r : Answer (List (List Entry))) (ess : List (List Entry)) → after_checks o r ≡ answered ess → (o ≡ none) × (r ≡ answered ess)
if_checked none r ess e = (refl, e)
if_checked (some z) r ess e = absurd (not_answered e)

-- a zone and those after it: each was read
pub zone_and_rest : (g : Geometry) (z : ℕ) (b : List ℕ) (bs : List (List ℕ)) (ess : List (List Entry)) → zones_read g z (b ∷ bs) ≡ answered ess
    → (es : List Entry) × (ds : List (List Entry)) × (zone_read g z b ≡ answered es) × (zones_read g (suc z) bs ≡ answered ds) × (es ∷ ds ≡ ess)
zone_and_rest g z b bs ess h = go (zone_read g z b) refl (zones_read g (suc z) bs) refl h
  where
    go : (v : Answer (List Entry)) → zone_read g z b ≡ v → (q : Answer (List (List Entry))) → zones_read g (suc z) bs ≡ q → join_zone v q ≡ answered ess
        → (es : List Entry) × (ds : List (List Entry)) × (zone_read g z b ≡ answered es) × (zones_read g (suc z) bs ≡ answered ds) × (es ∷ ds ≡ ess)
    go (refused n a) e q f h = absurd (not_answered h)
    go (answered es) e (refused n a) f h = absurd (not_answered h)
    go (answered es) e (answered ds) f h = (es, ds, e, f, same_answer h)

-- the tests before the blocks, and what follows them
record Passed (m : List ℕ) (r : Answer (List (List Entry))) (ess : List (List Entry)) : Type 0 where
  long : leb 64 (length m) ≡ true
  record_fits_law : record_fits (disc_record m) ≡ true
  length_fits_law : length_fits (geometry_of m) m ≡ true
  rest : r ≡ answered ess

passed : (m : List ℕ) (r : Answer (List (List Entry))) (ess : List (List Entry)) → measured m r ≡ answered ess → Passed m r ess
passed m r ess e =
    let a = if_passed (leb 64 (length m)) 1 (unless (record_fits (disc_record m)) 2 (unless (length_fits (geometry_of m) m) 1 r)) ess e in
    let b = if_passed (record_fits (disc_record m)) 2 (unless (length_fits (geometry_of m) m) 1 r) ess a.1 in
    let c = if_passed (length_fits (geometry_of m) m) 1 r ess b.1 in
    record { long = a.0; record_fits_law = b.0; length_fits_law = c.0; rest = c.1 }

pub record ReadTests (m : List ℕ) (ess : List (List Entry)) : Type 0 where
  pub record_fits_law : record_fits (disc_record m) ≡ true
  pub whole : length m ≡ (geometry_of m).zones * (geometry_of m).sector
  pub zones : zones_read (geometry_of m) 0 (blocks_of (geometry_of m) m) ≡ answered ess

pub read_tests : (m : List ℕ) (ess : List (List Entry)) → mend_read m ≡ answered ess → ReadTests m ess
read_tests m ess e =
    let g = geometry_of m in
    let k = passed m (zones_read g 0 (blocks_of g m)) ess e in
    record { record_fits_law = k.record_fits_law; whole = eqb-true (length m) (g.zones * g.sector) k.length_fits_law; zones = k.rest }

pub record AcceptedTests (m : List ℕ) (ess : List (List Entry)) : Type 0 where
  pub checks : differing 0 (blocks_of (geometry_of m) m) ≡ none
  pub sum : cross_sum (blocks_of (geometry_of m) m) ≡ 255
  pub read : mend_read m ≡ answered ess

pub accepted_tests : (m : List ℕ) (ess : List (List Entry)) → map_read m ≡ answered ess → AcceptedTests m ess
accepted_tests m ess e =
    let g = geometry_of m in
    let bs = blocks_of g m in
    let k = passed m (blocks_read g bs) ess e in
    let c = if_checked (differing 0 bs) (unless (eqb (cross_sum bs) 255) 4 (zones_read g 0 bs)) ess k.rest in
    let d = if_passed (eqb (cross_sum bs) 255) 4 (zones_read g 0 bs) ess c.1 in
    record { checks = c.0; sum = eqb-true (cross_sum bs) 255 d.0; read = rw (k.long, k.record_fits_law, k.length_fits_law) d.1 }
