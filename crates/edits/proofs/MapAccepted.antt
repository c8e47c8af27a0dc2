-- An accepted map: its pieces and cross checks are accepted ones, and where no two free fragments touch it is what is written from them. The check is taken apart into its tests, and those of the zones into what each zone is found to be.
use mathlib.Core.Path.{◌≡◌, refl, sym, ap, ◌∙◌, subst, subst⁻¹}
use mathlib.Core.Bool.{true, false}
use mathlib.Core.List.{List, [], ◌∷◌}
use mathlib.Core.Option.{none}
use Prim.Native.Nat.{ℕ, suc}
use native.Mathlib.Omega.{arith}
use lib.Dec.{eqb}
use lib.ListN.{length, get_or, length-map}
use borrow.Author.Tests.{eqb-true}
use Rattle.bits.specs.Bits.{Bytes}
use Rattle.bits.proofs.Tests.{by_test}
use Rattle.checks.specs.Words.{zone_check}
use Rattle.checks.specs.Cross.{cross_of}
use Rattle.geometry.specs.declared.Geometry.{Geometry}
use Rattle.geometry.specs.Record.{disc_record, geometry_of}
use Rattle.geometry.specs.Accepted.{AcceptedGeometry}
use Rattle.geometry.proofs.Numbers.{test_gives_accepted}
use Rattle.model.specs.Chain.{Entry, none_touch, touching}
use Rattle.model.specs.Blocks.{flat}
use Rattle.model.specs.Pieces.{pieces_of_zones}
use Rattle.model.specs.Answer.{answered}
use Rattle.model.specs.Check.{zones_read, differing, blocks_of, map_read, mend_read}
use Rattle.model.proofs.Options.{none_some}
use Rattle.model.proofs.LinesJudged.{same_answer}
use Rattle.model.proofs.MapTests.{zone_and_rest, ReadTests, read_tests, AcceptedTests, accepted_tests}
use Rattle.edits.specs.Steps.{disc_of}
use Rattle.edits.proofs.Slices.{Sized, EachBytes, flat_blocks, sized_blocks, length_blocks, each_bytes}
use Rattle.edits.proofs.ZoneFound.{pieces_read, zone_found}
use Rattle.edits.proofs.MapFound.{ZonesPieces, ZonesFound, zone_pieces_law, pieces_found, as_read}
use Rattle.edits.proofs.BytesKept.{crosses_of_bytes}
use Rattle.edits.proofs.PiecesKept.{AcceptedPieces}
use Rattle.edits.proofs.DiscKept.{AcceptedDisc}
use Rattle.edits.proofs.StepWritten.{MapOf, written_map}

-- in neither a zone nor those after it do two free fragments touch
pub apart_and_rest : (j : ℕ) (es : List Entry) (ds : List (List Entry)) → touching j (es ∷ ds) ≡ none → (none_touch false es ≡ true) × (touching (suc j) ds ≡ none)
apart_and_rest j es ds t = by_test (none_touch false es) (λ u. (u, simp u at t)) (λ u. absurd (none_some (sym (simp u at t))))

-- the zones one by one
module _ (g : Geometry) (ok : AcceptedGeometry g) where
  pub zones_pieces : (z : ℕ) (bs : List (List ℕ)) (ess : List (List Entry)) → Sized g.sector bs → zones_read g z bs ≡ answered ess → ZonesPieces g z ess × (length ess ≡ length bs)
  zones_pieces z [] ess y r = subst (λ (x : List (List Entry)). ZonesPieces g z x × (length x ≡ 0)) (same_answer r) (tt, refl)
  zones_pieces z (b ∷ bs) ess y r =
      let k = zone_and_rest g z b bs ess r in
      let rest = zones_pieces (suc z) bs k.1 y.1 k.3 in
      subst (λ (x : List (List Entry)). ZonesPieces g z x × (length x ≡ length (b ∷ bs))) k.4 ((pieces_read g ok z b k.0 y.0 k.2, rest.0), ap suc rest.1)

  pub zones_found : (z i j : ℕ) (bs : List (List ℕ)) (ess : List (List Entry)) → Sized g.sector bs → EachBytes bs
      → differing i bs ≡ none → zones_read g z bs ≡ answered ess → touching j ess ≡ none → ZonesFound g z bs ess
  zones_found z i j [] ess y w c r t = subst (ZonesFound g z []) (same_answer r) tt
  zones_found z i j (b ∷ bs) ess y w c r t =
      let k = zone_and_rest g z b bs ess r in
      let u = apart_and_rest j k.0 k.1 (subst⁻¹ (λ (x : List (List Entry)). touching j x ≡ none) k.4 t) in
      subst (ZonesFound g z (b ∷ bs)) k.4
      (zone_found g ok z b k.0 y.0 k.2 w.0 rest.0 u.0, zones_found (suc z) (suc i) (suc j) bs k.1 y.1 w.1 rest.1 k.3 u.1)
    where
      rest : (get_or b 0 0 ≡ zone_check b) × (differing (suc i) bs ≡ none)
      rest =
          by_test (eqb (get_or b 0 0) (zone_check b))
          (λ h. (eqb-true (get_or b 0 0) (zone_check b) h, simp h at c))
          (λ h. absurd (none_some (sym (simp h at c))))

-- a map as the mender reads it: its pieces are accepted ones
module _ (m : List ℕ) (ess : List (List Entry)) (bytes : Bytes m) (read : mend_read m ≡ answered ess) where
  read_as : ReadTests m ess
  read_as = read_tests m ess read

  pub read_geometry : AcceptedGeometry (geometry_of m)
  read_geometry = test_gives_accepted (disc_record m) read_as.record_fits_law

  pub read_each_bytes : EachBytes (blocks_of (geometry_of m) m)
  read_each_bytes =
      let g = geometry_of m in
      each_bytes (blocks_of g m) (subst⁻¹ Bytes (flat_blocks g.sector g.zones m read_as.whole) bytes)

  pub read_of : MapOf (geometry_of m) m
  read_of = record { geometry = refl; record_fits_law = read_as.record_fits_law; accepted = read_geometry; whole = read_as.whole; bytes = bytes }

  read_zones : ZonesPieces (geometry_of m) 0 ess × (length ess ≡ length (blocks_of (geometry_of m) m))
  read_zones =
      let g = geometry_of m in
      zones_pieces g read_geometry 0 (blocks_of g m) ess (sized_blocks g.sector g.zones m read_as.whole) read_as.zones

  pub read_count : length ess ≡ (geometry_of m).zones
  read_count = let g = geometry_of m in read_zones.1 ∙ length_blocks g.sector g.zones m

  pub read_pieces_found : ZonesPieces (geometry_of m) 0 ess
  read_pieces_found = read_zones.0

  pub read_pieces : AcceptedPieces (geometry_of m) (pieces_of_zones (geometry_of m) 0 ess)
  read_pieces = pieces_found (geometry_of m) read_geometry ess read_count read_pieces_found

-- and one that the check accepts: its cross checks are accepted ones too
module _ (m : List ℕ) (ess : List (List Entry)) (bytes : Bytes m) (accepted : map_read m ≡ answered ess) where
  tests : AcceptedTests m ess
  tests = accepted_tests m ess accepted

  pub map_geometry : AcceptedGeometry (geometry_of m)
  map_geometry = read_geometry m ess bytes tests.read

  pub map_of : MapOf (geometry_of m) m
  map_of = read_of m ess bytes tests.read

  pub map_count : length ess ≡ (geometry_of m).zones
  map_count = read_count m ess bytes tests.read

  pub map_pieces_found : ZonesPieces (geometry_of m) 0 ess
  map_pieces_found = read_pieces_found m ess bytes tests.read

  pub map_disc : AcceptedDisc (geometry_of m) (disc_of m ess)
  map_disc =
      let g = geometry_of m in
      record {
        pieces = read_pieces m ess bytes tests.read;
        count = length-map (blocks_of g m) cross_of ∙ length_blocks g.sector g.zones m;
        sum = tests.sum;
        bytes = crosses_of_bytes (blocks_of g m) (read_each_bytes m ess bytes tests.read);
      }

  module _ (apart : touching 0 ess ≡ none) where
    also_read : ReadTests m ess
    also_read = read_tests m ess tests.read

    pub map_found : ZonesFound (geometry_of m) 0 (blocks_of (geometry_of m) m) ess
    map_found =
        let g = geometry_of m in
        zones_found g map_geometry 0 0 0 (blocks_of g m) ess (sized_blocks g.sector g.zones m also_read.whole) (read_each_bytes m ess bytes tests.read)
        tests.checks also_read.zones apart

    -- it is as it would be written
    pub map_as_written : written_map (geometry_of m) m (disc_of m ess) ≡ m
    map_as_written =
        let g = geometry_of m in
        ap flat (as_read g map_geometry (pieces_of_zones g 0 ess) 0 (blocks_of g m) ess map_found
        (λ i h. zone_pieces_law g 0 ess map_pieces_found i (omega (arith, map_count, length_blocks g.sector g.zones m))))
        ∙ flat_blocks g.sector g.zones m also_read.whole
