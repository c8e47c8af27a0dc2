-- A disc that can be formatted: its record keeps the rules, the map that has this record and else only 0 is a map of it, and the pieces that are
-- drawn can stand on it.
use mathlib.Core.Path.{◌≡◌, refl, subst⁻¹}
use Prim.Native.Nat.{◌-◌, ◌%◌, ◌<◌, ◌≤◌}
use native.Mathlib.Omega.{arith}
use Rattle.geometry.specs.declared.DiscRecord.{DiscRecord}
use Rattle.geometry.specs.declared.Geometry.{Geometry}
use Rattle.geometry.specs.Record.{geometry_from}
use Rattle.geometry.specs.Ranges.{FieldRules}
use Rattle.geometry.specs.Places.{zone_from}
use Rattle.edits.proofs.DiscKept.{AcceptedDisc}
use Rattle.edits.proofs.StepWritten.{MapOf}
use Rattle.formatted.specs.Blank.{blank_for, blank_map}
use Rattle.formatted.specs.Drawn.{map_length, blank_disc}
use Rattle.formatted.proofs.BlankMap.{blank_of}
use Rattle.formatted.proofs.BlankMap
use Rattle.formatted.proofs.Fewest.{disc_fields, disc_last, disc_end_clusters}
use Rattle.formatted.proofs.PiecesFit.{blank_accepted}
use Rattle.format.specs.Zones.{Blank}

module _ {r : DiscRecord} {g : Geometry} (b : Blank r g) where
  -- what holds of the record that the numbers give, and of its geometry, holds of this one
  given : (P : DiscRecord → Geometry → Type 0) → P (blank_for b.logsector b.capacity b.idlen) (geometry_from (blank_for b.logsector b.capacity b.idlen)) → P r g
  given P p = subst⁻¹ (P r) b.geometry (subst⁻¹ (λ (y : DiscRecord). P y (geometry_from y)) b.fields p)

  pub field_rules : FieldRules r
  field_rules = given (λ y x. FieldRules y) (disc_fields b.logsector b.capacity b.idlen b.fits)

  pub version_zero : r.version ≡ 0
  version_zero = given (λ y x. y.version ≡ 0) refl

  pub spare_small : r.spare < 65536
  spare_small = given (λ y x. y.spare < 65536) (omega arith)

  pub size_small : r.size < 4294967296
  size_small = given (λ y x. y.size < 4294967296) (BlankMap.size_small b.logsector b.capacity b.idlen b.fits)

  pub map_of : MapOf g (blank_map r (map_length g))
  map_of = given (λ y x. MapOf x (blank_map y (map_length x))) (blank_of b.logsector b.capacity b.idlen b.fits)

  last_zone : zone_from g (g.zones - 1) ≤ g.end.0
  last_zone = given (λ y x. zone_from x (x.zones - 1) ≤ x.end.0) (disc_last b.logsector b.capacity b.idlen b.fits)

  end_clusters : g.end.0 % g.cluster ≡ 0
  end_clusters = given (λ y x. x.end.0 % x.cluster ≡ 0) (disc_end_clusters b.logsector b.capacity b.idlen b.fits)

  pub pieces_stand : AcceptedDisc g (blank_disc g)
  pieces_stand = blank_accepted g map_of.accepted last_zone end_clusters b.both
