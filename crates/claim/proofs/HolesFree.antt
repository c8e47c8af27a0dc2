-- Zone by zone, the holes between the pieces are the free fragments that a walk finds on the map. So those of all zones ascend, and each has at
-- least m bits.
use mathlib.Core.Path.{◌≡◌, refl, sym, ap₂, subst, subst⁻¹}
use mathlib.Core.List.{List, [], ◌∷◌, ◌++◌}
use Prim.Native.Nat.{ℕ, zero, suc, ◌+◌, ◌<◌, ◌≤◌}
use native.Mathlib.Omega.{arith}
use lib.ListN.{length}
use Rattle.geometry.specs.declared.Geometry.{Geometry}
use Rattle.geometry.specs.Places.{zone_from}
use Rattle.model.specs.Chain.{Pair, Entry}
use Rattle.model.specs.Shown.{zones_of, pieces_on}
use Rattle.map.proofs.Accepts.{ReadInTurn, zones_in_turn}
use Rattle.walk.specs.HeldBy.{held_in, held_from}
use Rattle.walk.proofs.ZonesTouching.{zones_are}
use Rattle.split.specs.Laws.{Ascends}
use Rattle.listing.proofs.FreeHeld.{free_in}
use Rattle.holes.specs.Passes.{holes_on}
use Rattle.edits.specs.Holes.{holes_in, holes_from}
use Rattle.edits.specs.Room.{In}
use Rattle.edits.specs.EditableMap.{EditableMap}
use Rattle.edits.proofs.EditableMap.{map_pieces}
use Rattle.edits.proofs.HolesSpans.{FreeEach, each_same, holes_free}
use Rattle.split.proofs.Picked.{ascends_weaken}
use Rattle.edits.proofs.HolesAscend.{all_holes_ascend}
use Rattle.edits.proofs.ClaimFits.{in_holes, hole_size}

held_each : (m : List ℕ) (g : Geometry) (z : ℕ) (ess : List (List Entry)) → ReadInTurn m g z ess → FreeEach g (held_in g 0 m) z ess × (z + length ess ≡ g.zones)
held_each m g z [] r = (tt, omega arith)
held_each m g z (es ∷ ess) r = let k = held_each m g (suc z) ess r.2 in ((free_in m g z es r.1, k.0), omega (arith, k.1))

pub holes_are_free : {m : List ℕ} {g : Geometry} → EditableMap m g → (z : ℕ) → z < g.zones → holes_in g (pieces_on g m) z ≡ held_in g 0 m z
holes_are_free {m} {g} ed z h =
    let a = ed.accepted in
    let d = ed.editable in
    let k = held_each m g 0 (zones_of m) (subst (ReadInTurn m g 0) (sym (zones_are a)) (zones_in_turn a)) in
    let f = subst⁻¹ (λ (x : Geometry). FreeEach x (holes_in x (pieces_on x m)) 0 (zones_of m)) a.geometry (holes_free m (zones_of m) d.accepted d.apart) in
    each_same g (holes_in g (pieces_on g m)) (held_in g 0 m) 0 (zones_of m) f k.0 z (omega arith) (omega (arith, k.1))

-- of all zones
module _ {m : List ℕ} {g : Geometry} (ed : EditableMap m g) where
  from_zone : (z n : ℕ) → z + n ≤ g.zones → held_from g 0 m z n ≡ holes_from g z n (pieces_on g m)
  from_zone z zero k = refl
  from_zone z (suc n) k = ap₂ (λ (x y : List Pair). x ++ y) (sym (holes_are_free ed z (omega arith))) (from_zone (suc z) n (omega arith))

  pub all_free : holes_on g m ≡ holes_from g 0 g.zones (pieces_on g m)
  all_free = from_zone 0 g.zones (omega arith)

  pub free_ascend : Ascends 0 (holes_on g m)
  free_ascend =
      let l = pieces_on g m in
      subst⁻¹ (Ascends 0) all_free
      (ascends_weaken (zone_from g 0) 0 (holes_from g 0 g.zones l) (omega arith) (all_holes_ascend g l ed.accepted.readable.numbers (map_pieces ed).fit 0 g.zones (omega arith)))

  pub free_long : (h : Pair) → In h (holes_on g m) → g.shortest ≤ h.len
  free_long h i =
      let l = pieces_on g m in
      let z = in_holes g 0 g.zones l h (subst (In h) all_free i) in
      hole_size g l ed.accepted.readable.numbers (map_pieces ed).fit z.0 (omega (arith, z.2)) h z.3
