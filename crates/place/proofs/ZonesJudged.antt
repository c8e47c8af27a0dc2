-- Refusal 13, zone by zone: the pieces after the place lie apart in all zones just where they do in each zone with pairs. In a zone
-- without pairs they are the old ones, which do.
use mathlib.Core.Path.{◌≡◌, refl, sym, ap, ◌∙◌}
use mathlib.Core.Bool.{true, false, ◌&&◌}
use mathlib.Core.List.{List, [], ◌∷◌, map}
use Prim.Native.Nat.{ℕ, suc, ◌+◌, ◌-◌, ◌<◌, ◌≤◌}
use native.Mathlib.Nat.{sub-zero}
use native.Mathlib.Omega.{arith}
use lib.Dec.{ltb}
use lib.ListN.{length}
use borrow.Author.Tests.{ne_eqb, ltb-false}
use Rattle.bits.proofs.Tests.{by_test}
use Rattle.geometry.specs.declared.Geometry.{Geometry}
use Rattle.geometry.specs.Places.{zone_from, zone_end}
use Rattle.model.specs.Pieces.{Piece}
use Rattle.model.specs.Rules.{zone_block}
use Rattle.model.specs.Shown.{pieces_on}
use Rattle.walk.proofs.ZonesRead.{reads_from}
use Rattle.edits.specs.Edits.{put, own, give, in_zone}
use Rattle.edits.specs.Holes.{apart, all_apart}
use Rattle.edits.specs.Judge.{pairs_from}
use Rattle.edits.proofs.PiecesKept.{editable_from}
use Rattle.edits.proofs.ZonesTouched.{zone_give}
use Rattle.edits.proofs.EditableMap.{map_pieces}
use Rattle.edits.proofs.ZonesEdited.{new_pieces}
use Rattle.writer.specs.Parts.{zone_pairs, zone_part, IsPart}
use Rattle.writer.specs.Edited.{owned_in_zone, pieces_after, PartAsks, edit_of}
use Rattle.writer.proofs.ListOrder.{part_is}
use Rattle.writer.proofs.PartPairs.{zone_listed, part_pairs, part_ascends, part_fits}
use Rattle.writer.proofs.ZonesEdited.{part_after}
use Rattle.place.specs.Asked.{PlaceAsks, zone_fits}

pub some_id : {m : List ℕ} {g : Geometry} {id : ℕ} {list : List ℕ} → PlaceAsks m g id list → id ≡ 0 → ⊥
some_id {g = g} {id} q e = omega (arith, editable_from g id q.named)

no_entries : (l : List ℕ) → length l ≤ 0 → l ≡ []
no_entries [] h = refl
no_entries (x ∷ l) h = absurd (omega arith)

-- one zone with its part of the list
module _ {m : List ℕ} {g : Geometry} {id : ℕ} {list : List ℕ} (q : PlaceAsks m g id list) {z : ℕ} (h : z < g.zones) {part : List ℕ} (is : part ≡ zone_part g list z) where
  abbrev after : List Piece
  after = give id (pairs_from list) (pieces_on g m)

  mine : IsPart g list z part
  mine = part_is q.editable.accepted.readable.numbers (record { object = id; fits = q.fits }) is

  pub zone_asks : {room : ℕ} → 1362 ≤ room → PartAsks m g z part id room
  zone_asks r =
      let ok = q.editable.accepted.readable.numbers in
      record { reads = reads_from q.editable.accepted z; zone = h; ascending = part_ascends mine ok id; fits = omega (arith, part_fits mine ok) }

  zone_new : pieces_after 0 id (pairs_from part) (owned_in_zone g z (zone_block g m z)) ≡ in_zone g z after
  zone_new =
      let e : new_pieces g (edit_of 0 (pairs_from list) id) (pieces_on g m) ≡ after = rw (ne_eqb id 0 (some_id q)) in
      part_after q.editable 0 id (λ n. refl) h mine ∙ ap (in_zone g z) e

  zone_same : length part ≤ 0 → in_zone g z after ≡ in_zone g z (pieces_on g m)
  zone_same l =
      let none : zone_pairs g z (pairs_from list) ≡ [] = sym (part_pairs mine) ∙ ap pairs_from (no_entries part l) in
      zone_give g z id (pairs_from list) (pieces_on g m) (map_pieces q.editable).fit.weak
      ∙ ap (λ (ps : List Piece). put ps (in_zone g z (pieces_on g m))) (zone_listed g z id (pairs_from list) ∙ ap (map (own id)) none)

  pub zone_verdict : zone_fits g z id (zone_block g m z) part ≡ apart g.shortest (zone_from g z) (zone_end g z) (in_zone g z (give id (pairs_from list) (pieces_on g m)))
  zone_verdict =
      by_test (ltb 0 (length part))
      (λ t. rw t (ap (apart g.shortest (zone_from g z) (zone_end g z)) zone_new))
      (λ t. rw t (sym (ap (apart g.shortest (zone_from g z) (zone_end g z)) (zone_same (ltb-false 0 (length part) t)) ∙ (map_pieces q.editable).fit.parts z h)))

-- the zones from z on fit just where all do
pub record JudgedTo (g : Geometry) (l : List Piece) (z : ℕ) : Type 0 where
  pub same : all_apart g z (g.zones - z) l ≡ all_apart g 0 g.zones l

module _ {g : Geometry} {l : List Piece} where
  pub all_start : JudgedTo g l 0
  all_start = record { same = ap (λ (n : ℕ). all_apart g 0 n l) (sub-zero g.zones) }

  module _ {z : ℕ} (j : JudgedTo g l z) where
    pub all_end : z ≡ g.zones → true ≡ all_apart g 0 g.zones l
    all_end e = let n : g.zones - z ≡ 0 = omega arith in rw n at j.same

    module _ (h : z < g.zones) where
      one_more : apart g.shortest (zone_from g z) (zone_end g z) (in_zone g z l) && all_apart g (suc z) (g.zones - suc z) l ≡ all_apart g 0 g.zones l
      one_more = let n : g.zones - z ≡ suc (g.zones - suc z) = omega arith in rw n at j.same

      pub all_fail : apart g.shortest (zone_from g z) (zone_end g z) (in_zone g z l) ≡ false → false ≡ all_apart g 0 g.zones l
      all_fail t = rw t at one_more

      pub all_go_on : apart g.shortest (zone_from g z) (zone_end g z) (in_zone g z l) ≡ true → {next : ℕ} → next ≡ z + 1 → JudgedTo g l next
      all_go_on t {next} e = let s : next ≡ suc z = omega (arith, e) in rw s (record { same = rw t at one_more })
