-- The zones of an edit one by one: each gets its part of the list, with the change of its cross check by its place among the touched
-- zones. A zone to come is still the old one, so it can be read, and what there is after the edit can be drawn. Where all zones are
-- done the map is the map after the edit.
use mathlib.Core.Path.{◌≡◌, refl, sym, ap, ap₂, ◌∙◌, subst⁻¹}
use mathlib.Core.Bool.{Bool, true, false, cond, not}
use mathlib.Core.List.{List, [], ◌∷◌, map}
use Prim.Native.Nat.{ℕ, ◌+◌, ◌*◌, ◌<◌, ◌≤◌}
use native.Mathlib.Omega.{arith}
use lib.Dec.{eqb, leb}
use lib.Bits.{bit_xor}
use lib.ListN.{length}
use borrow.Author.Tests.{eqb-false, leb-true, ne_eqb}
use Rattle.std.specs.Int.{from_bool}
use Rattle.bits.proofs.Tests.{by_test}
use Rattle.checks.specs.Cross.{cross_of, amount, touched_count}
use Rattle.geometry.specs.declared.Geometry.{Geometry}
use Rattle.geometry.specs.Places.{first_bit, end_bit}
use Rattle.model.specs.Chain.{Pair}
use Rattle.model.specs.Pieces.{Piece}
use Rattle.model.specs.Rules.{zone_block}
use Rattle.model.specs.Shown.{pieces_on}
use Rattle.model.specs.Drawing.{Drawable}
use Rattle.zone.specs.Lines.{IsRead}
use Rattle.map.specs.Accepted.{ReadableFrom}
use Rattle.edits.specs.Edits.{without, put, touches, touched_from, touched_zones, pairs_in, in_zone}
use Rattle.edits.specs.Judge.{pairs_from}
use Rattle.edits.specs.Written.{written, to_block}
use Rattle.edits.specs.EditableMap.{EditableMap}
use Rattle.edits.proofs.Kept.{All, all_keep}
use Rattle.edits.proofs.ZonesTouched.{zone_without, zone_give, change_at}
use Rattle.edits.proofs.WrittenBelow.{WrittenBelow, written_starts, next_block, written_ends, written_turn}
use Rattle.edits.proofs.EditableMap.{map_pieces, zone_pieces_law}
use Rattle.edits.proofs.ZonesEdited.{new_pieces, EditedZones, edited_zones}
use Rattle.writer.specs.Parts.{zone_pairs, zone_part, IsPart}
use Rattle.writer.specs.Edited.{owned_in_zone, pieces_after, ZoneEdit, zone_after, zone_put, edit_of, EditAsks, edited_map}
use Rattle.writer.proofs.ListOrder.{part_is}
use Rattle.writer.proofs.PartPairs.{zone_listed, some_in, part_touches, part_pairs, part_some, part_ascends, part_fits, count_turn}

-- no piece of an accepted map is one of object 0
pub none_of_zero : (l : List Piece) → All (λ p. leb 1 p.owner) l → without 0 l ≡ l
none_of_zero [] a = refl
none_of_zero (p ∷ ps) a = simp (ne_eqb p.owner 0 (λ e. omega (arith, leb-true 1 p.owner a.0))) (ap (λ (r : List Piece). p ∷ r) (none_of_zero ps a.1))

pairs_in_law : (gone : ℕ) (qs : List Pair) (id : ℕ) → pairs_in (edit_of gone qs id) ≡ qs
pairs_in_law gone qs id = by_test (eqb id 0) (λ t. rw t) (λ t. rw t)

-- 1 is counted where there is a part
pub counted : (b : Bool) → (from_bool b ≡ cond b 1 0) × (from_bool b ≤ 1)
counted true = (refl, omega arith)
counted false = (refl, omega arith)

-- the pieces of a zone after an edit, by its part of the list
module _ {m : List ℕ} {g : Geometry} (e : EditableMap m g) (gone id : ℕ) (one_way : (id ≡ 0 → ⊥) → gone ≡ 0) where
  zone_after_law : (z : ℕ) (qs : List Pair) → in_zone g z (new_pieces g (edit_of gone qs id) (pieces_on g m)) ≡ pieces_after gone id (zone_pairs g z qs) (in_zone g z (pieces_on g m))
  zone_after_law z qs =
      let l = pieces_on g m in
      by_test (eqb id 0)
      (λ t. rw t (zone_without g z gone l))
      (λ t. let n : without gone (in_zone g z l) ≡ in_zone g z l =
      ap (λ (x : ℕ). without x (in_zone g z l)) (one_way (eqb-false id 0 t)) ∙ none_of_zero (in_zone g z l) (all_keep (λ p. leb 1 p.owner) _ l (map_pieces e).numbered) in
      rw t (zone_give g z id qs l (map_pieces e).fit.weak ∙ ap₂ put (zone_listed g z id qs) (sym n)))

  pub part_after : {z : ℕ} {list part : List ℕ} → z < g.zones → IsPart g list z part
      → pieces_after gone id (pairs_from part) (owned_in_zone g z (zone_block g m z)) ≡ in_zone g z (new_pieces g (edit_of gone (pairs_from list) id) (pieces_on g m))
  part_after {z} {list} {part} h p = ap₂ (pieces_after gone id) (part_pairs p) (sym (zone_pieces_law e z h)) ∙ sym (zone_after_law z (pairs_from list))

-- the map after the edit, and on the way there with the zones below z done
abbrev pub map_after : List ℕ → ℕ → List ℕ → ℕ → List ℕ
map_after m gone list id = edited_map m (edit_of gone (pairs_from list) id)

pub record Editing (m : List ℕ) (g : Geometry) (gone : ℕ) (list : List ℕ) (id : ℕ) (now : List ℕ) (k z : ℕ) : Type 0 where
  pub zones : WrittenBelow g.sector g.zones (map_after m gone list id) m now z
  pub count : k ≡ touched_count (touched_from g (pairs_from list) 0 z)
  pub few : k ≤ z

module _ {m : List ℕ} {g : Geometry} {gone : ℕ} {list : List ℕ} {id : ℕ} (w : EditAsks m g gone list id) where
  abbrev qs : List Pair
  qs = pairs_from list

  abbrev after : List ℕ
  after = map_after m gone list id

  given : EditedZones m g (edit_of gone (pairs_from list) id) (edited_map m (edit_of gone (pairs_from list) id))
  given = edited_zones w.editable w.call (edit_of gone (pairs_from list) id) w.judged

  whole : length m ≡ g.zones * g.sector
  whole = w.editable.accepted.readable.sized

  pub editing_starts : Editing m g gone list id m 0 0
  editing_starts = record { zones = written_starts g.sector g.zones after m; count = refl; few = omega arith }

  pub editing_ends : {now : List ℕ} {k z : ℕ} → Editing m g gone list id now k z → z ≡ g.zones → now ≡ edited_map m (edit_of gone (pairs_from list) id)
  editing_ends v e = written_ends v.zones whole (given.long ∙ whole) (omega (arith, e))

  -- one zone's part of the list
  module _ {now : List ℕ} {k z : ℕ} (v : Editing m g gone list id now k z) (h : z < g.zones) {part : List ℕ} (is : part ≡ zone_part g list z) where
    mine : IsPart g list z part
    mine = part_is w.editable.accepted.readable.numbers w.ordered is

    pieces_are : pieces_after gone id (pairs_from part) (owned_in_zone g z (zone_block g m z)) ≡ in_zone g z (new_pieces g (edit_of gone (pairs_from list) id) (pieces_on g m))
    pieces_are = part_after w.editable gone id w.one_way h mine

    block_is : (touched change : ℕ) → touched ≡ touched_count (touched_zones g (pairs_from list)) → change ≡ amount touched k
        → zone_after g z gone part id change (zone_block g m z) ≡ zone_block g (map_after m gone list id) z
    block_is touched change et ec =
        let block = zone_block g m z in
        by_test (touches g z qs)
        (λ t. let c : change ≡ change_at g (pairs_in (edit_of gone qs id)) z =
        ec ∙ ap₂ amount et v.count ∙ sym (ap (λ (x : List Pair). change_at g x z) (pairs_in_law gone qs id) ∙ rw t refl) in
        rw (part_some mine ∙ t)
        (ap₂ (λ (l : List Piece) (x : ℕ). written g.idlen (first_bit z) (end_bit g) (map (to_block g z) l) (bit_xor (cross_of block) x) block) pieces_are c ∙ sym (given.zone_new z h)))
        (λ t. rw (part_some mine ∙ t) (sym (given.zone_old z h (ap (touches g z) (pairs_in_law gone qs id) ∙ t))))

    old_block : zone_block g now z ≡ zone_block g m z
    old_block = next_block v.zones h

    reads : ReadableFrom now g z
    reads = record {
      numbers = w.editable.accepted.readable.numbers;
      sized = v.zones.kept ∙ whole;
      reads = λ y l u. subst⁻¹ (IsRead g y) (v.zones.left y l u) (w.editable.accepted.readable.reads y (omega arith) u);
    }

    pub zone_edit : {room : ℕ} → 1362 ≤ room → ZoneEdit now g z gone part id room
    zone_edit {room} r =
        let ok = w.editable.accepted.readable.numbers in
        record {
          part = record { reads = reads; zone = h; ascending = part_ascends mine ok id; fits = omega (arith, part_fits mine ok) };
          drawable = subst⁻¹ (λ (l : List Piece). Drawable g.idlen (first_bit z) (end_bit g) (map (to_block g z) l))
              (ap (λ (b : List ℕ). pieces_after gone id (pairs_from part) (owned_in_zone g z b)) old_block ∙ pieces_are) (given.drawable z h);
        }

    pub editing_turn : (touched change n : ℕ) {next : List ℕ} → touched ≡ touched_count (touched_zones g (pairs_from list)) → change ≡ amount touched k
        → length next ≡ length now → next ≡ zone_put g z now (zone_after g z gone part id change (zone_block g now z))
        → {empty : Bool} → empty ≡ eqb (length part) 0 → n ≡ from_bool (not empty) → Editing m g gone list id next (k + n) (z + 1)
    editing_turn touched change n {next} et ec ln en {empty} ee ek =
        let b = zone_after g z gone part id change (zone_block g now z) in
        let e : b ≡ zone_block g after z = ap (zone_after g z gone part id change) old_block ∙ block_is touched change et ec in
        record {
          zones = written_turn v.zones whole (given.long ∙ whole) h e en;
          count = count_turn g qs z k n (not empty) v.count (ap not ee ∙ ap some_in is ∙ part_touches g list z) (ek ∙ (counted (not empty)).0);
          few = omega (arith, v.few, ek, (counted (not empty)).1);
        }
