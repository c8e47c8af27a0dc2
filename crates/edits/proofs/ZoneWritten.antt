-- A zone that is written passes the zone's tests: its fragments are in whole clusters, its links land, and the owner rules
-- hold of the drawing since they hold of the pieces.
use mathlib.Core.Path.{◌≡◌, refl, ap, ◌∙◌, subst⁻¹}
use mathlib.Core.Bool.{true, not, ◌&&◌, ◌||◌, false≢true}
use mathlib.Core.List.{List, [], ◌∷◌, map}
use mathlib.Core.Option.{some}
use mathlib.Core.Logic.{◌⊎◌, inl, inr}
use Prim.Native.Nat.{ℕ, ◌+◌, ◌-◌, ◌*◌, ◌/◌, ◌<◌, ◌≤◌}
use native.Mathlib.Omega.{arith}
use lib.Dec.{eqb, ltb, leb}
use lib.ListN.{length}
use borrow.Author.Tests.{eqb-true, le-ltb, ltb-true, leb-true, le-leb}
use Rattle.bits.proofs.Tests.{by_test, both, and_true, either, or_left, or_right}
use Rattle.geometry.specs.declared.Geometry.{Geometry}
use Rattle.geometry.specs.Accepted.{AcceptedGeometry}
use Rattle.geometry.specs.Places.{first_bit, end_bit, disc_bit, block_bit, zone_from, zone_end}
use Rattle.geometry.proofs.DiscBits.{first_low}
use Rattle.model.specs.Chain.{Entry, onward, follow}
use Rattle.model.specs.Blocks.{free_link}
use Rattle.model.specs.Pieces.{Piece}
use Rattle.model.specs.Drawing.{first_free, drawn_fragments, link_of, gap_entry, drawn_entries}
use Rattle.model.specs.Answer.{answered}
use Rattle.model.specs.Check.{every, in_clusters, id_fits, end_fits, first_owned, owners_fit, after_cut, zone_read}
use Rattle.model.proofs.ChainDrawn.{Lies, linked, free_or_ahead, follow_drawn}
use Rattle.model.proofs.ZoneDrawn.{lies}
use Rattle.edits.specs.Edits.{in_zone}
use Rattle.edits.specs.Holes.{gap_fits, apart}
use Rattle.edits.proofs.Kept.{All, all_keep}
use Rattle.edits.proofs.Gaps.{gap_of_test, gap_le}
use Rattle.edits.specs.Written.{written, to_block}
use Rattle.edits.proofs.BlockWritten.{top_written, link_written, fragments_written}
use Rattle.edits.proofs.ZonePlaces.{zone_from_law, zone_end_law, zone_bits}
use Rattle.edits.proofs.ZoneDrawable.{zone_drawable}
use Rattle.edits.proofs.Clusters.{whole_drawn, first_whole, end_whole, block_whole}
use Rattle.edits.proofs.ObjectRules.{gap_ends_by, one_from_end, two_first, ends_before}
use Rattle.edits.proofs.PiecesKept.{AcceptedPieces}

-- the id rule
ids_gap : (g : Geometry) (at end : ℕ) (es : List Entry) → every (id_fits g) es ≡ true → every (id_fits g) (gap_entry at end es) ≡ true
ids_gap g at end es h = by_test (ltb at end) (λ t. simp (t, h)) (λ t. simp (t, h))

ids_drawn : (g : Geometry) (z at end : ℕ) (l : List Piece) → All (λ p. leb 1 p.owner) l → All (λ p. ltb p.owner (g.ids * g.zones)) l
    → every (id_fits g) (drawn_entries at end (map (to_block g z) l)) ≡ true
ids_drawn g z at end [] h k = ids_gap g at end [] refl
ids_drawn g z at end (p ∷ ps) h k =
    ids_gap g at _ _ (simp (h.0, k.0, ids_drawn g z (block_bit g z p.at.start + p.at.len) end ps h.1 k.1))

-- the disc-end rule, from block bits a to e, which are disc bits a2 to e2
ends_gap : (g : Geometry) (z a e : ℕ) (es : List Entry) → (a < e → z * g.bits + e ≤ g.end.0 + 512) → every (end_fits g z) es ≡ true → every (end_fits g z) (gap_entry a e es) ≡ true
ends_gap g z a e es f h =
    by_test (ltb a e)
    (λ t. let k = f (ltb-true a e t) in
    simp t (and_true (leb (disc_bit g z (a + (e - a))) g.end.0) _ (le-leb (disc_bit g z (a + (e - a))) g.end.0 (omega (arith, ltb-true a e t))) h))
    (λ t. simp (t, h))

ends_drawn : (g : Geometry) (z m a e a2 e2 : ℕ) (l : List Piece) → a2 + 512 ≡ z * g.bits + a → e2 + 512 ≡ z * g.bits + e → apart m a2 e2 l ≡ true → one_from_end g.end.0 a2 e2 l ≡ true
    → every (end_fits g z) (drawn_entries a e (map (to_block g z) l)) ≡ true
ends_drawn g z m a e a2 e2 [] p q y t = ends_gap g z a e [] (λ h. (let k = ends_before g.end.0 a2 e2 (omega arith) t in omega arith)) refl
ends_drawn g z m a e a2 e2 (x ∷ xs) p q y t =
    let s = x.at.start in
    let b = both (gap_fits m a2 s) (apart m (s + x.at.len) e2 xs) y in
    let lo = gap_le m a2 s (gap_of_test m a2 s b.0) in
    let c = both (gap_ends_by g.end.0 a2 s && (eqb x.owner 1 || leb (s + x.at.len) g.end.0)) (one_from_end g.end.0 (s + x.at.len) e2 xs) t in
    let d = both (gap_ends_by g.end.0 a2 s) (eqb x.owner 1 || leb (s + x.at.len) g.end.0) c.0 in
    let n = block_bit g z s in
    ends_gap g z a n _
    (λ h. (let k = ends_before g.end.0 a2 s (omega arith) d.0 in omega arith))
    (and_true (eqb x.owner 1 || leb (disc_bit g z (n + x.at.len)) g.end.0) _
    (mine (either (eqb x.owner 1) (leb (s + x.at.len) g.end.0) d.1) lo)
    (ends_drawn g z m (n + x.at.len) e (s + x.at.len) e2 xs (omega arith) q b.1 c.1))
  where
    mine : (eqb x.owner 1 ≡ true) ⊎ (leb (x.at.start + x.at.len) g.end.0 ≡ true) → a2 ≤ x.at.start → eqb x.owner 1 || leb (disc_bit g z (block_bit g z x.at.start + x.at.len)) g.end.0 ≡ true
    mine (inl k) lo = or_left (eqb x.owner 1) _ k
    mine (inr k) lo = or_right (eqb x.owner 1) _ (le-leb _ g.end.0 (omega (arith, leb-true (x.at.start + x.at.len) g.end.0 k)))

-- the object 2 rule
first_drawn : (g : Geometry) (z a e a2 : ℕ) (l : List Piece) → a2 + 512 ≡ z * g.bits + a → two_first a2 l ≡ true → first_owned 2 (drawn_entries a e (map (to_block g z) l)) ≡ true
first_drawn g z a e a2 [] p h = absurd (false≢true h)
first_drawn g z a e a2 (x ∷ xs) p h =
    let b = both (eqb x.at.start a2) (eqb x.owner 2) h in
    simp (le-ltb a (block_bit g z x.at.start) (omega (arith, eqb-true x.at.start a2 b.0))) b.1

-- a zone written is read as drawn
module _ (g : Geometry) (ok : AcceptedGeometry g) (l : List Piece) (k : AcceptedPieces g l) (z : ℕ) (h : z < g.zones) where
  abbrev pieces : List Piece
  pieces = map (to_block g z) (in_zone g z l)

  abbrev drawing : List Entry
  drawing = drawn_entries (first_bit z) (end_bit g) (map (to_block g z) (in_zone g z l))

  lie : Lies (first_bit z) (end_bit g) (map (to_block g z) (in_zone g z l))
  lie = lies g.idlen (first_bit z) (end_bit g) pieces (zone_drawable g l z ok k.fit h)

  whole : in_clusters g.cluster (drawn_fragments (first_bit z) (end_bit g) (map (to_block g z) (in_zone g z l))) ≡ true
  whole = whole_drawn g.cluster (first_bit z) (end_bit g) pieces (first_whole g ok z) (end_whole g ok) (block_whole g ok z (in_zone g z l) (all_keep _ _ l k.clusters))

  followed : follow (first_bit z) (onward 8 (link_of (first_bit z) (end_bit g) (map (to_block g z) (in_zone g z l)))) (drawn_fragments (first_bit z) (end_bit g) (map (to_block g z) (in_zone g z l)))
      ≡ some (drawn_entries (first_bit z) (end_bit g) (map (to_block g z) (in_zone g z l)))
  followed =
      ap (λ (x : ℕ). follow (first_bit z) x (drawn_fragments (first_bit z) (end_bit g) pieces))
      (linked 8 (first_free (first_bit z) (end_bit g) pieces) (free_or_ahead 8 (first_bit z) (end_bit g) pieces (omega (arith, first_low z)) lie))
      ∙ follow_drawn (first_bit z) (end_bit g) pieces (omega (arith, first_low z)) lie

  two : not (eqb z (g.zones / 2)) || first_owned 2 (drawn_entries (first_bit z) (end_bit g) (map (to_block g z) (in_zone g z l))) ≡ true
  two =
      by_test (eqb z (g.zones / 2))
      (λ t. simp t (first_drawn g z (first_bit z) (end_bit g) (zone_from g z) (in_zone g z l) (zone_from_law g ok z)
      (subst⁻¹ (λ (i : ℕ). two_first (zone_from g i) (in_zone g i l) ≡ true) (eqb-true z (g.zones / 2) t) k.objects.two)))
      (λ t. simp t)

  owners : owners_fit g z (drawn_entries (first_bit z) (end_bit g) (map (to_block g z) (in_zone g z l))) ≡ true
  owners =
      and_true (every (id_fits g) drawing && every (end_fits g z) drawing) _
      (and_true (every (id_fits g) drawing) _
      (ids_drawn g z (first_bit z) (end_bit g) (in_zone g z l) (all_keep _ _ l k.numbered) (all_keep _ _ l k.fit.named))
      (ends_drawn g z g.shortest (first_bit z) (end_bit g) (zone_from g z) (zone_end g z) (in_zone g z l) (zone_from_law g ok z) (zone_end_law g ok z) (k.fit.parts z h) (k.objects.one z h)))
      two

  pub zone_written : (cross : ℕ) (b : List ℕ) → length b ≡ g.sector
      → zone_read g z (written g.idlen (first_bit z) (end_bit g) (map (to_block g z) (in_zone g z l)) cross b) ≡ answered (drawn_entries (first_bit z) (end_bit g) (map (to_block g z) (in_zone g z l)))
  zone_written cross b e =
      let W = written g.idlen (first_bit z) (end_bit g) pieces cross b in
      let top : leb 32768 (free_link W) ≡ true = le-leb 32768 (free_link W) (top_written g.idlen (first_bit z) (end_bit g) pieces cross b) in
      ap (after_cut g z W) (fragments_written g.idlen (first_bit z) (end_bit g) b (zone_bits g ok z b e) pieces (zone_drawable g l z ok k.fit h) cross)
      ∙ simp (whole, top, link_written g.idlen (first_bit z) (end_bit g) pieces cross b, followed, owners)
