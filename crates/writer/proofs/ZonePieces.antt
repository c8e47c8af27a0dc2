-- The pieces of a zone that can be read ascend, so the pairs of a list, which do too, can be merged into those that stay.
use mathlib.Core.Path.{◌≡◌, refl, ap, ◌∙◌, subst⁻¹}
use mathlib.Core.List.{List, [], ◌∷◌, map}
use Prim.Native.Nat.{ℕ, suc, ◌+◌, ◌-◌, ◌/◌, ◌<◌, ◌≤◌}
use native.Mathlib.Omega.{arith}
use lib.ListN.{length, take}
use lib.Seq.{take-take, length-take-le}
use borrow.Author.Tests.{eq-eqb, ne_eqb}
use Rattle.geometry.specs.declared.Geometry.{Geometry}
use Rattle.geometry.specs.Accepted.{AcceptedGeometry}
use Rattle.geometry.specs.Places.{first_bit, end_bit, disc_bit}
use Rattle.geometry.proofs.DiscBits.{from_zero_on}
use Rattle.model.specs.Chain.{onward}
use Rattle.model.specs.Blocks.{link_in, alloc_bits}
use Rattle.model.specs.Rules.{zone_block}
use Rattle.model.specs.Pieces.{Piece, owned_of, piece_to_disc}
use Rattle.model.proofs.FragmentsRead.{written_cut}
use Rattle.model.proofs.Followed.{total}
use Rattle.model.proofs.ChainDrawn.{Lies, follow_lies}
use Rattle.model.proofs.ZoneDrawn.{long_fit}
use Rattle.model.proofs.ZoneTests.{zone_tests}
use Rattle.zone.specs.Lines.{entries_in}
use Rattle.map.specs.Accepted.{ReadableFrom}
use Rattle.edits.specs.Order.{Ascending}
use Rattle.edits.specs.Edits.{not_of, without, put, own}
use Rattle.edits.specs.Judge.{pairs_from}
use Rattle.edits.proofs.PutIn.{asc_weaken, asc_keep}
use Rattle.writer.specs.declared.Piece as code
use Rattle.writer.specs.Listed.{as_pieces, Merged}
use Rattle.writer.specs.Edited.{owned_in_zone, pieces_after, PartAsks}

-- the pieces of a zone ascend, in block bits and in disc bits
lies_ascend : (at end : ℕ) (ps : List Piece) → Lies at end ps → Ascending at ps
lies_ascend at end [] l = tt
lies_ascend at end (p ∷ ps) l = (l.0, asc_weaken ps (omega (arith, l.1)) (lies_ascend (p.at.start + p.at.len) end ps l.2))

disc_ascends : (g : Geometry) → AcceptedGeometry g → (z f : ℕ) (ps : List Piece) → first_bit z ≤ f → Ascending f ps → Ascending (disc_bit g z f) (map (piece_to_disc g z) ps)
disc_ascends g ok z f [] h a = tt
disc_ascends g ok z f (p ∷ ps) h a =
    let r = disc_ascends g ok z (suc p.at.start) ps (omega (arith, a.0)) a.1 in
    (omega (arith, a.0), asc_weaken (map (piece_to_disc g z) ps) (omega (arith, from_zero_on g ok z p.at.start (omega (arith, a.0)))) r)

module _ {m : List ℕ} {g : Geometry} {z : ℕ} (a : ReadableFrom m g z) (h : z < g.zones) where
  pub zone_ascends : Ascending 0 (owned_in_zone g z (zone_block g m z))
  zone_ascends =
      let block = zone_block g m z in
      let es = entries_in g z block in
      let r = zone_tests g z block es (a.reads z (omega arith) h) in
      let w = written_cut (g.idlen - 1) (alloc_bits (first_bit z) (end_bit g) block) r.fragments r.cut in
      let l = follow_lies (first_bit z) (onward 8 (link_in block)) (first_bit z + total r.fragments) r.fragments es (long_fit (suc (g.idlen - 1)) r.fragments w.1) refl r.chain in
      asc_weaken (owned_in_zone g z block) (omega arith)
      (disc_ascends g a.numbers z (first_bit z) (owned_of es) (omega arith) (lies_ascend (first_bit z) (first_bit z + total r.fragments) (owned_of es) l))

-- what the zone has after the edit: the pieces that stay where none come, else these with the pairs merged in
module _ {m : List ℕ} {g : Geometry} {z id room : ℕ} {list : List ℕ} (q : PartAsks m g z list id room) (gone : ℕ) where
  abbrev l : List Piece
  l = owned_in_zone g z (zone_block g m z)

  pub none_come : id ≡ 0 → {ps : List Piece} → ps ≡ without gone (owned_in_zone g z (zone_block g m z)) → ps ≡ pieces_after gone id (pairs_from list) (owned_in_zone g z (zone_block g m z))
  none_come e kept = rw (eq-eqb id 0 e) kept

  -- the n pieces that stay, with room for the pairs after them
  pub some_come : (id ≡ 0 → ⊥) → (buffer : List code.Piece) (n : ℕ) → n + length list / 2 ≤ length buffer → as_pieces (take n buffer) ≡ without gone (owned_in_zone g z (zone_block g m z))
      → (new : List code.Piece) → Merged id list (take (n + length list / 2) buffer) new → as_pieces new ≡ pieces_after gone id (pairs_from list) (owned_in_zone g z (zone_block g m z))
  some_come s buffer n h kept new merged =
      let k = length list / 2 in
      let front = take (n + k) buffer in
      let e : length front - k ≡ n = omega (arith, length-take-le (n + k) buffer h) in
      let there : as_pieces (take (length front - k) front) ≡ without gone l = ap (λ (i : ℕ). as_pieces (take i front)) e ∙ ap as_pieces (take-take n (n + k) buffer (omega arith)) ∙ kept in
      let ascends : Ascending 0 (without gone l) = asc_keep (not_of gone) 0 l (zone_ascends q.reads q.zone) in
      rw (ne_eqb id 0 s) (merged q.ascending (subst⁻¹ (Ascending 0) there ascends) ∙ ap (put (map (own id) (pairs_from list))) there)
