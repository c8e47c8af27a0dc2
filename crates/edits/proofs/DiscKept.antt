-- Pieces and cross checks that an accepted map can hold: the cross checks are bytes, one for each zone, and exclusive-or to
-- 255. Each call keeps that, and a map written from them is accepted.
use mathlib.Core.Path.{◌≡◌, refl, sym, ap, ◌∙◌}
use mathlib.Core.List.{List, [], ◌∷◌}
use mathlib.Core.Option.{none}
use Prim.Native.Nat.{ℕ, zero, suc}
use native.Mathlib.Omega.{arith}
use lib.ListN.{length}
use Rattle.bits.specs.Bits.{Bytes}
use Rattle.checks.specs.Cross.{xor_sum, xor_each}
use Rattle.checks.proofs.Changes.{sum_kept}
use Rattle.geometry.specs.declared.Geometry.{Geometry}
use Rattle.geometry.specs.Accepted.{AcceptedGeometry}
use Rattle.model.specs.Chain.{Pair}
use Rattle.model.specs.Answer.{Answer, refused, answered}
use Rattle.model.specs.Check.{blocks_read}
use Rattle.edits.specs.Edits.{Disc, touched_from, touched_zones, crossed, takes, gives, Edit}
use Rattle.edits.specs.Judge.{Call, judge}
use Rattle.edits.proofs.PieceRuns.{obey, after, run}
use Rattle.edits.specs.Written.{rewritten}
use Rattle.edits.proofs.Slices.{Sized}
use Rattle.edits.proofs.PiecesKept.{AcceptedPieces, accepted_after}
use Rattle.edits.proofs.BytesKept.{cross_bytes}
use Rattle.edits.proofs.MapWritten.{drawn_zones, cross_written, checks_written, zones_written}

-- an edit changes no number of cross checks, and not their exclusive-or
pub length_each : (cs vs : List ℕ) → length (xor_each cs vs) ≡ length cs
length_each [] vs = refl
length_each (c ∷ cs) [] = refl
length_each (c ∷ cs) (v ∷ vs) = ap suc (length_each cs vs)

length_touched : (g : Geometry) (qs : List Pair) (z n : ℕ) → length (touched_from g qs z n) ≡ n
length_touched g qs z zero = refl
length_touched g qs z (suc n) = ap suc (length_touched g qs (suc z) n)

pub crossed_sum : (g : Geometry) (qs : List Pair) (cs : List ℕ) → length cs ≡ g.zones → xor_sum (crossed g qs cs) ≡ xor_sum cs
crossed_sum g qs cs h = sum_kept cs (touched_zones g qs) (h ∙ sym (length_touched g qs 0 g.zones))

pub length_obey : (g : Geometry) (v : Answer Edit) (s : Disc) → length (obey g v s).cross ≡ length s.cross
length_obey g (refused n zone) s = refl
length_obey g (answered (takes id qs)) s = length_each s.cross _
length_obey g (answered (gives id qs)) s = length_each s.cross _

sum_obey : (g : Geometry) (v : Answer Edit) (s : Disc) → length s.cross ≡ g.zones → xor_sum (obey g v s).cross ≡ xor_sum s.cross
sum_obey g (refused n zone) s h = refl
sum_obey g (answered (takes id qs)) s h = crossed_sum g qs s.cross h
sum_obey g (answered (gives id qs)) s h = crossed_sum g qs s.cross h

bytes_obey : (g : Geometry) (v : Answer Edit) (s : Disc) → Bytes s.cross → Bytes (obey g v s).cross
bytes_obey g (refused n zone) s h = h
bytes_obey g (answered (takes id qs)) s h = cross_bytes s.cross (touched_zones g qs) h
bytes_obey g (answered (gives id qs)) s h = cross_bytes s.cross (touched_zones g qs) h

pub record AcceptedDisc (g : Geometry) (s : Disc) : Type 0 where
  pub pieces : AcceptedPieces g s.pieces
  pub count : length s.cross ≡ g.zones
  pub sum : xor_sum s.cross ≡ 255
  pub bytes : Bytes s.cross

pub disc_after : (g : Geometry) (ok : AcceptedGeometry g) (s : Disc) (c : Call) → AcceptedDisc g s → AcceptedDisc g (after g s c)
disc_after g ok s c h = record {
  pieces = accepted_after g ok s h.pieces c;
  count = length_obey g (judge g none s.pieces c) s ∙ h.count;
  sum = sum_obey g (judge g none s.pieces c) s h.count ∙ h.sum;
  bytes = bytes_obey g (judge g none s.pieces c) s h.bytes;
}

pub disc_run : (g : Geometry) (ok : AcceptedGeometry g) (s : Disc) (cs : List Call) → AcceptedDisc g s → AcceptedDisc g (run g s cs)
disc_run g ok s [] h = h
disc_run g ok s (c ∷ cs) h = disc_run g ok (after g s c) cs (disc_after g ok s c h)

-- a map written from them is accepted
pub blocks_written : (g : Geometry) (ok : AcceptedGeometry g) (bs : List (List ℕ)) (s : Disc) → Sized g.sector bs → length bs ≡ g.zones → AcceptedDisc g s
    → blocks_read g (rewritten g bs s) ≡ answered (drawn_zones g 0 (length bs) s.pieces)
blocks_written g ok bs s y e h =
    simp (checks_written g s.pieces 0 0 s.cross bs (h.count ∙ sym e), cross_written g s.pieces 0 s.cross bs (h.count ∙ sym e), h.sum)
    (zones_written g ok s.pieces 0 s.cross bs h.pieces y (h.count ∙ sym e) (omega arith))
