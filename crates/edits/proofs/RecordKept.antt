-- A map written keeps its disc record: the record's bytes lie before zone 0's first allocation bit, equal bits are equal
-- bytes, and so the geometry stays.
use mathlib.Core.Path.{◌≡◌, refl, sym, ap, ◌∙◌}
use mathlib.Core.Bool.{Bool}
use mathlib.Core.List.{List, [], ◌∷◌, ◌++◌, map, append_cancel_left}
use Prim.Native.Nat.{ℕ, zero, suc, ◌+◌, ◌-◌, ◌*◌, ◌<◌, ◌≤◌}
use native.Mathlib.Omega.{arith}
use lib.ListN.{length, take, drop, length-drop}
use lib.Seq.{length-take-le, take_at, take-take, take-add, take-append-le, drop-append-le}
use Rattle.bits.specs.Bits.{value, byte_bits, bytes_of, Bytes}
use Rattle.bits.proofs.Bytes.{length_byte_bits, bytes_bits}
use Rattle.geometry.specs.declared.Geometry.{Geometry}
use Rattle.geometry.specs.Accepted.{AcceptedGeometry}
use Rattle.geometry.specs.Places.{end_bit}
use Rattle.geometry.specs.Record.{disc_record}
use Rattle.model.specs.Blocks.{flat}
use Rattle.model.specs.Pieces.{Piece}
use Rattle.model.specs.Drawing.{draw}
use Rattle.edits.specs.Edits.{in_zone}
use Rattle.edits.specs.Written.{new_bits, written, to_block, written_from}
use Rattle.edits.proofs.BlockWritten.{bytes_from, length_written}
use Rattle.edits.proofs.Slices.{Sized, bytes_left}

-- equal bits up to a byte's edge spell equal bytes up to there
bytes_same_front : (n w : ℕ) (l r : List Bool) → n ≤ w → take (8 * n) l ≡ take (8 * n) r → take n (bytes_of w l) ≡ take n (bytes_of w r)
bytes_same_front zero w l r h e = refl
bytes_same_front (suc n) zero l r h e = refl
bytes_same_front (suc n) (suc w) l r h e =
    let m : 8 * suc n ≡ 8 + 8 * n = omega arith in
    let first : take 8 l ≡ take 8 r = sym (take-take 8 (8 * suc n) l (omega arith)) ∙ ap (take 8) e ∙ take-take 8 (8 * suc n) r (omega arith) in
    let joined : take 8 l ++ take (8 * n) (drop 8 l) ≡ take 8 l ++ take (8 * n) (drop 8 r) =
    sym (take-add 8 (8 * n) l) ∙ (rw m at e) ∙ take-add 8 (8 * n) r ∙ ap (λ (x : List Bool). x ++ take (8 * n) (drop 8 r)) (sym first) in
    λ i. value (first i) ∷ bytes_same_front n w (drop 8 l) (drop 8 r) (omega arith) (append_cancel_left (take 8 l) (take (8 * n) (drop 8 l)) (take (8 * n) (drop 8 r)) joined) i

-- the record is in the first block
record_first : (b : List ℕ) (bs : List (List ℕ)) → 64 ≤ length b → disc_record (flat (b ∷ bs)) ≡ disc_record b
record_first b bs h =
    ap (take 60) (drop-append-le 4 b (flat bs) (omega arith)) ∙ take-append-le 60 (drop 4 b) (flat bs) (simp length-drop (omega arith))

pub record_written : (idlen end cross : ℕ) (b : List ℕ) (ps : List Piece) → 64 ≤ length b → Bytes b → disc_record (written idlen 512 end ps cross b) ≡ disc_record b
record_written idlen end cross b ps h y =
    let old = byte_bits (drop 4 b) in
    let size : length (drop 4 b) ≡ length b - 4 = length-drop 4 b in
    let front : take 480 (new_bits idlen 512 end ps old) ≡ take 480 old =
    take_at (take 480 old) (draw idlen 512 end ps ++ drop (end - 32) old) 480 (length-take-le 480 old (omega (arith, length_byte_bits (drop 4 b)))) in
    bytes_same_front 60 (length b - 4) (new_bits idlen 512 end ps old) old (omega arith) front
    ∙ ap (λ (n : ℕ). take 60 (bytes_of n old)) (sym size)
    ∙ ap (take 60) (bytes_bits (drop 4 b) (bytes_from 4 b y))

pub same_record : (g : Geometry) (l : List Piece) (cs : List ℕ) (bs : List (List ℕ)) → AcceptedGeometry g → 0 < length bs → Sized g.sector bs → Bytes (flat bs) → length cs ≡ length bs
    → disc_record (flat (written_from g l 0 cs bs)) ≡ disc_record (flat bs)
same_record g l cs [] ok n y b e = absurd (omega arith)
same_record g l [] (b ∷ bs) ok n y h e = absurd (omega arith)
same_record g l (c ∷ cs) (b ∷ bs) ok n y h e =
    let ps = map (to_block g 0) (in_zone g 0 l) in
    let size : 64 ≤ length b = omega (arith, ok.sector_low, y.0) in
    record_first (written g.idlen 512 (end_bit g) ps c b) (written_from g l 1 cs bs) (omega (arith, length_written g.idlen 512 (end_bit g) ps c b (omega arith)))
    ∙ record_written g.idlen (end_bit g) c b ps size (bytes_left b (flat bs) h)
    ∙ sym (record_first b bs size)
