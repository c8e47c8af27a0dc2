-- A map written is of bytes again: eight bits spell a byte, the zone check is an exclusive-or of bytes, a link is short, and
-- a cross check changes by at most 3.
use mathlib.Core.Path.{◌≡◌}
use mathlib.Core.Bool.{Bool, true, false}
use mathlib.Core.List.{List, [], ◌∷◌, ◌++◌, map}
use Prim.Native.Nat.{ℕ, zero, suc, ◌+◌, ◌-◌, ◌/◌, ◌%◌, ◌<◌, ◌≤◌}
use native.Mathlib.Nat.{lt_of_lt_of_le}
use native.Mathlib.Omega.{arith}
use lib.Dec.{eqb, ltb, leb}
use lib.Pow.{pow_mono}
use lib.Bits.{bit_xor, xor_lt}
use lib.ListN.{length, take, drop, length-take}
use borrow.Author.Tests.{ltb-true}
use Rattle.bits.specs.Bits.{byte_bits, bytes_of, Bytes}
use Rattle.bits.proofs.Tests.{by_test}
use Rattle.bits.proofs.Digits.{value_lt}
use Rattle.checks.specs.Words.{zone_check, words_of, total}
use Rattle.checks.specs.Cross.{cross_of, amount, touched_count, changes_from, changes, xor_each}
use Rattle.geometry.specs.declared.Geometry.{Geometry}
use Rattle.geometry.specs.Accepted.{AcceptedGeometry}
use Rattle.geometry.specs.Places.{first_bit, end_bit}
use Rattle.model.specs.Blocks.{flat}
use Rattle.model.specs.Pieces.{Piece}
use Rattle.model.specs.Drawing.{first_free}
use Rattle.model.proofs.ChainDrawn.{Lies}
use Rattle.model.proofs.ZoneDrawn.{lies, lies_le}
use Rattle.edits.specs.Edits.{in_zone}
use Rattle.edits.proofs.Invariant.{FitPieces}
use Rattle.edits.specs.Written.{new_bits, written, to_block, written_from}
use Rattle.edits.proofs.BlockWritten.{byte_at}
use Rattle.edits.proofs.Slices.{EachBytes}
use Rattle.edits.proofs.ZoneDrawable.{zone_drawable}

-- bits spell bytes
spelled : (n : ℕ) (bs : List Bool) → Bytes (bytes_of n bs)
spelled zero bs = tt
spelled (suc n) bs = (lt_of_lt_of_le (value_lt (take 8 bs)) (pow_mono {i = length (take 8 bs)} {j = 8} (simp length-take (omega arith))), spelled n (drop 8 bs))

-- a zone check is a byte
pub check_is_byte : (b : List ℕ) → zone_check b < 256
unfolding zone_check
check_is_byte b =
    let t = total (words_of (0 ∷ drop 1 b)) in
    xor_lt 8 (bit_xor (t % 256) (t / 256 % 256)) (bit_xor (t / 65536 % 256) (t / 16777216 % 256))
    (xor_lt 8 (t % 256) (t / 256 % 256) (omega arith) (omega arith))
    (xor_lt 8 (t / 65536 % 256) (t / 16777216 % 256) (omega arith) (omega arith))

-- a link leads to a bit of the zone
pub first_free_le : (at end : ℕ) (ps : List Piece) → Lies at end ps → first_free at end ps ≤ end
first_free_le at end [] l = by_test (ltb at end) (λ t. simp t (omega (arith, ltb-true at end t))) (λ t. simp t (omega arith))
first_free_le at end (p ∷ ps) l =
    by_test (ltb at p.at.start)
    (λ t. simp t (omega (arith, lies_le (p.at.start + p.at.len) end ps l.2)))
    (λ t. simp t (first_free_le (p.at.start + p.at.len) end ps l.2))

-- cross checks change by at most 3
amount_le : (n i : ℕ) → amount n i ≤ 3
amount_le n i =
    by_test (leb n 1)
    (λ t. simp t (omega arith))
    (λ t. by_test (eqb (n % 2) 0)
    (λ u. simp (t, u) (omega arith))
    (λ u. by_test (ltb i 3) (λ v. simp (t, u, v) (omega (arith, ltb-true i 3 v))) (λ v. simp (t, u, v) (omega arith))))

changes_bytes : (n i : ℕ) (zs : List Bool) → Bytes (changes_from n i zs)
changes_bytes n i [] = tt
changes_bytes n i (true ∷ zs) = (omega (arith, amount_le n i), changes_bytes n (suc i) zs)
changes_bytes n i (false ∷ zs) = (omega arith, changes_bytes n i zs)

each_bytes_xor : (cs vs : List ℕ) → Bytes cs → Bytes vs → Bytes (xor_each cs vs)
each_bytes_xor [] vs h k = tt
each_bytes_xor (c ∷ cs) [] h k = h
each_bytes_xor (c ∷ cs) (v ∷ vs) h k = (xor_lt 8 c v h.0 k.0, each_bytes_xor cs vs h.1 k.1)

pub cross_bytes : (cs : List ℕ) (zs : List Bool) → Bytes cs → Bytes (xor_each cs (changes zs))
cross_bytes cs zs h = each_bytes_xor cs (changes zs) h (changes_bytes (touched_count zs) 0 zs)

pub crosses_of_bytes : (bs : List (List ℕ)) → EachBytes bs → Bytes (map cross_of bs)
crosses_of_bytes [] h = tt
crosses_of_bytes (b ∷ bs) h = (byte_at b 3 h.0, crosses_of_bytes bs h.1)

-- a block written, and a map
pub bytes_written : (idlen at end : ℕ) (ps : List Piece) (cross : ℕ) (b : List ℕ) → Lies at end ps → end ≤ 8192 → cross < 256 → Bytes (written idlen at end ps cross b)
bytes_written idlen at end ps cross b l h c =
    let k = first_free_le at end ps l in
    (check_is_byte _, (omega arith, (omega arith, (c, spelled (length b - 4) (new_bits idlen at end ps (byte_bits (drop 4 b)))))))

pub bytes_append : (a b : List ℕ) → Bytes a → Bytes b → Bytes (a ++ b)
bytes_append [] b h k = k
bytes_append (x ∷ a) b h k = (h.0, bytes_append a b h.1 k)

pub map_bytes_written : (g : Geometry) (l : List Piece) (z : ℕ) (cs : List ℕ) (bs : List (List ℕ)) → AcceptedGeometry g → FitPieces g l → Bytes cs → length cs ≡ length bs → z + length bs ≤ g.zones
    → Bytes (flat (written_from g l z cs bs))
map_bytes_written g l z cs [] ok k c e h = tt
map_bytes_written g l z [] (b ∷ bs) ok k c e h = absurd (omega arith)
map_bytes_written g l z (c ∷ cs) (b ∷ bs) ok k w e h =
    let ps = map (to_block g z) (in_zone g z l) in
    let y : Lies (first_bit z) (end_bit g) ps = lies g.idlen (first_bit z) (end_bit g) ps (zone_drawable g l z ok k (omega arith)) in
    bytes_append (written g.idlen (first_bit z) (end_bit g) ps c b) (flat (written_from g l (suc z) cs bs))
    (bytes_written g.idlen (first_bit z) (end_bit g) ps c b y (omega (arith, ok.bits_high)) w.0)
    (map_bytes_written g l (suc z) cs bs ok k w.1 (omega arith) (omega arith))
