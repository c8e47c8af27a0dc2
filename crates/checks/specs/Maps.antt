-- Maps A and B of document 01, "Bench examples", as its lines give them: the non-zero bytes of A, and what B changes in it.
-- Assumes nothing.
use Rattle.std.specs.Prelude.{ℕ, List, [], ◌∷◌, set, replicate}

-- bytes put in at their places
abbrev pub with_bytes : List (ℕ × ℕ) → List ℕ → List ℕ
with_bytes [] m = m
with_bytes (b ∷ bs) m = with_bytes bs (set m b.0 b.1)

-- "Non-zero bytes: 0=C7, 1=04, 2=82, 3=FF, 4=08, 8=0B, 9=0A, 13=01, 14=20, 22=18, 64=02, 65=08, 255=80 (hex values)." The header,
-- the disc record, the allocation bits.
abbrev pub map_a : List ℕ
map_a =
    with_bytes
    ((0, 0xC7) ∷ (1, 0x04) ∷ (2, 0x82) ∷ (3, 0xFF)
    ∷ (4, 0x08) ∷ (8, 0x0B) ∷ (9, 0x0A) ∷ (13, 0x01) ∷ (14, 0x20) ∷ (22, 0x18)
    ∷ (64, 0x02) ∷ (65, 0x08) ∷ (255, 0x80) ∷ [])
    (replicate 256 0)

-- "Map B is A with object 5 placed at (12,20): then 0=28, 1=18, 65=58, 67=80."
abbrev pub map_b : List ℕ
map_b = with_bytes ((0, 0x28) ∷ (1, 0x18) ∷ (65, 0x58) ∷ (67, 0x80) ∷ []) map_a

-- Map D, ours: A's record with two zones and disc_size 3,637,248; zone 0 free, in zone 1 object 2 at (1536,12) and the rest free. Zone 0's
-- header, the disc record, zone 0's allocation bits; zone 1's header, its allocation bits.
abbrev pub map_d : List ℕ
map_d =
    with_bytes
    ((0, 0x31) ∷ (1, 0xF8) ∷ (2, 0x81) ∷ (3, 0xFF)
    ∷ (4, 0x08) ∷ (8, 0x0B) ∷ (9, 0x0A) ∷ (13, 0x02) ∷ (14, 0x20) ∷ (21, 0x80) ∷ (22, 0x37)
    ∷ (255, 0x80)
    ∷ (256, 0x2E) ∷ (257, 0x24) ∷ (258, 0x80)
    ∷ (260, 0x02) ∷ (261, 0x08) ∷ (511, 0x80) ∷ [])
    (replicate 512 0)
