-- A map written from its pieces: each zone's block is the drawing of the zone's pieces, with the cross check and the zone
-- check that go with it (document 01, "Zone check and cross check"). "Each edit writes only .. check byte, FreeLink, cross check
-- and allocation bits": every other bit is the old block's. Assumes nothing.
use Rattle.std.specs.Prelude.{Bool, List, [], ◌∷◌, ◌++◌, map, ℕ, suc, ◌+◌, ◌-◌, ◌/◌, ◌%◌, length, take, drop}
use Rattle.bits.specs.Bits.{byte_bits, bytes_of}
use Rattle.checks.specs.Words.{zone_check}
use Rattle.geometry.specs.declared.Geometry.{Geometry}
use Rattle.geometry.specs.Places.{first_bit, end_bit, block_bit}
use Rattle.model.specs.Pieces.{Piece}
use Rattle.model.specs.Drawing.{draw, link_of}
use Rattle.edits.specs.Edits.{Disc, in_zone}

-- the bits after a block's header: as they were before the zone's first bit and from its end on, the drawing between
abbrev pub new_bits : ℕ → ℕ → ℕ → List Piece → List Bool → List Bool
new_bits idlen at end ps old = take (at - 32) old ++ (draw idlen at end ps ++ drop (end - 32) old)

-- FreeLink with its top bit, the cross check, the bits, and the zone check of all that
abbrev pub sealed : ℕ → ℕ → List ℕ → List ℕ
sealed link cross body =
    let rest = (32768 + link) % 256 ∷ (32768 + link) / 256 ∷ cross ∷ body in
    zone_check (0 ∷ rest) ∷ rest

abbrev pub written : ℕ → ℕ → ℕ → List Piece → ℕ → List ℕ → List ℕ
written idlen at end ps cross block = sealed (link_of at end ps) cross (bytes_of (length block - 4) (new_bits idlen at end ps (byte_bits (drop 4 block))))

-- a piece of zone z in block bits
abbrev pub to_block : Geometry → ℕ → Piece → Piece
to_block g z p = record { at = record { start = block_bit g z p.at.start; len = p.at.len }; owner = p.owner }

-- the block of zone z with these pieces, in disc bits
abbrev pub zone_written : Geometry → ℕ → List Piece → ℕ → List ℕ → List ℕ
zone_written g z ps cross block = written g.idlen (first_bit z) (end_bit g) (map (to_block g z) ps) cross block

-- zone after zone from z on, with these pieces and cross checks
abbrev pub written_from : Geometry → List Piece → ℕ → List ℕ → List (List ℕ) → List (List ℕ)
written_from g ps z cs [] = []
written_from g ps z [] (b ∷ bs) = b ∷ bs
written_from g ps z (c ∷ cs) (b ∷ bs) = zone_written g z (in_zone g z ps) c b ∷ written_from g ps (suc z) cs bs

abbrev pub rewritten : Geometry → List (List ℕ) → Disc → List (List ℕ)
rewritten g bs s = written_from g s.pieces 0 s.cross bs
