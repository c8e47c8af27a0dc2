-- Discs that are formatted (document 02, R-13), as rows like those of Table. Assumes nothing.
use Rattle.std.specs.Prelude.{List, [], ◌∷◌, ℕ, ◌+◌, ◌-◌, ◌*◌, replicate}
use Rattle.checks.specs.Maps.{with_bytes, map_a, map_d}
use Rattle.bench.specs.Questions.{check, list, free, claim, format, format_length}
use Rattle.bench.specs.Table.{Row, row, lent}

-- drawn, and the map afterwards
abbrev drawn : List ℕ → List ℕ
drawn m = 0 ∷ 0 ∷ m

-- bytes lent for a map of 256, and for one of 512
abbrev dirty : List ℕ
dirty = replicate 256 0xA5

abbrev dirty_two : List ℕ
dirty_two = replicate 512 0xA5

-- A and D with 256 bytes to a map bit: the discs of 1,536 and 3,552 bits, which are all of their maps
abbrev blank_a : List ℕ
blank_a = with_bytes ((0, 0xD7) ∷ (9, 0x08) ∷ (22, 0x06) ∷ []) map_a

abbrev blank_d : List ℕ
blank_d = with_bytes ((0, 0x21) ∷ (9, 0x08) ∷ (21, 0xE0) ∷ (22, 0x0D) ∷ []) map_d

-- A disc of 24 bits: object 2 at (0,12), object 1 at (24,1512), and 12 free bits between. One of 23: they would be 11, and are object 2's. One of
-- 12: none is free, and FreeLink is 0. One of a bit less than A's: object 1 reaches back, to (1524,12).
abbrev blank24 : List ℕ
blank24 = with_bytes ((0, 0x9B) ∷ (21, 0x18) ∷ (22, 0x00) ∷ (66, 0x80) ∷ (67, 0x01) ∷ []) blank_a

abbrev blank23 : List ℕ
blank23 = with_bytes ((0, 0xD5) ∷ (1, 0x00) ∷ (2, 0x80) ∷ (21, 0x17) ∷ (22, 0x00) ∷ (65, 0x00) ∷ (66, 0xC0) ∷ []) blank_a

abbrev blank12 : List ℕ
blank12 = with_bytes ((0, 0xE7) ∷ (1, 0x00) ∷ (2, 0x80) ∷ (21, 0x0C) ∷ (22, 0x00) ∷ (65, 0x18) ∷ []) blank_a

abbrev blank1535 : List ℕ
blank1535 = with_bytes ((0, 0xBE) ∷ (21, 0xFF) ∷ (22, 0x05) ∷ (254, 0x18) ∷ []) blank_a

-- A disc of one bit more than D's: three zones, in the last of which object 1 takes the bit before the disc's end too.
abbrev blank_three : List ℕ
blank_three =
    with_bytes
    ((0, 0x27) ∷ (1, 0xF8) ∷ (2, 0x81) ∷ (3, 0xFF) ∷ (4, 0x08) ∷ (8, 0x0B) ∷ (9, 0x08) ∷ (13, 0x03) ∷ (14, 0x20) ∷ (21, 0xE1) ∷ (22, 0x0D) ∷ (255, 0x80)
    ∷ (256, 0x2E) ∷ (257, 0x24) ∷ (258, 0x80) ∷ (260, 0x02) ∷ (261, 0x08) ∷ (511, 0x80)
    ∷ (512, 0x01) ∷ (514, 0x80) ∷ (516, 0x01) ∷ (767, 0x80) ∷ [])
    (replicate 768 0)

abbrev mbytes : ℕ → ℕ
mbytes n = n * 1048576

abbrev pub format_table : List Row
format_table =
    -- whatever the buffer holds, every byte is written
    row (format 8 (256 * 1536) 11 dirty) (drawn blank_a)
    ∷ row (format 8 (256 * 3552) 11 dirty_two) (drawn blank_d)
    -- "The drawn map must be accepted and list exactly these owners"
    ∷ row (check blank_a) (0 ∷ 0 ∷ [])
    ∷ row (list blank24 2 lent) (0 ∷ 0 ∷ 1 ∷ 0 ∷ 12 ∷ 9 ∷ 9 ∷ [])
    ∷ row (list blank24 1 lent) (0 ∷ 0 ∷ 1 ∷ 24 ∷ 1512 ∷ 9 ∷ 9 ∷ [])
    ∷ row (free blank24 lent) (0 ∷ 0 ∷ 1 ∷ 12 ∷ 12 ∷ 9 ∷ 9 ∷ [])
    ∷ row (claim blank24 1 0 lent) (0 ∷ 0 ∷ 3 ∷ 1 ∷ 12 ∷ 12 ∷ 9 ∷ 9 ∷ [])
    -- "the map's overhang, if any, in object 1 (reaching back to m bits if shorter)"
    ∷ row (format 8 (256 * 24) 11 dirty) (drawn blank24)
    ∷ row (format 8 (256 * 1535) 11 dirty) (drawn blank1535)
    -- "A stretch shorter than m goes to object 2 if it directly follows object 2"
    ∷ row (format 8 (256 * 23) 11 dirty) (drawn blank23)
    ∷ row (format 8 (256 * 12) 11 dirty) (drawn blank12)
    -- ", else to the overhang it precedes"
    ∷ row (format 8 (256 * 3553) 11 (replicate 768 0xA5)) (drawn blank_three)
    -- "If object 2 and the overhang can't both be drawn, refuse with 2": 11 bits before the disc's end; in two zones, one bit.
    ∷ row (format 8 (256 * 11) 11 dirty) (2 ∷ 0 ∷ dirty)
    ∷ row (format 8 (256 * 1537) 11 dirty_two) (2 ∷ 0 ∷ dirty_two)
    -- "A map buffer of the wrong length is refused with 1, after every 2."
    ∷ row (format 8 (256 * 1536) 11 (9 ∷ [])) (1 ∷ 0 ∷ 9 ∷ [])
    ∷ row (format 8 (256 * 1536) 11 dirty_two) (1 ∷ 0 ∷ dirty_two)
    ∷ row (format 8 (256 * 11) 11 (9 ∷ [])) (2 ∷ 0 ∷ 9 ∷ [])
    -- the 800K and 1,600K floppies
    ∷ row (format_length 10 819200 15) (0 ∷ 0 ∷ 1024 ∷ [])
    ∷ row (format_length 10 1638400 15) (0 ∷ 0 ∷ 1024 ∷ [])
    -- "limits included": with one sector more a map bit has twice the bytes, and the map half the zones; above the last there is none
    ∷ row (format_length 9 (mbytes 124) 15) (0 ∷ 0 ∷ 64512 ∷ [])
    ∷ row (format_length 9 (mbytes 124 + 512) 15) (0 ∷ 0 ∷ 32256 ∷ [])
    ∷ row (format_length 9 (mbytes 249) 15) (0 ∷ 0 ∷ 64512 ∷ [])
    ∷ row (format_length 9 (mbytes 249 + 512) 15) (0 ∷ 0 ∷ 32256 ∷ [])
    ∷ row (format_length 9 (mbytes 499) 15) (0 ∷ 0 ∷ 64512 ∷ [])
    ∷ row (format_length 9 (mbytes 499 + 512) 15) (0 ∷ 0 ∷ 32256 ∷ [])
    ∷ row (format_length 9 (mbytes 999) 15) (0 ∷ 0 ∷ 64512 ∷ [])
    ∷ row (format_length 9 (mbytes 999 + 512) 15) (2 ∷ 0 ∷ 0 ∷ [])
    -- "0 or no multiple of the sector"; one sector alone
    ∷ row (format_length 8 0 11) (2 ∷ 0 ∷ 0 ∷ [])
    ∷ row (format_length 8 (256 * 1536 - 1) 11) (2 ∷ 0 ∷ 0 ∷ [])
    ∷ row (format_length 9 (256 * 1535) 12) (2 ∷ 0 ∷ 0 ∷ [])
    ∷ row (format_length 8 256 11) (2 ∷ 0 ∷ 0 ∷ [])
    -- "within the record's ranges for version 0": log2secsize 8 to 10, idlen log2secsize + 3 to 15, and P*nzones at most 2^idlen
    ∷ row (format_length 7 (256 * 1536) 11) (2 ∷ 0 ∷ 0 ∷ [])
    ∷ row (format_length 11 (2048 * 1536) 15) (2 ∷ 0 ∷ 0 ∷ [])
    ∷ row (format_length 8 (256 * 1536) 10) (2 ∷ 0 ∷ 0 ∷ [])
    ∷ row (format_length 8 (256 * 1536) 16) (2 ∷ 0 ∷ 0 ∷ [])
    ∷ row (format_length 9 (mbytes 124) 14) (2 ∷ 0 ∷ 0 ∷ [])
    ∷ row (format_length 8 (mbytes 124) 15) (0 ∷ 0 ∷ 64768 ∷ [])
    ∷ []
