-- Document 01, "Bench examples": its rows, each a question and the numbers that it is answered with, and rows of our own. Assumes nothing.
use Rattle.std.specs.Prelude.{true, false, List, [], ◌∷◌, ◌++◌, ℕ, replicate}
use Rattle.geometry.specs.Record.{geometry_from, geometry_of, floppy_disc, eight_zones, drive_of, plus_disc}
use Rattle.checks.specs.Maps.{with_bytes, map_a, map_b, map_d}
use Rattle.edits.specs.Judge as call
use Rattle.station.specs.Station.{written}
use Rattle.bench.specs.Questions.{Question, record_read, check, list, free, address, sweep_object, sweep_free, counted, counted_free}
use Rattle.bench.specs.Questions.{release, place, claim, choose, copy_over, copy_addresses, after, start, sizes, bits_for, change, answer}

pub record Row : Type 0 where
  pub question : Question
  pub numbers : List ℕ

abbrev pub answered : Row → List ℕ
answered r = answer r.question

abbrev pub expected : Row → List ℕ
expected r = r.numbers

abbrev pub row : Question → List ℕ → Row
row q ns = record { question = q; numbers = ns }

-- a lent list of four entries
abbrev pub lent : List ℕ
lent = 9 ∷ 9 ∷ 9 ∷ 9 ∷ []

-- A with object 4 placed at (24,12)
abbrev map_c : List ℕ
map_c = with_bytes ((0, 0x35) ∷ (65, 0x88) ∷ (66, 0x81) ∷ (67, 0x04) ∷ (68, 0x08) ∷ []) map_a

-- D with object 168, whose start zone is 1, placed at (1548,12) and then (0,12): an edit of two zones
abbrev map_e : List ℕ
map_e =
    with_bytes
    ((0, 0x84) ∷ (1, 0x04) ∷ (2, 0x82) ∷ (3, 0xFE) ∷ (64, 0xA8) ∷ (65, 0x08)
    ∷ (256, 0x32) ∷ (257, 0x30) ∷ (259, 0x01) ∷ (261, 0x88) ∷ (262, 0x8A) ∷ [])
    map_d

-- D with another zone check in zone 1
abbrev spoilt_d : List ℕ
spoilt_d = with_bytes ((256, 0x2F) ∷ []) map_d

-- A with object 5 placed in two pieces that touch, (12,12) and (24,12)
abbrev two_pieces : List ℕ
two_pieces = with_bytes ((0, 0xDD) ∷ (1, 0x1C) ∷ (65, 0x58) ∷ (66, 0x80) ∷ (67, 0x05) ∷ (68, 0x08) ∷ []) map_a

-- the record of the 800K floppy, as bytes, in a map of 64
abbrev floppy_bytes : List ℕ
floppy_bytes =
    with_bytes ((4, 0x0A) ∷ (8, 0x0F) ∷ (9, 0x07) ∷ (13, 0x01) ∷ (14, 0x20) ∷ (15, 0x05) ∷ (21, 0x80) ∷ (22, 0x0C) ∷ []) (replicate 64 0)

-- A's record with these bytes
abbrev record_a : List (ℕ × ℕ) → Question
record_a bs = record_read (with_bytes bs map_a)

-- A with rubbish after the 32 bytes of its record, and the zone check that goes with it
abbrev dirty_a : List ℕ
dirty_a = with_bytes ((0, 0xC4) ∷ (36, 0x01) ∷ []) map_a

-- A's record as E+ (document 02, R-12), and these bytes
abbrev plus_record : List (ℕ × ℕ) → Question
plus_record bs = record_a ((48, 0x01) ∷ bs)

-- with ids of 19 bits and zones of 500 map bits: this is the low byte of nzones, and these are the other bytes
abbrev plus_zones : ℕ → List (ℕ × ℕ) → Question
plus_zones low bs = plus_record ((8, 0x13) ∷ (13, low) ∷ (14, 0x0C) ∷ (15, 0x06) ∷ bs)

-- A as E+; and the same with ids of 19 bits: object 2 is (0,20), free is (20,1516)
abbrev pub plus_a : List ℕ
plus_a = with_bytes ((0, 0xC4) ∷ (48, 0x01) ∷ []) map_a

abbrev long_ids : List ℕ
long_ids = with_bytes ((0, 0xB4) ∷ (1, 0x0C) ∷ (8, 0x13) ∷ (48, 0x01) ∷ (65, 0x00) ∷ (66, 0x08) ∷ []) map_a

-- D with two free fragments of zone 1 that touch, (1548,12) and (1560,1992)
abbrev pub touching_d : List ℕ
touching_d = with_bytes ((256, 0x6F) ∷ (261, 0xC8) ∷ (262, 0x80) ∷ []) map_d

-- A's record with four zones and disc_size 7,766,016, object 2 in zone 2 and all else free; and with object 5 placed in all four zones
abbrev pub map_f : List ℕ
map_f =
    with_bytes
    ((0, 0x0D) ∷ (1, 0xF8) ∷ (2, 0x81) ∷ (3, 0xFF)
    ∷ (4, 0x08) ∷ (8, 0x0B) ∷ (9, 0x0A) ∷ (13, 0x04) ∷ (14, 0x20) ∷ (21, 0x80) ∷ (22, 0x76)
    ∷ (255, 0x80)
    ∷ (256, 0x18) ∷ (257, 0x18) ∷ (258, 0x80) ∷ (511, 0x80)
    ∷ (512, 0x2E) ∷ (513, 0x24) ∷ (514, 0x80) ∷ (516, 0x02) ∷ (517, 0x08) ∷ (767, 0x80)
    ∷ (768, 0x18) ∷ (769, 0x18) ∷ (770, 0x80) ∷ (1023, 0x80) ∷ [])
    (replicate 1024 0)

abbrev map_g : List ℕ
map_g =
    with_bytes
    ((0, 0xE5) ∷ (1, 0x04) ∷ (2, 0x82) ∷ (3, 0xFE) ∷ (64, 0x05) ∷ (65, 0x08)
    ∷ (256, 0x28) ∷ (257, 0x24) ∷ (259, 0x01) ∷ (260, 0x05) ∷ (261, 0x08)
    ∷ (512, 0x08) ∷ (513, 0x30) ∷ (515, 0x01) ∷ (517, 0x58) ∷ (518, 0x80)
    ∷ (768, 0x28) ∷ (769, 0x24) ∷ (771, 0x01) ∷ (772, 0x05) ∷ (773, 0x08) ∷ [])
    map_f

abbrev pub table : List Row
table =
    -- "Map A: log2secsize 8, idlen 11, log2bpmb 10, nzones 1, zone_spare 32, disc_size 1,572,864."
    row (record_read map_a) (0 ∷ 0 ∷ [])
    ∷ row (sizes (geometry_of map_a)) (2016 ∷ 12 ∷ 168 ∷ 1572864 ∷ [])
    -- "A is accepted; object 2 is (0,12), free is (12,1524)."
    ∷ row (check map_a) (0 ∷ 0 ∷ [])
    ∷ row (list map_a 2 lent) (0 ∷ 0 ∷ 1 ∷ 0 ∷ 12 ∷ 9 ∷ 9 ∷ [])
    ∷ row (free map_a lent) (0 ∷ 0 ∷ 1 ∷ 12 ∷ 1524 ∷ 9 ∷ 9 ∷ [])
    -- "B is accepted; object 5 is (12,20), free is (32,1504). Release of 5 gives A."
    ∷ row (check map_b) (0 ∷ 0 ∷ [])
    ∷ row (list map_b 5 lent) (0 ∷ 0 ∷ 1 ∷ 12 ∷ 20 ∷ 9 ∷ 9 ∷ [])
    ∷ row (free map_b lent) (0 ∷ 0 ∷ 1 ∷ 32 ∷ 1504 ∷ 9 ∷ 9 ∷ [])
    ∷ row (release map_b 5 lent) (0 ∷ 0 ∷ 1 ∷ 12 ∷ 20 ∷ 9 ∷ 9 ∷ [])
    ∷ row (after map_b (call.release 5 4)) map_a
    -- "A, place 5: (12,11) 12; (12,1512) done; (12,1513) 13; (12,1524) done; (23,12) 13; (24,12) done."
    ∷ row (place map_a 5 (12 ∷ 11 ∷ [])) (12 ∷ 0 ∷ [])
    ∷ row (place map_a 5 (12 ∷ 1512 ∷ [])) (0 ∷ 0 ∷ [])
    ∷ row (place map_a 5 (12 ∷ 1513 ∷ [])) (13 ∷ 0 ∷ [])
    ∷ row (place map_a 5 (12 ∷ 1524 ∷ [])) (0 ∷ 0 ∷ [])
    ∷ row (place map_a 5 (23 ∷ 12 ∷ [])) (13 ∷ 0 ∷ [])
    ∷ row (place map_a 5 (24 ∷ 12 ∷ [])) (0 ∷ 0 ∷ [])
    -- "A, claim: 1 byte gives id 3, (12,12); 1,548,288 gives (12,1512); 1,548,289 gives (12,1524); 1,560,576 gives (12,1524); one
    -- more 15." "The claim examples read "parent zone 0"" (document 02, R-6), and so do our own where nothing else is said.
    ∷ row (claim map_a 1 0 lent) (0 ∷ 0 ∷ 3 ∷ 1 ∷ 12 ∷ 12 ∷ 9 ∷ 9 ∷ [])
    ∷ row (claim map_a 1548288 0 lent) (0 ∷ 0 ∷ 3 ∷ 1 ∷ 12 ∷ 1512 ∷ 9 ∷ 9 ∷ [])
    ∷ row (claim map_a 1548289 0 lent) (0 ∷ 0 ∷ 3 ∷ 1 ∷ 12 ∷ 1524 ∷ 9 ∷ 9 ∷ [])
    ∷ row (claim map_a 1560576 0 lent) (0 ∷ 0 ∷ 3 ∷ 1 ∷ 12 ∷ 1524 ∷ 9 ∷ 9 ∷ [])
    ∷ row (claim map_a 1560577 0 lent) (15 ∷ 0 ∷ 0 ∷ 0 ∷ lent)
    -- "B, address: 0x000503 at 0 is 12,800; 0x000500 and 0x000501 at 19,967 both give 32,255; 0x000503 at 19,968 is refused with 16."
    -- "the address examples gain this number: for map B, 0x000503 at 0 has 19,968" (document 02, R-11).
    ∷ row (address map_b 0x000503 0) (0 ∷ 0 ∷ 12800 ∷ 19968 ∷ [])
    ∷ row (address map_b 0x000500 19967) (0 ∷ 0 ∷ 32255 ∷ 513 ∷ [])
    ∷ row (address map_b 0x000501 19967) (0 ∷ 0 ∷ 32255 ∷ 513 ∷ [])
    ∷ row (address map_b 0x000503 19968) (16 ∷ 0 ∷ 0 ∷ 0 ∷ [])
    -- "B, sweep of 5, address 12,000, 1,000 bytes: 712. Empty stretch at 1,572,864: 0; one byte there: 16."
    ∷ row (counted map_b 5 12000 1000) (0 ∷ 0 ∷ 712 ∷ [])
    ∷ row (counted map_b 5 1572864 0) (0 ∷ 0 ∷ 0 ∷ [])
    ∷ row (counted map_b 5 1572864 1) (16 ∷ 0 ∷ 0 ∷ [])
    -- "Id 167 is absent in A (10); 168 is 8; release of 2 is 8."
    ∷ row (list map_a 167 lent) (10 ∷ 0 ∷ 0 ∷ 9 ∷ 9 ∷ 9 ∷ 9 ∷ [])
    ∷ row (list map_a 168 lent) (8 ∷ 0 ∷ 0 ∷ 9 ∷ 9 ∷ 9 ∷ 9 ∷ [])
    ∷ row (release map_a 2 lent) (8 ∷ 0 ∷ 0 ∷ 9 ∷ 9 ∷ 9 ∷ 9 ∷ [])
    -- "Id 690 with 168 ids per zone: start zone 4 (document 000)."
    ∷ row (sizes (geometry_from eight_zones)) (2016 ∷ 12 ∷ 168 ∷ 12582912 ∷ [])
    ∷ row (start (geometry_from eight_zones) 690) (0 ∷ 0 ∷ 4 ∷ [])
    -- "Zones 1,4 change by 1,1; zones 0,2,3,6,7 by 1,2,3,1,1."
    ∷ row (change (false ∷ true ∷ false ∷ false ∷ true ∷ [])) (0 ∷ 1 ∷ 0 ∷ 0 ∷ 1 ∷ [])
    ∷ row (change (true ∷ false ∷ true ∷ true ∷ false ∷ false ∷ true ∷ true ∷ [])) (1 ∷ 0 ∷ 2 ∷ 3 ∷ 0 ∷ 0 ∷ 1 ∷ 1 ∷ [])
    -- "log2secsize 10, idlen 15, log2bpmb 7, one zone, zone_spare 1312: Z 6880, m 16, P 430, 819,200 bytes."
    ∷ row (sizes (geometry_from (floppy_disc 15))) (6880 ∷ 16 ∷ 430 ∷ 819200 ∷ [])
    -- Our own rows. B is A with 5 placed, C is A with 4 placed.
    ∷ row (after map_a (call.place 5 (12 ∷ 20 ∷ []))) map_b
    ∷ row (after map_a (call.place 4 (24 ∷ 12 ∷ []))) map_c
    -- A claim edits as a place of its pair: 20 map bits of A for object 3.
    ∷ row (claim map_a 20480 0 lent) (0 ∷ 0 ∷ 3 ∷ 1 ∷ 12 ∷ 20 ∷ 9 ∷ 9 ∷ [])
    ∷ row (after map_a (call.claim 20480 0 4)) (with_bytes ((0, 0x08) ∷ (65, 0x38) ∷ []) map_b)
    -- The lowest unused id of B is 3, and its first hole starts after 5.
    ∷ row (claim map_b 12289 0 lent) (0 ∷ 0 ∷ 3 ∷ 1 ∷ 32 ∷ 13 ∷ 9 ∷ 9 ∷ [])
    -- C has two holes, (12,12) and (36,1500), and object 4: the first hole that is long enough is taken, and the lowest unused id.
    ∷ row (free map_c lent) (0 ∷ 0 ∷ 2 ∷ 12 ∷ 12 ∷ 36 ∷ 1500 ∷ [])
    ∷ row (claim map_c 1 0 lent) (0 ∷ 0 ∷ 3 ∷ 1 ∷ 12 ∷ 12 ∷ 9 ∷ 9 ∷ [])
    ∷ row (claim map_c 12289 0 lent) (0 ∷ 0 ∷ 3 ∷ 1 ∷ 36 ∷ 13 ∷ 9 ∷ 9 ∷ [])
    -- Records and maps that are refused: no bytes, a disc_size past what the map holds, a zone check that differs.
    ∷ row (record_read []) (1 ∷ 0 ∷ [])
    ∷ row (record_read (with_bytes ((23, 0x01) ∷ []) map_a)) (2 ∷ 0 ∷ [])
    ∷ row (check []) (1 ∷ 0 ∷ [])
    ∷ row (check (with_bytes ((23, 0x01) ∷ []) map_a)) (2 ∷ 0 ∷ [])
    ∷ row (check (with_bytes ((0, 0x28) ∷ []) map_a)) (3 ∷ 0 ∷ [])
    ∷ row (free (with_bytes ((0, 0x28) ∷ []) map_a) lent) (3 ∷ 0 ∷ 0 ∷ 9 ∷ 9 ∷ 9 ∷ 9 ∷ [])
    -- D is accepted. Refusals that tell its zone 1, each with the checks made right but for 3 and 4: another zone check; cross checks
    -- that do not give 255, which tells zone 0; FreeLink's top bit clear, or one bit too far; no closing bit; object 3 where 2 is
    -- to be; two free fragments that touch, (1548,12) and (1560,1992).
    ∷ row (check map_d) (0 ∷ 0 ∷ [])
    ∷ row (free map_d lent) (0 ∷ 0 ∷ 2 ∷ 0 ∷ 1536 ∷ 1548 ∷ 2004 ∷ [])
    ∷ row (check (with_bytes ((256, 0x2F) ∷ []) map_d)) (3 ∷ 1 ∷ [])
    ∷ row (check (with_bytes ((256, 0x2F) ∷ (259, 0x01) ∷ []) map_d)) (4 ∷ 0 ∷ [])
    ∷ row (check (with_bytes ((256, 0xAE) ∷ (258, 0x00) ∷ []) map_d)) (5 ∷ 1 ∷ [])
    ∷ row (check (with_bytes ((256, 0x2F) ∷ (257, 0x25) ∷ []) map_d)) (5 ∷ 1 ∷ [])
    ∷ row (check (with_bytes ((256, 0xAE) ∷ (511, 0x00) ∷ []) map_d)) (6 ∷ 1 ∷ [])
    ∷ row (check (with_bytes ((256, 0x2F) ∷ (260, 0x03) ∷ []) map_d)) (7 ∷ 1 ∷ [])
    ∷ row (claim touching_d 1 0 lent) (9 ∷ 1 ∷ 0 ∷ 0 ∷ lent)
    ∷ row (place touching_d 3 (0 ∷ 12 ∷ [])) (9 ∷ 1 ∷ [])
    ∷ row (release touching_d 3 lent) (9 ∷ 1 ∷ 0 ∷ 9 ∷ 9 ∷ 9 ∷ 9 ∷ [])
    -- An edit of one of two zones leaves the other's block and all cross checks alone; one of both changes both cross checks by 1. A
    -- release returns the pairs in object order, from zone 1 on.
    ∷ row (after map_d (call.place 5 (0 ∷ 12 ∷ []))) (with_bytes ((0, 0x26) ∷ (1, 0x04) ∷ (2, 0x82) ∷ (64, 0x05) ∷ (65, 0x08) ∷ []) map_d)
    ∷ row (after map_d (call.place 168 (1548 ∷ 12 ∷ 0 ∷ 12 ∷ []))) map_e
    ∷ row (release map_e 168 lent) (0 ∷ 0 ∷ 2 ∷ 1548 ∷ 12 ∷ 0 ∷ 12 ∷ [])
    ∷ row (after map_e (call.release 168 4)) map_d
    ∷ row (place map_d 168 (0 ∷ 12 ∷ 1548 ∷ 12 ∷ [])) (12 ∷ 0 ∷ [])
    -- Every call tells the zone of a refused map, and leaves what it was lent.
    ∷ row (list spoilt_d 2 lent) (3 ∷ 1 ∷ 0 ∷ 9 ∷ 9 ∷ 9 ∷ 9 ∷ [])
    ∷ row (free spoilt_d lent) (3 ∷ 1 ∷ 0 ∷ 9 ∷ 9 ∷ 9 ∷ 9 ∷ [])
    ∷ row (address spoilt_d 0x000200 0) (3 ∷ 1 ∷ 0 ∷ 0 ∷ [])
    ∷ row (sweep_free spoilt_d 0 7 (1 ∷ [])) (3 ∷ 1 ∷ 0 ∷ 1 ∷ [])
    -- An object of two pieces: a pair for each, even where they touch; its bytes are joined in that order, a run for each piece, and both
    -- are swept. E's 168 goes on from zone 1 to zone 0.
    ∷ row (after map_a (call.place 5 (12 ∷ 12 ∷ 24 ∷ 12 ∷ []))) two_pieces
    ∷ row (list two_pieces 5 lent) (0 ∷ 0 ∷ 2 ∷ 12 ∷ 12 ∷ 24 ∷ 12 ∷ [])
    ∷ row (address two_pieces 0x000500 0) (0 ∷ 0 ∷ 12288 ∷ 12288 ∷ [])
    ∷ row (address two_pieces 0x000500 12287) (0 ∷ 0 ∷ 24575 ∷ 1 ∷ [])
    ∷ row (address two_pieces 0x000500 12288) (0 ∷ 0 ∷ 24576 ∷ 12288 ∷ [])
    ∷ row (address two_pieces 0x000534 0) (0 ∷ 0 ∷ 25344 ∷ 11520 ∷ [])
    ∷ row (address two_pieces 0x000500 24576) (16 ∷ 0 ∷ 0 ∷ 0 ∷ [])
    ∷ row (address map_e 0x00A800 12287) (0 ∷ 0 ∷ 1597439 ∷ 1 ∷ [])
    ∷ row (address map_e 0x00A800 12288) (0 ∷ 0 ∷ 0 ∷ 12288 ∷ [])
    ∷ row (sweep_object two_pieces 5 24574 7 (1 ∷ 1 ∷ 1 ∷ 1 ∷ [])) (0 ∷ 0 ∷ 4 ∷ 7 ∷ 7 ∷ 7 ∷ 7 ∷ [])
    -- Start zones: of object 2 the middle one, of any other id div P; no zone for 0 and for P*nzones.
    ∷ row (start (geometry_from eight_zones) 2) (0 ∷ 0 ∷ 4 ∷ [])
    ∷ row (start (geometry_from eight_zones) 167) (0 ∷ 0 ∷ 0 ∷ [])
    ∷ row (start (geometry_from eight_zones) 168) (0 ∷ 0 ∷ 1 ∷ [])
    ∷ row (start (geometry_from eight_zones) 1343) (0 ∷ 0 ∷ 7 ∷ [])
    ∷ row (start (geometry_from eight_zones) 0) (8 ∷ 0 ∷ 0 ∷ [])
    ∷ row (start (geometry_from eight_zones) 1344) (8 ∷ 0 ∷ 0 ∷ [])
    -- The same on a drive of 255 zones (document 02, R-4).
    ∷ row (start (geometry_from (drive_of 255)) 2) (0 ∷ 0 ∷ 127 ∷ [])
    ∷ row (start (geometry_from (drive_of 255)) 16128) (0 ∷ 0 ∷ 128 ∷ [])
    ∷ row (start (geometry_from (drive_of 255)) 32129) (0 ∷ 0 ∷ 254 ∷ [])
    ∷ row (start (geometry_from (drive_of 255)) 32130) (8 ∷ 0 ∷ 0 ∷ [])
    -- Records of version 0 at the ends of their ranges: the floppy's; disc_size in whole sectors; idlen 15 and 16; 255 zones and 0 (R-4); a zone with
    -- room for m bits in zone 0, and with one bit less; as many ids as their bits can name, and more.
    ∷ row (record_read floppy_bytes) (0 ∷ 0 ∷ [])
    ∷ row (sizes (geometry_of floppy_bytes)) (6880 ∷ 16 ∷ 430 ∷ 819200 ∷ [])
    ∷ row (record_a ((20, 0x01) ∷ [])) (2 ∷ 0 ∷ [])
    ∷ row (record_a ((8, 0x0F) ∷ [])) (0 ∷ 0 ∷ [])
    ∷ row (record_a ((8, 0x10) ∷ [])) (2 ∷ 0 ∷ [])
    ∷ row (record_a ((8, 0x0F) ∷ (13, 0xFF) ∷ [])) (0 ∷ 0 ∷ [])
    ∷ row (record_a ((8, 0x0F) ∷ (13, 0x00) ∷ [])) (2 ∷ 0 ∷ [])
    ∷ row (record_a ((9, 0x0C) ∷ [])) (0 ∷ 0 ∷ [])
    ∷ row (record_a ((14, 0x14) ∷ (15, 0x06) ∷ (21, 0x30) ∷ (22, 0x00) ∷ [])) (0 ∷ 0 ∷ [])
    ∷ row (record_a ((14, 0x15) ∷ (15, 0x06) ∷ (21, 0x2C) ∷ (22, 0x00) ∷ [])) (2 ∷ 0 ∷ [])
    ∷ row (record_a ((13, 0x10) ∷ (14, 0x00) ∷ (15, 0x02) ∷ [])) (0 ∷ 0 ∷ [])
    ∷ row (record_a ((13, 0x11) ∷ (14, 0x00) ∷ (15, 0x02) ∷ [])) (2 ∷ 0 ∷ [])
    -- Block bytes 36 to 63 have to be 0, and 35 is carried (document 02, R-7). Rubbish in A with the zone check made right; with it left
    -- wrong, a byte too many, or idlen 16; and an edit, which leaves all of it.
    ∷ row (record_a ((36, 0x01) ∷ [])) (2 ∷ 0 ∷ [])
    ∷ row (record_a ((63, 0x80) ∷ [])) (2 ∷ 0 ∷ [])
    ∷ row (record_a ((35, 0xFF) ∷ [])) (0 ∷ 0 ∷ [])
    ∷ row (check (with_bytes ((0, 0xC5) ∷ (35, 0xFF) ∷ []) map_a)) (0 ∷ 0 ∷ [])
    ∷ row (check dirty_a) (2 ∷ 0 ∷ [])
    ∷ row (check (with_bytes ((0, 0xC7) ∷ []) dirty_a)) (2 ∷ 0 ∷ [])
    ∷ row (check (dirty_a ++ 0 ∷ [])) (2 ∷ 0 ∷ [])
    ∷ row (record_a ((8, 0x10) ∷ (36, 0x01) ∷ [])) (2 ∷ 0 ∷ [])
    ∷ row (after dirty_a (call.place 5 (12 ∷ 20 ∷ []))) dirty_a
    -- E+ (document 02, R-12). Versions 1, 2, 256, 257 and 2^24 + 1; ids of 16, 19 and 20 bits; the high byte of nzones, which is rubbish in
    -- version 0; the high half of the size, block bytes 40 to 43, and what is carried around it.
    ∷ row (plus_record []) (0 ∷ 0 ∷ [])
    ∷ row (record_a ((48, 0x02) ∷ [])) (2 ∷ 0 ∷ [])
    ∷ row (record_a ((49, 0x01) ∷ [])) (2 ∷ 0 ∷ [])
    ∷ row (plus_record ((49, 0x01) ∷ [])) (2 ∷ 0 ∷ [])
    ∷ row (plus_record ((51, 0x01) ∷ [])) (2 ∷ 0 ∷ [])
    ∷ row (plus_record ((8, 0x10) ∷ [])) (0 ∷ 0 ∷ [])
    ∷ row (plus_record ((8, 0x13) ∷ [])) (0 ∷ 0 ∷ [])
    ∷ row (plus_record ((8, 0x14) ∷ [])) (2 ∷ 0 ∷ [])
    ∷ row (plus_record ((8, 0x13) ∷ (46, 0x01) ∷ [])) (0 ∷ 0 ∷ [])
    ∷ row (record_a ((46, 0x01) ∷ [])) (2 ∷ 0 ∷ [])
    ∷ row (plus_record ((40, 0x01) ∷ [])) (2 ∷ 0 ∷ [])
    ∷ row (plus_record ((43, 0x80) ∷ [])) (2 ∷ 0 ∷ [])
    ∷ row (plus_record ((39, 0xFF) ∷ (44, 0xFF) ∷ (47, 0xFF) ∷ (52, 0xFF) ∷ (63, 0xFF) ∷ [])) (0 ∷ 0 ∷ [])
    -- 256 zones, by the high byte alone; 20,971, the most that P*nzones leaves, and 20,972. A disc of 4,294,967,040 bytes on
    -- a map for more than 2^32.
    ∷ row (plus_zones 0x00 ((46, 0x01) ∷ [])) (0 ∷ 0 ∷ [])
    ∷ row (plus_zones 0x00 []) (2 ∷ 0 ∷ [])
    ∷ row (plus_zones 0xEB ((46, 0x51) ∷ [])) (0 ∷ 0 ∷ [])
    ∷ row (plus_zones 0xEC ((46, 0x51) ∷ [])) (2 ∷ 0 ∷ [])
    ∷ row (plus_zones 0xEB ((46, 0x51) ∷ (21, 0xFF) ∷ (22, 0xFF) ∷ (23, 0xFF) ∷ [])) (0 ∷ 0 ∷ [])
    -- Start zones there.
    ∷ row (sizes (geometry_from (plus_disc 20971))) (500 ∷ 20 ∷ 25 ∷ 1342082560 ∷ [])
    ∷ row (start (geometry_from (plus_disc 20971)) 2) (0 ∷ 0 ∷ 10485 ∷ [])
    ∷ row (start (geometry_from (plus_disc 20971)) 6400) (0 ∷ 0 ∷ 256 ∷ [])
    ∷ row (start (geometry_from (plus_disc 20971)) 524274) (0 ∷ 0 ∷ 20970 ∷ [])
    ∷ row (start (geometry_from (plus_disc 20971)) 524275) (8 ∷ 0 ∷ 0 ∷ [])
    -- A as E+ reads as A, but no byte of a file is found on it, after 3: another zone check. It is edited as A is, and back.
    ∷ row (check plus_a) (0 ∷ 0 ∷ [])
    ∷ row (list plus_a 2 lent) (0 ∷ 0 ∷ 1 ∷ 0 ∷ 12 ∷ 9 ∷ 9 ∷ [])
    ∷ row (free plus_a lent) (0 ∷ 0 ∷ 1 ∷ 12 ∷ 1524 ∷ 9 ∷ 9 ∷ [])
    ∷ row (address map_a 0x000200 0) (0 ∷ 0 ∷ 0 ∷ 12288 ∷ [])
    ∷ row (address plus_a 0x000200 0) (8 ∷ 0 ∷ 0 ∷ 0 ∷ [])
    ∷ row (address plus_a 0x000500 0) (8 ∷ 0 ∷ 0 ∷ 0 ∷ [])
    ∷ row (address (with_bytes ((0, 0xC5) ∷ []) plus_a) 0x000200 0) (3 ∷ 0 ∷ 0 ∷ 0 ∷ [])
    ∷ row (after plus_a (call.place 5 (12 ∷ 20 ∷ []))) (with_bytes ((0, 0x29) ∷ (48, 0x01) ∷ []) map_b)
    ∷ row (after (with_bytes ((0, 0x29) ∷ (48, 0x01) ∷ []) map_b) (call.release 5 4)) plus_a
    -- Ids of 19 bits: a fragment has 20 bits or more, and a claim writes all of its id.
    ∷ row (list long_ids 2 lent) (0 ∷ 0 ∷ 1 ∷ 0 ∷ 20 ∷ 9 ∷ 9 ∷ [])
    ∷ row (free long_ids lent) (0 ∷ 0 ∷ 1 ∷ 20 ∷ 1516 ∷ 9 ∷ 9 ∷ [])
    ∷ row (claim long_ids 1 0 lent) (0 ∷ 0 ∷ 3 ∷ 1 ∷ 20 ∷ 20 ∷ 9 ∷ 9 ∷ [])
    ∷ row (after long_ids (call.claim 1 0 2)) (with_bytes ((0, 0x38) ∷ (1, 0x20) ∷ (66, 0x38) ∷ (68, 0x80) ∷ []) long_ids)
    -- The two copies (document 02, R-5). The first where it is accepted, equal to the second or not; else the second; else the first's refusal
    -- and no bytes. Whether they are equal is told of refused ones too; no bytes twice are.
    ∷ row (choose map_a map_b) (0 ∷ 0 ∷ 1 ∷ 0 ∷ map_a)
    ∷ row (choose map_a map_a) (0 ∷ 0 ∷ 1 ∷ 1 ∷ map_a)
    ∷ row (choose map_a []) (0 ∷ 0 ∷ 1 ∷ 0 ∷ map_a)
    ∷ row (choose spoilt_d map_d) (0 ∷ 0 ∷ 2 ∷ 0 ∷ map_d)
    ∷ row (choose spoilt_d map_a) (0 ∷ 0 ∷ 2 ∷ 0 ∷ map_a)
    ∷ row (choose spoilt_d dirty_a) (3 ∷ 1 ∷ 0 ∷ 0 ∷ [])
    ∷ row (choose spoilt_d spoilt_d) (3 ∷ 1 ∷ 0 ∷ 1 ∷ [])
    ∷ row (choose [] []) (1 ∷ 0 ∷ 0 ∷ 1 ∷ [])
    -- One over the other: whatever the target holds; the source's refusal before the lengths.
    ∷ row (copy_over map_d spoilt_d) (0 ∷ 0 ∷ map_d)
    ∷ row (copy_over map_a map_d) (1 ∷ 0 ∷ map_d)
    ∷ row (copy_over spoilt_d map_a) (3 ∷ 1 ∷ map_a)
    -- Where they lie: A has one zone, D two, F four.
    ∷ row (copy_addresses map_a) (0 ∷ 0 ∷ 0 ∷ 256 ∷ [])
    ∷ row (copy_addresses map_d) (0 ∷ 0 ∷ 1572864 ∷ 1573376 ∷ [])
    ∷ row (copy_addresses map_f) (0 ∷ 0 ∷ 3637248 ∷ 3638272 ∷ [])
    ∷ row (copy_addresses plus_a) (0 ∷ 0 ∷ 0 ∷ 256 ∷ [])
    ∷ row (copy_addresses spoilt_d) (3 ∷ 1 ∷ 0 ∷ 0 ∷ [])
    -- A station that writes G over F's copies, the second first, and is cut off: the old map until the second is whole; then the new one where
    -- the first is refused, after one block of four. With two written the first is accepted, and is neither map; but they are not equal.
    ∷ row (after map_f (call.place 5 (0 ∷ 12 ∷ 1536 ∷ 12 ∷ 3564 ∷ 12 ∷ 5568 ∷ 12 ∷ []))) map_g
    ∷ row (choose map_f (written 512 map_g map_f)) (0 ∷ 0 ∷ 1 ∷ 0 ∷ map_f)
    ∷ row (choose map_f map_g) (0 ∷ 0 ∷ 1 ∷ 0 ∷ map_f)
    ∷ row (choose (written 256 map_g map_f) map_g) (0 ∷ 0 ∷ 2 ∷ 0 ∷ map_g)
    ∷ row (choose (written 512 map_g map_f) map_g) (0 ∷ 0 ∷ 1 ∷ 0 ∷ written 512 map_g map_f)
    ∷ row (list (written 512 map_g map_f) 5 lent) (0 ∷ 0 ∷ 2 ∷ 0 ∷ 12 ∷ 1536 ∷ 12 ∷ [])
    -- Claims near a parent zone (document 02, R-6). F has a hole of 1,536 bits in zone 0, of 2,016 in zones 1 and 3 and of 2,004 in zone 2: the parent's
    -- own is taken where it is long enough; of two at the same distance the lower zone's; the id is the lowest of the hole's zone. No zone
    -- 4: 12, beside 0 bytes, after 9 and before 15.
    ∷ row (claim map_f 1 0 lent) (0 ∷ 0 ∷ 3 ∷ 1 ∷ 0 ∷ 12 ∷ 9 ∷ 9 ∷ [])
    ∷ row (claim map_f 1 2 lent) (0 ∷ 0 ∷ 336 ∷ 1 ∷ 3564 ∷ 12 ∷ 9 ∷ 9 ∷ [])
    ∷ row (claim map_f 1 3 lent) (0 ∷ 0 ∷ 504 ∷ 1 ∷ 5568 ∷ 12 ∷ 9 ∷ 9 ∷ [])
    ∷ row (claim map_f 1573888 0 lent) (0 ∷ 0 ∷ 168 ∷ 1 ∷ 1536 ∷ 1537 ∷ 9 ∷ 9 ∷ [])
    ∷ row (claim map_f 2064384 2 lent) (0 ∷ 0 ∷ 168 ∷ 1 ∷ 1536 ∷ 2016 ∷ 9 ∷ 9 ∷ [])
    ∷ row (claim map_f 2064384 3 lent) (0 ∷ 0 ∷ 504 ∷ 1 ∷ 5568 ∷ 2016 ∷ 9 ∷ 9 ∷ [])
    ∷ row (claim map_f 1 4 lent) (12 ∷ 0 ∷ 0 ∷ 0 ∷ lent)
    ∷ row (claim map_a 1 4294967295 lent) (12 ∷ 0 ∷ 0 ∷ 0 ∷ lent)
    ∷ row (claim map_a 1560577 1 lent) (12 ∷ 0 ∷ 0 ∷ 0 ∷ lent)
    ∷ row (claim touching_d 1 2 lent) (9 ∷ 1 ∷ 0 ∷ 0 ∷ lent)
    -- Claims in several pieces (document 02, R-8). Zones 1 and 3 of F have the largest holes: the lower one goes first, and its zone is the id's, wherever the
    -- parent is. Where 1 bit remains m are taken. Room for one entry less: 17.
    ∷ row (claim map_f 2064385 2 lent) (0 ∷ 0 ∷ 168 ∷ 2 ∷ 1536 ∷ 2016 ∷ 5568 ∷ 12 ∷ [])
    ∷ row (claim map_f 2064385 2 (9 ∷ 9 ∷ 9 ∷ [])) (17 ∷ 0 ∷ 0 ∷ 0 ∷ 9 ∷ 9 ∷ 9 ∷ [])
    -- Of the second hole m bits are left; 6 would be left, so that all of it goes; nothing is left, and nothing more is taken.
    ∷ row (claim map_f 4116480 0 lent) (0 ∷ 0 ∷ 168 ∷ 2 ∷ 1536 ∷ 2016 ∷ 5568 ∷ 2004 ∷ [])
    ∷ row (claim map_f 4122624 0 lent) (0 ∷ 0 ∷ 168 ∷ 2 ∷ 1536 ∷ 2016 ∷ 5568 ∷ 2016 ∷ [])
    ∷ row (claim map_f 4128768 0 lent) (0 ∷ 0 ∷ 168 ∷ 2 ∷ 1536 ∷ 2016 ∷ 5568 ∷ 2016 ∷ [])
    -- A byte more: the third hole's piece stands between the two in object order, and three zones' cross checks change by 1, 2, 3.
    ∷ row (after map_f (call.claim 4128769 0 6))
    (with_bytes
    ((256, 0xA9) ∷ (257, 0x00) ∷ (259, 0x01) ∷ (260, 0xA8)
    ∷ (512, 0x33) ∷ (513, 0x30) ∷ (515, 0x02) ∷ (517, 0x88) ∷ (518, 0x8A)
    ∷ (768, 0xAB) ∷ (769, 0x00) ∷ (771, 0x03) ∷ (772, 0xA8) ∷ [])
    map_f)
    -- All free bits, listed round the disc's end; a byte more is 15.
    ∷ row (claim map_f 7753728 0 (lent ++ lent)) (0 ∷ 0 ∷ 168 ∷ 4 ∷ 1536 ∷ 2016 ∷ 3564 ∷ 2004 ∷ 5568 ∷ 2016 ∷ 0 ∷ 1536 ∷ [])
    ∷ row (claim map_f 7753729 0 (lent ++ lent)) (15 ∷ 0 ∷ 0 ∷ 0 ∷ lent ++ lent)
    -- A map that is a byte too long; object 3 where A's middle zone has to begin with 2.
    ∷ row (check (map_a ++ 0 ∷ [])) (1 ∷ 0 ∷ [])
    ∷ row (check (with_bytes ((0, 0xC4) ∷ (64, 0x03) ∷ []) map_a)) (7 ∷ 0 ∷ [])
    -- A list is read to its end. No size wraps. A cluster of 4,096 bytes.
    ∷ row (place map_a 5 (12 ∷ 12 ∷ 0 ∷ 0 ∷ [])) (12 ∷ 0 ∷ [])
    ∷ row (claim map_a 4294967297 0 lent) (15 ∷ 0 ∷ 0 ∷ 0 ∷ lent)
    ∷ row (bits_for (geometry_of (with_bytes ((9, 0x0C) ∷ []) map_a)) 61441) (16 ∷ [])
    -- Three, four and seven zones.
    ∷ row (change (true ∷ true ∷ true ∷ [])) (1 ∷ 2 ∷ 3 ∷ [])
    ∷ row (change (true ∷ true ∷ true ∷ true ∷ [])) (1 ∷ 1 ∷ 1 ∷ 1 ∷ [])
    ∷ row (change (true ∷ true ∷ true ∷ true ∷ true ∷ true ∷ true ∷ [])) (1 ∷ 2 ∷ 3 ∷ 1 ∷ 1 ∷ 1 ∷ 1 ∷ [])
    -- Refusals that the rows above leave out: 0 bytes, an id already there, too few entries, a list out of object order.
    ∷ row (claim map_b 0 0 lent) (12 ∷ 0 ∷ 0 ∷ 0 ∷ lent)
    ∷ row (place map_b 5 (32 ∷ 12 ∷ [])) (11 ∷ 0 ∷ [])
    ∷ row (release map_b 5 (9 ∷ [])) (17 ∷ 0 ∷ 0 ∷ 9 ∷ [])
    ∷ row (free map_c (9 ∷ 9 ∷ 9 ∷ [])) (17 ∷ 0 ∷ 0 ∷ 9 ∷ 9 ∷ 9 ∷ [])
    ∷ row (place map_a 167 (24 ∷ 12 ∷ 12 ∷ 12 ∷ [])) (12 ∷ 0 ∷ [])
    -- B's free space starts at address 32,768.
    ∷ row (counted_free map_b 32000 1000) (0 ∷ 0 ∷ 232 ∷ [])
    ∷ row (sweep_free map_b 32766 7 (1 ∷ 1 ∷ 1 ∷ 1 ∷ [])) (0 ∷ 0 ∷ 2 ∷ 1 ∷ 1 ∷ 7 ∷ 7 ∷ [])
    -- Bytes of the class are counted that held the fill before, too: two of these four are object 5's, and one of them changes.
    ∷ row (sweep_object map_b 5 12286 7 (1 ∷ 1 ∷ 7 ∷ 1 ∷ [])) (0 ∷ 0 ∷ 2 ∷ 1 ∷ 1 ∷ 7 ∷ 7 ∷ [])
    -- Where k is 8, m is rounded up to clusters and P's divisor is not; sizes are rounded up to clusters of 1,024 bytes.
    ∷ row (sizes (geometry_from (floppy_disc 14))) (6880 ∷ 16 ∷ 458 ∷ 819200 ∷ [])
    ∷ row (bits_for (geometry_from (floppy_disc 14)) 2048) (16 ∷ [])
    ∷ row (bits_for (geometry_from (floppy_disc 14)) 2049) (24 ∷ [])
    ∷ []
