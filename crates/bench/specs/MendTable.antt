-- Maps that are mended (document 02, R-9), as rows like those of Table. Assumes nothing.
use Rattle.std.specs.Prelude.{List, [], ◌∷◌, ◌++◌, ℕ}
use Rattle.checks.specs.Maps.{with_bytes, map_a, map_d}
use Rattle.bench.specs.Questions.{check, mend, mend_positions}
use Rattle.bench.specs.Table.{Row, row, lent, touching_d, map_f, plus_a}

-- done, and the map afterwards
abbrev done : List ℕ → List ℕ
done m = 0 ∷ 0 ∷ m

-- D with a free fragment of zone 1 cut in three, (1548,12), (1560,12) and (1572,1980)
abbrev three_d : List ℕ
three_d = with_bytes ((256, 0x6B) ∷ (261, 0xC8) ∷ (262, 0x80) ∷ (263, 0x0C) ∷ (264, 0x08) ∷ []) map_d

-- D with another cross check in zone 1 and the zone check that goes with it; and with zone 0's set so that both give 255
abbrev cross_d : List ℕ
cross_d = with_bytes ((256, 0x2F) ∷ (259, 0x01) ∷ []) map_d

abbrev set_d : List ℕ
set_d = with_bytes ((0, 0x30) ∷ (3, 0xFE) ∷ []) cross_d

-- all at once: a zone check, a cross check and two free fragments of zone 1 that touch
abbrev broken_d : List ℕ
broken_d = with_bytes ((256, 0x00) ∷ (259, 0x01) ∷ []) touching_d

-- A with FreeLink's top bit clear, with an id of no object, and with no closing bit; none with the zone check that goes with it
abbrev link_a : List ℕ
link_a = with_bytes ((2, 0x02) ∷ []) map_a

abbrev no_id : List ℕ
no_id = with_bytes ((64, 0x00) ∷ []) map_a

abbrev open_a : List ℕ
open_a = with_bytes ((255, 0x00) ∷ []) map_a

abbrev pub mend_table : List Row
mend_table =
    -- "A map already in order stays the same, byte for byte": A, and F, whose free fragments touch across zones' ends; no position is listed.
    row (mend map_a) (done map_a)
    ∷ row (mend map_f) (done map_f)
    ∷ row (mend_positions map_f []) (0 ∷ 0 ∷ 0 ∷ [])
    -- A stale zone check (3); cross checks that don't add up (4); touching free fragments (9), two and three of them.
    ∷ row (mend (with_bytes ((0, 0x00) ∷ []) map_a)) (done map_a)
    ∷ row (mend (with_bytes ((0, 0xC6) ∷ (3, 0xFE) ∷ []) map_a)) (done map_a)
    ∷ row (mend touching_d) (done map_d)
    ∷ row (mend three_d) (done map_d)
    -- "sets only zone 0's cross check", though zone 1's was the wrong one; and all at once.
    ∷ row (check cross_d) (4 ∷ 0 ∷ [])
    ∷ row (mend cross_d) (done set_d)
    ∷ row (mend broken_d) (done set_d)
    ∷ row (check set_d) (0 ∷ 0 ∷ [])
    -- "exactly the byte positions the mender would change": byte 257, FreeLink's, comes out as it was. Three entries are enough, two are not.
    ∷ row (mend_positions touching_d lent) (0 ∷ 0 ∷ 3 ∷ 256 ∷ 261 ∷ 262 ∷ 9 ∷ [])
    ∷ row (mend_positions touching_d (9 ∷ 9 ∷ 9 ∷ [])) (0 ∷ 0 ∷ 3 ∷ 256 ∷ 261 ∷ 262 ∷ [])
    ∷ row (mend_positions touching_d (9 ∷ 9 ∷ [])) (17 ∷ 0 ∷ 0 ∷ 9 ∷ 9 ∷ [])
    ∷ row (mend_positions cross_d lent) (0 ∷ 0 ∷ 2 ∷ 0 ∷ 3 ∷ 9 ∷ 9 ∷ [])
    -- "the refusal that the map would get with those three ignored": each of these maps is refused with 3 by the check.
    ∷ row (check link_a) (3 ∷ 0 ∷ [])
    ∷ row (mend link_a) (5 ∷ 0 ∷ link_a)
    ∷ row (mend open_a) (6 ∷ 0 ∷ open_a)
    ∷ row (mend no_id) (7 ∷ 0 ∷ no_id)
    ∷ row (mend_positions no_id lent) (7 ∷ 0 ∷ 0 ∷ lent)
    -- The lowest zone is told: zone 1 of D, whose object 2 is another's.
    ∷ row (mend (with_bytes ((0, 0x00) ∷ (260, 0x03) ∷ []) map_d)) (7 ∷ 1 ∷ with_bytes ((0, 0x00) ∷ (260, 0x03) ∷ []) map_d)
    -- 1 and 2 as before.
    ∷ row (mend []) (1 ∷ 0 ∷ [])
    ∷ row (mend (with_bytes ((4, 0x07) ∷ []) map_a)) (2 ∷ 0 ∷ with_bytes ((4, 0x07) ∷ []) map_a)
    ∷ row (mend_positions (map_a ++ 0 ∷ []) lent) (1 ∷ 0 ∷ 0 ∷ lent)
    -- E+ as E.
    ∷ row (mend (with_bytes ((0, 0x00) ∷ (3, 0x00) ∷ []) plus_a)) (done plus_a)
    ∷ []
