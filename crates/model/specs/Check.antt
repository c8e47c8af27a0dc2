-- The check of a map, computed: its fragments zone by zone, or the refusal. Built of parts (record, length, zone checks,
-- cross checks, zones) in the order of document 01's table: "1 (under 64), 2, 1, 3 over all zones, 4; then zone by zone
-- 6, 5, 7 .. The lowest zone is told." Assumes nothing.
use Rattle.std.specs.Prelude.{Bool, true, false, cond, not, ◌&&◌, ◌||◌, List, [], ◌∷◌, map, ℕ, suc, ◌+◌, ◌*◌, ◌/◌, ◌%◌, eqb, leb, length, get_or}
use Rattle.std.proofs.Math.Option.{Option, none, some}
use Rattle.checks.specs.Words.{zone_check}
use Rattle.checks.specs.Cross.{cross_of, xor_sum}
use Rattle.geometry.specs.declared.Geometry.{Geometry}
use Rattle.geometry.specs.Record.{disc_record, geometry_of}
use Rattle.geometry.specs.Ranges.{record_fits}
use Rattle.geometry.specs.Version0.{geometry_in0, record_fits0}
use Rattle.geometry.specs.Places.{first_bit, end_bit, disc_bit, id_from}
use Rattle.model.specs.Answer.{Answer, refused, answered, unless}
use Rattle.model.specs.Fragments.{Fragment, fragments_in}
use Rattle.model.specs.Chain.{Holder, free, owned, Entry, onward, follow}
use Rattle.model.specs.Blocks.{blocks, free_link, link_in, alloc_bits}

-- every entry passes a test
abbrev pub every : (Entry → Bool) → List Entry → Bool
every t [] = true
every t (e ∷ es) = t e && every t es

abbrev pub is_owned : ℕ → Holder → Bool
is_owned id free = false
is_owned id (owned o) = eqb o id

-- 6: "length not a multiple of k"
abbrev pub in_clusters : ℕ → List Fragment → Bool
in_clusters k [] = true
in_clusters k (f ∷ fs) = eqb (f.len % k) 0 && in_clusters k fs

-- 7: the id rule, the disc-end rule, the object 2 rule
abbrev pub holder_fits : Geometry → Holder → Bool
holder_fits g free = true
holder_fits g (owned id) = id_from 1 g id

abbrev pub id_fits : Geometry → Entry → Bool
id_fits g e = holder_fits g e.holder

abbrev pub end_fits : Geometry → ℕ → Entry → Bool
end_fits g z e = is_owned 1 e.holder || leb (disc_bit g z (e.at.start + e.at.len)) g.end.0

abbrev pub first_owned : ℕ → List Entry → Bool
first_owned id [] = false
first_owned id (e ∷ es) = is_owned id e.holder

abbrev pub owners_fit : Geometry → ℕ → List Entry → Bool
owners_fit g z es = (every (id_fits g) es && every (end_fits g z) es) && (not (eqb z (g.zones / 2)) || first_owned 2 es)

-- 6, then 5, then 7
abbrev pub after_follow : Geometry → ℕ → Option (List Entry) → Answer (List Entry)
after_follow g z none = refused 5 z
after_follow g z (some es) = cond (owners_fit g z es) (answered es) (refused 7 z)

abbrev pub after_cut : Geometry → ℕ → List ℕ → Option (List Fragment) → Answer (List Entry)
after_cut g z b none = refused 6 z
after_cut g z b (some fs) =
    cond (in_clusters g.cluster fs)
    (cond (leb 32768 (free_link b)) (after_follow g z (follow (first_bit z) (onward 8 (link_in b)) fs)) (refused 5 z))
    (refused 6 z)

-- a zone: its entries, or the first of these
abbrev pub zone_read : Geometry → ℕ → List ℕ → Answer (List Entry)
zone_read g z b = after_cut g z b (fragments_in g.idlen (alloc_bits (first_bit z) (end_bit g) b))

-- zone by zone from z on: the entries of each, or the first refusal
abbrev pub join_zone : Answer (List Entry) → Answer (List (List Entry)) → Answer (List (List Entry))
join_zone (refused n z) r = refused n z
join_zone (answered es) (refused n z) = refused n z
join_zone (answered es) (answered ess) = answered (es ∷ ess)

abbrev pub zones_read : Geometry → ℕ → List (List ℕ) → Answer (List (List Entry))
zones_read g z [] = answered []
zones_read g z (b ∷ bs) = join_zone (zone_read g z b) (zones_read g (suc z) bs)

-- the first zone from z on whose check differs
abbrev pub differing : ℕ → List (List ℕ) → Option ℕ
differing z [] = none
differing z (b ∷ bs) = cond (eqb (get_or b 0 0) (zone_check b)) (differing (suc z) bs) (some z)

-- the exclusive-or of all cross checks
abbrev pub cross_sum : List (List ℕ) → ℕ
cross_sum bs = xor_sum (map cross_of bs)

abbrev pub after_checks : Option ℕ → Answer (List (List Entry)) → Answer (List (List Entry))
after_checks none r = r
after_checks (some z) r = refused 3 z

abbrev pub blocks_read : Geometry → List (List ℕ) → Answer (List (List Entry))
blocks_read g bs = after_checks (differing 0 bs) (unless (eqb (cross_sum bs) 255) 4 (zones_read g 0 bs))

-- the blocks of a map with geometry g
abbrev pub blocks_of : Geometry → List ℕ → List (List ℕ)
blocks_of g m = blocks g.sector g.zones m

abbrev pub length_fits : Geometry → List ℕ → Bool
length_fits g m = eqb (length m) (g.zones * g.sector)

-- "1 (under 64), 2, 1", and then r
abbrev pub measured : List ℕ → Answer (List (List Entry)) → Answer (List (List Entry))
measured m r =
    unless (leb 64 (length m)) 1
    (unless (record_fits (disc_record m)) 2
    (unless (length_fits (geometry_of m) m) 1 r))

-- the map: the entries of its zones, or a refusal and its zone
abbrev pub map_read : List ℕ → Answer (List (List Entry))
map_read m = measured m (blocks_read (geometry_of m) (blocks_of (geometry_of m) m))

-- the same with 3 and 4 ignored, as the mender reads it (document 02, R-9)
abbrev pub mend_read : List ℕ → Answer (List (List Entry))
mend_read m = measured m (zones_read (geometry_of m) 0 (blocks_of (geometry_of m) m))

-- the same as it was before there were versions: what a map of version 0 gives (document 02, R-12)
abbrev pub map_read0 : List ℕ → Answer (List (List Entry))
map_read0 m =
    let g : Geometry = geometry_in0 (disc_record m) in
    unless (leb 64 (length m)) 1
    (unless (record_fits0 (disc_record m)) 2
    (unless (length_fits g m) 1
    (blocks_read g (blocks_of g m))))
