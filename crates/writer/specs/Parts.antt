-- A list in object order and its parts, one for each zone (document 01, "Object order", refusal 12). Assumes nothing.
use Rattle.std.specs.Prelude.{◌≡◌, Bool, true, cond, ◌&&◌, List, [], ◌∷◌, ◌++◌, map, ℕ, ◌+◌, ◌-◌, ◌%◌, ◌<◌, ◌≤◌, eqb, ltb, leb, length, get_or}
use Rattle.std.specs.List.{range_with_len}
use Rattle.geometry.specs.declared.Geometry.{Geometry}
use Rattle.geometry.specs.Places.{zone_of, zone_from, disc_bits}
use Rattle.model.specs.Chain.{Pair, numbers_of}
use Rattle.model.specs.Pieces.{keep}
use Rattle.edits.specs.Judge.{pairs_from, pair_fits, list_fits}
use Rattle.writer.specs.declared.Pair as code

-- the pair at entry i
abbrev pub pair_in : List ℕ → ℕ → code.Pair
pair_in list i = record { start = record { 0 = get_or list i 0 }; len = get_or list (i + 1) 0 }

-- a list that fits, in the object order of some object
pub record Ordered (g : Geometry) (list : List ℕ) : Type 0 where
  pub object : ℕ
  pub fits : list_fits g object list ≡ true

-- a disc bit's place in the object order of a start zone, as `rank` of edits
abbrev pub order_place : Geometry → ℕ → ℕ → ℕ
order_place g start bit = cond (leb start (zone_of g bit)) bit (disc_bits g + bit)

-- the pairs fit and come in that order, each from place `from` on, as `pairs_fit` of edits
abbrev pub fits_from : Geometry → ℕ → ℕ → List Pair → Bool
fits_from g start from [] = true
fits_from g start from (q ∷ qs) =
    pair_fits g q && leb from (order_place g start q.start)
    && fits_from g start (order_place g start q.start + q.len) qs

-- a list that is to be in that order, as `list_fits` of edits
abbrev pub list_fits_from : Geometry → ℕ → List ℕ → Bool
list_fits_from g start list = ltb 0 (length list) && eqb (length list % 2) 0 && fits_from g start 0 (pairs_from list)

-- the first pairs, as long as they start from bit `low` on and before `high`
abbrev pub leading : ℕ → ℕ → List Pair → List Pair
leading low high [] = []
leading low high (q ∷ qs) = cond (leb low q.start && ltb q.start high) (q ∷ leading low high qs) []

-- pairs that fit, one after another from disc bit `at` on
abbrev pub Rising : Geometry → ℕ → List Pair → Type 0
Rising g at [] = Unit {0}
Rising g at (q ∷ qs) = (at ≤ q.start) × (pair_fits g q ≡ true) × Rising g (q.start + q.len) qs

-- pairs that all start before disc bit `high`
abbrev pub Before : ℕ → List Pair → Type 0
Before high [] = Unit {0}
Before high (q ∷ qs) = (q.start < high) × Before high qs

-- the pairs of zone z
abbrev pub zone_pairs : Geometry → ℕ → List Pair → List Pair
zone_pairs g z qs = keep (λ q. eqb (zone_of g q.start) z) qs

-- the part of a list that lies in zone z, and those of the zones from z on
abbrev pub zone_part : Geometry → List ℕ → ℕ → List ℕ
zone_part g list z = numbers_of (zone_pairs g z (pairs_from list))

abbrev pub zone_parts : Geometry → List ℕ → ℕ → List (List ℕ)
zone_parts g list z = map (zone_part g list) (range_with_len z (g.zones - z))

-- a list's part in zone z: the zone's pairs, ascending
pub record IsPart (g : Geometry) (list : List ℕ) (z : ℕ) (part : List ℕ) : Type 0 where
  pub is : part ≡ zone_part g list z
  pub rising : Rising g (zone_from g z) (zone_pairs g z (pairs_from list))

-- what is left: the pairs of the zones from z to `to`, ascending, and then pairs of earlier zones
pub record PairsLeft (g : Geometry) (list : List ℕ) (z to : ℕ) (rest : List ℕ) : Type 0 where
  pub left : List Pair
  pub tail : List Pair
  pub is : rest ≡ numbers_of (left ++ tail)
  pub rising : Rising g (zone_from g z) left
  pub before : Before (zone_from g z) tail
  pub same : (y : ℕ) → z ≤ y → y < to → zone_pairs g y (pairs_from list) ≡ zone_pairs g y left

-- the pass over the zones has come to zone z: first the zones before the start zone, then from the list's first pair on the others
pub record PassAt (g : Geometry) (list : List ℕ) (start z : ℕ) (rest : List ℕ) : Type 0 where
  pub early : z < start → PairsLeft g list z start rest
  pub at_start : PairsLeft g list start g.zones list
  pub late : start < z → PairsLeft g list z g.zones rest
