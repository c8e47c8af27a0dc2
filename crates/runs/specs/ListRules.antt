-- The list handed to a place, in the words of document 01's refusal 12: "list empty, odd, out of object order, overlapping,
-- a piece across zones or off the disc map, start or length not a multiple of k, length below m". Assumes nothing.
use Rattle.std.specs.Prelude.{◌≡◌, List, ℕ, ◌+◌, ◌%◌, ◌<◌, ◌≤◌, length}
use Rattle.geometry.specs.declared.Geometry.{Geometry}
use Rattle.geometry.specs.Places.{zone_of, disc_bits, start_zone}
use Rattle.model.specs.Chain.{Pair, Within}
use Rattle.model.specs.Pieces.{InObjectOrder}
use Rattle.edits.specs.Judge.{pairs_from}
use Rattle.edits.specs.Room.{In, Earlier, ShareNone}

-- the rules of one pair
pub record PairRules (g : Geometry) (q : Pair) : Type 0 where
  -- not "length below m"
  pub long : g.shortest ≤ q.len
  -- not "start .. not a multiple of k"
  pub start_clusters : q.start % g.cluster ≡ 0
  -- not "length not a multiple of k"
  pub length_clusters : q.len % g.cluster ≡ 0
  -- not "a piece .. off the disc map"
  pub on_map : q.start + q.len ≤ disc_bits g
  -- not "a piece across zones": every bit of it lies in the zone of its first
  pub one_zone : (d : ℕ) → Within q d → zone_of g d ≡ zone_of g q.start

-- the rules of a list that is to be object id's
pub record ListRules (g : Geometry) (id : ℕ) (list : List ℕ) : Type 0 where
  -- not "list empty"
  pub some : 0 < length list
  -- not "odd"
  pub even : length list % 2 ≡ 0
  -- each pair keeps the rules of one
  pub pairs : (q : Pair) → In q (pairs_from list) → PairRules g q
  -- not "out of object order"
  pub in_order : (q p : Pair) → Earlier q p (pairs_from list) → InObjectOrder g (start_zone g id) q p
  -- not "overlapping"
  pub separate : (q p : Pair) → Earlier q p (pairs_from list) → ShareNone q p
