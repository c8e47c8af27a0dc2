-- What holds of sweeps on an accepted map (demand 2). Assumes nothing.
use Rattle.std.specs.Prelude.{◌≡◌, true, false, cond, List, ◌++◌, ℕ, ◌+◌, ◌*◌, ◌<◌, length, get_or}
use Rattle.geometry.specs.Record.{version_of, geometry_of}
use Rattle.model.specs.Chain.{Pair, Entry}
use Rattle.model.specs.Answer.{answered}
use Rattle.model.specs.Check.{map_read}
use Rattle.model.specs.Pieces.{pieces_of_zones, object_pairs, free_spans}
use Rattle.listing.specs.Listed.{object_found, free_found}
use Rattle.address.specs.Address.{id_of, seek, at, address_found}
use Rattle.model.specs.Refusals.{ByTable, Exactly}
use Rattle.sweep.specs.Sweep.{Class, covers, swept_bytes, covered_count, object_spans, object_sweep, free_sweep}
use Rattle.sweep.specs.Refusals.{object_sweep_lines, free_sweep_lines, object_class_on, free_class_on}

pub record SweepLaws : Type 0 where
  -- the sweeps answer what their lines of the table say, in its order, and nothing else: each refusal "exactly when"
  pub sweep_by_table : (m : List ℕ) (id first n : ℕ) → Exactly (ByTable m (object_sweep_lines m id first n) (object_class_on m id)) (object_sweep m id first n)
  pub free_sweep_by_table : (m : List ℕ) (first n : ℕ) → Exactly (ByTable m (free_sweep_lines m first n) (free_class_on m)) (free_sweep m first n)
  -- The sweeps' own answers. The sweep of an object covers exactly the bytes of the pieces that `list` answers for it;
  pub sweep_lists : (m : List ℕ) (id first n : ℕ) (c : Class) → object_sweep m id first n ≡ answered c
      → (room : ℕ) (qs : List Pair) → object_found m id room ≡ answered qs → (a : ℕ) → covers c.unit c.pairs a ≡ true
      → (i : ℕ) × (seek (geometry_of m).unit qs i ≡ at a)
  pub listed_swept : (m : List ℕ) (id first n : ℕ) (c : Class) → object_sweep m id first n ≡ answered c
      → (room : ℕ) (qs : List Pair) → object_found m id room ≡ answered qs → (i a : ℕ) → seek (geometry_of m).unit qs i ≡ at a
      → covers c.unit c.pairs a ≡ true
  -- in version 0, exactly the addresses that `address` answers for it: each is that of a byte of the file with its id and low byte 0, and each
  -- byte of a file with its id lies there;
  pub sweep_reaches : (m : List ℕ) (id first n : ℕ) (c : Class) → object_sweep m id first n ≡ answered c
      → version_of m ≡ 0 → (a : ℕ) → covers c.unit c.pairs a ≡ true → (i : ℕ) × (address_found m (id * 256) i ≡ answered a)
  pub reached_swept : (m : List ℕ) (id first n : ℕ) (c : Class) → object_sweep m id first n ≡ answered c
      → (k i a : ℕ) → id_of k ≡ id → address_found m k i ≡ answered a → covers c.unit c.pairs a ≡ true
  -- that of free space takes the spans that `free` answers, and covers no byte of a piece that `list` answers, and none that `address` answers
  pub free_sweep_spans : (m : List ℕ) (first n : ℕ) (c : Class) → free_sweep m first n ≡ answered c
      → (room : ℕ) (qs : List Pair) → free_found m room ≡ answered qs → c.pairs ≡ qs
  pub free_sweep_leaves : (m : List ℕ) (first n : ℕ) (c : Class) → free_sweep m first n ≡ answered c
      → (id room : ℕ) (qs : List Pair) → object_found m id room ≡ answered qs → (i a : ℕ) → seek (geometry_of m).unit qs i ≡ at a
      → covers c.unit c.pairs a ≡ false
  pub free_sweep_misses : (m : List ℕ) (first n : ℕ) (c : Class) → free_sweep m first n ≡ answered c
      → (k i a : ℕ) → address_found m k i ≡ answered a → covers c.unit c.pairs a ≡ false
  -- the same of what was read: the sweep of an object covers exactly the addresses of its bytes, and that of free space none of them
  pub swept_is_reached : (m : List ℕ) (ess : List (List Entry)) → map_read m ≡ answered ess → (id a : ℕ) → let g = geometry_of m in
      covers g.unit (object_spans g id ess) a ≡ true → (i : ℕ) × (seek g.unit (object_pairs g id (pieces_of_zones g 0 ess)) i ≡ at a)
  pub reached_is_swept : (m : List ℕ) (ess : List (List Entry)) → map_read m ≡ answered ess → (id i a : ℕ) → let g = geometry_of m in
      seek g.unit (object_pairs g id (pieces_of_zones g 0 ess)) i ≡ at a → covers g.unit (object_spans g id ess) a ≡ true
  pub free_not_reached : (m : List ℕ) (ess : List (List Entry)) → map_read m ≡ answered ess → (id i a : ℕ) → let g = geometry_of m in
      seek g.unit (object_pairs g id (pieces_of_zones g 0 ess)) i ≡ at a → covers g.unit (free_spans g 0 ess) a ≡ false
  -- "writes the fill at each address of that class within the stretch, nowhere else"
  pub swept_byte : (unit : ℕ) (qs : List Pair) (fill a : ℕ) (image : List ℕ) (i : ℕ) → i < length image
      → get_or (swept_bytes unit qs fill a image) i 0 ≡ cond (covers unit qs (a + i)) fill (get_or image i 0)
  pub swept_length : (unit : ℕ) (qs : List Pair) (fill a : ℕ) (image : List ℕ) → length (swept_bytes unit qs fill a image) ≡ length image
  -- "and answers how many those are": an address of the class counts 1, any other 0, and a stretch counts as its addresses do
  pub one_count : (unit : ℕ) (qs : List Pair) (a : ℕ) → covered_count unit qs a 1 ≡ cond (covers unit qs a) 1 0
  -- a stretch cut in two: the bytes are the same and the counts add up
  pub cut_bytes : (unit : ℕ) (qs : List Pair) (fill a : ℕ) (x y : List ℕ)
      → swept_bytes unit qs fill a (x ++ y) ≡ swept_bytes unit qs fill a x ++ swept_bytes unit qs fill (a + length x) y
  pub cut_count : (unit : ℕ) (qs : List Pair) (a n k : ℕ) → covered_count unit qs a (n + k) ≡ covered_count unit qs a n + covered_count unit qs (a + n) k
