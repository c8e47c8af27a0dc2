-- A zone's allocation bits as fragments (document 01, "Bits, fragments, chains").
--
--        idlen bits         any number        1 bit
--   +------------------+------------------+---+
--   | id, lowest first |  0 0 0 ... 0 0   | 1 |        length = all of it, id and closing 1 included
--   +------------------+------------------+---+
--
-- What an id means is said by the chain (Chain.antt): of a free fragment it leads to the next one, of any other it is
-- the owner. Assumes nothing.
use Rattle.std.specs.Prelude.{◌≡◌, Bool, true, false, cond, List, [], ◌∷◌, ◌++◌, ℕ, zero, suc, ◌+◌, ◌-◌, ◌*◌, ◌%◌, ◌^◌, ◌<◌, replicate}
use Rattle.std.proofs.Math.Option.{Option, none, some}
use Rattle.bits.specs.Bits.{number_bits}

pub record Fragment : Type 0 where
  pub id : ℕ
  pub len : ℕ

-- "A fragment is idlen bits of id (lowest first), some zero bits, and a closing 1 bit."
abbrev pub closed : ℕ → List Bool → List Bool
closed zeros rest = replicate zeros false ++ true ∷ rest

-- the bits of a fragment, and the rest after them
abbrev pub fragment_then : ℕ → Fragment → List Bool → List Bool
fragment_then idlen f rest = number_bits idlen f.id ++ closed (f.len - suc idlen) rest

abbrev pub fragment_bits : ℕ → List Fragment → List Bool
fragment_bits idlen [] = []
fragment_bits idlen (f ∷ fs) = fragment_then idlen f (fragment_bits idlen fs)

-- the id fits its bits, and there is room for the closing bit
abbrev pub Formed : ℕ → List Fragment → Type 0
Formed idlen [] = Unit {0}
Formed idlen (f ∷ fs) = (f.id < 2 ^ idlen) × (idlen < f.len) × Formed idlen fs

-- "Every length is a multiple of k."
abbrev pub InClusters : ℕ → List Fragment → Type 0
InClusters k [] = Unit {0}
InClusters k (f ∷ fs) = (f.len % k ≡ 0) × InClusters k fs

-- Fragments read from bits: none where one has no closing bit before the bits end. The reader stands at the edge of
-- a fragment or within one, with some bits of its id still to come; a fragment is put together from its end.
pub data Standing : Type 0 where
  edge : Standing
  within : ℕ → Standing

abbrev pub grow : Bool → Option (List Fragment) → Option (List Fragment)
grow b none = none
grow b (some []) = none
grow b (some (f ∷ fs)) = some (record { id = cond b 1 0 + 2 * f.id; len = suc f.len } ∷ fs)

abbrev pub longer : Option (List Fragment) → Option (List Fragment)
longer none = none
longer (some []) = none
longer (some (f ∷ fs)) = some (record { id = f.id; len = suc f.len } ∷ fs)

abbrev pub close : Option (List Fragment) → Option (List Fragment)
close none = none
close (some fs) = some (record { id = 0; len = 1 } ∷ fs)

-- n is idlen - 1: the first bit of an id is read at the edge
abbrev pub cut : ℕ → Standing → List Bool → Option (List Fragment)
cut n edge [] = some []
cut n (within k) [] = none
cut n edge (b ∷ bs) = grow b (cut n (within n) bs)
cut n (within (suc k)) (b ∷ bs) = grow b (cut n (within k) bs)
cut n (within zero) (true ∷ bs) = close (cut n edge bs)
cut n (within zero) (false ∷ bs) = longer (cut n (within zero) bs)

abbrev pub fragments_in : ℕ → List Bool → Option (List Fragment)
fragments_in idlen bits = cut (idlen - 1) edge bits
