-- Reading a file by runs (document 02, R-11): "Let it also answer how many bytes follow at consecutive disc addresses in the same piece, the
-- asked byte included. Touching pieces count as separate." Assumes nothing.
use Rattle.std.specs.Prelude.{◌≡◌, List, [], ◌++◌, ℕ, zero, suc, ◌+◌, ◌-◌, ◌*◌, ◌<◌, ◌≤◌, length, get_or, drop}
use Rattle.geometry.specs.Record.{geometry_of}
use Rattle.model.specs.Answer.{Answer, refused, answered}
use Rattle.model.specs.Chain.{Pair}
use Rattle.listing.specs.Laws.{At}
use Rattle.address.specs.declared.Location.{Location}
use Rattle.address.specs.Address.{start_offset, location_found, address_found}
use Rattle.address.specs.Refusals.{addresses_from, joined}

-- a disc address lies in a piece, at `unit` bytes a map bit
abbrev pub InPiece : ℕ → Pair → ℕ → Type 0
InPiece unit q a = (q.start * unit ≤ a) × (a < (q.start + q.len) * unit)

-- What the answer l at a position says of q, piece k of the object's pieces qs.
pub record RunIn (m : List ℕ) (n position : ℕ) (l : Location) (qs : List Pair) (k : ℕ) (q : Pair) : Type 0 where
  -- "the asked byte included"
  pub some : 0 < l.run
  -- byte j of the run lies at address + j, in that piece, and has so many bytes less
  pub follows : (j : ℕ) → j < l.run
      → (location_found m n (position + j) ≡ answered (record { address = l.address + j; run = l.run - j })) × InPiece (geometry_of m).unit q (l.address + j)
  -- the run ends where the piece ends, so the file's byte after it does not lie in that piece:
  pub ends : l.address + l.run ≡ (q.start + q.len) * (geometry_of m).unit
  pub after_outside : (a : ℕ) → address_found m n (position + l.run) ≡ answered a → InPiece (geometry_of m).unit q a → ⊥
  -- it is the next piece's first, wherever that piece lies, and the next run is all of that piece;
  pub next : (p : Pair) → At p (suc k) qs
      → location_found m n (position + l.run) ≡ answered (record { address = p.start * (geometry_of m).unit; run = p.len * (geometry_of m).unit })
  -- or there is none
  pub last : length qs ≡ suc k → location_found m n (position + l.run) ≡ refused 16 0

-- A copy tool: it asks where a byte lies, reads the run that is answered, and asks again after it, until it is refused or has asked so
-- often. The addresses that it reads, in its order.
abbrev pub read_run : Answer Location → (Location → List ℕ) → List ℕ
read_run (refused n z) rest = []
read_run (answered l) rest = addresses_from l.address l.run ++ rest l

abbrev pub copied : (ℕ → Answer Location) → ℕ → ℕ → List ℕ
copied ask zero position = []
copied ask (suc asks) position = read_run (ask position) (λ (l : Location). copied ask asks (position + l.run))

-- What it has read of the object with pieces qs: the file's bytes from the position on, all that are left of the object, in order,
-- each once; and its next question would be refused with 16.
pub record ReadsFile (m : List ℕ) (n position : ℕ) (qs : List Pair) (read : List ℕ) : Type 0 where
  pub exactly : read ≡ drop (start_offset (geometry_of m) n + position) (joined (geometry_of m).unit qs)
  pub once : (i j : ℕ) → i < length read → j < length read → get_or read i 0 ≡ get_or read j 0 → i ≡ j
  pub done : location_found m n (position + length read) ≡ refused 16 0
