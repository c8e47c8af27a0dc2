-- The entries of a zone that keeps the rules, and the number of a holder, 0 for a free one. Assumes nothing.
use Rattle.std.specs.Prelude.{◌≡◌, List, [], ℕ}
use Rattle.geometry.specs.declared.Geometry.{Geometry}
use Rattle.model.specs.Chain.{Holder, free, owned, Entry}
use Rattle.model.specs.Answer.{Answer, refused, answered}
use Rattle.model.specs.Check.{zone_read}

-- the entries of a zone that was read
abbrev pub entries_of : Answer (List Entry) → List Entry
entries_of (refused n i) = []
entries_of (answered es) = es

abbrev pub entries_in : Geometry → ℕ → List ℕ → List Entry
entries_in g z block = entries_of (zone_read g z block)

-- the zone keeps the rules
abbrev pub IsRead : Geometry → ℕ → List ℕ → Type 0
IsRead g z block = zone_read g z block ≡ answered (entries_in g z block)

abbrev pub holder_number : Holder → ℕ
holder_number free = 0
holder_number (owned id) = id
