-- A zone's bits from a place on, and how they are read. The places are block bits. Assumes nothing.
use Rattle.std.specs.Prelude.{Bool, cond, List, [], ℕ, ◌+◌, eqb}
use Rattle.std.proofs.Math.Option.{Option, none, some}
use Rattle.std.proofs.Math.Seq.{slice}
use Rattle.bits.specs.Bits.{value, zeros}
use Rattle.model.specs.Fragments.{Fragment, fragments_in}
use Rattle.model.specs.Chain.{Entry, Holder, free, owned, follow}

-- the fragment at a place: its id, and its length with the closing bit
abbrev pub id_at : ℕ → ℕ → List Bool → ℕ
id_at idlen at bits = value (slice at (at + idlen) bits)

abbrev pub length_at : ℕ → ℕ → ℕ → List Bool → ℕ
length_at idlen at end bits = idlen + zeros (slice (at + idlen) end bits) + 1

-- the entries from `at` to `end`, where the chain leads next to `chain`
abbrev pub follow_from : ℕ → ℕ → Option (List Fragment) → Option (List Entry)
follow_from at chain none = none
follow_from at chain (some fs) = follow at chain fs

abbrev pub read_from : ℕ → ℕ → ℕ → ℕ → List Bool → Option (List Entry)
read_from idlen at end chain bits = follow_from at chain (fragments_in idlen (slice at end bits))

abbrev pub CanRead : Option (List Entry) → Type 0
CanRead none = ⊥
CanRead (some es) = Unit {0}

abbrev pub entries_some : Option (List Entry) → List Entry
entries_some none = []
entries_some (some es) = es

-- free where the chain leads to the place, else owned by its id
abbrev pub holder_at : ℕ → ℕ → ℕ → Holder
holder_at at chain id = cond (eqb at chain) free (owned id)
