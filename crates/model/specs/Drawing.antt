-- The drawing of a zone: an accepted zone in which no two free fragments touch is fixed by its owned pieces. The gaps
-- between them are the free fragments, and FreeLink and every free fragment's id follow from the gaps. Edits write
-- drawings (document 01, "Release", "Place"). Assumes nothing.
use Rattle.std.specs.Prelude.{◌≡◌, Bool, true, false, cond, List, [], ◌∷◌, ◌⊎◌, ℕ, ◌+◌, ◌-◌, ◌^◌, ◌<◌, ◌≤◌, ltb, length}
use Rattle.std.proofs.Math.Option.{Option, none, some}
use Rattle.model.specs.Fragments.{Fragment, fragment_bits, fragments_in}
use Rattle.model.specs.Chain.{free, owned, Entry, onward, follow, none_touch}
use Rattle.model.specs.Pieces.{Piece, owned_of}

-- between bits `at` and `end`: where the first gap starts, 0 where there is none
abbrev pub first_free : ℕ → ℕ → List Piece → ℕ
first_free at end [] = cond (ltb at end) at 0
first_free at end (p ∷ ps) = cond (ltb at p.at.start) at (first_free (p.at.start + p.at.len) end ps)

-- the gap up to a piece or the end, if it has bits: its id counts from its start to the next gap, or is 0
abbrev pub gap : ℕ → ℕ → ℕ → List Fragment → List Fragment
gap at end next fs = cond (ltb at end) (record { id = next - at; len = end - at } ∷ fs) fs

abbrev pub drawn_fragments : ℕ → ℕ → List Piece → List Fragment
drawn_fragments at end [] = gap at end 0 []
drawn_fragments at end (p ∷ ps) =
    gap at p.at.start (first_free (p.at.start + p.at.len) end ps)
    (record { id = p.owner; len = p.at.len } ∷ drawn_fragments (p.at.start + p.at.len) end ps)

-- the bits drawn, and the link to the first gap, counted from block bit 8
abbrev pub draw : ℕ → ℕ → ℕ → List Piece → List Bool
draw idlen at end ps = fragment_bits idlen (drawn_fragments at end ps)

abbrev pub link_of : ℕ → ℕ → List Piece → ℕ
link_of at end ps = first_free at end ps - 8

-- the drawing as entries
abbrev pub gap_entry : ℕ → ℕ → List Entry → List Entry
gap_entry at end es = cond (ltb at end) (record { at = record { start = at; len = end - at }; holder = free } ∷ es) es

abbrev pub drawn_entries : ℕ → ℕ → List Piece → List Entry
drawn_entries at end [] = gap_entry at end []
drawn_entries at end (p ∷ ps) =
    gap_entry at p.at.start
    (record { at = p.at; holder = owned p.owner } ∷ drawn_entries (p.at.start + p.at.len) end ps)

-- bits and a link read: fragments, then the chain
abbrev pub follow_all : ℕ → ℕ → Option (List Fragment) → Option (List Entry)
follow_all at link none = none
follow_all at link (some fs) = follow at (onward 8 link) fs

abbrev pub read_bits : ℕ → ℕ → ℕ → List Bool → Option (List Entry)
read_bits idlen at link bits = follow_all at link (fragments_in idlen bits)

-- a hole has no bits, or room for a fragment
abbrev pub GapRoom : ℕ → ℕ → ℕ → Type 0
GapRoom idlen at end = (at ≡ end) ⊎ (at + idlen < end)

-- pieces that can be drawn with ids of so many bits: ascending, apart, each long enough, and so is each gap
abbrev pub Drawable : ℕ → ℕ → ℕ → List Piece → Type 0
Drawable idlen at end [] = GapRoom idlen at end
Drawable idlen at end (p ∷ ps) =
    GapRoom idlen at p.at.start × (idlen < p.at.len) × (p.owner < 2 ^ idlen) × Drawable idlen (p.at.start + p.at.len) end ps

pub record DrawingLaws : Type 0 where
  -- reading a drawing gives its entries back, and with them the pieces
  pub read_drawn : (idlen at end : ℕ) (ps : List Piece) → 0 < idlen → 8 < at → end ≤ at + 2 ^ idlen → Drawable idlen at end ps
      → read_bits idlen at (link_of at end ps) (draw idlen at end ps) ≡ some (drawn_entries at end ps)
  pub pieces_back : (at end : ℕ) (ps : List Piece) → owned_of (drawn_entries at end ps) ≡ ps
  -- a zone that can be read and in which no two free fragments touch is the drawing of its pieces
  pub drawn_read : (idlen at link : ℕ) (bits : List Bool) (es : List Entry) → 0 < idlen → 8 < at
      → read_bits idlen at link bits ≡ some es → none_touch false es ≡ true
      → let end = at + length bits in (bits ≡ draw idlen at end (owned_of es)) × (link ≡ link_of at end (owned_of es))
