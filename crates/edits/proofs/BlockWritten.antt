-- A block written and read. Reading what was written gives the drawing's entries back; a block that was read is as it would
-- be written; writing over a writing leaves the second.
use mathlib.Core.Path.{◌≡◌, refl, sym, ap, ap₂, ◌∙◌, subst}
use mathlib.Core.Bool.{Bool, true, false}
use mathlib.Core.List.{List, [], ◌∷◌, ◌++◌}
use mathlib.Core.Option.{some}
use Prim.Native.Nat.{ℕ, zero, suc, ◌+◌, ◌-◌, ◌/◌, ◌%◌, ◌<◌, ◌≤◌}
use native.Mathlib.Omega.{arith}
use lib.ListN.{length, get_or, take, drop, length-drop}
use Rattle.bits.specs.Bits.{byte_bits, bytes_of, Bytes}
use Rattle.bits.proofs.Bytes.{length_bytes, bytes_bits, bits_bytes}
use Rattle.checks.specs.Words.{zone_check}
use Rattle.checks.specs.Cross.{cross_of}
use Rattle.model.specs.Fragments.{fragments_in}
use Rattle.model.specs.Chain.{Entry, none_touch}
use Rattle.model.specs.Blocks.{free_link, link_in, alloc_bits}
use Rattle.model.specs.Pieces.{Piece, owned_of}
use Rattle.model.specs.Drawing.{drawn_fragments, draw, link_of, drawn_entries, read_bits, Drawable}
use Rattle.model.proofs.FragmentsRead.{cut_written}
use Rattle.model.proofs.ZoneDrawn.{fit_drawn, read_drawn, drawn_read}
use Rattle.edits.specs.Written.{new_bits, sealed, written}
use Rattle.edits.proofs.BlockBits.{BitsInBlock, header_rest, four_bytes, alloc_length, in_parts, front_new, length_new, drawn_new, back_new}

-- the zone check reads the check byte as 0
pub check_byte_free : (x : ℕ) (rest : List ℕ) → zone_check (x ∷ rest) ≡ zone_check (0 ∷ rest)
unfolding zone_check
check_byte_free x rest = refl

-- a block is never longer or shorter for being written
pub length_written : (idlen at end : ℕ) (ps : List Piece) (cross : ℕ) (b : List ℕ) → 4 ≤ length b → length (written idlen at end ps cross b) ≡ length b
length_written idlen at end ps cross b h = omega (arith, length_bytes (length b - 4) (new_bits idlen at end ps (byte_bits (drop 4 b))))

-- its parts: FreeLink with the top bit, and the check that goes with it all
pub link_written : (idlen at end : ℕ) (ps : List Piece) (cross : ℕ) (b : List ℕ) → link_in (written idlen at end ps cross b) ≡ link_of at end ps
link_written idlen at end ps cross b = omega arith

pub top_written : (idlen at end : ℕ) (ps : List Piece) (cross : ℕ) (b : List ℕ) → 32768 ≤ free_link (written idlen at end ps cross b)
top_written idlen at end ps cross b = omega arith

pub check_written : (idlen at end : ℕ) (ps : List Piece) (cross : ℕ) (b : List ℕ) → get_or (written idlen at end ps cross b) 0 0 ≡ zone_check (written idlen at end ps cross b)
check_written idlen at end ps cross b = sym (check_byte_free _ _)

module _ (idlen at end : ℕ) (b : List ℕ) (y : BitsInBlock idlen at end b) where
  module _ (ps : List Piece) (d : Drawable idlen at end ps) (cross : ℕ) where
    pub body_written : byte_bits (drop 4 (written idlen at end ps cross b)) ≡ new_bits idlen at end ps (byte_bits (drop 4 b))
    body_written = bits_bytes (length b - 4) (new_bits idlen at end ps (byte_bits (drop 4 b))) (length_new idlen at end b y ps d)

    pub alloc_written : alloc_bits at end (written idlen at end ps cross b) ≡ draw idlen at end ps
    alloc_written = ap (λ (r : List Bool). take (end - at) (drop (at - 32) r)) body_written ∙ drawn_new idlen at end b y ps d

    -- the bits after it are as they were
    pub after_written : drop (end - 32) (byte_bits (drop 4 (written idlen at end ps cross b))) ≡ drop (end - 32) (byte_bits (drop 4 b))
    after_written = ap (drop (end - 32)) body_written ∙ back_new idlen at end b y ps d

    -- what was written is read back
    pub fragments_written : fragments_in idlen (alloc_bits at end (written idlen at end ps cross b)) ≡ some (drawn_fragments at end ps)
    fragments_written =
        let e : suc (idlen - 1) ≡ idlen = omega arith in
        ap (fragments_in idlen) alloc_written
        ∙ subst (λ (i : ℕ). fragments_in idlen (draw i at end ps) ≡ some (drawn_fragments at end ps)) e
        (cut_written (idlen - 1) (drawn_fragments at end ps) (fit_drawn (suc (idlen - 1)) at end ps (rw e (omega arith)) (rw e d)))

    pub read_written : read_bits idlen at (link_in (written idlen at end ps cross b)) (alloc_bits at end (written idlen at end ps cross b)) ≡ some (drawn_entries at end ps)
    read_written =
        ap₂ (read_bits idlen at) (link_written idlen at end ps cross b) alloc_written
        ∙ read_drawn idlen y.ids at end ps (omega arith) (omega arith) d

    -- written twice: as written the second time
    pub written_twice : (qs : List Piece) (next : ℕ) → written idlen at end qs next (written idlen at end ps cross b) ≡ written idlen at end qs next b
    written_twice qs next =
        let size : length (written idlen at end ps cross b) - 4 ≡ length b - 4 = omega (arith, length_written idlen at end ps cross b (four_bytes idlen at end b y)) in
        let bits : new_bits idlen at end qs (byte_bits (drop 4 (written idlen at end ps cross b))) ≡ new_bits idlen at end qs (byte_bits (drop 4 b)) =
        ap (new_bits idlen at end qs) body_written
        ∙ ap₂ {C = List Bool} (λ (f r : List Bool). f ++ (draw idlen at end qs ++ r)) (front_new idlen at end b y ps) (back_new idlen at end b y ps d) in
        ap₂ {C = List ℕ} (λ (n : ℕ) (r : List Bool). sealed (link_of at end qs) next (bytes_of n r)) size bits

-- a block of an accepted map in which no two free fragments touch: its bytes, its checks, and what was read of it
pub record BlockRead (idlen at end : ℕ) (b : List ℕ) (es : List Entry) : Type 0 where
  pub bits : BitsInBlock idlen at end b
  pub bytes : Bytes b
  pub check : get_or b 0 0 ≡ zone_check b
  pub top_bit : 32768 ≤ free_link b
  pub read : read_bits idlen at (link_in b) (alloc_bits at end b) ≡ some es
  pub none_touch_law : none_touch false es ≡ true

-- bytes by their place, and from a place on
pub byte_at : (b : List ℕ) (i : ℕ) → Bytes b → get_or b i 0 < 256
byte_at [] i h = omega arith
byte_at (x ∷ b) zero h = h.0
byte_at (x ∷ b) (suc i) h = byte_at b i h.1

pub bytes_from : (n : ℕ) (b : List ℕ) → Bytes b → Bytes (drop n b)
bytes_from zero b h = h
bytes_from (suc n) [] h = tt
bytes_from (suc n) (x ∷ b) h = bytes_from n b h.1

module _ (idlen at end : ℕ) (b : List ℕ) (es : List Entry) (c : BlockRead idlen at end b es) where
  whole : at + length (alloc_bits at end b) ≡ end
  whole = omega (arith, alloc_length idlen at end b c.bits, c.bits)

  pub read_drawing : (alloc_bits at end b ≡ draw idlen at end (owned_of es)) × (link_in b ≡ link_of at end (owned_of es))
  read_drawing = rw whole at (drawn_read idlen c.bits.ids at (link_in b) (alloc_bits at end b) es (omega (arith, c.bits)) c.read c.none_touch_law)

  same_bits : new_bits idlen at end (owned_of es) (byte_bits (drop 4 b)) ≡ byte_bits (drop 4 b)
  same_bits = rw (← read_drawing.0) (in_parts idlen at end b c.bits)

  -- it is as it would be written
  pub as_written : written idlen at end (owned_of es) (cross_of b) b ≡ b
  as_written =
      let h = header_rest b (four_bytes idlen at end b c.bits) in
      let link = link_of at end (owned_of es) in
      let rest = get_or b 1 0 ∷ get_or b 2 0 ∷ get_or b 3 0 ∷ drop 4 b in
      let n : length b - 4 ≡ length (drop 4 b) = sym (length-drop 4 b) in
      let body : bytes_of (length b - 4) (new_bits idlen at end (owned_of es) (byte_bits (drop 4 b))) ≡ drop 4 b = ap₂ bytes_of n same_bits ∙ bytes_bits (drop 4 b) (bytes_from 4 b c.bytes) in
      let l1 : (32768 + link) % 256 ≡ get_or b 1 0 = omega (arith, read_drawing.1, byte_at b 1 c.bytes, byte_at b 2 c.bytes) in
      let l2 : (32768 + link) / 256 ≡ get_or b 2 0 = omega (arith, read_drawing.1, byte_at b 1 c.bytes, byte_at b 2 c.bytes) in
      let check : zone_check (0 ∷ rest) ≡ get_or b 0 0 = sym (check_byte_free (get_or b 0 0) rest) ∙ ap zone_check (sym h) ∙ sym c.check in
      (λ i. zone_check (0 ∷ l1 i ∷ l2 i ∷ get_or b 3 0 ∷ body i) ∷ l1 i ∷ l2 i ∷ get_or b 3 0 ∷ body i)
      ∙ ap (λ (x : ℕ). x ∷ rest) check
      ∙ sym h
