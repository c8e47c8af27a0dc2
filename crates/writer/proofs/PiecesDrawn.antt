-- Pieces drawn from the last to the first: a gap drawn before what is drawn, and a fragment written before that.
use mathlib.Core.Path.{◌≡◌, sym, ap, ap₂, ◌∙◌, subst, subst⁻¹}
use mathlib.Core.Bool.{Bool, true, false, cond}
use mathlib.Core.List.{List, [], ◌∷◌, ◌++◌, map, append_assoc, map-append, reverse}
use Prim.Native.Nat.{ℕ, suc, ◌+◌, ◌-◌, ◌*◌, ◌^◌, ◌<◌, ◌≤◌}
use native.Mathlib.Omega.{arith}
use lib.Dec.{ltb}
use lib.ListN.{length, get_or, take, drop, take-append-drop}
use Rattle.std.proofs.lemmas.List.{take_all, drop_all, drop_more, get_or-reverse, length-reverse}
use lib.Seq.{take-take, take-append-le, length-take-le, drop_at}
use borrow.Author.Tests.{le-ltb}
use Rattle.bits.specs.Bits.{byte_bits, number_bits}
use Rattle.bits.proofs.Bytes.{length_byte_bits}
use Rattle.bits.proofs.Tests.{by_test}
use Rattle.geometry.specs.declared.Geometry.{Geometry}
use Rattle.geometry.specs.Places.{first_bit, end_bit, block_bit}
use Rattle.geometry.proofs.DiscBits.{first_low}
use Rattle.model.specs.Fragments.{closed, fragment_bits}
use Rattle.model.specs.Pieces.{Piece}
use Rattle.model.specs.Drawing.{GapRoom, Drawable, gap, first_free, draw}
use Rattle.model.proofs.ZoneDrawn.{hole_le, lies, lies_le}
use Rattle.edits.specs.Written.{to_block}
use Rattle.writer.specs.Redraw.{GapAsks, fragment_put, GapDrawn, Redrawn}
use Rattle.writer.specs.declared.Piece as code
use Rattle.writer.specs.Listed.{piece, as_piece, as_pieces, ZoneDrawing}
use Rattle.writer.proofs.PieceLists.{last_piece}

-- the first piece starts at `to`, or there is none and `to` is the end
abbrev start_of : ℕ → List Piece → ℕ
start_of end [] = end
start_of end (p ∷ ps) = p.at.start

none_between : (x : ℕ) → ltb x x ≡ false
none_between x = le-ltb x x (omega arith)

gap_joins : (idlen hole end to : ℕ) (ps : List Piece) → start_of end ps ≡ to
    → (fragment_bits idlen (gap hole to (first_free to end ps) []) ++ draw idlen to end ps ≡ draw idlen hole end ps) × (cond (ltb hole to) hole (first_free to end ps) ≡ first_free hole end ps)
gap_joins idlen hole end to [] e =
    subst (λ (x : ℕ). (fragment_bits idlen (gap hole x (first_free x end []) []) ++ draw idlen x end [] ≡ draw idlen hole end []) × (cond (ltb hole x) hole (first_free x end []) ≡ first_free hole end [])) e
    (by_test (ltb hole end) (λ t. simp (none_between end, t, append_assoc)) (λ t. simp (none_between end, t)), simp (none_between end))
gap_joins idlen hole end to (p ∷ ps) e =
    subst (λ (x : ℕ). (fragment_bits idlen (gap hole x (first_free x end (p ∷ ps)) []) ++ draw idlen x end (p ∷ ps) ≡ draw idlen hole end (p ∷ ps)) × (cond (ltb hole x) hole (first_free x end (p ∷ ps)) ≡ first_free hole end (p ∷ ps))) e
    (by_test (ltb hole p.at.start) (λ t. simp (none_between p.at.start, t, append_assoc)) (λ t. simp (none_between p.at.start, t)), simp (none_between p.at.start))

cond_le : (b : Bool) (x y z : ℕ) → x ≤ z → y ≤ z → cond b x y ≤ z
cond_le true x y z h k = h
cond_le false x y z h k = k

-- B became B1 by a drawing from `to` on, and B2 by the gap before it
gap_turn : {idlen hole to end n first : ℕ} {Q : List Piece} {B B1 B2 : List Bool} → start_of end Q ≡ to → hole ≤ to → to ≤ end → end ≤ length B
    → Redrawn idlen to end Q B B1 n → GapDrawn idlen hole to n B1 B2 first → Redrawn idlen hole end Q B B2 first
gap_turn {idlen} {hole} {to} {end} {n} {first} {Q} {B} {B1} {B2} es h l he d g =
    let D = draw idlen to end Q ++ drop end B in
    let c : length (take to B) ≡ to = length-take-le to B (omega arith) in
    let a : take hole B1 ≡ take hole B = ap (take hole) d.bits ∙ take-append-le hole (take to B) D (omega arith) ∙ take-take hole to B h in
    let b : drop to B1 ≡ D = ap (drop to) d.bits ∙ drop_at (take to B) D to c in
    let j = gap_joins idlen hole end to Q es in
    record {
      bits = g.bits
          ∙ (λ i. a i ++ (fragment_bits idlen (gap hole to (d.first_is i) []) ++ b i))
          ∙ ap (λ (x : List Bool). take hole B ++ x) (sym (append_assoc (fragment_bits idlen (gap hole to (first_free to end Q) [])) (draw idlen to end Q) (drop end B)) ∙ ap (λ (x : List Bool). x ++ drop end B) j.0);
      first_is = g.first_is ∙ ap (λ (x : ℕ). cond (ltb hole to) hole x) d.first_is ∙ j.1;
      first_in = subst⁻¹ (λ (x : ℕ). x ≤ end) g.first_is (cond_le (ltb hole to) hole n end (omega arith) d.first_in);
    }

-- B became B1 by a drawing from a fragment's end on, and B2 by that fragment
piece_turn : {idlen at len id end n : ℕ} {Q : List Piece} {B B1 B2 : List Bool} → at + len ≤ end → end ≤ length B
    → Redrawn idlen (at + len) end Q B B1 n → B2 ≡ fragment_put idlen at len id B1
    → Redrawn idlen at end (piece at len id ∷ Q) B B2 n
piece_turn {idlen} {at} {len} {id} {end} {n} {Q} {B} {B1} {B2} l he d e =
    let D = draw idlen (at + len) end Q ++ drop end B in
    let c : length (take (at + len) B) ≡ at + len = length-take-le (at + len) B (omega arith) in
    let a : take at B1 ≡ take at B = ap (take at) d.bits ∙ take-append-le at (take (at + len) B) D (omega arith) ∙ take-take at (at + len) B (omega arith) in
    let b : drop (at + len) B1 ≡ D = ap (drop (at + len)) d.bits ∙ drop_at (take (at + len) B) D (at + len) c in
    let w : number_bits idlen id ++ closed (len - suc idlen) D ≡ draw idlen at end (piece at len id ∷ Q) ++ drop end B = simp (none_between at, append_assoc) in
    record {
      bits = e ∙ ap₂ (λ (x y : List Bool). x ++ (number_bits idlen id ++ closed (len - suc idlen) y)) a b ∙ ap (λ (x : List Bool). take at B ++ x) w;
      first_is = d.first_is ∙ simp (none_between at);
      first_in = d.first_in;
    }

-- the last of pieces that can be drawn
last_draws : (idlen at end : ℕ) (xs : List Piece) (p : Piece) → Drawable idlen at end (xs ++ (p ∷ []))
    → Drawable idlen at p.at.start xs × (idlen < p.at.len) × (p.owner < 2 ^ idlen) × GapRoom idlen (p.at.start + p.at.len) end
last_draws idlen at end [] p d = (d.0, d.1, d.2, d.3)
last_draws idlen at end (x ∷ xs) p d =
    let r = last_draws idlen (x.at.start + x.at.len) end xs p d.3 in
    ((d.0, d.1, d.2, r.0), r.1, r.2, r.3)

drawable_le : (n at end : ℕ) (ps : List Piece) → Drawable n at end ps → at ≤ end
drawable_le n at end ps d = lies_le at end ps (lies n at end ps d)

-- pieces in the block bits of zone z
abbrev block_pieces : Geometry → ℕ → List code.Piece → List Piece
block_pieces g z l = map (to_block g z) (as_pieces l)

-- of pieces gone through from the last to the first: the one that comes after n of them, and that none is left
pub from_last : (xs : List code.Piece) (n : ℕ) (x : code.Piece) → (n < length (reverse xs)) × (x ≡ get_or (reverse xs) n x) → (0 < length xs - n) × (x ≡ get_or xs (length xs - n - 1) x)
from_last xs n x t =
    let l : n < length xs = omega (arith, t.0, length-reverse xs) in
    let e : length xs - 1 - n ≡ length xs - n - 1 = omega arith in
    (omega arith, t.1 ∙ get_or-reverse xs n x l ∙ ap (λ (k : ℕ). get_or xs k x) e)

pub none_more : (xs : List code.Piece) (n : ℕ) → n ≡ length (reverse xs) → length xs - n ≤ 0
none_more xs n e = omega (arith, length-reverse xs)

-- i pieces are left, and from `to` on the zone is drawn
pub record DrawnFrom (g : Geometry) (z : ℕ) (pieces : List code.Piece) (B W : List Bool) (i to next : ℕ) : Type 0 where
  pub left : i ≤ length pieces
  pub within : to ≤ end_bit g
  pub front : Drawable g.idlen (first_bit z) to (block_pieces g z (take i pieces))
  pub starts : start_of (end_bit g) (block_pieces g z (drop i pieces)) ≡ to
  pub drawn : Redrawn g.idlen to (end_bit g) (block_pieces g z (drop i pieces)) B W next

pub same_size : {g : Geometry} {z : ℕ} {block : List ℕ} {pieces : List code.Piece} (other : List ℕ) → length other ≡ length block → ZoneDrawing g z block pieces → ZoneDrawing g z other pieces
same_size other e q = record { numbers = q.numbers; zone = q.zone; sized = e ∙ q.sized; drawable = q.drawable }

module _ {g : Geometry} {z : ℕ} {block : List ℕ} {pieces : List code.Piece} (q : ZoneDrawing g z block pieces) where
  abbrev idlen : ℕ
  idlen = g.idlen

  pub reaches : end_bit g ≤ length (byte_bits block)
  reaches = omega (arith, length_byte_bits block, q.sized, q.numbers.bits_in_block)

  gap_asks : (hole to next : ℕ) → 0 < hole → GapRoom idlen hole to → to ≤ end_bit g → next ≤ end_bit g → GapAsks (length block) idlen hole to next
  gap_asks hole to next p r h k =
      record {
        past_header = p;
        room = r;
        in_block = omega (arith, q.sized, q.numbers.bits_in_block);
        to_high = omega (arith, q.numbers.bits_high);
        next_high = omega (arith, q.numbers.bits_high);
        next_reached = omega (arith, q.numbers.bits_in_block, q.numbers.links_reach);
      }

  pub draw_starts : (B : List Bool) → DrawnFrom g z pieces B B (length pieces) (end_bit g) 0
  draw_starts B =
      let end = end_bit g in
      let n = length pieces in
      let none : block_pieces g z (drop n pieces) ≡ [] = ap (block_pieces g z) (drop_all n pieces (omega arith)) in
      record {
        left = omega arith;
        within = omega arith;
        front = subst⁻¹ (λ (l : List code.Piece). Drawable idlen (first_bit z) end (block_pieces g z l)) (take_all n pieces (omega arith)) q.drawable;
        starts = ap (start_of end) none;
        drawn = subst⁻¹ (λ (ps : List Piece). Redrawn idlen end end ps B B 0) none
            (record { bits = simp (none_between end) (sym (take-append-drop end B)); first_is = simp (none_between end); first_in = omega arith });
      }

  module _ {B W : List Bool} (he : end_bit g ≤ length B) {i to next : ℕ} (s : DrawnFrom g z pieces B W i to next) where
    -- the gap before the first piece
    module _ (h : i ≤ 0) {start : ℕ} (es : start ≡ first_bit z) where
      none_left : i ≡ 0
      none_left = omega arith

      pub last_gap : {W2 : List Bool} {first : ℕ} → GapDrawn idlen start to next W W2 first
          → Redrawn idlen (first_bit z) (end_bit g) (map (to_block g z) (as_pieces pieces)) B W2 first
      last_gap {W2} {first} d =
          subst (λ (k : ℕ). Redrawn idlen (first_bit z) (end_bit g) (block_pieces g z (drop k pieces)) B W2 first) none_left
          (gap_turn s.starts (drawable_le idlen (first_bit z) to (block_pieces g z (take i pieces)) s.front) s.within he s.drawn
          (subst (λ (x : ℕ). GapDrawn idlen x to next W W2 first) es d))

      pub last_asks : GapAsks (length block) idlen start to next
      last_asks =
          subst⁻¹ (λ (x : ℕ). GapAsks (length block) idlen x to next) es
          (gap_asks (first_bit z) to next (omega (arith, first_low z)) (subst (λ (k : ℕ). Drawable idlen (first_bit z) to (block_pieces g z (take k pieces))) none_left s.front) s.within s.drawn.first_in)

    -- the last piece that is left, as the code has read it
    module _ (pos : 0 < i) {x : code.Piece} (ex : x ≡ get_or pieces (i - 1) x) {at : ℕ} (eb : at ≡ block_bit g z x.start.0) where
      abbrev len : ℕ
      len = x.len

      abbrev id : ℕ
      id = x.owner

      abbrev p : Piece
      p = piece at x.len x.owner

      in_block : to_block g z (as_piece (get_or pieces (i - 1) x)) ≡ p
      in_block = ap (λ (y : code.Piece). to_block g z (as_piece y)) (sym ex) ∙ ap (λ (b : ℕ). piece b x.len x.owner) (sym eb)

      pieces_left : block_pieces g z (take i pieces) ≡ block_pieces g z (take (i - 1) pieces) ++ (p ∷ [])
      pieces_left =
          let ys = take (i - 1) pieces in
          ap (map (to_block g z)) (last_piece pieces x i pos s.left) ∙ map-append (to_block g z) (as_pieces ys) (as_piece (get_or pieces (i - 1) x) ∷ [])
          ∙ ap (λ (y : Piece). block_pieces g z ys ++ (y ∷ [])) in_block

      pieces_drawn : block_pieces g z (drop (i - 1) pieces) ≡ p ∷ block_pieces g z (drop i pieces)
      pieces_drawn =
          let n : i - 1 + 1 ≡ i = omega arith in
          ap (block_pieces g z) (drop_more pieces (i - 1) x (omega (arith, s.left))) ∙ (λ k. in_block k ∷ block_pieces g z (drop (n k) pieces))

      piece_tells : Drawable idlen (first_bit z) at (block_pieces g z (take (i - 1) pieces)) × (idlen < x.len) × (x.owner < 2 ^ idlen) × GapRoom idlen (at + x.len) to
      piece_tells =
          last_draws idlen (first_bit z) to (block_pieces g z (take (i - 1) pieces)) p
          (subst (λ (ps : List Piece). Drawable idlen (first_bit z) to ps) pieces_left s.front)

      ends_by : at + x.len ≤ to
      ends_by = hole_le idlen (at + x.len) to piece_tells.3

      pub piece_fits : (at + x.len ≤ to) × (to ≤ 8192)
      piece_fits = (ends_by, omega (arith, s.within, q.numbers.bits_high))

      pub gap_fits : GapAsks (length block) idlen (at + x.len) to next
      gap_fits = gap_asks (at + x.len) to next (omega (arith, piece_tells.1)) piece_tells.3 s.within s.drawn.first_in

      pub fragment_fits : (idlen < x.len) × (at + x.len ≤ length block * 8) × (at + x.len < 2 ^ 64) × (x.owner < 2 ^ idlen)
      fragment_fits =
          let t = piece_tells in
          let u : at + x.len ≤ end_bit g = omega (arith, ends_by, s.within) in
          (t.1, omega (arith, q.sized, q.numbers.bits_in_block), omega (arith, q.numbers.bits_high), t.2)

      pub draw_turn : {W2 W3 : List Bool} {first : ℕ} → GapDrawn idlen (at + x.len) to next W W2 first → W3 ≡ fragment_put idlen at x.len x.owner W2
          → DrawnFrom g z pieces B W3 (i - 1) at first
      draw_turn {W2} {W3} {first} d e =
          let d1 = gap_turn {hole = at + x.len} s.starts ends_by s.within he s.drawn d in
          let d2 = piece_turn {at = at} {len = x.len} {id = x.owner} (omega (arith, ends_by, s.within)) he d1 e in
          record {
            left = omega (arith, s.left);
            within = omega (arith, ends_by, s.within);
            front = piece_tells.0;
            starts = ap (start_of (end_bit g)) pieces_drawn;
            drawn = subst⁻¹ (λ (ps : List Piece). Redrawn idlen at (end_bit g) ps B W3 first) pieces_drawn d2;
          }
