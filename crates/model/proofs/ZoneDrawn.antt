-- A zone drawn and read (the laws that edits rest on): reading a drawing gives the pieces back, with the gaps free; and an
-- accepted zone in which no two free fragments touch is the drawing of its owned pieces.
use mathlib.Core.Path.{◌≡◌, refl, ap, ◌∙◌, subst}
use mathlib.Core.Bool.{Bool, true, false}
use mathlib.Core.List.{List, [], ◌∷◌}
use mathlib.Core.Option.{Option, none, some}
use mathlib.Core.Logic.{inl, inr}
use Prim.Native.Nat.{ℕ, suc, ◌+◌, ◌-◌, ◌^◌, ◌<◌, ◌≤◌}
use native.Mathlib.Omega.{arith}
use lib.Dec.{ltb}
use borrow.Author.Tests.{lt-ltb, le-ltb, ltb-true}
use lib.Pow.{pow_pos}
use lib.ListN.{length, length-append, length-replicate}
use Rattle.bits.proofs.Digits.{length_number}
use Rattle.bits.proofs.Tests.{by_test}
use Rattle.model.specs.Fragments.{Fragment, fragment_bits, Formed, edge, cut}
use Rattle.model.specs.Chain.{Entry, onward, none_touch}
use Rattle.model.specs.Pieces.{Piece, owned_of}
use Rattle.model.specs.Drawing.{GapRoom, Drawable, draw, link_of, follow_all, read_bits, first_free, gap, drawn_fragments, gap_entry, drawn_entries}
use Rattle.model.proofs.Options.{none_some}
use Rattle.model.proofs.FragmentsRead.{cut_written, written_cut}
use Rattle.model.proofs.Followed.{Long, total}
use Rattle.model.proofs.ChainDrawn.{Lies, follow_drawn, drawn_follow, linked, free_or_ahead, link_back}

pub hole_le : (n at end : ℕ) → GapRoom n at end → at ≤ end
hole_le n at end (inl e) = omega arith
hole_le n at end (inr e) = omega arith

pub lies : (n at end : ℕ) (ps : List Piece) → Drawable n at end ps → Lies at end ps
lies n at end [] d = hole_le n at end d
lies n at end (p ∷ ps) d = (hole_le n at p.at.start d.0, omega arith, lies n (p.at.start + p.at.len) end ps d.3)

-- the fragments drawn fit n bits of id
fit_gap : (n at end next : ℕ) (fs : List Fragment) → GapRoom n at end → next - at < 2 ^ n → Formed n fs → Formed n (gap at end next fs)
fit_gap n at end next fs (inl e) h k = simp (le-ltb at end (omega arith)) k
fit_gap n at end next fs (inr e) h k = simp (lt-ltb at end (omega arith)) (h, omega arith, k)

pub lies_le : (at end : ℕ) (ps : List Piece) → Lies at end ps → at ≤ end
lies_le at end [] l = l
lies_le at end (p ∷ ps) l = omega (arith, lies_le (p.at.start + p.at.len) end ps l.2)

first_lt : (n lo at end : ℕ) (ps : List Piece) → lo ≤ at → end ≤ lo + 2 ^ n → Lies at end ps → first_free at end ps - lo < 2 ^ n
first_lt n lo at end [] h k l =
    by_test (ltb at end)
    (λ t. simp t (omega (arith, ltb-true)))
    (λ t. simp t (omega (arith, pow_pos n)))
first_lt n lo at end (p ∷ ps) h k l =
    by_test (ltb at p.at.start)
    (λ t. simp t (omega (arith, ltb-true, lies_le (p.at.start + p.at.len) end ps l.2, pow_pos n)))
    (λ t. simp t (first_lt n lo (p.at.start + p.at.len) end ps (omega arith) k l.2))

pub fit_drawn : (n at end : ℕ) (ps : List Piece) → end ≤ at + 2 ^ n → Drawable n at end ps → Formed n (drawn_fragments at end ps)
fit_drawn n at end [] h d = fit_gap n at end 0 [] d (omega (arith, pow_pos n)) tt
fit_drawn n at end (p ∷ ps) h d =
    let a = p.at.start + p.at.len in
    let g = hole_le n at p.at.start d.0 in
    fit_gap n at p.at.start (first_free a end ps) _ d.0 (first_lt n at a end ps (omega arith) h (lies n a end ps d.3))
    (d.2, d.1, fit_drawn n a end ps (omega arith) d.3)

-- a drawing is read back
pub read_draw : (n at end : ℕ) (ps : List Piece) → 8 < at → end ≤ at + 2 ^ suc n → Drawable (suc n) at end ps
    → read_bits (suc n) at (link_of at end ps) (draw (suc n) at end ps) ≡ some (drawn_entries at end ps)
read_draw n at end ps z h d =
    let l = lies (suc n) at end ps d in
    let same : suc n - 1 ≡ n = omega arith in
    simp (same, cut_written n (drawn_fragments at end ps) (fit_drawn (suc n) at end ps h d), linked 8 (first_free at end ps) (free_or_ahead 8 at end ps z l))
    (follow_drawn at end ps (omega arith) l)

-- the owned pieces of a drawing are the pieces drawn
owned_gap : (at end : ℕ) (es : List Entry) → owned_of (gap_entry at end es) ≡ owned_of es
owned_gap at end es = by_test (ltb at end) (λ t. simp t) (λ t. simp t)

pub owned_drawn : (at end : ℕ) (ps : List Piece) → owned_of (drawn_entries at end ps) ≡ ps
owned_drawn at end [] = owned_gap at end []
owned_drawn at end (p ∷ ps) = owned_gap at p.at.start _ ∙ ap (λ (r : List Piece). p ∷ r) (owned_drawn (p.at.start + p.at.len) end ps)

pub length_frags : (n : ℕ) (fs : List Fragment) → Formed n fs → length (fragment_bits n fs) ≡ total fs
length_frags n [] h = refl
length_frags n (f ∷ fs) h = simp (length-append, length_number, length-replicate, length_frags n fs h.2) (omega arith)

pub long_fit : (n : ℕ) (fs : List Fragment) → Formed n fs → Long fs
long_fit n [] h = tt
long_fit n (f ∷ fs) h = (omega arith, long_fit n fs h.2)

pub draw_read : (n at link : ℕ) (bits : List Bool) (es : List Entry) → 8 < at → read_bits (suc n) at link bits ≡ some es → none_touch false es ≡ true
    → (bits ≡ draw (suc n) at (at + length bits) (owned_of es)) × (link ≡ link_of at (at + length bits) (owned_of es))
draw_read n at link bits es z e c = go (cut n edge bits) refl (subst (λ (m : ℕ). follow_all at link (cut m edge bits) ≡ some es) same e)
  where
    same : suc n - 1 ≡ n
    same = omega arith

    go : (r : Option (List Fragment)) → cut n edge bits ≡ r → follow_all at link r ≡ some es → (bits ≡ draw (suc n) at (at + length bits) (owned_of es)) × (link ≡ link_of at (at + length bits) (owned_of es))
    go none k e = absurd (none_some e)
    go (some fs) k e =
        let w = written_cut n bits fs k in
        let t : length bits ≡ total fs = ap length w.0 ∙ length_frags (suc n) fs w.1 in
        let d = drawn_follow at (onward 8 link) (at + length bits) false fs es (omega arith) (long_fit (suc n) fs w.1) (omega arith) e c in
        (w.0 ∙ ap (fragment_bits (suc n)) d.0, link_back 8 link _ d.1)

-- the same, with the id's length as it stands
module _ (idlen : ℕ) (h : 0 < idlen) where
  whole_id : suc (idlen - 1) ≡ idlen
  whole_id = omega arith

  pub read_drawn : (at end : ℕ) (ps : List Piece) → 8 < at → end ≤ at + 2 ^ idlen → Drawable idlen at end ps
      → read_bits idlen at (link_of at end ps) (draw idlen at end ps) ≡ some (drawn_entries at end ps)
  read_drawn =
      subst (λ (i : ℕ). (at end : ℕ) (ps : List Piece) → 8 < at → end ≤ at + 2 ^ i → Drawable i at end ps → read_bits i at (link_of at end ps) (draw i at end ps) ≡ some (drawn_entries at end ps))
      whole_id (read_draw (idlen - 1))

  pub drawn_read : (at link : ℕ) (bits : List Bool) (es : List Entry) → 8 < at → read_bits idlen at link bits ≡ some es → none_touch false es ≡ true
      → (bits ≡ draw idlen at (at + length bits) (owned_of es)) × (link ≡ link_of at (at + length bits) (owned_of es))
  drawn_read =
      subst (λ (i : ℕ). (at link : ℕ) (bits : List Bool) (es : List Entry) → 8 < at → read_bits i at link bits ≡ some es → none_touch false es ≡ true
      → (bits ≡ draw i at (at + length bits) (owned_of es)) × (link ≡ link_of at (at + length bits) (owned_of es)))
      whole_id (draw_read (idlen - 1))
