-- A map's pieces and the pieces of its zones. In order, the list is that of its zones one after the other: a piece of an
-- earlier zone is in none of the later ones.
use mathlib.Core.Path.{◌≡◌, refl, ap, ap₂, ◌∙◌}
use mathlib.Core.Bool.{Bool, true, not, false≢true}
use mathlib.Core.List.{List, [], ◌∷◌, ◌++◌, append-nil}
use Prim.Native.Nat.{ℕ, zero, suc, ◌+◌, ◌<◌, ◌≤◌}
use native.Mathlib.Nat.{div-mul-le_self, le-div_iff_mul-le}
use native.Mathlib.Omega.{arith}
use lib.Dec.{eqb, ltb, leb}
use borrow.Author.Tests.{eqb-true, eqb-false, ne_eqb, ltb-true, leb-true, le-leb}
use Rattle.bits.proofs.Tests.{by_test}
use Rattle.geometry.specs.declared.Geometry.{Geometry}
use Rattle.geometry.specs.Accepted.{AcceptedGeometry}
use Rattle.geometry.specs.Places.{zone_of}
use Rattle.model.specs.Pieces.{Piece, keep}
use Rattle.model.proofs.Lists.{keep_append}
use Rattle.edits.specs.Edits.{in_zone}
use Rattle.edits.proofs.Kept.{All, keep_all}
use Rattle.edits.proofs.ByPlace.{Weak, weak_weaken}
use Rattle.edits.proofs.Invariant.{some_zone}
use Rattle.edits.proofs.ZonePlaces.{zone_of_piece}

pub none_kept : (t : Piece → Bool) (l : List Piece) → All (λ p. not (t p)) l → keep t l ≡ []
none_kept t [] h = refl
none_kept t (x ∷ xs) h = by_test (t x) (λ k. absurd (false≢true (simp k at h.0))) (λ k. simp (k, none_kept t xs h.1))

pub all_map : (t u : Piece → Bool) (l : List Piece) → ((p : Piece) → t p ≡ true → u p ≡ true) → All t l → All u l
all_map t u [] f h = tt
all_map t u (x ∷ xs) f h = (f x h.0, all_map t u xs f h.1)

-- every piece is of this zone or a later one
abbrev pub FromZone : Geometry → ℕ → List Piece → Type 0
FromZone g z l = All (λ p. leb z (zone_of_piece g p)) l

pub none_before : (g : Geometry) (z i : ℕ) (l : List Piece) → i < z → FromZone g z l → in_zone g i l ≡ []
none_before g z i [] h f = refl
none_before g z i (x ∷ xs) h f =
    let k : z ≤ zone_of_piece g x = leb-true z (zone_of_piece g x) f.0 in
    simp (ne_eqb (zone_of_piece g x) i (λ e. omega arith), none_before g z i xs h f.1)

-- of a zone's pieces followed by later ones: the zone's, and those of a later zone
pub in_zone_part : (g : Geometry) (z : ℕ) (a b : List Piece) → All (λ p. eqb (zone_of_piece g p) z) a → FromZone g (suc z) b → in_zone g z (a ++ b) ≡ a
in_zone_part g z a b h k =
    keep_append (λ p. eqb (zone_of_piece g p) z) a b
    ∙ ap₂ {C = List Piece} (λ (x y : List Piece). x ++ y) (keep_all _ a h) (none_before g (suc z) z b (omega arith) k)
    ∙ append-nil a

pub later_part : (g : Geometry) (z i : ℕ) (a b : List Piece) → z < i → All (λ p. eqb (zone_of_piece g p) z) a → in_zone g i (a ++ b) ≡ in_zone g i b
later_part g z i a b h k =
    keep_append (λ p. eqb (zone_of_piece g p) i) a b
    ∙ ap (λ (x : List Piece). x ++ in_zone g i b)
    (none_kept _ a (all_map _ _ a (λ p e. simp (ne_eqb (zone_of_piece g p) i (λ q. omega (arith, eqb-true (zone_of_piece g p) z e)))) k))

-- the lists of n zones from z on, one after the other
abbrev pub gather : Geometry → ℕ → ℕ → List Piece → List Piece
gather g z zero l = []
gather g z (suc n) l = in_zone g z l ++ gather g (suc z) n l

gather_skip : (g : Geometry) (z n : ℕ) (x : Piece) (l : List Piece) → zone_of_piece g x < z → gather g z n (x ∷ l) ≡ gather g z n l
gather_skip g z zero x l h = refl
gather_skip g z (suc n) x l h = simp (ne_eqb (zone_of_piece g x) z (λ e. omega arith), gather_skip g (suc z) n x l (omega arith))

gather_first : (g : Geometry) (z n : ℕ) (x : Piece) (l : List Piece) → z ≤ zone_of_piece g x → zone_of_piece g x < z + n → FromZone g (zone_of_piece g x) l → gather g z n (x ∷ l) ≡ x ∷ gather g z n l
gather_first g z zero x l lo hi f = absurd (omega arith)
gather_first g z (suc n) x l lo hi f =
    by_test (eqb (zone_of_piece g x) z)
    (λ t. simp (t, gather_skip g (suc z) n x l (omega (arith, eqb-true (zone_of_piece g x) z t))))
    (λ t. let up : z < zone_of_piece g x = omega (arith, eqb-false (zone_of_piece g x) z t) in
    simp (t, none_before g (zone_of_piece g x) z l up f, gather_first g (suc z) n x l up (omega arith) f))

weak_from : (g : Geometry) (d : ℕ) (l : List Piece) → AcceptedGeometry g → Weak d l → FromZone g (zone_of g d) l
weak_from g d [] ok w = tt
weak_from g d (x ∷ xs) ok w = (
  le-leb (zone_of g d) (zone_of_piece g x) ((le-div_iff_mul-le (some_zone g ok)).1 (omega (arith, div-mul-le_self (d + 480) g.bits))),
  weak_from g d xs ok (weak_weaken xs w.0 w.1),
)

none_gathered : (g : Geometry) (z n : ℕ) → gather g z n [] ≡ []
none_gathered g z zero = refl
none_gathered g z (suc n) = none_gathered g (suc z) n

pub gathered : (g : Geometry) (d : ℕ) (l : List Piece) → AcceptedGeometry g → Weak d l → All (λ p. ltb (zone_of_piece g p) g.zones) l → gather g 0 g.zones l ≡ l
gathered g d [] ok w h = none_gathered g 0 g.zones
gathered g d (x ∷ xs) ok w h =
    gather_first g 0 g.zones x xs (omega arith) (omega (arith, ltb-true (zone_of_piece g x) g.zones h.0)) (weak_from g x.at.start xs ok w.1)
    ∙ ap (λ (r : List Piece). x ∷ r) (gathered g x.at.start xs ok w.1 h.1)
