-- The free bits of a map whose zones are drawn anew, each from its part of the map's pieces, are those that were free: zone by zone they
-- are the same.
use mathlib.Core.Path.{◌≡◌, ap, ◌∙◌, subst, subst⁻¹}
use mathlib.Core.List.{List, [], ◌∷◌, ◌++◌, map}
use mathlib.Core.Logic.Iff
use mathlib.Core.Logic.{◌⊎◌, ◌↔◌, inl, inr}
use Prim.Native.Nat.{ℕ, suc, ◌+◌, ◌<◌}
use native.Mathlib.Omega.{arith}
use lib.ListN.{length, get_or}
use Rattle.geometry.specs.declared.Geometry.{Geometry}
use Rattle.geometry.specs.Accepted.{AcceptedGeometry}
use Rattle.geometry.specs.Places.{first_bit, end_bit}
use Rattle.model.specs.Answer.{answered}
use Rattle.model.specs.Chain.{Pair, Within, Entry}
use Rattle.model.specs.Check.{zones_read}
use Rattle.model.specs.Drawing.{drawn_entries}
use Rattle.model.specs.Pieces.{Piece, owned_of, to_disc, piece_to_disc, free_of, free_spans}
use Rattle.model.proofs.LinesJudged.{same_answer}
use Rattle.model.proofs.MapTests.{zone_and_rest}
use Rattle.edits.specs.Edits.{in_zone}
use Rattle.edits.specs.Room.{In, InSome}
use Rattle.edits.specs.Written.{to_block}
use Rattle.edits.proofs.Entries.{in_append, in_left, in_right}
use Rattle.edits.proofs.MapWritten.{drawn_zones}
use Rattle.edits.proofs.Slices.{Sized}
use Rattle.edits.proofs.ZoneFound.{pieces_read}
use Rattle.edits.proofs.ZonePlaces.{block_back}
use Rattle.mended.proofs.ZoneFree.{either_same, FreeBit, zone_free}

-- the bits of stretches joined
in_both : (ps qs : List Pair) (d : ℕ) → InSome (ps ++ qs) d ↔ (InSome ps d ⊎ InSome qs d)
in_both ps qs d = (λ h. there h.0 h.2 (in_append h.0 ps qs h.1), back)
  where
    there : (q : Pair) → Within q d → In q ps ⊎ In q qs → InSome ps d ⊎ InSome qs d
    there q w (inl i) = inl (q, i, w)
    there q w (inr i) = inr (q, i, w)

    back : InSome ps d ⊎ InSome qs d → InSome (ps ++ qs) d
    back (inl h) = (h.0, in_left h.0 ps qs h.1, h.2)
    back (inr h) = (h.0, in_right h.0 ps qs h.1, h.2)

-- bit d is free in zones from z on, read one way and the other, or in neither
abbrev pub SameFree : Geometry → ℕ → List (List Entry) → List (List Entry) → ℕ → Type 0
SameFree g z ess fss d = InSome (free_spans g z ess) d ↔ InSome (free_spans g z fss) d

one_more : (g : Geometry) (z : ℕ) (es fs : List Entry) (ess fss : List (List Entry)) (d : ℕ) → FreeBit g z es d ↔ FreeBit g z fs d → SameFree g (suc z) ess fss d
    → SameFree g z (es ∷ ess) (fs ∷ fss) d
one_more g z es fs ess fss d a b =
    Iff.trans (in_both (map (to_disc g z) (free_of es)) (free_spans g (suc z) ess) d)
    (Iff.trans (either_same a b) (Iff.symm (in_both (map (to_disc g z) (free_of fs)) (free_spans g (suc z) fss) d)))

module _ (g : Geometry) (ok : AcceptedGeometry g) (l : List Piece) where
  -- the zones' parts of the pieces are what was read of them
  abbrev Parts : ℕ → List (List Entry) → Type 0
  Parts z ess = (i : ℕ) → i < length ess → in_zone g (z + i) l ≡ map (piece_to_disc g (z + i)) (owned_of (get_or ess i []))

  first_part : (z : ℕ) (es : List Entry) (ess : List (List Entry)) → Parts z (es ∷ ess) → in_zone g z l ≡ map (piece_to_disc g z) (owned_of es)
  first_part z es ess h = let e : z + 0 ≡ z = omega arith in subst (λ (j : ℕ). in_zone g j l ≡ map (piece_to_disc g j) (owned_of es)) e (h 0 (omega arith))

  later_parts : (z : ℕ) (es : List Entry) (ess : List (List Entry)) → Parts z (es ∷ ess) → Parts (suc z) ess
  later_parts z es ess h i lt =
      let e : z + suc i ≡ suc z + i = omega arith in
      subst (λ (j : ℕ). in_zone g j l ≡ map (piece_to_disc g j) (owned_of (get_or ess i []))) e (h (suc i) (omega arith))

  pub zones_free : (z : ℕ) (bs : List (List ℕ)) (ess : List (List Entry)) → Sized g.sector bs → zones_read g z bs ≡ answered ess → Parts z ess
      → (d : ℕ) → SameFree g z (drawn_zones g z (length bs) l) ess d
  zones_free z [] ess y r h d = subst (λ (x : List (List Entry)). SameFree g z [] x d) (same_answer r) Iff.rfl
  zones_free z (b ∷ bs) ess y r h d =
      let k = zone_and_rest g z b bs ess r in
      let es = k.0 in
      let ps = map (to_block g z) (in_zone g z l) in
      let mine : Parts z (es ∷ k.1) = subst⁻¹ (Parts z) k.4 h in
      let here : ps ≡ owned_of es =
      ap (map (to_block g z)) (first_part z es k.1 mine) ∙ block_back g ok z (first_bit z) (owned_of es) (omega arith) (pieces_read g ok z b es y.0 k.2).lie in
      subst (λ (x : List (List Entry)). SameFree g z (drawn_zones g z (length (b ∷ bs)) l) x d) k.4
      (one_more g z (drawn_entries (first_bit z) (end_bit g) ps) es (drawn_zones g (suc z) (length bs) l) k.1 d
      (subst⁻¹ (λ (x : List Piece). FreeBit g z (drawn_entries (first_bit z) (end_bit g) x) d ↔ FreeBit g z es d) here (zone_free g z ok b es y.0 k.2 d))
      (zones_free (suc z) bs k.1 y.1 k.3 (later_parts z es k.1 mine) d))
