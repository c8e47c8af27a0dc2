-- The holes between the pieces of each zone are the map's free fragments, where no two of these touch: such a zone is the
-- drawing of its pieces, in which each gap is one free fragment, and disc bits differ from block bits by the same number
-- throughout a zone.
use mathlib.Core.Path.{◌≡◌, refl, sym, ap, ap₂, ◌∙◌, subst, subst⁻¹}
use mathlib.Core.List.{List, [], ◌∷◌, ◌++◌, map}
use mathlib.Core.Option.{none}
use Prim.Native.Nat.{ℕ, suc, ◌+◌, ◌-◌, ◌*◌, ◌<◌, ◌≤◌}
use native.Mathlib.Omega.{arith}
use lib.Dec.{eqb, ltb, leb}
use lib.ListN.{length}
use borrow.Author.Tests.{ltb-true, ltb-false, lt-ltb, le-ltb, eqb-true, eqb-false, leb-true, le-leb}
use Rattle.bits.proofs.Tests.{by_test}
use Rattle.geometry.specs.declared.Geometry.{Geometry}
use Rattle.geometry.specs.Record.{disc_record, geometry_of}
use Rattle.geometry.specs.Accepted.{AcceptedGeometry}
use Rattle.geometry.specs.Places.{first_bit, end_bit, disc_bit, zone_from, zone_end}
use Rattle.geometry.proofs.Numbers.{test_gives_accepted}
use Rattle.model.specs.Chain.{Pair, Entry, touching}
use Rattle.model.specs.Pieces.{Piece, owned_of, to_disc, piece_to_disc, pieces_of_zones, free_of, free_spans}
use Rattle.model.specs.Drawing.{gap_entry, drawn_entries}
use Rattle.model.specs.Answer.{answered}
use Rattle.model.specs.Check.{zones_read, blocks_of, map_read}
use Rattle.model.proofs.ChainDrawn.{Lies}
use Rattle.model.proofs.ZoneTests.{zone_tests}
use Rattle.model.proofs.LinesJudged.{same_answer}
use Rattle.model.proofs.MapTests.{zone_and_rest, read_tests, accepted_tests}
use Rattle.edits.specs.Edits.{in_zone}
use Rattle.edits.specs.Holes.{hole, holes, holes_in, holes_from}
use Rattle.edits.proofs.Kept.{all_append}
use Rattle.edits.proofs.Slices.{Sized, sized_blocks, length_blocks}
use Rattle.edits.proofs.ZonePlaces.{zone_of_piece, zone_from_law, zone_end_law, zone_low, zone_bits, disc_zone}
use Rattle.edits.proofs.Gathered.{all_map, FromZone, in_zone_part, later_part}
use Rattle.edits.proofs.ZoneFound.{drawn_zone}
use Rattle.edits.proofs.MapAccepted.{apart_and_rest}

-- the gaps of a drawing are its free fragments
free_gap : (at end : ℕ) (es : List Entry) → free_of (gap_entry at end es) ≡ hole at end (free_of es)
free_gap at end es = by_test (ltb at end) (λ t. simp t) (λ t. simp t)

free_drawn : (at end : ℕ) (ps : List Piece) → free_of (drawn_entries at end ps) ≡ holes at end ps
free_drawn at end [] = free_gap at end []
free_drawn at end (p ∷ ps) = free_gap at p.at.start _ ∙ ap (hole at p.at.start) (free_drawn (p.at.start + p.at.len) end ps)

-- in disc bits
module _ (g : Geometry) (z : ℕ) where
  hole_disc : (a b a2 b2 : ℕ) (qs : List Pair) → 512 ≤ z * g.bits + a → a2 + 512 ≡ z * g.bits + a → b2 + 512 ≡ z * g.bits + b
      → hole a2 b2 (map (to_disc g z) qs) ≡ map (to_disc g z) (hole a b qs)
  hole_disc a b a2 b2 qs h p q =
      by_test (ltb a b)
      (λ t. let s : a2 ≡ disc_bit g z a = omega arith in
      let l : b2 - a2 ≡ b - a = omega arith in
      simp (t, lt-ltb a2 b2 (omega (arith, ltb-true a b t))) (λ i. record { start = s i; len = l i } ∷ map (to_disc g z) qs))
      (λ t. simp (t, le-ltb a2 b2 (omega (arith, ltb-false a b t))))

  holes_disc : (a e a2 e2 : ℕ) (ps : List Piece) → 512 ≤ z * g.bits + a → a2 + 512 ≡ z * g.bits + a → e2 + 512 ≡ z * g.bits + e → Lies a e ps
      → holes a2 e2 (map (piece_to_disc g z) ps) ≡ map (to_disc g z) (holes a e ps)
  holes_disc a e a2 e2 [] h p q y = hole_disc a e a2 e2 [] h p q
  holes_disc a e a2 e2 (x ∷ xs) h p q y =
      let s = disc_bit g z x.at.start in
      ap (hole a2 s) (holes_disc (x.at.start + x.at.len) e (s + x.at.len) e2 xs (omega arith) (omega arith) q y.2)
      ∙ hole_disc a x.at.start a2 s (holes (x.at.start + x.at.len) e xs) h p (omega arith)

-- a zone that is the drawing of its pieces, and the zones from z on
abbrev IsDrawn : Geometry → ℕ → List Entry → Type 0
IsDrawn g z es = (es ≡ drawn_entries (first_bit z) (end_bit g) (owned_of es)) × Lies (first_bit z) (end_bit g) (owned_of es)

abbrev ZonesDrawn : Geometry → ℕ → List (List Entry) → Type 0
ZonesDrawn g z [] = Unit {0}
ZonesDrawn g z (es ∷ ess) = IsDrawn g z es × ZonesDrawn g (suc z) ess

-- what f finds in each zone from z on are its free fragments
abbrev pub FreeEach : Geometry → (ℕ → List Pair) → ℕ → List (List Entry) → Type 0
FreeEach g f z [] = Unit {0}
FreeEach g f z (es ∷ ess) = (f z ≡ map (to_disc g z) (free_of es)) × FreeEach g f (suc z) ess

pub each_same : (g : Geometry) (f h : ℕ → List Pair) (z : ℕ) (ess : List (List Entry)) → FreeEach g f z ess → FreeEach g h z ess → (i : ℕ) → z ≤ i → i < z + length ess → f i ≡ h i
each_same g f h z [] a b i lo hi = absurd (omega arith)
each_same g f h z (es ∷ ess) a b i lo hi =
    by_test (eqb i z)
    (λ t. subst⁻¹ (λ (x : ℕ). f x ≡ h x) (eqb-true i z t) (a.0 ∙ sym b.0))
    (λ t. each_same g f h (suc z) ess a.1 b.1 i (omega (arith, eqb-false i z t)) (omega arith))

each_spans : (g : Geometry) (l : List Piece) (z : ℕ) (ess : List (List Entry)) → FreeEach g (holes_in g l) z ess → holes_from g z (length ess) l ≡ free_spans g z ess
each_spans g l z [] a = refl
each_spans g l z (es ∷ ess) a = ap₂ (λ (x y : List Pair). x ++ y) a.0 (each_spans g l (suc z) ess a.1)

module _ (g : Geometry) (ok : AcceptedGeometry g) where
  zone_holes : (z : ℕ) (es : List Entry) → IsDrawn g z es → holes (zone_from g z) (zone_end g z) (map (piece_to_disc g z) (owned_of es)) ≡ map (to_disc g z) (free_of es)
  zone_holes z es d =
      holes_disc g z (first_bit z) (end_bit g) (zone_from g z) (zone_end g z) (owned_of es) (zone_low g ok z) (zone_from_law g ok z) (zone_end_law g ok z) d.1
      ∙ ap (map (to_disc g z)) (sym (ap free_of d.0 ∙ free_drawn (first_bit z) (end_bit g) (owned_of es)))

  pieces_from : (z : ℕ) (ess : List (List Entry)) → ZonesDrawn g z ess → FromZone g z (pieces_of_zones g z ess)
  pieces_from z [] d = tt
  pieces_from z (es ∷ ess) d =
      let ps = map (piece_to_disc g z) (owned_of es) in
      let rest = pieces_of_zones g (suc z) ess in
      all_append (λ p. leb z (zone_of_piece g p)) ps rest
      (all_map _ _ ps (λ p e. le-leb z (zone_of_piece g p) (omega (arith, eqb-true (zone_of_piece g p) z e))) (disc_zone g ok z (first_bit z) (owned_of es) (omega arith) d.0.1))
      (all_map _ _ rest (λ p e. le-leb z (zone_of_piece g p) (omega (arith, leb-true (suc z) (zone_of_piece g p) e))) (pieces_from (suc z) ess d.1))

  -- of pieces that in each zone from z on are those of the entries
  holes_each : (l : List Piece) (z : ℕ) (ess : List (List Entry)) → ZonesDrawn g z ess → ((i : ℕ) → z ≤ i → in_zone g i l ≡ in_zone g i (pieces_of_zones g z ess)) → FreeEach g (holes_in g l) z ess
  holes_each l z [] d h = tt
  holes_each l z (es ∷ ess) d h =
      let ps = map (piece_to_disc g z) (owned_of es) in
      let zoned = disc_zone g ok z (first_bit z) (owned_of es) (omega arith) d.0.1 in (
        ap (holes (zone_from g z) (zone_end g z)) (h z (omega arith) ∙ in_zone_part g z ps (pieces_of_zones g (suc z) ess) zoned (pieces_from (suc z) ess d.1)) ∙ zone_holes z es d.0,
        holes_each l (suc z) ess d.1 (λ i k. h i (omega arith) ∙ later_part g z i ps (pieces_of_zones g (suc z) ess) k zoned),
      )

  -- the zones of blocks that were read, where no two free fragments touch
  zones_drawn : (z j : ℕ) (bs : List (List ℕ)) (ess : List (List Entry)) → Sized g.sector bs → zones_read g z bs ≡ answered ess → touching j ess ≡ none
      → ZonesDrawn g z ess × (length ess ≡ length bs)
  zones_drawn z j [] ess y r t = subst (λ (x : List (List Entry)). ZonesDrawn g z x × (length x ≡ 0)) (same_answer r) (tt, refl)
  zones_drawn z j (b ∷ bs) ess y r t =
      let k = zone_and_rest g z b bs ess r in
      let u = apart_and_rest j k.0 k.1 (subst⁻¹ (λ (x : List (List Entry)). touching j x ≡ none) k.4 t) in
      let w = zone_tests g z b k.0 k.2 in
      let d = drawn_zone g.idlen (first_bit z) (end_bit g) b (zone_bits g ok z b y.0) w.fragments k.0 w.cut w.chain u.0 in
      let rest = zones_drawn (suc z) (suc j) bs k.1 y.1 k.3 u.1 in
      subst (λ (x : List (List Entry)). ZonesDrawn g z x × (length x ≡ length (b ∷ bs))) k.4 (((d.answered, d.lie), rest.0), ap suc rest.1)

-- a map's
module _ (m : List ℕ) (ess : List (List Entry)) (e : map_read m ≡ answered ess) (t : touching 0 ess ≡ none) where
  abbrev g : Geometry
  g = geometry_of m

  abbrev l : List Piece
  l = pieces_of_zones (geometry_of m) 0 ess

  drawn : AcceptedGeometry (geometry_of m) × ZonesDrawn (geometry_of m) 0 ess × (length ess ≡ (geometry_of m).zones)
  drawn =
      let k = read_tests m ess (accepted_tests m ess e).read in
      let ok = test_gives_accepted (disc_record m) k.record_fits_law in
      let d = zones_drawn g ok 0 0 (blocks_of g m) ess (sized_blocks g.sector g.zones m k.whole) k.zones t in
      (ok, d.0, d.1 ∙ length_blocks g.sector g.zones m)

  pub holes_free : FreeEach (geometry_of m) (holes_in (geometry_of m) (pieces_of_zones (geometry_of m) 0 ess)) 0 ess
  holes_free = holes_each g drawn.0 l 0 ess drawn.1 (λ i h. refl)

  pub holes_are_spans : holes_from (geometry_of m) 0 (geometry_of m).zones (pieces_of_zones (geometry_of m) 0 ess) ≡ free_spans (geometry_of m) 0 ess
  holes_are_spans = ap (λ (i : ℕ). holes_from g 0 i l) (sym drawn.2) ∙ each_spans g l 0 ess holes_free
