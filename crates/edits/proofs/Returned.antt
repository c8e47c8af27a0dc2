-- A returned list can be placed again: what an object lists on a fit map is in object order, does not overlap and keeps to zones and
-- clusters; and a placed list can be released again. So both steps of an undo are accepted.
use mathlib.Core.Path.{◌≡◌, refl, sym, ap, ◌∙◌, subst}
use mathlib.Core.Bool.{Bool, true, false, not, ◌&&◌}
use mathlib.Core.List.{List, [], ◌∷◌, ◌++◌, map, map-append}
use mathlib.Core.Option.{none}
use Prim.Native.Nat.{ℕ, ◌+◌, ◌*◌, ◌%◌, ◌≤◌}
use native.Mathlib.Omega.{arith}
use lib.Dec.{eqb, ltb, leb}
use lib.ListN.{length}
use borrow.Author.Tests.{eq-eqb, lt-ltb, le-leb, leb-true, not-true}
use Rattle.bits.proofs.Tests.{by_test, both, and_true}
use Rattle.geometry.specs.declared.Geometry.{Geometry}
use Rattle.geometry.specs.Accepted.{AcceptedGeometry}
use Rattle.geometry.specs.Places.{disc_bits}
use Rattle.model.specs.Chain.{Pair, numbers_of}
use Rattle.model.specs.Pieces.{Piece, keep, is_of, pieces_of, late, rotate, object_pairs}
use Rattle.model.proofs.ChainDrawn.{Lies}
use Rattle.model.proofs.Lists.{length_numbers}
use Rattle.edits.specs.Order.{rank}
use Rattle.edits.specs.Edits.{without, own, give, takes, gives}
use Rattle.edits.specs.Holes.{all_apart}
use Rattle.model.specs.Answer.{answered}
use Rattle.edits.specs.Judge.{release, place, is_empty, editable, pairs_from, pair_fits, pairs_fit, list_fits, judge}
use Rattle.edits.proofs.Kept.{All, all_kept, all_keep, keep_none, some_length}
use Rattle.edits.proofs.Gaps.{is_long}
use Rattle.edits.proofs.HolesLeft.{apart_all}
use Rattle.edits.proofs.Invariant.{FitPieces, fit_asc}
use Rattle.edits.proofs.Undo.{Allowed, give_back, read_back}
use Rattle.edits.proofs.Spaced.{is_within, fit_lies, within_zones}

-- a piece starts and ends with a cluster
abbrev pub is_whole : ℕ → Piece → Bool
is_whole k p = eqb (p.at.start % k) 0 && eqb (p.at.len % k) 0

module _ (g : Geometry) (ok : AcceptedGeometry g) where
  pair_fits_law : (p : Piece) → is_long g.shortest p ≡ true → is_whole g.cluster p ≡ true → is_within g p ≡ true → p.at.start + p.at.len ≤ disc_bits g → pair_fits g p.at ≡ true
  pair_fits_law p a b c d =
      and_true (leb g.shortest p.at.len && is_whole g.cluster p) (leb (p.at.start + p.at.len) (disc_bits g) && is_within g p)
      (and_true (leb g.shortest p.at.len) (is_whole g.cluster p) a b)
      (and_true (leb (p.at.start + p.at.len) (disc_bits g)) (is_within g p) (le-leb _ _ d) c)

  lies_le : (f : ℕ) (l : List Piece) → Lies f (disc_bits g) l → f ≤ disc_bits g
  lies_le f [] w = w
  lies_le f (x ∷ xs) w = omega (arith, lies_le (x.at.start + x.at.len) xs w.2)

  lies_keep : (t : Piece → Bool) (f : ℕ) (l : List Piece) → Lies f (disc_bits g) l → Lies f (disc_bits g) (keep t l)
  lies_keep t f [] w = w
  lies_keep t f (x ∷ xs) w =
      by_test (t x)
      (λ h. simp h (w.0, w.1, lies_keep t (x.at.start + x.at.len) xs w.2))
      (λ h. simp h (lies_lower (keep t xs) (omega arith) (lies_keep t (x.at.start + x.at.len) xs w.2)))
    where
      lies_lower : {f e : ℕ} (l : List Piece) → f ≤ e → Lies e (disc_bits g) l → Lies f (disc_bits g) l
      lies_lower [] h w = omega arith
      lies_lower (x ∷ xs) h w = (omega arith, w.1, w.2)

  module _ (id : ℕ) where
    -- pieces in their order from a rank on: each fits, and the rest goes on from its end
    one_fits : (p : Piece) (from r : ℕ) (rest : List Pair) → rank (late g id) (disc_bits g) (own id p.at) ≡ r → from ≤ r → pair_fits g p.at ≡ true
        → pairs_fit g id (r + p.at.len) rest ≡ true → pairs_fit g id from (p.at ∷ rest) ≡ true
    one_fits p from r rest e h a b =
        and_true (pair_fits g p.at && leb from (rank (late g id) (disc_bits g) (own id p.at))) (pairs_fit g id (rank (late g id) (disc_bits g) (own id p.at) + p.at.len) rest)
        (and_true (pair_fits g p.at) (leb from (rank (late g id) (disc_bits g) (own id p.at))) a (le-leb from (rank (late g id) (disc_bits g) (own id p.at)) (omega (arith, e))))
        (subst (λ (x : ℕ). pairs_fit g id (x + p.at.len) rest ≡ true) (sym e) b)

    early_fits : (f : ℕ) (l : List Piece) → Lies f (disc_bits g) l → All (λ p. not (late g id p)) l → All (is_long g.shortest) l → All (is_whole g.cluster) l → All (is_within g) l
        → pairs_fit g id (disc_bits g + f) (map (λ p. p.at) l) ≡ true
    early_fits f [] w t a b c = refl
    early_fits f (p ∷ ps) w t a b c =
        let n : late g id p ≡ false = not-true (late g id p) t.0 in
        let e : disc_bits g + p.at.start + p.at.len ≡ disc_bits g + (p.at.start + p.at.len) = omega arith in
        one_fits p (disc_bits g + f) (disc_bits g + p.at.start) (map (λ p. p.at) ps) (simp n) (omega arith)
        (pair_fits_law p a.0 b.0 c.0 (lies_le (p.at.start + p.at.len) ps w.2))
        (subst (λ (x : ℕ). pairs_fit g id x (map (λ p. p.at) ps) ≡ true) (sym e) (early_fits (p.at.start + p.at.len) ps w.2 t.1 a.1 b.1 c.1))

    late_fits : (f : ℕ) (l : List Piece) (rest : List Pair) → Lies f (disc_bits g) l → All (late g id) l → All (is_long g.shortest) l → All (is_whole g.cluster) l → All (is_within g) l
        → ((x : ℕ) → x ≤ disc_bits g → pairs_fit g id x rest ≡ true) → pairs_fit g id f (map (λ p. p.at) l ++ rest) ≡ true
    late_fits f [] rest w t a b c r = r f w
    late_fits f (p ∷ ps) rest w t a b c r =
        one_fits p f p.at.start (map (λ p. p.at) ps ++ rest) (simp t.0) w.0
        (pair_fits_law p a.0 b.0 c.0 (lies_le (p.at.start + p.at.len) ps w.2))
        (late_fits (p.at.start + p.at.len) ps rest w.2 t.1 a.1 b.1 c.1 r)

    fits_lower : (a b : ℕ) (qs : List Pair) → b ≤ a → pairs_fit g id a qs ≡ true → pairs_fit g id b qs ≡ true
    fits_lower a b [] h t = refl
    fits_lower a b (q ∷ qs) h t =
        let r = rank (late g id) (disc_bits g) (own id q) in
        let c = both (pair_fits g q && leb a r) (pairs_fit g id (r + q.len) qs) t in
        let d = both (pair_fits g q) (leb a r) c.0 in
        and_true (pair_fits g q && leb b r) (pairs_fit g id (r + q.len) qs) (and_true (pair_fits g q) (leb b r) d.0 (le-leb b r (omega (arith, leb-true a r d.1)))) c.1

    -- what an object lists is in object order
    pub listed_fits : (l : List Piece) → FitPieces g l → All (is_whole g.cluster) l → pairs_fit g id 0 (object_pairs g id l) ≡ true
    listed_fits l k al =
        let X = pieces_of id l in
        let t = late g id in
        let w = lies_keep (is_of id) 0 l (fit_lies g ok l k) in
        let long = all_keep (is_long g.shortest) (is_of id) l k.long in
        let fit = all_keep (is_whole g.cluster) (is_of id) l al in
        let zone = all_keep (is_within g) (is_of id) l (within_zones g ok l k.long k.zoned k.parts) in
        let early : pairs_fit g id (disc_bits g + 0) (map (λ p. p.at) (keep (λ x. not (t x)) X)) ≡ true =
        early_fits 0 (keep (λ x. not (t x)) X) (lies_keep (λ x. not (t x)) 0 X w) (all_kept (λ x. not (t x)) X)
        (all_keep (is_long g.shortest) (λ x. not (t x)) X long) (all_keep (is_whole g.cluster) (λ x. not (t x)) X fit) (all_keep (is_within g) (λ x. not (t x)) X zone) in
        subst (λ (qs : List Pair). pairs_fit g id 0 qs ≡ true) (sym (map-append (λ (p : Piece). p.at) (keep t X) (keep (λ x. not (t x)) X)))
        (late_fits 0 (keep t X) (map (λ p. p.at) (keep (λ x. not (t x)) X)) (lies_keep t 0 X w) (all_kept t X)
        (all_keep (is_long g.shortest) t X long) (all_keep (is_whole g.cluster) t X fit) (all_keep (is_within g) t X zone)
        (λ x h. fits_lower (disc_bits g + 0) x (map (λ p. p.at) (keep (λ x. not (t x)) X)) (omega arith) early))

-- lists of numbers and pairs
pub pairs_numbers : (qs : List Pair) → pairs_from (numbers_of qs) ≡ qs
pairs_numbers [] = refl
pairs_numbers (q ∷ qs) = ap (λ (r : List Pair). q ∷ r) (pairs_numbers qs)

is_empty_law : (l : List Piece) → l ≡ [] → is_empty l ≡ true
is_empty_law l e = ap is_empty e

-- the list that a release returned can be placed
pub place_back : (g : Geometry) → AcceptedGeometry g → (id : ℕ) (l : List Piece) → FitPieces g l → All (is_whole g.cluster) l → editable g id ≡ true → (object_pairs g id l ≡ [] → ⊥)
    → judge g none (without id l) (place id (numbers_of (object_pairs g id l))) ≡ answered (gives id (object_pairs g id l))
place_back g ok id l k al t n =
    let qs = object_pairs g id l in
    let e : pairs_from (numbers_of qs) ≡ qs = pairs_numbers qs in
    let c : is_empty (pieces_of id (without id l)) ≡ true = is_empty_law (pieces_of id (without id l)) (keep_none (is_of id) l) in
    let s : ltb 0 (length (numbers_of qs)) ≡ true = lt-ltb 0 (length (numbers_of qs)) (omega (arith, length_numbers qs, some_length (object_pairs g id l) n)) in
    let v : eqb (length (numbers_of qs) % 2) 0 ≡ true = eq-eqb (length (numbers_of qs) % 2) 0 (omega (arith, length_numbers qs)) in
    let f : list_fits g id (numbers_of qs) ≡ true = and_true (ltb 0 (length (numbers_of qs)) && eqb (length (numbers_of qs) % 2) 0) (pairs_fit g id 0 (pairs_from (numbers_of qs)))
    (and_true _ _ s v) (subst (λ (x : List Pair). pairs_fit g id 0 x ≡ true) (sym e) (listed_fits g ok id l k al)) in
    let b : give id (pairs_from (numbers_of qs)) (without id l) ≡ l = ap (λ (x : List Pair). give id x (without id l)) e ∙ give_back g id l (fit_asc g l ok k) in
    let d : all_apart g 0 g.zones (give id (pairs_from (numbers_of qs)) (without id l)) ≡ true = subst (λ (x : List Piece). all_apart g 0 g.zones x ≡ true) (sym b) (apart_all g 0 g.zones l (λ i lo hi. k.parts i (omega arith))) in
    simp (t, c, f, d) (ap (λ (x : List Pair). answered (gives id x)) e)

-- an object that is there can be released, with room for its list
pub release_listed : (g : Geometry) (id room : ℕ) (l : List Piece) → editable g id ≡ true → (object_pairs g id l ≡ [] → ⊥) → 2 * length (object_pairs g id l) ≤ room
    → judge g none l (release id room) ≡ answered (takes id (object_pairs g id l))
release_listed g id room l t n r =
    let c : not (is_empty (pieces_of id l)) ≡ true = not_empty (pieces_of id l) (λ x. n (ap (λ (ps : List Piece). map (λ p. p.at) (rotate (late g id) ps)) x)) in
    simp (t, c, le-leb (2 * length (object_pairs g id l)) room r)
  where
    not_empty : (ps : List Piece) → (ps ≡ [] → ⊥) → not (is_empty ps) ≡ true
    not_empty [] n = absurd (n refl)
    not_empty (p ∷ ps) n = refl

-- pairs that were given can be released, with room for them
pub release_back : (g : Geometry) (id room : ℕ) (qs : List Pair) (l : List Piece) → Allowed g l (gives id qs) → editable g id ≡ true → (qs ≡ [] → ⊥) → 2 * length qs ≤ room
    → judge g none (give id qs l) (release id room) ≡ answered (takes id qs)
release_back g id room qs l h t n r =
    let e : object_pairs g id (give id qs l) ≡ qs = read_back g id qs l h in
    release_listed g id room (give id qs l) t (λ x. n (sym e ∙ x)) (omega (arith, ap length e)) ∙ ap (λ (x : List Pair). answered (takes id x)) e
