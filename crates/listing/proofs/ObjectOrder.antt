-- An object's pieces in object order are its fragments of the zones from the start zone on, and then those of the zones before
-- it: all pieces of a zone lie in that zone, so the start zone's test keeps a zone whole or leaves it out whole.
use mathlib.Core.Path.{◌≡◌, refl, sym, ap, ap₂, ◌∙◌}
use mathlib.Core.Bool.{Bool, true, false, cond, not}
use mathlib.Core.List.{List, [], ◌∷◌, ◌++◌, map, append-nil, append_assoc}
use Prim.Native.Nat.{ℕ, suc, ◌+◌, ◌-◌, ◌<◌, ◌≤◌}
use native.Mathlib.Nat.{sub-zero}
use native.Mathlib.Omega.{arith}
use lib.Dec.{eqb, leb, ltb}
use borrow.Author.Tests.{le-leb, lt-leb, ltb-true, ltb-false, ne_eqb}
use Rattle.bits.proofs.Tests.{by_test}
use Rattle.geometry.specs.declared.Geometry.{Geometry}
use Rattle.geometry.specs.Places.{first_bit, end_bit, start_zone}
use Rattle.geometry.proofs.DiscBits.{zone_of_disc}
use Rattle.model.specs.Chain.{Pair, Holder, free, owned, Entry}
use Rattle.model.specs.Rules.{zone_block}
use Rattle.model.specs.Pieces.{Piece, keep, owned_if, owned_of, to_disc, piece_to_disc, pieces_of_zones, is_of, pieces_of, late, object_pairs}
use Rattle.model.proofs.Lists.{keep_append}
use Rattle.zone.specs.Lines.{entries_in, holder_number}
use Rattle.zone.proofs.EntriesRead.{is_read}
use Rattle.map.specs.Accepted.{AcceptedMap}
use Rattle.walk.specs.HeldBy.{held_by, in_disc_bits, held_in, held_from}
use Rattle.map.proofs.Accepts.{ReadInTurn, zones_in_turn}
use Rattle.walk.proofs.HeldZones.{held_turn, held_end}
use Rattle.listing.proofs.Filled.{Fills, fills_le, entries_fill}

-- the places of pieces
abbrev pub places : List Piece → List Pair
places ps = map (λ p. p.at) ps

pub places_append : (ps qs : List Piece) → places (ps ++ qs) ≡ places ps ++ places qs
places_append [] qs = refl
places_append (p ∷ ps) qs = ap (λ (r : List Pair). p.at ∷ r) (places_append ps qs)

-- a test that gives all bits of a zone one answer
abbrev Same : Geometry → (Piece → Bool) → Bool → ℕ → Type 0
Same g t b z = (q : Pair) (o : ℕ) → first_bit z ≤ q.start → q.start < end_bit g → t (record { at = to_disc g z q; owner = o }) ≡ b

module _ (g : Geometry) (z id : ℕ) (some : 1 ≤ id) (t : Piece → Bool) (b : Bool) (same : Same g t b z) where
  kept_step : (h : Holder) (q : Pair) (ps : List Piece) (qs : List Pair) → first_bit z ≤ q.start → q.start < end_bit g
      → places (keep t (pieces_of id (map (piece_to_disc g z) ps))) ≡ cond b (in_disc_bits g z qs) []
      → places (keep t (pieces_of id (map (piece_to_disc g z) (owned_if h q ps)))) ≡ cond b (in_disc_bits g z (cond (eqb (holder_number h) id) (q ∷ qs) qs)) []
  kept_step free q ps qs l h e = rw (ne_eqb 0 id (λ k. omega arith)) e
  kept_step (owned o) q ps qs l h e =
      by_test (eqb o id)
      (λ u. simp (u, same q o l h) (go b e))
      (λ u. simp u e)
    where
      go : (b : Bool) → places (keep t (pieces_of id (map (piece_to_disc g z) ps))) ≡ cond b (in_disc_bits g z qs) []
          → places (cond b (record { at = to_disc g z q; owner = o } ∷ keep t (pieces_of id (map (piece_to_disc g z) ps))) (keep t (pieces_of id (map (piece_to_disc g z) ps))))
          ≡ cond b (to_disc g z q ∷ in_disc_bits g z qs) []
      go true e = ap (λ (r : List Pair). to_disc g z q ∷ r) e
      go false e = e

  kept_zone : (at : ℕ) (es : List Entry) → first_bit z ≤ at → Fills at (end_bit g) es
      → places (keep t (pieces_of id (map (piece_to_disc g z) (owned_of es)))) ≡ cond b (in_disc_bits g z (held_by id es)) []
  kept_zone at [] l f = by_test b (λ u. rw u) (λ u. rw u)
  kept_zone at (e ∷ es) l f =
      let h : at + e.at.len ≤ end_bit g = fills_le (at + e.at.len) (end_bit g) es f.2 in
      kept_step e.holder e.at (owned_of es) (held_by id es) (omega arith) (omega arith) (kept_zone (at + e.at.len) es (omega arith) f.2)

-- the zones in turn
module _ {m : List ℕ} {g : Geometry} (a : AcceptedMap m g) (id : ℕ) (some : 1 ≤ id) where
  -- the places of those that pass a test, from zone z on
  abbrev passed : (Piece → Bool) → ℕ → List (List Entry) → List Pair
  passed t z ess = places (keep t (pieces_of id (pieces_of_zones g z ess)))

  first_zone_law : (t : Piece → Bool) (z : ℕ) (es : List Entry) (ess : List (List Entry))
      → passed t z (es ∷ ess) ≡ places (keep t (pieces_of id (map (piece_to_disc g z) (owned_of es)))) ++ passed t (suc z) ess
  first_zone_law t z es ess =
      ap (λ (r : List Piece). places (keep t r)) (keep_append (is_of id) (map (piece_to_disc g z) (owned_of es)) (pieces_of_zones g (suc z) ess))
      ∙ ap places (keep_append t (pieces_of id (map (piece_to_disc g z) (owned_of es))) (pieces_of id (pieces_of_zones g (suc z) ess)))
      ∙ places_append (keep t (pieces_of id (map (piece_to_disc g z) (owned_of es)))) (keep t (pieces_of id (pieces_of_zones g (suc z) ess)))

  -- what the object has in zones z to n, or nothing
  abbrev held_if : Bool → ℕ → ℕ → List Pair
  held_if b z n = cond b (held_from g id m z (n - z)) []

  if_turn : (b : Bool) (z n : ℕ) → z < n → cond b (held_in g id m z) [] ++ held_if b (suc z) n ≡ held_if b z n
  if_turn true z n k =
      let f : suc z ≡ z + 1 = omega arith in
      ap (λ (i : ℕ). held_in g id m z ++ held_from g id m i (n - i)) f ∙ sym (held_turn g id m z n k)
  if_turn false z n k = refl

  if_end : (b : Bool) (z n : ℕ) → n ≤ z → held_if b z n ≡ []
  if_end true z n k = held_end g id m z n k
  if_end false z n k = refl

  -- a test that answers b in the zones before s, and c in those from s on
  module _ (t : Piece → Bool) (b c : Bool) (s : ℕ) (before : (z : ℕ) → z < s → Same g t b z) (on : (z : ℕ) → s ≤ z → Same g t c z) where
    -- zone z is passed whole, or left out whole
    whole_zone : (x : Bool) (z : ℕ) (es : List Entry) (ess : List (List Entry)) (rest : List Pair) → ReadInTurn m g z (es ∷ ess) → Same g t x z → passed t (suc z) ess ≡ rest
        → passed t z (es ∷ ess) ≡ cond x (held_in g id m z) [] ++ rest
    whole_zone x z es ess rest r same q =
        let e : es ≡ entries_in g z (zone_block g m z) = sym (is_read g z (zone_block g m z) es r.1).0 in
        first_zone_law t z es ess
        ∙ ap₂ (λ (x y : List Pair). x ++ y)
        (kept_zone g z id some t x same (first_bit z) es (omega arith) (entries_fill a z es r.0 r.1) ∙ ap (λ (y : List Entry). cond x (in_disc_bits g z (held_by id y)) []) e) q

    from_on : (z : ℕ) (ess : List (List Entry)) → ReadInTurn m g z ess → s ≤ z → passed t z ess ≡ held_if c z g.zones
    from_on z [] r k = sym (if_end c z g.zones (omega arith))
    from_on z (es ∷ ess) r k =
        whole_zone c z es ess (held_if c (suc z) g.zones) r (on z k) (from_on (suc z) ess r.2 (omega arith)) ∙ if_turn c z g.zones r.0

    in_parts : (z : ℕ) (ess : List (List Entry)) → ReadInTurn m g z ess → z ≤ s → s ≤ g.zones → passed t z ess ≡ held_if b z s ++ held_if c s g.zones
    in_parts z [] r k h = sym (ap₂ (λ (x y : List Pair). x ++ y) (if_end b z s (omega arith)) (if_end c s g.zones (omega arith)))
    in_parts z (es ∷ ess) r k h =
        by_test (ltb z s)
        (λ u. let l = ltb-true z s u in
        whole_zone b z es ess (held_if b (suc z) s ++ held_if c s g.zones) r (before z l) (in_parts (suc z) ess r.2 l h)
        ∙ sym (append_assoc (cond b (held_in g id m z) []) (held_if b (suc z) s) (held_if c s g.zones))
        ∙ ap (λ (x : List Pair). x ++ held_if c s g.zones) (if_turn b z s l))
        (λ u. let e : z ≡ s = omega (arith, ltb-false) in
        from_on z (es ∷ ess) r (omega arith)
        ∙ (λ i. sym (if_end b z s (ltb-false z s u)) i ++ held_if c (e i) g.zones))

  abbrev s : ℕ
  s = start_zone g id

  in_zone_law : (z : ℕ) (x : Bool) → leb s z ≡ x → Same g (late g id) x z
  in_zone_law z x e q o l h = ap (leb s) (zone_of_disc g a.readable.numbers z q.start l h) ∙ e

  abbrev early : Piece → Bool
  early p = not (late g id p)

  pub in_object_order : s ≤ g.zones → object_pairs g id (pieces_of_zones g 0 a.zones) ≡ held_from g id m s (g.zones - s) ++ held_from g id m 0 s
  in_object_order inside =
      places_append (keep (late g id) (pieces_of id (pieces_of_zones g 0 a.zones))) (keep early (pieces_of id (pieces_of_zones g 0 a.zones)))
      ∙ ap₂ (λ (x y : List Pair). x ++ y)
      (in_parts (late g id) false true s (λ z k. in_zone_law z false (lt-leb s z k)) (λ z k. in_zone_law z true (le-leb s z k)) 0 a.zones (zones_in_turn a) (omega arith) inside)
      (in_parts early true false s (λ z k q o l h. ap not (in_zone_law z false (lt-leb s z k) q o l h)) (λ z k q o l h. ap not (in_zone_law z true (le-leb s z k) q o l h)) 0 a.zones (zones_in_turn a) (omega arith) inside
      ∙ append-nil (held_from g id m 0 (s - 0)) ∙ ap (held_from g id m 0) (sub-zero s))

  keep_all : (ps : List Piece) → keep (λ (p : Piece). true) ps ≡ ps
  keep_all [] = refl
  keep_all (p ∷ ps) = ap (λ (r : List Piece). p ∷ r) (keep_all ps)

  -- and in the order of the zones they are what it has in all zones
  pub object_held : places (pieces_of id (pieces_of_zones g 0 a.zones)) ≡ held_from g id m 0 g.zones
  object_held =
      ap places (sym (keep_all (pieces_of id (pieces_of_zones g 0 a.zones))))
      ∙ in_parts (λ p. true) false true 0 (λ z k. absurd (omega arith)) (λ z k q o l h. refl) 0 a.zones (zones_in_turn a) (omega arith) (omega arith)
      ∙ ap (held_from g id m 0) (sub-zero g.zones)
