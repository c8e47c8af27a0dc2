-- An object other than 1 lies on the disc: by the disc-end rule each of its pieces ends at or before the disc's end, so each
-- address is below disc_size.
use mathlib.Core.Path.{◌≡◌, sym, ap, ◌∙◌}
use mathlib.Core.Bool.{Bool, true, not, ◌&&◌, ◌||◌}
use mathlib.Core.List.{List, [], ◌∷◌, ◌++◌, map}
use mathlib.Core.Logic.{◌⊎◌, inl, inr}
use Prim.Native.Nat.{ℕ, suc, ◌+◌, ◌-◌, ◌*◌, ◌/◌, ◌<◌, ◌≤◌}
use native.Mathlib.Nat.{mul-le-mul_right, div-mul-le_self}
use native.Mathlib.Omega.{arith}
use lib.Dec.{eqb, leb, ltb}
use borrow.Author.Tests.{eqb-true, leb-true, ltb-true}
use Rattle.bits.proofs.Tests.{by_test, both, either}
use Rattle.geometry.specs.declared.Geometry.{Geometry}
use Rattle.geometry.specs.Places.{first_bit, end_bit, disc_bit}
use Rattle.geometry.proofs.DiscBits.{from_zero_on}
use Rattle.model.specs.Chain.{Pair, Holder, free, owned, Entry}
use Rattle.model.specs.Rules.{zone_block}
use Rattle.model.specs.Answer.{answered}
use Rattle.model.specs.Check.{zone_read, every, is_owned, id_fits, end_fits, first_owned}
use Rattle.model.specs.Pieces.{Piece, keep, owned_if, owned_of, piece_to_disc, pieces_of_zones, pieces_of, late, object_pairs}
use Rattle.model.proofs.ZoneTests.{zone_tests}
use Rattle.map.specs.Accepted.{AcceptedMap}
use Rattle.map.proofs.Accepts.{ReadInTurn, zones_in_turn}
use Rattle.listing.proofs.Filled.{Fills, entries_fill}
use Rattle.listing.proofs.ObjectOrder.{places}
use Rattle.address.specs.Address.{at, seek}
use Rattle.address.proofs.Joined.{never_at, same_byte}

-- pieces that end at or before a bit: all of them, or all that 1 does not own
abbrev EndBy : ℕ → List Piece → Type 0
EndBy end [] = Unit {0}
EndBy end (p ∷ ps) = (p.at.start + p.at.len ≤ end) × EndBy end ps

abbrev OthersEndBy : ℕ → List Piece → Type 0
OthersEndBy end [] = Unit {0}
OthersEndBy end (p ∷ ps) = ((p.owner ≡ 1 → ⊥) → p.at.start + p.at.len ≤ end) × OthersEndBy end ps

others_append : (end : ℕ) (ps qs : List Piece) → OthersEndBy end ps → OthersEndBy end qs → OthersEndBy end (ps ++ qs)
others_append end [] qs h k = k
others_append end (p ∷ ps) qs h k = (h.0, others_append end ps qs h.1 k)

end_append : (end : ℕ) (ps qs : List Piece) → EndBy end ps → EndBy end qs → EndBy end (ps ++ qs)
end_append end [] qs h k = k
end_append end (p ∷ ps) qs h k = (h.0, end_append end ps qs h.1 k)

end_keep : (end : ℕ) (t : Piece → Bool) (ps : List Piece) → EndBy end ps → EndBy end (keep t ps)
end_keep end t [] h = tt
end_keep end t (p ∷ ps) h = by_test (t p) (λ u. rw u (h.0, end_keep end t ps h.1)) (λ u. rw u (end_keep end t ps h.1))

object_ends : (end id : ℕ) (ps : List Piece) → (id ≡ 1 → ⊥) → OthersEndBy end ps → EndBy end (pieces_of id ps)
object_ends end id [] n h = tt
object_ends end id (p ∷ ps) n h =
    by_test (eqb p.owner id)
    (λ u. rw u (h.0 (λ e. n (sym (eqb-true p.owner id u) ∙ e)), object_ends end id ps n h.1))
    (λ u. rw u (object_ends end id ps n h.1))

seek_below : (unit end : ℕ) (ps : List Piece) → EndBy end ps → (i a : ℕ) → seek unit (places ps) i ≡ at a → a < end * unit
seek_below unit end [] h i a e = absurd (never_at i a e)
seek_below unit end (p ∷ ps) h i a e =
    let l : ℕ = p.at.len * unit in
    by_test (ltb i l)
    (λ t. let k : (p.at.start + p.at.len) * unit ≤ end * unit = mul-le-mul_right unit h.0 in
    omega (arith, ltb-true i l t, same_byte (p.at.start * unit + i) a (rw t at e)))
    (λ t. seek_below unit end ps h.1 (i - l) a (rw t at e))

-- a zone's pieces, in disc bits
ends_fit : (g : Geometry) (z : ℕ) (b : List ℕ) (es : List Entry) → zone_read g z b ≡ answered es → every (end_fits g z) es ≡ true
ends_fit g z b es e =
    let p = both (every (id_fits g) es && every (end_fits g z) es) (not (eqb z (g.zones / 2)) || first_owned 2 es) (zone_tests g z b es e).owners in
    (both (every (id_fits g) es) (every (end_fits g z) es) p.0).1

module _ {m : List ℕ} {g : Geometry} (a : AcceptedMap m g) where
  piece_ends : (z : ℕ) (h : Holder) (q : Pair) (ps : List Piece) → first_bit z ≤ q.start → (is_owned 1 h || leb (disc_bit g z (q.start + q.len)) g.end.0) ≡ true
      → OthersEndBy g.end.0 (map (piece_to_disc g z) ps) → OthersEndBy g.end.0 (map (piece_to_disc g z) (owned_if h q ps))
  piece_ends z free q ps l t k = k
  piece_ends z (owned o) q ps l t k = (go (either (eqb o 1) (leb (disc_bit g z (q.start + q.len)) g.end.0) t), k)
    where
      go : (eqb o 1 ≡ true) ⊎ (leb (disc_bit g z (q.start + q.len)) g.end.0 ≡ true) → (o ≡ 1 → ⊥) → disc_bit g z q.start + q.len ≤ g.end.0
      go (inl u) n = absurd (n (eqb-true o 1 u))
      go (inr u) n = omega (arith, leb-true (disc_bit g z (q.start + q.len)) g.end.0 u, from_zero_on g a.readable.numbers z q.start l)

  zone_ends : (z from : ℕ) (es : List Entry) → first_bit z ≤ from → Fills from (end_bit g) es → every (end_fits g z) es ≡ true → OthersEndBy g.end.0 (map (piece_to_disc g z) (owned_of es))
  zone_ends z from [] l f t = tt
  zone_ends z from (e ∷ es) l f t =
      let k = both (end_fits g z e) (every (end_fits g z) es) t in
      piece_ends z e.holder e.at (owned_of es) (omega (arith, f.0)) k.0 (zone_ends z (from + e.at.len) es (omega arith) f.2 k.1)

  zones_end : (z : ℕ) (ess : List (List Entry)) → ReadInTurn m g z ess → OthersEndBy g.end.0 (pieces_of_zones g z ess)
  zones_end z [] r = tt
  zones_end z (es ∷ ess) r =
      others_append g.end.0 (map (piece_to_disc g z) (owned_of es)) (pieces_of_zones g (suc z) ess)
      (zone_ends z (first_bit z) es (omega arith) (entries_fill a z es r.0 r.1) (ends_fit g z (zone_block g m z) es r.1))
      (zones_end (suc z) ess r.2)

  pub object_on_disc : (id i x : ℕ) → (id ≡ 1 → ⊥) → seek g.unit (object_pairs g id (pieces_of_zones g 0 a.zones)) i ≡ at x → x < g.size
  object_on_disc id i x n e =
      let ps : List Piece = pieces_of id (pieces_of_zones g 0 a.zones) in
      let k : EndBy g.end.0 ps = object_ends g.end.0 id (pieces_of_zones g 0 a.zones) n (zones_end 0 a.zones (zones_in_turn a)) in
      let b = seek_below g.unit g.end.0 (keep (late g id) ps ++ keep (λ p. not (late g id p)) ps)
      (end_append g.end.0 (keep (late g id) ps) (keep (λ p. not (late g id p)) ps) (end_keep g.end.0 (late g id) ps k) (end_keep g.end.0 (λ p. not (late g id p)) ps k)) i x e in
      let u : g.end.0 * g.unit ≡ g.size / g.unit * g.unit = ap (λ (y : ℕ). y * g.unit) a.readable.numbers.end_is in
      omega (arith, div-mul-le_self g.size g.unit)
