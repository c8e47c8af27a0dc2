-- The lowest zone in which two free fragments touch, one line at a time. The lines of a zone tell it where two free ones follow each
-- other, since no owner is 0; a line of a later zone does not follow a line of this one.
use mathlib.Core.Path.{◌≡◌, refl, sym, ap, ◌∙◌}
use mathlib.Core.Bool.{Bool, true, false, cond, ◌&&◌}
use mathlib.Core.List.{List, [], ◌∷◌, ◌++◌, map}
use mathlib.Core.Option.{Option, none, some}
use mathlib.Core.Logic.{◌⊎◌, inl, inr}
use Prim.Native.Nat.{ℕ, zero, suc, ◌+◌, ◌<◌}
use native.Mathlib.Omega.{arith}
use lib.Dec.{eqb}
use borrow.Author.Tests.{eq-eqb, ne_eqb}
use Rattle.bits.proofs.Tests.{by_test, both, and_with_false}
use Rattle.geometry.specs.declared.Geometry.{Geometry}
use Rattle.model.specs.Chain.{Holder, free, owned, Entry, is_free, none_touch, touching}
use Rattle.model.specs.Rules.{zone_block}
use Rattle.model.specs.Check.{every, holder_fits, id_fits}
use Rattle.zone.specs.Lines.{entries_in, holder_number}
use Rattle.zone.proofs.EntriesRead.{is_read}
use Rattle.map.specs.Accepted.{AcceptedMap}
use Rattle.walk.specs.declared.Line.{Line}
use Rattle.walk.specs.Remaining.{line_of, lines_from}
use Rattle.map.proofs.Accepts.{ReadInTurn, zones_in_turn}
use Rattle.walk.proofs.OwnersSome.{ids_fit, owner_some}
use Rattle.model.specs.Shown.{zones_in, zones_of}
use Rattle.walk.specs.Touching.{touching_of, touching_lines}
use Rattle.std.proofs.Common.{Some, None}

-- from the answer to what it tells
pub none_told : (o : Option ℕ) → touching_of o ≡ None → o ≡ none
none_told none e = refl
none_told (some z) e = let x : ◌≡◌ {A = ℕ} 0 1 = cc in absurd (omega arith)

pub zone_told : (o : Option ℕ) (z : ℕ) → touching_of o ≡ Some z → o ≡ some z
zone_told none z e = let x : ◌≡◌ {A = ℕ} 0 1 = cc in absurd (omega arith)
zone_told (some y) z e = let k : y ≡ z = cc in ap some k

-- the entries of an accepted map's zones
pub zones_are : {m : List ℕ} {g : Geometry} (a : AcceptedMap m g) → zones_of m ≡ a.zones
zones_are a = ap zones_in a.read

-- the lines of one zone
number_free : (g : Geometry) (h : Holder) → holder_fits g h ≡ true → eqb (holder_number h) 0 ≡ is_free h
number_free g free f = refl
number_free g (owned id) f = owner_some g id f

-- whether the last entry is free
abbrev last_free : Bool → List Entry → Bool
last_free was_free [] = was_free
last_free was_free (e ∷ es) = last_free (is_free e.holder) es

lines_touching : (g : Geometry) (z : ℕ) (was_free : Bool) (es : List Entry) (ls : List Line) → every (id_fits g) es ≡ true
    → touching_lines z was_free (map (line_of g z) es ++ ls) ≡ cond (none_touch was_free es) (touching_lines z (last_free was_free es) ls) (some z)
lines_touching g z was_free [] ls f = refl
lines_touching g z was_free (e ∷ es) ls f =
    let b = both (id_fits g e) (every (id_fits g) es) f in
    let ih = lines_touching g z (is_free e.holder) es ls b.1 in
    by_test (was_free && is_free e.holder)
    (λ t. rw (number_free g e.holder b.0, eq-eqb z z refl, t))
    (λ t. rw (number_free g e.holder b.0, eq-eqb z z refl, t) ih)

-- lines of later zones
abbrev After : ℕ → List Line → Type 0
After z [] = Unit {0}
After z (l ∷ ls) = z < l.zone

after_on : (g : Geometry) (m : List ℕ) (y z n : ℕ) → y < z → After y (lines_from g m z n)
after_on g m y z zero h = tt
after_on g m y z (suc n) h = go (entries_in g z (zone_block g m z)) (after_on g m y (suc z) n (omega arith))
  where
    go : (es : List Entry) → After y (lines_from g m (suc z) n) → After y (map (line_of g z) es ++ lines_from g m (suc z) n)
    go [] k = k
    go (e ∷ es) k = h

new_zone : (y z : ℕ) (was_free : Bool) (ls : List Line) → After y ls → touching_lines y was_free ls ≡ touching_lines z false ls
new_zone y z was_free [] h = refl
new_zone y z was_free (l ∷ ls) h = rw (ne_eqb l.zone y (λ e. omega arith), and_with_false (was_free && eqb l.holder 0))

-- the lines of the zones from z on
module _ (m : List ℕ) (g : Geometry) where
  zones_touching : (z n : ℕ) (ess : List (List Entry)) → z + n ≡ g.zones → ReadInTurn m g z ess → touching_lines z false (lines_from g m z n) ≡ touching z ess
  zones_touching z zero [] e r = refl
  zones_touching z zero (es ∷ ess) e r = absurd (omega arith)
  zones_touching z (suc n) [] e r = absurd (omega arith)
  zones_touching z (suc n) (es ∷ ess) e r =
      let q = (is_read g z (zone_block g m z) es r.1).0 in
      let ls = lines_from g m (suc z) n in
      ap (λ (x : List Entry). touching_lines z false (map (line_of g z) x ++ ls)) q
      ∙ lines_touching g z false es ls (ids_fit g z (zone_block g m z) es r.1)
      ∙ ap (λ (x : Option ℕ). cond (none_touch false es) x (some z))
      (new_zone z (suc z) (last_free false es) ls (after_on g m z (suc z) n (omega arith)) ∙ zones_touching (suc z) n ess (omega arith) r.2)

-- of the lines of an accepted map, and of a line and those after it
pub touching_all : {m : List ℕ} {g : Geometry} → AcceptedMap m g → touching_lines 0 false (lines_from g m 0 g.zones) ≡ touching 0 (zones_of m)
touching_all {m} {g} a =
    zones_touching m g 0 g.zones a.zones (omega arith) (zones_in_turn a) ∙ ap (touching 0) (sym (zones_are a))

-- a line that does not touch the one before it
pub touching_passed : (z : ℕ) (was_free : Bool) (l : Line) (ls : List Line)
    → ((was_free ≡ true × l.holder ≡ 0 × (l.zone ≡ z → ⊥)) ⊎ ((was_free ≡ true × (l.holder ≡ 0 → ⊥)) ⊎ was_free ≡ false))
    → touching_lines z was_free (l ∷ ls) ≡ touching_lines l.zone (eqb l.holder 0) ls
touching_passed z was_free l ls (inl h) = rw (ne_eqb l.zone z h.2, and_with_false (was_free && eqb l.holder 0))
touching_passed z was_free l ls (inr (inl h)) = rw (h.0, ne_eqb l.holder 0 h.1)
touching_passed z was_free l ls (inr (inr h)) = rw h
