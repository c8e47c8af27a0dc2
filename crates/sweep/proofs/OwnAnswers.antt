-- The laws of the sweeps' own answers: an answer is the class that the map shows (`ByTable`), and an object's class covers the bytes of
-- the pieces that `list` answers, which in version 0 are those that `address` answers.
use mathlib.Core.Path.{◌≡◌, refl, sym, ap, ◌∙◌}
use mathlib.Core.Bool.{true, false}
use mathlib.Core.List.{List}
use Prim.Native.Nat.{ℕ, ◌+◌, ◌*◌, ◌<◌, ◌≤◌}
use native.Mathlib.Omega.{arith}
use lib.Dec.{leb, ltb}
use borrow.Author.Tests.{leb-true, leb-false, ltb-true, ltb-false}
use Rattle.bits.proofs.Tests.{by_test}
use Rattle.geometry.specs.declared.Geometry.{Geometry}
use Rattle.geometry.specs.Record.{version_of, geometry_of}
use Rattle.model.specs.Answer.{answered}
use Rattle.model.specs.Chain.{Pair}
use Rattle.model.specs.Rules.{MapRules}
use Rattle.model.specs.Shown.{listed_on}
use Rattle.model.proofs.LinesJudged.{table_answered}
use Rattle.listing.specs.Listed.{object_found, free_found}
use Rattle.listing.proofs.OwnAnswers.{shown, list_shows, free_shows}
use Rattle.address.specs.Address.{id_of, start_offset, at, seek, address_found}
use Rattle.address.proofs.OwnAnswers.{found, object_answers}
use Rattle.sweep.specs.Sweep.{Class, covers, object_sweep, free_sweep}
use Rattle.sweep.specs.Refusals.{object_class_on}
use Rattle.sweep.proofs.ByTable.{sweep_by_table, free_sweep_by_table}
use Rattle.sweep.proofs.SweptReached.{object_reached, object_covered, object_not_free}

-- an id that is not outside is inside
inside : (low id end : ℕ) → (((low ≤ id) × (id < end) → ⊥) → ⊥) → (low ≤ id) × (id < end)
inside low id end n =
    by_test (leb low id)
    (λ t. by_test (ltb id end) (λ u. (leb-true low id t, ltb-true id end u)) (λ u. absurd (n (λ k. omega (arith, k.1, ltb-false id end u)))))
    (λ t. absurd (n (λ k. omega (arith, k.0, leb-false low id t))))

-- byte i of the pieces that `list` answers is that of the pieces that the map shows
listed_byte : (m : List ℕ) (id room : ℕ) (qs : List Pair) → object_found m id room ≡ answered qs
    → (i : ℕ) → seek (geometry_of m).unit qs i ≡ seek (geometry_of m).unit (listed_on m id) i
listed_byte m id room qs l i = ap (λ (x : List Pair). seek (geometry_of m).unit x i) (list_shows m id room qs l)

module _ (m : List ℕ) (id first n : ℕ) (c : Class) (e : object_sweep m id first n ≡ answered c) where
  abbrev g : Geometry
  g = geometry_of m

  -- what is covered are the bytes of the pieces that the map shows
  class_is : c ≡ object_class_on m id
  class_is = (table_answered (sweep_by_table m id first n) e).value

  rules : MapRules m
  rules = (table_answered (sweep_by_table m id first n) e).rules

  covered_shown : (a : ℕ) → covers c.unit c.pairs a ≡ true → (i : ℕ) × (seek g.unit (listed_on m id) i ≡ at a)
  covered_shown a h = object_reached (shown m rules) id a (sym (ap (λ (x : Class). covers x.unit x.pairs a) class_is) ∙ h)

  shown_covered : (i a : ℕ) → seek g.unit (listed_on m id) i ≡ at a → covers c.unit c.pairs a ≡ true
  shown_covered i a s = ap (λ (x : Class). covers x.unit x.pairs a) class_is ∙ object_covered (shown m rules) id i a s

  -- and so those that `list` answers
  pub sweep_lists : (room : ℕ) (qs : List Pair) → object_found m id room ≡ answered qs
      → (a : ℕ) → covers c.unit c.pairs a ≡ true → (i : ℕ) × (seek g.unit qs i ≡ at a)
  sweep_lists room qs l a h = let r = covered_shown a h in (r.0, listed_byte m id room qs l r.0 ∙ r.1)

  pub listed_swept : (room : ℕ) (qs : List Pair) → object_found m id room ≡ answered qs
      → (i a : ℕ) → seek g.unit qs i ≡ at a → covers c.unit c.pairs a ≡ true
  listed_swept room qs l i a s = shown_covered i a (sym (listed_byte m id room qs l i) ∙ s)

  pub sweep_reaches : version_of m ≡ 0 → (a : ℕ) → covers c.unit c.pairs a ≡ true → (i : ℕ) × (address_found m (id * 256) i ≡ answered a)
  sweep_reaches v a h =
      let k = inside 3 id (g.ids * g.zones) (λ o. (table_answered (sweep_by_table m id first n) e).none_given.0 0 (refl, o)) in
      let r = covered_shown a h in
      (r.0, object_answers m rules v id (omega (arith, k.0)) k.1 r.0 a r.1)

  pub reached_swept : (k i a : ℕ) → id_of k ≡ id → address_found m k i ≡ answered a → covers c.unit c.pairs a ≡ true
  reached_swept k i a o f =
      shown_covered (start_offset g k + i) a (sym (ap (λ (y : ℕ). seek g.unit (listed_on m y) (start_offset g k + i)) o) ∙ (found m k i a f).sought)

module _ (m : List ℕ) (first n : ℕ) (c : Class) (e : free_sweep m first n ≡ answered c) where
  -- no byte of a piece that the map shows is covered
  shown_left : (id i a : ℕ) → seek (geometry_of m).unit (listed_on m id) i ≡ at a → covers c.unit c.pairs a ≡ false
  shown_left id i a s =
      let v = table_answered (free_sweep_by_table m first n) e in
      ap (λ (x : Class). covers x.unit x.pairs a) v.value ∙ object_not_free (shown m v.rules) id i a s

  pub free_sweep_leaves : (id room : ℕ) (qs : List Pair) → object_found m id room ≡ answered qs
      → (i a : ℕ) → seek (geometry_of m).unit qs i ≡ at a → covers c.unit c.pairs a ≡ false
  free_sweep_leaves id room qs l i a s = shown_left id i a (sym (listed_byte m id room qs l i) ∙ s)

  pub free_sweep_misses : (k i a : ℕ) → address_found m k i ≡ answered a → covers c.unit c.pairs a ≡ false
  free_sweep_misses k i a f = shown_left (id_of k) (start_offset (geometry_of m) k + i) a (found m k i a f).sought

  pub free_sweep_spans : (room : ℕ) (qs : List Pair) → free_found m room ≡ answered qs → c.pairs ≡ qs
  free_sweep_spans room qs f = ap (λ (x : Class). x.pairs) (table_answered (free_sweep_by_table m first n) e).value ∙ sym (free_shows m room qs f)
