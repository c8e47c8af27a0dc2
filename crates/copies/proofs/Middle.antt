-- Where the copies lie: the middle zone's first fragment is object 2's, so the first pair that `list` answers for 2 starts with the zone's
-- first bit, and it ends on the disc.
use mathlib.Core.Path.{◌≡◌, refl, sym, ap, ◌∙◌, subst}
use mathlib.Core.Bool.{true, not, ◌&&◌, ◌||◌, false≢true}
use mathlib.Core.List.{List, [], ◌∷◌, ◌++◌}
use mathlib.Core.Logic.{◌⊎◌, inl, inr}
use Prim.Native.Nat.{ℕ, suc, ◌+◌, ◌-◌, ◌*◌, ◌/◌, ◌<◌, ◌≤◌}
use native.Mathlib.Nat.{mul-le-mul_right, div-mul-le_self, suc-mul}
use native.Mathlib.Omega.{arith}
use lib.Dec.{eqb, leb}
use lib.ListN.{length}
use borrow.Author.Tests.{eqb-true, eq-eqb, leb-true}
use Rattle.bits.proofs.Tests.{both, either}
use Rattle.geometry.specs.declared.Geometry.{Geometry}
use Rattle.geometry.specs.Record.{geometry_of}
use Rattle.geometry.specs.Places.{first_bit, end_bit, disc_bit, zone_from}
use Rattle.geometry.proofs.DiscBits.{zone_starts, from_zero_on}
use Rattle.model.specs.Answer.{answered}
use Rattle.model.specs.Chain.{Pair, Holder, free, owned, Entry}
use Rattle.model.specs.Check.{every, is_owned, id_fits, end_fits, first_owned}
use Rattle.model.specs.Pieces.{to_disc}
use Rattle.model.specs.Refusals.{ByTable, Exactly}
use Rattle.model.specs.Rules.{zone_block, MapRules}
use Rattle.model.proofs.LinesJudged.{by_table, table_answered}
use Rattle.model.proofs.ZoneTests.{zone_tests}
use Rattle.zone.specs.Lines.{entries_in}
use Rattle.map.specs.Accepted.{AcceptedMap}
use Rattle.walk.specs.HeldBy.{held_by, in_disc_bits, held_from}
use Rattle.listing.specs.Listed.{object_found}
use Rattle.listing.proofs.Filled.{Fills, entries_fill}
use Rattle.listing.proofs.ObjectOrder.{in_object_order}
use Rattle.listing.proofs.OwnAnswers.{shown, list_shows}
use Rattle.copies.specs.declared.Addresses.{Addresses}
use Rattle.copies.specs.Copies.{first_copy, copies_of, addresses_found}

pub addresses_by_table : (m : List ℕ) → Exactly (ByTable m [] (copies_of (geometry_of m))) (addresses_found m)
addresses_by_table m =
    let l : Addresses = copies_of (geometry_of m) in
    by_table m [] l tt (λ (ess : List (List Entry)). answered l) (λ ess e. refl)

-- the first of a zone's entries, where it is object 2's: it starts with the zone, and ends by the disc's end
pub record StartsWith2 (g : Geometry) (z : ℕ) (es : List Entry) : Type 0 where
  pub at : Pair
  pub rest : List Pair
  pub held : held_by 2 es ≡ at ∷ rest
  pub starts : at.start ≡ first_bit z
  pub some_bits : 0 < at.len
  pub ends : disc_bit g z (at.start + at.len) ≤ g.end.0

first_of_2 : (g : Geometry) (z : ℕ) (es : List Entry) → Fills (first_bit z) (end_bit g) es → every (end_fits g z) es ≡ true → first_owned 2 es ≡ true
    → StartsWith2 g z es
first_of_2 g z [] f e t = absurd (false≢true t)
first_of_2 g z (x ∷ es) f e t = go x.holder t refl
  where
    go : (h : Holder) → is_owned 2 h ≡ true → x.holder ≡ h → StartsWith2 g z (x ∷ es)
    go free t k = absurd (false≢true t)
    go (owned id) t k =
        record {
          at = x.at;
          rest = held_by 2 es;
          held = rw (k, t) refl;
          starts = f.0;
          some_bits = f.1;
          ends = by_end (either (is_owned 1 x.holder) (leb (disc_bit g z (x.at.start + x.at.len)) g.end.0) (both (end_fits g z x) (every (end_fits g z) es) e).0);
        }
      where
        by_end : (is_owned 1 x.holder ≡ true) ⊎ (leb (disc_bit g z (x.at.start + x.at.len)) g.end.0 ≡ true) → disc_bit g z (x.at.start + x.at.len) ≤ g.end.0
        by_end (inl u) = let one : id ≡ 1 = eqb-true id 1 (rw k at u) in absurd (omega (arith, one, eqb-true id 2 t))
        by_end (inr u) = leb-true (disc_bit g z (x.at.start + x.at.len)) g.end.0 u

module _ {m : List ℕ} {g : Geometry} (a : AcceptedMap m g) where
  abbrev mid : ℕ
  mid = g.zones / 2

  mid_inside : mid < g.zones
  mid_inside = omega (arith, a.readable.numbers.zones_low)

  abbrev middle : List Entry
  middle = entries_in g mid (zone_block g m mid)

  middle_starts : StartsWith2 g mid middle
  middle_starts =
      let e = a.readable.reads mid (omega arith) mid_inside in
      let t = both (every (id_fits g) middle && every (end_fits g mid) middle) (not (eqb mid (g.zones / 2)) || first_owned 2 middle)
      (zone_tests g mid (zone_block g m mid) middle e).owners in
      first_of_2 g mid middle (entries_fill a mid middle mid_inside e) (both (every (id_fits g) middle) (every (end_fits g mid) middle) t.0).1
      (rw (eq-eqb mid (g.zones / 2) refl) at t).1

  -- so it is the first of the object's pieces in object order
  from_middle : (rest : List Pair) × (held_from g 2 m mid (g.zones - mid) ++ held_from g 2 m 0 mid ≡ to_disc g mid middle_starts.at ∷ rest)
  from_middle =
      let n : g.zones - mid ≡ suc (g.zones - mid - 1) = omega (arith, mid_inside) in
      let later = held_from g 2 m (suc mid) (g.zones - mid - 1) in (
        (in_disc_bits g mid middle_starts.rest ++ later) ++ held_from g 2 m 0 mid,
        ap (λ (k : ℕ). held_from g 2 m mid k ++ held_from g 2 m 0 mid) n
            ∙ ap (λ (qs : List Pair). (in_disc_bits g mid qs ++ later) ++ held_from g 2 m 0 mid) middle_starts.held,
      )

  first_bit_law : disc_bit g mid middle_starts.at.start ≡ zone_from g mid
  first_bit_law = ap (disc_bit g mid) middle_starts.starts ∙ sym (zone_starts g mid)

  before_end : zone_from g mid * g.unit < g.size
  before_end =
      let k : zone_from g mid < g.end.0 =
      omega (
        arith,
        first_bit_law,
        middle_starts.ends,
        middle_starts.some_bits,
        from_zero_on g a.readable.numbers mid middle_starts.at.start (omega (arith, middle_starts.starts)),
      ) in
      let h : zone_from g mid * g.unit + g.unit ≤ g.end.0 * g.unit = rw suc-mul at (mul-le-mul_right g.unit k) in
      let e : g.end.0 * g.unit ≤ g.size = rw a.readable.numbers.end_is (div-mul-le_self g.size g.unit) in
      omega (arith, h, e, a.readable.numbers.unit_low)

-- the same of what the calls answer
module _ (m : List ℕ) (l : Addresses) (e : addresses_found m ≡ answered l) where
  abbrev g : Geometry
  g = geometry_of m

  rules : MapRules m
  rules = (table_answered (addresses_by_table m) e).rules

  told : l ≡ copies_of g
  told = (table_answered (addresses_by_table m) e).value

  pub first_at_object_2 : (room : ℕ) (qs : List Pair) → object_found m 2 room ≡ answered qs
      → (q : Pair) × (rest : List Pair) × (qs ≡ q ∷ rest) × (l.first ≡ q.start * g.unit)
  first_at_object_2 room qs h =
      let a = shown m rules in
      let k = from_middle a in (
        to_disc g (mid a) (middle_starts a).at,
        k.0,
        list_shows m 2 room qs h ∙ in_object_order a 2 (omega arith) (omega (arith, mid_inside a)) ∙ k.1,
        ap (λ (x : Addresses). x.first) told ∙ ap (λ (d : ℕ). d * g.unit) (sym (first_bit_law a)),
      )

  pub first_on_disc : l.first < g.size
  first_on_disc = subst (λ (x : ℕ). x < g.size) (sym (ap (λ (x : Addresses). x.first) told)) (before_end (shown m rules))

  pub second_follows : l.second ≡ l.first + length m
  second_follows =
      ap (λ (x : Addresses). x.second) told ∙ ap (λ (n : ℕ). first_copy g + n) (sym rules.whole) ∙ ap (λ (x : Addresses). x.first + length m) (sym told)
