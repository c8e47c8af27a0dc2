-- Refusal 9 in the paper's words: the lowest zone in which two free fragments follow each other is the lowest in which one free span
-- starts where another ends, since the fragments of a zone lie one after another from its first bit to its end.
use mathlib.Core.Path.{◌≡◌, refl, sym, ap, ◌∙◌, subst}
use mathlib.Core.Bool.{Bool, true, false, not, ◌&&◌, false≢true}
use mathlib.Core.List.{List, [], ◌∷◌, map}
use mathlib.Core.Option.{none, some}
use mathlib.Core.Logic.{◌⊎◌, inl, inr}
use Prim.Native.Nat.{ℕ, suc, ◌+◌, ◌-◌, ◌<◌, ◌≤◌}
use native.Mathlib.Omega.{arith}
use lib.Dec.{eqb}
use lib.ListN.{length}
use borrow.Author.Tests.{eqb-true, eqb-false}
use Rattle.bits.proofs.Tests.{by_test, and_with_false}
use Rattle.geometry.specs.declared.Geometry.{Geometry}
use Rattle.geometry.specs.Record.{disc_record, geometry_of}
use Rattle.geometry.specs.Accepted.{AcceptedGeometry}
use Rattle.geometry.specs.Places.{first_bit, end_bit, disc_bit, zone_of}
use Rattle.geometry.proofs.DiscBits.{from_zero_on, zone_of_disc}
use Rattle.geometry.proofs.Numbers.{test_gives_accepted}
use Rattle.model.specs.Fragments.{Fragment, fragment_bits, Formed}
use Rattle.model.specs.Blocks.{link_in, alloc_bits}
use Rattle.model.specs.Chain.{Pair, Holder, free, owned, Entry, onward, follow, is_free, none_touch, touching}
use Rattle.model.specs.Answer.{answered}
use Rattle.model.specs.Check.{zones_read, blocks_of, map_read}
use Rattle.model.specs.Pieces.{to_disc, free_if, free_of, free_spans}
use Rattle.model.proofs.Options.{none_some, some_some}
use Rattle.model.proofs.Followed.{Long, total, Followed, was_free, was_owned, followed, none_left}
use Rattle.model.proofs.FragmentsRead.{written_cut}
use Rattle.model.proofs.ZoneDrawn.{long_fit, length_frags}
use Rattle.model.proofs.ZoneTests.{zone_tests}
use Rattle.model.proofs.LinesJudged.{same_answer}
use Rattle.model.proofs.MapTests.{zone_and_rest, ReadTests, read_tests, accepted_tests}
use Rattle.edits.specs.Room.{In}
use Rattle.edits.proofs.Entries.{in_append, in_left, in_right, in_map, map_in}
use Rattle.edits.proofs.Slices.{Sized, sized_blocks}
use Rattle.edits.proofs.BlockBits.{alloc_length}
use Rattle.edits.proofs.ZonePlaces.{zone_bits}
use Rattle.runs.specs.Refusals.{Touch, LowestTouch}

-- the entries lie one after another from bit `at` to `end`
abbrev InRow : ℕ → ℕ → List Entry → Type 0
InRow at end [] = at ≤ end
InRow at end (e ∷ es) = (e.at.start ≡ at) × (0 < e.at.len) × InRow (at + e.at.len) end es

row_of_follow : (at next end : ℕ) (fs : List Fragment) (es : List Entry) → Long fs → at + total fs ≡ end → follow at next fs ≡ some es → InRow at end es
row_of_follow at next end [] es l w e = subst (InRow at end) (sym (none_left at next es e).1) (omega arith)
row_of_follow at next end (f ∷ fs) es l w e = go es (followed at next f fs es e) (λ n gs k. row_of_follow (at + f.len) n end fs gs l.1 (omega arith) k)
  where
    go : (es : List Entry) → Followed at next f fs es → ((n : ℕ) (gs : List Entry) → follow (at + f.len) n fs ≡ some gs → InRow (at + f.len) end gs) → InRow at end es
    go es (was_free gs h k) ih = (refl, l.0, ih (onward at f.id) gs k)
    go es (was_owned gs h k) ih = (refl, l.0, ih next gs k)

row_le : (at end : ℕ) (es : List Entry) → InRow at end es → at ≤ end
row_le at end [] r = r
row_le at end (e ∷ es) r = omega (arith, row_le (at + e.at.len) end es r.2)

-- a free one's place
abbrev Between : ℕ → ℕ → Pair → Type 0
Between at end q = (at ≤ q.start) × (0 < q.len) × (q.start + q.len ≤ end)

row_in : (at end : ℕ) (es : List Entry) → InRow at end es → (q : Pair) → In q (free_of es) → Between at end q
row_in at end [] r q i = absurd i
row_in at end (e ∷ es) r q i = go e.holder i (λ j. let k = row_in (at + e.at.len) end es r.2 q j in (omega arith, k.1, k.2))
  where
    go : (h : Holder) → In q (free_if h e.at (free_of es)) → (In q (free_of es) → Between at end q) → Between at end q
    go free (inl j) later = subst (Between at end) (sym j) (omega arith, r.1, omega (arith, row_le (at + e.at.len) end es r.2))
    go free (inr j) later = later j
    go (owned id) j later = later j

-- two of the spans meet
abbrev Meet : List Pair → Type 0
Meet qs = (a : Pair) × (b : Pair) × In a qs × In b qs × (b.start ≡ a.start + a.len)

abbrev StartsFree : ℕ → List Pair → Type 0
StartsFree at qs = (b : Pair) × In b qs × (b.start ≡ at)

touch_met : (at end : ℕ) (was : Bool) (es : List Entry) → InRow at end es → none_touch was es ≡ false → ((was ≡ true) × StartsFree at (free_of es)) ⊎ Meet (free_of es)
touch_met at end was [] r t = absurd (false≢true (sym t))
touch_met at end was (e ∷ es) r t = go was e.holder t (λ b k. touch_met (at + e.at.len) end b es r.2 k)
  where
    more : (h : Holder) → Meet (free_of es) → Meet (free_if h e.at (free_of es))
    more free m = (m.0, m.1, inr m.2, inr m.3, m.4)
    more (owned id) m = m

    next : ((true ≡ true) × StartsFree (at + e.at.len) (free_of es)) ⊎ Meet (free_of es) → Meet (free_if free e.at (free_of es))
    next (inl p) = (e.at, p.1.0, inl refl, inr p.1.1, omega (arith, p.1.2))
    next (inr m) = more free m

    past : ((false ≡ true) × StartsFree (at + e.at.len) (free_of es)) ⊎ Meet (free_of es) → Meet (free_of es)
    past (inl p) = absurd (false≢true p.0)
    past (inr m) = m

    go : (was : Bool) (h : Holder) → not (was && is_free h) && none_touch (is_free h) es ≡ false
        → ((b : Bool) → none_touch b es ≡ false → ((b ≡ true) × StartsFree (at + e.at.len) (free_of es)) ⊎ Meet (free_of es))
        → ((was ≡ true) × StartsFree at (free_if h e.at (free_of es))) ⊎ Meet (free_if h e.at (free_of es))
    go true free t ih = inl (refl, (e.at, inl refl, r.0))
    go false free t ih = inr (next (ih true t))
    go true (owned id) t ih = inr (past (ih false t))
    go false (owned id) t ih = inr (past (ih false t))

starts_touch : (at end : ℕ) (es : List Entry) → InRow at end es → (b : Pair) → In b (free_of es) → b.start ≡ at → none_touch true es ≡ false
starts_touch at end [] r b i e = absurd i
starts_touch at end (x ∷ xs) r b i e = go x.holder i
  where
    go : (h : Holder) → In b (free_if h x.at (free_of xs)) → not (true && is_free h) && none_touch (is_free h) xs ≡ false
    go free j = refl
    go (owned id) j = absurd (omega (arith, (row_in (at + x.at.len) end xs r.2 b j).0, r.1))

met_touch : (at end : ℕ) (was : Bool) (es : List Entry) → InRow at end es → (a b : Pair) → In a (free_of es) → In b (free_of es) → b.start ≡ a.start + a.len → none_touch was es ≡ false
met_touch at end was [] r a b i j k = absurd i
met_touch at end was (e ∷ es) r a b i j k = go e.holder i j (λ w p q. met_touch (at + e.at.len) end w es r.2 a b p q k)
  where
    with : (x : Bool) {y : Bool} → y ≡ false → x && y ≡ false
    with x q = ap (λ (y : Bool). x && y) q ∙ and_with_false x

    both_in : In a (free_if free e.at (free_of es)) → In b (free_if free e.at (free_of es)) → ((w : Bool) → In a (free_of es) → In b (free_of es) → none_touch w es ≡ false) → none_touch true es ≡ false
    both_in (inl p) (inl q) ih =
        let s : a.start ≡ b.start = ap (λ (x : Pair). x.start) (p ∙ sym q) in
        let n : a.len ≡ e.at.len = ap (λ (x : Pair). x.len) p in
        absurd (omega (arith, r.1))
    both_in (inl p) (inr q) ih =
        let s : a.start ≡ e.at.start = ap (λ (x : Pair). x.start) p in
        let n : a.len ≡ e.at.len = ap (λ (x : Pair). x.len) p in
        starts_touch (at + e.at.len) end es r.2 b q (omega (arith, r.0))
    both_in (inr p) (inl q) ih =
        let s : b.start ≡ e.at.start = ap (λ (x : Pair). x.start) q in
        let w = row_in (at + e.at.len) end es r.2 a p in
        absurd (omega (arith, r.0, r.1))
    both_in (inr p) (inr q) ih = ih true p q

    go : (h : Holder) → In a (free_if h e.at (free_of es)) → In b (free_if h e.at (free_of es)) → ((w : Bool) → In a (free_of es) → In b (free_of es) → none_touch w es ≡ false) → not (was && is_free h) && none_touch (is_free h) es ≡ false
    go free i j ih = with (not (was && true)) (both_in i j ih)
    go (owned id) i j ih = with (not (was && false)) (ih false i j)

-- the zones from z on
abbrev ZonesInRow : Geometry → ℕ → List (List Entry) → Type 0
ZonesInRow g z [] = Unit {0}
ZonesInRow g z (es ∷ ess) = InRow (first_bit z) (end_bit g) es × ZonesInRow g (suc z) ess

module _ (g : Geometry) (ok : AcceptedGeometry g) where
  -- a span of the first of them, in block bits
  abbrev Here : ℕ → List Entry → Pair → Type 0
  Here z es q = (p : Pair) × In p (free_of es) × (q ≡ to_disc g z p)

  span_in : (z : ℕ) (es : List Entry) (ess : List (List Entry)) (q : Pair) → In q (free_spans g z (es ∷ ess)) → Here z es q ⊎ In q (free_spans g (suc z) ess)
  span_in z es ess q i = go (in_append q (map (to_disc g z) (free_of es)) (free_spans g (suc z) ess) i)
    where
      go : In q (map (to_disc g z) (free_of es)) ⊎ In q (free_spans g (suc z) ess) → Here z es q ⊎ In q (free_spans g (suc z) ess)
      go (inl j) = inl (in_map (to_disc g z) q (free_of es) j)
      go (inr j) = inr j

  here_zone : (z : ℕ) (es : List Entry) → InRow (first_bit z) (end_bit g) es → (q : Pair) → Here z es q → zone_of g q.start ≡ z
  here_zone z es r q h =
      let k = row_in (first_bit z) (end_bit g) es r h.0 h.1 in
      ap (λ (x : Pair). zone_of g x.start) h.2 ∙ zone_of_disc g ok z h.0.start k.0 (omega arith)

  span_from : (z : ℕ) (ess : List (List Entry)) → ZonesInRow g z ess → (q : Pair) → In q (free_spans g z ess) → z ≤ zone_of g q.start
  span_from z [] r q i = absurd i
  span_from z (es ∷ ess) r q i = go (span_in z es ess q i) (span_from (suc z) ess r.1 q)
    where
      go : Here z es q ⊎ In q (free_spans g (suc z) ess) → (In q (free_spans g (suc z) ess) → suc z ≤ zone_of g q.start) → z ≤ zone_of g q.start
      go (inl h) ih = omega (arith, here_zone z es r.0 q h)
      go (inr j) ih = omega (arith, ih j)

  module _ (z : ℕ) (es : List Entry) (ess : List (List Entry)) (r : ZonesInRow g z (es ∷ ess)) where
    -- a span of zone z is one of the first, and one of a later zone is not
    span_here : (q : Pair) → In q (free_spans g z (es ∷ ess)) → zone_of g q.start ≡ z → Here z es q
    span_here q i e = go (span_in z es ess q i)
      where
        go : Here z es q ⊎ In q (free_spans g (suc z) ess) → Here z es q
        go (inl h) = h
        go (inr j) = absurd (omega (arith, span_from (suc z) ess r.1 q j))

    span_later : (y : ℕ) → z < y → (q : Pair) → In q (free_spans g z (es ∷ ess)) → zone_of g q.start ≡ y → In q (free_spans g (suc z) ess)
    span_later y k q i e = go (span_in z es ess q i)
      where
        go : Here z es q ⊎ In q (free_spans g (suc z) ess) → In q (free_spans g (suc z) ess)
        go (inl h) = absurd (omega (arith, here_zone z es r.0 q h))
        go (inr j) = j

    touch_here : Touch g (free_spans g z (es ∷ ess)) z → none_touch false es ≡ false
    touch_here t =
        let a = span_here t.first t.first_free t.first_zone_law in
        let b = span_here t.second t.second_free t.second_zone in
        let p = a.0 in
        let q = b.0 in
        let c : t.first.start ≡ disc_bit g z p.start = ap (λ (x : Pair). x.start) a.2 in
        let n : t.first.len ≡ p.len = ap (λ (x : Pair). x.len) a.2 in
        let d : t.second.start ≡ disc_bit g z q.start = ap (λ (x : Pair). x.start) b.2 in
        let u = from_zero_on g ok z p.start (row_in (first_bit z) (end_bit g) es r.0 p a.1).0 in
        let v = from_zero_on g ok z q.start (row_in (first_bit z) (end_bit g) es r.0 q b.1).0 in
        met_touch (first_bit z) (end_bit g) false es r.0 p q a.1 b.1 (omega (arith, t.meet))

    here_touch : none_touch false es ≡ false → Touch g (free_spans g z (es ∷ ess)) z
    here_touch t = go (touch_met (first_bit z) (end_bit g) false es r.0 t)
      where
        placed : (p : Pair) → In p (free_of es) → In (to_disc g z p) (free_spans g z (es ∷ ess))
        placed p i = in_left (to_disc g z p) (map (to_disc g z) (free_of es)) (free_spans g (suc z) ess) (map_in (to_disc g z) p (free_of es) i)

        go : ((false ≡ true) × StartsFree (first_bit z) (free_of es)) ⊎ Meet (free_of es) → Touch g (free_spans g z (es ∷ ess)) z
        go (inl p) = absurd (false≢true p.0)
        go (inr m) =
            let u = from_zero_on g ok z m.0.start (row_in (first_bit z) (end_bit g) es r.0 m.0 m.2).0 in
            record {
              first = to_disc g z m.0;
              second = to_disc g z m.1;
              first_free = placed m.0 m.2;
              second_free = placed m.1 m.3;
              first_zone_law = here_zone z es r.0 (to_disc g z m.0) (m.0, m.2, refl);
              second_zone = here_zone z es r.0 (to_disc g z m.1) (m.1, m.3, refl);
              meet = omega (arith, m.4);
            }

    touch_later : (y : ℕ) → z < y → Touch g (free_spans g z (es ∷ ess)) y → Touch g (free_spans g (suc z) ess) y
    touch_later y k t = record {
      first = t.first;
      second = t.second;
      first_free = span_later y k t.first t.first_free t.first_zone_law;
      second_free = span_later y k t.second t.second_free t.second_zone;
      first_zone_law = t.first_zone_law;
      second_zone = t.second_zone;
      meet = t.meet;
    }

    later_touch : (y : ℕ) → Touch g (free_spans g (suc z) ess) y → Touch g (free_spans g z (es ∷ ess)) y
    later_touch y t = record {
      first = t.first;
      second = t.second;
      first_free = in_right t.first (map (to_disc g z) (free_of es)) (free_spans g (suc z) ess) t.first_free;
      second_free = in_right t.second (map (to_disc g z) (free_of es)) (free_spans g (suc z) ess) t.second_free;
      first_zone_law = t.first_zone_law;
      second_zone = t.second_zone;
      meet = t.meet;
    }

  touch_from : (z : ℕ) (ess : List (List Entry)) → ZonesInRow g z ess → (y : ℕ) → Touch g (free_spans g z ess) y → z ≤ y
  touch_from z ess r y t = omega (arith, span_from z ess r t.first t.first_free, t.first_zone_law)

  -- none in the first zone, so in a later one
  past_first : (z : ℕ) (es : List Entry) (ess : List (List Entry)) → ZonesInRow g z (es ∷ ess) → none_touch false es ≡ true → (y : ℕ)
      → Touch g (free_spans g z (es ∷ ess)) y → Touch g (free_spans g (suc z) ess) y
  past_first z es ess r k y t =
      by_test (eqb y z)
      (λ e. absurd (false≢true (sym (touch_here z es ess r (subst (Touch g (free_spans g z (es ∷ ess))) (eqb-true y z e) t)) ∙ k)))
      (λ e. touch_later z es ess r y (omega (arith, eqb-false y z e, touch_from z (es ∷ ess) r y t)) t)

  none_touch_law : (z : ℕ) (ess : List (List Entry)) → ZonesInRow g z ess → touching z ess ≡ none → (y : ℕ) → Touch g (free_spans g z ess) y → ⊥
  none_touch_law z [] r k y t = t.first_free
  none_touch_law z (es ∷ ess) r k y t =
      by_test (none_touch false es)
      (λ u. none_touch_law (suc z) ess r.1 (simp u at k) y (past_first z es ess r u y t))
      (λ u. absurd (none_some (sym (simp u at k))))

  lowest_touch : (z : ℕ) (ess : List (List Entry)) → ZonesInRow g z ess → (y : ℕ) → touching z ess ≡ some y → LowestTouch g (free_spans g z ess) y
  lowest_touch z [] r y k = absurd (none_some k)
  lowest_touch z (es ∷ ess) r y k =
      by_test (none_touch false es)
      (λ u. let w = lowest_touch (suc z) ess r.1 y (simp u at k) in
      record { touch = later_touch z es ess r y w.touch; none_lower = λ x h t. w.none_lower x h (past_first z es ess r u x t) })
      (λ u. subst (LowestTouch g (free_spans g z (es ∷ ess))) (some_some (simp u at k))
      (record { touch = here_touch z es ess r u; none_lower = λ x h t. omega (arith, touch_from z (es ∷ ess) r x t) }))

  -- zones that were read lie so
  zones_in_row : (z : ℕ) (bs : List (List ℕ)) (ess : List (List Entry)) → Sized g.sector bs → zones_read g z bs ≡ answered ess → ZonesInRow g z ess
  zones_in_row z [] ess y r = subst (ZonesInRow g z) (same_answer r) tt
  zones_in_row z (b ∷ bs) ess y r =
      let k = zone_and_rest g z b bs ess r in
      let w = zone_tests g z b k.0 k.2 in
      let e : suc (g.idlen - 1) ≡ g.idlen = omega (arith, ok.idlen_low) in
      let bits = alloc_bits (first_bit z) (end_bit g) b in
      let c : (bits ≡ fragment_bits g.idlen w.fragments) × Formed g.idlen w.fragments =
      subst (λ (n : ℕ). (bits ≡ fragment_bits n w.fragments) × Formed n w.fragments) e (written_cut (g.idlen - 1) bits w.fragments w.cut) in
      let n = alloc_length g.idlen (first_bit z) (end_bit g) b (zone_bits g ok z b y.0) in
      let whole : first_bit z + total w.fragments ≡ end_bit g = omega (arith, (zone_bits g ok z b y.0).ordered, n, sym (length_frags g.idlen w.fragments c.1), sym (ap length c.0)) in
      subst (ZonesInRow g z) k.4 (
        row_of_follow (first_bit z) (onward 8 (link_in b)) (end_bit g) w.fragments k.0 (long_fit g.idlen w.fragments c.1) whole w.chain,
        zones_in_row (suc z) bs k.1 y.1 k.3,
      )

-- of a map that was read
module _ (m : List ℕ) (ess : List (List Entry)) (e : map_read m ≡ answered ess) where
  tests : ReadTests m ess
  tests = read_tests m ess (accepted_tests m ess e).read

  geometry_ok : AcceptedGeometry (geometry_of m)
  geometry_ok = test_gives_accepted (disc_record m) tests.record_fits_law

  in_rows : ZonesInRow (geometry_of m) 0 ess
  in_rows =
      let g = geometry_of m in
      zones_in_row g geometry_ok 0 (blocks_of g m) ess (sized_blocks g.sector g.zones m tests.whole) tests.zones

  pub map_apart : touching 0 ess ≡ none → (z : ℕ) → Touch (geometry_of m) (free_spans (geometry_of m) 0 ess) z → ⊥
  map_apart = none_touch_law (geometry_of m) geometry_ok 0 ess in_rows

  pub map_touches : (z : ℕ) → touching 0 ess ≡ some z → LowestTouch (geometry_of m) (free_spans (geometry_of m) 0 ess) z
  map_touches = lowest_touch (geometry_of m) geometry_ok 0 ess in_rows
