-- A copy written up to a block's edge: each of its blocks is one of the two maps', so it breaks no rule of a zone and no zone check. Whether
-- it is accepted is left to the cross checks, and of those to the changes of the blocks that were written.
use mathlib.Core.Path.{◌≡◌, refl, sym, ap, ap₂, ◌∙◌, subst, subst⁻¹}
use mathlib.Core.Bool.{Bool, true, false}
use mathlib.Core.List.{List, [], ◌∷◌, map}
use mathlib.Core.Logic.{◌↔◌, ◌⊎◌, inl, inr}
use Prim.Native.Nat.{ℕ, zero, suc, ◌+◌, ◌-◌, ◌*◌, ◌%◌, ◌<◌, ◌≤◌}
use native.Mathlib.Nat.{mul-le-mul_right, min-le_left}
use native.Mathlib.Omega.{arith}
use lib.Bits.{bit_xor, xor_zero_l, xor_zero_r, xor_comm}
use lib.Dec.{ltb}
use lib.ListN.{length, get_or, take, drop, length-take, length-map, get_or-map}
use lib.Seq.{length-take-le, length_front, take_at, drop_at, drop-drop, get_or-take, ext_get_or}
use borrow.Author.Tests.{ltb-true, ltb-false}
use Rattle.bits.proofs.Tests.{by_test}
use Rattle.bits.proofs.Xor.{xor_twice}
use Rattle.checks.specs.Cross.{cross_of, xor_sum, touched_count, changes_from, changes, xor_each}
use Rattle.checks.proofs.Changes.{sum_each, one_parity, even_number}
use Rattle.geometry.specs.declared.Geometry.{Geometry}
use Rattle.geometry.specs.Record.{disc_record, geometry_in, geometry_of}
use Rattle.geometry.specs.Ranges.{RecordRules}
use Rattle.geometry.proofs.Numbers.{accepted}
use Rattle.model.specs.Check.{blocks_of}
use Rattle.model.specs.Rules.{CheckRule, CrossRule, ZoneRules, zone_block, MapRules}
use Rattle.model.specs.Shown.{zones_of}
use Rattle.model.proofs.ByPlace.{zone_end_law}
use Rattle.model.proofs.MapJudged.{accepted_keeps_rules}
use Rattle.edits.specs.Editable.{Editable}
use Rattle.edits.specs.Edits.{Edit, pairs_in, touched_zones}
use Rattle.edits.specs.Judge.{Call}
use Rattle.edits.specs.Steps.{step}
use Rattle.edits.proofs.BlockPut.{part_in_front}
use Rattle.edits.proofs.Slices.{length_blocks, block_of_slice}
use Rattle.edits.proofs.DiscKept.{length_each}
use Rattle.edits.proofs.ZonesTouched.{each_at}
use Rattle.runs.specs.Demand3.{Accepted}
use Rattle.runs.proofs.StepLaws.{reads_after}
use Rattle.station.specs.Station.{written}

-- no element past those taken
past_taken : (n : ℕ) (l : List ℕ) (i : ℕ) → n ≤ i → get_or (take n l) i 0 ≡ 0
past_taken zero l i h = refl
past_taken (suc n) [] i h = refl
past_taken (suc n) (x ∷ l) zero h = absurd (omega arith)
past_taken (suc n) (x ∷ l) (suc i) h = past_taken n l i (omega arith)

module _ (old new : List ℕ) (wo : MapRules old) (wn : MapRules new) (same : geometry_of new ≡ geometry_of old) (z : ℕ) (inside : z ≤ (geometry_of old).zones) where
  abbrev g : Geometry
  g = geometry_of old

  abbrev half : List ℕ
  half = written (z * g.sector) new old

  new_whole : length new ≡ g.zones * g.sector
  new_whole = wn.whole ∙ ap (λ (x : Geometry). x.zones * x.sector) same

  edge : z * g.sector ≤ length new
  edge = omega (arith, new_whole, mul-le-mul_right g.sector inside)

  half_long : length half ≡ length old
  half_long =
      let n = z * g.sector in
      length_front old (take n new) n (length-take-le n new edge ∙ sym (length-take-le n old (omega (arith, edge, new_whole, wo.whole))))

  -- a part before the edge, and one from the edge on
  before : (k d : ℕ) → d + k ≤ z * g.sector → take k (drop d half) ≡ take k (drop d new)
  before k d h =
      let n = z * g.sector in
      sym (part_in_front k d n half h)
      ∙ ap (λ (x : List ℕ). take k (drop d x)) (take_at (take n new) (drop n old) n (length-take-le n new edge))
      ∙ part_in_front k d n new h

  behind : (d : ℕ) → z * g.sector ≤ d → drop d half ≡ drop d old
  behind d h =
      let n = z * g.sector in
      let e : n + (d - n) ≡ d = omega arith in
      let from_edge : (x : List ℕ) → drop d x ≡ drop (d - n) (drop n x) = λ x. ap (λ (i : ℕ). drop i x) (sym e) ∙ sym (drop-drop (d - n) n x) in
      from_edge half ∙ ap (drop (d - n)) (drop_at (take n new) (drop n old) n (length-take-le n new edge)) ∙ sym (from_edge old)

  block_before : (y : ℕ) → y < z → zone_block g half y ≡ zone_block g new y
  block_before y h = before (y * g.sector + g.sector - y * g.sector) (y * g.sector) (omega (arith, zone_end_law z g.sector y h))

  block_behind : (y : ℕ) → z ≤ y → zone_block g half y ≡ zone_block g old y
  block_behind y h = ap (take (y * g.sector + g.sector - y * g.sector)) (behind (y * g.sector) (mul-le-mul_right g.sector h))

  -- the record is one of the two
  one_record : (disc_record half ≡ disc_record new) ⊎ (disc_record half ≡ disc_record old)
  one_record =
      by_test (ltb 0 z)
      (λ t. inl (before 60 4 (omega (arith, (accepted (disc_record old) wo.record_rules).sector_low, mul-le-mul_right g.sector (ltb-true 0 z t)))))
      (λ t. let e : z * g.sector ≡ 0 = (let k : z ≡ 0 = omega (arith, ltb-false 0 z t) in ap (λ (i : ℕ). i * g.sector) k ∙ omega arith) in
      inr (ap (λ (i : ℕ). disc_record (written i new old)) e))

  half_record : (disc_record half ≡ disc_record new) ⊎ (disc_record half ≡ disc_record old) → RecordRules (disc_record half) × (geometry_of half ≡ g)
  half_record (inl e) = (subst⁻¹ RecordRules e wn.record_rules, ap geometry_in e ∙ same)
  half_record (inr e) = (subst⁻¹ RecordRules e wo.record_rules, ap geometry_in e)

  same_disc : geometry_of half ≡ g
  same_disc = (half_record one_record).1

  -- what holds of each block of both maps
  of_blocks : (P : ℕ → List ℕ → Type 0) → ((y : ℕ) → y < g.zones → P y (zone_block g new y)) → ((y : ℕ) → y < g.zones → P y (zone_block g old y))
      → (y : ℕ) → y < g.zones → P y (zone_block g half y)
  of_blocks P n o y h =
      by_test (ltb y z)
      (λ t. subst⁻¹ (P y) (block_before y (ltb-true y z t)) (n y h))
      (λ t. subst⁻¹ (P y) (block_behind y (ltb-false y z t)) (o y h))

  by_cross : MapRules half ↔ CrossRule (blocks_of g half)
  by_cross = (
    λ w. subst (λ (x : Geometry). CrossRule (blocks_of x half)) same_disc w.cross,
    λ c. record {
      long = omega (arith, half_long, wo.long);
      record_rules = (half_record one_record).0;
      whole = subst⁻¹ (λ (x : Geometry). length half ≡ x.zones * x.sector) same_disc (half_long ∙ wo.whole);
      checks = subst⁻¹ (λ (x : Geometry). (y : ℕ) → y < x.zones → CheckRule (zone_block x half y)) same_disc
          (of_blocks (λ y b. CheckRule b) (subst (λ (x : Geometry). (y : ℕ) → y < x.zones → CheckRule (zone_block x new y)) same wn.checks) wo.checks);
      cross = subst⁻¹ (λ (x : Geometry). CrossRule (blocks_of x half)) same_disc c;
      zones = subst⁻¹ (λ (x : Geometry). (y : ℕ) → y < x.zones → ZoneRules x y (zone_block x half y)) same_disc
          (of_blocks (λ y b. ZoneRules g y b) (subst (λ (x : Geometry). (y : ℕ) → y < x.zones → ZoneRules x y (zone_block x new y)) same wn.zones) wo.zones);
    },
  )

-- the changes that were written, alone
module _ (m : List ℕ) (ed : Editable m) (c : Call) (e : Edit) (a : Accepted m c e) (z : ℕ) (inside : z ≤ (geometry_of m).zones) where
  abbrev G : Geometry
  G = geometry_of m

  abbrev done : List ℕ
  done = changes (touched_zones G (pairs_in e))

  abbrev half_edited : List ℕ
  half_edited = written (z * G.sector) (step m c) m

  wm : MapRules m
  wm = accepted_keeps_rules m (zones_of m) ed.accepted

  after : MapRules (step m c)
  after = accepted_keeps_rules (step m c) (zones_of (step m c)) (reads_after m ed c e a).again.accepted

  disc : geometry_of (step m c) ≡ G
  disc = (reads_after m ed c e a).same_disc

  abbrev crosses : List ℕ → List ℕ
  crosses x = map cross_of (blocks_of G x)

  long_crosses : (x : List ℕ) → length (crosses x) ≡ G.zones
  long_crosses x = length-map (blocks_of G x) cross_of ∙ length_blocks G.sector G.zones x

  cross_at_law : (x : List ℕ) → length x ≡ G.zones * G.sector → (y : ℕ) → y < G.zones → get_or (crosses x) y 0 ≡ cross_of (zone_block G x y)
  cross_at_law x w y h = get_or-map cross_of (blocks_of G x) y [] ∙ ap cross_of (block_of_slice G.sector G.zones x y w h)

  half_whole : length half_edited ≡ G.zones * G.sector
  half_whole = half_long m (step m c) wm after disc z inside ∙ wm.whole

  -- the cross check of a block, written or not
  half_cross : (y : ℕ) → y < G.zones → get_or (crosses half_edited) y 0 ≡ get_or (xor_each (crosses m) (take z done)) y 0
  half_cross y h =
      let here : ℕ = cross_of (zone_block G m y) in
      cross_at_law half_edited half_whole y h
      ∙ by_test (ltb y z)
      (λ t. let l = ltb-true y z t in
      ap cross_of (block_before m (step m c) wm after disc z inside y l)
      ∙ (reads_after m ed c e a).cross y h
      ∙ ap (bit_xor here) (sym (get_or-take z done y 0 l)))
      (λ t. ap cross_of (block_behind m (step m c) wm after disc z inside y (ltb-false y z t))
      ∙ sym (ap (bit_xor here) (past_taken z done y (ltb-false y z t)) ∙ xor_zero_r here))
      ∙ ap (λ (x : ℕ). bit_xor x (get_or (take z done) y 0)) (sym (cross_at_law m wm.whole y h))
      ∙ sym (each_at (crosses m) (take z done) y (omega (arith, long_crosses m)))

  crosses_half : crosses half_edited ≡ xor_each (crosses m) (take z done)
  crosses_half =
      ext_get_or 0 (crosses half_edited) (xor_each (crosses m) (take z done))
      (long_crosses half_edited ∙ sym (length_each (crosses m) (take z done) ∙ long_crosses m))
      (λ y l. half_cross y (omega (arith, long_crosses half_edited)))

  sum_half : xor_sum (crosses half_edited) ≡ bit_xor 255 (xor_sum (take z done))
  sum_half =
      ap xor_sum crosses_half
      ∙ sum_each (crosses m) (take z done) (omega (arith, long_crosses m, length-take z done, min-le_left z (length done)))
      ∙ ap (λ (x : ℕ). bit_xor x (xor_sum (take z done))) wm.cross

  pub half_edit_accepted : MapRules half_edited ↔ xor_sum (take z done) ≡ 0
  half_edit_accepted =
      let k = by_cross m (step m c) wm after disc z inside in
      let x : ℕ = xor_sum (take z done) in (
        λ w. sym (xor_twice x 255) ∙ ap (λ (y : ℕ). bit_xor y 255) (xor_comm x 255 ∙ sym sum_half ∙ k.0 w),
        λ n. k.1 (sum_half ∙ ap (bit_xor 255) n),
      )

-- an even number of zones touched: each changes by 1
one_more : (k : ℕ) → bit_xor 1 (k % 2) ≡ suc k % 2
one_more k = let e : k % 2 ≡ suc (suc k) % 2 = omega arith in ap (bit_xor 1) e ∙ one_parity (suc k)

even_from : (n i : ℕ) (zs : List Bool) → n % 2 ≡ 0 → touched_count zs ≤ n → (z : ℕ) → xor_sum (take z (changes_from n i zs)) ≡ touched_count (take z zs) % 2
even_from n i zs h l zero = refl
even_from n i [] h l (suc z) = refl
even_from n i (true ∷ zs) h l (suc z) =
    ap₂ bit_xor (even_number n i (omega arith) h) (even_from n (suc i) zs h (omega arith) z) ∙ one_more (touched_count (take z zs))
even_from n i (false ∷ zs) h l (suc z) = xor_zero_l (xor_sum (take z (changes_from n i zs))) ∙ even_from n i zs h l z

pub even_written : (touched : List Bool) → touched_count touched % 2 ≡ 0 → (z : ℕ) → xor_sum (take z (changes touched)) ≡ touched_count (take z touched) % 2
even_written touched h = even_from (touched_count touched) 0 touched h (omega arith)
