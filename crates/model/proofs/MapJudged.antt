-- The whole check: its answer is the line of the table that applies, and each line that applies is its answer.
use mathlib.Core.Path.{◌≡◌, sym, ◌∙◌}
use mathlib.Core.Bool.{true, false, false≢true}
use mathlib.Core.List.{List}
use Prim.Native.Nat.{ℕ, ◌*◌, ◌<◌, ◌≤◌}
use native.Mathlib.Omega.{arith}
use lib.Dec.{leb}
use lib.ListN.{length}
use borrow.Author.Tests.{eqb-true, eqb-false, eq-eqb, ne_eqb, le-leb, lt-leb, leb-true, leb-false}
use Rattle.bits.proofs.Tests.{by_test}
use Rattle.geometry.specs.Record.{disc_record, geometry_of}
use Rattle.geometry.specs.Ranges.{RecordRules, record_fits}
use Rattle.geometry.proofs.Rules.{test_gives_rules, rules_give_test}
use Rattle.model.specs.Chain.{Entry}
use Rattle.model.specs.Rules.{MapRules}
use Rattle.model.specs.Answer.{Answer, refused, answered}
use Rattle.model.specs.Check.{blocks_read, blocks_of, length_fits, measured, map_read}
use Rattle.model.specs.Table.{Measured, Judged, short, outside, other_length, check_differs, cross_differs, zone_fault, kept}
use Rattle.model.proofs.BlocksJudged.{measured_judged, zones_first, zones_all, zones_read_law, at_check, at_cross, at_zones}

-- the record and the length come first
module _ (m : List ℕ) where
  rules_test : RecordRules (disc_record m) → record_fits (disc_record m) ≡ true
  rules_test r = rules_give_test (disc_record m) r

  no_rules : (RecordRules (disc_record m) → ⊥) → record_fits (disc_record m) ≡ false
  no_rules n = by_test (record_fits (disc_record m)) (λ t. absurd (n (test_gives_rules (disc_record m) t))) (λ t. t)

  -- how a map is measured, whatever comes then
  pub data Measures (r : Answer (List (List Entry))) : Answer (List (List Entry)) → Type 0 where
    under_64 : length m < 64 → Measures r (refused 1 0)
    out_of_range : 64 ≤ length m → (RecordRules (disc_record m) → ⊥) → Measures r (refused 2 0)
    not_whole : 64 ≤ length m → RecordRules (disc_record m) → (length m ≡ (geometry_of m).zones * (geometry_of m).sector → ⊥) → Measures r (refused 1 0)
    passed : Measured m → Measures r r

  pub measured_rest : Measured m → (r : Answer (List (List Entry))) → measured m r ≡ r
  measured_rest ms r = rw (le-leb 64 (length m) ms.long, rules_test ms.record_rules, eq-eqb (length m) ((geometry_of m).zones * (geometry_of m).sector) ms.whole)

  pub measures : (r : Answer (List (List Entry))) → Measures r (measured m r)
  measures r =
      by_test (leb 64 (length m))
      (λ t. by_test (record_fits (disc_record m))
      (λ u. by_test (length_fits (geometry_of m) m)
      (λ v. simp (t, u, v) (passed (record { long = leb-true 64 (length m) t; record_rules = test_gives_rules (disc_record m) u; whole = eqb-true (length m) ((geometry_of m).zones * (geometry_of m).sector) v })))
      (λ v. simp (t, u, v) (not_whole (leb-true 64 (length m) t) (test_gives_rules (disc_record m) u) (eqb-false (length m) ((geometry_of m).zones * (geometry_of m).sector) v))))
      (λ u. simp (t, u) (out_of_range (leb-true 64 (length m) t) (λ w. false≢true (sym u ∙ rules_test w)))))
      (λ t. simp t (under_64 (omega (arith, leb-false 64 (length m) t))))

  pub measures_is : (r s : Answer (List (List Entry))) → Measures r s → measured m r ≡ s
  measures_is r s (under_64 h) = rw (lt-leb 64 (length m) h)
  measures_is r s (out_of_range h n) = rw (le-leb 64 (length m) h, no_rules n)
  measures_is r s (not_whole h w n) = rw (le-leb 64 (length m) h, rules_test w, ne_eqb (length m) ((geometry_of m).zones * (geometry_of m).sector) n)
  measures_is r s (passed ms) = measured_rest ms r

  abbrev all : Answer (List (List Entry))
  all = blocks_read (geometry_of m) (blocks_of (geometry_of m) m)

  rules_measured : MapRules m → Measured m
  rules_measured w = record { long = w.long; record_rules = w.record_rules; whole = w.whole }

  pub answer_is_judged : Judged m (map_read m)
  answer_is_judged = go (map_read m) (measures all)
    where
      go : (r : Answer (List (List Entry))) → Measures all r → Judged m r
      go r (under_64 h) = short h
      go r (out_of_range h n) = outside h n
      go r (not_whole h w n) = other_length h w n
      go r (passed ms) = measured_judged m ms

  pub judged_is_answer : (r : Answer (List (List Entry))) → Judged m r → map_read m ≡ r
  judged_is_answer r (short h) = measures_is all r (under_64 h)
  judged_is_answer r (outside h n) = measures_is all r (out_of_range h n)
  judged_is_answer r (other_length h w n) = measures_is all r (not_whole h w n)
  judged_is_answer r (check_differs ms z h b n) = measured_rest ms all ∙ at_check m ms z h b n
  judged_is_answer r (cross_differs ms c n) = measured_rest ms all ∙ at_cross m ms c n
  judged_is_answer r (zone_fault ms c x z n h b f) = measured_rest ms all ∙ at_zones m ms c x ∙ zones_first m ms z n h b f
  judged_is_answer r (kept w ess l rs) =
      let ms = rules_measured w in
      measured_rest ms all ∙ at_zones m ms w.checks w.cross ∙ zones_read_law m ms w.zones ess l rs

  pub accepted_keeps_rules : (ess : List (List Entry)) → map_read m ≡ answered ess → MapRules m
  accepted_keeps_rules ess e = go (map_read m) answer_is_judged e
    where
      go : (r : Answer (List (List Entry))) → Judged m r → r ≡ answered ess → MapRules m
      go r (kept w fss l rs) e = w
      go r (short h) e = let x : ◌≡◌ {A = ℕ} 0 1 = cc in absurd (omega arith)
      go r (outside h n) e = let x : ◌≡◌ {A = ℕ} 0 1 = cc in absurd (omega arith)
      go r (other_length h w n) e = let x : ◌≡◌ {A = ℕ} 0 1 = cc in absurd (omega arith)
      go r (check_differs ms z h b n) e = let x : ◌≡◌ {A = ℕ} 0 1 = cc in absurd (omega arith)
      go r (cross_differs ms c n) e = let x : ◌≡◌ {A = ℕ} 0 1 = cc in absurd (omega arith)
      go r (zone_fault ms c y z n h b f) e = let x : ◌≡◌ {A = ℕ} 0 1 = cc in absurd (omega arith)

  pub rules_accepted : MapRules m → (ess : List (List Entry)) × (map_read m ≡ answered ess)
  rules_accepted w =
      let ms = rules_measured w in
      let a = zones_all m ms w.zones in
      (a.0, measured_rest ms all ∙ at_zones m ms w.checks w.cross ∙ a.1)
