-- When the mender's calls are refused: a map is measured as the check measures it, and then its zones are judged as the check judges
-- them, so each answer is the line of the table that applies, and each line that applies is the answer.
use mathlib.Core.Path.{◌≡◌, refl, ap, ◌∙◌}
use mathlib.Core.List.{List}
use Prim.Native.Nat.{ℕ}
use native.Mathlib.Omega.{arith}
use lib.Dec.{leb}
use lib.ListN.{length}
use borrow.Author.Tests.{leb-true, leb-false, le-leb, lt-leb}
use Rattle.bits.proofs.Tests.{by_test}
use Rattle.geometry.specs.Record.{geometry_of}
use Rattle.model.specs.Answer.{Answer, refused, answered, unless, and_then}
use Rattle.model.specs.Chain.{Entry}
use Rattle.model.specs.Check.{zones_read, blocks_of, map_read, mend_read}
use Rattle.model.specs.Refusals.{Exactly}
use Rattle.model.specs.Table.{Measured, Judged}
use Rattle.model.specs.Table as table
use Rattle.model.proofs.BlocksJudged.{ZonesSay, all_ruled, one_broken, zones_say, from_0, zones_first, zones_all, zones_read_law}
use Rattle.model.proofs.LinesJudged.{not_answered}
use Rattle.model.proofs.MapJudged.{Measures, under_64, out_of_range, not_whole, passed, measures, measures_is, measured_rest, answer_is_judged}
use Rattle.mended.specs.Mended.{changed_at, positions_found}
use Rattle.mended.specs.Table.{MendRules, MendJudged, short, outside, other_length, zone_fault, right, PositionsJudged, not_mended, too_few, listed}

module _ (m : List ℕ) where
  abbrev all : Answer (List (List Entry))
  all = zones_read (geometry_of m) 0 (blocks_of (geometry_of m) m)

  by_zones : (ms : Measured m) (r : Answer (List (List Entry))) → ZonesSay m ms 0 r → MendJudged m r
  by_zones ms r (all_ruled ess w l rs) = right (record { measured = ms; zones = w }) ess (omega arith) (from_0 m ms ess rs)
  by_zones ms r (one_broken n z h w f) = zone_fault ms z n h w f

  told : MendJudged m (mend_read m)
  told = go (mend_read m) (measures m all)
    where
      go : (r : Answer (List (List Entry))) → Measures m all r → MendJudged m r
      go r (under_64 h) = short h
      go r (out_of_range h n) = outside h n
      go r (not_whole h w n) = other_length h w n
      go r (passed ms) = by_zones ms all (zones_say m ms)

  only : (r : Answer (List (List Entry))) → MendJudged m r → mend_read m ≡ r
  only r (short h) = measures_is m all r (under_64 h)
  only r (outside h n) = measures_is m all r (out_of_range h n)
  only r (other_length h w n) = measures_is m all r (not_whole h w n)
  only r (zone_fault ms z n h b f) = measured_rest m ms all ∙ zones_first m ms z n h b f
  only r (right w ess l rs) = measured_rest m w.measured all ∙ zones_read_law m w.measured w.zones ess l rs

  pub mend_judged : Exactly (MendJudged m) (mend_read m)
  mend_judged = record { told = told; only = only }

  -- a map that is read is right in all ways but the three
  read_right : (ess : List (List Entry)) → mend_read m ≡ answered ess → MendRules m
  read_right ess e = go (mend_read m) told e
    where
      go : (r : Answer (List (List Entry))) → MendJudged m r → r ≡ answered ess → MendRules m
      go r (short h) e = absurd (not_answered e)
      go r (outside h n) e = absurd (not_answered e)
      go r (other_length h w n) e = absurd (not_answered e)
      go r (zone_fault ms z n h b f) e = absurd (not_answered e)
      go r (right w fss l rs) e = w

  right_read : MendRules m → (ess : List (List Entry)) × (mend_read m ≡ answered ess)
  right_read w = let a = zones_all m w.measured w.zones in (a.0, measured_rest m w.measured all ∙ a.1)

  -- a map that the check refuses with neither 3 nor 4
  pub as_checked : ((z : ℕ) → map_read m ≡ refused 3 z → ⊥) → ((z : ℕ) → map_read m ≡ refused 4 z → ⊥) → mend_read m ≡ map_read m
  as_checked three four = only (map_read m) (go (map_read m) refl (answer_is_judged m))
    where
      go : (r : Answer (List (List Entry))) → map_read m ≡ r → Judged m r → MendJudged m r
      go r e (table.short h) = short h
      go r e (table.outside h n) = outside h n
      go r e (table.other_length h w n) = other_length h w n
      go r e (table.check_differs ms z h b n) = absurd (three z e)
      go r e (table.cross_differs ms c n) = absurd (four 0 e)
      go r e (table.zone_fault ms c x z n h b f) = zone_fault ms z n h b f
      go r e (table.kept w ess l rs) = right (record { measured = record { long = w.long; record_rules = w.record_rules; whole = w.whole }; zones = w.zones }) ess l rs

  -- the positions: the mender's refusals, then 17
  module _ (room : ℕ) where
    abbrev entries : ℕ
    entries = length (changed_at m)

    abbrev listing : List (List Entry) → Answer (List ℕ)
    listing ess = unless (leb entries room) 17 (answered (changed_at m))

    positions_told : (r : Answer (List (List Entry))) → mend_read m ≡ r → MendJudged m r → PositionsJudged m room (and_then r listing)
    positions_told (refused n z) e j = not_mended n z j
    positions_told (answered ess) e j =
        by_test (leb entries room)
        (λ t. simp t (listed (read_right ess e) (leb-true entries room t)))
        (λ t. simp t (too_few (read_right ess e) (leb-false entries room t)))

    with_answer : MendRules m → and_then (mend_read m) listing ≡ unless (leb entries room) 17 (answered (changed_at m))
    with_answer w = ap (λ (r : Answer (List (List Entry))). and_then r listing) (right_read w).1

    positions_only : (s : Answer (List ℕ)) → PositionsJudged m room s → positions_found m room ≡ s
    positions_only s (not_mended n z j) = ap (λ (r : Answer (List (List Entry))). and_then r listing) (only (refused n z) j)
    positions_only s (too_few w h) = with_answer w ∙ rw (lt-leb entries room h)
    positions_only s (listed w h) = with_answer w ∙ rw (le-leb entries room h)

    pub positions_judged : Exactly (PositionsJudged m room) (positions_found m room)
    positions_judged = record { told = positions_told (mend_read m) refl told; only = positions_only }
