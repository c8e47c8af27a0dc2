-- A map on which a call is accepted is one that edits work on: every refusal differs from an edit. Map A is one, by computation.
use mathlib.Core.Path.{◌≡◌, refl, sym, ap, ◌∙◌}
use mathlib.Core.Bool.{Bool, true, false, ◌&&◌}
use mathlib.Core.List.{List, [], ◌∷◌}
use mathlib.Core.Option.{Option, none, some}
use Prim.Native.Nat.{ℕ}
use native.Mathlib.Omega.{arith}
use lib.Dec.{ltb}
use borrow.Author.Tests.{ltb-true}
use Rattle.bits.specs.Bits.{Bytes}
use Rattle.bits.proofs.Tests.{both}
use Rattle.checks.specs.Words.{zone_check, total, words_of}
use Rattle.checks.specs.Maps.{map_a}
use Rattle.geometry.specs.Record.{geometry_of}
use Rattle.model.specs.Answer.{Answer, refused, answered, unless, and_then}
use Rattle.model.specs.Chain.{Entry, touching}
use Rattle.model.specs.Check.{map_read}
use Rattle.model.specs.Shown.{zones_in, zones_of}
use Rattle.model.specs.Pieces.{pieces_of_zones}
use Rattle.edits.specs.Edits.{Edit}
use Rattle.edits.specs.Judge.{Call, call_fits, judge_rest, by_touching}
use Rattle.edits.specs.Steps.{by_read}
use Rattle.edits.specs.Editable.{Editable}
use Rattle.runs.specs.Demand3.{Accepted}

not_edit : {n z : ℕ} {e : Edit} → refused n z ≡ answered e → ⊥
not_edit h = let x : ◌≡◌ {A = ℕ} 0 1 = cc in omega arith

pub accepted_editable : (m : List ℕ) → Bytes m → (c : Call) (e : Edit) → Accepted m c e → Editable m
accepted_editable m bytes c e h = by_reading (map_read m) refl h
  where
    by_pairs : (ess : List (List Entry)) (v : Answer Edit) → map_read m ≡ answered ess → (o : Option ℕ) → touching 0 ess ≡ o → by_touching o v ≡ answered e → Editable m
    by_pairs ess v a (some z) t h = absurd (not_edit h)
    by_pairs ess v a none t h =
        let q : zones_of m ≡ ess = ap zones_in a in
        record { bytes = bytes; accepted = a ∙ ap answered (sym q); apart = ap (touching 0) q ∙ t }

    by_number : (ess : List (List Entry)) (v : Answer Edit) → map_read m ≡ answered ess → (b : Bool) → unless b 8 (by_touching (touching 0 ess) v) ≡ answered e → Editable m
    by_number ess v a true h = by_pairs ess v a (touching 0 ess) refl h
    by_number ess v a false h = absurd (not_edit h)

    by_reading : (r : Answer (List (List Entry))) → map_read m ≡ r → and_then r (by_read (geometry_of m) c) ≡ answered e → Editable m
    by_reading (refused n z) a h = absurd (not_edit h)
    by_reading (answered ess) a h = by_number ess (judge_rest (geometry_of m) (pieces_of_zones (geometry_of m) 0 ess) c) a (call_fits (geometry_of m) c) h

-- bytes by a test
abbrev each_byte : List ℕ → Bool
each_byte [] = true
each_byte (b ∷ bs) = ltb b 256 && each_byte bs

bytes_tested : (bs : List ℕ) → each_byte bs ≡ true → Bytes bs
bytes_tested [] h = tt
bytes_tested (b ∷ bs) h = let k = both (ltb b 256) (each_byte bs) h in (ltb-true b 256 k.0, bytes_tested bs k.1)

pub map_a_law : Editable map_a
unfolding zone_check total words_of
map_a_law = record { bytes = bytes_tested map_a refl; accepted = refl; apart = refl }
