-- Refusal 14 is never told, on any bytes: a map that is refused tells 1 to 7, touching free fragments tell 9, and on pieces that lie apart an id is left.
use mathlib.Core.Path.{◌≡◌, refl}
use mathlib.Core.Bool.{Bool, true, false}
use mathlib.Core.List.{List}
use mathlib.Core.Option.{Option, none, some}
use Prim.Native.Nat.{ℕ}
use native.Mathlib.Omega.{arith}
use Rattle.bits.specs.Bits.{Bytes}
use Rattle.geometry.specs.Record.{geometry_of}
use Rattle.model.specs.Chain.{Entry, touching}
use Rattle.model.specs.Answer.{Answer, refused, answered, unless, and_then}
use Rattle.model.specs.Check.{map_read}
use Rattle.edits.specs.Judge.{Call, call_fits, by_touching, judge_rest}
use Rattle.edits.proofs.Fourteen as on_pieces
use Rattle.edits.specs.Steps.{disc_of, by_read, outcome}
use Rattle.edits.proofs.MapAccepted.{map_geometry, map_disc}
use Rattle.runs.proofs.MapRefused.{refused_number}

same_number : {A : Type 0} {a b x y : ℕ} → ◌≡◌ {A = Answer A} (refused a x) (refused b y) → a ≡ b
same_number e = cc

pub never_fourteen : (m : List ℕ) → Bytes m → (c : Call) (z : ℕ) → outcome m c ≡ refused 14 z → ⊥
never_fourteen m bytes c z h = by_reading (map_read m) refl h
  where
    by_pairs : (ess : List (List Entry)) → map_read m ≡ answered ess → (o : Option ℕ) → touching 0 ess ≡ o → by_touching o (judge_rest (geometry_of m) (disc_of m ess).pieces c) ≡ refused 14 z → ⊥
    by_pairs ess a (some y) t h = omega (arith, same_number h)
    by_pairs ess a none t h =
        let l = (disc_of m ess).pieces in
        on_pieces.never_fourteen (geometry_of m) l c (map_geometry m ess bytes a) (map_disc m ess bytes a).pieces.fit h

    by_number : (ess : List (List Entry)) → map_read m ≡ answered ess → (b : Bool)
        → unless b 8 (by_touching (touching 0 ess) (judge_rest (geometry_of m) (disc_of m ess).pieces c)) ≡ refused 14 z → ⊥
    by_number ess a true h = by_pairs ess a (touching 0 ess) refl h
    by_number ess a false h = omega (arith, same_number h)

    by_reading : (r : Answer (List (List Entry))) → map_read m ≡ r → and_then r (by_read (geometry_of m) c) ≡ refused 14 z → ⊥
    by_reading (refused n y) a h = omega (arith, refused_number m n y a, same_number h)
    by_reading (answered ess) a h = by_number ess a (call_fits (geometry_of m) c) h
