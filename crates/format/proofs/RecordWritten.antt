-- The bytes of the record, written on zeros, make the map that has the record and else only 0.
use mathlib.Core.Path.{◌≡◌, sym, ap, ◌∙◌}
use mathlib.Core.List.{List, [], ◌∷◌}
use Prim.Native.Nat.{ℕ, ◌+◌, ◌-◌, ◌/◌, ◌%◌, ◌<◌, ◌≤◌}
use native.Mathlib.Omega.{arith}
use lib.ListN.{set, replicate, replicate-append-replicate}
use borrow.Rule.Slice.PartMut.{put_mid}
use Rattle.geometry.specs.declared.DiscRecord.{DiscRecord}
use Rattle.formatted.specs.Blank.{blank_map}

-- in the order in which they are written, and the bytes of two numbers
abbrev record_put : DiscRecord → List ℕ → List ℕ → List ℕ → List ℕ
record_put r m spare size = put_mid 20 4 (put_mid 14 2 (set (set (set (set m 4 r.logsector) 8 r.idlen) 9 r.logunit) 13 r.zones) spare) size

pub record_put_law : (r : DiscRecord) (n : ℕ) {m spare size : List ℕ} → r.spare < 65536 → 64 ≤ n → m ≡ replicate n 0
    → spare ≡ r.spare % 256 ∷ r.spare / 256 % 256 ∷ [] → size ≡ r.size % 256 ∷ r.size / 256 % 256 ∷ r.size / 65536 % 256 ∷ r.size / 16777216 % 256 ∷ []
    → record_put r m spare size ≡ blank_map r n
record_put_law r n small long e es ez =
    let parts : 64 + (n - 64) ≡ n = omega arith in
    let zeros = e ∙ ap (λ (k : ℕ). replicate k 0) (sym parts) ∙ sym (replicate-append-replicate 64 (n - 64) 0) in
    let high : r.spare / 256 % 256 ≡ r.spare / 256 = omega arith in
    let two = es ∙ ap (λ (x : ℕ). r.spare % 256 ∷ x ∷ []) high in
    λ i. record_put r (zeros i) (two i) (ez i)
