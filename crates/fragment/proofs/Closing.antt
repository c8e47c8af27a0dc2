-- The fragment at a place by its closing bit: none where that does not stand before the end, and else of the length up to
-- it, in whole clusters.
use Rattle.std.proofs.Common.{◌≡◌, List, ℕ, ◌+◌, ◌-◌, ◌*◌, ◌%◌, ◌<◌, ◌≤◌, cond, eqb, length, Some, None, arith}
use Rattle.std.proofs.Math.Seq.{slice, length-slice}
use Rattle.std.proofs.lemmas.List.{drop-drop}
use Rattle.std.proofs.lemmas.Bool.Decides.{nat_tests}
use Rattle.bits.specs.Bits.{byte_bits, value, zeros}
use Rattle.bits.proofs.Bytes.{length_byte_bits}
use Rattle.fragment.specs.Found.{fragment, fragment_at, read}
use Rattle.fragment.proofs.Slices.{front}

pub not_closed : (s : List ℕ) (at end idlen k : ℕ) → end ≤ length s * 8 → end ≤ at + idlen + zeros (slice (at + idlen) end (byte_bits s))
    → fragment_at s at end idlen k ≡ None
unfolding fragment
not_closed s at end idlen k he h =
    let l = length-slice at end (byte_bits s) (omega (arith, length_byte_bits s)) in
    rw (drop-drop, l) (grind (arith, nat_tests))

pub closed_before : (s : List ℕ) (at end idlen k close : ℕ) → end ≤ length s * 8 → close ≡ at + idlen + zeros (slice (at + idlen) end (byte_bits s)) → close < end
    → fragment_at s at end idlen k ≡ cond (eqb ((close + 1 - at) % k) 0) (Some (read (value (slice at (at + idlen) (byte_bits s))) (close + 1 - at))) None
unfolding fragment
closed_before s at end idlen k close he e h =
    let l = length-slice at end (byte_bits s) (omega (arith, length_byte_bits s)) in
    let n : close + 1 - at ≡ idlen + zeros (slice (at + idlen) end (byte_bits s)) + 1 = omega arith in
    let f = front (byte_bits s) at end idlen (omega arith) in
    rw (n, drop-drop, l, f) (grind (arith, nat_tests))

pub ruleset closing = (not_closed, closed_before, nat_tests)
