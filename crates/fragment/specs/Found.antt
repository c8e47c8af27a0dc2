-- The fragment at a place, and the step of the chain past it. Assumes nothing.
use Rattle.std.specs.Prelude.{Bool, ◌&&◌, cond, List, ℕ, ◌+◌, ◌%◌, eqb, ltb, length, take, drop, Option, Some, None}
use Rattle.std.proofs.Math.Seq.{slice}
use Rattle.bits.specs.Bits.{byte_bits, value, zeros}
use Rattle.model.specs.Chain.{onward}
use Rattle.fragment.specs.declared.FragmentRead.{FragmentRead}

abbrev pub read : ℕ → ℕ → FragmentRead
read id len = record { id = id; len = len }

-- the first fragment of bits that run to the zone's end: idlen bits of id, zeros, and a 1 before the end; whole clusters
unfoldable pub fragment : ℕ → ℕ → List Bool → Option FragmentRead
fragment idlen k bits =
    let z : ℕ = zeros (drop idlen bits) in
    cond (ltb (idlen + z) (length bits) && eqb ((idlen + z + 1) % k) 0) (Some (read (value (take idlen bits)) (idlen + z + 1))) None

abbrev pub fragment_at : List ℕ → ℕ → ℕ → ℕ → ℕ → Option FragmentRead
fragment_at block at end idlen k = fragment idlen k (slice at end (byte_bits block))

-- where the chain leads once the fragment at `at` is passed
abbrev pub next_after : ℕ → ℕ → ℕ → ℕ
next_after at next id = cond (eqb at next) (onward at id) next
