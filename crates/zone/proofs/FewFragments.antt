-- A zone has few fragments, so that a local array holds its list: a fragment has at least 12 bits, and a zone at most 8160.
use mathlib.Core.Path.{◌≡◌, refl, ap, ◌∙◌}
use mathlib.Core.List.{List, [], ◌∷◌}
use mathlib.Core.Option.{some}
use Prim.Native.Nat.{ℕ, suc, ◌+◌, ◌-◌, ◌*◌, ◌≤◌}
use native.Mathlib.Omega.{arith}
use lib.ListN.{length}
use Rattle.geometry.specs.declared.Geometry.{Geometry}
use Rattle.geometry.specs.Accepted.{AcceptedGeometry}
use Rattle.geometry.specs.Places.{first_bit, end_bit}
use Rattle.geometry.proofs.DiscBits.{first_low}
use Rattle.model.specs.Fragments.{Fragment, Formed}
use Rattle.model.specs.Chain.{Entry, onward, follow}
use Rattle.model.specs.Blocks.{link_in, alloc_bits}
use Rattle.model.proofs.FragmentsRead.{written_cut}
use Rattle.model.proofs.Followed.{total, none_left}
use Rattle.model.proofs.ZoneDrawn.{length_frags}
use Rattle.model.proofs.ZoneTests.{zone_tests}
use Rattle.fragment.specs.Found.{next_after}
use Rattle.zone.specs.Lines.{entries_in, IsRead}
use Rattle.zone.proofs.AllocBits.{first_high, ZoneBlock, bits_left, alloc_all}
use Rattle.zone.proofs.EntriesRead.{chain_parts}

long_each : (n : ℕ) (fs : List Fragment) → 10 ≤ n → Formed (suc n) fs → 12 * length fs ≤ total fs
long_each n [] h f = omega arith
long_each n (f ∷ fs) h k = omega (arith, long_each n fs h k.2)

pub follow_count : (at next : ℕ) (fs : List Fragment) (es : List Entry) → follow at next fs ≡ some es → length es ≡ length fs
follow_count at next [] es e = ap length (none_left at next es e).1
follow_count at next (f ∷ fs) es e =
    let k = chain_parts at next f.id f.len fs es e in
    ap length k.2 ∙ ap suc (follow_count (at + f.len) (next_after at next f.id) fs k.0 k.1)

pub few : (g : Geometry) → AcceptedGeometry g → (b : List ℕ) → length b ≡ g.sector → (z : ℕ) → IsRead g z b → 3 * length (entries_in g z b) ≤ 2048
few g ok b sized z rd =
    let p = zone_tests g z b (entries_in g z b) rd in
    let k : ZoneBlock g b (end_bit g) = record { numbers = ok; sized = sized; ends = refl } in
    let w = written_cut (g.idlen - 1) (alloc_bits (first_bit z) (end_bit g) b) p.fragments p.cut in
    let t : length (alloc_bits (first_bit z) (end_bit g) b) ≡ total p.fragments = ap length w.0 ∙ length_frags (suc (g.idlen - 1)) p.fragments w.1 in
    let a : length (alloc_bits (first_bit z) (end_bit g) b) ≡ end_bit g - first_bit z = ap length (alloc_all k z (first_bit z) refl (first_low z) (first_high z)) ∙ bits_left k (first_bit z) in
    let l : 12 * length p.fragments ≤ total p.fragments = long_each (g.idlen - 1) p.fragments (omega (arith, ok.idlen_low)) w.1 in
    let n : length (entries_in g z b) ≡ length p.fragments = follow_count (first_bit z) (onward 8 (link_in b)) p.fragments (entries_in g z b) p.chain in
    omega (arith, ok.bits_high, first_low z)
