-- No fragment of a zone that keeps the rules is owned by 0: a holder's number is 0 just where it is free.
use mathlib.Core.Path.{◌≡◌}
use mathlib.Core.Bool.{true, false, not, ◌&&◌, ◌||◌}
use mathlib.Core.List.{List}
use Prim.Native.Nat.{ℕ, ◌*◌, ◌/◌, ◌≤◌}
use native.Mathlib.Omega.{arith}
use lib.Dec.{eqb, ltb, leb}
use borrow.Author.Tests.{leb-true, ne_eqb}
use Rattle.bits.proofs.Tests.{both}
use Rattle.geometry.specs.declared.Geometry.{Geometry}
use Rattle.model.specs.Chain.{owned, Entry}
use Rattle.model.specs.Answer.{answered}
use Rattle.model.specs.Check.{zone_read, every, holder_fits, id_fits, end_fits, first_owned}
use Rattle.model.proofs.ZoneTests.{zone_tests}

-- every holder of a zone that was read is free, or owned by 1 or more
pub ids_fit : (g : Geometry) (z : ℕ) (b : List ℕ) (es : List Entry) → zone_read g z b ≡ answered es → every (id_fits g) es ≡ true
ids_fit g z b es e =
    let p = both (every (id_fits g) es && every (end_fits g z) es) (not (eqb z (g.zones / 2)) || first_owned 2 es) (zone_tests g z b es e).owners in
    (both (every (id_fits g) es) (every (end_fits g z) es) p.0).0

pub owner_some : (g : Geometry) (id : ℕ) → holder_fits g (owned id) ≡ true → eqb id 0 ≡ false
owner_some g id f =
    let l : 1 ≤ id = leb-true 1 id (both (leb 1 id) (ltb id (g.ids * g.zones)) f).0 in
    ne_eqb id 0 (λ e. omega arith)
