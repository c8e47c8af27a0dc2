-- The zones judged one after the other: the answer from zone z on is that from the next zone on where z keeps the rules,
-- and z's own refusal where it does not.
use mathlib.Core.Path.{◌≡◌, refl, ap}
use mathlib.Core.List.{List}
use Prim.Native.Nat.{ℕ, suc, ◌+◌, ◌<◌, ◌≤◌}
use native.Mathlib.Omega.{arith}
use Rattle.geometry.specs.declared.Geometry.{Geometry}
use Rattle.model.specs.Chain.{Entry}
use Rattle.model.specs.Blocks.{block_at}
use Rattle.model.specs.Answer.{Answer, refused, answered}
use Rattle.model.specs.Check.{zone_read, join_zone, zones_read, blocks_of}
use Rattle.zone.specs.Walk.{verdict_of}
use Rattle.map.specs.Checked.{zones_told}
use Rattle.std.specs.Prelude.{Result, Ok, Err}
use Rattle.geometry.specs.declared.Refusal.{Refusal}
use Rattle.model.proofs.ByPlace.{rest_from, rest_cons, rest_none, rest_all}

join_kept : (r : Answer (List Entry)) (q : Answer (List (List Entry))) → Ok tt ≡ verdict_of r → zones_told (join_zone r q) ≡ zones_told q
join_kept (answered es) (refused n i) e = refl
join_kept (answered es) (answered ess) e = refl
join_kept (refused n i) q e = let x : ◌≡◌ {A = ℕ} 0 1 = cc in absurd (omega arith)

join_broken : (x : Refusal) (r : Answer (List Entry)) (q : Answer (List (List Entry))) → Err x ≡ verdict_of r → zones_told (join_zone r q) ≡ Err x
join_broken x (answered es) q e = let x : ◌≡◌ {A = ℕ} 0 1 = cc in absurd (omega arith)
join_broken x (refused n z) q e = cc

module _ (m : List ℕ) (g : Geometry) where
  abbrev pub answer_from : ℕ → Result (Unit {0}) Refusal
  answer_from z = zones_told (zones_read g z (rest_from m g.zones g.sector z))

  pub zones_turn : (z : ℕ) → z < g.zones → Ok tt ≡ verdict_of (zone_read g z (block_at g.sector z m)) → answer_from z ≡ answer_from (z + 1)
  zones_turn z h e =
      let s : suc z ≡ z + 1 = omega arith in
      rw (rest_cons m g.zones g.sector z h, s)
      (join_kept (zone_read g z (block_at g.sector z m)) (zones_read g (z + 1) (rest_from m g.zones g.sector (z + 1))) e)

  pub zones_stop : (z : ℕ) (x : Refusal) → z < g.zones → Err x ≡ verdict_of (zone_read g z (block_at g.sector z m)) → answer_from z ≡ Err x
  zones_stop z x h e =
      rw (rest_cons m g.zones g.sector z h)
      (join_broken x (zone_read g z (block_at g.sector z m)) (zones_read g (suc z) (rest_from m g.zones g.sector (z + 1))) e)

  pub zones_end : (z : ℕ) → g.zones ≤ z → answer_from z ≡ Ok tt
  zones_end z h = rw (rest_none m g.zones g.sector z h)

  pub zones_all : answer_from 0 ≡ zones_told (zones_read g 0 (blocks_of g m))
  zones_all = ap (λ (x : List (List ℕ)). zones_told (zones_read g 0 x)) (rest_all m g.zones g.sector)
