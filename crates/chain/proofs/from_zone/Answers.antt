-- Zones in which nothing is free are passed over.
use native.Mathlib.Omega.{arith}
use Rattle.walk.proofs.ZonesRead.{reads_on}
use Rattle.chain.proofs.Ahead.{zone_full, starts_here, starts_past, starts_before}
use Rattle.chain.proofs.from_zone.Goals as goal

pub returns-then-at-ne0 : goal.returns-then-at-ne0
returns-then-at-ne0 c = let i = c.loop-zone.invariant in starts_before i.full (starts_here i.readable c.loop-zone-test.true (cc) c.if-at-ne0.true)

pub loop-zone-preserved : goal.loop-zone-preserved
loop-zone-preserved c = grind (arith, zone_full, reads_on)

pub returns : goal.returns
returns c = let i = c.loop-zone.invariant in starts_before i.full (starts_past c.loop-zone-test.false)
