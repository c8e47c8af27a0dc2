-- The zones whose parts are left fit just where all do.
use mathlib.Core.Path.{◌≡◌, sym, ap, ◌∙◌}
use mathlib.Core.Logic.{inl}
use Prim.Native.Nat.{◌+◌, ◌<◌}
use native.Mathlib.Omega.{arith}
use lib.ListN.{length}
use Rattle.std.proofs.lemmas.List.{length_push}
use Rattle.model.specs.Shown.{pieces_on}
use Rattle.edits.specs.Edits.{give}
use Rattle.edits.specs.Judge.{pairs_from}
use Rattle.writer.specs.Parts.{zone_part}
use Rattle.writer.proofs.PartsGoneThrough.{Parted, parted, few_parts, part_turn, parts_end}
use Rattle.place.proofs.ZonesJudged.{zone_asks, zone_verdict, JudgedTo, all_start, all_end, all_fail, all_go_on}
use Rattle.place.proofs.zones_fit.Goals as goal
use Rattle.place.proofs.zones_fit.Goals.{After-into_iter-z-iterator, In-Some}

-- the parts that the loop gets
parts_gone : (c : After-into_iter-z-iterator) → Parted c.args.g c.args.list.now c.into_iter-z-iterator.result
parts_gone c =
    parted c.args.g c.args.list.now c.into_iter-z-iterator.ensures.into_iter_gives c.enumerate-z-items.ensures.source c.enumerate-z-items.ensures.count c.parts.ensures

pub loop-z-init-derived : goal.loop-z-init-derived
loop-z-init-derived c =
    ((tt, tt, inl (omega (arith, few_parts (parts_gone c), c.requires.0.editable.accepted.readable.numbers.zones_high))), tt)

pub loop-z-init : goal.loop-z-init
loop-z-init c = all_start

-- the zone in turn, with its part of the list
module _ (c : In-Some) (p : Parted c.args.g c.args.list.now c.into_iter-z-iterator.result) where
  turn : (c.in-Some.z ≡ length c.loop-z.yielded) × (c.in-Some.z < c.args.g.zones) × (c.in-Some.part.now ≡ zone_part c.args.g c.args.list.now c.in-Some.z)
  turn = part_turn p c.loop-z.yielded _ c.loop-z.yielded_by _ _ c.next.ensures.steps _ _ c.in-Some.is

  here : let a = c.args in JudgedTo a.g (give a.id (pairs_from a.list.now) (pieces_on a.g a.map.now)) c.in-Some.z
  here = rw turn.0 c.loop-z.invariant

pub zone_fits-requires : goal.zone_fits-requires
zone_fits-requires c =
    let d = goal.at.zone_fits-requires c in
    let t = turn d.In-Some (parts_gone d.After-into_iter-z-iterator) in
    zone_asks c.requires.0 t.1 t.2 (omega (arith, c.requires.1, c.loop-z.auto.buffer))

pub returns-then-not-zone_fits : goal.returns-then-not-zone_fits
returns-then-not-zone_fits c =
    let d = goal.at.returns-then-not-zone_fits c in
    let p = parts_gone d.After-into_iter-z-iterator in
    let t = turn d.In-Some p in
    all_fail (here d.In-Some p) t.1 (sym (zone_verdict c.requires.0 t.1 t.2) ∙ sym c.zone_fits.ensures ∙ c.if-not-zone_fits.true)

pub loop-z-preserved : goal.loop-z-preserved
loop-z-preserved c =
    let d = goal.at.loop-z-preserved c in
    let p = parts_gone d.After-into_iter-z-iterator in
    let t = turn d.In-Some p in
    all_go_on (here d.In-Some p) t.1 (sym (zone_verdict c.requires.0 t.1 t.2) ∙ sym c.zone_fits.ensures ∙ c.if-not-zone_fits.false)
    (length_push c.loop-z.yielded (c.in-Some.z, c.in-Some.part) ∙ ap (λ x. x + 1) (sym t.0))

pub returns : goal.returns
returns c =
    all_end c.loop-z.invariant
    (parts_end (parts_gone (goal.at.returns c).After-into_iter-z-iterator) c.loop-z.yielded _ c.loop-z.yielded_by _ _ c.next.ensures.steps c.in-None.is)
