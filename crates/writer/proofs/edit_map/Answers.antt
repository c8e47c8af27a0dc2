-- The zones of the parts so far are done (`ZonesEdited`).
use mathlib.Core.Path.{◌≡◌, sym, ap, ◌∙◌}
use mathlib.Core.Bool.{not}
use mathlib.Core.Logic.{inl}
use mathlib.Core.List.{[], ◌∷◌, ◌++◌}
use Prim.Native.Nat.{◌+◌, ◌<◌}
use native.Mathlib.Omega.{arith}
use lib.ListN.{length}
use Rattle.std.proofs.lemmas.List.{length_push}
use Rattle.writer.specs.Parts.{zone_part}
use Rattle.writer.proofs.PartsGoneThrough.{parted, few_parts, part_turn, parts_end}
use Rattle.writer.proofs.ZonesEdited.{Editing, counted, editing_ends, zone_edit, editing_turn}
use Rattle.writer.proofs.edit_map.Goals as goal
use Rattle.writer.proofs.edit_map.Goals.{In-Some}

pub loop-z-init-derived : goal.loop-z-init-derived
loop-z-init-derived c =
    let p = parted c.args.g c.args.list.now c.into_iter-z-iterator.ensures.into_iter_gives c.enumerate-z-items.ensures.source c.enumerate-z-items.ensures.count c.parts.ensures in
    ((tt, tt, inl (omega (arith, few_parts p, c.requires.0.editable.accepted.readable.numbers.zones_high))), tt)

module _ (c : In-Some) where
  turn : (c.in-Some.z ≡ length c.loop-z.yielded) × (c.in-Some.z < c.args.g.zones) × (c.in-Some.part.now ≡ zone_part c.args.g c.args.list.now c.in-Some.z)
  turn =
      let p = parted c.args.g c.args.list.now c.into_iter-z-iterator.ensures.into_iter_gives c.enumerate-z-items.ensures.source c.enumerate-z-items.ensures.count c.parts.ensures in
      part_turn p c.loop-z.yielded _ c.loop-z.yielded_by _ _ c.next.ensures.steps _ _ c.in-Some.is

  here : let a = c.args in Editing a.map.now a.g a.gone a.list.now a.id c.loop-z.map c.loop-z.earlier c.in-Some.z
  here = rw turn.0 c.loop-z.invariant

pub edit_zone-requires : goal.edit_zone-requires
edit_zone-requires c =
    let at = (goal.at.edit_zone-requires c).In-Some in
    let t = turn at in
    zone_edit c.requires.0 (here at) t.1 t.2 (omega (arith, c.requires.1, c.loop-z.auto.buffer))

pub overflow_add-earlier : goal.overflow_add-earlier
overflow_add-earlier c =
    let at = (goal.at.overflow_add-earlier c).In-Some in
    omega (arith, c.from-earlier.ensures, (counted (not c.is_empty.result)).1, (here at).few, (turn at).1, c.requires.0.editable.accepted.readable.numbers.zones_high)

pub loop-z-preserved : goal.loop-z-preserved
loop-z-preserved c =
    let at = (goal.at.loop-z-preserved c).In-Some in
    let t = turn at in
    let n : length (c.loop-z.yielded ++ (c.in-Some.z, c.in-Some.part) ∷ []) ≡ c.in-Some.z + 1 = length_push c.loop-z.yielded (c.in-Some.z, c.in-Some.part) ∙ ap (λ x. x + 1) (sym t.0) in
    rw n
    (editing_turn c.requires.0 (here at) t.1 t.2 c.touched_zones-touched.result c.cross_change-change.result c.from-earlier.result
    c.touched_zones-touched.ensures c.cross_change-change.ensures c.edit_zone.auto.map c.edit_zone.ensures c.is_empty.ensures c.from-earlier.ensures)

pub returns : goal.returns
returns c =
    let p = parted c.args.g c.args.list.now c.into_iter-z-iterator.ensures.into_iter_gives c.enumerate-z-items.ensures.source c.enumerate-z-items.ensures.count c.parts.ensures in
    editing_ends c.requires.0 c.loop-z.invariant (parts_end p c.loop-z.yielded _ c.loop-z.yielded_by _ _ c.next.ensures.steps c.in-None.is)
