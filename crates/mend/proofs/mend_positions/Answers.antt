-- The check's refusal; 17, where an empty part was lent and the list is as it was; or the positions, from its first entry on.
use Rattle.mend.proofs.Answers.{none_lent, mendable_by, positions_refused, too_few, positions_listed}
use Rattle.mend.proofs.mend_positions.Goals as goal

pub returns-in_err-g : goal.returns-in_err-g
returns-in_err-g c = positions_refused c.args.map.now c.check_zones.ensures c.args.list.now c.in_err-g.was c.from_residual.ensures

pub list_changes-n-requires : goal.list_changes-n-requires
list_changes-n-requires c = mendable_by c.args.map.now c.check_zones.ensures c.in_ok-g.was

pub returns-then-list-n : goal.returns-then-list-n
returns-then-list-n c =
    let a = c.args in
    let n = c.list_changes-n in
    too_few a.map.now c.check_zones.ensures a.list.now c.in_ok-g.was (none_lent n.new.list a.list.now n.auto.list) n.ensures.0 c.into.ensures c.if-list-n.true

pub list_changes-requires : goal.list_changes-requires
list_changes-requires c = mendable_by c.args.map.now c.check_zones.ensures c.in_ok-g.was

pub returns : goal.returns
returns c =
    let a = c.args in
    let n = c.list_changes-n in
    positions_listed a.map.now c.check_zones.ensures a.list.now c.in_ok-g.was (none_lent n.new.list a.list.now n.auto.list) n.ensures.0 c.if-list-n.false c.list_changes.ensures.1
