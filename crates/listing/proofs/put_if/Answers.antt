-- The pair is stored where it is wanted, by `Stored`.
use native.Mathlib.Omega.{arith}
use lib.ListN.{length, length-set}
use Rattle.listing.proofs.Stored.{wanted_room, wanted_stored, unwanted_stored}
use Rattle.listing.proofs.put_if.Goals as goal

pub bounds-pairs-at : goal.bounds-pairs-at
bounds-pairs-at c =
    let a = c.args in
    omega (arith, wanted_room a.wanted a.at (length a.pairs.now) c.if-wanted.true c.requires)

pub bounds-pairs-at-then-wanted : goal.bounds-pairs-at-then-wanted
bounds-pairs-at-then-wanted c =
    let a = c.args in
    simp length-set (omega (arith, wanted_room a.wanted a.at (length a.pairs.now) c.if-wanted.true c.requires))

pub returns-then-wanted : goal.returns-then-wanted
returns-then-wanted c = let a = c.args in let answer = wanted_stored a.wanted a.pairs.now a.at a.start.0 a.len c.if-wanted.true in record { list = answer.0; next = answer.1 }

pub returns : goal.returns
returns c = let a = c.args in let answer = unwanted_stored a.wanted a.pairs.now a.at a.start.0 a.len c.if-wanted.false in record { list = answer.0; next = answer.1 }
