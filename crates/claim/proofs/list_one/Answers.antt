-- 17, or the pair stored in the first two entries.
use mathlib.Core.Path.{refl}
use mathlib.Core.List.{[], ◌∷◌}
use native.Mathlib.Omega.{arith}
use Rattle.model.specs.Chain.{pair}
use Rattle.claim.proofs.TakenListed.{few_entries, pairs_listed}
use Rattle.claim.proofs.list_one.Goals as goal

pub returns-then-list-lt2 : goal.returns-then-list-lt2
returns-then-list-lt2 c =
    let a = c.args in
    few_entries a.list.now {n = 1} (pair a.start.0 a.len ∷ []) refl (omega arith) c.into.ensures

pub returns : goal.returns
returns c =
    let a = c.args in
    pairs_listed a.list.now {n = 1} (pair a.start.0 a.len ∷ []) refl (omega arith) refl
