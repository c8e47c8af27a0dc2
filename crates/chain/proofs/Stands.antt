-- That a walk stands at a free fragment, if anywhere, has one proof at most, so an iterator's ghost field, which holds it truncated, gives it back.
use mathlib.Core.List.{List}
use mathlib.Core.Path.{◌≡◌}
use mathlib.Core.Logic.{∥∥₁_elim}
use Prim.Native.Nat.{ℕ}
use Rattle.std.specs.Prelude.{Option, Some, IfSome}
use Rattle.std.proofs.Props as std
use Rattle.geometry.specs.declared.Geometry.{Geometry}
use Rattle.walk.specs.OneProof.{props}
use Rattle.chain.specs.declared.FreeWalk.{FreeWalk}
use Rattle.chain.specs.FreeAhead.{StandsFree}

StandsFree-prop : (m : List ℕ) (g : Geometry) (w : Option FreeWalk) → IsProp (IfSome w (StandsFree m g))
StandsFree-prop m g w = hlevel (props, std.props)

pub stands_free : {m : List ℕ} {g : Geometry} {at : Option FreeWalk} {w : FreeWalk} → ∥ IfSome at (StandsFree m g) ∥₁ → at ≡ Some w → StandsFree m g w
stands_free {m} {g} {at} s e = rw e at (∥∥₁_elim s (StandsFree-prop m g at) (λ x. x))
