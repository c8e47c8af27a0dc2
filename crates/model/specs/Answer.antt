-- What a call comes to: refused with a number of document 01's table and the zone told, or a value. Assumes nothing.
use Rattle.std.specs.Prelude.{Bool, cond, ℕ}

pub data Answer (A : Type 0) : Type 0 where
  refused : ℕ → ℕ → Answer A
  answered : A → Answer A

-- refused with n, zone 0, unless the test holds
abbrev pub unless : {A : Type 0} → Bool → ℕ → Answer A → Answer A
unless b n r = cond b r (refused n 0)

-- what follows once there is a value; a refusal stays as it is
abbrev pub and_then : {A B : Type 0} → Answer A → (A → Answer B) → Answer B
and_then (refused n z) f = refused n z
and_then (answered a) f = f a
