-- What the check tells of an accepted map's record. Assumes nothing.
use Rattle.std.specs.Prelude.{ℕ, Result, Ok, Err}
use Rattle.geometry.specs.declared.Geometry.{Geometry}
use Rattle.geometry.specs.declared.Refusal.{Refusal}
use Rattle.geometry.specs.Answers.{number}

-- the paper's numbers: refusal (0: accepted) and zone told; S, B, nzones, P and disc_size, 0 where refused
abbrev pub geometry_numbers : Result Geometry Refusal → ℕ × ℕ × ℕ × ℕ × ℕ × ℕ × ℕ
geometry_numbers (Ok g) = (0, 0, g.sector, g.unit, g.zones, g.ids, g.size)
geometry_numbers (Err r) = (number r.reason, r.zone, 0, 0, 0, 0, 0)
