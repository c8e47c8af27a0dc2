-- One fragment of a zone judged, and the walker's answer. Assumes nothing.
use Rattle.std.specs.Prelude.{Bool, not, ◌&&◌, ◌||◌, List, ℕ, ◌/◌, eqb, leb, Option, Some, None, Result, Ok, Err}
use Rattle.geometry.specs.declared.Geometry.{Geometry}
use Rattle.geometry.specs.declared.Refusal.{Refusal}
use Rattle.geometry.specs.Answers.{refusal}
use Rattle.geometry.specs.Places.{disc_bit}
use Rattle.model.specs.Chain.{Holder, free, owned, Entry}
use Rattle.model.specs.Answer.{Answer, refused, answered}
use Rattle.model.specs.Check.{is_owned, holder_fits}

-- a fragment's owner, or none of a free one
abbrev pub holder_of : Option ℕ → Holder
holder_of None = free
holder_of (Some id) = owned id

-- the disc-end rule of a fragment that ends at block bit `to`
abbrev pub end_holds : Geometry → ℕ → ℕ → Holder → Bool
end_holds g z to h = is_owned 1 h || leb (disc_bit g z to) g.end.0

-- the object 2 rule of a fragment that is the first of its zone, or not
abbrev pub first_holds : Geometry → ℕ → Bool → Holder → Bool
first_holds g z first h = not (first && eqb z (g.zones / 2)) || is_owned 2 h

abbrev pub entry_holds : Geometry → ℕ → Bool → ℕ → Holder → Bool
entry_holds g z first to h = (holder_fits g h && end_holds g z to h) && first_holds g z first h

-- the walker's answer for a zone read
abbrev pub Verdict : Type 0
Verdict = Result (Unit {0}) Refusal

abbrev pub verdict_of : Answer (List Entry) → Verdict
verdict_of (refused n z) = Err (refusal n z)
verdict_of (answered es) = Ok tt
