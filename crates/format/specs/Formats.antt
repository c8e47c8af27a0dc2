-- What the calls that format answer and leave (document 02, R-13). Assumes nothing.
use Rattle.std.specs.Prelude.{◌≡◌, ◌&&◌, List, ℕ, length, Option, Result, Ok, Err}
use Rattle.std.specs.Bool.{then_some}
use Rattle.geometry.specs.declared.DiscRecord.{DiscRecord}
use Rattle.geometry.specs.declared.Refusal.{Refusal}
use Rattle.geometry.specs.Record.{geometry_from}
use Rattle.geometry.specs.Answers.{number, refusal}
use Rattle.model.specs.Answer.{Answer, refused, answered}
use Rattle.formatted.specs.Blank.{blank_for, disc_fits}
use Rattle.formatted.specs.Drawn.{both_fit, blank_found, format_found, buffer_after, length_found}
use Rattle.format.specs.declared.BlankDisc.{BlankDisc}

-- a disc with its geometry, and the one of such numbers, if its map can be drawn
abbrev pub disc_of : DiscRecord → BlankDisc
disc_of r = record { fields = r; geometry = geometry_from r }

abbrev pub disc_found : ℕ → ℕ → ℕ → Option BlankDisc
disc_found logsector capacity idlen =
    let r = blank_for logsector capacity idlen in
    then_some (disc_fits logsector capacity idlen && both_fit (geometry_from r)) (disc_of r)

-- the disc that is formatted, with its geometry
abbrev pub plan_of : Answer DiscRecord → Result BlankDisc Refusal
plan_of (refused n z) = Err (refusal n z)
plan_of (answered r) = Ok (disc_of r)

abbrev pub planned : ℕ → ℕ → ℕ → Result BlankDisc Refusal
planned logsector capacity idlen = plan_of (blank_found logsector capacity idlen)

-- the answer, and the paper's numbers: refusal (0: drawn) and zone told
abbrev pub format_answer : Answer (List ℕ) → Result (Unit {0}) Refusal
format_answer (refused n z) = Err (refusal n z)
format_answer (answered bytes) = Ok tt

abbrev pub format_numbers : Result (Unit {0}) Refusal → ℕ × ℕ
format_numbers (Ok t) = (0, 0)
format_numbers (Err r) = (number r.reason, r.zone)

abbrev pub format_told : Answer (List ℕ) → ℕ × ℕ
format_told (refused n z) = (n, z)
format_told (answered bytes) = (0, 0)

-- the answer with its numbers, and every byte of the buffer
pub record Formatting (logsector capacity idlen : ℕ) (old : List ℕ) (r : Result (Unit {0}) Refusal) (after : List ℕ) : Type 0 where
  pub answer : r ≡ format_answer (format_found logsector capacity idlen (length old))
  pub numbers : format_numbers r ≡ format_told (format_found logsector capacity idlen (length old))
  pub bytes : after ≡ buffer_after old (format_found logsector capacity idlen (length old))

-- the second call's answer, and its numbers: refusal (0: told), zone told, length
abbrev pub length_answer : Answer ℕ → Result ℕ Refusal
length_answer (refused n z) = Err (refusal n z)
length_answer (answered n) = Ok n

abbrev pub length_numbers : Result ℕ Refusal → ℕ × ℕ × ℕ
length_numbers (Ok n) = (0, 0, n)
length_numbers (Err r) = (number r.reason, r.zone, 0)

abbrev pub length_told : Answer ℕ → ℕ × ℕ × ℕ
length_told (refused n z) = (n, z, 0)
length_told (answered n) = (0, 0, n)

pub record TellsLength (logsector capacity idlen : ℕ) (r : Result ℕ Refusal) : Type 0 where
  pub answer : r ≡ length_answer (length_found logsector capacity idlen)
  pub numbers : length_numbers r ≡ length_told (length_found logsector capacity idlen)
