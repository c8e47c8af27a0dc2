-- What a station may count on that is cut off, and why no more (document 02, R-5). Assumes nothing.
use Rattle.std.specs.Prelude.{◌≡◌, Bool, List, ◌↔◌, ℕ, ◌*◌, ◌%◌, ◌≤◌, length, take}
use Rattle.checks.specs.Cross.{xor_sum, touched_count, changes}
use Rattle.geometry.specs.Record.{geometry_of}
use Rattle.model.specs.Rules.{MapRules}
use Rattle.edits.specs.Editable.{Editable}
use Rattle.edits.specs.Edits.{Edit, pairs_in, touched_zones}
use Rattle.edits.specs.Judge.{Call}
use Rattle.edits.specs.Steps.{step, steps}
use Rattle.runs.specs.Demand3.{Accepted}
use Rattle.station.specs.Station.{written, cut_off_copies, Yields}

pub record StationLaws : Type 0 where
  -- A station that writes the second copy, then the first, and may be cut off after any byte. The second may hold anything beforehand.
  pub cut_off : (old new other : List ℕ) → MapRules old → MapRules new → length new ≡ length old → length other ≡ length old
      → (n : ℕ) → Yields old new n (cut_off_copies n new (record { first = old; second = other }))
  -- So for every run of edits in memory.
  pub edits_cut_off : (m other : List ℕ) → Editable m → length other ≡ length m → (cs : List Call)
      → (n : ℕ) → Yields m (steps m cs) n (cut_off_copies n (steps m cs) (record { first = m; second = other }))
  -- Why no more is promised of a half-written first copy. Written up to a block's edge it breaks no rule but perhaps that of the cross checks,
  -- and not that one where the changes to the blocks written so far cancel.
  pub at_block_edge : (m : List ℕ) → Editable m → (c : Call) (e : Edit) → Accepted m c e → (z : ℕ) → let g = geometry_of m in z ≤ g.zones
      → MapRules (written (z * g.sector) (step m c) m) ↔ xor_sum (take z (changes (touched_zones g (pairs_in e)))) ≡ 0
  -- After an edit of an even number of zones they cancel where an even number of their blocks is written: two of four, and the copy is accepted.
  pub even_written : (touched : List Bool) → touched_count touched % 2 ≡ 0 → (z : ℕ) → xor_sum (take z (changes touched)) ≡ touched_count (take z touched) % 2
