-- Demand 3, for every map that edits work on: each step, each undo, and every run of claims, places and releases, refused ones
-- included. Assumes nothing.
use Rattle.std.specs.Prelude.{◌≡◌, true, List, [], ◌∷◌, ◌++◌, map, ℕ, ◌*◌, ◌%◌, ◌<◌, ◌≤◌, length, get_or}
use Rattle.bits.specs.Bits.{Bytes}
use Rattle.checks.specs.Cross.{cross_of}
use Rattle.checks.specs.Maps.{map_a}
use Rattle.geometry.specs.declared.Geometry.{Geometry}
use Rattle.geometry.specs.Record.{geometry_of}
use Rattle.model.specs.Chain.{Pair, numbers_of}
use Rattle.model.specs.Rules.{CheckRule, zone_block}
use Rattle.model.specs.Answer.{Answer, refused, answered}
use Rattle.model.specs.Check.{blocks_of}
use Rattle.edits.specs.Edits.{Edit, takes, gives}
use Rattle.edits.specs.Judge.{Call, release, place, claim, editable}
use Rattle.edits.specs.Runs.{Undone, cross_run}
use Rattle.edits.specs.Steps.{outcome, step, steps}
use Rattle.edits.specs.Editable.{Editable, ReadsAfter}
use Rattle.model.specs.Shown.{listed_on}

-- the accepted calls of a run, as their edits: "with refused calls struck out"
abbrev pub kept : Answer Edit → List Edit → List Edit
kept (refused n z) es = es
kept (answered e) es = e ∷ es

abbrev pub edits_of : List ℕ → List Call → List Edit
edits_of m [] = []
edits_of m (c ∷ cs) = kept (outcome m c) (edits_of (step m c) cs)

-- a call is accepted, with this edit
abbrev pub Accepted : List ℕ → Call → Edit → Type 0
Accepted m c e = outcome m c ≡ answered e

-- equal "except perhaps in zone check and cross check bytes": bytes 0 and 3 of each block
pub record SameButChecks (g : Geometry) (m n : List ℕ) : Type 0 where
  pub long : length n ≡ length m
  pub bytes : (i : ℕ) → (i % g.sector ≡ 0 → ⊥) → (i % g.sector ≡ 3 → ⊥) → get_or n i 0 ≡ get_or m i 0

-- every object lists the same on both maps: those that are there, and those that are not
abbrev pub SameLists : List ℕ → List ℕ → Type 0
SameLists m n = (id : ℕ) → listed_on n id ≡ listed_on m id

-- one run, whole
pub record RunLaws (m : List ℕ) (cs : List Call) : Type 0 where
  -- the map may be edited again, on the same disc
  pub again : Editable (steps m cs)
  pub same_disc : geometry_of (steps m cs) ≡ geometry_of m
  -- "the same reading after each step": each accepted call of the run, on the map that the calls before it leave
  pub each_step : (before : List Call) (c : Call) (rest : List Call) (e : Edit) → cs ≡ before ++ c ∷ rest → Accepted (steps m before) c e
      → ReadsAfter (steps m before) e (steps m (before ++ c ∷ []))
  -- "If after the run each object has its starting pieces, and no object is there that wasn't at the start, the map equals the
  -- starting one except perhaps in zone check and cross check bytes."
  pub same_pieces : SameLists m (steps m cs) → SameButChecks (geometry_of m) m (steps m cs)
  -- "If each accepted step was undone last first, every byte is equal."
  pub undone : Undone (edits_of m cs) → steps m cs ≡ m
  -- "After every run each cross check is the starting one exclusive-ored with what the rule above gives its zone at each accepted
  -- call, and each zone check is that of its block."
  pub cross_checks : map cross_of (blocks_of (geometry_of m) (steps m cs)) ≡ cross_run (geometry_of m) (edits_of m cs) (map cross_of (blocks_of (geometry_of m) m))
  pub zone_checks_law : (z : ℕ) → z < (geometry_of m).zones → CheckRule (zone_block (geometry_of m) (steps m cs) z)
  -- stronger than asked: where the pieces are as at the start, the check bytes are too
  pub same_bytes : SameLists m (steps m cs) → steps m cs ≡ m

pub record Demand3 : Type 0 where
  -- the maps that edits work on: every one on which a call is accepted, and map A
  pub accepted_editable : (m : List ℕ) → Bytes m → (c : Call) (e : Edit) → Accepted m c e → Editable m
  pub map_a_law : Editable map_a
  -- a step, accepted or refused
  pub reads_after : (m : List ℕ) → Editable m → (c : Call) (e : Edit) → Accepted m c e → ReadsAfter m e (step m c)
  pub refused_keeps : (m : List ℕ) (c : Call) (n z : ℕ) → outcome m c ≡ refused n z → step m c ≡ m
  -- "Release an ordinary object, with room for its list, and at once place the returned list under its number: both are accepted and
  -- every byte is as before, check bytes too." The release of an object that is there is accepted, and then the place is.
  pub release_accepted : (m : List ℕ) → Editable m → (id room : ℕ) → editable (geometry_of m) id ≡ true → (listed_on m id ≡ [] → ⊥)
      → 2 * length (listed_on m id) ≤ room
      → Accepted m (release id room) (takes id (listed_on m id))
  pub release_place : (m : List ℕ) → Editable m → (id room : ℕ) (qs : List Pair) → Accepted m (release id room) (takes id qs)
      → Accepted (step m (release id room)) (place id (numbers_of qs)) (gives id qs) × (steps m (release id room ∷ place id (numbers_of qs) ∷ []) ≡ m)
  -- "An accepted place or claim followed at once by its release, again with room, does the same."
  pub given_release : (m : List ℕ) → Editable m → (c : Call) (id room : ℕ) (qs : List Pair) → Accepted m c (gives id qs) → 2 * length qs ≤ room
      → Accepted (step m c) (release id room) (takes id qs) × (steps m (c ∷ release id room ∷ []) ≡ m)
  -- an accepted claim is the place of its list under its id
  pub claim_places : (m : List ℕ) → Editable m → (size parent room id : ℕ) (qs : List Pair) → Accepted m (claim size parent room) (gives id qs)
      → Accepted m (place id (numbers_of qs)) (gives id qs) × (step m (place id (numbers_of qs)) ≡ step m (claim size parent room))
  -- every run
  pub every_run : (m : List ℕ) → Editable m → (cs : List Call) → RunLaws m cs
  -- stronger than asked: every byte after a run is a function of the starting map and the present pieces. Two runs from one map that leave
  -- every object the same list leave the same bytes, whatever their calls; `same_bytes` is the case of a run of no calls.
  pub same_lists_same_bytes : (m : List ℕ) → Editable m → (cs ds : List Call) → SameLists (steps m cs) (steps m ds) → steps m cs ≡ steps m ds
