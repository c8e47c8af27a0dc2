-- The laws of Twelve and NeedRules, for the geometry of an accepted map, of ZonesTried and of NeverFourteen.
use mathlib.Core.Path.{◌≡◌, refl, ap, subst}
use mathlib.Core.List.{List, [], ◌∷◌}
use Prim.Native.Nat.{ℕ, ◌%◌}
use native.Mathlib.Omega.{arith}
use lib.ListN.{length}
use Rattle.geometry.specs.Record.{geometry_of}
use Rattle.model.specs.Answer.{answered}
use Rattle.model.specs.Chain.{Pair, numbers_of}
use Rattle.edits.specs.Edits.{gives}
use Rattle.edits.specs.Judge.{pairs_from, place, claim}
use Rattle.edits.specs.Steps.{outcome}
use Rattle.edits.specs.Editable.{Editable}
use Rattle.model.specs.Shown.{zones_of, pieces_on}
use Rattle.edits.proofs.MapAccepted.{map_geometry, map_disc}
use Rattle.edits.proofs.RunsKept.{place_tests, claim_tests}
use Rattle.runs.specs.EditRules.{ClaimedBits}
use Rattle.runs.proofs.StepLaws.{verdict, claim_places}
use Rattle.runs.proofs.ClaimedBits.{claimed_bits}
use Rattle.runs.proofs.Twelve.{fits_gives_rules, rules_give_fits}
use Rattle.runs.proofs.NeverFourteen.{never_fourteen}
use Rattle.runs.proofs.ZonesTried.{zones_tried}
use Rattle.edits.proofs.Chosen.{need_long}
use Rattle.edits.proofs.ClustersKept.{need_clusters}
use Rattle.edits.proofs.NeedRules.{need_enough, need_least}
use Rattle.runs.proofs.edit_rules.Goals as goal

all_read : (list : List ℕ) → length list % 2 ≡ 0 → numbers_of (pairs_from list) ≡ list
all_read [] e = refl
all_read (a ∷ []) e = absurd (omega arith)
all_read (a ∷ b ∷ l) e = ap (λ (r : List ℕ). a ∷ b ∷ r) (all_read l (omega arith))

claimed : (m : List ℕ) → Editable m → (size parent room id : ℕ) (qs : List Pair) → outcome m (claim size parent room) ≡ answered (gives id qs) → ClaimedBits (geometry_of m) size qs
claimed m ed size parent room id qs a =
    let g = geometry_of m in
    let l = pieces_on g m in
    let ok = map_geometry m (zones_of m) ed.bytes ed.accepted in
    let p = (map_disc m (zones_of m) ed.bytes ed.accepted).pieces in
    let t = claim_tests g l size parent room (gives id qs) (verdict m ed (claim size parent room) (gives id qs) a) in
    let e : t.1 ≡ qs = cc t.3 in
    subst (ClaimedBits g size) e (claimed_bits g l size parent t.0 t.1 ok p.fit p.clusters t.4 t.2)

pub returns : goal.returns
returns c =
    record {
      all_read = all_read;
      need_rules = λ m ed size. (let ok = map_geometry m (zones_of m) ed.bytes ed.accepted in
          let g = geometry_of m in
          record { long = need_long g size; clusters = need_clusters g ok size; enough = need_enough g ok size; least = need_least g ok size });
      zones_tried = zones_tried;
      claimed_bits = claimed;
      claimed_list = λ m ed size parent room id qs a. (let g = geometry_of m in
          let ok = map_geometry m (zones_of m) ed.bytes ed.accepted in
          let k = verdict m ed (place id (numbers_of qs)) (gives id qs) (claim_places m ed size parent room id qs a).0 in
          fits_gives_rules g ok id (numbers_of qs) (place_tests g (pieces_on g m) id (numbers_of qs) (gives id qs) k).2);
      fits_gives_rules = λ m ed. fits_gives_rules (geometry_of m) (map_geometry m (zones_of m) ed.bytes ed.accepted);
      rules_give_fits = λ m ed. rules_give_fits (geometry_of m) (map_geometry m (zones_of m) ed.bytes ed.accepted);
      never_fourteen = never_fourteen;
    }
