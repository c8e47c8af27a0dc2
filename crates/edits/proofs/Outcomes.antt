-- What a call that edits comes to, by what the code finds: the check's refusal, 8, 9, or the verdict on the pieces of a map that
-- edits work on.
use mathlib.Core.Path.{◌≡◌, sym, ap, ◌∙◌, subst}
use mathlib.Core.Bool.{true, false}
use mathlib.Core.List.{List}
use mathlib.Core.Option.{none, some}
use Prim.Native.Nat.{ℕ}
use Rattle.geometry.specs.declared.Geometry.{Geometry}
use Rattle.geometry.specs.declared.Refusal.{Refusal}
use Rattle.geometry.specs.Record.{geometry_of}
use Rattle.model.specs.Chain.{Entry, touching}
use Rattle.model.specs.Answer.{Answer, and_then, refused}
use Rattle.model.specs.Check.{map_read}
use Rattle.map.specs.Accepted.{AcceptedMap}
use Rattle.map.specs.Checked.{checked}
use Rattle.geometry.specs.Answers.{number}
use Rattle.model.proofs.Numbered.{map_numbered}
use Rattle.map.proofs.Answers.{read_refused}
use Rattle.edits.specs.Edits.{Edit}
use Rattle.edits.specs.Judge.{Call, call_fits, judge}
use Rattle.edits.specs.Steps.{by_read, outcome}
use Rattle.model.specs.Shown.{zones_of, pieces_on}
use Rattle.edits.proofs.StepWritten.{outcome_judged}
use Rattle.walk.specs.Touching.{touching_of}
use Rattle.edits.specs.EditableMap.{EditableMap}
use Rattle.std.specs.Prelude.{Some, Err}
use Rattle.walk.proofs.ZonesTouching.{zone_told, zones_are}

pub check_refused : (m : List ℕ) (c : Call) (r : Refusal) → checked m ≡ Err r → outcome m c ≡ refused (number r.reason) r.zone
check_refused m c r e = ap (λ (x : Answer (List (List Entry))). and_then x (by_read (geometry_of m) c)) (read_refused (geometry_of m) (map_read m) r (map_numbered m) e)

module _ {m : List ℕ} {g : Geometry} (a : AcceptedMap m g) (c : Call) where
  read_on : outcome m c ≡ by_read (geometry_of m) c a.zones
  read_on = ap (λ (x : Answer (List (List Entry))). and_then x (by_read (geometry_of m) c)) a.read

  -- 8: "id argument outside .. 3 .. to P*nzones-1"
  pub id_refused : call_fits g c ≡ false → outcome m c ≡ refused 8 0
  id_refused e =
      let f : call_fits (geometry_of m) c ≡ false = subst (λ (x : Geometry). call_fits x c ≡ false) a.geometry e in
      read_on ∙ rw f

  -- 9: "two free fragments of a zone touch"
  pub touching_refused : call_fits g c ≡ true → (z : ℕ) → touching_of (touching 0 (zones_of m)) ≡ Some z → outcome m c ≡ refused 9 z
  touching_refused e z t =
      let f : call_fits (geometry_of m) c ≡ true = subst (λ (x : Geometry). call_fits x c ≡ true) a.geometry e in
      let k : touching 0 a.zones ≡ some z = ap (touching 0) (sym (zones_are a)) ∙ zone_told (touching 0 (zones_of m)) z t in
      read_on ∙ rw (f, k)

-- the verdict
module _ {m : List ℕ} {g : Geometry} (e : EditableMap m g) (c : Call) where
  pub judged_told : (v : Answer Edit) → judge g none (pieces_on g m) c ≡ v → outcome m c ≡ v
  judged_told v h =
      let d = e.editable in
      outcome_judged m (zones_of m) d.accepted d.apart c ∙ subst (λ (x : Geometry). judge x none (pieces_on x m) c ≡ v) e.accepted.geometry h
