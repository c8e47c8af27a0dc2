-- What is left before the first part: the refusal's text, or the lines from the first fragment of zone 0 on. Those are the lines of the
-- zones as they read.
use mathlib.Core.Path.{◌≡◌, refl, sym, ap, ap₂, ◌∙◌}
use mathlib.Core.Bool.{Bool, true, false, cond}
use mathlib.Core.List.{List, [], ◌∷◌, ◌++◌, map}
use Prim.Native.Nat.{ℕ, suc, ◌-◌, ◌<◌}
use native.Mathlib.Omega.{arith}
use Rattle.std.specs.Prelude.{Ok, Err}
use Rattle.geometry.specs.declared.Geometry.{Geometry}
use Rattle.geometry.specs.declared.Refusal.{Refusal}
use Rattle.geometry.specs.Record.{geometry_of}
use Rattle.geometry.specs.Answers.{refusal}
use Rattle.model.specs.Chain.{Entry}
use Rattle.model.specs.Rules.{zone_block}
use Rattle.model.specs.Answer.{Answer, refused, answered}
use Rattle.model.specs.Check.{map_read}
use Rattle.zone.proofs.EntriesRead.{is_read}
use Rattle.map.specs.Checked.{check_answer, checked}
use Rattle.map.specs.Accepted.{AcceptedMap}
use Rattle.map.proofs.Accepts.{accepts, ReadInTurn, zones_in_turn}
use Rattle.walk.specs.declared.Line.{Line}
use Rattle.walk.specs.Remaining.{line_of, lines_from}
use Rattle.map_text.specs.Text.{refusal_text, lines_text, lines_of_zones, read_text, map_text, too_long, program_text, input_checked}

-- a walk's lines are those of the zones as they read
lines_read : (m : List ℕ) (g : Geometry) (z : ℕ) (ess : List (List Entry)) → ReadInTurn m g z ess → lines_from g m z (g.zones - z) ≡ lines_of_zones g z ess
lines_read m g z [] e = let n : g.zones - z ≡ 0 = omega arith in ap (lines_from g m z) n
lines_read m g z (es ∷ ess) r =
    let h : z < g.zones = r.0 in
    let n : g.zones - z ≡ suc (g.zones - suc z) = omega arith in
    ap (lines_from g m z) n
    ∙ ap₂ (λ (x : List Entry) (y : List Line). map (line_of g z) x ++ y) (is_read g z (zone_block g m z) es r.1).0 (lines_read m g (suc z) ess r.2)

-- a refusal's text is that of the answer
refused_text : (g : Geometry) (a : Answer (List (List Entry))) {r : Refusal} → check_answer g a ≡ Err r → refusal_text r ≡ read_text g a
refused_text g (refused n z) e = cc
refused_text g (answered ess) e = cc

module _ (m : List ℕ) where
  -- only the check accepts
  accepted : (b : Bool) {g : Geometry} → cond b (Err (refusal 1 0)) (checked m) ≡ Ok g → (b ≡ false) × (checked m ≡ Ok g)
  accepted true e = absurd (cc)
  accepted false e = (refl, e)

  pub begins_accepted : {g : Geometry} → input_checked m ≡ Ok g → AcceptedMap m g
  begins_accepted {g} e = accepts m g (accepted (too_long m) e).1

  refusal_told : (b : Bool) {r : Refusal} → cond b (Err (refusal 1 0)) (checked m) ≡ Err r
      → refusal_text r ≡ cond b (refusal_text (refusal 1 0)) (map_text m)
  refusal_told true e = cc
  refusal_told false e = refused_text (geometry_of m) (map_read m) e

  pub begins_refused : {r : Refusal} → input_checked m ≡ Err r → refusal_text r ≡ program_text m
  begins_refused e = refusal_told (too_long m) e

  pub begins_lines : {g : Geometry} {ls : List Line} → input_checked m ≡ Ok g → ls ≡ lines_from g m 0 (g.zones - 0) → lines_text ls ≡ program_text m
  begins_lines {g} e s =
      let a = begins_accepted e in
      let lines = s ∙ lines_read m g 0 a.zones (zones_in_turn a) in
      let read = ap₂ read_text a.geometry (sym a.read) in
      rw (accepted (too_long m) e).0 (ap lines_text lines ∙ read)
