-- The map drawn, and the answers of the two calls, case by case: by what the plan found, and by the buffer's length.
use mathlib.Core.Path.{◌≡◌, refl, sym, ap, ◌∙◌, subst⁻¹}
use mathlib.Core.Bool.{Bool, true, false, ◌&&◌}
use mathlib.Core.List.{List}
use Prim.Native.Nat.{ℕ, ◌<◌, ◌≤◌}
use native.Mathlib.Omega.{arith}
use lib.ListN.{length}
use borrow.Author.Tests.{eq-eqb, ne_eqb}
use Rattle.std.specs.Prelude.{Result, Ok, Err}
use Rattle.std.specs.Result.{IsErr, IsErrAnd}
use Rattle.bits.proofs.Tests.{both}
use Rattle.geometry.specs.declared.DiscRecord.{DiscRecord}
use Rattle.geometry.specs.declared.Geometry.{Geometry}
use Rattle.geometry.specs.declared.Refusal.{Refusal}
use Rattle.geometry.specs.Answers.{number, refusal}
use Rattle.geometry.specs.Record.{geometry_from}
use Rattle.geometry.specs.Ranges.{FieldRules}
use Rattle.geometry.specs.Accepted.{AcceptedGeometry}
use Rattle.geometry.proofs.Reasons.{same_refusal}
use Rattle.geometry.proofs.Results.{handed_on}
use Rattle.model.specs.Answer.{Answer, refused, answered, unless, and_then}
use Rattle.model.proofs.Numbered.{told_by}
use Rattle.formatted.specs.Blank.{blank_for, disc_fits, blank_map}
use Rattle.formatted.specs.Drawn.{map_length, both_fit, drawn_map, blank_found, drawn_for, format_found, buffer_after, length_found}
use Rattle.format.specs.declared.BlankDisc.{BlankDisc}
use Rattle.format.specs.Formats.{disc_of, plan_of, planned, format_answer, format_numbers, format_told, Formatting, length_answer, length_numbers, length_told, TellsLength}
use Rattle.format.specs.Zones.{Blank, BlankOn, zones_formatted}
use Rattle.format.proofs.BlankDiscs.{field_rules, version_zero, spare_small, size_small, map_of}

-- the record is written, and then the zones
module _ {r : DiscRecord} {g : Geometry} (b : Blank r g) (m : List ℕ) (sized : length m ≡ map_length g) where
  pub record_asks : FieldRules r × (r.version ≡ 0) × (r.spare < 65536) × (r.size < 4294967296) × (64 ≤ length m)
  record_asks = (field_rules b, version_zero b, spare_small b, size_small b, omega (arith, (map_of b).whole))

  module _ {blank : List ℕ} (e : blank ≡ blank_map r (length m)) where
    with_record : blank ≡ blank_map r (map_length g)
    with_record = e ∙ ap (blank_map r) sized

    pub zones_ask : BlankOn blank g
    zones_ask = record { disc = r; blank = b; bytes = with_record }

    pub map_drawn : {after : List ℕ} → after ≡ zones_formatted g blank → after ≡ drawn_map r
    map_drawn ea = ea ∙ ap (zones_formatted g) with_record ∙ ap (λ (x : Geometry). zones_formatted x (blank_map r (map_length x))) b.geometry

-- what the plan found
found_refused : (t : Bool) (d : DiscRecord) {r : Refusal} → plan_of (unless t 2 (answered d)) ≡ Err r → unless t 2 (answered d) ≡ refused (number r.reason) r.zone
found_refused true d e = absurd cc
found_refused false d e = told_by 2 refl refl cc

found_disc : (t : Bool) (d : DiscRecord) {x : BlankDisc} → plan_of (unless t 2 (answered d)) ≡ Ok x → (t ≡ true) × (x ≡ disc_of d)
found_disc true d e = (refl, cc)
found_disc false d e = absurd cc

module _ (logsector capacity idlen : ℕ) where
  -- the answers of the two calls, by what is found
  formats : (old : List ℕ) (f : Answer (List ℕ)) {q : Result (Unit {0}) Refusal} {after : List ℕ} → format_found logsector capacity idlen (length old) ≡ f
      → q ≡ format_answer f → format_numbers q ≡ format_told f → after ≡ buffer_after old f → Formatting logsector capacity idlen old q after
  formats old f e a n b = record { answer = a ∙ ap format_answer (sym e); numbers = n ∙ ap format_told (sym e); bytes = b ∙ ap (buffer_after old) (sym e) }

  tells : (f : Answer ℕ) {q : Result ℕ Refusal} → length_found logsector capacity idlen ≡ f → q ≡ length_answer f → length_numbers q ≡ length_told f
      → TellsLength logsector capacity idlen q
  tells f e a n = record { answer = a ∙ ap length_answer (sym e); numbers = n ∙ ap length_told (sym e) }

  module _ {p : Result BlankDisc Refusal} (ep : p ≡ planned logsector capacity idlen) where
    abbrev r : DiscRecord
    r = blank_for logsector capacity idlen

    abbrev fits : Bool
    fits = disc_fits logsector capacity idlen && both_fit (geometry_from r)

    -- a refusal goes on as it is
    module _ {e : Refusal} (k : p ≡ Err e) where
      no_disc : blank_found logsector capacity idlen ≡ refused (number e.reason) e.zone
      no_disc = found_refused fits r (sym ep ∙ k)

      pub format_refused : (old : List ℕ) {q : Result (Unit {0}) Refusal} → IsErr q × IsErrAnd q (λ y. y ≡ e) → Formatting logsector capacity idlen old q old
      format_refused old {q} h =
          let a = handed_on q h in
          formats old (refused (number e.reason) e.zone) (ap (λ (f : Answer DiscRecord). and_then f (drawn_for (length old))) no_disc)
          (a ∙ ap Err (sym (same_refusal e))) (ap format_numbers a) refl

      pub length_refused : {q : Result ℕ Refusal} → IsErr q × IsErrAnd q (λ y. y ≡ e) → TellsLength logsector capacity idlen q
      length_refused {q} h =
          let a = handed_on q h in
          tells (refused (number e.reason) e.zone) (ap (λ (f : Answer DiscRecord). and_then f (λ (x : DiscRecord). answered (map_length (geometry_from x)))) no_disc)
          (a ∙ ap Err (sym (same_refusal e))) (ap length_numbers a)

    module _ {d : BlankDisc} (k : p ≡ Ok d) where
      found : (fits ≡ true) × (d ≡ disc_of r)
      found = found_disc fits r (sym ep ∙ k)

      has_disc : blank_found logsector capacity idlen ≡ answered r
      has_disc = ap (λ (t : Bool). unless t 2 (answered r)) found.0

      pub disc_blank : Blank d.fields d.geometry
      disc_blank =
          let t = both (disc_fits logsector capacity idlen) (both_fit (geometry_from r)) found.0 in
          subst⁻¹ (λ (x : BlankDisc). Blank x.fields x.geometry) found.1
          (record { logsector = logsector; capacity = capacity; idlen = idlen; fields = refl; geometry = refl; fits = t.0; both = t.1 })

      pub disc_accepted : AcceptedGeometry d.geometry
      disc_accepted = (map_of disc_blank).accepted

      pub length_is : {n : ℕ} → n ≡ map_length d.geometry → TellsLength logsector capacity idlen (Ok n)
      length_is en =
          let e = en ∙ ap (λ (x : BlankDisc). map_length x.geometry) found.1 in
          tells (answered (map_length (geometry_from r))) (ap (λ (f : Answer DiscRecord). and_then f (λ (x : DiscRecord). answered (map_length (geometry_from x)))) has_disc)
          (ap Ok e) (ap (λ (x : ℕ). (0, 0, x)) e)

      module _ (old : List ℕ) {n : ℕ} (en : n ≡ map_length d.geometry) where
        right : n ≡ map_length (geometry_from r)
        right = en ∙ ap (λ (x : BlankDisc). map_length x.geometry) found.1

        by_length : format_found logsector capacity idlen (length old) ≡ drawn_for (length old) r
        by_length = ap (λ (f : Answer DiscRecord). and_then f (drawn_for (length old))) has_disc

        pub wrong_length : (length old ≡ n → ⊥) → {e : Refusal} → e ≡ refusal 1 0 → Formatting logsector capacity idlen old (Err e) old
        wrong_length ne ee =
            formats old (refused 1 0) (by_length ∙ rw (ne_eqb (length old) (map_length (geometry_from r)) (λ h. ne (h ∙ sym right)))) (ap Err ee)
            (ap (λ (x : Refusal). (number x.reason, x.zone)) ee) refl

        pub formatted : length old ≡ n → {after : List ℕ} → after ≡ drawn_map d.fields → Formatting logsector capacity idlen old (Ok tt) after
        formatted el ea =
            formats old (answered (drawn_map r)) (by_length ∙ rw (eq-eqb (length old) (map_length (geometry_from r)) (el ∙ right))) refl refl
            (ea ∙ ap (λ (x : BlankDisc). drawn_map x.fields) found.1)
