-- The answers of the two sweeps, case by case: the check's refusal, 8, 10, 16, and the count. A refusal leaves the stretch as it
-- was. The pairs of an accepted map lie apart, so the counts one by one are the count of the class.
use mathlib.Core.Path.{◌≡◌, refl, sym, ap, ◌∙◌, subst⁻¹}
use mathlib.Core.Bool.{Bool, true, false}
use mathlib.Core.List.{List}
use Prim.Native.Nat.{ℕ, ◌+◌, ◌*◌, ◌≤◌}
use native.Mathlib.Omega.{arith}
use lib.Dec.{ltb, leb}
use lib.ListN.{length}
use borrow.Author.Tests.{leb-true}
use Rattle.geometry.specs.declared.Geometry.{Geometry}
use Rattle.geometry.specs.declared.Refusal.{Refusal}
use Rattle.geometry.specs.Places.{id_from, disc_bits}
use Rattle.std.specs.Prelude.{Result, Ok, Err}
use Rattle.std.specs.Result.{IsErr, IsErrAnd}
use Rattle.geometry.specs.Answers.{number, refusal}
use Rattle.geometry.proofs.Reasons.{same_refusal}
use Rattle.geometry.proofs.Results.{handed_on}
use Rattle.model.proofs.Numbered.{told_by}
use Rattle.model.specs.Chain.{Pair, Entry}
use Rattle.model.specs.Pieces.{free_spans}
use Rattle.model.specs.Answer.{Answer, refused, answered, and_then}
use Rattle.model.specs.Check.{map_read}
use Rattle.map.specs.Accepted.{AcceptedMap}
use Rattle.map.specs.Checked.{checked}
use Rattle.walk.specs.HeldBy.{held_from}
use Rattle.listing.proofs.FreeHeld.{free_spans_law}
use Rattle.listing.proofs.ObjectOrder.{object_held}
use Rattle.listing.proofs.Answers.{map_refused, map_read_law, absent, there}
use Rattle.listing.specs.Listed.{present}
use Rattle.listing.proofs.Ascend.{map_apart}
use Rattle.sweep.specs.declared.Stretch.{Stretch}
use Rattle.sweep.specs.Sweep.{Class, on_disc, held_sweep, object_class, object_sweep, free_sweep, sweep_numbers, Sweeps}
use Rattle.sweep.specs.Stretch.{StretchSwept, StretchSweeps}
use Rattle.sweep.proofs.ApartCounts.{counts_apart}
use Rattle.bits.proofs.Tests.{both}

-- a class that was found is swept as that class
pub as_found : {f k : Answer Class} {first fill : ℕ} {old : List ℕ} {r : Result ℕ Refusal} {new : List ℕ} → f ≡ k → Sweeps k first fill old r new → Sweeps f first fill old r new
as_found e s = rw e s

refusal_sweeps : {f : Answer Class} (first fill : ℕ) (old : List ℕ) {r : Refusal} → f ≡ refused (number r.reason) r.zone → Sweeps f first fill old (Err r) old
refusal_sweeps first fill old {r} e = as_found e (record { answer = ap Err (sym (same_refusal r)); numbers = refl; image = refl })

-- the check's own refusal, which a `?` hands on
pub check_refuses : (m old : List ℕ) (first fill : ℕ) (f : List (List Entry) → Answer Class) {c : Result Geometry Refusal} {r : Refusal} → c ≡ checked m → c ≡ Err r
    → {q : Result ℕ Refusal} → IsErr q × IsErrAnd q (λ y. y ≡ r) → Sweeps (and_then (map_read m) f) first fill old q old
check_refuses m old first fill f e k {q} h =
    subst⁻¹ (λ (x : Result ℕ Refusal). Sweeps (and_then (map_read m) f) first fill old x old) (handed_on q h) (refusal_sweeps first fill old (map_refused m f e k))

-- a stretch as it was found, and one that is refused
stretch_as_found : {f k : ℕ → ℕ → Answer Class} {s t : Stretch} {r : Result ℕ Refusal} → f s.first (length s.image.now) ≡ k s.first (length s.image.now) → StretchSweeps k s r t → StretchSweeps f s r t
stretch_as_found e w = record { sweeps = as_found e w.sweeps; image = w.image }

stretch_refused : {f : ℕ → ℕ → Answer Class} (s : Stretch) {r : Refusal} → f s.first (length s.image.now) ≡ refused (number r.reason) r.zone → StretchSweeps f s (Err r) s
stretch_refused s e = record { sweeps = refusal_sweeps s.first s.fill s.image.now e; image = refl }

-- a holder's pairs, and a stretch that lies on the disc or ends past it
module _ {m : List ℕ} {g : Geometry} (a : AcceptedMap m g) (holder : ℕ) {s : Stretch} {b : Bool} (eb : b ≡ leb (s.first + length s.image.now) g.size) where
  pub past_disc : b ≡ false → {r : Refusal} → r ≡ refusal 16 0 → StretchSweeps (held_sweep g holder m) s (Err r) s
  past_disc t er = stretch_refused s (told_by 16 refl (rw (sym eb ∙ t)) er)

  pub held_swept : b ≡ true → {count : ℕ} {t : Stretch} → StretchSwept g.unit (held_from g holder m 0 g.zones) s count t → StretchSweeps (held_sweep g holder m) s (Ok count) t
  held_swept t p =
      let held : List Pair = held_from g holder m 0 g.zones in
      let k : held_sweep g holder m s.first (length s.image.now) ≡ answered (record { unit = g.unit; pairs = held }) = rw (sym eb ∙ t) in
      let e = p.count ∙ counts_apart g.unit 0 (disc_bits g) held (map_apart a holder) s.first (length s.image.now) in
      record { sweeps = as_found k (record { answer = ap Ok e; numbers = ap (λ (n : ℕ). sweep_numbers (Ok n)) e; image = p.bytes }); image = p.image }

-- free space
module _ {m : List ℕ} {g : Geometry} (a : AcceptedMap m g) (first n : ℕ) where
  pub free_swept_law : free_sweep m first n ≡ held_sweep g 0 m first n
  free_swept_law = map_read_law a (λ (x : Geometry) (ess : List (List Entry)). on_disc x first n (free_spans x 0 ess)) ∙ ap (on_disc g first n) (free_spans_law a)

-- an object
module _ {m : List ℕ} {g : Geometry} (a : AcceptedMap m g) (id : ℕ) (s : Stretch) where
  abbrev n : ℕ
  n = length s.image.now

  object_read_law : object_sweep m id s.first n ≡ object_class g id s.first n a.zones
  object_read_law = map_read_law a (λ (x : Geometry). object_class x id s.first n)

  pub no_id : id_from 3 g id ≡ false → {r : Refusal} → r ≡ refusal 8 0 → StretchSweeps (object_sweep m id) s (Err r) s
  no_id t er = stretch_refused s (told_by 8 refl (object_read_law ∙ rw t) er)

  module _ (named : id_from 3 g id ≡ true) {count : ℕ} (counted : count ≡ length (held_from g id m 0 g.zones)) where
    object_found : object_sweep m id s.first n ≡ and_then (present (held_from g id m 0 g.zones)) (on_disc g s.first n)
    object_found =
        let three : 3 ≤ id = leb-true 3 id (both (leb 3 id) (ltb id (g.ids * g.zones)) named).0 in
        object_read_law ∙ rw named (ap (λ (qs : List Pair). and_then (present qs) (on_disc g s.first n)) (object_held a id (omega arith)))

    pub no_object : count ≡ 0 → {r : Refusal} → r ≡ refusal 10 0 → StretchSweeps (object_sweep m id) s (Err r) s
    no_object h er = stretch_refused s (told_by 10 refl (object_found ∙ absent (on_disc g s.first n) (held_from g id m 0 g.zones) (sym counted ∙ h)) er)

    pub object_swept : (count ≡ 0 → ⊥) → {r : Result ℕ Refusal} {t : Stretch} → StretchSweeps (held_sweep g id m) s r t → StretchSweeps (object_sweep m id) s r t
    object_swept some = stretch_as_found (object_found ∙ there (on_disc g s.first n) (held_from g id m 0 g.zones) (λ k. some (counted ∙ k)))
