-- What a claim answers: each refusal is the definition's, and a list that was given is its edit, which the place of the same list makes.
use mathlib.Core.Path.{◌≡◌, refl, sym, ap, ◌∙◌, subst, subst⁻¹}
use mathlib.Core.Bool.{false}
use mathlib.Core.List.{List, [], ◌++◌}
use mathlib.Core.Option.{none, some}
use mathlib.Core.Logic.{◌⊎◌, inl, inr}
use Prim.Native.Nat.{ℕ, ◌-◌, ◌*◌, ◌<◌, ◌≤◌}
use native.Mathlib.Omega.{arith}
use lib.Dec.{ltb, leb}
use lib.ListN.{length, take, drop, length-append}
use lib.Seq.{take_at}
use borrow.Author.Tests.{lt-ltb, le-ltb}
use Rattle.bits.proofs.Tests.{by_test, and_true}
use Rattle.geometry.specs.declared.Geometry.{Geometry}
use Rattle.geometry.specs.declared.Refusal.{Refusal}
use Rattle.geometry.specs.Answers.{refusal}
use Rattle.model.specs.Answer.{Answer, refused, answered}
use Rattle.model.specs.Chain.{Pair, numbers_of, touching}
use Rattle.model.specs.Shown.{zones_of, pieces_on}
use Rattle.model.proofs.Lists.{length_numbers}
use Rattle.map.specs.Checked.{checked}
use Rattle.map.specs.Accepted.{AcceptedMap}
use Rattle.walk.specs.Touching.{touching_of}
use Rattle.listing.specs.Listed.{list_after}
use Rattle.edits.specs.Edits.{gives, Edit}
use Rattle.edits.specs.Judge.{Call, claim, place, Choice, chosen, claim_fits, by_choice, judge}
use Rattle.edits.specs.Steps.{outcome, pairs_told, bytes_after, step}
use Rattle.edits.specs.EditableMap.{EditableMap}
use Rattle.edits.proofs.EditableMap.{map_pieces}
use Rattle.std.specs.Result.{IsErr, IsErrAnd}
use Rattle.geometry.proofs.Results.{handed_on}
use Rattle.geometry.proofs.Reasons.{same_refusal}
use Rattle.model.proofs.Numbered.{Numbered}
use Rattle.edits.proofs.OutcomesNumbered.{outcome_numbered}
use Rattle.edits.proofs.Outcomes.{check_refused, touching_refused, judged_told}
use Rattle.edits.proofs.Returned.{pairs_numbers}
use Rattle.edits.proofs.PairsGiven.{given_placed}
use Rattle.std.specs.Prelude.{Result, Ok, Err}
use Rattle.claim.specs.declared.Given.{Given}
use Rattle.claim.specs.Claimed.{given_pairs, claim_answer, claim_numbers, claim_told, Claims}
use Rattle.claim.specs.Chosen.{Chooses}
use Rattle.claim.specs.Given.{ListFits}

numbers_told : (o : Answer Edit) → Numbered o → claim_numbers (claim_answer o) ≡ claim_told o
numbers_told (refused n z) k = ap (λ (i : ℕ). (i, z, 0, 0)) k.told
numbers_told (answered e) k = refl

claims : {m : List ℕ} (size parent : ℕ) {old : List ℕ} {o : Answer Edit} → outcome m (claim size parent (length old)) ≡ o
    → {r : Result Given Refusal} {after new : List ℕ} → Chooses o old r new → after ≡ bytes_after m o → Claims m size parent old r after new
claims {m} size parent {old} {o} e c b = record {
  answer = c.answer ∙ ap claim_answer (sym e);
  numbers = ap claim_numbers c.answer ∙ numbers_told o (subst Numbered e (outcome_numbered m (claim size parent (length old)))) ∙ ap claim_told (sym e);
  list = c.list ∙ ap (λ (x : Answer Edit). list_after old (pairs_told x)) (sym e);
  bytes = b ∙ ap (bytes_after m) (sym e);
}

refuses : {m : List ℕ} (size parent : ℕ) {old : List ℕ} {n z : ℕ} → outcome m (claim size parent (length old)) ≡ refused n z → Claims m size parent old (Err (refusal n z)) m old
refuses size parent e = claims size parent e (record { answer = refl; list = refl }) refl

-- a refusal that a `?` hands on
pub handed : {m : List ℕ} (size parent : ℕ) {old : List ℕ} {r : Refusal} {q : Result Given Refusal} → IsErr q × IsErrAnd q (λ y. y ≡ r) → {after new : List ℕ}
    → Claims m size parent old (Err r) after new → Claims m size parent old q after new
handed {m} size parent {old} {r} {q} h {after} {new} c = subst⁻¹ (λ (x : Result Given Refusal). Claims m size parent old x after new) (handed_on q h) c

pub check_refuses : (m : List ℕ) (size parent : ℕ) (old : List ℕ) {r : Refusal} → checked m ≡ Err r → {q : Result Given Refusal} → IsErr q × IsErrAnd q (λ y. y ≡ r)
    → Claims m size parent old q m old
check_refuses m size parent old {r} e h =
    handed size parent h
    (subst (λ (x : Refusal). Claims m size parent old (Err x) m old) (same_refusal r) (refuses size parent (check_refused m (claim size parent (length old)) r e)))

-- 9
pub touching_refuses : {m : List ℕ} {g : Geometry} → AcceptedMap m g → (size parent : ℕ) (old : List ℕ) {r : Refusal} → (touching 0 (zones_of m) ≡ some r.zone) × (r ≡ refusal 9 r.zone)
    → {q : Result Given Refusal} → IsErr q × IsErrAnd q (λ y. y ≡ r) → Claims m size parent old q m old
touching_refuses {m} a size parent old {r} t h =
    handed size parent h
    (subst⁻¹ (λ (x : Refusal). Claims m size parent old (Err x) m old) t.1 (refuses size parent (touching_refused a (claim size parent (length old)) refl r.zone (ap touching_of t.0))))

-- 12
pub unfit_refused : {m : List ℕ} {g : Geometry} → EditableMap m g → (size parent : ℕ) (old : List ℕ) {r : Refusal} → r ≡ refusal 12 0 → (0 < size × g.zones ≤ parent) ⊎ (size ≤ 0)
    → Claims m size parent old (Err r) m old
unfit_refused {g = g} ed size parent old er k = rw er (refuses size parent (judged_told ed (claim size parent (length old)) (refused 12 0) (rw (unfit k))))
  where
    unfit : (0 < size × g.zones ≤ parent) ⊎ (size ≤ 0) → claim_fits g size parent ≡ false
    unfit (inl h) = rw (lt-ltb 0 size h.0, le-ltb parent g.zones h.1)
    unfit (inr h) = rw (le-ltb 0 size h)

-- two answers that are the same
err_ok : {r : Refusal} {x : Given} → Err r ≡ Ok x → ⊥
err_ok e = cc

same_given : {id n i k : ℕ} → ◌≡◌ {A = Result Given Refusal} (Ok (given_pairs id n)) (Ok (given_pairs i k)) → (id ≡ i) × (n ≡ k)
same_given {id} {n} {i} {k} e = let g : given_pairs id n ≡ given_pairs i k = cc in (ap (λ (x : Given). x.id) g, ap (λ (x : Given). x.pairs) g)

-- what is chosen on a map that edits work on, for a claim of some bytes near a zone of the disc
pub record ClaimChosen (m : List ℕ) (g : Geometry) (size parent : ℕ) (old : List ℕ) (r : Result Given Refusal) (new : List ℕ) : Type 0 where
  pub editable : EditableMap m g
  pub some : 0 < size
  pub inside : parent < g.zones
  pub chooses : Chooses (by_choice (length old) (chosen g (pieces_on g m) size parent)) old r new

-- that is the claim's answer
module _ {m : List ℕ} {g : Geometry} {size parent : ℕ} {old : List ℕ} {r : Result Given Refusal} {new : List ℕ} (c : ClaimChosen m g size parent old r new) where
  abbrev call : Call
  call = claim size parent (length old)

  abbrev verdict : Answer Edit
  verdict = by_choice (length old) (chosen g (pieces_on g m) size parent)

  judged : judge g none (pieces_on g m) (claim size parent (length old)) ≡ verdict
  judged = rw (and_true (ltb 0 size) (ltb parent g.zones) (lt-ltb 0 size c.some) (lt-ltb parent g.zones c.inside))

  chosen_claims : {x : Result Given Refusal} → r ≡ x → (after : List ℕ) → after ≡ bytes_after m verdict → Claims m size parent old x after new
  chosen_claims e after b = subst (λ (x : Result Given Refusal). Claims m size parent old x after new) e (claims size parent (judged_told c.editable call verdict judged) c.chooses b)

  -- a refusal that a `?` hands on
  pub refusal_claims : {n : Refusal} → r ≡ Err n → {q : Result Given Refusal} → IsErr q × IsErrAnd q (λ y. y ≡ n) → Claims m size parent old q m new
  refusal_claims {n} e {q} h = handed size parent h (chosen_claims e m (go verdict (sym c.chooses.answer ∙ e)))
    where
      go : (o : Answer Edit) → claim_answer o ≡ Err n → m ≡ bytes_after m o
      go (refused k z) h = refl
      go (answered x) h = absurd (err_ok (sym h))

  module _ {id n : ℕ} (e : r ≡ Ok (given_pairs id n)) where
    given : (qs : List Pair) × (verdict ≡ answered (gives id qs)) × (length qs ≡ n)
    given = go (chosen g (pieces_on g m) size parent) (sym c.chooses.answer ∙ e)
      where
        go : (x : Answer Choice) → claim_answer (by_choice (length old) x) ≡ Ok (given_pairs id n) → (qs : List Pair) × (by_choice (length old) x ≡ answered (gives id qs)) × (length qs ≡ n)
        go (refused k z) h = absurd (err_ok h)
        go (answered x) h =
            by_test (leb (2 * length x.pairs) (length old))
            (λ t. let k = same_given (simp t at h) in (x.pairs, simp t (ap (λ (y : ℕ). answered (gives y x.pairs)) k.0), k.1))
            (λ t. absurd (err_ok (simp t at h)))

    -- the pairs are the first of the list
    new_is : new ≡ numbers_of given.0 ++ drop (2 * length given.0) old
    new_is = c.chooses.list ∙ ap (λ (o : Answer Edit). list_after old (pairs_told o)) given.1

    pub pairs_in_law : 2 * n ≤ length new
    pairs_in_law = let qs = given.0 in omega (arith, given.2, length_numbers qs, ap length new_is ∙ length-append (numbers_of qs) (drop (2 * length qs) old))

    first_told : take (2 * n - 0) new ≡ numbers_of given.0
    first_told =
        let qs = given.0 in
        ap (take (2 * n - 0)) new_is ∙ take_at (numbers_of qs) (drop (2 * length qs) old) (2 * n - 0) (omega (arith, length_numbers qs, given.2))

    as_place : judge g none (pieces_on g m) (place id (numbers_of given.0)) ≡ answered (gives id given.0)
    as_place = given_placed g c.editable.accepted.readable.numbers (record { pieces = pieces_on g m; cross = [] }) (map_pieces c.editable) call id given.0 (judged ∙ given.1)

    pub list_fits : ListFits m g id (take (2 * n - 0) new)
    list_fits =
        subst⁻¹ (ListFits m g id) first_told
        (record { editable = c.editable; fits = as_place ∙ ap (λ (qs : List Pair). answered (gives id qs)) (sym (pairs_numbers given.0)) })

    pub list_claims : (after : List ℕ) → after ≡ step m (place id (take (2 * n - 0) new)) → Claims m size parent old (Ok (given_pairs id n)) after new
    list_claims after b =
        chosen_claims e after
        (b ∙ ap (λ (l : List ℕ). step m (place id l)) first_told
        ∙ ap (bytes_after m) (judged_told c.editable (place id (numbers_of given.0)) (answered (gives id given.0)) as_place ∙ sym given.1))
