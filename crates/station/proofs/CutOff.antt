-- A station that is cut off: while the second copy is written the first is left alone, and while the first is written the second is.
use mathlib.Core.Path.{◌≡◌, sym, ap, ◌∙◌, subst⁻¹}
use mathlib.Core.List.{List}
use mathlib.Core.Logic.{inl, inr}
use Prim.Native.Nat.{ℕ, ◌-◌, ◌*◌, ◌≤◌}
use native.Mathlib.Omega.{arith}
use lib.Dec.{leb}
use lib.ListN.{length}
use borrow.Author.Tests.{leb-true, leb-false}
use Rattle.bits.proofs.Tests.{by_test}
use Rattle.geometry.specs.declared.Geometry.{Geometry}
use Rattle.model.specs.Rules.{MapRules}
use Rattle.model.specs.Shown.{zones_of}
use Rattle.model.proofs.MapJudged.{accepted_keeps_rules}
use Rattle.edits.specs.Editable.{Editable}
use Rattle.edits.specs.Judge.{Call}
use Rattle.edits.specs.Steps.{steps}
use Rattle.runs.proofs.EveryRun.{run_claims}
use Rattle.copies.specs.Copies.{handed_back}
use Rattle.station.specs.Station.{written, Copies, cut_off_copies, yield, Equal, Yields}
use Rattle.copies.proofs.Whole.{written_all}
use Rattle.copies.proofs.SameBytes.{equal_exactly}
use Rattle.copies.proofs.Choice.{first_left_alone, second_handed_back, second_accepted}

module _ (old new other : List ℕ) (wo : MapRules old) (wn : MapRules new) (same : length new ≡ length old) (long : length other ≡ length old) (n : ℕ) where
  abbrev pair : Copies
  pair = cut_off_copies n new (record { first = old; second = other })

  not_begun : n ≤ length new → pair.first ≡ old
  not_begun h = let e : n - length new ≡ 0 = omega arith in ap (λ (k : ℕ). written k new old) e

  second_whole : length new ≤ n → pair.second ≡ new
  second_whole h = written_all n new other h (omega arith)

  -- what the pair yields then
  until_whole : n ≤ length new → yield pair ≡ old
  until_whole h = ap (λ (x : List ℕ). handed_back x pair.second) (not_begun h) ∙ first_left_alone old pair.second wo

  by_second : length new ≤ n → yield pair ≡ handed_back pair.first new
  by_second h = ap (handed_back pair.first) (second_whole h)

  equal_new : length new ≤ n → pair.first ≡ new → yield pair ≡ new
  equal_new h e = by_second h ∙ ap (λ (x : List ℕ). handed_back x new) e ∙ first_left_alone new new wn

  at_end : 2 * length new ≤ n → (yield pair ≡ new) × Equal pair
  at_end h =
      let e : pair.first ≡ new = written_all (n - length new) new old (omega arith) (omega arith) in
      let k : length new ≤ n = omega arith in
      (equal_new k e, (equal_exactly pair.first pair.second).1 (e ∙ sym (second_whole k)))

  -- one of the two holds of n
  by_turn : {G : Type 0} → (n ≤ length new → G) → (length new ≤ n → G) → G
  by_turn f s = by_test (leb n (length new)) (λ t. f (leb-true n (length new) t)) (λ t. s (omega (arith, leb-false n (length new) t)))

  -- a copy that is refused is the one under way
  first_refused : (MapRules pair.first → ⊥) → yield pair ≡ new
  first_refused b =
      by_turn (λ h. absurd (b (subst⁻¹ MapRules (not_begun h) wo))) (λ h. by_second h ∙ second_handed_back new pair.first wn b)

  second_refused : (MapRules pair.second → ⊥) → yield pair ≡ old
  second_refused b = by_turn until_whole (λ h. absurd (b (subst⁻¹ MapRules (second_whole h) wn)))

  pub yields : Yields old new n pair
  yields = record {
    until_whole = until_whole;
    at_end = at_end;
    accepted = by_turn (λ h. subst⁻¹ MapRules (until_whole h) wo) (λ h. subst⁻¹ MapRules (by_second h) (second_accepted new pair.first wn));
    first_refused = first_refused;
    second_refused = second_refused;
    told_equal = λ t. by_turn (λ h. inl (until_whole h)) (λ h. inr (equal_new h ((equal_exactly pair.first pair.second).0 t ∙ second_whole h)));
  }

-- every run of edits in memory leaves an accepted map of the same length
pub edits_yield : (m other : List ℕ) → Editable m → length other ≡ length m → (cs : List Call) (n : ℕ)
    → Yields m (steps m cs) n (cut_off_copies n (steps m cs) (record { first = m; second = other }))
edits_yield m other ed long cs n =
    let r = run_claims m ed cs in
    let wo = accepted_keeps_rules m (zones_of m) ed.accepted in
    let wn = accepted_keeps_rules (steps m cs) (zones_of (steps m cs)) r.again.accepted in
    let same : length (steps m cs) ≡ length m = wn.whole ∙ ap (λ (g : Geometry). g.zones * g.sector) r.same_disc ∙ sym wo.whole in
    yields m (steps m cs) other wo wn same long n
