-- Which copy is handed back, by the rules of a map: the check's two answers are taken case by case.
use mathlib.Core.Path.{◌≡◌, refl, sym, ap, ap₂, ◌∙◌, subst}
use mathlib.Core.List.{List, []}
use Prim.Native.Nat.{ℕ}
use Rattle.model.specs.Answer.{Answer, refused, answered}
use Rattle.model.specs.Chain.{Entry}
use Rattle.model.specs.Check.{map_read}
use Rattle.model.specs.Refusals.{Exactly}
use Rattle.model.specs.Rules.{MapRules}
use Rattle.model.specs.Table.{Judged}
use Rattle.model.proofs.LinesJudged.{not_answered}
use Rattle.model.proofs.MapJudged.{answer_is_judged, judged_is_answer, accepted_keeps_rules, rules_accepted}
use Rattle.copies.specs.declared.Which.{Which}
use Rattle.copies.specs.declared.Which.TheVariants.{First, Second}
use Rattle.copies.specs.Copies.{or_else, copy_found, part_of, handed_back}
use Rattle.copies.specs.Laws.{ChoiceSays, the_first, the_second, neither}

abbrev Read : Type 0
Read = Answer (List (List Entry))

-- a map is refused exactly where it breaks the rules
refused_breaks : (m : List ℕ) (n z : ℕ) → map_read m ≡ refused n z → MapRules m → ⊥
refused_breaks m n z e w = not_answered (sym e ∙ (rules_accepted m w).1)

breaks_refused : (m : List ℕ) → (MapRules m → ⊥) → (n z : ℕ) × (map_read m ≡ refused n z)
breaks_refused m b = go (map_read m) refl
  where
    go : (r : Read) → map_read m ≡ r → (n z : ℕ) × (map_read m ≡ refused n z)
    go (refused n z) e = (n, z, e)
    go (answered ess) e = absurd (b (accepted_keeps_rules m ess e))

module _ (a b : List ℕ) where
  says : (r s : Read) → map_read a ≡ r → map_read b ≡ s → ChoiceSays a b (or_else r s)
  says (answered ess) s e f = the_first (accepted_keeps_rules a ess e)
  says (refused n z) (answered ess) e f = the_second (refused_breaks a n z e) (accepted_keeps_rules b ess f)
  says (refused n z) (refused k y) e f = neither n z (refused_breaks b k y f) (subst (Judged a) e (answer_is_judged a))

  only : (s : Answer Which) → ChoiceSays a b s → copy_found a b ≡ s
  only _ (the_first w) = ap (λ (r : Read). or_else r (map_read b)) (rules_accepted a w).1
  only _ (the_second n w) = ap₂ or_else (breaks_refused a n).2 (rules_accepted b w).1
  only _ (neither n z k j) = ap₂ or_else (judged_is_answer a (refused n z) j) (breaks_refused b k).2

  pub choice_by_rules : Exactly (ChoiceSays a b) (copy_found a b)
  choice_by_rules = record { told = says (map_read a) (map_read b) refl refl; only = only }

  pub part_accepted : (c : Which) → copy_found a b ≡ answered c → MapRules (handed_back a b)
  part_accepted c h = go (copy_found a b) choice_by_rules.told h
    where
      go : (r : Answer Which) → ChoiceSays a b r → r ≡ answered c → MapRules (part_of a b r)
      go _ (the_first w) e = w
      go _ (the_second n w) e = w
      go _ (neither n z k j) e = absurd (not_answered e)

  pub part_empty : (n z : ℕ) → copy_found a b ≡ refused n z → handed_back a b ≡ []
  part_empty n z e = ap (part_of a b) e

-- an accepted copy that is left alone, as the first or as the second
pub first_left_alone : (m other : List ℕ) → MapRules m → handed_back m other ≡ m
first_left_alone m other w = ap (part_of m other) (only m other (answered First) (the_first w))

module _ (m other : List ℕ) (w : MapRules m) where
  pub second_handed_back : (MapRules other → ⊥) → handed_back other m ≡ m
  second_handed_back n = ap (part_of other m) (only other m (answered Second) (the_second n w))

  pub second_accepted : MapRules (handed_back other m)
  second_accepted = go (map_read other) refl
    where
      go : (r : Read) → map_read other ≡ r → MapRules (handed_back other m)
      go (answered ess) e = part_accepted other m First (ap (λ (x : Read). or_else x (map_read m)) e)
      go (refused n z) e = part_accepted other m Second (ap₂ or_else e (rules_accepted m w).1)
