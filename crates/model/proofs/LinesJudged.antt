-- A call's lines give one answer, and the call gives it: each line tells one zone, so the first line given fixes the answer; and a chain
-- of tests answers by the lines that the tests stand for.
use mathlib.Core.Path.{◌≡◌, refl, sym, ap, ◌∙◌}
use mathlib.Core.Bool.{Bool, true, false}
use mathlib.Core.List.{List, [], ◌∷◌}
use mathlib.Core.Logic.{inl, inr}
use Prim.Native.Nat.{ℕ}
use native.Mathlib.Omega.{arith}
use Rattle.model.specs.Answer.{Answer, refused, answered, unless, and_then}
use Rattle.model.specs.Chain.{Entry}
use Rattle.model.specs.Check.{map_read}
use Rattle.model.specs.Rules.{MapRules}
use Rattle.model.specs.Table.{Judged}
use Rattle.model.specs.Refusals.{Refusing, line, LinesSay, TableSays, map_refused, by_lines, ByLines, ByTable, Exactly}
use Rattle.model.proofs.MapJudged.{answer_is_judged, judged_is_answer, accepted_keeps_rules, rules_accepted}

-- each line tells one zone
abbrev pub OneZone : Refusing → Type 0
OneZone l = (y z : ℕ) → l.given y → l.given z → y ≡ z

abbrev pub EachOneZone : List Refusing → Type 0
EachOneZone [] = Unit {0}
EachOneZone (l ∷ ls) = OneZone l × EachOneZone ls

pub line_one : (n : ℕ) (Given : Type 0) → OneZone (line n Given)
line_one n Given y z p q = p.0 ∙ sym q.0

lines_same : {A : Type 0} (ls : List Refusing) (O : Answer A → Type 0) → EachOneZone ls → ((r s : Answer A) → O r → O s → r ≡ s)
    → (r s : Answer A) → LinesSay ls O r → LinesSay ls O s → r ≡ s
lines_same [] O u o r s p q = o r s p q
lines_same (l ∷ ls) O u o r s (inl p) (inl q) = p.2 ∙ ap (refused l.number) (u.0 p.0 q.0 p.1 q.1) ∙ sym q.2
lines_same (l ∷ ls) O u o r s (inl p) (inr q) = absurd (q.0 p.0 p.1)
lines_same (l ∷ ls) O u o r s (inr p) (inl q) = absurd (p.0 q.0 q.1)
lines_same (l ∷ ls) O u o r s (inr p) (inr q) = lines_same ls O u.1 o r s p.1 q.1

-- one test and its line; where the value is named
pub unless_says : {A : Type 0} (b : Bool) (n : ℕ) (Given : Type 0) (ls : List Refusing) (O : Answer A → Type 0) (r : Answer A) → (b ≡ false → Given)
    → (b ≡ true → Given → ⊥) → (b ≡ true → LinesSay ls O r) → LinesSay (line n Given ∷ ls) O (unless b n r)
unless_says true n Given ls O r f t h = inr ((λ z p. t refl p.1), h refl)
unless_says false n Given ls O r f t h = inl (0, (refl, f refl), refl)

pub unless_line : {A : Type 0} (b : Bool) (n : ℕ) (Given : Type 0) (ls : List Refusing) (a : A) (r : Answer A) → (b ≡ false → Given) → (b ≡ true → Given → ⊥)
    → (b ≡ true → ByLines ls a r) → ByLines (line n Given ∷ ls) a (unless b n r)
unless_line b n Given ls a = unless_says b n Given ls (λ r. r ≡ answered a)

-- a call that goes on from the check by its lines; where the value is named
module _ (m : List ℕ) {A : Type 0} (ls : List Refusing) (O : Answer A → Type 0) (one : EachOneZone ls) (only_one : (r s : Answer A) → O r → O s → r ≡ s)
    (k : List (List Entry) → Answer A) (h : (ess : List (List Entry)) → map_read m ≡ answered ess → LinesSay ls O (k ess)) where
  told : (r : Answer (List (List Entry))) → map_read m ≡ r → Judged m r → TableSays m ls O (and_then r k)
  told (refused n z) e j = map_refused n z j
  told (answered ess) e j = by_lines (k ess) (accepted_keeps_rules m ess e) (h ess e)

  only : (s : Answer A) → TableSays m ls O s → and_then (map_read m) k ≡ s
  only s (map_refused n z j) = ap (λ (r : Answer (List (List Entry))). and_then r k) (judged_is_answer m (refused n z) j)
  only s (by_lines r w b) =
      let q = rules_accepted m w in
      ap (λ (r : Answer (List (List Entry))). and_then r k) q.1 ∙ lines_same ls O one only_one (k q.0) s (h q.0 q.1) b

  pub table_says : Exactly (TableSays m ls O) (and_then (map_read m) k)
  table_says = record { told = told (map_read m) refl (answer_is_judged m); only = only }

pub by_table : (m : List ℕ) {A : Type 0} (ls : List Refusing) (a : A) → EachOneZone ls → (k : List (List Entry) → Answer A)
    → ((ess : List (List Entry)) → map_read m ≡ answered ess → ByLines ls a (k ess)) → Exactly (ByTable m ls a) (and_then (map_read m) k)
by_table m ls a one k h = table_says m ls (λ r. r ≡ answered a) one (λ r s p q. p ∙ sym q) k h

-- a call that answers: the map was read, no line is given, and the answer is the value
abbrev pub NoneGiven : List Refusing → Type 0
NoneGiven [] = Unit {0}
NoneGiven (l ∷ ls) = ((z : ℕ) → l.given z → ⊥) × NoneGiven ls

pub not_answered : {A : Type 0} {n z : ℕ} {a : A} → refused n z ≡ answered a → ⊥
not_answered e = let x : ◌≡◌ {A = ℕ} 0 1 = cc in omega arith

pub same_answer : {A : Type 0} {a b : A} → answered a ≡ answered b → a ≡ b
same_answer e = cc

lines_answered : {A : Type 0} (ls : List Refusing) (a b : A) (r : Answer A) → r ≡ answered b → ByLines ls a r → (b ≡ a) × NoneGiven ls
lines_answered [] a b r e h = (same_answer (sym e ∙ h), tt)
lines_answered (l ∷ ls) a b r e (inl p) = absurd (not_answered (sym p.2 ∙ e))
lines_answered (l ∷ ls) a b r e (inr p) = let k = lines_answered ls a b r e p.1 in (k.0, (p.0, k.1))

pub record Value (m : List ℕ) {A : Type 0} (ls : List Refusing) (a b : A) : Type 0 where
  pub rules : MapRules m
  pub value : b ≡ a
  pub none_given : NoneGiven ls

pub table_answered : {m : List ℕ} {A : Type 0} {ls : List Refusing} {a b : A} {r : Answer A} → Exactly (ByTable m ls a) r → r ≡ answered b → Value m ls a b
table_answered {m} {A} {ls} {a} {b} {r} x e = go r x.told e
  where
    go : (r : Answer A) → ByTable m ls a r → r ≡ answered b → Value m ls a b
    go _ (map_refused n z j) e = absurd (not_answered e)
    go _ (by_lines r w h) e = let k = lines_answered ls a b r e h in record { rules = w; value = k.0; none_given = k.1 }
