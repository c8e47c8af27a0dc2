-- One copy written over the other: by the table's one line, and what is there afterwards.
use mathlib.Core.Path.{◌≡◌, refl, sym, ◌∙◌, subst⁻¹}
use mathlib.Core.Bool.{true}
use mathlib.Core.List.{List, []}
use Prim.Native.Nat.{ℕ}
use lib.Dec.{eqb}
use lib.ListN.{length}
use borrow.Author.Tests.{eqb-true, eqb-false}
use Rattle.model.specs.Answer.{answered, unless}
use Rattle.model.specs.Chain.{Entry}
use Rattle.model.specs.Refusals.{ByTable, Exactly}
use Rattle.model.specs.Rules.{MapRules}
use Rattle.model.proofs.LinesJudged.{line_one, unless_line, by_table, table_answered}
use Rattle.copies.specs.Copies.{handed_back, same_bytes, copy_judged}
use Rattle.copies.specs.Laws.{copy_lines}
use Rattle.copies.proofs.SameBytes.{equal_exactly}
use Rattle.copies.proofs.Choice.{first_left_alone}

pub copy_by_table : (source target : List ℕ) → Exactly (ByTable source (copy_lines source target) source) (copy_judged source target)
copy_by_table source target =
    let Differ : Type 0 = length target ≡ length source → ⊥ in
    by_table source (copy_lines source target) source (line_one 1 Differ, tt)
    (λ (ess : List (List Entry)). unless (eqb (length target) (length source)) 1 (answered source))
    (λ ess e. unless_line (eqb (length target) (length source)) 1 Differ [] source (answered source)
    (eqb-false (length target) (length source)) (λ t n. n (eqb-true (length target) (length source) t)) (λ t. refl))

pub after_copy : (source target after : List ℕ) → copy_judged source target ≡ answered after
    → MapRules after × (same_bytes source after ≡ true) × (handed_back source after ≡ source) × (handed_back after source ≡ source)
after_copy source target after e =
    let v = table_answered (copy_by_table source target) e in
    let w : MapRules after = subst⁻¹ MapRules v.value v.rules in
    (w, (equal_exactly source after).1 (sym v.value), first_left_alone source after v.rules, first_left_alone after source w ∙ v.value)
