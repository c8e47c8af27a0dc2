-- That a walk stands at a fragment has one proof at most, so an iterator can keep it. Assumes nothing.
use Rattle.std.specs.Prelude.{◌≡◌, ◌⊎◌, ℕ, List}
use Rattle.std.specs.Coded.{Coded, code_by, coded_ℕ, coded_list, coded×, coded⊎, Unit-prop}
use Rattle.std.proofs.Math.Option.{Option, none, some}
use mathlib.Core.Path.{refl}
use mathlib.Core.Logic.{inl, inr}
use denote.Struct.Props as logic
use Rattle.model.specs.Chain.{Holder, free, owned, Entry}
use Rattle.model.specs.Answer.{Answer, refused, answered}
use Rattle.fragment.specs.Reading.{CanRead}

abbrev number_of : Holder → ℕ ⊎ ℕ
number_of free = inl 0
number_of (owned id) = inr id

abbrev holder_of : ℕ ⊎ ℕ → Holder
holder_of (inl n) = free
holder_of (inr id) = owned id

holder_back : (h : Holder) → holder_of (number_of h) ≡ h
holder_back free = refl
holder_back (owned id) = refl

coded_entry : Coded Entry
coded_entry =
    code_by (ℕ × (ℕ × (ℕ ⊎ ℕ))) (coded× coded_ℕ (coded× coded_ℕ (coded⊎ coded_ℕ coded_ℕ)))
    (λ e. (e.at.start, (e.at.len, number_of e.holder)))
    (λ p. record { at = record { start = p.0; len = p.1.0 }; holder = holder_of p.1.1 })
    (λ e i. record { at = e.at; holder = holder_back e.holder i })

abbrev split_answer : Answer (List Entry) → (ℕ × ℕ) ⊎ List Entry
split_answer (refused n z) = inl (n, z)
split_answer (answered es) = inr es

abbrev join_answer : (ℕ × ℕ) ⊎ List Entry → Answer (List Entry)
join_answer (inl p) = refused p.0 p.1
join_answer (inr es) = answered es

answer_back : (a : Answer (List Entry)) → join_answer (split_answer a) ≡ a
answer_back (refused n z) = refl
answer_back (answered es) = refl

pub coded_answer : Coded (Answer (List Entry))
coded_answer = code_by ((ℕ × ℕ) ⊎ List Entry) (coded⊎ (coded× coded_ℕ coded_ℕ) (coded_list coded_entry)) split_answer join_answer answer_back

pub CanRead-prop : (o : Option (List Entry)) → IsProp (CanRead o)
CanRead-prop none = λ x y. absurd x
CanRead-prop (some es) = Unit-prop

pub ruleset props = (CanRead-prop, coded_answer, logic.props)
